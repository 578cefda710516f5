-- A group that is written behind the live blocks is placed in the tree of its series, and takes what waited.
use Rattle.std.proofs.Common.{inl, inr, ◌≡◌, ◌+◌, ◌-◌, ◌/◌, ◌^◌, ◌<◌, ◌≤◌, ℕ, zero, suc, List, [], ◌∷◌, ◌++◌, length, map, get_or, refl, sym, ap, subst, subst₂, arith, length-append}
use Rattle.std.proofs.lemmas.Grind.{common_steps}
use Rattle.std.proofs.lemmas.List.{length-set, get_or-set_same}
use Rattle.std.specs.List.{AllByRecursion}
use Rattle.ak_base.specs.Points.{IsHistoryFrom, last_ts_from}
use Rattle.ak_base.specs.declared.point.Point.{Point}
use Rattle.ak_forest.proofs.Arith.{made_zero}
use Rattle.ak_forest.proofs.Place.{grown_placed}
use Rattle.ak_forest.specs.Numbers.{made, carry}
use Rattle.ak_forest.specs.Tree.{Node, IsClose, IsPart}
use Rattle.ak_image.proofs.Agreeing.{node_same, laid_agree}
use Rattle.ak_image.proofs.Growing.{IsGrownOf}
use Rattle.ak_image.proofs.Lifting.{carry_within, fresh_of, takes_raised, child_raised, waiting_under, waiting_past, waiting_here, all_some, totals_join, some_of, begins_from, orderly_of}
use Rattle.ak_image.proofs.Numbered.{number_at, address_at, address_other, between_one, between_other}
use Rattle.ak_image.proofs.Places.{live_at}
use Rattle.ak_image.proofs.Rescuing.{point_new, point_old, leaves_in, last_same, rescue_same, chain_in}
use Rattle.ak_image.proofs.StepBlocks.{some_points}
use Rattle.ak_image.proofs.StepChains.{chain_more}
use Rattle.ak_image.specs.Blocks.{Seen}
use Rattle.ak_image.specs.Chains.{IsChain}
use Rattle.ak_image.specs.Laid.{IsLaid, IsWritten, spot, last_in, kept_in, series_in, next_leaf, next_known}
use Rattle.ak_image.specs.Nodes.{reference_of, IsInnerOf, Reads}
use Rattle.ak_image.specs.Planted.{IsPlanted, AreNodes, waiting_of}
use Rattle.ak_image.specs.Scans.{IsLeafOf}
use Rattle.ak_image.specs.Trees.{total_of, point_of}
use Rattle.ak_levels.proofs.Leaves.{leaf_end}
use Rattle.ak_levels.proofs.Ordered.{closed_order}
use Rattle.ak_levels.specs.Carries.{carry_of}
use Rattle.ak_levels.specs.Closes.{leaf_ref, taken, closed_lists}
use Rattle.ak_levels.specs.Orders.{all_below, AreInOrder}
use Rattle.ak_levels.specs.Pending.{Lists}
use Rattle.ak_meta.proofs.Closing.{leaves_most}
use Rattle.ak_meta.proofs.Rooms.{filled_lawful}
use Rattle.ak_meta.specs.Contents.{Content, IsMeta, rescue_at}
use Rattle.ak_meta.specs.Leaves.{leaves_at, with_leaf}
use Rattle.ak_meta.specs.declared.meta.SeriesMeta.{SeriesMeta}
use Rattle.ak_summary.specs.Folds.{summary_of, no_summary}
use Rattle.ak_summary.specs.Summaries.{joined}
use Rattle.ak_volumes.specs.Ordinals.{Ordinals, AreOrdinals, IsLive, address, newest_fill, filled}
use Rattle.ak_world.specs.Leaves.{Leaf}
use Rattle.ak_world.specs.Valid.{AreNumbered}
use Rattle.ak_world.specs.Views.{address_of}

-- ---- What is live

live_still : (o : Ordinals) (blocks a : ℕ) → AreOrdinals o → IsLive o a → IsLive (filled o blocks) a
live_still o blocks a are live = grind (arith, common_steps)

live_group : (c : Content) (group k : ℕ) → IsMeta c → newest_fill c.ordinals + group ≤ c.ordinals.blocks → k < group → IsLive (filled c.ordinals group) (spot c.ordinals + k)
live_group c group k is fits within =
    let o = c.ordinals in
    let n = length o.fills - 1 in
    let some = is.ordinals_are.some in
    let fill : get_or (filled o group).fills n 0 ≡ newest_fill o + group = get_or-set_same o.fills n (newest_fill o + group) 0 (omega (arith, some)) in
    let live = live_at (filled o group) n (newest_fill o + k) (filled_lawful c group is fits).ordinals_are (omega (arith, some, length-set o.fills n (newest_fill o + group))) (omega (arith, fill, within)) in
    subst (IsLive (filled o group)) (let e : address (o.lo + n) (newest_fill o + k) ≡ spot o + k = omega (arith, some) in e) live

-- ---- The group

abbrev node_of : ℕ → ℕ → ℕ → SeriesMeta → List Point → Lists → ℕ → Node
node_of n m a known ps v zero = record { series = n; level = 0; number = m; elder = point_of known.rescue 0; references = []; value = summary_of ps }
node_of n m a known ps v (suc k) = record {
  series = n;
  level = suc k;
  number = m / 32 ^ suc k;
  elder = point_of known.rescue (suc k);
  references = map reference_of (taken v (leaf_ref a ps) k);
  value = no_summary;
}

part_of : (n m a : ℕ) (known : SeriesMeta) (ps : List Point) (v : Lists) (k : ℕ)
    → IsPart joined n (made 32 k m) k a (summary_of ps) (point_of known.rescue) (waiting_of v) (fresh_of v (leaf_ref a ps)) (node_of n m a known ps v k)
part_of n m a known ps v zero = record {
  of_series = refl;
  of_level = refl;
  numbered = sym (made_zero 32 m);
  worth = λ is. refl;
  elder = refl;
  takes = takes_raised v a ps 0;
  pushed = child_raised v a ps 0;
}
part_of n m a known ps v (suc k) = record {
  of_series = refl;
  of_level = refl;
  numbered = refl;
  worth = λ is. absurd (omega (arith, is));
  elder = refl;
  takes = takes_raised v a ps (suc k);
  pushed = child_raised v a ps (suc k);
}

-- a leaf of this number at an address, and leaves with it behind them
abbrev leaf_of : ℕ → ℕ → List Point → Leaf
leaf_of m a ps = record { number = m; address = a; points = ps }

abbrev with_next : List Leaf → ℕ → ℕ → List Point → List Leaf
with_next leaves m a ps = leaves ++ leaf_of m a ps ∷ []

module _ (old new : Seen) (o p : Ordinals) (n base m a : ℕ) (known : SeriesMeta) (leaves : List Leaf) (ps : List Point) (v : Lists)
    (few : suc m < 32 ^ 11) (count : known.leaves ≡ m) (levels : length v.pending ≡ 11)
    (numbers : AreNumbered (m - length leaves) (with_next leaves m a ps)) (each : AllByRecursion (λ (x : Leaf). 0 < length x.points) (with_next leaves m a ps))
    (keeps : (b : ℕ) (node : Node) → Reads o old b node → Reads p new b node) (lives : (k : ℕ) → k ≤ carry_of m → IsLive p (a + k))
    (leaf : IsLeafOf new n (point_of known.rescue 0) (leaf_of m a ps)) (inner : (k : ℕ) → k < carry_of m → IsInnerOf new (a + suc k) (node_of n m a known ps v (suc k))) where
  read_group : (k : ℕ) → k ≤ carry 32 m → Reads p new (a + k) (node_of n m a known ps v k)
  read_group zero h = (
    lives 0 (omega arith),
    inl record {
      level_is = refl;
      leaf = leaf_of m a ps;
      at = omega arith;
      number_is = refl;
      is = leaf;
      value_is = refl;
      none = refl;
    },
  )
  read_group (suc k) h = (lives (suc k) (carry_within m (suc k) h), inr (inner k (carry_within m (suc k) h)))

  closes : (last : ℕ) → IsClose 32 n m a (summary_of ps) (m - length leaves) joined (address_of leaves) (address_of (with_next leaves m a ps)) (point_of known.rescue) (point_of (with_leaf known last a).rescue)
      (total_of leaves) (total_of (with_next leaves m a ps)) (Reads o old) (Reads p new) (waiting_of v) (waiting_of (closed_lists v m (leaf_ref a ps))) (fresh_of v (leaf_ref a ps)) (node_of n m a known ps v)
  closes last =
      let below : suc m ≤ (m - length leaves) + length (with_next leaves m a ps) =
      omega (arith, number_at (m - length leaves) leaves (leaf_of m a ps) [] numbers, length-append leaves (leaf_of m a ps ∷ [])) in
      record {
        here = address_at (m - length leaves) leaves (leaf_of m a ps) [] numbers;
        same = λ i h. address_other leaves (leaf_of m a ps) i (omega (arith, h));
        worth = ap summary_of (between_one (m - length leaves) leaves (leaf_of m a ps) [] numbers);
        same_total = λ i j h. ap summary_of (between_other leaves (leaf_of m a ps) i j h);
        adds = λ i j k from less more to. totals_join (m - length leaves) (with_next leaves m a ps) numbers each i j k from less more (omega (arith, to, below));
        ends = λ x y. refl;
        keeps = keeps;
        written = read_group;
        parts = λ k h. part_of n m a known ps v k;
        new_points = λ k h. point_new known last a m k count h;
        old_points = λ k h. point_old known last a m k count h;
        emptied = λ k h. waiting_under v m (leaf_ref a ps) k h;
        grown = waiting_here v m (leaf_ref a ps) levels;
        old_levels = λ k h. waiting_past v m (leaf_ref a ps) k h;
      }

  planted_more : p.lo ≡ o.lo → IsHistoryFrom known.last ps → 0 < length ps → IsPlanted o old n known leaves base v
      → IsPlanted p new n (with_leaf known (last_ts_from 0 ps) a) (with_next leaves m a ps) base (closed_lists v m (leaf_ref a ps))
  planted_more lo history some is =
      let later = with_leaf known (last_ts_from 0 ps) a in
      let all = with_next leaves m a ps in
      let waiting = closed_lists v m (leaf_ref a ps) in
      let low : m - length leaves ≡ later.leaves - length all = omega (arith, count, length-append leaves (leaf_of m a ps ∷ [])) in
      let more : suc m ≡ later.leaves = omega (arith, count) in
      let before : IsGrownOf o.lo o old n (m - length leaves) m known leaves base v = subst (λ (x : ℕ). IsGrownOf o.lo o old n (x - length leaves) x known leaves base v) count is.grown in
      let grown : IsGrownOf o.lo p new n (m - length leaves) (suc m) later all base waiting =
      grown_placed 32 o.lo n (m - length leaves) m a (summary_of ps) base joined (address_of leaves) (address_of all) (point_of known.rescue) (point_of later.rescue) (total_of leaves) (total_of all)
      (Reads o old) (Reads p new) (waiting_of v) (waiting_of waiting) (fresh_of v (leaf_ref a ps)) (node_of n m a known ps v) (omega arith) few before (closes (last_ts_from 0 ps)) in
      record {
        grown = subst (λ (l : ℕ). IsGrownOf l p new n (later.leaves - length all) later.leaves later all base waiting) (sym lo)
            (subst₂ (λ (x y : ℕ). IsGrownOf o.lo p new n x y later all base waiting) low more grown);
        order = subst (λ (t : ℕ). AreInOrder 0 t (all_below waiting 11)) (leaf_end a 0 ps (some_of ps some))
            (closed_order v m (leaf_ref a ps) known.last (begins_from known.last ps some history) (orderly_of a known.last ps some history) is.order);
      }

pub planted_group : (old new : Seen) (c : Content) (kept : List (List Leaf)) (n base : ℕ) (ps : List Point) (v : Lists) → IsMeta c → IsLaid old c kept → n < length c.series
    → newest_fill c.ordinals + (1 + carry_of (leaves_at c.series n)) ≤ c.ordinals.blocks → IsHistoryFrom (last_in c.series n) ps → IsWritten old new c n ps → AreNodes new c n ps v → length v.pending ≡ 11
    → IsPlanted c.ordinals old n (series_in c.series n) (kept_in kept n) base v
    → IsPlanted (filled c.ordinals (1 + carry_of (leaves_at c.series n))) new n (next_known c n ps) (kept_in kept n ++ next_leaf c n ps ∷ []) base (closed_lists v (leaves_at c.series n) (leaf_ref (spot c.ordinals) ps))
planted_group old new c kept n base ps v is laid within fits history written nodes levels planted =
    let o = c.ordinals in
    let m = leaves_at c.series n in
    let group = 1 + carry_of m in
    let known = series_in c.series n in
    let leaves = kept_in kept n in
    let leaf = next_leaf c n ps in
    let count : known.leaves ≡ m = leaves_in c.series n in
    let own : IsLeafOf new n (rescue_at known.rescue 0) leaf = subst (λ (x : ℕ). IsLeafOf new n x leaf) (rescue_same c.series n within) written.leaf in
    let from : IsHistoryFrom known.last ps = subst (λ (t : ℕ). IsHistoryFrom t ps) (last_same c.series n) history in
    let chain : IsChain new o.lo n known leaves =
    subst (λ (x : ℕ). IsChain new o.lo x known leaves) (let e : 0 + n ≡ n = omega arith in e) (chain_in new o.lo o.fills 0 n c.series kept within (laid_agree old new c kept is laid written.same).leaves) in
    let more : IsChain new o.lo n (with_leaf known (last_ts_from 0 ps) (spot o)) (leaves ++ leaf ∷ []) = chain_more new o.lo n (spot o) known leaves leaf (sym count) refl from own chain in
    let first : more.first ≡ m - length leaves = omega (arith, more.count, count, length-append leaves (leaf ∷ [])) in
    let numbers : AreNumbered (m - length leaves) (leaves ++ leaf ∷ []) = subst (λ (x : ℕ). AreNumbered x (leaves ++ leaf ∷ [])) first more.numbers in
    let each = all_some new n more.before (leaves ++ leaf ∷ []) (rescue_at (with_leaf known (last_ts_from 0 ps) (spot o)).rescue 0) more.links in
    let keeps : (b : ℕ) (node : Node) → Reads o old b node → Reads (filled o group) new b node =
    λ b node reads. (live_still o group b is.ordinals_are reads.0, node_same old new b node (written.same b reads.0) reads.1) in
    planted_more old new o (filled o group) n base m (spot o) known leaves ps v (omega (arith, leaves_most c n is)) count levels numbers each keeps (λ k h. live_group c group k is fits (omega (arith, h))) own nodes refl from (some_points new n (rescue_at known.rescue 0) leaf own) planted

-- The inner nodes of the group of a leaf, by what is known of its series.
use Rattle.std.proofs.Common.{◌≡◌, ◌≢◌, ◌∙◌, inr, ℕ, zero, suc, ◌+◌, ◌-◌, ◌*◌, ◌/◌, ◌%◌, ◌^◌, ◌<◌, ◌≤◌, ◌↔◌, List, [], ◌∷◌, length, true, refl, sym, ap, subst, arith, div-add-mod', mod-lt}
use Rattle.std.proofs.Math.Nat.{div-le_self}
use Rattle.std.proofs.lemmas.Bool.{le-leb}
use Rattle.std.proofs.lemmas.List.{length_push}
use Rattle.std.proofs.lemmas.Nat.{div_below}
use Rattle.std.specs.List.{AllByRecursion}
use Rattle.std.specs.Prelude.{nat_le, if◌then◌else◌, Bool}
use Rattle.ak_base.specs.Points.{IsHistory, IsHistoryFrom}
use Rattle.ak_base.specs.declared.point.Addr.{Addr}
use Rattle.ak_base.specs.declared.point.Point.{Point}
use Rattle.ak_bytes.specs.Head.{IsHead}
use Rattle.ak_host.specs.Files.{Files, block_at}
use Rattle.ak_image.specs.Blocks.{Seen, seen_in}
use Rattle.ak_image.specs.Groups.{AreInner}
use Rattle.ak_image.specs.Laid.{spot, series_in, last_in}
use Rattle.ak_image.specs.Planted.{AreNodes, next_node}
use Rattle.ak_image.proofs.Places.{ordinal_at, index_at}
use Rattle.ak_inner.specs.Nodes.{SpellsInner}
use Rattle.ak_inner.specs.References.{AreRefs}
use Rattle.ak_inner.specs.declared.reference.Ref.{Ref}
use Rattle.ak_levels.proofs.Closed.{free_at}
use Rattle.ak_levels.proofs.Digits.{carry_most}
use Rattle.ak_levels.proofs.Leaves.{leaf_tally, leaf_orderly, leaf_begin}
use Rattle.ak_levels.proofs.Powers.{power_pos}
use Rattle.ak_levels.specs.Carries.{carry_of}
use Rattle.ak_levels.specs.Closes.{leaf_ref, raised, taken}
use Rattle.ak_levels.specs.Entries.{AreLawful}
use Rattle.ak_levels.specs.Orders.{all_below, AreInOrder}
use Rattle.ak_levels.specs.Pending.{Lists, pending_at}
use Rattle.ak_meta.specs.Contents.{Content, IsMeta, IsSeries, rescue_at}
use Rattle.ak_meta.specs.Leaves.{leaves_at}
use Rattle.ak_meta.specs.declared.meta.SeriesMeta.{SeriesMeta}
use Rattle.ak_tree.specs.Writing.{AreNodeBlocks, node_head}
use Rattle.ak_tree.specs.declared.writing.Group.{Group}
use Rattle.ak_levels.proofs.Ordered.{taken_refs}
use Rattle.ak_meta.proofs.Closing.{leaves_most}
use Rattle.ak_volumes.specs.Ordinals.{Ordinals, newest, newest_fill, address, index_of, file_of}

-- the block at an index of an ordinal, as it is seen at its address
pub block_seen : (volumes ordinal index : ℕ) (files : Files) → index < 2 ^ 32 → seen_in volumes files (address ordinal index) ≡ block_at files (1 + ordinal % volumes) index
block_seen volumes ordinal index files small =
    ap (λ (n : ℕ). block_at files (1 + n % volumes) (index_of (address ordinal index))) (ordinal_at ordinal index small)
    ∙ ap (λ (i : ℕ). block_at files (1 + ordinal % volumes) i) (index_at ordinal index small)

-- ---- The series

rules_in : (all : List SeriesMeta) (n : ℕ) → AllByRecursion IsSeries all → n < length all → IsSeries (series_in all n)
rules_in [] n each within = absurd (omega arith)
rules_in (s ∷ all) zero each within = each.0
rules_in (s ∷ all) (suc n) each within = rules_in all n each.1 (omega arith)

leaves_in_series : (all : List SeriesMeta) (n : ℕ) → n < length all → leaves_at all n ≡ (series_in all n).leaves
leaves_in_series [] n within = absurd (omega arith)
leaves_in_series (s ∷ all) zero within = refl
leaves_in_series (s ∷ all) (suc n) within = leaves_in_series all n (omega arith)

pub last_in_series : (all : List SeriesMeta) (n : ℕ) → n < length all → last_in all n ≡ (series_in all n).last
last_in_series [] n within = absurd (omega arith)
last_in_series (s ∷ all) zero within = refl
last_in_series (s ∷ all) (suc n) within = last_in_series all n (omega arith)

rescue_below : (rescue : List Addr) (k : ℕ) → AllByRecursion (λ (a : Addr). a.0 < 2 ^ 64) rescue → rescue_at rescue k < 2 ^ 64
rescue_below [] k each = omega arith
rescue_below (a ∷ rescue) zero each = each.0
rescue_below (a ∷ rescue) (suc k) each = rescue_below rescue k each.1

-- the first node of a level has number 0
first_number : (m p : ℕ) → 0 < p → m < p → m / p ≡ 0
first_number m p pos few = let below : m / p < 1 = div_below m p 1 pos (omega (arith, few)) in omega (arith, below)

later_number : (m p : ℕ) → 0 < p → m / p ≡ 0 → m < p
later_number m p pos none =
    let split : m / p * p + m % p ≡ m = div-add-mod' m p in
    let rest : m % p < p = mod-lt m pos in
    let front : m / p * p ≡ 0 * p = ap (λ (q : ℕ). q * p) none in
    omega (arith, split, rest, front)

-- ---- Histories

history_here : (ts : ℕ) (ps : List Point) → IsHistoryFrom ts ps → IsHistory ps
history_here ts [] history = tt
history_here ts (p ∷ ps) history = (omega arith, history.1)

begins_late : (a ts : ℕ) (ps : List Point) → ps ≢ [] → IsHistoryFrom ts ps → ts ≤ (leaf_ref a ps).summary.begin
begins_late a ts [] some history = absurd (some refl)
begins_late a ts (p ∷ ps) some history = omega (arith, history.0, leaf_begin a p ps)

-- ---- The nodes

-- the group of the next leaf of a series, with these points
abbrev pub group_at : Content → ℕ → List Point → Group
group_at c n ps = record {
  series = n;
  number = leaves_at c.series n;
  elders = (series_in c.series n).rescue;
  leaf = leaf_ref (spot c.ordinals) ps;
  others = carry_of (leaves_at c.series n);
}

made_group : (s m : ℕ) (elders : List Addr) (leaf : Ref) (others : ℕ) → Group
made_group s m elders leaf others = record { series = s; number = m; elders = elders; leaf = leaf; others = others }

made_is : (g : Group) → made_group g.series g.number g.elders g.leaf g.others ≡ g
unfolding made_group
made_is g = refl

made_at : (c : Content) (n : ℕ) (ps : List Point) → made_group n (leaves_at c.series n) (series_in c.series n).rescue (leaf_ref (spot c.ordinals) ps) (carry_of (leaves_at c.series n)) ≡ group_at c n ps
unfolding made_group
made_at c n ps = refl

same_made : (s t m k : ℕ) (d e : List Addr) (q r : Ref) (i j : ℕ) → s ≡ t → m ≡ k → d ≡ e → q ≡ r → i ≡ j → made_group s m d q i ≡ made_group t k e r j
same_made s t m k d e q r i j a b f g h = cc

pub group_is : (g : Group) (c : Content) (n : ℕ) (ps : List Point) → g.series ≡ n → g.number ≡ leaves_at c.series n → g.elders ≡ (series_in c.series n).rescue → g.leaf ≡ leaf_ref (spot c.ordinals) ps → g.others ≡ carry_of (leaves_at c.series n) → g ≡ group_at c n ps
group_is g c n ps series number elders leaf others =
    sym (made_is g) ∙ same_made g.series n g.number (leaves_at c.series n) g.elders (series_in c.series n).rescue g.leaf (leaf_ref (spot c.ordinals) ps) g.others (carry_of (leaves_at c.series n)) series number elders leaf others
    ∙ made_at c n ps

module _ (c : Content) (n : ℕ) (ps : List Point) (v : Lists) (rules : IsMeta c) (within : n < length c.series) (room : newest_fill c.ordinals + (1 + carry_of (leaves_at c.series n)) ≤ c.ordinals.blocks)
    (lawful : AreLawful (leaves_at c.series n) v) where
  node_lawful : (k : ℕ) → k < carry_of (leaves_at c.series n) → IsHead (node_head (group_at c n ps) v k)
  node_lawful k below =
      let m = leaves_at c.series n in
      let s : SeriesMeta = series_in c.series n in
      let series : IsSeries s = rules_in c.series n rules.each within in
      let o : Ordinals = c.ordinals in
      let most : carry_of m ≤ 10 = carry_most m in
      let few : m ≤ 2 ^ 52 = leaves_most c n rules in
      let leaf : Ref = leaf_ref (spot o) ps in
      let many : length (taken v leaf k) ≡ length (pending_at v k) + 1 = length_push (pending_at v k) (raised v leaf k) in
      let free : length (pending_at v k) < 32 = free_at v m k lawful (omega (arith, below, most)) in
      let number : m / 32 ^ suc k ≤ m = div-le_self m (32 ^ suc k) in
      let same : m ≡ s.leaves = leaves_in_series c.series n within in
      let rescue : (rescue_at s.rescue (suc k) ≡ 2 ^ 64 - 1) ↔ (s.leaves < 32 ^ suc k) = series.rescue (suc k) (omega (arith, below, most)) in
      let place : spot o + suc k < 2 ^ 64 = omega (arith, rules.ordinals_are.last, rules.ordinals_are.some, rules.ordinals_are.indexes, room, below) in
      let pos : 0 < 32 ^ suc k = power_pos (suc k) in
      record {
        fits = record {
          kind = omega arith;
          level = omega (arith, below, most);
          count = omega (arith, many, free);
          series = omega (arith, within, rules.few);
          number = omega (arith, number, few);
          addr = place;
          elder = rescue_below s.rescue (suc k) series.addresses;
          length = omega (arith, many, free);
        };
        kind = inr (record { kind = refl; above = omega arith; level = omega (arith, below, most); some = omega (arith, many); count = omega (arith, many, free); length = refl });
        elder = (
          (λ none. let less : s.leaves < 32 ^ suc k = rescue.0 none in first_number m (32 ^ suc k) pos (omega (arith, less, same))),
          (λ none. let less : m < 32 ^ suc k = later_number m (32 ^ suc k) pos none in rescue.1 (omega (arith, less, same))),
        );
      }

  node_refs : (k : ℕ) → ps ≢ [] → length ps ≤ 2016 → IsHistoryFrom (last_in c.series n) ps → AreInOrder 0 (series_in c.series n).last (all_below v 11) → k < carry_of (leaves_at c.series n)
      → AreRefs (suc k) (taken v (leaf_ref (spot c.ordinals) ps) k)
  node_refs k some few history order below =
      let m = leaves_at c.series n in
      let a = spot c.ordinals in
      let late : (series_in c.series n).last ≤ (leaf_ref a ps).summary.begin = omega (arith, begins_late a (last_in c.series n) ps some history, last_in_series c.series n within) in
      let whole : IsHistory ps = history_here (last_in c.series n) ps history in
      taken_refs v m (leaf_ref a ps) (series_in c.series n).last k lawful (leaf_tally a ps some few whole) late (leaf_orderly a ps some whole) order (omega (arith, below))

  -- the blocks behind the leaf are its nodes
  pub nodes_written : (files : Files) → ps ≢ [] → length ps ≤ 2016 → IsHistoryFrom (last_in c.series n) ps → AreInOrder 0 (series_in c.series n).last (all_below v 11)
      → AreNodeBlocks (group_at c n ps) v (carry_of (leaves_at c.series n)) (file_of c.ordinals (newest c.ordinals)) (newest_fill c.ordinals + 1) files → AreNodes (seen_in c.ordinals.volumes files) c n ps v
  nodes_written files some few history order are k below =
      let o : Ordinals = c.ordinals in
      let g : Group = group_at c n ps in
      let s : SeriesMeta = series_in c.series n in
      let small : newest_fill o + suc k < 2 ^ 32 = omega (arith, room, rules.ordinals_are.indexes, below) in
      let next : newest_fill o + suc k ≡ newest_fill o + 1 + k = omega arith in
      let at : address (newest o) (newest_fill o + suc k) ≡ spot o + suc k = omega arith in
      let seen : seen_in o.volumes files (spot o + suc k) ≡ block_at files (file_of o (newest o)) (newest_fill o + 1 + k) =
      ap (seen_in o.volumes files) (sym at) ∙ block_seen o.volumes (newest o) (newest_fill o + suc k) files small ∙ ap (λ (i : ℕ). block_at files (file_of o (newest o)) i) next in
      let low : nat_le (suc k) 10 ≡ true = le-leb (suc k) 10 (omega (arith, below, carry_most (leaves_at c.series n))) in
      record {
        head = node_head g v k;
        refs = taken v g.leaf k;
        spells = subst (λ (b : List ℕ). SpellsInner b (node_head g v k) (taken v g.leaf k)) (sym seen) (are k below (node_lawful k below) (node_refs k some few history order below));
        level_is = refl;
        series_is = refl;
        number_is = refl;
        address_is = refl;
        elder_is = sym (ap (λ (b : Bool). if b then rescue_at s.rescue (suc k) else 2 ^ 64 - 1) low);
        references_are = refl;
      }

-- nodes that stand are inner nodes of their levels
pub inner_there : (seen : Seen) (c : Content) (n : ℕ) (ps : List Point) (v : Lists) → AreNodes seen c n ps v → AreInner seen n (leaves_at c.series n) (spot c.ordinals)
inner_there seen c n ps v are zero above below = absurd (omega (arith, above))
inner_there seen c n ps v are (suc k) above below = record {
  node = next_node c n ps v k;
  is = are k (omega (arith, below));
  series_is = refl;
  level_is = refl;
  number_is = refl;
}

-- The chains of series: a series that begins, and a leaf more.
use Rattle.std.proofs.Common.{◌≡◌, ◌+◌, ◌<◌, ◌≤◌, ℕ, suc, List, [], ◌∷◌, ◌++◌, length, refl, sym, ◌∙◌, subst, arith, add-one, length-append}
use Rattle.std.proofs.lemmas.Grind.{flat_map-append}
use Rattle.ak_base.specs.Points.{IsHistoryFrom, last_ts_from}
use Rattle.ak_base.specs.declared.point.Point.{Point}
use Rattle.ak_image.specs.Blocks.{Seen}
use Rattle.ak_image.specs.Chains.{AreLinked, IsChain}
use Rattle.ak_world.specs.Valid.{AreNumbered}
use Rattle.ak_image.specs.Scans.{IsLeafOf}
use Rattle.ak_image.proofs.StepBlocks.{some_points}
use Rattle.ak_meta.specs.Contents.{rescue_at}
use Rattle.ak_meta.specs.Leaves.{with_leaf, new_series}
use Rattle.ak_meta.specs.declared.meta.SeriesMeta.{SeriesMeta}
use Rattle.ak_world.specs.Leaves.{Leaf, points_of}
use Rattle.ak_world.specs.Views.{none, last_time}

-- ---- Histories

history_less : (t u : ℕ) (ps : List Point) → t ≤ u → IsHistoryFrom u ps → IsHistoryFrom t ps
history_less t u [] less h = tt
history_less t u (p ∷ ps) less h = (omega (arith, less, h.0), h.1)

history_append : (t : ℕ) (ps qs : List Point) → IsHistoryFrom t ps → IsHistoryFrom (last_ts_from t ps) qs → IsHistoryFrom t (ps ++ qs)
history_append t [] qs h k = k
history_append t (p ∷ ps) qs h k = (h.0, history_append p.ts ps qs h.1 k)

last_append : (t : ℕ) (ps qs : List Point) → last_ts_from t (ps ++ qs) ≡ last_ts_from (last_ts_from t ps) qs
last_append t [] qs = refl
last_append t (p ∷ ps) qs = last_append p.ts ps qs

last_least : (t : ℕ) (ps : List Point) → last_ts_from 0 ps ≤ last_ts_from t ps
last_least t [] = omega arith
last_least t (p ∷ ps) = omega arith

last_of_some : (t u : ℕ) (ps : List Point) → 0 < length ps → last_ts_from t ps ≡ last_ts_from u ps
last_of_some t u [] some = absurd (omega arith)
last_of_some t u (p ∷ ps) some = refl

time_is : (t : ℕ) (leaves : List Leaf) → last_time t leaves ≡ last_ts_from t (points_of leaves)
time_is t [] = refl
time_is t (x ∷ leaves) = time_is (last_ts_from t x.points) leaves ∙ sym (last_append t x.points (points_of leaves))

time_append : (t : ℕ) (xs ys : List Leaf) → last_time t (xs ++ ys) ≡ last_time (last_time t xs) ys
time_append t [] ys = refl
time_append t (x ∷ xs) ys = time_append (last_ts_from t x.points) xs ys

-- ---- Chains

-- the rescue address of level 0 is that of the group, whatever levels the leaf fills
rescue_first : (known : SeriesMeta) (last a : ℕ) → rescue_at (with_leaf known last a).rescue 0 ≡ a
rescue_first known last a = rw add-one

numbers_more : (first : ℕ) (leaves : List Leaf) (leaf : Leaf) → leaf.number ≡ first + length leaves → AreNumbered first leaves → AreNumbered first (leaves ++ leaf ∷ [])
numbers_more first [] leaf e h = (omega (arith, e), tt)
numbers_more first (x ∷ leaves) leaf e h = (h.0, numbers_more (suc first) leaves leaf (omega (arith, e)) h.1)

links_more : (seen : Seen) (s before last next : ℕ) (leaves : List Leaf) (leaf : Leaf) → IsLeafOf seen s last leaf → next ≡ leaf.address → AreLinked seen s before leaves last → AreLinked seen s before (leaves ++ leaf ∷ []) next
links_more seen s before last next [] leaf l e h = (subst (λ (x : ℕ). IsLeafOf seen s x leaf) h l, e)
links_more seen s before last next (x ∷ leaves) leaf l e h = (h.0, links_more seen s x.address last next leaves leaf l e h.1)

-- a series that begins
pub chain_begin : (seen : Seen) (lo s : ℕ) (name : List ℕ) → IsChain seen lo s (new_series name) []
chain_begin seen lo s name = record {
  first = 0;
  numbers = tt;
  count = refl;
  before = none;
  gone = refl;
  links = refl;
  history = tt;
  last = refl;
}

-- a leaf more
pub chain_more : (seen : Seen) (lo s a : ℕ) (known : SeriesMeta) (leaves : List Leaf) (leaf : Leaf) → leaf.number ≡ known.leaves → leaf.address ≡ a → IsHistoryFrom known.last leaf.points → IsLeafOf seen s (rescue_at known.rescue 0) leaf
    → IsChain seen lo s known leaves → IsChain seen lo s (with_leaf known (last_ts_from 0 leaf.points) a) (leaves ++ leaf ∷ [])
chain_more seen lo s a known leaves leaf number at history l c =
    let last : last_ts_from known.last (points_of leaves) ≡ known.last = sym (time_is known.last leaves) ∙ c.last in
    let least : last_ts_from 0 (points_of leaves) ≤ known.last = omega (arith, last_least known.last (points_of leaves), last) in
    let points : points_of (leaves ++ leaf ∷ []) ≡ points_of leaves ++ points_of (leaf ∷ []) = flat_map-append (λ (x : Leaf). x.points) leaves (leaf ∷ []) in
    let own : IsHistoryFrom known.last (points_of (leaf ∷ [])) = history_append known.last leaf.points [] history tt in
    let raised : last_ts_from 0 leaf.points ≡ last_ts_from (last_time (last_ts_from 0 leaf.points) leaves) leaf.points = last_of_some 0 (last_time (last_ts_from 0 leaf.points) leaves) leaf.points (some_points seen s (rescue_at known.rescue 0) leaf l) in
    record {
      first = c.first;
      numbers = numbers_more c.first leaves leaf (omega (arith, number, c.count)) c.numbers;
      count = omega (arith, length-append leaves (leaf ∷ []), c.count);
      before = c.before;
      gone = c.gone;
      links = links_more seen s c.before (rescue_at known.rescue 0) _ leaves leaf l (rescue_first known (last_ts_from 0 leaf.points) a ∙ sym at) c.links;
      history = subst (IsHistoryFrom 0) (sym points) (history_append 0 (points_of leaves) (points_of (leaf ∷ [])) c.history (history_less (last_ts_from 0 (points_of leaves)) known.last (points_of (leaf ∷ [])) least own));
      last = time_append (last_ts_from 0 leaf.points) leaves (leaf ∷ []) ∙ sym raised;
    }

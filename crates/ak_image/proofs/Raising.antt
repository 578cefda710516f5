-- An ordinal that begins in the place of the oldest: the leaves of that one are live no more.
use Rattle.std.proofs.Common.{◌≡◌, inl, inr, ◌∙◌, ℕ, zero, suc, pred, ◌+◌, ◌-◌, ◌*◌, ◌^◌, ◌==◌, ◌<◌, ◌≤◌, Bool, true, false, if◌then◌else◌, nat_le, nat_lt, List, [], ◌∷◌, ◌++◌, length, drop, get_or, slice_index, refl, sym, ap, ap₂, subst, arith, length-append}
use Rattle.std.proofs.Math.Nat.{mul-le-mul_right, pow-le-pow_right}
use Rattle.std.proofs.lemmas.Bool.{cases_lt, ne_eqb}
use Rattle.std.proofs.lemmas.Bool.Decides.{nat_tests}
use Rattle.std.proofs.lemmas.Grind.{flat_map-append}
use Rattle.std.specs.List.{AllByRecursion}
use Rattle.ak_base.specs.Points.{IsHistory, IsHistoryFrom, last_ts_from}
use Rattle.ak_base.specs.declared.point.Point.{Point}
use Rattle.ak_forest.proofs.Arith.{times_le}
use Rattle.ak_forest.proofs.Raise.{tree_raised, grown_raised}
use Rattle.ak_forest.specs.Numbers.{end}
use Rattle.ak_forest.specs.Tree.{Node, IsTree, IsGrown, spot, width}
use Rattle.ak_image.proofs.Agreeing.{trees_same}
use Rattle.ak_image.proofs.Growing.{planted_same}
use Rattle.ak_image.proofs.Lifting.{all_some}
use Rattle.ak_image.proofs.Moving.{tree_moved, grown_moved}
use Rattle.ak_image.proofs.Places.{AtEach, InRows, found_at, live_rows, scan_at}
use Rattle.ak_image.proofs.StepRows.{rows_begin}
use Rattle.ak_image.proofs.StepScans.{scan_begin}
use Rattle.ak_image.specs.Blocks.{Seen}
use Rattle.ak_image.specs.Chains.{IsGone, AreLinked, IsChain}
use Rattle.ak_image.specs.Groups.{AreRows}
use Rattle.ak_image.specs.Laid.{AreLaid, IsLaid}
use Rattle.ak_image.specs.Nodes.{Reads}
use Rattle.ak_image.specs.Planted.{IsPlanted, ArePlanted, waiting_of}
use Rattle.ak_image.specs.Scans.{IsScan}
use Rattle.ak_image.specs.Trees.{IsTreeOf, AreTreed, points_between, total_of, point_of}
use Rattle.ak_levels.specs.Pending.{Lists}
use Rattle.ak_meta.proofs.Closing.{leaves_cons, fill_most}
use Rattle.ak_meta.specs.Contents.{Content, IsMeta, leaves_of, rescue_at}
use Rattle.ak_meta.specs.declared.meta.SeriesMeta.{SeriesMeta}
use Rattle.ak_summary.specs.Folds.{summary_of}
use Rattle.ak_volumes.specs.Ordinals.{Ordinals, AreOrdinals, IsLive, newest, newest_fill, address, ordinal_of, index_of, switched}
use Rattle.ak_world.specs.Leaves.{Leaf, leaves_from, kept_from, points_of}
use Rattle.ak_world.specs.Valid.{AreNumbered}
use Rattle.ak_world.specs.Views.{address_of, last_time}

-- ---- Lists of leaves, parted

from_here : (next : ℕ) (leaf : Leaf) (leaves : List Leaf) → next ≤ ordinal_of leaf.address → leaves_from next (leaf ∷ leaves) ≡ leaf ∷ leaves_from next leaves
from_here next leaf leaves live = let test : nat_le next (ordinal_of leaf.address) ≡ true = grind (arith, nat_tests, live) in ap (λ (b : Bool). if b then leaf ∷ leaves_from next leaves else leaves_from next leaves) test

from_past : (next : ℕ) (leaf : Leaf) (leaves : List Leaf) → ordinal_of leaf.address < next → leaves_from next (leaf ∷ leaves) ≡ leaves_from next leaves
from_past next leaf leaves dead = let test : nat_le next (ordinal_of leaf.address) ≡ false = grind (arith, nat_tests, dead) in ap (λ (b : Bool). if b then leaf ∷ leaves_from next leaves else leaves_from next leaves) test

pub all_from : (next : ℕ) (leaves : List Leaf) → AtEach (λ a. next ≤ ordinal_of a) leaves → leaves_from next leaves ≡ leaves
all_from next [] each = refl
all_from next (leaf ∷ leaves) each = from_here next leaf leaves each.0 ∙ ap (λ (ls : List Leaf). leaf ∷ ls) (all_from next leaves each.1)

none_from : (next : ℕ) (front rest : List Leaf) → AtEach (λ a. ordinal_of a < next) front → leaves_from next (front ++ rest) ≡ leaves_from next rest
none_from next [] rest each = refl
none_from next (leaf ∷ front) rest each = from_past next leaf (front ++ rest) each.0 ∙ none_from next front rest each.1

each_weaker : (P Q : ℕ → Type 0) (leaves : List Leaf) → ((a : ℕ) → P a → Q a) → AtEach P leaves → AtEach Q leaves
each_weaker P Q [] follows each = tt
each_weaker P Q (leaf ∷ leaves) follows each = (follows leaf.address each.0, each_weaker P Q leaves follows each.1)

-- the address of the leaf of a number
address_in : (P : ℕ → Type 0) (first : ℕ) (leaves : List Leaf) (i : ℕ) → AreNumbered first leaves → AtEach P leaves → first ≤ i → i < first + length leaves → P (address_of leaves i)
address_in P first [] i are each from to = absurd (omega (arith, from, to))
address_in P first (leaf ∷ leaves) i are each from to = elim (cases_lt first i) [
  | inl past ↦
      let other : (leaf.number == i) ≡ false = ne_eqb leaf.number i (λ e. omega (arith, e, are.0, past)) in
      let skip : address_of (leaf ∷ leaves) i ≡ address_of leaves i = ap (λ (b : Bool). if b then leaf.address else address_of leaves i) other in
      subst P (sym skip) (address_in P (suc first) leaves i are.1 each.1 (omega (arith, past)) (omega (arith, to)))
  | inr here ↦
      let is : leaf.number ≡ i = omega (arith, are.0, here, from) in
      let got : address_of (leaf ∷ leaves) i ≡ leaf.address = address_here leaf leaves i is in
      subst P (sym got) each.0
]
  where
    address_here : (x : Leaf) (ls : List Leaf) (m : ℕ) → x.number ≡ m → address_of (x ∷ ls) m ≡ x.address
    address_here x ls m is = grind (arith, nat_tests)

address_behind : (first : ℕ) (front rest : List Leaf) (i : ℕ) → AreNumbered first (front ++ rest) → first + length front ≤ i → address_of (front ++ rest) i ≡ address_of rest i
address_behind first [] rest i are from = refl
address_behind first (leaf ∷ front) rest i are from =
    let other : (leaf.number == i) ≡ false = ne_eqb leaf.number i (λ e. omega (arith, e, are.0, from)) in
    ap (λ (b : Bool). if b then leaf.address else address_of (front ++ rest) i) other ∙ address_behind (suc first) front rest i are.1 (omega (arith, from))

between_behind : (first : ℕ) (front rest : List Leaf) (i j : ℕ) → AreNumbered first (front ++ rest) → first + length front ≤ i → points_between (front ++ rest) i j ≡ points_between rest i j
between_behind first [] rest i j are from = refl
between_behind first (leaf ∷ front) rest i j are from = before leaf (front ++ rest) (omega (arith, are.0, from)) ∙ between_behind (suc first) front rest i j are.1 (omega (arith, from))
  where
    before : (x : Leaf) (ls : List Leaf) → x.number < i → points_between (x ∷ ls) i j ≡ points_between ls i j
    before x ls less = grind (arith, nat_tests)

numbered_behind : (first : ℕ) (front rest : List Leaf) → AreNumbered first (front ++ rest) → AreNumbered (first + length front) rest
numbered_behind first [] rest are = let same : first ≡ first + 0 = omega arith in subst (λ (n : ℕ). AreNumbered n rest) same are
numbered_behind first (leaf ∷ front) rest are = let same : suc first + length front ≡ first + suc (length front) = omega arith in subst (λ (n : ℕ). AreNumbered n rest) same (numbered_behind (suc first) front rest are.1)

numbered_front : (first : ℕ) (front rest : List Leaf) → AreNumbered first (front ++ rest) → AreNumbered first front
numbered_front first [] rest are = tt
numbered_front first (leaf ∷ front) rest are = (are.0, numbered_front (suc first) front rest are.1)

address_first : (x : Leaf) (ls : List Leaf) (m : ℕ) → x.number ≡ m → address_of (x ∷ ls) m ≡ x.address
address_first x ls m is = grind (arith, nat_tests)

-- ---- Histories

history_less : (t u : ℕ) (ps : List Point) → t ≤ u → IsHistoryFrom u ps → IsHistoryFrom t ps
history_less t u [] less h = tt
history_less t u (p ∷ ps) less h = (omega (arith, less, h.0), h.1)

history_back : (t : ℕ) (ps qs : List Point) → IsHistoryFrom t (ps ++ qs) → IsHistoryFrom (last_ts_from t ps) qs
history_back t [] qs h = h
history_back t (p ∷ ps) qs h = history_back p.ts ps qs h.1

time_append : (t : ℕ) (xs ys : List Leaf) → last_time t (xs ++ ys) ≡ last_time (last_time t xs) ys
time_append t [] ys = refl
time_append t (x ∷ xs) ys = time_append (last_ts_from t x.points) xs ys

last_of_some : (t u : ℕ) (ps : List Point) → 0 < length ps → last_ts_from t ps ≡ last_ts_from u ps
last_of_some t u [] some = absurd (omega arith)
last_of_some t u (p ∷ ps) some = refl

time_behind : (t : ℕ) (front rest : List Leaf) → AllByRecursion (λ (leaf : Leaf). 0 < length leaf.points) rest → last_time t (front ++ rest) ≡ t → last_time t rest ≡ t
time_behind t front [] each is = refl
time_behind t front (leaf ∷ rest) each is =
    ap (λ (u : ℕ). last_time u rest) (last_of_some t (last_time t front) leaf.points each.0) ∙ sym (time_append t front (leaf ∷ rest)) ∙ is

-- ---- Links

-- where the links of the first leaves end
record IsMid (seen : Seen) (next series before last : ℕ) (front rest : List Leaf) : Type 0 where
  mid : ℕ
  links : AreLinked seen series mid rest last
  none : length front ≡ 0 → mid ≡ before
  some : 0 < length front → AtEach (λ a. ordinal_of a < next) front → ordinal_of mid < next

linked_behind : (seen : Seen) (next series before last : ℕ) (front rest : List Leaf) → AreLinked seen series before (front ++ rest) last → IsMid seen next series before last front rest
linked_behind seen next series before last [] rest links = record { mid = before; links = links; none = λ is. refl; some = λ some each. absurd (omega (arith, some)) }
linked_behind seen next series before last (leaf ∷ front) rest links =
    let on = linked_behind seen next series leaf.address last front rest links.1 in
    record {
      mid = on.mid;
      links = on.links;
      none = λ is. absurd (omega (arith, is));
      some = λ some each. elim (cases_lt 0 (length front)) [
        | inl more ↦ on.some more each.1
        | inr nil ↦ subst (λ (a : ℕ). ordinal_of a < next) (sym (on.none (omega (arith, nil)))) each.0
      ];
    }

-- ---- One series

module _ (volumes blocks lo fill : ℕ) (fills : List ℕ) (few : fill + 10 < 2 ^ 32) (seen : Seen) where
  abbrev old : Ordinals
  old = record { volumes = volumes; blocks = blocks; lo = lo; fills = fill ∷ fills }

  abbrev new : Ordinals
  new = record { volumes = volumes; blocks = blocks; lo = suc lo; fills = fills ++ 0 ∷ [] }

  -- in the ordinal that is given up
  abbrev IsOld : ℕ → Type 0
  IsOld a = (address lo 0 ≤ a) × (a < address lo 0 + fill)

  fill_kept : (fs : List ℕ) (i x : ℕ) → x < slice_index fs i → x < slice_index (fs ++ 0 ∷ []) i
  fill_kept [] i x below = absurd (omega (arith, below))
  fill_kept (f ∷ fs) zero x below = below
  fill_kept (f ∷ fs) (suc i) x below = fill_kept fs i x below

  live_raised : (a : ℕ) → IsLive old a → suc lo ≤ ordinal_of a → IsLive new a
  live_raised a live later =
      let place : ordinal_of a - lo ≡ suc (ordinal_of a - suc lo) = omega (arith, later) in
      let index : index_of a < slice_index fills (ordinal_of a - suc lo) = subst (λ (i : ℕ). index_of a < slice_index (fill ∷ fills) i) place live.index in
      record {
        ordinal = record { from = later; to = omega (arith, live.ordinal.to, length-append fills (0 ∷ [])) };
        index = fill_kept fills (ordinal_of a - suc lo) (index_of a) index;
      }

  rows_above : (ordinal : ℕ) (fs : List ℕ) → suc lo ≤ ordinal → InRows (λ a. suc lo ≤ ordinal_of a) ordinal fs
  rows_above ordinal [] from = tt
  rows_above ordinal (f ∷ fs) from = ((λ b above below. omega (arith, from, above)), rows_above (suc ordinal) fs (omega (arith, from)))

  old_dead : (a : ℕ) → IsOld a → ordinal_of a < suc lo
  old_dead a is = omega (arith, is.1, few)

  -- the leaves of the ordinal that is given up, and the others
  record IsParted (series : ℕ) (leaves : List Leaf) : Type 0 where
    front : List Leaf
    rest : List Leaf
    is : leaves ≡ front ++ rest
    rest_is : leaves_from (suc lo) leaves ≡ rest
    scan : IsScan seen series (suc lo) (fills ++ 0 ∷ []) rest
    dead : AtEach IsOld front
    live : AtEach (λ a. suc lo ≤ ordinal_of a) rest

  parted_of : (series : ℕ) (leaves : List Leaf) → IsScan seen series lo (fill ∷ fills) leaves → IsParted series leaves
  parted_of series leaves scan =
      let dead : AtEach IsOld scan.0 = found_at IsOld seen series fill (address lo 0) scan.0 (λ b from to. (from, to)) scan.3 in
      let live : AtEach (λ a. suc lo ≤ ordinal_of a) scan.1 = scan_at (λ a. suc lo ≤ ordinal_of a) seen series (suc lo) fills scan.1 (rows_above (suc lo) fills (omega arith)) scan.4 in
      record {
        front = scan.0;
        rest = scan.1;
        is = scan.2;
        rest_is = ap (leaves_from (suc lo)) scan.2 ∙ none_from (suc lo) scan.0 scan.1 (each_weaker IsOld (λ a. ordinal_of a < suc lo) scan.0 old_dead dead) ∙ all_from (suc lo) scan.1 live;
        scan = scan_begin seen series (suc lo) fills scan.1 scan.4;
        dead = dead;
        live = live;
      }

  gone_raised : (first front before mid : ℕ) → IsGone lo first before → (front ≡ 0 → mid ≡ before) → (0 < front → ordinal_of mid < suc lo) → IsGone (suc lo) (first + front) mid
  gone_raised zero zero before mid gone same dead = same refl ∙ gone
  gone_raised (suc first) zero before mid gone same dead =
      let at : suc (first + 0) ≡ suc first + 0 = omega arith in
      let less : ordinal_of before < suc lo = omega (arith, gone) in
      subst (λ (n : ℕ). IsGone (suc lo) n mid) at (subst (λ (a : ℕ). ordinal_of a < suc lo) (sym (same refl)) less)
  gone_raised first (suc front) before mid gone same dead =
      let at : suc (first + front) ≡ first + suc front = omega arith in
      subst (λ (n : ℕ). IsGone (suc lo) n mid) at (dead (omega arith))

  chain_raised : (series : ℕ) (known : SeriesMeta) (leaves : List Leaf) → IsChain seen lo series known leaves → (p : IsParted series leaves) → IsChain seen (suc lo) series known p.rest
  chain_raised series known leaves chain p =
      let numbers : AreNumbered chain.first (p.front ++ p.rest) = subst (AreNumbered chain.first) p.is chain.numbers in
      let links : AreLinked seen series chain.before (p.front ++ p.rest) (rescue_at known.rescue 0) = subst (λ (ls : List Leaf). AreLinked seen series chain.before ls (rescue_at known.rescue 0)) p.is chain.links in
      let middle = linked_behind seen (suc lo) series chain.before (rescue_at known.rescue 0) p.front p.rest links in
      let history : IsHistory (points_of (p.front ++ p.rest)) = subst (λ (ls : List Leaf). IsHistory (points_of ls)) p.is chain.history in
      let points : points_of (p.front ++ p.rest) ≡ points_of p.front ++ points_of p.rest = flat_map-append (λ (x : Leaf). x.points) p.front p.rest in
      let each : AllByRecursion (λ (leaf : Leaf). 0 < length leaf.points) p.rest = all_some seen series middle.mid p.rest (rescue_at known.rescue 0) middle.links in
      let long : length leaves ≡ length p.front + length p.rest = ap (length {A = Leaf}) p.is ∙ length-append p.front p.rest in
      record {
        first = chain.first + length p.front;
        numbers = numbered_behind chain.first p.front p.rest numbers;
        count = omega (arith, chain.count, long);
        before = middle.mid;
        gone = gone_raised chain.first (length p.front) chain.before middle.mid chain.gone middle.none
            (λ some. middle.some some (each_weaker IsOld (λ a. ordinal_of a < suc lo) p.front old_dead p.dead));
        links = middle.links;
        history = history_less 0 (last_ts_from 0 (points_of p.front)) (points_of p.rest) (omega arith) (history_back 0 (points_of p.front) (points_of p.rest) (subst (IsHistoryFrom 0) points history));
        last = time_behind known.last p.front p.rest each (sym (ap (last_time known.last) p.is) ∙ chain.last);
      }

  -- ---- Its tree

  reads_raised : (at : ℕ) (node : Node) → suc lo * width ≤ at → Reads old seen at node → Reads new seen at node
  reads_raised at node from reads = (live_raised at reads.0 (omega (arith, from)), reads.1)

  -- where the leaves stand
  record ArePlaced (series : ℕ) (known : SeriesMeta) (leaves : List Leaf) (p : IsParted series leaves) : Type 0 where
    low : ℕ
    low_is : low ≡ known.leaves - length leaves
    last : ℕ
    last_is : last ≡ known.leaves - length p.rest
    long : low + length p.front ≡ last
    fits : last + length p.rest ≡ known.leaves
    old_at : (i : ℕ) → low ≤ i → i < last → IsOld (address_of leaves i)
    new_at : (i : ℕ) → last ≤ i → i < known.leaves → suc lo ≤ ordinal_of (address_of leaves i)
    same : (i : ℕ) → last ≤ i → address_of leaves i ≡ address_of p.rest i
    worth : (i j : ℕ) → last ≤ i → total_of leaves i j ≡ total_of p.rest i j

  placed_of : (series : ℕ) (known : SeriesMeta) (leaves : List Leaf) → IsChain seen lo series known leaves → (p : IsParted series leaves) → ArePlaced series known leaves p
  placed_of series known leaves chain p =
      let first : ℕ = chain.first in
      let numbers : AreNumbered first (p.front ++ p.rest) = subst (AreNumbered first) p.is chain.numbers in
      let long : length leaves ≡ length p.front + length p.rest = ap (length {A = Leaf}) p.is ∙ length-append p.front p.rest in
      let last : ℕ = first + length p.front in
      record {
        low = first;
        low_is = omega (arith, chain.count);
        last = last;
        last_is = omega (arith, chain.count, long);
        long = refl;
        fits = omega (arith, chain.count, long);
        old_at = λ i from to. subst (λ (ls : List Leaf). IsOld (address_of ls i)) (sym p.is) (front_in first p.front p.rest i numbers p.dead from to);
        new_at = λ i from to.
            let there : suc lo ≤ ordinal_of (address_of p.rest i) =
            address_in (λ a. suc lo ≤ ordinal_of a) last p.rest i (numbered_behind first p.front p.rest numbers) p.live from (omega (arith, to, chain.count, long)) in
            subst (λ (a : ℕ). suc lo ≤ ordinal_of a) (sym (ap (λ (ls : List Leaf). address_of ls i) p.is ∙ address_behind first p.front p.rest i numbers from)) there;
        same = λ i from. ap (λ (ls : List Leaf). address_of ls i) p.is ∙ address_behind first p.front p.rest i numbers from;
        worth = λ i j from. ap (λ (ls : List Leaf). total_of ls i j) p.is ∙ ap summary_of (between_behind first p.front p.rest i j numbers from);
      }
    where
      front_in : (first : ℕ) (front rest : List Leaf) (i : ℕ) → AreNumbered first (front ++ rest) → AtEach IsOld front → first ≤ i → i < first + length front → IsOld (address_of (front ++ rest) i)
      front_in first [] rest i are each from to = absurd (omega (arith, from, to))
      front_in first (leaf ∷ front) rest i are each from to = elim (cases_lt first i) [
        | inl past ↦
            let other : (leaf.number == i) ≡ false = ne_eqb leaf.number i (λ e. omega (arith, e, are.0, past)) in
            let skip : address_of (leaf ∷ front ++ rest) i ≡ address_of (front ++ rest) i = ap (λ (b : Bool). if b then leaf.address else address_of (front ++ rest) i) other in
            subst IsOld (sym skip) (front_in (suc first) front rest i are.1 each.1 (omega (arith, past)) (omega (arith, to)))
        | inr here ↦ subst IsOld (sym (address_first leaf (front ++ rest) i (omega (arith, are.0, here, from)))) each.0
      ]

  -- nodes whose last leaf stood there stood there too
  gone_of : (series : ℕ) (known : SeriesMeta) (leaves : List Leaf) (p : IsParted series leaves) (is : ArePlaced series known leaves p) (k j : ℕ) → is.low < end 32 k j → end 32 k j ≤ is.last → k ≤ 10 → spot 32 (address_of leaves) k j < suc lo * width
  gone_of series known leaves p is k j l e level =
      let here = is.old_at (pred (end 32 k j)) (omega (arith, l)) (omega (arith, e, l)) in
      omega (arith, here.1, few, level)

  -- there are too few leaves for more levels
  level_low : (leaves k j : ℕ) → leaves < 32 ^ 11 → end 32 k j ≤ leaves → k ≤ 10
  level_low leaves k j small e = elim (cases_lt 10 k) [
    | inl high ↦
        let past : 11 ≤ k = omega (arith, high) in
        let power : 32 ^ 11 ≤ 32 ^ k = pow-le-pow_right (omega arith) past in
        let one : 1 * 32 ^ k ≤ suc j * 32 ^ k = times_le 1 (suc j) (32 ^ k) (omega arith) in
        absurd (omega (arith, power, one, e, small))
    | inr low ↦ omega (arith, low)
  ]

  lives_of : (series : ℕ) (known : SeriesMeta) (leaves : List Leaf) (p : IsParted series leaves) (is : ArePlaced series known leaves p) (k j : ℕ) → is.last < end 32 k j → end 32 k j ≤ known.leaves → suc lo * width ≤ spot 32 (address_of leaves) k j
  lives_of series known leaves p is k j l e =
      let here : suc lo ≤ ordinal_of (address_of leaves (pred (end 32 k j))) = is.new_at (pred (end 32 k j)) (omega (arith, l)) (omega (arith, e, l)) in
      omega (arith, here)

  tree_raised_of : (series : ℕ) (known : SeriesMeta) (leaves : List Leaf) → known.leaves < 32 ^ 11 → IsChain seen lo series known leaves → (p : IsParted series leaves) → IsTreeOf old seen series known leaves → IsTreeOf new seen series known p.rest
  tree_raised_of series known leaves small chain p tree =
      let is = placed_of series known leaves chain p in
      let rescue : ℕ → ℕ = point_of known.rescue in
      let here : IsTree 32 lo series is.low known.leaves (address_of leaves) (total_of leaves) rescue (Reads old seen) =
      subst (λ (l : ℕ). IsTree 32 lo series l known.leaves (address_of leaves) (total_of leaves) rescue (Reads old seen)) (sym is.low_is) tree in
      let raised : IsTree 32 (suc lo) series is.last known.leaves (address_of leaves) (total_of leaves) rescue (Reads new seen) =
      tree_raised 32 lo (suc lo) is.low is.last known.leaves (address_of leaves) (total_of leaves) (omega arith) (omega arith) (omega (arith, is.long))
      (λ k j l e. gone_of series known leaves p is k j l e (level_low known.leaves k j small (omega (arith, e, is.fits))))
      series rescue (Reads old seen) (Reads new seen) (omega (arith, is.fits)) reads_raised (lives_of series known leaves p is) here in
      subst (λ (l : ℕ). IsTree 32 (suc lo) series l known.leaves (address_of p.rest) (total_of p.rest) rescue (Reads new seen)) is.last_is
      (tree_moved 32 (suc lo) is.last (address_of leaves) (address_of p.rest) (total_of leaves) (total_of p.rest) is.same is.worth series known.leaves rescue (Reads new seen) raised)

  planted_raised_of : (series base : ℕ) (known : SeriesMeta) (leaves : List Leaf) (v : Lists) → known.leaves < 32 ^ 11 → IsChain seen lo series known leaves → (p : IsParted series leaves) → IsPlanted old seen series known leaves base v
      → IsPlanted new seen series known p.rest base v
  planted_raised_of series base known leaves v small chain p planted =
      let is = placed_of series known leaves chain p in
      let rescue : ℕ → ℕ = point_of known.rescue in
      let here : IsGrown 32 lo series is.low known.leaves (address_of leaves) (total_of leaves) rescue (Reads old seen) base (waiting_of v) =
      subst (λ (l : ℕ). IsGrown 32 lo series l known.leaves (address_of leaves) (total_of leaves) rescue (Reads old seen) base (waiting_of v)) (sym is.low_is) planted.grown in
      let raised : IsGrown 32 (suc lo) series is.last known.leaves (address_of leaves) (total_of leaves) rescue (Reads new seen) base (waiting_of v) =
      grown_raised 32 lo (suc lo) is.low is.last known.leaves (address_of leaves) (total_of leaves) (omega arith) (omega arith) (omega (arith, is.long))
      (λ k j l e. gone_of series known leaves p is k j l e (level_low known.leaves k j small (omega (arith, e, is.fits))))
      series rescue (Reads old seen) (Reads new seen) base (waiting_of v) (omega (arith, is.fits)) reads_raised (lives_of series known leaves p is) here in
      record {
        grown = subst (λ (l : ℕ). IsGrown 32 (suc lo) series l known.leaves (address_of p.rest) (total_of p.rest) rescue (Reads new seen) base (waiting_of v)) is.last_is
            (grown_moved 32 (suc lo) is.last (address_of leaves) (address_of p.rest) (total_of leaves) (total_of p.rest) is.same is.worth series known.leaves base rescue (Reads new seen) (waiting_of v) raised);
        order = planted.order;
      }

  -- ---- All series

  all_laid_raised : (k : ℕ) (series : List SeriesMeta) (kept : List (List Leaf)) → AreLaid seen lo (fill ∷ fills) k series kept → AreLaid seen (suc lo) (fills ++ 0 ∷ []) k series (kept_from (suc lo) kept)
  all_laid_raised k [] kept are = ap (kept_from (suc lo)) are
  all_laid_raised k (known ∷ series) kept are =
      let p = parted_of k are.0 are.3 in (
        p.rest,
        kept_from (suc lo) are.1,
        ap (kept_from (suc lo)) are.2 ∙ ap (λ (ls : List Leaf). ls ∷ kept_from (suc lo) are.1) p.rest_is,
        p.scan,
        chain_raised k known are.0 are.4 p,
        all_laid_raised (suc k) series are.1 are.5,
      )

  all_treed_raised : (k : ℕ) (series : List SeriesMeta) (kept : List (List Leaf)) → AllByRecursion (λ (known : SeriesMeta). known.leaves < 32 ^ 11) series → AreLaid seen lo (fill ∷ fills) k series kept → AreTreed old seen k series kept
      → AreTreed new seen k series (kept_from (suc lo) kept)
  all_treed_raised k [] kept small are trees = tt
  all_treed_raised k (known ∷ series) kept small are trees =
      let p = parted_of k are.0 are.3 in
      let all : AreTreed old seen k (known ∷ series) (are.0 ∷ are.1) = subst (AreTreed old seen k (known ∷ series)) are.2 trees in
      let both : AreTreed new seen k (known ∷ series) (p.rest ∷ kept_from (suc lo) are.1) = (tree_raised_of k known are.0 small.0 are.4 p all.0, all_treed_raised (suc k) series are.1 small.1 are.5 all.1) in
      subst (AreTreed new seen k (known ∷ series)) (sym (ap (kept_from (suc lo)) are.2 ∙ ap (λ (ls : List Leaf). ls ∷ kept_from (suc lo) are.1) p.rest_is)) both

  all_planted_raised : (k : ℕ) (series : List SeriesMeta) (kept : List (List Leaf)) (bases : List ℕ) (levels : List Lists) → AllByRecursion (λ (known : SeriesMeta). known.leaves < 32 ^ 11) series → AreLaid seen lo (fill ∷ fills) k series kept
      → ArePlanted old seen k series kept bases levels → ArePlanted new seen k series (kept_from (suc lo) kept) bases levels
  all_planted_raised k [] kept bases levels small are planted = (ap (kept_from (suc lo)) planted.0, planted.1, planted.2)
  all_planted_raised k (known ∷ series) [] bases levels small are planted = absurd planted
  all_planted_raised k (known ∷ series) (leaves ∷ kept) [] levels small are planted = absurd planted
  all_planted_raised k (known ∷ series) (leaves ∷ kept) (base ∷ bases) [] small are planted = absurd planted
  all_planted_raised k (known ∷ series) (leaves ∷ kept) (base ∷ bases) (v ∷ levels) small are planted =
      let first : leaves ≡ are.0 = ap (λ (all : List (List Leaf)). get_or all 0 []) are.2 in
      let behind : kept ≡ are.1 = ap (λ (all : List (List Leaf)). drop 1 all) are.2 in
      let scan : IsScan seen k lo (fill ∷ fills) leaves = subst (IsScan seen k lo (fill ∷ fills)) (sym first) are.3 in
      let chain : IsChain seen lo k known leaves = subst (IsChain seen lo k known) (sym first) are.4 in
      let rest : AreLaid seen lo (fill ∷ fills) (suc k) series kept = subst (AreLaid seen lo (fill ∷ fills) (suc k) series) (sym behind) are.5 in
      let p = parted_of k leaves scan in (
        subst (λ (ls : List Leaf). IsPlanted new seen k known ls base v) (sym p.rest_is) (planted_raised_of k base known leaves v small.0 chain p planted.0),
        all_planted_raised (suc k) series kept bases levels small.1 rest planted.1,
      )

-- ---- By a record

-- each series has too few leaves for more levels
pub all_few : (series : List SeriesMeta) (bound : ℕ) → leaves_of series < bound → AllByRecursion (λ (known : SeriesMeta). known.leaves < bound) series
all_few [] bound few = tt
all_few (known ∷ series) bound few = (omega (arith, leaves_cons known series, few), all_few series bound (omega (arith, leaves_cons known series, few)))

pub record_few : (c : Content) → IsMeta c → leaves_of c.series < 32 ^ 11
record_few c is =
    let o = c.ordinals in
    let ordinals : newest o * o.blocks ≤ 2 ^ 32 * o.blocks = mul-le-mul_right o.blocks (let e : newest o ≤ 2 ^ 32 = omega (arith, is.ordinals_are.last) in e) in
    let fill : newest_fill o ≤ o.blocks = fill_most o.blocks o.fills (length o.fills - 1) is.ordinals_are.within in
    omega (arith, ordinals, fill, is.limits_are.blocks_most, is.blocks, is.total)

-- none is given up, and none of the leaves dies
kept_same : (o : Ordinals) (seen : Seen) (k : ℕ) (series : List SeriesMeta) (kept : List (List Leaf)) → AreOrdinals o → AreLaid seen o.lo o.fills k series kept → kept_from o.lo kept ≡ kept
kept_same o seen k [] kept are laid = ap (kept_from o.lo) laid ∙ sym laid
kept_same o seen k (known ∷ series) kept are laid =
    let live : AtEach (λ a. o.lo ≤ ordinal_of a) laid.0 = scan_at (λ a. o.lo ≤ ordinal_of a) seen k o.lo o.fills laid.0 (live_rows o (λ a. o.lo ≤ ordinal_of a) are (λ a alive. alive.ordinal.from)) laid.3 in
    ap (kept_from o.lo) laid.2 ∙ ap₂ (λ (ls : List Leaf) (all : List (List Leaf)). ls ∷ all) (all_from o.lo laid.0 live) (kept_same o seen (suc k) series laid.1 are laid.5) ∙ sym laid.2

-- of so many blocks a volume has, and ten more, an ordinal has indexes
room_of_ordinal : (c : Content) (fill : ℕ) (fills : List ℕ) → IsMeta c → c.ordinals.fills ≡ fill ∷ fills → fill + 10 < 2 ^ 32
room_of_ordinal c fill fills is same =
    let within : AllByRecursion (λ (f : ℕ). f ≤ c.ordinals.blocks) (fill ∷ fills) = subst (AllByRecursion (λ (f : ℕ). f ≤ c.ordinals.blocks)) same is.ordinals_are.within in
    omega (arith, within.0, is.blocks, is.limits_are.blocks_most)

module _ (seen : Seen) (c : Content) (kept : List (List Leaf)) (meta : IsMeta c) (laid : IsLaid seen c kept) where
  abbrev raised : Ordinals
  raised = record (c.ordinals) { lo = c.ordinals.lo + 1; fills = drop 1 c.ordinals.fills ++ 0 ∷ [] }

  abbrev widened : Ordinals
  widened = record (c.ordinals) { fills = c.ordinals.fills ++ 0 ∷ [] }

  old_is : (fill : ℕ) (fills : List ℕ) → c.ordinals.fills ≡ fill ∷ fills → c.ordinals ≡ record { volumes = c.ordinals.volumes; blocks = c.ordinals.blocks; lo = c.ordinals.lo; fills = fill ∷ fills }
  old_is fill fills is = λ i. record { volumes = c.ordinals.volumes; blocks = c.ordinals.blocks; lo = c.ordinals.lo; fills = is i }

  new_is : (fill : ℕ) (fills : List ℕ) → c.ordinals.fills ≡ fill ∷ fills → record { volumes = c.ordinals.volumes; blocks = c.ordinals.blocks; lo = suc c.ordinals.lo; fills = fills ++ 0 ∷ [] } ≡ raised
  new_is fill fills is =
      let next : suc c.ordinals.lo ≡ c.ordinals.lo + 1 = omega arith in
      let rest : fills ++ 0 ∷ [] ≡ drop 1 c.ordinals.fills ++ 0 ∷ [] = ap (λ (fs : List ℕ). drop 1 fs ++ 0 ∷ []) (sym is) in
      λ i. record { volumes = c.ordinals.volumes; blocks = c.ordinals.blocks; lo = next i; fills = rest i }

  laid_full : (fill : ℕ) (fills : List ℕ) → c.ordinals.fills ≡ fill ∷ fills → IsLaid seen (record c { ordinals = raised }) (kept_from raised.lo kept)
  laid_full fill fills is =
      let o = c.ordinals in
      let few = room_of_ordinal c fill fills meta is in
      let rows : AreRows seen (length c.series) o.lo (fill ∷ fills) = subst (AreRows seen (length c.series) o.lo) is laid.rows in
      let leaves : AreLaid seen o.lo (fill ∷ fills) 0 c.series kept = subst (λ (fs : List ℕ). AreLaid seen o.lo fs 0 c.series kept) is laid.leaves in
      let trees : AreTreed (record { volumes = o.volumes; blocks = o.blocks; lo = o.lo; fills = fill ∷ fills }) seen 0 c.series kept = subst (λ (u : Ordinals). AreTreed u seen 0 c.series kept) (old_is fill fills is) laid.trees in
      subst (λ (u : Ordinals). IsLaid seen (record c { ordinals = u }) (kept_from u.lo kept)) (new_is fill fills is) (record {
        rows = rows_begin seen (length c.series) (suc o.lo) fills rows.1;
        leaves = all_laid_raised o.volumes o.blocks o.lo fill fills few seen 0 c.series kept leaves;
        trees = all_treed_raised o.volumes o.blocks o.lo fill fills few seen 0 c.series kept (all_few c.series (32 ^ 11) (record_few c meta)) leaves trees;
      })

  planted_full : (fill : ℕ) (fills : List ℕ) (bases : List ℕ) (levels : List Lists) → c.ordinals.fills ≡ fill ∷ fills → ArePlanted c.ordinals seen 0 c.series kept bases levels → ArePlanted raised seen 0 c.series (kept_from raised.lo kept) bases levels
  planted_full fill fills bases levels is planted =
      let o = c.ordinals in
      let few = room_of_ordinal c fill fills meta is in
      let leaves : AreLaid seen o.lo (fill ∷ fills) 0 c.series kept = subst (λ (fs : List ℕ). AreLaid seen o.lo fs 0 c.series kept) is laid.leaves in
      let here : ArePlanted (record { volumes = o.volumes; blocks = o.blocks; lo = o.lo; fills = fill ∷ fills }) seen 0 c.series kept bases levels =
      subst (λ (u : Ordinals). ArePlanted u seen 0 c.series kept bases levels) (old_is fill fills is) planted in
      subst (λ (u : Ordinals). ArePlanted u seen 0 c.series (kept_from u.lo kept) bases levels) (new_is fill fills is)
      (all_planted_raised o.volumes o.blocks o.lo fill fills few seen 0 c.series kept bases levels (all_few c.series (32 ^ 11) (record_few c meta)) leaves here)

  some_fill : (fills : List ℕ) → 0 < length fills → (fill : ℕ) × (rest : List ℕ) × (fills ≡ fill ∷ rest)
  some_fill [] some = absurd (omega (arith, some))
  some_fill (fill ∷ rest) some = (fill, rest, refl)

  -- none is given up
  all_wide : (k : ℕ) (series : List SeriesMeta) (held : List (List Leaf)) → AreLaid seen c.ordinals.lo c.ordinals.fills k series held → AreLaid seen c.ordinals.lo (c.ordinals.fills ++ 0 ∷ []) k series held
  all_wide k [] held are = are
  all_wide k (x ∷ series) held are = (are.0, are.1, are.2, scan_begin seen k c.ordinals.lo c.ordinals.fills are.0 are.3, are.4, all_wide (suc k) series are.1 are.5)

  live_wide : (a : ℕ) → IsLive c.ordinals a → IsLive widened a
  live_wide a live = record {
    ordinal = record { from = live.ordinal.from; to = omega (arith, live.ordinal.to, length-append c.ordinals.fills (0 ∷ [])) };
    index = kept_fill c.ordinals.fills (ordinal_of a - c.ordinals.lo) (index_of a) live.index;
  }
    where
      kept_fill : (fs : List ℕ) (i x : ℕ) → x < slice_index fs i → x < slice_index (fs ++ 0 ∷ []) i
      kept_fill [] i x below = absurd (omega (arith, below))
      kept_fill (f ∷ fs) zero x below = below
      kept_fill (f ∷ fs) (suc i) x below = kept_fill fs i x below

  laid_wide : IsLaid seen (record c { ordinals = widened }) (kept_from widened.lo kept)
  laid_wide = subst (IsLaid seen (record c { ordinals = widened })) (sym (kept_same c.ordinals seen 0 c.series kept meta.ordinals_are laid.leaves)) (record {
    rows = rows_begin seen (length c.series) c.ordinals.lo c.ordinals.fills laid.rows;
    leaves = all_wide 0 c.series kept laid.leaves;
    trees = trees_same c.ordinals widened seen seen refl live_wide (λ a live. refl) 0 c.series kept laid.trees;
  })

  all_planted_wide : (k : ℕ) (series : List SeriesMeta) (held : List (List Leaf)) (bases : List ℕ) (levels : List Lists) → ArePlanted c.ordinals seen k series held bases levels → ArePlanted widened seen k series held bases levels
  all_planted_wide k [] held bases levels are = are
  all_planted_wide k (known ∷ series) [] bases levels are = absurd are
  all_planted_wide k (known ∷ series) (leaves ∷ held) [] levels are = absurd are
  all_planted_wide k (known ∷ series) (leaves ∷ held) (base ∷ bases) [] are = absurd are
  all_planted_wide k (known ∷ series) (leaves ∷ held) (base ∷ bases) (v ∷ levels) are =
      (planted_same c.ordinals widened seen seen k base known leaves v refl (λ a live. (live_wide a live, refl)) are.0, all_planted_wide (suc k) series held bases levels are.1)

  planted_wide : (bases : List ℕ) (levels : List Lists) → ArePlanted c.ordinals seen 0 c.series kept bases levels → ArePlanted widened seen 0 c.series (kept_from widened.lo kept) bases levels
  planted_wide bases levels planted =
      subst (λ (ks : List (List Leaf)). ArePlanted widened seen 0 c.series ks bases levels) (sym (kept_same c.ordinals seen 0 c.series kept meta.ordinals_are laid.leaves)) (all_planted_wide 0 c.series kept bases levels planted)

  -- an ordinal that begins
  pub ordinal_laid : IsLaid seen (record c { ordinals = switched c.ordinals }) (kept_from (switched c.ordinals).lo kept)
  ordinal_laid = of (nat_lt c.ordinals.volumes (length c.ordinals.fills + 1)) where
    of : (b : Bool) → IsLaid seen (record c { ordinals = if b then raised else widened }) (kept_from (if b then raised else widened).lo kept)
    of true = let f = some_fill c.ordinals.fills meta.ordinals_are.some in laid_full f.0 f.1 f.2
    of false = laid_wide

  pub ordinal_planted : (bases : List ℕ) (levels : List Lists) → ArePlanted c.ordinals seen 0 c.series kept bases levels → ArePlanted (switched c.ordinals) seen 0 c.series (kept_from (switched c.ordinals).lo kept) bases levels
  ordinal_planted bases levels planted = of (nat_lt c.ordinals.volumes (length c.ordinals.fills + 1)) where
    of : (b : Bool) → ArePlanted (if b then raised else widened) seen 0 c.series (kept_from (if b then raised else widened).lo kept) bases levels
    of true = let f = some_fill c.ordinals.fills meta.ordinals_are.some in planted_full f.0 f.1 bases levels f.2 planted
    of false = planted_wide bases levels planted

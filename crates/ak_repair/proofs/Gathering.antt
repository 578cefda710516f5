-- The live leaves under what waits are those that are kept.
use Rattle.std.proofs.Common.{◌≡◌, inl, inr, ◌∙◌, ℕ, zero, suc, pred, ◌+◌, ◌-◌, ◌*◌, ◌^◌, ◌<◌, ◌≤◌, max, List, [], ◌∷◌, length, drop, get_or, map, refl, sym, ap, ap₂, subst, arith, zero-mul, div-mul-le_self}
use Rattle.std.proofs.lemmas.Bool.{cases_lt}
use Rattle.std.proofs.lemmas.Bool.Decides.{nat_tests}
use Rattle.std.proofs.lemmas.List.{map-append}
use Rattle.std.specs.List.{AllByRecursion}
use Rattle.ak_forest.proofs.Arith.{between_join, between_none, between_one, family_stop, made_none, made_split, made_zero, power_up, start_level, start_same, times_le, times_one}
use Rattle.ak_forest.specs.Numbers.{made, end, between, span}
use Rattle.ak_forest.specs.Tree.{Reference, Link, Children, IsTree, Waits, spot, width}
use Rattle.ak_image.specs.Blocks.{Seen}
use Rattle.ak_image.specs.Chains.{IsChain}
use Rattle.ak_image.specs.Laid.{AreLaid}
use Rattle.ak_image.specs.Nodes.{IsNodeAt, Reads}
use Rattle.ak_image.specs.Planted.{IsPlanted, ArePlanted, waiting_of}
use Rattle.ak_image.specs.Trees.{total_of, point_of}
use Rattle.ak_levels.specs.Pending.{Lists}
use Rattle.ak_meta.specs.declared.meta.SeriesMeta.{SeriesMeta}
use Rattle.ak_repair.specs.Under.{AllUnder, AreUnder, AreGathered, AreAllGathered}
use Rattle.ak_summary.specs.declared.summary.Summary.{Summary}
use Rattle.ak_volumes.specs.Ordinals.{Ordinals, IsLive}
use Rattle.ak_world.specs.Leaves.{Leaf}
use Rattle.ak_world.specs.Valid.{AreNumbered}
use Rattle.ak_world.specs.Views.{address_of}

all_under : (P : ℕ → List ℕ → Type 0) (rs : List Reference) (xs ys : List ℕ) → xs ≡ ys → AllUnder P rs xs → AllUnder P rs ys
all_under P rs xs ys same under = subst (AllUnder P rs) same under

module _ (o : Ordinals) (seen : Seen) (series low leaves : ℕ) (home rescue : ℕ → ℕ) (total : ℕ → ℕ → Summary) (tree : IsTree 32 o.lo series low leaves home total rescue (Reads o seen)) where
  not_live : (k j at : ℕ) → end 32 k j ≤ low → Link 32 o.lo low home k j at → ¬ IsLive o at
  not_live k j at gone link live = let dead : at < o.lo * width = link.dead gone in omega (arith, dead, live.ordinal.from)

  under_children : (k : ℕ) → ((j at : ℕ) → end 32 k j ≤ leaves → Link 32 o.lo low home k j at → AreUnder seen o k at (map home (between (max low (j * 32 ^ k)) (end 32 k j))))
      → (rs : List Reference) (c : ℕ) → (c + length rs) * 32 ^ k ≤ leaves → Children 32 o.lo low home total k c rs
      → AllUnder (AreUnder seen o k) rs (map home (between (max low (c * 32 ^ k)) ((c + length rs) * 32 ^ k)))
  under_children k one [] c fits links =
      let over : (c + 0) * 32 ^ k ≡ c * 32 ^ k = ap (λ (x : ℕ). x * 32 ^ k) (let e : c + 0 ≡ c = omega arith in e) in
      ap (map home) (between_none (max low (c * 32 ^ k)) ((c + 0) * 32 ^ k) (omega (arith, over)))
  under_children k one (r ∷ rs) c fits links =
      let more : (suc c + length rs) * 32 ^ k ≡ (c + suc (length rs)) * 32 ^ k = ap (λ (x : ℕ). x * 32 ^ k) (let e : suc c + length rs ≡ c + suc (length rs) = omega arith in e) in
      let first : end 32 k c ≤ (c + suc (length rs)) * 32 ^ k = times_le (suc c) (c + suc (length rs)) (32 ^ k) (omega arith) in
      let front : List ℕ = map home (between (max low (c * 32 ^ k)) (end 32 k c)) in
      let rest : List ℕ = map home (between (max low (end 32 k c)) ((c + suc (length rs)) * 32 ^ k)) in
      let behind : AllUnder (AreUnder seen o k) rs rest =
      all_under (AreUnder seen o k) rs (map home (between (max low (suc c * 32 ^ k)) ((suc c + length rs) * 32 ^ k))) rest (ap (λ (x : ℕ). map home (between (max low (suc c * 32 ^ k)) x)) more)
      (under_children k one rs (suc c) (omega (arith, more, fits)) links.1) in (
        front,
        rest,
        ap (map home) (sym (between_join low (c * 32 ^ k) (end 32 k c) ((c + suc (length rs)) * 32 ^ k) (times_le c (suc c) (32 ^ k) (omega arith)) first))
            ∙ map-append home (between (max low (c * 32 ^ k)) (end 32 k c)) (between (max low (end 32 k c)) ((c + suc (length rs)) * 32 ^ k)),
        one c r.child (omega (arith, first, fits)) links.0.link,
        behind,
      )

  under_link : (k j at : ℕ) → end 32 k j ≤ leaves → Link 32 o.lo low home k j at → AreUnder seen o k at (map home (between (max low (j * 32 ^ k)) (end 32 k j)))
  under_link zero j at fits link = elim (cases_lt low (end 32 0 j)) [
    | inl l ↦
        let s = tree.nodes 0 j l fits in
        let place : at ≡ spot 32 home 0 j = link.live l in
        let one : end 32 0 j ≡ suc j = times_one 32 (suc j) in
        let here : spot 32 home 0 j ≡ home j = ap (λ (x : ℕ). home (pred x) + 0) one ∙ (let z : home j + 0 ≡ home j = omega arith in z) in
        let start : max low (j * 32 ^ 0) ≡ j = omega (arith, times_one 32 j, one, l) in
        inl (subst (IsLive o) (sym place) s.read.0, ap (map home) (ap₂ between start one ∙ between_one j) ∙ ap (λ (x : ℕ). x ∷ []) (sym (place ∙ here)))
    | inr gone ↦ inr (not_live 0 j at gone link, ap (map home) (between_none (max low (j * 32 ^ 0)) (end 32 0 j) (omega (arith, gone))))
  ]
  under_link (suc k) j at fits link = elim (cases_lt low (end 32 (suc k) j)) [
    | inl l ↦
        let s = tree.nodes (suc k) j l fits in
        let family = s.body in
        let place : at ≡ spot 32 home (suc k) j = link.live l in
        let n = length s.node.references in
        let c = suc j * 32 - n in
        let size : n ≤ suc j * 32 = omega (arith, family.most) in
        let stop : (c + n) * 32 ^ k ≡ end 32 (suc k) j = family_stop 32 k j n family.most in
        let start : max low (c * 32 ^ k) ≡ max low (j * 32 ^ suc k) = start_same low 32 k j n family.most size family.missing in
        let inside : AllUnder (AreUnder seen o k) s.node.references (map home (between (max low (j * 32 ^ suc k)) (end 32 (suc k) j))) =
        all_under (AreUnder seen o k) s.node.references (map home (between (max low (c * 32 ^ k)) ((c + n) * 32 ^ k))) (map home (between (max low (j * 32 ^ suc k)) (end 32 (suc k) j))) (ap (map home) (ap₂ between start stop))
        (under_children k (under_link k) s.node.references c (omega (arith, stop, fits)) family.each) in
        inl (subst (IsLive o) (sym place) s.read.0, (s.node, subst (λ (a : ℕ). IsNodeAt seen a s.node) (sym place) s.read.1, s.of_level, inside))
    | inr gone ↦ inr (not_live (suc k) j at gone link, ap (map home) (between_none (max low (j * 32 ^ suc k)) (end 32 (suc k) j) (omega (arith, gone))))
  ]

  -- what waits of the series
  module _ (base : ℕ) (v : Lists) (older : base ≤ low) (waits : (k : ℕ) → Waits 32 o.lo low home total base leaves k (waiting_of v k)) where
    under_waiting : (k : ℕ) → AllUnder (AreUnder seen o k) (waiting_of v k) (map home (between (max low (made 32 (suc k) leaves * 32 ^ suc k)) (made 32 k leaves * 32 ^ k)))
    under_waiting k =
        let w = waits k in
        let p = max (made 32 k base) (made 32 (suc k) leaves * 32) in
        let level : max base (p * 32 ^ k) ≡ max base (made 32 (suc k) leaves * 32 ^ suc k) = start_level 32 k base (made 32 (suc k) leaves) in
        let start : max low (p * 32 ^ k) ≡ max low (made 32 (suc k) leaves * 32 ^ suc k) = omega (arith, level, older) in
        let stop : (p + length (waiting_of v k)) * 32 ^ k ≡ made 32 k leaves * 32 ^ k = ap (λ (x : ℕ). x * 32 ^ k) w.all in
        all_under (AreUnder seen o k) (waiting_of v k) (map home (between (max low (p * 32 ^ k)) ((p + length (waiting_of v k)) * 32 ^ k)))
        (map home (between (max low (made 32 (suc k) leaves * 32 ^ suc k)) (made 32 k leaves * 32 ^ k))) (ap (map home) (ap₂ between start stop))
        (under_children k (under_link k) (waiting_of v k) p (omega (arith, stop, div-mul-le_self leaves (32 ^ k))) w.each)

    gathered_below : (n : ℕ) → AreGathered seen o v n (map home (between (max low (made 32 n leaves * 32 ^ n)) leaves))
    gathered_below zero =
        let whole : made 32 0 leaves * 32 ^ 0 ≡ leaves = times_one 32 (made 32 0 leaves) ∙ made_zero 32 leaves in
        ap (map home) (between_none (max low (made 32 0 leaves * 32 ^ 0)) leaves (omega (arith, whole)))
    gathered_below (suc k) =
        let high = made 32 (suc k) leaves * 32 ^ suc k in
        let mid = made 32 k leaves * 32 ^ k in
        let split : made 32 (suc k) leaves * 32 ≤ made 32 k leaves = omega (arith, made_split 32 k leaves) in
        let power : high ≡ made 32 (suc k) leaves * 32 * 32 ^ k = power_up 32 k (made 32 (suc k) leaves) in
        let first : high ≤ mid = omega (arith, power, times_le (made 32 (suc k) leaves * 32) (made 32 k leaves) (32 ^ k) split) in (
          map home (between (max low high) mid),
          map home (between (max low mid) leaves),
          ap (map home) (sym (between_join low high mid leaves first (div-mul-le_self leaves (32 ^ k)))) ∙ map-append home (between (max low high) mid) (between (max low mid) leaves),
          under_waiting k,
          gathered_below k,
        )

    gathered_all : leaves < 32 ^ 11 → AreGathered seen o v 11 (map home (between low leaves))
    gathered_all few =
        let none : made 32 11 leaves * 32 ^ 11 ≡ 0 = ap (λ (x : ℕ). x * 32 ^ 11) (made_none 32 11 leaves (omega arith) few) ∙ zero-mul (32 ^ 11) in
        let from : max low (made 32 11 leaves * 32 ^ 11) ≡ low = omega (arith, none) in
        subst (AreGathered seen o v 11) (ap (λ (x : ℕ). map home (between x leaves)) from) (gathered_below 11)

-- ---- The addresses of leaves by their numbers

addresses_are : (first : ℕ) (leaves : List Leaf) → AreNumbered first leaves → map (address_of leaves) (span first (length leaves)) ≡ map (λ (leaf : Leaf). leaf.address) leaves
addresses_are first [] are = refl
addresses_are first (leaf ∷ leaves) are =
    ap₂ (λ (a : ℕ) (bs : List ℕ). a ∷ bs) (here leaf leaves first are.0) (behind leaf leaves (suc first) (length leaves) (omega (arith, are.0)) ∙ addresses_are (suc first) leaves are.1)
  where
    here : (x : Leaf) (ls : List Leaf) (m : ℕ) → x.number ≡ m → address_of (x ∷ ls) m ≡ x.address
    here x ls m is = grind (arith, nat_tests)

    past : (x : Leaf) (ls : List Leaf) (m : ℕ) → x.number < m → address_of (x ∷ ls) m ≡ address_of ls m
    past x ls m is = grind (arith, nat_tests)

    behind : (x : Leaf) (ls : List Leaf) (from n : ℕ) → x.number < from → map (address_of (x ∷ ls)) (span from n) ≡ map (address_of ls) (span from n)
    behind x ls from zero less = refl
    behind x ls from (suc n) less = ap₂ (λ (a : ℕ) (bs : List ℕ). a ∷ bs) (past x ls from less) (behind x ls (suc from) n (omega (arith, less)))

-- of one series
pub planted_gathered : (o : Ordinals) (seen : Seen) (series base : ℕ) (known : SeriesMeta) (leaves : List Leaf) (v : Lists) → known.leaves < 32 ^ 11 → IsChain seen o.lo series known leaves → IsPlanted o seen series known leaves base v
    → AreGathered seen o v 11 (map (λ (leaf : Leaf). leaf.address) leaves)
planted_gathered o seen series base known leaves v few chain planted =
    let low : ℕ = known.leaves - length leaves in
    let first : chain.first ≡ low = omega (arith, chain.count) in
    let long : known.leaves - low ≡ length leaves = omega (arith, chain.count) in
    let numbers : AreNumbered low leaves = subst (λ (n : ℕ). AreNumbered n leaves) first chain.numbers in
    let all : AreGathered seen o v 11 (map (address_of leaves) (between low known.leaves)) =
    gathered_all o seen series low known.leaves (address_of leaves) (point_of known.rescue) (total_of leaves) planted.grown.tree base v planted.grown.older planted.grown.waits few in
    subst (AreGathered seen o v 11) (ap (λ (n : ℕ). map (address_of leaves) (span low n)) long ∙ addresses_are low leaves numbers) all

-- of all
pub all_gathered : (o : Ordinals) (seen : Seen) (n : ℕ) (series : List SeriesMeta) (kept : List (List Leaf)) (bases : List ℕ) (levels : List Lists) → AllByRecursion (λ (known : SeriesMeta). known.leaves < 32 ^ 11) series → AreLaid seen o.lo o.fills n series kept → ArePlanted o seen n series kept bases levels
    → AreAllGathered seen o kept levels
all_gathered o seen n [] kept bases levels few laid planted = subst (λ (ks : List (List Leaf)). AreAllGathered seen o ks levels) (sym planted.0) planted.2
all_gathered o seen n (known ∷ series) [] bases levels few laid planted = absurd planted
all_gathered o seen n (known ∷ series) (leaves ∷ kept) [] levels few laid planted = absurd planted
all_gathered o seen n (known ∷ series) (leaves ∷ kept) (base ∷ bases) [] few laid planted = absurd planted
all_gathered o seen n (known ∷ series) (leaves ∷ kept) (base ∷ bases) (v ∷ levels) few laid planted =
    let first : leaves ≡ laid.0 = ap (λ (all : List (List Leaf)). get_or all 0 []) laid.2 in
    let behind : kept ≡ laid.1 = ap (λ (all : List (List Leaf)). drop 1 all) laid.2 in
    let chain : IsChain seen o.lo n known leaves = subst (IsChain seen o.lo n known) (sym first) laid.4 in
    let rest : AreLaid seen o.lo o.fills (suc n) series kept = subst (AreLaid seen o.lo o.fills (suc n) series) (sym behind) laid.5 in
    (planted_gathered o seen n base known leaves v few.0 chain planted.0, all_gathered o seen (suc n) series kept bases levels few.1 rest planted.1)

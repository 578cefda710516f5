-- What is found from a rescue point, and what lies under it.
use Rattle.std.proofs.Common.{◌≡◌, inl, inr, ℕ, zero, suc, pred, ◌+◌, ◌-◌, ◌*◌, ◌^◌, ◌<◌, ◌≤◌, max, List, [], ◌∷◌, ◌++◌, length, map, flat_map, Some, None, refl, sym, ◌∙◌, ap, ap₂, arith, div-mul-le_self, le_of_eq, zero-mul}
use Rattle.std.proofs.lemmas.Nat.{div_below}
use Rattle.std.proofs.lemmas.List.{map-append}
use Rattle.std.proofs.lemmas.Bool.{cases_lt}
use Rattle.ak_forest.specs.Numbers.{made, digit, end, span, between}
use Rattle.ak_forest.specs.Tree.{Seen, Node, Reference, Link, Elder, Children, IsTree, IsBlind, spot, follow, under, pending, gathered, width, reads_of}
use Rattle.ak_summary.specs.declared.summary.Summary.{Summary}
use Rattle.ak_forest.proofs.Arith.{fan_pos, made_end, end_made, between_append, between_none, between_one, between_join, times_le, times_one, start_same, power_up, made_mono, made_zero, made_none, made_split, start_level, family_stop}

pub follow_some : (seen : Seen) (n at : ℕ) (node : Node) → seen at ≡ Some node → follow seen (suc n) at ≡ follow seen n node.elder ++ at ∷ []
follow_some seen n at node read = rw (read, follow)

pub follow_none : (seen : Seen) (n at : ℕ) → seen at ≡ None → follow seen (suc n) at ≡ []
follow_none seen n at read = rw (read, follow)

under_leaf : (seen : Seen) (at : ℕ) (node : Node) → seen at ≡ Some node → under seen 0 at ≡ at ∷ []
under_leaf seen at node read = rw (read, under)

under_inner : (seen : Seen) (k at : ℕ) (node : Node) → seen at ≡ Some node → under seen (suc k) at ≡ flat_map (λ r. under seen k r.child) node.references
under_inner seen k at node read = rw (read, under)

under_none : (seen : Seen) (k at : ℕ) → seen at ≡ None → under seen k at ≡ []
under_none seen zero at read = rw (read, under)
under_none seen (suc k) at read = rw (read, under)

module _ (fan lo series low leaves : ℕ) (home rescue : ℕ → ℕ) (total : ℕ → ℕ → Summary) (seen : Seen) (two : 1 < fan)
    (blind : IsBlind lo seen) (tree : IsTree fan lo series low leaves home total rescue (reads_of seen)) where
  -- the first live node of a level, if it is made yet
  live_from : (k j : ℕ) → low < end fan k j → made fan k low ≤ j
  live_from k j h = let b : made fan k low < suc j = div_below low (fan ^ k) (suc j) (fan_pos fan k (omega arith)) h in omega arith

  pub live_at : (k j : ℕ) → made fan k low ≤ j → low < end fan k j
  live_at k j h = elim (cases_lt low (end fan k j)) [
    | inl l ↦ l
    | inr d ↦ let b : j < made fan k low = made_end fan k j low (omega arith) d in absurd (omega arith)
  ]

  seen_dead : (at : ℕ) → at < lo * width → seen at ≡ None
  seen_dead at h = blind.dead at h

  -- the nodes found back from an elder link
  pub followed : (k count c at : ℕ) → c ≤ made fan k leaves → count ≤ c → Elder fan lo low home k c at
      → follow seen count at ≡ map (spot fan home k) (between (max (made fan k low) (c - count)) c)
  followed k zero c at made_c fits link =
      sym (ap (map (spot fan home k)) (between_none (max (made fan k low) (c - 0)) c (omega arith)))
  followed k (suc count) zero at made_c fits link = absurd (omega arith)
  followed k (suc count) (suc j) at made_c fits link = elim (cases_lt low (end fan k j)) [
    | inl l ↦
        let stands = tree.nodes k j l (end_made fan k j leaves (omega arith) made_c) in
        let place : at ≡ spot fan home k j = link.live l in
        let read : seen at ≡ Some stands.node = ap seen place ∙ stands.read in
        let back = followed k count j stands.node.elder (omega arith) (omega arith) stands.elder in
        let from : made fan k low ≤ j = live_from k j l in
        let join : between (max (made fan k low) (suc j - suc count)) j ++ j ∷ [] ≡ between (max (made fan k low) (suc j - suc count)) (suc j) =
        ap (λ (l : List ℕ). between (max (made fan k low) (suc j - suc count)) j ++ l) (sym (between_one j))
        ∙ between_append (max (made fan k low) (suc j - suc count)) j (suc j) (omega arith) (omega arith) in
        let less : j - count ≡ suc j - suc count = omega arith in
        follow_some seen count at stands.node read ∙ (ap₂ (λ (l m : List ℕ). l ++ m) (back ∙ ap (λ (x : ℕ). map (spot fan home k) (between (max (made fan k low) x) j)) less) (ap (λ (x : ℕ). x ∷ []) place)
        ∙ sym (map-append (spot fan home k) (between (max (made fan k low) (suc j - suc count)) j) (j ∷ []))
        ∙ ap (map (spot fan home k)) join)
    | inr d ↦
        let none_read : seen at ≡ None = seen_dead at (link.dead d) in
        let gone : j < made fan k low = made_end fan k j low (omega arith) d in
        follow_none seen count at none_read ∙ (sym (ap (map (spot fan home k)) (between_none (max (made fan k low) (suc j - suc count)) (suc j) (omega arith))))
  ]

  -- the live leaves under a link
  under_children : (k : ℕ) → ((j at : ℕ) → end fan k j ≤ leaves → Link fan lo low home k j at → under seen k at ≡ map home (between (max low (j * fan ^ k)) (end fan k j)))
      → (references : List Reference) (c : ℕ) → (c + length references) * fan ^ k ≤ leaves → Children fan lo low home total k c references
      → flat_map (λ r. under seen k r.child) references ≡ map home (between (max low (c * fan ^ k)) ((c + length references) * fan ^ k))
  under_children k each [] c fits links =
      let same : c + 0 ≡ c = omega arith in
      let over : (c + 0) * fan ^ k ≡ c * fan ^ k = ap (λ (x : ℕ). x * fan ^ k) same in
      sym (ap (map home) (between_none (max low (c * fan ^ k)) ((c + 0) * fan ^ k) (omega (arith, over))))
  under_children k each (r ∷ rs) c fits links =
      let len : suc c + length rs ≡ c + suc (length rs) = omega arith in
      let more : (suc c + length rs) * fan ^ k ≡ (c + suc (length rs)) * fan ^ k = ap (λ (x : ℕ). x * fan ^ k) len in
      let first : end fan k c ≤ (c + suc (length rs)) * fan ^ k = times_le (suc c) (c + suc (length rs)) (fan ^ k) (omega arith) in
      let rest = under_children k each rs (suc c) (omega (arith, more, fits)) links.1 in
      let one = each c r.child (omega (arith, first, fits)) links.0.link in
      ap₂ (λ (l m : List ℕ). l ++ m) one (rest ∙ ap (λ (x : ℕ). map home (between (max low (suc c * fan ^ k)) x)) more)
      ∙ sym (map-append home (between (max low (c * fan ^ k)) (end fan k c)) (between (max low (end fan k c)) ((c + suc (length rs)) * fan ^ k)))
      ∙ ap (map home) (between_join low (c * fan ^ k) (end fan k c) ((c + suc (length rs)) * fan ^ k) (times_le c (suc c) (fan ^ k) (omega arith)) first)

  pub under_link : (k j at : ℕ) → end fan k j ≤ leaves → Link fan lo low home k j at → under seen k at ≡ map home (between (max low (j * fan ^ k)) (end fan k j))
  under_link zero j at fits link = elim (cases_lt low (end fan 0 j)) [
    | inl l ↦
        let stands = tree.nodes 0 j l fits in
        let place : at ≡ spot fan home 0 j = link.live l in
        let one : end fan 0 j ≡ suc j = times_one fan (suc j) in
        let here : spot fan home 0 j ≡ home j = ap (λ (x : ℕ). home (pred x) + 0) one ∙ omega arith in
        let start : max low (j * fan ^ 0) ≡ j = omega (arith, times_one fan j, one, l) in
        under_leaf seen at stands.node (ap seen place ∙ stands.read)
        ∙ ap (λ (x : ℕ). x ∷ []) (place ∙ here) ∙ ap (map home) (sym (between_one j) ∙ ap₂ between (sym start) (sym one))
    | inr d ↦ under_none seen 0 at (seen_dead at (link.dead d)) ∙ sym (ap (map home) (between_none (max low (j * fan ^ 0)) (end fan 0 j) (omega arith)))
  ]
  under_link (suc k) j at fits link = elim (cases_lt low (end fan (suc k) j)) [
    | inl l ↦
        let stands = tree.nodes (suc k) j l fits in
        let family = stands.body in
        let place : at ≡ spot fan home (suc k) j = link.live l in
        let n = length stands.node.references in
        let c = suc j * fan - n in
        let size : n ≤ suc j * fan = omega (arith, family.most, times_le 1 (suc j) fan (omega arith)) in
        let stop : (c + n) * fan ^ k ≡ end fan (suc k) j = family_stop fan k j n family.most in
        let inside = under_children k (under_link k) stands.node.references c (omega (arith, stop, fits)) family.each in
        let start : max low (c * fan ^ k) ≡ max low (j * fan ^ suc k) = start_same low fan k j n family.most size family.missing in
        under_inner seen k at stands.node (ap seen place ∙ stands.read) ∙ inside ∙ ap (map home) (ap₂ between start stop)
    | inr d ↦ under_none seen (suc k) at (seen_dead at (link.dead d)) ∙ sym (ap (map home) (between_none (max low (j * fan ^ suc k)) (end fan (suc k) j) (omega arith)))
  ]

  under_span : (k n p : ℕ) → p + n ≤ made fan k leaves → made fan k low ≤ p
      → flat_map (under seen k) (map (spot fan home k) (span p n)) ≡ map home (between (max low (p * fan ^ k)) ((p + n) * fan ^ k))
  under_span k zero p fits from =
      let over : (p + 0) * fan ^ k ≡ p * fan ^ k = ap (λ (x : ℕ). x * fan ^ k) (omega arith) in
      sym (ap (map home) (between_none (max low (p * fan ^ k)) ((p + 0) * fan ^ k) (omega (arith, over))))
  under_span k (suc n) p fits from =
      let more : (suc p + n) * fan ^ k ≡ (p + suc n) * fan ^ k = ap (λ (x : ℕ). x * fan ^ k) (omega arith) in
      let stops : end fan k p ≤ leaves = end_made fan k p leaves (omega arith) (omega arith) in
      let first : end fan k p ≤ (p + suc n) * fan ^ k = times_le (suc p) (p + suc n) (fan ^ k) (omega arith) in
      let alive : low < end fan k p = live_at k p from in
      let link : Link fan lo low home k p (spot fan home k p) = record { live = λ l. refl; dead = λ d. absurd (omega (arith, alive, d)) } in
      ap₂ (λ (l m : List ℕ). l ++ m) (under_link k p (spot fan home k p) stops link)
      (under_span k n (suc p) (omega arith) (omega arith) ∙ ap (λ (x : ℕ). map home (between (max low (suc p * fan ^ k)) x)) more)
      ∙ sym (map-append home (between (max low (p * fan ^ k)) (end fan k p)) (between (max low (end fan k p)) ((p + suc n) * fan ^ k)))
      ∙ ap (map home) (between_join low (p * fan ^ k) (end fan k p) ((p + suc n) * fan ^ k) (times_le p (suc p) (fan ^ k) (omega arith)) first)

  -- the pending nodes of a level
  pub pending_is : (k : ℕ) → pending fan seen leaves rescue k ≡ map (spot fan home k) (between (max (made fan k low) (made fan (suc k) leaves * fan)) (made fan k leaves))
  pending_is k =
      let c = made fan k leaves in
      let split : made fan (suc k) leaves * fan + digit fan k leaves ≡ c = made_split fan k leaves in
      let less : c - digit fan k leaves ≡ made fan (suc k) leaves * fan = omega (arith, split) in
      followed k (digit fan k leaves) c (rescue k) (omega arith) (omega (arith, split)) (tree.rescues k)
      ∙ ap (λ (x : ℕ). map (spot fan home k) (between (max (made fan k low) x) c)) less

  pub under_pending : (k : ℕ) → flat_map (under seen k) (pending fan seen leaves rescue k) ≡ map home (between (max low (made fan (suc k) leaves * fan ^ suc k)) (made fan k leaves * fan ^ k))
  under_pending k =
      let c = made fan k leaves in
      let p = max (made fan k low) (made fan (suc k) leaves * fan) in
      let split : made fan (suc k) leaves * fan + digit fan k leaves ≡ c = made_split fan k leaves in
      let begun : made fan k low ≤ c = made_mono fan k low leaves (omega arith) tree.fits in
      let all : p + (c - p) ≡ c = omega (arith, split, begun) in
      ap (flat_map (under seen k)) (pending_is k)
      ∙ under_span k (c - p) p (le_of_eq all) (omega arith)
      ∙ ap₂ (λ (a b : ℕ). map home (between a (b * fan ^ k))) (start_level fan k low (made fan (suc k) leaves)) all

  pub gathered_is : (n : ℕ) → gathered fan seen leaves rescue n ≡ map home (between (max low (made fan n leaves * fan ^ n)) leaves)
  gathered_is zero =
      let whole : made fan 0 leaves * fan ^ 0 ≡ leaves = times_one fan (made fan 0 leaves) ∙ made_zero fan leaves in
      sym (ap (map home) (between_none (max low (made fan 0 leaves * fan ^ 0)) leaves (omega (arith, whole))))
  gathered_is (suc k) =
      let high = made fan (suc k) leaves * fan ^ suc k in
      let mid = made fan k leaves * fan ^ k in
      let split : made fan (suc k) leaves * fan + digit fan k leaves ≡ made fan k leaves = made_split fan k leaves in
      let power : high ≡ made fan (suc k) leaves * fan * fan ^ k = power_up fan k (made fan (suc k) leaves) in
      let first : high ≤ mid = omega (arith, power, times_le (made fan (suc k) leaves * fan) (made fan k leaves) (fan ^ k) (omega (arith, split))) in
      ap₂ (λ (l m : List ℕ). l ++ m) (under_pending k) (gathered_is k)
      ∙ sym (map-append home (between (max low high) mid) (between (max low mid) leaves))
      ∙ ap (map home) (between_join low high mid leaves first (div-mul-le_self leaves (fan ^ k)))

  -- the live leaves under the pending nodes are all live leaves
  pub rescued : (n : ℕ) → leaves < fan ^ n → gathered fan seen leaves rescue n ≡ map home (between low leaves)
  rescued n high =
      let none : made fan n leaves * fan ^ n ≡ 0 = ap (λ (x : ℕ). x * fan ^ n) (made_none fan n leaves (omega arith) high) ∙ zero-mul (fan ^ n) in
      gathered_is n ∙ ap (λ (x : ℕ). map home (between x leaves)) (omega (arith, none))

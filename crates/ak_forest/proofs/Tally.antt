-- First leaves and summaries: those of a node are those of its references, joined.
use Rattle.std.proofs.Common.{◌≡◌, ◌⊎◌, inl, inr, ℕ, suc, ◌+◌, ◌-◌, ◌*◌, ◌^◌, ◌<◌, ◌≤◌, max, List, [], ◌∷◌, length, sym, ◌∙◌, ap, ap₂, arith, suc-mul, pred}
use Rattle.ak_forest.specs.Numbers.{end}
use Rattle.ak_forest.specs.Tree.{Reference, Covers, Cut, Children, Family, first_of, joined}
use Rattle.ak_summary.specs.declared.summary.Summary.{Summary}
use Rattle.ak_forest.proofs.Arith.{fan_pos, times_le, power_up, start_same, family_stop}

module _ (fan lo low : ℕ) (home : ℕ → ℕ) (total : ℕ → ℕ → Summary) (join : Summary → Summary → Summary) (ends : (a b : Summary) → (join a b).end ≡ b.end) where
  joined_ends : (k c : ℕ) (r : Reference) (rs : List Reference) → low < (c + suc (length rs)) * fan ^ k → Children fan lo low home total k c (r ∷ rs)
      → (joined join (r ∷ rs)).end ≡ (total (pred ((c + suc (length rs)) * fan ^ k)) ((c + suc (length rs)) * fan ^ k)).end
  joined_ends k c r [] live links =
      let more : (c + 1) * fan ^ k ≡ end fan k c = (let len : c + 1 ≡ suc c = omega arith in ap (λ (x : ℕ). x * fan ^ k) len) in
      links.0.ends (omega (arith, more, live)) ∙ sym (ap (λ (x : ℕ). (total (pred x) x).end) more)
  joined_ends k c r (s ∷ rs) live links =
      let len : c + suc (suc (length rs)) ≡ suc c + suc (length rs) = omega arith in
      let more : (c + suc (suc (length rs))) * fan ^ k ≡ (suc c + suc (length rs)) * fan ^ k = ap (λ (x : ℕ). x * fan ^ k) len in
      ends r.summary (joined join (s ∷ rs)) ∙ joined_ends k (suc c) s rs (omega (arith, more, live)) links.1 ∙ sym (ap (λ (x : ℕ). (total (pred x) x).end) more)

  -- the summary of a node's references ends with its last leaf
  pub node_ends : (k j : ℕ) (rs : List Reference) → low < end fan (suc k) j → Family fan lo low home total k j rs
      → (joined join rs).end ≡ (total (pred (end fan (suc k) j)) (end fan (suc k) j)).end
  node_ends k j [] live family = absurd (omega (arith, family.some))
  node_ends k j (r ∷ rs) live family =
      let n = suc (length rs) in
      let stop : ((suc j * fan - n) + n) * fan ^ k ≡ end fan (suc k) j = family_stop fan k j n family.most in
      joined_ends k (suc j * fan - n) r rs (omega (arith, stop, live)) family.each ∙ ap (λ (x : ℕ). (total (pred x) x).end) stop

module _ (fan lo low bound : ℕ) (home : ℕ → ℕ) (total : ℕ → ℕ → Summary) (join : Summary → Summary → Summary) (pos : 0 < fan)
    (adds : (i j k : ℕ) → low ≤ i → i < j → j < k → k ≤ bound → join (total i j) (total j k) ≡ total i k) where
  record Joined (k c stop : ℕ) (references : List Reference) : Type 0 where
    some : low < end fan k c
    begins : first_of references ≡ home (max low (c * fan ^ k))
    worth : joined join references ≡ total (max low (c * fan ^ k)) stop

  room : (k c : ℕ) → c * fan ^ k < end fan k c
  room k c = omega (arith, suc-mul c (fan ^ k), fan_pos fan k pos)

  combined : (k c : ℕ) (r : Reference) (rs : List Reference) → (c + suc (length rs)) * fan ^ k ≤ bound → Children fan lo low home total k c (r ∷ rs)
      → Joined k c ((c + suc (length rs)) * fan ^ k) (r ∷ rs) ⊎ Cut fan lo low k c r.first
  combined k c r [] fits links = elim links.0.tally [
    | inl covers ↦
        let is : suc c ≡ c + 1 = omega arith in
        inl record { some = covers.some; begins = covers.begins; worth = covers.worth ∙ ap (λ (x : ℕ). total (max low (c * fan ^ k)) (x * fan ^ k)) is }
    | inr cut ↦ inr cut
  ]
  combined k c r (s ∷ rs) fits links =
      let len : suc c + suc (length rs) ≡ c + suc (suc (length rs)) = omega arith in
      let more : (suc c + suc (length rs)) * fan ^ k ≡ (c + suc (suc (length rs))) * fan ^ k = ap (λ (x : ℕ). x * fan ^ k) len in
      let rest = combined k (suc c) s rs (omega (arith, more, fits)) links.1 in
      elim links.0.tally [
        | inl covers ↦ elim rest [
          | inl after ↦
              let f = max low (c * fan ^ k) in
              let begin : max low (suc c * fan ^ k) ≡ end fan k c = omega (arith, covers.some) in
              let later : joined join (s ∷ rs) ≡ total (end fan k c) ((c + suc (suc (length rs))) * fan ^ k) = after.worth ∙ ap₂ total begin more in
              let least : low ≤ f = omega arith in
              let below : f < end fan k c = omega (arith, covers.some, room k c) in
              let next : suc (suc c) * fan ^ k ≤ (c + suc (suc (length rs))) * fan ^ k = times_le (suc (suc c)) (c + suc (suc (length rs))) (fan ^ k) (omega arith) in
              let above : end fan k c < (c + suc (suc (length rs))) * fan ^ k = omega (arith, next, room k (suc c)) in
              inl record { some = covers.some; begins = covers.begins; worth = ap₂ join covers.worth later ∙ adds f (end fan k c) ((c + suc (suc (length rs))) * fan ^ k) least below above fits }
          | inr cut ↦ absurd (omega (arith, cut.begun, covers.some))
        ]
        | inr cut ↦ inr cut
      ]

  -- the reference to a node, from its own references
  pub node_tally : (k j : ℕ) (rs : List Reference) → end fan (suc k) j ≤ bound → low < end fan (suc k) j → Family fan lo low home total k j rs
      → Covers fan low home total (suc k) j (first_of rs) (joined join rs) ⊎ Cut fan lo low (suc k) j (first_of rs)
  node_tally k j [] fits live family = absurd (omega (arith, family.some))
  node_tally k j (r ∷ rs) fits live family =
      let n = suc (length rs) in
      let c = suc j * fan - n in
      let size : n ≤ suc j * fan = omega (arith, family.most, times_le 1 (suc j) fan (omega arith)) in
      let stop : (c + n) * fan ^ k ≡ end fan (suc k) j = family_stop fan k j n family.most in
      let start : max low (c * fan ^ k) ≡ max low (j * fan ^ suc k) = start_same low fan k j n family.most size family.missing in
      elim (combined k c r rs (omega (arith, stop, fits)) family.each) [
        | inl one ↦ inl record { some = live; begins = one.begins ∙ ap home start; worth = one.worth ∙ ap₂ total start stop }
        | inr cut ↦
            let less : j * fan ≤ c = omega (arith, suc-mul j fan, family.most) in
            let under : j * fan * fan ^ k ≤ c * fan ^ k = times_le (j * fan) c (fan ^ k) less in
            inr record { begun = omega (arith, under, power_up fan k j, cut.begun); dead = cut.dead }
      ]

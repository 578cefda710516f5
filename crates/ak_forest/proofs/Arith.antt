-- Quotients by powers of the fan-out.
use Rattle.std.proofs.Common.{◌≡◌, inl, inr, ℕ, zero, suc, ◌+◌, ◌-◌, ◌*◌, ◌/◌, ◌^◌, ◌<◌, ◌≤◌, List, [], ◌∷◌, ◌++◌, length, refl, sym, ◌∙◌, ap, ap₂, max, arith, pow-suc, mul-pos, div-add-mod', div-mul-le_self, mul-le-mul_right, mul_comm, mul_assoc, suc-mul}
use Rattle.std.proofs.Math.Nat.{div-div-eq-div-mul, pow-zero, div-one}
use Rattle.std.proofs.lemmas.Nat.{div_below, le-div}
use Rattle.std.proofs.lemmas.Bool.{cases_lt}
use Rattle.ak_forest.specs.Numbers.{made, digit, end, span, between}

pub fan_pos : (fan k : ℕ) → 0 < fan → 0 < fan ^ k
fan_pos fan zero p = omega (arith, pow-zero fan)
fan_pos fan (suc k) p = omega (arith, pow-suc fan k, mul-pos (fan_pos fan k p) p)

-- a node is made where its last leaf is
pub made_end : (fan k j leaves : ℕ) → 0 < fan → end fan k j ≤ leaves → j < made fan k leaves
made_end fan k j leaves p h = le-div (suc j) leaves (fan ^ k) (fan_pos fan k p) h

pub end_made : (fan k j leaves : ℕ) → 0 < fan → j < made fan k leaves → end fan k j ≤ leaves
end_made fan k j leaves p h = omega (arith, mul-le-mul_right (fan ^ k) h, div-mul-le_self leaves (fan ^ k))

pub made_suc : (fan k leaves : ℕ) → made fan (suc k) leaves ≡ made fan k leaves / fan
made_suc fan k leaves = rw (pow-suc fan k) (sym (div-div-eq-div-mul leaves (fan ^ k) fan))

pub span_append : (from m n : ℕ) → span from m ++ span (from + m) n ≡ span from (m + n)
span_append from zero n = ap₂ span (omega arith) (omega arith)
span_append from (suc m) n =
    let len : suc m + n ≡ suc (m + n) = omega arith in
    let place : from + suc m ≡ suc from + m = omega arith in
    rw (len, place) (ap (λ (l : List ℕ). from ∷ l) (span_append (suc from) m n))

-- two neighbouring stretches
pub between_append : (a b c : ℕ) → a ≤ b → b ≤ c → between a b ++ between b c ≡ between a c
between_append a b c h k =
    let place : b ≡ a + (b - a) = omega arith in
    let len : (b - a) + (c - b) ≡ c - a = omega arith in
    ap (λ (x : ℕ). between a b ++ span x (c - b)) place ∙ span_append a (b - a) (c - b) ∙ ap (span a) len

pub between_none : (a b : ℕ) → b ≤ a → between a b ≡ []
between_none a b h = let z : b - a ≡ 0 = omega arith in ap (span a) z

pub between_one : (a : ℕ) → between a (suc a) ≡ a ∷ []
between_one a = let z : suc a - a ≡ 1 = omega arith in ap (span a) z

-- what is left of two stretches after those below low are gone
pub between_join : (low a b c : ℕ) → a ≤ b → b ≤ c → between (max low a) b ++ between (max low b) c ≡ between (max low a) c
between_join low a b c h k = elim (cases_lt low b) [
  | inl below ↦ let m : max low b ≡ b = omega arith in rw m (between_append (max low a) b c (omega arith) k)
  | inr past ↦
      let m : max low b ≡ low = omega arith in
      let n : max low a ≡ low = omega arith in
      rw (m, n) (ap (λ (l : List ℕ). l ++ between low c) (between_none low b past))
]

pub times_le : (a b m : ℕ) → a ≤ b → a * m ≤ b * m
times_le a b m h = mul-le-mul_right m h

pub times_one : (fan j : ℕ) → j * fan ^ 0 ≡ j
times_one fan j = rw (pow-zero fan) (omega arith)

pub power_up : (fan k m : ℕ) → m * fan ^ suc k ≡ m * fan * fan ^ k
power_up fan k m = ap (λ (x : ℕ). m * x) (pow-suc fan k ∙ mul_comm (fan ^ k) fan) ∙ sym (mul_assoc m fan (fan ^ k))

-- the references of a node end where it does
pub family_stop : (fan k j n : ℕ) → n ≤ fan → ((suc j * fan - n) + n) * fan ^ k ≡ end fan (suc k) j
family_stop fan k j n most =
    let all : (suc j * fan - n) + n ≡ suc j * fan = omega (arith, most, suc-mul j fan) in
    ap (λ (x : ℕ). x * fan ^ k) all ∙ sym (power_up fan k (suc j))

-- where the references of a node leave children out, these are dead
pub start_same : (low fan k j n : ℕ) → n ≤ fan → n ≤ suc j * fan → (n < fan → (suc j * fan - n) * fan ^ k ≤ low) → max low ((suc j * fan - n) * fan ^ k) ≡ max low (j * fan ^ suc k)
start_same low fan k j n most size missing = elim (cases_lt n fan) [
  | inl few ↦
      let dead = missing few in
      let less : j * fan ≤ suc j * fan - n = omega (arith, few, suc-mul j fan) in
      let under : j * fan * fan ^ k ≤ (suc j * fan - n) * fan ^ k = times_le (j * fan) (suc j * fan - n) (fan ^ k) less in
      let power : j * fan ^ suc k ≡ j * fan * fan ^ k = power_up fan k j in
      omega (arith, dead, under, power)
  | inr all ↦
      let same : suc j * fan - n ≡ j * fan = omega (arith, all, most, suc-mul j fan) in
      let power : j * fan ^ suc k ≡ j * fan * fan ^ k = power_up fan k j in
      ap (λ (x : ℕ). max low (x * fan ^ k)) same ∙ ap (max low) (sym power)
]

pub made_mono : (fan k a b : ℕ) → 0 < fan → a ≤ b → made fan k a ≤ made fan k b
made_mono fan k a b p h = le-div (made fan k a) b (fan ^ k) (fan_pos fan k p) (omega (arith, div-mul-le_self a (fan ^ k), h))

pub made_zero : (fan n : ℕ) → made fan 0 n ≡ n
made_zero fan n = rw (pow-zero fan) (div-one n)

pub made_split : (fan k n : ℕ) → made fan (suc k) n * fan + digit fan k n ≡ made fan k n
made_split fan k n = ap (λ (x : ℕ). x * fan + digit fan k n) (made_suc fan k n) ∙ div-add-mod' (made fan k n) fan

pub made_none : (fan n leaves : ℕ) → 0 < fan → leaves < fan ^ n → made fan n leaves ≡ 0
made_none fan n leaves p h = let b : made fan n leaves < 1 = div_below leaves (fan ^ n) 1 (fan_pos fan n p) (omega (arith, h)) in omega arith

-- the pending nodes of a level begin at a dead one's end or at a whole node of the level above
pub start_level : (fan k low m : ℕ) → max low (max (made fan k low) (m * fan) * fan ^ k) ≡ max low (m * fan ^ suc k)
start_level fan k low m =
    let power : m * fan ^ suc k ≡ m * fan * fan ^ k = power_up fan k m in
    let under : made fan k low * fan ^ k ≤ low = div-mul-le_self low (fan ^ k) in
    elim (cases_lt (made fan k low) (m * fan)) [
      | inl below ↦
          let is : max (made fan k low) (m * fan) ≡ m * fan = omega (arith, below) in
          ap (λ (x : ℕ). max low (x * fan ^ k)) is ∙ ap (max low) (sym power)
      | inr past ↦
          let is : max (made fan k low) (m * fan) ≡ made fan k low = omega (arith, past) in
          let less : m * fan * fan ^ k ≤ made fan k low * fan ^ k = times_le (m * fan) (made fan k low) (fan ^ k) past in
          ap (λ (x : ℕ). max low (x * fan ^ k)) is ∙ omega (arith, power, under, less)
    ]

pub length_span : (from n : ℕ) → length (span from n) ≡ n
length_span from zero = refl
length_span from (suc n) = ap suc (length_span (suc from) n)

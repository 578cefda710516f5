-- What a text of a step reads as, by the digits at its front.
use Rattle.std.proofs.Common.{◌≡◌, ℕ, ◌*◌, ◌^◌, ◌<◌, ◌≤◌, ◌↔◌, min, inl, inr, List, ◌++◌, length, get_or, take, drop, Option, Some, None, ap, ap₂, sym, subst, ◌∙◌, arith, take-append-drop, length-take-le, mul-le-mul_right}
use Rattle.std.proofs.lemmas.Bool.{cases_order}
use Rattle.std.specs.Char.{digit_value}
use Rattle.std.specs.Str.Parse.{AllDigits, IsNumeral, digits_value}
use Rattle.ak_time.specs.Steps.{IsUnit, ReadsStep}
use Rattle.ak_time.proofs.Splits.{step_split}

-- where the digits at the front of a text end, the digits, and what stands behind them
pub record Front (text : List ℕ) (i : ℕ) (ds u : List ℕ) : Type 0 where
  pub within : i ≤ length text
  pub digits : AllDigits 10 (take i text)
  pub end : i < length text → 10 ≤ digit_value (get_or text i 0)
  pub front : ds ≡ take i text
  pub behind : u ≡ drop i text

parts_same : (text : List ℕ) (i : ℕ) (ds u : List ℕ) (f : Front text i ds u) (n : ℕ) (s : ReadsStep text n) → (ds ≡ s.digits) × (u ≡ s.unit)
parts_same text i ds u f n s =
    let split = step_split text i n s f.within f.digits f.end in
    (f.front ∙ split.0, f.behind ∙ split.1)

pub no_long : (text : List ℕ) (i : ℕ) (ds u : List ℕ) (f : Front text i ds u) → 20 < i → (n : ℕ) → ¬ (ReadsStep text n)
no_long text i ds u f long n s =
    let same = parts_same text i ds u f n s in
    let lengths : length ds ≡ length s.digits = ap length same.0 in
    let front : length ds ≡ length (take i text) = ap length f.front in
    omega (arith, length-take-le i text f.within, s.few)

pub no_digits : (text : List ℕ) (i : ℕ) (ds u : List ℕ) (f : Front text i ds u) → ¬ (IsNumeral 10 ds) → (n : ℕ) → ¬ (ReadsStep text n)
no_digits text i ds u f never n s = never (subst (IsNumeral 10) (sym (parts_same text i ds u f n s).0) s.numeral)

pub no_unit : (text : List ℕ) (i : ℕ) (ds u : List ℕ) (f : Front text i ds u) (o : Option ℕ) → o ≡ None → ((n : ℕ) → (o ≡ Some n) ↔ IsUnit u n) → (n : ℕ) → ¬ (ReadsStep text n)
no_unit text i ds u f o none unit n s =
    let known : o ≡ Some s.size = (unit s.size).1 (subst (λ (x : List ℕ). IsUnit x s.size) (sym (parts_same text i ds u f n s).1) s.known) in
    cc

pub step_value : (text : List ℕ) (i : ℕ) (ds u : List ℕ) (f : Front text i ds u) (o : Option ℕ) (size : ℕ) → o ≡ Some size → ((n : ℕ) → (o ≡ Some n) ↔ IsUnit u n) → i ≤ 20 → IsNumeral 10 ds
    → (n : ℕ) → ReadsStep text n ↔ (n ≡ digits_value 10 ds * size)
step_value text i ds u f o size some unit few numeral n = (
  λ s. let same = parts_same text i ds u f n s in
      let known : o ≡ Some s.size = (unit s.size).1 (subst (λ (x : List ℕ). IsUnit x s.size) (sym same.1) s.known) in
      let sizes : s.size ≡ size = cc in
      s.value ∙ ap₂ (λ xs k. digits_value 10 xs * k) (sym same.0) sizes,
  λ e. record {
    digits = ds;
    unit = u;
    size = size;
    whole = sym (take-append-drop i text) ∙ ap₂ (λ xs ys. xs ++ ys) (sym f.front) (sym f.behind);
    numeral = numeral;
    few = (let front : length ds ≡ length (take i text) = ap length f.front in omega (arith, length-take-le i text f.within));
    known = (unit size).0 some;
    value = e;
  },
)

pub unit_some : (u : List ℕ) (n : ℕ) → IsUnit u n → 1 ≤ n
unit_some u n h = grind arith

-- a product that fits is that of the number itself
pub product_same : (v size : ℕ) → 1 ≤ size → min v (2 ^ 64) * size < 2 ^ 64 → min v (2 ^ 64) * size ≡ v * size
product_same v size some small =
    elim (cases_order v (2 ^ 64)) [
      | inl e ↦ ap (λ x. x * size) (let same : min v (2 ^ 64) ≡ v = omega arith in same)
      | inr (inl lt) ↦ ap (λ x. x * size) (let same : min v (2 ^ 64) ≡ v = omega arith in same)
      | inr (inr gt) ↦ (let most : min v (2 ^ 64) ≡ 2 ^ 64 = omega arith in let product : 2 ^ 64 * size < 2 ^ 64 = subst (λ (x : ℕ). x * size < 2 ^ 64) most small in absurd (omega arith))
    ]

pub product_large : (v size : ℕ) → 2 ^ 64 ≤ min v (2 ^ 64) * size → 2 ^ 64 ≤ v * size
product_large v size large = let less : min v (2 ^ 64) ≤ v = omega arith in omega (arith, mul-le-mul_right size less)

pub settle_some : (R : ℕ → Type 0) (v w : ℕ) → w ≡ v → ((n : ℕ) → R n ↔ (n ≡ v)) → 1 ≤ v → v < 2 ^ 64 → (n : ℕ) → (Some w ≡ Some n) ↔ (R n × (1 ≤ n) × (n < 2 ^ 64))
settle_some R v w e f low high n = (
  λ is. let same : n ≡ v = cc in ((f n).1 same, omega arith, omega arith),
  λ h. let same : n ≡ v = (f n).0 h.0 in ap Some (e ∙ sym same),
)

pub settle_none : (R : ℕ → Type 0) (o : Option ℕ) → o ≡ None → ((n : ℕ) → R n → 1 ≤ n → n < 2 ^ 64 → ⊥) → (n : ℕ) → (o ≡ Some n) ↔ (R n × (1 ≤ n) × (n < 2 ^ 64))
settle_none R o none never n = (λ is. cc, λ h. absurd (never n h.0 h.1 h.2))

capped : (v size number : ℕ) → number ≡ min v (2 ^ 64) → 1 ≤ size → number * size < 2 ^ 64 → number * size ≡ v * size
capped v size number e some small =
    let product : min v (2 ^ 64) * size < 2 ^ 64 = subst (λ (x : ℕ). x * size < 2 ^ 64) e small in
    ap (λ x. x * size) e ∙ product_same v size some product

pub finish_some : (R : ℕ → Type 0) (v size number w : ℕ) → number ≡ min v (2 ^ 64) → 1 ≤ size → number * size < 2 ^ 64 → w ≡ number * size → ¬ (w ≡ 0) → ((n : ℕ) → R n ↔ (n ≡ v * size))
    → (n : ℕ) → (Some w ≡ Some n) ↔ (R n × (1 ≤ n) × (n < 2 ^ 64))
finish_some R v size number w e some small is other f =
    let same : number * size ≡ v * size = capped v size number e some small in
    settle_some R (v * size) w (is ∙ same) f (omega arith) (omega arith)

pub finish_zero : (R : ℕ → Type 0) (v size number w : ℕ) → number ≡ min v (2 ^ 64) → 1 ≤ size → number * size < 2 ^ 64 → w ≡ number * size → w ≡ 0 → ((n : ℕ) → R n ↔ (n ≡ v * size))
    → (n : ℕ) → R n → 1 ≤ n → n < 2 ^ 64 → ⊥
finish_zero R v size number w e some small is zero f n reads low high =
    let same : number * size ≡ v * size = capped v size number e some small in
    let value : n ≡ v * size = (f n).0 reads in
    omega arith

pub finish_large : (R : ℕ → Type 0) (v size number : ℕ) → number ≡ min v (2 ^ 64) → ¬ (number * size < 2 ^ 64) → ((n : ℕ) → R n ↔ (n ≡ v * size))
    → (n : ℕ) → R n → 1 ≤ n → n < 2 ^ 64 → ⊥
finish_large R v size number e large f n reads low high =
    let over : 2 ^ 64 ≤ number * size = omega arith in
    let product : 2 ^ 64 ≤ min v (2 ^ 64) * size = subst (λ (x : ℕ). 2 ^ 64 ≤ x * size) e over in
    let value : n ≡ v * size = (f n).0 reads in
    omega (arith, product_large v size product)

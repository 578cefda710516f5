-- Decimal digits, and numbers that are kept up to a greatest one.
use Rattle.std.proofs.Common.{◌≡◌, ℕ, zero, suc, ◌+◌, ◌-◌, ◌*◌, ◌^◌, ◌<◌, ◌≤◌, min, inl, inr, true, false, List, [], ◌∷◌, ◌++◌, length, get_or, take, drop, refl, sym, ap, subst, ◌∙◌, arith, take-suc, pow-suc, le-mul_of_pos_right, length-take-le}
use Rattle.std.proofs.Math.Nat.{pow-le-pow_right}
use Rattle.std.proofs.lemmas.Bool.{cases_lt}
use Rattle.std.proofs.lemmas.Int.Digits.{digits_value-lt}
use Rattle.std.proofs.lemmas.Bool.Decides.{nat_tests}
use Rattle.std.specs.Char.{is_ascii_digit, digit_value}
use Rattle.std.specs.Str.Parse.{AllDigits, digits_value_after}
use Rattle.ak_base.specs.Values.{AreZeros}

pub digit_worth : (c : ℕ) → is_ascii_digit c ≡ true → (digit_value c ≡ c - 48) × (digit_value c < 10) × (48 ≤ c)
digit_worth c h = grind (arith, nat_tests)

pub no_digit : (c : ℕ) → is_ascii_digit c ≡ false → 10 ≤ digit_value c
no_digit c h = grind (arith, nat_tests)

pub digit-at : (ds : List ℕ) (i : ℕ) → AllDigits 10 ds → i < length ds → digit_value (get_or ds i 0) < 10
digit-at [] i h k = absurd (omega arith)
digit-at (c ∷ cs) zero h k = h.0
digit-at (c ∷ cs) (suc i) h k = digit-at cs i h.1 (omega arith)

-- digits behind digits
pub after-append : (n : ℕ) (xs ys : List ℕ) → digits_value_after 10 n (xs ++ ys) ≡ digits_value_after 10 (digits_value_after 10 n xs) ys
after-append n [] ys = refl
after-append n (x ∷ xs) ys = after-append (n * 10 + digit_value x) xs ys

pub after_more : (n : ℕ) (ds : List ℕ) (i : ℕ) → i < length ds → digits_value_after 10 n (take (i + 1) ds) ≡ digits_value_after 10 n (take i ds) * 10 + digit_value (get_or ds i 0)
after_more n ds i h =
    let s : i + 1 ≡ suc i = omega arith in
    ap (λ k. digits_value_after 10 n (take k ds)) s ∙ ap (digits_value_after 10 n) (take-suc ds i 0 h) ∙ after-append n (take i ds) (get_or ds i 0 ∷ [])

-- digits behind two numbers that are kept as the same one
pub after_kept : (m n : ℕ) (ds : List ℕ) → min m (2 ^ 64 - 1) ≡ min n (2 ^ 64 - 1) → min (digits_value_after 10 m ds) (2 ^ 64 - 1) ≡ min (digits_value_after 10 n ds) (2 ^ 64 - 1)
after_kept m n [] e = e
after_kept m n (d ∷ ds) e = after_kept (m * 10 + digit_value d) (n * 10 + digit_value d) ds (omega (arith, e))

tens_rise : (ds : List ℕ) → length ds < 19 → 10 ^ length ds ≤ 10 ^ 18
tens_rise ds few =
    let ten : 0 < 10 = omega arith in
    let less : length ds ≤ 18 = omega arith in
    pow-le-pow_right ten less

-- fewer than 19 digits write a number below 10 ^ 18
pub short_below : (ds : List ℕ) → AllDigits 10 ds → length ds < 19 → digits_value_after 10 0 ds < 10 ^ 18
short_below ds digits few = omega (arith, digits_value-lt 10 ds digits, tens_rise ds few)

pub short_more : (text : List ℕ) (i n : ℕ) → length text ≤ 19 → i < length text → AllDigits 10 (take i text) → n ≡ digits_value_after 10 0 (take i text) → n < 10 ^ 18
short_more text i n few within digits is = omega (arith, short_below (take i text) digits (omega (arith, length-take-le i text (omega arith))), is)

pub tens_pos : (k : ℕ) → 0 < 10 ^ k
tens_pos zero = omega arith
tens_pos (suc k) = rw pow-suc (omega (arith, tens_pos k))

large : (n p : ℕ) → 0 < p → 2 ^ 64 - 1 ≤ n → 2 ^ 64 - 1 ≤ n * p
large n p h k = omega (arith, k, le-mul_of_pos_right n h)

-- products of two numbers that are kept as the same one
pub times_kept : (m n p : ℕ) → 0 < p → min m (2 ^ 64 - 1) ≡ min n (2 ^ 64 - 1) → min (m * p) (2 ^ 64 - 1) ≡ min (n * p) (2 ^ 64 - 1)
times_kept m n p h e =
    elim (cases_lt m (2 ^ 64 - 1)) [
      | inl lt ↦ (let same : m ≡ n = omega (arith, e) in ap (λ x. min (x * p) (2 ^ 64 - 1)) same)
      | inr ge ↦ (let other : 2 ^ 64 - 1 ≤ n = omega (arith, e) in omega (arith, large m p h ge, large n p h other))
    ]

pub zero-at : (ds : List ℕ) (i : ℕ) → AreZeros ds → i < length ds → get_or ds i 0 ≡ 48
zero-at [] i h k = absurd (omega arith)
zero-at (c ∷ cs) zero h k = h.0
zero-at (c ∷ cs) (suc i) h k = zero-at cs i h.1 (omega arith)

zeros_push : (ds : List ℕ) (c : ℕ) → AreZeros ds → c ≡ 48 → AreZeros (ds ++ c ∷ [])
zeros_push [] c h e = (e, tt)
zeros_push (d ∷ ds) c h e = (h.0, zeros_push ds c h.1 e)

pub zeros_more : (ds : List ℕ) (i : ℕ) → i < length ds → AreZeros (take i ds) → get_or ds i 0 ≡ 48 → AreZeros (take (i + 1) ds)
zeros_more ds i h zeros e =
    let s : suc i ≡ i + 1 = omega arith in
    subst (λ n. AreZeros (take n ds)) s (subst AreZeros (sym (take-suc ds i 0 h)) (zeros_push (take i ds) (get_or ds i 0) zeros e))

-- digits, and zeros behind them, are digits
pub digits_zeros : (k : ℕ) (ds : List ℕ) → AllDigits 10 (take k ds) → AreZeros (drop k ds) → AllDigits 10 ds
digits_zeros k [] h z = tt
digits_zeros zero (d ∷ ds) h z =
    let low : digit_value 48 < 10 = omega arith in
    (subst (λ (x : ℕ). digit_value x < 10) (sym z.0) low, digits_zeros zero ds tt z.1)
digits_zeros (suc k) (d ∷ ds) h z = (h.0, digits_zeros k ds h.1 z)

pub digits-take : (k : ℕ) (ds : List ℕ) → AllDigits 10 ds → AllDigits 10 (take k ds)
digits-take zero ds h = tt
digits-take (suc k) [] h = tt
digits-take (suc k) (d ∷ ds) h = (h.0, digits-take k ds h.1)

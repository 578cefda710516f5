-- Decimal digits and the numbers that they write.
use Rattle.std.proofs.Common.{◌≡◌, ℕ, zero, suc, ◌+◌, ◌-◌, ◌*◌, ◌^◌, ◌<◌, ◌≤◌, true, false, List, [], ◌∷◌, length, get_or, refl, sym, ap, ap₂, ◌∙◌, arith, pow-add, pow-suc, le-mul_of_pos_right, mul-lt-mul_of_pos_right}
use Rattle.std.proofs.lemmas.Bool.Decides.{nat_tests}
use Rattle.std.specs.Char.{is_ascii_digit, digit_value}
use Rattle.std.specs.Str.Parse.{AllDigits, digits_value, digits_value_after}

pub digit_worth : (c : ℕ) → is_ascii_digit c ≡ true → (digit_value c ≡ c - 48) × (digit_value c < 10) × (48 ≤ c)
digit_worth c h = grind (arith, nat_tests)

pub digit_byte : (c : ℕ) → digit_value c < 10 → c ≡ digit_value c + 48
digit_byte c h = grind (arith, nat_tests)

pub no_digit : (c : ℕ) → is_ascii_digit c ≡ false → 10 ≤ digit_value c
no_digit c h = grind (arith, nat_tests)

pub digit-at : (ds : List ℕ) (i : ℕ) → AllDigits 10 ds → i < length ds → digit_value (get_or ds i 0) < 10
digit-at [] i h k = absurd (omega arith)
digit-at (c ∷ cs) zero h k = h.0
digit-at (c ∷ cs) (suc i) h k = digit-at cs i h.1 (omega arith)

-- digits behind two numbers write the same number only if the digits and the numbers are the same
after_injective : (a b : List ℕ) (m n : ℕ) → length a ≡ length b → AllDigits 10 a → AllDigits 10 b → digits_value_after 10 m a ≡ digits_value_after 10 n b → (a ≡ b) × (m ≡ n)
after_injective [] [] m n l p q e = (refl, e)
after_injective [] (d ∷ ds) m n l p q e = absurd (omega arith)
after_injective (c ∷ cs) [] m n l p q e = absurd (omega arith)
after_injective (c ∷ cs) (d ∷ ds) m n l p q e =
    let short : length cs ≡ length ds = omega arith in
    let rest = after_injective cs ds (m * 10 + digit_value c) (n * 10 + digit_value d) short p.1 q.1 e in
    let first : digit_value c < 10 = p.0 in
    let second : digit_value d < 10 = q.0 in
    let wholes : m * 10 + digit_value c ≡ n * 10 + digit_value d = rest.1 in
    let same : m ≡ n = omega arith in
    let value : digit_value c ≡ digit_value d = omega arith in
    let byte : c ≡ d = digit_byte c first ∙ (ap (λ v. v + 48) value ∙ sym (digit_byte d second)) in
    (ap₂ (λ x xs. x ∷ xs) byte rest.0, same)

-- as many digits that write the same number are the same digits
pub digits_injective : (a b : List ℕ) → length a ≡ length b → AllDigits 10 a → AllDigits 10 b → digits_value 10 a ≡ digits_value 10 b → a ≡ b
digits_injective a b l p q e = (after_injective a b 0 0 l p q e).0

tens_pos : (k : ℕ) → 0 < 10 ^ k
tens_pos zero = omega arith
tens_pos (suc k) = rw pow-suc (omega (arith, tens_pos k))

-- powers of ten up to the ninth
tens_whole : (k : ℕ) → k ≤ 9 → 10 ^ k * 10 ^ (9 - k) ≡ 1_000_000_000
tens_whole k few = sym (pow-add 10 k (9 - k)) ∙ (let e : k + (9 - k) ≡ 9 = omega arith in ap (λ e. 10 ^ e) e)

pub tens_small : (k : ℕ) → k ≤ 9 → 10 ^ k ≤ 1_000_000_000
tens_small k few = omega (arith, tens_whole k few, le-mul_of_pos_right (10 ^ k) (tens_pos (9 - k)))

-- a fraction of at most nine digits is less than a second
pub fraction_small : (n k : ℕ) → k ≤ 9 → n < 10 ^ k → n * 10 ^ (9 - k) < 1_000_000_000
fraction_small n k few h = omega (arith, mul-lt-mul_of_pos_right h (tens_pos (9 - k)), tens_whole k few)

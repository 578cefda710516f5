-- How values and names are written.
use Rattle.std.proofs.Common.{ℕ, zero, suc, ◌≡◌, ◌≢◌, ◌∙◌, ◌<◌, ◌≤◌, ◌^◌, ◌-◌, ◌*◌, ◌+◌, ◌==◌, Bool, true, false, ◌||◌, if◌then◌else◌, List, [], ◌∷◌, ◌++◌, length, replicate, take, get_or, inl, inr, refl, ap, ap₂, sym, subst, arith, append_assoc, Result, Ok, Err, OnOk}
use Rattle.std.specs.Fmt.{decimal}
use Rattle.std.specs.List.{list_any}
use Rattle.std.specs.Char.{digit_value}
use Rattle.std.specs.Str.Parse.{digits_value_after}
use Rattle.std.proofs.lemmas.Fmt.{decimal_is_IsNumeral, length-decimal-le}
use Rattle.std.proofs.lemmas.Bool.{cases_Bool}
use Rattle.std.proofs.lemmas.List.{take_more, take-replicate}
use Rattle.std.proofs.lemmas.Bool.Decides.{nat_tests}
use Rattle.ak_base.specs.RowTexts.{trimmed, padded, fraction_text}

-- not a `0`
abbrev pub is_other : ℕ → Bool
is_other b = if b == 48 then false else true

-- ---- Zeros at the end

any_zero : (ds : List ℕ) → list_any is_other (ds ++ 48 ∷ []) ≡ list_any is_other ds
any_zero [] = refl
any_zero (d ∷ ds) = ap (λ b. is_other d || b) (any_zero ds)

pub trimmed_zero : (ds : List ℕ) → trimmed (ds ++ 48 ∷ []) ≡ trimmed ds
trimmed_zero [] = refl
trimmed_zero (d ∷ ds) = ap₂ (λ (b : Bool) (l : List ℕ). if (is_other d || b) then d ∷ l else []) (any_zero ds) (trimmed_zero ds)

or_true : (b : Bool) → (b || true) ≡ true
or_true true = refl
or_true false = refl

any_other : (ds : List ℕ) (d : ℕ) → is_other d ≡ true → list_any is_other (ds ++ d ∷ []) ≡ true
any_other [] d is = ap (λ b. b || false) is
any_other (x ∷ ds) d is = ap (λ b. is_other x || b) (any_other ds d is) ∙ or_true (is_other x)

pub trimmed_other : (ds : List ℕ) (d : ℕ) → is_other d ≡ true → trimmed (ds ++ d ∷ []) ≡ ds ++ d ∷ []
trimmed_other [] d is = ap (λ (b : Bool). if (b || false) then d ∷ [] else []) is
trimmed_other (x ∷ ds) d is =
    ap₂ (λ (b : Bool) (l : List ℕ). if b then x ∷ l else []) (any_other (x ∷ ds) d is) (trimmed_other ds d is)

-- the digits up to a place
pub step_zero : (ds : List ℕ) (i : ℕ) → i < length ds → get_or ds i 0 ≡ 48 → trimmed (take i ds) ≡ trimmed (take (i + 1) ds)
step_zero ds i lt is =
    sym (trimmed_zero (take i ds)) ∙ ap (λ (d : ℕ). trimmed (take i ds ++ d ∷ [])) (sym is) ∙ ap trimmed (sym (take_more ds i 0 lt))

pub end_other : (ds : List ℕ) (i : ℕ) → i < length ds → is_other (get_or ds i 0) ≡ true → take (i + 1) ds ≡ trimmed (take (i + 1) ds)
end_other ds i lt is =
    take_more ds i 0 lt ∙ sym (trimmed_other (take i ds) (get_or ds i 0) is) ∙ ap trimmed (sym (take_more ds i 0 lt))

pub last_zero : (ds : List ℕ) (n : ℕ) → 0 < n → n ≤ length ds → get_or ds (n - 1) 0 ≡ 48 → trimmed (take (n - 1) ds) ≡ trimmed (take n ds)
last_zero ds n some most is =
    let same : n - 1 + 1 ≡ n = omega (arith, some) in
    step_zero ds (n - 1) (omega (arith, some, most)) is ∙ ap (λ (m : ℕ). trimmed (take m ds)) same

pub last_other : (ds : List ℕ) (n : ℕ) → 0 < n → n ≤ length ds → get_or ds (n - 1) 0 ≢ 48 → take n ds ≡ trimmed (take n ds)
last_other ds n some most is =
    let same : n - 1 + 1 ≡ n = omega (arith, some) in
    let other : is_other (get_or ds (n - 1) 0) ≡ true = grind (arith, nat_tests) in
    subst (λ (m : ℕ). take m ds ≡ trimmed (take m ds)) same (end_other ds (n - 1) (omega (arith, some, most)) other)

pub none_left : (ds : List ℕ) (n : ℕ) → n ≡ 0 → take n ds ≡ trimmed (take n ds)
none_left ds n is = subst (λ (m : ℕ). take m ds ≡ trimmed (take m ds)) (sym is) refl

-- ---- Zeros at the front

any_front : (zs ds : List ℕ) → list_any is_other ds ≡ true → list_any is_other (zs ++ ds) ≡ true
any_front [] ds is = is
any_front (z ∷ zs) ds is = ap (λ b. is_other z || b) (any_front zs ds is) ∙ or_true (is_other z)

trimmed_front : (zs ds : List ℕ) → list_any is_other ds ≡ true → trimmed (zs ++ ds) ≡ zs ++ trimmed ds
trimmed_front [] ds is = refl
trimmed_front (z ∷ zs) ds is =
    ap₂ (λ (b : Bool) (l : List ℕ). if b then z ∷ l else []) (any_front (z ∷ zs) ds is) (trimmed_front zs ds is)

-- ---- A number that isn't 0 has a digit that isn't 0

zero_digit : (d : ℕ) → is_other d ≡ false → d ≡ 48
zero_digit d is = grind (arith, nat_tests)

or_first : (a b : Bool) → (a || b) ≡ false → a ≡ false
or_first true b is = is
or_first false b is = refl

or_second : (a b : Bool) → (a || b) ≡ false → b ≡ false
or_second true b is = absurd (cc)
or_second false b is = is

value_none : (ds : List ℕ) → list_any is_other ds ≡ false → digits_value_after 10 0 ds ≡ 0
value_none [] none = refl
value_none (d ∷ ds) none =
    let zero : d ≡ 48 = zero_digit d (or_first (is_other d) (list_any is_other ds) none) in
    ap (λ (c : ℕ). digits_value_after 10 (0 * 10 + digit_value c) ds) zero ∙ value_none ds (or_second (is_other d) (list_any is_other ds) none)

decimal_other : (n : ℕ) → 0 < n → n < 2 ^ 64 → list_any is_other (decimal n) ≡ true
decimal_other n some small = elim (cases_Bool (list_any is_other (decimal n))) [
  | inl is ↦ is
  | inr none ↦ absurd (omega (arith, value_none (decimal n) none, (decimal_is_IsNumeral n small).1, some))
]

-- ---- What stands behind the whole part

pub length_fits : (scale rest : ℕ) → 0 < rest → rest < 10 ^ scale → rest < 2 ^ 64 → length (decimal rest) ≤ scale
length_fits zero rest some below small = absurd (omega (arith, some, below))
length_fits (suc scale) rest some below small = length-decimal-le (suc scale) rest (omega arith) below small

pub fraction_is : (scale rest : ℕ) → 0 < rest → rest < 2 ^ 64
    → fraction_text scale rest ≡ 46 ∷ (replicate (scale - length (decimal rest)) 48 ++ trimmed (decimal rest))
fraction_is scale rest some small =
    let other : (rest == 0) ≡ false = grind (arith, nat_tests) in
    ap (λ (b : Bool). if b then [] else 46 ∷ trimmed (padded scale rest)) other ∙ (ap (λ (l : List ℕ). 46 ∷ l) (trimmed_front (replicate (scale - length (decimal rest)) 48) (decimal rest) (decimal_other rest some small)))

pub fraction_written : {T E : Type 0} (r : Result T E) (old dot zeros new front digits : List ℕ) (scale rest : ℕ) → 0 < rest → rest < 2 ^ 64 → scale ≤ 9
    → digits ≡ decimal rest → dot ≡ old ++ 46 ∷ [] → zeros ≡ dot ++ take (scale - length digits) (replicate 9 48) → front ≡ trimmed digits
    → OnOk r (new ≡ zeros ++ front) → OnOk r (new ≡ old ++ fraction_text scale rest)
fraction_written (Ok x) old dot zeros new front digits scale rest some small most digits_is dot_is zeros_is front_is is =
    let k : ℕ = scale - length digits in
    let front_same : front ≡ trimmed (decimal rest) = front_is ∙ ap trimmed digits_is in
    let zeros_same : zeros ≡ (old ++ 46 ∷ []) ++ replicate (scale - length (decimal rest)) 48 =
    zeros_is ∙ ap (λ (l : List ℕ). dot ++ l) (take-replicate k 9 48 (omega arith)) ∙ ap₂ (λ (l ds : List ℕ). l ++ replicate (scale - length ds) 48) dot_is digits_is in
    is
    ∙ ap₂ (λ (l m : List ℕ). l ++ m) zeros_same front_same
    ∙ append_assoc (old ++ 46 ∷ []) (replicate (scale - length (decimal rest)) 48) (trimmed (decimal rest))
    ∙ append_assoc old (46 ∷ []) (replicate (scale - length (decimal rest)) 48 ++ trimmed (decimal rest))
    ∙ ap (λ (l : List ℕ). old ++ l) (sym (fraction_is scale rest some small))
fraction_written (Err x) old dot zeros new front digits scale rest some small most digits_is dot_is zeros_is front_is is = tt

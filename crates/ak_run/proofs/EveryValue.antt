-- Each text of a value has a value or none.
use Rattle.std.proofs.Common.{◌≡◌, ◌≢◌, ℕ, suc, ◌+◌, ◌-◌, ◌*◌, ◌^◌, ◌<◌, ◌≤◌, ◌⊎◌, inl, inr, ℤ, pos, negsuc, List, [], ◌∷◌, ◌++◌, length, take, drop, None, Result, Ok, Err, refl, sym, ap, arith, take-append-drop, length-take-le}
use Rattle.std.specs.Char.{digit_value}
use Rattle.std.specs.Str.Parse.{AllDigits, digits_value}
use Rattle.std.proofs.lemmas.Bool.{cases_eq, cases_lt}
use Rattle.std.proofs.lemmas.Int.{ints}
use Rattle.ak_base.specs.declared.refusal.Refusal.{Refusal}
use Rattle.ak_base.specs.declared.refusal.Refusal.TheVariants.{BadValue, ValueRange}
use Rattle.ak_base.specs.Values.{IsValue, AreZeros, IsTail, ReadsUnits, ReadsValue}
use Rattle.ak_base.proofs.Decimals.{IsFront, no_tail, no_digits, some_digits, units_none}
use Rattle.ak_run.specs.Asking.{HaveValues, ValuesGive}
use Rattle.ak_run.proofs.Decisions.{Decided, both_cases, all_cases}
use Rattle.ak_run.proofs.Signs.{read_from}

pub digits_cases : (ds : List ℕ) → Decided (AllDigits 10 ds)
digits_cases [] = inl tt
digits_cases (d ∷ ds) = elim (cases_lt (digit_value d) 10) [
  | inl low ↦ elim (digits_cases ds) [ inl rest ↦ inl (low, rest) | inr none ↦ inr (λ h. none h.1) ]
  | inr high ↦ inr (λ h. let low : digit_value d < 10 = h.0 in omega arith)
]

-- the digits at the front of a text
front_of : (text : List ℕ) → (i : ℕ) × IsFront text i × (i ≤ length text)
front_of [] = (0, record { digits = tt; end = λ h. absurd (omega arith) }, omega arith)
front_of (c ∷ cs) = elim (cases_lt (digit_value c) 10) [
  | inl low ↦ (let rest = front_of cs in (suc rest.0, record { digits = (low, rest.1.digits); end = λ h. rest.1.end (omega arith) }, omega (arith, rest.2)))
  | inr high ↦ (0, record { digits = tt; end = λ h. high }, omega arith)
]

tail_cases : (tail : List ℕ) → ((f : List ℕ) × IsTail tail f) ⊎ ((f : List ℕ) → ¬ (IsTail tail f))
tail_cases [] = inl ([], inl (refl, refl))
tail_cases (c ∷ cs) = elim (cases_eq c 46) [
  | inl e ↦ inl (cs, inr (ap (λ x. x ∷ cs) e))
  | inr other ↦ inr (λ f t. elim t [ inl h ↦ (let none : c ∷ cs ≡ [] = h.0 in cc) | inr e ↦ (let same : c ∷ cs ≡ 46 ∷ f = e in let first : c ≡ 46 = cc in other first) ])
]

none_of : (f : List ℕ) → length f ≡ 0 → f ≡ []
none_of [] h = refl
none_of (c ∷ cs) h = absurd (omega arith)

abbrev ReadsOr : List ℕ → ℕ → Type 0
ReadsOr text scale = ((n : ℕ) × ReadsUnits text scale n) ⊎ ((n : ℕ) → ¬ (ReadsUnits text scale n))

fraction_cases : (text f : List ℕ) (i scale : ℕ) → IsFront text i → IsTail (drop i text) f → take i text ++ f ≢ [] → Decided (AllDigits 10 f × AreZeros (drop scale f)) → ReadsOr text scale
fraction_cases text f i scale front point some (inl exact) = inl (
  digits_value 10 (take i text ++ take scale f) * 10 ^ (scale - length (take scale f)),
  record {
    whole = take i text;
    tail = drop i text;
    fraction = f;
    parts = sym (take-append-drop i text);
    point = point;
    whole_digits = front.digits;
    fraction_digits = exact.0;
    some = some;
    exact = exact.1;
    value = refl;
  },
)
fraction_cases text f i scale front point some (inr never) = inr (units_none text f i scale 0 None front point never)

pub units_cases : (text : List ℕ) (scale : ℕ) → ReadsOr text scale
units_cases text scale =
    let at = front_of text in
    elim (tail_cases (drop at.0 text)) [
      | inl (f, point) ↦ elim (cases_lt 0 (at.0 + length f)) [
        | inl some ↦ fraction_cases text f at.0 scale at.1 point (some_digits (take at.0 text) f (omega (arith, some, length-take-le at.0 text at.2))) (both_cases (digits_cases f) (all_cases (λ c. c ≡ 48) (λ c. cases_eq c 48) (drop scale f)))
        | inr none ↦ inr (no_digits text f at.0 scale at.1 point (omega arith) (none_of f (omega arith)))
      ]
      | inr never ↦ inr (no_tail text at.0 scale at.1 never)
    ]

pub value_cases : (text : List ℕ) (scale : ℕ) → ((v : ℤ) × ReadsValue text scale v) ⊎ ((v : ℤ) → ¬ (ReadsValue text scale v))
value_cases text scale =
    let from = read_from text in
    elim (units_cases from.bare scale) [
      | inl (n, reads) ↦ inl (from.signed n, (from.by scale (from.signed n)).1 (n, reads, refl))
      | inr never ↦ inr (λ v h. let there = (from.by scale v).0 h in never there.0 there.1)
    ]

range_cases : (v : ℤ) → Decided (IsValue v)
range_cases (pos n) = elim (cases_lt n (2 ^ 63)) [ inl lt ↦ inl (omega (arith, ints), omega (arith, ints)) | inr ge ↦ inr (λ h. omega (arith, ints, h.1)) ]
range_cases (negsuc n) = elim (cases_lt n (2 ^ 63)) [ inl lt ↦ inl (omega (arith, ints), omega (arith, ints)) | inr ge ↦ inr (λ h. omega (arith, ints, h.0)) ]

have_cases : (scale : ℕ) (texts : List (List ℕ)) → ((vs : List ℤ) × HaveValues scale texts vs) ⊎ ((vs : List ℤ) → ¬ (HaveValues scale texts vs))
have_cases scale [] = inl ([], refl)
have_cases scale (text ∷ texts) = elim (value_cases text scale) [
  | inl (v, reads) ↦ elim (have_cases scale texts) [
    | inl (vs, have) ↦ inl (v ∷ vs, (v, vs, refl, reads, have))
    | inr never ↦ inr (λ vs h. never h.1 h.4)
  ]
  | inr never ↦ inr (λ vs h. never h.0 h.3)
]

pub values_give : (scale : ℕ) (texts : List (List ℕ)) → (r : Result (List ℤ) Refusal) × ValuesGive scale texts r
values_give scale texts = elim (have_cases scale texts) [
  | inl (vs, have) ↦ elim (all_cases IsValue range_cases vs) [
    | inl all ↦ (Ok vs, (have, all))
    | inr out ↦ (Err ValueRange, inr (refl, vs, have, out))
  ]
  | inr never ↦ (Err BadValue, inl (refl, never))
]

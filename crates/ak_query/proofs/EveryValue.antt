-- Each text reads as one value or as none.
use Rattle.std.proofs.Common.{◌≡◌, ◌≢◌, ◌↔◌, ℕ, ◌+◌, ◌-◌, ◌*◌, ◌^◌, ◌⊎◌, inl, inr, ℤ, pos, negsuc, neg_ℤ, List, [], ◌∷◌, ◌++◌, length, take, drop, None, refl, sym, ap, subst, ◌∙◌, arith, take-append-drop, length-take-le}
use Rattle.std.specs.Str.Parse.{AllDigits, digits_value}
use Rattle.std.proofs.lemmas.Bool.{cases_eq, cases_lt}
use Rattle.std.proofs.lemmas.Int.{ints}
use Rattle.ak_base.specs.Values.{IsValue, AreZeros, IsTail, ReadsUnits, ReadsValue}
use Rattle.ak_base.proofs.Decimals.{IsFront, one_reading, no_tail, no_digits, some_digits, units_none}
use Rattle.ak_base.proofs.Readings.{HasNoSign, no_bytes, reads_plain, reads_plus, reads_minus}
use Rattle.ak_time.proofs.Settled.{Decided, both, Settled, none_settled, one_settled, some_or_none, no_other, digits_cases, front_of}

-- ---- Units

tail_cases : (tail : List ℕ) → ((f : List ℕ) × IsTail tail f) ⊎ ((f : List ℕ) → ¬ (IsTail tail f))
tail_cases [] = inl ([], inl (refl, refl))
tail_cases (c ∷ cs) = elim (cases_eq c 46) [
  | inl e ↦ inl (cs, inr (ap (λ x. x ∷ cs) e))
  | inr other ↦ inr (λ f t. elim t [ inl h ↦ (let none : c ∷ cs ≡ [] = h.0 in cc) | inr e ↦ (let same : c ∷ cs ≡ 46 ∷ f = e in let first : c ≡ 46 = cc in other first) ])
]

none_of : (f : List ℕ) → length f ≡ 0 → f ≡ []
none_of [] h = refl
none_of (c ∷ cs) h = absurd (omega arith)

zeros_cases : (ds : List ℕ) → Decided (AreZeros ds)
zeros_cases [] = inl tt
zeros_cases (d ∷ ds) = both (cases_eq d 48) (zeros_cases ds)

fraction_settled : (text f : List ℕ) (i scale : ℕ) → IsFront text i → IsTail (drop i text) f → take i text ++ f ≢ []
    → Decided (AllDigits 10 f × AreZeros (drop scale f)) → Settled (ReadsUnits text scale)
fraction_settled text f i scale front point some (inl exact) =
    let v : ℕ = digits_value 10 (take i text ++ take scale f) * 10 ^ (scale - length (take scale f)) in
    let reads : ReadsUnits text scale v = record {
      whole = take i text;
      tail = drop i text;
      fraction = f;
      parts = sym (take-append-drop i text);
      point = point;
      whole_digits = front.digits;
      fraction_digits = exact.0;
      some = some;
      exact = exact.1;
      value = refl;
    } in
    one_settled (ReadsUnits text scale) v reads (λ n h. one_reading text scale v n reads h)
fraction_settled text f i scale front point some (inr never) =
    none_settled (ReadsUnits text scale) (units_none text f i scale 0 None front point never)

units_settled : (text : List ℕ) (scale : ℕ) → Settled (ReadsUnits text scale)
units_settled text scale =
    let at = front_of text in
    elim (tail_cases (drop at.0 text)) [
      | inl (f, point) ↦ elim (cases_lt 0 (at.0 + length f)) [
        | inl some ↦ fraction_settled text f at.0 scale at.1 point (some_digits (take at.0 text) f (omega (arith, some, length-take-le at.0 text at.2))) (both (digits_cases f) (zeros_cases (drop scale f)))
        | inr none ↦ none_settled (ReadsUnits text scale) (no_digits text f at.0 scale at.1 point (omega arith) (none_of f (omega arith)))
      ]
      | inr never ↦ none_settled (ReadsUnits text scale) (no_tail text at.0 scale at.1 never)
    ]

-- ---- Values

pub range_cases : (v : ℤ) → Decided (IsValue v)
range_cases (pos n) = elim (cases_lt n (2 ^ 63)) [ inl lt ↦ inl (omega (arith, ints), omega (arith, ints)) | inr ge ↦ inr (λ h. omega (arith, ints, h.1)) ]
range_cases (negsuc n) = elim (cases_lt n (2 ^ 63)) [ inl lt ↦ inl (omega (arith, ints), omega (arith, ints)) | inr ge ↦ inr (λ h. omega (arith, ints, h.0)) ]

-- what has a property and 64 bits
pub in_range : (P : ℤ → Type 0) → Settled P → Settled (λ v. P v × IsValue v)
in_range P s = elim (some_or_none P s) [
  | inl (v, p) ↦ elim (range_cases v) [
    | inl fits ↦ one_settled (λ v. P v × IsValue v) v (p, fits) (λ w h. no_other P s v w p h.0)
    | inr out ↦ none_settled (λ v. P v × IsValue v) (λ w h. out (subst IsValue (no_other P s w v h.0 p) h.1))
  ]
  | inr never ↦ none_settled (λ v. P v × IsValue v) (λ w h. never w h.0)
]

-- the values of the units of a text without its sign
signed_settled : (text bare : List ℕ) (scale : ℕ) (signed : ℕ → ℤ) → ((v : ℤ) → ReadsValue text scale v ↔ ((n : ℕ) × ReadsUnits bare scale n × (v ≡ signed n)))
    → Settled (ReadsValue text scale)
signed_settled text bare scale signed by =
    let units = units_settled bare scale in
    elim (some_or_none (ReadsUnits bare scale) units) [
      | inl (n, reads) ↦ one_settled (ReadsValue text scale) (signed n) ((by (signed n)).1 (n, reads, refl))
          (λ v h. let there = (by v).0 h in ap signed (no_other (ReadsUnits bare scale) units n there.0 reads there.1) ∙ sym there.2)
      | inr never ↦ none_settled (ReadsValue text scale) (λ v h. let there = (by v).0 h in never there.0 there.1)
    ]

plain_settled : (text : List ℕ) (scale : ℕ) → HasNoSign text → Settled (ReadsValue text scale)
plain_settled text scale none = signed_settled text text scale (λ n. pos n) (reads_plain text scale none)

value_settled : (text : List ℕ) (scale : ℕ) → Settled (ReadsValue text scale)
value_settled [] scale = plain_settled [] scale (no_bytes [] (omega arith))
value_settled (c ∷ cs) scale = elim (cases_eq c 45) [
  | inl minus ↦ signed_settled (c ∷ cs) cs scale (λ n. neg_ℤ (pos n)) (reads_minus (c ∷ cs) cs scale (ap (λ x. x ∷ cs) minus))
  | inr other ↦ elim (cases_eq c 43) [
    | inl plus ↦ signed_settled (c ∷ cs) cs scale (λ n. pos n) (reads_plus (c ∷ cs) cs scale (ap (λ x. x ∷ cs) plus))
    | inr none ↦ plain_settled (c ∷ cs) scale (other, none)
  ]
]

pub every_value : (text : List ℕ) (scale : ℕ) → Settled (λ v. ReadsValue text scale v × IsValue v)
every_value text scale = in_range (ReadsValue text scale) (value_settled text scale)

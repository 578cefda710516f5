-- Each text reads as one moment or as none, and as one step or as none.
use Rattle.std.proofs.Common.{◌≡◌, ◌↔◌, inl, inr, ℕ, ◌*◌, ◌^◌, ◌<◌, ◌≤◌, ℤ, pos, negsuc, List, [], ◌∷◌, length, take, drop, get_or, slice_range, Option, Some, None, codes, refl, sym, subst, rules, arith}
use Rattle.std.specs.Prelude.{unsigned_abs}
use Rattle.std.specs.Str.Parse.{IsNumeral, digits_value}
use Rattle.std.proofs.lemmas.Bool.{cases_eq, cases_lt}
use Rattle.jiff_core.specs.Calendar.{days_in_month}
use Rattle.ak_time.specs.declared.civil.Parts.{Parts}
use Rattle.ak_time.specs.Calendar.{IsShown}
use Rattle.ak_time.specs.Steps.{IsUnit, ReadsStep}
use Rattle.ak_time.specs.Times.{IsWhole, whole, IsFraction, IsCivilText, parts_of, IsCivilTime, civil_moment, ReadsTime}
use Rattle.ak_time.proofs.Readings.{reads_civil}
use Rattle.ak_time.proofs.Settled.{Decided, both, likewise, Settled, none_settled, one_settled, below_cases, most_cases, numeral_cases, front_of, between_cases}
use Rattle.ak_time.proofs.StepFacts.{Front, no_long, no_digits, no_unit, step_value}

-- ---- Times

same_byte : (b c : ℕ) → Decided (b ≡ c)
same_byte b c = cases_eq b c

fraction_cases : (text : List ℕ) → Decided (IsFraction text)
fraction_cases [] = inl tt
fraction_cases (c ∷ ds) = likewise (λ h. (h.0, h.1.0, h.1.1)) (λ h. (h.0, (h.1, h.2))) (both (same_byte c 46) (both (numeral_cases ds) (most_cases (length ds) 9)))

civil_text_cases : (text : List ℕ) → Decided (IsCivilText text)
civil_text_cases text =
    likewise
    (λ h. record { long = h.0; year = h.1.0; month = h.1.1.0; day = h.1.1.1.0; mark = h.1.1.1.1.0; hour = h.1.1.1.1.1.0; minute = h.1.1.1.1.1.1.0; second = h.1.1.1.1.1.1.1.0; fraction = h.1.1.1.1.1.1.1.1 })
    (λ (c : IsCivilText text). (c.long, (c.year, (c.month, (c.day, (c.mark, (c.hour, (c.minute, (c.second, c.fraction)))))))))
    (both (most_cases 15 (length text)) (both (numeral_cases (slice_range text 0 4)) (both (numeral_cases (slice_range text 4 6))
    (both (numeral_cases (slice_range text 6 8)) (both (same_byte (get_or text 8 0) 84) (both (numeral_cases (slice_range text 9 11))
    (both (numeral_cases (slice_range text 11 13)) (both (numeral_cases (slice_range text 13 15)) (fraction_cases (drop 15 text))))))))))

shown_cases : (p : Parts) → Decided (IsShown p)
shown_cases p =
    likewise
    (λ h. ((h.0.0, h.0.1.0, h.0.1.1), (h.1.0, h.1.1.0, h.1.1.1.0, h.1.1.1.1)))
    (λ (h : IsShown p). ((h.0.0, (h.0.1, h.0.2)), (h.1.0, (h.1.1, (h.1.2, h.1.3)))))
    (both (both (between_cases (negsuc 9998) (pos 9999) (pos p.year)) (both (between_cases (pos 1) (pos 12) (pos p.month))
    (between_cases (pos 1) (pos (days_in_month (pos p.year) (unsigned_abs (pos p.month)))) (pos p.day))))
    (both (between_cases (pos 0) (pos 23) (pos p.hour)) (both (between_cases (pos 0) (pos 59) (pos p.minute))
    (both (between_cases (pos 0) (pos 59) (pos p.second)) (between_cases (pos 0) (pos 999_999_999) (pos p.nanos))))))

abbrev Reads64 : (ℤ → Type 0) → ℕ → Type 0
Reads64 R t = R (pos t) × (t < 2 ^ 64)

moment_settled : (R : ℤ → Type 0) (v : ℤ) → ((m : ℤ) → R m ↔ (v ≡ m)) → Settled (Reads64 R)
moment_settled R (pos n) f = elim (cases_lt n (2 ^ 64)) [
  | inl small ↦ one_settled (Reads64 R) n ((f (pos n)).1 refl, small) (λ t h. let same : pos n ≡ pos t = (f (pos t)).0 h.0 in cc)
  | inr large ↦ none_settled (Reads64 R) (λ t h. let same : pos n ≡ pos t = (f (pos t)).0 h.0 in let is : n ≡ t = cc in omega (arith, is, large, h.1))
]
moment_settled R (negsuc n) f = none_settled (Reads64 R) (λ t h. let same : negsuc n ≡ pos t = (f (pos t)).0 h.0 in cc)

civil_moment_is : (text : List ℕ) → IsCivilTime text → (m : ℤ) → ReadsTime text m ↔ (civil_moment text ≡ m)
civil_moment_is text civil m =
    let reads = reads_civil text (omega (arith, civil.0.long)) civil.0.mark m in
    (λ h. (reads.0 h).1, λ e. reads.1 (civil, e))

whole_is : (text : List ℕ) → ¬ (IsCivilTime text) → IsWhole text → (m : ℤ) → ReadsTime text m ↔ (whole text ≡ m)
whole_is text never is m = (λ h. elim h [ inl w ↦ w.1 | inr c ↦ absurd (never c.0) ], λ e. inl (is, e))

pub every_time : (text : List ℕ) → Settled (λ t. ReadsTime text (pos t) × (t < 2 ^ 64))
every_time text = elim (both_parts text) [
  | inl civil ↦ moment_settled (ReadsTime text) (civil_moment text) (civil_moment_is text civil)
  | inr never ↦ elim (whole_cases text) [
    | inl is ↦ moment_settled (ReadsTime text) (whole text) (whole_is text never is)
    | inr other ↦ none_settled (λ t. ReadsTime text (pos t) × (t < 2 ^ 64)) (λ t h. elim h.0 [ inl w ↦ other w.0 | inr c ↦ never c.0 ])
  ]
]
  where
    both_parts : (text : List ℕ) → Decided (IsCivilTime text)
    both_parts text = both (civil_text_cases text) (shown_cases (parts_of text))

    whole_cases : (text : List ℕ) → Decided (IsWhole text)
    whole_cases text = numeral_cases _

-- ---- Steps

same_text : (a b : List ℕ) → Decided (a ≡ b)
same_text [] [] = inl refl
same_text [] (d ∷ ds) = inr (λ e. cc)
same_text (c ∷ cs) [] = inr (λ e. cc)
same_text (c ∷ cs) (d ∷ ds) = elim (both (cases_eq c d) (same_text cs ds)) [
  | inl same ↦ (let first : c ≡ d = same.0 in let behind : cs ≡ ds = same.1 in inl cc)
  | inr other ↦ inr (λ e. let first : c ≡ d = cc in let behind : cs ≡ ds = cc in other (first, behind))
]

unit_is : (unit text : List ℕ) (size : ℕ) → unit ≡ text → Settled (IsUnit text) → Settled (IsUnit unit)
unit_is unit text size same s = subst (λ (u : List ℕ). Settled (IsUnit u)) (sym same) s

unit_settled : (unit : List ℕ) → Settled (IsUnit unit)
unit_settled unit = elim (same_text unit []) [
  | inl is ↦ (Some 1, λ n. search rules)
  | inr a ↦ elim (same_text unit (codes "ns")) [
    | inl is ↦ (Some 1, λ n. search rules)
    | inr b ↦ elim (same_text unit (codes "us")) [
      | inl is ↦ (Some 1_000, λ n. search rules)
      | inr c ↦ elim (same_text unit (codes "ms")) [
        | inl is ↦ (Some 1_000_000, λ n. search rules)
        | inr d ↦ elim (same_text unit (codes "s")) [
          | inl is ↦ (Some 1_000_000_000, λ n. search rules)
          | inr e ↦ elim (same_text unit (codes "m")) [
            | inl is ↦ (Some 60_000_000_000, λ n. search rules)
            | inr f ↦ elim (same_text unit (codes "h")) [
              | inl is ↦ (Some 3_600_000_000_000, λ n. search rules)
              | inr g ↦ elim (same_text unit (codes "d")) [
                | inl is ↦ (Some 86_400_000_000_000, λ n. search rules)
                | inr h ↦ (None, λ n. search rules)
              ]
            ]
          ]
        ]
      ]
    ]
  ]
]

abbrev IsStepOf : List ℕ → ℕ → Type 0
IsStepOf text n = ReadsStep text n × (1 ≤ n) × (n < 2 ^ 64)

product_settled : (text : List ℕ) (v : ℕ) → ((n : ℕ) → ReadsStep text n ↔ (n ≡ v)) → Settled (IsStepOf text)
product_settled text v f = elim (both (most_cases 1 v) (below_cases v (2 ^ 64))) [
  | inl fits ↦ one_settled (IsStepOf text) v ((f v).1 refl, fits.0, fits.1) (λ n h. sym ((f n).0 h.0))
  | inr never ↦ none_settled (IsStepOf text) (λ n h. never (subst (λ (k : ℕ). (1 ≤ k) × (k < 2 ^ 64)) ((f n).0 h.0) (h.1, h.2)))
]

pub every_step : (text : List ℕ) → Settled (λ n. ReadsStep text n × (1 ≤ n) × (n < 2 ^ 64))
every_step text =
    let at = front_of text in
    let i : ℕ = at.0 in
    let ds : List ℕ = take i text in
    let unit : List ℕ = drop i text in
    let f : Front text i ds unit = record { within = at.2; digits = at.1.digits; end = at.1.end; front = refl; behind = refl } in
    elim (cases_lt 20 i) [
      | inl long ↦ none_settled (IsStepOf text) (λ n h. no_long text i ds unit f long n h.0)
      | inr few ↦ elim (numeral_cases ds) [
        | inr never ↦ none_settled (IsStepOf text) (λ n h. no_digits text i ds unit f never n h.0)
        | inl numeral ↦ by_unit text i ds unit f few numeral (unit_settled unit).0 (unit_settled unit).1
      ]
    ]
  where
    by_unit : (text : List ℕ) (i : ℕ) (ds unit : List ℕ) → Front text i ds unit → i ≤ 20 → IsNumeral 10 ds → (o : Option ℕ) → ((n : ℕ) → (o ≡ Some n) ↔ IsUnit unit n) → Settled (IsStepOf text)
    by_unit text i ds unit f few numeral None known = none_settled (IsStepOf text) (λ n h. no_unit text i ds unit f None refl known n h.0)
    by_unit text i ds unit f few numeral (Some size) known =
        product_settled text (digits_value 10 ds * size) (step_value text i ds unit f (Some size) size refl known few numeral)

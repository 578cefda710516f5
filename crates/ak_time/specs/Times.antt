-- Texts of times.
use Rattle.std.specs.Prelude.{◌≡◌, ℕ, ◌-◌, ◌*◌, ◌^◌, ◌≤◌, ◌⊎◌, ℤ, pos, ◌≤ℤ◌, ◌<ℤ◌, List, [], ◌∷◌, length, drop, slice_index, slice_range, Result, MatchResult}
use Rattle.std.specs.Str.Parse.{IsNumeral, digits_value, without_leading_sign, signed_digits_value}
use Rattle.ak_base.specs.declared.refusal.Refusal.{Refusal}
use Rattle.ak_base.specs.declared.refusal.Refusal.TheVariants.{BadTime, TimeRange}
use Rattle.ak_time.specs.declared.civil.Parts.{Parts}
use Rattle.ak_time.specs.Calendar.{IsShown, moment}

-- the moment is from the beginning of 1970 on, and has 64 bits
abbrev pub IsTimestamp : ℤ → Type 0
IsTimestamp m = (pos 0 ≤ℤ m) × (m <ℤ pos (2 ^ 64))

-- one digit or more, and a `+` or a `-` before them or neither
abbrev pub IsWhole : List ℕ → Type 0
IsWhole text = IsNumeral 10 (without_leading_sign text)

-- the number that they write
abbrev pub whole : List ℕ → ℤ
whole text = signed_digits_value 10 text

-- nothing, or a point and one to nine digits
abbrev pub IsFraction : List ℕ → Type 0
IsFraction [] = Unit {0}
IsFraction (c ∷ digits) = (c ≡ 46) × IsNumeral 10 digits × (length digits ≤ 9)

-- the nanoseconds of a fraction: its first digit is tenths of a second
abbrev pub fraction_nanos : List ℕ → ℕ
fraction_nanos [] = 0
fraction_nanos (c ∷ digits) = digits_value 10 digits * 10 ^ (9 - length digits)

-- eight digits, `T`, six digits and a fraction
pub record IsCivilText (text : List ℕ) : Type 0 where
  pub long : 15 ≤ length text
  pub year : IsNumeral 10 (slice_range text 0 4)
  pub month : IsNumeral 10 (slice_range text 4 6)
  pub day : IsNumeral 10 (slice_range text 6 8)
  pub mark : slice_index text 8 ≡ 84
  pub hour : IsNumeral 10 (slice_range text 9 11)
  pub minute : IsNumeral 10 (slice_range text 11 13)
  pub second : IsNumeral 10 (slice_range text 13 15)
  pub fraction : IsFraction (drop 15 text)

-- the year, month, day, hour, minute, second and nanoseconds that such a text shows
abbrev pub parts_of : List ℕ → Parts
parts_of text = record {
  year = digits_value 10 (slice_range text 0 4);
  month = digits_value 10 (slice_range text 4 6);
  day = digits_value 10 (slice_range text 6 8);
  hour = digits_value 10 (slice_range text 9 11);
  minute = digits_value 10 (slice_range text 11 13);
  second = digits_value 10 (slice_range text 13 15);
  nanos = fraction_nanos (drop 15 text);
}

-- a text of that shape whose date is in the calendar and whose time a clock shows
abbrev pub IsCivilTime : List ℕ → Type 0
IsCivilTime text = IsCivilText text × IsShown (parts_of text)

-- its moment in UTC
abbrev pub civil_moment : List ℕ → ℤ
civil_moment text = moment (parts_of text)

-- the text reads as the moment, in nanoseconds since the beginning of 1970
abbrev pub ReadsTime : List ℕ → ℤ → Type 0
ReadsTime text m = (IsWhole text × (whole text ≡ m)) ⊎ (IsCivilTime text × (civil_moment text ≡ m))

-- the answer to a text that, where it reads at all, reads as m
abbrev pub Answers : Type 0 → ℤ → Result ℕ Refusal → Type 0
Answers Reads m r = MatchResult r (λ t. Reads × IsTimestamp m × (m ≡ pos t))
    (λ e. ((e ≡ BadTime) × ¬ Reads) ⊎ ((e ≡ TimeRange) × Reads × ¬ (IsTimestamp m)))

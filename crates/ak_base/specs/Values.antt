-- Texts of values.
use Rattle.std.specs.Prelude.{◌≡◌, ◌≢◌, ℕ, ◌-◌, ◌*◌, ◌^◌, ◌⊎◌, ℤ, pos, negsuc, neg_ℤ, ◌≤ℤ◌, List, [], ◌++◌, length, take, drop, codes, Result, MatchResult}
use Rattle.std.specs.List.{AllByRecursion}
use Rattle.std.specs.Str.Parse.{AllDigits, digits_value}
use Rattle.ak_base.specs.declared.refusal.Refusal.{Refusal}
use Rattle.ak_base.specs.declared.refusal.Refusal.TheVariants.{BadValue, ValueRange}

-- the value has 64 bits with its sign
abbrev pub IsValue : ℤ → Type 0
IsValue v = (negsuc (2 ^ 63 - 1) ≤ℤ v) × (v ≤ℤ pos (2 ^ 63 - 1))

-- each byte is a `0`
abbrev pub AreZeros : List ℕ → Type 0
AreZeros digits = AllByRecursion (λ c. c ≡ 48) digits

-- nothing, or a point and the fraction
abbrev pub IsTail : List ℕ → List ℕ → Type 0
IsTail tail fraction = ((tail ≡ []) × (fraction ≡ [])) ⊎ (tail ≡ codes "." ++ fraction)

-- no sign or a `+` and the number, or a `-` and the number below zero
abbrev pub IsSigned : List ℕ → ℕ → ℤ → Type 0
IsSigned sign n v = (((sign ≡ []) ⊎ (sign ≡ codes "+")) × (v ≡ pos n)) ⊎ ((sign ≡ codes "-") × (v ≡ neg_ℤ (pos n)))

-- digits, and optionally a point and digits, at least one in all; those past the scale are zeros
pub record ReadsUnits (text : List ℕ) (scale : ℕ) (units : ℕ) : Type 0 where
  pub whole : List ℕ
  pub tail : List ℕ
  pub fraction : List ℕ
  pub parts : text ≡ whole ++ tail
  pub point : IsTail tail fraction
  pub whole_digits : AllDigits 10 whole
  pub fraction_digits : AllDigits 10 fraction
  pub some : whole ++ fraction ≢ []
  pub exact : AreZeros (drop scale fraction)
  pub value : units ≡ digits_value 10 (whole ++ take scale fraction) * 10 ^ (scale - length (take scale fraction))

-- an optional sign and such a decimal: the value is the decimal times 10^scale
pub record ReadsValue (text : List ℕ) (scale : ℕ) (value : ℤ) : Type 0 where
  pub sign : List ℕ
  pub decimal : List ℕ
  pub units : ℕ
  pub parts : text ≡ sign ++ decimal
  pub reads : ReadsUnits decimal scale units
  pub signed : IsSigned sign units value

-- the answer to a text without its sign, which makes a value of the units that the text reads as
abbrev pub Answers : (ℕ → Type 0) → (ℕ → ℤ) → Result ℤ Refusal → Type 0
Answers Reads signed r = MatchResult r (λ v. (n : ℕ) × Reads n × (v ≡ signed n) × IsValue v)
    (λ e. ((e ≡ BadValue) × ((n : ℕ) → ¬ (Reads n))) ⊎ ((e ≡ ValueRange) × ((n : ℕ) × Reads n × ¬ (IsValue (signed n)))))

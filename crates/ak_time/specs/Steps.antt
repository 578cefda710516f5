-- Texts of steps.
use Rattle.std.specs.Prelude.{◌≡◌, ℕ, ◌*◌, ◌≤◌, ◌⊎◌, List, [], ◌++◌, length, codes}
use Rattle.std.specs.Str.Parse.{IsNumeral, digits_value}

-- the unit has so many nanoseconds; no unit is nanoseconds
abbrev pub IsUnit : List ℕ → ℕ → Type 0
IsUnit unit size = ((unit ≡ []) × (size ≡ 1)) ⊎ (((unit ≡ codes "ns") × (size ≡ 1))
    ⊎ (((unit ≡ codes "us") × (size ≡ 1_000)) ⊎ (((unit ≡ codes "ms") × (size ≡ 1_000_000))
    ⊎ (((unit ≡ codes "s") × (size ≡ 1_000_000_000)) ⊎ (((unit ≡ codes "m") × (size ≡ 60_000_000_000))
    ⊎ (((unit ≡ codes "h") × (size ≡ 3_600_000_000_000)) ⊎ ((unit ≡ codes "d") × (size ≡ 86_400_000_000_000))))))))

-- 1 to 20 digits, a unit, and the product of the two
pub record ReadsStep (text : List ℕ) (product : ℕ) : Type 0 where
  pub digits : List ℕ
  pub unit : List ℕ
  pub size : ℕ
  pub whole : text ≡ digits ++ unit
  pub numeral : IsNumeral 10 digits
  pub few : length digits ≤ 20
  pub known : IsUnit unit size
  pub value : product ≡ digits_value 10 digits * size

-- How values and names are written in rows.
use Rattle.std.specs.Prelude.{ℕ, ℤ, pos, negsuc, ◌+◌, ◌-◌, ◌^◌, ◌/◌, ◌%◌, ◌==◌, Bool, true, false, ◌||◌, if◌then◌else◌, List, [], ◌∷◌, ◌++◌, length, replicate}
use Rattle.std.specs.Fmt.{decimal}
use Rattle.std.specs.List.{flat_map, list_any}

-- ---- Values

-- the digits without the zeros at their end
abbrev pub trimmed : List ℕ → List ℕ
trimmed [] = []
trimmed (d ∷ ds) = if list_any (λ b. if b == 48 then false else true) (d ∷ ds) then d ∷ trimmed ds else []

-- so many digits of a number below 10 ^ count
abbrev pub padded : ℕ → ℕ → List ℕ
padded count n = replicate (count - length (decimal n)) 48 ++ decimal n

-- what stands behind the whole part: nothing, or a point and digits, the last of them not 0
abbrev pub fraction_text : ℕ → ℕ → List ℕ
fraction_text scale rest = if rest == 0 then [] else 46 ∷ trimmed (padded scale rest)

abbrev pub size_text : ℕ → ℕ → List ℕ
size_text scale u = decimal (u / 10 ^ scale) ++ fraction_text scale (u % 10 ^ scale)

-- a value of so many units of 10^-scale
abbrev pub value_text : ℕ → ℤ → List ℕ
value_text scale (pos n) = size_text scale n
value_text scale (negsuc n) = 45 ∷ size_text scale (n + 1)

-- ---- Names

-- each quote doubled
abbrev pub doubled : List ℕ → List ℕ
doubled name = flat_map (λ b. if b == 34 then 34 ∷ 34 ∷ [] else b ∷ []) name

-- a name in a row: in quotes, each of its own doubled, where it has a comma or a quote
abbrev pub name_text : List ℕ → List ℕ
name_text name = if list_any (λ b. (b == 44) || (b == 34)) name then 34 ∷ (doubled name ++ 34 ∷ []) else name

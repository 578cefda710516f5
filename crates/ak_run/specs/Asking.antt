-- What a message asks for: points, rows, a flush, or nothing, since its text is refused.
use Rattle.std.specs.Prelude.{ℕ, ◌≡◌, ◌≢◌, ◌⊎◌, ◌≤◌, List, [], ◌∷◌, ◌++◌, map, length, codes, ℤ, pos, Option, Some, None, Result, Ok, Err}
use Rattle.std.specs.List.{AllByRecursion}
use Rattle.ak_base.specs.declared.refusal.Refusal.{Refusal}
use Rattle.ak_base.specs.declared.refusal.Refusal.TheVariants.{CountsDiffer, BadName, TimeRange, BadValue, ValueRange, NoControl, NotBuilt}
use Rattle.ak_base.specs.Values.{IsValue, ReadsValue}
use Rattle.ak_names.specs.Names.{words_of, metric_count, DoesName}
use Rattle.ak_resp.specs.declared.message.Message.{Message}
use Rattle.ak_resp.specs.declared.message.Message.TheVariants as message
use Rattle.ak_run.specs.declared.asked.Asked.{Asked}
use Rattle.ak_run.specs.declared.asked.Asked.TheVariants.{Refused, Points, Rows, Flush}
use Rattle.ak_time.specs.Times.{IsWhole, whole, IsTimestamp}

-- ---- Times

-- The text is a whole number of nanoseconds of 64 bits; or it is one that isn't; or it is none.
abbrev pub TimeGives : List ℕ → Result ℕ Refusal → Type 0
TimeGives text (Ok ts) = IsWhole text × (whole text ≡ pos ts) × IsTimestamp (whole text)
TimeGives text (Err e) = ((e ≡ NotBuilt) × ¬ (IsWhole text)) ⊎ ((e ≡ TimeRange) × IsWhole text × ¬ (IsTimestamp (whole text)))

-- ---- Values

-- The texts have these values in the unit of the scale.
abbrev pub HaveValues : ℕ → List (List ℕ) → List ℤ → Type 0
HaveValues scale [] vs = vs ≡ []
HaveValues scale (text ∷ texts) vs = (v : ℤ) × (others : List ℤ) × (vs ≡ v ∷ others) × ReadsValue text scale v × HaveValues scale texts others

-- All texts have values, and each has 64 bits; or one has no value; or all have, and one is out of range.
abbrev pub ValuesGive : ℕ → List (List ℕ) → Result (List ℤ) Refusal → Type 0
ValuesGive scale texts (Ok vs) = HaveValues scale texts vs × AllByRecursion IsValue vs
ValuesGive scale texts (Err e) = ((e ≡ BadValue) × ((vs : List ℤ) → ¬ (HaveValues scale texts vs)))
    ⊎ ((e ≡ ValueRange) × (vs : List ℤ) × HaveValues scale texts vs × ¬ (AllByRecursion IsValue vs))

-- ---- Puts, in the order of their refusals

abbrev pub OnValues : List (List ℕ) → ℕ → Result (List ℤ) Refusal → Asked
OnValues names ts (Ok vs) = Points names ts vs
OnValues names ts (Err e) = Refused e

-- behind the time come the values
abbrev pub OnTime : ℕ → List (List ℕ) → List (List ℕ) → Asked → Result ℕ Refusal → Type 0
OnTime scale names values asked (Ok ts) = (vs : Result (List ℤ) Refusal) × ValuesGive scale values vs × (asked ≡ OnValues names ts vs)
OnTime scale names values asked (Err e) = asked ≡ Refused e

-- The text names these names, or none.
abbrev pub Named : List ℕ → Option (List (List ℕ)) → Type 0
Named text (Some names) = DoesName text names
Named text None = (names : List (List ℕ)) → ¬ (DoesName text names)

-- behind the names comes the time
abbrev pub OnNames : ℕ → List ℕ → List (List ℕ) → Asked → Option (List (List ℕ)) → Type 0
OnNames scale time values asked (Some names) = (ts : Result ℕ Refusal) × TimeGives time ts × OnTime scale names values asked ts
OnNames scale time values asked None = asked ≡ Refused BadName

-- The number of values is compared first, with the number of metrics of the first word.
abbrev pub PutAsks : ℕ → List ℕ → List ℕ → List (List ℕ) → Asked → Type 0
PutAsks scale name time values asked =
    ((length values ≢ metric_count (words_of name)) × (asked ≡ Refused CountsDiffer))
    ⊎ ((length values ≡ metric_count (words_of name)) × (names : Option (List (List ℕ))) × Named name names × OnNames scale time values asked names)

-- ---- Queries

-- a letter, a digit, a point, a low line or a hyphen
abbrev pub IsMetricByte : ℕ → Type 0
IsMetricByte b = ((65 ≤ b) × (b ≤ 90)) ⊎ (((97 ≤ b) × (b ≤ 122)) ⊎ (((48 ≤ b) × (b ≤ 57)) ⊎ ((b ≡ 46) ⊎ ((b ≡ 95) ⊎ (b ≡ 45)))))

-- 1 to 512 of them
pub record IsSelected (metric : List ℕ) : Type 0 where
  pub some : 1 ≤ length metric
  pub short : length metric ≤ 512
  pub each : AllByRecursion IsMetricByte metric

-- the one query so far
abbrev pub query_text : List ℕ → List ℕ
query_text metric = codes "{\"select\":\"" ++ (metric ++ codes "\"}")

abbrev pub QueryAsks : List ℕ → Asked → Type 0
QueryAsks text asked = ((metric : List ℕ) × IsSelected metric × (text ≡ query_text metric) × (asked ≡ Rows metric))
    ⊎ (((metric : List ℕ) → IsSelected metric → text ≢ query_text metric) × (asked ≡ Refused NotBuilt))

-- ---- Messages

-- A message, where values have this scale, asks for this.
abbrev pub Asks : ℕ → Message → Asked → Type 0
Asks scale (message.Put name time values) asked = PutAsks scale name.bytes time.bytes (map (λ v. v.bytes) values) asked
Asks scale (message.Query json) asked = QueryAsks json.bytes asked
Asks scale message.Flush asked = asked ≡ Flush
Asks scale message.Unknown asked = asked ≡ Refused NoControl

-- messages in order
abbrev pub AllAsk : ℕ → List Message → List Asked → Type 0
AllAsk scale [] asked = asked ≡ []
AllAsk scale (m ∷ ms) asked = (first : Asked) × (others : List Asked) × (asked ≡ first ∷ others) × Asks scale m first × AllAsk scale ms others

-- Puts that stand whole in a piece.
use Rattle.std.specs.Prelude.{ℕ, ◌⊎◌, ◌≡◌, ◌+◌, ◌≤◌, ◌++◌, List, [], ◌∷◌, map, length, take, drop}
use Rattle.ak_resp.specs.declared.message.PartKind.{PartKind}
use Rattle.ak_resp.specs.declared.message.Part.{Part}
use Rattle.ak_resp.specs.declared.message.Message.{Message}
use Rattle.ak_resp.specs.declared.message.Message.TheVariants as message
use Rattle.ak_resp.specs.declared.puts.Lent.{Lent}
use Rattle.ak_resp.specs.declared.puts.LentValues.{LentValues}
use Rattle.ak_resp.specs.declared.puts.LentValues.TheVariants as values
use Rattle.ak_resp.specs.declared.puts.WholePut.{WholePut}
use Rattle.ak_resp.specs.declared.puts.Front.{Front}
use Rattle.ak_resp.specs.declared.puts.TimeFront.{TimeFront}
use Rattle.ak_resp.specs.declared.puts.ValuesFront.{ValuesFront}
use Rattle.std.specs.List.{AllByRecursion}
use Rattle.ak_resp.specs.Grammar.{crlf, one, array, number_from, IsDigit, IsInteger, IsItem, SpellsPart, SpellsParts}

abbrev pub part_as : PartKind → List ℕ → Part
part_as k text = record { kind = k; bytes = text }

-- the part that stands so
abbrev pub lent : Lent → Part
lent p = part_as p.kind p.text.now

-- these bytes spell so many parts, which an array may have
pub record AreParts (count : ℕ) (spelled : List ℕ) (parts : List Part) : Type 0 where
  pub number : length parts ≡ count
  pub items : AllByRecursion (λ (v : Part). IsItem v.kind) parts
  pub are : SpellsParts spelled (map one parts)

-- the values that stand so
abbrev pub AreValues : LentValues → List Part → Type 0
AreValues (values.One p) parts = parts ≡ lent p ∷ []
AreValues (values.Array ps) parts = AreParts ps.count ps.spelled.now parts

-- The message is the put that stands so.
pub record IsPutOf (put : WholePut) (m : Message) : Type 0 where
  pub parts : List Part
  pub values : AreValues put.values parts
  pub is : m ≡ message.Put (lent put.name) (lent put.time) parts

-- The time is 1 to 19 digits, which stand for its number.
pub record IsTimed (put : WholePut) : Type 0 where
  pub some : 1 ≤ length put.time.text.now
  pub short : length put.time.text.now ≤ 19
  pub digits : AllByRecursion IsDigit put.time.text.now
  pub value : number_from 0 put.time.text.now ≡ put.ts

-- CR LF stands in this place.
pub record IsEnd (bytes : List ℕ) (at : ℕ) : Type 0 where
  pub within : at + 2 ≤ length bytes
  pub is : drop at bytes ≡ crlf ++ drop (at + 2) bytes

-- a sign or none, and one digit or more, in one line
pub record IsIntegerText (text : List ℕ) : Type 0 where
  pub short : length text ≤ 4096
  pub is : IsInteger text

-- `+` or `-`
abbrev pub IsSign : ℕ → Type 0
IsSign b = (b ≡ 43) ⊎ (b ≡ 45)

-- The bytes begin with the part.
abbrev pub SpellsFront : List ℕ → Front → Type 0
SpellsFront bytes f = SpellsPart (take f.length bytes) (one (part_as f.kind f.text.now))

-- The bytes begin with so many digits, at most 19, which stand for the number.
pub record IsCount (bytes : List ℕ) (digits number : ℕ) : Type 0 where
  pub within : digits ≤ length bytes
  pub most : digits ≤ 19
  pub each : AllByRecursion IsDigit (take digits bytes)
  pub value : number_from 0 (take digits bytes) ≡ number

-- 1 to 19 digits, which stand for the number
pub record IsTimeText (text : List ℕ) (number : ℕ) : Type 0 where
  pub some : 1 ≤ length text
  pub short : length text ≤ 19
  pub digits : AllByRecursion IsDigit text
  pub value : number_from 0 text ≡ number

-- The bytes begin with the time.
pub record IsTimeFront (bytes : List ℕ) (t : TimeFront) : Type 0 where
  pub within : t.part.length ≤ length bytes
  pub spells : SpellsFront bytes t.part
  pub text : IsTimeText t.part.text.now t.ts

-- These bytes spell the values of a put: one of any kind, or an array of them.
abbrev pub SpellsValues : List ℕ → List Part → Type 0
SpellsValues bytes parts = ((value : Part) × (parts ≡ value ∷ []) × SpellsPart bytes (one value))
    ⊎ ((length parts ≤ 64) × AllByRecursion (λ (v : Part). IsItem v.kind) parts × SpellsParts bytes (array (length parts) ∷ map one parts))

-- The bytes begin with the values.
pub record IsValuesFront (bytes : List ℕ) (v : ValuesFront) : Type 0 where
  pub within : v.length ≤ length bytes
  pub parts : List Part
  pub are : AreValues v.values parts
  pub spells : SpellsValues (take v.length bytes) parts

-- Which bytes spell a message, and where a stream of messages has a fault.
use Rattle.std.specs.Prelude.{ℕ, ◌≡◌, ◌≢◌, ◌+◌, ◌*◌, ◌-◌, ◌<◌, ◌≤◌, ◌++◌, ◌⊎◌, List, [], ◌∷◌, map, length, take, codes}
use Rattle.std.specs.List.{AllByRecursion}
use Rattle.ak_resp.specs.declared.message.PartKind.{PartKind}
use Rattle.ak_resp.specs.declared.message.PartKind.TheVariants as kind
use Rattle.ak_resp.specs.declared.message.Part.{Part}
use Rattle.ak_resp.specs.declared.message.Message.{Message}
use Rattle.ak_resp.specs.declared.message.Message.TheVariants as message

-- ---- Parts

abbrev pub crlf : List ℕ
crlf = 13 ∷ 10 ∷ []

-- neither CR nor LF
pub record IsLineByte (b : ℕ) : Type 0 where
  pub not_cr : b ≢ 13
  pub not_lf : b ≢ 10

-- content of a line
pub record IsLine (bytes : List ℕ) : Type 0 where
  pub short : length bytes ≤ 4096
  pub each : AllByRecursion IsLineByte bytes

pub record IsDigit (b : ℕ) : Type 0 where
  pub least : 48 ≤ b
  pub most : b ≤ 57

-- the number that digits stand for, behind others that stand for n
abbrev pub number_from : ℕ → List ℕ → ℕ
number_from n [] = n
number_from n (d ∷ ds) = number_from (n * 10 + (d - 48)) ds

-- one digit or more, in one line, with this value
pub record IsNumber (digits : List ℕ) (n : ℕ) : Type 0 where
  pub some : digits ≢ []
  pub short : length digits ≤ 4096
  pub each : AllByRecursion IsDigit digits
  pub value : number_from 0 digits ≡ n

-- an optional sign, and one digit or more
abbrev pub IsInteger : List ℕ → Type 0
IsInteger [] = ⊥
IsInteger (b ∷ bs) = (IsDigit b × AllByRecursion IsDigit bs) ⊎ (((b ≡ 43) ⊎ (b ≡ 45)) × (bs ≢ []) × AllByRecursion IsDigit bs)

-- a part as it is written: one with content, or the head of an array
pub data Written : Type 0 where
  one : Part → Written
  array : ℕ → Written

abbrev pub SpellsKind : PartKind → List ℕ → List ℕ → Type 0
SpellsKind kind.Simple content bytes = IsLine content × (bytes ≡ 43 ∷ content ++ crlf)
SpellsKind kind.Integer content bytes = (length content ≤ 4096) × IsInteger content × (bytes ≡ 58 ∷ content ++ crlf)
SpellsKind kind.Bulk content bytes = (digits : List ℕ) × IsNumber digits (length content) × (length content ≤ 65536)
    × (bytes ≡ 36 ∷ digits ++ crlf ++ content ++ crlf)

-- These bytes spell the part.
abbrev pub SpellsPart : List ℕ → Written → Type 0
SpellsPart bytes (one p) = SpellsKind p.kind p.bytes bytes
SpellsPart bytes (array n) = (digits : List ℕ) × IsNumber digits n × (n ≤ 64) × (bytes ≡ 42 ∷ digits ++ crlf)

abbrev pub SpellsParts : List ℕ → List Written → Type 0
SpellsParts bytes [] = bytes ≡ []
SpellsParts bytes (w ∷ ws) = (x y : List ℕ) × (bytes ≡ x ++ y) × SpellsPart x w × SpellsParts y ws

-- ---- Messages

-- simple or bulk
abbrev pub IsText : PartKind → Type 0
IsText kind.Simple = Unit {0}
IsText kind.Integer = ⊥
IsText kind.Bulk = Unit {0}

-- simple or integer
abbrev pub IsItem : PartKind → Type 0
IsItem kind.Simple = Unit {0}
IsItem kind.Integer = Unit {0}
IsItem kind.Bulk = ⊥

abbrev pub BeginsControl : List ℕ → Type 0
BeginsControl [] = ⊥
BeginsControl (b ∷ bs) = b ≡ 33

-- the name of a series: no control
abbrev pub IsName : Part → Type 0
IsName p = IsText p.kind × ¬ (BeginsControl p.bytes)

abbrev pub IsControl : Part → List ℕ → Type 0
IsControl p name = IsText p.kind × (p.bytes ≡ name)

-- These parts are the message.
abbrev pub IsMessage : List Written → Message → Type 0
IsMessage parts (message.Put name time values) = IsName name
    × (((value : Part) × (values ≡ value ∷ []) × (parts ≡ one name ∷ one time ∷ one value ∷ []))
    ⊎ ((length values ≤ 64) × AllByRecursion (λ v. IsItem v.kind) values × (parts ≡ one name ∷ one time ∷ array (length values) ∷ map one values)))
IsMessage parts (message.Query json) = (name : Part) × IsControl name (codes "!query") × IsText json.kind × (parts ≡ one name ∷ one json ∷ [])
IsMessage parts message.Flush = (name : Part) × IsControl name (codes "!flush") × (parts ≡ one name ∷ [])
IsMessage parts message.Unknown = (name : Part) × IsText name.kind × BeginsControl name.bytes
    × (name.bytes ≢ codes "!query") × (name.bytes ≢ codes "!flush") × (parts ≡ one name ∷ [])

-- These bytes spell the message.
abbrev pub Spells : List ℕ → Message → Type 0
Spells bytes m = (parts : List Written) × IsMessage parts m × SpellsParts bytes parts

-- ---- Streams

-- a row of spellings
abbrev pub SpellsRow : List ℕ → List Message → Type 0
SpellsRow bytes [] = bytes ≡ []
SpellsRow bytes (m ∷ ms) = (x y : List ℕ) × (bytes ≡ x ++ y) × Spells x m × SpellsRow y ms

-- Some row of spellings begins with these bytes.
abbrev pub IsOpen : List ℕ → Type 0
IsOpen bytes = (more : List ℕ) × (ms : List Message) × SpellsRow (bytes ++ more) ms

-- The messages of the stream are those of its longest prefix that is a row of spellings; the rest is what is behind it.
pub record Splits (stream : List ℕ) (messages : List Message) (rest : List ℕ) : Type 0 where
  pub front : List ℕ
  pub whole : stream ≡ front ++ rest
  pub spelled : SpellsRow front messages
  pub longest : (x y : List ℕ) (ms : List Message) → stream ≡ x ++ y → SpellsRow x ms → length x ≤ length front

-- The fault is at the least place such that the bytes up to and with it are no prefix of a row of spellings.
pub record HasFaultAt (stream : List ℕ) (place : ℕ) : Type 0 where
  pub within : place < length stream
  pub open_before : IsOpen (take place stream)
  pub closed : ¬ (IsOpen (take (place + 1) stream))

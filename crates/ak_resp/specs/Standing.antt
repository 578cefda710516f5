-- What bytes of a message a spot stands for, and what row of bytes a reader does, which it doesn't keep.
use Rattle.std.specs.Prelude.{ℕ, ◌≡◌, ◌+◌, ◌≤◌, ◌<◌, ◌++◌, ◌⊎◌, List, [], ◌∷◌, map, length, take, get_or, min, codes, Bool, true, false, Option, Some, None, Result, Ok, Err}
use Rattle.std.specs.List.{AllByRecursion}
use Rattle.ak_resp.specs.declared.message.PartKind.{PartKind}
use Rattle.ak_resp.specs.declared.message.PartKind.TheVariants as kind
use Rattle.ak_resp.specs.declared.message.Part.{Part}
use Rattle.ak_resp.specs.declared.message.Message.{Message}
use Rattle.ak_resp.specs.declared.message.RespError.{RespError}
use Rattle.ak_resp.specs.declared.message.RespError.TheVariants.{Refused, Memory}
use Rattle.ak_resp.specs.declared.fault.Fault.{Fault}
use Rattle.ak_resp.specs.declared.resp.Resp.{Resp}
use Rattle.ak_base.specs.declared.refusal.Refusal.{Refusal}
use Rattle.ak_resp.specs.declared.spot.Spot.{Spot}
use Rattle.ak_resp.specs.declared.spot.Progress.{Progress}
use Rattle.ak_resp.specs.declared.spot.Progress.TheVariants.{Name, Time, Value, Item, Json}
use Rattle.ak_resp.specs.declared.spot.Within.{Within}
use Rattle.ak_resp.specs.declared.spot.Within.TheVariants.{Start, Simple, Integer, BulkHead, ArrayHead, BulkHeadEnd, ArrayHeadEnd, Content, PartEnd}
use Rattle.ak_resp.specs.Grammar.{crlf, IsLine, IsDigit, number_from, IsNumber, Written, one, array, SpellsKind, SpellsParts, IsItem, IsName, IsControl, IsOpen, Splits, HasFaultAt}
use Rattle.ak_resp.specs.Kinds.{allows, kind_of, told}

abbrev pub type_byte : PartKind → ℕ
type_byte kind.Simple = 43
type_byte kind.Integer = 58
type_byte kind.Bulk = 36

-- the whole parts of a message that has begun
abbrev pub AreDone : Progress → List Written → Type 0
AreDone Name parts = parts ≡ []
AreDone (Time name) parts = IsName name × (parts ≡ one name ∷ [])
AreDone (Value name time) parts = IsName name × (parts ≡ one name ∷ one time ∷ [])
AreDone (Item name time values left) parts = IsName name × (0 < left) × (length values + left ≤ 64) × AllByRecursion (λ v. IsItem v.kind) values
    × (parts ≡ one name ∷ one time ∷ array (length values + left) ∷ map one values)
AreDone Json parts = (name : Part) × IsControl name (codes "!query") × (parts ≡ one name ∷ [])

-- what an integer begins with
abbrev pub IsIntegerFront : List ℕ → Type 0
IsIntegerFront [] = Unit {0}
IsIntegerFront (b ∷ bs) = (IsDigit b ⊎ ((b ≡ 43) ⊎ (b ≡ 45))) × AllByRecursion IsDigit bs

-- digits of a length, whose value is at most this
abbrev pub AreDigits : List ℕ → ℕ → ℕ → ℕ → Type 0
AreDigits digits count value most = (length digits ≡ count) × (length digits ≤ 4096) × AllByRecursion IsDigit digits × (number_from 0 digits ≡ value) × (value ≤ most)

-- the bytes of a part that has begun
abbrev pub IsBegun : Progress → Within → List ℕ → List ℕ → Type 0
IsBegun p Start c bytes = (c ≡ []) × (bytes ≡ [])
IsBegun p Simple c bytes = IsLine c × (bytes ≡ 43 ∷ c)
IsBegun p Integer c bytes = (allows p 58 ≡ true) × (length c ≤ 4096) × IsIntegerFront c × (bytes ≡ 58 ∷ c)
IsBegun p (BulkHead d v) c bytes = (allows p 36 ≡ true) × (c ≡ []) × (digits : List ℕ) × AreDigits digits d v 65536 × (bytes ≡ 36 ∷ digits)
IsBegun p (ArrayHead d v) c bytes = (allows p 42 ≡ true) × (c ≡ []) × (digits : List ℕ) × AreDigits digits d v 64 × (bytes ≡ 42 ∷ digits)
IsBegun p (BulkHeadEnd v) c bytes = (allows p 36 ≡ true) × (c ≡ []) × (digits : List ℕ) × IsNumber digits v × (v ≤ 65536) × (bytes ≡ 36 ∷ digits ++ 13 ∷ [])
IsBegun p (ArrayHeadEnd v) c bytes = (allows p 42 ≡ true) × (c ≡ []) × (digits : List ℕ) × IsNumber digits v × (v ≤ 64) × (bytes ≡ 42 ∷ digits ++ 13 ∷ [])
IsBegun p (Content left) c bytes = (allows p 36 ≡ true) × (digits : List ℕ) × IsNumber digits (length c + left) × (length c + left ≤ 65536) × (bytes ≡ 36 ∷ digits ++ (crlf ++ c))
IsBegun p (PartEnd k) c bytes = (allows p (type_byte k) ≡ true) × SpellsKind k c (bytes ++ 10 ∷ [])

-- A reader that has read this rest of a message is at the spot.
pub record StandsAt (s : Spot) (rest : List ℕ) : Type 0 where
  pub before : List ℕ
  pub begun : List ℕ
  pub parts : List Written
  pub whole : rest ≡ before ++ begun
  pub done : AreDone s.progress parts
  pub spelled : SpellsParts before parts
  pub part : IsBegun s.progress s.within s.bytes begun

-- whether a message has begun
abbrev pub IsInsideAt : Progress → Within → Type 0
IsInsideAt Name Start = ⊥
IsInsideAt _ _ = Unit {0}

abbrev pub IsInside : Spot → Type 0
IsInside s = IsInsideAt s.progress s.within

-- ---- Refusals

-- the greatest place that is told
abbrev pub last_place : ℕ
last_place = 18446744073709551615

-- the reader that has passed so many bytes more
abbrev pub passed : Resp → ℕ → Resp
passed r n = record r { place = min (r.place + n) last_place }

-- The stream has its fault at this place, and is refused so: the bytes before it are messages and a rest, and the refusal
-- tells the kind of the byte there, at the spot where the rest leads, and the place.
pub record HasRefusal (stream : List ℕ) (place : ℕ) (f : Refusal) : Type 0 where
  pub has : HasFaultAt stream place
  pub messages : List Message
  pub rest : List ℕ
  pub splits : Splits (take place stream) messages rest
  pub spot : Spot
  pub stands : StandsAt spot rest
  pub kind : Fault
  pub is_kind : kind_of spot (get_or stream place 0) ≡ Some kind
  pub is_told : f ≡ told kind (min place last_place)

-- ---- Readers

-- what the reader has refused its stream by
abbrev pub refusal_of : Resp → Option Refusal
refusal_of r = r.refusal

abbrev pub is_refused : Option Refusal → Bool
is_refused None = false
is_refused (Some f) = true

-- whether the reader has met a fault
abbrev pub is_faulted : Resp → Bool
is_faulted r = is_refused (refusal_of r)

-- The row is these messages and a rest. A reader without a fault is where the rest has led, some row of spellings
-- begins with the row, and the bytes are counted. One with a fault has met it, and keeps how the row is refused.
pub record StandsFor (r : Resp) (row : List ℕ) (messages : List Message) : Type 0 where
  pub rest : List ℕ
  pub splits : Splits row messages rest
  pub sound : is_faulted r ≡ false → IsOpen row × StandsAt r.spot rest × (r.place ≡ min (length row) last_place)
  pub faulty : is_faulted r ≡ true → (place : ℕ) × HasFaultAt row place
  pub refused : (f : Refusal) → refusal_of r ≡ Some f → (place : ℕ) × HasRefusal row place f

-- what a reader stands for after an answer, unless memory ran out
abbrev pub StandsAfter : Resp → List ℕ → List Message → Result (Option Message) RespError → Type 0
StandsAfter new row messages (Ok (Some m)) = StandsFor new row (messages ++ m ∷ [])
StandsAfter new row messages (Ok None) = StandsFor new row messages
StandsAfter new row messages (Err (Refused f)) = StandsFor new row messages
StandsAfter new row messages (Err Memory) = Unit {0}

-- A fault is met exactly where one is answered, and the refusal is kept.
abbrev pub TellsFault : Resp → Result (Option Message) RespError → Type 0
TellsFault new (Ok o) = is_faulted new ≡ false
TellsFault new (Err (Refused f)) = (is_faulted new ≡ true) × (refusal_of new ≡ Some f)
TellsFault new (Err Memory) = Unit {0}

abbrev pub OnNone : Result (Option Message) RespError → Type 0 → Type 0
OnNone (Ok None) P = P
OnNone (Ok (Some m)) P = Unit {0}
OnNone (Err e) P = Unit {0}

abbrev pub OnMessage : Result (Option Message) RespError → Type 0 → Type 0
OnMessage (Ok (Some m)) P = P
OnMessage (Ok None) P = Unit {0}
OnMessage (Err e) P = Unit {0}

abbrev pub OnFault : Result (Option Message) RespError → (Refusal → Type 0) → Type 0
OnFault (Ok o) P = Unit {0}
OnFault (Err (Refused f)) P = P f
OnFault (Err Memory) P = Unit {0}

-- Whatever bytes come next, some reader stands for the row with them.
pub record Continues (row : List ℕ) (messages : List Message) (bytes : List ℕ) : Type 0 where
  pub reader : Resp
  pub acting : List Message
  pub stands : StandsFor reader (row ++ bytes) (messages ++ acting)

-- a reader that stands for the empty row
pub record Starts : Type 0 where
  pub reader : Resp
  pub stands : StandsFor reader [] []

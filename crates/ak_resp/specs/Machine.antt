-- A machine over single bytes: where a reader is within a message, and what a byte makes of it.
use Rattle.std.specs.Prelude.{ℕ, ◌≡◌, ◌+◌, ◌*◌, ◌-◌, ◌++◌, List, [], ◌∷◌, Bool, false, not, if◌then◌else◌, nat_eq, nat_lt, nat_le, length, Option, Some, None, Result, Ok, Err, All, ◌≤◌, codes, bytes_eq}
use Rattle.std.specs.List.{list_any}
use Rattle.ak_resp.specs.Grammar.{IsLineByte}
use Rattle.ak_resp.specs.Kinds.{allows, is_digit, goes_on}
use Rattle.ak_resp.specs.declared.message.PartKind.{PartKind}
use Rattle.ak_resp.specs.declared.message.PartKind.TheVariants as kind
use Rattle.ak_resp.specs.declared.message.Part.{Part}
use Rattle.ak_resp.specs.declared.message.Message.{Message}
use Rattle.ak_resp.specs.declared.message.Message.TheVariants as message
use Rattle.ak_resp.specs.declared.fault.Fault.{Fault}
use Rattle.ak_resp.specs.declared.fault.Fault.TheVariants as fault
use Rattle.ak_resp.specs.declared.spot.Progress.{Progress}
use Rattle.ak_resp.specs.declared.spot.Progress.TheVariants.{Name, Time, Value, Item, Json}
use Rattle.ak_resp.specs.declared.spot.Within.{Within}
use Rattle.ak_resp.specs.declared.spot.Within.TheVariants.{Start, Simple, Integer, BulkHead, ArrayHead, BulkHeadEnd, ArrayHeadEnd, Content, PartEnd}
use Rattle.ak_resp.specs.declared.spot.Spot.{Spot}
use Rattle.ak_resp.specs.declared.spot.SpotError.{SpotError}
use Rattle.ak_resp.specs.declared.spot.SpotError.TheVariants as spot_error

-- what comes after a type byte
abbrev pub opening : ℕ → Option Within
opening b = if nat_eq b 43 then Some Simple else
    (if nat_eq b 58 then Some Integer else
    (if nat_eq b 36 then Some (BulkHead 0 0) else
    (if nat_eq b 42 then Some (ArrayHead 0 0) else None)))

-- what a byte makes of a spot
pub data Outcome : Type 0 where
  going : Spot → Outcome
  whole : Message → Outcome
  refused : Fault → Outcome

-- where a message begins
abbrev pub first : Spot
first = record { progress = Name; within = Start; bytes = [] }

abbrev pub begin_as : Spot → ℕ → Option Within → Outcome
begin_as s b (Some w) = if allows s.progress b then going (record s { within = w }) else refused fault.BadShape
begin_as s b None = if nat_eq b 10 then refused fault.BadEnd else refused fault.BadKind

abbrev pub begin : Spot → ℕ → Outcome
begin s b = begin_as s b (opening b)

abbrev pub simple : Spot → ℕ → Outcome
simple s b = if nat_eq b 10 then refused fault.BadEnd else
    (if nat_eq b 13 then going (record s { within = PartEnd kind.Simple }) else
    (if nat_le 4096 (length s.bytes) then refused fault.LongLine else going (record s { bytes = s.bytes ++ b ∷ [] })))

abbrev pub integer : Spot → ℕ → Outcome
integer s b = if nat_eq b 10 then refused fault.BadEnd else
    (if nat_eq b 13 then (if list_any is_digit s.bytes then going (record s { within = PartEnd kind.Integer }) else refused fault.BadNumber) else
    (if nat_le 4096 (length s.bytes) then refused fault.LongLine else
    (if goes_on s.bytes b then going (record s { bytes = s.bytes ++ b ∷ [] }) else refused fault.BadNumber)))

-- a byte of a length: how many digits and what value there are now, or None at its CR
abbrev pub head : ℕ → ℕ → ℕ → ℕ → Fault → Result (Option (ℕ × ℕ)) Fault
head digits value b most above = if nat_eq b 10 then Err fault.BadEnd else
    (if nat_eq b 13 then (if nat_eq digits 0 then Err fault.BadNumber else Ok None) else
    (if nat_le 4096 digits then Err fault.LongLine else
    (if not (is_digit b) then Err fault.BadNumber else
    (if nat_lt most (value * 10 + (b - 48)) then Err above else Ok (Some (digits + 1, value * 10 + (b - 48)))))))

abbrev pub bulk_head_as : Spot → ℕ → Result (Option (ℕ × ℕ)) Fault → Outcome
bulk_head_as s value (Ok (Some n)) = going (record s { within = BulkHead n.0 n.1 })
bulk_head_as s value (Ok None) = going (record s { within = BulkHeadEnd value })
bulk_head_as s value (Err f) = refused f

abbrev pub bulk_head : Spot → ℕ → ℕ → ℕ → Outcome
bulk_head s digits value b = bulk_head_as s value (head digits value b 65536 fault.LongBulk)

abbrev pub array_head_as : Spot → ℕ → Result (Option (ℕ × ℕ)) Fault → Outcome
array_head_as s value (Ok (Some n)) = going (record s { within = ArrayHead n.0 n.1 })
array_head_as s value (Ok None) = going (record s { within = ArrayHeadEnd value })
array_head_as s value (Err f) = refused f

abbrev pub array_head : Spot → ℕ → ℕ → ℕ → Outcome
array_head s digits value b = array_head_as s value (head digits value b 64 fault.BadShape)

abbrev pub bulk_head_end : Spot → ℕ → ℕ → Outcome
bulk_head_end s value b = if nat_eq b 10 then going (record s { within = Content value }) else refused fault.BadEnd

abbrev pub content : Spot → ℕ → ℕ → Outcome
content s left b = if nat_lt 0 left then going (record s { within = Content (left - 1); bytes = s.bytes ++ b ∷ [] }) else
    (if nat_eq b 13 then going (record s { within = PartEnd kind.Bulk }) else refused fault.BadEnd)

-- a spot between two parts
abbrev pub between : Progress → Spot
between p = record { progress = p; within = Start; bytes = [] }

-- what an array head makes of the parts so far; only a value may be an array
abbrev pub items : Progress → ℕ → Outcome
items (Value name time) n = if nat_eq n 0 then whole (message.Put name time []) else going (between (Item name time [] n))
items _ n = refused fault.BadShape

abbrev pub array_head_end : Spot → ℕ → ℕ → Outcome
array_head_end s value b = if nat_eq b 10 then items s.progress value else refused fault.BadEnd

abbrev pub is_control : List ℕ → Bool
is_control [] = false
is_control (b ∷ bs) = nat_eq b 33

-- what a whole name part makes
abbrev pub finish_name : Part → Outcome
finish_name p = if not (is_control p.bytes) then going (between (Time p)) else
    (if bytes_eq p.bytes (codes "!query") then going (between Json) else
    (if bytes_eq p.bytes (codes "!flush") then whole message.Flush else whole message.Unknown))

-- what a whole part makes of the parts so far
abbrev pub finish : Progress → Part → Outcome
finish Name p = finish_name p
finish (Time name) p = going (between (Value name p))
finish (Value name time) p = whole (message.Put name time (p ∷ []))
finish (Item name time values left) p = if nat_le left 1 then whole (message.Put name time (values ++ p ∷ [])) else
    going (between (Item name time (values ++ p ∷ []) (left - 1)))
finish Json p = whole (message.Query p)

abbrev pub part_end : Spot → PartKind → ℕ → Outcome
part_end s k b = if nat_eq b 10 then finish s.progress (record { kind = k; bytes = s.bytes }) else refused fault.BadEnd

abbrev pub step_in : Within → Spot → ℕ → Outcome
step_in Start s b = begin s b
step_in Simple s b = simple s b
step_in Integer s b = integer s b
step_in (BulkHead digits value) s b = bulk_head s digits value b
step_in (ArrayHead digits value) s b = array_head s digits value b
step_in (BulkHeadEnd value) s b = bulk_head_end s value b
step_in (ArrayHeadEnd value) s b = array_head_end s value b
step_in (Content left) s b = content s left b
step_in (PartEnd k) s b = part_end s k b

-- what one byte makes of a spot
abbrev pub step : Spot → ℕ → Outcome
step s b = step_in s.within s b

-- bytes that are content at a spot, each of them
abbrev pub IsRunIn : Within → Spot → List ℕ → Type 0
IsRunIn Simple s bytes = (length bytes ≤ 4096 - length s.bytes) × All IsLineByte bytes
IsRunIn (Content left) s bytes = length bytes ≤ left
IsRunIn _ s bytes = bytes ≡ []

abbrev pub IsRun : Spot → List ℕ → Type 0
IsRun s bytes = IsRunIn s.within s bytes

abbrev pub extended_in : Within → ℕ → Within
extended_in (Content left) n = Content (left - n)
extended_in w n = w

-- a spot after content
abbrev pub extended : Spot → List ℕ → Spot
extended s bytes = record s { within = extended_in s.within (length bytes); bytes = s.bytes ++ bytes }

-- What a function answered and left is what the machine says, unless memory ran out.
abbrev pub Gives : Outcome → Result (Option Message) SpotError → Spot → Spot → Type 0
Gives outcome (Ok None) old new = outcome ≡ going new
Gives outcome (Ok (Some m)) old new = (outcome ≡ whole m) × (new ≡ first)
Gives outcome (Err (spot_error.Refused f)) old new = (outcome ≡ refused f) × (new ≡ old)
Gives outcome (Err spot_error.Memory) old new = Unit {0}

abbrev pub GivesName : Outcome → Option Message → Spot → Type 0
GivesName outcome None new = outcome ≡ going new
GivesName outcome (Some m) new = (outcome ≡ whole m) × (new ≡ first)

abbrev pub Finishes : Outcome → Result (Option Message) SpotError → Spot → Type 0
Finishes outcome (Ok o) new = GivesName outcome o new
Finishes outcome (Err (spot_error.Refused f)) new = ⊥
Finishes outcome (Err spot_error.Memory) new = Unit {0}

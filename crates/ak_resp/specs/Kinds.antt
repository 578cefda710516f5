-- Which fault a byte is, at a spot where no message goes on with it.
use Rattle.std.specs.Prelude.{[], ◌∷◌, true, ℕ, ◌+◌, ◌*◌, ◌-◌, List, length, Bool, false, not, ◌&&◌, ◌||◌, if◌then◌else◌, nat_eq, nat_lt, nat_le, Option, Some, None}
use Rattle.std.specs.List.{list_any}
use Rattle.ak_base.specs.declared.refusal.Refusal.{Refusal}
use Rattle.ak_base.specs.declared.refusal.Refusal.TheVariants.{BadKind, BadNumber, LongLine, BadEnd, LongBulk, BadShape}
use Rattle.ak_resp.specs.declared.fault.Fault.{Fault}
use Rattle.ak_resp.specs.declared.fault.Fault.TheVariants as fault
use Rattle.ak_resp.specs.declared.spot.Spot.{Spot}
use Rattle.ak_resp.specs.declared.spot.Progress.{Progress}
use Rattle.ak_resp.specs.declared.spot.Progress.TheVariants.{Name, Time, Value, Item, Json}
use Rattle.ak_resp.specs.declared.spot.Within.{Within}
use Rattle.ak_resp.specs.declared.spot.Within.TheVariants.{Start, Simple, Integer, BulkHead, ArrayHead, BulkHeadEnd, ArrayHeadEnd, Content, PartEnd}

-- whether a part with this type byte may come next
abbrev pub allows : Progress → ℕ → Bool
allows Name b = nat_eq b 43 || nat_eq b 36
allows (Time name) b = not (nat_eq b 42)
allows (Value name time) b = true
allows (Item name time values left) b = nat_eq b 43 || nat_eq b 58
allows Json b = nat_eq b 43 || nat_eq b 36

-- whether a byte is a digit
abbrev pub is_digit : ℕ → Bool
is_digit b = nat_le 48 b && nat_le b 57

-- whether a number that begins with these bytes may go on with this one
abbrev pub goes_on : List ℕ → ℕ → Bool
goes_on [] b = is_digit b || (nat_eq b 43 || nat_eq b 45)
goes_on (c ∷ cs) b = is_digit b

-- a wrong byte after a bulk or a CR, and anywhere else but within a bulk an LF
abbrev pub bad_line_end : Within → ℕ → Bool
bad_line_end (Content left) b = nat_eq left 0 && not (nat_eq b 13)
bad_line_end (PartEnd k) b = not (nat_eq b 10)
bad_line_end (BulkHeadEnd v) b = not (nat_eq b 10)
bad_line_end (ArrayHeadEnd v) b = not (nat_eq b 10)
bad_line_end _ b = nat_eq b 10

-- content of a line behind 4096 bytes of it
abbrev pub long_line : Within → List ℕ → ℕ → Bool
long_line Simple c b = not (nat_eq b 13) && nat_le 4096 (length c)
long_line Integer c b = not (nat_eq b 13) && nat_le 4096 (length c)
long_line (BulkHead d v) c b = not (nat_eq b 13) && nat_le 4096 d
long_line (ArrayHead d v) c b = not (nat_eq b 13) && nat_le 4096 d
long_line _ c b = false

-- in a number line, a CR before any digit, or a byte that is not allowed
abbrev pub bad_number : Within → List ℕ → ℕ → Bool
bad_number Integer c b = if nat_eq b 13 then not (list_any is_digit c) else not (goes_on c b)
bad_number (BulkHead d v) c b = if nat_eq b 13 then nat_eq d 0 else not (is_digit b)
bad_number (ArrayHead d v) c b = if nat_eq b 13 then nat_eq d 0 else not (is_digit b)
bad_number _ c b = false

-- the digit that makes a bulk's length too great
abbrev pub long_bulk : Within → ℕ → Bool
long_bulk (BulkHead d v) b = not (nat_eq b 13) && nat_lt 65536 (v * 10 + (b - 48))
long_bulk _ b = false

abbrev pub is_type_byte : ℕ → Bool
is_type_byte b = nat_eq b 43 || (nat_eq b 58 || (nat_eq b 36 || nat_eq b 42))

-- a type byte that is not allowed in its place, or the digit that makes an array's length too great
abbrev pub wrong_shape : Progress → Within → ℕ → Bool
wrong_shape p Start b = is_type_byte b && not (allows p b)
wrong_shape p (ArrayHead d v) b = not (nat_eq b 13) && nat_lt 64 (v * 10 + (b - 48))
wrong_shape p _ b = false

abbrev pub bad_type : Within → ℕ → Bool
bad_type Start b = not (is_type_byte b)
bad_type _ b = false

-- the first of them, in their order; none where a message may go on with the byte
abbrev pub kind_of : Spot → ℕ → Option Fault
kind_of s b =
    if bad_line_end s.within b then Some fault.BadEnd else
    (if long_line s.within s.bytes b then Some fault.LongLine else
    (if bad_number s.within s.bytes b then Some fault.BadNumber else
    (if long_bulk s.within b then Some fault.LongBulk else
    (if wrong_shape s.progress s.within b then Some fault.BadShape else
    (if bad_type s.within b then Some fault.BadKind else None)))))

-- what the session is told of a fault at a place
abbrev pub told : Fault → ℕ → Refusal
told fault.BadKind at = BadKind at
told fault.BadNumber at = BadNumber at
told fault.LongLine at = LongLine at
told fault.BadEnd at = BadEnd at
told fault.LongBulk at = LongBulk at
told fault.BadShape at = BadShape at

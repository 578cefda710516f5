-- File 0: a gate of each slot, and then the bodies of both.
use Rattle.std.specs.Prelude.{ℕ, ◌+◌, ◌*◌, Bool, true, false, List, [], ◌∷◌, ◌++◌, take, drop, Option, Some, None, slice_index, slice_index_or, ◌==◌, nat_le, if◌then◌else◌}
use Rattle.ak_host.specs.Files.{Files, file_at}
use Rattle.ak_gate.specs.declared.half.Half.{Half}
use Rattle.ak_gate.specs.declared.half.Half.TheVariants.{First, Second}

abbrev pub other : Half → Half
other First = Second
other Second = First

-- a slot's number
abbrev pub slot_number : Half → ℕ
slot_number First = 0
slot_number Second = 1

-- where a slot's gate stands
abbrev pub gate_index : Half → ℕ
gate_index First = 0
gate_index Second = 1

-- where a slot's body begins
abbrev pub body_index : ℕ → Half → ℕ
body_index slot First = 2
body_index slot Second = 2 + slot

abbrev pub gate_at : Half → List (List ℕ) → List ℕ
gate_at half file = slice_index_or file (gate_index half) []

abbrev pub body_at : ℕ → Half → List (List ℕ) → List (List ℕ)
body_at slot half file = take slot (drop (body_index slot half) file)

-- a gate is open where its first byte is 1
abbrev pub is_open : List ℕ → Bool
is_open block = slice_index block 0 == 1

-- the number that bytes stand for, the lowest byte first
abbrev pub number_of : List ℕ → ℕ
number_of [] = 0
number_of (byte ∷ bytes) = byte + 256 * number_of bytes

abbrev pub joined : List (List ℕ) → List ℕ
joined [] = []
joined (block ∷ blocks) = block ++ joined blocks

-- what a body's frame holds: the payload's length, the number, the payload
pub record Frame : Type 0 where
  pub number : ℕ
  pub payload : List ℕ

abbrev pub frame_of : List (List ℕ) → Frame
frame_of body = record {
  number = number_of (take 8 (drop 8 (joined body)));
  payload = take (number_of (take 8 (joined body))) (drop 16 (joined body));
}

-- the newest of two slots by their gates: the one with the greater number, and the first on equal numbers
abbrev pub newest_of : Bool → Bool → Frame → Frame → Option Frame
newest_of true true first second = if nat_le second.number first.number then Some first else Some second
newest_of true false first second = Some first
newest_of false true first second = Some second
newest_of false false first second = None

-- the newest record of file 0
unfoldable pub newest_in : ℕ → List (List ℕ) → Option Frame
newest_in slot file = newest_of (is_open (gate_at First file)) (is_open (gate_at Second file)) (frame_of (body_at slot First file)) (frame_of (body_at slot Second file))

-- the newest record of a disk
abbrev pub newest : ℕ → Files → Option Frame
newest slot disk = newest_in slot (file_at disk 0)

-- the record of the newest slot: none before the first is revealed
abbrev pub current : Bool → Frame → Option Frame
current true frame = Some frame
current false frame = None

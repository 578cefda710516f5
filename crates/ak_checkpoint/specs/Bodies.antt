-- Frames in the blocks of a body.
use Rattle.std.specs.Prelude.{ℕ, ◌≡◌, ◌+◌, ◌*◌, ◌≤◌, Bool, true, false, List, ◌++◌, length, take, drop}
use Rattle.byteorder.specs.Endian.{little_bytes}
use Rattle.ak_host.specs.Files.{zero_block}
use Rattle.ak_gate.specs.Slots.{joined}
use Rattle.ak_gate.specs.View.{View}

-- the block of the bytes from a place on, with zeros behind their end
abbrev pub block_from : ℕ → List ℕ → List ℕ
block_from at bytes = take 4096 (drop at bytes ++ zero_block)

-- the blocks begin with these bytes
pub record BeginsWith (bytes : List ℕ) (blocks : List (List ℕ)) : Type 0 where
  pub rest : List ℕ
  pub is : joined blocks ≡ bytes ++ rest

-- the bytes have a frame's head, which spells this number
pub record Carries (number : ℕ) (bytes : List ℕ) : Type 0 where
  pub head : 16 ≤ length bytes
  pub spelled : take 8 (drop 8 bytes) ≡ little_bytes 8 number

-- How the next view is kept: the buffer has the bytes of a slot, and its front is a frame while a view is pending, whose
-- number is one more than that of the newest record.
pub record Keeps (gate : View) (buffer : List ℕ) (used number : ℕ) (pending broken : Bool) : Type 0 where
  pub whole : broken ≡ false → gate.broken ≡ false
  pub room : length buffer ≡ 4096 * gate.slot
  pub within : used ≤ length buffer
  pub idle : pending ≡ false → number ≡ gate.number
  pub next : pending ≡ true → number ≡ gate.number + 1
  pub frame : pending ≡ true → Carries number (take used buffer)

-- What contracts see of a gate.
use Rattle.std.specs.Prelude.{ℕ, Bool}
use Rattle.ak_gate.specs.declared.half.Half.{Half}

-- the blocks of a slot, the slot of the newest record, whether that slot's gate and the other's are open, the number of
-- the newest record, and whether a call of the device failed
pub record View : Type 0 where
  pub slot : ℕ
  pub newest : Half
  pub is_open : Bool
  pub other_open : Bool
  pub number : ℕ
  pub broken : Bool

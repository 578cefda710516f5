-- Calls that are numbered, and fail where their numbers stand in a list or where there is no memory.
use Rattle.std.specs.Prelude.{◌≡◌, ◌⊎◌, ℕ, ◌+◌, List, Contains, Result, IsErr, OnOk, OnErr}
use Rattle.ak_host.specs.Causes.{Rose}

-- the numbers of the calls that are to fail, the number of the next call, and how many calls were refused for want of memory
pub record Numbers : Type 0 where
  pub fails : List ℕ
  pub next : ℕ
  pub refused : ℕ

-- the next call is to fail
abbrev pub IsToFail : Numbers → Type 0
IsToFail numbers = Contains numbers.fails numbers.next

-- a call that took a number, or was refused and took none
abbrev pub TakesNumber : {T E : Type 0} → Numbers → Numbers → Result T E → Type 0
TakesNumber old new result = ((new.next ≡ old.next + 1) × (new.refused ≡ old.refused)) ⊎ ((new.next ≡ old.next) × Rose old.refused new.refused × IsErr result)

-- A call fails exactly where it is to fail or is refused, and only then its count of faults rises.
pub record IsNumbered {T E : Type 0} (old new : Numbers) (faults faults' : ℕ) (result : Result T E) : Type 0 where
  pub fails : new.fails ≡ old.fails
  pub to_fail : IsToFail old → IsErr result
  pub failed : OnErr result (IsToFail old ⊎ Rose old.refused new.refused)
  pub takes : TakesNumber old new result
  pub counted : OnOk result (faults' ≡ faults)

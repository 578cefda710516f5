-- What a stop leaves while a store is made.
use Rattle.std.proofs.Common.{◌≡◌, ◌⊎◌, inl, inr, ◌≤◌, Bool, true, false, length, refl, arith}
use Rattle.std.proofs.lemmas.Bool.{cases_lt}
use Rattle.ak_base.specs.declared.limits.Limits.{Limits}
use Rattle.ak_base.specs.Ranges.{AreLimits}
use Rattle.ak_checkpoint.specs.Making.{IsMade}
use Rattle.ak_gate.specs.declared.half.Half.{Half}
use Rattle.ak_gate.specs.Slots.{gate_at, is_open}
use Rattle.ak_host.specs.Files.{Files, file_at}
use Rattle.ak_record.specs.Stops.{IsNoStore, IsTaken}
use Rattle.ak_node.proofs.Starting.{made_first}
use Rattle.ak_top.specs.Commands.{IsMaking}

-- where there is no gate there is no store
pub free_none : (disk : Files) → ¬ (IsTaken disk) → IsNoStore disk
free_none disk free = elim (cases_lt (length (file_at disk 0)) 2) [
  | inl few ↦ inr (inr (inl (omega (arith, few))))
  | inr some ↦ inr (inr (inr (λ half. closed half (omega (arith, some)) (is_open (gate_at half (file_at disk 0))) refl)))
]
  where
    closed : (half : Half) (some : 2 ≤ length (file_at disk 0)) (b : Bool) → is_open (gate_at half (file_at disk 0)) ≡ b → b ≡ false
    closed half some true is = absurd (free (record { blocks = some; half = half; opened = is }))
    closed half some false is = refl

pub making : (limits : Limits) → AreLimits limits → (disk : Files) → IsNoStore disk ⊎ IsMade limits disk → IsMaking limits disk
making limits are disk (inl none) = inl none
making limits are disk (inr made) = inr (made_first limits disk are made)

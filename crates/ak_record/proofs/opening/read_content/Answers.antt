use Rattle.std.proofs.Common.{◌∙◌, inr, sym, ap}
use Rattle.ak_base.specs.declared.stop.Stop.TheVariants.{Damaged}
use Rattle.ak_record.proofs.Frames.{other_slot}
use Rattle.ak_record.proofs.opening.read_content.Goals as goal
use Rattle.ak_record.proofs.opening.read_content.Goals.{in-Ok+else-limits-slot_of, in-Err-Bad}

pub returns-clause-err : goal.returns-clause-err
returns-clause-err c = elim c.match-decode.branch [
  | in-Ok+else-limits-slot_of w ↦ inr (
    ap (λ block. Damaged 0 block) c.newest_body.ensures,
    other_slot c.args.payload.now c.args.gate.now.slot _ w.in-Ok.ensures.ok
        (λ same. w.if-limits-slot_of.false (ap (λ limits. limits.slot) w.limits.ensures ∙ same ∙ sym w.slot_of.ensures)),
  )
  | in-Err-Bad w ↦ inr (
    ap (λ block. Damaged 0 block) c.newest_body.ensures,
    λ content spells same. w.in-Err-Bad.ensures.bad w.in-Err-Bad.field-0-is content spells,
  )
]

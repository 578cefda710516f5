use Rattle.std.proofs.Common.{◌≡◌, ◌∙◌, ap, take, subst, Option, Some}
use Rattle.ak_host.specs.Files.{Files}
use Rattle.ak_host.specs.Moments.{DiskPasses, LeavesNow}
use Rattle.ak_gate.specs.Slots.{Frame}
use Rattle.ak_meta.specs.Contents.{Content, IsMeta}
use Rattle.ak_record.specs.Records.{frame_for, frame_bytes, HasNewest, Rests}
use Rattle.ak_checkpoint.specs.Saving.{Saving, IsSaving, IsSavedOver}
use Rattle.ak_checkpoint.proofs.checkpoint.Checkpoint.finish.Goals as goal

pub returns-in-Ok-clause-moments : goal.returns-in-Ok-clause-moments
returns-in-Ok-clause-moments g c told =
    let old = g.D.Outside.state c.args.disk.now in
    let new = g.D.Outside.state c.save.new.disk in
    subst (λ (s : Saving). (before : Option Frame) (d : Content) → Rests s.gate.slot before old → IsMeta d → d.limits.slot ≡ s.gate.slot → s.bytes ≡ frame_bytes (frame_for s.number d)
    → DiskPasses (IsSaving s.gate.slot s.file before (frame_for s.number d) old) old new) c.self.view_is
    (λ before content rests is slot_is framed. c.save.ensures.moments told before content rests is slot_is (ap (take c.self.inside.used) c.deref.ensures.value ∙ framed))

pub returns-in-Err-clause-moments : goal.returns-in-Err-clause-moments
returns-in-Err-clause-moments g c told =
    let old = g.D.Outside.state c.args.disk.now in
    let new = g.D.Outside.state c.save.new.disk in
    subst (λ (s : Saving). (before : Option Frame) (d : Content) → Rests s.gate.slot before old → IsMeta d → d.limits.slot ≡ s.gate.slot → s.bytes ≡ frame_bytes (frame_for s.number d)
    → DiskPasses (IsSaving s.gate.slot s.file before (frame_for s.number d) old) old new) c.self.view_is
    (λ before content rests is slot_is framed. c.save.ensures.moments told before content rests is slot_is (ap (take c.self.inside.used) c.deref.ensures.value ∙ framed))

pub returns-in-Ok-clause-saved : goal.returns-in-Ok-clause-saved
returns-in-Ok-clause-saved g c told =
    let old = g.D.Outside.state c.args.disk.now in
    let new = g.D.Outside.state c.save.new.disk in
    subst (λ (s : Saving). (before : Option Frame) (d : Content) → Rests s.gate.slot before old → IsMeta d → d.limits.slot ≡ s.gate.slot → s.bytes ≡ frame_bytes (frame_for s.number d)
    → (left : Files) → LeavesNow new left → IsSavedOver s.file old left × HasNewest s.gate.slot (Some (frame_for s.number d)) left) c.self.view_is
    (λ before content rests is slot_is framed. c.in-Ok.ensures.saved told before content rests is slot_is (ap (take c.self.inside.used) c.deref.ensures.value ∙ framed))

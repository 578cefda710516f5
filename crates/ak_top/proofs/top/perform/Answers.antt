use Rattle.std.proofs.Common.{◌≡◌, map, string_bytes, inl, refl, sym, subst, OnOk}
use Rattle.std.proofs.lemmas.Result.{IfErr-weaker}
use Rattle.ak_base.specs.declared.limits.Limits.{Limits}
use Rattle.ak_host.specs.Files.{Files}
use Rattle.ak_host.specs.Moments.{DiskPasses, LeavesNow, mark_now, Passes}
use Rattle.ak_node.specs.Opening.{IsFirst}
use Rattle.ak_world.specs.Views.{View}
use Rattle.ak_top.specs.Commands.{IsMaking, LeavesBefore}
use Rattle.ak_top.specs.Ends.{IsEnd, IsRunStop, IsScratchStop, IsServing, IsServingOrThere, HasServed, HasOpened}
use Rattle.ak_top.specs.Kept.{KeepsFrom}
use Rattle.ak_top.specs.Told.{IsQuiet}
use Rattle.ak_top.proofs.Commands.{quiet_passes, keeps_weaker, keeps_starts, leaves_run, leaves_scratch}
use Rattle.ak_top.proofs.Stopping.{run_end, scratch_end}
use Rattle.ak_top.proofs.Words.{are_run, are_none, one_limits, run_command, creates_command, makes_command, serves_command, no_command, made_limits, scratch_made, run_or_made}
use Rattle.ak_checkpoint.specs.Making.{made_sizes}
use Rattle.ak_top.proofs.Turning.{make_refuses}
use Rattle.ak_top.proofs.top.perform.Goals as goal

pub returns-in-Create-clause-quiet : goal.returns-in-Create-clause-quiet
returns-in-Create-clause-quiet g c told view opens = quiet_passes view (c.create.ensures.mark told)

pub returns-in-Create-clause-creating : goal.returns-in-Create-clause-creating
returns-in-Create-clause-creating g c told limits creates free =
    let same = one_limits (map string_bytes c.args.words.now) c.in-Ok.job c.in-Create.limits limits c.in-Ok.ensures.job c.in-Create.is creates in
    subst (λ (l : Limits). DiskPasses (IsMaking l) (g.H.Outside.state c.args.host.now) (g.H.Outside.state c.create.new.disk)) same (c.create.ensures.moments told free)

pub returns-in-Create-clause-created : goal.returns-in-Create-clause-created
returns-in-Create-clause-created g c told limits creates =
    let same = one_limits (map string_bytes c.args.words.now) c.in-Ok.job c.in-Create.limits limits c.in-Ok.ensures.job c.in-Create.is creates in
    subst (λ (l : Limits). OnOk c.create.result ((left : Files) → LeavesNow (g.H.Outside.state c.create.new.disk) left → IsFirst l left)) same (c.create.ensures.made told)

pub returns-in-Create-clause-sizes_made : goal.returns-in-Create-clause-sizes_made
returns-in-Create-clause-sizes_made g c limits makes =
    let same = made_limits (map string_bytes c.args.words.now) c.in-Ok.job c.in-Create.limits limits c.in-Ok.ensures.job c.in-Create.is makes in
    subst (λ (l : Limits). OnOk c.create.result ((g.H.Outside.state c.create.new.disk).sizes ≡ made_sizes l (g.H.Outside.state c.args.host.now).sizes)) same c.create.ensures.sizes

pub returns-in-Create-clause-refused : goal.returns-in-Create-clause-refused
returns-in-Create-clause-refused g c told =
    make_refuses g.H.Outside.tells (g.H.Outside.state c.args.host.now) (g.H.Outside.state c.create.new.disk) c.create.result told c.create.ensures.err (c.create.ensures.kept told)

pub returns-in-Run-clause-sizes_made : goal.returns-in-Run-clause-sizes_made
returns-in-Run-clause-sizes_made g c limits makes = absurd (run_or_made (map string_bytes c.args.words.now) c.in-Ok.job limits c.in-Ok.ensures.job c.in-Run.is makes)

pub returns-in-Ok-clause-sizes_made : goal.returns-in-Ok-clause-sizes_made
returns-in-Ok-clause-sizes_made g c limits makes =
    let same = scratch_made (map string_bytes c.args.words.now) c.in-Ok.job limits c.in-Ok.ensures.job c.in-Scratch.is makes in
    subst (λ (l : Limits). OnOk c.scratch.result ((g.H.Outside.state c.scratch.new.host).sizes ≡ made_sizes l (g.H.Outside.state c.args.host.now).sizes)) (sym same) c.scratch.ensures.sizes

pub returns-in-Run-clause-cause : goal.returns-in-Run-clause-cause
returns-in-Run-clause-cause g c =
    let words = map string_bytes c.args.words.now in
    let run = are_run words c.in-Ok.job c.in-Ok.ensures.job c.in-Run.is in
    let old = g.H.Outside.state c.args.host.now in
    let new = g.H.Outside.state c.run.new.host in
    IfErr-weaker c.run.result (IsRunStop g.H.Outside.tells old new) (IsEnd words g.H.Outside.tells old new)
    (run_end words g.H.Outside.tells old new run) c.run.ensures.cause

pub returns-in-Run-clause-quiet : goal.returns-in-Run-clause-quiet
returns-in-Run-clause-quiet g c told view opens =
    let run = are_run (map string_bytes c.args.words.now) c.in-Ok.job c.in-Ok.ensures.job c.in-Run.is in
    c.run.ensures.quiet told view (opens.sound run) (opens.run run)

pub returns-in-Run-clause-served : goal.returns-in-Run-clause-served
returns-in-Run-clause-served g c told view opens serves =
    let run = are_run (map string_bytes c.args.words.now) c.in-Ok.job c.in-Ok.ensures.job c.in-Run.is in
    c.run.ensures.served told view (opens.sound run) (opens.run run)

pub returns-in-Run-clause-sound : goal.returns-in-Run-clause-sound
returns-in-Run-clause-sound g c told view opens serves =
    let run = are_run (map string_bytes c.args.words.now) c.in-Ok.job c.in-Ok.ensures.job c.in-Run.is in
    IfErr-weaker c.run.result IsServing IsServingOrThere (λ s is. inl is) (c.run.ensures.sound told view (opens.sound run) (opens.run run))

pub returns-in-Run-clause-stands : goal.returns-in-Run-clause-stands
returns-in-Run-clause-stands g c told view opens serves =
    let run = are_run (map string_bytes c.args.words.now) c.in-Ok.job c.in-Ok.ensures.job c.in-Run.is in
    keeps_weaker (c.run.ensures.stands told view (opens.sound run) (opens.run run)) (leaves_run (map string_bytes c.args.words.now) (g.H.Outside.state c.args.host.now) run)

pub returns-in-Ok-clause-cause : goal.returns-in-Ok-clause-cause
returns-in-Ok-clause-cause g c =
    let words = map string_bytes c.args.words.now in
    let none = are_none words c.in-Ok.job c.in-Ok.ensures.job c.in-Scratch.is in
    let old = g.H.Outside.state c.args.host.now in
    let new = g.H.Outside.state c.scratch.new.host in
    IfErr-weaker c.scratch.result (IsScratchStop g.H.Outside.tells old new) (IsEnd words g.H.Outside.tells old new)
    (scratch_end words g.H.Outside.tells old new none) c.scratch.ensures.cause

pub returns-in-Ok-clause-quiet : goal.returns-in-Ok-clause-quiet
returns-in-Ok-clause-quiet g c told view opens =
    let none = are_none (map string_bytes c.args.words.now) c.in-Ok.job c.in-Ok.ensures.job c.in-Scratch.is in
    let old = g.H.Outside.state c.args.host.now in
    subst (λ (v : View). Passes (IsQuiet v (mark_now old)) (λ mark disk. Unit {0}) old (g.H.Outside.state c.scratch.new.host)) (sym (opens.scratch none)) (c.scratch.ensures.quiet told)

pub returns-in-Ok-clause-served : goal.returns-in-Ok-clause-served
returns-in-Ok-clause-served g c told view opens serves =
    let none = are_none (map string_bytes c.args.words.now) c.in-Ok.job c.in-Ok.ensures.job c.in-Scratch.is in
    let old = g.H.Outside.state c.args.host.now in
    subst (λ (v : View). HasServed v (mark_now old) (g.H.Outside.state c.scratch.new.host) c.scratch.result) (sym (opens.scratch none)) (c.scratch.ensures.served told)

pub returns-in-Ok-clause-stands : goal.returns-in-Ok-clause-stands
returns-in-Ok-clause-stands g c told view opens serves =
    let words = map string_bytes c.args.words.now in
    let none = are_none words c.in-Ok.job c.in-Ok.ensures.job c.in-Scratch.is in
    let old = g.H.Outside.state c.args.host.now in
    let keeps = keeps_weaker (c.scratch.ensures.stands told) (leaves_scratch words old none) in
    subst (λ (v : View). KeepsFrom v (LeavesBefore words old) (HasOpened c.scratch.result) old (g.H.Outside.state c.scratch.new.host)) (sym (opens.scratch none)) keeps

pub returns-in-Err-Usage-clause-no_store : goal.returns-in-Err-Usage-clause-no_store
returns-in-Err-Usage-clause-no_store g c told run none = absurd (no_command (map string_bytes c.args.words.now) c.in-Err-Usage.field-0 c.in-Err-Usage.field-0-is c.in-Err-Usage.ensures.usage (run_command (map string_bytes c.args.words.now) run))

pub returns-in-Err-Usage-clause-exists : goal.returns-in-Err-Usage-clause-exists
returns-in-Err-Usage-clause-exists g c told limits makes taken = absurd (no_command (map string_bytes c.args.words.now) c.in-Err-Usage.field-0 c.in-Err-Usage.field-0-is c.in-Err-Usage.ensures.usage (makes_command (map string_bytes c.args.words.now) limits makes))

pub returns-in-Err-Usage-clause-sound : goal.returns-in-Err-Usage-clause-sound
returns-in-Err-Usage-clause-sound g c told view opens serves = absurd (no_command (map string_bytes c.args.words.now) c.in-Err-Usage.field-0 c.in-Err-Usage.field-0-is c.in-Err-Usage.ensures.usage (serves_command (map string_bytes c.args.words.now) serves))

pub returns-in-Err-Usage-clause-stands : goal.returns-in-Err-Usage-clause-stands
returns-in-Err-Usage-clause-stands g c told view opens serves = absurd (no_command (map string_bytes c.args.words.now) c.in-Err-Usage.field-0 c.in-Err-Usage.field-0-is c.in-Err-Usage.ensures.usage (serves_command (map string_bytes c.args.words.now) serves))

pub returns-in-Err-Usage-clause-making : goal.returns-in-Err-Usage-clause-making
returns-in-Err-Usage-clause-making g c limits creates = absurd (no_command (map string_bytes c.args.words.now) c.in-Err-Usage.field-0 c.in-Err-Usage.field-0-is c.in-Err-Usage.ensures.usage (creates_command (map string_bytes c.args.words.now) limits creates))

pub returns-clause-stands : goal.returns-clause-stands
returns-clause-stands g c told view opens serves = keeps_starts view (map string_bytes c.args.words.now) (g.H.Outside.state c.args.host.now) (λ o. absurd (o.no_memory refl))

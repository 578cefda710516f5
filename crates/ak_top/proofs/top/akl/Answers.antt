use Rattle.std.proofs.Common.{inl, refl, sym, ◌∙◌}
use Rattle.ak_top.proofs.Ends.{silent_console, told_done, told_failed, quiet_end, lined, making_from, making_failed, keeps_on, ends_failed, missing_status, there_status, stop_some, undamaged_failed, complete_failed, budget_failed, worn_failed, finished_failed, made_failed, budget_done}
use Rattle.ak_top.proofs.Commands.{keeps_opened}
use Rattle.ak_top.proofs.Stopping.{opened_by}
use Rattle.ak_top.proofs.Turning.{all_done, all_failed, untouched_told, refusal_of, damage_of, line_idle}
use Rattle.ak_top.proofs.top.akl.Goals as goal

-- ---- Done

pub returns-in-Ok-clause-ends : goal.returns-in-Ok-clause-ends
returns-in-Ok-clause-ends g c = inl (refl, λ told. silent_console (g.H.Outside.state c.args.host.now) (g.H.Outside.state c.perform.new.host) (c.perform.ensures.silent told))

pub returns-in-Ok-clause-exists : goal.returns-in-Ok-clause-exists
returns-in-Ok-clause-exists g c told limits makes taken = absurd (c.in-Ok.ensures.exists told limits makes taken)

pub returns-in-Ok-clause-told : goal.returns-in-Ok-clause-told
returns-in-Ok-clause-told g c told view opens = told_done view _ _ (c.perform.ensures.quiet told view opens)

pub returns-in-Ok-clause-done : goal.returns-in-Ok-clause-done
returns-in-Ok-clause-done g c told view opens serves is = (c.in-Ok.ensures.served told view opens serves).done

pub returns-in-Ok-clause-stands : goal.returns-in-Ok-clause-stands
returns-in-Ok-clause-stands g c told view opens serves = keeps_opened (λ o. tt) (c.in-Ok.ensures.stands told view opens serves)

pub returns-in-Ok-clause-budget : goal.returns-in-Ok-clause-budget
returns-in-Ok-clause-budget g c told view opens = budget_done _ refl _ view _ _ (λ serves. (c.in-Ok.ensures.served told view opens serves).done) (c.perform.ensures.idle told)

pub returns-in-Ok-clause-last : goal.returns-in-Ok-clause-last
returns-in-Ok-clause-last g c told view opens serves is = (c.in-Ok.ensures.served told view opens serves).kept

pub returns-in-Ok-clause-creating : goal.returns-in-Ok-clause-creating
returns-in-Ok-clause-creating g c told limits creates free = making_from limits _ _ free (c.perform.ensures.creating told limits creates free)

pub returns-in-Ok-clause-created : goal.returns-in-Ok-clause-created
returns-in-Ok-clause-created g c told limits creates is = c.in-Ok.ensures.created told limits creates

-- ---- Stopped

pub returns-in-Err-clause-ends : goal.returns-in-Err-clause-ends
returns-in-Err-clause-ends g c =
    ends_failed _ _ (g.H.Outside.state c.args.host.now) (g.H.Outside.state c.perform.new.host) (g.H.Outside.state c.fail.new.ports) c.in-Err.stop c.fail.result c.fail.ensures.status c.in-Err.ensures.cause
    c.fail.ensures.disk_faults c.fail.ensures.later c.fail.ensures.files c.perform.ensures.port_later c.perform.ensures.silent c.fail.ensures.told

pub returns-in-Err-clause-no_store : goal.returns-in-Err-clause-no_store
returns-in-Err-clause-no_store g c told run none = missing_status c.in-Err.stop c.fail.result c.fail.ensures.status (c.in-Err.ensures.no_store told run none)

pub returns-in-Err-clause-exists : goal.returns-in-Err-clause-exists
returns-in-Err-clause-exists g c told limits makes taken = there_status c.in-Err.stop c.fail.result c.fail.ensures.status (c.in-Err.ensures.exists told limits makes taken)

pub returns-in-Err-clause-told : goal.returns-in-Err-clause-told
returns-in-Err-clause-told g c told view opens =
    told_failed c.in-Err.stop c.fail.result view (g.H.Outside.state c.args.host.now) (g.H.Outside.state c.perform.new.host) (g.H.Outside.state c.fail.new.ports) c.fail.ensures.status
    (c.perform.ensures.quiet told view opens) (c.fail.ensures.moments told)

pub returns-in-Err-clause-done : goal.returns-in-Err-clause-done
returns-in-Err-clause-done g c told view opens serves is = absurd (stop_some c.in-Err.stop c.fail.result c.fail.ensures.status is)

pub returns-in-Err-clause-stands : goal.returns-in-Err-clause-stands
returns-in-Err-clause-stands g c told view opens serves =
    keeps_opened (opened_by c.in-Err.stop c.fail.result c.fail.ensures.status)
    (keeps_on view _ _ (g.H.Outside.state c.args.host.now) (g.H.Outside.state c.perform.new.host) (g.H.Outside.state c.fail.new.ports) (c.perform.ensures.quiet told view opens).later
    (c.in-Err.ensures.stands told view opens serves) (c.fail.ensures.moments told))

pub returns-in-Err-clause-last : goal.returns-in-Err-clause-last
returns-in-Err-clause-last g c told view opens serves is = absurd (stop_some c.in-Err.stop c.fail.result c.fail.ensures.status is)

pub returns-in-Err-clause-creating : goal.returns-in-Err-clause-creating
returns-in-Err-clause-creating g c told limits creates free =
    making_failed limits (g.H.Outside.state c.args.host.now) (g.H.Outside.state c.perform.new.host) (g.H.Outside.state c.fail.new.ports) free
    (c.perform.ensures.creating told limits creates free) (c.fail.ensures.moments told)

pub returns-in-Err-clause-created : goal.returns-in-Err-clause-created
returns-in-Err-clause-created g c told limits creates is = absurd (stop_some c.in-Err.stop c.fail.result c.fail.ensures.status is)

pub returns-in-Err-clause-complete_create : goal.returns-in-Err-clause-complete_create
returns-in-Err-clause-complete_create g c told limits creates none no_disk =
    made_failed _ _ (g.H.Outside.state c.args.host.now) (g.H.Outside.state c.perform.new.host) (g.H.Outside.state c.fail.new.ports) c.in-Err.stop c.fail.result c.fail.ensures.status c.in-Err.ensures.cause
    (c.in-Err.ensures.making limits creates) told none c.fail.ensures.disk_faults no_disk

pub returns-in-Err-clause-undamaged : goal.returns-in-Err-clause-undamaged
returns-in-Err-clause-undamaged g c told view opens serves = undamaged_failed c.in-Err.stop c.fail.result c.fail.ensures.status (c.in-Err.ensures.sound told view opens serves)

pub returns-in-Err-clause-spent : goal.returns-in-Err-clause-spent
returns-in-Err-clause-spent g c told view opens six =
    complete_failed _ _ view (g.H.Outside.state c.args.host.now) (g.H.Outside.state c.perform.new.host) (g.H.Outside.state c.fail.new.ports) c.in-Err.stop c.fail.result c.fail.ensures.status (record {
      since = (quiet_end (c.perform.ensures.quiet told view opens)).answered.since;
      cause = c.in-Err.ensures.cause;
      idle = c.perform.ensures.idle told;
      there = c.in-Err.ensures.there told;
      served = c.in-Err.ensures.served told view opens;
      sound = c.in-Err.ensures.sound told view opens;
      line = lined _ _ _ _ _ (c.fail.ensures.told told);
    }) six

pub returns-in-Err-clause-budget : goal.returns-in-Err-clause-budget
returns-in-Err-clause-budget g c told view opens =
    budget_failed _ _ view (g.H.Outside.state c.args.host.now) (g.H.Outside.state c.perform.new.host) (g.H.Outside.state c.fail.new.ports) c.in-Err.stop c.fail.result c.fail.ensures.status (record {
      since = (quiet_end (c.perform.ensures.quiet told view opens)).answered.since;
      cause = c.in-Err.ensures.cause;
      idle = c.perform.ensures.idle told;
      there = c.in-Err.ensures.there told;
      served = c.in-Err.ensures.served told view opens;
      sound = c.in-Err.ensures.sound told view opens;
      line = lined _ _ _ _ _ (c.fail.ensures.told told);
    })

pub returns-in-Err-clause-worn : goal.returns-in-Err-clause-worn
returns-in-Err-clause-worn g c told view opens =
    worn_failed _ _ view (g.H.Outside.state c.args.host.now) (g.H.Outside.state c.perform.new.host) (g.H.Outside.state c.fail.new.ports) c.in-Err.stop c.fail.result c.fail.ensures.status (record {
      since = (quiet_end (c.perform.ensures.quiet told view opens)).answered.since;
      cause = c.in-Err.ensures.cause;
      idle = c.perform.ensures.idle told;
      there = c.in-Err.ensures.there told;
      served = c.in-Err.ensures.served told view opens;
      sound = c.in-Err.ensures.sound told view opens;
      line = lined _ _ _ _ _ (c.fail.ensures.told told);
    })

pub returns-in-Err-clause-complete : goal.returns-in-Err-clause-complete
returns-in-Err-clause-complete g c told view opens serves none no_disk no_port =
    finished_failed _ _ view (g.H.Outside.state c.args.host.now) (g.H.Outside.state c.perform.new.host) (g.H.Outside.state c.fail.new.ports) c.in-Err.stop c.fail.result c.fail.ensures.status (record {
      since = (quiet_end (c.perform.ensures.quiet told view opens)).answered.since;
      cause = c.in-Err.ensures.cause;
      idle = c.perform.ensures.idle told;
      there = c.in-Err.ensures.there told;
      served = c.in-Err.ensures.served told view opens;
      sound = c.in-Err.ensures.sound told view opens;
      line = lined _ _ _ _ _ (c.fail.ensures.told told);
    }) told serves none c.fail.ensures.disk_faults c.fail.ensures.later no_disk no_port

-- ---- On any disk

pub returns-in-Ok-clause-all : goal.returns-in-Ok-clause-all
returns-in-Ok-clause-all g c told = all_done _ refl _ _ _ (c.in-Ok.ensures.finished told) (c.perform.ensures.idle told)

pub returns-in-Err-clause-refused : goal.returns-in-Err-clause-refused
returns-in-Err-clause-refused g c told refused =
    untouched_told _ (c.in-Err.ensures.refused told (refusal_of c.in-Err.stop c.fail.result c.fail.ensures.status refused)) c.fail.ensures.sizes (c.fail.ensures.files told)
    (c.fail.ensures.told told) (c.fail.ensures.moments told)

pub returns-in-Err-clause-damaged : goal.returns-in-Err-clause-damaged
returns-in-Err-clause-damaged g c told two still =
    let line = line_idle _ _ _ (c.fail.ensures.told told) in
    untouched_told _ (c.in-Err.ensures.damaged told (sym line ∙ still) (damage_of c.in-Err.stop c.fail.result c.fail.ensures.status two)) c.fail.ensures.sizes (c.fail.ensures.files told)
    (c.fail.ensures.told told) (c.fail.ensures.moments told)

pub returns-in-Err-clause-all : goal.returns-in-Err-clause-all
returns-in-Err-clause-all g c told =
    all_failed (g.H.Outside.state c.args.host.now) (g.H.Outside.state c.perform.new.host) (g.H.Outside.state c.fail.new.ports) (line_idle _ _ _ (c.fail.ensures.told told))
    c.in-Err.stop c.fail.result c.fail.ensures.status (c.in-Err.ensures.refused told) (c.in-Err.ensures.all told)

use Rattle.std.proofs.Common.{◌≡◌, ◌-◌, Bool, List, [], length, sym, ap, subst}
use Rattle.std.specs.Option.{MatchOption}
use Rattle.std.specs.Result.{IfOk}
use Rattle.ak_base.specs.declared.point.Point.{Point}
use Rattle.ak_base.specs.declared.stop.Stop.{Stop}
use Rattle.ak_base.specs.declared.stop.Stop.TheVariants.{Disk}
use Rattle.ak_scene.proofs.Links.{seen_kept}
use Rattle.ak_image.specs.Blocks.{Seen, seen_in}
use Rattle.ak_levels.specs.Pending.{Lists}
use Rattle.ak_repair.proofs.OnlyReading.{stop_from}
use Rattle.ak_walk.proofs.Coming.{moved_fit}
use Rattle.ak_walk.specs.Walking.{IsAhead, Splits}
use Rattle.ak_walk.proofs.walking.Walk.next.Goals as goal

pub returns-in_err-ready-clause-sound : goal.returns-in_err-ready-clause-sound
returns-in_err-ready-clause-sound g c told leaves written fit =
    stop_from (λ (stop : Stop). stop ≡ Disk) c.from_residual.result c.in_err-ready.field-0.0 c.from_residual.ensures.1 (c.in_err-ready.ensures.sound told leaves written fit)

pub returns-clause-sound : goal.returns-clause-sound
returns-clause-sound g c told leaves written fit =
    let o = c.args.reach.now.volumes.now in
    let p = c.ready.new.reach.volumes.now in
    let old = g.D.Outside.state c.args.reach.now.disk.now in
    let mid = g.D.Outside.state c.ready.new.reach.disk.now in
    let seen : Seen = seen_in o.volumes old.files in
    let series = c.args.e.now.series in
    let n = c.args.e.now.leaves in
    let v : Lists = c.args.e.now.levels.now in
    let so_far = c.in_ok-ready.ensures in
    let volumes : p ≡ o = ap (λ w. w.now) so_far.keeps.volumes in
    let same = seen_kept o p old mid volumes (so_far.reads.files told) in
    let other = moved_fit o p seen (seen_in p.volumes mid.files) series n v leaves written (sym volumes) same fit in
    c.go_on.ensures.sound told leaves written other

pub returns-clause-given : goal.returns-clause-given
returns-clause-given g c told leaves written rest fit tail ahead =
    let o = c.args.reach.now.volumes.now in
    let p = c.ready.new.reach.volumes.now in
    let old = g.D.Outside.state c.args.reach.now.disk.now in
    let mid = g.D.Outside.state c.ready.new.reach.disk.now in
    let seen : Seen = seen_in o.volumes old.files in
    let series = c.args.e.now.series in
    let n = c.args.e.now.leaves in
    let v : Lists = c.args.e.now.levels.now in
    let so_far = c.in_ok-ready.ensures in
    let volumes : p ≡ o = ap (λ w. w.now) so_far.keeps.volumes in
    let same = seen_kept o p old mid volumes (so_far.reads.files told) in
    let other = moved_fit o p seen (seen_in p.volumes mid.files) series n v leaves written (sym volumes) same fit in
    let low = fit.scene.known.leaves - length leaves in
    let given = c.go_on.ensures.given told leaves written rest other tail (so_far.ahead told leaves written rest fit ahead) in
    subst (λ (b : Bool). IfOk c.go_on.result (λ point. MatchOption point ((rest ≡ []) × IsAhead low n leaves written c.go_on.new.self rest)
    (λ p. (later : List Point) × Splits b rest p later × IsAhead low n leaves written c.go_on.new.self later))) so_far.same.0 given

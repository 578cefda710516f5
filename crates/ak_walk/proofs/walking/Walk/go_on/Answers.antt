use Rattle.std.proofs.Common.{◌≡◌, ◌∙◌, ◌-◌, List, length, None, sym, ap}
use Rattle.ak_base.specs.declared.point.Point.{Point}
use Rattle.ak_base.specs.declared.stop.Stop.{Stop}
use Rattle.ak_base.specs.declared.stop.Stop.TheVariants.{Disk}
use Rattle.ak_scene.proofs.Links.{seen_kept}
use Rattle.ak_image.specs.Blocks.{Seen, seen_in}
use Rattle.ak_levels.specs.Pending.{Lists}
use Rattle.ak_repair.proofs.OnlyReading.{more_reads, stop_from}
use Rattle.ak_walk.proofs.Coming.{moved_fit, is_none, of_none}
use Rattle.ak_walk.specs.Walking.{IsAhead, Splits}
use Rattle.ak_walk.proofs.walking.Walk.go_on.Goals as goal

pub returns-in_err-more-clause-sound : goal.returns-in_err-more-clause-sound
returns-in_err-more-clause-sound g c told leaves written fit =
    let o = c.args.reach.now.volumes.now in
    let p = c.loop-found.reach.volumes.now in
    let old = g.D.Outside.state c.args.reach.now.disk.now in
    let mid = g.D.Outside.state c.loop-found.reach.disk.now in
    let seen : Seen = seen_in o.volumes old.files in
    let series = c.args.e.now.series in
    let n = c.args.e.now.leaves in
    let v : Lists = c.args.e.now.levels.now in
    let so_far = c.loop-found.invariant in
    let volumes : p ≡ o = ap (λ w. w.now) so_far.keeps.volumes in
    let same = seen_kept o p old mid volumes (so_far.reads.files told) in
    let other = moved_fit o p seen (seen_in p.volumes mid.files) series n v leaves written (sym volumes) same fit in
    stop_from (λ (stop : Stop). stop ≡ Disk) c.from_residual.result c.in_err-more.field-0.0 c.from_residual.ensures.1 (c.in_err-more.ensures.sound told leaves written other)

pub returns-then-not-more-clause-given : goal.returns-then-not-more-clause-given
returns-then-not-more-clause-given g c told leaves written rest fit tail ahead =
    let o = c.args.reach.now.volumes.now in
    let p = c.loop-found.reach.volumes.now in
    let old = g.D.Outside.state c.args.reach.now.disk.now in
    let mid = g.D.Outside.state c.loop-found.reach.disk.now in
    let seen : Seen = seen_in o.volumes old.files in
    let series = c.args.e.now.series in
    let n = c.args.e.now.leaves in
    let v : Lists = c.args.e.now.levels.now in
    let so_far = c.loop-found.invariant in
    let volumes : p ≡ o = ap (λ w. w.now) so_far.keeps.volumes in
    let same = seen_kept o p old mid volumes (so_far.reads.files told) in
    let other = moved_fit o p seen (seen_in p.volumes mid.files) series n v leaves written (sym volumes) same fit in
    let low = fit.scene.known.leaves - length leaves in
    let none : c.take-found.result ≡ None = is_none c.take-found.result (sym c.is_some.ensures ∙ c.if-is_some.false) in
    let passed = c.take-found.ensures.none written tail none in
    let before = so_far.ahead told leaves written rest fit tail ahead in
    let taken : IsAhead low n leaves written c.take-found.new.self rest = of_none (λ (q : Point). (later : List Point) × Splits c.loop-found.self.back rest q later × IsAhead low n leaves written c.take-found.new.self later) c.take-found.result none (c.take-found.ensures.given low leaves written rest tail before) in
    (c.in_ok-more.ensures.ends told leaves written rest other tail passed taken c.if-not-more.true, c.in_ok-more.ensures.ahead told leaves written rest other tail passed taken)

pub loop-found-preserved : goal.loop-found-preserved
loop-found-preserved g c =
    let o = c.args.reach.now.volumes.now in
    let p = c.loop-found.reach.volumes.now in
    let old = g.D.Outside.state c.args.reach.now.disk.now in
    let mid = g.D.Outside.state c.loop-found.reach.disk.now in
    let seen : Seen = seen_in o.volumes old.files in
    let series = c.args.e.now.series in
    let n = c.args.e.now.leaves in
    let v : Lists = c.args.e.now.levels.now in
    let so_far = c.loop-found.invariant in
    let volumes : p ≡ o = ap (λ w. w.now) so_far.keeps.volumes in
    let read = c.in_ok-more.ensures in
    record {
      keeps = record {
        disk = read.keeps.disk ∙ so_far.keeps.disk;
        volumes = read.keeps.volumes ∙ so_far.keeps.volumes;
        cache = read.keeps.cache ∙ so_far.keeps.cache;
        scratch = read.keeps.scratch ∙ so_far.keeps.scratch;
      };
      cache = read.cache ∙ so_far.cache;
      reads = more_reads so_far.reads read.reads;
      begun = read.begun.0;
      few = read.begun.1;
      same = read.same.0 ∙ c.take-found.ensures.kept.2 ∙ so_far.same;
      ahead = λ told leaves written rest fit tail ahead.
          let same = seen_kept o p old mid volumes (so_far.reads.files told) in
          let other = moved_fit o p seen (seen_in p.volumes mid.files) series n v leaves written (sym volumes) same fit in
          let low = fit.scene.known.leaves - length leaves in
          let none : c.take-found.result ≡ None = is_none c.take-found.result (sym c.is_some.ensures ∙ c.if-is_some.false) in
          let passed = c.take-found.ensures.none written tail none in
          let before = so_far.ahead told leaves written rest fit tail ahead in
          let taken : IsAhead low n leaves written c.take-found.new.self rest = of_none (λ (q : Point). (later : List Point) × Splits c.loop-found.self.back rest q later × IsAhead low n leaves written c.take-found.new.self later) c.take-found.result none (c.take-found.ensures.given low leaves written rest tail before) in
          read.ahead told leaves written rest other tail passed taken;
    }

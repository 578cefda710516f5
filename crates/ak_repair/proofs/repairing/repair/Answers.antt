use Rattle.std.proofs.Common.{◌≡◌, ◌∙◌, ℕ, ◌<◌, ◌^◌, ◌++◌, ◌∷◌, [], List, length, sym, ap, subst, arith}
use Rattle.ak_image.proofs.Raising.{all_few, record_few}
use Rattle.ak_image.proofs.Naming.{none_damaged}
use Rattle.ak_image.specs.Blocks.{seen_in}
use Rattle.ak_image.specs.Named.{IsDamagedNode}
use Rattle.ak_levels.specs.Pending.{Lists}
use Rattle.ak_meta.proofs.Closing.{leaves_here, leaves_most}
use Rattle.ak_meta.specs.Contents.{Content}
use Rattle.ak_meta.specs.declared.meta.SeriesMeta.{SeriesMeta}
use Rattle.ak_repair.proofs.Follow.{moved}
use Rattle.ak_repair.proofs.Gathering.{all_gathered}
use Rattle.ak_repair.proofs.OnlyReading.{more_reads, stop_from, reason_weaker, on_ok}
use Rattle.ak_repair.proofs.Planting.{series_at, series_there, lawful_on, lawful_all, rebuilt_more, rebuilt_all, Grows, rebuilt_grows, grows_same, planted_on, planted_all, lost_damaged, sound_stop}
use Rattle.ak_repair.specs.Firsts.{firsts}
use Rattle.ak_repair.specs.Follows.{IsRebuilt, IsLostOf}
use Rattle.ak_repair.specs.Reads.{IsReadStop}
use Rattle.ak_volumes.specs.Ordinals.{Ordinals}
use Rattle.ak_repair.proofs.repairing.repair.Goals as goal

pub repair_series-requires-clause-most : goal.repair_series-requires-clause-most
repair_series-requires-clause-most g c =
    let m : Content = c.args.meta.now in
    let n = c.loop-series.series in
    let known : SeriesMeta = c.index-series-series.result in
    let its = series_at m.series c.series.result.now c.series-count.result.now n known c.series.ensures c.series-count.ensures (omega (arith, c.loop-series-test.true)) c.index-series-series.is in
    omega (arith, leaves_here m.series n known its.0 its.1, leaves_most m n c.requires.rules)

pub returns-in_err-levels-clause-stops : goal.returns-in_err-levels-clause-stops
returns-in_err-levels-clause-stops g c =
    let m : Content = c.args.meta.now in
    let so_far = c.loop-series.invariant in
    let tells = g.D.Outside.tells in
    let n = c.loop-series.series in
    let known : SeriesMeta = c.index-series-series.result in
    let old = g.D.Outside.state c.args.reach.now.disk.now in
    let mid = g.D.Outside.state c.loop-series.reach.disk.now in
    let new = g.D.Outside.state c.repair_series.new.reach.disk.now in
    let o : Ordinals = c.loop-series.reach.volumes.now in
    let its = series_at m.series c.series.result.now c.series-count.result.now n known c.series.ensures c.series-count.ensures (omega (arith, c.loop-series-test.true)) c.index-series-series.is in
    let same : o ≡ m.ordinals = ap (λ r. r.now) so_far.keeps.volumes ∙ c.requires.same in
    let lost : ℕ → ℕ → Type 0 = λ file block. tells → IsLostOf (seen_in o.volumes mid.files) o n known file block in
    let damaged : ℕ → ℕ → Type 0 = λ file block. tells → IsDamagedNode (seen_in m.ordinals.volumes old.files) m.ordinals m file block in
    let why = reason_weaker {P = lost} {Q = damaged} old mid new c.in_err-levels.field-0.0 so_far.reads.later
    (λ file block is told. lost_damaged m old.files mid.files o n known file block same (so_far.reads.files told) (series_there m.series n known its.0 its.1) (is told))
    c.in_err-levels.ensures.stops in
    stop_from (IsReadStop damaged old new) c.from_residual.result c.in_err-levels.field-0.0 c.from_residual.ensures.1 why

pub returns-in_err-levels-clause-sound : goal.returns-in_err-levels-clause-sound
returns-in_err-levels-clause-sound g c told kept laid =
    let m : Content = c.args.meta.now in
    let old = g.D.Outside.state c.args.reach.now.disk.now in
    let new = g.D.Outside.state c.repair_series.new.reach.disk.now in
    sound_stop {P = λ file block. g.D.Outside.tells → IsDamagedNode (seen_in m.ordinals.volumes old.files) m.ordinals m file block} old new c.from_residual.result
    (λ file block damaged. none_damaged (seen_in m.limits.volumes old.files) m kept laid file block
    (subst (λ (count : ℕ). IsDamagedNode (seen_in count old.files) m.ordinals m file block) c.requires.rules.volumes (damaged told)))
    (returns-in_err-levels-clause-stops g c)

pub loop-series-preserved : goal.loop-series-preserved
loop-series-preserved g c =
    let m : Content = c.args.meta.now in
    let so_far = c.loop-series.invariant in
    let step = c.in_ok-levels.ensures in
    let n = c.loop-series.series in
    let known : SeriesMeta = c.index-series-series.result in
    let v : Lists = c.in_ok-levels.levels in
    let all : List Lists = c.loop-series.all in
    let more : List Lists = c.push.new.self in
    let old = g.D.Outside.state c.args.reach.now.disk.now in
    let mid = g.D.Outside.state c.loop-series.reach.disk.now in
    let o : Ordinals = c.loop-series.reach.volumes.now in
    let its = series_at m.series c.series.result.now c.series-count.result.now n known c.series.ensures c.series-count.ensures (omega (arith, c.loop-series-test.true)) c.index-series-series.is in
    let same : o ≡ m.ordinals = ap (λ r. r.now) so_far.keeps.volumes ∙ c.requires.same in
    let pushed : more ≡ all ++ v ∷ [] = on_ok c.push.result (sym c.is_err.ensures.value ∙ c.if-is_err.false) c.push.ensures.ok in
    let few : known.leaves < 32 ^ 11 = omega (arith, leaves_here m.series n known its.0 its.1, leaves_most m n c.requires.rules) in
    record {
      keeps = record {
        disk = step.keeps.disk ∙ so_far.keeps.disk;
        volumes = step.keeps.volumes ∙ so_far.keeps.volumes;
        cache = step.keeps.cache ∙ so_far.keeps.cache;
        scratch = step.keeps.scratch ∙ so_far.keeps.scratch;
      };
      cache = step.cache ∙ so_far.cache;
      reads = more_reads so_far.reads step.reads;
      count = λ told. omega (arith, so_far.count told, step.count told);
      lawful = lawful_on m.series n known v all more its.0 its.1 step.lawful pushed so_far.lawful;
      rebuilt = λ told.
          rebuilt_more (seen_in m.ordinals.volumes old.files) m.ordinals m.series n known v all more its.0 its.1
          (moved (λ u files. IsRebuilt (seen_in u.volumes files) u n known v) m.ordinals o old.files mid.files same (so_far.reads.files told) (step.rebuilt told)) pushed (so_far.rebuilt told);
      planted = λ told kept laid.
          let grows : Grows (seen_in o.volumes mid.files) o n known v = rebuilt_grows (seen_in o.volumes mid.files) o n known v few step.levels (step.rebuilt told) in
          planted_on m.ordinals (seen_in m.limits.volumes old.files) m.series kept n known v all more its.0 its.1
          (grows_same m.limits.volumes old.files mid.files m.ordinals o n known v (so_far.reads.files told) same c.requires.rules.volumes grows) pushed (so_far.planted told kept laid);
    }

pub returns-clause-lawful : goal.returns-clause-lawful
returns-clause-lawful g c =
    let m : Content = c.args.meta.now in
    lawful_all m.series c.loop-series.series c.loop-series.all (omega (arith, c.loop-series-test.false, ap (length {A = SeriesMeta}) c.series-count.ensures)) c.loop-series.invariant.lawful

pub returns-clause-rebuilt : goal.returns-clause-rebuilt
returns-clause-rebuilt g c told =
    let m : Content = c.args.meta.now in
    rebuilt_all (seen_in m.ordinals.volumes (g.D.Outside.state c.args.reach.now.disk.now).files) m.ordinals m.series c.loop-series.series c.loop-series.all
    (omega (arith, c.loop-series-test.false, ap (length {A = SeriesMeta}) c.series-count.ensures)) (c.loop-series.invariant.rebuilt told)

pub returns-clause-planted : goal.returns-clause-planted
returns-clause-planted g c told kept laid =
    let m : Content = c.args.meta.now in
    let old = g.D.Outside.state c.args.reach.now.disk.now in
    planted_all m.ordinals (seen_in m.limits.volumes old.files) m.series kept c.loop-series.series c.loop-series.all
    (omega (arith, c.loop-series-test.false, ap (length {A = SeriesMeta}) c.series-count.ensures)) (c.loop-series.invariant.planted told kept laid)

pub returns-clause-gathered : goal.returns-clause-gathered
returns-clause-gathered g c told kept laid =
    let m : Content = c.args.meta.now in
    all_gathered m.ordinals (seen_in m.limits.volumes (g.D.Outside.state c.args.reach.now.disk.now).files) 0 m.series kept (firsts m.series kept) c.loop-series.all
    (all_few m.series (32 ^ 11) (record_few m c.requires.rules)) laid.leaves (returns-clause-planted g c told kept laid)

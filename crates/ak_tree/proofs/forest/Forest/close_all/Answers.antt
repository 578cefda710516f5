use Rattle.std.proofs.Common.{◌≡◌, ◌≢◌, ◌<◌, ◌∙◌, length, get_or, None, ap, refl, subst, sym, arith}
use Rattle.std.proofs.lemmas.List.{get_or-set_other}
use Rattle.ak_host.proofs.Passing.{disk_goes_on, disk_starts}
use Rattle.ak_meta.specs.Contents.{Content, names_of}
use Rattle.ak_tree.specs.Standing.{Trees, AreTrees}
use Rattle.ak_tree.specs.Storing.{LeavesView}
use Rattle.ak_tree.proofs.Closed.{within_world, within_frames, same_number, open_some, found_some, found_none, none_before, none_next, none_used, holds_placed, ready_placed, way_begins}
use Rattle.ak_tree.proofs.Joining.{way_closed, way_none, way_worn, way_passes, way_ends}
use Rattle.ak_tree.proofs.Framing.{length_known}
use Rattle.ak_tree.proofs.Telling.{worn_from, memory_from}
use Rattle.ak_tree.proofs.Worn.{way_left}
use Rattle.ak_tree.proofs.Waiting.{places_stay}
use Rattle.ak_tree.proofs.Becoming.{origins_it}
use Rattle.ak_world.specs.Steps.{closed_from}
use Rattle.ak_tree.proofs.forest.Forest.close_all.Goals.{then-is_some+in_ok-close_leaf, else-is_some}
use Rattle.ak_tree.proofs.forest.Forest.close_all.Goals as goal

pub returns-in_err-close_leaf-clause-worn : goal.returns-in_err-close_leaf-clause-worn
returns-in_err-close_leaf-clause-worn g c told w holds =
    let i = c.loop-series.series in
    let now = c.loop-series.self in
    let way = c.loop-series.invariant.way told w holds in
    let are : AreTrees now = subst AreTrees c.self-in-loop-series.view_is c.self-in-loop-series.invariant in
    let first : i < length c.args.self.now.meta.series = omega (arith, c.loop-series-test.true, ap length c.series.ensures, ap (λ (t : Trees). length t.meta.series) c.self.view_is, ap (λ (t : Trees). length t.meta.series) c.reserve_all.ensures.same.others) in
    let number = within_frames now c.args.self.now i are c.loop-series.invariant.names first in
    let opened = found_some c.self-in-loop-series.inside.frames.items now.frames i c.index.result.now (ap (λ (t : Trees). t.frames) c.self-in-loop-series.view_is) number c.index.ensures (sym c.is_some.ensures ∙ c.if-is_some.true) in
    worn_from c.from_residual-in_err-close_leaf.result c.in_err-close_leaf.field-0.0 c.from_residual-in_err-close_leaf.ensures.1
    (λ s. way_worn w i now (g.D.Outside.state c.loop-series.disk) way s (within_world w c.args.self.now i holds.keeps first) (open_some way.now now i are way.holds.keeps opened)) (c.in_err-close_leaf.ensures.worn told way.now way.holds)

pub returns-in_err-close_leaf-clause-left : goal.returns-in_err-close_leaf-clause-left
returns-in_err-close_leaf-clause-left g c told w holds =
    let i = c.loop-series.series in
    let now = c.loop-series.self in
    let way = c.loop-series.invariant.way told w holds in
    let are : AreTrees now = subst AreTrees c.self-in-loop-series.view_is c.self-in-loop-series.invariant in
    let first : i < length c.args.self.now.meta.series = omega (arith, c.loop-series-test.true, ap length c.series.ensures, ap (λ (t : Trees). length t.meta.series) c.self.view_is, ap (λ (t : Trees). length t.meta.series) c.reserve_all.ensures.same.others) in
    let number = within_frames now c.args.self.now i are c.loop-series.invariant.names first in
    let opened = found_some c.self-in-loop-series.inside.frames.items now.frames i c.index.result.now (ap (λ (t : Trees). t.frames) c.self-in-loop-series.view_is) number c.index.ensures (sym c.is_some.ensures ∙ c.if-is_some.true) in
    worn_from c.from_residual-in_err-close_leaf.result c.in_err-close_leaf.field-0.0 c.from_residual-in_err-close_leaf.ensures.1
    (λ s. way_left w i now c.close_leaf.new.self (g.D.Outside.state c.loop-series.disk) way (within_world w c.args.self.now i holds.keeps first) (open_some way.now now i are way.holds.keeps opened)) (c.in_err-close_leaf.ensures.left told way.now way.holds)

-- no memory is wanted here: places were taken before the first leaf was closed
pub returns-in_err-close_leaf-clause-memory : goal.returns-in_err-close_leaf-clause-memory
returns-in_err-close_leaf-clause-memory g c =
    let i = c.loop-series.series in
    let now = c.loop-series.self in
    let are : AreTrees now = subst AreTrees c.self-in-loop-series.view_is c.self-in-loop-series.invariant in
    let first : i < length c.args.self.now.meta.series = omega (arith, c.loop-series-test.true, ap length c.series.ensures, ap (λ (t : Trees). length t.meta.series) c.self.view_is, ap (λ (t : Trees). length t.meta.series) c.reserve_all.ensures.same.others) in
    let number = within_frames now c.args.self.now i are c.loop-series.invariant.names first in
    let opened = found_some c.self-in-loop-series.inside.frames.items now.frames i c.index.result.now (ap (λ (t : Trees). t.frames) c.self-in-loop-series.view_is) number c.index.ensures (sym c.is_some.ensures ∙ c.if-is_some.true) in
    memory_from c.from_residual-in_err-close_leaf.result c.in_err-close_leaf.field-0.0 c.from_residual-in_err-close_leaf.ensures.1 (λ wanted. absurd (wanted (c.loop-series.invariant.places i (omega arith) opened))) c.in_err-close_leaf.ensures.placed

pub returns-in_err-close_leaf-clause-kept : goal.returns-in_err-close_leaf-clause-kept
returns-in_err-close_leaf-clause-kept g c =
    let i = c.loop-series.series in
    let now = c.loop-series.self in
    let are : AreTrees now = subst AreTrees c.self-in-loop-series.view_is c.self-in-loop-series.invariant in
    let first : i < length c.args.self.now.meta.series = omega (arith, c.loop-series-test.true, ap length c.series.ensures, ap (λ (t : Trees). length t.meta.series) c.self.view_is, ap (λ (t : Trees). length t.meta.series) c.reserve_all.ensures.same.others) in
    let number = within_frames now c.args.self.now i are c.loop-series.invariant.names first in
    let opened = found_some c.self-in-loop-series.inside.frames.items now.frames i c.index.result.now (ap (λ (t : Trees). t.frames) c.self-in-loop-series.view_is) number c.index.ensures (sym c.is_some.ensures ∙ c.if-is_some.true) in
    memory_from c.from_residual-in_err-close_leaf.result c.in_err-close_leaf.field-0.0 c.from_residual-in_err-close_leaf.ensures.1 (λ wanted. absurd (wanted (c.loop-series.invariant.places i (omega arith) opened))) c.in_err-close_leaf.ensures.placed

pub returns-in_err-close_leaf-clause-passes : goal.returns-in_err-close_leaf-clause-passes
returns-in_err-close_leaf-clause-passes g c told = disk_goes_on (c.loop-series.invariant.passes told) (c.close_leaf.ensures.passes told) (λ disk left. tt)

pub returns-in_err-close_leaf-clause-moments : goal.returns-in_err-close_leaf-clause-moments
returns-in_err-close_leaf-clause-moments g c told w holds =
    let i = c.loop-series.series in
    let now = c.loop-series.self in
    let way = c.loop-series.invariant.way told w holds in
    let are : AreTrees now = subst AreTrees c.self-in-loop-series.view_is c.self-in-loop-series.invariant in
    let first : i < length c.args.self.now.meta.series = omega (arith, c.loop-series-test.true, ap length c.series.ensures, ap (λ (t : Trees). length t.meta.series) c.self.view_is, ap (λ (t : Trees). length t.meta.series) c.reserve_all.ensures.same.others) in
    let number = within_frames now c.args.self.now i are c.loop-series.invariant.names first in
    let opened = found_some c.self-in-loop-series.inside.frames.items now.frames i c.index.result.now (ap (λ (t : Trees). t.frames) c.self-in-loop-series.view_is) number c.index.ensures (sym c.is_some.ensures ∙ c.if-is_some.true) in
    way_passes w i now (g.D.Outside.state c.loop-series.disk) way (g.D.Outside.state c.args.disk.now) (g.D.Outside.state c.close_leaf.new.disk) (within_world w c.args.self.now i holds.keeps first) (open_some way.now now i are way.holds.keeps opened)
    (c.loop-series.invariant.moments told w holds) (c.close_leaf.ensures.moments told way.now way.holds)

pub loop-series-preserved : goal.loop-series-preserved
loop-series-preserved g c =
    let i = c.loop-series.series in
    let now = c.loop-series.self in
    let before = c.loop-series.invariant in
    let start = g.D.Outside.state c.args.disk.now in
    let host = g.D.Outside.state c.loop-series.disk in
    let are : AreTrees now = subst AreTrees c.self-in-loop-series.view_is c.self-in-loop-series.invariant in
    let first : i < length c.args.self.now.meta.series = omega (arith, c.loop-series-test.true, ap length c.series.ensures, ap (λ (t : Trees). length t.meta.series) c.self.view_is, ap (λ (t : Trees). length t.meta.series) c.reserve_all.ensures.same.others) in
    let number = within_frames now c.args.self.now i are before.names first in
    let same = ap (λ (t : Trees). t.frames) c.self-in-loop-series.view_is in
    elim c.if-is_some.branch [
      | then-is_some+in_ok-close_leaf b ↦
          let opened = found_some c.self-in-loop-series.inside.frames.items now.frames i c.index.result.now same number c.index.ensures (sym c.is_some.ensures ∙ b.if-is_some.true) in
          rw (b.self-is, b.disk-is) (record {
            later = omega (arith, b.close_leaf.ensures.stops.later, before.later);
            port_faults = b.close_leaf.ensures.stops.port_faults ∙ before.port_faults;
            sizes = b.close_leaf.ensures.stops.sizes ∙ before.sizes;
            ready = b.in_ok-close_leaf.ensures.ready;
            names = b.close_leaf.ensures.names ∙ before.names;
            limits = b.close_leaf.ensures.limits ∙ before.limits;
            becomes = λ told found was. b.in_ok-close_leaf.ensures.becomes told found (before.becomes told found was);
            places = λ n past some.
                let other : n ≢ i = λ e. omega (arith, e, past) in
                let frame : get_or b.close_leaf.new.self.frames n None ≡ get_or now.frames n None = ap (λ l. get_or l n None) b.in_ok-close_leaf.ensures.frames ∙ get_or-set_other now.frames i n None None other in
                places_stay now b.close_leaf.new.self n (b.in_ok-close_leaf.ensures.levels n other) (b.in_ok-close_leaf.ensures.counts n other) (before.places n (omega (arith, past)) (λ e. some (frame ∙ e)));
            none = λ n below. ap (λ l. get_or l n None) b.in_ok-close_leaf.ensures.frames ∙ none_before now.frames i n number before.none below;
            reads = λ told. b.close_leaf.ensures.reads told ∙ before.reads told;
            way = λ told w holds.
                let way = before.way told w holds in
                way_closed w i now host way b.close_leaf.new.self (g.D.Outside.state b.close_leaf.new.disk) (within_world w c.args.self.now i holds.keeps first) (open_some way.now now i are way.holds.keeps opened)
                (b.in_ok-close_leaf.ensures.after told way.now way.holds);
            passes = λ told. disk_goes_on (before.passes told) (b.close_leaf.ensures.passes told) (λ disk left. tt);
            moments = λ told w holds.
                let way = before.way told w holds in
                way_passes w i now host way start (g.D.Outside.state b.close_leaf.new.disk) (within_world w c.args.self.now i holds.keeps first) (open_some way.now now i are way.holds.keeps opened)
                (before.moments told w holds) (b.close_leaf.ensures.moments told way.now way.holds);
          })
      | else-is_some b ↦
          let none = found_none c.self-in-loop-series.inside.frames.items now.frames i c.index.result.now same number c.index.ensures (sym c.is_some.ensures ∙ b.if-is_some.false) in
          rw (b.self-is, b.disk-is) (record {
            later = before.later;
            port_faults = before.port_faults;
            sizes = before.sizes;
            ready = before.ready;
            names = before.names;
            limits = before.limits;
            becomes = before.becomes;
            places = λ n past some. before.places n (omega (arith, past)) some;
            none = λ n below. none_next now.frames i n none before.none below;
            reads = before.reads;
            way = λ told w holds.
                let way = before.way told w holds in
                way_none w i now host way (within_world w c.args.self.now i holds.keeps first)
                (way.holds.keeps.others i (within_world way.now now i way.holds.keeps (omega (arith, first, same_number now c.args.self.now before.names))) none);
            passes = before.passes;
            moments = before.moments;
          })
    ]

pub returns-clause-none_open : goal.returns-clause-none_open
returns-clause-none_open g c =
    let now = c.loop-series.self in
    let are : AreTrees now = subst AreTrees c.self-2.view_is c.self-2.invariant in
    none_used now.pool now.frames (length now.meta.series) are.pooled
    (λ n within. c.loop-series.invariant.none n
    (omega (arith, within, c.loop-series-test.false, ap length c.series.ensures, ap (λ (t : Trees). length t.meta.series) c.self.view_is, ap (λ (t : Trees). length t.meta.series) c.reserve_all.ensures.same.others, same_number now c.args.self.now c.loop-series.invariant.names)))

pub returns-clause-after : goal.returns-clause-after
returns-clause-after g c told w holds =
    let way = c.loop-series.invariant.way told w holds in
    let length_is = ap (λ (m : Content). length m.series) holds.keeps.content_is in
    way_ends w c.loop-series.series c.loop-series.self (g.D.Outside.state c.loop-series.disk) way
    (omega (arith, c.loop-series-test.false, ap length c.series.ensures, ap (λ (t : Trees). length t.meta.series) c.self.view_is, ap (λ (t : Trees). length t.meta.series) c.reserve_all.ensures.same.others, length_is, length_known w.opened.content.series w.series))

pub returns-in_err-reserve_all-clause-memory : goal.returns-in_err-reserve_all-clause-memory
returns-in_err-reserve_all-clause-memory g c =
    memory_from c.from_residual.result c.in_err-reserve_all.field-0.0 c.from_residual.ensures.1 (λ opens. opens) c.in_err-reserve_all.ensures.opens

pub loop-series-init : goal.loop-series-init
loop-series-init g c =
    let f = c.args.self.now in
    let one = c.reserve_all.new.self in
    let host = g.D.Outside.state c.args.disk.now in
    let same = c.reserve_all.ensures.same in
    record {
      later = omega arith;
      port_faults = refl;
      sizes = refl;
      ready = ready_placed g.D.Outside.tells f one host same c.requires.ready;
      names = ap (λ (t : Trees). names_of t.meta.series) same.others;
      limits = ap (λ (t : Trees). t.meta.limits) same.others;
      becomes = λ told. origins_it host host f.meta one.meta (ap (λ (t : Trees). t.meta) same.others) refl;
      places = λ n past some. c.in_ok-reserve_all.ensures.places n some;
      none = λ n below. absurd (omega (arith, below));
      reads = λ told. refl;
      way = λ told w holds. way_begins w one host (holds_placed w f one host same holds);
      passes = λ told. disk_starts (λ left. Unit {0}) host;
      moments = λ told w holds. disk_starts (LeavesView w (closed_from (length w.series) 0 w)) host;
    }

use Rattle.std.proofs.Common.{arith}
use Rattle.ak_time.specs.Times.{IsWhole, whole, IsCivilText, IsCivilTime, civil_moment, ReadsTime}
use Rattle.ak_time.proofs.Readings.{reads_civil, reads_whole, settle_ok, settle_bad, settle_range}
use Rattle.ak_time.proofs.time.read_time.Goals as goal
use Rattle.ak_time.proofs.time.read_time.Goals.{else-text-gt8-via-then-text-gt8+else-text-eq84, else-text-gt8-via-else-text-gt8}

pub returns-then-text-eq84-clause-ok : goal.returns-then-text-eq84-clause-ok
returns-then-text-eq84-clause-ok c =
    let text = c.args.text.now in
    settle_ok (ReadsTime text) (IsCivilTime text) (civil_moment text) c.read_civil.result (reads_civil text c.if-text-gt8.true c.if-text-eq84.true) c.read_civil.ensures

pub returns-then-text-eq84-clause-bad : goal.returns-then-text-eq84-clause-bad
returns-then-text-eq84-clause-bad c =
    let text = c.args.text.now in
    settle_bad (ReadsTime text) (IsCivilTime text) (civil_moment text) c.read_civil.result (reads_civil text c.if-text-gt8.true c.if-text-eq84.true) c.read_civil.ensures

pub returns-then-text-eq84-clause-range : goal.returns-then-text-eq84-clause-range
returns-then-text-eq84-clause-range c =
    let text = c.args.text.now in
    settle_range (ReadsTime text) (IsCivilTime text) (civil_moment text) c.read_civil.result (reads_civil text c.if-text-gt8.true c.if-text-eq84.true) c.read_civil.ensures

other : (c : goal.After-read_whole) → ¬ (IsCivilText c.args.text.now)
other c shape = elim c.else-text-gt8.branch [
  | else-text-gt8-via-then-text-gt8+else-text-eq84 w ↦ w.if-text-eq84.false shape.mark
  | else-text-gt8-via-else-text-gt8 w ↦ omega (arith, shape.long, w.if-text-gt8.false)
]

pub returns-else-text-gt8-clause-ok : goal.returns-else-text-gt8-clause-ok
returns-else-text-gt8-clause-ok c =
    let text = c.args.text.now in
    settle_ok (ReadsTime text) (IsWhole text) (whole text) c.read_whole.result (reads_whole text (other c)) c.read_whole.ensures

pub returns-else-text-gt8-clause-bad : goal.returns-else-text-gt8-clause-bad
returns-else-text-gt8-clause-bad c =
    let text = c.args.text.now in
    settle_bad (ReadsTime text) (IsWhole text) (whole text) c.read_whole.result (reads_whole text (other c)) c.read_whole.ensures

pub returns-else-text-gt8-clause-range : goal.returns-else-text-gt8-clause-range
returns-else-text-gt8-clause-range c =
    let text = c.args.text.now in
    settle_range (ReadsTime text) (IsWhole text) (whole text) c.read_whole.result (reads_whole text (other c)) c.read_whole.ensures

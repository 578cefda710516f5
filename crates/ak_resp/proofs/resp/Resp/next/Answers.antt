use Rattle.std.proofs.Common.{arith, drop, Some, None, Ok, Err}
use Rattle.ak_resp.specs.Rows.{FeedsOn}
use Rattle.ak_resp.proofs.Runs.{feeds_more}
use Rattle.ak_resp.proofs.resp.Resp.next.Goals as goal

pub loop-at-preserved : goal.loop-at-preserved
loop-at-preserved c =
    let read = rw c.in-Ok-None.field-0-is at c.in-Ok-None.ensures.reads in
    let both : FeedsOn c.args.self.now c.advance.new.self (drop c.args.at.now c.args.piece.now) (drop c.advance.new.at c.args.piece.now) (Ok None) =
    feeds_more c.args.self.now c.loop-at.self c.advance.new.self _ _ _ (Ok None) c.loop-at.invariant.reads read in
    record { begin = omega arith; within = c.in-Ok-None.ensures.within; sound = both.1; reads = both.0 }

pub returns-in-Ok-Some-clause-reads : goal.returns-in-Ok-Some-clause-reads
returns-in-Ok-Some-clause-reads c =
    let read = rw c.in-Ok-Some.field-0-is at c.in-Ok-Some.ensures.reads in
    feeds_more c.args.self.now c.loop-at.self c.advance.new.self _ _ _ (Ok (Some c.in-Ok-Some.message)) c.loop-at.invariant.reads read

pub returns-in-Err-clause-reads : goal.returns-in-Err-clause-reads
returns-in-Err-clause-reads c =
    feeds_more c.args.self.now c.loop-at.self c.advance.new.self _ _ _ (Err c.in-Err.error) c.loop-at.invariant.reads c.in-Err.ensures.reads

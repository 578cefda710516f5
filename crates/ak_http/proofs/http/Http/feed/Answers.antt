use Rattle.std.proofs.Common.{◌≤◌, ◌+◌, arith, slice_range, Ok, Some, None, Err}
use Rattle.ak_http.specs.Standing.{Takes}
use Rattle.ak_http.proofs.Readers.{range_more, reads_bytes, reads_fault}
use Rattle.ak_http.proofs.http.Http.feed.Goals as goal

pub loop-at-preserved : goal.loop-at-preserved
loop-at-preserved c =
    let before = c.loop-at.invariant in
    let piece = c.args.piece.now in
    let end = c.loop-at.at + c.min.result in
    let bytes = slice_range piece c.loop-at.at end in
    let further : c.loop-at.at ≤ end = omega arith in
    let taken : Takes c.loop-at.self bytes c.take.new.self (Ok None) = rw c.in-Ok-None.field-0-is at c.in-Ok-None.ensures in
    record {
      begin = omega arith;
      within = omega arith;
      sound = taken.1;
      reads = reads_bytes c.args.self.now c.loop-at.self c.take.new.self piece bytes c.args.at.now c.loop-at.at end (Ok None) (range_more piece c.loop-at.at end further) before.sound taken before.reads;
    }

pub returns-in-Ok-Some-clause-stands : goal.returns-in-Ok-Some-clause-stands
returns-in-Ok-Some-clause-stands c =
    let before = c.loop-at.invariant in
    let piece = c.args.piece.now in
    let end = c.loop-at.at + c.min.result in
    let bytes = slice_range piece c.loop-at.at end in
    let further : c.loop-at.at ≤ end = omega arith in
    let taken : Takes c.loop-at.self bytes c.take.new.self (Ok (Some c.in-Ok-Some.request)) = rw c.in-Ok-Some.field-0-is at c.in-Ok-Some.ensures in
    reads_bytes c.args.self.now c.loop-at.self c.take.new.self piece bytes c.args.at.now c.loop-at.at end (Ok (Some c.in-Ok-Some.request)) (range_more piece c.loop-at.at end further) before.sound taken before.reads

pub returns-in-Err-clause-stands : goal.returns-in-Err-clause-stands
returns-in-Err-clause-stands c =
    let before = c.loop-at.invariant in
    let piece = c.args.piece.now in
    let end = c.loop-at.at + c.min.result in
    let bytes = slice_range piece c.loop-at.at end in
    let further : c.loop-at.at ≤ end = omega arith in
    reads_bytes c.args.self.now c.loop-at.self c.take.new.self piece bytes c.args.at.now c.loop-at.at end (Err c.in-Err.error) (range_more piece c.loop-at.at end further) before.sound c.in-Err.ensures before.reads

pub returns-in-Err-clause-place : goal.returns-in-Err-clause-place
returns-in-Err-clause-place c = λ _.
    let before = c.loop-at.invariant in
    let piece = c.args.piece.now in
    let end = c.loop-at.at + c.min.result in
    let bytes = slice_range piece c.loop-at.at end in
    let further : c.loop-at.at ≤ end = omega arith in
    reads_fault c.args.self.now c.loop-at.self c.take.new.self piece bytes c.args.at.now c.loop-at.at end (Err c.in-Err.error) (range_more piece c.loop-at.at end further) before.sound c.in-Err.ensures before.reads

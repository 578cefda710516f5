use Rattle.std.proofs.Common.{◌≡◌, false, ap}
use Rattle.ak_resp.specs.Standing.{is_faulted, is_refused}
use Rattle.ak_resp.proofs.Readers.{stands_after, place_after}
use Rattle.ak_resp.proofs.resp.Resp.feed.Goals as goal

pub returns-in-None-clause-stands : goal.returns-in-None-clause-stands
returns-in-None-clause-stands c =
    let sound : is_faulted c.args.self.now ≡ false = ap is_refused c.in-None.is in
    stands_after c.args.self.now c.next.new.self c.args.piece.now c.args.at.now c.next.new.at c.next.result c.next.ensures.within.0 c.next.ensures.within.1 sound c.next.ensures.reads

pub returns-in-None-clause-place : goal.returns-in-None-clause-place
returns-in-None-clause-place c = λ sound.
    place_after c.args.self.now c.next.new.self c.args.piece.now c.args.at.now c.next.new.at c.next.result c.next.ensures.within.0 c.next.ensures.within.1 sound c.next.ensures.reads

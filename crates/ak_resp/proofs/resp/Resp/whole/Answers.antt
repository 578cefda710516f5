use Rattle.std.proofs.Common.{◌≡◌, rules, None}
use Rattle.std.proofs.lemmas.List.{take_rest}
use Rattle.ak_resp.specs.Standing.{IsInside}
use Rattle.ak_resp.proofs.Taken.{put_stands}
use Rattle.ak_resp.proofs.resp.Resp.whole.Goals as goal

pub returns-clause-stands : goal.returns-clause-stands
returns-clause-stands c =
    let r = c.args.self.now in
    let none : r.refusal ≡ None = search rules in
    let outside : ¬ (IsInside r.spot) = search rules in
    let inside = rw take_rest at c.whole_put.ensures.within in
    let spelled = rw take_rest at c.whole_put.ensures.spells in
    put_stands r c.args.at c.args.piece.now c.whole_put.result c.requires none outside inside spelled

use Rattle.std.proofs.Common.{◌∙◌, ◌++◌, List, ℕ, take, ap, refl}
use Rattle.ak_gate.proofs.Heads.{goes_on, if_ok}
use Rattle.ak_gate.proofs.opening.read_more.Goals as goal

pub returns-clause-goes_on : goal.returns-clause-goes_on
returns-clause-goes_on g c told =
    if_ok c.extend_by.result c.extend_by.ensures.ok (λ rest did more.
    goes_on c.args.payload.now c.extend_by.new.payload c.in_ok-block.block c.args.left rest 4096 0 c.in_ok-block.ensures.long refl did.0 did.1 more
    ∙ ap (λ (block : List ℕ). c.args.payload.now ++ take c.args.left (block ++ more)) (c.in_ok-block.ensures.block told))

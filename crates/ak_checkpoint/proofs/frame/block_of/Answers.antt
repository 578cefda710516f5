use Rattle.std.proofs.Common.{◌≡◌, ◌∙◌, ◌+◌, ◌-◌, min, length, arith}
use Rattle.ak_checkpoint.proofs.Bodies.{front_block}
use Rattle.ak_checkpoint.proofs.frame.block_of.Goals as goal

pub returns : goal.returns
returns c =
    let count : c.args.start + c.min-count.result - c.args.start ≡ min (length c.args.frame.now - c.args.start) 4096 = omega (arith, c.min-count.ensures) in
    c.copy_to_front.ensures ∙ front_block c.args.start _ c.args.frame.now count

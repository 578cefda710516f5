use Rattle.std.proofs.Common.{◌+◌, arith}
use Rattle.ak_gate.proofs.Spelled.{number_step}
use Rattle.ak_gate.proofs.opening.number_at.Goals as goal

pub returns : goal.returns
returns c =
    let block = c.args.block.now in
    let from = c.args.from in
    omega (
      arith,
      number_step 7 from (from + 1) block (omega (arith, c.told-block)) (omega arith),
      number_step 6 (from + 1) (from + 2) block (omega (arith, c.told-block)) (omega arith),
      number_step 5 (from + 2) (from + 3) block (omega (arith, c.told-block)) (omega arith),
      number_step 4 (from + 3) (from + 4) block (omega (arith, c.told-block)) (omega arith),
      number_step 3 (from + 4) (from + 5) block (omega (arith, c.told-block)) (omega arith),
      number_step 2 (from + 5) (from + 6) block (omega (arith, c.told-block)) (omega arith),
      number_step 1 (from + 6) (from + 7) block (omega (arith, c.told-block)) (omega arith),
      number_step 0 (from + 7) (from + 8) block (omega (arith, c.told-block)) (omega arith),
    )

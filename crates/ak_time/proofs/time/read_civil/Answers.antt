use Rattle.std.proofs.Common.{arith}
use Rattle.std.proofs.lemmas.Grind.{common_steps}
use Rattle.ak_time.proofs.Readings.{civil_small}
use Rattle.ak_time.proofs.time.read_civil.Goals as goal

pub moment_of-requires-clause-nanos : goal.moment_of-requires-clause-nanos
moment_of-requires-clause-nanos c = grind (arith, common_steps, civil_small c.args.text.now)

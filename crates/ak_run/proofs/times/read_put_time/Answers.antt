use Rattle.std.proofs.Common.{rules}
use Rattle.ak_run.proofs.Timed.{time_given}
use Rattle.ak_run.proofs.times.read_put_time.Goals as goal

pub returns : goal.returns
returns c = time_given c.args.text.now c.read_time.result c.or.result (c.is_whole.ensures.0 (search rules)) c.read_time.ensures.ok c.read_time.ensures.range c.or.ensures

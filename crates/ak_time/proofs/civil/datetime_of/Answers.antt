use Rattle.std.proofs.Common.{rules}
use Rattle.ak_time.proofs.Moments.{moment-shown}
use Rattle.ak_time.proofs.civil.datetime_of.Goals as goal

pub returns-in-Ok-clause-value : goal.returns-in-Ok-clause-value
returns-in-Ok-clause-value c =
    let d = c.in-Ok.ensures.value.0 in
    let t = c.in-Ok.ensures.value.1 in
    moment-shown c.in-Ok.dt c.args.p (search rules) (search rules) (search rules) (search rules) (search rules) (search rules) (search rules)

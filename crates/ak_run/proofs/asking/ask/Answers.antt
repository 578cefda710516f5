use Rattle.std.proofs.Common.{map}
use Rattle.ak_run.proofs.Allowed.{put_result}
use Rattle.ak_run.proofs.asking.ask.Goals as goal

pub returns-in-Put-clause-allowed : goal.returns-in-Put-clause-allowed
returns-in-Put-clause-allowed c =
    put_result c.args.scale c.as_slice.result.now c.as_slice-in-Put.result.now (map (λ v. v.bytes) c.as_slice-in-Put-2.result.now) c.ask_put.result c.ask_put.ensures

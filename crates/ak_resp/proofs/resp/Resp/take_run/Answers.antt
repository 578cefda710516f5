use Rattle.std.proofs.Common.{◌≡◌, ◌≤◌, arith}
use Rattle.ak_resp.specs.Machine.{extended}
use Rattle.ak_resp.specs.Standing.{last_place}
use Rattle.ak_resp.proofs.Runs.{run_takes}
use Rattle.ak_resp.proofs.resp.Resp.take_run.Goals as goal

pub returns : goal.returns
returns c =
    let fits : c.args.self.now.place ≤ last_place = omega arith in
    let extends : c.extend.new.self ≡ extended c.args.self.now.spot c.args.bytes.now = c.in_ok-extend.ensures in
    let taken = run_takes c.args.self.now c.args.bytes.now c.requires.sound fits c.requires.run in
    rw (c.saturating_add-self.ensures, extends) (taken.0, taken.1, c.requires.sound)

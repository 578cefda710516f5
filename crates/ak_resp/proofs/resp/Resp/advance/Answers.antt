use Rattle.std.proofs.Common.{◌≡◌, [], get_or, take, drop, None}
use Rattle.std.proofs.lemmas.List.{drop_more, take_rest}
use Rattle.ak_resp.specs.Rows.{after, said}
use Rattle.ak_resp.proofs.Runs.{reads_run, feeds_byte}
use Rattle.ak_resp.proofs.resp.Resp.advance.Goals as goal

pub returns-in_ok-take_run-clause-reads : goal.returns-in_ok-take_run-clause-reads
returns-in_ok-take_run-clause-reads c =
    let run = take c.run_length-run.result (drop c.args.at.now c.args.piece.now) in
    let took : (c.take_run.new.self ≡ after c.args.self.now run) × (said c.args.self.now run ≡ []) × (c.take_run.new.self.refusal ≡ None) =
    rw take_rest at c.in_ok-take_run.ensures in
    (reads_run c.args.self.now c.take_run.new.self c.args.piece.now c.args.at.now c.run_length-run.result took.0 took.1, took.2)

pub returns-else-run-gt0-clause-reads : goal.returns-else-run-gt0-clause-reads
returns-else-run-gt0-clause-reads c =
    feeds_byte c.args.self.now c.take_byte.new.self (drop c.args.at.now c.args.piece.now) _ (get_or c.args.piece.now c.args.at.now 0) c.take_byte.result
    (drop_more c.args.piece.now c.args.at.now 0 c.requires.within) c.requires.sound c.take_byte.ensures

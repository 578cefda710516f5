use Rattle.std.proofs.Common.{◌≡◌, Bool, ap, ap₂, sym}
use Rattle.ak_rows.specs.Answers.{ordered, paged}
use Rattle.ak_rows.specs.ToCome.{plan_lines}
use Rattle.ak_rows.specs.declared.rows.Plan.{Plan}
use Rattle.ak_rows.proofs.laws.select_comes.Goals as goal

pub returns : goal.returns
returns c points buckets rows tracks plan by_time =
    ap₂ (λ (b : Bool) (p : Plan). paged rows.skip rows.keep (ordered b rows.back (plan_lines rows.back points buckets p))) by_time plan

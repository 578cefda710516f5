use Rattle.std.proofs.Common.{◌≡◌, ℕ, List, ap}
use Rattle.ak_base.specs.declared.point.Point.{Point}
use Rattle.ak_rows.specs.Answers.{ordered, paged}
use Rattle.ak_rows.specs.Feeds.{Bucket}
use Rattle.ak_rows.specs.ToCome.{to_come, at_first}
use Rattle.ak_rows.proofs.Beginning.{plan_begins}
use Rattle.ak_rows.proofs.rows.Rows.new.Goals as goal

pub returns : goal.returns
returns c points buckets =
    let q = c.args.query.now in
    ap (λ tracks. paged q.offset q.limit (ordered q.by_time q.range.back tracks))
    (plan_begins q.range.back points buckets q.kind c.args.tracks.now _ c.in_ok-plan.ensures)

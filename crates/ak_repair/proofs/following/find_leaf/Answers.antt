use Rattle.std.proofs.Common.{◌≡◌, ◌≢◌, ◌∙◌, ◌≤◌, List, [], length, sym, ap, subst, arith}
use Rattle.ak_base.specs.Points.{IsHistory}
use Rattle.ak_base.specs.declared.point.Point.{Point}
use Rattle.ak_levels.proofs.Leaves.{leaf_tally}
use Rattle.ak_levels.specs.Closes.{leaf_ref}
use Rattle.ak_levels.specs.Entries.{IsTally}
use Rattle.ak_repair.proofs.ReadNodes.{spelled_some, leaf_referred}
use Rattle.ak_repair.proofs.following.find_leaf.Goals as goal

pub returns-clause-tally : goal.returns-clause-tally
returns-clause-tally g c =
    let read = c.in_ok-head.ensures.spelled in
    let ps : List Point = c.points.result.now in
    let same : ps ≡ c.leaf.new.self.scratch.now = c.points.ensures.points in
    let some : ps ≢ [] = λ none. spelled_some read.0 c.in_ok-head.head c.leaf.new.self.scratch.now read.1.leaf (sym same ∙ none) in
    let few : length ps ≤ 2016 = omega (arith, ap (length {A = Point}) same, c.points.ensures.most) in
    subst (IsTally 0) (sym c.refer.ensures) (leaf_tally c.args.at.0 ps some few (subst IsHistory (sym same) c.points.ensures.history))

pub returns-clause-referred : goal.returns-clause-referred
returns-clause-referred g c told =
    let read = c.in_ok-head.ensures.spelled in
    let same = c.points.ensures.points in
    leaf_referred _ c.args.series c.args.number c.args.at c.in_ok-head.head c.leaf.new.self.scratch.now read.0 c.refer.result read.1 (c.in_ok-head.ensures.found told)
    (c.refer.ensures ∙ ap (λ (ps : List Point). leaf_ref c.args.at.0 ps) same)

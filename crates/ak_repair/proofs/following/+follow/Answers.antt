use Rattle.std.proofs.Common.{◌≡◌, ◌≤◌, ◌-◌, List, [], ◌∷◌, ◌++◌, refl, ap, arith}
use Rattle.ak_image.specs.Blocks.{seen_in}
use Rattle.ak_inner.specs.declared.reference.Ref.{Ref}
use Rattle.ak_levels.proofs.Lifts.{pending_with}
use Rattle.ak_levels.specs.Pending.{pending_at}
use Rattle.ak_repair.proofs.Follow.{moved, followed_on, lost_here, lost_on}
use Rattle.ak_repair.proofs.OnlyReading.{stop_from, reason_weaker}
use Rattle.ak_repair.specs.Follows.{AreFollowed, IsLost}
use Rattle.ak_volumes.specs.Ordinals.{IsLive}
use Rattle.ak_repair.proofs.following.+follow.Goals as goal

pub returns-in_err-found-clause-stops : goal.returns-in_err-found-clause-stops
returns-in_err-found-clause-stops g t c =
    let o = c.args.reach.now.volumes.now in
    let old = g.D.Outside.state c.args.reach.now.disk.now in
    let some : 1 ≤ c.args.left = omega (arith, c.if-left-eq0.false) in
    let live : IsLive o c.args.at.0 = c.if-not-live.ensures.0 refl in
    stop_from _ c.from_residual.result c.in_err-found.field-0.0 c.from_residual.ensures.1
    (reason_weaker {Q = λ file block. g.D.Outside.tells → IsLost (seen_in o.volumes old.files) o c.args.line.series c.args.line.level c.args.left c.args.number c.args.at.0 file block}
    old old (g.D.Outside.state c.find.new.reach.disk.now) c.in_err-found.field-0.0 (omega arith)
    (λ file block is told. lost_here (seen_in o.volumes old.files) o c.args.line.series c.args.line.level c.args.left c.args.number c.args.at.0 file block some live is.0 is.1 (is.2 told))
    c.in_err-found.ensures.stops)

pub returns-in_err-follow-clause-stops : goal.returns-in_err-follow-clause-stops
returns-in_err-follow-clause-stops g t c =
    let o = c.args.reach.now.volumes.now in
    let p = c.find.new.reach.volumes.now in
    let old = g.D.Outside.state c.args.reach.now.disk.now in
    let mid = g.D.Outside.state c.find.new.reach.disk.now in
    let line = c.args.line in
    let some : 1 ≤ c.args.left = omega (arith, c.if-left-eq0.false) in
    let live : IsLive o c.args.at.0 = c.if-not-live.ensures.0 refl in
    let same : p ≡ o = ap (λ v. v.now) c.find.ensures.keeps.volumes in
    stop_from _ c.from_residual-in_err-follow.result c.in_err-follow.field-0.0 c.from_residual-in_err-follow.ensures.1
    (reason_weaker {Q = λ file block. g.D.Outside.tells → IsLost (seen_in o.volumes old.files) o line.series line.level c.args.left c.args.number c.args.at.0 file block}
    old mid (g.D.Outside.state c.follow.new.reach.disk.now) c.in_err-follow.field-0.0 c.find.ensures.reads.later
    (λ file block is told. lost_on (seen_in o.volumes old.files) o line.series line.level c.args.left c.args.number c.args.at.0 c.in_ok-found.found.elder.0 file block c.in_ok-found.found.reference some live
    (c.in_ok-found.ensures.referred told)
    (moved (λ v files. IsLost (seen_in v.volumes files) v line.series line.level (c.args.left - 1) (c.args.number - 1) c.in_ok-found.found.elder.0 file block)
    o p old.files mid.files same (c.find.ensures.reads.files told) (is told)))
    c.in_err-follow.ensures.stops)

pub returns-clause-followed : goal.returns-clause-followed
returns-clause-followed g t c told =
    let o = c.args.reach.now.volumes.now in
    let p = c.find.new.reach.volumes.now in
    let old = g.D.Outside.state c.args.reach.now.disk.now in
    let mid = g.D.Outside.state c.find.new.reach.disk.now in
    let line = c.args.line in
    let some : 1 ≤ c.args.left = omega (arith, c.if-left-eq0.false) in
    let live : IsLive o c.args.at.0 = c.if-not-live.ensures.0 refl in
    let same : p ≡ o = ap (λ v. v.now) c.find.ensures.keeps.volumes in
    let front : List Ref = pending_at c.follow.new.levels line.level in
    followed_on (seen_in o.volumes old.files) o line.series line.level c.args.left c.args.number c.args.at.0 c.in_ok-found.found.elder.0 front (pending_at c.push.new.self line.level) c.in_ok-found.found.reference some live
    (pending_with c.follow.new.levels c.push.new.self line.level (front ++ c.in_ok-found.found.reference ∷ []) c.push.ensures.valid c.requires.level c.push.ensures.pushed)
    (c.in_ok-found.ensures.referred told)
    (moved (λ v files. AreFollowed (seen_in v.volumes files) v line.series line.level (c.args.left - 1) (c.args.number - 1) c.in_ok-found.found.elder.0 front)
    o p old.files mid.files same (c.find.ensures.reads.files told) (c.in_ok-follow.ensures.followed told))

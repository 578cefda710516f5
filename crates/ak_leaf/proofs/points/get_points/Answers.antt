use Rattle.std.proofs.Common.{◌≡◌, ◌++◌, ◌∷◌, ◌∙◌, [], List, ℕ, append-nil, sym, ap, subst, refl, drop, length, length-drop, arith}
use Rattle.std.proofs.lemmas.List.{length_push, drop_all}
use Rattle.std.proofs.lemmas.Slice.{pushed}
use Rattle.std.specs.List.{AllByRecursion}
use Rattle.ak_base.specs.Points.{IsPoint, IsHistory}
use Rattle.ak_base.specs.declared.point.Point.{Point}
use Rattle.ak_leaf.specs.Spelling.{IsBefore, start, spelling}
use Rattle.ak_leaf.proofs.Spellings.{if_none, may_follow, follow_history, follow_each, after_is, start_is, goes_next, goes_end, read_more}
use Rattle.ak_leaf.proofs.points.get_points.Goals as goal

pub get_point-requires-clause-before : goal.get_point-requires-clause-before
get_point-requires-clause-before c =
    subst IsBefore (sym c.loop.invariant.before) (after_is start c.loop.points.items start_is c.loop.invariant.follow)

pub returns-in_err-point-clause-none : goal.returns-in_err-point-clause-none
returns-in_err-point-clause-none c =
    let none : (ps : List Point) → length ps ≡ c.args.count → IsHistory ps → AllByRecursion IsPoint ps → c.args.from.now ≡ spelling ps → ⊥ = λ ps long h each e.
    let next = goes_next c.loop.before c.loop.points.items ps (drop c.loop.at c.args.from.now) c.loop.invariant.before c.loop.invariant.follow (may_follow start ps h each) (omega (arith, long, c.loop.invariant.count)) (sym c.loop.invariant.spelled ∙ e) in
    c.in_err-point.ensures.none next.p next.rest next.is next.rises next.spelled in
    if_none _ _ none

pub loop-preserved : goal.loop-preserved
loop-preserved c =
    let items : c.push.new.self.items ≡ c.loop.points.items ++ c.in_ok-point.point ∷ [] = pushed (c.in_ok-point.point ∷ []) refl c.unwrap.ensures c.push.ensures.items in
    let read = read_more c.args.from.now c.loop.points.items c.push.new.self.items c.loop.before c.in_ok-point.point (drop c.loop.at c.args.from.now) (drop c.in_ok-point.end c.args.from.now)
    items c.loop.invariant.before c.loop.invariant.follow c.in_ok-point.ensures.rises.0 c.in_ok-point.ensures.rises.1 c.loop.invariant.spelled c.in_ok-point.ensures.some in
    record {
      count = ap length items ∙ length_push c.loop.points.items c.in_ok-point.point ∙ omega (arith, c.loop.invariant.count);
      room = omega (arith, c.push.ensures.capacity, c.loop.invariant.room);
      within = c.in_ok-point.ensures.within;
      before = c.after-before.ensures ∙ read.last;
      follow = read.follow;
      spelled = read.spelled;
    }

pub returns-else-at-from-clause-none : goal.returns-else-at-from-clause-none
returns-else-at-from-clause-none c ps long h each e =
    let none : drop c.loop.at c.args.from.now ≡ [] = goes_end c.loop.points.items ps (drop c.loop.at c.args.from.now) c.loop.invariant.follow (may_follow start ps h each) (omega (arith, long, c.loop.invariant.count)) (sym c.loop.invariant.spelled ∙ e) in
    c.if-at-from.false (omega (arith, ap length none, length-drop c.loop.at c.args.from.now, c.loop.invariant.within))

pub returns-then-at-from-clause-some : goal.returns-then-at-from-clause-some
returns-then-at-from-clause-some c =
    let done = c.loop.points.items in
    let all : drop c.loop.at c.args.from.now ≡ [] = drop_all c.loop.at c.args.from.now (omega arith) in (
      c.loop.invariant.before,
      omega (arith, c.loop.invariant.count),
      follow_history start done c.loop.invariant.follow,
      follow_each start done c.loop.invariant.follow,
      c.loop.invariant.spelled ∙ ap (λ (l : List ℕ). spelling done ++ l) all ∙ append-nil (spelling done),
    )

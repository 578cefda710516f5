use Rattle.std.proofs.Common.{◌≡◌, ◌∙◌, ◌<◌, ◌≤◌, ◌^◌, ℕ, List, [], true, length, refl, sym, subst, arith}
use Rattle.std.proofs.lemmas.List.{length-map}
use Rattle.std.specs.List.{AllByRecursion}
use Rattle.ak_rows.specs.Ahead.{IsReady}
use Rattle.ak_rows.specs.Coming.{IsTaken}
use Rattle.ak_rows.specs.Lines.{Line}
use Rattle.ak_rows.specs.Starts.{lists}
use Rattle.ak_rows.specs.Tracks.{AreAllLater, AreAllHad, AreAllInOrder, AreAllReady, select_rows}
use Rattle.ak_rows.specs.declared.points.Lane.{Lane}
use Rattle.ak_rows.proofs.AllTracks.{all_later_same, all_later_on}
use Rattle.ak_rows.proofs.Moving.{moves_not, moves_on}
use Rattle.ak_rows.proofs.Turning.{all_later_length, all_each_later, all_apart_later, all_apart_at, at_track, passed_later, had_later, all_ended, step_order, step_true, step_false, step_passed}
use Rattle.ak_rows.proofs.selects.next_by_series.Goals as goal

pub loop-at-init : goal.loop-at-init
loop-at-init g c =
    let F = g.F.Feed in
    record {
      later = all_later_same (lists c.args.tracks.now);
      rows = λ had order. refl;
      order = λ had order. order;
      passed = c.requires.passed;
      can = λ s. (λ h. h, λ h. h);
      moves = moves_not F.asked F.count F.bound F.faults F.damaged c.args.feed.now;
    }

pub turn-requires-clause-few : goal.turn-requires-clause-few
turn-requires-clause-few g c = subst (λ (n : ℕ). n < 2 ^ 32) (sym (all_later_length (lists c.args.tracks.now) (lists c.loop-at.tracks) c.loop-at.invariant.later)) c.requires.few

pub turn-requires-clause-ready : goal.turn-requires-clause-ready
turn-requires-clause-ready g c =
    let F = g.F.Feed in
    let v = c.loop-at.invariant in
    let small : c.loop-at.at < length (lists c.loop-at.tracks) = omega (arith, length-map c.loop-at.tracks.items (λ t. t.items), c.loop-at-test.true) in
    at_track (λ (t : List Lane). AllByRecursion (IsReady (F.count c.loop-at.feed)) t) (lists c.loop-at.tracks) c.loop-at.at small
    (subst (λ (n : ℕ). AreAllReady n (lists c.loop-at.tracks)) (sym v.moves.count_same)
    (all_each_later (λ s. s < F.count c.args.feed.now) (lists c.args.tracks.now) (lists c.loop-at.tracks) v.later c.requires.ready))

pub turn-requires-clause-apart : goal.turn-requires-clause-apart
turn-requires-clause-apart g c =
    let small : c.loop-at.at < length (lists c.loop-at.tracks) = omega (arith, length-map c.loop-at.tracks.items (λ t. t.items), c.loop-at-test.true) in
    all_apart_at (lists c.loop-at.tracks) c.loop-at.at small (all_apart_later (lists c.args.tracks.now) (lists c.loop-at.tracks) c.loop-at.invariant.later c.requires.apart)

pub returns-in_err-turn-clause-later : goal.returns-in_err-turn-clause-later
returns-in_err-turn-clause-later g c = all_later_on (lists c.args.tracks.now) (lists c.loop-at.tracks) (lists c.turn.new.tracks) c.loop-at.invariant.later c.turn.ensures.later

pub returns-in_err-turn-clause-passed : goal.returns-in_err-turn-clause-passed
returns-in_err-turn-clause-passed g c = passed_later c.loop-at.at (lists c.loop-at.tracks) (lists c.turn.new.tracks) c.turn.ensures.later c.loop-at.invariant.passed

pub returns-then-branch-clause-later : goal.returns-then-branch-clause-later
returns-then-branch-clause-later g c = all_later_on (lists c.args.tracks.now) (lists c.loop-at.tracks) (lists c.turn.new.tracks) c.loop-at.invariant.later c.turn.ensures.later

pub returns-then-branch-clause-passed : goal.returns-then-branch-clause-passed
returns-then-branch-clause-passed g c = passed_later c.loop-at.at (lists c.loop-at.tracks) (lists c.turn.new.tracks) c.turn.ensures.later c.loop-at.invariant.passed

pub returns-then-branch-clause-taken : goal.returns-then-branch-clause-taken
returns-then-branch-clause-taken g c had order =
    let F = g.F.Feed in
    let v = c.loop-at.invariant in
    let old = lists c.args.tracks.now in
    let ts = lists c.loop-at.tracks in
    let us = lists c.turn.new.tracks in
    let small : c.loop-at.at < length ts = omega (arith, length-map c.loop-at.tracks.items (λ t. t.items), c.loop-at-test.true) in
    let back = c.args.back in
    let points = F.points c.loop-at.feed in
    let after = F.points c.turn.new.feed in
    subst (λ (ls : List Line). IsTaken true c.turn.new.row ls (select_rows back after us)) (sym (v.rows had order))
    (step_true back (F.can c.loop-at.feed) points after c.loop-at.at c.in_ok-turn.field-0 c.turn.new.row ts us small (all_apart_later old ts v.later c.requires.apart)
    c.in_ok-turn.ensures.turned c.in_ok-turn.ensures.others c.if-branch.true v.passed (had_later (F.can c.args.feed.now) (F.can c.loop-at.feed) old ts v.later (λ s. (v.can s).1) had) (v.order had order))

pub returns-then-branch-clause-order : goal.returns-then-branch-clause-order
returns-then-branch-clause-order g c had order =
    let F = g.F.Feed in
    let v = c.loop-at.invariant in
    let old = lists c.args.tracks.now in
    let ts = lists c.loop-at.tracks in
    let small : c.loop-at.at < length ts = omega (arith, length-map c.loop-at.tracks.items (λ t. t.items), c.loop-at-test.true) in
    step_order c.args.back (F.can c.loop-at.feed) (F.points c.loop-at.feed) (F.points c.turn.new.feed) c.loop-at.at c.in_ok-turn.field-0 c.turn.new.row ts (lists c.turn.new.tracks) small
    (all_apart_later old ts v.later c.requires.apart) c.in_ok-turn.ensures.turned c.in_ok-turn.ensures.others
    (had_later (F.can c.args.feed.now) (F.can c.loop-at.feed) old ts v.later (λ s. (v.can s).1) had) (v.order had order)

pub loop-at-preserved : goal.loop-at-preserved
loop-at-preserved g c =
    let F = g.F.Feed in
    let v = c.loop-at.invariant in
    let old = lists c.args.tracks.now in
    let ts = lists c.loop-at.tracks in
    let us = lists c.turn.new.tracks in
    let small : c.loop-at.at < length ts = omega (arith, length-map c.loop-at.tracks.items (λ t. t.items), c.loop-at-test.true) in
    let ok = c.in_ok-turn.ensures in
    let apart = all_apart_later old ts v.later c.requires.apart in
    record {
      later = all_later_on old ts us v.later c.turn.ensures.later;
      rows = λ had order. v.rows had order
          ∙ step_false c.args.back (F.can c.loop-at.feed) (F.points c.loop-at.feed) (F.points c.turn.new.feed) c.loop-at.at c.in_ok-turn.field-0 c.turn.new.row ts us small apart ok.turned ok.others c.if-branch.false
          (had_later (F.can c.args.feed.now) (F.can c.loop-at.feed) old ts v.later (λ s. (v.can s).1) had) (v.order had order);
      order = λ had order.
          step_order c.args.back (F.can c.loop-at.feed) (F.points c.loop-at.feed) (F.points c.turn.new.feed) c.loop-at.at c.in_ok-turn.field-0 c.turn.new.row ts us small apart ok.turned ok.others
          (had_later (F.can c.args.feed.now) (F.can c.loop-at.feed) old ts v.later (λ s. (v.can s).1) had) (v.order had order);
      passed = step_passed c.args.back (F.can c.loop-at.feed) (F.points c.loop-at.feed) (F.points c.turn.new.feed) c.loop-at.at c.in_ok-turn.field-0 c.turn.new.row ts us small apart ok.turned ok.others c.if-branch.false ok.later v.passed;
      can = λ s. (λ h. (v.can s).0 ((ok.can s).0 h), λ h. (ok.can s).1 ((v.can s).1 h));
      moves = moves_on F.asked F.count F.bound F.faults F.damaged c.args.feed.now c.loop-at.feed c.turn.new.feed v.moves ok.moves;
    }

pub returns-clause-taken : goal.returns-clause-taken
returns-clause-taken g c had order =
    let F = g.F.Feed in
    let v = c.loop-at.invariant in
    let ts = lists c.loop-at.tracks in
    let done : length ts ≤ c.loop-at.at = omega (arith, length-map c.loop-at.tracks.items (λ t. t.items), c.loop-at-test.false) in
    let none : select_rows c.args.back (F.points c.loop-at.feed) ts ≡ [] = all_ended c.args.back (F.points c.loop-at.feed) 0 ts (λ k less. v.passed k (omega (arith, less, done))) in
    (v.rows had order ∙ none, none)

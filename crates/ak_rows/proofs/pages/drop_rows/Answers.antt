use Rattle.std.proofs.Common.{◌≡◌, ◌∙◌, ◌<◌, ◌^◌, ℕ, length, refl, sym, subst, arith}
use Rattle.ak_rows.specs.Starts.{lists}
use Rattle.ak_rows.specs.Tracks.{AreAllReady, select_rows}
use Rattle.ak_rows.proofs.AllTracks.{all_later_same, all_later_on}
use Rattle.ak_rows.proofs.Moving.{moves_not, moves_on}
use Rattle.ak_rows.proofs.Paging.{dropped_more, dropped_all}
use Rattle.ak_rows.proofs.Turning.{all_later_length, all_each_later, all_apart_later, had_later}
use Rattle.ak_rows.proofs.pages.drop_rows.Goals as goal

pub loop-skip-init : goal.loop-skip-init
loop-skip-init g c =
    let F = g.F.Feed in
    record {
      later = all_later_same (lists c.args.tracks.now);
      rows = λ had order. refl;
      order = λ had order. order;
      passed = c.requires.passed;
      can = λ s. (λ h. h, λ h. h);
      moves = moves_not F.asked F.count F.bound F.faults F.damaged c.args.feed.now;
    }

pub next_by_series-requires-clause-few : goal.next_by_series-requires-clause-few
next_by_series-requires-clause-few g c = subst (λ (n : ℕ). n < 2 ^ 32) (sym (all_later_length (lists c.args.tracks.now) (lists c.loop-skip.tracks) c.loop-skip.invariant.later)) c.requires.few

pub next_by_series-requires-clause-ready : goal.next_by_series-requires-clause-ready
next_by_series-requires-clause-ready g c =
    let F = g.F.Feed in
    let v = c.loop-skip.invariant in
    subst (λ (n : ℕ). AreAllReady n (lists c.loop-skip.tracks)) (sym v.moves.count_same)
    (all_each_later (λ s. s < F.count c.args.feed.now) (lists c.args.tracks.now) (lists c.loop-skip.tracks) v.later c.requires.ready)

pub next_by_series-requires-clause-apart : goal.next_by_series-requires-clause-apart
next_by_series-requires-clause-apart g c = all_apart_later (lists c.args.tracks.now) (lists c.loop-skip.tracks) c.loop-skip.invariant.later c.requires.apart

pub returns-in_err-next_by_series-clause-later : goal.returns-in_err-next_by_series-clause-later
returns-in_err-next_by_series-clause-later g c = all_later_on (lists c.args.tracks.now) (lists c.loop-skip.tracks) (lists c.next_by_series.new.tracks) c.loop-skip.invariant.later c.next_by_series.ensures.later

pub returns-then-not-branch-clause-later : goal.returns-then-not-branch-clause-later
returns-then-not-branch-clause-later g c = all_later_on (lists c.args.tracks.now) (lists c.loop-skip.tracks) (lists c.next_by_series.new.tracks) c.loop-skip.invariant.later c.next_by_series.ensures.later

pub returns-then-not-branch-clause-dropped : goal.returns-then-not-branch-clause-dropped
returns-then-not-branch-clause-dropped g c had order =
    let F = g.F.Feed in
    let v = c.loop-skip.invariant in
    let old = lists c.args.tracks.now in
    let ts = lists c.loop-skip.tracks in
    let back = c.args.back in
    dropped_all c.args.skip.now c.loop-skip.skip c.loop-skip.skip c.in_ok-next_by_series.field-0 c.next_by_series.new.row
    (select_rows back (F.points c.args.feed.now) old) (select_rows back (F.points c.loop-skip.feed) ts) (select_rows back (F.points c.next_by_series.new.feed) (lists c.next_by_series.new.tracks))
    (v.rows had order) c.if-not-branch.true
    (c.in_ok-next_by_series.ensures.taken (had_later (F.can c.args.feed.now) (F.can c.loop-skip.feed) old ts v.later (λ s. (v.can s).1) had) (v.order had order))

pub returns-then-not-branch-clause-order : goal.returns-then-not-branch-clause-order
returns-then-not-branch-clause-order g c had order =
    let F = g.F.Feed in
    let v = c.loop-skip.invariant in
    c.in_ok-next_by_series.ensures.order (had_later (F.can c.args.feed.now) (F.can c.loop-skip.feed) (lists c.args.tracks.now) (lists c.loop-skip.tracks) v.later (λ s. (v.can s).1) had) (v.order had order)

pub loop-skip-preserved : goal.loop-skip-preserved
loop-skip-preserved g c =
    let F = g.F.Feed in
    let v = c.loop-skip.invariant in
    let old = lists c.args.tracks.now in
    let ts = lists c.loop-skip.tracks in
    let us = lists c.next_by_series.new.tracks in
    let back = c.args.back in
    let ok = c.in_ok-next_by_series.ensures in
    record {
      later = all_later_on old ts us v.later ok.later;
      rows = λ had order. v.rows had order
          ∙ dropped_more c.loop-skip.skip c.in_ok-next_by_series.field-0 c.next_by_series.new.row (select_rows back (F.points c.loop-skip.feed) ts) (select_rows back (F.points c.next_by_series.new.feed) us)
          c.loop-skip-test.true c.if-not-branch.false
          (ok.taken (had_later (F.can c.args.feed.now) (F.can c.loop-skip.feed) old ts v.later (λ s. (v.can s).1) had) (v.order had order));
      order = λ had order. ok.order (had_later (F.can c.args.feed.now) (F.can c.loop-skip.feed) old ts v.later (λ s. (v.can s).1) had) (v.order had order);
      passed = ok.passed;
      can = λ s. (λ h. (v.can s).0 ((ok.can s).0 h), λ h. (ok.can s).1 ((v.can s).1 h));
      moves = moves_on F.asked F.count F.bound F.faults F.damaged c.args.feed.now c.loop-skip.feed c.next_by_series.new.feed v.moves ok.moves;
    }

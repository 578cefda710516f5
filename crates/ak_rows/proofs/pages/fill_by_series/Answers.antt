use Rattle.std.proofs.Common.{◌≡◌, ◌∙◌, ◌<◌, ◌^◌, ℕ, Bool, true, false, List, length, refl, sym, subst, arith}
use Rattle.ak_rows.specs.Starts.{lists}
use Rattle.ak_rows.specs.Tracks.{AreAllReady, select_rows}
use Rattle.ak_rows.proofs.AllTracks.{all_later_same, all_later_on}
use Rattle.ak_rows.proofs.Paging.{page_ended, page_none, page_next}
use Rattle.ak_rows.proofs.Turning.{all_later_length, all_each_later, all_apart_later, had_later}
use Rattle.ak_rows.proofs.pages.fill_by_series.Goals as goal

pub returns-then-is_full-clause-later : goal.returns-then-is_full-clause-later
returns-then-is_full-clause-later g c = all_later_same (lists c.args.tracks.now)

pub returns-then-not-branch-clause-given : goal.returns-then-not-branch-clause-given
returns-then-not-branch-clause-given g c had order =
    let F = g.F.Feed in
    let back = c.args.back in
    page_ended c.in_ok-drop_rows.field-0 c.drop_rows.new.row c.args.page.now.skip c.drop_rows.new.skip c.args.page.now.keep
    (select_rows back (F.points c.args.feed.now) (lists c.args.tracks.now)) (select_rows back (F.points c.drop_rows.new.feed) (lists c.drop_rows.new.tracks)) c.if-not-branch.true
    (c.in_ok-drop_rows.ensures.dropped had order)

pub next_by_series-requires-clause-few : goal.next_by_series-requires-clause-few
next_by_series-requires-clause-few g c = subst (λ (n : ℕ). n < 2 ^ 32) (sym (all_later_length (lists c.args.tracks.now) (lists c.drop_rows.new.tracks) c.drop_rows.ensures.later)) c.requires.few

pub next_by_series-requires-clause-ready : goal.next_by_series-requires-clause-ready
next_by_series-requires-clause-ready g c =
    let F = g.F.Feed in
    subst (λ (n : ℕ). AreAllReady n (lists c.drop_rows.new.tracks)) (sym c.drop_rows.ensures.moves.count_same)
    (all_each_later (λ s. s < F.count c.args.feed.now) (lists c.args.tracks.now) (lists c.drop_rows.new.tracks) c.drop_rows.ensures.later c.requires.ready)

pub next_by_series-requires-clause-apart : goal.next_by_series-requires-clause-apart
next_by_series-requires-clause-apart g c = all_apart_later (lists c.args.tracks.now) (lists c.drop_rows.new.tracks) c.drop_rows.ensures.later c.requires.apart

pub returns-in_err-got-clause-later : goal.returns-in_err-got-clause-later
returns-in_err-got-clause-later g c = all_later_on (lists c.args.tracks.now) (lists c.drop_rows.new.tracks) (lists c.next_by_series.new.tracks) c.drop_rows.ensures.later c.next_by_series.ensures.later

pub returns-then-got-clause-later : goal.returns-then-got-clause-later
returns-then-got-clause-later g c = all_later_on (lists c.args.tracks.now) (lists c.drop_rows.new.tracks) (lists c.next_by_series.new.tracks) c.drop_rows.ensures.later c.next_by_series.ensures.later

pub returns-else-got-clause-later : goal.returns-else-got-clause-later
returns-else-got-clause-later g c = all_later_on (lists c.args.tracks.now) (lists c.drop_rows.new.tracks) (lists c.next_by_series.new.tracks) c.drop_rows.ensures.later c.next_by_series.ensures.later

pub returns-then-got-clause-order : goal.returns-then-got-clause-order
returns-then-got-clause-order g c had order =
    let F = g.F.Feed in
    c.in_ok-got.ensures.order (had_later (F.can c.args.feed.now) (F.can c.drop_rows.new.feed) (lists c.args.tracks.now) (lists c.drop_rows.new.tracks) c.drop_rows.ensures.later (λ s. (c.in_ok-drop_rows.ensures.can s).1) had) (c.in_ok-drop_rows.ensures.order had order)

pub returns-else-got-clause-order : goal.returns-else-got-clause-order
returns-else-got-clause-order g c had order =
    let F = g.F.Feed in
    c.in_ok-got.ensures.order (had_later (F.can c.args.feed.now) (F.can c.drop_rows.new.feed) (lists c.args.tracks.now) (lists c.drop_rows.new.tracks) c.drop_rows.ensures.later (λ s. (c.in_ok-drop_rows.ensures.can s).1) had) (c.in_ok-drop_rows.ensures.order had order)

pub returns-then-got-clause-given : goal.returns-then-got-clause-given
returns-then-got-clause-given g c had order =
    let F = g.F.Feed in
    let back = c.args.back in
    page_next c.in_ok-drop_rows.field-0 c.in_ok-got.got c.next_by_series.new.row c.args.page.now.skip c.drop_rows.new.skip c.count.new.self.skip c.args.page.now.keep c.count.new.self.keep
    (select_rows back (F.points c.args.feed.now) (lists c.args.tracks.now)) (select_rows back (F.points c.drop_rows.new.feed) (lists c.drop_rows.new.tracks)) (select_rows back (F.points c.next_by_series.new.feed) (lists c.next_by_series.new.tracks))
    c.if-not-branch.false (c.in_ok-drop_rows.ensures.dropped had order) c.if-got.true (c.in_ok-got.ensures.taken (had_later (F.can c.args.feed.now) (F.can c.drop_rows.new.feed) (lists c.args.tracks.now) (lists c.drop_rows.new.tracks) c.drop_rows.ensures.later (λ s. (c.in_ok-drop_rows.ensures.can s).1) had) (c.in_ok-drop_rows.ensures.order had order))
    (sym c.is_full.ensures ∙ c.if-is_full.false) c.count.ensures.skip c.count.ensures.keep

pub returns-else-got-clause-given : goal.returns-else-got-clause-given
returns-else-got-clause-given g c had order =
    let F = g.F.Feed in
    let back = c.args.back in
    page_none c.in_ok-drop_rows.field-0 c.in_ok-got.got c.next_by_series.new.row c.args.page.now.skip c.drop_rows.new.skip c.args.page.now.keep
    (select_rows back (F.points c.args.feed.now) (lists c.args.tracks.now)) (select_rows back (F.points c.drop_rows.new.feed) (lists c.drop_rows.new.tracks)) (select_rows back (F.points c.next_by_series.new.feed) (lists c.next_by_series.new.tracks))
    c.if-not-branch.false (c.in_ok-drop_rows.ensures.dropped had order) c.if-got.false (c.in_ok-got.ensures.taken (had_later (F.can c.args.feed.now) (F.can c.drop_rows.new.feed) (lists c.args.tracks.now) (lists c.drop_rows.new.tracks) c.drop_rows.ensures.later (λ s. (c.in_ok-drop_rows.ensures.can s).1) had) (c.in_ok-drop_rows.ensures.order had order))

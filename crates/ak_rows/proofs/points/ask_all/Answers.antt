use Rattle.std.proofs.Common.{◌≡◌, ◌≢◌, ℕ, ◌<◌, ◌∙◌, ap, ap₂, sym, refl, subst, map, length, List, take, get_or, set, arith, rules}
use Rattle.std.specs.List.{AllByRecursion}
use Rattle.std.proofs.lemmas.List.{take_more_set}
use Rattle.ak_rows.specs.Ahead.{lane_points, IsReady, IsHad, AreLater, no_lane}
use Rattle.ak_rows.specs.declared.points.Head.TheVariants.{Unasked, Ended}
use Rattle.ak_rows.proofs.Lanes.{later_same, later_on, later_asked, apart_later, each_later, all_at, keeps_asked, others_asked, each_push}
use Rattle.ak_rows.proofs.Moving.{moves_not, moves_on}
use Rattle.ak_rows.proofs.points.ask_all.Goals as goal

pub loop-i-init : goal.loop-i-init
loop-i-init g c =
    let F = g.F.Feed in
    (refl, later_same c.args.lanes.now, tt, λ _. refl, λ s _. refl, λ s. (λ h. h, λ h. h), moves_not F.asked F.count F.bound F.faults F.damaged c.args.feed.now)

pub ask-requires : goal.ask-requires
ask-requires g c =
    let F = g.F.Feed in
    let v = c.loop-i.invariant in
    let small : c.loop-i.i < length c.loop-i.lanes = omega (arith, c.loop-i.auto.lanes, c.loop-i-test.true) in
    let all = each_later (λ s. s < F.count c.args.feed.now) c.args.lanes.now c.loop-i.lanes v.1 c.requires.ready in
    λ on. subst (λ n. (get_or c.loop-i.lanes c.loop-i.i no_lane).series < n) (sym v.6.count_same)
    (all_at (IsReady (F.count c.args.feed.now)) c.loop-i.lanes c.loop-i.i small all on)

pub returns-in_err-ask-clause-later : goal.returns-in_err-ask-clause-later
returns-in_err-ask-clause-later g c =
    let v = c.loop-i.invariant in
    let small : c.loop-i.i < length c.loop-i.lanes = omega (arith, c.loop-i.auto.lanes, c.loop-i-test.true) in
    later_on c.args.lanes.now c.loop-i.lanes (set c.loop-i.lanes c.loop-i.i c.ask.new.self) v.1
    (later_asked c.loop-i.lanes c.loop-i.i c.ask.new.self small c.ask.ensures.series c.ask.ensures.same)

pub returns-in_err-ask-clause-others : goal.returns-in_err-ask-clause-others
returns-in_err-ask-clause-others g c s all =
    let F = g.F.Feed in
    let v = c.loop-i.invariant in
    let small : c.loop-i.i < length c.loop-i.lanes = omega (arith, c.loop-i.auto.lanes, c.loop-i-test.true) in
    others_asked (F.points c.loop-i.feed) (F.points c.ask.new.feed) c.loop-i.lanes c.loop-i.i s small
    (λ known t. ap (λ f. F.points f t) (c.ask.ensures.same_feed known)) c.ask.ensures.others
    (each_later (λ n. n ≢ s) c.args.lanes.now c.loop-i.lanes v.1 all)
    ∙ v.4 s all

pub loop-i-preserved : goal.loop-i-preserved
loop-i-preserved g c =
    let F = g.F.Feed in
    let v = c.loop-i.invariant in
    let ls = c.loop-i.lanes in
    let i = c.loop-i.i in
    let l = c.ask.new.self in
    let small : i < length ls = omega (arith, c.loop-i.auto.lanes, c.loop-i-test.true) in
    let ok = c.in_ok-ask.ensures in
    let apart = apart_later c.args.lanes.now ls v.1 c.requires.apart in (
      refl,
      later_on c.args.lanes.now ls (set ls i l) v.1 (later_asked ls i l small ok.series ok.same),
      subst (AllByRecursion (λ m. m.head ≢ Unasked)) (sym (take_more_set ls i l small)) (each_push (λ m. m.head ≢ Unasked) (take i ls) l v.2 ok.known),
      (λ had.
          let here = each_later (F.can c.args.feed.now) c.args.lanes.now ls v.1 had in
          keeps_asked (F.points c.loop-i.feed) (F.points c.ask.new.feed) ls i l small apart
          (ok.ahead (λ on. (v.5 (get_or ls i no_lane).series).1 (all_at (IsHad (F.can c.args.feed.now)) ls i small here on))) ok.same
          (λ known t. ap (λ f. F.points f t) (ok.same_feed known)) ok.others
          ∙ v.3 had),
      (λ s all. others_asked (F.points c.loop-i.feed) (F.points c.ask.new.feed) ls i s small
          (λ known t. ap (λ f. F.points f t) (ok.same_feed known)) ok.others
          (each_later (λ n. n ≢ s) c.args.lanes.now ls v.1 all) ∙ v.4 s all),
      (λ s. (λ h. (v.5 s).0 ((ok.can s).0 h), λ h. (ok.can s).1 ((v.5 s).1 h))),
      moves_on F.asked F.count F.bound F.faults F.damaged c.args.feed.now c.loop-i.feed c.ask.new.feed v.6 ok.moves,
    )

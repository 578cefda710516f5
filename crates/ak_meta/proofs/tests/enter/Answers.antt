use Rattle.std.proofs.Common.{rules, ◌≡◌, ◌∙◌, ◌<◌, ◌-◌, ◌+◌, ◌^◌, ℕ, List, length, get_or, sym, ap, subst, arith}
use Rattle.ak_levels.specs.Carries.{carry_of}
use Rattle.ak_volumes.specs.Ordinals.{Ordinals}
use Rattle.ak_meta.specs.declared.meta.SeriesMeta.{SeriesMeta}
use Rattle.ak_meta.specs.Contents.{Content, IsMeta, leaves_of, room_of}
use Rattle.ak_meta.specs.Leaves.{leaves_at, IsEntered}
use Rattle.ak_meta.proofs.Closing.{leaves_there}
use Rattle.ak_meta.proofs.Lawful.{close_lawful}
use Rattle.ak_meta.proofs.tests.enter.Goals as goal

-- the group has a block for the leaf and one for each node
with_nodes : (o : Ordinals) (old new : List SeriesMeta) (n a nodes : ℕ) (s : SeriesMeta) → n < length old → old ≡ new → nodes ≡ carry_of (get_or old n s).leaves → IsEntered o a (1 + nodes - 1) → IsEntered o a (carry_of (leaves_at new n))
with_nodes o old new n a nodes s known same count entered =
    let is : nodes ≡ carry_of (leaves_at new n) = count ∙ ap carry_of (sym (leaves_there old n s known)) ∙ ap (λ (l : List SeriesMeta). carry_of (leaves_at l n)) same in
    let rest : 1 + nodes - 1 ≡ carry_of (leaves_at new n) = omega (arith, is) in
    subst (λ (k : ℕ). IsEntered o a k) rest entered

pub closed-requires-clause-entered : goal.closed-requires-clause-entered
closed-requires-clause-entered c =
    let new : Content = c.fill.new.meta in
    let old : List SeriesMeta = c.series-2.result.now in
    let same : old ≡ new.series = search rules in
    let known : c.args.series < length old = search rules in
    with_nodes new.ordinals old new.series c.args.series c.in_ok-at.at.0 c.levels-nodes.result c.index-series-series.result known same c.levels-nodes.ensures.count c.in_ok-at.ensures.entered

pub returns : goal.returns
returns c =
    let new : Content = c.fill.new.meta in
    let old : List SeriesMeta = c.series-2.result.now in
    let same : old ≡ new.series = search rules in
    let known : c.args.series < length old = search rules in
    let there : c.args.series < length new.series = subst (λ (l : List SeriesMeta). c.args.series < length l) same known in
    let entered = with_nodes new.ordinals old new.series c.args.series c.in_ok-at.at.0 c.levels-nodes.result c.index-series-series.result known same c.levels-nodes.ensures.count c.in_ok-at.ensures.entered in
    let room : leaves_of new.series < room_of new.ordinals = c.in_ok-at.ensures.room in
    let time : c.args.last < 2 ^ 64 = search rules in
    let small : c.in_ok-at.at.0 < 2 ^ 64 = search rules in
    subst IsMeta (sym c.closed.ensures) (close_lawful new c.args.series c.args.last c.in_ok-at.at.0 c.fill.ensures.rules there time small entered room)

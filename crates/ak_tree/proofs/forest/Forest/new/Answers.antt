use Rattle.std.proofs.Common.{◌≡◌, ◌∙◌, [], length, sym, ap, subst, arith}
use Rattle.ak_base.specs.declared.limits.Limits.{Limits}
use Rattle.ak_pool.specs.Frames.{Frames, frames_of}
use Rattle.ak_tree.specs.Standing.{trees, AreTrees, Keeps}
use Rattle.ak_tree.proofs.AddingSeries.{AreFree, trees_new, keeps_new}
use Rattle.ak_world.specs.Worlds.{world_of}
use Rattle.ak_tree.proofs.forest.Forest.new.Goals as goal

pool_is : (c : goal.In_ok-pool) → c.in_ok-pool.pool ≡ frames_of c.args.meta.limits.pool []
pool_is c =
    let same : c.limits.result ≡ c.args.meta.limits = c.limits.ensures in
    c.in_ok-pool.ensures ∙ ap (λ (l : Limits). frames_of l.pool []) same

free : (c : goal.In_ok-pool) → AreFree c.loop.frames.items (length c.args.meta.series)
free c =
    let long : length c.series-count.result.now ≡ length c.args.meta.series = ap (λ l. length l) c.series-count.ensures in
    let count : c.loop.counter ≡ length c.args.meta.series = omega (arith, c.loop-test.false, c.loop.auto.counter-end, long) in
    subst (AreFree c.loop.frames.items) count c.loop.invariant

pub invariant_of-result : goal.invariant_of-result
invariant_of-result c =
    subst (λ (pool : Frames). AreTrees (trees c.args.meta pool c.loop.frames.items c.args.levels c.args.check 0)) (sym (pool_is c))
    (trees_new c.args.meta c.loop.frames.items c.args.levels c.args.check c.requires.rules c.requires.room c.requires.slot c.requires.lawful (free c))

pub returns-clause-keeps : goal.returns-clause-keeps
returns-clause-keeps c view same number may =
    subst (λ (pool : Frames). Keeps (world_of view) (trees c.args.meta pool c.loop.frames.items c.args.levels c.args.check 0)) (sym (pool_is c))
    (keeps_new c.args.meta c.args.meta.limits.pool c.loop.frames.items c.args.levels c.args.check view c.requires.rules same number may)

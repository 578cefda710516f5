use Rattle.std.proofs.Common.{◌≡◌, ◌≢◌, ◌∙◌, ◌≤◌, List, [], ◌∷◌, ◌++◌, length, get_or, Some, None, refl, sym, ap, subst, arith, length-append}
use Rattle.ak_base.specs.declared.point.Point.{Point}
use Rattle.ak_leaf.specs.Spelling.{leaf_size}
use Rattle.ak_pool.proofs.Theirs.{lent_used_from}
use Rattle.ak_pool.specs.Frames.{Used, Frames, frames_of, AreFrames, leaf_of, with_leaf, moved_first}
use Rattle.ak_tree.specs.Standing.{Trees, trees, AreTrees}
use Rattle.ak_tree.proofs.Pooling.{own_leaf, trees_written}
use Rattle.ak_tree.proofs.forest.Forest.extend.Goals as goal

same : (c : goal.Then-not-push) → with_leaf c.self.inside.pool.used c.args.frame.0 c.push.new.self ≡ c.self.inside.pool.used
same c =
    let is : get_or c.self.inside.frames.items c.args.series None ≡ Some c.args.frame = subst (λ (t : Trees). get_or t.frames c.args.series None ≡ Some c.args.frame) (sym c.self.view_is) c.requires.framed in
    let kept : c.push.new.self ≡ leaf_of c.self.inside.pool.used c.args.frame.0 = c.if-not-push.ensures.full refl ∙ c.leaf_mut.ensures.value in
    ap (with_leaf c.self.inside.pool.used c.args.frame.0) kept ∙ own_leaf c.self.inside.pool c.self.inside.frames.items (length c.self.inside.meta.series) c.args.series c.args.frame c.self.invariant.pooled is

pub invariant_of-self : goal.invariant_of-self
invariant_of-self c =
    subst (λ (us : List Used). AreTrees (trees c.self.inside.meta (frames_of c.self.inside.pool.count us) c.self.inside.frames.items c.self.inside.levels c.self.inside.check c.self.inside.since)) (sym (same c)) c.self.invariant

pub returns-then-not-push-clause-full : goal.returns-then-not-push-clause-full
returns-then-not-push-clause-full c _ =
    ap (λ (us : List Used). trees c.self.inside.meta (frames_of c.self.inside.pool.count us) c.self.inside.frames.items c.self.inside.levels c.self.inside.check c.self.inside.since) (same c) ∙ c.self.view_is

pub touch-requires : goal.touch-requires
touch-requires c =
    let is : get_or c.self.inside.frames.items c.args.series None ≡ Some c.args.frame = subst (λ (t : Trees). get_or t.frames c.args.series None ≡ Some c.args.frame) (sym c.self.view_is) c.requires.framed in
    lent_used_from c.self.inside.pool.used c.args.frame.0 c.args.frame.0 c.push.new.self (c.self.invariant.pooled.framed c.args.series c.args.frame is).0

pub invariant_of-self-2 : goal.invariant_of-self-2
invariant_of-self-2 c =
    let f : Trees = trees c.self.inside.meta c.self.inside.pool c.self.inside.frames.items c.self.inside.levels c.self.inside.check c.self.inside.since in
    let is : get_or f.frames c.args.series None ≡ Some c.args.frame = subst (λ (t : Trees). get_or t.frames c.args.series None ≡ Some c.args.frame) (sym c.self.view_is) c.requires.framed in
    let pushed : c.push.new.self ≡ leaf_of f.pool.used c.args.frame.0 ++ c.args.p ∷ [] = c.if-not-push.ensures.pushed refl ∙ ap (λ (ps : List Point). ps ++ c.args.p ∷ []) c.leaf_mut.ensures.value in
    let fits : leaf_size c.push.new.self ≤ 4032 = subst (λ (ps : List Point). leaf_size ps ≤ 4032) (sym (c.if-not-push.ensures.pushed refl)) (c.if-not-push.ensures.fits.0 refl) in
    let some : c.push.new.self ≢ [] = λ empty. omega (arith, ap (λ (ps : List Point). length ps) (sym pushed ∙ empty), length-append (leaf_of f.pool.used c.args.frame.0) (c.args.p ∷ [])) in
    let moved : c.touch.new.self ≡ frames_of f.pool.count (moved_first (with_leaf f.pool.used c.args.frame.0 c.push.new.self) c.args.frame.0) = c.touch.ensures.moved in
    subst (λ (pool : Frames). AreTrees (trees f.meta pool f.frames f.levels f.check f.since)) (sym moved)
    (trees_written f c.args.series c.args.frame c.push.new.self c.self.invariant is some fits (subst AreFrames moved c.touch.ensures.valid))

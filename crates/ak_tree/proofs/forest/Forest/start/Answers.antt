use Rattle.std.proofs.Common.{◌≡◌, ◌∙◌, ◌<◌, ◌≤◌, List, [], ◌∷◌, ◌++◌, length, get_or, slice_set, Some, None, refl, sym, ap, subst, arith}
use Rattle.ak_base.specs.declared.point.Point.{Point}
use Rattle.ak_leaf.proofs.Spellings.{spelling_most}
use Rattle.ak_leaf.specs.Spelling.{start, leaf_size}
use Rattle.ak_pool.specs.Frames.{Used, used_frame, Frames, frames_of, AreFrames, IsUsed, leaf_of, with_leaf}
use Rattle.ak_tree.specs.Standing.{Trees, trees, AreTrees}
use Rattle.ak_tree.proofs.Pooling.{leaf_here, with_first, trees_begun}
use Rattle.ak_tree.proofs.forest.Forest.start.Goals as goal

one_fits : (p : Point) → leaf_size (p ∷ []) ≤ 4032
one_fits p = omega (arith, spelling_most start (p ∷ []))

-- the leaf has the point alone
leaf_is : (c : goal.After-self-2-1) → c.push.new.self ≡ c.args.p ∷ []
leaf_is c =
    let us : List Used = c.self.inside.pool.used in
    let taken : c.take.new.self ≡ frames_of c.self.inside.pool.count (used_frame c.in-Some.frame.0 c.args.series [] ∷ us) = c.in-Some.ensures.taken in
    let empty : c.leaf_mut.result.now ≡ [] =
    c.leaf_mut.ensures.value ∙ ap (λ (pool : Frames). leaf_of pool.used c.in-Some.frame.0) taken ∙ leaf_here (used_frame c.in-Some.frame.0 c.args.series []) us c.in-Some.frame.0 refl in
    let fits : leaf_size (c.leaf_mut.result.now ++ c.args.p ∷ []) ≤ 4032 = subst (λ (ps : List Point). leaf_size (ps ++ c.args.p ∷ []) ≤ 4032) (sym empty) (one_fits c.args.p) in
    c.push.ensures.pushed (c.push.ensures.fits.1 fits) ∙ ap (λ (ps : List Point). ps ++ c.args.p ∷ []) empty

pool_is : (c : goal.After-self-2-1) → frames_of c.take.new.self.count (with_leaf c.take.new.self.used c.in-Some.frame.0 c.push.new.self)
    ≡ frames_of c.self.inside.pool.count (used_frame c.in-Some.frame.0 c.args.series (c.args.p ∷ []) ∷ c.self.inside.pool.used)
pool_is c =
    let us : List Used = c.self.inside.pool.used in
    let taken : c.take.new.self ≡ frames_of c.self.inside.pool.count (used_frame c.in-Some.frame.0 c.args.series [] ∷ us) = c.in-Some.ensures.taken in
    let unused : IsUsed us c.in-Some.frame.0 → ⊥ = c.in-Some.ensures.unused in
    ap (λ (pool : Frames). frames_of pool.count (with_leaf pool.used c.in-Some.frame.0 c.push.new.self)) taken
    ∙ ap (frames_of c.self.inside.pool.count) (with_first c.in-Some.frame.0 c.args.series [] c.push.new.self us unused)
    ∙ ap (λ (ps : List Point). frames_of c.self.inside.pool.count (used_frame c.in-Some.frame.0 c.args.series ps ∷ us)) (leaf_is c)

pub invariant_of-self-2 : goal.invariant_of-self-2
invariant_of-self-2 c =
    let f : Trees = trees c.self.inside.meta c.self.inside.pool c.self.inside.frames.items c.self.inside.levels c.self.inside.check c.self.inside.since in
    let known : c.args.series < length f.meta.series = subst (λ (t : Trees). c.args.series < length t.meta.series) (sym c.self.view_is) c.requires.known in
    let none : get_or f.frames c.args.series None ≡ None = subst (λ (t : Trees). get_or t.frames c.args.series None ≡ None) (sym c.self.view_is) c.requires.none in
    let unused : IsUsed f.pool.used c.in-Some.frame.0 → ⊥ = c.in-Some.ensures.unused in
    let valid : AreFrames (frames_of f.pool.count (used_frame c.in-Some.frame.0 c.args.series [] ∷ f.pool.used)) = subst AreFrames c.in-Some.ensures.taken c.in-Some.ensures.valid in
    let now : AreFrames (frames_of f.pool.count (used_frame c.in-Some.frame.0 c.args.series (c.args.p ∷ []) ∷ f.pool.used)) = record { numbered = valid.numbered; most = valid.most } in
    subst (λ (pool : Frames). AreTrees (trees f.meta pool (slice_set f.frames c.args.series (Some c.in-Some.frame)) f.levels f.check f.since)) (sym (pool_is c))
    (trees_begun f c.args.series c.in-Some.frame (c.args.p ∷ []) c.self.invariant known none unused (λ e. cc) (one_fits c.args.p) now)

pub returns-clause-started : goal.returns-clause-started
returns-clause-started c _ = (
  c.in-Some.frame,
  ap (λ (pool : Frames). trees c.self.inside.meta pool (slice_set c.self.inside.frames.items c.args.series (Some c.in-Some.frame)) c.self.inside.levels c.self.inside.check c.self.inside.since) (pool_is c)
      ∙ ap (λ (t : Trees). trees t.meta (frames_of t.pool.count (used_frame c.in-Some.frame.0 c.args.series (c.args.p ∷ []) ∷ t.pool.used)) (slice_set t.frames c.args.series (Some c.in-Some.frame)) t.levels t.check t.since) c.self.view_is,
)

use Rattle.std.proofs.Common.{◌≡◌, ◌<◌, ◌∙◌, [], ◌∷◌, ◌++◌, OnOk, length, ap, refl, subst, sym, arith, rules}
use Rattle.std.proofs.lemmas.Result.{on_ok_weaker}
use Rattle.std.specs.Prelude.{IsTrue, IsFalse, true, false}
use Rattle.ak_base.specs.Points.{IsPoint}
use Rattle.ak_host.specs.Moments.{DiskPasses}
use Rattle.ak_host.proofs.Passing.{disk_starts, disk_goes_on}
use Rattle.ak_leaf.specs.Spelling.{leaf_size}
use Rattle.ak_pool.specs.Frames.{leaf_of}
use Rattle.ak_tree.specs.Standing.{Trees, AreTrees, Holds, KeepsWorn, last_known}
use Rattle.ak_tree.specs.Stops.{IsWornBy, OnWorn}
use Rattle.ak_world.specs.Worlds.{World}
use Rattle.ak_world.specs.Steps.{added}
use Rattle.ak_tree.proofs.Appended.{begun, Below, IsFitted, OpensFor, own_opens, closed_leaf_none, not_fits, is_false, fit_accepted, fit_passes, extended_holds, extended_last, full_stays, full_leaves, full_fitted, none_fitted, fitted_worn, fitted_passes, fitted_is, viewed_passes}
use Rattle.ak_tree.proofs.Closed.{framed_is, framed_none}
use Rattle.ak_tree.proofs.Telling.{worn_from, memory_weaker, memory_from}
use Rattle.ak_tree.proofs.Worn.{begun_left, own_left}
use Rattle.ak_tree.specs.Later.{KeepsOrigins}
use Rattle.ak_tree.proofs.Becoming.{origins_it}
use Rattle.ak_tree.proofs.forest.Forest.append.Goals.{in-Some+else-extend+in_ok-close_leaf, in_default}
use Rattle.ak_tree.proofs.forest.Forest.append.Goals as goal

pub returns-then-extend-clause-last : goal.returns-then-extend-clause-last
returns-then-extend-clause-last g c m most below was =
    let n = c.args.series in
    let p = c.args.p in
    let f = c.args.self.now in
    let start = g.D.Outside.state c.args.disk.now in
    let yes : IsTrue true = search rules in
    let are : AreTrees f = subst AreTrees c.self.view_is c.self.invariant in
    let number : n < length f.frames = omega (arith, are.pooled.number, c.requires.known) in
    let framed = framed_is c.self.inside.frames.items f.frames n c.index.result.now c.in-Some.frame (ap (λ (t : Trees). t.frames) c.self.view_is) number c.index.ensures c.in-Some.is in
    let last = subst (λ (t : Trees). Below most (last_known t m)) (sym (c.if-extend.ensures.put yes)) (extended_last f n m most c.in-Some.frame p are.pooled framed below was) in
    on_ok_weaker c.view_in_time.result (λ same. subst (Below most) (sym same) last) (c.view_in_time.ensures.last m)

pub returns-then-extend-clause-worn : goal.returns-then-extend-clause-worn
returns-then-extend-clause-worn g c told w holds =
    let n = c.args.series in
    let p = c.args.p in
    let f = c.args.self.now in
    let start = g.D.Outside.state c.args.disk.now in
    let yes : IsTrue true = search rules in
    let are : AreTrees f = subst AreTrees c.self.view_is c.self.invariant in
    let number : n < length f.frames = omega (arith, are.pooled.number, c.requires.known) in
    let framed = framed_is c.self.inside.frames.items f.frames n c.index.result.now c.in-Some.frame (ap (λ (t : Trees). t.frames) c.self.view_is) number c.index.ensures c.in-Some.is in
    let point : IsPoint c.args.p = search rules in
    let is = fit_accepted w f n p c.in-Some.frame are holds.keeps framed (c.if-extend.ensures.fits.0 yes) in
    let more = extended_holds w f c.extend.new.self n p c.in-Some.frame start are holds c.requires.known framed point c.requires.not_late (c.if-extend.ensures.put yes) in
    subst (λ (v : World). OnWorn c.view_in_time.result (IsWornBy v)) (sym is) (c.view_in_time.ensures.worn told (added n p w) more)

pub returns-then-extend-clause-left : goal.returns-then-extend-clause-left
returns-then-extend-clause-left g c told w holds =
    let n = c.args.series in
    let p = c.args.p in
    let f = c.args.self.now in
    let start = g.D.Outside.state c.args.disk.now in
    let yes : IsTrue true = search rules in
    let are : AreTrees f = subst AreTrees c.self.view_is c.self.invariant in
    let number : n < length f.frames = omega (arith, are.pooled.number, c.requires.known) in
    let framed = framed_is c.self.inside.frames.items f.frames n c.index.result.now c.in-Some.frame (ap (λ (t : Trees). t.frames) c.self.view_is) number c.index.ensures c.in-Some.is in
    let point : IsPoint c.args.p = search rules in
    let is = fit_accepted w f n p c.in-Some.frame are holds.keeps framed (c.if-extend.ensures.fits.0 yes) in
    let more = extended_holds w f c.extend.new.self n p c.in-Some.frame start are holds c.requires.known framed point c.requires.not_late (c.if-extend.ensures.put yes) in
    subst (λ (v : World). OnWorn c.view_in_time.result (λ stop. KeepsWorn v c.view_in_time.new.self)) (sym is) (c.view_in_time.ensures.left told (added n p w) more)

pub returns-then-extend-clause-after : goal.returns-then-extend-clause-after
returns-then-extend-clause-after g c told w holds =
    let n = c.args.series in
    let p = c.args.p in
    let f = c.args.self.now in
    let start = g.D.Outside.state c.args.disk.now in
    let yes : IsTrue true = search rules in
    let are : AreTrees f = subst AreTrees c.self.view_is c.self.invariant in
    let number : n < length f.frames = omega (arith, are.pooled.number, c.requires.known) in
    let framed = framed_is c.self.inside.frames.items f.frames n c.index.result.now c.in-Some.frame (ap (λ (t : Trees). t.frames) c.self.view_is) number c.index.ensures c.in-Some.is in
    let point : IsPoint c.args.p = search rules in
    let is = fit_accepted w f n p c.in-Some.frame are holds.keeps framed (c.if-extend.ensures.fits.0 yes) in
    let more = extended_holds w f c.extend.new.self n p c.in-Some.frame start are holds c.requires.known framed point c.requires.not_late (c.if-extend.ensures.put yes) in
    subst (λ (v : World). OnOk c.view_in_time.result (Holds v c.view_in_time.new.self (g.D.Outside.state c.view_in_time.new.disk))) (sym is) (c.view_in_time.ensures.after told (added n p w) more)

pub returns-then-extend-clause-moments : goal.returns-then-extend-clause-moments
returns-then-extend-clause-moments g c told w holds =
    let n = c.args.series in
    let p = c.args.p in
    let f = c.args.self.now in
    let start = g.D.Outside.state c.args.disk.now in
    let yes : IsTrue true = search rules in
    let are : AreTrees f = subst AreTrees c.self.view_is c.self.invariant in
    let number : n < length f.frames = omega (arith, are.pooled.number, c.requires.known) in
    let framed = framed_is c.self.inside.frames.items f.frames n c.index.result.now c.in-Some.frame (ap (λ (t : Trees). t.frames) c.self.view_is) number c.index.ensures c.in-Some.is in
    let point : IsPoint c.args.p = search rules in
    let is = fit_accepted w f n p c.in-Some.frame are holds.keeps framed (c.if-extend.ensures.fits.0 yes) in
    let more = extended_holds w f c.extend.new.self n p c.in-Some.frame start are holds c.requires.known framed point c.requires.not_late (c.if-extend.ensures.put yes) in
    fit_passes w n p start (g.D.Outside.state c.view_in_time.new.disk) is (c.view_in_time.ensures.moments told (added n p w) more)

pub returns-in_err-close_leaf-clause-worn : goal.returns-in_err-close_leaf-clause-worn
returns-in_err-close_leaf-clause-worn g c told w holds =
    let n = c.args.series in
    let p = c.args.p in
    let f = c.args.self.now in
    let start = g.D.Outside.state c.args.disk.now in
    let are : AreTrees f = subst AreTrees c.self.view_is c.self.invariant in
    let number : n < length f.frames = omega (arith, are.pooled.number, c.requires.known) in
    let framed = framed_is c.self.inside.frames.items f.frames n c.index.result.now c.in-Some.frame (ap (λ (t : Trees). t.frames) c.self.view_is) number c.index.ensures c.in-Some.is in
    let no : IsFalse false = search rules in
    let full = not_fits (leaf_size (leaf_of f.pool.used c.in-Some.frame.0 ++ p ∷ [])) c.extend.result c.if-extend.false c.extend.ensures.fits.1 in
    let here = subst (λ (t : Trees). Holds w t start) (sym (c.if-extend.ensures.full no)) holds in
    worn_from c.from_residual.result c.in_err-close_leaf.field-0.0 c.from_residual.ensures.1 (λ s. full_stays w f n p c.in-Some.frame s are holds.keeps framed full) (c.in_err-close_leaf.ensures.worn told w here)

pub returns-in_err-close_leaf-clause-left : goal.returns-in_err-close_leaf-clause-left
returns-in_err-close_leaf-clause-left g c told w holds =
    let n = c.args.series in
    let p = c.args.p in
    let f = c.args.self.now in
    let start = g.D.Outside.state c.args.disk.now in
    let are : AreTrees f = subst AreTrees c.self.view_is c.self.invariant in
    let number : n < length f.frames = omega (arith, are.pooled.number, c.requires.known) in
    let framed = framed_is c.self.inside.frames.items f.frames n c.index.result.now c.in-Some.frame (ap (λ (t : Trees). t.frames) c.self.view_is) number c.index.ensures c.in-Some.is in
    let no : IsFalse false = search rules in
    let full = not_fits (leaf_size (leaf_of f.pool.used c.in-Some.frame.0 ++ p ∷ [])) c.extend.result c.if-extend.false c.extend.ensures.fits.1 in
    let here = subst (λ (t : Trees). Holds w t start) (sym (c.if-extend.ensures.full no)) holds in
    worn_from c.from_residual.result c.in_err-close_leaf.field-0.0 c.from_residual.ensures.1 (λ s. own_left w f c.close_leaf.new.self n p c.in-Some.frame are holds.keeps framed full) (c.in_err-close_leaf.ensures.left told w here)

pub returns-in_err-close_leaf-clause-moments : goal.returns-in_err-close_leaf-clause-moments
returns-in_err-close_leaf-clause-moments g c told w holds =
    let n = c.args.series in
    let p = c.args.p in
    let f = c.args.self.now in
    let start = g.D.Outside.state c.args.disk.now in
    let are : AreTrees f = subst AreTrees c.self.view_is c.self.invariant in
    let number : n < length f.frames = omega (arith, are.pooled.number, c.requires.known) in
    let framed = framed_is c.self.inside.frames.items f.frames n c.index.result.now c.in-Some.frame (ap (λ (t : Trees). t.frames) c.self.view_is) number c.index.ensures c.in-Some.is in
    let no : IsFalse false = search rules in
    let full = not_fits (leaf_size (leaf_of f.pool.used c.in-Some.frame.0 ++ p ∷ [])) c.extend.result c.if-extend.false c.extend.ensures.fits.1 in
    let here = subst (λ (t : Trees). Holds w t start) (sym (c.if-extend.ensures.full no)) holds in
    full_leaves w f n p c.in-Some.frame start (g.D.Outside.state c.close_leaf.new.disk) are holds.keeps framed full (c.close_leaf.ensures.moments told w here)

pub returns-in_err-begin-clause-worn : goal.returns-in_err-begin-clause-worn
returns-in_err-begin-clause-worn g c told w holds =
    let n = c.args.series in
    let p = c.args.p in
    let f = c.args.self.now in
    let start = g.D.Outside.state c.args.disk.now in
    let are : AreTrees f = subst AreTrees c.self.view_is c.self.invariant in
    let number : n < length f.frames = omega (arith, are.pooled.number, c.requires.known) in
    let same = ap (λ (t : Trees). t.frames) c.self.view_is in
    let fitted : IsFitted w n p c.match-index.self start (g.D.Outside.state c.match-index.disk) = elim c.match-index.branch [
      | in-Some+else-extend+in_ok-close_leaf b ↦
          let framed = framed_is c.self.inside.frames.items f.frames n c.index.result.now b.in-Some.frame same number c.index.ensures b.in-Some.is in
          let full = not_fits (leaf_size (leaf_of f.pool.used b.in-Some.frame.0 ++ p ∷ [])) b.extend.result b.if-extend.false b.extend.ensures.fits.1 in
          let here = subst (λ (t : Trees). Holds w t start) (sym (b.extend.ensures.full (is_false b.extend.result b.if-extend.false))) holds in
          rw (b.self-is, b.disk-is) (full_fitted w f b.close_leaf.new.self n p b.in-Some.frame start (g.D.Outside.state b.close_leaf.new.disk) are holds.keeps framed full (b.in_ok-close_leaf.ensures.after told w here) (b.close_leaf.ensures.moments told w here))
      | in_default b ↦
          let none = framed_none c.self.inside.frames.items f.frames n c.index.result.now same number c.index.ensures b.in_default.is in
          rw (b.self-is, b.disk-is) (none_fitted w f n p start holds c.requires.known none)
    ] in
    let mid = g.D.Outside.state c.match-index.disk in
    worn_from c.from_residual-in_err-begin.result c.in_err-begin.field-0.0 c.from_residual-in_err-begin.ensures.1 (fitted_worn w n p c.match-index.self start mid fitted) (c.in_err-begin.ensures.worn told fitted.now fitted.holds)

pub returns-in_err-begin-clause-left : goal.returns-in_err-begin-clause-left
returns-in_err-begin-clause-left g c told w holds =
    let n = c.args.series in
    let p = c.args.p in
    let f = c.args.self.now in
    let start = g.D.Outside.state c.args.disk.now in
    let are : AreTrees f = subst AreTrees c.self.view_is c.self.invariant in
    let number : n < length f.frames = omega (arith, are.pooled.number, c.requires.known) in
    let same = ap (λ (t : Trees). t.frames) c.self.view_is in
    let fitted : IsFitted w n p c.match-index.self start (g.D.Outside.state c.match-index.disk) = elim c.match-index.branch [
      | in-Some+else-extend+in_ok-close_leaf b ↦
          let framed = framed_is c.self.inside.frames.items f.frames n c.index.result.now b.in-Some.frame same number c.index.ensures b.in-Some.is in
          let full = not_fits (leaf_size (leaf_of f.pool.used b.in-Some.frame.0 ++ p ∷ [])) b.extend.result b.if-extend.false b.extend.ensures.fits.1 in
          let here = subst (λ (t : Trees). Holds w t start) (sym (b.extend.ensures.full (is_false b.extend.result b.if-extend.false))) holds in
          rw (b.self-is, b.disk-is) (full_fitted w f b.close_leaf.new.self n p b.in-Some.frame start (g.D.Outside.state b.close_leaf.new.disk) are holds.keeps framed full (b.in_ok-close_leaf.ensures.after told w here) (b.close_leaf.ensures.moments told w here))
      | in_default b ↦
          let none = framed_none c.self.inside.frames.items f.frames n c.index.result.now same number c.index.ensures b.in_default.is in
          rw (b.self-is, b.disk-is) (none_fitted w f n p start holds c.requires.known none)
    ] in
    worn_from c.from_residual-in_err-begin.result c.in_err-begin.field-0.0 c.from_residual-in_err-begin.ensures.1 (λ s. begun_left w fitted.now n p c.begin.new.self fitted.rest) (c.in_err-begin.ensures.left told fitted.now fitted.holds)

pub returns-in_err-begin-clause-moments : goal.returns-in_err-begin-clause-moments
returns-in_err-begin-clause-moments g c told w holds =
    let n = c.args.series in
    let p = c.args.p in
    let f = c.args.self.now in
    let start = g.D.Outside.state c.args.disk.now in
    let are : AreTrees f = subst AreTrees c.self.view_is c.self.invariant in
    let number : n < length f.frames = omega (arith, are.pooled.number, c.requires.known) in
    let same = ap (λ (t : Trees). t.frames) c.self.view_is in
    let fitted : IsFitted w n p c.match-index.self start (g.D.Outside.state c.match-index.disk) = elim c.match-index.branch [
      | in-Some+else-extend+in_ok-close_leaf b ↦
          let framed = framed_is c.self.inside.frames.items f.frames n c.index.result.now b.in-Some.frame same number c.index.ensures b.in-Some.is in
          let full = not_fits (leaf_size (leaf_of f.pool.used b.in-Some.frame.0 ++ p ∷ [])) b.extend.result b.if-extend.false b.extend.ensures.fits.1 in
          let here = subst (λ (t : Trees). Holds w t start) (sym (b.extend.ensures.full (is_false b.extend.result b.if-extend.false))) holds in
          rw (b.self-is, b.disk-is) (full_fitted w f b.close_leaf.new.self n p b.in-Some.frame start (g.D.Outside.state b.close_leaf.new.disk) are holds.keeps framed full (b.in_ok-close_leaf.ensures.after told w here) (b.close_leaf.ensures.moments told w here))
      | in_default b ↦
          let none = framed_none c.self.inside.frames.items f.frames n c.index.result.now same number c.index.ensures b.in_default.is in
          rw (b.self-is, b.disk-is) (none_fitted w f n p start holds c.requires.known none)
    ] in
    let mid = g.D.Outside.state c.match-index.disk in
    fitted_passes w n p c.match-index.self start mid fitted (g.D.Outside.state c.begin.new.disk) (c.begin.ensures.moments told fitted.now fitted.holds)

pub returns-clause-last : goal.returns-clause-last
returns-clause-last g c m most below was =
    let kept : last_known c.match-index.self m ≡ last_known c.args.self.now m = elim c.match-index.branch [
      | in-Some+else-extend+in_ok-close_leaf b ↦
          ap (λ (t : Trees). last_known t m) b.self-is ∙ b.in_ok-close_leaf.ensures.last m ∙ ap (λ (t : Trees). last_known t m) (b.extend.ensures.full (is_false b.extend.result b.if-extend.false))
      | in_default b ↦ ap (λ (t : Trees). last_known t m) b.self-is
    ] in
    let last = c.in_ok-begin.ensures.last m most below (subst (Below most) (sym kept) was) in
    on_ok_weaker c.view_in_time-2.result (λ same. subst (Below most) (sym same) last) (c.view_in_time-2.ensures.last m)

pub returns-clause-worn : goal.returns-clause-worn
returns-clause-worn g c told w holds =
    let n = c.args.series in
    let p = c.args.p in
    let f = c.args.self.now in
    let start = g.D.Outside.state c.args.disk.now in
    let are : AreTrees f = subst AreTrees c.self.view_is c.self.invariant in
    let number : n < length f.frames = omega (arith, are.pooled.number, c.requires.known) in
    let same = ap (λ (t : Trees). t.frames) c.self.view_is in
    let fitted : IsFitted w n p c.match-index.self start (g.D.Outside.state c.match-index.disk) = elim c.match-index.branch [
      | in-Some+else-extend+in_ok-close_leaf b ↦
          let framed = framed_is c.self.inside.frames.items f.frames n c.index.result.now b.in-Some.frame same number c.index.ensures b.in-Some.is in
          let full = not_fits (leaf_size (leaf_of f.pool.used b.in-Some.frame.0 ++ p ∷ [])) b.extend.result b.if-extend.false b.extend.ensures.fits.1 in
          let here = subst (λ (t : Trees). Holds w t start) (sym (b.extend.ensures.full (is_false b.extend.result b.if-extend.false))) holds in
          rw (b.self-is, b.disk-is) (full_fitted w f b.close_leaf.new.self n p b.in-Some.frame start (g.D.Outside.state b.close_leaf.new.disk) are holds.keeps framed full (b.in_ok-close_leaf.ensures.after told w here) (b.close_leaf.ensures.moments told w here))
      | in_default b ↦
          let none = framed_none c.self.inside.frames.items f.frames n c.index.result.now same number c.index.ensures b.in_default.is in
          rw (b.self-is, b.disk-is) (none_fitted w f n p start holds c.requires.known none)
    ] in
    let mid = g.D.Outside.state c.match-index.disk in
    let put = c.in_ok-begin.ensures.after told fitted.now fitted.holds in
    subst (λ (v : World). OnWorn c.view_in_time-2.result (IsWornBy v)) (sym (fitted_is w n p c.match-index.self start mid fitted put.keeps.not_worn)) (c.view_in_time-2.ensures.worn told (begun fitted.now n p) put)

pub returns-clause-left : goal.returns-clause-left
returns-clause-left g c told w holds =
    let n = c.args.series in
    let p = c.args.p in
    let f = c.args.self.now in
    let start = g.D.Outside.state c.args.disk.now in
    let are : AreTrees f = subst AreTrees c.self.view_is c.self.invariant in
    let number : n < length f.frames = omega (arith, are.pooled.number, c.requires.known) in
    let same = ap (λ (t : Trees). t.frames) c.self.view_is in
    let fitted : IsFitted w n p c.match-index.self start (g.D.Outside.state c.match-index.disk) = elim c.match-index.branch [
      | in-Some+else-extend+in_ok-close_leaf b ↦
          let framed = framed_is c.self.inside.frames.items f.frames n c.index.result.now b.in-Some.frame same number c.index.ensures b.in-Some.is in
          let full = not_fits (leaf_size (leaf_of f.pool.used b.in-Some.frame.0 ++ p ∷ [])) b.extend.result b.if-extend.false b.extend.ensures.fits.1 in
          let here = subst (λ (t : Trees). Holds w t start) (sym (b.extend.ensures.full (is_false b.extend.result b.if-extend.false))) holds in
          rw (b.self-is, b.disk-is) (full_fitted w f b.close_leaf.new.self n p b.in-Some.frame start (g.D.Outside.state b.close_leaf.new.disk) are holds.keeps framed full (b.in_ok-close_leaf.ensures.after told w here) (b.close_leaf.ensures.moments told w here))
      | in_default b ↦
          let none = framed_none c.self.inside.frames.items f.frames n c.index.result.now same number c.index.ensures b.in_default.is in
          rw (b.self-is, b.disk-is) (none_fitted w f n p start holds c.requires.known none)
    ] in
    let mid = g.D.Outside.state c.match-index.disk in
    let put = c.in_ok-begin.ensures.after told fitted.now fitted.holds in
    subst (λ (v : World). OnWorn c.view_in_time-2.result (λ stop. KeepsWorn v c.view_in_time-2.new.self)) (sym (fitted_is w n p c.match-index.self start mid fitted put.keeps.not_worn)) (c.view_in_time-2.ensures.left told (begun fitted.now n p) put)

pub returns-clause-after : goal.returns-clause-after
returns-clause-after g c told w holds =
    let n = c.args.series in
    let p = c.args.p in
    let f = c.args.self.now in
    let start = g.D.Outside.state c.args.disk.now in
    let are : AreTrees f = subst AreTrees c.self.view_is c.self.invariant in
    let number : n < length f.frames = omega (arith, are.pooled.number, c.requires.known) in
    let same = ap (λ (t : Trees). t.frames) c.self.view_is in
    let fitted : IsFitted w n p c.match-index.self start (g.D.Outside.state c.match-index.disk) = elim c.match-index.branch [
      | in-Some+else-extend+in_ok-close_leaf b ↦
          let framed = framed_is c.self.inside.frames.items f.frames n c.index.result.now b.in-Some.frame same number c.index.ensures b.in-Some.is in
          let full = not_fits (leaf_size (leaf_of f.pool.used b.in-Some.frame.0 ++ p ∷ [])) b.extend.result b.if-extend.false b.extend.ensures.fits.1 in
          let here = subst (λ (t : Trees). Holds w t start) (sym (b.extend.ensures.full (is_false b.extend.result b.if-extend.false))) holds in
          rw (b.self-is, b.disk-is) (full_fitted w f b.close_leaf.new.self n p b.in-Some.frame start (g.D.Outside.state b.close_leaf.new.disk) are holds.keeps framed full (b.in_ok-close_leaf.ensures.after told w here) (b.close_leaf.ensures.moments told w here))
      | in_default b ↦
          let none = framed_none c.self.inside.frames.items f.frames n c.index.result.now same number c.index.ensures b.in_default.is in
          rw (b.self-is, b.disk-is) (none_fitted w f n p start holds c.requires.known none)
    ] in
    let mid = g.D.Outside.state c.match-index.disk in
    let put = c.in_ok-begin.ensures.after told fitted.now fitted.holds in
    subst (λ (v : World). OnOk c.view_in_time-2.result (Holds v c.view_in_time-2.new.self (g.D.Outside.state c.view_in_time-2.new.disk))) (sym (fitted_is w n p c.match-index.self start mid fitted put.keeps.not_worn))
    (c.view_in_time-2.ensures.after told (begun fitted.now n p) put)

pub returns-clause-passes : goal.returns-clause-passes
returns-clause-passes g c told =
    let start = g.D.Outside.state c.args.disk.now in
    let so_far : DiskPasses (λ left. Unit {0}) start (g.D.Outside.state c.match-index.disk) = elim c.match-index.branch [
      | in-Some+else-extend+in_ok-close_leaf b ↦ rw b.disk-is (b.close_leaf.ensures.passes told)
      | in_default b ↦ rw b.disk-is (disk_starts (λ left. Unit {0}) start)
    ] in
    let begun_passes = disk_goes_on so_far (c.begin.ensures.passes told) (λ disk left. tt) in
    disk_goes_on begun_passes (c.view_in_time-2.ensures.passes told) (λ disk left. tt)

pub returns-clause-moments : goal.returns-clause-moments
returns-clause-moments g c told w holds =
    let n = c.args.series in
    let p = c.args.p in
    let f = c.args.self.now in
    let start = g.D.Outside.state c.args.disk.now in
    let are : AreTrees f = subst AreTrees c.self.view_is c.self.invariant in
    let number : n < length f.frames = omega (arith, are.pooled.number, c.requires.known) in
    let same = ap (λ (t : Trees). t.frames) c.self.view_is in
    let fitted : IsFitted w n p c.match-index.self start (g.D.Outside.state c.match-index.disk) = elim c.match-index.branch [
      | in-Some+else-extend+in_ok-close_leaf b ↦
          let framed = framed_is c.self.inside.frames.items f.frames n c.index.result.now b.in-Some.frame same number c.index.ensures b.in-Some.is in
          let full = not_fits (leaf_size (leaf_of f.pool.used b.in-Some.frame.0 ++ p ∷ [])) b.extend.result b.if-extend.false b.extend.ensures.fits.1 in
          let here = subst (λ (t : Trees). Holds w t start) (sym (b.extend.ensures.full (is_false b.extend.result b.if-extend.false))) holds in
          rw (b.self-is, b.disk-is) (full_fitted w f b.close_leaf.new.self n p b.in-Some.frame start (g.D.Outside.state b.close_leaf.new.disk) are holds.keeps framed full (b.in_ok-close_leaf.ensures.after told w here) (b.close_leaf.ensures.moments told w here))
      | in_default b ↦
          let none = framed_none c.self.inside.frames.items f.frames n c.index.result.now same number c.index.ensures b.in_default.is in
          rw (b.self-is, b.disk-is) (none_fitted w f n p start holds c.requires.known none)
    ] in
    let mid = g.D.Outside.state c.match-index.disk in
    let put = c.in_ok-begin.ensures.after told fitted.now fitted.holds in
    viewed_passes w n p c.match-index.self start mid fitted (g.D.Outside.state c.begin.new.disk) (g.D.Outside.state c.view_in_time-2.new.disk) put.keeps.not_worn (c.begin.ensures.moments told fitted.now fitted.holds)
    (c.view_in_time-2.ensures.moments told (begun fitted.now n p) put)

pub returns-then-extend-clause-becomes : goal.returns-then-extend-clause-becomes
returns-then-extend-clause-becomes g c told =
    let yes : IsTrue true = search rules in
    let start = g.D.Outside.state c.args.disk.now in
    let put = origins_it start start c.args.self.now.meta c.extend.new.self.meta (ap (λ (t : Trees). t.meta) (c.if-extend.ensures.put yes)) refl in
    on_ok_weaker c.view_in_time.result (λ viewed found was. viewed found (put found was)) (c.view_in_time.ensures.becomes told)

pub returns-clause-becomes : goal.returns-clause-becomes
returns-clause-becomes g c told =
    let m = c.args.self.now.meta in
    let start = g.D.Outside.state c.args.disk.now in
    let fitted : KeepsOrigins start (g.D.Outside.state c.match-index.disk) m c.match-index.self.meta = elim c.match-index.branch [
      | in-Some+else-extend+in_ok-close_leaf b ↦
          let kept = b.extend.ensures.full (is_false b.extend.result b.if-extend.false) in
          rw (b.self-is, b.disk-is)
          (subst (λ (t : Trees). KeepsOrigins start (g.D.Outside.state b.close_leaf.new.disk) t.meta b.close_leaf.new.self.meta) kept (b.in_ok-close_leaf.ensures.becomes told))
      | in_default b ↦ rw (b.self-is, b.disk-is) (origins_it start start m m refl refl)
    ] in
    on_ok_weaker c.view_in_time-2.result (λ viewed found was. viewed found (c.in_ok-begin.ensures.becomes told found (fitted found was))) (c.view_in_time-2.ensures.becomes told)

pub returns-then-extend-clause-memory : goal.returns-then-extend-clause-memory
returns-then-extend-clause-memory g c = memory_weaker c.view_in_time.result (λ e. absurd e) c.view_in_time.ensures.no_memory

pub returns-then-extend-clause-kept : goal.returns-then-extend-clause-kept
returns-then-extend-clause-kept g c = memory_weaker c.view_in_time.result (λ e. absurd e) c.view_in_time.ensures.no_memory

pub returns-in_err-close_leaf-clause-memory : goal.returns-in_err-close_leaf-clause-memory
returns-in_err-close_leaf-clause-memory g c =
    let n = c.args.series in
    let p = c.args.p in
    let f = c.args.self.now in
    let are : AreTrees f = subst AreTrees c.self.view_is c.self.invariant in
    let number : n < length f.frames = omega (arith, are.pooled.number, c.requires.known) in
    let framed = framed_is c.self.inside.frames.items f.frames n c.index.result.now c.in-Some.frame (ap (λ (t : Trees). t.frames) c.self.view_is) number c.index.ensures c.in-Some.is in
    let no : IsFalse false = search rules in
    let full = not_fits (leaf_size (leaf_of f.pool.used c.in-Some.frame.0 ++ p ∷ [])) c.extend.result c.if-extend.false c.extend.ensures.fits.1 in
    memory_from c.from_residual.result c.in_err-close_leaf.field-0.0 c.from_residual.ensures.1 (own_opens f c.extend.new.self n p c.in-Some.frame (c.if-extend.ensures.full no) framed full) c.in_err-close_leaf.ensures.memory

pub returns-in_err-close_leaf-clause-kept : goal.returns-in_err-close_leaf-clause-kept
returns-in_err-close_leaf-clause-kept g c =
    let no : IsFalse false = search rules in
    memory_from c.from_residual.result c.in_err-close_leaf.field-0.0 c.from_residual.ensures.1 (λ kept. (kept.0 ∙ c.if-extend.ensures.full no, kept.1)) c.in_err-close_leaf.ensures.kept

pub returns-in_err-begin-clause-memory : goal.returns-in_err-begin-clause-memory
returns-in_err-begin-clause-memory g c =
    let n = c.args.series in
    let p = c.args.p in
    let f = c.args.self.now in
    let are : AreTrees f = subst AreTrees c.self.view_is c.self.invariant in
    let is : AreTrees c.match-index.self = subst AreTrees c.self-2.view_is c.self-2.invariant in
    let back : OpensFor c.match-index.self n p → OpensFor f n p = elim c.match-index.branch [
      | in-Some+else-extend+in_ok-close_leaf b ↦
          let same = b.extend.ensures.full (is_false b.extend.result b.if-extend.false) in
          (λ opens. absurd (closed_leaf_none f b.extend.new.self c.match-index.self b.close_leaf.new.self n opens.0 p are is same b.self-is c.requires.known b.close_leaf.ensures.limits b.in_ok-close_leaf.ensures.frames b.in_ok-close_leaf.ensures.fewer opens.1))
      | in_default b ↦ (λ opens. subst (λ (t : Trees). OpensFor t n p) b.self-is opens)
    ] in
    memory_from c.from_residual-in_err-begin.result c.in_err-begin.field-0.0 c.from_residual-in_err-begin.ensures.1 back c.in_err-begin.ensures.memory

pub returns-in_err-begin-clause-kept : goal.returns-in_err-begin-clause-kept
returns-in_err-begin-clause-kept g c =
    let n = c.args.series in
    let p = c.args.p in
    let f = c.args.self.now in
    let are : AreTrees f = subst AreTrees c.self.view_is c.self.invariant in
    let is : AreTrees c.match-index.self = subst AreTrees c.self-2.view_is c.self-2.invariant in
    elim c.match-index.branch [
      | in-Some+else-extend+in_ok-close_leaf b ↦
          let same = b.extend.ensures.full (is_false b.extend.result b.if-extend.false) in
          memory_from c.from_residual-in_err-begin.result c.in_err-begin.field-0.0 c.from_residual-in_err-begin.ensures.1
          (λ opens. absurd (closed_leaf_none f b.extend.new.self c.match-index.self b.close_leaf.new.self n opens.0 p are is same b.self-is c.requires.known b.close_leaf.ensures.limits b.in_ok-close_leaf.ensures.frames b.in_ok-close_leaf.ensures.fewer opens.1))
          c.in_err-begin.ensures.memory
      | in_default b ↦
          memory_from c.from_residual-in_err-begin.result c.in_err-begin.field-0.0 c.from_residual-in_err-begin.ensures.1 (λ kept. (kept.0 ∙ b.self-is, kept.1 ∙ b.disk-is)) c.in_err-begin.ensures.kept
    ]

pub returns-clause-memory : goal.returns-clause-memory
returns-clause-memory g c = memory_weaker c.view_in_time-2.result (λ e. absurd e) c.view_in_time-2.ensures.no_memory

pub returns-clause-kept : goal.returns-clause-kept
returns-clause-kept g c = memory_weaker c.view_in_time-2.result (λ e. absurd e) c.view_in_time-2.ensures.no_memory

pub returns-in_err-begin-clause-passes : goal.returns-in_err-begin-clause-passes
returns-in_err-begin-clause-passes g c told =
    let start = g.D.Outside.state c.args.disk.now in
    let so_far : DiskPasses (λ left. Unit {0}) start (g.D.Outside.state c.match-index.disk) = elim c.match-index.branch [
      | in-Some+else-extend+in_ok-close_leaf b ↦ rw b.disk-is (b.close_leaf.ensures.passes told)
      | in_default b ↦ rw b.disk-is (disk_starts (λ left. Unit {0}) start)
    ] in
    disk_goes_on so_far (c.begin.ensures.passes told) (λ disk left. tt)

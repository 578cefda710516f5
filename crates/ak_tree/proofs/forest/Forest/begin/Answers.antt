use Rattle.std.proofs.Common.{◌<◌, ◌∙◌, length, get_or, None, ap, refl, subst, sym, arith, rules}
use Rattle.std.specs.Prelude.{IsTrue, IsFalse, true, false}
use Rattle.ak_base.specs.Points.{IsPoint}
use Rattle.ak_meta.specs.Contents.{names_of}
use Rattle.ak_tree.specs.Standing.{Trees, AreTrees, Holds, last_known}
use Rattle.ak_world.specs.Steps.{closed, oldest}
use Rattle.ak_world.specs.Worlds.{World}
use Rattle.ak_tree.proofs.Appended.{Below, oldest_opens, not_free, one_free, begun_free, full_begun, full_worn, full_passes, started_holds, started_below}
use Rattle.ak_tree.proofs.Closed.{same_number}
use Rattle.ak_tree.proofs.Telling.{worn_from, memory_from}
use Rattle.ak_tree.proofs.Worn.{oldest_left}
use Rattle.ak_tree.specs.Later.{KeepsOrigins}
use Rattle.ak_tree.proofs.Becoming.{origins_it}
use Rattle.ak_tree.proofs.forest.Forest.begin.Goals as goal

pub returns-then-start-clause-after : goal.returns-then-start-clause-after
returns-then-start-clause-after g c told w holds =
    let n = c.args.series in
    let f = c.args.self.now in
    let host = g.D.Outside.state c.args.disk.now in
    let point : IsPoint c.args.p = search rules in
    let yes : IsTrue true = search rules in
    let are : AreTrees f = subst AreTrees c.self.view_is c.self.invariant in
    subst (λ (v : World). Holds v c.start.new.self host) (sym (begun_free w f n c.args.p are holds.keeps (c.if-start.ensures.room.0 yes)))
    (started_holds w f c.start.new.self n c.args.p host are holds c.requires.known c.requires.none point c.requires.not_late (c.if-start.ensures.started yes))

pub returns-in_err-close_oldest-clause-worn : goal.returns-in_err-close_oldest-clause-worn
returns-in_err-close_oldest-clause-worn g c told w holds =
    let f = c.args.self.now in
    let no : IsFalse false = search rules in
    let are : AreTrees f = subst AreTrees c.self.view_is c.self.invariant in
    let full = not_free (length f.pool.used) f.pool.count c.if-start.ensures.room.1 in
    let here = subst (λ (t : Trees). Holds w t (g.D.Outside.state c.args.disk.now)) (sym (c.if-start.ensures.full no)) holds in
    worn_from c.from_residual.result c.in_err-close_oldest.field-0.0 c.from_residual.ensures.1 (λ s. full_worn w f c.args.series c.args.p s are holds.keeps c.requires.known c.requires.none full) (c.in_err-close_oldest.ensures.worn told w here)

pub returns-in_err-close_oldest-clause-left : goal.returns-in_err-close_oldest-clause-left
returns-in_err-close_oldest-clause-left g c told w holds =
    let f = c.args.self.now in
    let no : IsFalse false = search rules in
    let are : AreTrees f = subst AreTrees c.self.view_is c.self.invariant in
    let full = not_free (length f.pool.used) f.pool.count c.if-start.ensures.room.1 in
    let here = subst (λ (t : Trees). Holds w t (g.D.Outside.state c.args.disk.now)) (sym (c.if-start.ensures.full no)) holds in
    worn_from c.from_residual.result c.in_err-close_oldest.field-0.0 c.from_residual.ensures.1 (λ s. oldest_left w f c.close_oldest.new.self c.args.series c.args.p are holds.keeps c.requires.known c.requires.none full)
    (c.in_err-close_oldest.ensures.left told w here)

pub returns-in_err-close_oldest-clause-moments : goal.returns-in_err-close_oldest-clause-moments
returns-in_err-close_oldest-clause-moments g c told w holds =
    let f = c.args.self.now in
    let no : IsFalse false = search rules in
    let are : AreTrees f = subst AreTrees c.self.view_is c.self.invariant in
    let full = not_free (length f.pool.used) f.pool.count c.if-start.ensures.room.1 in
    let here = subst (λ (t : Trees). Holds w t (g.D.Outside.state c.args.disk.now)) (sym (c.if-start.ensures.full no)) holds in
    full_passes w f c.args.series c.args.p (g.D.Outside.state c.args.disk.now) (g.D.Outside.state c.close_oldest.new.disk) are holds.keeps c.requires.known c.requires.none full (c.close_oldest.ensures.moments told w here)

pub returns-clause-last : goal.returns-clause-last
returns-clause-last g c m most below was =
    let n = c.args.series in
    let f = c.args.self.now in
    let now = c.close_oldest.new.self in
    let no : IsFalse false = search rules in
    let same = c.if-start.ensures.full no in
    let are : AreTrees f = subst AreTrees c.self.view_is c.self.invariant in
    let is : AreTrees now = subst AreTrees c.self-2.view_is c.self-2.invariant in
    let names = c.close_oldest.ensures.names ∙ ap (λ (t : Trees). names_of t.meta.series) same in
    let within : n < length now.meta.series = omega (arith, same_number now f names, c.requires.known) in
    let free = one_free f now are is (c.close_oldest.ensures.limits ∙ ap (λ (t : Trees). t.meta.limits) same) (c.in_ok-close_oldest.ensures.fewer ∙ ap (λ (t : Trees). length t.pool.used) same) in
    let last = c.in_ok-close_oldest.ensures.last m ∙ ap (λ (t : Trees). last_known t m) same in
    started_below now c.start-2.new.self n m most c.args.p is within below (subst (Below most) (sym last) was) (c.start-2.ensures.started (c.start-2.ensures.room.1 free))

pub returns-clause-after : goal.returns-clause-after
returns-clause-after g c told w holds =
    let n = c.args.series in
    let f = c.args.self.now in
    let now = c.close_oldest.new.self in
    let host = g.D.Outside.state c.close_oldest.new.disk in
    let point : IsPoint c.args.p = search rules in
    let no : IsFalse false = search rules in
    let same = c.if-start.ensures.full no in
    let are : AreTrees f = subst AreTrees c.self.view_is c.self.invariant in
    let is : AreTrees now = subst AreTrees c.self-2.view_is c.self-2.invariant in
    let full = not_free (length f.pool.used) f.pool.count c.if-start.ensures.room.1 in
    let names = c.close_oldest.ensures.names ∙ ap (λ (t : Trees). names_of t.meta.series) same in
    let within : n < length now.meta.series = omega (arith, same_number now f names, c.requires.known) in
    let free = one_free f now are is (c.close_oldest.ensures.limits ∙ ap (λ (t : Trees). t.meta.limits) same) (c.in_ok-close_oldest.ensures.fewer ∙ ap (λ (t : Trees). length t.pool.used) same) in
    let none = c.in_ok-close_oldest.ensures.others n (ap (λ (t : Trees). get_or t.frames n None) same ∙ c.requires.none) in
    let last = c.in_ok-close_oldest.ensures.last n ∙ ap (λ (t : Trees). last_known t n) same in
    let late = subst (Below c.args.p.ts) (sym last) c.requires.not_late in
    let here = subst (λ (t : Trees). Holds w t (g.D.Outside.state c.args.disk.now)) (sym same) holds in
    let closing = c.in_ok-close_oldest.ensures.after told w here in
    subst (λ (v : World). Holds v c.start-2.new.self host) (sym (full_begun w f n c.args.p are holds.keeps c.requires.known c.requires.none full closing.keeps.not_worn))
    (started_holds (closed w (oldest w.recent)) now c.start-2.new.self n c.args.p host is closing within none point late (c.start-2.ensures.started (c.start-2.ensures.room.1 free)))

pub returns-clause-moments : goal.returns-clause-moments
returns-clause-moments g c told w holds =
    let f = c.args.self.now in
    let no : IsFalse false = search rules in
    let are : AreTrees f = subst AreTrees c.self.view_is c.self.invariant in
    let full = not_free (length f.pool.used) f.pool.count c.if-start.ensures.room.1 in
    let here = subst (λ (t : Trees). Holds w t (g.D.Outside.state c.args.disk.now)) (sym (c.if-start.ensures.full no)) holds in
    full_passes w f c.args.series c.args.p (g.D.Outside.state c.args.disk.now) (g.D.Outside.state c.close_oldest.new.disk) are holds.keeps c.requires.known c.requires.none full (c.close_oldest.ensures.moments told w here)

pub returns-then-start-clause-becomes : goal.returns-then-start-clause-becomes
returns-then-start-clause-becomes g c told =
    let yes : IsTrue true = search rules in
    let host = g.D.Outside.state c.args.disk.now in
    origins_it host host c.args.self.now.meta c.start.new.self.meta (ap (λ (t : Trees). t.meta) (c.if-start.ensures.started yes).1) refl

pub returns-clause-becomes : goal.returns-clause-becomes
returns-clause-becomes g c told found was =
    let f = c.args.self.now in
    let now = c.close_oldest.new.self in
    let no : IsFalse false = search rules in
    let same = c.if-start.ensures.full no in
    let are : AreTrees f = subst AreTrees c.self.view_is c.self.invariant in
    let is : AreTrees now = subst AreTrees c.self-2.view_is c.self-2.invariant in
    let free = one_free f now are is (c.close_oldest.ensures.limits ∙ ap (λ (t : Trees). t.meta.limits) same) (c.in_ok-close_oldest.ensures.fewer ∙ ap (λ (t : Trees). length t.pool.used) same) in
    let start = g.D.Outside.state c.args.disk.now in
    let host = g.D.Outside.state c.close_oldest.new.disk in
    let closing : KeepsOrigins start host f.meta now.meta = subst (λ (t : Trees). KeepsOrigins start host t.meta now.meta) same (c.in_ok-close_oldest.ensures.becomes told) in
    let begun = origins_it host host now.meta c.start-2.new.self.meta (ap (λ (t : Trees). t.meta) (c.start-2.ensures.started (c.start-2.ensures.room.1 free)).1) refl in
    begun found (closing found was)

pub returns-in_err-close_oldest-clause-memory : goal.returns-in_err-close_oldest-clause-memory
returns-in_err-close_oldest-clause-memory g c =
    let f = c.args.self.now in
    let no : IsFalse false = search rules in
    let full = not_free (length f.pool.used) f.pool.count c.if-start.ensures.room.1 in
    memory_from c.from_residual.result c.in_err-close_oldest.field-0.0 c.from_residual.ensures.1 (oldest_opens f c.start.new.self c.args.series c.args.p (c.if-start.ensures.full no) c.requires.none full) c.in_err-close_oldest.ensures.memory

pub returns-in_err-close_oldest-clause-kept : goal.returns-in_err-close_oldest-clause-kept
returns-in_err-close_oldest-clause-kept g c =
    let no : IsFalse false = search rules in
    memory_from c.from_residual.result c.in_err-close_oldest.field-0.0 c.from_residual.ensures.1 (λ kept. (kept.0 ∙ c.if-start.ensures.full no, kept.1)) c.in_err-close_oldest.ensures.kept

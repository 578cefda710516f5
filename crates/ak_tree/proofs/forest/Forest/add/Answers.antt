use Rattle.std.proofs.Common.{◌≡◌, ◌∙◌, ℕ, ◌+◌, ◌*◌, ◌≤◌, List, [], ◌∷◌, ◌++◌, length, Option, None, bytes_eq, false, Result, Ok, Err, OnOk, is_err, sym, ap, subst, arith}
use Rattle.std.specs.List.{list_any}
use Rattle.ak_levels.specs.Pending.{Lists, no_lists}
use Rattle.ak_meta.specs.Contents.{Content, size_of, names_of}
use Rattle.ak_meta.specs.Leaves.{with_series}
use Rattle.ak_meta.proofs.Sizes.{many}
use Rattle.ak_pool.specs.declared.pool.Frame.{Frame}
use Rattle.ak_tree.specs.Standing.{Trees, trees, AreTrees, Keeps}
use Rattle.ak_tree.proofs.AddingSeries.{size_named, with_named, trees_named, keeps_named}
use Rattle.ak_world.specs.Puts.{with_name}
use Rattle.ak_tree.specs.Later.{Becomes}
use Rattle.ak_tree.proofs.Becoming.{becomes_named}
use Rattle.ak_tree.proofs.forest.Forest.add.Goals as goal

abbrev old : goal.After-unwrap → Trees
old c = trees c.self.inside.meta c.self.inside.pool c.self.inside.frames.items c.self.inside.levels c.self.inside.check c.self.inside.since

ok_is : {T E P : Type 0} (r : Result T E) → false ≡ is_err r → OnOk r P → P
ok_is (Ok x) is p = p
ok_is (Err e) is p = absurd (cc)

levels_are : (c : goal.After-unwrap) → c.push.new.self ≡ c.self.inside.levels ++ no_lists ∷ []
levels_are c = ok_is c.push.result c.if-is_err-2.ensures.value c.push.ensures.ok ∙ ap (λ (v : Lists). c.self.inside.levels ++ v ∷ []) c.new.ensures

new_is : (c : goal.After-unwrap) → trees c.add.new.self c.self.inside.pool c.push-in-Ok.new.self.items c.push.new.self c.self.inside.check c.self.inside.since ≡ with_named (old c) c.args.name.now
new_is c =
    let put : c.push-in-Ok.new.self.items ≡ c.try_reserve.new.self.items ++ None ∷ [] = rw c.unwrap.ensures at c.push-in-Ok.ensures.items in
    let all : c.push-in-Ok.new.self.items ≡ c.self.inside.frames.items ++ None ∷ [] = put ∙ ap (λ (frames : List (Option Frame)). frames ++ None ∷ []) c.try_reserve.ensures.items in
    ap (λ (m : Content). trees m c.self.inside.pool c.push-in-Ok.new.self.items c.push.new.self c.self.inside.check c.self.inside.since) c.in-Ok.ensures.ok
    ∙ ap (λ (frames : List (Option Frame)). trees (with_series c.self.inside.meta c.args.name.now) c.self.inside.pool frames c.push.new.self c.self.inside.check c.self.inside.since) all
    ∙ ap (λ (levels : List Lists). trees (with_series c.self.inside.meta c.args.name.now) c.self.inside.pool (c.self.inside.frames.items ++ None ∷ []) levels c.self.inside.check c.self.inside.since) (levels_are c)

other : (c : goal.After-unwrap) → list_any (λ n. bytes_eq c.args.name.now n) (names_of c.self.inside.meta.series) ≡ false
other c = subst (λ (t : Trees). list_any (λ n. bytes_eq c.args.name.now n) (names_of t.meta.series) ≡ false) (sym c.self.view_is) c.requires.new

pub invariant_of-self-in-Ok : goal.invariant_of-self-in-Ok
invariant_of-self-in-Ok c =
    let m : Content = c.self.inside.meta in
    let name : List ℕ = c.args.name.now in
    let size : size_of c.args.self.now.meta ≡ size_of m = ap (λ (t : Trees). size_of t.meta) (sym c.self.view_is) in
    let slot : c.args.self.now.meta.limits.slot ≡ m.limits.slot = ap (λ (t : Trees). t.meta.limits.slot) (sym c.self.view_is) in
    let long : length c.as_str.result.now ≡ length name = ap (λ (l : List ℕ). length l) c.as_str.ensures.value in
    let room : 16 + size_of (with_series m name) ≤ 4096 * m.limits.slot = omega (arith, size_named m name, c.need-need.ensures, c.room-room.ensures.room, c.if-need-room.false, size, slot, long) in
    subst AreTrees (sym (new_is c)) (trees_named (old c) name c.self.invariant c.requires.canonical (other c) room)

pub returns-in-Ok-clause-keeps : goal.returns-in-Ok-clause-keeps
returns-in-Ok-clause-keeps c w keeps =
    subst (Keeps (record w { series = with_name w.series c.args.name.now })) (sym (new_is c))
    (keeps_named w (old c) c.args.name.now c.self.invariant (subst (Keeps w) (sym c.self.view_is) keeps) (other c))

pub returns-in-Ok-clause-few : goal.returns-in-Ok-clause-few
returns-in-Ok-clause-few c =
    let are : AreTrees (old c) = c.self.invariant in
    let number : c.in-Ok.number ≡ length c.self.inside.meta.series = c.in-Ok.ensures.number in
    omega (arith, many c.self.inside.meta.series, are.room, are.rules_are.limits_are.slot_most, number)

pub returns-in-Ok-clause-becomes : goal.returns-in-Ok-clause-becomes
returns-in-Ok-clause-becomes c seen found was =
    let before : Becomes seen found c.self.inside.meta = subst (λ (t : Trees). Becomes seen found t.meta) (sym c.self.view_is) was in
    subst (Becomes seen found) (sym c.in-Ok.ensures.ok) (becomes_named seen found c.self.inside.meta c.args.name.now before)

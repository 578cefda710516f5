use Rattle.std.proofs.Common.{◌≡◌, ◌≤◌, ◌+◌, ◌++◌, ◌∷◌, [], List, ℕ, refl, sym, ap, subst, ◌∙◌, arith, rules, length}
use Rattle.std.proofs.lemmas.Slice.{pushed}
use Rattle.ak_base.specs.Points.{last_ts_from}
use Rattle.ak_base.specs.declared.point.Point.{Point}
use Rattle.ak_leaf.specs.Leaf.{Keeps}
use Rattle.ak_leaf.specs.Spelling.{start, after, after_all, leaf_size, point_spelling}
use Rattle.ak_leaf.specs.declared.point.Before.{Before}
use Rattle.ak_leaf.proofs.Keeping.{keeps_most, push_size, push_room, push_keeps}
use Rattle.ak_leaf.proofs.Spellings.{point_least, after_push, after_ts}
use Rattle.ak_leaf.proofs.buffer.LeafBuf.push.Goals as goal

-- the size with the point
grown : (ps now : List Point) (size n : ℕ) (last : Before) (p : Point) → ps ≡ now → Keeps ps size last → n ≡ length (point_spelling last p) → leaf_size (now ++ p ∷ []) ≡ size + n
grown ps now size n last p e k f = ap (λ (l : List Point). leaf_size (l ++ p ∷ [])) (sym e) ∙ push_size ps size last p k ∙ ap (λ (m : ℕ). size + m) (sym f)

rises_from : (ps now : List Point) (last : Before) (p : Point) → ps ≡ now → last ≡ after_all start ps → last_ts_from 0 now ≤ p.ts → last.ts ≤ p.ts
rises_from ps now last p e f h = omega (arith, ap (λ (b : Before). b.ts) f, after_ts start ps, ap (last_ts_from 0) e)

pub point_size-requires : goal.point_size-requires
point_size-requires c = rises_from c.self.inside.points.items c.args.self.now c.self.inside.last c.args.p c.self.view_is c.self.invariant.0.last_is c.requires

pub overflow_add-size : goal.overflow_add-size
overflow_add-size c = let most = keeps_most c.self.inside.points.items c.self.inside.size c.self.inside.last c.self.invariant.0 in omega (arith, most, c.point_size.ensures.most)

pub returns-then-size-gt-MOST_BYTES-clause-fits : goal.returns-then-size-gt-MOST_BYTES-clause-fits
returns-then-size-gt-MOST_BYTES-clause-fits c =
    let size = grown c.self.inside.points.items c.args.self.now c.self.inside.size c.point_size.result c.self.inside.last c.args.p c.self.view_is c.self.invariant.0 c.point_size.ensures.whole in
    (λ t. absurd (search (rules, t)), λ h. absurd (omega (arith, size, h)))

pub unwrap-requires : goal.unwrap-requires
unwrap-requires c =
    let least : 2 ≤ c.point_size.result = omega (arith, c.point_size.ensures.whole, point_least c.self.inside.last c.args.p) in
    let room = push_room c.self.inside.points.items c.self.inside.size c.point_size.result c.self.inside.last c.self.invariant.0 least c.if-size-gt-MOST_BYTES.false in
    c.push.ensures.succeeds (omega (arith, room, c.self.invariant.1, c.self.inside.points.ok))

pub invariant_of-self : goal.invariant_of-self
invariant_of-self c =
    let items : c.push.new.self.items ≡ c.self.inside.points.items ++ c.args.p ∷ [] = pushed (c.args.p ∷ []) refl c.unwrap.ensures c.push.ensures.items in
    let rises = rises_from c.self.inside.points.items c.args.self.now c.self.inside.last c.args.p c.self.view_is c.self.invariant.0.last_is c.requires in
    let keeps = push_keeps c.self.inside.points.items c.self.inside.size c.point_size.result c.self.inside.last c.args.p c.self.invariant.0 c.point_size.ensures.point rises c.point_size.ensures.whole c.if-size-gt-MOST_BYTES.false in
    let moved : Keeps c.push.new.self.items (c.self.inside.size + c.point_size.result) (after c.self.inside.last c.args.p) = subst (λ (l : List Point). Keeps l (c.self.inside.size + c.point_size.result) (after c.self.inside.last c.args.p)) (sym items) keeps in
    (subst (λ (b : Before). Keeps c.push.new.self.items (c.self.inside.size + c.point_size.result) b) (sym c.after-self-inside.ensures) moved, omega (arith, c.self.invariant.1, c.push.ensures.capacity))

pub returns-clause-fits : goal.returns-clause-fits
returns-clause-fits c =
    let size = grown c.self.inside.points.items c.args.self.now c.self.inside.size c.point_size.result c.self.inside.last c.args.p c.self.view_is c.self.invariant.0 c.point_size.ensures.whole in
    (λ t. omega (arith, size), λ h. search rules)

pub returns-clause-last : goal.returns-clause-last
returns-clause-last c t =
    let items : c.push.new.self.items ≡ c.self.inside.points.items ++ c.args.p ∷ [] = pushed (c.args.p ∷ []) refl c.unwrap.ensures c.push.ensures.items in
    ap (last_ts_from 0) items ∙ sym (after_ts start (c.self.inside.points.items ++ c.args.p ∷ [])) ∙ ap (λ (b : Before). b.ts) (after_push start c.self.inside.points.items c.args.p)

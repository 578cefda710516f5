-- What a buffer keeps.
use Rattle.std.proofs.Common.{◌≡◌, ◌+◌, ◌<◌, ◌≤◌, ℕ, List, [], ◌∷◌, ◌++◌, length, sym, ap, ap₂, ◌∙◌, subst, arith, length-append}
use Rattle.ak_base.specs.Points.{IsPoint}
use Rattle.ak_base.specs.declared.point.Point.{Point}
use Rattle.ak_leaf.specs.Leaf.{Keeps}
use Rattle.ak_leaf.specs.Spelling.{start, after, after_all, point_spelling, spelling, leaf_size}
use Rattle.ak_leaf.specs.declared.point.Before.{Before}
use Rattle.ak_leaf.proofs.Spellings.{spelling_push, after_push, may_follow, follow_push, follow_history, follow_each, spelling_least, spelling_most, point_least}

pub keeps_most : (ps : List Point) (size : ℕ) (last : Before) → Keeps ps size last → size ≤ 40320
keeps_most ps size last k = omega (arith, k.bytes, k.few, spelling_most start ps)

pub push_size : (ps : List Point) (size : ℕ) (last : Before) (p : Point) → Keeps ps size last → leaf_size (ps ++ p ∷ []) ≡ size + length (point_spelling last p)
push_size ps size last p k =
    let whole : leaf_size (ps ++ p ∷ []) ≡ leaf_size ps + length (point_spelling (after_all start ps) p) =
    ap length (spelling_push start ps p) ∙ length-append (spelling ps) (point_spelling (after_all start ps) p) in
    whole ∙ ap₂ (λ (n : ℕ) (b : Before). n + length (point_spelling b p)) (sym k.bytes) (sym k.last_is)

pub push_room : (ps : List Point) (size n : ℕ) (last : Before) → Keeps ps size last → 2 ≤ n → size + n ≤ 4032 → length ps < 2016
push_room ps size n last k some fits = omega (arith, k.bytes, spelling_least start ps)

pub push_keeps : (ps : List Point) (size n : ℕ) (last : Before) (p : Point) → Keeps ps size last → IsPoint p → last.ts ≤ p.ts → n ≡ length (point_spelling last p) → size + n ≤ 4032 → Keeps (ps ++ p ∷ []) (size + n) (after last p)
push_keeps ps size n last p k is rises e fits =
    let room = push_room ps size n last k (omega (arith, e, point_least last p)) fits in
    let follow = follow_push start ps p (may_follow start ps k.history k.each) is (subst (λ (b : Before). b.ts ≤ p.ts) k.last_is rises) in
    record {
      bytes = ap (λ (m : ℕ). size + m) e ∙ sym (push_size ps size last p k);
      last_is = ap (λ (b : Before). after b p) k.last_is ∙ sym (after_push start ps p);
      history = follow_history start (ps ++ p ∷ []) follow;
      each = follow_each start (ps ++ p ∷ []) follow;
      few = omega (arith, length-append ps (p ∷ []));
    }

use Rattle.std.proofs.Common.{◌≡◌, ℕ, ◌+◌, suc, [], ◌∷◌, ◌++◌, length, refl, sym, ap, ◌∙◌, subst, arith, add-one, List}
use Rattle.std.proofs.lemmas.List.{length_push}
use Rattle.ak_pool.specs.Frames.{frames_of}
use Rattle.ak_pool.specs.Links.{none, link, AreOlder}
use Rattle.ak_pool.specs.declared.links.Link.{Link}
use Rattle.ak_pool.proofs.Chained.{countdown, fresh, older_more}
use Rattle.ak_pool.proofs.Kept.{kept_fresh, none_fresh}
use Rattle.ak_pool.proofs.pool.Pool.new.Goals as goal

pub loop-frame-preserved : goal.loop-frame-preserved
loop-frame-preserved c =
    let slots = c.loop-frame.slots.items in
    let links = c.loop-frame.links.items in
    let put : c.push.new.self.items ≡ slots ++ record { series = 0; leaf = c.in_ok-leaf.leaf } ∷ [] = c.in_ok-push.ensures.items in
    let linked : c.push-in-loop-frame.new.self.items ≡ links ++ link none c.loop-frame.free ∷ [] = c.in_ok-push-2.ensures.items in
    let older : AreOlder (links ++ link none c.loop-frame.free ∷ []) (countdown (suc c.loop-frame.frame)) =
    older_more links c.loop-frame.free c.loop-frame.frame c.loop-frame.invariant.links c.loop-frame.invariant.free c.loop-frame.invariant.chained in
    record {
      slots = ap length put ∙ length_push slots (record { series = 0; leaf = c.in_ok-leaf.leaf }) ∙ ap (λ (n : ℕ). n + 1) c.loop-frame.invariant.slots;
      links = ap length linked ∙ length_push links (link none c.loop-frame.free) ∙ ap (λ (n : ℕ). n + 1) c.loop-frame.invariant.links;
      free = rw (add-one c.loop-frame.frame) refl;
      chained = rw (add-one c.loop-frame.frame) (subst (λ (l : List Link). AreOlder l (countdown (suc c.loop-frame.frame))) (sym linked) older);
      few = omega arith;
    }

pub invariant_of-result : goal.invariant_of-result
invariant_of-result c =
    kept_fresh c.loop-frame.slots.items _ c.loop-frame.frame c.loop-frame.invariant.slots c.loop-frame.invariant.links
    (fresh (record { links = c.loop-frame.links; first = none; last = none; free = c.loop-frame.free }) c.loop-frame.frame refl refl c.loop-frame.invariant.free c.loop-frame.invariant.links c.loop-frame.invariant.few c.loop-frame.invariant.chained)

pub returns : goal.returns
returns c =
    let end : c.loop-frame.frame ≡ c.args.frames = omega arith in
    none_fresh c.loop-frame.slots.items (record { links = c.loop-frame.links; first = none; last = none; free = c.loop-frame.free }) c.loop-frame.frame c.loop-frame.invariant.slots
    (fresh (record { links = c.loop-frame.links; first = none; last = none; free = c.loop-frame.free }) c.loop-frame.frame refl refl c.loop-frame.invariant.free c.loop-frame.invariant.links c.loop-frame.invariant.few c.loop-frame.invariant.chained)
    ∙ ap (λ (n : ℕ). frames_of n []) end

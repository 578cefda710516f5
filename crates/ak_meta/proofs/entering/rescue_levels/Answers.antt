use Rattle.std.proofs.Common.{◌≡◌, ◌+◌, ◌<◌, ◌∙◌, ℕ, suc, List, ◌++◌, length, drop, ap, arith, slice_set, length-drop}
use Rattle.std.proofs.lemmas.List.{drop-drop}
use Rattle.ak_base.specs.declared.point.Addr.{Addr}
use Rattle.ak_meta.specs.Leaves.{addresses_from, address_at}
use Rattle.ak_meta.proofs.Groups.{set_next}
use Rattle.ak_meta.proofs.entering.rescue_levels.Goals as goal

pub loop-level-preserved : goal.loop-level-preserved
loop-level-preserved c =
    let old = c.args.rescue.now in
    let n = c.loop-level.level in
    let a = c.args.at.0 in
    let some : 0 < length (drop n old) = omega (arith, length-drop n old, c.requires.within, c.loop-level-test.true) in
    let next : suc n ≡ n + 1 = omega arith in
    ap (λ (l : List Addr). slice_set l n (address_at (a + n))) c.loop-level.invariant
    ∙ set_next n a (drop n old) some
    ∙ ap (λ (l : List Addr). addresses_from (suc n) a ++ l) (drop-drop 1 n old)
    ∙ ap (λ (m : ℕ). addresses_from m a ++ drop (n + 1) old) next

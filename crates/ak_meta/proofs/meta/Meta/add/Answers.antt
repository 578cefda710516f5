use Rattle.std.proofs.Common.{◌≤◌, ◌*◌, [], ◌∷◌, ◌++◌, sym, subst, arith, length-append}
use Rattle.ak_meta.specs.Contents.{Content, size_of}
use Rattle.ak_meta.specs.Leaves.{new_series, with_series}
use Rattle.ak_meta.proofs.Sizes.{many}
use Rattle.ak_meta.proofs.meta.Meta.add.Goals as goal

pub overflow_cast-result : goal.overflow_cast-result
overflow_cast-result c =
    let series = c.self.inside.series.items in
    let one = new_series c.args.name.now ∷ [] in
    let room = subst (λ (v : Content). size_of (with_series v c.args.name.now) ≤ 4096 * v.limits.slot) (sym c.self.view_is) c.requires.room in
    omega (arith, many (series ++ one), length-append series one, room, c.self.invariant.0.slot_most, c.self.invariant.0.volumes_most)

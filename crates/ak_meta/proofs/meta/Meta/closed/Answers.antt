use Rattle.std.proofs.Common.{rules, ◌≡◌, ◌<◌, ◌^◌, ◌+◌, ◌∙◌, List, length, map, sum, get_or, slice_set, sym, ap, subst, arith}
use Rattle.ak_levels.specs.Carries.{carry_of}
use Rattle.ak_meta.specs.declared.meta.SeriesMeta.{SeriesMeta}
use Rattle.ak_meta.specs.Contents.{Content, content, size_of, leaves_of, room_of}
use Rattle.ak_meta.specs.Leaves.{with_leaf_at, leaves_at, closed_in, IsEntered}
use Rattle.ak_meta.proofs.Closing.{leaves_here, one_here, some_leaves, group_fits, room_fits, sizes_here}
use Rattle.ak_meta.proofs.meta.Meta.closed.Goals as goal

pub close_leaf-requires-clause-count : goal.close_leaf-requires-clause-count
close_leaf-requires-clause-count c =
    let all = c.self.inside.series.items in
    let n = c.args.series in
    let s : SeriesMeta = c.index_mut.result.now in
    let is : s ≡ get_or all n s = search rules in
    let known : n < length all = subst (λ (v : Content). n < length v.series) (sym c.self.view_is) c.requires.known in
    let room : leaves_of all < room_of c.self.inside.volumes = subst (λ (v : Content). leaves_of v.series < room_of v.ordinals) (sym c.self.view_is) c.requires.room in
    omega (arith, leaves_here all n s known is, some_leaves all n, room, room_fits c.self.inside.volumes c.fills.ensures.valid)

pub close_leaf-requires-clause-room : goal.close_leaf-requires-clause-room
close_leaf-requires-clause-room c =
    let all = c.self.inside.series.items in
    let n = c.args.series in
    let s : SeriesMeta = c.index_mut.result.now in
    let is : s ≡ get_or all n s = search rules in
    let known : n < length all = subst (λ (v : Content). n < length v.series) (sym c.self.view_is) c.requires.known in
    let entered : IsEntered c.self.inside.volumes c.args.at.0 (carry_of (leaves_at all n)) = subst (λ (v : Content). IsEntered v.ordinals c.args.at.0 (carry_of (leaves_at v.series n))) (sym c.self.view_is) c.requires.entered in
    omega (arith, group_fits c.self.inside.volumes c.args.at.0 (carry_of (leaves_at all n)) c.fills.ensures.valid entered, ap carry_of (leaves_here all n s known is))

pub invariant_of-self : goal.invariant_of-self
invariant_of-self c =
    let all = c.self.inside.series.items in
    let n = c.args.series in
    let s : SeriesMeta = c.index_mut.result.now in
    let is : s ≡ get_or all n s = search rules in
    let known : n < length all = subst (λ (v : Content). n < length v.series) (sym c.self.view_is) c.requires.known in
    let whole : slice_set all n c.close_leaf.new.series ≡ with_leaf_at all n c.args.last c.args.at.0 = one_here all n c.args.last c.args.at.0 s _ known is c.close_leaf.ensures in
    let size : size_of (content c.self.inside.limits c.self.inside.volumes (with_leaf_at all n c.args.last c.args.at.0)) < 2 ^ 64 = omega (arith, c.self.invariant.1, sizes_here all n c.args.last c.args.at.0) in (
      c.self.invariant.0,
      subst (λ (l : List SeriesMeta). size_of (content c.self.inside.limits c.self.inside.volumes l) < 2 ^ 64) (sym whole) size,
      c.self.invariant.2 ∙ sym (subst (λ (l : List SeriesMeta). sum (map (λ (s : SeriesMeta). 106 + length s.name) l) ≡ sum (map (λ (s : SeriesMeta). 106 + length s.name) all)) (sym whole) (sizes_here all n c.args.last c.args.at.0)),
    )

pub returns : goal.returns
returns c =
    let all = c.self.inside.series.items in
    let n = c.args.series in
    let s : SeriesMeta = c.index_mut.result.now in
    let is : s ≡ get_or all n s = search rules in
    let known : n < length all = subst (λ (v : Content). n < length v.series) (sym c.self.view_is) c.requires.known in
    ap (content c.self.inside.limits c.self.inside.volumes) (one_here all n c.args.last c.args.at.0 s _ known is c.close_leaf.ensures) ∙ ap (λ (v : Content). closed_in v n c.args.last c.args.at.0) c.self.view_is

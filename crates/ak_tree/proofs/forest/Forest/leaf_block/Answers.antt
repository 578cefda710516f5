use Rattle.std.proofs.Common.{◌≡◌, ◌∙◌, ℕ, ◌<◌, ◌≤◌, List, length, get_or, Some, None, refl, sym, ap, ap₂, subst, arith}
use Rattle.ak_base.specs.declared.point.Addr.{Addr}
use Rattle.ak_base.specs.declared.point.Point.{Point}
use Rattle.ak_bytes.specs.declared.head.Head.{Head}
use Rattle.ak_image.specs.Laid.{spot, rescue_in}
use Rattle.ak_leaf.specs.Leaf.{IsHeadOf, SpellsLeaf}
use Rattle.ak_leaf.specs.Spelling.{leaf_size}
use Rattle.ak_meta.proofs.Closing.{leaves_here}
use Rattle.ak_meta.proofs.Lawful.{rescue_is}
use Rattle.ak_meta.specs.Contents.{IsSeries}
use Rattle.ak_meta.specs.Leaves.{leaves_at}
use Rattle.ak_meta.specs.declared.meta.SeriesMeta.{SeriesMeta}
use Rattle.ak_pool.specs.Frames.{leaf_of}
use Rattle.ak_tree.specs.Standing.{Trees, trees}
use Rattle.ak_tree.proofs.Entering.{spot_below}
use Rattle.ak_tree.proofs.Heads.{each_at, rescue_here, rescue_small, head_of}
use Rattle.ak_tree.proofs.Pooling.{leaf_some, leaf_fits}
use Rattle.ak_tree.proofs.forest.Forest.leaf_block.Goals as goal

abbrev elder : SeriesMeta → Addr
elder s = get_or s.rescue 0 (record { 0 = 0 })

abbrev head : SeriesMeta → ℕ → Addr → ℕ → ℕ → Head
head s series addr count size = record { kind = 1; level = 0; count = count; series = series; number = s.leaves; addr = addr; elder = elder s; length = size }

pub encode-requires : goal.encode-requires
encode-requires c =
    let f : Trees = trees c.self.inside.meta c.self.inside.pool c.self.inside.frames.items c.self.inside.levels c.self.inside.check c.self.inside.since in
    let k = length f.meta.series in
    let n = c.args.series in
    let s : SeriesMeta = c.index-series-series.result in
    let leaf : List Point = c.leaf-leaf.result.now in
    let known : n < k = subst (λ (t : Trees). n < length t.meta.series) (sym c.self.view_is) c.requires.known in
    let is : get_or f.frames n None ≡ Some c.args.frame = subst (λ (t : Trees). get_or t.frames n None ≡ Some c.args.frame) (sym c.self.view_is) c.requires.framed in
    let here : s ≡ get_or f.meta.series n s = subst (λ (all : List SeriesMeta). s ≡ get_or all n s) c.series.ensures c.index-series-series.is in
    let lawful : IsSeries s = each_at IsSeries f.meta.series n s c.self.invariant.rules_are.each known here in
    let place : c.spot.result.0 ≡ spot f.meta.ordinals = c.spot.ensures ∙ ap (λ (t : Trees). spot t.meta.ordinals) (sym c.self.view_is) in
    let fits : leaf_size leaf ≤ 4032 = subst (λ (ps : List Point). leaf_size ps ≤ 4032) (sym c.leaf-leaf.ensures) (leaf_fits f.pool f.frames k n c.args.frame c.self.invariant.pooled is) in
    let count : length c.points.result.now ≡ length leaf = ap (λ (ps : List Point). length ps) c.points.ensures.points in
    subst (λ (h : Head). IsHeadOf h leaf) (sym (ap₂ (head s n c.spot.result) count c.size.ensures))
    (head_of s n c.spot.result (elder s) leaf lawful c.ranges.series.fits (omega (arith, place, spot_below f.meta.ordinals c.self.invariant.rules_are.ordinals_are)) (rescue_small s.rescue lawful.addresses) (sym (rescue_is s.rescue 0))
    (λ empty. leaf_some f.pool f.frames k n c.args.frame c.self.invariant.pooled is (sym c.leaf-leaf.ensures ∙ empty)) c.points.ensures.most fits)

pub returns : goal.returns
returns c =
    let f : Trees = trees c.self.inside.meta c.self.inside.pool c.self.inside.frames.items c.self.inside.levels c.self.inside.check c.self.inside.since in
    let n = c.args.series in
    let s : SeriesMeta = c.index-series-series.result in
    let known : n < length f.meta.series = subst (λ (t : Trees). n < length t.meta.series) (sym c.self.view_is) c.requires.known in
    let here : s ≡ get_or f.meta.series n s = subst (λ (all : List SeriesMeta). s ≡ get_or all n s) c.series.ensures c.index-series-series.is in
    let h : Head = head s n c.spot.result (length c.points.result.now) c.size.result in
    let leaf : c.leaf-leaf.result.now ≡ leaf_of c.args.self.now.pool.used c.args.frame.0 = c.leaf-leaf.ensures ∙ ap (λ (t : Trees). leaf_of t.pool.used c.args.frame.0) c.self.view_is in
    let spells : SpellsLeaf c.encode.new.into h c.leaf-leaf.result.now = c.encode.ensures in (
      h,
      subst (SpellsLeaf c.encode.new.into h) leaf spells,
      refl,
      sym (leaves_here f.meta.series n s known here) ∙ ap (λ (t : Trees). leaves_at t.meta.series n) c.self.view_is,
      c.spot.ensures,
      sym (rescue_is s.rescue 0) ∙ sym (rescue_here f.meta.series n s known here) ∙ ap (λ (t : Trees). rescue_in t.meta.series n) c.self.view_is,
    )

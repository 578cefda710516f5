use Rattle.std.proofs.Common.{◌≡◌, ◌<◌, [], length, sym, ap, ◌∙◌, subst, arith}
use Rattle.std.proofs.lemmas.List.{get_or_read}
use Rattle.ak_pool.specs.Frames.{Frames, IsUsed, series_of}
use Rattle.ak_pool.specs.Slots.{all_used}
use Rattle.ak_pool.specs.declared.slot.Slot.{Slot}
use Rattle.ak_pool.proofs.Kept.{within, seen_series}
use Rattle.ak_pool.proofs.pool.Pool.series.Goals as goal

pub index-requires : goal.index-requires
index-requires c =
    let below : c.args.f.0 < length c.self.inside.slots.items = within _ _ _ c.self.invariant (subst (λ (v : Frames). IsUsed v.used c.args.f.0) (sym c.self.view_is) c.requires) in
    omega (arith, below, c.self.inside.slots.ok)

pub returns : goal.returns
returns c =
    let used : IsUsed (all_used c.self.inside.slots.items c.self.inside.chains) c.args.f.0 = subst (λ (v : Frames). IsUsed v.used c.args.f.0) (sym c.self.view_is) c.requires in
    let read = get_or_read c.self.inside.slots.items c.args.f.0 c.index.result.now (within _ _ _ c.self.invariant used) c.index.ensures (record { series = 0; leaf = [] }) in
    subst (λ (v : Frames). c.index.result.now.series ≡ series_of v.used c.args.f.0) c.self.view_is (ap (λ (s : Slot). s.series) read ∙ seen_series _ _ _ c.self.invariant used)

-- How a forest keeps its world where leaves are entered and points put.
use Rattle.std.proofs.Common.{◌≡◌, ℕ, ◌+◌, ◌<◌, ◌≤◌, [], ◌∷◌, ◌++◌, length, get_or, slice_set, Some, None, refl, sym, subst}
use Rattle.std.specs.Prelude.{IfSome}
use Rattle.ak_base.specs.Points.{IsPoint, last_ts_from}
use Rattle.ak_base.specs.declared.point.Point.{Point}
use Rattle.ak_image.specs.Laid.{spot}
use Rattle.ak_levels.specs.Carries.{carry_of}
use Rattle.ak_meta.specs.Leaves.{closed_in, leaves_at}
use Rattle.ak_pool.specs.Frames.{frames_of, used_frame, leaf_of, moved_first, with_leaf, without}
use Rattle.ak_pool.specs.declared.pool.Frame.{Frame}
use Rattle.ak_tree.specs.Standing.{Trees, AreTrees, Keeps, last_known}
use Rattle.ak_tree.proofs.Entering.{meta_entered, keeps_entered, trees_are}
use Rattle.ak_tree.proofs.Framing.{keeps_written, keeps_begun}
use Rattle.ak_volumes.specs.Ordinals.{filled, newest_fill}
use Rattle.ak_world.specs.Steps.{added, entered, group_of}
use Rattle.ak_world.specs.Worlds.{World}

-- the open leaf of a series is entered as its next leaf
pub entered_keeps : (w : World) (f new : Trees) (n others : ℕ) (frame : Frame) → AreTrees f → Keeps w f → n < length f.meta.series → get_or f.frames n None ≡ Some frame
    → others ≡ carry_of (leaves_at f.meta.series n) → newest_fill f.meta.ordinals + (1 + others) ≤ f.meta.ordinals.blocks
    → new.meta ≡ closed_in (record f.meta { ordinals = filled f.meta.ordinals (1 + others) }) n (last_ts_from 0 (leaf_of f.pool.used frame.0)) (spot f.meta.ordinals)
    → new.pool ≡ frames_of f.pool.count (without f.pool.used frame.0) → new.frames ≡ slice_set f.frames n None → new.check ≡ f.check → new.since ≡ f.since + 1
    → Keeps (entered w n (group_of w n)) new
entered_keeps w f new n others frame are keeps within is top room meta pool frames check since =
    subst (Keeps (entered w n (group_of w n)))
    (sym (trees_are new (meta_entered f.meta n (leaf_of f.pool.used frame.0) others) (frames_of f.pool.count (without f.pool.used frame.0)) (slice_set f.frames n None) new.levels f.check (f.since + 1) meta pool frames refl check since))
    (keeps_entered w f n frame others new.levels are keeps is top room)

-- a point is put behind those of the open leaf of a series
pub extended_keeps : (w : World) (f : Trees) (n : ℕ) (p : Point) (frame : Frame) → AreTrees f → Keeps w f → n < length f.meta.series → get_or f.frames n None ≡ Some frame → IsPoint p → IfSome (last_known f n) (λ last. last ≤ p.ts)
    → Keeps (added n p w) (record f { pool = frames_of f.pool.count (moved_first (with_leaf f.pool.used frame.0 (leaf_of f.pool.used frame.0 ++ p ∷ [])) frame.0) })
extended_keeps w f n p frame are keeps within is point below = keeps_written w f n frame p are keeps is point below

-- the open leaf of a series begins with a point
pub started_keeps : (w : World) (f : Trees) (n : ℕ) (p : Point) (frame : Frame) → AreTrees f → Keeps w f → n < length f.meta.series → get_or f.frames n None ≡ None → IsPoint p → IfSome (last_known f n) (λ last. last ≤ p.ts)
    → Keeps (added n p w) (record f { pool = frames_of f.pool.count (used_frame frame.0 n (p ∷ []) ∷ f.pool.used); frames = slice_set f.frames n (Some frame) })
started_keeps w f n p frame are keeps within none point below = keeps_begun w f n frame p are keeps within none point below

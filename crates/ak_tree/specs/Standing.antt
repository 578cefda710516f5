-- What a forest stands for.
use Rattle.std.specs.Prelude.{ℕ, zero, suc, ◌≡◌, ◌≢◌, ◌⊎◌, ◌+◌, ◌-◌, ◌*◌, ◌^◌, ◌<◌, ◌≤◌, true, false, List, [], ◌∷◌, ◌++◌, length, map, get_or, slice_index_or, Option, Some, None}
use Rattle.std.specs.List.{AllByRecursion}
use Rattle.ak_base.specs.Points.{last_ts_from}
use Rattle.ak_base.specs.declared.point.Point.{Point}
use Rattle.ak_gate.specs.Fits.{IsSized, Fits}
use Rattle.ak_host.specs.Moments.{HostState}
use Rattle.ak_image.specs.Blocks.{AreThere}
use Rattle.ak_image.specs.Planted.{AreAllLawful}
use Rattle.ak_leaf.specs.Spelling.{leaf_size}
use Rattle.ak_levels.specs.Carries.{carry_of}
use Rattle.ak_levels.specs.Pending.{Lists, no_lists}
use Rattle.ak_meta.specs.Contents.{Content, IsMeta, size_of, leaves_of}
use Rattle.ak_meta.specs.Leaves.{leaves_at}
use Rattle.ak_meta.specs.declared.meta.SeriesMeta.{SeriesMeta}
use Rattle.ak_pool.specs.Frames.{Frames, Used, AreFrames, IsUsed, leaf_of, series_of}
use Rattle.ak_pool.specs.declared.pool.Frame.{Frame}
use Rattle.ak_tree.specs.Storing.{IsStored}
use Rattle.ak_checkpoint.specs.Saving.{Saving}
use Rattle.ak_volumes.specs.Ordinals.{newest, file_of}
use Rattle.ak_world.specs.Leaves.{Series}
use Rattle.ak_world.specs.Steps.{written_in}
use Rattle.ak_world.specs.Valid.{IsWorld}
use Rattle.ak_world.specs.Worlds.{World, content_now, kept_now, time_of}

-- A frame that is used: of a known series, whose frame it is, and with points that fit a leaf.
pub record IsOpenLeaf (frames : List (Option Frame)) (u : Used) : Type 0 where
  pub known : u.series < length frames
  pub is : get_or frames u.series None ≡ Some (record { 0 = u.frame })
  pub some : u.leaf ≢ []
  pub fits : leaf_size u.leaf ≤ 4032

-- the frame of a series with an open leaf is used by it
abbrev pub AreFramed : List Used → List (Option Frame) → Type 0
AreFramed used frames = (n : ℕ) (f : Frame) → get_or frames n None ≡ Some f → IsUsed used f.0 × (series_of used f.0 ≡ n)

-- The frames are those of the series with open leaves, of so many series.
pub record ArePooled (pool : Frames) (frames : List (Option Frame)) (count : ℕ) : Type 0 where
  pub frames_are : AreFrames pool
  pub number : length frames ≡ count
  pub each : AllByRecursion (IsOpenLeaf frames) pool.used
  pub framed : AreFramed pool.used frames

-- What contracts see of a forest: what a view would say of it, the frames of open leaves and each series' frame, what waits of
-- each series, the views that it takes, and how many leaves were closed since the last one.
pub record Trees : Type 0 where
  pub meta : Content
  pub pool : Frames
  pub frames : List (Option Frame)
  pub levels : List Lists
  pub check : Saving
  pub since : ℕ

abbrev pub trees : Content → Frames → List (Option Frame) → List Lists → Saving → ℕ → Trees
trees meta pool frames levels check since = record { meta = meta; pool = pool; frames = frames; levels = levels; check = check; since = since }

-- what waits of a series
abbrev pub levels_at : Trees → ℕ → Lists
levels_at f n = slice_index_or f.levels n no_lists

-- The record is lawful and fits a slot, there are as many frames as the limits say, and what waits is lawful.
pub record AreTrees (f : Trees) : Type 0 where
  pub rules_are : IsMeta f.meta
  pub room : 16 + size_of f.meta ≤ 4096 * f.meta.limits.slot
  pub slot_is : f.check.gate.slot ≡ f.meta.limits.slot
  pub count : f.pool.count ≡ f.meta.limits.pool
  pub pooled : ArePooled f.pool f.frames (length f.meta.series)
  pub lawful : AreAllLawful f.meta.series f.levels
  pub since : f.since ≤ leaves_of f.meta.series

-- Leaves can be closed and views can be taken, on any disk.
pub record IsReady (told : Type 0) (f : Trees) (host : HostState) : Type 0 where
  pub whole : f.check.gate.broken ≡ false
  pub opened : f.check.gate.is_open ≡ true
  pub none_pending : f.check.pending ≡ false
  pub number : f.check.number ≡ f.check.gate.number
  pub sized : IsSized f.check.gate.slot host
  pub there : AreThere f.meta.ordinals host
  pub fits : told → Fits f.check.gate host

-- The forest holds the world: what a record says of it, and the points of the open leaves.
pub record Keeps (w : World) (f : Trees) : Type 0 where
  pub not_worn : w.worn ≡ false
  pub valid : IsWorld w
  pub content_is : f.meta ≡ content_now w
  pub since_is : f.since ≡ w.since
  pub number_is : f.check.number ≡ w.last.number
  pub recent_is : map (λ (u : Used). u.series) f.pool.used ≡ w.recent
  pub open_leaves : AllByRecursion (λ (u : Used). written_in w.series u.series ≡ u.leaf) f.pool.used
  pub others : (n : ℕ) → n < length w.series → get_or f.frames n None ≡ None → written_in w.series n ≡ []

-- The forest has what a world holds that is worn: what a record says of it, and the points of the open leaves.
pub record KeepsWorn (w : World) (f : Trees) : Type 0 where
  pub worn : w.worn ≡ true
  pub content_is : f.meta ≡ content_now w
  pub since_is : f.since ≡ w.since
  pub number_is : f.check.number ≡ w.last.number
  pub recent_is : map (λ (u : Used). u.series) f.pool.used ≡ w.recent
  pub open_leaves : AllByRecursion (λ (u : Used). written_in w.series u.series ≡ u.leaf) f.pool.used
  pub others : (n : ℕ) → n < length w.series → get_or f.frames n None ≡ None → written_in w.series n ≡ []

-- the number of the first leaf that was live at the opening
abbrev pub base_of : Series → ℕ
base_of s = s.leaves - length s.closed

abbrev pub bases_of : World → List ℕ
bases_of w = map base_of w.series

-- The forest holds the world, and so does the disk: whatever a stop leaves stands for the last view.
pub record Holds (w : World) (f : Trees) (host : HostState) : Type 0 where
  pub keeps : Keeps w f
  pub stored : IsStored w.last (content_now w) (kept_now w) (bases_of w) f.levels (file_of w.ordinals (newest w.ordinals)) host

-- the open leaf of a series, where it has one
abbrev pub leaf_in : Frames → Option Frame → List Point
leaf_in pool None = []
leaf_in pool (Some f) = leaf_of pool.used f.0

-- the levels that the next leaf of a series pushes to have their places
abbrev pub HasPlaces : Trees → ℕ → Type 0
HasPlaces f n = (k : ℕ) → k ≤ carry_of (leaves_at f.meta.series n) → slice_index_or (levels_at f n).placed k false ≡ true

-- nothing has changed but which levels have places
pub record IsSameButPlaces (old new : Trees) : Type 0 where
  pub others : new ≡ record old { levels = new.levels }
  pub pending : map (λ (v : Lists). v.pending) new.levels ≡ map (λ (v : Lists). v.pending) old.levels

-- closing the leaf of this number opens a level: the first node of it waits then
abbrev pub OpensLevel : ℕ → Type 0
OpensLevel m = (k : ℕ) × (suc m ≡ 32 ^ k)

-- The series whose leaf is closed before a point is added: its own, where the leaf has no room for the point, or the one that was
-- written least recently, where the series has no leaf and all frames are used.
abbrev pub IsClosedFor : Trees → ℕ → Point → ℕ → Type 0
IsClosedFor f series p n =
    ((frame : Frame) × (get_or f.frames series None ≡ Some frame) × (4032 < leaf_size (leaf_of f.pool.used frame.0 ++ p ∷ [])) × (n ≡ series))
    ⊎ ((get_or f.frames series None ≡ None) × (f.pool.count ≤ length f.pool.used) × (front : List Used) × (last : Used) × (f.pool.used ≡ front ++ last ∷ []) × (n ≡ last.series))

-- the timestamp of the last point of a series
abbrev pub last_of_series : List SeriesMeta → ℕ → Option ℕ
last_of_series [] n = None
last_of_series (s ∷ series) zero = time_of s
last_of_series (s ∷ series) (suc n) = last_of_series series n

abbrev pub last_behind : Option ℕ → List Point → Option ℕ
last_behind before [] = before
last_behind before (p ∷ ps) = Some (last_ts_from p.ts ps)

-- the last timestamp as the forest knows it: of the open leaf, or else of the last closed one
abbrev pub last_known : Trees → ℕ → Option ℕ
last_known f n = last_behind (last_of_series f.meta.series n) (leaf_in f.pool (get_or f.frames n None))

-- What a feed has and gives.
use Rattle.std.specs.Prelude.{◌≡◌, ℕ, zero, suc, ◌+◌, ◌-◌, ◌^◌, ◌≤◌, ◌⊎◌, min, List, [], ◌∷◌, Option, Some, None}
use Rattle.ak_base.specs.declared.stop.Stop.{Stop}
use Rattle.ak_base.specs.declared.stop.Stop.TheVariants.{Damaged, Disk, Memory}
use Rattle.ak_base.specs.declared.range.Range.{Range}
use Rattle.ak_base.specs.declared.filter.Filter.{Filter}
use Rattle.ak_query.specs.declared.query.Kind.{Kind}
use Rattle.ak_summary.specs.declared.summary.Summary.{Summary}
use Rattle.ak_summary.specs.Summaries.{IsBounded}

-- what a feed's meaning keeps of the query that it was made for; a group-aggregate's kind has the step
pub record Asked : Type 0 where
  pub kind : Kind
  pub range : Range
  pub filter : Filter

-- a start and the summary of the points of the step that begins there
abbrev pub Bucket : Type 0
Bucket = ℕ × Summary

-- a call takes the first of what was to come, and answers none where there was nothing
abbrev pub Gives : {A : Type 0} → List A → Option A → List A → Type 0
Gives before None now = (before ≡ []) × (now ≡ [])
Gives before (Some x) now = before ≡ x ∷ now

-- a bucket's count isn't over the bound, and its sum is from count * min to count * max
abbrev pub IsWithin : ℕ → Option Bucket → Type 0
IsWithin bound None = Unit {0}
IsWithin bound (Some b) = (b.1.count ≤ bound) × IsBounded b.1

-- a count rose, or stood at its end
abbrev pub Rose : ℕ → ℕ → Type 0
Rose before now = min (before + 1) (2 ^ 64 - 1) ≤ now

-- Why a call stops: a fault of the disk in it, a block that is damaged, or want of memory.
abbrev pub IsFeedStop : ℕ → ℕ → (ℕ → ℕ → Type 0) → Stop → Type 0
IsFeedStop before now damaged stop =
    ((stop ≡ Disk) × Rose before now)
    ⊎ (((file : ℕ) × (block : ℕ) × (stop ≡ Damaged file block) × damaged file block) ⊎ (stop ≡ Memory))

-- the bounds of the series below a number, together
abbrev pub together : (ℕ → ℕ) → ℕ → ℕ
together bound zero = 0
together bound (suc n) = together bound n + bound n

-- No call changes what a feed was made for, its series or their bounds; no count falls, and no block becomes damaged.
pub record Moves {S : Type 0} (asked : S → Asked) (count : S → ℕ) (bound : S → ℕ → ℕ) (faults : S → ℕ) (damaged : S → ℕ → ℕ → Type 0) (old new : S) : Type 0 where
  pub asked_same : asked new ≡ asked old
  pub count_same : count new ≡ count old
  pub bound_same : (s : ℕ) → bound new s ≡ bound old s
  pub faults_more : faults old ≤ faults new
  pub damaged_before : (file block : ℕ) → damaged new file block → damaged old file block

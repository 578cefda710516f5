-- The live leaves of a series, one behind another.
use Rattle.std.specs.Prelude.{ℕ, zero, suc, ◌≡◌, ◌+◌, ◌<◌, List, [], ◌∷◌, length}
use Rattle.ak_base.specs.Points.{IsHistory}
use Rattle.ak_image.specs.Blocks.{Seen}
use Rattle.ak_image.specs.Scans.{IsLeafOf}
use Rattle.ak_meta.specs.Contents.{rescue_at}
use Rattle.ak_meta.specs.declared.meta.SeriesMeta.{SeriesMeta}
use Rattle.ak_volumes.specs.Ordinals.{ordinal_of}
use Rattle.ak_world.specs.Leaves.{Leaf, points_of}
use Rattle.ak_world.specs.Valid.{AreNumbered}
use Rattle.ak_world.specs.Views.{none, last_time}

-- The address of what stands before a number and isn't live: none before number 0, dead before any other.
abbrev pub IsGone : ℕ → ℕ → ℕ → Type 0
IsGone lo zero a = a ≡ none
IsGone lo (suc m) a = ordinal_of a < lo

-- each leaf names the address of the one before it as its elder, and this is the address of the last
abbrev pub AreLinked : Seen → ℕ → ℕ → List Leaf → ℕ → Type 0
AreLinked seen series before [] last = last ≡ before
AreLinked seen series before (leaf ∷ leaves) last = IsLeafOf seen series before leaf × AreLinked seen series leaf.address leaves last

-- The live leaves of a series of which the record says this: their numbers are consecutive and end at the leaf count, each
-- names its elder, the rescue address of level 0 is that of the last, their points are a history, and the last timestamp is
-- the record's.
pub record IsChain (seen : Seen) (lo series : ℕ) (known : SeriesMeta) (leaves : List Leaf) : Type 0 where
  pub first : ℕ
  pub numbers : AreNumbered first leaves
  pub count : first + length leaves ≡ known.leaves
  pub before : ℕ
  pub gone : IsGone lo first before
  pub links : AreLinked seen series before leaves (rescue_at known.rescue 0)
  pub history : IsHistory (points_of leaves)
  pub last : last_time known.last leaves ≡ known.last

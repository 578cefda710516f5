-- Worlds as runs lead to them.
use Rattle.std.specs.Prelude.{ℕ, zero, suc, ◌≡◌, ◌≢◌, ◌+◌, ◌<◌, ◌≤◌, if◌then◌else◌, List, [], ◌∷◌, ◌++◌, length, Option, Some}
use Rattle.std.specs.List.{AllByRecursion}
use Rattle.ak_base.specs.Points.{IsPoint, IsHistoryFrom, last_ts_from}
use Rattle.ak_base.specs.declared.point.Point.{Point}
use Rattle.ak_meta.specs.Contents.{IsMeta}
use Rattle.ak_meta.specs.declared.meta.SeriesMeta.{SeriesMeta}
use Rattle.ak_volumes.specs.Ordinals.{Ordinals, AreOrdinals, IsLive}
use Rattle.ak_world.specs.Leaves.{Leaf, Series, leaves_from, points_of, accepted_points}
use Rattle.ak_world.specs.Steps.{is_empty, written_in}
use Rattle.ak_world.specs.Views.{View, last_time, known_of}
use Rattle.ak_world.specs.Worlds.{World, views_of, limits_of, time_of}

-- consecutive numbers from one on
abbrev pub AreNumbered : ℕ → List Leaf → Type 0
AreNumbered first [] = Unit {0}
AreNumbered first (leaf ∷ leaves) = (leaf.number ≡ first) × AreNumbered (suc first) leaves

-- one leaf more of a series
abbrev pub kept_with : List (List Leaf) → ℕ → Leaf → List (List Leaf)
kept_with [] n leaf = []
kept_with (leaves ∷ kept) zero leaf = (leaves ++ leaf ∷ []) ∷ kept
kept_with (leaves ∷ kept) (suc n) leaf = leaves ∷ kept_with kept n leaf

-- ---- Views that can be opened

-- The leaves of a series, of which the record says this, are live, their numbers are consecutive and end at the leaf count,
-- and the last timestamp is the record's.
pub record IsOpenable (lo : ℕ) (known : SeriesMeta) (leaves : List Leaf) : Type 0 where
  pub live : leaves_from lo leaves ≡ leaves
  pub first : ℕ
  pub numbers : AreNumbered first leaves
  pub count : first + length leaves ≡ known.leaves
  pub last : last_time known.last leaves ≡ known.last

-- the leaves of each series
abbrev pub AreOpenable : ℕ → List SeriesMeta → List (List Leaf) → Type 0
AreOpenable lo [] kept = kept ≡ []
AreOpenable lo (known ∷ others) [] = ⊥
AreOpenable lo (known ∷ others) (leaves ∷ kept) = IsOpenable lo known leaves × AreOpenable lo others kept

-- ---- Series

-- the timestamp of the last point: of the open leaf, or else of the last closed one
abbrev pub last_now : SeriesMeta → List Point → Option ℕ
last_now known written = if is_empty written then time_of known else Some (last_ts_from 0 written)

-- A series of which the opening record says this. Its closed leaves have consecutive numbers that end at its leaf count, and
-- all that were closed since the opening are among them. The open leaf's points go on from the last closed one.
pub record IsSeriesOf (opened : SeriesMeta) (s : Series) : Type 0 where
  pub first : ℕ
  pub numbers : AreNumbered first s.closed
  pub count : first + length s.closed ≡ s.leaves
  pub least : first ≤ opened.leaves
  pub most : opened.leaves ≤ s.leaves
  pub history : IsHistoryFrom (last_time opened.last s.closed) s.written
  pub each : AllByRecursion IsPoint s.written
  pub last_is : s.last ≡ last_now (known_of opened s) s.written

-- what is said of a series that the opening view doesn't have
abbrev pub unknown : List ℕ → SeriesMeta
unknown name = record { name = name; leaves = 0; last = 0; rescue = [] }

abbrev pub AreSeriesOf : List SeriesMeta → List Series → Type 0
AreSeriesOf opened [] = opened ≡ []
AreSeriesOf [] (s ∷ ss) = IsSeriesOf (unknown s.name) s × AreSeriesOf [] ss
AreSeriesOf (o ∷ opened) (s ∷ ss) = IsSeriesOf o s × AreSeriesOf opened ss

-- ---- Views of a world

-- Of the closed leaves of a series, those it had when the view was taken stand first, as many as its record says, and those
-- that were closed later behind them. So the points of the first are a prefix of those that were accepted. The view holds the
-- live ones of the first.
pub record IsHeld (lo : ℕ) (known : SeriesMeta) (kept : List Leaf) (s : Series) : Type 0 where
  pub name : known.name ≡ s.name
  pub had : List Leaf
  pub later : List Leaf
  pub closed : s.closed ≡ had ++ later
  pub count : known.leaves + length later ≡ s.leaves
  pub rest : List Point
  pub points : accepted_points s ≡ points_of had ++ rest
  pub kept_is : kept ≡ leaves_from lo had

-- so a view holds the leaves of each series of its record; series behind those came later
abbrev pub AreHeld : ℕ → List SeriesMeta → List (List Leaf) → List Series → Type 0
AreHeld lo [] kept ss = kept ≡ []
AreHeld lo (known ∷ others) [] ss = ⊥
AreHeld lo (known ∷ others) (leaves ∷ kept) [] = ⊥
AreHeld lo (known ∷ others) (leaves ∷ kept) (s ∷ ss) = IsHeld lo known leaves s × AreHeld lo others kept ss

-- a view of this world holds prefixes of what was accepted
abbrev pub IsPrefix : List Series → View → Type 0
IsPrefix ss view = AreHeld view.content.ordinals.lo view.content.series view.kept ss

-- the live ordinals of the last view are those that are live now, and no fill is greater
pub record IsBehind (old new : Ordinals) : Type 0 where
  pub volumes : new.volumes ≡ old.volumes
  pub blocks : new.blocks ≡ old.blocks
  pub lo : new.lo ≡ old.lo
  pub number : length new.fills ≡ length old.fills
  pub live : (a : ℕ) → IsLive old a → IsLive new a

-- ---- The world

-- A world that was opened with a lawful view and that turns lead to.
pub record IsWorld (w : World) : Type 0 where
  pub rules_are : IsMeta w.opened.content
  pub limits_are : w.last.content.limits ≡ limits_of w
  pub lawful : AreOrdinals w.ordinals
  pub volumes : w.ordinals.volumes ≡ (limits_of w).volumes
  pub blocks : w.ordinals.blocks ≡ (limits_of w).blocks
  pub behind : IsBehind w.last.content.ordinals w.ordinals
  pub series : AreSeriesOf w.opened.content.series w.series
  pub recent : AllByRecursion (λ n. (n < length w.series) × (written_in w.series n ≢ [])) w.recent
  pub held : AllByRecursion (IsPrefix w.series) (views_of w)

-- each of these views has a greater number than the one before it, and the first a greater one than this
abbrev pub Rise : ℕ → List View → Type 0
Rise n [] = Unit {0}
Rise n (view ∷ views) = (n < view.number) × Rise view.number views

-- The opening view is the same. The views of the new world are those of the old one and others, whose numbers rise from that
-- of its last.
pub record Goes (old new : World) : Type 0 where
  pub opened : new.opened ≡ old.opened
  pub more : List View
  pub views : views_of new ≡ views_of old ++ more
  pub numbers : Rise old.last.number more

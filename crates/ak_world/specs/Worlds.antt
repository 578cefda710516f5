-- What a store holds.
use Rattle.std.specs.Prelude.{ℕ, ◌+◌, ◌-◌, ◌^◌, ◌==◌, nat_le, if◌then◌else◌, Bool, true, false, List, [], ◌∷◌, ◌++◌, map, Option, Some, None}
use Rattle.ak_base.specs.declared.limits.Limits.{Limits}
use Rattle.ak_meta.specs.Contents.{Content, content}
use Rattle.ak_meta.specs.declared.meta.SeriesMeta.{SeriesMeta}
use Rattle.ak_volumes.specs.Ordinals.{Ordinals}
use Rattle.ak_world.specs.Leaves.{Leaf, Series, leaves_from}
use Rattle.ak_world.specs.Views.{View, all_known}

-- The view that the store was opened with, the views before the last one, the last, the live ordinals, how many leaves were
-- closed since the last view, the numbers of the series that have an open leaf, the one written last first, the series, and
-- whether the store is worn.
pub record World : Type 0 where
  pub opened : View
  pub earlier : List View
  pub last : View
  pub ordinals : Ordinals
  pub since : ℕ
  pub recent : List ℕ
  pub series : List Series
  pub worn : Bool

-- all views in order, the opening one first
abbrev pub views_of : World → List View
views_of w = w.earlier ++ w.last ∷ []

abbrev pub limits_of : World → Limits
limits_of w = w.opened.content.limits

-- the timestamp of the last point that a record tells, where there are leaves
abbrev pub time_of : SeriesMeta → Option ℕ
time_of known = if known.leaves == 0 then None else Some known.last

-- a series as it is opened, with the leaves that are live
abbrev pub series_of : SeriesMeta → List Leaf → Series
series_of known kept = record { name = known.name; closed = kept; written = []; leaves = known.leaves; last = time_of known }

abbrev pub all_series : List SeriesMeta → List (List Leaf) → List Series
all_series [] kept = []
all_series (known ∷ others) [] = series_of known [] ∷ all_series others []
all_series (known ∷ others) (leaves ∷ kept) = series_of known leaves ∷ all_series others kept

-- as a view is opened
abbrev pub world_of : View → World
world_of v = record {
  opened = v;
  earlier = [];
  last = v;
  ordinals = v.content.ordinals;
  since = 0;
  recent = [];
  series = all_series v.content.series v.kept;
  worn = false;
}

abbrev pub worn_world : World → World
worn_world w = record w { worn = true }

-- what a record of it says now
abbrev pub content_now : World → Content
content_now w = content (limits_of w) w.ordinals (all_known w.opened.content.series w.series)

-- the closed leaves of each series that are live
abbrev pub kept_now : World → List (List Leaf)
kept_now w = map (λ (s : Series). leaves_from w.ordinals.lo s.closed) w.series

-- the view that is due
abbrev pub next_view : World → View
next_view w = record { number = w.last.number + 1; content = content_now w; kept = kept_now w }

-- A view is taken. Behind the greatest number none can be, and the store is worn.
abbrev pub after_view : World → World
after_view w = if nat_le (2 ^ 64 - 1) w.last.number then worn_world w else record w { earlier = views_of w; last = next_view w; since = 0 }

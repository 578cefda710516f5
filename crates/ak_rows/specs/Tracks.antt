-- Tracks one behind the other, each with its members.
use Rattle.std.specs.Prelude.{◌≡◌, ◌≢◌, ℕ, suc, ◌<◌, Bool, true, false, List, [], ◌∷◌, map, set, get_or, length}
use Rattle.std.specs.List.{AllByRecursion}
use Rattle.ak_base.specs.declared.point.Point.{Point}
use Rattle.ak_query.specs.declared.query.Kind.TheVariants as K
use Rattle.ak_rows.specs.Ahead.{lane_points, no_lane, IsApart, AreApart, AreLater, IsReady, IsHad, IsInOrder}
use Rattle.ak_rows.specs.Answers.{ordered, track_lines}
use Rattle.ak_rows.specs.Coming.{coming, AreInOrder, IsTaken}
use Rattle.ak_rows.specs.Lines.{Line}
use Rattle.ak_rows.specs.Sorted.{turned}
use Rattle.ak_rows.specs.ToCome.{numbered, rising_of}
use Rattle.ak_rows.specs.declared.points.Head.TheVariants.{Ended}
use Rattle.ak_rows.specs.declared.points.Lane.{Lane}
use Rattle.ak_rows.specs.declared.row.Row.{Row}

-- a track without members
abbrev pub no_lanes : List Lane
no_lanes = []

-- what the members of each track still have to give
abbrev pub contents : (ℕ → List Point) → List (List Lane) → List (List (List Point))
contents points tracks = map (λ (t : List Lane). map (lane_points points) t) tracks

-- the rows of a select by series that are still to come
abbrev pub select_rows : Bool → (ℕ → List Point) → List (List Lane) → List Line
select_rows back points tracks = ordered false back (numbered 0 (λ n (t : List Lane). track_lines K.Select back n (rising_of back (map (lane_points points) t))) tracks)

-- no member of a track is one of these tracks, where neither has ended
abbrev pub AreElsewhere : List Lane → List (List Lane) → Type 0
AreElsewhere t ts = AllByRecursion (λ (l : Lane). AllByRecursion (λ (u : List Lane). AllByRecursion (IsApart l) u) ts) t

-- no series stands twice among all members that haven't ended
abbrev pub AreAllApart : List (List Lane) → Type 0
AreAllApart [] = Unit {0}
AreAllApart (t ∷ ts) = AreApart t × AreElsewhere t ts × AreAllApart ts

-- the same members, and each that had ended has
abbrev pub AreAllLater : List (List Lane) → List (List Lane) → Type 0
AreAllLater [] [] = Unit {0}
AreAllLater [] (u ∷ us) = ⊥
AreAllLater (t ∷ ts) [] = ⊥
AreAllLater (t ∷ ts) (u ∷ us) = AreLater t u × AreAllLater ts us

-- all members of a track have ended
abbrev pub HaveEnded : List Lane → Type 0
HaveEnded t = AllByRecursion (λ (l : Lane). l.head ≡ Ended) t

-- What each member has comes in order.
abbrev pub AreAllInOrder : Bool → (ℕ → List Point) → List (List Lane) → Type 0
AreAllInOrder back points tracks = AllByRecursion (λ (t : List Lane). AreInOrder back points t) tracks

abbrev pub AreAllHad : (ℕ → Type 0) → List (List Lane) → Type 0
AreAllHad can tracks = AllByRecursion (λ (t : List Lane). AllByRecursion (IsHad can) t) tracks

abbrev pub AreAllReady : ℕ → List (List Lane) → Type 0
AreAllReady count tracks = AllByRecursion (λ (t : List Lane). AllByRecursion (IsReady count) t) tracks

-- One track gave its next row, or has ended: its members are now these, and all others stay.
pub record IsTurned (back : Bool) (can : ℕ → Type 0) (before now : ℕ → List Point) (k : ℕ) (taken : Bool) (row : Row) (old new : List (List Lane)) : Type 0 where
  pub lanes : List Lane
  pub are : new ≡ set old k lanes
  pub later : AreLater (get_or old k no_lanes) lanes
  pub rows : AllByRecursion (IsHad can) (get_or old k no_lanes) → AreInOrder back before (get_or old k no_lanes)
      → IsTaken taken row (coming K.Select back k before (get_or old k no_lanes)) (coming K.Select back k now lanes)
  pub order : AllByRecursion (IsHad can) (get_or old k no_lanes) → AreInOrder back before (get_or old k no_lanes) → AreInOrder back now lanes
  pub ended : taken ≡ false → HaveEnded lanes

-- the tracks before this place have ended
abbrev pub HavePassed : ℕ → List (List Lane) → Type 0
HavePassed n tracks = (k : ℕ) → k < n → HaveEnded (get_or tracks k no_lanes)

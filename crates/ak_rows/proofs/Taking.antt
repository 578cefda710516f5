-- A track whose members are asked and which then gives its next row.
use Rattle.std.proofs.Common.{◌≡◌, ◌≢◌, ℕ, zero, suc, ◌<◌, Bool, true, false, List, [], ◌∷◌, length, map, get_or, refl, ap, subst, sym, arith}
use Rattle.std.specs.List.{AllByRecursion}
use Rattle.ak_base.specs.declared.point.Point.{Point}
use Rattle.ak_query.specs.declared.query.Kind.{Kind}
use Rattle.ak_rows.specs.Ahead.{lane_points, no_lane, IsInOrder}
use Rattle.ak_rows.specs.Answers.{track_lines}
use Rattle.ak_rows.specs.Coming.{coming, AreInOrder, IsTaken}
use Rattle.ak_rows.specs.Picks.{HeadIs}
use Rattle.ak_rows.specs.Sorted.{turned}
use Rattle.ak_rows.specs.Tracks.{HaveEnded}
use Rattle.ak_rows.specs.declared.points.Head.{Head}
use Rattle.ak_rows.specs.declared.points.Head.TheVariants.{Unasked, Ended, At}
use Rattle.ak_rows.specs.declared.points.Lane.{Lane}
use Rattle.ak_rows.specs.declared.row.Row.{Row}

ended_head : (h : Head) → h ≢ Unasked → HeadIs (λ t. ⊥) h → h ≡ Ended
ended_head Unasked known none = absurd (known refl)
ended_head Ended known none = refl
ended_head (At p) known none = absurd none

pub ended_lanes : (ls : List Lane) → AllByRecursion (λ (l : Lane). l.head ≢ Unasked) ls → ((k : ℕ) → k < length ls → HeadIs (λ t. ⊥) (get_or ls k no_lane).head) → HaveEnded ls
ended_lanes [] known none = tt
ended_lanes (l ∷ ls) known none = (ended_head l.head known.0 (none zero (omega arith)), ended_lanes ls known.1 (λ k less. none (suc k) (omega (arith, less))))

pub all_mapped : {A B : Type 0} (f : A → B) (P : B → Type 0) (xs : List A) → AllByRecursion (λ x. P (f x)) xs → AllByRecursion P (map f xs)
all_mapped f P [] all = tt
all_mapped f P (x ∷ xs) all = (all.0, all_mapped f P xs all.1)

pub all_unmapped : {A B : Type 0} (f : A → B) (P : B → Type 0) (xs : List A) → AllByRecursion P (map f xs) → AllByRecursion (λ x. P (f x)) xs
all_unmapped f P [] all = tt
all_unmapped f P (x ∷ xs) all = (all.0, all_unmapped f P xs all.1)

-- what is to come is the same, and so is its order
pub order_same : (back : Bool) (points later : ℕ → List Point) (ls ms : List Lane) → map (lane_points later) ms ≡ map (lane_points points) ls → AreInOrder back points ls → AreInOrder back later ms
order_same back points later ls ms same order =
    all_unmapped (lane_points later) (IsInOrder back) ms (subst (AllByRecursion (IsInOrder back)) (sym same) (all_mapped (lane_points points) (IsInOrder back) ls order))

pub coming_same : (kind : Kind) (back : Bool) (track : ℕ) (points later : ℕ → List Point) (ls ms : List Lane) → map (lane_points later) ms ≡ map (lane_points points) ls
    → coming kind back track later ms ≡ coming kind back track points ls
coming_same kind back track points later ls ms same = ap (λ (xss : List (List Point)). turned back (track_lines kind back track (map (turned back) xss))) same

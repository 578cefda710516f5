-- Members of which nothing is known are apart, where no series stands twice.
use Rattle.std.proofs.Common.{◌≡◌, ◌≢◌, ℕ, ◌-◌, ◌^◌, Bool, true, false, List, [], ◌∷◌, ◌++◌, map, refl, ap, subst, ◌∙◌, sym, arith}
use Rattle.std.specs.Prelude.{nat_eq, flat_map, if◌then◌else◌}
use Rattle.std.specs.List.{AllByRecursion}
use Rattle.std.proofs.lemmas.Bool.Decides.{nat_tests}
use Rattle.ak_base.specs.declared.point.Point.{Point}
use Rattle.ak_names.specs.declared.tracks.Track.{Track}
use Rattle.ak_rows.specs.Ahead.{head_points, lane_points, IsApart, AreApart, IsHad, IsInOrder}
use Rattle.ak_rows.specs.Coming.{AreInOrder}
use Rattle.ak_rows.specs.Starts.{lane_of, lanes_in}
use Rattle.ak_rows.specs.ToCome.{missing, IsNew, AreDistinct}
use Rattle.ak_rows.specs.Tracks.{AreElsewhere, AreAllApart, AreAllHad, AreAllInOrder}
use Rattle.ak_rows.proofs.Lanes.{unasked_goes_on}
use Rattle.ak_rows.specs.declared.points.Head.{Head}
use Rattle.ak_rows.specs.declared.points.Head.TheVariants.{Unasked, Ended}
use Rattle.ak_rows.specs.declared.points.Lane.{Lane}

same_number : (s : ℕ) → s ≡ missing → nat_eq s (2 ^ 32 - 1) ≡ true
same_number s e = grind (arith, nat_tests)

missing_ended : (s : ℕ) → s ≡ missing → (lane_of s).head ≡ Ended
missing_ended s e = ap (λ (b : Bool). if b then Ended else Unasked) (same_number s e)

new_apart : (s : ℕ) (ss : List ℕ) → (s ≢ missing → AllByRecursion (λ (t : ℕ). t ≢ s) ss) → AllByRecursion (IsApart (lane_of s)) (map lane_of ss)
new_apart s [] new = tt
new_apart s (t ∷ ts) new =
    ((λ here there same. (new (λ e. here (missing_ended s e))).0 (sym same)), new_apart s ts (λ known. (new known).1))

pub starts_apart : (ss : List ℕ) → AreDistinct ss → AreApart (map lane_of ss)
starts_apart [] all = tt
starts_apart (s ∷ ss) all = (new_apart s ss all.0, starts_apart ss all.1)

-- of a part of the members
all_front : {A : Type 0} (P : A → Type 0) (xs ys : List A) → AllByRecursion P (xs ++ ys) → AllByRecursion P xs
all_front P [] ys all = tt
all_front P (x ∷ xs) ys all = (all.0, all_front P xs ys all.1)

pub distinct_front : (xs ys : List ℕ) → AreDistinct (xs ++ ys) → AreDistinct xs
distinct_front [] ys all = tt
distinct_front (x ∷ xs) ys all = ((λ known. all_front (λ (t : ℕ). t ≢ x) xs ys (all.0 known)), distinct_front xs ys all.1)

pub distinct_rest : (xs ys : List ℕ) → AreDistinct (xs ++ ys) → AreDistinct ys
distinct_rest [] ys all = all
distinct_rest (x ∷ xs) ys all = distinct_rest xs ys all.1

all_rest : {A : Type 0} (P : A → Type 0) (xs ys : List A) → AllByRecursion P (xs ++ ys) → AllByRecursion P ys
all_rest P [] ys all = all
all_rest P (x ∷ xs) ys all = all_rest P xs ys all.1

-- ---- Members of all tracks

new_elsewhere : (s : ℕ) (ts : List Track) → (s ≢ missing → AllByRecursion (λ (t : ℕ). t ≢ s) (flat_map (λ (t : Track). t.members) ts)) → AllByRecursion (λ (u : List Lane). AllByRecursion (IsApart (lane_of s)) u) (lanes_in ts)
new_elsewhere s [] new = tt
new_elsewhere s (t ∷ ts) new =
    let others : List ℕ = flat_map (λ (u : Track). u.members) ts in
    (new_apart s t.members (λ known. all_front (λ (u : ℕ). u ≢ s) t.members others (new known)), new_elsewhere s ts (λ known. all_rest (λ (u : ℕ). u ≢ s) t.members others (new known)))

starts_elsewhere : (ss : List ℕ) (ts : List Track) → AreDistinct (ss ++ flat_map (λ (t : Track). t.members) ts) → AreElsewhere (map lane_of ss) (lanes_in ts)
starts_elsewhere [] ts all = tt
starts_elsewhere (s ∷ ss) ts all =
    (new_elsewhere s ts (λ known. all_rest (λ (u : ℕ). u ≢ s) ss (flat_map (λ (t : Track). t.members) ts) (all.0 known)), starts_elsewhere ss ts all.1)

pub starts_all_apart : (ts : List Track) → AreDistinct (flat_map (λ (t : Track). t.members) ts) → AreAllApart (lanes_in ts)
starts_all_apart [] all = tt
starts_all_apart (t ∷ ts) all =
    let others : List ℕ = flat_map (λ (u : Track). u.members) ts in
    (starts_apart t.members (distinct_front t.members others all), starts_elsewhere t.members ts all, starts_all_apart ts (distinct_rest t.members others all))

-- ---- Order

begins : (back : Bool) (can : ℕ → Type 0) (points : ℕ → List Point) (s : ℕ) → ((u : ℕ) → can u → IsInOrder back (points u)) → IsHad can (lane_of s) → IsInOrder back (lane_points points (lane_of s))
begins back can points s order had = by (nat_eq s (2 ^ 32 - 1)) had
  where
    by : (b : Bool) → ((if b then Ended else Unasked) ≢ Ended → can s) → IsInOrder back (head_points (if b then Ended else Unasked) (points s))
    by true on = tt
    by false on = order s (on unasked_goes_on)

begins_track : (back : Bool) (can : ℕ → Type 0) (points : ℕ → List Point) (ss : List ℕ) → ((u : ℕ) → can u → IsInOrder back (points u)) → AllByRecursion (IsHad can) (map lane_of ss) → AreInOrder back points (map lane_of ss)
begins_track back can points [] order had = tt
begins_track back can points (s ∷ ss) order had = (begins back can points s order had.0, begins_track back can points ss order had.1)

pub begins_all : (back : Bool) (can : ℕ → Type 0) (points : ℕ → List Point) (ts : List Track) → ((u : ℕ) → can u → IsInOrder back (points u)) → AreAllHad can (lanes_in ts) → AreAllInOrder back points (lanes_in ts)
begins_all back can points [] order had = tt
begins_all back can points (t ∷ ts) order had = (begins_track back can points t.members order had.0, begins_all back can points ts order had.1)

-- All tracks, of which one gives its next row.
use Rattle.std.proofs.Common.{◌≡◌, ◌≢◌, ℕ, zero, suc, ◌+◌, ◌<◌, Bool, true, false, List, [], ◌∷◌, ◌++◌, length, map, get_or, set, take, drop, Vec, Global, Ok, Err, IfOk, OnOk, refl, ap, ap₂, subst, ◌∙◌, sym, arith}
use Rattle.std.specs.Prelude.{flat_map}
use Rattle.std.specs.List.{AllByRecursion}
use Rattle.std.proofs.lemmas.Grind.{common_steps}
use Rattle.std.proofs.lemmas.List.{map-set, get_or-map}
use Rattle.ak_rows.specs.Starts.{lists}
use Rattle.std.specs.declared.result.Result.{Result}
use Rattle.ak_base.specs.declared.point.Point.{Point}
use Rattle.ak_base.specs.declared.stop.Stop.{Stop}
use Rattle.ak_query.specs.declared.query.Kind.TheVariants as K
use Rattle.ak_rows.specs.Coming.{coming, AreInOrder, IsTaken}
use Rattle.ak_rows.specs.Tracks.{no_lanes, AreAllLater, HaveEnded, IsTurned}
use Rattle.ak_rows.specs.Ahead.{AreLater, IsHad}
use Rattle.ak_rows.specs.declared.points.Lane.{Lane}
use Rattle.ak_rows.specs.declared.row.Row.{Row}
use Rattle.ak_rows.proofs.Lanes.{later_same, later_on}

pub all_later_same : (ts : List (List Lane)) → AreAllLater ts ts
all_later_same [] = tt
all_later_same (t ∷ ts) = (later_same t, all_later_same ts)

pub all_later_on : (ts us vs : List (List Lane)) → AreAllLater ts us → AreAllLater us vs → AreAllLater ts vs
all_later_on [] [] [] x y = tt
all_later_on [] [] (v ∷ vs) x y = y
all_later_on [] (u ∷ us) vs x y = absurd x
all_later_on (t ∷ ts) [] vs x y = absurd x
all_later_on (t ∷ ts) (u ∷ us) [] x y = y
all_later_on (t ∷ ts) (u ∷ us) (v ∷ vs) x y = (later_on t u v x.0 y.0, all_later_on ts us vs x.1 y.1)

pub all_later_set : (ts : List (List Lane)) (k : ℕ) (u : List Lane) → k < length ts → AreLater (get_or ts k no_lanes) u → AreAllLater ts (set ts k u)
all_later_set [] k u within later = absurd (omega arith)
all_later_set (t ∷ ts) zero u within later = (later, all_later_same ts)
all_later_set (t ∷ ts) (suc k) u within later = (later_same t, all_later_set ts k u (omega arith) later)

-- ---- Tracks as vectors

pub refilled : (n : ℕ) (new old : List Lane) → length new ≡ n → take n (new ++ drop (length new) old) ≡ new
refilled n new old long = grind (arith, common_steps)

pub lists_set : (tracks : List (Vec Lane Global)) (at : ℕ) (v : Vec Lane Global) (new : List Lane) → v.items ≡ new
    → map (λ (t : Vec Lane Global). t.items) (set tracks at v) ≡ set (map (λ (t : Vec Lane Global). t.items) tracks) at new
lists_set tracks at v new is = map-set (λ (t : Vec Lane Global). t.items) tracks at v ∙ ap (set (map (λ (t : Vec Lane Global). t.items) tracks) at) is

pub lists_at : (tracks : List (Vec Lane Global)) (at : ℕ) (v : Vec Lane Global) (lanes : List Lane) → at < length (map (λ (t : Vec Lane Global). t.items) tracks) → v ≡ get_or tracks at v → lanes ≡ v.items
    → get_or (map (λ (t : Vec Lane Global). t.items) tracks) at no_lanes ≡ lanes
lists_at [] at v lanes within is here = absurd (omega arith)
lists_at (t ∷ ts) zero v lanes within is here = ap (λ (w : Vec Lane Global). w.items) (sym is) ∙ sym here
lists_at (t ∷ ts) (suc at) v lanes within is here = lists_at ts at v lanes (omega arith) is here

-- ---- One track

pub turned_ok : (r : Result Bool Stop) (back : Bool) (can : ℕ → Type 0) (before now : ℕ → List Point) (k : ℕ) (row : Row) (old new : List (List Lane)) (here lanes : List Lane)
    → get_or old k no_lanes ≡ here → new ≡ set old k lanes → AreLater here lanes
    → (AllByRecursion (IsHad can) here → AreInOrder back before here → IfOk r (λ got. IsTaken got row (coming K.Select back k before here) (coming K.Select back k now lanes)))
    → (AllByRecursion (IsHad can) here → AreInOrder back before here → OnOk r (AreInOrder back now lanes))
    → IfOk r (λ got. got ≡ false → HaveEnded lanes)
    → IfOk r (λ got. IsTurned back can before now k got row old new)
turned_ok (Err e) back can before now k row old new here lanes is are later rows order ended = tt
turned_ok (Ok got) back can before now k row old new here lanes is are later rows order ended = record {
  lanes = lanes;
  are = are;
  later = subst (λ (ls : List Lane). AreLater ls lanes) (sym is) later;
  rows = λ had ordered.
      subst (λ (ls : List Lane). IsTaken got row (coming K.Select back k before ls) (coming K.Select back k now lanes)) (sym is)
      (rows (subst (AllByRecursion (IsHad can)) is had) (subst (AreInOrder back before) is ordered));
  order = λ had ordered. order (subst (AllByRecursion (IsHad can)) is had) (subst (AreInOrder back before) is ordered);
  ended = ended;
}

-- Points that are accepted, one behind another.
use Rattle.std.proofs.Common.{◌≡◌, ◌∙◌, ℕ, zero, suc, ◌+◌, ◌<◌, ◌≤◌, true, false, List, [], ◌∷◌, length, drop, get_or, Option, Some, None, Result, Err, ℤ, pos, bytes_eq, refl, sym, ap, ap₂, subst, arith}
use Rattle.std.proofs.lemmas.List.{drop_all}
use Rattle.std.specs.List.{AllByRecursion, list_any}
use Rattle.std.specs.Result.{IsErrAnd}
use Rattle.ak_base.specs.declared.point.Point.{Point}
use Rattle.ak_base.specs.declared.stop.Stop.{Stop}
use Rattle.ak_host.specs.Moments.{HostState, DiskPasses}
use Rattle.ak_host.proofs.Passing.{disk_goes_on}
use Rattle.ak_meta.specs.Contents.{names_of}
use Rattle.ak_node.specs.Names.{place_in, last_in_place, late_known, ArePlaces}
use Rattle.ak_node.proofs.Adding.{IsAmong, each_at}
use Rattle.ak_node.proofs.Late.{Below, not_late, late_none, both_none}
use Rattle.ak_node.proofs.Looking.{rest_at, same_item}
use Rattle.ak_node.proofs.Naming.{new_at, number_is}
use Rattle.ak_tree.specs.Standing.{Trees, Holds, last_known}
use Rattle.ak_tree.specs.Stops.{IsWornBy, OnWorn}
use Rattle.ak_tree.specs.Storing.{LeavesView}
use Rattle.ak_tree.proofs.Joining.{leaves_later, leaves_before, unless_stays}
use Rattle.ak_tree.proofs.Telling.{told_same, worn_from}
use Rattle.ak_world.specs.Puts.{number_in, late_behind, first_of, all_accepted}
use Rattle.ak_world.specs.Steps.{accepted, made_fit, made_room, added, in_time, unless_worn}
use Rattle.ak_world.specs.Valid.{Goes}
use Rattle.ak_world.specs.Worlds.{World}
use Rattle.ak_world.proofs.Going.{joined, same, point_goes}

-- ---- Worlds

-- a worn world stays as it is
accepted_stays : (w : World) (n : ℕ) (p : Point) → w.worn ≡ true → accepted w n p ≡ w
accepted_stays w n p worn =
    ap (λ (v : World). unless_worn (unless_worn (unless_worn v (made_room n)) (added n p)) in_time) (unless_stays w (made_fit n p) worn)
    ∙ ap (λ (v : World). unless_worn (unless_worn v (added n p)) in_time) (unless_stays w (made_room n) worn)
    ∙ ap (λ (v : World). unless_worn v in_time) (unless_stays w (added n p) worn)
    ∙ unless_stays w in_time worn

all_stay : (w : World) (names : List (List ℕ)) (ts : ℕ) (vs : List ℤ) → w.worn ≡ true → all_accepted w names ts vs ≡ w
all_stay w [] ts vs worn = refl
all_stay w (name ∷ names) ts [] worn = refl
all_stay w (name ∷ names) ts (v ∷ vs) worn =
    ap (λ (u : World). all_accepted u names ts vs) (accepted_stays w (number_in w.series name) (record { ts = ts; value = v }) worn) ∙ all_stay w names ts vs worn

all_go : (w : World) (names : List (List ℕ)) (ts : ℕ) (vs : List ℤ) → Goes w (all_accepted w names ts vs)
all_go w [] ts vs = same w w refl refl
all_go w (name ∷ names) ts [] = same w w refl refl
all_go w (name ∷ names) ts (v ∷ vs) =
    let next : World = accepted w (number_in w.series name) (record { ts = ts; value = v }) in
    joined w next (all_accepted next names ts vs) (point_goes w (number_in w.series name) (record { ts = ts; value = v })) (all_go next names ts vs)

-- the points so far are accepted
pub record AreAccepted (content : World) (names : List (List ℕ)) (ts : ℕ) (vs : List ℤ) (i : ℕ) (f : Trees) (host : HostState) : Type 0 where
  pub now : World
  pub holds : Holds now f host
  pub goes : Goes content now
  pub rest_is : all_accepted now (drop i names) ts (drop i vs) ≡ all_accepted content names ts vs

pub all_held : (content : World) (names : List (List ℕ)) (ts : ℕ) (vs : List ℤ) (i : ℕ) (f : Trees) (host : HostState) → length names ≤ i → AreAccepted content names ts vs i f host → Holds (all_accepted content names ts vs) f host
all_held content names ts vs i f host past so_far =
    subst (λ (w : World). Holds w f host) (sym (ap (λ (l : List (List ℕ)). all_accepted so_far.now l ts (drop i vs)) (drop_all i names past)) ∙ so_far.rest_is) so_far.holds

module _ (content : World) (names : List (List ℕ)) (ts : ℕ) (vs : List ℤ) (i : ℕ) (f : Trees) (host : HostState) (known : List (List ℕ)) (name d : List ℕ) (s : ℕ)
    (so_far : AreAccepted content names ts vs i f host) (within : i < length names) (alike : length vs ≡ length names) (is : name ≡ get_or names i d)
    (known_are : known ≡ names_of f.meta.series) (place : Some s ≡ place_in known name) where
  abbrev next : ℤ → World
  next v = accepted so_far.now s (record { ts = ts; value = v })

  rest_next : (v : ℤ) → v ≡ get_or vs i (pos 0) → all_accepted (next v) (drop (i + 1) names) ts (drop (i + 1) vs) ≡ all_accepted content names ts vs
  rest_next v value =
      let split : drop i names ≡ name ∷ drop (i + 1) names = rest_at names i d within ∙ ap (λ (n : List ℕ). n ∷ drop (i + 1) names) (sym is) in
      let values : drop i vs ≡ v ∷ drop (i + 1) vs = rest_at vs i (pos 0) (omega arith) ∙ ap (λ (u : ℤ). u ∷ drop (i + 1) vs) (sym value) in
      let number : number_in so_far.now.series name ≡ s = number_is so_far.now f known name s so_far.holds.keeps known_are (sym place) in
      sym (
      ap₂ (λ (ns : List (List ℕ)) (us : List ℤ). all_accepted so_far.now ns ts us) split values
      ∙ ap (λ (n : ℕ). all_accepted (accepted so_far.now n (record { ts = ts; value = v })) (drop (i + 1) names) ts (drop (i + 1) vs)) number
      )
      ∙ so_far.rest_is

  next_goes : (v : ℤ) → v ≡ get_or vs i (pos 0) → Goes (next v) (all_accepted content names ts vs)
  next_goes v value = subst (Goes (next v)) (rest_next v value) (all_go (next v) (drop (i + 1) names) ts (drop (i + 1) vs))

  pub one_accepted : (v : ℤ) (new : Trees) (later : HostState) → Holds (accepted so_far.now s (record { ts = ts; value = v })) new later → v ≡ get_or vs i (pos 0) → AreAccepted content names ts vs (i + 1) new later
  one_accepted v new later holds value = record {
    now = next v;
    holds = holds;
    goes = joined content so_far.now (next v) so_far.goes (point_goes so_far.now s (record { ts = ts; value = v }));
    rest_is = rest_next v value;
  }

  -- where a stop is handed on
  pub one_worn : {T : Type 0} (r : Result T Stop) (v : ℤ) (e : Stop) → IsErrAnd r (λ x. x ≡ e) → OnWorn {T = T} (Err e) (IsWornBy (accepted so_far.now s (record { ts = ts; value = v }))) → v ≡ get_or vs i (pos 0)
      → OnWorn r (IsWornBy (all_accepted content names ts vs))
  one_worn r v e err told value =
      worn_from r e err
      (λ x. told_same (next v) (all_accepted content names ts vs) x (λ worn. sym (rest_next v value) ∙ all_stay (next v) (drop (i + 1) names) ts (drop (i + 1) vs) worn)) told

  pub one_passes : (v : ℤ) (start later : HostState) → DiskPasses (LeavesView content (all_accepted content names ts vs)) start host
      → DiskPasses (LeavesView so_far.now (accepted so_far.now s (record { ts = ts; value = v }))) host later → v ≡ get_or vs i (pos 0)
      → DiskPasses (LeavesView content (all_accepted content names ts vs)) start later
  one_passes v start later before run value =
      let all : World = all_accepted content names ts vs in
      disk_goes_on before run (λ disk left. leaves_before content so_far.now all disk so_far.goes (leaves_later so_far.now (next v) all disk (next_goes v value) left))

-- ---- Late names

place_below : (f g : Trees) (o : Option ℕ) (ts : ℕ) → ((n : ℕ) → Below ts (last_known f n) → Below ts (last_known g n)) → Below ts (last_in_place f o) → Below ts (last_in_place g o)
place_below f g None ts stays below = tt
place_below f g (Some n) ts stays below = stays n below

-- no name comes to be late by points of this time
pub none_late : (f g : Trees) (known names : List (List ℕ)) (ts : ℕ) → ((n : ℕ) → Below ts (last_known f n) → Below ts (last_known g n)) → late_known f known names ts ≡ None → late_known g known names ts ≡ None
none_late f g known [] ts stays is = refl
none_late f g known (name ∷ names) ts stays is =
    let both = both_none (late_behind (last_in_place f (place_in known name)) ts) (late_known f known names ts) is in
    ap₂ first_of (late_none (last_in_place g (place_in known name)) ts (place_below f g (place_in known name) ts stays (not_late (last_in_place f (place_in known name)) ts both.0)))
    (none_late f g known names ts stays both.1)

late_at : (f : Trees) (known names : List (List ℕ)) (ts i : ℕ) (d : List ℕ) → i < length names → late_known f known names ts ≡ None → Below ts (last_in_place f (place_in known (get_or names i d)))
late_at f known [] ts i d within is = absurd (omega (arith, within))
late_at f known (name ∷ names) ts zero d within is = not_late (last_in_place f (place_in known name)) ts (both_none (late_behind (last_in_place f (place_in known name)) ts) (late_known f known names ts) is).0
late_at f known (name ∷ names) ts (suc i) d within is = late_at f known names ts i d (omega (arith, within)) (both_none (late_behind (last_in_place f (place_in known name)) ts) (late_known f known names ts) is).1

pub not_late_at : (f : Trees) (known names : List (List ℕ)) (ts i s : ℕ) (name d : List ℕ) → i < length names → name ≡ get_or names i d → Some s ≡ place_in known name → late_known f known names ts ≡ None
    → Below ts (last_known f s)
not_late_at f known names ts i s name d within is place late =
    subst (λ (o : Option ℕ). Below ts (last_in_place f o)) (ap (place_in known) (sym is) ∙ sym place) (late_at f known names ts i d within late)

-- ---- Places

pub place_kept : (places : List (Option ℕ)) (names known now : List (List ℕ)) (at : ℕ) (name d : List ℕ) → at < length names → name ≡ get_or names at d → ArePlaces places names known → now ≡ known
    → (place : ℕ) → get_or places at None ≡ Some place → Some place ≡ place_in now name
place_kept places names known now at name d within is kept now_is place found =
    kept at place within found ∙ ap₂ place_in (sym now_is) (same_item names at [] d within ∙ sym is)

-- a known name has a place
pub has_place : (known now names : List (List ℕ)) (at : ℕ) (name d : List ℕ) → at < length names → name ≡ get_or names at d → AllByRecursion (IsAmong known) names → now ≡ known → None ≡ place_in now name → ⊥
has_place known now names at name d within is each now_is none =
    let some : IsAmong known name = each_at (IsAmong known) names at name d each within is in
    let new : list_any (λ n. bytes_eq name n) known ≡ false = new_at known name (ap (λ (ns : List (List ℕ)). place_in ns name) (sym now_is) ∙ sym none) in
    cc

-- Why points are refused, and what the store is after them.
use Rattle.std.proofs.Common.{◌≡◌, ◌∙◌, ℕ, ◌+◌, ◌-◌, ◌*◌, ◌^◌, ◌<◌, ◌≤◌, min, Bool, true, false, if◌then◌else◌, List, ◌++◌, Option, Some, None, is_some, Result, Ok, Err, ℤ, refl, sym, ap, ap₂, subst, arith}
use Rattle.std.proofs.lemmas.Bool.{lt-ltb, le-ltb}
use Rattle.std.specs.List.{AllByRecursion}
use Rattle.std.specs.Option.{option_map}
use Rattle.std.specs.Prelude.{nat_lt, IfSome, OnOk}
use Rattle.std.specs.Result.{is_err}
use Rattle.ak_base.specs.declared.refusal.Refusal.{Refusal}
use Rattle.ak_base.specs.declared.refusal.Refusal.TheVariants.{Late, MetaFull}
use Rattle.ak_host.specs.Moments.{HostState, DiskPasses}
use Rattle.ak_host.proofs.Passing.{disk_weaker}
use Rattle.ak_meta.specs.Contents.{Content, IsCanonical, names_of, size_of}
use Rattle.ak_node.specs.Names.{late_known, with_all, levels_with, ArePlaces}
use Rattle.ak_node.specs.Standing.{IsReady, Holds}
use Rattle.ak_node.specs.declared.keeper.Keeper.{Keeper}
use Rattle.ak_node.proofs.Adding.{ready_named, holds_named, places_stay, late_added}
use Rattle.ak_node.proofs.Naming.{content_all, late_is}
use Rattle.ak_tree.specs.Standing.{Trees, AreTrees, Keeps, last_known}
use Rattle.ak_tree.specs.Storing.{LeavesView}
use Rattle.ak_tree.proofs.Joining.{leaves_before}
use Rattle.ak_world.specs.Puts.{late_of, room_of, need_of, named, refusal_of, all_accepted, after_points}
use Rattle.ak_world.specs.Worlds.{World, limits_of}
use Rattle.ak_world.proofs.Going.{same}

module _ (w : World) (f : Trees) (names : List (List ℕ)) (ts : ℕ) (keeps : Keeps w f) where
  need_is : need_of (named w names) ≡ 16 + size_of (with_all f.meta names)
  need_is = ap (λ (c : Content). 16 + size_of c) (content_all w names keeps.valid ∙ ap (λ (c : Content). with_all c names) (sym keeps.content_is))

  room_is : room_of (limits_of w) ≡ 4096 * f.meta.limits.slot
  room_is = ap (λ (c : Content). 4096 * c.limits.slot) (sym keeps.content_is)

  abbrev by_test : Bool → Option Refusal
  by_test b = if b then Some (MetaFull (min (need_of (named w names)) (2 ^ 64 - 1)) (room_of (limits_of w))) else option_map Late (late_of w.series names ts)

  -- the record would be longer than a slot
  pub full : (need room : ℕ) → need ≡ min (16 + size_of (with_all f.meta names)) (2 ^ 64 - 1) → room ≡ 4096 * f.meta.limits.slot → room < need → Some (MetaFull need room) ≡ refusal_of w names ts
  full need room is slot more =
      let over : nat_lt (room_of (limits_of w)) (need_of (named w names)) ≡ true = lt-ltb _ _ (omega (arith, need_is, room_is)) in
      ap₂ (λ (n m : ℕ). Some (MetaFull n m)) (is ∙ ap (λ (n : ℕ). min n (2 ^ 64 - 1)) (sym need_is)) (slot ∙ sym room_is) ∙ sym (ap by_test over)

  -- the record isn't longer, and a name may be late
  pub fitting : (known : List (List ℕ)) (need room : ℕ) (late : Option ℕ) → AreTrees f → known ≡ names_of f.meta.series → need ≡ min (16 + size_of (with_all f.meta names)) (2 ^ 64 - 1) → room ≡ 4096 * f.meta.limits.slot → need ≤ room
      → late ≡ late_known f known names ts → option_map Late late ≡ refusal_of w names ts
  fitting known need room late are known_are is slot fits late_are =
      let under : nat_lt (room_of (limits_of w)) (need_of (named w names)) ≡ false = le-ltb _ _ (omega (arith, need_is, room_is, are.rules_are.limits_are.slot_most)) in
      ap (option_map Late) (late_are ∙ late_is w f known names ts are keeps known_are) ∙ sym (ap by_test under)

-- the record with all names fits a slot
pub room_all : (f : Trees) (names : List (List ℕ)) (need room : ℕ) → AreTrees f → need ≡ min (16 + size_of (with_all f.meta names)) (2 ^ 64 - 1) → room ≡ 4096 * f.meta.limits.slot → need ≤ room
    → 16 + size_of (with_all f.meta names) ≤ 4096 * f.meta.limits.slot
room_all f names need room are is slot fits = omega (arith, is, slot, fits, are.rules_are.limits_are.slot_most)

abbrev by_refusal : World → List (List ℕ) → ℕ → List ℤ → Option Refusal → World
by_refusal w names ts vs o = if is_some o then w else all_accepted (named w names) names ts vs

-- refused points leave the store as it is
pub kept : (w : World) (names : List (List ℕ)) (ts : ℕ) (vs : List ℤ) (r : Refusal) → Some r ≡ refusal_of w names ts → w ≡ after_points w names ts vs
kept w names ts vs r is = ap (by_refusal w names ts vs) is

pub taken : (w : World) (names : List (List ℕ)) (ts : ℕ) (vs : List ℤ) → None ≡ refusal_of w names ts → all_accepted (named w names) names ts vs ≡ after_points w names ts vs
taken w names ts vs is = ap (by_refusal w names ts vs) is

-- names that are added take no view
pub put_passes : (w : World) (names : List (List ℕ)) (next all : World) (old new : HostState) → next ≡ all → DiskPasses (LeavesView (named w names) next) old new → DiskPasses (LeavesView w all) old new
put_passes w names next all old new is run =
    disk_weaker run (λ disk left. subst (λ (u : World). LeavesView w u disk) is (leaves_before w (named w names) next disk (same w (named w names) refl refl) left))

-- ---- Names were added

-- what holds where a call gave no error
pub fine : {T E P : Type 0} (r : Result T E) (b : Bool) → b ≡ is_err r → b ≡ false → OnOk r P → P
fine (Ok v) b is none p = p
fine (Err e) b is none p = let bad : true ≡ false = sym is ∙ none in absurd (cc)

-- what a look and the call that adds the names give
pub record IsPut (old new : Keeper) (names : List (List ℕ)) (ts : ℕ) (places : List (Option ℕ)) : Type 0 where
  pub are : AreTrees old.forest
  pub index : new.names ≡ names_of new.forest.meta.series
  pub known : old.names ≡ names_of old.forest.meta.series
  pub more : List (List ℕ)
  pub longer : new.names ≡ old.names ++ more
  pub forest : new.forest ≡ record (old.forest) { meta = with_all old.forest.meta names; frames = new.forest.frames; levels = levels_with old.forest.meta old.forest.levels names }
  pub last : (n : ℕ) → IfSome (last_known new.forest n) (λ last. last_known old.forest n ≡ Some last)
  pub keeps : (content : World) → Keeps content old.forest → Keeps (named content names) new.forest
  pub room : 16 + size_of (with_all old.forest.meta names) ≤ 4096 * old.forest.meta.limits.slot
  pub canonical : AllByRecursion IsCanonical names
  pub none_late : late_known old.forest old.names names ts ≡ None
  pub places_are : ArePlaces places names old.names

pub is_put : {T E : Type 0} (r : Result T E) (b : Bool) (old new : Keeper) (names : List (List ℕ)) (ts : ℕ) (places : List (Option ℕ)) (need room : ℕ) (late : Option ℕ) → b ≡ is_err r → b ≡ false → AreTrees old.forest
    → old.names ≡ names_of old.forest.meta.series → AllByRecursion IsCanonical names
    → need ≡ min (16 + size_of (with_all old.forest.meta names)) (2 ^ 64 - 1) → room ≡ 4096 * old.forest.meta.limits.slot → need ≤ room
    → late ≡ late_known old.forest old.names names ts → late ≡ None → ArePlaces places names old.names
    → OnOk r (new.names ≡ names_of new.forest.meta.series) → OnOk r ((more : List (List ℕ)) × (new.names ≡ old.names ++ more))
    → OnOk r (new.forest ≡ record (old.forest) { meta = with_all old.forest.meta names; frames = new.forest.frames; levels = levels_with old.forest.meta old.forest.levels names })
    → ((n : ℕ) → OnOk r (IfSome (last_known new.forest n) (λ last. last_known old.forest n ≡ Some last)))
    → ((content : World) → Keeps content old.forest → OnOk r (Keeps (named content names) new.forest))
    → IsPut old new names ts places
is_put r b old new names ts places need room late test none are known canonical need_is slot fits late_are not_late places_are index longer forest last keeps =
    let more = fine r b test none longer in
    record {
      are = are;
      index = fine r b test none index;
      known = known;
      more = more.0;
      longer = more.1;
      forest = fine r b test none forest;
      last = λ n. fine r b test none (last n);
      keeps = λ content held. fine r b test none (keeps content held);
      room = room_all old.forest names need room are need_is slot fits;
      canonical = canonical;
      none_late = sym late_are ∙ not_late;
      places_are = places_are;
    }

module _ (old new : Keeper) (names : List (List ℕ)) (ts : ℕ) (places : List (Option ℕ)) (put : IsPut old new names ts places) where
  pub put_ready : (told : Type 0) (host : HostState) → IsReady told old host → IsReady told new host
  put_ready told host ready = record { forest = ready_named told old.forest new.forest names host put.forest ready.forest; names = put.index }

  pub put_places : ArePlaces places names new.names
  put_places = places_stay places names old.names new.names put.more put.longer put.places_are

  pub put_late : late_known new.forest new.names names ts ≡ None
  put_late = late_added old.forest new.forest old.names new.names put.more names ts put.are put.known put.longer put.last put.none_late

  pub put_holds : (w : World) (host : HostState) → Holds w old host → Holds (named w names) new host
  put_holds w host holds = holds_named w old.forest new.forest names host put.are put.canonical put.room (ap (λ (t : Trees). t.levels) put.forest) holds (put.keeps w holds.keeps)

  pub put_taken : (w : World) (vs : List ℤ) (need room : ℕ) → Keeps w old.forest → need ≡ min (16 + size_of (with_all old.forest.meta names)) (2 ^ 64 - 1) → room ≡ 4096 * old.forest.meta.limits.slot → need ≤ room
      → all_accepted (named w names) names ts vs ≡ after_points w names ts vs
  put_taken w vs need room keeps is slot fits = taken w names ts vs (fitting w old.forest names ts keeps old.names need room None put.are put.known is slot fits (sym put.none_late))

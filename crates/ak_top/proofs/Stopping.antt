-- Stops that are handed on.
use Rattle.std.proofs.Common.{◌≡◌, ◌⊎◌, inl, inr, ℕ, ◌≤◌, true, List, [], Result, Ok, Err, IfErr, refl, sym, ◌∙◌, ap, subst, arith}
use Rattle.std.specs.Result.{IsErrAnd}
use Rattle.ak_base.specs.declared.stop.Stop.{Stop}
use Rattle.ak_base.specs.Stops.{status_of}
use Rattle.ak_base.specs.declared.stop.Stop.TheVariants.{Usage, Damaged, Disk, Port, Memory, Budget, Worn, NoStore, Exists}
use Rattle.ak_host.specs.Moments.{HostState, mark_now}
use Rattle.ak_image.specs.Blocks.{seen_in}
use Rattle.ak_image.specs.Images.{IsSound, StandsFor}
use Rattle.ak_meta.specs.Contents.{Content}
use Rattle.ak_node.specs.Calls.{IsSoundStop}
use Rattle.ak_node.specs.Opening.{IsDamagedByFound, IsFoundRecord, IsNodeOpenStop}
use Rattle.ak_record.specs.Stops.{IsDamaged, IsMakeStop}
use Rattle.ak_tree.proofs.Becoming.{becomes_same}
use Rattle.ak_tree.specs.Stops.{IsWornBy, OnWorn}
use Rattle.ak_world.specs.Views.{View, first_view}
use Rattle.ak_world.specs.Worlds.{World as Store}
use Rattle.ak_top.specs.Calls.{IsServeStop, HasServeStops}
use Rattle.ak_top.specs.Commands.{IsRun, scratch_limits}
use Rattle.ak_top.specs.Ends.{IsDamagedIn, IsEnd, IsRunStop, IsScratchStop, IsServing, IsPastOpening, HasOpened, IsOpenedBy}
use Rattle.ak_top.specs.Told.{HasWorn}

-- ---- Worn stores

-- the same stop from another call, with more said of it
pub worn_on : (T U : Type 0) {P Q : Stop → Type 0} (stop : Stop) → ((s : Stop) → P s → Q s) → OnWorn {T = T} (Err stop) P → OnWorn {T = U} (Err stop) Q
worn_on T U (Worn ordinal fill number) follows p = follows (Worn ordinal fill number) p
worn_on T U Disk follows p = tt
worn_on T U Memory follows p = tt
worn_on T U Usage follows p = tt
worn_on T U (Damaged file block) follows p = tt
worn_on T U Port follows p = tt
worn_on T U Budget follows p = tt
worn_on T U NoStore follows p = tt
worn_on T U Exists follows p = tt

pub worn_handed : (T : Type 0) {U : Type 0} {P Q : Stop → Type 0} (r : Result U Stop) (stop : Stop) → IsErrAnd r (λ e. e ≡ stop) → ((s : Stop) → P s → Q s) → OnWorn {T = T} (Err stop) P → OnWorn r Q
worn_handed T (Ok v) stop err follows p = absurd err
worn_handed T {U = U} {P = P} (Err e) stop same follows p = worn_on T U e follows (subst (λ (x : Stop). OnWorn {T = T} (Err x) P) (sym same) p)

-- a stop that tells that a store is worn has one
pub told_worn : (w : Store) (s : Stop) → IsWornBy w s → w.worn ≡ true
told_worn w (Worn ordinal fill number) told = told.worn
told_worn w Disk told = absurd told
told_worn w Memory told = absurd told
told_worn w Usage told = absurd told
told_worn w (Damaged file block) told = absurd told
told_worn w Port told = absurd told
told_worn w Budget told = absurd told
told_worn w NoStore told = absurd told
told_worn w Exists told = absurd told

-- ---- Causes

-- what a stop as a run is served says of worn stores
abbrev WornAs : Stop → (Stop → Type 0) → Type 0
WornAs s P = OnWorn {T = Unit {0}} (Err s) P

served_run : (told : Type 0) (number : ℕ) (was : Content) (old mid new : HostState) (s : Stop) → (told → IsFoundRecord number was old.files) → old.disk_faults ≤ mid.disk_faults → old.port_faults ≤ mid.port_faults
    → (told → (view : View) → IsSound old.files → StandsFor view old.files → WornAs s (HasWorn view (mark_now old) (mark_now new))) → IsServeStop told was mid new s → IsRunStop told old new s
served_run told number was old mid new Memory found disk port worn (inl why) = tt
served_run told number was old mid new Disk found disk port worn (inl why) = omega (arith, why, disk)
served_run told number was old mid new Port found disk port worn (inl why) = omega (arith, why, port)
served_run told number was old mid new (Worn ordinal fill last) found disk port worn (inl why) = worn
served_run told number was old mid new (Damaged file block) found disk port worn (inl why) = λ t. inr (record { number = number; found = was; newest = found t; damaged = why t was (becomes_same (seen_in was.ordinals.volumes mid.files) was) })
served_run told number was old mid new Usage found disk port worn (inl why) = absurd why
served_run told number was old mid new Budget found disk port worn (inl why) = absurd why
served_run told number was old mid new NoStore found disk port worn (inl why) = absurd why
served_run told number was old mid new Exists found disk port worn (inl why) = absurd why
served_run told number was old mid new s found disk port worn (inr is) = subst (IsRunStop told old new) (sym is) tt

-- why a run stops as it is opened
pub open_run : (told : Type 0) (old new : HostState) (s : Stop) → IsNodeOpenStop told old new s → IsRunStop told old new s
open_run told old new NoStore why = why
open_run told old new (Damaged file block) why = λ t. damage (why t) where
  damage : IsDamaged file block old.files ⊎ IsDamagedByFound old new file block → IsDamaged file block old.files ⊎ IsDamagedIn old new file block
  damage (inl at) = inl at
  damage (inr node) =
      let same = becomes_same (seen_in node.1.ordinals.volumes old.files) node.1 in
      inr (record {
        number = node.0;
        found = node.1;
        newest = node.2;
        damaged = record { now = node.1.ordinals; rules_are = node.2.rules_are.ordinals_are; grown = same.ordinals; damaged = node.3 };
      })
open_run told old new Disk why = why
open_run told old new Memory why = tt
open_run told old new Usage why = absurd why
open_run told old new Port why = absurd why
open_run told old new Budget why = absurd why
open_run told old new (Worn ordinal fill number) why = absurd why
open_run told old new Exists why = absurd why

-- why a run stops as it is served
pub run_stops : (told : Type 0) (number : ℕ) (was : Content) (old mid new : HostState) (r : Result (Unit {0}) Stop) → (told → IsFoundRecord number was old.files) → old.disk_faults ≤ mid.disk_faults → old.port_faults ≤ mid.port_faults
    → (told → (view : View) → IsSound old.files → StandsFor view old.files → OnWorn r (HasWorn view (mark_now old) (mark_now new))) → HasServeStops told was mid new r → IfErr r (IsRunStop told old new)
run_stops told number was old mid new (Ok v) found disk port worn stops = tt
run_stops told number was old mid new (Err s) found disk port worn stops = served_run told number was old mid new s found disk port worn stops.stops

served_scratch : (told : Type 0) (was : Content) (old mid new : HostState) (s : Stop) → (told → IsSoundStop s) → old.disk_faults ≤ mid.disk_faults → old.port_faults ≤ mid.port_faults
    → (told → WornAs s (HasWorn (first_view scratch_limits) (mark_now old) (mark_now new))) → IsServeStop told was mid new s → IsScratchStop told old new s
served_scratch told was old mid new Memory sound disk port worn (inl why) = tt
served_scratch told was old mid new Disk sound disk port worn (inl why) = omega (arith, why, disk)
served_scratch told was old mid new Port sound disk port worn (inl why) = omega (arith, why, port)
served_scratch told was old mid new (Worn ordinal fill number) sound disk port worn (inl why) = worn
served_scratch told was old mid new (Damaged file block) sound disk port worn (inl why) = sound
served_scratch told was old mid new Usage sound disk port worn (inl why) = absurd why
served_scratch told was old mid new Budget sound disk port worn (inl why) = absurd why
served_scratch told was old mid new NoStore sound disk port worn (inl why) = absurd why
served_scratch told was old mid new Exists sound disk port worn (inl why) = absurd why
served_scratch told was old mid new s sound disk port worn (inr is) = subst (IsScratchStop told old new) (sym is) tt

-- the same where it was made
pub scratch_stops : (told : Type 0) (was : Content) (old mid new : HostState) (r : Result (Unit {0}) Stop) → (told → IfErr r IsSoundStop) → old.disk_faults ≤ mid.disk_faults → old.port_faults ≤ mid.port_faults
    → (told → OnWorn r (HasWorn (first_view scratch_limits) (mark_now old) (mark_now new))) → HasServeStops told was mid new r → IfErr r (IsScratchStop told old new)
scratch_stops told was old mid new (Ok v) sound disk port worn stops = tt
scratch_stops told was old mid new (Err s) sound disk port worn stops = served_scratch told was old mid new s sound disk port worn stops.stops

pub run_end : (words : List (List ℕ)) (told : Type 0) (old new : HostState) → IsRun words → (s : Stop) → IsRunStop told old new s → IsEnd words told old new s
run_end words told old new run Usage h = absurd h
run_end words told old new run (Damaged file block) h = (inl run, λ t. (run, h t))
run_end words told old new run Disk h = h
run_end words told old new run Port h = h
run_end words told old new run Memory h = h
run_end words told old new run Budget h = inl run
run_end words told old new run (Worn ordinal fill number) h = (inl run, λ t view opens. h t view (opens.sound run) (opens.run run))
run_end words told old new run NoStore h = (run, h)
run_end words told old new run Exists h = absurd h

pub scratch_end : (words : List (List ℕ)) (told : Type 0) (old new : HostState) → words ≡ [] → (s : Stop) → IsScratchStop told old new s → IsEnd words told old new s
scratch_end words told old new none Usage h = absurd h
scratch_end words told old new none (Damaged file block) h = (inr none, λ t. absurd (h t))
scratch_end words told old new none Disk h = h
scratch_end words told old new none Port h = h
scratch_end words told old new none Memory h = h
scratch_end words told old new none Budget h = inr none
scratch_end words told old new none (Worn ordinal fill number) h = (inr none, λ t view opens. subst (λ (v : View). HasWorn v (mark_now old) (mark_now new) (Worn ordinal fill number)) (sym (opens.scratch none)) (h t))
scratch_end words told old new none NoStore h = absurd h
scratch_end words told old new none Exists h = (scratch_limits, inr (none, refl), h)

-- ---- Stops over a sound disk

-- as it is opened
pub open_serving : (s : Stop) → (s ≡ Disk) ⊎ (s ≡ Memory) → IsServing s
open_serving s (inl disk) = inl disk
open_serving s (inr memory) = inr (inr (inl memory))

serve_serving : (told : Type 0) (was : Content) (old new : HostState) (s : Stop) → IsServeStop told was old new s → IsSoundStop s → IsServing s
serve_serving told was old new Disk why sound = inl refl
serve_serving told was old new Port why sound = inr (inl refl)
serve_serving told was old new Memory why sound = inr (inr (inl refl))
serve_serving told was old new Budget why sound = inr (inr (inr (inl refl)))
serve_serving told was old new (Worn ordinal fill number) why sound = inr (inr (inr (inr (ordinal, fill, number, refl))))
serve_serving told was old new (Damaged file block) why sound = absurd sound
serve_serving told was old new Usage (inl why) sound = absurd why
serve_serving told was old new Usage (inr is) sound = cc
serve_serving told was old new NoStore (inl why) sound = absurd why
serve_serving told was old new NoStore (inr is) sound = cc
serve_serving told was old new Exists (inl why) sound = absurd why
serve_serving told was old new Exists (inr is) sound = cc

-- as it is served
pub stops_serving : (told : Type 0) (was : Content) (old new : HostState) (r : Result (Unit {0}) Stop) → HasServeStops told was old new r → IfErr r IsSoundStop → IfErr r IsServing
stops_serving told was old new (Ok v) stops sound = tt
stops_serving told was old new (Err s) stops sound = serve_serving told was old new s stops.stops sound

-- ---- What comes before a store is open

pub open_failed : (r : Result (Unit {0}) Stop) (stop : Stop) → IsErrAnd r (λ e. e ≡ stop) → (stop ≡ Disk) ⊎ (stop ≡ Memory) → ¬ (HasOpened r)
open_failed (Ok v) stop err is opened = absurd err
open_failed (Err e) stop same (inl is) opened = opened.no_disk (same ∙ is)
open_failed (Err e) stop same (inr is) opened = opened.no_memory (same ∙ is)

pub make_failed : (told : Type 0) (old new : HostState) (r : Result (Unit {0}) Stop) (stop : Stop) → IsErrAnd r (λ e. e ≡ stop) → IsMakeStop told old new stop → ¬ (HasOpened r)
make_failed told old new (Ok v) stop err is opened = absurd err
make_failed told old new (Err e) Disk same is opened = opened.no_disk same
make_failed told old new (Err e) Memory same is opened = opened.no_memory same
make_failed told old new (Err e) Exists same is opened = opened.not_there same
make_failed told old new (Err e) Usage same is opened = absurd is
make_failed told old new (Err e) (Damaged file block) same is opened = absurd is
make_failed told old new (Err e) Port same is opened = absurd is
make_failed told old new (Err e) Budget same is opened = absurd is
make_failed told old new (Err e) (Worn ordinal fill number) same is opened = absurd is
make_failed told old new (Err e) NoStore same is opened = absurd is

-- a status tells it
pub opened_by : (s : Stop) (status : ℕ) → status ≡ status_of s → IsOpenedBy status → IsPastOpening s
opened_by s status is o = record {
  no_disk = λ e. o.no_disk (is ∙ ap status_of e);
  no_memory = λ e. o.no_memory (is ∙ ap status_of e);
  not_there = λ e. o.not_there (is ∙ ap status_of e);
}

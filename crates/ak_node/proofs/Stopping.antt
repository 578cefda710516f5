-- Stops of one call after others.
use Rattle.std.proofs.Common.{◌≡◌, ℕ, ◌≤◌, Result, Ok, Err, refl, sym, ◌∙◌, subst, arith}
use Rattle.std.specs.Result.{IsErrAnd}
use Rattle.ak_base.specs.declared.stop.Stop.{Stop}
use Rattle.ak_base.specs.declared.stop.Stop.TheVariants.{Usage, Damaged, Disk, Port, Memory, Budget, Worn, NoStore, Exists}
use Rattle.ak_host.specs.Causes.{Rose}
use Rattle.ak_host.specs.Moments.{HostState}
use Rattle.ak_meta.specs.Contents.{Content}
use Rattle.ak_tree.specs.Later.{KeepsOrigins}
use Rattle.ak_tree.specs.Stops.{OnWorn}
use Rattle.ak_node.specs.Calls.{IsNodeStop, StopsBy, HasStops}

rose_before : (a b now : ℕ) → a ≤ b → Rose b now → Rose a now
rose_before a b now before rose = omega (arith, before, rose)

pub stop_before : (told : Type 0) (b c : Content) (old mid new : HostState) (s : Stop) → old.disk_faults ≤ mid.disk_faults → old.port_faults ≤ mid.port_faults → (told → KeepsOrigins old mid b c)
    → IsNodeStop told c mid new s → IsNodeStop told b old new s
stop_before told b c old mid new Memory disk port keeps is = tt
stop_before told b c old mid new Disk disk port keeps is = rose_before old.disk_faults mid.disk_faults new.disk_faults disk is
stop_before told b c old mid new Port disk port keeps is = rose_before old.port_faults mid.port_faults new.port_faults port is
stop_before told b c old mid new (Damaged file block) disk port keeps is = λ tells found was. is tells found (keeps tells found was)
stop_before told b c old mid new (Worn ordinal fill number) disk port keeps is = tt
stop_before told b c old mid new Usage disk port keeps is = absurd is
stop_before told b c old mid new Budget disk port keeps is = absurd is
stop_before told b c old mid new NoStore disk port keeps is = absurd is
stop_before told b c old mid new Exists disk port keeps is = absurd is

stops_before : {T : Type 0} (told : Type 0) (b c : Content) (old mid new : HostState) (r : Result T Stop) → old.disk_faults ≤ mid.disk_faults → old.port_faults ≤ mid.port_faults → (told → KeepsOrigins old mid b c)
    → StopsBy told c mid new r → StopsBy told b old new r
stops_before told b c old mid new (Ok v) disk port keeps is = tt
stops_before told b c old mid new (Err s) disk port keeps is = stop_before told b c old mid new s disk port keeps is

-- calls that didn't stop, and one behind them
pub stops_behind : {T : Type 0} (told : Type 0) (b c : Content) (old mid new : HostState) (r : Result T Stop) → old.disk_faults ≤ mid.disk_faults → old.port_faults ≤ mid.port_faults → mid.sizes ≡ old.sizes
    → (told → KeepsOrigins old mid b c) → HasStops told c mid new r → HasStops told b old new r
stops_behind told b c old mid new r disk port sizes keeps behind = record {
  disk_later = omega (arith, disk, behind.disk_later);
  port_later = omega (arith, port, behind.port_later);
  sizes = behind.sizes ∙ sizes;
  stops = stops_before told b c old mid new r disk port keeps behind.stops;
}

-- a call that didn't stop, and one behind it
pub stops_on : {S T : Type 0} (told : Type 0) (b c : Content) (old mid new : HostState) (first : Result S Stop) (r : Result T Stop) → HasStops told b old mid first → (told → KeepsOrigins old mid b c)
    → HasStops told c mid new r → HasStops told b old new r
stops_on told b c old mid new first r before keeps behind = stops_behind told b c old mid new r before.disk_later before.port_later before.sizes keeps behind

-- a call before which the record was this
pub stops_of : {T : Type 0} (told : Type 0) (b c : Content) (old new : HostState) (r : Result T Stop) → KeepsOrigins old old b c → HasStops told c old new r → HasStops told b old new r
stops_of told b c old new r keeps behind = stops_behind told b c old old new r (omega arith) (omega arith) refl (λ tells. keeps) behind

-- ---- Worn stores

worn_across : (S T : Type 0) {P Q : Stop → Type 0} (stop : Stop) → ((s : Stop) → P s → Q s) → OnWorn {T = S} (Err stop) P → OnWorn {T = T} (Err stop) Q
worn_across S T (Worn ordinal fill number) follows p = follows (Worn ordinal fill number) p
worn_across S T Disk follows p = tt
worn_across S T Memory follows p = tt
worn_across S T Usage follows p = tt
worn_across S T (Damaged file block) follows p = tt
worn_across S T Port follows p = tt
worn_across S T Budget follows p = tt
worn_across S T NoStore follows p = tt
worn_across S T Exists follows p = tt

-- where a call's stop is handed on
pub worn_handed : (S : Type 0) {T : Type 0} {P Q : Stop → Type 0} (r : Result T Stop) (stop : Stop) → IsErrAnd r (λ e. e ≡ stop) → ((s : Stop) → P s → Q s) → OnWorn {T = S} (Err stop) P → OnWorn r Q
worn_handed S (Ok v) stop err follows p = absurd err
worn_handed S {T} {P} (Err e) stop same follows p = worn_across S T e follows (subst (λ (x : Stop). OnWorn {T = S} (Err x) P) (sym same) p)

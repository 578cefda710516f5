-- Why a fold stops.
use Rattle.std.proofs.Common.{◌≡◌, ◌≤◌, ℕ, List, Result, Ok, Err, refl, subst}
use Rattle.std.specs.Result.{IfOk, IsErrAnd}
use Rattle.ak_base.specs.declared.point.Addr.{Addr}
use Rattle.ak_base.specs.declared.stop.Stop.{Stop}
use Rattle.ak_base.specs.declared.stop.Stop.TheVariants.{Usage, Damaged, Disk, Port, Memory, Budget, Worn, NoStore, Exists}
use Rattle.ak_cache.specs.Leaves.{SpellsNone, IsLeafStop, IsNodeStop}
use Rattle.ak_host.specs.Files.{Files}
use Rattle.ak_host.specs.Moments.{HostState}
use Rattle.ak_image.specs.Blocks.{seen_in}
use Rattle.ak_repair.proofs.OnlyReading.{rose_later}
use Rattle.ak_repair.specs.Reads.{OnlyReads}
use Rattle.ak_scene.specs.Stops.{IsQueryStop}
use Rattle.ak_volumes.specs.Ordinals.{Ordinals, ordinal_of, index_of, file_of}

-- why a node isn't read
pub node_stop : {told : Type 0} {P : ℕ → ℕ → Type 0} (none : List ℕ → Type 0) (o : Ordinals) (old new : HostState) (a : Addr) (stop : Stop)
    → ((file block : ℕ) → (file ≡ file_of o (ordinal_of a.0)) → (block ≡ index_of a.0) → (told → none (seen_in o.volumes old.files a.0)) → P file block)
    → IsNodeStop told none o old new a stop → IsQueryStop P old new stop
node_stop none o old new a Disk damaged is = is
node_stop none o old new a (Damaged file block) damaged is = damaged file block is.0 is.1 is.2
node_stop none o old new a Memory damaged is = absurd is
node_stop none o old new a Usage damaged is = absurd is
node_stop none o old new a Port damaged is = absurd is
node_stop none o old new a Budget damaged is = absurd is
node_stop none o old new a (Worn ordinal fill last) damaged is = absurd is
node_stop none o old new a NoStore damaged is = absurd is
node_stop none o old new a Exists damaged is = absurd is

-- where the block is the node, only the disk stops it
pub only_disk : {told : Type 0} (none : List ℕ → Type 0) (o : Ordinals) (old new : HostState) (a : Addr) (stop : Stop) → told → (none (seen_in o.volumes old.files a.0) → ⊥)
    → IsNodeStop told none o old new a stop → stop ≡ Disk
only_disk none o old new a Disk told is_it is = refl
only_disk none o old new a (Damaged file block) told is_it is = absurd (is_it (is.2 told))
only_disk none o old new a Memory told is_it is = absurd is
only_disk none o old new a Usage told is_it is = absurd is
only_disk none o old new a Port told is_it is = absurd is
only_disk none o old new a Budget told is_it is = absurd is
only_disk none o old new a (Worn ordinal fill last) told is_it is = absurd is
only_disk none o old new a NoStore told is_it is = absurd is
only_disk none o old new a Exists told is_it is = absurd is

-- nothing is said of a value where there is none
pub no_value : {T E : Type 0} (P : E → Type 0) (Q : T → Type 0) (r : Result T E) → IsErrAnd r P → IfOk r Q
no_value P Q (Ok v) is = absurd is
no_value P Q (Err e) is = tt

-- a reason that the first of more reads gives
pub reason_weaker : {P Q : ℕ → ℕ → Type 0} (old mid new : HostState) (stop : Stop) → old.disk_faults ≤ mid.disk_faults → ((file block : ℕ) → P file block → Q file block)
    → IsQueryStop P mid new stop → IsQueryStop Q old new stop
reason_weaker old mid new Disk before follows is = rose_later old.disk_faults mid.disk_faults new.disk_faults before is
reason_weaker old mid new (Damaged file block) before follows is = follows file block is
reason_weaker old mid new Memory before follows is = absurd is
reason_weaker old mid new Usage before follows is = absurd is
reason_weaker old mid new Port before follows is = absurd is
reason_weaker old mid new Budget before follows is = absurd is
reason_weaker old mid new (Worn ordinal fill number) before follows is = absurd is
reason_weaker old mid new NoStore before follows is = absurd is
reason_weaker old mid new Exists before follows is = absurd is

-- why a leaf isn't read, after other reads
pub leaf_stop : {told : Type 0} {P : ℕ → ℕ → Type 0} (o : Ordinals) (old mid new : HostState) (a : Addr) (series number : ℕ) (stop : Stop) → OnlyReads told old mid
    → ((file block : ℕ) → (file ≡ file_of o (ordinal_of a.0)) → (block ≡ index_of a.0) → (told → SpellsNone (seen_in o.volumes old.files a.0) a series number) → P file block)
    → IsLeafStop told o mid new a series number stop → IsQueryStop P old new stop
leaf_stop {told} {P} o old mid new a series number stop so_far damaged is =
    reason_weaker old mid new stop so_far.later (λ file block reason. reason)
    (node_stop (λ block. SpellsNone block a series number) o mid new a stop
    (λ file block file_is block_is none. damaged file block file_is block_is (λ t. subst (λ (files : Files). SpellsNone (seen_in o.volumes files a.0) a series number) (so_far.files t) (none t))) is)

-- Runs of reads that a sound disk doesn't stop.
use Rattle.std.proofs.Common.{ℕ}
use Rattle.ak_base.specs.declared.stop.Stop.{Stop}
use Rattle.ak_base.specs.declared.stop.Stop.TheVariants.{Usage, Damaged, Disk, Port, Memory, Budget, Worn, NoStore, Exists}
use Rattle.ak_host.specs.Moments.{HostState}
use Rattle.ak_node.specs.Calls.{IsSoundStop}
use Rattle.ak_repair.specs.Reads.{IsReadStop}

-- where no block is damaged the stop is sound
pub sound_read : {P : ℕ → ℕ → Type 0} (old new : HostState) (stop : Stop) → ((file block : ℕ) → ¬ P file block) → IsReadStop P old new stop → IsSoundStop stop
sound_read old new Disk none is = tt
sound_read old new Memory none is = tt
sound_read old new (Damaged file block) none is = none file block is
sound_read old new Usage none is = absurd is
sound_read old new Port none is = absurd is
sound_read old new Budget none is = absurd is
sound_read old new (Worn ordinal fill number) none is = absurd is
sound_read old new NoStore none is = absurd is
sound_read old new Exists none is = absurd is

-- A host to which nothing was done, and one in which a block was set.
use Rattle.std.specs.Prelude.{◌≡◌, ℕ, List, []}
use Rattle.ak_host.specs.Files.{Files, with_block}
use Rattle.ak_host.specs.Moments.{HostState, LeavesNow, mark_now}

pub record IsFresh (host : HostState) : Type 0 where
  pub moment : host.moment ≡ 0
  pub turns : (mark_now host).turns ≡ []
  pub tellings : (mark_now host).tellings ≡ []
  pub disk_faults : host.disk_faults ≡ 0
  pub port_faults : host.port_faults ≡ 0
  pub reads : host.reads ≡ 0
  pub writes : host.writes ≡ 0

-- a disk that a stop might have left before, with this block in its place
abbrev pub IsPlanted : ℕ → ℕ → List ℕ → HostState → Files → Type 0
IsPlanted file index block old disk = (before : Files) × LeavesNow old before × (disk ≡ with_block before file index block)

-- nothing but the files has changed
pub record IsSameBut (old new : HostState) : Type 0 where
  pub moment : new.moment ≡ old.moment
  pub mark : mark_now new ≡ mark_now old
  pub disk_faults : new.disk_faults ≡ old.disk_faults
  pub port_faults : new.port_faults ≡ old.port_faults
  pub reads : new.reads ≡ old.reads
  pub writes : new.writes ≡ old.writes

-- What a host in memory stands for.
use Rattle.std.specs.Prelude.{◌≡◌, ℕ, List, [], length, slice_get}
use Rattle.ak_host.specs.Files.{Files}
use Rattle.ak_host.specs.Marks.{Taken}
use Rattle.ak_host.specs.Moments.{HostState}
use Rattle.ak_memhost.specs.Numbers.{Numbers}
use Rattle.ak_memhost.specs.Turns.{turn_or_done}
use Rattle.ak_memhost.specs.declared.mem_turn.MemTurn.{MemTurn}
use Rattle.ak_memhost.specs.Drive.{Drive, contents}
use Rattle.ak_memhost.specs.Record.{start, after}
use Rattle.ak_memhost.specs.State.{state_of}
use Rattle.ak_memhost.specs.Torn.{torn, drive_at}
use Rattle.ak_memhost.specs.declared.drive.Tear.{Tear}
use Rattle.ak_memhost.specs.declared.host.MemHost.{MemHost}

-- what the clauses of `Disk` and `Ports` see of it
abbrev pub host_state : MemHost → HostState
host_state host = state_of host.turns.items (start host.base.items) host.calls.items host.disk_faults host.port_faults

-- the turns that it gives
abbrev pub turns_of : MemHost → List MemTurn
turns_of host = host.turns.items

-- the next of them, and past the list `Done`
abbrev pub next_turn : MemHost → Taken
next_turn host = turn_or_done (slice_get host.turns.items (length (after host.turns.items (start host.base.items) host.calls.items).mark.turns))

-- how its calls are numbered
abbrev pub numbers_of : MemHost → Numbers
numbers_of host = record { fails = host.fails.items; next = length host.calls.items; refused = host.refused }

-- the files of which a stop at a moment leaves an image
abbrev pub drive_at_moment : MemHost → ℕ → Drive
drive_at_moment host moment = drive_at host.base.items host.calls.items moment

-- the disk that a stop at a moment leaves with these tears
abbrev pub image_of : MemHost → List Tear → ℕ → Files
image_of host tears moment = contents (torn tears (drive_at_moment host moment))

-- a host over these files, to which nothing was done, without turns and without calls that are to fail
pub record IsOver (base : Drive) (host : MemHost) : Type 0 where
  pub base_is : host.base.items ≡ base
  pub calls : host.calls.items ≡ []
  pub turns : host.turns.items ≡ []
  pub fails : host.fails.items ≡ []
  pub disk_faults : host.disk_faults ≡ 0
  pub port_faults : host.port_faults ≡ 0
  pub refused : host.refused ≡ 0

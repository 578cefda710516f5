-- Turns that a host in memory gives.
use Rattle.std.specs.Prelude.{ℕ, ◌≤◌, length, Option, Some, None}
use Rattle.ak_host.specs.Marks.{Taken, piece, ended, idle, done}
use Rattle.ak_memhost.specs.declared.mem_turn.MemTurn.{MemTurn}
use Rattle.ak_memhost.specs.declared.mem_turn.MemTurn.TheVariants.{Bytes, End, Idle, Done}

-- a turn's port, and 1 where it has none
abbrev pub port_of : MemTurn → ℕ
port_of (Bytes port bytes) = port
port_of (End port) = port
port_of Idle = 1
port_of Done = 1

-- how many bytes a turn has, and 1 where it has none
abbrev pub size_of : MemTurn → ℕ
size_of (Bytes port bytes) = length bytes
size_of (End port) = 1
size_of Idle = 1
size_of Done = 1

-- a piece has 1 to 4096 bytes, and ports are at least 1
abbrev pub IsMemTurn : MemTurn → Type 0
IsMemTurn turn = (1 ≤ port_of turn) × (1 ≤ size_of turn) × (size_of turn ≤ 4096)

-- what is taken where a turn is given
abbrev pub given : MemTurn → Taken
given (Bytes port bytes) = piece port bytes
given (End port) = ended port
given Idle = idle
given Done = done

-- the turn of this number; past the list each is `Done`
abbrev pub turn_or_done : Option MemTurn → Taken
turn_or_done (Some turn) = given turn
turn_or_done None = done

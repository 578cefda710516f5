-- What files stand on.
use Rattle.std.specs.Prelude.{Option, Some, None}
use Rattle.akl.specs.declared.real.Medium.{Medium}
use Rattle.akl.specs.declared.real.Medium.TheVariants.{Directory, Memory}
use Rattle.akl.specs.Calls.{Calls}

-- the calls of the system, where the files are in a directory
abbrev pub calls_of : Medium → Option Calls
calls_of (Directory directory) = Some directory.calls.items
calls_of (Memory memory) = None

-- The statuses of stops, and the lines that the console is told of them.
use Rattle.std.specs.Prelude.{ℕ, List, ◌++◌, codes}
use Rattle.std.specs.Fmt.{decimal}
use Rattle.ak_base.specs.declared.stop.Stop.{Stop}
use Rattle.ak_base.specs.declared.stop.Stop.TheVariants.{Usage, Damaged, Disk, Port, Memory, Budget, Worn, NoStore, Exists}

abbrev pub status_of : Stop → ℕ
status_of Usage = 1
status_of (Damaged file block) = 2
status_of Disk = 3
status_of Port = 4
status_of Memory = 5
status_of Budget = 6
status_of (Worn ordinal fill number) = 7
status_of NoStore = 8
status_of Exists = 9

-- the line of the console, without its end
abbrev pub stop_text : Stop → List ℕ
stop_text Usage = codes "usage: akl [create|run|serve|soak DIR [options]]"
stop_text (Damaged file block) = codes "akl: damaged file " ++ decimal file ++ codes " block " ++ decimal block
stop_text Disk = codes "akl: disk failed"
stop_text Port = codes "akl: port failed"
stop_text Memory = codes "akl: out of memory"
stop_text Budget = codes "akl: turn budget spent"
stop_text (Worn ordinal fill number) = codes "akl: store worn"
stop_text NoStore = codes "akl: no store"
stop_text Exists = codes "akl: store exists"

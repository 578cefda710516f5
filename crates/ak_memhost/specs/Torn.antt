-- The one disk that a stop leaves with given tears.
use Rattle.std.specs.Prelude.{ℕ, zero, suc, ◌+◌, true, List, [], ◌∷◌, if◌then◌else◌, ◌==◌, ◌&&◌}
use Rattle.ak_memhost.specs.declared.drive.Cell.{Cell}
use Rattle.ak_memhost.specs.declared.drive.Tear.{Tear}
use Rattle.ak_memhost.specs.Drive.{Drive}
use Rattle.ak_memhost.specs.Record.{drive_after}
use Rattle.ak_memhost.specs.declared.call.Call.{Call}
use Rattle.ak_memhost.specs.declared.call.Call.TheVariants.{Write}

-- the block of the first tear that names this place, and else this one
abbrev pub tear_at : List Tear → ℕ → ℕ → List ℕ → List ℕ
tear_at [] file index own = own
tear_at (tear ∷ tears) file index own = if (tear.file == file) && (tear.index == index) then tear.block else tear_at tears file index own

-- what a stop leaves of a block: what was synced, or else what a tear says; nothing is unsynced then
abbrev pub torn_cell : List Tear → ℕ → ℕ → Cell → Cell
torn_cell tears file index cell = record { block = if cell.synced then cell.block else tear_at tears file index cell.block; synced = true }

-- of the cells from this index on
abbrev pub torn_cells : List Tear → ℕ → ℕ → List Cell → List Cell
torn_cells tears file index [] = []
torn_cells tears file index (cell ∷ cells) = torn_cell tears file index cell ∷ torn_cells tears file (index + 1) cells

-- of the files from this number on
abbrev pub torn_from : List Tear → ℕ → Drive → Drive
torn_from tears file [] = []
torn_from tears file (cells ∷ files) = torn_cells tears file 0 cells ∷ torn_from tears (file + 1) files

abbrev pub torn : List Tear → Drive → Drive
torn tears drive = torn_from tears 0 drive

-- the files of which a stop within a call leaves an image: a write counts as done, and within a `make` the old file stands
abbrev pub drive_within : Drive → Call → Drive
drive_within drive (Write file index block) = drive_after drive (Write file index block)
drive_within drive call = drive

-- the files of which a stop at a moment leaves an image
abbrev pub drive_at : Drive → List Call → ℕ → Drive
drive_at drive [] t = drive
drive_at drive (call ∷ calls) zero = drive
drive_at drive (call ∷ calls) (suc zero) = drive_within drive call
drive_at drive (call ∷ calls) (suc (suc t)) = drive_at (drive_after drive call) calls t

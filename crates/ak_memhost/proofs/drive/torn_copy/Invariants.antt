use Rattle.std.proofs.Common.{◌≡◌, take}
use Rattle.ak_memhost.specs.Drive.{IsFileImage, file_contents}
use Rattle.ak_memhost.specs.Torn.{torn_cells}
use Rattle.ak_memhost.proofs.drive.torn_copy.Given as goal

abbrev pub invariant-loop-index : goal.invariant-loop-index
invariant-loop-index l = record { is : l.out.items ≡ torn_cells l.tears l.file 0 (take l.index l.cells); allowed : IsFileImage (take l.index l.cells) (file_contents l.out.items) }

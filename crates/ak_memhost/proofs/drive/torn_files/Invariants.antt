use Rattle.std.proofs.Common.{◌≡◌, take}
use Rattle.ak_memhost.specs.Drive.{IsImage, contents}
use Rattle.ak_memhost.specs.Torn.{torn}
use Rattle.ak_memhost.proofs.drive.torn_files.Given as goal

abbrev pub invariant-loop-number : goal.invariant-loop-number
invariant-loop-number l = record { is : l.out.items ≡ torn l.tears (take l.number l.files); allowed : IsImage (take l.number l.files) (contents l.out.items) }

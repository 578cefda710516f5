-- Leaves that can't be read, since the disk is damaged.
use Rattle.std.specs.Prelude.{ℕ}
use Rattle.ak_host.specs.Files.{Files}
use Rattle.ak_meta.specs.Contents.{Content}
use Rattle.ak_repair.specs.Walks.{IsBrokenIn}

-- Of some series of the record, a walk from its last leaf back along live ones comes to this block of a file. It is live, and
-- doesn't spell the leaf that is named to stand there.
abbrev pub IsDamagedLeaf : Content → ℕ → ℕ → Files → Type 0
IsDamagedLeaf c file block files = (series : ℕ) × IsBrokenIn c files series file block

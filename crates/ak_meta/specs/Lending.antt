-- The volumes that are lent.
use Rattle.std.specs.Borrow.{Lends, MutBor, Fml}
use Rattle.ak_volumes.specs.Ordinals.{Ordinals}
use Rattle.ak_volumes.specs.contracts.volumes.Volumes as volumes
use Rattle.ak_meta.specs.contracts.meta.Meta as meta
use Rattle.ak_meta.specs.Contents.{Content}

-- the content ends with its ordinals as they are left behind the reference
abbrev pub LendsVolumes : MutBor Content → MutBor Ordinals → Fml
LendsVolumes s r = Lends meta.the_row volumes.the_row s r (λ ordinals. record s.now { ordinals = ordinals })

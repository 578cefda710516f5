-- What a record becomes as series are added, leaves closed and ordinals begun.
use Rattle.std.specs.Prelude.{ℕ, zero, suc, ◌≡◌, ◌⊎◌, ◌+◌, ◌-◌, ◌<◌, ◌≤◌}
use Rattle.ak_host.specs.Moments.{HostState}
use Rattle.ak_image.specs.Blocks.{Seen, seen_in}
use Rattle.ak_image.specs.Laid.{rescue_in}
use Rattle.ak_image.specs.Scans.{IsLeafOf}
use Rattle.ak_meta.specs.Contents.{Content}
use Rattle.ak_meta.specs.Leaves.{leaves_at}
use Rattle.ak_volumes.specs.Ordinals.{Ordinals, HasGrown, IsLive, ordinal_of}
use Rattle.ak_world.specs.Leaves.{Leaf}

-- A series had so many leaves, the last of which stood at an address. Since then so many more were closed, and this is the address
-- of the last of all. Each of them that isn't dead is spelled, and names the one before it as its elder, so that the first of
-- them names the one that was the last.
abbrev pub AreAdded : Seen → Ordinals → ℕ → ℕ → ℕ → ℕ → ℕ → Type 0
AreAdded seen o series leaves from zero last = (leaves ≡ 0) ⊎ (last ≡ from)
AreAdded seen o series leaves from (suc more) last = (ordinal_of last < o.lo)
    ⊎ (IsLive o last × ((leaf : Leaf) × (elder : ℕ) × (leaf.address ≡ last) × (leaf.number ≡ leaves + more) × IsLeafOf seen series elder leaf
    × AreAdded seen o series leaves from more elder))

-- The limits stay, and the ordinals have grown. Each series has no fewer leaves, and those that were added are spelled and linked, as
-- the blocks read. Series may be added.
pub record Becomes (seen : Seen) (old new : Content) : Type 0 where
  pub limits : new.limits ≡ old.limits
  pub ordinals : HasGrown old.ordinals new.ordinals
  pub leaves : (n : ℕ) → leaves_at old.series n ≤ leaves_at new.series n
  pub added : (n : ℕ) → AreAdded seen new.ordinals n (leaves_at old.series n) (rescue_in old.series n) (leaves_at new.series n - leaves_at old.series n) (rescue_in new.series n)

-- whatever has become the one record, as the disk read before, has become the other, as it reads now
abbrev pub KeepsOrigins : HostState → HostState → Content → Content → Type 0
KeepsOrigins old new was now = (found : Content) → Becomes (seen_in was.ordinals.volumes old.files) found was → Becomes (seen_in now.ordinals.volumes new.files) found now

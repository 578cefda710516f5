-- Walks along the leaves of a series, from its last one back.
use Rattle.std.specs.Prelude.{ℕ, zero, suc, ◌≡◌, ◌⊎◌, ◌+◌, List, [], ◌∷◌, ◌++◌, length}
use Rattle.std.specs.List.{AllByRecursion}
use Rattle.ak_base.specs.declared.point.Addr.{Addr}
use Rattle.ak_cache.specs.Leaves.{SpellsNone}
use Rattle.ak_host.specs.Files.{Files}
use Rattle.ak_image.specs.Blocks.{Seen, seen_in}
use Rattle.ak_image.specs.Chains.{AreLinked}
use Rattle.ak_image.specs.Laid.{rescue_in}
use Rattle.ak_meta.specs.Contents.{Content}
use Rattle.ak_meta.specs.Leaves.{address_at, leaves_at}
use Rattle.ak_volumes.specs.Ordinals.{Ordinals, IsLive, ordinal_of, index_of, file_of}
use Rattle.ak_world.specs.Leaves.{Leaf}
use Rattle.ak_world.specs.Valid.{AreNumbered}

-- the item with this number in a list
abbrev pub IsAt : {A : Type 0} → List A → ℕ → A → Type 0
IsAt [] n item = ⊥
IsAt (x ∷ xs) zero item = x ≡ item
IsAt (x ∷ xs) (suc n) item = IsAt xs n item

-- the addresses of leaves, that of the last one first
abbrev pub addresses_back : List Leaf → List Addr
addresses_back [] = []
addresses_back (leaf ∷ leaves) = addresses_back leaves ++ address_at leaf.address ∷ []

-- The last leaves of a series of so many, from this number on: they are live, and stand where their links say, if the last one
-- stands at this address. Before them stands what the first one names.
pub record IsWalk (seen : Seen) (o : Ordinals) (series count last first before : ℕ) (leaves : List Leaf) : Type 0 where
  pub numbers : AreNumbered first leaves
  pub count_is : first + length leaves ≡ count
  pub live : AllByRecursion (λ (leaf : Leaf). IsLive o leaf.address) leaves
  pub links : AreLinked seen series before leaves last

-- before them there is none, or none that is live
pub record IsWhole (seen : Seen) (o : Ordinals) (series count last : ℕ) (leaves : List Leaf) : Type 0 where
  pub first : ℕ
  pub before : ℕ
  pub walk : IsWalk seen o series count last first before leaves
  pub ends : (first ≡ 0) ⊎ (¬ IsLive o before)

-- these are the addresses of all live leaves
pub record AreWalked (seen : Seen) (o : Ordinals) (series count last : ℕ) (addresses : List Addr) : Type 0 where
  pub leaves : List Leaf
  pub addresses_are : addresses ≡ addresses_back leaves
  pub whole : IsWhole seen o series count last leaves

-- Where a walk goes on there is a live block that doesn't spell the leaf.
pub record IsBroken (seen : Seen) (o : Ordinals) (series count last file block : ℕ) : Type 0 where
  pub number : ℕ
  pub at : Addr
  pub behind : List Leaf
  pub walk : IsWalk seen o series count last (suc number) at.0 behind
  pub live : IsLive o at.0
  pub file_is : file ≡ file_of o (ordinal_of at.0)
  pub block_is : block ≡ index_of at.0
  pub none : SpellsNone (seen at.0) at series number

-- the same of a series of a record, on a disk
abbrev pub IsWholeIn : Content → Files → ℕ → List Leaf → Type 0
IsWholeIn c files n leaves = IsWhole (seen_in c.ordinals.volumes files) c.ordinals n (leaves_at c.series n) (rescue_in c.series n) leaves

abbrev pub IsBrokenIn : Content → Files → ℕ → ℕ → ℕ → Type 0
IsBrokenIn c files n file block = IsBroken (seen_in c.ordinals.volumes files) c.ordinals n (leaves_at c.series n) (rescue_in c.series n) file block

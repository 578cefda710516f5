-- What a reader reaches, why it can't read a node, and what it answers of a leaf.
use Rattle.std.specs.Prelude.{ℕ, ◌≡◌, List}
use Rattle.ak_base.specs.declared.point.Addr.{Addr}
use Rattle.ak_base.specs.declared.point.Point.{Point}
use Rattle.ak_base.specs.declared.stop.Stop.{Stop}
use Rattle.ak_base.specs.declared.stop.Stop.TheVariants.{Usage, Damaged, Disk, Port, Memory, Budget, Worn, NoStore, Exists}
use Rattle.ak_bytes.specs.declared.head.Head.{Head}
use Rattle.ak_cache.specs.declared.reach.Reach.{Reach}
use Rattle.ak_host.specs.Causes.{Rose}
use Rattle.ak_host.specs.Moments.{HostState}
use Rattle.ak_image.specs.Blocks.{seen_in}
use Rattle.ak_leaf.specs.Leaf.{SpellsLeaf}
use Rattle.ak_volumes.specs.Ordinals.{Ordinals, ordinal_of, index_of, file_of}

-- the same disk, volumes, cache and scratch are reached
pub record KeepsReach {D : Type 0} (old new : Reach D) : Type 0 where
  pub disk : new.disk.ghost_name ≡ old.disk.ghost_name
  pub volumes : new.volumes ≡ old.volumes
  pub cache : new.cache.ghost_name ≡ old.cache.ghost_name
  pub scratch : new.scratch.ghost_name ≡ old.scratch.ghost_name

-- The block spells the leaf of a series with this number and this address, with this head and these points.
pub record SpellsAsked (block : List ℕ) (a : Addr) (series number : ℕ) (h : Head) (ps : List Point) : Type 0 where
  pub leaf : SpellsLeaf block h ps
  pub series_is : h.series ≡ series
  pub number_is : h.number ≡ number
  pub addr_is : h.addr ≡ a

-- the block spells no such leaf
abbrev pub SpellsNone : List ℕ → Addr → ℕ → ℕ → Type 0
SpellsNone block a series number = (h : Head) (ps : List Point) → ¬ SpellsAsked block a series number h ps

-- Why a node can't be read: the read failed; the block that is told, which is the one at the address, is no such node.
abbrev pub IsNodeStop : Type 0 → (List ℕ → Type 0) → Ordinals → HostState → HostState → Addr → Stop → Type 0
IsNodeStop told none o old new a Disk = Rose old.disk_faults new.disk_faults
IsNodeStop told none o old new a (Damaged file block) = (file ≡ file_of o (ordinal_of a.0)) × (block ≡ index_of a.0)
    × (told → none (seen_in o.volumes old.files a.0))
IsNodeStop told none o old new a Usage = ⊥
IsNodeStop told none o old new a Port = ⊥
IsNodeStop told none o old new a Memory = ⊥
IsNodeStop told none o old new a Budget = ⊥
IsNodeStop told none o old new a (Worn ordinal fill last) = ⊥
IsNodeStop told none o old new a NoStore = ⊥
IsNodeStop told none o old new a Exists = ⊥

-- Why a leaf can't be read: the read failed; the block that is told, which is the one at the address, spells no such leaf.
abbrev pub IsLeafStop : Type 0 → Ordinals → HostState → HostState → Addr → ℕ → ℕ → Stop → Type 0
IsLeafStop told o old new a series number = IsNodeStop told (λ block. SpellsNone block a series number) o old new a

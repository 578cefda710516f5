-- Blocks of one file that are written in a row.
use Rattle.std.specs.Prelude.{ℕ, suc, ◌≡◌, ◌≢◌, ◌+◌, ◌*◌, ◌/◌, ◌^◌, ◌<◌, ◌≤◌, List, length}
use Rattle.ak_bytes.specs.Head.{IsHead}
use Rattle.ak_bytes.specs.declared.head.Head.{Head}
use Rattle.ak_host.specs.Files.{Files, file_at, block_at}
use Rattle.ak_inner.specs.Nodes.{SpellsInner}
use Rattle.ak_inner.specs.References.{AreRefs}
use Rattle.ak_inner.specs.declared.reference.Ref.{Ref}
use Rattle.ak_levels.specs.Closes.{taken}
use Rattle.ak_levels.specs.Pending.{Lists}
use Rattle.ak_meta.specs.Contents.{rescue_at}
use Rattle.ak_tree.specs.declared.writing.Group.{Group}
use Rattle.ak_host.specs.Moments.{HostState, LeavesNow}

-- But for so many blocks of a file from an index on, the disks are the same.
pub record IsOutside (file index count : ℕ) (old new : Files) : Type 0 where
  pub number : length new ≡ length old
  pub files : (other : ℕ) → other ≢ file → file_at new other ≡ file_at old other
  pub size : length (file_at new file) ≡ length (file_at old file)
  pub below : (i : ℕ) → i < index → block_at new file i ≡ block_at old file i
  pub behind : (i : ℕ) → index + count ≤ i → block_at new file i ≡ block_at old file i

-- the head of the inner node of the level above this one, of this number, that stands at an address and has these references
abbrev pub head_above : Group → ℕ → ℕ → ℕ → List Ref → Head
head_above g level number a refs = record {
  kind = 2;
  level = suc level;
  count = length refs;
  series = g.series;
  number = number;
  addr = record { 0 = a };
  elder = record { 0 = rescue_at g.elders (suc level) };
  length = 104 * length refs;
}

-- the same of the node that the group has at this level, where this waited
abbrev pub node_head : Group → Lists → ℕ → Head
node_head g v k = head_above g k (g.number / 32 ^ suc k) (g.leaf.addr.0 + suc k) (taken v g.leaf k)

-- So many blocks of a file from an index on are the inner nodes of a group, where what waited was this: each spells its node, where
-- that keeps its rules.
abbrev pub AreNodeBlocks : Group → Lists → ℕ → ℕ → ℕ → Files → Type 0
AreNodeBlocks g v count file index files = (k : ℕ) → k < count → IsHead (node_head g v k) → AreRefs (suc k) (taken v g.leaf k)
    → SpellsInner (block_at files file (index + k)) (node_head g v k) (taken v g.leaf k)

-- a block was written, and the inner nodes of a group behind it
pub record IsGroup (file index : ℕ) (g : Group) (v : Lists) (first : List ℕ) (old new : Files) : Type 0 where
  pub outside : IsOutside file index (1 + g.others) old new
  pub block : block_at new file index ≡ first
  pub nodes : AreNodeBlocks g v g.others file (index + 1) new

-- a stop might have left this disk before, but for these blocks
pub record LeavesOutside (file index count : ℕ) (old : HostState) (disk : Files) : Type 0 where
  pub before : Files
  pub left : LeavesNow old before
  pub outside : IsOutside file index count before disk

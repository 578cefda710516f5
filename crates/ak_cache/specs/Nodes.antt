-- What a reader answers of an inner node.
use Rattle.std.specs.Prelude.{ℕ, ◌≡◌, List}
use Rattle.ak_base.specs.declared.point.Addr.{Addr}
use Rattle.ak_base.specs.declared.stop.Stop.{Stop}
use Rattle.ak_bytes.specs.declared.head.Head.{Head}
use Rattle.ak_cache.specs.Leaves.{IsNodeStop}
use Rattle.ak_host.specs.Moments.{HostState}
use Rattle.ak_inner.specs.Nodes.{SpellsInner}
use Rattle.ak_inner.specs.declared.reference.Ref.{Ref}
use Rattle.ak_volumes.specs.Ordinals.{Ordinals}

-- The block spells the inner node of a series with this level, this number and this address, with this head and these
-- references.
pub record SpellsAskedInner (block : List ℕ) (a : Addr) (level series number : ℕ) (h : Head) (rs : List Ref) : Type 0 where
  pub inner : SpellsInner block h rs
  pub level_is : h.level ≡ level
  pub series_is : h.series ≡ series
  pub number_is : h.number ≡ number
  pub addr_is : h.addr ≡ a

-- the block spells no such inner node
abbrev pub SpellsNoInner : List ℕ → Addr → ℕ → ℕ → ℕ → Type 0
SpellsNoInner block a level series number = (h : Head) (rs : List Ref) → ¬ SpellsAskedInner block a level series number h rs

-- Why an inner node can't be read: the read failed; the block that is told, which is the one at the address, spells no
-- such node.
abbrev pub IsInnerStop : Type 0 → Ordinals → HostState → HostState → Addr → ℕ → ℕ → ℕ → Stop → Type 0
IsInnerStop told o old new a level series number = IsNodeStop told (λ block. SpellsNoInner block a level series number) o old new a

-- An inner node and its block.
use Rattle.std.specs.Prelude.{◌≡◌, ℕ, ◌-◌, ◌*◌, List, ◌++◌, length, replicate}
use Rattle.std.specs.List.{AllByRecursion, flat_map}
use Rattle.ak_bytes.specs.Head.{IsHead, head_bytes}
use Rattle.ak_bytes.specs.declared.head.Head.{Head}
use Rattle.ak_inner.specs.References.{AreRefs, FitsRef, ref_bytes}
use Rattle.ak_inner.specs.declared.reference.Ref.{Ref}

-- The head has the kind, the count and the length of an inner node with these references.
pub record IsHeadOf (h : Head) (rs : List Ref) : Type 0 where
  pub kind : h.kind ≡ 2
  pub count : h.count ≡ length rs
  pub bytes : h.length ≡ 104 * length rs

-- the block: the head, the references, and zeros to the end
abbrev pub inner_bytes : Head → List Ref → List ℕ
inner_bytes h rs = head_bytes h ++ flat_map ref_bytes rs ++ replicate (4032 - 104 * length rs) 0

-- The block spells an inner node with this head and these references: both keep their rules, and it has their bytes.
pub record SpellsInner (block : List ℕ) (h : Head) (rs : List Ref) : Type 0 where
  pub head : IsHead h
  pub of : IsHeadOf h rs
  pub fits : AllByRecursion FitsRef rs
  pub refs : AreRefs h.level rs
  pub spelled : block ≡ inner_bytes h rs

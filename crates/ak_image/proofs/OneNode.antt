-- A block spells one node at most.
use Rattle.std.proofs.Common.{◌≡◌, ◌*◌, ℕ, List, [], ◌∷◌, length, map, drop, get_or, inl, inr, refl, sym, ap, ap₂, ◌∙◌, subst, arith}
use Rattle.ak_bytes.specs.declared.head.Head.{Head}
use Rattle.ak_forest.specs.Tree.{Node, Reference}
use Rattle.ak_image.specs.Blocks.{Seen}
use Rattle.ak_image.specs.Nodes.{reference_of, IsInnerOf, IsLeafNode, IsNodeAt}
use Rattle.ak_image.proofs.StepBlocks.{inner_spells_none}
use Rattle.ak_inner.specs.Nodes.{SpellsInner, inner_bytes}
use Rattle.ak_inner.specs.declared.reference.Ref.{Ref}
use Rattle.ak_inner.proofs.Nodes.{one_node as one_inner, inner_head}
use Rattle.ak_leaf.specs.Leaf.{SpellsLeaf}
use Rattle.ak_leaf.proofs.Blocks.{one_leaf}
use Rattle.ak_summary.specs.Folds.{summary_of}

-- the same but for what inner nodes leave open
abbrev pub AreOne : Node → Node → Type 0
AreOne x y = (x.level ≡ y.level) × (x.series ≡ y.series) × (x.number ≡ y.number) × (x.elder ≡ y.elder) × (x.references ≡ y.references) × (x.level ≡ 0 → x.value ≡ y.value)

leaf_or_inner : (seen : Seen) (a : ℕ) (x y : Node) → IsLeafNode seen a x → IsInnerOf seen a y → ⊥
leaf_or_inner seen a x y one two =
    let spells : SpellsInner (seen one.leaf.address) two.head two.refs = subst (λ (b : ℕ). SpellsInner (seen b) two.head two.refs) (sym one.at) two.spells in
    inner_spells_none (seen one.leaf.address) two.head one.is.head two.refs one.leaf.points spells one.is.spells

two_leaves : (seen : Seen) (a : ℕ) (x y : Node) → IsLeafNode seen a x → IsLeafNode seen a y → AreOne x y
two_leaves seen a x y one two =
    let spells : SpellsLeaf (seen one.leaf.address) two.is.head two.leaf.points = subst (λ (b : ℕ). SpellsLeaf (seen b) two.is.head two.leaf.points) (two.at ∙ sym one.at) two.is.spells in
    let same = one_leaf (seen one.leaf.address) one.is.head two.is.head one.leaf.points two.leaf.points one.is.spells spells in (
      one.level_is ∙ sym two.level_is,
      sym one.is.series_is ∙ ap (λ (h : Head). h.series) same.0 ∙ two.is.series_is,
      sym one.number_is ∙ sym one.is.number_is ∙ ap (λ (h : Head). h.number) same.0 ∙ two.is.number_is ∙ two.number_is,
      sym one.is.elder_is ∙ ap (λ (h : Head). h.elder.0) same.0 ∙ two.is.elder_is,
      one.none ∙ sym two.none,
      λ low. one.value_is ∙ ap summary_of same.1 ∙ sym two.value_is,
    )

two_inner : (seen : Seen) (a : ℕ) (x y : Node) → IsInnerOf seen a x → IsInnerOf seen a y → AreOne x y
two_inner seen a x y one two =
    let same = one_inner (seen a) one.head two.head one.refs two.refs one.spells two.spells in
    let above = inner_head one.head one.spells.head one.spells.of.kind in (
      sym one.level_is ∙ ap (λ (h : Head). h.level) same.0 ∙ two.level_is,
      sym one.series_is ∙ ap (λ (h : Head). h.series) same.0 ∙ two.series_is,
      sym one.number_is ∙ ap (λ (h : Head). h.number) same.0 ∙ two.number_is,
      sym one.elder_is ∙ ap (λ (h : Head). h.elder.0) same.0 ∙ two.elder_is,
      one.references_are ∙ ap (map reference_of) same.1 ∙ sym two.references_are,
      λ low. absurd (omega (arith, low, one.level_is, above.above)),
    )

pub one_node : (seen : Seen) (a : ℕ) (x y : Node) → IsNodeAt seen a x → IsNodeAt seen a y → AreOne x y
one_node seen a x y (inl one) (inl two) = two_leaves seen a x y one two
one_node seen a x y (inl one) (inr two) = absurd (leaf_or_inner seen a x y one two)
one_node seen a x y (inr one) (inl two) = absurd (leaf_or_inner seen a y x two one)
one_node seen a x y (inr one) (inr two) = two_inner seen a x y one two

-- ---- The block of an inner node

same_ref : (r s : Ref) → reference_of r ≡ reference_of s → r ≡ s
same_ref r s e = λ i. record { addr = record { 0 = (e i).child }; first_leaf = record { 0 = (e i).first }; summary = (e i).summary }

same_refs : (rs ss : List Ref) → map reference_of rs ≡ map reference_of ss → rs ≡ ss
same_refs [] [] e = refl
same_refs [] (s ∷ ss) e = absurd (omega (arith, ap length e))
same_refs (r ∷ rs) [] e = absurd (omega (arith, ap length e))
same_refs (r ∷ rs) (s ∷ ss) e =
    ap₂ (λ (x : Ref) (xs : List Ref). x ∷ xs) (same_ref r s (ap (λ (l : List Reference). get_or l 0 (reference_of r)) e)) (same_refs rs ss (ap (λ (l : List Reference). drop 1 l) e))

same_head : (g h : Head) → g.kind ≡ h.kind → g.level ≡ h.level → g.count ≡ h.count → g.series ≡ h.series → g.number ≡ h.number → g.addr.0 ≡ h.addr.0 → g.elder.0 ≡ h.elder.0 → g.length ≡ h.length → g ≡ h
same_head g h kind level count series number addr elder size =
    λ i. record { kind = kind i; level = level i; count = count i; series = series i; number = number i; addr = record { 0 = addr i }; elder = record { 0 = elder i }; length = size i }

pub one_block : (seen other : Seen) (a : ℕ) (node : Node) → IsInnerOf seen a node → IsInnerOf other a node → seen a ≡ other a
one_block seen other a node one two =
    let refs : one.refs ≡ two.refs = same_refs one.refs two.refs (sym one.references_are ∙ two.references_are) in
    let long : length one.refs ≡ length two.refs = ap length refs in
    let head : one.head ≡ two.head = same_head one.head two.head (one.spells.of.kind ∙ sym two.spells.of.kind) (one.level_is ∙ sym two.level_is) (one.spells.of.count ∙ long ∙ sym two.spells.of.count)
    (one.series_is ∙ sym two.series_is) (one.number_is ∙ sym two.number_is) (one.address_is ∙ sym two.address_is) (one.elder_is ∙ sym two.elder_is)
    (one.spells.of.bytes ∙ ap (λ (n : ℕ). 104 * n) long ∙ sym two.spells.of.bytes) in
    one.spells.spelled ∙ ap₂ inner_bytes head refs ∙ sym two.spells.spelled

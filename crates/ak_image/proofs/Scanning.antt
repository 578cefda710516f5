-- A scan finds one list of leaves.
use Rattle.std.proofs.Common.{◌≡◌, ℕ, zero, suc, ◌+◌, List, [], ◌∷◌, ◌++◌, sym, ◌∙◌, ap, ap₂, subst, inl, inr}
use Rattle.ak_bytes.specs.declared.head.Head.{Head}
use Rattle.ak_image.specs.Blocks.{Seen}
use Rattle.ak_image.specs.Images.{AreScans}
use Rattle.ak_image.specs.Scans.{IsFound, AreFound, IsScan}
use Rattle.ak_leaf.proofs.Blocks.{one_leaf}
use Rattle.ak_leaf.specs.Leaf.{SpellsLeaf}
use Rattle.ak_meta.specs.declared.meta.SeriesMeta.{SeriesMeta}
use Rattle.ak_volumes.specs.Ordinals.{address}
use Rattle.ak_world.specs.Leaves.{Leaf}

same_leaf : (l m : Leaf) → l.number ≡ m.number → l.address ≡ m.address → l.points ≡ m.points → l ≡ m
same_leaf l m number address points = λ i. record { number = number i; address = address i; points = points i }

-- a block spells one leaf
pub one_found : (seen : Seen) (series a : ℕ) (l m : Leaf) → IsFound seen series a l → IsFound seen series a m → l ≡ m
one_found seen series a l m one two =
    let place : l.address ≡ m.address = one.at ∙ sym two.at in
    let spells : SpellsLeaf (seen l.address) two.is.head m.points = subst (λ (b : ℕ). SpellsLeaf (seen b) two.is.head m.points) (sym place) two.is.spells in
    let same = one_leaf (seen l.address) one.is.head two.is.head l.points m.points one.is.spells spells in
    same_leaf l m (sym one.is.number_is ∙ ap (λ (h : Head). h.number) same.0 ∙ two.is.number_is) place same.1

-- so many blocks hold one list of leaves of a series
pub one_all_found : (seen : Seen) (series count a : ℕ) (xs ys : List Leaf) → AreFound seen series count a xs → AreFound seen series count a ys → xs ≡ ys
one_all_found seen series zero a xs ys one two = one ∙ sym two
one_all_found seen series (suc count) a xs ys (inl one) (inl two) =
    one.3
    ∙ ap₂ (λ (leaf : Leaf) (rest : List Leaf). leaf ∷ rest) (one_found seen series a one.0 two.0 one.2 two.2) (one_all_found seen series count (a + 1) one.1 two.1 one.4 two.4)
    ∙ sym two.3
one_all_found seen series (suc count) a xs ys (inl one) (inr two) = absurd (two.0 one.0 one.2)
one_all_found seen series (suc count) a xs ys (inr one) (inl two) = absurd (one.0 two.0 two.2)
one_all_found seen series (suc count) a xs ys (inr one) (inr two) = one_all_found seen series count (a + 1) xs ys one.1 two.1

-- there is one scan
pub one_scan : (seen : Seen) (series ordinal : ℕ) (fills : List ℕ) (xs ys : List Leaf) → IsScan seen series ordinal fills xs → IsScan seen series ordinal fills ys → xs ≡ ys
one_scan seen series ordinal [] xs ys one two = one ∙ sym two
one_scan seen series ordinal (fill ∷ fills) xs ys one two =
    one.2
    ∙ ap₂ (λ (front rest : List Leaf). front ++ rest) (one_all_found seen series fill (address ordinal 0) one.0 two.0 one.3 two.3) (one_scan seen series (suc ordinal) fills one.1 two.1 one.4 two.4)
    ∙ sym two.2

pub one_scans : (seen : Seen) (lo : ℕ) (fills : List ℕ) (series : ℕ) (all : List SeriesMeta) (xs ys : List (List Leaf)) → AreScans seen lo fills series all xs → AreScans seen lo fills series all ys → xs ≡ ys
one_scans seen lo fills series [] xs ys one two = one ∙ sym two
one_scans seen lo fills series (known ∷ all) xs ys one two =
    one.2
    ∙ ap₂ (λ (leaves : List Leaf) (rest : List (List Leaf)). leaves ∷ rest) (one_scan seen series lo fills one.0 two.0 one.3 two.3) (one_scans seen lo fills (suc series) all one.1 two.1 one.4 two.4)
    ∙ sym two.2

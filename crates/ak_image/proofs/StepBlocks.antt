-- What one block spells, and rows of blocks behind one another.
use Rattle.std.proofs.Common.{inl, inr, ◌≡◌, ◌≢◌, ◌+◌, ◌-◌, ◌%◌, ◌<◌, ◌≤◌, ℕ, zero, suc, List, [], ◌∷◌, ◌++◌, length, get_or, refl, sym, ap, ◌∙◌, subst, arith}
use Rattle.ak_bytes.specs.Head.{head_fields, head_bytes}
use Rattle.ak_bytes.specs.declared.head.Head.{Head}
use Rattle.ak_base.specs.declared.point.Point.{Point}
use Rattle.ak_image.specs.Blocks.{Seen}
use Rattle.ak_image.specs.Groups.{Group, AreInner, AreGroups}
use Rattle.ak_image.specs.Scans.{IsLeafOf, IsFound, AreFound}
use Rattle.ak_inner.specs.Nodes.{SpellsInner}
use Rattle.ak_inner.specs.declared.reference.Ref.{Ref}
use Rattle.ak_leaf.proofs.Blocks.{one_leaf}
use Rattle.ak_leaf.specs.Leaf.{SpellsLeaf}
use Rattle.ak_levels.specs.Carries.{carry_of}
use Rattle.ak_world.specs.Leaves.{Leaf}

-- the first byte of a head
first_of_head : (h : Head) (xs ys : List ℕ) → get_or (head_bytes h ++ xs ++ ys) 0 0 ≡ h.kind % 256
unfolding head_fields head_bytes
first_of_head h xs ys = refl

-- a block that spells an inner node spells no leaf
pub inner_spells_none : (block : List ℕ) (g h : Head) (rs : List Ref) (ps : List Point) → SpellsInner block g rs → SpellsLeaf block h ps → ⊥
inner_spells_none block g h rs ps i s =
    let first : g.kind % 256 ≡ h.kind % 256 = sym (first_of_head g _ _) ∙ ap (λ (l : List ℕ). get_or l 0 0) (sym i.spelled ∙ s.spelled) ∙ first_of_head h _ _ in
    absurd (omega (arith, first, ap (λ (k : ℕ). k % 256) i.of.kind, ap (λ (k : ℕ). k % 256) s.head.kind))

-- a leaf that is spelled has a point
pub some_points : (seen : Seen) (s e : ℕ) (leaf : Leaf) → IsLeafOf seen s e leaf → 0 < length leaf.points
some_points seen s e leaf l =
    elim l.spells.head.head.kind [
      | inl is ↦ omega (arith, is.some, l.spells.head.count)
      | inr is ↦ absurd (omega (arith, is.kind, l.spells.head.kind))
    ]

-- a block spells leaves of one series alone
pub one_series : (seen : Seen) (s e t a : ℕ) (leaf found : Leaf) → IsLeafOf seen s e leaf → leaf.address ≡ a → IsFound seen t a found → s ≡ t
one_series seen s e t a leaf found l at f =
    let spells : SpellsLeaf (seen leaf.address) f.is.head found.points = subst (λ (x : ℕ). SpellsLeaf (seen x) f.is.head found.points) (f.at ∙ sym at) f.is.spells in
    let heads = (one_leaf (seen leaf.address) l.head f.is.head leaf.points found.points l.spells spells).0 in
    sym l.series_is ∙ ap (λ (h : Head). h.series) heads ∙ f.is.series_is

-- the leaves in one stretch of blocks and in the one behind it
pub found_append : (seen : Seen) (s m n a : ℕ) (xs ys : List Leaf) → AreFound seen s m a xs → AreFound seen s n (a + m) ys → AreFound seen s (m + n) a (xs ++ ys)
found_append seen s zero n a xs ys h k =
    subst (λ (l : List Leaf). AreFound seen s (0 + n) a (l ++ ys)) (sym h)
    (subst (λ (c : ℕ). AreFound seen s c a ys) (let e : n ≡ 0 + n = omega arith in e) (subst (λ (b : ℕ). AreFound seen s n b ys) (let e : a + 0 ≡ a = omega arith in e) k))
found_append seen s (suc m) n a xs ys h k =
    let next : AreFound seen s n (a + 1 + m) ys = subst (λ (b : ℕ). AreFound seen s n b ys) (let e : a + suc m ≡ a + 1 + m = omega arith in e) k in
    let whole : AreFound seen s (suc (m + n)) a (xs ++ ys) = elim h [
      | inl one ↦ inl (one.0, one.1 ++ ys, one.2, ap (λ (l : List Leaf). l ++ ys) one.3, found_append seen s m n (a + 1) one.1 ys one.4 next)
      | inr none ↦ inr (none.0, found_append seen s m n (a + 1) xs ys none.1 next)
    ] in
    subst (λ (c : ℕ). AreFound seen s c a (xs ++ ys)) (let e : suc (m + n) ≡ suc m + n = omega arith in e) whole

-- no leaf among inner nodes
found_none : (seen : Seen) (s count a : ℕ) → ((b : ℕ) → a ≤ b → b < a + count → (leaf : Leaf) → ¬ (IsFound seen s b leaf)) → AreFound seen s count a []
found_none seen s zero a none = refl
found_none seen s (suc count) a none =
    inr (none a (omega arith) (omega arith), found_none seen s count (a + 1) (λ b from to. none b (omega (arith, from)) (omega (arith, to))))

pub found_inner : (seen : Seen) (s t m a : ℕ) → AreInner seen t m a → AreFound seen s (carry_of m) (a + 1) []
found_inner seen s t m a inner =
    found_none seen s (carry_of m) (a + 1) (λ b from to leaf f.
    let one = inner (b - a) (omega (arith, from)) (omega (arith, from, to)) in
    let at : a + (b - a) ≡ leaf.address = omega (arith, from, f.at) in
    let spells : SpellsInner (seen leaf.address) one.is.head one.is.refs = subst (λ (x : ℕ). SpellsInner (seen x) one.is.head one.is.refs) at one.is.spells in
    inner_spells_none (seen leaf.address) one.is.head f.is.head one.is.refs leaf.points spells f.is.spells)

-- the leaf of a group alone
pub found_own : (seen : Seen) (s e a : ℕ) (leaf : Leaf) → IsLeafOf seen s e leaf → leaf.address ≡ a → AreInner seen s leaf.number a → AreFound seen s (1 + carry_of leaf.number) a (leaf ∷ [])
found_own seen s e a leaf l at inner =
    subst (λ (c : ℕ). AreFound seen s c a (leaf ∷ [])) (let e : suc (carry_of leaf.number) ≡ 1 + carry_of leaf.number = omega arith in e)
    (inl (leaf, [], record { at = at; elder = e; is = l }, refl, found_inner seen s s leaf.number a inner))

-- none of another series
pub found_other : (seen : Seen) (s t e a : ℕ) (leaf : Leaf) → IsLeafOf seen t e leaf → t ≢ s → leaf.address ≡ a → AreInner seen t leaf.number a → AreFound seen s (1 + carry_of leaf.number) a []
found_other seen s t e a leaf l apart at inner =
    subst (λ (c : ℕ). AreFound seen s c a []) (let e : suc (carry_of leaf.number) ≡ 1 + carry_of leaf.number = omega arith in e)
    (inr ((λ found f. apart (one_series seen t e s a leaf found l at f)), found_inner seen s t leaf.number a inner))

-- no leaf of a series that isn't known
pub found_unknown : (seen : Seen) (known s count a : ℕ) (gs : List Group) → known ≤ s → AreGroups seen known count a gs → AreFound seen s count a []
found_unknown seen known s count a [] new h = subst (λ (c : ℕ). AreFound seen s c a []) (sym h) refl
found_unknown seen known s count a (g ∷ gs) new h =
    let z = carry_of g.leaf.number in
    let apart : g.series ≢ s = λ e. omega (arith, e, h.0, new) in
    subst (λ (c : ℕ). AreFound seen s c a []) (sym h.5)
    (found_append seen s (1 + z) h.4 a [] [] (found_other seen s g.series g.elder a g.leaf h.2 apart h.1 h.3) (found_unknown seen known s h.4 (a + (1 + z)) gs new h.6))

-- The rows of live blocks, where the row of the newest ordinal grows.
use Rattle.std.proofs.Common.{◌≡◌, ◌+◌, ◌-◌, ◌<◌, ◌≤◌, ℕ, zero, suc, List, [], ◌∷◌, ◌++◌, length, slice_set, refl, ap, ◌∙◌, subst, arith}
use Rattle.std.specs.Prelude.{slice_index}
use Rattle.ak_image.specs.Blocks.{Seen}
use Rattle.ak_image.specs.Groups.{Group, AreGroups, AreRows}
use Rattle.ak_levels.specs.Carries.{carry_of}
use Rattle.ak_volumes.specs.Ordinals.{Ordinals, address, newest_fill, filled}

-- the last fill, and the fills where the last one grows
abbrev pub last_fill : List ℕ → ℕ
last_fill [] = 0
last_fill (f ∷ []) = f
last_fill (f ∷ g ∷ fills) = last_fill (g ∷ fills)

abbrev pub with_more : List ℕ → ℕ → List ℕ
with_more [] b = []
with_more (f ∷ []) b = (f + b) ∷ []
with_more (f ∷ g ∷ fills) b = f ∷ with_more (g ∷ fills) b

last_is : (fills : List ℕ) (n : ℕ) → suc n ≡ length fills → slice_index fills n ≡ last_fill fills
last_is [] n e = absurd (omega arith)
last_is (f ∷ []) zero e = refl
last_is (f ∷ []) (suc n) e = absurd (omega arith)
last_is (f ∷ g ∷ fills) zero e = absurd (omega arith)
last_is (f ∷ g ∷ fills) (suc n) e = last_is (g ∷ fills) n (omega arith)

more_is : (fills : List ℕ) (n b : ℕ) → suc n ≡ length fills → slice_set fills n (last_fill fills + b) ≡ with_more fills b
more_is [] n b e = absurd (omega arith)
more_is (f ∷ []) zero b e = refl
more_is (f ∷ []) (suc n) b e = absurd (omega arith)
more_is (f ∷ g ∷ fills) zero b e = absurd (omega arith)
more_is (f ∷ g ∷ fills) (suc n) b e = ap (λ (l : List ℕ). f ∷ l) (more_is (g ∷ fills) n b (omega arith))

pub newest_fill_is : (o : Ordinals) → 0 < length o.fills → newest_fill o ≡ last_fill o.fills
newest_fill_is o some = last_is o.fills (length o.fills - 1) (omega (arith, some))

pub filled_is : (o : Ordinals) (b : ℕ) → 0 < length o.fills → (filled o b).fills ≡ with_more o.fills b
filled_is o b some = ap (λ (x : ℕ). slice_set o.fills (length o.fills - 1) (x + b)) (newest_fill_is o some) ∙ more_is o.fills (length o.fills - 1) b (omega (arith, some))

-- the groups of one stretch and of the one behind it
groups_append : (seen : Seen) (known m n a : ℕ) (gs hs : List Group) → AreGroups seen known m a gs → AreGroups seen known n (a + m) hs → AreGroups seen known (m + n) a (gs ++ hs)
groups_append seen known m n a [] hs h k =
    subst (λ (c : ℕ). AreGroups seen known c a hs) (let e : n ≡ m + n = omega (arith, h) in e)
    (subst (λ (x : ℕ). AreGroups seen known n x hs) (let e : a + m ≡ a = omega (arith, h) in e) k)
groups_append seen known m n a (g ∷ gs) hs h k =
    let z = carry_of g.leaf.number in
    let next : AreGroups seen known n (a + (1 + z) + h.4) hs = subst (λ (x : ℕ). AreGroups seen known n x hs) (let e : a + m ≡ a + (1 + z) + h.4 = omega (arith, h.5) in e) k in
    (h.0, h.1, h.2, h.3, h.4 + n, omega (arith, h.5), groups_append seen known h.4 n (a + (1 + z)) gs hs h.6 next)

-- the row of the newest ordinal gets groups at its end
pub rows_more : (seen : Seen) (known ordinal b a : ℕ) (fills : List ℕ) (gs : List Group) → 0 < length fills → a ≡ address (ordinal + length fills - 1) (last_fill fills) → AreGroups seen known b a gs → AreRows seen known ordinal fills
    → AreRows seen known ordinal (with_more fills b)
rows_more seen known ordinal b a [] gs some at new h = absurd (omega arith)
rows_more seen known ordinal b a (f ∷ []) gs some at new h =
    let next : AreGroups seen known b (address ordinal 0 + f) gs = subst (λ (x : ℕ). AreGroups seen known b x gs) (let e : a ≡ address ordinal 0 + f = omega (arith, at) in e) new in
    ((h.0.0 ++ gs, groups_append seen known f b (address ordinal 0) h.0.0 gs h.0.1 next), tt)
rows_more seen known ordinal b a (f ∷ g ∷ fills) gs some at new h =
    (h.0, rows_more seen known (suc ordinal) b a (g ∷ fills) gs (omega arith) (omega (arith, at)) new h.1)

-- the row of an ordinal that begins is empty
pub rows_begin : (seen : Seen) (known ordinal : ℕ) (fills : List ℕ) → AreRows seen known ordinal fills → AreRows seen known ordinal (fills ++ 0 ∷ [])
rows_begin seen known ordinal [] h = (([], refl), tt)
rows_begin seen known ordinal (f ∷ fills) h = (h.0, rows_begin seen known (suc ordinal) fills h.1)

groups_known : (seen : Seen) (known more count a : ℕ) (gs : List Group) → known ≤ more → AreGroups seen known count a gs → AreGroups seen more count a gs
groups_known seen known more count a [] most h = h
groups_known seen known more count a (g ∷ gs) most h =
    (omega (arith, h.0, most), h.1, h.2, h.3, h.4, h.5, groups_known seen known more h.4 (a + (1 + carry_of g.leaf.number)) gs most h.6)

-- more series are known
pub rows_known : (seen : Seen) (known more ordinal : ℕ) (fills : List ℕ) → known ≤ more → AreRows seen known ordinal fills → AreRows seen more ordinal fills
rows_known seen known more ordinal [] most h = tt
rows_known seen known more ordinal (f ∷ fills) most h = ((h.0.0, groups_known seen known more f (address ordinal 0) h.0.0 most h.0.1), rows_known seen known more (suc ordinal) fills most h.1)

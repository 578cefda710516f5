-- The scans of live blocks, with a leaf more at the end.
use Rattle.std.proofs.Common.{◌≡◌, ◌+◌, ◌-◌, ◌<◌, ◌≤◌, ℕ, suc, List, [], ◌∷◌, ◌++◌, length, refl, sym, ap, ◌∙◌, subst, arith, append_assoc, append-nil}
use Rattle.ak_image.specs.Blocks.{Seen}
use Rattle.ak_image.specs.Groups.{AreRows}
use Rattle.ak_image.specs.Scans.{AreFound, IsScan}
use Rattle.ak_image.proofs.StepBlocks.{found_append, found_unknown}
use Rattle.ak_image.proofs.StepRows.{last_fill, with_more}
use Rattle.ak_volumes.specs.Ordinals.{address}
use Rattle.ak_world.specs.Leaves.{Leaf}

-- the newest ordinal gets leaves at its end
pub scan_more : (seen : Seen) (s ordinal b a : ℕ) (fills : List ℕ) (leaves more : List Leaf) → 0 < length fills → a ≡ address (ordinal + length fills - 1) (last_fill fills) → AreFound seen s b a more → IsScan seen s ordinal fills leaves
    → IsScan seen s ordinal (with_more fills b) (leaves ++ more)
scan_more seen s ordinal b a [] leaves more some at new h = absurd (omega arith)
scan_more seen s ordinal b a (f ∷ []) leaves more some at new h =
    let next : AreFound seen s b (address ordinal 0 + f) more = subst (λ (x : ℕ). AreFound seen s b x more) (let e : a ≡ address ordinal 0 + f = omega (arith, at) in e) new in
    let front : leaves ≡ h.0 = h.2 ∙ ap (λ (l : List Leaf). h.0 ++ l) h.4 ∙ append-nil h.0 in
    (h.0 ++ more, [], ap (λ (l : List Leaf). l ++ more) front ∙ sym (append-nil (h.0 ++ more)), found_append seen s f b (address ordinal 0) h.0 more h.3 next, refl)
scan_more seen s ordinal b a (f ∷ g ∷ fills) leaves more some at new h =
    (h.0, h.1 ++ more, ap (λ (l : List Leaf). l ++ more) h.2 ∙ append_assoc h.0 h.1 more, h.3, scan_more seen s (suc ordinal) b a (g ∷ fills) h.1 more (omega arith) (omega (arith, at)) new h.4)

-- or none
pub scan_none : (seen : Seen) (s ordinal b a : ℕ) (fills : List ℕ) (leaves : List Leaf) → 0 < length fills → a ≡ address (ordinal + length fills - 1) (last_fill fills) → AreFound seen s b a [] → IsScan seen s ordinal fills leaves
    → IsScan seen s ordinal (with_more fills b) leaves
scan_none seen s ordinal b a fills leaves some at none h =
    subst (IsScan seen s ordinal (with_more fills b)) (append-nil leaves) (scan_more seen s ordinal b a fills leaves [] some at none h)

-- an ordinal that begins has no leaf
pub scan_begin : (seen : Seen) (s ordinal : ℕ) (fills : List ℕ) (leaves : List Leaf) → IsScan seen s ordinal fills leaves → IsScan seen s ordinal (fills ++ 0 ∷ []) leaves
scan_begin seen s ordinal [] leaves h = ([], [], h, refl, refl)
scan_begin seen s ordinal (f ∷ fills) leaves h = (h.0, h.1, h.2, h.3, scan_begin seen s (suc ordinal) fills h.1 h.4)

-- a series that isn't known has no leaf
pub scan_unknown : (seen : Seen) (known s ordinal : ℕ) (fills : List ℕ) → known ≤ s → AreRows seen known ordinal fills → IsScan seen s ordinal fills []
scan_unknown seen known s ordinal [] new h = refl
scan_unknown seen known s ordinal (f ∷ fills) new h =
    ([], [], refl, found_unknown seen known s f (address ordinal 0) h.0.0 new h.0.1, scan_unknown seen known s (suc ordinal) fills new h.1)

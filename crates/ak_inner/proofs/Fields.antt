-- Fields that follow one another.
use Rattle.std.proofs.Common.{◌≡◌, ◌≤ℤ◌, ◌↔◌, ◌∙◌, ◌++◌, List, ℕ, ℤ, sym, ap, ap₂, subst}
use Rattle.std.proofs.lemmas.Int.{to_z-of_z}
use mir.Syntax.{Width}
use mir.Val.{SFits, to_z, of_z}
use Rattle.byteorder.specs.Endian.{little_bytes}
use Rattle.ak_bytes.specs.Fields.{signed_bytes}

pub plain : (n x : ℕ) (front front' whole : List ℕ) → whole ≡ front ++ little_bytes n x → front ≡ front' → whole ≡ front' ++ little_bytes n x
plain n x front front' whole e f = e ∙ ap (λ (l : List ℕ). l ++ little_bytes n x) f

-- a signed field that was read, and one that was written
pub signed_read : (w : Width) (n : ℕ) (z : ℤ) (front front' whole : List ℕ) → SFits w z → whole ≡ front ++ signed_bytes n z → front ≡ front' → whole ≡ front' ++ signed_bytes n (to_z w (of_z w z))
signed_read w n z front front' whole fits e f = e ∙ ap (λ (l : List ℕ). l ++ signed_bytes n z) f ∙ ap (λ (y : ℤ). front' ++ signed_bytes n y) (sym (to_z-of_z w z fits))

pub signed_put : (w : Width) (n : ℕ) (z : ℤ) (front front' whole : List ℕ) → SFits w z → whole ≡ front ++ signed_bytes n (to_z w (of_z w z)) → front ≡ front' → whole ≡ front' ++ signed_bytes n z
signed_put w n z front front' whole fits e f = e ∙ ap₂ (λ (l : List ℕ) (y : ℤ). l ++ signed_bytes n y) f (to_z-of_z w z fits)

-- an order of two numbers is that of their values in a width
pub order_kept : (w : Width) (x y : ℤ) → SFits w x → SFits w y → (to_z w (of_z w x) ≤ℤ to_z w (of_z w y)) ↔ (x ≤ℤ y)
order_kept w x y f g =
    let a : to_z w (of_z w x) ≡ x = to_z-of_z w x f in
    let b : to_z w (of_z w y) ≡ y = to_z-of_z w y g in (
      λ h. subst (λ (z : ℤ). z ≤ℤ y) a (subst (λ (z : ℤ). to_z w (of_z w x) ≤ℤ z) b h),
      λ h. subst (λ (z : ℤ). z ≤ℤ to_z w (of_z w y)) (sym a) (subst (λ (z : ℤ). x ≤ℤ z) (sym b) h),
    )

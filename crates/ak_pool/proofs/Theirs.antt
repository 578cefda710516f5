-- What a change of the list leaves of the other frames.
use Rattle.std.proofs.Common.{◌≡◌, ℕ, ◌⊎◌, inl, inr, List, [], ◌∷◌, cond, eqb, refl, sym, ap, ◌∙◌, subst}
use Rattle.std.proofs.lemmas.Bool.{ne_eqb, eq-eqb}
use Rattle.std.proofs.lemmas.Bool.Decides.{eqb_tells}
use Rattle.std.specs.Prelude.{◌≢◌}
use Rattle.ak_base.specs.declared.point.Point.{Point}
use Rattle.ak_pool.specs.Frames.{Used, used_frame, IsUsed, series_of, leaf_of, without, with_leaf, moved_first}

-- the same number, or another
pub same_or_other : (m n : ℕ) → (m ≡ n) ⊎ (m ≢ n)
same_or_other m n = elim (eqb_tells m n) [ inl h ↦ inl h.1 | inr h ↦ inr h.1 ]

without_same : (u : Used) (us : List Used) (f : ℕ) → u.frame ≡ f → without (u ∷ us) f ≡ without us f
without_same u us f e = rw (eq-eqb u.frame f e) refl

without_other : (u : Used) (us : List Used) (f : ℕ) → u.frame ≢ f → without (u ∷ us) f ≡ u ∷ without us f
without_other u us f n = rw (ne_eqb u.frame f n) refl

with_same : (u : Used) (us : List Used) (f : ℕ) (w : List Point) → u.frame ≡ f → with_leaf (u ∷ us) f w ≡ used_frame u.frame u.series w ∷ with_leaf us f w
with_same u us f w e = rw (eq-eqb u.frame f e) (ap (λ (m : ℕ). used_frame m u.series w ∷ with_leaf us f w) (sym e))

with_other : (u : Used) (us : List Used) (f : ℕ) (w : List Point) → u.frame ≢ f → with_leaf (u ∷ us) f w ≡ u ∷ with_leaf us f w
with_other u us f w n = rw (ne_eqb u.frame f n) refl

series_past : (u : Used) (us : List Used) (g : ℕ) → u.frame ≢ g → series_of (u ∷ us) g ≡ series_of us g
series_past u us g n = rw (ne_eqb u.frame g n) refl

leaf_past : (u : Used) (us : List Used) (g : ℕ) → u.frame ≢ g → leaf_of (u ∷ us) g ≡ leaf_of us g
leaf_past u us g n = rw (ne_eqb u.frame g n) refl

series_here : (u : Used) (us : List Used) (g : ℕ) → u.frame ≡ g → series_of (u ∷ us) g ≡ u.series
series_here u us g e = rw (eq-eqb u.frame g e) refl

leaf_here : (u : Used) (us : List Used) (g : ℕ) → u.frame ≡ g → leaf_of (u ∷ us) g ≡ u.leaf
leaf_here u us g e = rw (eq-eqb u.frame g e) refl

-- one frame less
pub given_series : (us : List Used) (f g : ℕ) → g ≢ f → series_of (without us f) g ≡ series_of us g
given_series [] f g n = refl
given_series (u ∷ us) f g n = elim (same_or_other u.frame f) [
  | inl e ↦ ap (λ (l : List Used). series_of l g) (without_same u us f e) ∙ given_series us f g n ∙ sym (series_past u us g (λ h. n (sym h ∙ e)))
  | inr o ↦ ap (λ (l : List Used). series_of l g) (without_other u us f o) ∙ ap (λ (m : ℕ). cond (eqb u.frame g) u.series m) (given_series us f g n)
]

pub given_leaf : (us : List Used) (f g : ℕ) → g ≢ f → leaf_of (without us f) g ≡ leaf_of us g
given_leaf [] f g n = refl
given_leaf (u ∷ us) f g n = elim (same_or_other u.frame f) [
  | inl e ↦ ap (λ (l : List Used). leaf_of l g) (without_same u us f e) ∙ given_leaf us f g n ∙ sym (leaf_past u us g (λ h. n (sym h ∙ e)))
  | inr o ↦ ap (λ (l : List Used). leaf_of l g) (without_other u us f o) ∙ ap (λ (m : List Point). cond (eqb u.frame g) u.leaf m) (given_leaf us f g n)
]

given_used_other : (u : Used) (us rest : List Used) (f g : ℕ) → u.frame ≢ f → (IsUsed rest g → IsUsed us g × (g ≢ f)) → IsUsed (u ∷ rest) g → IsUsed (u ∷ us) g × (g ≢ f)
given_used_other u us rest f g o step (inl e) = (inl e, λ h. o (e ∙ h))
given_used_other u us rest f g o step (inr is) = let r = step is in (inr r.0, r.1)

pub given_used_to : (us : List Used) (f g : ℕ) → IsUsed (without us f) g → IsUsed us g × (g ≢ f)
given_used_to [] f g is = absurd is
given_used_to (u ∷ us) f g is = elim (same_or_other u.frame f) [
  | inl e ↦ (let r = given_used_to us f g (subst (λ (l : List Used). IsUsed l g) (without_same u us f e) is) in (inr r.0, r.1))
  | inr o ↦ given_used_other u us (without us f) f g o (given_used_to us f g) (subst (λ (l : List Used). IsUsed l g) (without_other u us f o) is)
]

pub given_used_from : (us : List Used) (f g : ℕ) → g ≢ f → IsUsed us g → IsUsed (without us f) g
given_used_from [] f g n is = is
given_used_from (u ∷ us) f g n (inl e) = subst (λ (l : List Used). IsUsed l g) (sym (without_other u us f (λ h. n (sym e ∙ h)))) (inl e)
given_used_from (u ∷ us) f g n (inr is) = elim (same_or_other u.frame f) [
  | inl e ↦ subst (λ (l : List Used). IsUsed l g) (sym (without_same u us f e)) (given_used_from us f g n is)
  | inr o ↦ subst (λ (l : List Used). IsUsed l g) (sym (without_other u us f o)) (inr (given_used_from us f g n is))
]

-- one frame first
pub moved_series : (us : List Used) (f g : ℕ) → series_of (moved_first us f) g ≡ series_of us g
moved_series us f g = elim (same_or_other f g) [
  | inl e ↦ series_here (used_frame f (series_of us f) (leaf_of us f)) (without us f) g e ∙ ap (series_of us) e
  | inr o ↦ series_past (used_frame f (series_of us f) (leaf_of us f)) (without us f) g o ∙ given_series us f g (λ e. o (sym e))
]

pub moved_leaf : (us : List Used) (f g : ℕ) → leaf_of (moved_first us f) g ≡ leaf_of us g
moved_leaf us f g = elim (same_or_other f g) [
  | inl e ↦ leaf_here (used_frame f (series_of us f) (leaf_of us f)) (without us f) g e ∙ ap (leaf_of us) e
  | inr o ↦ leaf_past (used_frame f (series_of us f) (leaf_of us f)) (without us f) g o ∙ given_leaf us f g (λ e. o (sym e))
]

pub moved_used_to : (us : List Used) (f g : ℕ) → IsUsed us f → IsUsed (moved_first us f) g → IsUsed us g
moved_used_to us f g used (inl e) = subst (IsUsed us) e used
moved_used_to us f g used (inr is) = (given_used_to us f g is).0

pub moved_used_from : (us : List Used) (f g : ℕ) → IsUsed us g → IsUsed (moved_first us f) g
moved_used_from us f g is = elim (same_or_other g f) [ inl e ↦ inl (sym e) | inr n ↦ inr (given_used_from us f g n is) ]

-- another leaf
pub lent_series : (us : List Used) (f g : ℕ) (w : List Point) → series_of (with_leaf us f w) g ≡ series_of us g
lent_series [] f g w = refl
lent_series (u ∷ us) f g w =
    let rest = ap (λ (m : ℕ). cond (eqb u.frame g) u.series m) (lent_series us f g w) in
    elim (same_or_other u.frame f) [
      | inl e ↦ ap (λ (l : List Used). series_of l g) (with_same u us f w e) ∙ rest
      | inr o ↦ ap (λ (l : List Used). series_of l g) (with_other u us f w o) ∙ rest
    ]

pub lent_leaf : (us : List Used) (f g : ℕ) (w : List Point) → g ≢ f → leaf_of (with_leaf us f w) g ≡ leaf_of us g
lent_leaf [] f g w n = refl
lent_leaf (u ∷ us) f g w n = elim (same_or_other u.frame f) [
  | inl e ↦
      (let past : u.frame ≢ g = λ h. n (sym h ∙ e) in
      ap (λ (l : List Used). leaf_of l g) (with_same u us f w e)
      ∙ leaf_past (used_frame u.frame u.series w) (with_leaf us f w) g past ∙ lent_leaf us f g w n ∙ sym (leaf_past u us g past))
  | inr o ↦ ap (λ (l : List Used). leaf_of l g) (with_other u us f w o) ∙ ap (λ (m : List Point). cond (eqb u.frame g) u.leaf m) (lent_leaf us f g w n)
]

pub lent_own : (us : List Used) (f : ℕ) (w : List Point) → IsUsed us f → leaf_of (with_leaf us f w) f ≡ w
lent_own [] f w is = absurd is
lent_own (u ∷ us) f w (inl e) = ap (λ (l : List Used). leaf_of l f) (with_same u us f w e) ∙ leaf_here (used_frame u.frame u.series w) (with_leaf us f w) f e
lent_own (u ∷ us) f w (inr is) = elim (same_or_other u.frame f) [
  | inl e ↦ ap (λ (l : List Used). leaf_of l f) (with_same u us f w e) ∙ leaf_here (used_frame u.frame u.series w) (with_leaf us f w) f e
  | inr o ↦ ap (λ (l : List Used). leaf_of l f) (with_other u us f w o) ∙ leaf_past u (with_leaf us f w) f o ∙ lent_own us f w is
]

on_rest : (u : Used) (us vs : List Used) (g : ℕ) → (IsUsed us g → IsUsed vs g) → IsUsed (u ∷ us) g → IsUsed (u ∷ vs) g
on_rest u us vs g step (inl e) = inl e
on_rest u us vs g step (inr is) = inr (step is)

pub lent_used_to : (us : List Used) (f g : ℕ) (w : List Point) → IsUsed (with_leaf us f w) g → IsUsed us g
lent_used_to [] f g w is = is
lent_used_to (u ∷ us) f g w is = elim (same_or_other u.frame f) [
  | inl e ↦ on_rest u (with_leaf us f w) us g (lent_used_to us f g w) (subst (λ (l : List Used). IsUsed l g) (with_same u us f w e) is)
  | inr o ↦ on_rest u (with_leaf us f w) us g (lent_used_to us f g w) (subst (λ (l : List Used). IsUsed l g) (with_other u us f w o) is)
]

pub lent_used_from : (us : List Used) (f g : ℕ) (w : List Point) → IsUsed us g → IsUsed (with_leaf us f w) g
lent_used_from [] f g w is = is
lent_used_from (u ∷ us) f g w is = elim (same_or_other u.frame f) [
  | inl e ↦ subst (λ (l : List Used). IsUsed l g) (sym (with_same u us f w e)) (on_rest u us (with_leaf us f w) g (lent_used_from us f g w) is)
  | inr o ↦ subst (λ (l : List Used). IsUsed l g) (sym (with_other u us f w o)) (on_rest u us (with_leaf us f w) g (lent_used_from us f g w) is)
]

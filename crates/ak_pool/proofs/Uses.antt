-- A list of used frames, and one of them with those before and after it.
use Rattle.std.proofs.Common.{◌≡◌, ℕ, inl, inr, List, [], ◌∷◌, ◌++◌, refl, sym, ap}
use Rattle.std.proofs.lemmas.Bool.{ne_eqb, eq-eqb}
use Rattle.std.specs.Prelude.{◌≢◌}
use Rattle.std.specs.List.{AllByRecursion}
use Rattle.ak_base.specs.declared.point.Point.{Point}
use Rattle.ak_pool.specs.Frames.{Used, used_frame, IsUsed, series_of, leaf_of, without, with_leaf, moved_first}

-- each of a list has another number
abbrev pub Others : ℕ → List Used → Type 0
Others frame us = AllByRecursion (λ v. v.frame ≢ frame) us

pub others_left : (f : ℕ) (a b : List Used) → Others f (a ++ b) → Others f a
others_left f [] b h = tt
others_left f (v ∷ a) b h = (h.0, others_left f a b h.1)

-- no frame of the list is used under this number
pub unused : (f : ℕ) (us : List Used) → Others f us → IsUsed us f → ⊥
unused f [] h is = is
unused f (u ∷ us) h (inl e) = h.0 e
unused f (u ∷ us) h (inr is) = unused f us h.1 is

-- the frame in the middle is that of its number
pub series_mid : (f : ℕ) (a : List Used) (u : Used) (b : List Used) → Others f a → u.frame ≡ f → series_of (a ++ u ∷ b) f ≡ u.series
series_mid f [] u b h e = rw (eq-eqb u.frame f e) refl
series_mid f (v ∷ a) u b h e = rw (ne_eqb v.frame f h.0) (series_mid f a u b h.1 e)

pub leaf_mid : (f : ℕ) (a : List Used) (u : Used) (b : List Used) → Others f a → u.frame ≡ f → leaf_of (a ++ u ∷ b) f ≡ u.leaf
leaf_mid f [] u b h e = rw (eq-eqb u.frame f e) refl
leaf_mid f (v ∷ a) u b h e = rw (ne_eqb v.frame f h.0) (leaf_mid f a u b h.1 e)

without_others : (f : ℕ) (us : List Used) → Others f us → without us f ≡ us
without_others f [] h = refl
without_others f (v ∷ us) h = rw (ne_eqb v.frame f h.0) (ap (λ (l : List Used). v ∷ l) (without_others f us h.1))

pub without_mid : (f : ℕ) (a : List Used) (u : Used) (b : List Used) → Others f (a ++ b) → u.frame ≡ f → without (a ++ u ∷ b) f ≡ a ++ b
without_mid f [] u b h e = rw (eq-eqb u.frame f e) (without_others f b h)
without_mid f (v ∷ a) u b h e = rw (ne_eqb v.frame f h.0) (ap (λ (l : List Used). v ∷ l) (without_mid f a u b h.1 e))

with_leaf_others : (f : ℕ) (us : List Used) (w : List Point) → Others f us → with_leaf us f w ≡ us
with_leaf_others f [] w h = refl
with_leaf_others f (v ∷ us) w h = rw (ne_eqb v.frame f h.0) (ap (λ (l : List Used). v ∷ l) (with_leaf_others f us w h.1))

pub with_leaf_mid : (f : ℕ) (a : List Used) (u : Used) (b : List Used) (w : List Point) → Others f (a ++ b) → u.frame ≡ f → with_leaf (a ++ u ∷ b) f w ≡ a ++ used_frame f u.series w ∷ b
with_leaf_mid f [] u b w h e = rw (eq-eqb u.frame f e) (ap (λ (l : List Used). used_frame f u.series w ∷ l) (with_leaf_others f b w h))
with_leaf_mid f (v ∷ a) u b w h e = rw (ne_eqb v.frame f h.0) (ap (λ (l : List Used). v ∷ l) (with_leaf_mid f a u b w h.1 e))

moved_same : (f g s t : ℕ) (l m : List Point) (us vs : List Used) → f ≡ g → s ≡ t → l ≡ m → us ≡ vs → used_frame f s l ∷ us ≡ used_frame g t m ∷ vs
moved_same f g s t l m us vs a b c d = cc

-- the frame itself, before the others
pub moved_mid : (f : ℕ) (a : List Used) (u : Used) (b : List Used) → Others f (a ++ b) → u.frame ≡ f → moved_first (a ++ u ∷ b) f ≡ u ∷ (a ++ b)
moved_mid f a u b h e =
    moved_same f u.frame (series_of (a ++ u ∷ b) f) u.series (leaf_of (a ++ u ∷ b) f) u.leaf (without (a ++ u ∷ b) f) (a ++ b)
    (sym e) (series_mid f a u b (others_left f a b h) e) (leaf_mid f a u b (others_left f a b h) e) (without_mid f a u b h e)

-- Lists of numbers, no two the same.
use Rattle.std.proofs.Common.{◌≡◌, ℕ, ◌<◌, ◌≤◌, inl, inr, List, [], ◌∷◌, ◌++◌, refl, sym, arith}
use Rattle.std.specs.Prelude.{◌≢◌}
use Rattle.ak_pool.specs.Chains.{IsName}
use Rattle.ak_pool.specs.Links.{none, first_of, last_of, Without, AreDistinct}

without_mid : (g : ℕ) (a : List ℕ) (f : ℕ) (b : List ℕ) → Without g (a ++ f ∷ b) → (f ≢ g) × Without g (a ++ b)
without_mid g [] f b h = h
without_mid g (v ∷ a) f b h = let r = without_mid g a f b h.1 in (r.0, (h.0, r.1))

without_back : (g : ℕ) (a : List ℕ) (f : ℕ) (b : List ℕ) → f ≢ g → Without g (a ++ b) → Without g (a ++ f ∷ b)
without_back g [] f b n h = (n, h)
without_back g (v ∷ a) f b n h = (h.0, without_back g a f b n h.1)

pub without_left : (g : ℕ) (a b : List ℕ) → Without g (a ++ b) → Without g a
without_left g [] b h = tt
without_left g (v ∷ a) b h = (h.0, without_left g a b h.1)

pub without_right : (g : ℕ) (a b : List ℕ) → Without g (a ++ b) → Without g b
without_right g [] b h = h
without_right g (v ∷ a) b h = without_right g a b h.1

-- one of the numbers put before the others, and back
pub to_front : (n : ℕ) (a : List ℕ) (f : ℕ) (b : List ℕ) → AreDistinct n (a ++ f ∷ b) → AreDistinct n (f ∷ (a ++ b))
to_front n [] f b h = h
to_front n (v ∷ a) f b h =
    let m = without_mid v a f b h.1 in
    let r = to_front n a f b h.2 in
    (r.0, ((λ e. m.0 (sym e)), r.1), (h.0, m.1, r.2))

pub from_front : (n : ℕ) (a : List ℕ) (f : ℕ) (b : List ℕ) → AreDistinct n (f ∷ (a ++ b)) → AreDistinct n (a ++ f ∷ b)
from_front n [] f b h = h
from_front n (v ∷ a) f b h =
    (h.2.0, without_back v a f b (λ e. h.1.0 (sym e)) h.2.1, from_front n a f b (h.0, h.1.1, h.2.2))

pub distinct_left : (n : ℕ) (a b : List ℕ) → AreDistinct n (a ++ b) → AreDistinct n a
distinct_left n [] b h = tt
distinct_left n (v ∷ a) b h = (h.0, without_left v a b h.1, distinct_left n a b h.2)

pub distinct_right : (n : ℕ) (a b : List ℕ) → AreDistinct n (a ++ b) → AreDistinct n b
distinct_right n [] b h = h
distinct_right n (v ∷ a) b h = distinct_right n a b h.2

pub not_none : (n f : ℕ) → f < n → n ≤ none → f ≢ none
not_none n f h k e = absurd (omega (arith, e))

-- none is no number of a frame
pub without_none : (n : ℕ) (fs : List ℕ) → AreDistinct n fs → n ≤ none → Without none fs
without_none n [] d k = tt
without_none n (f ∷ fs) d k = (not_none n f d.0 k, without_none n fs d.2 k)

pub in_range : (n : ℕ) (a : List ℕ) (f : ℕ) (b : List ℕ) → AreDistinct n (a ++ f ∷ b) → f < n
in_range n a f b d = (to_front n a f b d).0

-- the ends of a list
pub first_apart : (g : ℕ) (fs : List ℕ) → g ≢ none → Without g fs → first_of fs ≢ g
first_apart g [] n w e = n (sym e)
first_apart g (f ∷ fs) n w e = w.0 e

pub last_apart : (g q : ℕ) (a : List ℕ) → q ≢ g → Without g a → last_of q a ≢ g
last_apart g q [] n w = n
last_apart g q (v ∷ a) n w = last_apart g v a w.0 w.1

-- the last of a list is none of those after it
pub apart_last : (n q : ℕ) (a rest : List ℕ) → Without q rest → AreDistinct n (a ++ rest) → Without (last_of q a) rest
apart_last n q [] rest w d = w
apart_last n q (v ∷ a) rest w d = apart_last n v a rest (without_right v a rest d.1) d.2

pub last_append : (q : ℕ) (a : List ℕ) (w : ℕ) (b : List ℕ) → last_of q (a ++ w ∷ b) ≡ last_of w b
last_append q [] w b = refl
last_append q (v ∷ a) w b = last_append v a w b

pub name_first : (n : ℕ) (fs : List ℕ) → AreDistinct n fs → IsName n (first_of fs)
name_first n [] d = inl refl
name_first n (f ∷ fs) d = inr d.0

pub name_last : (n q : ℕ) (a : List ℕ) → IsName n q → AreDistinct n a → IsName n (last_of q a)
name_last n q [] h d = h
name_last n q (v ∷ a) h d = name_last n v a (inr d.0) d.2

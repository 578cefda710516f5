-- Parts of lists of bytes: two ends of one length, and zeros.
use Rattle.std.proofs.Common.{◌≡◌, ◌+◌, ◌<◌, ◌≤◌, ℕ, zero, suc, List, [], ◌∷◌, ◌++◌, length, take, drop, get_or, refl, sym, ap, ap₂, ◌∙◌, arith, length-append}
use Rattle.std.proofs.lemmas.List.{take_at, drop_at, length-replicate, length-take-le, length-drop}
use Rattle.std.proofs.Math.ListN.{replicate}

-- two ends of one length
pub same_ends : (p q x y : List ℕ) → length x ≡ length y → p ++ x ≡ q ++ y → (p ≡ q) × (x ≡ y)
same_ends p q x y same e =
    let fronts : length p ≡ length q = omega (arith, length-append p x, length-append q y, ap length e) in
    let front : p ≡ q = sym (take_at p x (length p) refl) ∙ ap (take (length p)) e ∙ take_at q y (length p) (sym fronts) in
    let back : x ≡ y = sym (drop_at p x (length p) refl) ∙ ap (drop (length p)) e ∙ drop_at q y (length p) (sym fronts) in
    (front, back)

-- zeros, byte by byte
pub zeros_from : (xs : List ℕ) → ((k : ℕ) → k < length xs → get_or xs k 0 ≡ 0) → xs ≡ replicate (length xs) 0
zeros_from [] all = refl
zeros_from (x ∷ xs) all = ap₂ (λ (y : ℕ) (l : List ℕ). y ∷ l) (all 0 (omega arith)) (zeros_from xs (λ k h. all (suc k) (omega arith)))

each : (n k : ℕ) → get_or {A = ℕ} (replicate n 0) k 0 ≡ 0
each zero k = refl
each (suc n) zero = refl
each (suc n) (suc k) = each n k

pub zeros_each : (n : ℕ) (xs : List ℕ) → xs ≡ replicate n 0 → (k : ℕ) → get_or xs k 0 ≡ 0
zeros_each n xs e k = ap (λ (l : List ℕ). get_or l k 0) e ∙ each n k

-- a part that is zeros has as many as it is long
pub zeros_long : (n : ℕ) (xs : List ℕ) → length xs ≡ n → xs ≡ replicate (length xs) 0 → xs ≡ replicate n 0
zeros_long n xs long e = e ∙ ap (λ (m : ℕ). replicate {A = ℕ} m 0) long

pub zeros_own : (n : ℕ) (xs : List ℕ) → xs ≡ replicate n 0 → xs ≡ replicate (length xs) 0
zeros_own n xs e = e ∙ ap (λ (m : ℕ). replicate {A = ℕ} m 0) (sym (ap length e ∙ length-replicate {A = ℕ} n 0))

-- the length of a part
pub length-part : (a n : ℕ) (xs : List ℕ) → a + n ≤ length xs → length (take n (drop a xs)) ≡ n
length-part a n xs h = length-take-le n (drop a xs) (omega (arith, length-drop a xs))

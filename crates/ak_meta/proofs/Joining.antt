-- Parts that stand one behind another.
use Rattle.std.proofs.Common.{◌≡◌, ◌+◌, ◌≤◌, ◌∙◌, List, ℕ, ◌++◌, length, take, drop, sym, ap, arith, append_assoc, length-append}
use Rattle.std.proofs.lemmas.List.{take_at, length-take-le}
use borrow.Rule.Slice.PartMut.{put_mid}

-- one part more behind what stands after a front
pub step : (front part next before whole : List ℕ) → whole ≡ before ++ next → before ≡ front ++ part → whole ≡ front ++ (part ++ next)
step front part next before whole w e = w ∙ ap (λ (l : List ℕ). l ++ next) e ∙ append_assoc front part next

-- one part more
pub more : (front next before whole : List ℕ) → whole ≡ before ++ next → before ≡ front → whole ≡ front ++ next
more front next before whole w e = w ∙ ap (λ (l : List ℕ). l ++ next) e

-- what stands in front of the end of a part that was written over
pub take_mid : (a n end : ℕ) (mid new : List ℕ) → a + n ≡ end → end ≤ length mid → length new ≡ n → take end (put_mid a n mid new) ≡ take a mid ++ new
take_mid a n end mid new is within long =
    let rest : List ℕ = drop n (drop a mid) in
    let size : length (take a mid ++ new) ≡ end = omega (arith, length-append (take a mid) new, length-take-le a mid (omega (arith, is, within)), long, is) in
    ap (take end) (sym (append_assoc (take a mid) new rest)) ∙ take_at (take a mid ++ new) rest end size

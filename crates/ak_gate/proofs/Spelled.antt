-- Numbers that bytes spell.
use Rattle.std.proofs.Common.{◌≡◌, ℕ, suc, ◌+◌, ◌*◌, ◌<◌, List, length, take, drop, get_or, sym, ◌∙◌, ap, add-one, drop-cons}
use Rattle.ak_gate.specs.Slots.{number_of}

-- one byte of a number, and the bytes behind it
pub number_step : (n k j : ℕ) (bytes : List ℕ) → k < length bytes → j ≡ k + 1 → number_of (take (suc n) (drop k bytes)) ≡ get_or bytes k 0 + 256 * number_of (take n (drop j bytes))
number_step n k j bytes within next =
    ap (λ (l : List ℕ). number_of (take (suc n) l)) (drop-cons bytes k 0 within)
    ∙ ap (λ i. get_or bytes k 0 + 256 * number_of (take n (drop i bytes))) (sym (next ∙ add-one k))

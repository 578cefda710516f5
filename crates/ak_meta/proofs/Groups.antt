-- Addresses that are written one behind another.
use Rattle.std.proofs.Common.{◌≡◌, ◌+◌, ◌<◌, ◌∙◌, ℕ, zero, suc, List, [], ◌∷◌, ◌++◌, length, drop, ap, arith, slice_set}
use Rattle.ak_base.specs.declared.point.Addr.{Addr}
use Rattle.ak_meta.specs.Leaves.{addresses_from, address_at}

pub set_next : (n a : ℕ) (ys : List Addr) → 0 < length ys → slice_set (addresses_from n a ++ ys) n (address_at (a + n)) ≡ addresses_from (suc n) a ++ drop 1 ys
set_next zero a [] some = absurd (omega arith)
set_next zero a (y ∷ ys) some = ap (λ (m : ℕ). address_at m ∷ ys) (omega arith)
set_next (suc n) a ys some =
    let place : a + suc n ≡ a + 1 + n = omega arith in
    ap (λ (m : ℕ). address_at a ∷ slice_set (addresses_from n (a + 1) ++ ys) n (address_at m)) place
    ∙ ap (λ (l : List Addr). address_at a ∷ l) (set_next n (a + 1) ys some)

-- What waits is lawful where no leaf was closed.
use Rattle.std.proofs.Common.{◌≡◌, ℕ, zero, suc, List, [], length, replicate, get_or, refl, sym, ap, subst, arith}
use Rattle.std.specs.List.{AllByRecursion}
use Rattle.ak_inner.specs.declared.reference.Ref.{Ref}
use Rattle.ak_levels.specs.Entries.{IsTally, AreLawful}
use Rattle.ak_levels.specs.Pending.{no_lists}
use Rattle.ak_levels.proofs.Powers.{power_pos}

none_of : (n k : ℕ) → get_or (replicate {A = List Ref} n []) k [] ≡ []
none_of zero k = refl
none_of (suc n) zero = refl
none_of (suc n) (suc k) = none_of n k

pub no_lists_lawful : AreLawful 0 no_lists
no_lists_lawful = record {
  most = omega arith;
  few = λ k h. omega (arith, ap (length {A = Ref}) (none_of 11 k));
  each = λ k h. subst (AllByRecursion (IsTally k)) (sym (none_of 11 k)) tt;
  placed = λ k h more. absurd (omega (arith, more, power_pos k));
}

-- Last timestamps that aren't late.
use Rattle.std.proofs.Common.{◌≡◌, ℕ, ◌≤◌, Bool, true, false, if◌then◌else◌, Option, Some, None, refl, ap}
use Rattle.std.proofs.lemmas.Bool.{le-ltb, ltb-false}
use Rattle.std.specs.Prelude.{IfSome, nat_lt}
use Rattle.ak_world.specs.Puts.{late_behind, first_of}

abbrev pub Below : ℕ → Option ℕ → Type 0
Below most o = IfSome o (λ last. last ≤ most)

pub not_late : (o : Option ℕ) (ts : ℕ) → late_behind o ts ≡ None → Below ts o
not_late None ts late = tt
not_late (Some last) ts late = of (nat_lt ts last) refl late where
  of : (b : Bool) → nat_lt ts last ≡ b → (if b then Some last else None) ≡ None → last ≤ ts
  of true test is = absurd (cc)
  of false test is = ltb-false ts last test

pub late_none : (o : Option ℕ) (ts : ℕ) → Below ts o → late_behind o ts ≡ None
late_none None ts below = refl
late_none (Some last) ts below = ap (λ (b : Bool). if b then Some last else None) (le-ltb ts last below)

pub both_none : (a b : Option ℕ) → first_of a b ≡ None → (a ≡ None) × (b ≡ None)
both_none (Some x) b is = absurd (cc)
both_none None b is = (refl, is)

-- What a switch keeps.
use Rattle.std.proofs.Common.{◌≡◌, ℕ, ◌+◌, ◌-◌, ◌^◌, ◌<◌, ◌≤◌, List, [], ◌∷◌, ◌++◌, length, drop, Bool, true, false, refl, arith, length-append, length-drop}
use Rattle.std.specs.Prelude.{nat_lt, if◌then◌else◌}
use Rattle.std.proofs.lemmas.Bool.Decides.{nat_tests}
use Rattle.std.specs.List.{AllByRecursion}
use Rattle.ak_volumes.specs.Ordinals.{Ordinals, ordinals, AreOrdinals, newest, switched}

each_append : (b : ℕ) (xs ys : List ℕ) → AllByRecursion (λ n. n ≤ b) xs → AllByRecursion (λ n. n ≤ b) ys → AllByRecursion (λ n. n ≤ b) (xs ++ ys)
each_append b [] ys h k = k
each_append b (x ∷ xs) ys h k = (h.0, each_append b xs ys h.1 k)

each_rest : (b : ℕ) (xs : List ℕ) → AllByRecursion (λ n. n ≤ b) xs → AllByRecursion (λ n. n ≤ b) (drop 1 xs)
each_rest b [] h = tt
each_rest b (x ∷ xs) h = h.1

-- one ordinal more
pub one_more : (v b lo : ℕ) (fills : List ℕ) → AreOrdinals (ordinals v b lo fills) → length fills < v → newest (ordinals v b lo fills) < 2 ^ 32 - 1 → AreOrdinals (ordinals v b lo (fills ++ 0 ∷ []))
one_more v b lo fills h room below = record {
  some = omega (arith, length-append fills (0 ∷ []));
  most = omega (arith, length-append fills (0 ∷ []));
  within = each_append b fills (0 ∷ []) h.within (omega arith, tt);
  last = omega (arith, length-append fills (0 ∷ []), h.some, h.last, below);
  indexes = h.indexes;
}

-- one ordinal more in place of the oldest
pub one_over : (v b lo : ℕ) (fills : List ℕ) → AreOrdinals (ordinals v b lo fills) → newest (ordinals v b lo fills) < 2 ^ 32 - 1 → AreOrdinals (ordinals v b (lo + 1) (drop 1 fills ++ 0 ∷ []))
one_over v b lo fills h below = record {
  some = omega (arith, length-append (drop 1 fills) (0 ∷ []));
  most = omega (arith, length-append (drop 1 fills) (0 ∷ []), length-drop 1 fills, h.some, h.most);
  within = each_append b (drop 1 fills) (0 ∷ []) (each_rest b fills h.within) (omega arith, tt);
  last = omega (arith, length-append (drop 1 fills) (0 ∷ []), length-drop 1 fills, h.some, h.last, below);
  indexes = h.indexes;
}

chosen : (o : Ordinals) (b : Bool) → (b ≡ true → o.volumes < length o.fills + 1) → (b ≡ false → length o.fills < o.volumes) → AreOrdinals o → newest o < 2 ^ 32 - 1
    → AreOrdinals (if b then record o { lo = o.lo + 1; fills = drop 1 o.fills ++ 0 ∷ [] } else record o { fills = o.fills ++ 0 ∷ [] })
chosen o true over under h below = one_over o.volumes o.blocks o.lo o.fills h below
chosen o false over under h below = one_more o.volumes o.blocks o.lo o.fills h (under refl) below

pub AreOrdinals-switched : (o : Ordinals) → AreOrdinals o → newest o < 2 ^ 32 - 1 → AreOrdinals (switched o)
AreOrdinals-switched o h below =
    chosen o (nat_lt o.volumes (length o.fills + 1)) (λ e. grind (arith, nat_tests)) (λ e. grind (arith, nat_tests)) h below

-- Bytes that are put at a place, and the bytes of signed numbers.
use Rattle.std.specs.Prelude.{◌≡◌, ℕ, ◌-◌, ◌^◌, ◌≤◌, ℤ, pos, negsuc, List, ◌++◌, take, drop}
use Rattle.byteorder.specs.Endian.{little_bytes}

-- new is old with these bytes from one place to another
pub record IsPut (old new : List ℕ) (at end : ℕ) (bytes : List ℕ) : Type 0 where
  pub front : take end new ≡ take at old ++ bytes
  pub back : (m : ℕ) → end ≤ m → drop m new ≡ drop m old

-- The n bytes of a signed number as two's complement, the lowest first: those of the number itself, or of
-- 256 ^ n more where it is below 0.
abbrev pub signed_bytes : ℕ → ℤ → List ℕ
signed_bytes n (pos m) = little_bytes n m
signed_bytes n (negsuc m) = little_bytes n (256 ^ n - 1 - m)

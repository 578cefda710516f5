-- What holds at each live address, taken row by row.
use Rattle.std.proofs.Common.{◌≡◌, ℕ, zero, suc, ◌+◌, ◌-◌, ◌*◌, ◌^◌, ◌<◌, ◌≤◌, List, [], ◌∷◌, ◌++◌, length, slice_index, subst, sym, refl, inl, inr, arith}
use Rattle.std.proofs.lemmas.Nat.{div-mul-add, mod-mul-add}
use Rattle.std.specs.List.{AllByRecursion}
use Rattle.ak_image.specs.Blocks.{Seen}
use Rattle.ak_image.specs.Scans.{AreFound, IsScan}
use Rattle.ak_volumes.specs.Ordinals.{Ordinals, AreOrdinals, IsLive, address, ordinal_of, index_of, fill_of}
use Rattle.ak_world.specs.Leaves.{Leaf}

-- at each of so many addresses from one on
abbrev pub InRow : (ℕ → Type 0) → ℕ → ℕ → Type 0
InRow P count a = (b : ℕ) → a ≤ b → b < a + count → P b

-- at each address below the fill of each ordinal from one on
abbrev pub InRows : (ℕ → Type 0) → ℕ → List ℕ → Type 0
InRows P ordinal [] = Unit {0}
InRows P ordinal (fill ∷ fills) = InRow P fill (address ordinal 0) × InRows P (suc ordinal) fills

-- at the address of each leaf
abbrev pub AtEach : (ℕ → Type 0) → List Leaf → Type 0
AtEach P [] = Unit {0}
AtEach P (leaf ∷ leaves) = P leaf.address × AtEach P leaves

pub row_head : (P : ℕ → Type 0) (count a : ℕ) → InRow P (suc count) a → P a
row_head P count a row = row a (omega arith) (omega arith)

pub row_rest : (P : ℕ → Type 0) (count a : ℕ) → InRow P (suc count) a → InRow P count (a + 1)
row_rest P count a row = λ b from to. row b (omega (arith, from)) (omega (arith, to))

-- the first so many, and the others
pub row_front : (P : ℕ → Type 0) (front back a : ℕ) → InRow P (front + back) a → InRow P front a
row_front P front back a row = λ b from to. row b from (omega (arith, to))

pub row_back : (P : ℕ → Type 0) (front back a : ℕ) → InRow P (front + back) a → InRow P back (a + front)
row_back P front back a row = λ b from to. row b (omega (arith, from)) (omega (arith, to))

pub rows_by : (P : ℕ → Type 0) (ordinal : ℕ) (fills : List ℕ) → ((i j : ℕ) → i < length fills → j < slice_index fills i → P (address (ordinal + i) j)) → InRows P ordinal fills
rows_by P ordinal [] each = tt
rows_by P ordinal (fill ∷ fills) each = (
  λ b from to.
      let is : address (ordinal + 0) (b - ordinal * 2 ^ 32) ≡ b = omega (arith, from) in
      subst P is (each 0 (b - ordinal * 2 ^ 32) (omega arith) (omega (arith, from, to))),
  rows_by P (suc ordinal) fills (λ i j within below.
      let is : ordinal + suc i ≡ suc ordinal + i = omega arith in
      subst (λ (n : ℕ). P (address n j)) is (each (suc i) j (omega (arith, within)) below)),
)

pub fill_within : (blocks : ℕ) (fills : List ℕ) (i : ℕ) → AllByRecursion (λ (fill : ℕ). fill ≤ blocks) fills → slice_index fills i ≤ blocks
fill_within blocks [] i each = omega arith
fill_within blocks (fill ∷ fills) zero each = each.0
fill_within blocks (fill ∷ fills) (suc i) each = fill_within blocks fills i each.1

-- the ordinal and the index of an address
pub ordinal_at : (ordinal index : ℕ) → index < 2 ^ 32 → ordinal_of (address ordinal index) ≡ ordinal
ordinal_at ordinal index small = div-mul-add ordinal (2 ^ 32) index small

pub index_at : (ordinal index : ℕ) → index < 2 ^ 32 → index_of (address ordinal index) ≡ index
index_at ordinal index small = mod-mul-add ordinal (2 ^ 32) index small

-- an address below the fill of a live ordinal
pub live_at : (o : Ordinals) (i j : ℕ) → AreOrdinals o → i < length o.fills → j < slice_index o.fills i → IsLive o (address (o.lo + i) j)
live_at o i j are within below =
    let small : j < 2 ^ 32 = omega (arith, below, fill_within o.blocks o.fills i are.within, are.indexes) in
    let ordinal : ordinal_of (address (o.lo + i) j) ≡ o.lo + i = ordinal_at (o.lo + i) j small in
    let index : index_of (address (o.lo + i) j) ≡ j = index_at (o.lo + i) j small in
    let place : o.lo + i - o.lo ≡ i = omega arith in
    let fill : slice_index o.fills i ≡ fill_of o (ordinal_of (address (o.lo + i) j)) = sym (subst (λ (n : ℕ). fill_of o n ≡ slice_index o.fills i) (sym ordinal) (subst (λ (n : ℕ). slice_index o.fills n ≡ slice_index o.fills i) (sym place) refl)) in
    record {
      ordinal = record { from = omega (arith, ordinal); to = omega (arith, ordinal, within) };
      index = omega (arith, index, fill, below);
    }

-- what holds at the live addresses holds row by row
pub live_rows : (o : Ordinals) (P : ℕ → Type 0) → AreOrdinals o → ((a : ℕ) → IsLive o a → P a) → InRows P o.lo o.fills
live_rows o P are each = rows_by P o.lo o.fills (λ i j within below. each (address (o.lo + i) j) (live_at o i j are within below))

-- the leaves that are found stand in the blocks that were looked at
pub found_at : (P : ℕ → Type 0) (seen : Seen) (series count a : ℕ) (leaves : List Leaf) → InRow P count a → AreFound seen series count a leaves → AtEach P leaves
found_at P seen series zero a leaves row is = subst (AtEach P) (sym is) tt
found_at P seen series (suc count) a leaves row (inl found) =
    subst (AtEach P) (sym found.3) (subst P (sym found.2.at) (row_head P count a row), found_at P seen series count (a + 1) found.1 (row_rest P count a row) found.4)
found_at P seen series (suc count) a leaves row (inr other) = found_at P seen series count (a + 1) leaves (row_rest P count a row) other.1

pub at_each_joined : (P : ℕ → Type 0) (front rest : List Leaf) → AtEach P front → AtEach P rest → AtEach P (front ++ rest)
at_each_joined P [] rest one two = two
at_each_joined P (leaf ∷ front) rest one two = (one.0, at_each_joined P front rest one.1 two)

pub scan_at : (P : ℕ → Type 0) (seen : Seen) (series ordinal : ℕ) (fills : List ℕ) (leaves : List Leaf) → InRows P ordinal fills → IsScan seen series ordinal fills leaves → AtEach P leaves
scan_at P seen series ordinal [] leaves rows is = subst (AtEach P) (sym is) tt
scan_at P seen series ordinal (fill ∷ fills) leaves rows scan =
    subst (AtEach P) (sym scan.2) (at_each_joined P scan.0 scan.1 (found_at P seen series fill (address ordinal 0) scan.0 rows.0 scan.3) (scan_at P seen series (suc ordinal) fills scan.1 rows.1 scan.4))

-- Stores computed: 16 blocks to a volume and two volumes, and a smaller fan-out.
use Rattle.std.proofs.Common.{◌≡◌, [], ◌∷◌, refl}
use Rattle.ak_forest.specs.Tree.{gathered}
use Rattle.ak_forest.specs.Image.{scan_of}
use Rattle.ak_forest.specs.Numbers.{span}
use Rattle.ak_forest.specs.Run.{Store, empty, closes, seen_in, reads, numbers, point}

-- 32 leaves of one point
abbrev nine : Store
nine = closes 32 2 16 32 empty

nine_lo : nine.volumes.lo ≡ 1
nine_lo = refl

nine_fills : nine.volumes.fills ≡ 15 ∷ 2 ∷ []
nine_fills = refl

nine_kept : numbers (seen_in nine) (scan_of nine.volumes (seen_in nine) 0) ≡ span 16 16
nine_kept = refl

nine_reads : reads 32 nine 0 3 ≡ 0 ∷ 1 ∷ 0 ∷ []
nine_reads = refl

nine_rescued : numbers (seen_in nine) (gathered 32 (seen_in nine) nine.leaves (point nine.points) 3) ≡ span 16 16
nine_rescued = refl

-- the same opened again, and 16 leaves more
abbrev ten : Store
ten = closes 32 2 16 16 nine

ten_lo : ten.volumes.lo ≡ 2
ten_lo = refl

ten_kept : numbers (seen_in ten) (scan_of ten.volumes (seen_in ten) 0) ≡ span 31 17
ten_kept = refl

ten_reads : reads 32 ten 0 3 ≡ 16 ∷ 1 ∷ 0 ∷ []
ten_reads = refl

ten_rescued : numbers (seen_in ten) (gathered 32 (seen_in ten) ten.leaves (point ten.points) 3) ≡ span 31 17
ten_rescued = refl

-- a fan-out of 2, and 8 blocks to a volume: 23 leaves and their inner nodes
abbrev small : Store
small = closes 2 2 8 23 empty

small_kept : numbers (seen_in small) (scan_of small.volumes (seen_in small) 0) ≡ span 16 7
small_kept = refl

small_reads : reads 2 small 0 5 ≡ 1 ∷ 1 ∷ 1 ∷ 0 ∷ 0 ∷ []
small_reads = refl

small_rescued : numbers (seen_in small) (gathered 2 (seen_in small) small.leaves (point small.points) 5) ≡ span 16 7
small_rescued = refl

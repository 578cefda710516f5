-- What waits of each series, and the blocks that it belongs to.
use Rattle.std.proofs.Common.{◌≡◌, ℕ, zero, suc, ◌<◌, List, [], ◌∷◌, ◌++◌, length, get_or, refl, sym, ap, subst, arith}
use Rattle.ak_image.specs.Blocks.{Seen}
use Rattle.ak_image.specs.Planted.{ArePlanted, AreAllLawful}
use Rattle.ak_levels.proofs.Lawful.{no_lists_lawful}
use Rattle.ak_levels.specs.Entries.{AreLawful}
use Rattle.ak_levels.specs.Pending.{Lists, no_lists}
use Rattle.ak_meta.specs.Leaves.{new_series, leaves_at}
use Rattle.ak_meta.specs.declared.meta.SeriesMeta.{SeriesMeta}
use Rattle.ak_image.proofs.Growing.{planted_begun as planted_first, planted_same as planted_agrees}
use Rattle.ak_volumes.specs.Ordinals.{Ordinals, IsLive}
use Rattle.ak_world.specs.Leaves.{Leaf}

-- ---- What waits is lawful

pub lawful_long : (series : List SeriesMeta) (levels : List Lists) → AreAllLawful series levels → length levels ≡ length series
lawful_long [] levels are = ap length are
lawful_long (s ∷ series) [] are = absurd are
lawful_long (s ∷ series) (v ∷ levels) are = ap suc (lawful_long series levels are.1)

pub lawful_at : (series : List SeriesMeta) (levels : List Lists) (n : ℕ) → AreAllLawful series levels → n < length series → AreLawful (leaves_at series n) (get_or levels n no_lists)
lawful_at [] levels n are within = absurd (omega arith)
lawful_at (s ∷ series) [] n are within = absurd are
lawful_at (s ∷ series) (v ∷ levels) zero are within = are.0
lawful_at (s ∷ series) (v ∷ levels) (suc n) are within = lawful_at series levels n are.1 (omega arith)

-- of a series more nothing waits
pub lawful_more : (series : List SeriesMeta) (levels : List Lists) (name : List ℕ) → AreAllLawful series levels → AreAllLawful (series ++ new_series name ∷ []) (levels ++ no_lists ∷ [])
lawful_more [] levels name are = subst (λ (l : List Lists). AreAllLawful (new_series name ∷ []) (l ++ no_lists ∷ [])) (sym are) (no_lists_lawful, refl)
lawful_more (s ∷ series) [] name are = absurd are
lawful_more (s ∷ series) (v ∷ levels) name are = (are.0, lawful_more series levels name are.1)

-- ---- The blocks of all series

-- where the live blocks stay the same
pub all_agree : (o other : Ordinals) (seen later : Seen) (n : ℕ) (series : List SeriesMeta) (kept : List (List Leaf)) (bases : List ℕ) (levels : List Lists) → other.lo ≡ o.lo
    → ((a : ℕ) → IsLive o a → IsLive other a × (later a ≡ seen a)) → ArePlanted o seen n series kept bases levels → ArePlanted other later n series kept bases levels
all_agree o other seen later n [] kept bases levels lo same are = are
all_agree o other seen later n (known ∷ others) [] bases levels lo same are = absurd are
all_agree o other seen later n (known ∷ others) (leaves ∷ kept) [] levels lo same are = absurd are
all_agree o other seen later n (known ∷ others) (leaves ∷ kept) (base ∷ bases) [] lo same are = absurd are
all_agree o other seen later n (known ∷ others) (leaves ∷ kept) (base ∷ bases) (v ∷ levels) lo same are = (
  planted_agrees o other seen later n base known leaves v lo same are.0,
  all_agree o other seen later (suc n) others kept bases levels lo same are.1,
)

-- where all blocks are the same
pub all_same : (o : Ordinals) (seen later : Seen) (n : ℕ) (series : List SeriesMeta) (kept : List (List Leaf)) (bases : List ℕ) (levels : List Lists) → ((a : ℕ) → later a ≡ seen a)
    → ArePlanted o seen n series kept bases levels → ArePlanted o later n series kept bases levels
all_same o seen later n series kept bases levels same are = all_agree o o seen later n series kept bases levels refl (λ a live. (live, same a)) are

-- a series more
pub all_named : (o : Ordinals) (seen : Seen) (n : ℕ) (series : List SeriesMeta) (kept : List (List Leaf)) (bases : List ℕ) (levels : List Lists) (name : List ℕ) → ArePlanted o seen n series kept bases levels
    → ArePlanted o seen n (series ++ new_series name ∷ []) (kept ++ [] ∷ []) (bases ++ 0 ∷ []) (levels ++ no_lists ∷ [])
all_named o seen n [] (leaves ∷ kept) bases levels name are = absurd (cc)
all_named o seen n [] [] (base ∷ bases) levels name are = absurd (cc)
all_named o seen n [] [] [] (v ∷ levels) name are = absurd (cc)
all_named o seen n [] [] [] [] name are = (planted_first o seen n name, (refl, refl, refl))
all_named o seen n (known ∷ others) [] bases levels name are = absurd are
all_named o seen n (known ∷ others) (leaves ∷ kept) [] levels name are = absurd are
all_named o seen n (known ∷ others) (leaves ∷ kept) (base ∷ bases) [] name are = absurd are
all_named o seen n (known ∷ others) (leaves ∷ kept) (base ∷ bases) (v ∷ levels) name are = (are.0, all_named o seen (suc n) others kept bases levels name are.1)

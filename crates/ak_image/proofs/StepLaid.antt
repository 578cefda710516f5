-- How the live blocks stay laid out.
use Rattle.std.proofs.Common.{◌≡◌, ◌≢◌, ◌+◌, ◌-◌, ◌<◌, ◌≤◌, ℕ, zero, suc, List, [], ◌∷◌, ◌++◌, length, refl, sym, ap, ◌∙◌, subst, arith, length-append}
use Rattle.ak_base.specs.Points.{IsHistoryFrom, last_ts_from}
use Rattle.ak_base.specs.declared.point.Point.{Point}
use Rattle.ak_image.specs.Blocks.{Seen}
use Rattle.ak_image.specs.Groups.{Group, AreGroups, AreRows}
use Rattle.ak_image.specs.Laid.{AreLaid, IsLaid, IsWritten, IsNextTree, spot, rescue_in, last_in, next_leaf}
use Rattle.ak_world.specs.Valid.{kept_with}
use Rattle.ak_image.specs.Scans.{IsLeafOf, AreFound, IsScan}
use Rattle.ak_image.proofs.Agreeing.{laid_agree}
use Rattle.ak_image.proofs.StepBlocks.{found_own, found_other}
use Rattle.ak_image.proofs.StepChains.{chain_begin, chain_more}
use Rattle.ak_image.proofs.StepRows.{last_fill, with_more, newest_fill_is, filled_is, rows_more, rows_known}
use Rattle.ak_image.proofs.StepScans.{scan_more, scan_none, scan_unknown}
use Rattle.ak_image.proofs.StepTrees.{trees_with_series, trees_more}
use Rattle.ak_levels.specs.Carries.{carry_of}
use Rattle.ak_meta.specs.Contents.{Content, IsMeta}
use Rattle.ak_meta.specs.Leaves.{with_leaf_at, new_series, with_series, closed_in, leaves_at}
use Rattle.ak_meta.specs.declared.meta.SeriesMeta.{SeriesMeta}
use Rattle.ak_volumes.specs.Ordinals.{Ordinals, newest, newest_fill, address, filled}
use Rattle.ak_world.specs.Leaves.{Leaf}

-- ---- A series that begins

all_with_series : (seen : Seen) (lo : ℕ) (fills : List ℕ) (k : ℕ) (series : List SeriesMeta) (kept : List (List Leaf)) (name : List ℕ) → IsScan seen (k + length series) lo fills [] → AreLaid seen lo fills k series kept
    → AreLaid seen lo fills k (series ++ new_series name ∷ []) (kept ++ [] ∷ [])
all_with_series seen lo fills k [] kept name scan h =
    let own : IsScan seen k lo fills [] = subst (λ (s : ℕ). IsScan seen s lo fills []) (let e : k + 0 ≡ k = omega arith in e) scan in
    ([], [], ap (λ (l : List (List Leaf)). l ++ [] ∷ []) h, own, chain_begin seen lo k name, refl)
all_with_series seen lo fills k (x ∷ series) kept name scan h =
    let next : IsScan seen (suc k + length series) lo fills [] = subst (λ (s : ℕ). IsScan seen s lo fills []) (let e : k + suc (length series) ≡ suc k + length series = omega arith in e) scan in
    (h.0, h.1 ++ [] ∷ [], ap (λ (l : List (List Leaf)). l ++ [] ∷ []) h.2, h.3, h.4, all_with_series seen lo fills (suc k) series h.1 name next h.5)

kept_long : (seen : Seen) (lo : ℕ) (fills : List ℕ) (k : ℕ) (series : List SeriesMeta) (kept : List (List Leaf)) → AreLaid seen lo fills k series kept → length kept ≡ length series
kept_long seen lo fills k [] kept h = ap length h
kept_long seen lo fills k (x ∷ series) kept h = ap length h.2 ∙ ap suc (kept_long seen lo fills (suc k) series h.1 h.5)

pub series_laid : (seen : Seen) (c : Content) (kept : List (List Leaf)) (name : List ℕ) → IsMeta c → IsLaid seen c kept → IsLaid seen (with_series c name) (kept ++ [] ∷ [])
series_laid seen c kept name is h =
    let lo = c.ordinals.lo in
    let fills = c.ordinals.fills in
    record {
      rows = rows_known seen (length c.series) (length (c.series ++ new_series name ∷ [])) lo fills (omega (arith, length-append c.series (new_series name ∷ []))) h.rows;
      leaves = all_with_series seen lo fills 0 c.series kept name (scan_unknown seen (length c.series) (0 + length c.series) lo fills (omega arith) h.rows) h.leaves;
      trees = trees_with_series c.ordinals seen 0 c.series kept name (kept_long seen lo fills 0 c.series kept h.leaves) h.trees;
    }

-- ---- A leaf more

-- series that the blocks behind have no leaf of
all_none : (seen : Seen) (lo b a : ℕ) (fills : List ℕ) (k : ℕ) (series : List SeriesMeta) (kept : List (List Leaf)) → 0 < length fills → a ≡ address (lo + length fills - 1) (last_fill fills) → ((s : ℕ) → k ≤ s → AreFound seen s b a [])
    → AreLaid seen lo fills k series kept → AreLaid seen lo (with_more fills b) k series kept
all_none seen lo b a fills k [] kept some at none h = h
all_none seen lo b a fills k (x ∷ series) kept some at none h =
    (h.0, h.1, h.2, scan_none seen k lo b a fills h.0 some at (none k (omega arith)) h.3, h.4, all_none seen lo b a fills (suc k) series h.1 some at (λ s later. none s (omega (arith, later))) h.5)

-- The blocks behind have one leaf, of series t, which is that of number n from k on.
all_more : (seen : Seen) (lo b a t : ℕ) (fills : List ℕ) (k n : ℕ) (series : List SeriesMeta) (kept : List (List Leaf)) (leaf : Leaf) → 0 < length fills → a ≡ address (lo + length fills - 1) (last_fill fills) → t ≡ k + n → n < length series
    → leaf.number ≡ leaves_at series n → leaf.address ≡ a → IsHistoryFrom (last_in series n) leaf.points → IsLeafOf seen t (rescue_in series n) leaf → AreFound seen t b a (leaf ∷ []) → ((s : ℕ) → t ≢ s → AreFound seen s b a [])
    → AreLaid seen lo fills k series kept → AreLaid seen lo (with_more fills b) k (with_leaf_at series n (last_ts_from 0 leaf.points) a) (kept_with kept n leaf)
all_more seen lo b a t fills k n [] kept leaf some at is within number place history l own others h = absurd (omega arith)
all_more seen lo b a t fills k zero (x ∷ series) kept leaf some at is within number place history l own others h =
    let here : t ≡ k = omega (arith, is) in
    let none : (s : ℕ) → suc k ≤ s → AreFound seen s b a [] = λ s later. others s (λ e. omega (arith, e, later, here)) in
    subst (λ (l : List (List Leaf)). AreLaid seen lo (with_more fills b) k (with_leaf_at (x ∷ series) zero (last_ts_from 0 leaf.points) a) (kept_with l zero leaf)) (sym h.2)
    (h.0 ++ leaf ∷ [], h.1, refl, scan_more seen k lo b a fills h.0 (leaf ∷ []) some at (subst (λ (s : ℕ). AreFound seen s b a (leaf ∷ [])) here own) h.3, chain_more seen lo k a x h.0 leaf number place history (subst (λ (s : ℕ). IsLeafOf seen s (rescue_in (x ∷ series) zero) leaf) here l) h.4, all_none seen lo b a fills (suc k) series h.1 some at none h.5)
all_more seen lo b a t fills k (suc n) (x ∷ series) kept leaf some at is within number place history l own others h =
    subst (λ (l : List (List Leaf)). AreLaid seen lo (with_more fills b) k (with_leaf_at (x ∷ series) (suc n) (last_ts_from 0 leaf.points) a) (kept_with l (suc n) leaf)) (sym h.2)
    (h.0, kept_with h.1 n leaf, refl, scan_none seen k lo b a fills h.0 some at (others k (λ e. omega (arith, e, is))) h.3, h.4, all_more seen lo b a t fills (suc k) n series h.1 leaf some at (omega (arith, is)) (omega (arith, within)) number place history l own others h.5)

length-leaf : (series : List SeriesMeta) (n last a : ℕ) → length series ≡ length (with_leaf_at series n last a)
length-leaf [] n last a = refl
length-leaf (x ∷ series) zero last a = refl
length-leaf (x ∷ series) (suc n) last a = ap suc (length-leaf series n last a)

pub leaf_laid : (old new : Seen) (c : Content) (kept : List (List Leaf)) (n : ℕ) (ps : List Point) → IsMeta c → IsLaid old c kept → n < length c.series → newest_fill c.ordinals + (1 + carry_of (leaves_at c.series n)) ≤ c.ordinals.blocks
    → IsHistoryFrom (last_in c.series n) ps → IsWritten old new c n ps → IsNextTree new c kept n ps
    → IsLaid new (closed_in (record c { ordinals = filled c.ordinals (1 + carry_of (leaves_at c.series n)) }) n (last_ts_from 0 ps) (spot c.ordinals)) (kept_with kept n (next_leaf c n ps))
leaf_laid old new c kept n ps is h within fits history w tree =
    let o : Ordinals = c.ordinals in
    let z = carry_of (leaves_at c.series n) in
    let a = spot o in
    let leaf = next_leaf c n ps in
    let some = is.ordinals_are.some in
    let at : a ≡ address (o.lo + length o.fills - 1) (last_fill o.fills) = ap (address (newest o)) (newest_fill_is o some) in
    let still : IsLaid new c kept = laid_agree old new c kept is h w.same in
    let group : Group = record { series = n; elder = rescue_in c.series n; leaf = leaf } in
    let groups : AreGroups new (length c.series) (1 + z) a (group ∷ []) = (within, refl, w.leaf, w.inner, 0, omega arith, refl) in
    let rows = rows_more new (length c.series) o.lo (1 + z) a o.fills (group ∷ []) some at groups still.rows in
    let own : AreFound new n (1 + z) a (leaf ∷ []) = found_own new n (rescue_in c.series n) a leaf w.leaf refl w.inner in
    let others : (s : ℕ) → n ≢ s → AreFound new s (1 + z) a [] = λ s apart. found_other new s n (rescue_in c.series n) a leaf w.leaf apart refl w.inner in
    let all = all_more new o.lo (1 + z) a n o.fills 0 n c.series kept leaf some at (omega arith) within refl refl history w.leaf own others still.leaves in
    record {
      rows = subst (λ (m : ℕ). AreRows new m o.lo (filled o (1 + z)).fills) (length-leaf c.series n (last_ts_from 0 ps) a) (subst (AreRows new (length c.series) o.lo) (sym (filled_is o (1 + z) some)) rows);
      leaves = subst (λ (fills : List ℕ). AreLaid new o.lo fills 0 (with_leaf_at c.series n (last_ts_from 0 ps) a) (kept_with kept n leaf)) (sym (filled_is o (1 + z) some)) all;
      trees = trees_more old new o (1 + z) is.ordinals_are w.same n 0 n c.series kept (last_ts_from 0 ps) a leaf (omega arith) within tree h.trees;
    }

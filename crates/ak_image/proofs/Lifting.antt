-- What the close of a leaf makes of what waits, as the trees have it.
use Rattle.std.proofs.Common.{◌≡◌, ◌≢◌, ◌+◌, ◌%◌, ◌^◌, ◌<◌, ◌≤◌, ℕ, zero, suc, List, [], ◌∷◌, ◌++◌, length, map, refl, sym, ap, ◌∙◌, subst, arith}
use Rattle.std.proofs.lemmas.List.{map-append}
use Rattle.std.specs.List.{AllByRecursion}
use Rattle.std.specs.Prelude.{◌==◌, if◌then◌else◌}
use Rattle.ak_base.specs.Points.{IsHistory, IsHistoryFrom}
use Rattle.ak_base.specs.declared.point.Point.{Point}
use Rattle.ak_forest.specs.Numbers.{carry, carry_to}
use Rattle.ak_forest.specs.Tree.{Reference, Takes, first_of}
use Rattle.ak_forest.specs.Tree.{joined as joined_by}
use Rattle.ak_image.proofs.Numbered.{between_join, between_some}
use Rattle.ak_image.proofs.StepBlocks.{some_points}
use Rattle.ak_image.specs.Blocks.{Seen}
use Rattle.ak_image.specs.Chains.{AreLinked}
use Rattle.ak_image.specs.Nodes.{reference_of}
use Rattle.ak_image.specs.Planted.{waiting_of}
use Rattle.ak_image.specs.Trees.{points_between, total_of}
use Rattle.ak_inner.specs.declared.reference.Ref.{Ref}
use Rattle.ak_levels.proofs.Closed.{raised_addr, closed_below, closed_at, closed_above}
use Rattle.ak_levels.proofs.Leaves.{leaf_orderly}
use Rattle.ak_levels.specs.Carries.{dividing_powers, carry_of}
use Rattle.ak_levels.specs.Closes.{leaf_ref, first_leaf_of, raised, taken, closed_lists}
use Rattle.ak_levels.specs.Joins.{joined_refs}
use Rattle.ak_levels.specs.Pending.{Lists, pending_at}
use Rattle.ak_summary.proofs.Folded.{summary_append}
use Rattle.ak_summary.specs.Folds.{summary_of}
use Rattle.ak_summary.specs.Summaries.{IsOrderly, joined}
use Rattle.ak_world.specs.Leaves.{Leaf}
use Rattle.ak_world.specs.Valid.{AreNumbered}

-- ---- The levels that a leaf fills

powers_same : (top m : ℕ) → carry_to 32 top m ≡ dividing_powers top (suc m)
powers_same zero m = refl
powers_same (suc top) m = ap (λ (x : ℕ). x + (if suc m % 32 ^ suc top == 0 then 1 else 0)) (powers_same top m)

pub carry_same : (m : ℕ) → carry 32 m ≡ carry_of m
unfolding carry_of
carry_same m = powers_same 10 m

pub carry_within : (m k : ℕ) → k ≤ carry 32 m → k ≤ carry_of m
carry_within m k h = subst (λ (c : ℕ). k ≤ c) (carry_same m) h

pub carry_under : (m k : ℕ) → k < carry 32 m → k < carry_of m
carry_under m k h = subst (λ (c : ℕ). k < c) (carry_same m) h

pub carry_past : (m k : ℕ) → carry 32 m < k → carry_of m < k
carry_past m k h = subst (λ (c : ℕ). c < k) (carry_same m) h

-- ---- The references of a group

abbrev pub fresh_of : Lists → Ref → ℕ → Reference
fresh_of v leaf k = reference_of (raised v leaf k)

abbrev pub taken_of : Lists → Ref → ℕ → List Reference
taken_of v leaf zero = []
taken_of v leaf (suc k) = map reference_of (taken v leaf k)

first_same : (rs : List Ref) → (first_leaf_of rs).0 ≡ first_of (map reference_of rs)
first_same [] = refl
first_same (r ∷ rs) = refl

joined_same : (rs : List Ref) → joined_refs rs ≡ joined_by joined (map reference_of rs)
joined_same [] = refl
joined_same (r ∷ []) = refl
joined_same (r ∷ s ∷ rs) = ap (joined r.summary) (joined_same (s ∷ rs))

pushed_same : (v : Lists) (leaf : Ref) (k : ℕ) → map reference_of (taken v leaf k) ≡ waiting_of v k ++ fresh_of v leaf k ∷ []
pushed_same v leaf k = map-append reference_of (pending_at v k) (raised v leaf k ∷ [])

pub takes_raised : (v : Lists) (a : ℕ) (ps : List Point) (k : ℕ) → Takes joined a (summary_of ps) k (waiting_of v) (fresh_of v (leaf_ref a ps)) (taken_of v (leaf_ref a ps) k)
takes_raised v a ps zero = (refl, refl, refl)
takes_raised v a ps (suc k) = (pushed_same v (leaf_ref a ps) k, first_same (taken v (leaf_ref a ps) k), joined_same (taken v (leaf_ref a ps) k))

pub child_raised : (v : Lists) (a : ℕ) (ps : List Point) (k : ℕ) → (fresh_of v (leaf_ref a ps) k).child ≡ a + k
child_raised v a ps k = raised_addr v (leaf_ref a ps) k

-- ---- What waits then

pub waiting_under : (v : Lists) (m : ℕ) (leaf : Ref) (k : ℕ) → k < carry 32 m → waiting_of (closed_lists v m leaf) k ≡ []
waiting_under v m leaf k h = ap (map reference_of) (closed_below v m leaf k (carry_under m k h))

pub waiting_past : (v : Lists) (m : ℕ) (leaf : Ref) (k : ℕ) → carry 32 m < k → waiting_of (closed_lists v m leaf) k ≡ waiting_of v k
waiting_past v m leaf k h = ap (map reference_of) (closed_above v m leaf k (carry_past m k h))

pub waiting_here : (v : Lists) (m : ℕ) (leaf : Ref) → length v.pending ≡ 11 → waiting_of (closed_lists v m leaf) (carry 32 m) ≡ waiting_of v (carry 32 m) ++ fresh_of v leaf (carry 32 m) ∷ []
waiting_here v m leaf levels =
    subst (λ (c : ℕ). waiting_of (closed_lists v m leaf) c ≡ waiting_of v c ++ fresh_of v leaf c ∷ []) (sym (carry_same m))
    (ap (map reference_of) (closed_at v m leaf levels) ∙ pushed_same v leaf (carry_of m))

-- ---- The summaries of leaves

pub all_some : (seen : Seen) (series before : ℕ) (leaves : List Leaf) (last : ℕ) → AreLinked seen series before leaves last → AllByRecursion (λ (leaf : Leaf). 0 < length leaf.points) leaves
all_some seen series before [] last are = tt
all_some seen series before (leaf ∷ leaves) last are = (some_points seen series before leaf are.0, all_some seen series leaf.address leaves last are.1)

pub totals_join : (first : ℕ) (leaves : List Leaf) → AreNumbered first leaves → AllByRecursion (λ (leaf : Leaf). 0 < length leaf.points) leaves
    → (i j k : ℕ) → first ≤ i → i < j → j < k → k ≤ first + length leaves → joined (total_of leaves i j) (total_of leaves j k) ≡ total_of leaves i k
totals_join first leaves are each i j k from less more to =
    sym (summary_append (points_between leaves i j) (points_between leaves j k) (between_some first leaves i j are each from (omega (arith, less, more, to)) less) (between_some first leaves j k are each (omega (arith, from, less)) (omega (arith, more, to)) more))
    ∙ ap summary_of (between_join first leaves i j k are (omega (arith, less)) (omega (arith, more)))

pub some_of : (ps : List Point) → 0 < length ps → ps ≢ []
some_of [] some none = absurd (omega arith)
some_of (p ∷ ps) some none = absurd (cc)

pub begins_from : (t : ℕ) (ps : List Point) → 0 < length ps → IsHistoryFrom t ps → t ≤ (summary_of ps).begin
begins_from t [] some h = absurd (omega arith)
begins_from t (p ∷ []) some h = h.0
begins_from t (p ∷ q ∷ ps) some h = h.0

history_whole : (t : ℕ) (ps : List Point) → IsHistoryFrom t ps → IsHistory ps
history_whole t [] h = tt
history_whole t (p ∷ ps) h = (omega arith, h.1)

pub orderly_of : (a t : ℕ) (ps : List Point) → 0 < length ps → IsHistoryFrom t ps → IsOrderly (leaf_ref a ps).summary
orderly_of a t ps some h = leaf_orderly a ps (some_of ps some) (history_whole t ps h)

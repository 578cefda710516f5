-- What waits in order of time, before and after a leaf is closed.
use Rattle.std.proofs.Common.{◌≡◌, inl, inr, ℕ, zero, suc, ◌-◌, ◌*◌, ◌^◌, ◌<◌, ◌≤◌, List, [], ◌∷◌, ◌++◌, get_or, refl, sym, ap, ap₂, subst, arith}
use Rattle.std.proofs.lemmas.Bool.{cases_lt}
use Rattle.std.proofs.lemmas.List.{append-nil}
use Rattle.std.specs.List.{AllByRecursion}
use Rattle.ak_inner.specs.References.{IsRef, FollowFrom, AreRefs}
use Rattle.ak_inner.specs.declared.reference.Ref.{Ref}
use Rattle.ak_summary.specs.Summaries.{IsOrderly}
use Rattle.ak_summary.specs.declared.summary.Summary.{Summary}
use Rattle.ak_summary.proofs.Orders.{joined_orderly}
use Rattle.ak_levels.specs.Carries.{carry_of}
use Rattle.ak_levels.specs.Closes.{raised, taken, emptied, closed_lists}
use Rattle.ak_levels.specs.Entries.{IsTally, AreLawful}
use Rattle.ak_levels.specs.Joins.{joined_refs}
use Rattle.ak_levels.specs.Orders.{all_below, AreInOrder}
use Rattle.ak_levels.specs.Pending.{Lists, pending_at}
use Rattle.ak_levels.proofs.Closed.{emptied_below, emptied_at, closed_below, closed_above, closed_either, taken_tallies}
use Rattle.ak_levels.proofs.Digits.{carry_most}
use Rattle.ak_levels.proofs.Joined.{joined_begin}

-- LISTS IN ORDER
-- an earlier beginning, and a later end
pub order_wider : (from to least most : ℕ) (rs : List Ref) → least ≤ from → to ≤ most → AreInOrder from to rs → AreInOrder least most rs
order_wider from to least most [] low high order = omega (arith, low, high, order)
order_wider from to least most (r ∷ rs) low high order = (omega (arith, low, order.0), order.1, order_wider r.summary.end to r.summary.end most rs (omega arith) high order.2)

pub order_spans : (from to : ℕ) (rs : List Ref) → AreInOrder from to rs → from ≤ to
order_spans from to [] order = order
order_spans from to (r ∷ rs) order = omega (arith, order.0, order.1.ends, order_spans r.summary.end to rs order.2)

-- the rest of a list, and one in place of it
pub order_rest : (from to : ℕ) (rs ss : List Ref) → AreInOrder from to (rs ++ ss) → AreInOrder from to ss
order_rest from to [] ss order = order
order_rest from to (r ∷ rs) ss order = order_wider r.summary.end to from to ss (omega (arith, order.0, order.1.ends)) (omega arith) (order_rest r.summary.end to rs ss order.2)

pub order_change : (from to till : ℕ) (rs ss ts : List Ref) → ((at : ℕ) → AreInOrder at to ss → AreInOrder at till ts) → AreInOrder from to (rs ++ ss) → AreInOrder from till (rs ++ ts)
order_change from to till [] ss ts change order = change from order
order_change from to till (r ∷ rs) ss ts change order = (order.0, order.1, order_change r.summary.end to till rs ss ts change order.2)

pub order_follows : (from to : ℕ) (rs : List Ref) → AreInOrder from to rs → FollowFrom from rs
order_follows from to [] order = tt
order_follows from to (r ∷ rs) order = (order.0, order_follows r.summary.end to rs order.2)

tally_ref : (level : ℕ) (r : Ref) → IsOrderly r.summary → IsTally level r → IsRef (suc level) r
tally_ref level r orderly tally = let same : level ≡ suc level - 1 = omega arith in record {
  some = tally.some;
  most = subst (λ (k : ℕ). r.summary.count ≤ 2016 * 32 ^ k) same tally.most;
  orderly = orderly;
  bounded = tally.bounded;
}

pub order_each : (from to level : ℕ) (rs : List Ref) → AreInOrder from to rs → AllByRecursion (IsTally level) rs → AllByRecursion (IsRef (suc level)) rs
order_each from to level [] order all = tt
order_each from to level (r ∷ rs) order all = (tally_ref level r order.1 all.0, order_each r.summary.end to level rs order.2 all.1)

pub order_refs : (to level : ℕ) (rs : List Ref) → AreInOrder 0 to rs → AllByRecursion (IsTally level) rs → AreRefs (suc level) rs
order_refs to level rs order all = record { each = order_each 0 to level rs order all; order = order_follows 0 to rs order }

-- the join of what is in order
joined_from : (from to : ℕ) (r : Ref) (rs : List Ref) → AreInOrder from to (r ∷ rs) → IsOrderly (joined_refs (r ∷ rs)) × ((joined_refs (r ∷ rs)).end ≤ to)
joined_from from to r [] order = (order.1, order.2)
joined_from from to r (s ∷ rs) order =
    let rest = joined_from r.summary.end to s rs order.2 in
    (joined_orderly r.summary (joined_refs (s ∷ rs)) order.1 rest.0 (omega (arith, order.2.0, joined_begin s rs)), rest.1)

one_in_order : (from to : ℕ) (r : Ref) (rs : List Ref) (n : Ref) → n.summary ≡ joined_refs (r ∷ rs) → AreInOrder from to (r ∷ rs) → AreInOrder from to (n ∷ [])
one_in_order from to r rs n is order =
    let whole = joined_from from to r rs order in
    (omega (arith, ap (λ (s : Summary). s.begin) is, joined_begin r rs, order.0), subst IsOrderly (sym is) whole.0, omega (arith, ap (λ (s : Summary). s.end) is, whole.1))

pub joined_in_order : (from to : ℕ) (rs : List Ref) (r n : Ref) → n.summary ≡ joined_refs (rs ++ r ∷ []) → AreInOrder from to (rs ++ r ∷ []) → AreInOrder from to (n ∷ [])
joined_in_order from to [] r n is order = one_in_order from to r [] n is order
joined_in_order from to (q ∷ rs) r n is order = one_in_order from to q (rs ++ r ∷ []) n is order

-- A LEAF THAT IS CLOSED
-- the reference that comes to a level begins behind what waits there, and ends with the leaf
pub raised_order : (v : Lists) (leaf : Ref) (k from last : ℕ) → last ≤ leaf.summary.begin → IsOrderly leaf.summary → AreInOrder from last (all_below v k) → AreInOrder from leaf.summary.end (raised v leaf k ∷ [])
raised_order v leaf zero from last late orderly order = (omega (arith, order, late), orderly, omega arith)
raised_order v leaf (suc k) from last late orderly order =
    let all : AreInOrder from leaf.summary.end (taken v leaf k) =
    order_change from last leaf.summary.end (pending_at v k) (all_below v k) (raised v leaf k ∷ []) (λ at below. raised_order v leaf k at last late orderly below) order in
    joined_in_order from leaf.summary.end (pending_at v k) (raised v leaf k) (raised v leaf (suc k)) refl all

pub taken_order : (v : Lists) (leaf : Ref) (k from last : ℕ) → last ≤ leaf.summary.begin → IsOrderly leaf.summary → AreInOrder from last (all_below v (suc k)) → AreInOrder from leaf.summary.end (taken v leaf k)
taken_order v leaf k from last late orderly order =
    order_change from last leaf.summary.end (pending_at v k) (all_below v k) (raised v leaf k ∷ []) (λ at below. raised_order v leaf k at last late orderly below) order

-- what waits below a level is in order where all that waits is
pub below_order : (v : Lists) (from to n k : ℕ) → k ≤ n → AreInOrder from to (all_below v n) → AreInOrder from to (all_below v k)
below_order v from to zero k h order = let same : 0 ≡ k = omega (arith, h) in subst (λ (x : ℕ). AreInOrder from to (all_below v x)) same order
below_order v from to (suc n) k h order = elim (cases_lt n k) [
  | inl top ↦ let same : suc n ≡ k = omega (arith, top, h) in subst (λ (x : ℕ). AreInOrder from to (all_below v x)) same order
  | inr below ↦ below_order v from to n k below (order_rest from to (pending_at v n) (all_below v n) order)
]

pub taken_refs : (v : Lists) (m : ℕ) (leaf : Ref) (last k : ℕ) → AreLawful m v → IsTally 0 leaf → last ≤ leaf.summary.begin → IsOrderly leaf.summary → AreInOrder 0 last (all_below v 11) → k ≤ carry_of m → AreRefs (suc k) (taken v leaf k)
taken_refs v m leaf last k are tally late orderly order h =
    let below : AreInOrder 0 last (all_below v (suc k)) = below_order v 0 last 11 (suc k) (omega (arith, h, carry_most m)) order in
    order_refs leaf.summary.end k (taken v leaf k) (taken_order v leaf k 0 last late orderly below) (taken_tallies v m leaf k are tally h)

-- nothing waits below where nothing waits on each level there
none_below : (v : Lists) (k : ℕ) → ((j : ℕ) → j < k → pending_at v j ≡ []) → all_below v k ≡ []
none_below v zero none = refl
none_below v (suc k) none = ap₂ (λ (rs ss : List Ref). rs ++ ss) (none k (omega arith)) (none_below v k (λ j h. none j (omega (arith, h))))

-- what waits is the same where the levels differ in their places alone
pub below_same : (v w : Lists) (k : ℕ) → v.pending ≡ w.pending → all_below v k ≡ all_below w k
below_same v w zero same = refl
below_same v w (suc k) same = ap₂ (λ (rs ss : List Ref). rs ++ ss) (ap (λ (l : List (List Ref)). get_or l k []) same) (below_same v w k same)

pub order_emptied : (v : Lists) (k from to n : ℕ) → AreInOrder from to (all_below v n) → AreInOrder from to (all_below (emptied v k) n)
order_emptied v k from to zero order = order
order_emptied v k from to (suc n) order =
    let rest : (at : ℕ) → AreInOrder at to (all_below v n) → AreInOrder at to (all_below (emptied v k) n) = λ at below. order_emptied v k at to n below in
    elim (cases_lt n k) [
      | inl none ↦ subst (λ (rs : List Ref). AreInOrder from to (rs ++ all_below (emptied v k) n)) (sym (emptied_below v k n none)) (rest from (order_rest from to (pending_at v n) (all_below v n) order))
      | inr some ↦
          subst (λ (rs : List Ref). AreInOrder from to (rs ++ all_below (emptied v k) n)) (sym (emptied_at v k n some))
          (order_change from to to (pending_at v n) (all_below v n) (all_below (emptied v k) n) rest order)
    ]

closed_from : (v : Lists) (m : ℕ) (leaf : Ref) (n from last : ℕ) → carry_of m < n → last ≤ leaf.summary.begin → IsOrderly leaf.summary → AreInOrder from last (all_below v n) → AreInOrder from leaf.summary.end (all_below (closed_lists v m leaf) n)
closed_from v m leaf zero from last past late orderly order = absurd (omega (arith, past))
closed_from v m leaf (suc n) from last past late orderly order = elim (cases_lt (carry_of m) n) [
  | inl above ↦
      subst (λ (rs : List Ref). AreInOrder from leaf.summary.end (rs ++ all_below (closed_lists v m leaf) n)) (sym (closed_above v m leaf n above))
      (order_change from last leaf.summary.end (pending_at v n) (all_below v n) (all_below (closed_lists v m leaf) n) (λ at below. closed_from v m leaf n at last above late orderly below) order)
  | inr within ↦
      let here : carry_of m ≡ n = omega (arith, past, within) in
      let all : AreInOrder from last (all_below v (suc (carry_of m))) = subst (λ (x : ℕ). AreInOrder from last (all_below v (suc x))) (sym here) order in
      let none : all_below (closed_lists v m leaf) (carry_of m) ≡ [] = none_below (closed_lists v m leaf) (carry_of m) (λ j h. closed_below v m leaf j h) in
      let spans : from ≤ leaf.summary.end = omega (arith, late, orderly.ends, order_spans from last (all_below v (suc (carry_of m))) all) in
      subst (λ (x : ℕ). AreInOrder from leaf.summary.end (all_below (closed_lists v m leaf) (suc x))) here
      (subst (λ (ss : List Ref). AreInOrder from leaf.summary.end (pending_at (closed_lists v m leaf) (carry_of m) ++ ss)) (sym none)
      (subst (AreInOrder from leaf.summary.end) (sym (append-nil (pending_at (closed_lists v m leaf) (carry_of m))))
      (closed_either (AreInOrder from leaf.summary.end) v m leaf spans (taken_order v leaf (carry_of m) from last late orderly all))))
]

pub closed_order : (v : Lists) (m : ℕ) (leaf : Ref) (last : ℕ) → last ≤ leaf.summary.begin → IsOrderly leaf.summary → AreInOrder 0 last (all_below v 11) → AreInOrder 0 leaf.summary.end (all_below (closed_lists v m leaf) 11)
closed_order v m leaf last late orderly order = closed_from v m leaf 11 0 last (omega (arith, carry_most m)) late orderly order

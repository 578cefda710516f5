-- The join of the summaries of references.
use Rattle.std.proofs.Common.{◌≡◌, ℕ, zero, suc, ◌+◌, ◌-◌, ◌*◌, ◌^◌, ◌<◌, ◌≤◌, pos, List, [], ◌∷◌, ◌++◌, length, take, drop, get_or, refl, sym, ap, ◌∙◌, subst, arith, pow-suc}
use Rattle.std.proofs.lemmas.Int.{ints}
use Rattle.std.proofs.lemmas.List.{length-take-le}
use Rattle.std.proofs.lemmas.Nat.{mul-le}
use Rattle.std.proofs.Math.IntN.{zero-*ℤ}
use Rattle.std.proofs.Math.Nat.{pow-le-pow_right}
use Rattle.std.specs.List.{AllByRecursion}
use Rattle.ak_inner.specs.References.{IsRef, FollowFrom, AreRefs}
use Rattle.ak_inner.specs.declared.reference.Ref.{Ref}
use Rattle.ak_summary.specs.Summaries.{IsBounded, IsOrderly, CanJoin, joined}
use Rattle.ak_summary.specs.declared.summary.Summary.{Summary}
use Rattle.ak_summary.proofs.Folded.{joined_thrice}
use Rattle.ak_summary.proofs.Joins.{joined_bounded}
use Rattle.ak_summary.proofs.Orders.{joined_orderly}
use Rattle.ak_summary.proofs.Parts.{rest_below, rest_more}
use Rattle.ak_levels.specs.Entries.{IsTally}
use Rattle.ak_levels.specs.Joins.{joined_refs}

pub count_cons : (r : Ref) (rs : List Ref) → (joined_refs (r ∷ rs)).count ≡ r.summary.count + (joined_refs rs).count
count_cons r [] = omega arith
count_cons r (s ∷ rs) = refl

count_take : (n : ℕ) (rs : List Ref) → (joined_refs (take n rs)).count ≤ (joined_refs rs).count
count_take zero rs = omega arith
count_take (suc n) [] = omega arith
count_take (suc n) (r ∷ rs) = omega (arith, count_cons r (take n rs), count_cons r rs, count_take n rs)

count_push : (rs : List Ref) (s : Ref) → (joined_refs (rs ++ s ∷ [])).count ≡ (joined_refs rs).count + s.summary.count
count_push [] s = omega arith
count_push (r ∷ rs) s = omega (arith, count_cons r (rs ++ s ∷ []), count_cons r rs, count_push rs s)

-- one reference more behind others
pub joined_push : (r : Ref) (rs : List Ref) (s : Ref) → joined_refs (r ∷ rs ++ s ∷ []) ≡ joined (joined_refs (r ∷ rs)) s.summary
joined_push r [] s = refl
joined_push r (q ∷ rs) s = ap (joined r.summary) (joined_push q rs s) ∙ sym (joined_thrice r.summary (joined_refs (q ∷ rs)) s.summary)

joined_push_some : (rs : List Ref) (s : Ref) → 1 ≤ length rs → joined_refs (rs ++ s ∷ []) ≡ joined (joined_refs rs) s.summary
joined_push_some [] s some = absurd (omega arith)
joined_push_some (r ∷ rs) s some = joined_push r rs s

-- the join begins with the first
pub joined_begin : (r : Ref) (rs : List Ref) → (joined_refs (r ∷ rs)).begin ≡ r.summary.begin
joined_begin r [] = refl
joined_begin r (s ∷ rs) = refl

-- the join ends with the last
pub joined_end : (rs : List Ref) (s : Ref) → (joined_refs (rs ++ s ∷ [])).end ≡ s.summary.end
joined_end [] s = refl
joined_end (r ∷ []) s = refl
joined_end (r ∷ q ∷ rs) s = joined_end (q ∷ rs) s

pub joined_refs_bounded : (rs : List Ref) → AllByRecursion (λ r. IsBounded r.summary) rs → IsBounded (joined_refs rs)
joined_refs_bounded [] all = record { low = omega (arith, ints, zero-*ℤ (pos 0)); high = omega (arith, ints, zero-*ℤ (pos 0)) }
joined_refs_bounded (r ∷ []) all = all.0
joined_refs_bounded (r ∷ s ∷ rs) all = joined_bounded r.summary (joined_refs (s ∷ rs)) all.0 (joined_refs_bounded (s ∷ rs) all.1)

orderly_from : (level ts : ℕ) (r : Ref) (rs : List Ref) → AllByRecursion (IsRef level) (r ∷ rs) → FollowFrom ts (r ∷ rs) → IsOrderly (joined_refs (r ∷ rs))
orderly_from level ts r [] each order = each.0.orderly
orderly_from level ts r (s ∷ rs) each order =
    joined_orderly r.summary (joined_refs (s ∷ rs)) each.0.orderly (orderly_from level r.summary.end s rs each.1 order.1) (omega (arith, order.1.0, joined_begin s rs))

pub joined_refs_orderly : (level : ℕ) (rs : List Ref) → 1 ≤ length rs → AreRefs level rs → IsOrderly (joined_refs rs)
joined_refs_orderly level [] some are = absurd (omega arith)
joined_refs_orderly level (r ∷ rs) some are = orderly_from level 0 r rs are.each are.order

-- TALLIES
pub tallies_bounded : (level : ℕ) (rs : List Ref) → AllByRecursion (IsTally level) rs → AllByRecursion (λ r. IsBounded r.summary) rs
tallies_bounded level [] all = tt
tallies_bounded level (r ∷ rs) all = (all.0.bounded, tallies_bounded level rs all.1)

tallies_most : (level : ℕ) (rs : List Ref) → AllByRecursion (IsTally level) rs → (joined_refs rs).count ≤ length rs * (2016 * 32 ^ level)
tallies_most level [] all = omega arith
tallies_most level (r ∷ rs) all = omega (arith, count_cons r rs, all.0.most, tallies_most level rs all.1)

-- the join of 1 to 32 tallies is one of the next level
pub tally_joined : (level : ℕ) (rs : List Ref) (r : Ref) → 1 ≤ length rs → length rs ≤ 32 → AllByRecursion (IsTally level) rs → r.summary ≡ joined_refs rs → IsTally (suc level) r
tally_joined level [] r some few all is = absurd (omega arith)
tally_joined level (q ∷ rs) r some few all is =
    let most : length (q ∷ rs) * (2016 * 32 ^ level) ≤ 32 * (2016 * 32 ^ level) = mul-le (length (q ∷ rs)) (2016 * 32 ^ level) 32 (2016 * 32 ^ level) few (omega arith) in
    subst (λ (s : Summary). IsTally (suc level) (record r { summary = s })) (sym is) (record {
      some = omega (arith, count_cons q rs, all.0.some);
      most = omega (arith, most, tallies_most level (q ∷ rs) all, pow-suc 32 level);
      bounded = joined_refs_bounded (q ∷ rs) (tallies_bounded level (q ∷ rs) all);
    })

pub tallies_few : (level : ℕ) (rs : List Ref) → level ≤ 9 → length rs ≤ 32 → AllByRecursion (IsTally level) rs → (joined_refs rs).count < 2 ^ 63
tallies_few level rs low few all =
    let power : 32 ^ level ≤ 32 ^ 9 = pow-le-pow_right (omega arith) low in
    let most : length rs * (2016 * 32 ^ level) ≤ 32 * (2016 * 32 ^ level) = mul-le (length rs) (2016 * 32 ^ level) 32 (2016 * 32 ^ level) few (omega arith) in
    omega (arith, most, tallies_most level rs all, power)

-- THE LOOP OVER REFERENCES
bounded_take : (n : ℕ) (rs : List Ref) → AllByRecursion (λ r. IsBounded r.summary) rs → AllByRecursion (λ r. IsBounded r.summary) (take n rs)
bounded_take zero rs all = tt
bounded_take (suc n) [] all = tt
bounded_take (suc n) (r ∷ rs) all = (all.0, bounded_take n rs all.1)

bounded_last : (rs : List Ref) (s : Ref) → AllByRecursion (λ r. IsBounded r.summary) (rs ++ s ∷ []) → IsBounded s.summary
bounded_last [] s all = all.0
bounded_last (r ∷ rs) s all = bounded_last rs s all.1

pub joined_more : (rs : List Ref) (i : ℕ) (d : Ref) (whole next : Summary) → i < length (take (length rs - 1) (drop 1 rs)) → whole ≡ joined_refs (take (i + 1) rs) → next ≡ joined whole (get_or (take (length rs - 1) (drop 1 rs)) i d).summary
    → next ≡ joined_refs (take (i + 1 + 1) rs)
joined_more rs i d whole next h is step =
    let s = get_or (take (length rs - 1) (drop 1 rs)) i d in
    step ∙ ap (λ (w : Summary). joined w s.summary) is
    ∙ sym (joined_push_some (take (i + 1) rs) s (omega (arith, length-take-le (i + 1) rs (omega (arith, rest_below rs i h)))))
    ∙ sym (ap joined_refs (rest_more rs i d h))

pub joined_one : (rs : List Ref) (d : Ref) → 1 ≤ length rs → (get_or rs 0 d).summary ≡ joined_refs (take 1 rs)
joined_one [] d some = absurd (omega arith)
joined_one (r ∷ rs) d some = refl

pub can_join_more : (rs : List Ref) (i : ℕ) (d : Ref) (whole : Summary) → i < length (take (length rs - 1) (drop 1 rs)) → (joined_refs rs).count < 2 ^ 63 → AllByRecursion (λ r. IsBounded r.summary) rs → whole ≡ joined_refs (take (i + 1) rs)
    → CanJoin whole (get_or (take (length rs - 1) (drop 1 rs)) i d).summary
can_join_more rs i d whole h few all is =
    let s = get_or (take (length rs - 1) (drop 1 rs)) i d in
    let more = rest_more rs i d h in
    let next : AllByRecursion (λ r. IsBounded r.summary) (take (i + 1) rs ++ s ∷ []) = subst (AllByRecursion (λ r. IsBounded r.summary)) more (bounded_take (i + 1 + 1) rs all) in
    subst (λ (w : Summary). CanJoin w s.summary) (sym is) (record {
      counts = omega (arith, ap (λ (l : List Ref). (joined_refs l).count) more, count_take (i + 1 + 1) rs, count_push (take (i + 1) rs) s);
      earlier = joined_refs_bounded (take (i + 1) rs) (bounded_take (i + 1) rs all);
      later = bounded_last (take (i + 1) rs) s next;
    })

-- The reference to a leaf.
use Rattle.std.proofs.Common.{◌≡◌, ◌≢◌, ℕ, ◌≤◌, Option, Some, IfSome, List, [], ◌∷◌, length, refl, ap, subst, arith}
use Rattle.ak_base.specs.Points.{IsHistory, last_ts_from}
use Rattle.ak_base.specs.declared.point.Addr.{Addr}
use Rattle.ak_base.specs.declared.point.Point.{Point}
use Rattle.ak_inner.specs.declared.reference.Ref.{Ref}
use Rattle.ak_summary.specs.Bounds.{IsSummary-bounded}
use Rattle.ak_summary.specs.Folds.{summary_of}
use Rattle.ak_summary.specs.Summaries.{IsSummary, IsOrderly}
use Rattle.ak_summary.specs.declared.summary.Summary.{Summary}
use Rattle.ak_summary.proofs.Folded.{IsSummary-computed, IsSummary-computes}
use Rattle.ak_summary.proofs.Orders.{IsSummary-orderly}
use Rattle.ak_levels.specs.Closes.{leaf_ref}
use Rattle.ak_levels.specs.Entries.{IsTally}

abbrev made_leaf : Addr → Summary → Ref
made_leaf at s = record { addr = at; first_leaf = at; summary = s }

-- what is made of an address and the value of the points
pub leaf_made : (at : Addr) (ps : List Point) (found : Option Summary) (s : Summary) → IsHistory ps → found ≡ Some s → IfSome found (IsSummary ps) → made_leaf at s ≡ leaf_ref at.0 ps
leaf_made at ps found s history is some = ap (made_leaf at) (IsSummary-computes ps s history (subst (λ (o : Option Summary). IfSome o (IsSummary ps)) is some))

pub leaf_tally : (a : ℕ) (ps : List Point) → ps ≢ [] → length ps ≤ 2016 → IsHistory ps → IsTally 0 (leaf_ref a ps)
leaf_tally a [] some few history = absurd (some refl)
leaf_tally a (p ∷ ps) some few history =
    let is = IsSummary-computed (p ∷ ps) some history in
    record { some = omega (arith, is.count); most = omega (arith, is.count, few); bounded = IsSummary-bounded (p ∷ ps) (summary_of (p ∷ ps)) is }

pub leaf_orderly : (a : ℕ) (ps : List Point) → ps ≢ [] → IsHistory ps → IsOrderly (leaf_ref a ps).summary
leaf_orderly a ps some history = IsSummary-orderly ps (summary_of ps) history (IsSummary-computed ps some history)

-- it begins with the first point
pub leaf_begin : (a : ℕ) (p : Point) (ps : List Point) → (leaf_ref a (p ∷ ps)).summary.begin ≡ p.ts
leaf_begin a p [] = refl
leaf_begin a p (q ∷ ps) = refl

-- and ends with the last
pub leaf_end : (a ts : ℕ) (ps : List Point) → ps ≢ [] → (leaf_ref a ps).summary.end ≡ last_ts_from ts ps
leaf_end a ts [] some = absurd (some refl)
leaf_end a ts (p ∷ []) some = refl
leaf_end a ts (p ∷ q ∷ ps) some = leaf_end a p.ts (q ∷ ps) not_none
  where
    not_none : q ∷ ps ≢ []
    not_none e = cc

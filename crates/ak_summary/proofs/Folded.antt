-- The summary that is computed is the summary of the list, and that of two lists is the join of theirs.
use Rattle.std.proofs.Common.{◌≡◌, ◌≢◌, inl, ℕ, ℤ, pos, List, [], ◌∷◌, ◌++◌, refl, sym, ap, ◌∙◌, arith}
use Rattle.std.proofs.lemmas.Int.{ints}
use Rattle.ak_base.specs.declared.point.Point.{Point}
use Rattle.ak_base.specs.Points.{IsHistory, Rises}
use Rattle.ak_base.proofs.Histories.{history_rises}
use Rattle.ak_summary.specs.Folds.{point_summary, summary_of}
use Rattle.ak_summary.specs.Ones.{IsSummary-one}
use Rattle.ak_summary.specs.Summaries.{IsSummary, joined, lesser_of, greater_of}
use Rattle.ak_summary.specs.declared.summary.Summary.{Summary}
use Rattle.ak_summary.proofs.Joins.{IsSummary-joined, made_of}

lesser_thrice : (t u w : ℕ) (x y z : ℤ) → lesser_of (lesser_of t x u y).ts (lesser_of t x u y).value w z ≡ lesser_of t x (lesser_of u y w z).ts (lesser_of u y w z).value
lesser_thrice t u w x y z = grind (arith, ints)

greater_thrice : (t u w : ℕ) (x y z : ℤ) → greater_of (greater_of t x u y).ts (greater_of t x u y).value w z ≡ greater_of t x (greater_of u y w z).ts (greater_of u y w z).value
greater_thrice t u w x y z = grind (arith, ints)

same_made : (count count' begin end : ℕ) (first last : ℤ) {p p' q q' : Point} {sum sum' : ℤ} → count ≡ count' → p ≡ p' → q ≡ q' → sum ≡ sum'
    → made_of count begin end first last p.value p.ts q.value q.ts sum ≡ made_of count' begin end first last p'.value p'.ts q'.value q'.ts sum'
same_made count count' begin end first last c d e f = cc

pub joined_thrice : (a b c : Summary) → joined (joined a b) c ≡ joined a (joined b c)
joined_thrice a b c =
    same_made _ _ a.begin c.end a.first c.last (omega arith) (lesser_thrice a.min_ts b.min_ts c.min_ts a.min b.min c.min) (greater_thrice a.max_ts b.max_ts c.max_ts a.max b.max c.max) (omega (arith, ints))

pub joined_append : (p : Point) (ps : List Point) (q : Point) (qs : List Point) → summary_of (p ∷ ps ++ q ∷ qs) ≡ joined (summary_of (p ∷ ps)) (summary_of (q ∷ qs))
joined_append p [] q qs = refl
joined_append p (r ∷ ps) q qs =
    ap (joined (point_summary p)) (joined_append r ps q qs) ∙ sym (joined_thrice (point_summary p) (summary_of (r ∷ ps)) (summary_of (q ∷ qs)))

pub summary_append : (ps qs : List Point) → ps ≢ [] → qs ≢ [] → summary_of (ps ++ qs) ≡ joined (summary_of ps) (summary_of qs)
summary_append [] qs some more = absurd (some refl)
summary_append (p ∷ ps) [] some more = absurd (more refl)
summary_append (p ∷ ps) (q ∷ qs) some more = joined_append p ps q qs

pub IsSummary-point : (p : Point) → IsSummary (p ∷ []) (point_summary p)
IsSummary-point p = record {
  count = refl;
  begins = (refl, refl);
  ends = (refl, refl);
  low = record { stands = inl (refl, refl); least = (omega (arith, ints), tt); earliest = (λ e. omega arith, tt) };
  high = record { stands = inl (refl, refl); greatest = (omega (arith, ints), tt); earliest = (λ e. omega arith, tt) };
  total = omega (arith, ints);
}

computed : (p : Point) (ps : List Point) → Rises (p ∷ ps) → IsSummary (p ∷ ps) (summary_of (p ∷ ps))
computed p [] h = IsSummary-point p
computed p (q ∷ ps) h = IsSummary-joined (point_summary p) (summary_of (q ∷ ps)) (p ∷ []) (q ∷ ps) h (IsSummary-point p) (computed q ps h.1)

pub IsSummary-computed : (ps : List Point) → ps ≢ [] → IsHistory ps → IsSummary ps (summary_of ps)
IsSummary-computed [] some h = absurd (some refl)
IsSummary-computed (p ∷ ps) some h = computed p ps (history_rises 0 (p ∷ ps) h)

pub IsSummary-computes : (ps : List Point) (s : Summary) → IsHistory ps → IsSummary ps s → s ≡ summary_of ps
IsSummary-computes [] s h is = absurd is.begins
IsSummary-computes (p ∷ ps) s h is = IsSummary-one (p ∷ ps) s (summary_of (p ∷ ps)) is (computed p ps (history_rises 0 (p ∷ ps) h))

-- three points
three_points : summary_of (record { ts = 1; value = pos 5 } ∷ record { ts = 2; value = pos 7 } ∷ record { ts = 2; value = pos 5 } ∷ [])
    ≡ record { count = 3; begin = 1; end = 2; first = pos 5; last = pos 5; min = pos 5; min_ts = 1; max = pos 7; max_ts = 2; sum = pos 17 }
three_points = refl

-- What a fold does at one reference and at one node, and what it reads there.
use Rattle.std.proofs.Common.{◌≡◌, ◌≢◌, ◌⊎◌, inl, inr, ◌∙◌, ℕ, zero, suc, pred, ◌+◌, ◌-◌, ◌*◌, ◌^◌, ◌<◌, ◌≤◌, max, List, [], ◌∷◌, ◌++◌, length, get_or, Some, refl, sym, ap, subst, arith, suc-mul, mul-add}
use Rattle.std.proofs.Math.Nat.{mul-le-mul_left}
use Rattle.std.proofs.lemmas.Bool.{cases_lt}
use Rattle.std.proofs.lemmas.Bool.Decides.{nat_tests}
use Rattle.ak_base.specs.declared.point.Point.{Point}
use Rattle.ak_base.specs.Points.{last_ts_from}
use Rattle.ak_forest.specs.Numbers.{end}
use Rattle.ak_forest.specs.Tree.{Reference, Child, Children, Covers}
use Rattle.ak_forest.proofs.Arith.{fan_pos, times_le, power_up, family_stop, start_same}
use Rattle.ak_select.proofs.Chosen.{begin_is, end_is, last_append, chosen_append, chosen_whole_is, chosen_early_is, chosen_late_is}
use Rattle.ak_select.proofs.Crossed.{borders_join}
use Rattle.ak_select.proofs.Summed.{summed_some}
use Rattle.ak_select.specs.Costs.{crosses, splits, borders}
use Rattle.ak_base.specs.Selections.{IsOpen}
use Rattle.ak_select.specs.Windows.{chosen, summed}
use Rattle.ak_select.specs.Stretches.{AreStretches}
use Rattle.ak_base.specs.declared.filter.Filter.{Filter}
use Rattle.ak_select.specs.declared.window.Window.{Window}
use Rattle.ak_summary.specs.Folds.{summary_of}
use Rattle.ak_summary.specs.declared.summary.Summary.{Summary}

-- a list that ends with another ends where that does
end_append : (ps : List Point) (q : Point) (qs : List Point) → (summary_of (ps ++ q ∷ qs)).end ≡ (summary_of (q ∷ qs)).end
end_append [] q qs = refl
end_append (p ∷ ps) q qs = end_is p (ps ++ q ∷ qs) ∙ last_append p.ts ps (q ∷ qs) ∙ sym (end_is q qs)

pub end_joined : (ps qs : List Point) → qs ≢ [] → (summary_of (ps ++ qs)).end ≡ (summary_of qs).end
end_joined ps [] some = absurd (some refl)
end_joined ps (q ∷ qs) some = end_append ps q qs

-- the child in a place
pub child_at : (fan lo low : ℕ) (home : ℕ → ℕ) (total : ℕ → ℕ → Summary) (k c i : ℕ) (rs : List Reference) (other : Reference) → i < length rs
    → Children fan lo low home total k c rs → Child fan lo low home total k (c + i) (get_or rs i other)
child_at fan lo low home total k c i [] other below each = absurd (omega (arith, below))
child_at fan lo low home total k c zero (r ∷ rs) other below each = subst (λ (n : ℕ). Child fan lo low home total k n r) (omega arith) each.0
child_at fan lo low home total k c (suc i) (r ∷ rs) other below each =
    subst (λ (n : ℕ). Child fan lo low home total k n (get_or rs i other)) (omega arith) (child_at fan lo low home total k (suc c) i rs other (omega (arith, below)) each.1)

-- a border that runs through a list that isn't empty
cross_one : (x : ℕ) (p : Point) (ps : List Point) → p.ts < x → x ≤ last_ts_from p.ts ps → 1 ≤ crosses x (p ∷ ps)
cross_one x p ps from to = grind (arith, nat_tests)

pub crosses_one : (x : ℕ) (ps : List Point) → ps ≢ [] → (summary_of ps).begin < x → x ≤ (summary_of ps).end → 1 ≤ crosses x ps
crosses_one x [] some from to = absurd (some refl)
crosses_one x (p ∷ ps) some from to = cross_one x p ps (omega (arith, begin_is p ps, from)) (omega (arith, end_is p ps, to))

cross_none : (x : ℕ) (p : Point) (ps : List Point) → (last_ts_from p.ts ps < x) ⊎ (x ≤ p.ts) → crosses x (p ∷ ps) ≡ 0
cross_none x p ps (inl behind) = grind (arith, nat_tests)
cross_none x p ps (inr before) = grind (arith, nat_tests)

-- a border that is behind a list or before it
pub crosses_none : (x : ℕ) (ps : List Point) → ((summary_of ps).end < x) ⊎ (x ≤ (summary_of ps).begin) → crosses x ps ≡ 0
crosses_none x [] where_is = refl
crosses_none x (p ∷ ps) (inl behind) = cross_none x p ps (inl (omega (arith, end_is p ps, behind)))
crosses_none x (p ∷ ps) (inr before) = cross_none x p ps (inr (omega (arith, begin_is p ps, before)))

splits_one : (low i j : ℕ) → i < low → low < j → 1 ≤ splits low i j
splits_one low i j from to = grind (arith, nat_tests)

module _ (fan lo low leaves : ℕ) (home : ℕ → ℕ) (stretch : ℕ → ℕ → List Point) (pos : 0 < fan) (are : AreStretches low leaves stretch) (w : Window) (f : Filter) where
  -- what is dead has no points
  pub from_low : (i j : ℕ) → i ≤ j → low ≤ j → stretch i j ≡ stretch (max low i) j
  from_low i j h g = elim (cases_lt i low) [
    | inl below ↦
        let m : max low i ≡ low = omega (arith, below) in
        sym (are.joins i low j (omega (arith, below)) g) ∙ ap (λ (ps : List Point). ps ++ stretch low j) (are.gone i low (omega arith)) ∙ ap (λ (x : ℕ). stretch x j) (sym m)
    | inr past ↦ let m : max low i ≡ i = omega (arith, past) in ap (λ (x : ℕ). stretch x j) (sym m)
  ]

  start_end : (k j : ℕ) → j * fan ^ k < end fan k j
  start_end k j = omega (arith, suc-mul j (fan ^ k), fan_pos fan k pos)

  -- a live node has points
  pub node_some : (k j : ℕ) → low < end fan k j → end fan k j ≤ leaves → stretch (j * fan ^ k) (end fan k j) ≢ []
  node_some k j live fits none =
      let i = max low (j * fan ^ k) in
      let below : i < end fan k j = omega (arith, live, start_end k j) in
      are.some i (end fan k j) (omega arith) below (omega (arith, below, fits))
      (sym (from_low (j * fan ^ k) (end fan k j) (omega (arith, start_end k j)) (omega (arith, live))) ∙ none)

  -- ---- One reference

  pub dead_none : (k j : ℕ) → end fan k j ≤ low → chosen w f (stretch (j * fan ^ k) (end fan k j)) ≡ []
  dead_none k j dead = ap (chosen w f) (are.gone (j * fan ^ k) (end fan k j) dead)

  -- the summary of a reference whose first leaf is live is that of its points
  pub worth_is : (k j first : ℕ) (s : Summary) → Covers fan low home (λ i j. summary_of (stretch i j)) k j first s → s ≡ summary_of (stretch (j * fan ^ k) (end fan k j))
  worth_is k j first s covers = covers.worth ∙ ap summary_of (sym (from_low (j * fan ^ k) (end fan k j) (omega (arith, start_end k j)) (omega (arith, covers.some))))

  pub end_of : (k j : ℕ) (r : Reference) → Child fan lo low home (λ i j. summary_of (stretch i j)) k j r → low < end fan k j → end fan k j ≤ leaves
      → r.summary.end ≡ (summary_of (stretch (j * fan ^ k) (end fan k j))).end
  end_of k j r child live fits =
      let e = end fan k j in
      let some : stretch (pred e) e ≢ [] = are.some (pred e) e (omega (arith, live)) (omega (arith, live)) (omega (arith, live, fits)) in
      let parts : stretch (j * fan ^ k) (pred e) ++ stretch (pred e) e ≡ stretch (j * fan ^ k) e = are.joins (j * fan ^ k) (pred e) e (omega (arith, start_end k j)) (omega arith) in
      child.ends live ∙ sym (end_joined (stretch (j * fan ^ k) (pred e)) (stretch (pred e) e) some) ∙ ap (λ (ps : List Point). (summary_of ps).end) parts

  pub early_none : (k j : ℕ) (r : Reference) → Child fan lo low home (λ i j. summary_of (stretch i j)) k j r → low < end fan k j → end fan k j ≤ leaves
      → r.summary.end < w.least → chosen w f (stretch (j * fan ^ k) (end fan k j)) ≡ []
  early_none k j r child live fits before =
      chosen_early_is w f (stretch (j * fan ^ k) (end fan k j)) (are.history (j * fan ^ k) (end fan k j)) (omega (arith, end_of k j r child live fits, before))

  pub late_none : (k j first : ℕ) (s : Summary) → Covers fan low home (λ i j. summary_of (stretch i j)) k j first s
      → w.most < s.begin → chosen w f (stretch (j * fan ^ k) (end fan k j)) ≡ []
  late_none k j first s covers behind =
      chosen_late_is w f (stretch (j * fan ^ k) (end fan k j)) (are.history (j * fan ^ k) (end fan k j)) (omega (arith, ap (λ (s : Summary). s.begin) (worth_is k j first s covers), behind))

  pub whole_all : (k j first : ℕ) (s : Summary) → Covers fan low home (λ i j. summary_of (stretch i j)) k j first s → end fan k j ≤ leaves → IsOpen f
      → w.least ≤ s.begin → s.end ≤ w.most → summed (chosen w f (stretch (j * fan ^ k) (end fan k j))) ≡ Some s
  whole_all k j first s covers fits open_is from to =
      let is = worth_is k j first s covers in
      let ps : List Point = stretch (j * fan ^ k) (end fan k j) in
      ap summed (chosen_whole_is w f ps open_is (are.history (j * fan ^ k) (end fan k j)) (omega (arith, ap (λ (s : Summary). s.begin) is, from)) (omega (arith, ap (λ (s : Summary). s.end) is, to)))
      ∙ summed_some ps (node_some k j covers.some fits) ∙ ap (λ (s : Summary). Some s) (sym is)

  -- a border runs through a node that has to be read
  pub across_one : (k j : ℕ) (r : Reference) → Child fan lo low home (λ i j. summary_of (stretch i j)) k j r → low < end fan k j → end fan k j ≤ leaves
      → (Covers fan low home (λ i j. summary_of (stretch i j)) k j r.first r.summary → ((r.summary.begin < w.least) × (w.least ≤ r.summary.end)) ⊎ ((r.summary.begin ≤ w.most) × (w.most < r.summary.end)))
      → 1 ≤ borders w low stretch (j * fan ^ k) (end fan k j)
  across_one k j r child live fits across =
      let ps : List Point = stretch (j * fan ^ k) (end fan k j) in
      let some : ps ≢ [] = node_some k j live fits in
      elim child.tally [
        | inr cut ↦ omega (arith, splits_one low (j * fan ^ k) (end fan k j) cut.begun live)
        | inl covers ↦
            let is = worth_is k j r.first r.summary covers in
            let begins : r.summary.begin ≡ (summary_of ps).begin = ap (λ (s : Summary). s.begin) is in
            let ends : r.summary.end ≡ (summary_of ps).end = ap (λ (s : Summary). s.end) is in
            elim (across covers) [
              | inl least ↦ omega (arith, crosses_one w.least ps some (omega (arith, begins, least.0)) (omega (arith, ends, least.1)))
              | inr most ↦ omega (arith, crosses_one (suc w.most) ps some (omega (arith, begins, most.0)) (omega (arith, ends, most.1)))
            ]
      ]

  -- ---- One node

  -- the points of a node's references are those of the node
  pub family_points : (k j n : ℕ) → n ≤ fan → (n < fan → (suc j * fan - n) * fan ^ k ≤ low) → low < end fan (suc k) j
      → stretch ((suc j * fan - n) * fan ^ k) (((suc j * fan - n) + n) * fan ^ k) ≡ stretch (j * fan ^ suc k) (end fan (suc k) j)
  family_points k j n most missing live =
      let c = suc j * fan - n in
      let size : n ≤ suc j * fan = omega (arith, most, times_le 1 (suc j) fan (omega arith)) in
      let stop : (c + n) * fan ^ k ≡ end fan (suc k) j = family_stop fan k j n most in
      let start : max low (c * fan ^ k) ≡ max low (j * fan ^ suc k) = start_same low fan k j n most size missing in
      let up : c * fan ^ k ≤ end fan (suc k) j = omega (arith, stop, times_le c (c + n) (fan ^ k) (omega arith)) in
      ap (stretch (c * fan ^ k)) stop
      ∙ from_low (c * fan ^ k) (end fan (suc k) j) up (omega (arith, live))
      ∙ ap (λ (x : ℕ). stretch x (end fan (suc k) j)) start
      ∙ sym (from_low (j * fan ^ suc k) (end fan (suc k) j) (omega (arith, start_end (suc k) j)) (omega (arith, live)))

  -- and no more borders run through them
  pub family_borders : (k j n : ℕ) → n ≤ fan
      → borders w low stretch ((suc j * fan - n) * fan ^ k) (((suc j * fan - n) + n) * fan ^ k) ≤ borders w low stretch (j * fan ^ suc k) (end fan (suc k) j)
  family_borders k j n most =
      let c = suc j * fan - n in
      let stop : (c + n) * fan ^ k ≡ end fan (suc k) j = family_stop fan k j n most in
      let less : j * fan ≤ c = omega (arith, suc-mul j fan, most) in
      let down : j * fan ^ suc k ≤ c * fan ^ k = omega (arith, power_up fan k j, times_le (j * fan) c (fan ^ k) less) in
      let up : c * fan ^ k ≤ end fan (suc k) j = omega (arith, stop, times_le c (c + n) (fan ^ k) (omega arith)) in
      omega (arith, ap (borders w low stretch (c * fan ^ k)) stop, borders_join w low leaves stretch are (j * fan ^ suc k) (c * fan ^ k) (end fan (suc k) j) down up)

  -- what is read under a reference, where its node is: one block and what the node's references need
  pub node_reads : (k : ℕ) (b inner whole reads : ℕ) → 1 ≤ whole → inner ≤ whole → reads ≤ 1 + suc k * inner → reads ≤ suc (suc k) * whole
  node_reads k b inner whole reads some less few = omega (arith, mul-le-mul_left (suc k) less, suc-mul (suc k) whole, few)

  -- ---- References in a row

  pub row_points : (k c i : ℕ) → chosen w f (stretch (c * fan ^ k) ((c + i) * fan ^ k)) ++ chosen w f (stretch ((c + i) * fan ^ k) (end fan k (c + i))) ≡ chosen w f (stretch (c * fan ^ k) ((c + suc i) * fan ^ k))
  row_points k c i =
      let next : end fan k (c + i) ≡ (c + suc i) * fan ^ k = ap (λ (x : ℕ). x * fan ^ k) (omega arith) in
      let a = c * fan ^ k in
      let m = (c + i) * fan ^ k in
      sym (chosen_append w f (stretch a m) (stretch m (end fan k (c + i))))
      ∙ ap (chosen w f) (are.joins a m (end fan k (c + i)) (times_le c (c + i) (fan ^ k) (omega arith)) (omega (arith, start_end k (c + i))) ∙ ap (stretch a) next)

  pub row_reads : (k c i before here : ℕ) → before ≤ suc k * borders w low stretch (c * fan ^ k) ((c + i) * fan ^ k)
      → here ≤ suc k * borders w low stretch ((c + i) * fan ^ k) (end fan k (c + i)) → before + here ≤ suc k * borders w low stretch (c * fan ^ k) ((c + suc i) * fan ^ k)
  row_reads k c i before here first next =
      let same : end fan k (c + i) ≡ (c + suc i) * fan ^ k = ap (λ (x : ℕ). x * fan ^ k) (omega arith) in
      let a = c * fan ^ k in
      let m = (c + i) * fan ^ k in
      let joins : borders w low stretch a m + borders w low stretch m (end fan k (c + i)) ≤ borders w low stretch a (end fan k (c + i)) =
      borders_join w low leaves stretch are a m (end fan k (c + i)) (times_le c (c + i) (fan ^ k) (omega arith)) (omega (arith, start_end k (c + i))) in
      let whole : borders w low stretch a m + borders w low stretch m (end fan k (c + i)) ≤ borders w low stretch a ((c + suc i) * fan ^ k) =
      omega (arith, joins, ap (borders w low stretch a) same) in
      omega (arith, mul-le-mul_left (suc k) whole, mul-add (suc k) (borders w low stretch a m) (borders w low stretch m (end fan k (c + i))), first, next)

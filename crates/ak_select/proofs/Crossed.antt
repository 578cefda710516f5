-- Borders that run through lists of points.
use Rattle.std.proofs.Common.{◌≡◌, ℕ, suc, ◌+◌, ◌<◌, ◌≤◌, List, [], ◌∷◌, ◌++◌, refl, sym, ◌∙◌, ap, arith}
use Rattle.std.proofs.lemmas.Bool.Decides.{nat_tests}
use Rattle.ak_base.specs.declared.point.Point.{Point}
use Rattle.std.specs.Prelude.{◌&&◌, nat_le, nat_lt, if◌then◌else◌}
use Rattle.std.proofs.Common.{append-nil, subst}
use Rattle.ak_base.specs.Points.{IsHistory, last_ts_from}
use Rattle.ak_select.proofs.Chosen.{last_append, last_least, history_front, history_rest}
use Rattle.ak_select.specs.Costs.{crosses, splits, borders}
use Rattle.ak_select.specs.Stretches.{AreStretches}
use Rattle.ak_select.specs.declared.window.Window.{Window}

-- a border that runs between two times
cut : ℕ → ℕ → ℕ → ℕ
cut x a b = if nat_lt a x && nat_le x b then 1 else 0

cut_join : (x a b c d : ℕ) → a ≤ b → b ≤ c → c ≤ d → cut x a b + cut x c d ≤ cut x a d
unfolding cut
cut_join x a b c d h k l = grind (arith, nat_tests)

cut_most : (x a b : ℕ) → cut x a b ≤ 1
unfolding cut
cut_most x a b = grind (arith, nat_tests)

crosses_is : (x : ℕ) (p : Point) (ps : List Point) → crosses x (p ∷ ps) ≡ cut x p.ts (last_ts_from p.ts ps)
unfolding cut
crosses_is x p ps = refl

pub crosses_append : (x : ℕ) (ps qs : List Point) → IsHistory (ps ++ qs) → crosses x ps + crosses x qs ≤ crosses x (ps ++ qs)
crosses_append x [] qs h = omega arith
crosses_append x (p ∷ ps) [] h = omega (arith, ap (λ (rs : List Point). crosses x (p ∷ rs)) (append-nil ps))
crosses_append x (p ∷ ps) (q ∷ qs) h =
    let rest = history_rest p.ts ps (q ∷ qs) h.1 in
    let whole : last_ts_from p.ts (ps ++ q ∷ qs) ≡ last_ts_from q.ts qs = last_append p.ts ps (q ∷ qs) in
    let same : cut x p.ts (last_ts_from p.ts (ps ++ q ∷ qs)) ≡ cut x p.ts (last_ts_from q.ts qs) = ap (cut x p.ts) whole in
    omega (
      arith,
      crosses_is x p ps,
      crosses_is x q qs,
      crosses_is x p (ps ++ q ∷ qs),
      same,
      cut_join x p.ts (last_ts_from p.ts ps) q.ts (last_ts_from q.ts qs) (last_least p.ts ps (history_front p.ts ps (q ∷ qs) h.1)) rest.0 (last_least q.ts qs rest.1),
    )

pub crosses_most : (x : ℕ) (ps : List Point) → crosses x ps ≤ 1
crosses_most x [] = omega arith
crosses_most x (p ∷ ps) = omega (arith, crosses_is x p ps, cut_most x p.ts (last_ts_from p.ts ps))

-- where one border runs through a list and another through the next of a history, the first is the smaller one
cut_apart : (z y a b c d : ℕ) → b ≤ c → cut z a b ≡ 1 → cut y c d ≡ 1 → z < y
unfolding cut
cut_apart z y a b c d h one two = grind (arith, nat_tests)

pub crosses_apart : (z y : ℕ) (ps qs : List Point) → IsHistory (ps ++ qs) → crosses z ps ≡ 1 → crosses y qs ≡ 1 → z < y
crosses_apart z y [] qs h one two = absurd (omega (arith, one))
crosses_apart z y (p ∷ ps) [] h one two = absurd (omega (arith, two))
crosses_apart z y (p ∷ ps) (q ∷ qs) h one two =
    let rest = history_rest p.ts ps (q ∷ qs) h.1 in
    cut_apart z y p.ts (last_ts_from p.ts ps) q.ts (last_ts_from q.ts qs) rest.0 (sym (crosses_is z p ps) ∙ one) (sym (crosses_is y q qs) ∙ two)

splits_join : (low i j k : ℕ) → i ≤ j → j ≤ k → splits low i j + splits low j k ≤ splits low i k
splits_join low i j k h g = grind (arith, nat_tests)

splits_most : (low i j : ℕ) → splits low i j ≤ 1
splits_most low i j = grind (arith, nat_tests)

pub borders_join : (w : Window) (low leaves : ℕ) (stretch : ℕ → ℕ → List Point) → AreStretches low leaves stretch
    → (i j k : ℕ) → i ≤ j → j ≤ k → borders w low stretch i j + borders w low stretch j k ≤ borders w low stretch i k
borders_join w low leaves stretch are i j k h g =
    let same = are.joins i j k h g in
    let history : IsHistory (stretch i j ++ stretch j k) = subst IsHistory (sym same) (are.history i k) in
    omega (
      arith,
      crosses_append w.least (stretch i j) (stretch j k) history,
      crosses_append (suc w.most) (stretch i j) (stretch j k) history,
      ap (crosses w.least) same,
      ap (crosses (suc w.most)) same,
      splits_join low i j k h g,
    )

pub borders_most : (w : Window) (low : ℕ) (stretch : ℕ → ℕ → List Point) (i j : ℕ) → borders w low stretch i j ≤ 3
borders_most w low stretch i j = omega (arith, crosses_most w.least (stretch i j), crosses_most (suc w.most) (stretch i j), splits_most low i j)

-- Nodes over which the path to a time goes.
use Rattle.std.proofs.Common.{◌≡◌, ℕ, ◌+◌, ◌<◌, ◌≤◌, List, sym, ap, subst, arith}
use Rattle.ak_base.specs.declared.point.Point.{Point}
use Rattle.ak_base.specs.Points.{IsHistory}
use Rattle.ak_select.proofs.Crossed.{crosses_append, crosses_most, crosses_apart}
use Rattle.ak_select.specs.Costs.{crosses, path}
use Rattle.ak_select.specs.Stretches.{AreStretches}

pub path_most : (z : ℕ) (stretch : ℕ → ℕ → List Point) (i j : ℕ) → path z stretch i j ≤ 1
path_most z stretch i j = crosses_most z (stretch i j)

-- the path to a time goes over no more of the parts than over the whole
pub path_join : (z low leaves : ℕ) (stretch : ℕ → ℕ → List Point) → AreStretches low leaves stretch
    → (i j k : ℕ) → i ≤ j → j ≤ k → path z stretch i j + path z stretch j k ≤ path z stretch i k
path_join z low leaves stretch are i j k h g =
    let same = are.joins i j k h g in
    omega (arith, crosses_append z (stretch i j) (stretch j k) (subst IsHistory (sym same) (are.history i k)), ap (crosses z) same)

-- where paths to two times go over neighbouring stretches, the first time is the smaller one
pub path_apart : (z y low leaves : ℕ) (stretch : ℕ → ℕ → List Point) → AreStretches low leaves stretch
    → (i j k : ℕ) → i ≤ j → j ≤ k → path z stretch i j ≡ 1 → path y stretch j k ≡ 1 → z < y
path_apart z y low leaves stretch are i j k h g one two =
    crosses_apart z y (stretch i j) (stretch j k) (subst IsHistory (sym (are.joins i j k h g)) (are.history i k)) one two

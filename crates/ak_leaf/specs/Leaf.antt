-- A leaf and its block.
use Rattle.std.specs.Prelude.{◌≡◌, ℕ, ◌-◌, ◌≤◌, List, ◌++◌, length, replicate}
use Rattle.std.specs.List.{AllByRecursion}
use Rattle.ak_base.specs.Points.{IsPoint, IsHistory}
use Rattle.ak_base.specs.declared.point.Point.{Point}
use Rattle.ak_bytes.specs.Head.{IsHead, head_bytes}
use Rattle.ak_bytes.specs.declared.head.Head.{Head}
use Rattle.ak_leaf.specs.Spelling.{start, after_all, spelling, leaf_size}
use Rattle.ak_leaf.specs.declared.point.Before.{Before}

-- The head is one of a leaf with these points.
pub record IsHeadOf (h : Head) (ps : List Point) : Type 0 where
  pub head : IsHead h
  pub kind : h.kind ≡ 1
  pub count : h.count ≡ length ps
  pub bytes : h.length ≡ leaf_size ps

-- The block spells a leaf with this head and these points: the head, the spelling of the points, which are a history,
-- and zeros to the end.
pub record SpellsLeaf (block : List ℕ) (h : Head) (ps : List Point) : Type 0 where
  pub head : IsHeadOf h ps
  pub history : IsHistory ps
  pub each : AllByRecursion IsPoint ps
  pub spelled : block ≡ head_bytes h ++ spelling ps ++ replicate (4032 - leaf_size ps) 0

-- what a buffer keeps beside its points
pub record Keeps (ps : List Point) (size : ℕ) (last : Before) : Type 0 where
  pub bytes : size ≡ leaf_size ps
  pub last_is : last ≡ after_all start ps
  pub history : IsHistory ps
  pub each : AllByRecursion IsPoint ps
  pub few : length ps ≤ 2016

-- The points of the first closed leaves of a series.
use Rattle.std.proofs.Common.{◌≡◌, ◌∙◌, List, ◌++◌, ap, append_assoc}
use Rattle.std.proofs.lemmas.Grind.{flat_map-append}
use Rattle.ak_base.specs.declared.point.Point.{Point}
use Rattle.ak_world.specs.Leaves.{Leaf, Series, points_of, accepted_points}

-- the points of the first closed leaves are a prefix of those that were accepted
pub front_points : (s : Series) (had later : List Leaf) → s.closed ≡ had ++ later → accepted_points s ≡ points_of had ++ (points_of later ++ s.written)
front_points s had later closed =
    ap (λ (leaves : List Leaf). points_of leaves ++ s.written) closed
    ∙ ap (λ (ps : List Point). ps ++ s.written) (flat_map-append (λ (leaf : Leaf). leaf.points) had later)
    ∙ append_assoc (points_of had) (points_of later) s.written

-- Points of a list, and lists merged by time.
use Rattle.std.specs.Prelude.{◌≡◌, ℕ, ◌<◌, ◌≤◌, ◌⊎◌, List, [], ◌∷◌}
use Rattle.ak_base.specs.declared.point.Point.{Point}

-- one of the points
abbrev pub AnyByRecursion : (Point → Type 0) → List Point → Type 0
AnyByRecursion P [] = ⊥
AnyByRecursion P (p ∷ ps) = P p ⊎ AnyByRecursion P ps

-- the first of the points, if there is one, isn't before the time
abbrev pub StartsFrom : ℕ → List Point → Type 0
StartsFrom t [] = Unit {0}
StartsFrom t (p ∷ ps) = t ≤ p.ts

-- the first of the points, if there is one, is after the time
abbrev pub StartsAfter : ℕ → List Point → Type 0
StartsAfter t [] = Unit {0}
StartsAfter t (p ∷ ps) = t < p.ts

-- the first list is the other two merged by time, ties to the first of them
abbrev pub IsMerge : List Point → List Point → List Point → Type 0
IsMerge [] ps qs = (ps ≡ []) × (qs ≡ [])
IsMerge (r ∷ rs) ps qs =
    ((left : List Point) × (ps ≡ r ∷ left) × StartsFrom r.ts qs × IsMerge rs left qs)
    ⊎ ((left : List Point) × (qs ≡ r ∷ left) × StartsAfter r.ts ps × IsMerge rs ps left)

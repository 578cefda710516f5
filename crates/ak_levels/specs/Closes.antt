-- What the close of a leaf makes of what waits.
use Rattle.std.specs.Prelude.{ℕ, zero, suc, ◌+◌, ◌-◌, ◌^◌, List, [], ◌∷◌, ◌++◌}
use Rattle.ak_base.specs.declared.point.Addr.{Addr}
use Rattle.ak_base.specs.declared.point.Point.{Point}
use Rattle.ak_inner.specs.declared.reference.Ref.{Ref}
use Rattle.ak_levels.specs.Carries.{carry_of}
use Rattle.ak_levels.specs.Joins.{joined_refs}
use Rattle.ak_levels.specs.Pending.{Lists, pending_at, with_pending}
use Rattle.ak_summary.specs.Folds.{summary_of}

-- the reference to a leaf at an address with these points
abbrev pub leaf_ref : ℕ → List Point → Ref
leaf_ref a ps = record { addr = record { 0 = a }; first_leaf = record { 0 = a }; summary = summary_of ps }

-- the first leaf of the first of them; none where there are none
abbrev pub first_leaf_of : List Ref → Addr
first_leaf_of [] = record { 0 = 2 ^ 64 - 1 }
first_leaf_of (r ∷ rs) = r.first_leaf

-- the reference to a node at an address that has these references
abbrev pub node_ref : ℕ → List Ref → Ref
node_ref a rs = record { addr = record { 0 = a }; first_leaf = first_leaf_of rs; summary = joined_refs rs }

-- The reference that comes to a level as a leaf is closed: to the leaf, and above it to the node that takes what waits on the
-- level below together with the reference that came there. Each node stands one address behind that of the level below.
abbrev pub raised : Lists → Ref → ℕ → Ref
raised v leaf zero = leaf
raised v leaf (suc k) = node_ref ((raised v leaf k).addr.0 + 1) (pending_at v k ++ raised v leaf k ∷ [])

-- the references of the node above a level
abbrev pub taken : Lists → Ref → ℕ → List Ref
taken v leaf k = pending_at v k ++ raised v leaf k ∷ []

-- nothing waits on so many levels from 0 on
abbrev pub emptied : Lists → ℕ → Lists
emptied v zero = v
emptied v (suc k) = with_pending (emptied v k) k []

-- What waits once the leaf of this number is closed: nothing on the levels that it fills, and one reference more on the next.
abbrev pub closed_lists : Lists → ℕ → Ref → Lists
closed_lists v m leaf = with_pending (emptied v (carry_of m)) (carry_of m) (taken v leaf (carry_of m))

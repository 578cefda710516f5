-- The live leaves under what waits.
use Rattle.std.specs.Prelude.{ℕ, zero, suc, ◌≡◌, ◌⊎◌, List, [], ◌∷◌, ◌++◌, map}
use Rattle.ak_forest.specs.Tree.{Node, Reference}
use Rattle.ak_image.specs.Blocks.{Seen}
use Rattle.ak_image.specs.Nodes.{IsNodeAt}
use Rattle.ak_image.specs.Planted.{waiting_of}
use Rattle.ak_levels.specs.Pending.{Lists}
use Rattle.ak_volumes.specs.Ordinals.{Ordinals, IsLive}
use Rattle.ak_world.specs.Leaves.{Leaf}

-- what stands under each of these references, one behind another
abbrev pub AllUnder : (ℕ → List ℕ → Type 0) → List Reference → List ℕ → Type 0
AllUnder P [] xs = xs ≡ []
AllUnder P (r ∷ rs) xs = (front : List ℕ) × (rest : List ℕ) × (xs ≡ front ++ rest) × P r.child front × AllUnder P rs rest

-- The addresses of the live leaves under the node of a level to which a link leads. There are none where it isn't live.
abbrev pub AreUnder : Seen → Ordinals → ℕ → ℕ → List ℕ → Type 0
AreUnder seen o zero at xs = (IsLive o at × (xs ≡ at ∷ [])) ⊎ ((¬ IsLive o at) × (xs ≡ []))
AreUnder seen o (suc k) at xs = (IsLive o at × ((node : Node) × IsNodeAt seen at node × (node.level ≡ suc k) × AllUnder (AreUnder seen o k) node.references xs))
    ⊎ ((¬ IsLive o at) × (xs ≡ []))

-- those under all that waits below a level, from the highest level down
abbrev pub AreGathered : Seen → Ordinals → Lists → ℕ → List ℕ → Type 0
AreGathered seen o v zero xs = xs ≡ []
AreGathered seen o v (suc k) xs = (front : List ℕ) × (rest : List ℕ) × (xs ≡ front ++ rest) × AllUnder (AreUnder seen o k) (waiting_of v k) front × AreGathered seen o v k rest

-- of each series they are the leaves that are kept
abbrev pub AreAllGathered : Seen → Ordinals → List (List Leaf) → List Lists → Type 0
AreAllGathered seen o [] levels = levels ≡ []
AreAllGathered seen o (leaves ∷ kept) [] = ⊥
AreAllGathered seen o (leaves ∷ kept) (v ∷ levels) = AreGathered seen o v 11 (map (λ (leaf : Leaf). leaf.address) leaves) × AreAllGathered seen o kept levels

-- The chains of the used frames and of the free ones.
use Rattle.std.specs.Prelude.{◌≡◌, ◌≢◌, ℕ, ◌<◌, ◌≤◌, ◌⊎◌, List, [], ◌∷◌, ◌++◌, length}
use Rattle.ak_pool.specs.Links.{none, older_at, newer_at, first_of, last_of, AreOlder, AreNewer, AreDistinct}
use Rattle.ak_pool.specs.declared.links.Chains.{Chains}

-- From `first` along `older` each frame of `order` is met once, in this order, and `last` is the last of them; `newer` leads back. From `free` along `older` each frame of `vacant` is met once. No frame is in two of the three lists.
pub record AreChains (c : Chains) (loose order vacant : List ℕ) : Type 0 where
  pub first : c.first ≡ first_of order
  pub last : c.last ≡ last_of none order
  pub free : c.free ≡ first_of vacant
  pub older : AreOlder c.links.items order
  pub newer : AreNewer c.links.items none order
  pub chained : AreOlder c.links.items vacant
  pub distinct : AreDistinct (length c.links.items) (loose ++ order ++ vacant)
  pub few : length c.links.items ≤ none

-- the frame is one of the used ones
pub record IsInOrder (c : Chains) (frame : ℕ) : Type 0 where
  pub before : List ℕ
  pub after : List ℕ
  pub vacant : List ℕ
  pub chains : AreChains c [] (before ++ frame ∷ after) vacant

-- the frame is in neither chain
pub record IsLoose (c : Chains) (frame : ℕ) : Type 0 where
  pub order : List ℕ
  pub vacant : List ℕ
  pub chains : AreChains c (frame ∷ []) order vacant

-- a frame's number, or that of none
abbrev pub IsName : ℕ → ℕ → Type 0
IsName count frame = (frame ≡ none) ⊎ (frame < count)

-- d is c, but that the two frames are neighbours
pub record AreJoined (c d : Chains) (newer older : ℕ) : Type 0 where
  pub each : length d.links.items ≡ length c.links.items
  pub older_is : newer < length c.links.items → older_at d.links.items newer ≡ older
  pub newer_is : older < length c.links.items → newer_at d.links.items older ≡ newer
  pub older_stays : (g : ℕ) → g ≢ newer → older_at d.links.items g ≡ older_at c.links.items g
  pub newer_stays : (g : ℕ) → g ≢ older → newer_at d.links.items g ≡ newer_at c.links.items g
  pub first_is : newer ≡ none → d.first ≡ older
  pub first_stays : newer ≢ none → d.first ≡ c.first
  pub last_is : older ≡ none → d.last ≡ newer
  pub last_stays : older ≢ none → d.last ≡ c.last
  pub free : d.free ≡ c.free

-- The frame has left the order, and the others stay in theirs.
abbrev pub IsDetached : Chains → Chains → ℕ → Type 0
IsDetached c d frame = (a b vacant : List ℕ) → AreChains c [] (a ++ frame ∷ b) vacant → AreChains d (frame ∷ []) (a ++ b) vacant

-- The loose frame comes before the used ones.
abbrev pub IsPutFirst : Chains → Chains → ℕ → Type 0
IsPutFirst c d frame = (order vacant : List ℕ) → AreChains c (frame ∷ []) order vacant → AreChains d [] (frame ∷ order) vacant

-- The loose frame comes before the free ones.
abbrev pub IsPutFree : Chains → Chains → ℕ → Type 0
IsPutFree c d frame = (order vacant : List ℕ) → AreChains c (frame ∷ []) order vacant → AreChains d [] order (frame ∷ vacant)

-- The first of the free frames is loose.
abbrev pub IsTakenFree : Chains → Chains → ℕ → Type 0
IsTakenFree c d frame = (order vacant : List ℕ) → AreChains c [] order vacant → (rest : List ℕ) × (vacant ≡ frame ∷ rest) × AreChains d (frame ∷ []) order rest

-- No frame is free.
abbrev pub HasNoneFree : Chains → Type 0
HasNoneFree c = (order vacant : List ℕ) → AreChains c [] order vacant → vacant ≡ []

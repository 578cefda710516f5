-- The links of frames, and the lists of frames that they make.
use Rattle.std.specs.Prelude.{◌≡◌, ◌≢◌, ℕ, zero, suc, ◌<◌, ◌==◌, List, [], ◌∷◌, get_or, if◌then◌else◌}
use Rattle.std.specs.List.{AllByRecursion}
use Rattle.ak_pool.specs.declared.links.Link.{Link}

-- the greatest u32, in place of the number of a frame where there is none
abbrev pub none : ℕ
none = 4294967295

abbrev pub link : ℕ → ℕ → Link
link newer older = record { newer = newer; older = older }

-- the neighbours of the frame with this number
abbrev pub older_at : List Link → ℕ → ℕ
older_at links frame = (get_or links frame (link none none)).older

abbrev pub newer_at : List Link → ℕ → ℕ
newer_at links frame = (get_or links frame (link none none)).newer

-- the first frame of a list
abbrev pub first_of : List ℕ → ℕ
first_of [] = none
first_of (f ∷ fs) = f

-- the last frame of a list, or this one where the list is empty
abbrev pub last_of : ℕ → List ℕ → ℕ
last_of before [] = before
last_of before (f ∷ fs) = last_of f fs

-- `older` of each frame of a list is the frame after it
abbrev pub AreOlder : List Link → List ℕ → Type 0
AreOlder links [] = Unit {0}
AreOlder links (f ∷ fs) = (older_at links f ≡ first_of fs) × AreOlder links fs

-- `newer` of each frame of a list is the frame before it, and of the first it is `before`
abbrev pub AreNewer : List Link → ℕ → List ℕ → Type 0
AreNewer links before [] = Unit {0}
AreNewer links before (f ∷ fs) = (newer_at links f ≡ before) × AreNewer links f fs

-- the frames that are met from `at` along `older`, as many as `most`
abbrev pub chain : ℕ → List Link → ℕ → List ℕ
chain zero links at = []
chain (suc most) links at = if at == none then [] else at ∷ chain most links (older_at links at)

-- no frame of the list is this one
abbrev pub Without : ℕ → List ℕ → Type 0
Without frame fs = AllByRecursion (λ g. g ≢ frame) fs

-- The numbers are below the count, and no two are the same.
abbrev pub AreDistinct : ℕ → List ℕ → Type 0
AreDistinct count [] = Unit {0}
AreDistinct count (f ∷ fs) = (f < count) × Without f fs × AreDistinct count fs

-- What closed leaves, points and flushes make of a store.
use Rattle.std.specs.Prelude.{ℕ, zero, suc, ◌+◌, ◌-◌, ◌^◌, ◌==◌, nat_le, if◌then◌else◌, Bool, ◌&&◌, List, [], ◌∷◌, length, Option, None}
use Rattle.ak_base.specs.declared.point.Point.{Point}
use Rattle.ak_levels.specs.Carries.{carry_of}
use Rattle.ak_volumes.specs.Ordinals.{newest, newest_fill, address, filled, switched}
use Rattle.ak_world.specs.Leaves.{Series, is_fit, with_point, closed_at}
use Rattle.ak_world.specs.Worlds.{World, limits_of, worn_world, after_view}

-- ---- Series by number

abbrev pub changed : List Series → ℕ → (Series → Series) → List Series
changed [] n f = []
changed (s ∷ ss) zero f = f s ∷ ss
changed (s ∷ ss) (suc n) f = s ∷ changed ss n f

abbrev pub written_in : List Series → ℕ → List Point
written_in [] n = []
written_in (s ∷ ss) zero = s.written
written_in (s ∷ ss) (suc n) = written_in ss n

abbrev pub leaves_in : List Series → ℕ → ℕ
leaves_in [] n = 0
leaves_in (s ∷ ss) zero = s.leaves
leaves_in (s ∷ ss) (suc n) = leaves_in ss n

abbrev pub last_at : List Series → ℕ → Option ℕ
last_at [] n = None
last_at (s ∷ ss) zero = s.last
last_at (s ∷ ss) (suc n) = last_at ss n

abbrev pub is_empty : List Point → Bool
is_empty ps = length ps == 0

-- the numbers but this one
abbrev pub but : ℕ → List ℕ → List ℕ
but n [] = []
but n (x ∷ xs) = if x == n then but n xs else x ∷ but n xs

-- ---- Placing

-- A new ordinal begins, in the place of the oldest where each volume holds a live one, and a view is taken before anything
-- stands in it. No ordinal follows the greatest one: the store is worn.
abbrev pub switch : World → World
switch w = if newest w.ordinals == 2 ^ 32 - 1 then worn_world w else after_view (record w { ordinals = switched w.ordinals })

-- there is room for so many blocks
abbrev pub with_room : World → ℕ → World
with_room w blocks = if nat_le (newest_fill w.ordinals + blocks) w.ordinals.blocks then w else switch w

-- ---- Closing

-- the group of a leaf is entered
abbrev pub entered : World → ℕ → ℕ → World
entered w n blocks = if w.worn then w else record w {
  ordinals = filled w.ordinals blocks;
  since = w.since + 1;
  recent = but n w.recent;
  series = changed w.series n (λ s. closed_at s (address (newest w.ordinals) (newest_fill w.ordinals)));
}

-- the blocks of the group of the open leaf: the leaf and its inner nodes
abbrev pub group_of : World → ℕ → ℕ
group_of w n = 1 + carry_of (leaves_in w.series n)

-- the open leaf of a series is closed
abbrev pub closed : World → ℕ → World
closed w n = entered (with_room w (group_of w n)) n (group_of w n)

-- ---- Points

-- unless the store is worn
abbrev pub unless_worn : World → (World → World) → World
unless_worn w f = if w.worn then w else f w

-- the open leaf is closed where it has no room for the point
abbrev pub made_fit : ℕ → Point → World → World
made_fit n p w = if is_fit (written_in w.series n) p then w else closed w n

-- the number in the last place
abbrev pub oldest : List ℕ → ℕ
oldest [] = 0
oldest (n ∷ []) = n
oldest (n ∷ m ∷ ns) = oldest (m ∷ ns)

-- the open leaf that was written least recently is closed where the series has none and all frames are used
abbrev pub made_room : ℕ → World → World
made_room n w = if is_empty (written_in w.series n) && nat_le (limits_of w).pool (length w.recent) then closed w (oldest w.recent) else w

-- the point is added, and its series is the one written last
abbrev pub added : ℕ → Point → World → World
added n p w = record w { series = changed w.series n (λ s. with_point s p); recent = n ∷ but n w.recent }

-- a view is taken where as many leaves were closed since the last
abbrev pub in_time : World → World
in_time w = if nat_le (limits_of w).every w.since then after_view w else w

-- a point of a series is accepted
abbrev pub accepted : World → ℕ → Point → World
accepted w n p = unless_worn (unless_worn (unless_worn (unless_worn w (made_fit n p)) (made_room n)) (added n p)) in_time

-- ---- Flushes

-- the open leaves of so many series from a number on are closed, by rising number
abbrev pub closed_from : ℕ → ℕ → World → World
closed_from zero n w = w
closed_from (suc count) n w = closed_from count (suc n) (if is_empty (written_in w.series n) then w else unless_worn w (λ v. closed v n))

-- all open leaves are closed, and a view is taken
abbrev pub flushed : World → World
flushed w = unless_worn (closed_from (length w.series) 0 w) after_view

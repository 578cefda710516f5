-- Worlds computed: two volumes of 16 blocks, slots of one block and a pool of 4.
use Rattle.std.specs.Prelude.{◌≡◌, ◌+◌, ◌-◌, ◌*◌, ◌^◌, ℕ, zero, suc, pos, List, [], ◌∷◌, map, replicate, Some, None, true, refl}
use Rattle.ak_base.specs.declared.limits.Limits.{Limits}
use Rattle.ak_base.specs.declared.point.Point.{Point}
use Rattle.ak_base.specs.declared.refusal.Refusal.TheVariants.{Late, MetaFull}
use Rattle.ak_bytes.specs.Uvar.{uvar, groups}
use Rattle.ak_levels.specs.Carries.{carry_of}
use Rattle.ak_meta.specs.Leaves.{address_at}
use Rattle.ak_meta.specs.declared.meta.SeriesMeta.{SeriesMeta}
use Rattle.ak_world.specs.Leaves.{Leaf, Series}
use Rattle.ak_world.specs.Views.{first_view, none, address_of}
use Rattle.ak_world.specs.Worlds.{World, world_of}
use Rattle.ak_world.specs.Steps.{flushed}
use Rattle.ak_world.specs.Puts.{after_points, refusal_of}

abbrev limits : Limits
limits = record { volumes = 2; blocks = 16; slot = 1; pool = 4; every = 1000; scale = 0 }

abbrev cpu : List ℕ
cpu = 99 ∷ 112 ∷ 117 ∷ []

abbrev at : ℕ → ℕ → Point
at ts value = record { ts = ts; value = pos value }

abbrev leaf : ℕ → ℕ → List Point → Leaf
leaf number address points = record { number = number; address = address; points = points }

abbrev start : World
start = world_of (first_view limits)

-- a point of the series at a time, with this time as its value, and a flush
abbrev put : World → ℕ → World
put w ts = flushed (after_points w (cpu ∷ []) ts (pos ts ∷ []))

-- ---- One series

one_series : (put start 1).series ≡ record { name = cpu; closed = leaf 0 0 (at 1 1 ∷ []) ∷ []; written = []; leaves = 1; last = Some 1 } ∷ []
unfolding carry_of uvar groups
one_series = refl

one_number : (put start 1).last.number ≡ 2
unfolding carry_of uvar groups
one_number = refl

one_kept : (put start 1).last.kept ≡ (leaf 0 0 (at 1 1 ∷ []) ∷ []) ∷ []
unfolding carry_of uvar groups
one_kept = refl

-- the record has its address at level 0, and none above
one_told : (put start 1).last.content.series ≡ record { name = cpu; leaves = 1; last = 1; rescue = address_at 0 ∷ replicate 10 (address_at none) } ∷ []
unfolding carry_of uvar groups
one_told = refl

one_fills : (put start 1).ordinals.fills ≡ 1 ∷ []
unfolding carry_of uvar groups
one_fills = refl

two_kept : (put (put start 1) 2).last.kept ≡ (leaf 0 0 (at 1 1 ∷ []) ∷ leaf 1 1 (at 2 2 ∷ []) ∷ []) ∷ []
unfolding carry_of uvar groups
two_kept = refl

two_number : (put (put start 1) 2).last.number ≡ 3
unfolding carry_of uvar groups
two_number = refl

-- ---- Ordinals

-- so many leaves of one point
puts : ℕ → World
puts zero = start
puts (suc n) = put (puts n) (suc n)

-- the ordinal 0 is full
full_fills : (puts 16).ordinals.fills ≡ 16 ∷ []
unfolding carry_of uvar groups puts
full_fills = refl

full_number : (puts 16).last.number ≡ 17
unfolding carry_of uvar groups puts
full_number = refl

-- the next leaf begins the ordinal 1: a view is taken before it and one behind it
next_fills : (puts 17).ordinals.fills ≡ 16 ∷ 1 ∷ []
unfolding carry_of uvar groups puts
next_fills = refl

next_number : (puts 17).last.number ≡ 19
unfolding carry_of uvar groups puts
next_number = refl

next_address : map (λ (s : Series). address_of s.closed 16) (puts 17).series ≡ 2 ^ 32 ∷ []
unfolding carry_of uvar groups puts
next_address = refl

-- Leaf 31 is in one group with its inner node. They don't fit behind 15 leaves, and both volumes are in use: the ordinal 2 takes
-- the place of the ordinal 0, whose leaves are live no more.
third_ordinals : (puts 32).ordinals ≡ record { volumes = 2; blocks = 16; lo = 1; fills = 15 ∷ 2 ∷ [] }
unfolding carry_of uvar groups puts
third_ordinals = refl

-- a view is taken before the group and one behind it
third_number : (puts 32).last.number ≡ 35
unfolding carry_of uvar groups puts
third_number = refl

third_kept : map (λ (leaves : List Leaf). map (λ (l : Leaf). l.number) leaves) (puts 32).last.kept ≡ (16 ∷ 17 ∷ 18 ∷ 19 ∷ 20 ∷ 21 ∷ 22 ∷ 23 ∷ 24 ∷ 25 ∷ 26 ∷ 27 ∷ 28 ∷ 29 ∷ 30 ∷ 31 ∷ []) ∷ []
unfolding carry_of uvar groups puts
third_kept = refl

-- the rescue addresses of the first two levels are those of the group
third_told : map (λ (s : SeriesMeta). s.rescue) (puts 32).last.content.series ≡ (address_at (2 * 2 ^ 32) ∷ address_at (2 * 2 ^ 32 + 1) ∷ replicate 9 (address_at none)) ∷ []
unfolding carry_of uvar groups puts
third_told = refl

-- no ordinal follows the greatest one
last_worn : (flushed (after_points (record start { ordinals = record { volumes = 2; blocks = 16; lo = 2 ^ 32 - 2; fills = 16 ∷ 16 ∷ [] } }) (cpu ∷ []) 1 (pos 1 ∷ []))).worn ≡ true
unfolding carry_of uvar groups
last_worn = refl

-- ---- Pools

-- a point of each of so many series
series : ℕ → World
series zero = start
series (suc n) = after_points (series n) ((n ∷ []) ∷ []) 7 (pos 0 ∷ [])

-- the fifth one's open leaf takes the place of the first one's
five_recent : (series 5).recent ≡ 4 ∷ 3 ∷ 2 ∷ 1 ∷ []
unfolding carry_of uvar groups series
five_recent = refl

five_closed : map (λ (s : Series). s.closed) (series 5).series ≡ (leaf 0 0 (at 7 0 ∷ []) ∷ []) ∷ [] ∷ [] ∷ [] ∷ [] ∷ []
unfolding carry_of uvar groups series
five_closed = refl

-- no view is due yet
five_number : (series 5).last.number ≡ 1
unfolding carry_of uvar groups series
five_number = refl

-- where each closed leaf makes a view due, it is taken with the point that came behind it
due_number : (after_points (after_points (world_of (first_view (record limits { pool = 1; every = 1 }))) ((0 ∷ []) ∷ []) 7 (pos 0 ∷ [])) ((1 ∷ []) ∷ []) 7 (pos 0 ∷ [])).last.number ≡ 2
unfolding carry_of uvar groups
due_number = refl

-- ---- Points and flushes

-- two points of one time, of two series
two_written : map (λ (s : Series). s.written) (after_points start ((1 ∷ []) ∷ (2 ∷ []) ∷ []) 7 (pos 0 ∷ pos 1 ∷ [])).series ≡ (at 7 0 ∷ []) ∷ (at 7 1 ∷ []) ∷ []
unfolding carry_of uvar groups
two_written = refl

-- and of one series
both_written : map (λ (s : Series). s.written) (after_points start (cpu ∷ cpu ∷ []) 7 (pos 0 ∷ pos 1 ∷ [])).series ≡ (at 7 0 ∷ at 7 1 ∷ []) ∷ []
unfolding carry_of uvar groups
both_written = refl

-- three series with open leaves, of which the second was written last, and the first before it
abbrev three : World
three = after_points (after_points (series 3) ((0 ∷ []) ∷ []) 8 (pos 1 ∷ [])) ((1 ∷ []) ∷ []) 9 (pos 2 ∷ [])

three_recent : three.recent ≡ 1 ∷ 0 ∷ 2 ∷ []
unfolding carry_of uvar groups series
three_recent = refl

-- a flush closes by rising number
three_closed : map (λ (s : Series). s.closed) (flushed three).series ≡
    (leaf 0 0 (at 7 0 ∷ at 8 1 ∷ []) ∷ []) ∷ (leaf 0 1 (at 7 0 ∷ at 9 2 ∷ []) ∷ []) ∷ (leaf 0 2 (at 7 0 ∷ []) ∷ []) ∷ []
unfolding carry_of uvar groups series
three_closed = refl

-- ---- Refusals

late : refusal_of (put start 5) (cpu ∷ []) 4 ≡ Some (Late 5)
unfolding carry_of uvar groups
late = refl

equal : refusal_of (put start 5) (cpu ∷ []) 5 ≡ None
unfolding carry_of uvar groups
equal = refl

-- a name of 4000 bytes: its record is 106 bytes longer than the name
long : refusal_of start (replicate 4000 97 ∷ []) 1 ≡ Some (MetaFull 4170 4096)
unfolding carry_of uvar groups
long = refl

-- What puts make of a store, and why they are refused.
use Rattle.std.specs.Prelude.{ℕ, ℤ, zero, suc, ◌+◌, ◌-◌, ◌*◌, ◌^◌, min, nat_lt, if◌then◌else◌, List, [], ◌∷◌, Option, Some, None, is_some}
use Rattle.std.specs.Option.{option_map}
use Rattle.std.specs.Str.{bytes_eq}
use Rattle.ak_base.specs.declared.limits.Limits.{Limits}
use Rattle.ak_base.specs.declared.refusal.Refusal.{Refusal}
use Rattle.ak_base.specs.declared.refusal.Refusal.TheVariants.{Late, MetaFull}
use Rattle.ak_meta.specs.Contents.{size_of}
use Rattle.ak_world.specs.Leaves.{Series, new_series}
use Rattle.ak_world.specs.Steps.{accepted}
use Rattle.ak_world.specs.Worlds.{World, limits_of, content_now}

-- ---- Series by name

-- the series, and one of this name behind them where none has it
abbrev pub with_name : List Series → List ℕ → List Series
with_name [] name = new_series name ∷ []
with_name (s ∷ ss) name = if bytes_eq s.name name then s ∷ ss else s ∷ with_name ss name

abbrev pub with_names : List Series → List (List ℕ) → List Series
with_names ss [] = ss
with_names ss (name ∷ names) = with_names (with_name ss name) names

-- the number of the series of this name
abbrev pub number_in : List Series → List ℕ → ℕ
number_in [] name = zero
number_in (s ∷ ss) name = if bytes_eq s.name name then zero else suc (number_in ss name)

-- the last timestamp of the series of this name
abbrev pub last_of : List Series → List ℕ → Option ℕ
last_of [] name = None
last_of (s ∷ ss) name = if bytes_eq s.name name then s.last else last_of ss name

-- ---- Refusals

-- the last timestamp, where this one is before it
abbrev pub late_behind : Option ℕ → ℕ → Option ℕ
late_behind None ts = None
late_behind (Some last) ts = if nat_lt ts last then Some last else None

abbrev pub first_of : Option ℕ → Option ℕ → Option ℕ
first_of (Some last) others = Some last
first_of None others = others

-- the last timestamp of the first of these names that is late
abbrev pub late_of : List Series → List (List ℕ) → ℕ → Option ℕ
late_of ss [] ts = None
late_of ss (name ∷ names) ts = first_of (late_behind (last_of ss name) ts) (late_of ss names ts)

-- the bytes of a slot
abbrev pub room_of : Limits → ℕ
room_of limits = 4096 * limits.slot

-- the names are added in order
abbrev pub named : World → List (List ℕ) → World
named w names = record w { series = with_names w.series names }

-- the bytes of a slot that a record takes: 16, and its payload
abbrev pub need_of : World → ℕ
need_of w = 16 + size_of (content_now w)

-- Why points of one time are refused: with the unknown names the record would be longer than a slot, or, behind that, one
-- is late.
abbrev pub refusal_of : World → List (List ℕ) → ℕ → Option Refusal
refusal_of w names ts =
    if nat_lt (room_of (limits_of w)) (need_of (named w names))
    then Some (MetaFull (min (need_of (named w names)) (2 ^ 64 - 1)) (room_of (limits_of w)))
    else option_map Late (late_of w.series names ts)

-- ---- Points

-- each name's point is accepted, in order
abbrev pub all_accepted : World → List (List ℕ) → ℕ → List ℤ → World
all_accepted w [] ts vs = w
all_accepted w (name ∷ names) ts [] = w
all_accepted w (name ∷ names) ts (v ∷ vs) = all_accepted (accepted w (number_in w.series name) (record { ts = ts; value = v })) names ts vs

-- Refused points leave the store as it is. For others the unknown names are added first, and then all are accepted.
abbrev pub after_points : World → List (List ℕ) → ℕ → List ℤ → World
after_points w names ts vs = if is_some (refusal_of w names ts) then w else all_accepted (named w names) names ts vs

-- What a record says of a world, where a leaf is closed.
use Rattle.std.proofs.Common.{◌≡◌, ◌≢◌, ◌+◌, ◌^◌, ◌<◌, ◌≤◌, ◌∙◌, ℕ, zero, suc, Bool, true, false, if◌then◌else◌, nat_le, List, [], ◌∷◌, ◌++◌, length, map, refl, ap, ap₂, arith}
use Rattle.std.proofs.lemmas.Nat.{le-div}
use Rattle.std.proofs.lemmas.Bool.{le-leb}
use Rattle.ak_base.specs.Points.{last_ts_from}
use Rattle.ak_base.specs.declared.point.Point.{Point}
use Rattle.ak_meta.proofs.Behind.{series_of as meta}
use Rattle.ak_meta.specs.Contents.{content}
use Rattle.ak_meta.specs.Leaves.{with_leaf, with_leaf_at, closed_in, leaves_at}
use Rattle.ak_meta.specs.declared.meta.SeriesMeta.{SeriesMeta}
use Rattle.ak_volumes.specs.Ordinals.{Ordinals, newest, newest_fill, address, filled, ordinal_of}
use Rattle.ak_world.specs.Leaves.{Leaf, Series, leaf_at, closed_at, leaves_from}
use Rattle.ak_world.specs.Steps.{but, changed, entered, group_of, leaves_in, written_in}
use Rattle.ak_world.specs.Valid.{IsWorld, IsSeriesOf, AreSeriesOf, unknown, kept_with}
use Rattle.ak_world.specs.Views.{last_time, known_of, all_known}
use Rattle.ak_world.specs.Worlds.{World, limits_of, content_now, kept_now}
use Rattle.ak_world.proofs.Rescues.{rescue_closed}

-- ---- One series

pub time_more : (before : ℕ) (leaves : List Leaf) (leaf : Leaf) → last_time before (leaves ++ leaf ∷ []) ≡ last_ts_from (last_time before leaves) leaf.points
time_more before [] leaf = refl
time_more before (l ∷ leaves) leaf = time_more (last_ts_from before l.points) leaves leaf

time_of_some : (a b : ℕ) (points : List Point) → points ≢ [] → last_ts_from a points ≡ last_ts_from b points
time_of_some a b [] some = absurd (some refl)
time_of_some a b (p ∷ points) some = refl

known_closed : (o : SeriesMeta) (s : Series) (a : ℕ) → IsSeriesOf o s → s.written ≢ [] → known_of o (closed_at s a) ≡ with_leaf (known_of o s) (last_ts_from 0 s.written) a
known_closed o s a is some =
    let last : last_time o.last (s.closed ++ leaf_at s a ∷ []) ≡ last_ts_from 0 s.written = time_more o.last s.closed (leaf_at s a) ∙ time_of_some (last_time o.last s.closed) 0 s.written some in
    ap₂ (meta s.name (s.leaves + 1)) last (rescue_closed o s is.first a is.numbers is.count is.most)

-- ---- All of them

all_closed : (opened : List SeriesMeta) (ss : List Series) (n a : ℕ) → AreSeriesOf opened ss → n < length ss → written_in ss n ≢ []
    → all_known opened (changed ss n (λ s. closed_at s a)) ≡ with_leaf_at (all_known opened ss) n (last_ts_from 0 (written_in ss n)) a
all_closed opened [] n a are within some = absurd (omega (arith, within))
all_closed [] (s ∷ ss) zero a are within some = ap (λ (m : SeriesMeta). m ∷ all_known [] ss) (known_closed (unknown s.name) s a are.0 some)
all_closed [] (s ∷ ss) (suc n) a are within some = ap (λ (all : List SeriesMeta). known_of (unknown s.name) s ∷ all) (all_closed [] ss n a are.1 (omega (arith, within)) some)
all_closed (o ∷ opened) (s ∷ ss) zero a are within some = ap (λ (m : SeriesMeta). m ∷ all_known opened ss) (known_closed o s a are.0 some)
all_closed (o ∷ opened) (s ∷ ss) (suc n) a are within some = ap (λ (all : List SeriesMeta). known_of o s ∷ all) (all_closed opened ss n a are.1 (omega (arith, within)) some)

pub leaves_known : (opened : List SeriesMeta) (ss : List Series) (n : ℕ) → n < length ss → leaves_at (all_known opened ss) n ≡ leaves_in ss n
leaves_known opened [] n within = absurd (omega (arith, within))
leaves_known [] (s ∷ ss) zero within = refl
leaves_known [] (s ∷ ss) (suc n) within = leaves_known [] ss n (omega (arith, within))
leaves_known (o ∷ opened) (s ∷ ss) zero within = refl
leaves_known (o ∷ opened) (s ∷ ss) (suc n) within = leaves_known opened ss n (omega (arith, within))

-- ---- The leaves that are live

chosen : (b : Bool) (leaf : Leaf) (some others : List Leaf) → (if b then leaf ∷ (some ++ others) else some ++ others) ≡ (if b then leaf ∷ some else some) ++ others
chosen true leaf some others = refl
chosen false leaf some others = refl

live_more : (lo : ℕ) (leaves : List Leaf) (leaf : Leaf) → lo ≤ ordinal_of leaf.address → leaves_from lo (leaves ++ leaf ∷ []) ≡ leaves_from lo leaves ++ leaf ∷ []
live_more lo [] leaf live = ap (λ (b : Bool). if b then leaf ∷ [] else []) (le-leb lo (ordinal_of leaf.address) live)
live_more lo (l ∷ leaves) leaf live =
    ap (λ (some : List Leaf). if nat_le lo (ordinal_of l.address) then l ∷ some else some) (live_more lo leaves leaf live)
    ∙ chosen (nat_le lo (ordinal_of l.address)) l (leaves_from lo leaves) (leaf ∷ [])

-- the leaves of each series that are live
abbrev pub live_in : ℕ → List Series → List (List Leaf)
live_in lo ss = map (λ (s : Series). leaves_from lo s.closed) ss

all_kept : (lo : ℕ) (ss : List Series) (n a : ℕ) → lo ≤ ordinal_of a → n < length ss
    → live_in lo (changed ss n (λ s. closed_at s a)) ≡ kept_with (live_in lo ss) n (record { number = leaves_in ss n; address = a; points = written_in ss n })
all_kept lo [] n a live within = absurd (omega (arith, within))
all_kept lo (s ∷ ss) zero a live within = ap (λ (leaves : List Leaf). leaves ∷ live_in lo ss) (live_more lo s.closed (leaf_at s a) live)
all_kept lo (s ∷ ss) (suc n) a live within = ap (λ (kept : List (List Leaf)). leaves_from lo s.closed ∷ kept) (all_kept lo ss n a live (omega (arith, within)))

newest_live : (o : Ordinals) → 0 < length o.fills → o.lo ≤ ordinal_of (address (newest o) (newest_fill o))
newest_live o some = le-div o.lo (address (newest o) (newest_fill o)) (2 ^ 32) (omega arith) (omega (arith, some))

-- ---- The world

-- a leaf is closed, and its group has so many blocks
abbrev pub after : World → ℕ → ℕ → World
after w n blocks = record w {
  ordinals = filled w.ordinals blocks;
  since = w.since + 1;
  recent = but n w.recent;
  series = changed w.series n (λ s. closed_at s (address (newest w.ordinals) (newest_fill w.ordinals)));
}

pub after_is : (w : World) (n blocks : ℕ) → w.worn ≡ false → entered w n blocks ≡ after w n blocks
after_is w n blocks fresh = ap (λ (b : Bool). if b then w else after w n blocks) fresh

pub content_closed : (w : World) (n : ℕ) → IsWorld w → w.worn ≡ false → n < length w.series → written_in w.series n ≢ []
    → content_now (entered w n (group_of w n)) ≡ closed_in (record (content_now w) { ordinals = filled w.ordinals (group_of w n) }) n (last_ts_from 0 (written_in w.series n)) (address (newest w.ordinals) (newest_fill w.ordinals))
content_closed w n is fresh within some =
    ap content_now (after_is w n (group_of w n) fresh)
    ∙ ap (content (limits_of w) (filled w.ordinals (group_of w n))) (all_closed w.opened.content.series w.series n (address (newest w.ordinals) (newest_fill w.ordinals)) is.series within some)

pub kept_closed : (w : World) (n : ℕ) → IsWorld w → w.worn ≡ false → n < length w.series
    → kept_now (entered w n (group_of w n)) ≡ kept_with (kept_now w) n (record { number = leaves_in w.series n; address = address (newest w.ordinals) (newest_fill w.ordinals); points = written_in w.series n })
kept_closed w n is fresh within =
    ap kept_now (after_is w n (group_of w n) fresh) ∙ all_kept w.ordinals.lo w.series n (address (newest w.ordinals) (newest_fill w.ordinals)) (newest_live w.ordinals is.lawful.some) within

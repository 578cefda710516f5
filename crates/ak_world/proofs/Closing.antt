-- Closed leaves, accepted points and flushes keep a world valid.
use Rattle.std.proofs.Common.{◌≡◌, ◌≢◌, ℕ, zero, suc, ◌+◌, ◌<◌, ◌≤◌, ◌∙◌, List, [], ◌∷◌, length, Option, Bool, true, false, refl, sym, ap, subst, arith}
use Rattle.std.proofs.lemmas.Bool.{and_parts, leb-true, le-leb, true≢false}
use Rattle.std.specs.List.{AllByRecursion}
use Rattle.std.specs.Prelude.{◌&&◌, nat_le, if◌then◌else◌, IfSome}
use Rattle.ak_base.specs.Points.{IsPoint}
use Rattle.ak_base.specs.declared.point.Point.{Point}
use Rattle.ak_leaf.proofs.Spellings.{spelling_most}
use Rattle.ak_leaf.specs.Spelling.{start, leaf_size}
use Rattle.ak_meta.proofs.Levels.{carry_most}
use Rattle.ak_volumes.specs.Ordinals.{newest, newest_fill, address}
use Rattle.ak_world.specs.Leaves.{Series, is_fit, closed_at}
use Rattle.ak_world.specs.Steps.{changed, written_in, leaves_in, last_at, is_empty, switch, with_room, group_of, closed, unless_worn, made_fit, oldest, made_room, added, in_time, accepted, closed_from, flushed}
use Rattle.ak_world.specs.Valid.{IsWorld}
use Rattle.ak_world.specs.Worlds.{World, limits_of, after_view}
use Rattle.ak_world.proofs.ContentsOfLeaves.{after, after_is}
use Rattle.ak_world.proofs.Valid.{IsOpen, HasRoom, one_world, either, length_changed, switch_room, enter_valid, view_valid, point_valid}

-- ---- Closing

-- a group fits in a new ordinal
room_for : (w : World) (n : ℕ) → IsWorld w → (with_room w (group_of w n)).worn ≡ false → HasRoom w (with_room w (group_of w n)) (group_of w n)
room_for w n is whole =
    one_world (λ (v : World). HasRoom w v (group_of w n)) (nat_le (newest_fill w.ordinals + group_of w n) w.ordinals.blocks) w (switch w)
    (λ fits _. record { valid = is; series = refl; fits = leb-true (newest_fill w.ordinals + group_of w n) w.ordinals.blocks fits })
    (λ _ whole. switch_room w (group_of w n) is (omega (arith, carry_most (leaves_in w.series n), is.blocks, is.rules_are.limits_are.blocks_least)) whole)
    whole

-- a world that is worn stays so
pub whole_before : (b : Bool) (u w : World) → u.worn ≡ b → (if b then u else w).worn ≡ false → u.worn ≡ false
whole_before true u w is whole = whole
whole_before false u w is whole = is

-- the open leaf of a series is closed, and the world is valid
record IsClosed (w v : World) (n : ℕ) : Type 0 where
  valid : IsWorld v
  place : ℕ
  series : v.series ≡ changed w.series n (λ s. closed_at s place)

close_is : (w : World) (n : ℕ) → IsWorld w → n < length w.series → written_in w.series n ≢ [] → (closed w n).worn ≡ false → IsClosed w (closed w n) n
close_is w n is within some whole =
    let blocks = group_of w n in
    let v : World = with_room w blocks in
    let fresh : v.worn ≡ false = whole_before v.worn v (after v n blocks) refl whole in
    let room : HasRoom w v blocks = room_for w n is fresh in
    let a = address (newest v.ordinals) (newest_fill v.ordinals) in
    record {
      valid =
          enter_valid v n blocks room.valid (subst (λ (ss : List Series). n < length ss) (sym room.series) within)
          (subst (λ (ss : List Series). written_in ss n ≢ []) (sym room.series) some) room.fits;
      place = a;
      series = ap (λ (u : World). u.series) (after_is v n blocks fresh) ∙ ap (λ (ss : List Series). changed ss n (λ s. closed_at s a)) room.series;
    }

pub close_valid : (w : World) (n : ℕ) → IsWorld w → n < length w.series → written_in w.series n ≢ [] → (closed w n).worn ≡ false → IsWorld (closed w n)
close_valid w n is within some whole = (close_is w n is within some whole).valid

-- ---- Points

last_closed : (ss : List Series) (m n a : ℕ) → last_at (changed ss m (λ s. closed_at s a)) n ≡ last_at ss n
last_closed [] m n a = refl
last_closed (s ∷ ss) zero zero a = refl
last_closed (s ∷ ss) zero (suc n) a = refl
last_closed (s ∷ ss) (suc m) zero a = refl
last_closed (s ∷ ss) (suc m) (suc n) a = last_closed ss m n a

-- a point of this series can be added
record IsReady (n : ℕ) (p : Point) (w : World) : Type 0 where
  valid : IsWorld w
  within : n < length w.series
  below : IfSome (last_at w.series n) (λ last. last ≤ p.ts)

-- also where a leaf is closed before
close_ready : (n : ℕ) (p : Point) (w : World) (m : ℕ) → IsReady n p w → m < length w.series → written_in w.series m ≢ [] → (closed w m).worn ≡ false → IsReady n p (closed w m)
close_ready n p w m ready within some whole =
    let done : IsClosed w (closed w m) m = close_is w m ready.valid within some whole in
    let ss : List Series = changed w.series m (λ s. closed_at s done.place) in
    let long : length ss ≡ length w.series = length_changed w.series m (λ s. closed_at s done.place) in
    let inside : n < length ss = omega (arith, long, ready.within) in
    let last : IfSome (last_at ss n) (λ last. last ≤ p.ts) = subst (λ (o : Option ℕ). IfSome o (λ last. last ≤ p.ts)) (sym (last_closed w.series m n done.place)) ready.below in
    record {
      valid = done.valid;
      within = subst (λ (ss : List Series). n < length ss) (sym done.series) inside;
      below = subst (λ (ss : List Series). IfSome (last_at ss n) (λ last. last ≤ p.ts)) (sym done.series) last;
    }

-- a step, unless the world is worn
step_of : (P : World → Type 0) (w : World) (f : World → World) → (w.worn ≡ false → (f w).worn ≡ false → P (f w)) → (unless_worn w f).worn ≡ false → P (unless_worn w f)
step_of P w f step whole = one_world P w.worn w (f w) (λ worn whole. absurd (true≢false (sym worn ∙ whole))) step whole

some_fit : (ps : List Point) (p : Point) → is_fit ps p ≡ false → ps ≢ []
some_fit ps p full empty =
    let one : is_fit [] p ≡ true = le-leb (leaf_size (p ∷ [])) 4032 (omega (arith, spelling_most start (p ∷ []))) in
    true≢false (sym one ∙ ap (λ (l : List Point). is_fit l p) (sym empty) ∙ full)

fit_ready : (n : ℕ) (p : Point) (w : World) → IsReady n p w → (made_fit n p w).worn ≡ false → IsReady n p (made_fit n p w)
fit_ready n p w ready whole =
    one_world (IsReady n p) (is_fit (written_in w.series n) p) w (closed w n)
    (λ _ _. ready)
    (λ full whole. close_ready n p w n ready ready.within (some_fit (written_in w.series n) p full) whole)
    whole

oldest_of : (P : ℕ → Type 0) (ns : List ℕ) → 0 < length ns → AllByRecursion P ns → P (oldest ns)
oldest_of P [] some each = absurd (omega arith)
oldest_of P (n ∷ []) some each = each.0
oldest_of P (n ∷ m ∷ ns) some each = oldest_of P (m ∷ ns) (omega arith) each.1

room_ready : (n : ℕ) (p : Point) (w : World) → IsReady n p w → (made_room n w).worn ≡ false → IsReady n p (made_room n w)
room_ready n p w ready whole =
    let pool = (limits_of w).pool in
    one_world (IsReady n p) (is_empty (written_in w.series n) && nat_le pool (length w.recent)) (closed w (oldest w.recent)) w
    (λ full whole.
    let used : pool ≤ length w.recent = leb-true pool (length w.recent) (and_parts (is_empty (written_in w.series n)) (nat_le pool (length w.recent)) full).1 in
    let last : IsOpen w.series (oldest w.recent) = oldest_of (IsOpen w.series) w.recent (omega (arith, used, ready.valid.rules_are.limits_are.pool_least)) ready.valid.recent in
    close_ready n p w (oldest w.recent) ready last.0 last.1 whole)
    (λ _ _. ready)
    whole

time_valid : (w : World) → IsWorld w → IsWorld (in_time w)
time_valid w is = either (nat_le (limits_of w).every w.since) (after_view w) w (λ _. view_valid w is) (λ _. is)

pub accept_valid : (w : World) (n : ℕ) (p : Point) → IsWorld w → n < length w.series → IsPoint p → IfSome (last_at w.series n) (λ last. last ≤ p.ts) → (accepted w n p).worn ≡ false → IsWorld (accepted w n p)
accept_valid w n p is within point below whole =
    let fit : World = unless_worn w (made_fit n p) in
    let room : World = unless_worn fit (made_room n) in
    let more : World = unless_worn room (added n p) in
    let fit_is : fit.worn ≡ false → IsReady n p fit = step_of (IsReady n p) w (made_fit n p) (λ _ whole. fit_ready n p w (record { valid = is; within = within; below = below }) whole) in
    let room_is : room.worn ≡ false → IsReady n p room = step_of (IsReady n p) fit (made_room n) (λ fresh whole. room_ready n p fit (fit_is fresh) whole) in
    let more_is : more.worn ≡ false → IsWorld more = step_of IsWorld room (added n p) (λ fresh _. let ready = room_is fresh in point_valid room n p ready.valid ready.within point ready.below) in
    step_of IsWorld more in_time (λ fresh _. time_valid more (more_is fresh)) whole

-- ---- Flushes

some_of : (ps : List Point) → is_empty ps ≡ false → ps ≢ []
some_of ps some empty = true≢false (ap is_empty (sym empty) ∙ some)

-- a valid world of so many series
record IsSized (long : ℕ) (w : World) : Type 0 where
  valid : IsWorld w
  size : length w.series ≡ long

-- one series
abbrev one : World → ℕ → World
one w n = if is_empty (written_in w.series n) then w else unless_worn w (λ v. closed v n)

one_valid : (w : World) (n : ℕ) → IsWorld w → n < length w.series → (one w n).worn ≡ false → IsSized (length w.series) (one w n)
one_valid w n is within whole =
    let long = length w.series in
    one_world (IsSized long) (is_empty (written_in w.series n)) w (unless_worn w (λ v. closed v n))
    (λ _ _. record { valid = is; size = refl })
    (λ some whole. step_of (IsSized long) w (λ v. closed v n) (λ _ whole.
    let done : IsClosed w (closed w n) n = close_is w n is within (some_of (written_in w.series n) some) whole in
    record { valid = done.valid; size = ap (λ (ss : List Series). length ss) done.series ∙ length_changed w.series n (λ s. closed_at s done.place) }) whole)
    whole

worn_one : (b : Bool) (u w : World) → u.worn ≡ true → w.worn ≡ true → (if b then u else w).worn ≡ true
worn_one true u w first second = first
worn_one false u w first second = second

-- a world that is worn stays so
worn_from : (count n : ℕ) (w : World) → w.worn ≡ true → (closed_from count n w).worn ≡ true
worn_from zero n w worn = worn
worn_from (suc count) n w worn =
    let still : (unless_worn w (λ v. closed v n)).worn ≡ true = ap (λ (b : Bool). (if b then w else closed w n).worn) worn ∙ worn in
    worn_from count (suc n) (one w n) (worn_one (is_empty (written_in w.series n)) w (unless_worn w (λ v. closed v n)) worn still)

false_of : (b : Bool) → (b ≡ true → ⊥) → b ≡ false
false_of true other = absurd (other refl)
false_of false other = refl

from_valid : (count n : ℕ) (w : World) → IsWorld w → n + count ≡ length w.series → (closed_from count n w).worn ≡ false → IsWorld (closed_from count n w)
from_valid zero n w is long whole = is
from_valid (suc count) n w is long whole =
    let next : World = one w n in
    let fresh : next.worn ≡ false = false_of next.worn (λ worn. true≢false (sym (worn_from count (suc n) next worn) ∙ whole)) in
    let done : IsSized (length w.series) next = one_valid w n is (omega (arith, long)) fresh in
    from_valid count (suc n) next done.valid (omega (arith, long, done.size)) whole

pub flush_valid : (w : World) → IsWorld w → (flushed w).worn ≡ false → IsWorld (flushed w)
flush_valid w is whole =
    let from : World = closed_from (length w.series) 0 w in
    step_of IsWorld from after_view (λ fresh _. view_valid from (from_valid (length w.series) 0 w is (omega arith) fresh)) whole

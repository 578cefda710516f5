-- What is asked for keeps that each view holds the live ones of the first leaves.
use Rattle.std.proofs.Common.{inl, inr, ℕ, zero, suc, ◌+◌, ◌-◌, ◌^◌, Bool, true, false, if◌then◌else◌, ◌==◌, ◌&&◌, nat_le, List, [], ◌∷◌, length, refl, sym, subst, arith, append-nil, ℤ, is_some}
use Rattle.std.specs.List.{AllByRecursion}
use Rattle.ak_base.specs.declared.point.Point.{Point}
use Rattle.ak_meta.proofs.Fronts.{each_push, each_taken}
use Rattle.ak_meta.specs.Contents.{IsMeta}
use Rattle.ak_run.specs.declared.asked.Asked.{Asked}
use Rattle.ak_run.specs.declared.asked.Asked.TheVariants.{Refused, Points, Rows, Flush}
use Rattle.ak_run.specs.Contents.{after_asked, after, after_all}
use Rattle.ak_volumes.specs.Ordinals.{newest, newest_fill, address, switched}
use Rattle.ak_world.proofs.ContentsOfLeaves.{after as after_group}
use Rattle.ak_world.proofs.Opened.{opened_valid}
use Rattle.ak_world.proofs.Valid.{held_now, views_more, named_held}
use Rattle.ak_world.specs.Leaves.{Series, is_fit, with_point, closed_at, leaf_at}
use Rattle.ak_world.specs.Puts.{with_name, with_names, number_in, named, refusal_of, all_accepted, after_points}
use Rattle.ak_world.specs.Steps.{written_in, is_empty, switch, with_room, entered, group_of, closed, unless_worn, made_fit, oldest, made_room, added, in_time, accepted, closed_from, flushed}
use Rattle.ak_world.specs.Valid.{AreOpenable, IsPrefix}
use Rattle.ak_world.specs.Views.{View, IsIn}
use Rattle.ak_world.specs.Worlds.{World as Store, world_of as opened, views_of, limits_of, worn_world, next_view, after_view}

-- each view holds the live ones of the first leaves of each series
abbrev pub Orderly : Store → Type 0
Orderly w = AllByRecursion (IsPrefix w.series) (views_of w)

either : (b : Bool) (v w : Store) → Orderly v → Orderly w → Orderly (if b then v else w)
either true v w first second = first
either false v w first second = second

-- ---- Views

view_orderly : (w : Store) → Orderly w → Orderly (after_view w)
view_orderly w is =
    either (nat_le (2 ^ 64 - 1) w.last.number) (worn_world w) (record w { earlier = views_of w; last = next_view w; since = 0 }) is
    (each_push (IsPrefix w.series) (views_of w) (next_view w) is (held_now w.ordinals.lo w.opened.content.series w.series))

switch_orderly : (w : Store) → Orderly w → Orderly (switch w)
switch_orderly w is =
    let new : Store = record w { ordinals = switched w.ordinals } in
    either (newest w.ordinals == 2 ^ 32 - 1) (worn_world w) (after_view new) is (view_orderly new is)

-- ---- Closing

room_orderly : (w : Store) (blocks : ℕ) → Orderly w → Orderly (with_room w blocks)
room_orderly w blocks is = either (nat_le (newest_fill w.ordinals + blocks) w.ordinals.blocks) w (switch w) is (switch_orderly w is)

enter_orderly : (w : Store) (n blocks : ℕ) → Orderly w → Orderly (entered w n blocks)
enter_orderly w n blocks is =
    let a = address (newest w.ordinals) (newest_fill w.ordinals) in
    either w.worn w (after_group w n blocks) is
    (views_more (views_of w) w.series n (λ s. closed_at s a) (λ s. record { name = refl; more = leaf_at s a ∷ []; closed = refl; count = refl }) is)

close_orderly : (w : Store) (n : ℕ) → Orderly w → Orderly (closed w n)
close_orderly w n is = enter_orderly (with_room w (group_of w n)) n (group_of w n) (room_orderly w (group_of w n) is)

-- ---- Points

unless_orderly : (w : Store) (f : Store → Store) → ((v : Store) → Orderly v → Orderly (f v)) → Orderly w → Orderly (unless_worn w f)
unless_orderly w f step is = either w.worn w (f w) is (step w is)

fit_orderly : (n : ℕ) (p : Point) (w : Store) → Orderly w → Orderly (made_fit n p w)
fit_orderly n p w is = either (is_fit (written_in w.series n) p) w (closed w n) is (close_orderly w n is)

make_orderly : (n : ℕ) (w : Store) → Orderly w → Orderly (made_room n w)
make_orderly n w is = either (is_empty (written_in w.series n) && nat_le (limits_of w).pool (length w.recent)) (closed w (oldest w.recent)) w (close_orderly w (oldest w.recent) is) is

add_orderly : (n : ℕ) (p : Point) (w : Store) → Orderly w → Orderly (added n p w)
add_orderly n p w is = views_more (views_of w) w.series n (λ s. with_point s p) (λ s. record { name = refl; more = []; closed = sym (append-nil s.closed); count = omega arith }) is

time_orderly : (w : Store) → Orderly w → Orderly (in_time w)
time_orderly w is = either (nat_le (limits_of w).every w.since) (after_view w) w (view_orderly w is) is

accept_orderly : (w : Store) (n : ℕ) (p : Point) → Orderly w → Orderly (accepted w n p)
accept_orderly w n p is =
    let fit : Store = unless_worn w (made_fit n p) in
    let room : Store = unless_worn fit (made_room n) in
    let more : Store = unless_worn room (added n p) in
    unless_orderly more in_time time_orderly
    (unless_orderly room (added n p) (add_orderly n p) (unless_orderly fit (made_room n) (make_orderly n) (unless_orderly w (made_fit n p) (fit_orderly n p) is)))

all_orderly : (w : Store) (names : List (List ℕ)) (ts : ℕ) (vs : List ℤ) → Orderly w → Orderly (all_accepted w names ts vs)
all_orderly w [] ts vs is = is
all_orderly w (name ∷ names) ts [] is = is
all_orderly w (name ∷ names) ts (v ∷ vs) is =
    let p : Point = record { ts = ts; value = v } in
    all_orderly (accepted w (number_in w.series name) p) names ts vs (accept_orderly w (number_in w.series name) p is)

-- the views hold the same where series are added
names_held : (views : List View) (ss : List Series) (names : List (List ℕ)) → AllByRecursion (IsPrefix ss) views → AllByRecursion (IsPrefix (with_names ss names)) views
names_held views ss [] is = is
names_held views ss (name ∷ names) is =
    names_held views (with_name ss name) names
    (each_taken (IsPrefix ss) (IsPrefix (with_name ss name)) (λ view here. named_held view.content.ordinals.lo view.content.series view.kept ss name here) views is)

points_orderly : (w : Store) (names : List (List ℕ)) (ts : ℕ) (vs : List ℤ) → Orderly w → Orderly (after_points w names ts vs)
points_orderly w names ts vs is =
    either (is_some (refusal_of w names ts)) w (all_accepted (named w names) names ts vs) is
    (all_orderly (named w names) names ts vs (names_held (views_of w) w.series names is))

-- ---- Flushes

one_orderly : (n : ℕ) (w : Store) → Orderly w → Orderly (if is_empty (written_in w.series n) then w else unless_worn w (λ v. closed v n))
one_orderly n w is = either (is_empty (written_in w.series n)) w (unless_worn w (λ v. closed v n)) is (unless_orderly w (λ v. closed v n) (λ v there. close_orderly v n there) is)

from_orderly : (count n : ℕ) (w : Store) → Orderly w → Orderly (closed_from count n w)
from_orderly zero n w is = is
from_orderly (suc count) n w is =
    from_orderly count (suc n) (if is_empty (written_in w.series n) then w else unless_worn w (λ v. closed v n)) (one_orderly n w is)

pub flush_orderly : (w : Store) → Orderly w → Orderly (flushed w)
flush_orderly w is = unless_orderly (closed_from (length w.series) 0 w) after_view view_orderly (from_orderly (length w.series) 0 w is)

-- ---- What is asked

asked_orderly : (c : Store) (a : Asked) → Orderly c → Orderly (after_asked c a)
asked_orderly c (Refused r) is = is
asked_orderly c (Points names ts vs) is = points_orderly c names ts vs is
asked_orderly c (Rows metric) is = is
asked_orderly c Flush is = flush_orderly c is

pub orderly_after : (c : Store) (a : Asked) → Orderly c → Orderly (after c a)
orderly_after c a is = either c.worn c (after_asked c a) is (asked_orderly c a is)

pub orderly_all : (c : Store) (xs : List Asked) → Orderly c → Orderly (after_all c xs)
orderly_all c [] is = is
orderly_all c (a ∷ xs) is = orderly_all (after c a) xs (orderly_after c a is)

pub orderly_opened : (view : View) → IsMeta view.content → AreOpenable view.content.ordinals.lo view.content.series view.kept → Orderly (opened view)
orderly_opened view is may = (opened_valid view is may).held

pub orderly_in : (view : View) (ss : List Series) (views : List View) → IsIn view views → AllByRecursion (IsPrefix ss) views → IsPrefix ss view
orderly_in view ss [] is all = absurd is
orderly_in view ss (other ∷ views) (inl same) all = subst (IsPrefix ss) (sym same) all.0
orderly_in view ss (other ∷ views) (inr later) all = orderly_in view ss views later all.1

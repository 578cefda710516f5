-- Steps keep the views that were taken.
use Rattle.std.proofs.Common.{◌≡◌, ℕ, zero, suc, ◌+◌, ◌-◌, ◌^◌, ◌∙◌, List, [], ◌∷◌, ◌++◌, length, Bool, true, false, refl, sym, ap, subst, arith, append_assoc}
use Rattle.std.proofs.lemmas.List.{append-nil}
use Rattle.std.specs.Prelude.{ℤ, ◌==◌, ◌&&◌, nat_le, if◌then◌else◌, is_some}
use Rattle.ak_base.specs.declared.point.Point.{Point}
use Rattle.ak_volumes.specs.Ordinals.{newest, newest_fill, switched}
use Rattle.ak_world.specs.Views.{View}
use Rattle.ak_world.specs.Worlds.{World, views_of, limits_of, worn_world, next_view, after_view}
use Rattle.ak_world.specs.Leaves.{is_fit}
use Rattle.ak_world.specs.Puts.{number_in, named, refusal_of, all_accepted, after_points}
use Rattle.ak_world.specs.Steps.{written_in, is_empty, switch, with_room, entered, group_of, closed, unless_worn, made_fit, oldest, made_room, added, in_time, accepted, closed_from, flushed}
use Rattle.ak_world.specs.Valid.{Rise, Goes}
use Rattle.ak_world.proofs.ContentsOfLeaves.{after}

-- ---- Joining

-- the last of these views, or this one where there is none
abbrev pub final : View → List View → View
final v [] = v
final v (x ∷ xs) = final x xs

final_push : (v : View) (xs : List View) (x : View) → final v (xs ++ x ∷ []) ≡ x
final_push v [] x = refl
final_push v (y ∷ xs) x = final_push y xs x

final_more : (v : View) (xs ys : List View) → final v (xs ++ ys) ≡ final (final v xs) ys
final_more v [] ys = refl
final_more v (x ∷ xs) ys = final_more x xs ys

-- the last view that is told is the world's last
last_final : (v : View) (w : World) → final v (views_of w) ≡ w.last
last_final v w = final_push v w.earlier w.last

-- the last view of the new world is the last of the others, or that of the old one
pub last_is : (u v : World) → (goes : Goes u v) → final u.last goes.more ≡ v.last
last_is u v goes = ap (λ (x : View). final x goes.more) (sym (last_final u.last u)) ∙ sym (final_more u.last (views_of u) goes.more) ∙ ap (final u.last) (sym goes.views) ∙ last_final u.last v

-- others behind those that rise from a view
rise_join : (v : View) (xs ys : List View) → Rise v.number xs → Rise (final v xs).number ys → Rise v.number (xs ++ ys)
rise_join v [] ys first second = second
rise_join v (x ∷ xs) ys first second = (first.0, rise_join x xs ys first.1 second)

pub joined : (u v w : World) → Goes u v → Goes v w → Goes u w
joined u v w first second = record {
  opened = second.opened ∙ first.opened;
  more = first.more ++ second.more;
  views = second.views ∙ ap (λ (l : List View). l ++ second.more) first.views ∙ append_assoc (views_of u) first.more second.more;
  numbers = rise_join u.last first.more second.more first.numbers (subst (λ (x : View). Rise x.number second.more) (sym (last_is u v first)) second.numbers);
}

-- ---- Views

-- no view is taken
pub same : (u v : World) → v.opened ≡ u.opened → views_of v ≡ views_of u → Goes u v
same u v opening e = record { opened = opening; more = []; views = e ∙ sym (append-nil (views_of u)); numbers = tt }

either : (u v w : World) (b : Bool) → Goes u v → Goes u w → Goes u (if b then v else w)
either u v w true first second = first
either u v w false first second = second

-- one view is taken
one_more : (w : World) → Goes w (record w { earlier = views_of w; last = next_view w; since = 0 })
one_more w = record { opened = refl; more = next_view w ∷ []; views = refl; numbers = (omega arith, tt) }

pub view_goes : (w : World) → Goes w (after_view w)
view_goes w = either w (worn_world w) (record w { earlier = views_of w; last = next_view w; since = 0 }) (nat_le (2 ^ 64 - 1) w.last.number) (same w (worn_world w) refl refl) (one_more w)

pub switch_goes : (w : World) → Goes w (switch w)
switch_goes w =
    let new : World = record w { ordinals = switched w.ordinals } in
    either w (worn_world w) (after_view new) (newest w.ordinals == 2 ^ 32 - 1) (same w (worn_world w) refl refl) (joined w new (after_view new) (same w new refl refl) (view_goes new))

-- ---- Closing

room_goes : (w : World) (blocks : ℕ) → Goes w (with_room w blocks)
room_goes w blocks = either w w (switch w) (nat_le (newest_fill w.ordinals + blocks) w.ordinals.blocks) (same w w refl refl) (switch_goes w)

enter_goes : (w : World) (n blocks : ℕ) → Goes w (entered w n blocks)
enter_goes w n blocks = either w w (after w n blocks) w.worn (same w w refl refl) (same w (after w n blocks) refl refl)

pub close_goes : (w : World) (n : ℕ) → Goes w (closed w n)
close_goes w n =
    let room : World = with_room w (group_of w n) in
    joined w room (entered room n (group_of w n)) (room_goes w (group_of w n)) (enter_goes room n (group_of w n))

-- ---- Points

unless_goes : (w : World) (f : World → World) → ((v : World) → Goes v (f v)) → Goes w (unless_worn w f)
unless_goes w f step = either w w (f w) w.worn (same w w refl refl) (step w)

fit_goes : (n : ℕ) (p : Point) (w : World) → Goes w (made_fit n p w)
fit_goes n p w = either w w (closed w n) (is_fit (written_in w.series n) p) (same w w refl refl) (close_goes w n)

make_goes : (n : ℕ) (w : World) → Goes w (made_room n w)
make_goes n w = either w (closed w (oldest w.recent)) w (is_empty (written_in w.series n) && nat_le (limits_of w).pool (length w.recent)) (close_goes w (oldest w.recent)) (same w w refl refl)

time_goes : (w : World) → Goes w (in_time w)
time_goes w = either w (after_view w) w (nat_le (limits_of w).every w.since) (view_goes w) (same w w refl refl)

-- one step behind another, where each keeps the views
then_goes : (u w : World) (f : World → World) → ((v : World) → Goes v (f v)) → Goes u w → Goes u (unless_worn w f)
then_goes u w f step before = joined u w (unless_worn w f) before (unless_goes w f step)

pub point_goes : (w : World) (n : ℕ) (p : Point) → Goes w (accepted w n p)
point_goes w n p =
    let fit : World = unless_worn w (made_fit n p) in
    let room : World = unless_worn fit (made_room n) in
    let more : World = unless_worn room (added n p) in
    then_goes w more in_time time_goes (then_goes w room (added n p) (λ v. same v (added n p v) refl refl) (then_goes w fit (made_room n) (make_goes n) (unless_goes w (made_fit n p) (fit_goes n p))))

all_go : (w : World) (names : List (List ℕ)) (ts : ℕ) (vs : List ℤ) → Goes w (all_accepted w names ts vs)
all_go w [] ts vs = same w w refl refl
all_go w (name ∷ names) ts [] = same w w refl refl
all_go w (name ∷ names) ts (v ∷ vs) =
    let next : World = accepted w (number_in w.series name) (record { ts = ts; value = v }) in
    joined w next (all_accepted next names ts vs) (point_goes w (number_in w.series name) (record { ts = ts; value = v })) (all_go next names ts vs)

pub points_go : (w : World) (names : List (List ℕ)) (ts : ℕ) (vs : List ℤ) → Goes w (after_points w names ts vs)
points_go w names ts vs =
    let new : World = named w names in
    either w w (all_accepted new names ts vs) (is_some (refusal_of w names ts)) (same w w refl refl) (joined w new (all_accepted new names ts vs) (same w new refl refl) (all_go new names ts vs))

-- ---- Flushes

one_goes : (n : ℕ) (w : World) → Goes w (if is_empty (written_in w.series n) then w else unless_worn w (λ v. closed v n))
one_goes n w = either w w (unless_worn w (λ v. closed v n)) (is_empty (written_in w.series n)) (same w w refl refl) (unless_goes w (λ v. closed v n) (λ v. close_goes v n))

from_goes : (count n : ℕ) (w : World) → Goes w (closed_from count n w)
from_goes zero n w = same w w refl refl
from_goes (suc count) n w =
    let next : World = if is_empty (written_in w.series n) then w else unless_worn w (λ v. closed v n) in
    joined w next (closed_from count (suc n) next) (one_goes n w) (from_goes count (suc n) next)

pub flush_goes : (w : World) → Goes w (flushed w)
flush_goes w = then_goes w (closed_from (length w.series) 0 w) after_view view_goes (from_goes (length w.series) 0 w)

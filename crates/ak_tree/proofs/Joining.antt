-- How steps of a world join, and what stays stored.
use Rattle.std.proofs.Common.{◌≡◌, ◌≢◌, inl, inr, ℕ, zero, suc, ◌+◌, ◌-◌, ◌<◌, ◌≤◌, ◌∙◌, List, [], ◌∷◌, ◌++◌, length, Bool, true, false, refl, sym, ap, subst, arith}
use Rattle.std.proofs.lemmas.Bool.{lt-leb, ne_eqb}
use Rattle.std.specs.Prelude.{◌&&◌, nat_le, if◌then◌else◌}
use Rattle.ak_base.specs.declared.point.Point.{Point}
use Rattle.ak_base.specs.declared.stop.Stop.{Stop}
use Rattle.ak_host.specs.Files.{Files}
use Rattle.ak_host.specs.Moments.{HostState, DiskPasses}
use Rattle.ak_host.proofs.Passing.{disk_weaker, disk_goes_on}
use Rattle.ak_image.specs.Blocks.{seen_in}
use Rattle.ak_image.specs.Laid.{IsLaid}
use Rattle.ak_image.proofs.Agreeing.{laid_agree}
use Rattle.ak_image.proofs.Standing.{laid_image}
use Rattle.ak_meta.specs.Contents.{IsMeta}
use Rattle.ak_tree.specs.Standing.{Trees, Holds}
use Rattle.ak_tree.specs.Stops.{IsWornBy}
use Rattle.ak_tree.specs.Storing.{IsLeftOf, LeavesView}
use Rattle.ak_volumes.specs.Ordinals.{newest_fill}
use Rattle.ak_world.specs.Steps.{written_in, is_empty, switch, with_room, entered, closed, unless_worn, oldest, made_room, added, in_time, closed_from}
use Rattle.ak_world.specs.Valid.{Goes, Rise}
use Rattle.ak_world.specs.Views.{View, IsIn}
use Rattle.ak_world.specs.Worlds.{World, views_of, limits_of, after_view}
use Rattle.ak_world.proofs.ContentsOfLeaves.{after}
use Rattle.ak_world.proofs.Going.{final, last_is, joined, same, view_goes, switch_goes, close_goes}
use Rattle.ak_tree.proofs.Telling.{told_same}

-- ---- Views

pub in_more : (view : View) (vs more : List View) → IsIn view vs → IsIn view (vs ++ more)
in_more view [] more is = absurd is
in_more view (v ∷ vs) more (inl e) = inl e
in_more view (v ∷ vs) more (inr is) = inr (in_more view vs more is)

pub in_push : (vs : List View) (view : View) → IsIn view (vs ++ view ∷ [])
in_push [] view = inl refl
in_push (v ∷ vs) view = inr (in_push vs view)

final_rises : (v : View) (xs : List View) → Rise v.number xs → v.number ≤ (final v xs).number
final_rises v [] rise = omega arith
final_rises v (x ∷ xs) rise = omega (arith, rise.0, final_rises x xs rise.1)

-- the last view's number never falls
pub last_rises : (u v : World) → Goes u v → u.last.number ≤ v.last.number
last_rises u v goes = subst (λ (x : View). u.last.number ≤ x.number) (last_is u v goes) (final_rises u.last goes.more goes.numbers)

-- ---- Steps

either : (u v w : World) (b : Bool) → Goes u v → Goes u w → Goes u (if b then v else w)
either u v w true first second = first
either u v w false first second = second

pub room_goes : (w : World) (blocks : ℕ) → Goes w (with_room w blocks)
room_goes w blocks = either w w (switch w) (nat_le (newest_fill w.ordinals + blocks) w.ordinals.blocks) (same w w refl refl) (switch_goes w)

pub enter_goes : (w : World) (n blocks : ℕ) → Goes w (entered w n blocks)
enter_goes w n blocks = either w w (after w n blocks) w.worn (same w w refl refl) (same w (after w n blocks) refl refl)

-- unless the store is worn
pub unless_fresh : (w : World) (f : World → World) → w.worn ≡ false → unless_worn w f ≡ f w
unless_fresh w f fresh = ap (λ (b : Bool). if b then w else f w) fresh

pub unless_stays : (w : World) (f : World → World) → w.worn ≡ true → unless_worn w f ≡ w
unless_stays w f worn = ap (λ (b : Bool). if b then w else f w) worn

pub unless_goes : (w : World) (f : World → World) → ((v : World) → Goes v (f v)) → Goes w (unless_worn w f)
unless_goes w f step = either w w (f w) w.worn (same w w refl refl) (step w)

pub make_goes : (n : ℕ) (w : World) → Goes w (made_room n w)
make_goes n w = either w (closed w (oldest w.recent)) w (is_empty (written_in w.series n) && nat_le (limits_of w).pool (length w.recent)) (close_goes w (oldest w.recent)) (same w w refl refl)

pub add_goes : (n : ℕ) (p : Point) (w : World) → Goes w (added n p w)
add_goes n p w = same w (added n p w) refl refl

pub time_goes : (w : World) → Goes w (in_time w)
time_goes w = either w (after_view w) w (nat_le (limits_of w).every w.since) (view_goes w) (same w w refl refl)

pub one_goes : (n : ℕ) (w : World) → Goes w (if is_empty (written_in w.series n) then w else unless_worn w (λ v. closed v n))
one_goes n w = either w w (unless_worn w (λ v. closed v n)) (is_empty (written_in w.series n)) (same w w refl refl) (unless_goes w (λ v. closed v n) (λ v. close_goes v n))

pub from_goes : (count n : ℕ) (w : World) → Goes w (closed_from count n w)
from_goes zero n w = same w w refl refl
from_goes (suc count) n w =
    let next : World = if is_empty (written_in w.series n) then w else unless_worn w (λ v. closed v n) in
    joined w next (closed_from count (suc n) next) (one_goes n w) (from_goes count (suc n) next)

-- ---- Moments

pub leaves_later : (w next later : World) (disk : Files) → Goes next later → LeavesView w next disk → LeavesView w later disk
leaves_later w next later disk goes left = record {
  view = left.view;
  sound = left.sound;
  stands = left.stands;
  taken = subst (IsIn left.view) (sym goes.views) (in_more left.view (views_of next) goes.more left.taken);
  recent = left.recent;
}

pub leaves_before : (w v next : World) (disk : Files) → Goes w v → LeavesView v next disk → LeavesView w next disk
leaves_before w v next disk goes left = record {
  view = left.view;
  sound = left.sound;
  stands = left.stands;
  taken = left.taken;
  recent = omega (arith, last_rises w v goes, left.recent);
}

-- ---- All open leaves

pub empty_some : (ps : List Point) → ps ≢ [] → is_empty ps ≡ false
empty_some [] some = absurd (some refl)
empty_some (p ∷ ps) some = ne_eqb (length (p ∷ ps)) 0 (λ e. omega (arith, e))

from_some : (v : World) (count n : ℕ) → v.worn ≡ false → written_in v.series n ≢ [] → closed_from (suc count) n v ≡ closed_from count (suc n) (closed v n)
from_some v count n fresh some =
    ap (closed_from count (suc n))
    (ap (λ (b : Bool). if b then v else unless_worn v (λ u. closed u n)) (empty_some (written_in v.series n) some) ∙ unless_fresh v (λ u. closed u n) fresh)

from_none : (v : World) (count n : ℕ) → written_in v.series n ≡ [] → closed_from (suc count) n v ≡ closed_from count (suc n) v
from_none v count n none = ap (closed_from count (suc n)) (ap (λ (b : Bool). if b then v else unless_worn v (λ u. closed u n)) (ap is_empty none))

stays_one : (b : Bool) (u w : World) → u ≡ w → (if b then w else u) ≡ w
stays_one true u w is = refl
stays_one false u w is = is

pub from_stays : (count n : ℕ) (w : World) → w.worn ≡ true → closed_from count n w ≡ w
from_stays zero n w worn = refl
from_stays (suc count) n w worn =
    ap (closed_from count (suc n)) (stays_one (is_empty (written_in w.series n)) (unless_worn w (λ v. closed v n)) w (unless_stays w (λ v. closed v n) worn)) ∙ from_stays count (suc n) w worn

-- the leaves of the series before a number are closed
pub record IsOnWay (w : World) (n : ℕ) (f : Trees) (host : HostState) : Type 0 where
  pub now : World
  pub holds : Holds now f host
  pub rest : closed_from (length w.series - n) n now ≡ closed_from (length w.series) 0 w
  pub goes : Goes w now

module _ (w : World) (n : ℕ) (f : Trees) (host : HostState) (way : IsOnWay w n f host) where
  step_is : (v : World) → n < length w.series → closed_from (length w.series - n) n v ≡ closed_from (suc (length w.series - (n + 1))) n v
  step_is v within =
      let e : length w.series - n ≡ suc (length w.series - (n + 1)) = omega (arith, within) in
      ap (λ (k : ℕ). closed_from k n v) e

  next_is : (v : World) → closed_from (length w.series - (n + 1)) (suc n) v ≡ closed_from (length w.series - (n + 1)) (n + 1) v
  next_is v =
      let e : suc n ≡ n + 1 = omega arith in
      ap (λ (k : ℕ). closed_from (length w.series - (n + 1)) k v) e

  pub closed_rest : n < length w.series → written_in way.now.series n ≢ [] → closed_from (length w.series - (n + 1)) (n + 1) (closed way.now n) ≡ closed_from (length w.series) 0 w
  closed_rest within some =
      sym (next_is (closed way.now n)) ∙ sym (from_some way.now (length w.series - (n + 1)) n way.holds.keeps.not_worn some) ∙ sym (step_is way.now within) ∙ way.rest

  pub way_closed : (new : Trees) (later : HostState) → n < length w.series → written_in way.now.series n ≢ [] → Holds (closed way.now n) new later → IsOnWay w (n + 1) new later
  way_closed new later within some holds = record {
    now = closed way.now n;
    holds = holds;
    rest = closed_rest within some;
    goes = joined w way.now (closed way.now n) way.goes (close_goes way.now n);
  }

  pub way_none : n < length w.series → written_in way.now.series n ≡ [] → IsOnWay w (n + 1) f host
  way_none within none = record {
    now = way.now;
    holds = way.holds;
    rest = sym (next_is way.now) ∙ sym (from_none way.now (length w.series - (n + 1)) n none) ∙ sym (step_is way.now within) ∙ way.rest;
    goes = way.goes;
  }

  pub way_goes : n < length w.series → written_in way.now.series n ≢ [] → Goes (closed way.now n) (closed_from (length w.series) 0 w)
  way_goes within some =
      subst (Goes (closed way.now n)) (closed_rest within some) (from_goes (length w.series - (n + 1)) (n + 1) (closed way.now n))

  pub way_worn : (s : Stop) → n < length w.series → written_in way.now.series n ≢ [] → IsWornBy (closed way.now n) s → IsWornBy (closed_from (length w.series) 0 w) s
  way_worn s within some told =
      subst (λ (v : World). IsWornBy v s) (closed_rest within some)
      (told_same (closed way.now n) (closed_from (length w.series - (n + 1)) (n + 1) (closed way.now n)) s (from_stays (length w.series - (n + 1)) (n + 1) (closed way.now n)) told)

  pub way_passes : (start later : HostState) → n < length w.series → written_in way.now.series n ≢ [] → DiskPasses (LeavesView w (closed_from (length w.series) 0 w)) start host → DiskPasses (LeavesView way.now (closed way.now n)) host later
      → DiskPasses (LeavesView w (closed_from (length w.series) 0 w)) start later
  way_passes start later within some before run =
      let all : World = closed_from (length w.series) 0 w in
      disk_goes_on before run (λ disk left. leaves_before w way.now all disk way.goes (leaves_later way.now (closed way.now n) all disk (way_goes within some) left))

  pub way_ends : length w.series ≤ n → Holds (closed_from (length w.series) 0 w) f host
  way_ends past =
      let e : length w.series - n ≡ 0 = omega (arith, past) in
      subst (λ (v : World). Holds v f host) (sym (ap (λ (k : ℕ). closed_from k n way.now) e) ∙ way.rest) way.holds

-- no room is there, and an ordinal begins
pub room_switch : (w : World) (blocks : ℕ) → w.ordinals.blocks < newest_fill w.ordinals + blocks → with_room w blocks ≡ switch w
room_switch w blocks over = ap (λ (b : Bool). if b then w else switch w) (lt-leb (newest_fill w.ordinals + blocks) w.ordinals.blocks over)

-- ---- Moments of steps

-- a step, of which another makes more
pub passes_later : (w next later : World) (old new : HostState) → Goes next later → DiskPasses (LeavesView w next) old new → DiskPasses (LeavesView w later) old new
passes_later w next later old new goes run = disk_weaker run (λ disk left. leaves_later w next later disk goes left)

-- one step behind another
pub passes_both : (w v next : World) (old mid new : HostState) → Goes w v → Goes v next → DiskPasses (LeavesView w v) old mid → DiskPasses (LeavesView v next) mid new → DiskPasses (LeavesView w next) old new
passes_both w v next old mid new before behind first second =
    disk_goes_on (passes_later w v next old mid behind first) second (λ disk left. leaves_before w v next disk before left)

-- ---- What is stored

-- what a stop leaves of a view stands for it
pub left_view : (w : World) (volumes file : ℕ) (files disk : Files) → IsMeta w.last.content → w.last.content.limits.volumes ≡ volumes → IsLaid (seen_in volumes files) w.last.content w.last.kept → IsLeftOf w.last file files disk → LeavesView w w disk
left_view w volumes file files disk rules same laid left =
    let last : View = w.last in
    let of = last.content.limits.volumes in
    let by : IsLaid (seen_in of files) last.content last.kept = subst (λ (n : ℕ). IsLaid (seen_in n files) last.content last.kept) (sym same) laid in
    let image = laid_image disk last rules left.newest left.volumes (laid_agree (seen_in of files) (seen_in of disk) last.content last.kept rules by left.same) in
    record { view = last; sound = image.0; stands = image.1; taken = in_push w.earlier last; recent = omega arith }

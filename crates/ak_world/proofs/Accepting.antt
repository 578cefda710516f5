-- What steps make of the points that were accepted.
use Rattle.std.proofs.Common.{◌≡◌, inl, inr, ℕ, zero, suc, ◌+◌, ◌-◌, ◌^◌, ◌∙◌, List, [], ◌∷◌, ◌++◌, length, map, Bool, true, false, bytes_eq, refl, sym, ap, subst, append_assoc}
use Rattle.std.proofs.lemmas.Bool.{cases_Bool, true≢false}
use Rattle.std.proofs.lemmas.List.{append-nil}
use Rattle.std.proofs.lemmas.Slice.Eq.{bytes_eq-Decides}
use Rattle.std.specs.List.{list_any, AllByRecursion}
use Rattle.std.specs.Prelude.{ℤ, ◌==◌, ◌&&◌, ◌||◌, nat_le, if◌then◌else◌, is_some}
use Rattle.ak_base.specs.declared.point.Point.{Point}
use Rattle.ak_meta.proofs.Fronts.{each_taken}
use Rattle.ak_meta.specs.Contents.{names_of}
use Rattle.ak_volumes.specs.Ordinals.{newest, newest_fill, address, switched}
use Rattle.ak_world.specs.Accepted.{SeriesPoints, series_points, accepted_now, accepted_with, points_under, accepted_of, points_for, given_to, Gains}
use Rattle.ak_world.specs.Leaves.{Series, new_series, is_fit, with_point, leaf_at, closed_at, points_of, accepted_points}
use Rattle.ak_world.specs.Puts.{with_name, with_names, number_in, named, refusal_of, all_accepted, after_points}
use Rattle.ak_world.specs.Steps.{changed, written_in, is_empty, switch, with_room, entered, group_of, closed, unless_worn, made_fit, oldest, made_room, added, in_time, accepted, closed_from, flushed}
use Rattle.ak_world.specs.Worlds.{World, views_of, limits_of, worn_world, next_view, after_view, content_now}
use Rattle.ak_world.proofs.Closing.{whole_before}
use Rattle.ak_world.proofs.ContentsOfLeaves.{after}
use Rattle.ak_world.proofs.ContentsOfNames.{names, neither, passed, told}
use Rattle.ak_world.proofs.FrontPoints.{front_points}

-- ---- One series

points_closed : (s : Series) (a : ℕ) → accepted_points (closed_at s a) ≡ accepted_points s
points_closed s a =
    front_points (closed_at s a) s.closed (leaf_at s a ∷ []) refl
    ∙ ap (λ (ps : List Point). points_of s.closed ++ ps) (append-nil (s.written ++ []) ∙ append-nil s.written)

points_push : (s : Series) (p : Point) → accepted_points (with_point s p) ≡ accepted_points s ++ p ∷ []
points_push s p = sym (append_assoc (points_of s.closed) s.written (p ∷ []))

-- ---- All of them

of_name : (name : List ℕ) (ps qs : List Point) → ps ≡ qs → ◌≡◌ {A = SeriesPoints} (record { name = name; points = ps }) (record { name = name; points = qs })
of_name name ps qs same = ap (λ (points : List Point). record { name = name; points = points }) same

all_closed : (ss : List Series) (n a : ℕ) → map series_points (changed ss n (λ s. closed_at s a)) ≡ map series_points ss
all_closed [] n a = refl
all_closed (s ∷ ss) zero a = ap (λ (x : SeriesPoints). x ∷ map series_points ss) (of_name s.name _ _ (points_closed s a))
all_closed (s ∷ ss) (suc n) a = ap (λ (xs : List SeriesPoints). series_points s ∷ xs) (all_closed ss n a)

all_pushed : (ss : List Series) (n : ℕ) (p : Point) → map series_points (changed ss n (λ s. with_point s p)) ≡ accepted_with (map series_points ss) n p
all_pushed [] n p = refl
all_pushed (s ∷ ss) zero p = ap (λ (x : SeriesPoints). x ∷ map series_points ss) (of_name s.name _ _ (points_push s p))
all_pushed (s ∷ ss) (suc n) p = ap (λ (xs : List SeriesPoints). series_points s ∷ xs) (all_pushed ss n p)

-- ---- Views and leaves

either : (u v w : World) (b : Bool) → accepted_now v ≡ accepted_now u → accepted_now w ≡ accepted_now u → accepted_now (if b then v else w) ≡ accepted_now u
either u v w true first second = first
either u v w false first second = second

pub view_stays : (w : World) → accepted_now (after_view w) ≡ accepted_now w
view_stays w = either w (worn_world w) (record w { earlier = views_of w; last = next_view w; since = 0 }) (nat_le (2 ^ 64 - 1) w.last.number) refl refl

pub switch_stays : (w : World) → accepted_now (switch w) ≡ accepted_now w
switch_stays w =
    let new : World = record w { ordinals = switched w.ordinals } in
    either w (worn_world w) (after_view new) (newest w.ordinals == 2 ^ 32 - 1) refl (view_stays new)

room_stays : (w : World) (blocks : ℕ) → accepted_now (with_room w blocks) ≡ accepted_now w
room_stays w blocks = either w w (switch w) (nat_le (newest_fill w.ordinals + blocks) w.ordinals.blocks) refl (switch_stays w)

enter_stays : (w : World) (n blocks : ℕ) → accepted_now (entered w n blocks) ≡ accepted_now w
enter_stays w n blocks = either w w (after w n blocks) w.worn refl (all_closed w.series n (address (newest w.ordinals) (newest_fill w.ordinals)))

pub close_stays : (w : World) (n : ℕ) → accepted_now (closed w n) ≡ accepted_now w
close_stays w n = enter_stays (with_room w (group_of w n)) n (group_of w n) ∙ room_stays w (group_of w n)

unless_stays : (w : World) (f : World → World) → ((v : World) → accepted_now (f v) ≡ accepted_now v) → accepted_now (unless_worn w f) ≡ accepted_now w
unless_stays w f step = either w w (f w) w.worn refl (step w)

fit_stays : (n : ℕ) (p : Point) (w : World) → accepted_now (made_fit n p w) ≡ accepted_now w
fit_stays n p w = either w w (closed w n) (is_fit (written_in w.series n) p) refl (close_stays w n)

make_stays : (n : ℕ) (w : World) → accepted_now (made_room n w) ≡ accepted_now w
make_stays n w = either w (closed w (oldest w.recent)) w (is_empty (written_in w.series n) && nat_le (limits_of w).pool (length w.recent)) (close_stays w (oldest w.recent)) refl

time_stays : (w : World) → accepted_now (in_time w) ≡ accepted_now w
time_stays w = either w (after_view w) w (nat_le (limits_of w).every w.since) (view_stays w) refl

from_stays : (count n : ℕ) (w : World) → accepted_now (closed_from count n w) ≡ accepted_now w
from_stays zero n w = refl
from_stays (suc count) n w =
    let next : World = if is_empty (written_in w.series n) then w else unless_worn w (λ v. closed v n) in
    from_stays count (suc n) next ∙ either w w (unless_worn w (λ v. closed v n)) (is_empty (written_in w.series n)) refl (unless_stays w (λ v. closed v n) (λ v. close_stays v n))

pub flush_stays : (w : World) → accepted_now (flushed w) ≡ accepted_now w
flush_stays w = unless_stays (closed_from (length w.series) 0 w) after_view view_stays ∙ from_stays (length w.series) 0 w

-- ---- Names

name_more : (ss : List Series) (name : List ℕ) → list_any (λ n. bytes_eq name n) (names ss) ≡ false
    → map series_points (with_name ss name) ≡ map series_points ss ++ series_points (new_series name) ∷ []
name_more [] name new = refl
name_more (s ∷ ss) name new =
    let apart = neither (bytes_eq name s.name) (list_any (λ n. bytes_eq name n) (names ss)) new in
    ap (map series_points) (passed name s ss apart.0) ∙ ap (λ (xs : List SeriesPoints). series_points s ∷ xs) (name_more ss name apart.1)

pub name_comes : (w : World) (name : List ℕ) → list_any (λ n. bytes_eq name n) (names_of (content_now w).series) ≡ false
    → accepted_now (record w { series = with_name w.series name }) ≡ accepted_now w ++ series_points (new_series name) ∷ []
name_comes w name new = name_more w.series name (told w name false new)

-- ---- Points

-- the store with room for a point, or worn
abbrev pub ready : World → ℕ → Point → World
ready w n p = unless_worn (unless_worn w (made_fit n p)) (made_room n)

ready_stays : (w : World) (n : ℕ) (p : Point) → accepted_now (ready w n p) ≡ accepted_now w
ready_stays w n p =
    unless_stays (unless_worn w (made_fit n p)) (made_room n) (make_stays n) ∙ unless_stays w (made_fit n p) (fit_stays n p)

unless_is : (w : World) (f : World → World) → w.worn ≡ true → unless_worn w f ≡ w
unless_is w f worn = ap (λ (b : Bool). if b then w else f w) worn

unless_does : (w : World) (f : World → World) → w.worn ≡ false → unless_worn w f ≡ f w
unless_does w f fresh = ap (λ (b : Bool). if b then w else f w) fresh

-- a store that was worn before the point could come
worn_ready : (w : World) (n : ℕ) (p : Point) → (ready w n p).worn ≡ true → accepted w n p ≡ ready w n p
worn_ready w n p worn =
    let room : World = ready w n p in
    ap (λ (v : World). unless_worn v in_time) (unless_is room (added n p) worn) ∙ unless_is room in_time worn

pub worn_stays : (w : World) (n : ℕ) (p : Point) → (ready w n p).worn ≡ true → accepted_now (accepted w n p) ≡ accepted_now w
worn_stays w n p worn = ap accepted_now (worn_ready w n p worn) ∙ ready_stays w n p

pub room_comes : (w : World) (n : ℕ) (p : Point) → (ready w n p).worn ≡ false → accepted_now (accepted w n p) ≡ accepted_with (accepted_now w) n p
room_comes w n p fresh =
    let room : World = ready w n p in
    unless_stays (unless_worn room (added n p)) in_time time_stays
    ∙ ap accepted_now (unless_does room (added n p) fresh)
    ∙ all_pushed room.series n p
    ∙ ap (λ (all : List SeriesPoints). accepted_with all n p) (ready_stays w n p)

ready_fresh : (w : World) (n : ℕ) (p : Point) → (accepted w n p).worn ≡ false → (ready w n p).worn ≡ false
ready_fresh w n p whole =
    let room : World = ready w n p in
    let more : World = unless_worn room (added n p) in
    whole_before room.worn room (added n p room) refl (whole_before more.worn more (in_time more) refl whole)

pub accept_comes : (w : World) (n : ℕ) (p : Point) → (accepted w n p).worn ≡ false → accepted_now (accepted w n p) ≡ accepted_with (accepted_now w) n p
accept_comes w n p whole = room_comes w n p (ready_fresh w n p whole)

-- ---- Points by name

-- some series has this name
abbrev IsKnown : List SeriesPoints → List ℕ → Type 0
IsKnown all name = list_any (λ a. bytes_eq a.name name) all ≡ true

-- its number
abbrev number_under : List SeriesPoints → List ℕ → ℕ
number_under [] name = zero
number_under (a ∷ all) name = if bytes_eq a.name name then zero else suc (number_under all name)

number_is : (ss : List Series) (name : List ℕ) → number_in ss name ≡ number_under (map series_points ss) name
number_is [] name = refl
number_is (s ∷ ss) name = ap (λ (n : ℕ). if bytes_eq s.name name then zero else suc n) (number_is ss name)

known_or : (b rest more : Bool) → (rest ≡ true → more ≡ true) → (b || rest) ≡ true → (b || more) ≡ true
known_or true rest more step known = refl
known_or false rest more step known = step known

known_with : (all : List SeriesPoints) (n : ℕ) (p : Point) (name : List ℕ) → IsKnown all name → IsKnown (accepted_with all n p) name
known_with [] n p name known = known
known_with (a ∷ all) zero p name known = known
known_with (a ∷ all) (suc n) p name known =
    known_or (bytes_eq a.name name) (list_any (λ a. bytes_eq a.name name) all) (list_any (λ a. bytes_eq a.name name) (accepted_with all n p)) (known_with all n p name) known

known_later : (a : SeriesPoints) (all : List SeriesPoints) (name : List ℕ) → bytes_eq a.name name ≡ false → IsKnown (a ∷ all) name → IsKnown all name
known_later a all name apart known = sym (ap (λ (b : Bool). b || list_any (λ a. bytes_eq a.name name) all) apart) ∙ known

-- the point, where it is of this name
abbrev only : Bool → Point → List Point
only b p = if b then p ∷ [] else []

-- the first one has the name
first_more : (b : Bool) (ps qs : List Point) (p : Point) → (if b then ps ++ p ∷ [] else qs) ≡ (if b then ps else qs) ++ only b p
first_more true ps qs p = refl
first_more false ps qs p = sym (append-nil qs)

-- a later one has it
later_more : (b c : Bool) (ps qs more : List Point) (p : Point) → (b ≡ true → c ≡ false) → (b ≡ false → more ≡ qs ++ only c p) → (if b then ps else more) ≡ (if b then ps else qs) ++ only c p
later_more true c ps qs more p other same = sym (ap (λ (d : Bool). ps ++ only d p) (other refl) ∙ append-nil ps)
later_more false c ps qs more p other same = same refl

not_true : (b : Bool) → (b ≡ true → ⊥) → b ≡ false
not_true true never = absurd (never refl)
not_true false never = refl

-- a name that the first one hasn't isn't the one that it has
apart_from : (first name other : List ℕ) → bytes_eq first name ≡ false → bytes_eq first other ≡ true → bytes_eq name other ≡ false
apart_from first name other apart here = not_true (bytes_eq name other) (λ same.
    let one : first ≡ other = (bytes_eq-Decides first other).0 here in
    let two : name ≡ other = (bytes_eq-Decides name other).0 same in
    true≢false (sym ((bytes_eq-Decides first name).1 (one ∙ sym two)) ∙ apart))

-- the points of its name have one more, and those of others stay
own_more : (all : List SeriesPoints) (name other : List ℕ) (p : Point) → IsKnown all name
    → points_under (accepted_with all (number_under all name) p) other ≡ points_under all other ++ only (bytes_eq name other) p
own_more [] name other p known = absurd (cc)
own_more (a ∷ all) name other p known = elim (cases_Bool (bytes_eq a.name name)) [
  | inl here ↦
      ap (λ (b : Bool). points_under (accepted_with (a ∷ all) (if b then zero else suc (number_under all name)) p) other) here
      ∙ first_more (bytes_eq a.name other) a.points (points_under all other) p
      ∙ ap (λ (n : List ℕ). points_under (a ∷ all) other ++ only (bytes_eq n other) p) ((bytes_eq-Decides a.name name).0 here)
  | inr apart ↦ (let rest : IsKnown all name = known_later a all name apart known in
      ap (λ (b : Bool). points_under (accepted_with (a ∷ all) (if b then zero else suc (number_under all name)) p) other) apart
      ∙ later_more (bytes_eq a.name other) (bytes_eq name other) a.points (points_under all other) (points_under (accepted_with all (number_under all name) p) other) p
      (apart_from a.name name other apart)
      (λ _. own_more all name other p rest))
]

-- ---- Points that come

-- no point is given
pub none_given : (worn : Bool) (old : List Point) → Gains worn [] old old
none_given worn old = record { came = []; rest = []; new_is = sym (append-nil old); given_is = refl; whole = λ _. refl }

-- points behind others: where the store was worn by the first, no others come
pub gains_join : (a b : Bool) (first second old between new : List Point) → Gains a first old between → Gains b second between new → (a ≡ true → (b ≡ true) × (new ≡ between)) → Gains b (first ++ second) old new
gains_join true b first second old between new g h still = record {
  came = g.came;
  rest = g.rest ++ second;
  new_is = (still refl).1 ∙ g.new_is;
  given_is = ap (λ (ps : List Point). ps ++ second) g.given_is ∙ append_assoc g.came g.rest second;
  whole = λ fresh. absurd (true≢false (sym (still refl).0 ∙ fresh));
}
gains_join false b first second old between new g h still =
    let all : first ≡ g.came = g.given_is ∙ ap (λ (ps : List Point). g.came ++ ps) (g.whole refl) ∙ append-nil g.came in
    record {
      came = g.came ++ h.came;
      rest = h.rest;
      new_is = h.new_is ∙ ap (λ (ps : List Point). ps ++ h.came) g.new_is ∙ append_assoc old g.came h.came;
      given_is = ap (λ (ps : List Point). ps ++ second) all ∙ ap (λ (ps : List Point). g.came ++ ps) h.given_is ∙ sym (append_assoc g.came h.came h.rest);
      whole = h.whole;
    }

-- ---- Puts

worn_accept : (w : World) (n : ℕ) (p : Point) → w.worn ≡ true → accepted w n p ≡ w
worn_accept w n p worn =
    let same : ready w n p ≡ w = ap (λ (v : World). unless_worn v (made_room n)) (unless_is w (made_fit n p) worn) ∙ unless_is w (made_room n) worn in
    worn_ready w n p (ap (λ (v : World). v.worn) same ∙ worn) ∙ same

worn_all : (w : World) (names : List (List ℕ)) (ts : ℕ) (vs : List ℤ) → w.worn ≡ true → all_accepted w names ts vs ≡ w
worn_all w [] ts vs worn = refl
worn_all w (name ∷ names) ts [] worn = refl
worn_all w (name ∷ names) ts (v ∷ vs) worn =
    ap (λ (u : World). all_accepted u names ts vs) (worn_accept w (number_in w.series name) (record { ts = ts; value = v }) worn) ∙ worn_all w names ts vs worn

one_gains : (w : World) (name other : List ℕ) (p : Point) → IsKnown (accepted_now w) name
    → Gains (accepted w (number_in w.series name) p).worn (only (bytes_eq name other) p) (accepted_of w other) (accepted_of (accepted w (number_in w.series name) p) other)
one_gains w name other p known =
    let n = number_in w.series name in
    elim (cases_Bool (ready w n p).worn) [
      | inl worn ↦ record {
        came = [];
        rest = only (bytes_eq name other) p;
        new_is = ap (λ (all : List SeriesPoints). points_under all other) (worn_stays w n p worn) ∙ sym (append-nil (accepted_of w other));
        given_is = refl;
        whole = λ fresh. absurd (true≢false (sym (ap (λ (v : World). v.worn) (worn_ready w n p worn) ∙ worn) ∙ fresh));
      }
      | inr fresh ↦ record {
        came = only (bytes_eq name other) p;
        rest = [];
        new_is =
            ap (λ (all : List SeriesPoints). points_under all other) (room_comes w n p fresh)
            ∙ ap (λ (k : ℕ). points_under (accepted_with (accepted_now w) k p) other) (number_is w.series name)
            ∙ own_more (accepted_now w) name other p known;
        given_is = sym (append-nil (only (bytes_eq name other) p));
        whole = λ _. refl;
      }
    ]

known_after : (w : World) (n : ℕ) (p : Point) (name : List ℕ) → IsKnown (accepted_now w) name → IsKnown (accepted_now (accepted w n p)) name
known_after w n p name known = elim (cases_Bool (ready w n p).worn) [
  | inl worn ↦ subst (λ (all : List SeriesPoints). IsKnown all name) (sym (worn_stays w n p worn)) known
  | inr fresh ↦ subst (λ (all : List SeriesPoints). IsKnown all name) (sym (room_comes w n p fresh)) (known_with (accepted_now w) n p name known)
]

given_more : (b : Bool) (p : Point) (ps : List Point) → (if b then p ∷ ps else ps) ≡ only b p ++ ps
given_more true p ps = refl
given_more false p ps = refl

all_gain : (w : World) (names : List (List ℕ)) (ts : ℕ) (vs : List ℤ) (other : List ℕ) → AllByRecursion (IsKnown (accepted_now w)) names
    → Gains (all_accepted w names ts vs).worn (points_for other names ts vs) (accepted_of w other) (accepted_of (all_accepted w names ts vs) other)
all_gain w [] ts vs other known = none_given w.worn (accepted_of w other)
all_gain w (name ∷ names) ts [] other known = none_given w.worn (accepted_of w other)
all_gain w (name ∷ names) ts (v ∷ vs) other known =
    let p : Point = record { ts = ts; value = v } in
    let n = number_in w.series name in
    let next : World = accepted w n p in
    let last : World = all_accepted next names ts vs in
    subst (λ (given : List Point). Gains last.worn given (accepted_of w other) (accepted_of last other)) (sym (given_more (bytes_eq name other) p (points_for other names ts vs)))
    (gains_join next.worn last.worn (only (bytes_eq name other) p) (points_for other names ts vs) (accepted_of w other) (accepted_of next other) (accepted_of last other)
    (one_gains w name other p known.0)
    (all_gain next names ts vs other (each_taken (IsKnown (accepted_now w)) (IsKnown (accepted_now next)) (known_after w n p) names known.1))
    (λ worn. let same : last ≡ next = worn_all next names ts vs worn in
    (ap (λ (u : World). u.worn) same ∙ worn, ap (λ (u : World). accepted_of u other) same)))

-- ---- Puts of new names

name_known : (ss : List Series) (name : List ℕ) → IsKnown (map series_points (with_name ss name)) name
name_known [] name = ap (λ (b : Bool). b || false) ((bytes_eq-Decides name name).1 refl)
name_known (s ∷ ss) name = of (name_known ss name) (bytes_eq s.name name) refl where
  of : IsKnown (map series_points (with_name ss name)) name → (b : Bool) → bytes_eq s.name name ≡ b → IsKnown (map series_points (if b then s ∷ ss else s ∷ with_name ss name)) name
  of rest true here = ap (λ (b : Bool). b || list_any (λ a. bytes_eq a.name name) (map series_points ss)) here
  of rest false apart = ap (λ (b : Bool). b || list_any (λ a. bytes_eq a.name name) (map series_points (with_name ss name))) apart ∙ rest

name_keeps : (ss : List Series) (name other : List ℕ) → IsKnown (map series_points ss) other → IsKnown (map series_points (with_name ss name)) other
name_keeps [] name other known = absurd (cc)
name_keeps (s ∷ ss) name other known = of (name_keeps ss name other) (bytes_eq s.name name) where
  of : (IsKnown (map series_points ss) other → IsKnown (map series_points (with_name ss name)) other) → (b : Bool) → IsKnown (map series_points (if b then s ∷ ss else s ∷ with_name ss name)) other
  of rest true = known
  of rest false =
      known_or (bytes_eq s.name other) (list_any (λ a. bytes_eq a.name other) (map series_points ss)) (list_any (λ a. bytes_eq a.name other) (map series_points (with_name ss name))) rest known

either_list : (b : Bool) (ps : List Point) → (if b then ps else ps) ≡ ps
either_list true ps = refl
either_list false ps = refl

name_leaves : (ss : List Series) (name other : List ℕ) → points_under (map series_points (with_name ss name)) other ≡ points_under (map series_points ss) other
name_leaves [] name other = either_list (bytes_eq name other) []
name_leaves (s ∷ ss) name other = of (name_leaves ss name other) (bytes_eq s.name name) where
  of : points_under (map series_points (with_name ss name)) other ≡ points_under (map series_points ss) other
      → (b : Bool) → points_under (map series_points (if b then s ∷ ss else s ∷ with_name ss name)) other ≡ points_under (map series_points (s ∷ ss)) other
  of rest true = refl
  of rest false = ap (λ (ps : List Point). if bytes_eq s.name other then accepted_points s else ps) rest

names_keep : (names : List (List ℕ)) (ss : List Series) (other : List ℕ) → IsKnown (map series_points ss) other → IsKnown (map series_points (with_names ss names)) other
names_keep [] ss other known = known
names_keep (name ∷ names) ss other known = names_keep names (with_name ss name) other (name_keeps ss name other known)

names_known : (names : List (List ℕ)) (ss : List Series) → AllByRecursion (IsKnown (map series_points (with_names ss names))) names
names_known [] ss = tt
names_known (name ∷ names) ss = (names_keep names (with_name ss name) name (name_known ss name), names_known names (with_name ss name))

names_leave : (names : List (List ℕ)) (ss : List Series) (other : List ℕ) → points_under (map series_points (with_names ss names)) other ≡ points_under (map series_points ss) other
names_leave [] ss other = refl
names_leave (name ∷ names) ss other = names_leave names (with_name ss name) other ∙ name_leaves ss name other

pub put_gains : (w : World) (names : List (List ℕ)) (ts : ℕ) (vs : List ℤ) (name : List ℕ)
    → Gains (after_points w names ts vs).worn (given_to w name names ts vs) (accepted_of w name) (accepted_of (after_points w names ts vs) name)
put_gains w names ts vs name = of (is_some (refusal_of w names ts)) where
  last : World
  last = all_accepted (named w names) names ts vs

  of : (b : Bool) → Gains (if b then w else last).worn (if b then [] else points_for name names ts vs) (accepted_of w name) (accepted_of (if b then w else last) name)
  of true = none_given w.worn (accepted_of w name)
  of false =
      subst (λ (old : List Point). Gains last.worn (points_for name names ts vs) old (accepted_of last name)) (names_leave names w.series name)
      (all_gain (named w names) names ts vs name (names_known names w.series))

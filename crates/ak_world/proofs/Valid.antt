-- Steps keep a world valid.
use Rattle.std.proofs.Common.{◌≡◌, ◌≢◌, inl, inr, ℕ, zero, suc, ◌+◌, ◌-◌, ◌^◌, ◌<◌, ◌≤◌, ◌∙◌, List, [], ◌∷◌, ◌++◌, length, drop, map, slice_set, Option, Some, None, Bool, true, false, bytes_eq, refl, sym, ap, subst, arith, length-append, append_assoc}
use Rattle.std.proofs.lemmas.List.{append-nil, length-set, nil_from_length}
use Rattle.std.proofs.lemmas.Bool.{cases_eq, eqb-false, ne_eqb, cond-false, true≢false}
use Rattle.std.specs.List.{AllByRecursion}
use Rattle.std.specs.Prelude.{◌==◌, nat_le, nat_lt, if◌then◌else◌, slice_index, IfSome}
use Rattle.ak_base.specs.Points.{IsPoint, IsHistoryFrom, last_ts_from}
use Rattle.ak_base.specs.declared.point.Point.{Point}
use Rattle.ak_meta.proofs.Fronts.{each_push, each_taken}
use Rattle.ak_meta.specs.Contents.{IsMeta, IsSeries}
use Rattle.ak_meta.specs.declared.meta.SeriesMeta.{SeriesMeta}
use Rattle.ak_volumes.proofs.Switching.{AreOrdinals-switched}
use Rattle.ak_volumes.specs.Ordinals.{Ordinals, AreOrdinals, IsLive, newest, newest_fill, address, ordinal_of, index_of, filled, switched}
use Rattle.ak_world.specs.Leaves.{Leaf, Series, new_series, with_point, closed_at, leaf_at, leaves_from, points_of}
use Rattle.ak_world.specs.Views.{View, last_time, known_of, all_known}
use Rattle.ak_world.specs.Worlds.{World, views_of, limits_of, worn_world, next_view, after_view, time_of}
use Rattle.ak_world.specs.Steps.{changed, written_in, last_at, switch, entered, added, but}
use Rattle.ak_world.specs.Puts.{with_name}
use Rattle.ak_world.specs.Valid.{AreNumbered, last_now, IsSeriesOf, unknown, AreSeriesOf, IsHeld, AreHeld, IsPrefix, IsWorld}
use Rattle.ak_world.proofs.ContentsOfLeaves.{after, time_more}
use Rattle.ak_world.proofs.FrontPoints.{front_points}

-- ---- Views

held_one : (lo : ℕ) (o : SeriesMeta) (s : Series) → IsHeld lo (known_of o s) (leaves_from lo s.closed) s
held_one lo o s = record {
  name = refl;
  had = s.closed;
  later = [];
  closed = sym (append-nil s.closed);
  count = omega arith;
  rest = s.written;
  points = refl;
  kept_is = refl;
}

-- a view that is taken now holds all that is live
pub held_now : (lo : ℕ) (opened : List SeriesMeta) (ss : List Series) → AreHeld lo (all_known opened ss) (map (λ (s : Series). leaves_from lo s.closed) ss) ss
held_now lo opened [] = refl
held_now lo [] (s ∷ ss) = (held_one lo (unknown s.name) s, held_now lo [] ss)
held_now lo (o ∷ opened) (s ∷ ss) = (held_one lo o s, held_now lo opened ss)

-- the series of this number has an open leaf
abbrev pub IsOpen : List Series → ℕ → Type 0
IsOpen ss n = (n < length ss) × (written_in ss n ≢ [])

-- a view is taken of a world that may have begun an ordinal since the last
taken : (w : World) → IsMeta w.opened.content → AreOrdinals w.ordinals → w.ordinals.volumes ≡ (limits_of w).volumes → w.ordinals.blocks ≡ (limits_of w).blocks
    → AreSeriesOf w.opened.content.series w.series → AllByRecursion (IsOpen w.series) w.recent → AllByRecursion (IsPrefix w.series) (views_of w) → IsWorld (record w { earlier = views_of w; last = next_view w; since = 0 })
taken w rules lawful volumes blocks series recent held = record {
  rules_are = rules;
  limits_are = refl;
  lawful = lawful;
  volumes = volumes;
  blocks = blocks;
  behind = record { volumes = refl; blocks = refl; lo = refl; number = refl; live = λ a live. live };
  series = series;
  recent = recent;
  held = each_push (IsPrefix w.series) (views_of w) (next_view w) held (held_now w.ordinals.lo w.opened.content.series w.series);
}

worn_valid : (w : World) → IsWorld w → IsWorld (worn_world w)
worn_valid w is = record {
  rules_are = is.rules_are;
  limits_are = is.limits_are;
  lawful = is.lawful;
  volumes = is.volumes;
  blocks = is.blocks;
  behind = is.behind;
  series = is.series;
  recent = is.recent;
  held = is.held;
}

pub either : (b : Bool) (u w : World) → (b ≡ true → IsWorld u) → (b ≡ false → IsWorld w) → IsWorld (if b then u else w)
either true u w first second = first refl
either false u w first second = second refl

pub view_valid : (w : World) → IsWorld w → IsWorld (after_view w)
view_valid w is =
    either (nat_le (2 ^ 64 - 1) w.last.number) (worn_world w) (record w { earlier = views_of w; last = next_view w; since = 0 })
    (λ _. worn_valid w is)
    (λ _. taken w is.rules_are is.lawful is.volumes is.blocks is.series is.recent is.held)

-- ---- Ordinals

switched_volumes : (o : Ordinals) → (switched o).volumes ≡ o.volumes
switched_volumes o = of (nat_lt o.volumes (length o.fills + 1)) where
  of : (b : Bool) → (if b then record o { lo = o.lo + 1; fills = drop 1 o.fills ++ 0 ∷ [] } else record o { fills = o.fills ++ 0 ∷ [] }).volumes ≡ o.volumes
  of true = refl
  of false = refl

switched_blocks : (o : Ordinals) → (switched o).blocks ≡ o.blocks
switched_blocks o = of (nat_lt o.volumes (length o.fills + 1)) where
  of : (b : Bool) → (if b then record o { lo = o.lo + 1; fills = drop 1 o.fills ++ 0 ∷ [] } else record o { fills = o.fills ++ 0 ∷ [] }).blocks ≡ o.blocks
  of true = refl
  of false = refl

item_push : (xs : List ℕ) (x : ℕ) → slice_index (xs ++ x ∷ []) (length xs) ≡ x
item_push [] x = refl
item_push (y ∷ xs) x = item_push xs x

last_push : (xs : List ℕ) (x : ℕ) → slice_index (xs ++ x ∷ []) (length (xs ++ x ∷ []) - 1) ≡ x
last_push xs x =
    let e : length (xs ++ x ∷ []) - 1 ≡ length xs = omega (arith, length-append xs (x ∷ [])) in
    ap (slice_index (xs ++ x ∷ [])) e ∙ item_push xs x

-- the new ordinal is empty
new_fill : (o : Ordinals) → newest_fill (switched o) ≡ 0
new_fill o = of (nat_lt o.volumes (length o.fills + 1)) where
  of : (b : Bool) → newest_fill (if b then record o { lo = o.lo + 1; fills = drop 1 o.fills ++ 0 ∷ [] } else record o { fills = o.fills ++ 0 ∷ [] }) ≡ 0
  of true = last_push (drop 1 o.fills) 0
  of false = last_push o.fills 0

-- one of two worlds, which isn't worn
pub one_world : (P : World → Type 0) (b : Bool) (u w : World) → (b ≡ true → u.worn ≡ false → P u) → (b ≡ false → w.worn ≡ false → P w) → (if b then u else w).worn ≡ false → P (if b then u else w)
one_world P true u w first second whole = first refl whole
one_world P false u w first second whole = second refl whole

-- a valid world of the same series, in which so many blocks fit
pub record HasRoom (w v : World) (blocks : ℕ) : Type 0 where
  pub valid : IsWorld v
  pub series : v.series ≡ w.series
  pub fits : newest_fill v.ordinals + blocks ≤ v.ordinals.blocks

pub switch_room : (w : World) (blocks : ℕ) → IsWorld w → blocks ≤ w.ordinals.blocks → (switch w).worn ≡ false → HasRoom w (switch w) blocks
switch_room w blocks is few whole =
    let o = w.ordinals in
    let new : World = record w { ordinals = switched o } in
    one_world (λ (v : World). HasRoom w v blocks) (newest o == 2 ^ 32 - 1) (worn_world w) (after_view new)
    (λ _ other. absurd (true≢false other))
    (λ room whole.
    let below : newest o ≢ 2 ^ 32 - 1 = eqb-false (newest o) (2 ^ 32 - 1) room in
    one_world (λ (v : World). HasRoom w v blocks) (nat_le (2 ^ 64 - 1) w.last.number) (worn_world new) (record new { earlier = views_of new; last = next_view new; since = 0 })
    (λ _ other. absurd (true≢false other))
    (λ _ _. record {
      valid = taken new is.rules_are (AreOrdinals-switched o is.lawful (omega (arith, below, is.lawful.last, is.lawful.some))) (switched_volumes o ∙ is.volumes) (switched_blocks o ∙ is.blocks) is.series is.recent is.held;
      series = refl;
      fits = omega (arith, new_fill o, switched_blocks o, few);
    })
    whole)
    whole

pub switch_valid : (w : World) → IsWorld w → (switch w).worn ≡ false → IsWorld (switch w)
switch_valid w is whole = (switch_room w 0 is (omega arith) whole).valid

each_set : (b : ℕ) (xs : List ℕ) (i y : ℕ) → AllByRecursion (λ n. n ≤ b) xs → y ≤ b → AllByRecursion (λ n. n ≤ b) (slice_set xs i y)
each_set b [] i y each below = tt
each_set b (x ∷ xs) zero y each below = (below, each.1)
each_set b (x ∷ xs) (suc i) y each below = (each.0, each_set b xs i y each.1 below)

filled_lawful : (o : Ordinals) (blocks : ℕ) → AreOrdinals o → newest_fill o + blocks ≤ o.blocks → AreOrdinals (filled o blocks)
filled_lawful o blocks are fits =
    let long : length (slice_set o.fills (length o.fills - 1) (newest_fill o + blocks)) ≡ length o.fills = length-set o.fills (length o.fills - 1) (newest_fill o + blocks) in
    record {
      some = omega (arith, long, are.some);
      most = omega (arith, long, are.most);
      within = each_set o.blocks o.fills (length o.fills - 1) (newest_fill o + blocks) are.within fits;
      last = omega (arith, long, are.last);
      indexes = are.indexes;
    }

-- no fill gets smaller
fill_grows : (fills : List ℕ) (n i more x : ℕ) → x < slice_index fills i → x < slice_index (slice_set fills n (slice_index fills n + more)) i
fill_grows [] n i more x below = below
fill_grows (f ∷ fills) zero zero more x below = omega arith
fill_grows (f ∷ fills) zero (suc i) more x below = below
fill_grows (f ∷ fills) (suc n) zero more x below = below
fill_grows (f ∷ fills) (suc n) (suc i) more x below = fill_grows fills n i more x below

filled_live : (o : Ordinals) (blocks a : ℕ) → IsLive o a → IsLive (filled o blocks) a
filled_live o blocks a live =
    let n = length o.fills - 1 in
    let long : length (slice_set o.fills n (newest_fill o + blocks)) ≡ length o.fills = length-set o.fills n (newest_fill o + blocks) in
    record {
      ordinal = record { from = live.ordinal.from; to = omega (arith, long, live.ordinal.to) };
      index = fill_grows o.fills n (ordinal_of a - o.lo) blocks (index_of a) live.index;
    }

-- ---- Views of series that grow

-- a series of the same name, with so many closed leaves more as its count tells
pub record Grows (s t : Series) : Type 0 where
  pub name : t.name ≡ s.name
  pub more : List Leaf
  pub closed : t.closed ≡ s.closed ++ more
  pub count : t.leaves ≡ s.leaves + length more

grown : (lo : ℕ) (known : SeriesMeta) (kept : List Leaf) (s t : Series) → Grows s t → IsHeld lo known kept s → IsHeld lo known kept t
grown lo known kept s t grows held =
    let all : t.closed ≡ held.had ++ (held.later ++ grows.more) = grows.closed ∙ ap (λ (l : List Leaf). l ++ grows.more) held.closed ∙ append_assoc held.had held.later grows.more in
    record {
      name = held.name ∙ sym grows.name;
      had = held.had;
      later = held.later ++ grows.more;
      closed = all;
      count = omega (arith, held.count, grows.count, length-append held.later grows.more);
      rest = points_of (held.later ++ grows.more) ++ t.written;
      points = front_points t held.had (held.later ++ grows.more) all;
      kept_is = held.kept_is;
    }

held_more : (lo : ℕ) (all : List SeriesMeta) (kept : List (List Leaf)) (ss : List Series) (n : ℕ) (f : Series → Series) → ((s : Series) → Grows s (f s)) → AreHeld lo all kept ss → AreHeld lo all kept (changed ss n f)
held_more lo [] kept ss n f grows held = held
held_more lo (known ∷ all) [] ss n f grows held = absurd held
held_more lo (known ∷ all) (leaves ∷ kept) [] n f grows held = held
held_more lo (known ∷ all) (leaves ∷ kept) (s ∷ ss) zero f grows held = (grown lo known leaves s (f s) (grows s) held.0, held.1)
held_more lo (known ∷ all) (leaves ∷ kept) (s ∷ ss) (suc n) f grows held = (held.0, held_more lo all kept ss n f grows held.1)

pub views_more : (views : List View) (ss : List Series) (n : ℕ) (f : Series → Series) → ((s : Series) → Grows s (f s)) → AllByRecursion (IsPrefix ss) views → AllByRecursion (IsPrefix (changed ss n f)) views
views_more views ss n f grows held = each_taken (IsPrefix ss) (IsPrefix (changed ss n f)) (λ view here. held_more view.content.ordinals.lo view.content.series view.kept ss n f grows here) views held

-- ---- Open leaves

pub length_changed : (ss : List Series) (n : ℕ) (f : Series → Series) → length (changed ss n f) ≡ length ss
length_changed [] n f = refl
length_changed (s ∷ ss) zero f = refl
length_changed (s ∷ ss) (suc n) f = ap suc (length_changed ss n f)

written_other : (ss : List Series) (n m : ℕ) (f : Series → Series) → m ≢ n → written_in (changed ss n f) m ≡ written_in ss m
written_other [] n m f other = refl
written_other (s ∷ ss) zero zero f other = absurd (other refl)
written_other (s ∷ ss) zero (suc m) f other = refl
written_other (s ∷ ss) (suc n) zero f other = refl
written_other (s ∷ ss) (suc n) (suc m) f other = written_other ss n m f (λ e. other (ap suc e))

-- another series keeps its open leaf
still_open : (ss : List Series) (n m : ℕ) (f : Series → Series) → m ≢ n → IsOpen ss m → IsOpen (changed ss n f) m
still_open ss n m f other is = (omega (arith, length_changed ss n f, is.0), λ e. is.1 (sym (written_other ss n m f other) ∙ e))

open_unless : (P : ℕ → Type 0) (b : Bool) (x : ℕ) (xs : List ℕ) → (b ≡ false → P x) → AllByRecursion P xs → AllByRecursion P (if b then xs else x ∷ xs)
open_unless P true x xs here each = each
open_unless P false x xs here each = (here refl, each)

others_open : (ss : List Series) (n : ℕ) (f : Series → Series) (recent : List ℕ) → AllByRecursion (IsOpen ss) recent → AllByRecursion (IsOpen (changed ss n f)) (but n recent)
others_open ss n f [] each = tt
others_open ss n f (x ∷ recent) each = open_unless (IsOpen (changed ss n f)) (x == n) x (but n recent) (λ e. still_open ss n x f (eqb-false x n e) each.0) (others_open ss n f recent each.1)

point_open : (ss : List Series) (n : ℕ) (p : Point) → n < length ss → IsOpen (changed ss n (λ s. with_point s p)) n
point_open [] n p within = absurd (omega arith)
point_open (s ∷ ss) zero p within = (omega arith, λ e. omega (arith, length-append s.written (p ∷ []), ap length e))
point_open (s ∷ ss) (suc n) p within = let rest = point_open ss n p (omega arith) in (omega (arith, rest.0), rest.1)

-- ---- Closing

-- one number more
numbers_push : (first : ℕ) (leaves : List Leaf) (leaf : Leaf) → AreNumbered first leaves → leaf.number ≡ first + length leaves → AreNumbered first (leaves ++ leaf ∷ [])
numbers_push first [] leaf are is = (omega (arith, is), tt)
numbers_push first (l ∷ leaves) leaf are is = (are.0, numbers_push (suc first) leaves leaf are.1 (omega (arith, is)))

now_some : (known : SeriesMeta) (p : Point) (ps : List Point) → last_now known (p ∷ ps) ≡ Some (last_ts_from p.ts ps)
now_some known p ps = cond-false (length (p ∷ ps) == 0) (time_of known) (Some (last_ts_from p.ts ps)) (ne_eqb (length (p ∷ ps)) 0 (λ e. omega (arith, e)))

-- the last timestamp of points that are some hangs on nothing before them
last_some : (before : ℕ) (ps : List Point) (known : SeriesMeta) → ps ≢ [] → last_now known ps ≡ Some (last_ts_from before ps)
last_some before [] known some = absurd (some refl)
last_some before (p ∷ ps) known some = now_some known p ps

time_some : (known : SeriesMeta) (n : ℕ) → known.leaves ≡ n + 1 → time_of known ≡ Some known.last
time_some known n is = cond-false (known.leaves == 0) None (Some known.last) (ne_eqb known.leaves 0 (λ e. omega (arith, is, e)))

closed_series : (opened : SeriesMeta) (s : Series) (a : ℕ) → s.written ≢ [] → IsSeriesOf opened s → IsSeriesOf opened (closed_at s a)
closed_series opened s a some is = record {
  first = is.first;
  numbers = numbers_push is.first s.closed (leaf_at s a) is.numbers (sym is.count);
  count = omega (arith, length-append s.closed (leaf_at s a ∷ []), is.count);
  least = is.least;
  most = omega (arith, is.most);
  history = tt;
  each = tt;
  last_is =
      is.last_is ∙ last_some (last_time opened.last s.closed) s.written (known_of opened s) some
      ∙ ap Some (sym (time_more opened.last s.closed (leaf_at s a)))
      ∙ sym (time_some (known_of opened (closed_at s a)) s.leaves refl);
}

close_series : (opened : List SeriesMeta) (ss : List Series) (n a : ℕ) → n < length ss → written_in ss n ≢ [] → AreSeriesOf opened ss → AreSeriesOf opened (changed ss n (λ s. closed_at s a))
close_series opened [] n a within some are = absurd (omega arith)
close_series [] (s ∷ ss) zero a within some are = (closed_series (unknown s.name) s a some are.0, are.1)
close_series [] (s ∷ ss) (suc n) a within some are = (are.0, close_series [] ss n a (omega arith) some are.1)
close_series (o ∷ opened) (s ∷ ss) zero a within some are = (closed_series o s a some are.0, are.1)
close_series (o ∷ opened) (s ∷ ss) (suc n) a within some are = (are.0, close_series opened ss n a (omega arith) some are.1)

pub enter_valid : (w : World) (n blocks : ℕ) → IsWorld w → n < length w.series → written_in w.series n ≢ [] → newest_fill w.ordinals + blocks ≤ w.ordinals.blocks → IsWorld (entered w n blocks)
enter_valid w n blocks is within some fits =
    let o = w.ordinals in
    let a = address (newest o) (newest_fill o) in
    either w.worn w (after w n blocks) (λ _. is) (λ _. record {
      rules_are = is.rules_are;
      limits_are = is.limits_are;
      lawful = filled_lawful o blocks is.lawful fits;
      volumes = is.volumes;
      blocks = is.blocks;
      behind = record {
        volumes = is.behind.volumes;
        blocks = is.behind.blocks;
        lo = is.behind.lo;
        number = length-set o.fills (length o.fills - 1) (newest_fill o + blocks) ∙ is.behind.number;
        live = λ b live. filled_live o blocks b (is.behind.live b live);
      };
      series = close_series w.opened.content.series w.series n a within some is.series;
      recent = others_open w.series n (λ s. closed_at s a) w.recent is.recent;
      held = views_more (views_of w) w.series n (λ s. closed_at s a) (λ s. record { name = refl; more = leaf_at s a ∷ []; closed = refl; count = refl }) is.held;
    })

-- ---- Names

new_is : (name : List ℕ) → IsSeriesOf (unknown name) (new_series name)
new_is name = record { first = 0; numbers = tt; count = refl; least = omega arith; most = omega arith; history = tt; each = tt; last_is = refl }

one_of : (opened : List SeriesMeta) (b : Bool) (ss ts : List Series) → AreSeriesOf opened ss → AreSeriesOf opened ts → AreSeriesOf opened (if b then ss else ts)
one_of opened true ss ts first second = first
one_of opened false ss ts first second = second

named_series : (opened : List SeriesMeta) (ss : List Series) (name : List ℕ) → AreSeriesOf opened ss → AreSeriesOf opened (with_name ss name)
named_series [] [] name are = (new_is name, refl)
named_series (o ∷ opened) [] name are = absurd cc
named_series [] (s ∷ ss) name are = one_of [] (bytes_eq s.name name) (s ∷ ss) (s ∷ with_name ss name) are (are.0, named_series [] ss name are.1)
named_series (o ∷ opened) (s ∷ ss) name are = one_of (o ∷ opened) (bytes_eq s.name name) (s ∷ ss) (s ∷ with_name ss name) are (are.0, named_series opened ss name are.1)

held_of : (lo : ℕ) (all : List SeriesMeta) (kept : List (List Leaf)) (b : Bool) (ss ts : List Series) → AreHeld lo all kept ss → AreHeld lo all kept ts → AreHeld lo all kept (if b then ss else ts)
held_of lo all kept true ss ts first second = first
held_of lo all kept false ss ts first second = second

pub named_held : (lo : ℕ) (all : List SeriesMeta) (kept : List (List Leaf)) (ss : List Series) (name : List ℕ) → AreHeld lo all kept ss → AreHeld lo all kept (with_name ss name)
named_held lo [] kept ss name held = held
named_held lo (known ∷ all) [] ss name held = absurd held
named_held lo (known ∷ all) (leaves ∷ kept) [] name held = absurd held
named_held lo (known ∷ all) (leaves ∷ kept) (s ∷ ss) name held = held_of lo (known ∷ all) (leaves ∷ kept) (bytes_eq s.name name) (s ∷ ss) (s ∷ with_name ss name) held (held.0, named_held lo all kept ss name held.1)

open_of : (b : Bool) (ss ts : List Series) (n : ℕ) → IsOpen ss n → IsOpen ts n → IsOpen (if b then ss else ts) n
open_of true ss ts n first second = first
open_of false ss ts n first second = second

named_open : (ss : List Series) (name : List ℕ) (n : ℕ) → IsOpen ss n → IsOpen (with_name ss name) n
named_open [] name n is = absurd (omega (arith, is.0))
named_open (s ∷ ss) name zero is = open_of (bytes_eq s.name name) (s ∷ ss) (s ∷ with_name ss name) zero is (omega arith, is.1)
named_open (s ∷ ss) name (suc n) is =
    let rest = named_open ss name n (omega (arith, is.0), is.1) in
    open_of (bytes_eq s.name name) (s ∷ ss) (s ∷ with_name ss name) (suc n) is (omega (arith, rest.0), rest.1)

pub name_valid : (w : World) (name : List ℕ) → IsWorld w → IsWorld (record w { series = with_name w.series name })
name_valid w name is = record {
  rules_are = is.rules_are;
  limits_are = is.limits_are;
  lawful = is.lawful;
  volumes = is.volumes;
  blocks = is.blocks;
  behind = is.behind;
  series = named_series w.opened.content.series w.series name is.series;
  recent = each_taken (IsOpen w.series) (IsOpen (with_name w.series name)) (named_open w.series name) w.recent is.recent;
  held = each_taken (IsPrefix w.series) (IsPrefix (with_name w.series name)) (λ view here. named_held view.content.ordinals.lo view.content.series view.kept w.series name here) (views_of w) is.held;
}

-- ---- Points

history_push : (before : ℕ) (ps : List Point) (p : Point) → IsHistoryFrom before ps → last_ts_from before ps ≤ p.ts → IsHistoryFrom before (ps ++ p ∷ [])
history_push before [] p is below = (below, tt)
history_push before (q ∷ ps) p is below = (is.0, history_push q.ts ps p is.1 below)

last_ts_push : (before : ℕ) (ps : List Point) (p : Point) → last_ts_from before (ps ++ p ∷ []) ≡ p.ts
last_ts_push before [] p = refl
last_ts_push before (q ∷ ps) p = last_ts_push q.ts ps p

now_push : (known : SeriesMeta) (ps : List Point) (p : Point) → Some p.ts ≡ last_now known (ps ++ p ∷ [])
now_push known [] p = refl
now_push known (q ∷ ps) p = ap Some (sym (last_ts_push q.ts ps p)) ∙ sym (now_some known q (ps ++ p ∷ []))

-- no closed leaf is behind a point that isn't late
time_below : (opened : SeriesMeta) (s : Series) (ts : ℕ) → (opened.leaves ≡ 0 → opened.last ≡ 0) → IsSeriesOf opened s → IfSome (time_of (known_of opened s)) (λ last. last ≤ ts) → last_time opened.last s.closed ≤ ts
time_below opened s ts unused is below = elim (cases_eq s.leaves 0) [
  | inl none ↦
      let empty : s.closed ≡ [] = nil_from_length s.closed (omega (arith, none, is.count)) in
      let start : last_time opened.last s.closed ≡ opened.last = ap (last_time opened.last) empty in
      omega (arith, start, unused (omega (arith, none, is.most)))
  | inr some ↦
      let time : time_of (known_of opened s) ≡ Some (last_time opened.last s.closed) = cond-false (s.leaves == 0) None (Some (last_time opened.last s.closed)) (ne_eqb s.leaves 0 some) in
      subst (λ (o : Option ℕ). IfSome o (λ last. last ≤ ts)) time below
]

last_below : (known : SeriesMeta) (before ts : ℕ) (ps : List Point) → (IfSome (time_of known) (λ last. last ≤ ts) → before ≤ ts) → IfSome (last_now known ps) (λ last. last ≤ ts) → last_ts_from before ps ≤ ts
last_below known before ts [] none below = none below
last_below known before ts (p ∷ ps) none below = subst (λ (o : Option ℕ). IfSome o (λ last. last ≤ ts)) (now_some known p ps) below

point_series : (opened : SeriesMeta) (s : Series) (p : Point) → (opened.leaves ≡ 0 → opened.last ≡ 0) → IsPoint p → IfSome s.last (λ last. last ≤ p.ts) → IsSeriesOf opened s → IsSeriesOf opened (with_point s p)
point_series opened s p unused point below is = record {
  first = is.first;
  numbers = is.numbers;
  count = is.count;
  least = is.least;
  most = is.most;
  history =
      history_push (last_time opened.last s.closed) s.written p is.history
      (last_below (known_of opened s) (last_time opened.last s.closed) p.ts s.written (time_below opened s p.ts unused is) (subst (λ (o : Option ℕ). IfSome o (λ last. last ≤ p.ts)) is.last_is below));
  each = each_push IsPoint s.written p is.each point;
  last_is = now_push (known_of opened (with_point s p)) s.written p;
}

points_series : (opened : List SeriesMeta) (ss : List Series) (n : ℕ) (p : Point) → AllByRecursion IsSeries opened → IsPoint p → n < length ss → IfSome (last_at ss n) (λ last. last ≤ p.ts) → AreSeriesOf opened ss → AreSeriesOf opened (changed ss n (λ s. with_point s p))
points_series opened [] n p each point within below are = absurd (omega arith)
points_series [] (s ∷ ss) zero p each point within below are = (point_series (unknown s.name) s p (λ _. refl) point below are.0, are.1)
points_series [] (s ∷ ss) (suc n) p each point within below are = (are.0, points_series [] ss n p each point (omega arith) below are.1)
points_series (o ∷ opened) (s ∷ ss) zero p each point within below are = (point_series o s p each.0.unused point below are.0, are.1)
points_series (o ∷ opened) (s ∷ ss) (suc n) p each point within below are = (are.0, points_series opened ss n p each.1 point (omega arith) below are.1)

pub point_valid : (w : World) (n : ℕ) (p : Point) → IsWorld w → n < length w.series → IsPoint p → IfSome (last_at w.series n) (λ last. last ≤ p.ts) → IsWorld (added n p w)
point_valid w n p is within point below = record {
  rules_are = is.rules_are;
  limits_are = is.limits_are;
  lawful = is.lawful;
  volumes = is.volumes;
  blocks = is.blocks;
  behind = is.behind;
  series = points_series w.opened.content.series w.series n p is.rules_are.each point within below is.series;
  recent = (point_open w.series n p within, others_open w.series n (λ s. with_point s p) w.recent is.recent);
  held = views_more (views_of w) w.series n (λ s. with_point s p) (λ s. record { name = refl; more = []; closed = sym (append-nil s.closed); count = omega arith }) is.held;
}

-- A group that is placed keeps a sound image sound.
use Rattle.std.proofs.Common.{◌≡◌, ◌≢◌, ◌⊎◌, inl, inr, ℕ, zero, suc, ◌+◌, ◌-◌, ◌*◌, ◌/◌, ◌%◌, ◌^◌, ◌<◌, ◌≤◌, ◌&&◌, ◌==◌, nat_le, nat_lt, Bool, true, false, if◌then◌else◌, List, [], ◌∷◌, ◌++◌, length, map, get_or, Some, None, Option, refl, sym, ◌∙◌, ap, ap₂, subst, subst₂, arith, append_assoc, append-nil}
use Rattle.std.proofs.lemmas.Bool.{cases_lt, cases_eq}
use Rattle.std.proofs.lemmas.Bool.Decides.{nat_tests}
use Rattle.std.proofs.lemmas.List.{map-append}
use Rattle.ak_forest.specs.Numbers.{made, span, between, carry}
use Rattle.ak_forest.specs.Tree.{Seen, Node, Reference, IsGrown, IsClose, width, reads_of}
use Rattle.ak_summary.specs.declared.summary.Summary.{Summary}
use Rattle.ak_forest.specs.Image.{Volumes, live, seen_of, leaf_here, row, scan_from, scan_of, Holds, IsWhole, IsSeries}
use Rattle.ak_forest.proofs.Arith.{between_append, between_one, made_zero}
use Rattle.ak_forest.proofs.Place.{grown_placed}
use Rattle.ak_forest.proofs.Open.{tree_kept}
use Rattle.ak_forest.proofs.Switch.{seen_live}

pub fill_last : (front : List ℕ) (x : ℕ) → get_or (front ++ x ∷ []) (length front) 0 ≡ x
fill_last [] x = refl
fill_last (f ∷ front) x = fill_last front x

pub fill_other : (front : List ℕ) (x y i : ℕ) → i ≢ length front → get_or (front ++ x ∷ []) i 0 ≡ get_or (front ++ y ∷ []) i 0
fill_other [] x y zero other = absurd (other refl)
fill_other [] x y (suc i) other = refl
fill_other (f ∷ front) x y zero other = refl
fill_other (f ∷ front) x y (suc i) other = fill_other front x y i (λ is. other (ap suc is))

pub fill_past : (front : List ℕ) (x i : ℕ) → length front < i → get_or (front ++ x ∷ []) i 0 ≡ 0
fill_past [] x zero past = absurd (omega arith)
fill_past [] x (suc i) past = refl
fill_past (f ∷ front) x zero past = absurd (omega arith)
fill_past (f ∷ front) x (suc i) past = fill_past front x i (omega arith)

pub record Parts (v : Volumes) (a : ℕ) : Type 0 where
  pub ordinal : v.lo ≤ a / width
  pub index : a % width < get_or v.fills (a / width - v.lo) 0

pub live_parts : (v : Volumes) (a : ℕ) → live v a ≡ true → Parts v a
live_parts v a is = record { ordinal = grind (arith, nat_tests, is); index = grind (arith, nat_tests, is) }

pub parts_live : (v : Volumes) (a : ℕ) → Parts v a → live v a ≡ true
parts_live v a p = ap₂ (λ (x y : Bool). x && y) (ordinal p.ordinal) (index p.index)
  where
    ordinal : v.lo ≤ a / width → nat_le v.lo (a / width) ≡ true
    ordinal h = grind (arith, nat_tests, h)

    index : a % width < get_or v.fills (a / width - v.lo) 0 → nat_lt (a % width) (get_or v.fills (a / width - v.lo) 0) ≡ true
    index h = grind (arith, nat_tests, h)

-- an address in the last ordinal, below its fill, or one in an earlier ordinal
pub record InLast (lo : ℕ) (front : List ℕ) (x a : ℕ) : Type 0 where
  pub ordinal : a / width ≡ lo + length front
  pub index : a % width < x

pub last_or_earlier : (lo x : ℕ) (front : List ℕ) (a : ℕ) → live record { lo = lo; fills = front ++ x ∷ [] } a ≡ true → InLast lo front x a ⊎ (a / width < lo + length front)
last_or_earlier lo x front a is =
    let p = live_parts record { lo = lo; fills = front ++ x ∷ [] } a is in
    elim (cases_eq (a / width - lo) (length front)) [
      | inl last ↦
          let f : get_or (front ++ x ∷ []) (a / width - lo) 0 ≡ x = ap (λ (i : ℕ). get_or (front ++ x ∷ []) i 0) last ∙ fill_last front x in
          inl record { ordinal = omega (arith, last, p.ordinal); index = omega (arith, p.index, f) }
      | inr other ↦ elim (cases_lt (length front) (a / width - lo)) [
        | inl past ↦ let f : get_or (front ++ x ∷ []) (a / width - lo) 0 ≡ 0 = fill_past front x (a / width - lo) past in absurd (omega (arith, p.index, f))
        | inr early ↦ inr (omega (arith, early, other, p.ordinal))
      ]
    ]

pub row_append : (seen : Seen) (series at m n : ℕ) → row seen series at (m + n) ≡ row seen series at m ++ row seen series (at + m) n
row_append seen series at zero n = ap₂ (row seen series) (omega arith) (omega arith)
row_append seen series at (suc m) n =
    let len : suc m + n ≡ suc (m + n) = omega arith in
    let place : suc at + m ≡ at + suc m = omega arith in
    ap (row seen series at) len
    ∙ ap (λ (l : List ℕ). leaf_here series at (seen at) ++ l) (row_append seen series (suc at) m n ∙ ap (λ (x : ℕ). row seen series (suc at) m ++ row seen series x n) place)
    ∙ sym (append_assoc (leaf_here series at (seen at)) (row seen series (suc at) m) (row seen series (at + suc m) n))

pub scan_append : (seen : Seen) (series o : ℕ) (front : List ℕ) (n : ℕ) → scan_from seen series o (front ++ n ∷ []) ≡ scan_from seen series o front ++ row seen series ((o + length front) * width) n
scan_append seen series o [] n =
    let place : o * width ≡ (o + 0) * width = omega arith in
    append-nil (row seen series (o * width) n) ∙ ap (λ (x : ℕ). row seen series x n) place
scan_append seen series o (f ∷ front) n =
    let place : (suc o + length front) * width ≡ (o + suc (length front)) * width = omega arith in
    ap (λ (l : List ℕ). row seen series (o * width) f ++ l) (scan_append seen series (suc o) front n ∙ ap (λ (x : ℕ). scan_from seen series (suc o) front ++ row seen series x n) place)
    ∙ sym (append_assoc (row seen series (o * width) f) (scan_from seen series (suc o) front) (row seen series ((o + suc (length front)) * width) n))

-- two that see the same below an address
module _ (one two : Seen) (to : ℕ) (same : (at : ℕ) → at < to → one at ≡ two at) where
  pub row_below : (series at n : ℕ) → at + n ≤ to → row one series at n ≡ row two series at n
  row_below series at zero h = refl
  row_below series at (suc n) h = ap₂ (λ (a b : List ℕ). a ++ b) (ap (leaf_here series at) (same at (omega arith))) (row_below series (suc at) n (omega arith))

  pub scan_below : (series o : ℕ) (fills : List ℕ) → ((i : ℕ) → get_or fills i 0 ≤ width) → (o + length fills) * width ≤ to → scan_from one series o fills ≡ scan_from two series o fills
  scan_below series o [] small h = refl
  scan_below series o (fill ∷ fills) small h = ap₂ (λ (a b : List ℕ). a ++ b)
      (row_below series (o * width) fill (omega (arith, small 0, h)))
      (scan_below series (suc o) fills (λ i. small (suc i)) (omega (arith, h)))

node_of : Node → Option Node → Node
node_of other None = other
node_of other (Some node) = node

pub same_node : (a b : Node) (o : Option Node) → o ≡ Some a → o ≡ Some b → a ≡ b
unfolding node_of
same_node a b o one two = ap (node_of a) (sym one ∙ two)

guarded : (b : Bool) (x y : Option Node) → (b ≡ true → x ≡ y) → (if b then x else None) ≡ (if b then y else None)
guarded true x y same = same refl
guarded false x y same = refl

pub same_test : (a : ℕ) → (a == a) ≡ true
same_test a = grind (arith, nat_tests)

pub other_test : (a b : ℕ) → a ≢ b → (a == b) ≡ false
other_test a b h = grind (arith, nat_tests)

no_leaf : (s a : ℕ) (node : Node) → node.level ≢ 0 → leaf_here s a (Some node) ≡ []
no_leaf s a node h = let off : (node.level == 0) ≡ false = grind (arith, nat_tests, h) in ap (λ (b : Bool). if b && (node.series == s) then a ∷ [] else []) off

one_leaf : (s a series : ℕ) (node : Node) → node.level ≡ 0 → node.series ≡ series → leaf_here s a (Some node) ≡ (if series == s then a ∷ [] else [])
one_leaf s a series node level of = ap₂ (λ (l t : ℕ). if (l == 0) && (t == s) then a ∷ [] else []) level of

pub map_same : (home home' : ℕ → ℕ) (m low n : ℕ) → low + n ≤ m → ((i : ℕ) → i < m → home' i ≡ home i) → map home (span low n) ≡ map home' (span low n)
map_same home home' m low zero fits same = refl
map_same home home' m low (suc n) fits same = ap₂ (λ (a : ℕ) (l : List ℕ). a ∷ l) (sym (same low (omega arith))) (map_same home home' m (suc low) n (omega arith) same)

module _ (lo n c : ℕ) (front : List ℕ) (spells spells' : Seen) (nodes : ℕ → Node) (room : n + suc c < width)
    (agrees : (at : ℕ) → live record { lo = lo; fills = front ++ n ∷ [] } at ≡ true → spells' at ≡ spells at)
    (wrote : (k : ℕ) → k ≤ c → spells' ((lo + length front) * width + n + k) ≡ Some (nodes k)) where
  abbrev pub old : Volumes
  old = record { lo = lo; fills = front ++ n ∷ [] }

  abbrev pub new : Volumes
  new = record { lo = lo; fills = front ++ (n + suc c) ∷ [] }

  abbrev pub q : ℕ
  q = lo + length front

  abbrev pub at : ℕ
  at = q * width + n

  live_same : (a : ℕ) → a < at → live new a ≡ live old a
  live_same a below = elim (cases_lt (a / width) lo) [
    | inl dead ↦
        let one : nat_le lo (a / width) ≡ false = grind (arith, nat_tests, dead) in
        ap (λ (b : Bool). b && nat_lt (a % width) (get_or new.fills (a / width - lo) 0)) one ∙ sym (ap (λ (b : Bool). b && nat_lt (a % width) (get_or old.fills (a / width - lo) 0)) one)
    | inr lives ↦ elim (cases_eq (a / width - lo) (length front)) [
      | inl last ↦
          let index : a % width < n = omega (arith, last, lives, below, room) in
          let f : get_or new.fills (a / width - lo) 0 ≡ n + suc c = ap (λ (x : ℕ). get_or new.fills x 0) last ∙ fill_last front (n + suc c) in
          let g : get_or old.fills (a / width - lo) 0 ≡ n = ap (λ (x : ℕ). get_or old.fills x 0) last ∙ fill_last front n in
          let one : nat_lt (a % width) (n + suc c) ≡ true = grind (arith, nat_tests, index) in
          let two : nat_lt (a % width) n ≡ true = grind (arith, nat_tests, index) in
          ap (λ (b : Bool). nat_le lo (a / width) && b) (ap (nat_lt (a % width)) f ∙ one ∙ sym two ∙ sym (ap (nat_lt (a % width)) g))
      | inr other ↦ ap (λ (x : ℕ). nat_le lo (a / width) && nat_lt (a % width) x) (fill_other front (n + suc c) n (a / width - lo) other)
    ]
  ]

  pub seen_below : (a : ℕ) → a < at → seen_of new spells' a ≡ seen_of old spells a
  seen_below a below = ap (λ (b : Bool). if b then spells' a else None) (live_same a below) ∙ guarded (live old a) (spells' a) (spells a) (agrees a)

  old_below : (a : ℕ) → live old a ≡ true → a < at
  old_below a is = elim (last_or_earlier lo n front a is) [
    | inl l ↦ omega (arith, l.ordinal, l.index)
    | inr early ↦ omega (arith, early)
  ]

  -- the blocks that were seen stay
  pub keeps : (a : ℕ) (node : Node) → seen_of old spells a ≡ Some node → seen_of new spells' a ≡ Some node
  keeps a node e = seen_below a (old_below a (seen_live old spells a node e)) ∙ e

  new_live : (k : ℕ) → k ≤ c → live new (at + k) ≡ true
  new_live k h =
      let o : (at + k) / width ≡ q = omega (arith, room, h) in
      let i : (at + k) % width ≡ n + k = omega (arith, room, h) in
      let place : (at + k) / width - lo ≡ length front = omega (arith, o) in
      let f : get_or new.fills ((at + k) / width - lo) 0 ≡ n + suc c = ap (λ (x : ℕ). get_or new.fills x 0) place ∙ fill_last front (n + suc c) in
      parts_live new (at + k) record { ordinal = omega (arith, o); index = omega (arith, i, f, h) }

  pub written : (k : ℕ) → k ≤ c → seen_of new spells' (at + k) ≡ Some (nodes k)
  written k h = ap (λ (b : Bool). if b then spells' (at + k) else None) (new_live k h) ∙ wrote k h

  -- what is live now was live, or is of the group
  pub new_or_old : (a : ℕ) → live new a ≡ true → (a < at) ⊎ ((k : ℕ) × (k ≤ c) × (a ≡ at + k))
  new_or_old a is = elim (last_or_earlier lo (n + suc c) front a is) [
    | inl l ↦ elim (cases_lt a at) [
      | inl below ↦ inl below
      | inr past ↦ inr (a - at, omega (arith, l.ordinal, l.index, past), omega (arith, past))
    ]
    | inr early ↦ inl (omega (arith, early))
  ]

  module _ (fan series m : ℕ) (at_carry : c ≡ carry fan m)
      (parts : (k : ℕ) → k ≤ c → ((nodes k).series ≡ series) × ((nodes k).level ≡ k) × ((nodes k).number ≡ made fan k m)) where
    part_holds : (k : ℕ) → k ≤ c → Holds (seen_of new spells') (at + k) series k (made fan k m)
    part_holds k h = record { node = nodes k; read = written k h; of_series = (parts k h).0; of_level = (parts k h).1; numbered = (parts k h).2 }

    moved : (a s l j : ℕ) → Holds (seen_of old spells) a s l j → Holds (seen_of new spells') a s l j
    moved a s l j h = record { node = h.node; read = keeps a h.node h.read; of_series = h.of_series; of_level = h.of_level; numbered = h.numbered }

    pub whole_placed : 0 < fan → IsWhole fan (seen_of old spells) → IsWhole fan (seen_of new spells')
    whole_placed pos whole = record {
      behind = λ a node e leaf k h. elim (new_or_old a (seen_live new spells' a node e)) [
        | inl below ↦
            let was = whole.behind a node (sym (seen_below a below) ∙ e) leaf k h in
            (was.0, moved (a + k) node.series k (made fan k node.number) was.1)
        | inr new_one ↦
            let is : node ≡ nodes new_one.0 = same_node node (nodes new_one.0) (seen_of new spells' a) e (ap (seen_of new spells') new_one.2 ∙ written new_one.0 new_one.1) in
            let zero_level : new_one.0 ≡ 0 = sym (parts new_one.0 new_one.1).1 ∙ ap (λ (x : Node). x.level) (sym is) ∙ leaf in
            let first : node ≡ nodes 0 = is ∙ ap nodes zero_level in
            let number : node.number ≡ m = ap (λ (x : Node). x.number) first ∙ (parts 0 (omega arith)).2 ∙ made_zero fan m in
            let within : k ≤ c = omega (arith, at_carry, subst (λ (x : ℕ). k ≤ carry fan x) number h) in
            let place : at + k ≡ a + k = omega (arith, new_one.2, zero_level) in (
              omega (arith, room, within, new_one.2, zero_level),
              subst₂ (λ (x y : ℕ). Holds (seen_of new spells') x y k (made fan k node.number)) place (sym (ap (λ (x : Node). x.series) first ∙ (parts 0 (omega arith)).0))
                  (subst (λ (x : ℕ). Holds (seen_of new spells') (at + k) series k (made fan k x)) (sym number) (part_holds k within)),
            )
      ];
      before = λ a node e. elim (new_or_old a (seen_live new spells' a node e)) [
        | inl below ↦
            let was = whole.before a node (sym (seen_below a below) ∙ e) in
            (was.0, (was.1.0, moved (a - node.level) node.series 0 was.1.0 was.1.1, was.1.2))
        | inr new_one ↦
            let is : node ≡ nodes new_one.0 = same_node node (nodes new_one.0) (seen_of new spells' a) e (ap (seen_of new spells') new_one.2 ∙ written new_one.0 new_one.1) in
            let level : node.level ≡ new_one.0 = ap (λ (x : Node). x.level) is ∙ (parts new_one.0 new_one.1).1 in
            let of : node.series ≡ series = ap (λ (x : Node). x.series) is ∙ (parts new_one.0 new_one.1).0 in
            let place : at + 0 ≡ a - node.level = omega (arith, level, new_one.2) in (
              omega (arith, level, new_one.2, new_one.1, room),
              (
                m,
                subst₂ (λ (x y : ℕ). Holds (seen_of new spells') x y 0 m) place (sym of) (subst (λ (x : ℕ). Holds (seen_of new spells') (at + 0) series 0 x) (made_zero fan m) (part_holds 0 (omega arith))),
                omega (arith, level, new_one.1, at_carry),
              ),
            )
      ];
    }

    -- the scan of each series
    inner_row : (s count k : ℕ) → suc k + count ≤ suc c → row (seen_of new spells') s (at + suc k) count ≡ []
    inner_row s zero k h = refl
    inner_row s (suc count) k h =
        let level : (nodes (suc k)).level ≡ suc k = (parts (suc k) (omega arith)).1 in
        let place : suc (at + suc k) ≡ at + suc (suc k) = omega arith in
        ap₂ (λ (a b : List ℕ). a ++ b)
        (ap (leaf_here s (at + suc k)) (written (suc k) (omega arith)) ∙ no_leaf s (at + suc k) (nodes (suc k)) (omega (arith, level)))
        (ap (λ (x : ℕ). row (seen_of new spells') s x count) place ∙ inner_row s count (suc k) (omega arith))

    group_row : (s : ℕ) → row (seen_of new spells') s at (suc c) ≡ (if series == s then at ∷ [] else [])
    group_row s =
        let first : seen_of new spells' at ≡ Some (nodes 0) = (let z : at ≡ at + 0 = omega arith in ap (seen_of new spells') z) ∙ written 0 (omega arith) in
        let place : suc at ≡ at + 1 = omega arith in
        ap₂ (λ (a b : List ℕ). a ++ b)
        (ap (leaf_here s at) first ∙ one_leaf s at series (nodes 0) (parts 0 (omega arith)).1 (parts 0 (omega arith)).0)
        (ap (λ (x : ℕ). row (seen_of new spells') s x c) place ∙ inner_row s c 0 (omega arith))
        ∙ append-nil (if series == s then at ∷ [] else [])

    pub scan_placed : (s : ℕ) → ((i : ℕ) → get_or front i 0 ≤ width) → scan_of new (seen_of new spells') s ≡ scan_of old (seen_of old spells) s ++ (if series == s then at ∷ [] else [])
    scan_placed s small =
        scan_append (seen_of new spells') s lo front (n + suc c)
        ∙ ap₂ (λ (a b : List ℕ). a ++ b)
        (scan_below (seen_of new spells') (seen_of old spells) at seen_below s lo front small (omega arith))
        (row_append (seen_of new spells') s (q * width) n (suc c)
        ∙ ap₂ (λ (a b : List ℕ). a ++ b) (row_below (seen_of new spells') (seen_of old spells) at seen_below s (q * width) n (omega arith)) (group_row s))
        ∙ sym (append_assoc (scan_from (seen_of old spells) s lo front) (row (seen_of old spells) s (q * width) n) (if series == s then at ∷ [] else []))
        ∙ ap (λ (l : List ℕ). l ++ (if series == s then at ∷ [] else [])) (sym (scan_append (seen_of old spells) s lo front n))

    -- the series that is closed, and each other one
    pub series_placed : (value : Summary) (base : ℕ) (join : Summary → Summary → Summary) (total total' : ℕ → ℕ → Summary) (rescue rescue' : ℕ → ℕ) (waiting waiting' : ℕ → List Reference) (fresh : ℕ → Reference)
        → 1 < fan → suc m < fan ^ 11 → ((i : ℕ) → get_or front i 0 ≤ width)
        → (s : IsSeries fan old (seen_of old spells) series m total rescue) (home' : ℕ → ℕ)
        → IsGrown fan lo series s.low m s.home total rescue (reads_of (seen_of old spells)) base waiting
        → IsClose fan series m at value s.low join s.home home' rescue rescue' total total' (reads_of (seen_of old spells)) (reads_of (seen_of new spells')) waiting waiting' fresh nodes
        → IsSeries fan new (seen_of new spells') series (suc m) total' rescue'
    series_placed value base join total total' rescue rescue' waiting waiting' fresh two few small s home' grown step =
        let here : (series == series) ≡ true = same_test series in
        let fits : s.low + (m - s.low) ≤ m = omega (arith, s.tree.fits) in
        record {
          low = s.low;
          home = home';
          scanned = scan_placed series small
              ∙ ap₂ (λ (l : List ℕ) (b : Bool). l ++ (if b then at ∷ [] else [])) (s.scanned ∙ map_same s.home home' m s.low (m - s.low) fits step.same) here
              ∙ ap (λ (x : ℕ). map home' (between s.low m) ++ x ∷ []) (sym step.here)
              ∙ sym (map-append home' (between s.low m) (m ∷ []))
              ∙ ap (map home') (ap (λ (l : List ℕ). between s.low m ++ l) (sym (between_one m)) ∙ between_append s.low m (suc m) s.tree.fits (omega arith));
          tree = (grown_placed fan lo series s.low m at value base join s.home home' rescue rescue' total total' (reads_of (seen_of old spells)) (reads_of (seen_of new spells')) waiting waiting' fresh nodes two few grown step).tree;
        }

    pub series_beside : (other leaves : ℕ) (total : ℕ → ℕ → Summary) (rescue : ℕ → ℕ) → ((i : ℕ) → get_or front i 0 ≤ width) → series ≢ other
        → IsSeries fan old (seen_of old spells) other leaves total rescue → IsSeries fan new (seen_of new spells') other leaves total rescue
    series_beside other leaves total rescue small differs s =
        let not_here : (series == other) ≡ false = other_test series other differs in
        record {
          low = s.low;
          home = s.home;
          scanned = scan_placed other small ∙ ap₂ (λ (l : List ℕ) (b : Bool). l ++ (if b then at ∷ [] else [])) s.scanned not_here ∙ append-nil (map s.home (between s.low leaves));
          tree = tree_kept fan lo other s.low leaves s.home rescue total (reads_of (seen_of old spells)) (reads_of (seen_of new spells')) keeps s.tree;
        }

    pub spelled_placed : (count : ℕ) → series < count
        → ((a : ℕ) → live old a ≡ true → (node : Node) × (seen_of old spells a ≡ Some node) × (node.series < count))
        → (a : ℕ) → live new a ≡ true → (node : Node) × (seen_of new spells' a ≡ Some node) × (node.series < count)
    spelled_placed count known before a is = elim (new_or_old a is) [
      | inl below ↦ let was = before a (sym (live_same a below) ∙ is) in (was.0, seen_below a below ∙ was.1, was.2)
      | inr new_one ↦ (nodes new_one.0, ap (seen_of new spells') new_one.2 ∙ written new_one.0 new_one.1, omega (arith, (parts new_one.0 new_one.1).0, known))
    ]

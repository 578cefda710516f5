-- What is said of blocks and what is said by numbers is one thing.
use Rattle.std.proofs.Common.{◌≡◌, ◌⊎◌, inl, inr, ℕ, zero, suc, pred, ◌+◌, ◌-◌, ◌*◌, ◌/◌, ◌%◌, ◌^◌, ◌<◌, ◌≤◌, ◌==◌, ◌&&◌, Bool, true, false, max, if◌then◌else◌, List, [], ◌∷◌, ◌++◌, length, map, get_or, drop, Some, None, Option, refl, sym, ◌∙◌, ap, ap₂, subst, subst₂, arith, suc-mul}
use Rattle.std.proofs.lemmas.Bool.{cases_lt, cases_eq}
use Rattle.std.proofs.lemmas.Bool.Decides.{nat_tests}
use Rattle.ak_forest.specs.Numbers.{made, end, span, between, carry}
use Rattle.ak_forest.specs.Tree.{Seen, Node, Reference, Link, Elder, Covers, Cut, Children, Family, Body, IsTree, spot, width, reads_of}
use Rattle.ak_summary.specs.declared.summary.Summary.{Summary}
use Rattle.ak_forest.specs.Image.{Volumes, live, leaf_here, row, scan_from, scan_of, Holds, IsWhole, IsSeries}
use Rattle.ak_forest.specs.Written.{number_at, IsLive, Names, ElderNames, Tells, AllName, LastChildren, Content, IsWrittenSeries}
use Rattle.ak_forest.proofs.Scans.{Each, each_append, each_at}
use Rattle.ak_forest.proofs.Arith.{length_span, fan_pos, times_le, end_made, made_end, times_one, power_up, family_stop}
use Rattle.ak_forest.proofs.Place.{in_group, group_end, end_pos}
use Rattle.ak_forest.proofs.Group.{same_node, same_test, live_parts}

abbrev pub Has : ℕ → List ℕ → Type 0
Has x [] = ⊥
Has x (y ∷ ys) = (x ≡ y) ⊎ Has x ys

has_left : (x : ℕ) (xs ys : List ℕ) → Has x xs → Has x (xs ++ ys)
has_left x [] ys h = absurd h
has_left x (y ∷ xs) ys (inl is) = inl is
has_left x (y ∷ xs) ys (inr h) = inr (has_left x xs ys h)

has_right : (x : ℕ) (xs ys : List ℕ) → Has x ys → Has x (xs ++ ys)
has_right x [] ys h = h
has_right x (y ∷ xs) ys h = inr (has_right x xs ys h)

leaf_in : (s x : ℕ) (node : Node) → node.level ≡ 0 → node.series ≡ s → Has x (leaf_here s x (Some node))
leaf_in s x node level of =
    let one : (node.level == 0) ≡ true = ap (λ (a : ℕ). a == 0) level in
    let two : (node.series == s) ≡ true = ap (λ (a : ℕ). a == s) of ∙ same_test s in
    subst (λ (b : Bool). Has x (if b then x ∷ [] else [])) (sym (ap₂ (λ (a b : Bool). a && b) one two)) (inl refl)

row_has : (seen : Seen) (s at n x : ℕ) (node : Node) → seen x ≡ Some node → node.level ≡ 0 → node.series ≡ s → at ≤ x → x < at + n → Has x (row seen s at n)
row_has seen s at zero x node read level of above below = absurd (omega arith)
row_has seen s at (suc n) x node read level of above below = elim (cases_eq at x) [
  | inl is ↦ has_left x (leaf_here s at (seen at)) (row seen s (suc at) n)
      (subst (λ (a : ℕ). Has x (leaf_here s a (seen a))) (sym is) (subst (λ (o : Option Node). Has x (leaf_here s x o)) (sym read) (leaf_in s x node level of)))
  | inr other ↦ has_right x (leaf_here s at (seen at)) (row seen s (suc at) n) (row_has seen s (suc at) n x node read level of (omega (arith, other)) (omega arith))
]

scan_has : (seen : Seen) (s o : ℕ) (fills : List ℕ) (x : ℕ) (node : Node) → seen x ≡ Some node → node.level ≡ 0 → node.series ≡ s
    → o ≤ x / width → x % width < get_or fills (x / width - o) 0 → Has x (scan_from seen s o fills)
scan_has seen s o [] x node read level of above below = absurd (omega (arith, below, nothing (x / width - o)))
  where
    nothing : (i : ℕ) → ◌≡◌ {A = ℕ} (get_or [] i 0) 0
    nothing zero = refl
    nothing (suc i) = refl
scan_has seen s o (fill ∷ fills) x node read level of above below = elim (cases_eq (x / width) o) [
  | inl is ↦
      let place : x / width - o ≡ 0 = omega (arith, is) in
      let under : x % width < fill = subst (λ (i : ℕ). x % width < get_or (fill ∷ fills) i 0) place below in
      has_left x (row seen s (o * width) fill) (scan_from seen s (suc o) fills) (row_has seen s (o * width) fill x node read level of (omega (arith, is)) (omega (arith, is, under)))
  | inr later ↦
      let place : x / width - o ≡ suc (x / width - suc o) = omega (arith, later, above) in
      has_right x (row seen s (o * width) fill) (scan_from seen s (suc o) fills)
      (scan_has seen s (suc o) fills x node read level of (omega (arith, later, above)) (subst (λ (i : ℕ). x % width < get_or (fill ∷ fills) i 0) place below))
]

-- what stands in a row of homes has a number
has_home : (home : ℕ → ℕ) (x low n : ℕ) → Has x (map home (span low n)) → (i : ℕ) × (low ≤ i) × (i < low + n) × (x ≡ home i)
has_home home x low zero h = absurd h
has_home home x low (suc n) (inl is) = (low, omega arith, omega arith, is)
has_home home x low (suc n) (inr h) = let r = has_home home x (suc low) n h in (r.0, omega (arith, r.1), omega (arith, r.2), r.3)

number_read : (seen : Seen) (at : ℕ) (node : Node) → seen at ≡ Some node → number_at seen at ≡ node.number
number_read seen at node read = rw (read, number_at)

module _ (fan : ℕ) (v : Volumes) (seen : Seen) (series leaves : ℕ) (total : ℕ → ℕ → Summary) (rescue : ℕ → ℕ) (two : 1 < fan) (few : leaves < fan ^ 11)
    (only : (at : ℕ) (node : Node) → seen at ≡ Some node → live v at ≡ true) (whole : IsWhole fan seen)
    (low : ℕ) (home : ℕ → ℕ) (fits : low ≤ leaves) (scanned : scan_of v seen series ≡ map home (between low leaves))
    (leaf_at : (i : ℕ) → low ≤ i → i < leaves → Holds seen (home i) series 0 i) where
  -- a live leaf is the one at its home
  only_home : (x i : ℕ) → Holds seen x series 0 i → (low ≤ i) × (i < leaves) × (x ≡ home i)
  only_home x i h =
      let p = live_parts v x (only x h.node h.read) in
      let found : Has x (map home (between low leaves)) = subst (λ (l : List ℕ). Has x l) scanned (scan_has seen series v.lo v.fills x h.node h.read h.of_level h.of_series p.ordinal p.index) in
      let r = has_home home x low (leaves - low) found in
      let other = leaf_at r.0 r.1 (omega (arith, r.2, fits)) in
      let same : h.node ≡ other.node = same_node h.node other.node (seen x) h.read (ap seen r.3 ∙ other.read) in
      let is : i ≡ r.0 = sym h.numbered ∙ ap (λ (n : Node). n.number) same ∙ other.numbered in
      (omega (arith, is, r.1), omega (arith, is, r.2, fits), r.3 ∙ ap home (sym is))

  -- a node whose last leaf is live stands behind it
  node_at : (k j : ℕ) → low < end fan k j → end fan k j ≤ leaves → Holds seen (spot fan home k j) series k j
  node_at k j l e =
      let i = pred (end fan k j) in
      let stop : end fan k j ≡ suc i = omega (arith, end_pos fan k j (omega arith)) in
      let leaf = leaf_at i (omega (arith, l, stop)) (omega (arith, e, stop)) in
      let group = in_group fan i k j (omega arith) (omega (arith, e, stop, few)) stop in
      let within : k ≤ carry fan leaf.node.number = subst (λ (x : ℕ). k ≤ carry fan x) (sym leaf.numbered) group.0 in
      let there = (whole.behind (home i) leaf.node leaf.read leaf.of_level k within).1 in
      subst₂ (λ (s n : ℕ). Holds seen (home i + k) s k n) leaf.of_series (ap (made fan k) leaf.numbered ∙ sym group.1) there

  -- and it stands nowhere else
  only_spot : (a k j : ℕ) → Holds seen a series k j → (low < end fan k j) × (end fan k j ≤ leaves) × (a ≡ spot fan home k j)
  only_spot a k j h =
      let b = whole.before a h.node h.read in
      let i = b.1.0 in
      let leaf : Holds seen (a - k) series 0 i = subst₂ (λ (x s : ℕ). Holds seen (a - x) s 0 i) h.of_level h.of_series b.1.1 in
      let within : k ≤ carry fan i = subst (λ (x : ℕ). x ≤ carry fan i) h.of_level b.1.2 in
      let within' : k ≤ carry fan leaf.node.number = subst (λ (x : ℕ). k ≤ carry fan x) (sym leaf.numbered) within in
      let again = (whole.behind (a - k) leaf.node leaf.read leaf.of_level k within').1 in
      let room : k ≤ a % width = subst (λ (x : ℕ). x ≤ a % width) h.of_level b.0 in
      let place : a - k + k ≡ a = omega (arith, room) in
      let same : h.node ≡ again.node = same_node h.node again.node (seen a) h.read (ap seen (sym place) ∙ again.read) in
      let is : j ≡ made fan k i = sym h.numbered ∙ ap (λ (n : Node). n.number) same ∙ again.numbered ∙ ap (made fan k) leaf.numbered in
      let stop : end fan k j ≡ suc i = ap (end fan k) is ∙ group_end fan i k (omega arith) within in
      let at = only_home (a - k) i leaf in
      (omega (arith, stop, at.0), omega (arith, stop, at.1), sym place ∙ ap (λ (x : ℕ). x + k) (at.2 ∙ ap (λ (x : ℕ). home (pred x)) (sym stop)))

  link_of : (k j at : ℕ) → end fan k j ≤ leaves → Names seen v.lo series k j at → Link fan v.lo low home k j at
  link_of k j at e (inl here) = let o = only_spot at k j here in record { live = λ l. o.2; dead = λ d. absurd (omega (arith, d, o.0)) }
  link_of k j at e (inr gone) = record { live = λ l. absurd (gone.1 (spot fan home k j, node_at k j l e)); dead = λ d. gone.0 }

  names_of : (k j at : ℕ) → end fan k j ≤ leaves → Link fan v.lo low home k j at → Names seen v.lo series k j at
  names_of k j at e link = elim (cases_lt low (end fan k j)) [
    | inl l ↦ inl (subst (λ (a : ℕ). Holds seen a series k j) (sym (link.live l)) (node_at k j l e))
    | inr d ↦ inr (link.dead d, λ h. let o = only_spot h.0 k j h.1 in omega (arith, d, o.0))
  ]

  elder_of : (k j at : ℕ) → j ≤ made fan k leaves → ElderNames seen v.lo series k j at → Elder fan v.lo low home k j at
  elder_of k zero at e h = h
  elder_of k (suc j) at e h = link_of k j at (end_made fan k j leaves (omega arith) e) h

  elder_names : (k j at : ℕ) → j ≤ made fan k leaves → Elder fan v.lo low home k j at → ElderNames seen v.lo series k j at
  elder_names k zero at e h = h
  elder_names k (suc j) at e h = names_of k j at (end_made fan k j leaves (omega arith) e) h

  room_in : (k j : ℕ) → j * fan ^ k < end fan k j
  room_in k j = omega (arith, suc-mul j (fan ^ k), fan_pos fan k (omega arith))

  live_leaf : (i : ℕ) → low ≤ i → i < leaves → IsLive seen series 0 i
  live_leaf i l e = (home i, leaf_at i l e)

  tally_of : (k j : ℕ) (r : Reference) → end fan k j ≤ leaves → Tells fan seen v.lo series total k j r → Covers fan low home total k j r.first r.summary ⊎ Cut fan v.lo low k j r.first
  tally_of k j r e (inl starts) =
      let at = only_home r.first starts.number starts.here in
      let is : starts.number ≡ max low (j * fan ^ k) = elim (cases_lt (max low (j * fan ^ k)) starts.number) [
        | inl less ↦ absurd (starts.earlier (max low (j * fan ^ k)) (omega arith) less (live_leaf (max low (j * fan ^ k)) (omega arith) (omega (arith, less, at.1))))
        | inr more ↦ omega (arith, more, at.0, starts.within.0)
      ] in
      inl record {
        some = omega (arith, at.0, starts.within.1);
        begins = at.2 ∙ ap home is;
        worth = starts.worth ∙ ap (λ (x : ℕ). total x (end fan k j)) is;
      }
  tally_of k j r e (inr gone) = elim (cases_lt (j * fan ^ k) low) [
    | inl less ↦ inr record { begun = less; dead = gone.0 }
    | inr more ↦ absurd (gone.1 (live_leaf (j * fan ^ k) more (omega (arith, room_in k j, e))))
  ]

  tells_of : (k j : ℕ) (r : Reference) → end fan k j ≤ leaves → Covers fan low home total k j r.first r.summary ⊎ Cut fan v.lo low k j r.first → Tells fan seen v.lo series total k j r
  tells_of k j r e (inl covers) =
      let f = max low (j * fan ^ k) in
      let below : f < end fan k j = omega (arith, room_in k j, covers.some) in
      inl record {
        number = f;
        within = (omega arith, below);
        here = subst (λ (a : ℕ). Holds seen a series 0 f) (sym covers.begins) (leaf_at f (omega arith) (omega (arith, below, e)));
        earlier = λ i from less h. let o = only_home h.0 i h.1 in omega (arith, from, less, o.0);
        worth = covers.worth;
      }
  tells_of k j r e (inr cut) = inr (cut.dead, λ h. let o = only_home h.0 (j * fan ^ k) h.1 in omega (arith, cut.begun, o.0))

  children_of : (k j : ℕ) (rs : List Reference) → (j + length rs) * fan ^ k ≤ leaves → AllName fan seen v.lo series total k j rs → Children fan v.lo low home total k j rs
  children_of k j [] e h = tt
  children_of k j (r ∷ rs) e h =
      let more : (suc j + length rs) * fan ^ k ≡ (j + suc (length rs)) * fan ^ k = (let len : suc j + length rs ≡ j + suc (length rs) = omega arith in ap (λ (x : ℕ). x * fan ^ k) len) in
      let first : end fan k j ≤ (j + suc (length rs)) * fan ^ k = times_le (suc j) (j + suc (length rs)) (fan ^ k) (omega arith) in (
        record {
          link = link_of k j r.child (omega (arith, first, e)) h.0.0;
          ends = λ l. h.0.2 (spot fan home k j, node_at k j l (omega (arith, first, e)));
          tally = tally_of k j r (omega (arith, first, e)) h.0.1;
        },
        children_of k (suc j) rs (omega (arith, more, e)) h.1,
      )

  all_name : (k j : ℕ) (rs : List Reference) → (j + length rs) * fan ^ k ≤ leaves → Children fan v.lo low home total k j rs → AllName fan seen v.lo series total k j rs
  all_name k j [] e h = tt
  all_name k j (r ∷ rs) e h =
      let more : (suc j + length rs) * fan ^ k ≡ (j + suc (length rs)) * fan ^ k = (let len : suc j + length rs ≡ j + suc (length rs) = omega arith in ap (λ (x : ℕ). x * fan ^ k) len) in
      let first : end fan k j ≤ (j + suc (length rs)) * fan ^ k = times_le (suc j) (j + suc (length rs)) (fan ^ k) (omega arith) in
      ((names_of k j r.child (omega (arith, first, e)) h.0.link, tells_of k j r (omega (arith, first, e)) h.0.tally, λ live_one. h.0.ends (only_spot live_one.0 k j live_one.1).0), all_name k (suc j) rs (omega (arith, more, e)) h.1)

  family_of : (k j : ℕ) (rs : List Reference) → end fan (suc k) j ≤ leaves → LastChildren fan seen v.lo series total k j rs → Family fan v.lo low home total k j rs
  family_of k j rs e h =
      let n = length rs in
      let stop : ((suc j * fan - n) + n) * fan ^ k ≡ end fan (suc k) j = family_stop fan k j n h.most in
      record {
        some = h.some;
        most = h.most;
        each = children_of k (suc j * fan - n) rs (omega (arith, stop, e)) h.each;
        missing = λ less.
            let c = pred (suc j * fan - n) in
            let from : suc c ≡ suc j * fan - n = omega (arith, less, suc-mul j fan) in
            let over : end fan k c ≡ (suc j * fan - n) * fan ^ k = ap (λ (x : ℕ). x * fan ^ k) from in
            let under : (suc j * fan - n) * fan ^ k ≤ suc j * fan * fan ^ k = times_le (suc j * fan - n) (suc j * fan) (fan ^ k) (omega arith) in
            elim (cases_lt low (end fan k c)) [
              | inl l ↦
                  let i = pred (end fan k c) in
                  let is : suc i ≡ end fan k c = omega (arith, end_pos fan k c (omega arith)) in
                  absurd (h.before c i (omega (arith, from, less, suc-mul j fan)) (omega (arith, from)) (omega (arith, is, room_in k c)) (omega (arith, is))
                  (live_leaf i (omega (arith, is, l)) (omega (arith, is, over, under, power_up fan k (suc j), e))))
              | inr d ↦ omega (arith, over, d)
            ];
      }

  last_children : (k j : ℕ) (rs : List Reference) → end fan (suc k) j ≤ leaves → Family fan v.lo low home total k j rs → LastChildren fan seen v.lo series total k j rs
  last_children k j rs e h =
      let n = length rs in
      let stop : ((suc j * fan - n) + n) * fan ^ k ≡ end fan (suc k) j = family_stop fan k j n h.most in
      record {
        some = h.some;
        most = h.most;
        each = all_name k (suc j * fan - n) rs (omega (arith, stop, e)) h.each;
        before = λ c i from less at below live_one.
            let o = only_home live_one.0 i live_one.1 in
            let gone = h.missing (omega (arith, from, less, suc-mul j fan)) in
            let under : end fan k c ≤ (suc j * fan - n) * fan ^ k = times_le (suc c) (suc j * fan - n) (fan ^ k) less in
            omega (arith, o.0, below, under, gone);
      }

  body_of : (k j : ℕ) (node : Node) → end fan k j ≤ leaves → node.number ≡ j → Content fan seen v.lo series total k node → Body fan v.lo low home total k j node.references
  body_of zero j node e is h = h.0
  body_of (suc k) j node e is h = family_of k j node.references e (subst (λ (x : ℕ). LastChildren fan seen v.lo series total k x node.references) is h)

  value_of : (k j : ℕ) (node : Node) → node.number ≡ j → Content fan seen v.lo series total k node → k ≡ 0 → node.value ≡ total j (suc j)
  value_of zero j node is h z = h.1 ∙ ap (λ (x : ℕ). total x (suc x)) is
  value_of (suc k) j node is h z = absurd (omega (arith, z))

  content_of : (k j : ℕ) (node : Node) → end fan k j ≤ leaves → node.number ≡ j → (k ≡ 0 → node.value ≡ total j (suc j)) → Body fan v.lo low home total k j node.references → Content fan seen v.lo series total k node
  content_of zero j node e is worth h = (h, worth refl ∙ ap (λ (x : ℕ). total x (suc x)) (sym is))
  content_of (suc k) j node e is worth h = subst (λ (x : ℕ). LastChildren fan seen v.lo series total k x node.references) (sym is) (last_children k j node.references e h)

  -- from the blocks to the numbers
  tree_of : ((at : ℕ) (node : Node) → seen at ≡ Some node → node.series ≡ series → ElderNames seen v.lo series node.level node.number node.elder)
      → ((at : ℕ) (node : Node) → seen at ≡ Some node → node.series ≡ series → Content fan seen v.lo series total node.level node)
      → ((k : ℕ) → ElderNames seen v.lo series k (made fan k leaves) (rescue k))
      → IsTree fan v.lo series low leaves home total rescue (reads_of seen)
  tree_of elders contents points = record {
    fits = fits;
    nodes = λ k j l e.
        let h = node_at k j l e in
        let content : Content fan seen v.lo series total k h.node = subst (λ (x : ℕ). Content fan seen v.lo series total x h.node) h.of_level (contents (spot fan home k j) h.node h.read h.of_series) in
        let elder : ElderNames seen v.lo series k j h.node.elder =
        subst₂ (λ (x y : ℕ). ElderNames seen v.lo series x y h.node.elder) h.of_level h.numbered (elders (spot fan home k j) h.node h.read h.of_series) in
        record {
          node = h.node;
          read = h.read;
          of_series = h.of_series;
          of_level = h.of_level;
          numbered = h.numbered;
          worth = value_of k j h.node h.numbered content;
          elder = elder_of k j h.node.elder (omega (arith, made_end fan k j leaves (omega arith) e)) elder;
          body = body_of k j h.node e h.numbered content;
        };
    rescues = λ k. elder_of k (made fan k leaves) (rescue k) (omega arith) (points k);
  }

  -- and back
  module _ (tree : IsTree fan v.lo series low leaves home total rescue (reads_of seen)) where
    held : (at : ℕ) (node : Node) → seen at ≡ Some node → node.series ≡ series → Holds seen at series node.level node.number
    held at node read of = record { node = node; read = read; of_series = of; of_level = refl; numbered = refl }

    elders_of : (at : ℕ) (node : Node) → seen at ≡ Some node → node.series ≡ series → ElderNames seen v.lo series node.level node.number node.elder
    elders_of at node read of =
        let o = only_spot at node.level node.number (held at node read of) in
        let s = tree.nodes node.level node.number o.0 o.1 in
        let same : s.node ≡ node = same_node s.node node (seen at) (ap seen o.2 ∙ s.read) read in
        subst (λ (x : ℕ). ElderNames seen v.lo series node.level node.number x) (ap (λ (n : Node). n.elder) same)
        (elder_names node.level node.number s.node.elder (omega (arith, made_end fan node.level node.number leaves (omega arith) o.1)) s.elder)

    contents_of : (at : ℕ) (node : Node) → seen at ≡ Some node → node.series ≡ series → Content fan seen v.lo series total node.level node
    contents_of at node read of =
        let o = only_spot at node.level node.number (held at node read of) in
        let s = tree.nodes node.level node.number o.0 o.1 in
        let same : s.node ≡ node = same_node s.node node (seen at) (ap seen o.2 ∙ s.read) read in
        subst (λ (n : Node). Content fan seen v.lo series total node.level n) same (content_of node.level node.number s.node o.1 s.numbered s.worth s.body)

    points_of : (k : ℕ) → ElderNames seen v.lo series k (made fan k leaves) (rescue k)
    points_of k = elder_names k (made fan k leaves) (rescue k) (omega arith) (tree.rescues k)

-- a list as the row of its homes
span_same : (f g : ℕ → ℕ) (low n : ℕ) → ((i : ℕ) → low ≤ i → f i ≡ g i) → map f (span low n) ≡ map g (span low n)
span_same f g low zero same = refl
span_same f g low (suc n) same = ap₂ (λ (a : ℕ) (l : List ℕ). a ∷ l) (same low (omega arith)) (span_same f g (suc low) n (λ i h. same i (omega (arith, h))))

homes : (xs : List ℕ) (low : ℕ) → map (λ i. get_or xs (i - low) 0) (span low (length xs)) ≡ xs
homes [] low = refl
homes (x ∷ xs) low =
    let head : get_or (x ∷ xs) (low - low) 0 ≡ x = (let z : low - low ≡ 0 = omega arith in ap (λ (i : ℕ). get_or (x ∷ xs) i 0) z) in
    ap₂ (λ (a : ℕ) (l : List ℕ). a ∷ l) head
    (span_same (λ i. get_or (x ∷ xs) (i - low) 0) (λ i. get_or xs (i - suc low) 0) (suc low) (length xs)
    (λ i h. let z : i - low ≡ suc (i - suc low) = omega (arith, h) in ap (λ (j : ℕ). get_or (x ∷ xs) j 0) z)
    ∙ homes xs (suc low))

length_mapped : (f : ℕ → ℕ) (xs : List ℕ) → length (map f xs) ≡ length xs
length_mapped f [] = refl
length_mapped f (x ∷ xs) = ap suc (length_mapped f xs)

number_in : (f home : ℕ → ℕ) (low n i : ℕ) → map f (map home (span low n)) ≡ span low n → low ≤ i → i < low + n → f (home i) ≡ i
number_in f home low zero i e from below = absurd (omega arith)
number_in f home low (suc n) i e from below = elim (cases_eq low i) [
  | inl is ↦ ap (λ (x : ℕ). f (home x)) (sym is) ∙ ap (λ (l : List ℕ). get_or l 0 0) e ∙ is
  | inr other ↦ number_in f home (suc low) n i (ap (drop 1) e) (omega (arith, other)) (omega arith)
]

numbers_of : (f home : ℕ → ℕ) (low n : ℕ) → ((i : ℕ) → low ≤ i → i < low + n → f (home i) ≡ i) → map f (map home (span low n)) ≡ span low n
numbers_of f home low zero each = refl
numbers_of f home low (suc n) each = ap₂ (λ (a : ℕ) (l : List ℕ). a ∷ l) (each low (omega arith) (omega arith)) (numbers_of f home (suc low) n (λ i h k. each i (omega (arith, h)) (omega (arith, k))))

-- what a scan lists are leaves
record Leaf (seen : Seen) (s x : ℕ) : Type 0 where
  node : Node
  read : seen x ≡ Some node
  of_level : node.level ≡ 0
  of_series : node.series ≡ s

both_true : (a b c d : ℕ) → ((a == b) && (c == d)) ≡ true → (a ≡ b) × (c ≡ d)
both_true a b c d h = (grind (arith, nat_tests, h), grind (arith, nat_tests, h))

row_leaves : (seen : Seen) (s at n : ℕ) → Each (Leaf seen s) (row seen s at n)
row_leaves seen s at zero = tt
row_leaves seen s at (suc n) = each_append (Leaf seen s) (leaf_here s at (seen at)) (row seen s (suc at) n) (here (seen at) refl) (row_leaves seen s (suc at) n)
  where
    test : (node : Node) (b : Bool) → seen at ≡ Some node → ((node.level == 0) && (node.series == s)) ≡ b → Each (Leaf seen s) (if b then at ∷ [] else [])
    test node true read e = let p = both_true node.level 0 node.series s e in (record { node = node; read = read; of_level = p.0; of_series = p.1 }, tt)
    test node false read e = tt

    here : (o : Option Node) → seen at ≡ o → Each (Leaf seen s) (leaf_here s at o)
    here None e = tt
    here (Some node) e = test node ((node.level == 0) && (node.series == s)) e refl

scan_leaves : (seen : Seen) (s o : ℕ) (fills : List ℕ) → Each (Leaf seen s) (scan_from seen s o fills)
scan_leaves seen s o [] = tt
scan_leaves seen s o (fill ∷ fills) = each_append (Leaf seen s) (row seen s (o * width) fill) (scan_from seen s (suc o) fills) (row_leaves seen s (o * width) fill) (scan_leaves seen s (suc o) fills)

module _ (fan : ℕ) (v : Volumes) (seen : Seen) (series leaves : ℕ) (total : ℕ → ℕ → Summary) (rescue : ℕ → ℕ) (two : 1 < fan) (few : leaves < fan ^ 11)
    (only : (at : ℕ) (node : Node) → seen at ≡ Some node → live v at ≡ true) (whole : IsWhole fan seen) where
  -- what the blocks say is what the numbers say
  pub series_of : IsWrittenSeries fan v seen series leaves total rescue → IsSeries fan v seen series leaves total rescue
  series_of w =
      let scan = scan_of v seen series in
      let home : ℕ → ℕ = λ i. get_or scan (i - w.low) 0 in
      let size : length scan ≡ leaves - w.low = sym (length_mapped (number_at seen) scan) ∙ ap length w.consecutive ∙ length_span w.low (leaves - w.low) in
      let scanned : scan ≡ map home (between w.low leaves) = sym (homes scan w.low) ∙ ap (λ (x : ℕ). map home (span w.low x)) size in
      let numbers : map (number_at seen) (map home (between w.low leaves)) ≡ between w.low leaves = ap (map (number_at seen)) (sym scanned) ∙ w.consecutive in
      let leafs : Each (Leaf seen series) (map home (between w.low leaves)) = subst (λ (l : List ℕ). Each (Leaf seen series) l) scanned (scan_leaves seen series v.lo v.fills) in
      let leaf_at : (i : ℕ) → w.low ≤ i → i < leaves → Holds seen (home i) series 0 i =
      λ i l e.
      let leaf = each_at (Leaf seen series) home (leaves - w.low) w.low i leafs l (omega (arith, e, w.fits)) in
      record {
        node = leaf.node;
        read = leaf.read;
        of_series = leaf.of_series;
        of_level = leaf.of_level;
        numbered = sym (number_read seen (home i) leaf.node leaf.read) ∙ number_in (number_at seen) home w.low (leaves - w.low) i numbers l (omega (arith, e, w.fits));
      } in
      record { low = w.low; home = home; scanned = scanned; tree = tree_of fan v seen series leaves total rescue two few only whole w.low home w.fits scanned leaf_at w.elders w.contents w.points }

  pub written_of : IsSeries fan v seen series leaves total rescue → IsWrittenSeries fan v seen series leaves total rescue
  written_of s =
      let leaf_at : (i : ℕ) → s.low ≤ i → i < leaves → Holds seen (s.home i) series 0 i =
      λ i l e.
      let one : end fan 0 i ≡ suc i = times_one fan (suc i) in
      let stands = s.tree.nodes 0 i (omega (arith, one, l)) (omega (arith, one, e)) in
      let place : s.home i ≡ spot fan s.home 0 i = (let z : s.home i ≡ s.home i + 0 = omega arith in z) ∙ ap (λ (x : ℕ). s.home (pred x) + 0) (sym one) in
      record { node = stands.node; read = ap seen place ∙ stands.read; of_series = stands.of_series; of_level = stands.of_level; numbered = stands.numbered } in
      record {
        low = s.low;
        fits = s.tree.fits;
        consecutive = ap (map (number_at seen)) s.scanned
            ∙ numbers_of (number_at seen) s.home s.low (leaves - s.low) (λ i l e. let h = leaf_at i l (omega (arith, e, s.tree.fits)) in number_read seen (s.home i) h.node h.read ∙ h.numbered);
        elders = elders_of fan v seen series leaves total rescue two few only whole s.low s.home s.tree.fits s.scanned leaf_at s.tree;
        contents = contents_of fan v seen series leaves total rescue two few only whole s.low s.home s.tree.fits s.scanned leaf_at s.tree;
        points = points_of fan v seen series leaves total rescue two few only whole s.low s.home s.tree.fits s.scanned leaf_at s.tree;
      }

-- What the rescue addresses of a sound disk lead to is what belongs to its blocks.
use Rattle.std.proofs.Common.{◌≡◌, inl, inr, ◌∙◌, ℕ, zero, suc, pred, ◌+◌, ◌-◌, ◌*◌, ◌^◌, ◌<◌, ◌≤◌, max, get_or, List, [], ◌∷◌, ◌++◌, length, map, refl, sym, ap, ap₂, subst, arith, length-append, suc-mul}
use Rattle.std.proofs.Math.Nat.{pow-le-pow_right}
use Rattle.std.proofs.lemmas.Bool.{cases_lt}
use Rattle.std.proofs.lemmas.List.{map-append}
use Rattle.std.specs.List.{AllByRecursion}
use Rattle.ak_base.specs.Points.{IsHistory}
use Rattle.ak_forest.proofs.Arith.{end_made, made_end, made_mono, made_split, made_none, start_level, times_one, fan_pos}
use Rattle.ak_forest.proofs.Tally.{node_tally, node_ends}
use Rattle.ak_forest.specs.Numbers.{made, end}
use Rattle.ak_forest.specs.Tree.{Node, Reference, Link, Elder, Child, Children, Stands, IsTree, Waits, first_of, found_in, spot}
use Rattle.ak_forest.specs.Tree.{joined as joined_by}
use Rattle.ak_image.proofs.Lifting.{all_some, totals_join}
use Rattle.ak_image.proofs.Naming.{link_there}
use Rattle.ak_image.proofs.OneNode.{one_node}
use Rattle.ak_image.proofs.Rescuing.{point_low}
use Rattle.ak_image.specs.Blocks.{Seen}
use Rattle.ak_image.specs.Chains.{IsChain}
use Rattle.ak_image.specs.Nodes.{IsNodeAt, Reads, reference_of}
use Rattle.ak_image.specs.Planted.{IsPlanted, waiting_of}
use Rattle.ak_image.specs.Trees.{IsTreeOf, point_of, total_of}
use Rattle.ak_inner.specs.declared.reference.Ref.{Ref}
use Rattle.ak_levels.proofs.Ordered.{order_wider}
use Rattle.ak_levels.specs.Orders.{all_below, AreInOrder}
use Rattle.ak_levels.specs.Pending.{Lists, pending_at}
use Rattle.ak_meta.specs.Contents.{rescue_at}
use Rattle.ak_meta.specs.declared.meta.SeriesMeta.{SeriesMeta}
use Rattle.ak_repair.proofs.ReadNodes.{referred_orderly}
use Rattle.ak_repair.proofs.Times.{order_joined, order_pushed, time_at, time_none, time_rises, time_same, time_whole, total_begins, total_ends}
use Rattle.ak_repair.specs.Follows.{AreFollowed, IsReferred, IsRebuilt, made_of, pending_of}
use Rattle.ak_summary.specs.Summaries.{IsOrderly, joined}
use Rattle.ak_summary.specs.declared.summary.Summary.{Summary}
use Rattle.ak_volumes.specs.Ordinals.{Ordinals, IsLive}
use Rattle.ak_world.specs.Leaves.{Leaf, points_of}
use Rattle.ak_world.specs.Valid.{AreNumbered}
use Rattle.ak_world.specs.Views.{none, address_of}

-- one reference more
children_pushed : (lo low : ℕ) (home : ℕ → ℕ) (total : ℕ → ℕ → Summary) (k p j : ℕ) (rs : List Reference) (r : Reference) → p + length rs ≡ j → Children 32 lo low home total k p rs → Child 32 lo low home total k j r
    → Children 32 lo low home total k p (rs ++ r ∷ [])
children_pushed lo low home total k p j [] r is children child = (let here : j ≡ p = omega (arith, is) in subst (λ (i : ℕ). Child 32 lo low home total k i r) here child, tt)
children_pushed lo low home total k p j (s ∷ rs) r is children child = (children.0, children_pushed lo low home total k (suc p) j rs r (omega (arith, is)) children.1 child)

module _ (o : Ordinals) (seen : Seen) (series low count : ℕ) (leaves : List Leaf) (rescue : ℕ → ℕ) (numbers : AreNumbered low leaves) (long : low + length leaves ≡ count)
    (each : AllByRecursion (λ (leaf : Leaf). 0 < length leaf.points) leaves) (history : IsHistory (points_of leaves))
    (tree : IsTree 32 o.lo series low count (address_of leaves) (total_of leaves) rescue (Reads o seen)) where
  -- ---- Links

  -- a link to a node that isn't live
  link_gone : (k j at : ℕ) → j < made 32 k count → Link 32 o.lo low (address_of leaves) k j at → ¬ IsLive o at → suc j ≤ made 32 k low
  link_gone k j at there link dead = elim (cases_lt low (end 32 k j)) [
    | inl below ↦
        let s = tree.nodes k j below (end_made 32 k j count (omega arith) there) in
        absurd (dead (subst (IsLive o) (sym (link.live below)) s.read.0))
    | inr gone ↦ made_end 32 k j low (omega arith) gone
  ]

  -- ---- A node that was read

  link_here : (k j : ℕ) → low < end 32 k j → Link 32 o.lo low (address_of leaves) k j (spot 32 (address_of leaves) k j)
  link_here k j l = record { live = λ h. refl; dead = λ d. absurd (omega (arith, l, d)) }

  child_of : (k j : ℕ) (l : low < end 32 k j) (s : Stands 32 o.lo series low (address_of leaves) (total_of leaves) (Reads o seen) k j) → end 32 k j ≤ count
      → Child 32 o.lo low (address_of leaves) (total_of leaves) k j (found_in joined k (spot 32 (address_of leaves) k j) s.node)
  child_of zero j l s e =
      let one : end 32 0 j ≡ suc j = times_one 32 (suc j) in
      let start : max low (j * 32 ^ 0) ≡ j = omega (arith, times_one 32 j, one, l) in
      record {
        link = link_here 0 j l;
        ends = λ h. ap (λ (x : Summary). x.end) (s.worth refl) ∙ sym (ap (λ (x : ℕ). (total_of leaves (pred x) x).end) one);
        tally = inl record {
          some = l;
          begins = ap (λ (x : ℕ). address_of leaves (pred x) + 0) one ∙ (let z : address_of leaves j + 0 ≡ address_of leaves j = omega arith in z) ∙ ap (address_of leaves) (sym start);
          worth = s.worth refl ∙ sym (ap₂ (total_of leaves) start one);
        };
      }
  child_of (suc k) j l s e = record {
    link = link_here (suc k) j l;
    ends = λ h. node_ends 32 o.lo low (address_of leaves) (total_of leaves) joined (λ a b. refl) k j s.node.references h s.body;
    tally = node_tally 32 o.lo low count (address_of leaves) (total_of leaves) joined (omega arith)
        (λ a b c from less more to. totals_join low leaves numbers each a b c from less more (omega (arith, to, long))) k j s.node.references e l s.body;
  }

  -- the reference to a node is one, whichever reading gives the node
  found_same : (k at : ℕ) (x y : Node) → x.level ≡ k → IsNodeAt seen at x → IsNodeAt seen at y → found_in joined k at x ≡ found_in joined k at y
  found_same zero at x y level one two =
      let same = one_node seen at x y one two in
      let value : x.value ≡ y.value = same.5 level in
      λ i. record { child = at; first = at; summary = value i }
  found_same (suc k) at x y level one two =
      let same = one_node seen at x y one two in
      ap (λ (rs : List Reference). record { child = at; first = first_of rs; summary = joined_by joined rs }) same.4

  record IsNext (k j at elder : ℕ) (r : Ref) : Type 0 where
    child : Child 32 o.lo low (address_of leaves) (total_of leaves) k j (reference_of r)
    before : Elder 32 o.lo low (address_of leaves) k j elder
    begins : time_at low leaves (j * 32 ^ k) ≤ r.summary.begin
    orderly : IsOrderly r.summary
    ends : r.summary.end ≤ time_at low leaves (end 32 k j)

  -- of the node that stands there
  next_of : (k j at elder : ℕ) (r : Ref) → j < made 32 k count → Link 32 o.lo low (address_of leaves) k j at → IsLive o at → IsReferred seen series k j at elder r → IsNext k j at elder r
  next_of k j at elder r below link live referred =
      let there = link_there o low (address_of leaves) k j at link live in
      let l = there.below in
      let e : end 32 k j ≤ count = end_made 32 k j count (omega arith) below in
      let s = tree.nodes k j l e in
      let is : IsNodeAt seen at s.node = subst (λ (a : ℕ). IsNodeAt seen a s.node) (sym there.place) s.read.1 in
      let same = one_node seen at referred.node s.node referred.is is in
      let reference : found_in joined k (spot 32 (address_of leaves) k j) s.node ≡ reference_of r =
      ap (λ (a : ℕ). found_in joined k a s.node) (sym there.place) ∙ sym (found_same k at referred.node s.node referred.level_is referred.is is) ∙ sym referred.reference_is in
      let child : Child 32 o.lo low (address_of leaves) (total_of leaves) k j (reference_of r) =
      subst (Child 32 o.lo low (address_of leaves) (total_of leaves) k j) reference (child_of k j l s e) in
      let last : suc (pred (end 32 k j)) ≡ end 32 k j = omega (arith, l) in
      let stop : (total_of leaves (pred (end 32 k j)) (end 32 k j)).end ≡ time_at low leaves (end 32 k j) =
      subst (λ (x : ℕ). (total_of leaves (pred (end 32 k j)) x).end ≡ time_at low leaves x) last
      (total_ends low leaves (pred (end 32 k j)) numbers each (omega (arith, l)) (omega (arith, e, long, l))) in
      record {
        child = child;
        before = subst (Elder 32 o.lo low (address_of leaves) k j) (sym same.3 ∙ referred.elder_is) s.elder;
        begins = elim child.tally [
          | inl covers ↦
              let m = max low (j * 32 ^ k) in
              let begins : time_at low leaves m ≤ (total_of leaves m (end 32 k j)).begin =
              total_begins low leaves m (end 32 k j) numbers each history (omega arith) (omega (arith, e, long, begun k j l)) (begun k j l) in
              omega (arith, begins, ap (λ (x : Summary). x.begin) covers.worth, time_same low leaves m (j * 32 ^ k) (omega arith))
          | inr cut ↦ omega (arith, time_none low leaves (j * 32 ^ k) (omega (arith, cut.begun)))
        ];
        orderly = referred_orderly r referred;
        ends = omega (arith, child.ends l, stop);
      }
    where
      begun : (k j : ℕ) → low < end 32 k j → max low (j * 32 ^ k) < end 32 k j
      begun k j l = omega (arith, l, suc-mul j (32 ^ k), fan_pos 32 k (omega arith))

  -- ---- A level

  -- so many nodes of a level, of which the last is the one before this number
  record IsRow (k left number : ℕ) (refs : List Ref) : Type 0 where
    start : ℕ
    is : start + length refs ≡ number
    from : start ≡ max (made 32 k low) (number - left)
    children : Children 32 o.lo low (address_of leaves) (total_of leaves) k start (map reference_of refs)
    order : AreInOrder (time_at low leaves (start * 32 ^ k)) (time_at low leaves (number * 32 ^ k)) refs

  row_none : (k left number : ℕ) (refs : List Ref) → refs ≡ [] → number ≡ max (made 32 k low) (number - left) → IsRow k left number refs
  row_none k left number refs none is = subst (IsRow k left number) (sym none) (record {
    start = number;
    is = omega arith;
    from = is;
    children = tt;
    order = omega arith;
  })

  row_of : (k left number at : ℕ) (refs : List Ref) → number ≤ made 32 k count → made 32 k low ≤ number → left ≤ number → Elder 32 o.lo low (address_of leaves) k number at
      → AreFollowed seen o series k left number at refs → IsRow k left number refs
  row_of k zero number at refs most least few elder none = row_none k zero number refs none (omega (arith, least))
  row_of k (suc left) zero at refs most least few elder followed = absurd (omega (arith, few))
  row_of k (suc left) (suc j) at refs most least few link (inl dead) =
      row_none k (suc left) (suc j) refs dead.1 (omega (arith, least, link_gone k j at (omega (arith, most)) link dead.0))
  row_of k (suc left) (suc j) at refs most least few link (inr live) =
      let front : List Ref = live.1.0 in
      let last : Ref = live.1.1 in
      let elder : ℕ = live.1.2 in
      let less : suc j - 1 ≡ j = omega arith in
      let referred : IsReferred seen series k j at elder last = subst (λ (n : ℕ). IsReferred seen series k n at elder last) less live.1.4 in
      let next = next_of k j at elder last (omega (arith, most)) link live.0 referred in
      let there = link_there o low (address_of leaves) k j at link live.0 in
      let rest : AreFollowed seen o series k left j elder front = subst (λ (n : ℕ). AreFollowed seen o series k left n elder front) less live.1.5 in
      let row = row_of k left j elder front (omega (arith, most)) there.from (omega (arith, few)) next.before rest in
      let is : front ++ last ∷ [] ≡ refs = sym live.1.3 in
      let more : IsRow k (suc left) (suc j) (front ++ last ∷ []) = record {
        start = row.start;
        is = omega (arith, row.is, length-append front (last ∷ []));
        from = omega (arith, row.from);
        children = subst (Children 32 o.lo low (address_of leaves) (total_of leaves) k row.start) (sym (map-append reference_of front (last ∷ [])))
            (children_pushed o.lo low (address_of leaves) (total_of leaves) k row.start j (map reference_of front) (reference_of last) (omega (arith, row.is, length_map front)) row.children next.child);
        order = order_pushed (time_at low leaves (row.start * 32 ^ k)) (time_at low leaves (j * 32 ^ k)) (time_at low leaves (suc j * 32 ^ k)) front last row.order next.begins next.orderly next.ends;
      } in
      subst (IsRow k (suc left) (suc j)) is more
    where
      length_map : (rs : List Ref) → length (map reference_of rs) ≡ length rs
      length_map [] = refl
      length_map (r ∷ rs) = ap suc (length_map rs)

  -- ---- All levels

  module _ (v : Lists) (levels : length v.pending ≡ 11) (few : count < 32 ^ 11)
      (rebuilt : (k : ℕ) → k ≤ 10 → AreFollowed seen o series k (pending_of count k) (made_of count k) (rescue k) (pending_at v k)) where
    digit_is : (k : ℕ) → made 32 (suc k) count * 32 + pending_of count k ≡ made_of count k
    digit_is k = made_split 32 k count

    row_at : (k : ℕ) → k ≤ 10 → IsRow k (pending_of count k) (made_of count k) (pending_at v k)
    row_at k h =
        row_of k (pending_of count k) (made_of count k) (rescue k) (pending_at v k) (omega arith) (made_mono 32 k low count (omega arith) tree.fits) (omega (arith, digit_is k)) (tree.rescues k) (rebuilt k h)

    start_is : (k : ℕ) (h : k ≤ 10) → (row_at k h).start ≡ max (made 32 k low) (made 32 (suc k) count * 32)
    start_is k h = (row_at k h).from ∙ (let rest : made_of count k - pending_of count k ≡ made 32 (suc k) count * 32 = omega (arith, digit_is k) in ap (max (made 32 k low)) rest)

    length_map : (rs : List Ref) → length (map reference_of rs) ≡ length rs
    length_map [] = refl
    length_map (r ∷ rs) = ap suc (length_map rs)

    waits_at : (k : ℕ) → k ≤ 10 → Waits 32 o.lo low (address_of leaves) (total_of leaves) low count k (waiting_of v k)
    waits_at k h = let row = row_at k h in record {
      each = subst (λ (p : ℕ). Children 32 o.lo low (address_of leaves) (total_of leaves) k p (waiting_of v k)) (start_is k h) row.children;
      all = omega (arith, start_is k h, row.is, length_map (pending_at v k));
    }

    none_past : (xs : List (List Ref)) (k : ℕ) → length xs ≤ k → get_or xs k [] ≡ []
    none_past [] k past = refl
    none_past (x ∷ xs) zero past = absurd (omega arith)
    none_past (x ∷ xs) (suc k) past = none_past xs k (omega arith)

    waits_above : (k : ℕ) → 11 ≤ k → Waits 32 o.lo low (address_of leaves) (total_of leaves) low count k (waiting_of v k)
    waits_above k past =
        let none : waiting_of v k ≡ [] = ap (map reference_of) (none_past v.pending k (omega (arith, levels, past))) in
        let power : 32 ^ 11 ≤ 32 ^ k = pow-le-pow_right (omega arith) past in
        let made_here : made 32 k count ≡ 0 = made_none 32 k count (omega arith) (omega (arith, few, power)) in
        let made_next : made 32 (suc k) count * 32 ≤ made 32 k count = omega (arith, made_split 32 k count) in
        let dead : made 32 k low ≤ made 32 k count = made_mono 32 k low count (omega arith) tree.fits in
        subst (Waits 32 o.lo low (address_of leaves) (total_of leaves) low count k) (sym none) (record {
          each = tt;
          all = omega (arith, made_here, made_next, dead);
        })

    waits : (k : ℕ) → Waits 32 o.lo low (address_of leaves) (total_of leaves) low count k (waiting_of v k)
    waits k = elim (cases_lt k 11) [ inl below ↦ waits_at k (omega (arith, below)) | inr past ↦ waits_above k past ]

    order_below : (n : ℕ) → n ≤ 11 → AreInOrder (time_at low leaves (made 32 n count * 32 ^ n)) (time_at low leaves count) (all_below v n)
    order_below zero h = let whole : made 32 0 count * 32 ^ 0 ≡ count = omega arith in omega (arith, ap (time_at low leaves) whole)
    order_below (suc k) h =
        let row = row_at k (omega (arith, h)) in
        let start = start_is k (omega (arith, h)) in
        let level : max low (row.start * 32 ^ k) ≡ max low (made 32 (suc k) count * 32 ^ suc k) = ap (λ (p : ℕ). max low (p * 32 ^ k)) start ∙ start_level 32 k low (made 32 (suc k) count) in
        let from : time_at low leaves (row.start * 32 ^ k) ≡ time_at low leaves (made 32 (suc k) count * 32 ^ suc k) = time_same low leaves (row.start * 32 ^ k) (made 32 (suc k) count * 32 ^ suc k) (omega (arith, level)) in
        order_joined (time_at low leaves (made 32 (suc k) count * 32 ^ suc k)) (time_at low leaves (made 32 k count * 32 ^ k)) (time_at low leaves count) (pending_at v k) (all_below v k)
        (subst (λ (t : ℕ). AreInOrder t (time_at low leaves (made 32 k count * 32 ^ k)) (pending_at v k)) from row.order) (order_below k (omega (arith, h)))

    order_all : (last : ℕ) → time_at low leaves count ≤ last → AreInOrder 0 last (all_below v 11)
    order_all last late = order_wider (time_at low leaves (made 32 11 count * 32 ^ 11)) (time_at low leaves count) 0 last (all_below v 11) (omega arith) late (order_below 11 (omega arith))

-- ---- One series

-- what waits of a series that is rebuilt belongs to its blocks
pub rebuilt_planted : (o : Ordinals) (seen : Seen) (series : ℕ) (known : SeriesMeta) (leaves : List Leaf) (v : Lists) → known.leaves < 32 ^ 11 → length v.pending ≡ 11
    → IsChain seen o.lo series known leaves → IsTreeOf o seen series known leaves → IsRebuilt seen o series known v → IsPlanted o seen series known leaves (known.leaves - length leaves) v
rebuilt_planted o seen series known leaves v few levels chain tree rebuilt =
    let low : ℕ = known.leaves - length leaves in
    let first : chain.first ≡ low = omega (arith, chain.count) in
    let numbers : AreNumbered low leaves = subst (λ (n : ℕ). AreNumbered n leaves) first chain.numbers in
    let long : low + length leaves ≡ known.leaves = omega (arith, chain.count) in
    let each : AllByRecursion (λ (leaf : Leaf). 0 < length leaf.points) leaves = all_some seen series chain.before leaves (rescue_at known.rescue 0) chain.links in
    let all : (k : ℕ) → k ≤ 10 → AreFollowed seen o series k (pending_of known.leaves k) (made_of known.leaves k) (point_of known.rescue k) (pending_at v k) =
    λ k h. subst (λ (a : ℕ). AreFollowed seen o series k (pending_of known.leaves k) (made_of known.leaves k) a (pending_at v k)) (sym (point_low known.rescue k h)) (rebuilt k h) in
    record {
      grown = record {
        tree = tree;
        older = omega arith;
        waits = waits o seen series low known.leaves leaves (point_of known.rescue) numbers long each chain.history tree v levels few all;
      };
      order = order_all o seen series low known.leaves leaves (point_of known.rescue) numbers long each chain.history tree v levels few all known.last
          (omega (arith, time_whole low leaves known.leaves long, time_rises 0 known.last leaves (omega arith), chain.last));
    }

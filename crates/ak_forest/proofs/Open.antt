-- What an opening rebuilds is what the invariant asks, and a step of another series keeps it.
use Rattle.std.proofs.Common.{◌≡◌, inl, ℕ, zero, suc, pred, ◌+◌, ◌-◌, ◌*◌, ◌^◌, ◌<◌, ◌≤◌, max, List, length, map, Some, refl, sym, ◌∙◌, ap, ap₂, subst, arith}
use Rattle.ak_forest.specs.Numbers.{made, digit, end, span}
use Rattle.ak_forest.specs.Tree.{Seen, Node, Reference, Link, Child, Children, Stands, IsTree, IsGrown, IsBlind, Waits, spot, pending, found, found_in, reads_of}
use Rattle.ak_summary.specs.declared.summary.Summary.{Summary}
use Rattle.ak_forest.proofs.Arith.{end_made, made_mono, made_split, times_one}
use Rattle.ak_forest.proofs.Pending.{pending_is, live_at}
use Rattle.ak_forest.proofs.Tally.{node_tally, node_ends}

found_read : (join : Summary → Summary → Summary) (seen : Seen) (k at : ℕ) (node : Node) → seen at ≡ Some node → found join seen k at ≡ found_in join k at node
found_read join seen k at node read = rw (read, found)

found_here : (join : Summary → Summary → Summary) (k at : ℕ) (node : Node) → (found_in join k at node).child ≡ at
found_here join zero at node = refl
found_here join (suc k) at node = refl

module _ (fan lo series low leaves : ℕ) (home rescue : ℕ → ℕ) (total : ℕ → ℕ → Summary) (join : Summary → Summary → Summary) (seen : Seen) (two : 1 < fan)
    (blind : IsBlind lo seen) (tree : IsTree fan lo series low leaves home total rescue (reads_of seen)) (ends : (a b : Summary) → (join a b).end ≡ b.end)
    (adds : (i j k : ℕ) → low ≤ i → i < j → j < k → k ≤ leaves → join (total i j) (total j k) ≡ total i k) where
  link_here : (k j : ℕ) → low < end fan k j → Link fan lo low home k j (spot fan home k j)
  link_here k j l = record { live = λ h. refl; dead = λ d. absurd (omega (arith, l, d)) }

  in_child : (k j : ℕ) (l : low < end fan k j) (s : Stands fan lo series low home total (reads_of seen) k j) → end fan k j ≤ leaves → Child fan lo low home total k j (found_in join k (spot fan home k j) s.node)
  in_child zero j l s e =
      let one : end fan 0 j ≡ suc j = times_one fan (suc j) in
      let start : max low (j * fan ^ 0) ≡ j = omega (arith, times_one fan j, one, l) in
      record {
        link = link_here 0 j l;
        ends = λ h. ap (λ (x : Summary). x.end) (s.worth refl) ∙ sym (ap (λ (x : ℕ). (total (pred x) x).end) one);
        tally = inl record {
          some = l;
          begins = ap (λ (x : ℕ). home (pred x) + 0) one ∙ (let z : home j + 0 ≡ home j = omega arith in z) ∙ ap home (sym start);
          worth = s.worth refl ∙ sym (ap₂ total start one);
        };
      }
  in_child (suc k) j l s e = record {
    link = link_here (suc k) j l;
    ends = λ h. node_ends fan lo low home total join ends k j s.node.references h s.body;
    tally = node_tally fan lo low leaves home total join (omega arith) adds k j s.node.references e l s.body;
  }

  found_child : (k j : ℕ) → made fan k low ≤ j → j < made fan k leaves → Child fan lo low home total k j (found join seen k (spot fan home k j))
  found_child k j from below =
      let l : low < end fan k j = live_at fan lo series low leaves home rescue total seen two blind tree k j from in
      let e : end fan k j ≤ leaves = end_made fan k j leaves (omega arith) below in
      let s = tree.nodes k j l e in
      subst (λ (r : Reference). Child fan lo low home total k j r) (sym (found_read join seen k (spot fan home k j) s.node s.read)) (in_child k j l s e)

  found_children : (k n p : ℕ) → made fan k low ≤ p → p + n ≤ made fan k leaves → Children fan lo low home total k p (map (found join seen k) (map (spot fan home k) (span p n)))
  found_children k zero p from below = tt
  found_children k (suc n) p from below = (found_child k p from (omega arith), found_children k n (suc p) (omega arith) (omega arith))

  length_map2 : (k n p : ℕ) → length (map (found join seen k) (map (spot fan home k) (span p n))) ≡ n
  length_map2 k zero p = refl
  length_map2 k (suc n) p = ap suc (length_map2 k n (suc p))

  -- an opening gives the invariant
  pub opened : IsGrown fan lo series low leaves home total rescue (reads_of seen) low (λ k. map (found join seen k) (pending fan seen leaves rescue k))
  opened = record {
    tree = tree;
    older = omega arith;
    waits = λ k.
        let c = made fan k leaves in
        let p = max (made fan k low) (made fan (suc k) leaves * fan) in
        let is = pending_is fan lo series low leaves home rescue total seen two blind tree k in
        let split : made fan (suc k) leaves * fan + digit fan k leaves ≡ c = made_split fan k leaves in
        let begun : made fan k low ≤ c = made_mono fan k low leaves (omega arith) tree.fits in
        let all : p + (c - p) ≡ c = omega (arith, split, begun) in
        subst (λ (l : List ℕ). Waits fan lo low home total low leaves k (map (found join seen k) l)) (sym is) record {
          each = found_children k (c - p) p (omega arith) (omega (arith, all));
          all = ap (λ (x : ℕ). p + x) (length_map2 k (c - p) p) ∙ all;
        };
  }

-- a step of another series keeps the invariant
pub tree_kept : (fan lo series low leaves : ℕ) (home rescue : ℕ → ℕ) (total : ℕ → ℕ → Summary) (reads reads' : ℕ → Node → Type 0)
    → ((a : ℕ) (node : Node) → reads a node → reads' a node)
    → IsTree fan lo series low leaves home total rescue reads → IsTree fan lo series low leaves home total rescue reads'
tree_kept fan lo series low leaves home rescue total reads reads' keeps tree = record {
  fits = tree.fits;
  nodes = λ k j l e. let s = tree.nodes k j l e in record {
    node = s.node;
    read = keeps (spot fan home k j) s.node s.read;
    of_series = s.of_series;
    of_level = s.of_level;
    numbered = s.numbered;
    worth = s.worth;
    elder = s.elder;
    body = s.body;
  };
  rescues = tree.rescues;
}

pub grown_kept : (fan lo series low leaves base : ℕ) (home rescue : ℕ → ℕ) (total : ℕ → ℕ → Summary) (reads reads' : ℕ → Node → Type 0) (waiting : ℕ → List Reference)
    → ((a : ℕ) (node : Node) → reads a node → reads' a node)
    → IsGrown fan lo series low leaves home total rescue reads base waiting → IsGrown fan lo series low leaves home total rescue reads' base waiting
grown_kept fan lo series low leaves base home rescue total reads reads' waiting keeps grown = record {
  tree = tree_kept fan lo series low leaves home rescue total reads reads' keeps grown.tree;
  older = grown.older;
  waits = grown.waits;
}

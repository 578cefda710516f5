-- Trees whose live leaves are told of otherwise: what is said of dead ones doesn't matter.
use Rattle.std.proofs.Common.{◌≡◌, ◌⊎◌, inl, inr, ◌∙◌, ℕ, zero, suc, pred, ◌+◌, ◌-◌, ◌*◌, ◌^◌, ◌<◌, ◌≤◌, max, List, [], ◌∷◌, length, ap, subst, arith}
use Rattle.ak_forest.proofs.Arith.{times_one}
use Rattle.ak_forest.specs.Numbers.{made, end}
use Rattle.ak_forest.specs.Tree.{Node, Reference, Link, Elder, Covers, Cut, Child, Children, Body, Stands, IsTree, IsGrown, spot}
use Rattle.ak_summary.specs.declared.summary.Summary.{Summary}

-- the addresses and the totals of the leaves from number low on are the same
module _ (fan lo low : ℕ) (home later : ℕ → ℕ) (total after : ℕ → ℕ → Summary) (same : (i : ℕ) → low ≤ i → home i ≡ later i) (worth : (i j : ℕ) → low ≤ i → total i j ≡ after i j) where
  spot_moved : (k j : ℕ) → low < end fan k j → spot fan home k j ≡ spot fan later k j
  spot_moved k j l = ap (λ (a : ℕ). a + k) (same (pred (end fan k j)) (omega (arith, l)))

  link_moved : (k j at : ℕ) → Link fan lo low home k j at → Link fan lo low later k j at
  link_moved k j at link = record { live = λ l. link.live l ∙ spot_moved k j l; dead = link.dead }

  elder_moved : (k j at : ℕ) → Elder fan lo low home k j at → Elder fan lo low later k j at
  elder_moved k zero at link = link
  elder_moved k (suc j) at link = link_moved k j at link

  tally_moved : (k j first : ℕ) (summary : Summary) → Covers fan low home total k j first summary ⊎ Cut fan lo low k j first → Covers fan low later after k j first summary ⊎ Cut fan lo low k j first
  tally_moved k j first summary (inl covers) =
      let f = max low (j * fan ^ k) in
      let from : low ≤ f = omega arith in
      inl record { some = covers.some; begins = covers.begins ∙ same f from; worth = covers.worth ∙ worth f (end fan k j) from }
  tally_moved k j first summary (inr cut) = inr cut

  child_moved : (k j : ℕ) (r : Reference) → Child fan lo low home total k j r → Child fan lo low later after k j r
  child_moved k j r child = record {
    link = link_moved k j r.child child.link;
    ends = λ l. child.ends l ∙ ap (λ (s : Summary). s.end) (worth (pred (end fan k j)) (end fan k j) (omega (arith, l)));
    tally = tally_moved k j r.first r.summary child.tally;
  }

  children_moved : (k j : ℕ) (rs : List Reference) → Children fan lo low home total k j rs → Children fan lo low later after k j rs
  children_moved k j [] links = tt
  children_moved k j (r ∷ rs) links = (child_moved k j r links.0, children_moved k (suc j) rs links.1)

  body_moved : (k j : ℕ) (rs : List Reference) → Body fan lo low home total k j rs → Body fan lo low later after k j rs
  body_moved zero j rs body = body
  body_moved (suc k) j rs body = record {
    some = body.some;
    most = body.most;
    each = children_moved k (suc j * fan - length rs) rs body.each;
    missing = body.missing;
  }

  stands_moved : (series k j : ℕ) (reads : ℕ → Node → Type 0) → low < end fan k j → Stands fan lo series low home total reads k j → Stands fan lo series low later after reads k j
  stands_moved series k j reads l s = record {
    node = s.node;
    read = subst (λ (a : ℕ). reads a s.node) (spot_moved k j l) s.read;
    of_series = s.of_series;
    of_level = s.of_level;
    numbered = s.numbered;
    worth = λ low_level. s.worth low_level ∙ worth j (suc j) (from k l low_level);
    elder = elder_moved k j s.node.elder s.elder;
    body = body_moved k j s.node.references s.body;
  }
    where
      from : (k : ℕ) → low < end fan k j → k ≡ 0 → low ≤ j
      from zero l none = omega (arith, times_one fan (suc j), l)
      from (suc k) l none = absurd (omega (arith, none))

  pub tree_moved : (series leaves : ℕ) (rescue : ℕ → ℕ) (reads : ℕ → Node → Type 0) → IsTree fan lo series low leaves home total rescue reads → IsTree fan lo series low leaves later after rescue reads
  tree_moved series leaves rescue reads tree = record {
    fits = tree.fits;
    nodes = λ k j l e. stands_moved series k j reads l (tree.nodes k j l e);
    rescues = λ k. elder_moved k (made fan k leaves) (rescue k) (tree.rescues k);
  }

  pub grown_moved : (series leaves base : ℕ) (rescue : ℕ → ℕ) (reads : ℕ → Node → Type 0) (waiting : ℕ → List Reference) → IsGrown fan lo series low leaves home total rescue reads base waiting
      → IsGrown fan lo series low leaves later after rescue reads base waiting
  grown_moved series leaves base rescue reads waiting grown = record {
    tree = tree_moved series leaves rescue reads grown.tree;
    older = grown.older;
    waits = λ k. let w = grown.waits k in record { each = children_moved k (max (made fan k base) (made fan (suc k) leaves * fan)) (waiting k) w.each; all = w.all };
  }

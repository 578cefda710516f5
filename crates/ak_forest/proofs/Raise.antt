-- The least live ordinal rises: leaves die, and nothing else changes.
use Rattle.std.proofs.Common.{◌≡◌, inl, inr, ℕ, zero, suc, pred, ◌+◌, ◌-◌, ◌*◌, max, ◌^◌, ◌⊎◌, ◌<◌, ◌≤◌, List, [], ◌∷◌, length, ◌∙◌, ap, arith, suc-mul}
use Rattle.std.proofs.lemmas.Bool.{cases_lt}
use Rattle.ak_forest.specs.Numbers.{made, end}
use Rattle.ak_forest.specs.Tree.{Reference, Link, Covers, Cut, Elder, Children, Body, IsTree, IsGrown, Waits, spot, width, Node}
use Rattle.ak_summary.specs.declared.summary.Summary.{Summary}
use Rattle.ak_forest.proofs.Arith.{times_le, times_one, fan_pos}

module _ (fan lo next low last leaves : ℕ) (home : ℕ → ℕ) (total : ℕ → ℕ → Summary) (pos : 0 < fan) (rises : lo ≤ next) (dies : low ≤ last)
    (gone : (k j : ℕ) → low < end fan k j → end fan k j ≤ last → spot fan home k j < next * width) where
  pub link_raised : (k j at : ℕ) → Link fan lo low home k j at → Link fan next last home k j at
  link_raised k j at link = record {
    live = λ l. link.live (omega arith);
    dead = λ d. elim (cases_lt low (end fan k j)) [
      | inl l ↦ let here : spot fan home k j < next * width = gone k j l d in omega (arith, link.live l, here)
      | inr old ↦ omega (arith, link.dead old, times_le lo next width rises)
    ];
  }

  pub elder_raised : (k j at : ℕ) → Elder fan lo low home k j at → Elder fan next last home k j at
  elder_raised k zero at link = link
  elder_raised k (suc j) at link = link_raised k j at link

  pub tally_raised : (k j first : ℕ) (summary : Summary) → Covers fan low home total k j first summary ⊎ Cut fan lo low k j first
      → Covers fan last home total k j first summary ⊎ Cut fan next last k j first
  tally_raised k j first summary (inl covers) =
      let f = max low (j * fan ^ k) in
      elim (cases_lt f last) [
        | inl died ↦
            let one : end fan 0 f ≡ suc f = times_one fan (suc f) in
            let here : spot fan home 0 f ≡ home f = ap (λ (x : ℕ). home (pred x) + 0) one ∙ omega arith in
            let dead : spot fan home 0 f < next * width = gone 0 f (omega (arith, one)) (omega (arith, one, died)) in
            inr record { begun = omega (arith, died); dead = omega (arith, covers.begins, here, dead) }
        | inr lives ↦
            let is : f ≡ max last (j * fan ^ k) = omega (arith, lives, dies) in
            let room : j * fan ^ k < end fan k j = omega (arith, suc-mul j (fan ^ k), fan_pos fan k pos) in
            inl record {
              some = omega (arith, lives, covers.some, room);
              begins = covers.begins ∙ ap home is;
              worth = covers.worth ∙ ap (λ (x : ℕ). total x (end fan k j)) is;
            }
      ]
  tally_raised k j first summary (inr cut) = inr record { begun = omega (arith, cut.begun, dies); dead = omega (arith, cut.dead, times_le lo next width rises) }

  pub children_raised : (k j : ℕ) (rs : List Reference) → Children fan lo low home total k j rs → Children fan next last home total k j rs
  children_raised k j [] links = tt
  children_raised k j (r ∷ rs) links = (record { link = link_raised k j r.child links.0.link; ends = λ l. links.0.ends (omega arith); tally = tally_raised k j r.first r.summary links.0.tally }, children_raised k (suc j) rs links.1)

  pub body_raised : (k j : ℕ) (rs : List Reference) → Body fan lo low home total k j rs → Body fan next last home total k j rs
  body_raised zero j rs body = body
  body_raised (suc k) j rs body = record {
    some = body.some;
    most = body.most;
    each = children_raised k (suc j * fan - length rs) rs body.each;
    missing = λ few. omega (arith, body.missing few);
  }

  pub waits_raised : (base k : ℕ) (rs : List Reference) → Waits fan lo low home total base leaves k rs → Waits fan next last home total base leaves k rs
  waits_raised base k rs waits = record { each = children_raised k (max (made fan k base) (made fan (suc k) leaves * fan)) rs waits.each; all = waits.all }

  pub tree_raised : (series : ℕ) (rescue : ℕ → ℕ) (reads later : ℕ → Node → Type 0) → last ≤ leaves
      → ((at : ℕ) (node : Node) → next * width ≤ at → reads at node → later at node)
      → ((k j : ℕ) → last < end fan k j → end fan k j ≤ leaves → next * width ≤ spot fan home k j)
      → IsTree fan lo series low leaves home total rescue reads → IsTree fan next series last leaves home total rescue later
  tree_raised series rescue reads later fits keeps lives tree = record {
    fits = fits;
    nodes = λ k j l e. let s = tree.nodes k j (omega arith) e in record {
      node = s.node;
      read = keeps (spot fan home k j) s.node (lives k j l e) s.read;
      of_series = s.of_series;
      of_level = s.of_level;
      numbered = s.numbered;
      worth = s.worth;
      elder = elder_raised k j s.node.elder s.elder;
      body = body_raised k j s.node.references s.body;
    };
    rescues = λ k. elder_raised k (made fan k leaves) (rescue k) (tree.rescues k);
  }

  -- a switch keeps the invariant
  pub grown_raised : (series : ℕ) (rescue : ℕ → ℕ) (reads later : ℕ → Node → Type 0) (base : ℕ) (waiting : ℕ → List Reference) → last ≤ leaves
      → ((at : ℕ) (node : Node) → next * width ≤ at → reads at node → later at node)
      → ((k j : ℕ) → last < end fan k j → end fan k j ≤ leaves → next * width ≤ spot fan home k j)
      → IsGrown fan lo series low leaves home total rescue reads base waiting → IsGrown fan next series last leaves home total rescue later base waiting
  grown_raised series rescue reads later base waiting fits keeps lives grown = record {
    tree = tree_raised series rescue reads later fits keeps lives grown.tree;
    older = omega (arith, grown.older);
    waits = λ k. waits_raised base k (waiting k) (grown.waits k);
  }

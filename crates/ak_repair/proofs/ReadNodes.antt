-- Nodes that were read, and the references to them.
use Rattle.std.proofs.Common.{◌≡◌, ◌≢◌, inl, inr, ◌∙◌, ℕ, zero, suc, ◌-◌, ◌^◌, ◌<◌, ◌≤◌, List, [], ◌∷◌, length, map, refl, sym, ap, subst, arith}
use Rattle.std.specs.List.{AllByRecursion}
use Rattle.ak_base.specs.declared.point.Addr.{Addr}
use Rattle.ak_base.specs.declared.point.Point.{Point}
use Rattle.ak_bytes.specs.Head.{IsInnerHead}
use Rattle.ak_bytes.specs.declared.head.Head.{Head}
use Rattle.ak_cache.specs.Leaves.{SpellsAsked, SpellsNone}
use Rattle.ak_cache.specs.Nodes.{SpellsAskedInner, SpellsNoInner}
use Rattle.ak_forest.specs.Tree.{Node, Reference, first_of, found_in}
use Rattle.ak_forest.specs.Tree.{joined as joined_by}
use Rattle.ak_image.specs.Blocks.{Seen}
use Rattle.ak_image.specs.Named.{IsNoNode}
use Rattle.ak_image.specs.Nodes.{IsNodeAt, reference_of}
use Rattle.ak_inner.proofs.Nodes.{inner_head}
use Rattle.ak_inner.specs.Nodes.{SpellsInner}
use Rattle.ak_inner.specs.References.{IsRef}
use Rattle.ak_inner.specs.declared.reference.Ref.{Ref}
use Rattle.ak_leaf.specs.Leaf.{SpellsLeaf}
use Rattle.ak_levels.proofs.Joined.{tallies_few, tallies_bounded, tally_joined, joined_refs_orderly}
use Rattle.ak_levels.proofs.Leaves.{leaf_orderly}
use Rattle.ak_levels.specs.Closes.{leaf_ref, node_ref, first_leaf_of}
use Rattle.ak_levels.specs.Entries.{IsTally}
use Rattle.ak_levels.specs.Joins.{joined_refs}
use Rattle.ak_meta.specs.Leaves.{address_at}
use Rattle.ak_repair.specs.Follows.{IsReferred}
use Rattle.ak_summary.specs.Folds.{no_summary, summary_of}
use Rattle.ak_summary.specs.Summaries.{IsBounded, IsOrderly, joined}
use Rattle.ak_world.specs.Leaves.{Leaf}

-- ---- Leaves

-- a leaf that is spelled has a point
pub spelled_some : (block : List ℕ) (h : Head) (ps : List Point) → SpellsLeaf block h ps → ps ≢ []
spelled_some block h ps spells none = elim spells.head.head.kind [
  | inl is ↦ omega (arith, is.some, spells.head.count, ap (length {A = Point}) none)
  | inr is ↦ omega (arith, is.kind, spells.head.kind)
]

abbrev leaf_node : ℕ → ℕ → ℕ → List Point → Node
leaf_node series number elder ps = record { series = series; level = 0; number = number; elder = elder; references = []; value = summary_of ps }

-- the leaf that was read
pub leaf_referred : (seen : Seen) (series number : ℕ) (a : Addr) (h : Head) (ps : List Point) (block : List ℕ) (r : Ref) → SpellsAsked block a series number h ps → SpellsLeaf (seen a.0) h ps → r ≡ leaf_ref a.0 ps
    → IsReferred seen series 0 number a.0 h.elder.0 r
leaf_referred seen series number a h ps block r asked spells is =
    let leaf : Leaf = record { number = number; address = a.0; points = ps } in
    subst (IsReferred seen series 0 number a.0 h.elder.0) (sym is) (record {
      node = leaf_node series number h.elder.0 ps;
      is = inl (record {
        level_is = refl;
        leaf = leaf;
        at = refl;
        number_is = refl;
        is = record { head = h; spells = spells; series_is = asked.series_is; number_is = asked.number_is; address_is = ap (λ (b : Addr). b.0) asked.addr_is; elder_is = refl };
        value_is = refl;
        none = refl;
      });
      series_is = refl;
      level_is = refl;
      number_is = refl;
      elder_is = refl;
      reference_is = refl;
    })

-- no such leaf stands there
pub none_leaf : (seen : Seen) (a : Addr) (series number : ℕ) → SpellsNone (seen a.0) a series number → IsNoNode seen series 0 number a.0
none_leaf seen a series number none node (inl leaf) series_is level_is number_is = none leaf.is.head leaf.leaf.points (record {
  leaf = subst (λ (b : ℕ). SpellsLeaf (seen b) leaf.is.head leaf.leaf.points) leaf.at leaf.is.spells;
  series_is = leaf.is.series_is ∙ series_is;
  number_is = leaf.is.number_is ∙ leaf.number_is ∙ number_is;
  addr_is = ap address_at (leaf.is.address_is ∙ leaf.at);
})
none_leaf seen a series number none node (inr inner) series_is level_is number_is =
    let above : IsInnerHead inner.head = inner_head inner.head inner.spells.head inner.spells.of.kind in
    omega (arith, above.above, inner.level_is, level_is)

-- ---- Inner nodes

first_same : (rs : List Ref) → (first_leaf_of rs).0 ≡ first_of (map reference_of rs)
first_same [] = refl
first_same (r ∷ rs) = refl

joined_same : (rs : List Ref) → joined_refs rs ≡ joined_by joined (map reference_of rs)
joined_same [] = refl
joined_same (r ∷ []) = refl
joined_same (r ∷ s ∷ rs) = ap (joined r.summary) (joined_same (s ∷ rs))

abbrev inner_node : ℕ → ℕ → ℕ → ℕ → List Ref → Node
inner_node series level number elder rs = record { series = series; level = level; number = number; elder = elder; references = map reference_of rs; value = no_summary }

-- the reference to a node with these references
node_found : (level a : ℕ) (node : Node) (rs : List Ref) → 1 ≤ level → node.references ≡ map reference_of rs → reference_of (node_ref a rs) ≡ found_in joined level a node
node_found zero a node rs above same = absurd (omega (arith, above))
node_found (suc k) a node rs above same =
    let first : (first_leaf_of rs).0 ≡ first_of node.references = first_same rs ∙ ap first_of (sym same) in
    let summary : joined_refs rs ≡ joined_by joined node.references = joined_same rs ∙ ap (joined_by joined) (sym same) in
    λ i. record { child = a; first = first i; summary = summary i }

-- the node that was read
pub inner_referred : (seen : Seen) (series level number : ℕ) (a : Addr) (h : Head) (rs : List Ref) (block : List ℕ) (r : Ref) → 1 ≤ level → SpellsAskedInner block a level series number h rs → SpellsInner (seen a.0) h rs
    → r ≡ node_ref a.0 rs → IsReferred seen series level number a.0 h.elder.0 r
inner_referred seen series level number a h rs block r above asked spells is =
    subst (IsReferred seen series level number a.0 h.elder.0) (sym is) (record {
      node = inner_node series level number h.elder.0 rs;
      is = inr (record {
        head = h;
        refs = rs;
        spells = spells;
        level_is = asked.level_is;
        series_is = asked.series_is;
        number_is = asked.number_is;
        address_is = ap (λ (b : Addr). b.0) asked.addr_is;
        elder_is = refl;
        references_are = refl;
      });
      series_is = refl;
      level_is = refl;
      number_is = refl;
      elder_is = refl;
      reference_is = node_found level a.0 (inner_node series level number h.elder.0 rs) rs above refl;
    })

-- no such node stands there
pub none_inner : (seen : Seen) (a : Addr) (level series number : ℕ) → 1 ≤ level → SpellsNoInner (seen a.0) a level series number → IsNoNode seen series level number a.0
none_inner seen a level series number above none node (inl leaf) series_is level_is number_is = absurd (omega (arith, above, leaf.level_is, level_is))
none_inner seen a level series number above none node (inr inner) series_is level_is number_is = none inner.head inner.refs (record {
  inner = inner.spells;
  level_is = inner.level_is ∙ level_is;
  series_is = inner.series_is ∙ series_is;
  number_is = inner.number_is ∙ number_is;
  addr_is = ap address_at inner.address_is;
})

-- ---- What a node counts

ref_tally : (level : ℕ) (r : Ref) → IsRef level r → IsTally (level - 1) r
ref_tally level r is = record { some = is.some; most = is.most; bounded = is.bounded }

refs_tallies : (level : ℕ) (rs : List Ref) → AllByRecursion (IsRef level) rs → AllByRecursion (IsTally (level - 1)) rs
refs_tallies level [] each = tt
refs_tallies level (r ∷ rs) each = (ref_tally level r each.0, refs_tallies level rs each.1)

-- the references of a node that was read
pub record IsCounted (level : ℕ) (rs : List Ref) : Type 0 where
  pub some : 1 ≤ length rs
  pub most : length rs ≤ 32
  pub tallies : AllByRecursion (IsTally (level - 1)) rs

pub inner_counted : (block : List ℕ) (a : Addr) (level series number : ℕ) (h : Head) (rs refs : List Ref) → refs ≡ rs → SpellsAskedInner block a level series number h rs → IsCounted level refs
inner_counted block a level series number h rs refs same asked =
    let above : IsInnerHead h = inner_head h asked.inner.head asked.inner.of.kind in
    subst (IsCounted level) (sym same) (record {
      some = omega (arith, above.some, asked.inner.of.count);
      most = omega (arith, above.count, asked.inner.of.count);
      tallies = subst (λ (l : ℕ). AllByRecursion (IsTally (l - 1)) rs) asked.level_is (refs_tallies h.level rs asked.inner.refs.each);
    })

pub counted_few : (level : ℕ) (rs : List Ref) → 1 ≤ level → level ≤ 10 → IsCounted level rs → (joined_refs rs).count < 2 ^ 63
counted_few level rs above below is = tallies_few (level - 1) rs (omega (arith, above, below)) is.most is.tallies

pub counted_bounded : (level : ℕ) (rs : List Ref) → IsCounted level rs → AllByRecursion (λ r. IsBounded r.summary) rs
counted_bounded level rs is = tallies_bounded (level - 1) rs is.tallies

pub counted_tally : (level a : ℕ) (rs : List Ref) (r : Ref) → 1 ≤ level → r ≡ node_ref a rs → IsCounted level rs → IsTally level r
counted_tally level a rs r above is counted =
    let same : suc (level - 1) ≡ level = omega (arith, above) in
    subst (λ (l : ℕ). IsTally l r) same (tally_joined (level - 1) rs r counted.some counted.most counted.tallies (ap (λ (s : Ref). s.summary) is))

-- ---- Its times

found_low : (level at : ℕ) (node : Node) → level ≡ 0 → (found_in joined level at node).summary ≡ node.value
found_low zero at node low = refl
found_low (suc k) at node low = absurd (omega (arith, low))

found_high : (level at : ℕ) (node : Node) → 1 ≤ level → (found_in joined level at node).summary ≡ joined_by joined node.references
found_high zero at node high = absurd (omega (arith, high))
found_high (suc k) at node high = refl

orderly_at : (seen : Seen) (level at : ℕ) (node : Node) → node.level ≡ level → IsNodeAt seen at node → IsOrderly (found_in joined level at node).summary
orderly_at seen level at node same (inl leaf) =
    let is : (found_in joined level at node).summary ≡ summary_of leaf.leaf.points = found_low level at node (sym same ∙ leaf.level_is) ∙ leaf.value_is in
    subst IsOrderly (sym is) (leaf_orderly at leaf.leaf.points (spelled_some (seen leaf.leaf.address) leaf.is.head leaf.leaf.points leaf.is.spells) leaf.is.spells.history)
orderly_at seen level at node same (inr inner) =
    let above : IsInnerHead inner.head = inner_head inner.head inner.spells.head inner.spells.of.kind in
    let is : (found_in joined level at node).summary ≡ joined_refs inner.refs =
    found_high level at node (omega (arith, above.above, inner.level_is, same)) ∙ ap (joined_by joined) inner.references_are ∙ sym (joined_same inner.refs) in
    subst IsOrderly (sym is) (joined_refs_orderly inner.head.level inner.refs (omega (arith, above.some, inner.spells.of.count)) inner.spells.refs)

pub referred_orderly : {seen : Seen} {series level number at elder : ℕ} (r : Ref) → IsReferred seen series level number at elder r → IsOrderly r.summary
referred_orderly {seen} {series} {level} {number} {at} {elder} r referred =
    subst IsOrderly (sym (ap (λ (s : Reference). s.summary) referred.reference_is)) (orderly_at seen level at referred.node referred.level_is referred.is)

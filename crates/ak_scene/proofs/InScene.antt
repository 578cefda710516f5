-- What is known of a series whose blocks are a chain of leaves and the tree over it.
use Rattle.std.proofs.Common.{◌≡◌, inl, inr, ◌∙◌, ℕ, zero, suc, ◌+◌, ◌-◌, ◌<◌, ◌≤◌, Bool, true, false, List, [], ◌∷◌, ◌++◌, length, map, refl, sym, ap, subst, arith, length-append}
use Rattle.std.proofs.lemmas.Bool.Decides.{nat_tests}
use Rattle.std.specs.Prelude.{nat_le, nat_lt, ◌&&◌, if◌then◌else◌}
use Rattle.ak_base.specs.Points.{IsHistoryFrom, last_ts_from}
use Rattle.ak_base.specs.declared.point.Addr.{Addr}
use Rattle.ak_base.specs.declared.point.Point.{Point}
use Rattle.ak_bytes.specs.declared.head.Head.{Head}
use Rattle.ak_cache.specs.Leaves.{SpellsNone}
use Rattle.ak_cache.specs.Nodes.{SpellsNoInner}
use Rattle.ak_scene.specs.Scenes.{IsScene}
use Rattle.ak_forest.specs.Numbers.{end}
use Rattle.ak_forest.specs.Tree.{Family, spot}
use Rattle.ak_image.specs.Blocks.{Seen}
use Rattle.ak_image.specs.Chains.{AreLinked}
use Rattle.ak_image.specs.Nodes.{reference_of, IsInnerOf}
use Rattle.ak_image.specs.Scans.{IsLeafOf}
use Rattle.ak_image.specs.Trees.{points_between, total_of}
use Rattle.ak_image.proofs.Numbered.{number_at, address_at, between_one, between_join, between_before, between_some}
use Rattle.ak_image.proofs.Lifting.{all_some}
use Rattle.ak_inner.specs.Nodes.{SpellsInner}
use Rattle.ak_inner.specs.declared.reference.Ref.{Ref}
use Rattle.ak_inner.proofs.Nodes.{one_node as one_inner}
use Rattle.ak_leaf.specs.Leaf.{SpellsLeaf}
use Rattle.ak_leaf.proofs.Blocks.{one_leaf}
use Rattle.ak_select.specs.Stretches.{AreStretches}
use Rattle.ak_select.proofs.Chosen.{last_least, history_front, history_rest}
use Rattle.ak_volumes.specs.Ordinals.{Ordinals}
use Rattle.ak_world.specs.Leaves.{Leaf, points_of}
use Rattle.ak_world.specs.Valid.{AreNumbered}
use Rattle.ak_world.specs.Views.{address_of}

-- a list that is twice itself
pub double_none : (ps : List Point) → ps ++ ps ≡ ps → ps ≡ []
double_none [] e = refl
double_none (p ∷ ps) e = absurd (omega (arith, ap (λ (qs : List Point). length qs) e, length-append ps (p ∷ ps)))

-- ---- Histories of leaves

history_lower : (t u : ℕ) (ps : List Point) → t ≤ u → IsHistoryFrom u ps → IsHistoryFrom t ps
history_lower t u [] less h = tt
history_lower t u (p ∷ ps) less h = (omega (arith, less, h.0), h.1)

history_joined : (t : ℕ) (ps qs : List Point) → IsHistoryFrom t ps → IsHistoryFrom (last_ts_from t ps) qs → IsHistoryFrom t (ps ++ qs)
history_joined t [] qs h g = g
history_joined t (p ∷ ps) qs h g = (h.0, history_joined p.ts ps qs h.1 g)

one_between : (x : Leaf) (leaves : List Leaf) (i j t : ℕ) → IsHistoryFrom t x.points → IsHistoryFrom (last_ts_from t x.points) (points_between leaves i j) → IsHistoryFrom t (points_between (x ∷ leaves) i j)
one_between x leaves i j t h g = pick (nat_le i x.number && nat_lt x.number j)
  where
    pick : (b : Bool) → IsHistoryFrom t (if b then x.points ++ points_between leaves i j else points_between leaves i j)
    pick true = history_joined t x.points (points_between leaves i j) h g
    pick false = history_lower t (last_ts_from t x.points) (points_between leaves i j) (last_least t x.points h) g

pub between_history : (t : ℕ) (leaves : List Leaf) (i j : ℕ) → IsHistoryFrom t (points_of leaves) → IsHistoryFrom t (points_between leaves i j)
between_history t [] i j h = tt
between_history t (x ∷ leaves) i j h =
    one_between x leaves i j t (history_front t x.points (points_of leaves) h) (between_history (last_ts_from t x.points) leaves i j (history_rest t x.points (points_of leaves) h))

-- all of them
pub all_between : (first : ℕ) (leaves : List Leaf) (i j : ℕ) → AreNumbered first leaves → i ≤ first → first + length leaves ≤ j → points_between leaves i j ≡ points_of leaves
all_between first [] i j are from to = refl
all_between first (x ∷ leaves) i j are from to =
    with_it (omega (arith, are.0, from)) (omega (arith, are.0, to)) ∙ ap (λ (ps : List Point). x.points ++ ps) (all_between (suc first) leaves i j are.1 (omega (arith, from)) (omega (arith, to)))
  where
    with_it : i ≤ x.number → x.number < j → points_between (x ∷ leaves) i j ≡ x.points ++ points_between leaves i j
    with_it from to = grind (arith, nat_tests)

-- ---- One leaf

pub same_addr : (a b : Addr) → a.0 ≡ b.0 → a ≡ b
same_addr a b e = λ i. record { 0 = e i }

-- the leaf of a number among the others
pub record IsAmong (seen : Seen) (series number : ℕ) (leaves : List Leaf) : Type 0 where
  pub leaf : Leaf
  pub elder : ℕ
  pub is : IsLeafOf seen series elder leaf
  pub number_is : leaf.number ≡ number
  pub at : address_of leaves number ≡ leaf.address
  pub points : points_between leaves number (suc number) ≡ leaf.points

record IsSplit (i : ℕ) (leaves : List Leaf) : Type 0 where
  front : List Leaf
  leaf : Leaf
  behind : List Leaf
  parts : leaves ≡ front ++ leaf ∷ behind
  long : length front ≡ i

split_at : (i : ℕ) (leaves : List Leaf) → i < length leaves → IsSplit i leaves
split_at i [] below = absurd (omega (arith, below))
split_at zero (x ∷ leaves) below = record { front = []; leaf = x; behind = leaves; parts = refl; long = refl }
split_at (suc i) (x ∷ leaves) below =
    let rest = split_at i leaves (omega (arith, below)) in
    record { front = x ∷ rest.front; leaf = rest.leaf; behind = rest.behind; parts = ap (λ (ls : List Leaf). x ∷ ls) rest.parts; long = ap suc rest.long }

linked_at : (seen : Seen) (series before last : ℕ) (front : List Leaf) (leaf : Leaf) (behind : List Leaf) → AreLinked seen series before (front ++ leaf ∷ behind) last → (elder : ℕ) × IsLeafOf seen series elder leaf
linked_at seen series before last [] leaf behind links = (before, links.0)
linked_at seen series before last (x ∷ front) leaf behind links = linked_at seen series x.address last front leaf behind links.1

among : (seen : Seen) (series first before last number : ℕ) (leaves : List Leaf) → AreNumbered first leaves → AreLinked seen series before leaves last → first ≤ number → number < first + length leaves
    → IsAmong seen series number leaves
among seen series first before last number leaves are links from to =
    let s = split_at (number - first) leaves (omega (arith, from, to)) in
    let all : List Leaf = s.front ++ s.leaf ∷ s.behind in
    let numbers : AreNumbered first all = subst (AreNumbered first) s.parts are in
    let linked = linked_at seen series before last s.front s.leaf s.behind (subst (λ (ls : List Leaf). AreLinked seen series before ls last) s.parts links) in
    let here : s.leaf.number ≡ number = omega (arith, number_at first s.front s.leaf s.behind numbers, s.long, from) in
    record {
      leaf = s.leaf;
      elder = linked.0;
      is = linked.1;
      number_is = here;
      at = subst (λ (n : ℕ). address_of leaves n ≡ s.leaf.address) here (ap (λ (ls : List Leaf). address_of ls s.leaf.number) s.parts ∙ address_at first s.front s.leaf s.behind numbers);
      points = subst (λ (n : ℕ). points_between leaves n (suc n) ≡ s.leaf.points) here
          (ap (λ (ls : List Leaf). points_between ls s.leaf.number (suc s.leaf.number)) s.parts ∙ between_one first s.front s.leaf s.behind numbers);
    }

module _ (o : Ordinals) (seen : Seen) (series : ℕ) (leaves : List Leaf) (scene : IsScene o seen series leaves) where
  low_is : scene.known.leaves - length leaves ≡ scene.chain.first
  low_is = omega (arith, scene.chain.count)

  pub stretches : AreStretches (scene.known.leaves - length leaves) scene.known.leaves (points_between leaves)
  stretches =
      let numbers = scene.chain.numbers in
      record {
        joins = λ i j k h g. between_join scene.chain.first leaves i j k numbers h g;
        gone = λ i j past. between_before scene.chain.first leaves i j numbers (omega (arith, past, low_is));
        some = λ i j from less to. between_some scene.chain.first leaves i j numbers (all_some seen series scene.chain.before leaves _ scene.chain.links) (omega (arith, from, low_is)) (omega (arith, to, scene.chain.count)) less;
        history = λ i j. between_history 0 leaves i j scene.chain.history;
      }

  -- a live leaf, by its number
  pub leaf_here : (number : ℕ) → scene.known.leaves - length leaves ≤ number → number < scene.known.leaves → IsAmong seen series number leaves
  leaf_here number from to = among seen series scene.chain.first scene.chain.before _ number leaves scene.chain.numbers scene.chain.links (omega (arith, from, low_is)) (omega (arith, to, scene.chain.count))

  pub leaf_points : (number : ℕ) (a : Addr) (head : Head) (ps : List Point) → a.0 ≡ address_of leaves number → scene.known.leaves - length leaves ≤ number → number < scene.known.leaves
      → SpellsLeaf (seen a.0) head ps → ps ≡ points_between leaves number (suc number)
  leaf_points number a head ps at from to spells =
      let it = leaf_here number from to in
      (one_leaf (seen it.leaf.address) head it.is.head ps it.leaf.points (subst (λ (b : ℕ). SpellsLeaf (seen b) head ps) (at ∙ it.at) spells) it.is.spells).1 ∙ sym it.points

  pub leaf_spelled : (number : ℕ) (a : Addr) → a.0 ≡ address_of leaves number → scene.known.leaves - length leaves ≤ number → number < scene.known.leaves
      → SpellsNone (seen a.0) a series number → ⊥
  leaf_spelled number a at from to none =
      let it = leaf_here number from to in
      let here : it.leaf.address ≡ a.0 = sym (at ∙ it.at) in
      none it.is.head it.leaf.points record {
        leaf = subst (λ (b : ℕ). SpellsLeaf (seen b) it.is.head it.leaf.points) here it.is.spells;
        series_is = it.is.series_is;
        number_is = it.is.number_is ∙ it.number_is;
        addr_is = same_addr it.is.head.addr a (it.is.address_is ∙ here);
      }

  -- ---- One inner node

  -- the inner node that stands in a place
  record IsStood (k number : ℕ) (a : Addr) : Type 0 where
    inner : (node : _) × IsInnerOf seen a.0 node × (node.level ≡ suc k) × (node.series ≡ series) × (node.number ≡ number)
        × Family 32 o.lo (scene.known.leaves - length leaves) (address_of leaves) (total_of leaves) k number node.references

  stood : (k number : ℕ) (a : Addr) → a.0 ≡ spot 32 (address_of leaves) (suc k) number → scene.known.leaves - length leaves < end 32 (suc k) number → end 32 (suc k) number ≤ scene.known.leaves
      → IsStood k number a
  stood k number a at live fits =
      let stands = scene.tree.nodes (suc k) number live fits in
      elim stands.read.1 [
        | inl leaf ↦ absurd (omega (arith, leaf.level_is, stands.of_level))
        | inr inner ↦ record { inner = (stands.node, subst (λ (b : ℕ). IsInnerOf seen b stands.node) (sym at) inner, stands.of_level, stands.of_series, stands.numbered, stands.body) }
      ]

  pub node_family : (k number : ℕ) (a : Addr) (head : Head) (rs : List Ref) → a.0 ≡ spot 32 (address_of leaves) (suc k) number
      → scene.known.leaves - length leaves < end 32 (suc k) number → end 32 (suc k) number ≤ scene.known.leaves
      → SpellsInner (seen a.0) head rs → Family 32 o.lo (scene.known.leaves - length leaves) (address_of leaves) (total_of leaves) k number (map reference_of rs)
  node_family k number a head rs at live fits spells =
      let it = (stood k number a at live fits).inner in
      let same : it.1.refs ≡ rs = (one_inner (seen a.0) it.1.head head it.1.refs rs it.1.spells spells).1 in
      subst (λ (all : List _). Family 32 o.lo (scene.known.leaves - length leaves) (address_of leaves) (total_of leaves) k number all)
      (it.1.references_are ∙ ap (map reference_of) same) it.5

  pub node_spelled : (k number : ℕ) (a : Addr) → a.0 ≡ spot 32 (address_of leaves) (suc k) number
      → scene.known.leaves - length leaves < end 32 (suc k) number → end 32 (suc k) number ≤ scene.known.leaves
      → SpellsNoInner (seen a.0) a (suc k) series number → ⊥
  node_spelled k number a at live fits none =
      let it = (stood k number a at live fits).inner in
      none it.1.head it.1.refs record {
        inner = it.1.spells;
        level_is = it.1.level_is ∙ it.2;
        series_is = it.1.series_is ∙ it.3;
        number_is = it.1.number_is ∙ it.4;
        addr_is = same_addr it.1.head.addr a it.1.address_is;
      }

  -- the same of a level above 0
  pub family_of : (level number : ℕ) (a : Addr) (head : Head) (rs : List Ref) → 1 ≤ level → a.0 ≡ spot 32 (address_of leaves) level number
      → scene.known.leaves - length leaves < end 32 level number → end 32 level number ≤ scene.known.leaves
      → SpellsInner (seen a.0) head rs → Family 32 o.lo (scene.known.leaves - length leaves) (address_of leaves) (total_of leaves) (level - 1) number (map reference_of rs)
  family_of zero number a head rs above at live fits spells = absurd (omega (arith, above))
  family_of (suc k) number a head rs above at live fits spells =
      let down : k ≡ suc k - 1 = omega arith in
      subst (λ (l : ℕ). Family 32 o.lo (scene.known.leaves - length leaves) (address_of leaves) (total_of leaves) l number (map reference_of rs)) down (node_family k number a head rs at live fits spells)

  pub inner_spelled : (level number : ℕ) (a : Addr) → 1 ≤ level → a.0 ≡ spot 32 (address_of leaves) level number
      → scene.known.leaves - length leaves < end 32 level number → end 32 level number ≤ scene.known.leaves
      → SpellsNoInner (seen a.0) a level series number → ⊥
  inner_spelled zero number a above at live fits none = absurd (omega (arith, above))
  inner_spelled (suc k) number a above at live fits none = node_spelled k number a at live fits none

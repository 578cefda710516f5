-- The same blocks at the live addresses hold the same leaves.
use Rattle.std.proofs.Common.{◌≡◌, ℕ, zero, suc, ◌+◌, ◌-◌, List, [], ◌∷◌, length, inl, inr, refl, sym, subst, arith}
use Rattle.ak_image.specs.Blocks.{Seen}
use Rattle.ak_image.specs.Chains.{AreLinked, IsChain}
use Rattle.ak_forest.proofs.Open.{tree_kept}
use Rattle.ak_forest.specs.Tree.{Node, IsTree}
use Rattle.ak_image.specs.Groups.{Group, AreInner, AreGroups, AreRows}
use Rattle.ak_image.specs.Images.{AreScans, AreGrown, AreSound}
use Rattle.ak_image.specs.Laid.{AreLaid, IsLaid}
use Rattle.ak_image.specs.Nodes.{IsInnerOf, IsNodeAt, Reads}
use Rattle.ak_image.specs.Scans.{IsLeafOf, IsFound, AreFound, IsScan}
use Rattle.ak_image.specs.Trees.{IsTreeOf, AreTreed, total_of, point_of}
use Rattle.ak_inner.specs.Nodes.{SpellsInner}
use Rattle.ak_leaf.specs.Leaf.{SpellsLeaf}
use Rattle.ak_levels.specs.Carries.{carry_of}
use Rattle.ak_meta.specs.Contents.{Content, IsMeta, rescue_at}
use Rattle.ak_meta.specs.declared.meta.SeriesMeta.{SeriesMeta}
use Rattle.ak_volumes.specs.Ordinals.{Ordinals, AreOrdinals, IsLive, address}
use Rattle.ak_world.specs.Leaves.{Leaf}
use Rattle.ak_world.specs.Views.{address_of}
use Rattle.ak_image.proofs.Places.{InRow, InRows, AtEach, row_head, row_rest, row_front, row_back, live_rows, scan_at}

-- the same block in both
abbrev pub Same : Seen → Seen → ℕ → Type 0
Same seen other a = other a ≡ seen a

pub leaf_same : (seen other : Seen) (series elder : ℕ) (leaf : Leaf) → Same seen other leaf.address → IsLeafOf seen series elder leaf → IsLeafOf other series elder leaf
leaf_same seen other series elder leaf same is = record {
  head = is.head;
  spells = subst (λ (block : List ℕ). SpellsLeaf block is.head leaf.points) (sym same) is.spells;
  series_is = is.series_is;
  number_is = is.number_is;
  address_is = is.address_is;
  elder_is = is.elder_is;
}

pub found_same : (seen other : Seen) (series a : ℕ) (leaf : Leaf) → Same seen other a → IsFound seen series a leaf → IsFound other series a leaf
found_same seen other series a leaf same found = record {
  at = found.at;
  elder = found.elder;
  is = leaf_same seen other series found.elder leaf (subst (Same seen other) (sym found.at) same) found.is;
}

pub all_found_same : (seen other : Seen) (series count a : ℕ) (leaves : List Leaf) → InRow (Same seen other) count a → AreFound seen series count a leaves → AreFound other series count a leaves
all_found_same seen other series zero a leaves same are = are
all_found_same seen other series (suc count) a leaves same (inl found) = inl (
  found.0,
  found.1,
  found_same seen other series a found.0 (row_head (Same seen other) count a same) found.2,
  found.3,
  all_found_same seen other series count (a + 1) found.1 (row_rest (Same seen other) count a same) found.4,
)
all_found_same seen other series (suc count) a leaves same (inr none) = inr (
  (λ leaf is. none.0 leaf (found_same other seen series a leaf (sym (row_head (Same seen other) count a same)) is)),
  all_found_same seen other series count (a + 1) leaves (row_rest (Same seen other) count a same) none.1,
)

pub scan_same : (seen other : Seen) (series ordinal : ℕ) (fills : List ℕ) (leaves : List Leaf) → InRows (Same seen other) ordinal fills → IsScan seen series ordinal fills leaves → IsScan other series ordinal fills leaves
scan_same seen other series ordinal [] leaves same is = is
scan_same seen other series ordinal (fill ∷ fills) leaves same scan = (
  scan.0,
  scan.1,
  scan.2,
  all_found_same seen other series fill (address ordinal 0) scan.0 same.0 scan.3,
  scan_same seen other series (suc ordinal) fills scan.1 same.1 scan.4,
)

pub linked_same : (seen other : Seen) (series before : ℕ) (leaves : List Leaf) (last : ℕ) → AtEach (Same seen other) leaves → AreLinked seen series before leaves last → AreLinked other series before leaves last
linked_same seen other series before [] last same are = are
linked_same seen other series before (leaf ∷ leaves) last same are = (leaf_same seen other series before leaf same.0 are.0, linked_same seen other series leaf.address leaves last same.1 are.1)

pub chain_same : (seen other : Seen) (lo series : ℕ) (known : SeriesMeta) (leaves : List Leaf) → AtEach (Same seen other) leaves → IsChain seen lo series known leaves → IsChain other lo series known leaves
chain_same seen other lo series known leaves same chain = record {
  first = chain.first;
  numbers = chain.numbers;
  count = chain.count;
  before = chain.before;
  gone = chain.gone;
  links = linked_same seen other series chain.before leaves (rescue_at known.rescue 0) same chain.links;
  history = chain.history;
  last = chain.last;
}

pub inner_same : (seen other : Seen) (a : ℕ) (node : Node) → Same seen other a → IsInnerOf seen a node → IsInnerOf other a node
inner_same seen other a node same is = record {
  head = is.head;
  refs = is.refs;
  spells = subst (λ (block : List ℕ). SpellsInner block is.head is.refs) (sym same) is.spells;
  level_is = is.level_is;
  series_is = is.series_is;
  number_is = is.number_is;
  address_is = is.address_is;
  elder_is = is.elder_is;
  references_are = is.references_are;
}

pub node_same : (seen other : Seen) (a : ℕ) (node : Node) → Same seen other a → IsNodeAt seen a node → IsNodeAt other a node
node_same seen other a node same (inl is) = inl record {
  level_is = is.level_is;
  leaf = is.leaf;
  at = is.at;
  number_is = is.number_is;
  is = leaf_same seen other node.series node.elder is.leaf (subst (Same seen other) (sym is.at) same) is.is;
  value_is = is.value_is;
  none = is.none;
}
node_same seen other a node same (inr is) = inr (inner_same seen other a node same is)

-- the inner nodes of a group
pub all_inner_same : (seen other : Seen) (series m a : ℕ) → InRow (Same seen other) (1 + carry_of m) a → AreInner seen series m a → AreInner other series m a
all_inner_same seen other series m a same are = λ level from to. let one = are level from to in record {
  node = one.node;
  is = inner_same seen other (a + level) one.node (same (a + level) (omega arith) (omega (arith, to))) one.is;
  series_is = one.series_is;
  level_is = one.level_is;
  number_is = one.number_is;
}

pub groups_same : (seen other : Seen) (known count a : ℕ) (groups : List Group) → InRow (Same seen other) count a → AreGroups seen known count a groups → AreGroups other known count a groups
groups_same seen other known count a [] same are = are
groups_same seen other known count a (g ∷ groups) same are =
    let size : ℕ = 1 + carry_of g.leaf.number in
    let whole : InRow (Same seen other) (size + are.4) a = subst (λ (n : ℕ). InRow (Same seen other) n a) are.5 same in
    let group : InRow (Same seen other) size a = row_front (Same seen other) size are.4 a whole in
    let first : Same seen other a = row_front (Same seen other) 1 (carry_of g.leaf.number) a group a (omega arith) (omega arith) in (
      are.0,
      are.1,
      leaf_same seen other g.series g.elder g.leaf (subst (Same seen other) (sym are.1) first) are.2,
      all_inner_same seen other g.series g.leaf.number a group are.3,
      are.4,
      are.5,
      groups_same seen other known are.4 (a + size) groups (row_back (Same seen other) size are.4 a whole) are.6,
    )

pub rows_same : (seen other : Seen) (known ordinal : ℕ) (fills : List ℕ) → InRows (Same seen other) ordinal fills → AreRows seen known ordinal fills → AreRows other known ordinal fills
rows_same seen other known ordinal [] same are = tt
rows_same seen other known ordinal (fill ∷ fills) same are =
    ((are.0.0, groups_same seen other known fill (address ordinal 0) are.0.0 same.0 are.0.1), rows_same seen other known (suc ordinal) fills same.1 are.1)

-- trees where the live blocks stay live and stay the same
module _ (o p : Ordinals) (seen other : Seen) (lo : o.lo ≡ p.lo) (live : (a : ℕ) → IsLive o a → IsLive p a) (same : (a : ℕ) → IsLive o a → Same seen other a) where
  reads_same : (a : ℕ) (node : Node) → Reads o seen a node → Reads p other a node
  reads_same a node reads = (live a reads.0, node_same seen other a node (same a reads.0) reads.1)

  pub tree_same : (series : ℕ) (known : SeriesMeta) (leaves : List Leaf) → IsTreeOf o seen series known leaves → IsTreeOf p other series known leaves
  tree_same series known leaves tree =
      subst (λ (n : ℕ). IsTree 32 n series (known.leaves - length leaves) known.leaves (address_of leaves) (total_of leaves) (point_of known.rescue) (Reads p other)) lo
      (tree_kept 32 o.lo series (known.leaves - length leaves) known.leaves (address_of leaves) (point_of known.rescue) (total_of leaves) (Reads o seen) (Reads p other) reads_same tree)

  pub trees_same : (series : ℕ) (all : List SeriesMeta) (kept : List (List Leaf)) → AreTreed o seen series all kept → AreTreed p other series all kept
  trees_same series [] kept are = tt
  trees_same series (known ∷ all) [] are = absurd are
  trees_same series (known ∷ all) (leaves ∷ kept) are = (tree_same series known leaves are.0, trees_same (suc series) all kept are.1)

-- of all series
module _ (seen other : Seen) (lo : ℕ) (fills : List ℕ) (same : InRows (Same seen other) lo fills) where
  pub scans_same : (series : ℕ) (all : List SeriesMeta) (kept : List (List Leaf)) → AreScans seen lo fills series all kept → AreScans other lo fills series all kept
  scans_same series [] kept are = are
  scans_same series (known ∷ all) kept are =
      (are.0, are.1, are.2, scan_same seen other series lo fills are.0 same are.3, scans_same (suc series) all are.1 are.4)

  pub all_laid_same : (series : ℕ) (all : List SeriesMeta) (kept : List (List Leaf)) → AreLaid seen lo fills series all kept → AreLaid other lo fills series all kept
  all_laid_same series [] kept are = are
  all_laid_same series (known ∷ all) kept are = (
    are.0,
    are.1,
    are.2,
    scan_same seen other series lo fills are.0 same are.3,
    chain_same seen other lo series known are.0 (scan_at (Same seen other) seen series lo fills are.0 same are.3) are.4,
    all_laid_same (suc series) all are.1 are.5,
  )

-- by the ordinals of a record
module _ (seen other : Seen) (o : Ordinals) (are : AreOrdinals o) (live : (a : ℕ) → IsLive o a → Same seen other a) where
  same_rows : InRows (Same seen other) o.lo o.fills
  same_rows = live_rows o (Same seen other) are live

  pub all_grown_same : (series : ℕ) (all : List SeriesMeta) → AreGrown o seen series all → AreGrown o other series all
  all_grown_same series [] grown = tt
  all_grown_same series (known ∷ all) grown =
      let leaves : List Leaf = grown.0.0 in (
        (
          leaves,
          scan_same seen other series o.lo o.fills leaves same_rows grown.0.1,
          chain_same seen other o.lo series known leaves (scan_at (Same seen other) seen series o.lo o.fills leaves same_rows grown.0.1) grown.0.2,
          tree_same o o seen other refl (λ a lives. lives) live series known leaves grown.0.3,
        ),
        all_grown_same (suc series) all grown.1,
      )

pub sound_same : (seen other : Seen) (c : Content) → AreOrdinals c.ordinals → ((a : ℕ) → IsLive c.ordinals a → Same seen other a) → AreSound seen c → AreSound other c
sound_same seen other c ordinals live are = record {
  rows = rows_same seen other (length c.series) c.ordinals.lo c.ordinals.fills (live_rows c.ordinals (Same seen other) ordinals live) are.rows;
  series = all_grown_same seen other c.ordinals ordinals live 0 c.series are.series;
}

pub laid_agree : (seen other : Seen) (c : Content) (kept : List (List Leaf)) → IsMeta c → IsLaid seen c kept → ((a : ℕ) → IsLive c.ordinals a → other a ≡ seen a) → IsLaid other c kept
laid_agree seen other c kept meta is live =
    let same : InRows (Same seen other) c.ordinals.lo c.ordinals.fills = live_rows c.ordinals (Same seen other) meta.ordinals_are live in
    record {
      rows = rows_same seen other (length c.series) c.ordinals.lo c.ordinals.fills same is.rows;
      leaves = all_laid_same seen other c.ordinals.lo c.ordinals.fills same 0 c.series kept is.leaves;
      trees = trees_same c.ordinals c.ordinals seen other refl (λ a lives. lives) live 0 c.series kept is.trees;
    }

-- The same scene after reads, and the links of its nodes.
use Rattle.std.proofs.Common.{◌≡◌, inl, inr, ◌∙◌, ℕ, zero, suc, ◌+◌, ◌-◌, ◌*◌, ◌^◌, ◌<◌, ◌≤◌, List, [], ◌∷◌, length, map, get_or, sym, ap, ap₂, subst, arith, suc-mul, pred, max, Bool, true, false}
use Rattle.std.proofs.lemmas.Bool.{cases_lt}
use Rattle.std.proofs.lemmas.Nat.{div_below}
use Rattle.std.specs.Prelude.{slice_index}
use Rattle.ak_scene.specs.Scenes.{IsScene}
use Rattle.ak_forest.specs.Numbers.{end}
use Rattle.ak_forest.specs.Tree.{Reference, Child, Children, Covers, spot}
use Rattle.ak_forest.proofs.Arith.{times_one, fan_pos}
use Rattle.ak_host.specs.Moments.{HostState}
use Rattle.ak_image.specs.Blocks.{Seen, seen_in, AreThere}
use Rattle.ak_image.specs.Chains.{IsChain}
use Rattle.ak_image.specs.Nodes.{reference_of}
use Rattle.ak_image.specs.Trees.{total_of, IsTreeOf}
use Rattle.ak_inner.specs.declared.reference.Ref.{Ref}
use Rattle.ak_summary.specs.declared.summary.Summary.{Summary}
use Rattle.ak_volumes.specs.Ordinals.{Ordinals, IsLive}
use Rattle.ak_world.specs.Leaves.{Leaf}
use Rattle.ak_world.specs.Views.{address_of}

-- ---- The same scene after reads

abbrev pub moved : (o p : Ordinals) (seen other : Seen) (series : ℕ) (leaves : List Leaf) → o ≡ p → seen ≡ other → IsScene o seen series leaves → IsScene p other series leaves
moved o p seen other series leaves same all scene = record {
  known = scene.known;
  chain = subst (λ (s : Seen). IsChain s p.lo series scene.known leaves) all (subst (λ (q : Ordinals). IsChain seen q.lo series scene.known leaves) same scene.chain);
  tree = subst (λ (s : Seen). IsTreeOf p s series scene.known leaves) all (subst (λ (q : Ordinals). IsTreeOf q seen series scene.known leaves) same scene.tree);
}

pub there_kept : (o p : Ordinals) (old new : HostState) → p ≡ o → new.sizes ≡ old.sizes → AreThere o old → AreThere p new
there_kept o p old new same sizes there =
    subst (λ (q : Ordinals). AreThere q new) (sym same) record {
      number = subst (λ (s : List ℕ). o.volumes < length s) (sym sizes) there.number;
      each = subst (λ (s : List ℕ). (file : ℕ) → 1 ≤ file → file ≤ o.volumes → o.blocks ≤ slice_index s file) (sym sizes) there.each;
    }

-- ---- Links

pub dead_not_live : (o : Ordinals) (a : ℕ) → a < o.lo * 2 ^ 32 → IsLive o a → ⊥
dead_not_live o a dead live = absurd (omega (arith, div_below a (2 ^ 32) o.lo (omega arith) dead, live.ordinal.from))

module _ (o : Ordinals) (seen : Seen) (series : ℕ) (leaves : List Leaf) (scene : IsScene o seen series leaves) where
  -- the node that a reference names is live where the reference's address is
  pub live_node : (k j : ℕ) (r : Ref) → Child 32 o.lo (scene.known.leaves - length leaves) (address_of leaves) (total_of leaves) k j (reference_of r) → IsLive o r.addr.0
      → scene.known.leaves - length leaves < end 32 k j
  live_node k j r child live = elim (cases_lt (scene.known.leaves - length leaves) (end 32 k j)) [
    | inl is ↦ is
    | inr past ↦ absurd (dead_not_live o r.addr.0 (child.link.dead past) live)
  ]

  pub dead_node : (k j : ℕ) (r : Ref) → Child 32 o.lo (scene.known.leaves - length leaves) (address_of leaves) (total_of leaves) k j (reference_of r) → end 32 k j ≤ scene.known.leaves
      → (IsLive o r.addr.0 → ⊥) → end 32 k j ≤ scene.known.leaves - length leaves
  dead_node k j r child fits dead = elim (cases_lt (scene.known.leaves - length leaves) (end 32 k j)) [
    | inl is ↦ absurd (dead (subst (IsLive o) (sym (child.link.live is)) (scene.tree.nodes k j is fits).read.0))
    | inr past ↦ past
  ]

-- the child in a place
pub child_ref : (lo low : ℕ) (home : ℕ → ℕ) (total : ℕ → ℕ → Summary) (k c i : ℕ) (rs : List Ref) (d : Ref) → i < length rs → Children 32 lo low home total k c (map reference_of rs)
    → Child 32 lo low home total k (c + i) (reference_of (get_or rs i d))
child_ref lo low home total k c i [] d below each = absurd (omega (arith, below))
child_ref lo low home total k c zero (r ∷ rs) d below each = subst (λ (n : ℕ). Child 32 lo low home total k n (reference_of r)) (omega arith) each.0
child_ref lo low home total k c (suc i) (r ∷ rs) d below each =
    subst (λ (n : ℕ). Child 32 lo low home total k n (reference_of (get_or rs i d))) (omega arith) (child_ref lo low home total k (suc c) i rs d (omega (arith, below)) each.1)

pub moved_children : (a b low : ℕ) (home : ℕ → ℕ) (total : ℕ → ℕ → Summary) (k c e : ℕ) (rs ss : List Reference) → a ≡ b → c ≡ e → rs ≡ ss → Children 32 a low home total k c rs → Children 32 b low home total k e ss
moved_children a b low home total k c e rs ss lo first same each =
    subst (λ (x : ℕ). Children 32 x low home total k e ss) lo (subst (λ (x : ℕ). Children 32 a low home total k x ss) first (subst (λ (xs : List Reference). Children 32 a low home total k c xs) same each))

pub moved_child : (a b low : ℕ) (home : ℕ → ℕ) (total : ℕ → ℕ → Summary) (k j : ℕ) (r : Reference) → a ≡ b → Child 32 a low home total k j r → Child 32 b low home total k j r
moved_child a b low home total k j r lo child = subst (λ (x : ℕ). Child 32 x low home total k j r) lo child

-- what is seen after reads
pub seen_kept : (o p : Ordinals) (old new : HostState) → p ≡ o → new.files ≡ old.files → seen_in o.volumes old.files ≡ seen_in p.volumes new.files
seen_kept o p old new same files = ap₂ (λ (q : Ordinals) (fs : _). seen_in q.volumes fs) (sym same) (sym files)

-- ---- First leaves

pub not_both : (b : Bool) → b ≡ true → b ≡ false → ⊥
not_both b is not = cc

-- where the leaf of a number stands
pub leaf_spot : (home : ℕ → ℕ) (j : ℕ) → spot 32 home 0 j ≡ home j
leaf_spot home j = let one : end 32 0 j ≡ suc j = times_one 32 (suc j) in ap (λ (x : ℕ). home (pred x) + 0) one ∙ omega arith

module _ (o : Ordinals) (seen : Seen) (series : ℕ) (leaves : List Leaf) (scene : IsScene o seen series leaves) where
  pub leaf_live : (m : ℕ) → scene.known.leaves - length leaves ≤ m → m < scene.known.leaves → IsLive o (address_of leaves m)
  leaf_live m from to =
      let one : end 32 0 m ≡ suc m = times_one 32 (suc m) in
      subst (IsLive o) (leaf_spot (address_of leaves) m) (scene.tree.nodes 0 m (omega (arith, one, from)) (omega (arith, one, to))).read.0

  -- the first leaf of a reference that covers its points is live, and that of one that is cut isn't
  pub covers_live : (k j first : ℕ) (s : Summary) → end 32 k j ≤ scene.known.leaves → Covers 32 (scene.known.leaves - length leaves) (address_of leaves) (total_of leaves) k j first s → IsLive o first
  covers_live k j first s fits covers =
      let low = scene.known.leaves - length leaves in
      let m = max low (j * 32 ^ k) in
      let below : m < end 32 k j = omega (arith, covers.some, suc-mul j (32 ^ k), fan_pos 32 k (omega arith)) in
      subst (IsLive o) (sym covers.begins) (leaf_live m (omega arith) (omega (arith, below, fits)))

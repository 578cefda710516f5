-- The trees over live blocks: an ordinal and a series that begin, and a leaf more.
use Rattle.std.proofs.Common.{◌≡◌, ◌+◌, ◌^◌, ◌<◌, ℕ, zero, suc, Bool, true, false, List, [], ◌∷◌, ◌++◌, length, replicate, refl, sym, ap, ◌∙◌, subst, arith}
use Rattle.std.specs.Prelude.{nat_le, if◌then◌else◌}
use Rattle.std.proofs.lemmas.Bool.Decides.{nat_tests}
use Rattle.std.proofs.lemmas.Grind.{common_steps}
use Rattle.std.proofs.lemmas.List.{get_or-replicate}
use Rattle.std.proofs.Math.ListN.{get_or-map}
use Rattle.std.proofs.Math.Nat.{zero-div}
use Rattle.ak_base.specs.declared.point.Addr.{Addr}
use Rattle.ak_forest.specs.Tree.{Elder}
use Rattle.ak_image.specs.Blocks.{Seen}
use Rattle.ak_image.specs.Laid.{series_in, kept_in}
use Rattle.ak_image.specs.Trees.{IsTreeOf, AreTreed, point_of}
use Rattle.ak_image.proofs.Agreeing.{tree_same, trees_same}
use Rattle.ak_meta.specs.Contents.{rescue_at}
use Rattle.ak_meta.specs.Leaves.{new_series, address_at, with_leaf, with_leaf_at}
use Rattle.ak_meta.specs.declared.meta.SeriesMeta.{SeriesMeta}
use Rattle.ak_volumes.specs.Ordinals.{Ordinals, AreOrdinals, IsLive, filled}
use Rattle.ak_world.specs.Leaves.{Leaf}
use Rattle.ak_world.specs.Valid.{kept_with}
use Rattle.ak_world.specs.Views.{none, address_of}

-- ---- An ordinal that begins

live_begun : (o : Ordinals) (a : ℕ) → IsLive o a → IsLive (record o { fills = o.fills ++ 0 ∷ [] }) a
live_begun o a live = grind (arith, common_steps)

pub trees_begin : (seen : Seen) (o : Ordinals) (k : ℕ) (series : List SeriesMeta) (kept : List (List Leaf)) → AreTreed o seen k series kept → AreTreed (record o { fills = o.fills ++ 0 ∷ [] }) seen k series kept
trees_begin seen o k series kept are = trees_same o (record o { fills = o.fills ++ 0 ∷ [] }) seen seen refl (live_begun o) (λ a live. refl) k series kept are

-- ---- A series that begins

pub guarded : (b : Bool) (x : ℕ) → (b ≡ true → x ≡ none) → (if b then x else none) ≡ none
guarded true x is = is refl
guarded false x is = refl

-- it has no rescue address
point_begun : (name : List ℕ) (k : ℕ) → point_of (new_series name).rescue k ≡ none
point_begun name k =
    let top : Addr = address_at none in
    guarded (nat_le k 10) (rescue_at (new_series name).rescue k) (λ e.
    let few : k < 11 = grind (arith, nat_tests) in
    get_or-map (λ (a : Addr). a.0) (replicate 11 top) k (address_at 0) ∙ ap (λ (a : Addr). a.0) (get_or-replicate 11 k top (address_at 0) few))

tree_begun : (o : Ordinals) (seen : Seen) (k : ℕ) (name : List ℕ) → IsTreeOf o seen k (new_series name) []
tree_begun o seen k name = record {
  fits = omega arith;
  nodes = λ level j some all. absurd (omega (arith, some, all));
  rescues = λ level. subst (λ (n : ℕ). Elder 32 o.lo 0 (address_of []) level n (point_of (new_series name).rescue level)) (sym (zero-div (32 ^ level))) (point_begun name level);
}

pub trees_with_series : (o : Ordinals) (seen : Seen) (k : ℕ) (series : List SeriesMeta) (kept : List (List Leaf)) (name : List ℕ) → length kept ≡ length series → AreTreed o seen k series kept
    → AreTreed o seen k (series ++ new_series name ∷ []) (kept ++ [] ∷ [])
trees_with_series o seen k [] [] name long are = (tree_begun o seen k name, tt)
trees_with_series o seen k [] (leaves ∷ kept) name long are = absurd (omega (arith, long))
trees_with_series o seen k (x ∷ series) [] name long are = absurd are
trees_with_series o seen k (x ∷ series) (leaves ∷ kept) name long are = (are.0, trees_with_series o seen (suc k) series kept name (omega (arith, long)) are.1)

-- ---- A leaf more

live_filled : (o : Ordinals) (blocks a : ℕ) → AreOrdinals o → IsLive o a → IsLive (filled o blocks) a
live_filled o blocks a are live = grind (arith, common_steps)

module _ (old new : Seen) (o : Ordinals) (blocks : ℕ) (are : AreOrdinals o) (same : (a : ℕ) → IsLive o a → new a ≡ old a) where
  -- series t, which is that of number n from k on, has the tree of the leaf more, and the others keep theirs
  pub trees_more : (t k n : ℕ) (series : List SeriesMeta) (kept : List (List Leaf)) (last a : ℕ) (leaf : Leaf) → t ≡ k + n → n < length series
      → IsTreeOf (filled o blocks) new t (with_leaf (series_in series n) last a) (kept_in kept n ++ leaf ∷ []) → AreTreed o old k series kept
      → AreTreed (filled o blocks) new k (with_leaf_at series n last a) (kept_with kept n leaf)
  trees_more t k n [] kept last a leaf is within tree trees = absurd (omega (arith, within))
  trees_more t k n (x ∷ series) [] last a leaf is within tree trees = absurd trees
  trees_more t k zero (x ∷ series) (leaves ∷ kept) last a leaf is within tree trees = (
    subst (λ (s : ℕ). IsTreeOf (filled o blocks) new s (with_leaf x last a) (leaves ++ leaf ∷ [])) (let e : t ≡ k = omega (arith, is) in e) tree,
    trees_same o (filled o blocks) old new refl (λ b live. live_filled o blocks b are live) same (suc k) series kept trees.1,
  )
  trees_more t k (suc n) (x ∷ series) (leaves ∷ kept) last a leaf is within tree trees = (
    tree_same o (filled o blocks) old new refl (λ b live. live_filled o blocks b are live) same k x leaves trees.0,
    trees_more t (suc k) n series kept last a leaf (omega (arith, is)) (omega (arith, within)) tree trees.1,
  )

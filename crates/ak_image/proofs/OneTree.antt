-- A tree of one leaf: what is asked of trees can be met.
use Rattle.std.proofs.Common.{◌≡◌, ◌-◌, ◌^◌, ◌<◌, ◌≤◌, ℕ, zero, suc, List, [], ◌∷◌, ◌++◌, replicate, inl, pos, refl, sym, ap, ◌∙◌, subst, arith, append-nil, pow-suc, suc-mul}
use Rattle.std.specs.Prelude.{nat_le}
use Rattle.std.proofs.lemmas.Bool.Decides.{nat_tests}
use Rattle.std.proofs.lemmas.Int.{ints}
use Rattle.std.proofs.lemmas.List.{get_or-replicate}
use Rattle.std.proofs.Math.ListN.{get_or-map}
use Rattle.std.proofs.Math.Nat.{div-eq_of_lt}
use Rattle.ak_base.specs.declared.point.Addr.{Addr}
use Rattle.ak_bytes.specs.Head.{head_bytes}
use Rattle.ak_bytes.specs.Uvar.{uvar, groups}
use Rattle.ak_bytes.specs.declared.head.Head.{Head}
use Rattle.ak_base.specs.declared.point.Point.{Point}
use Rattle.ak_forest.specs.Numbers.{end, made}
use Rattle.ak_forest.specs.Tree.{Elder, Stands}
use Rattle.ak_image.specs.Blocks.{Seen}
use Rattle.ak_image.specs.Nodes.{Reads}
use Rattle.ak_image.specs.Scans.{IsLeafOf}
use Rattle.ak_image.specs.Trees.{IsTreeOf, total_of, point_of}
use Rattle.ak_image.proofs.StepTrees.{guarded}
use Rattle.ak_leaf.specs.Leaf.{SpellsLeaf}
use Rattle.ak_leaf.specs.Spelling.{spelling, leaf_size}
use Rattle.ak_levels.specs.Carries.{carry_of}
use Rattle.ak_meta.specs.Contents.{rescue_at}
use Rattle.ak_meta.specs.Leaves.{new_series, address_at, with_leaf}
use Rattle.ak_meta.specs.declared.meta.SeriesMeta.{SeriesMeta}
use Rattle.ak_summary.specs.Folds.{summary_of}
use Rattle.ak_volumes.specs.Ordinals.{Ordinals, ordinals}
use Rattle.ak_world.specs.Leaves.{Leaf}
use Rattle.ak_world.specs.Views.{none, address_of}

-- one volume of one block, in which a leaf stands
abbrev pub full : Ordinals
full = ordinals 1 1 0 (1 ∷ [])

abbrev pub first_leaf : List Point → Leaf
first_leaf ps = record { number = 0; address = 0; points = ps }

abbrev pub first_known : List ℕ → ℕ → SeriesMeta
first_known name last = with_leaf (new_series name) last 0

powers : (k : ℕ) → 0 < 32 ^ k
powers zero = omega arith
powers (suc k) = omega (arith, pow-suc 32 k, powers k)

module _ (seen : Seen) (name : List ℕ) (last : ℕ) (ps : List Point) (is : IsLeafOf seen 0 none (first_leaf ps)) where
  leaf_stands : Stands 32 0 0 0 (address_of (first_leaf ps ∷ [])) (total_of (first_leaf ps ∷ [])) (Reads full seen) 0 0
  leaf_stands = record {
    node = record { series = 0; level = 0; number = 0; elder = none; references = []; value = summary_of ps };
    read = (
      record { ordinal = record { from = omega arith; to = omega arith }; index = omega arith },
      inl record { level_is = refl; leaf = first_leaf ps; at = refl; number_is = refl; is = is; value_is = refl; none = refl },
    );
    of_series = refl;
    of_level = refl;
    numbered = refl;
    worth = λ level. ap summary_of (sym (append-nil ps));
    elder = refl;
    body = refl;
  }

  nodes_stand : (k j : ℕ) → 0 < end 32 k j → end 32 k j ≤ 1 → Stands 32 0 0 0 (address_of (first_leaf ps ∷ [])) (total_of (first_leaf ps ∷ [])) (Reads full seen) k j
  nodes_stand zero zero some all = leaf_stands
  nodes_stand zero (suc j) some all = absurd (omega (arith, all))
  nodes_stand (suc k) j some all = absurd (omega (arith, all, pow-suc 32 k, powers k, suc-mul j (32 ^ suc k)))

  -- no node above the leaf was made
  point_above : (k : ℕ) → point_of (first_known name last).rescue (suc k) ≡ none
  unfolding carry_of
  point_above k =
      let top : Addr = address_at none in
      guarded (nat_le (suc k) 10) (rescue_at (first_known name last).rescue (suc k)) (λ e.
      let few : k < 10 = grind (arith, nat_tests) in
      get_or-map (λ (a : Addr). a.0) (replicate 10 top) k (address_at 0) ∙ ap (λ (a : Addr). a.0) (get_or-replicate 10 k top (address_at 0) few))

  points_stand : (k : ℕ) → Elder 32 0 0 (address_of (first_leaf ps ∷ [])) k (made 32 k 1) (point_of (first_known name last).rescue k)
  unfolding carry_of
  points_stand zero = record { live = λ some. refl; dead = λ gone. absurd (omega (arith, gone)) }
  points_stand (suc k) =
      let few : 1 < 32 ^ suc k = omega (arith, pow-suc 32 k, powers k) in
      subst (λ (n : ℕ). Elder 32 0 0 (address_of (first_leaf ps ∷ [])) (suc k) n (point_of (first_known name last).rescue (suc k))) (sym (div-eq_of_lt few)) (point_above k)

  -- the first leaf of a series is a tree
  pub one_tree : IsTreeOf full seen 0 (first_known name last) (first_leaf ps ∷ [])
  one_tree = record { fits = omega arith; nodes = nodes_stand; rescues = points_stand }

-- ---- A block that spells such a leaf

pub some_points : List Point
some_points = record { ts = 0; value = pos 0 } ∷ []

pub some_head : Head
some_head = record { kind = 1; level = 0; count = 1; series = 0; number = 0; addr = address_at 0; elder = address_at none; length = 2 }

pub some_block : List ℕ
some_block = head_bytes some_head ++ spelling some_points ++ replicate (4032 - leaf_size some_points) 0

spells_some : SpellsLeaf some_block some_head some_points
unfolding some_block some_head some_points uvar groups
spells_some = record {
  head = record {
    head = record {
      fits = record { kind = omega arith; level = omega arith; count = omega arith; series = omega arith; number = omega arith; addr = omega arith; elder = omega arith; length = omega arith };
      kind = inl record { kind = refl; level = refl; some = omega arith; count = omega arith; length = omega arith };
      elder = ((λ e. refl), (λ e. refl));
    };
    kind = refl;
    count = refl;
    bytes = refl;
  };
  history = (omega arith, tt);
  each = (record { ts = omega arith; low = omega (arith, ints); high = omega (arith, ints) }, tt);
  spelled = refl;
}

pub some_tree : IsTreeOf full (λ a. some_block) 0 (first_known [] 0) (first_leaf some_points ∷ [])
unfolding some_head
some_tree = one_tree (λ a. some_block) [] 0 some_points (record { head = some_head; spells = spells_some; series_is = refl; number_is = refl; address_is = refl; elder_is = refl })

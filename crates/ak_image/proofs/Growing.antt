-- How what waits of a series stays with its blocks.
use Rattle.std.proofs.Common.{inl, inr, ◌≡◌, ◌-◌, ℕ, List, [], length, map, replicate, refl, sym, ap, subst, arith}
use Rattle.std.proofs.lemmas.Bool.{cases_lt}
use Rattle.std.proofs.lemmas.List.{get_or-replicate, get_or_past, length-replicate}
use Rattle.ak_forest.proofs.Open.{grown_kept}
use Rattle.ak_forest.proofs.Place.{waits_none}
use Rattle.ak_forest.specs.Tree.{Node, Reference, IsGrown, Waits}
use Rattle.ak_image.proofs.Agreeing.{node_same}
use Rattle.ak_image.proofs.StepTrees.{trees_with_series}
use Rattle.ak_image.specs.Blocks.{Seen}
use Rattle.ak_image.specs.Nodes.{Reads, reference_of}
use Rattle.ak_image.specs.Planted.{IsPlanted, waiting_of}
use Rattle.ak_image.specs.Trees.{total_of, point_of}
use Rattle.ak_inner.specs.declared.reference.Ref.{Ref}
use Rattle.ak_levels.specs.Pending.{Lists, no_lists, pending_at}
use Rattle.ak_meta.specs.Leaves.{new_series}
use Rattle.ak_meta.specs.declared.meta.SeriesMeta.{SeriesMeta}
use Rattle.ak_volumes.specs.Ordinals.{Ordinals, IsLive}
use Rattle.ak_world.specs.Leaves.{Leaf}
use Rattle.ak_world.specs.Views.{address_of}

-- the tree of a series and what waits, where so many leaves were closed and those from a number on are live
abbrev pub IsGrownOf : ℕ → Ordinals → Seen → ℕ → ℕ → ℕ → SeriesMeta → List Leaf → ℕ → Lists → Type 0
IsGrownOf lo o seen n low closed known leaves base v = IsGrown 32 lo n low closed (address_of leaves) (total_of leaves) (point_of known.rescue) (Reads o seen) base (waiting_of v)

-- ---- The same blocks

pub planted_same : (o other : Ordinals) (seen later : Seen) (n base : ℕ) (known : SeriesMeta) (leaves : List Leaf) (v : Lists) → other.lo ≡ o.lo → ((a : ℕ) → IsLive o a → IsLive other a × (later a ≡ seen a))
    → IsPlanted o seen n known leaves base v → IsPlanted other later n known leaves base v
planted_same o other seen later n base known leaves v lo same is =
    let keeps : (a : ℕ) (node : Node) → Reads o seen a node → Reads other later a node = λ a node reads. ((same a reads.0).0, node_same seen later a node (same a reads.0).1 reads.1) in
    record {
      grown = subst (λ (l : ℕ). IsGrownOf l other later n (known.leaves - length leaves) known.leaves known leaves base v) (sym lo)
          (grown_kept 32 o.lo n (known.leaves - length leaves) known.leaves base (address_of leaves) (point_of known.rescue) (total_of leaves) (Reads o seen) (Reads other later) (waiting_of v) keeps is.grown);
      order = is.order;
    }

-- ---- A series that begins

none_waits : (k : ℕ) → pending_at no_lists k ≡ []
none_waits k = elim (cases_lt k 11) [
  | inl below ↦ get_or-replicate 11 k [] [] below
  | inr past ↦ get_or_past (replicate 11 []) k [] (omega (arith, past, length-replicate {A = List Ref} 11 []))
]

pub planted_begun : (o : Ordinals) (seen : Seen) (n : ℕ) (name : List ℕ) → IsPlanted o seen n (new_series name) [] 0 no_lists
planted_begun o seen n name = record {
  grown = record {
    tree = (trees_with_series o seen n [] [] name refl tt).0;
    older = omega arith;
    waits = λ k. subst (λ (rs : List Reference). Waits 32 o.lo 0 (address_of []) (total_of []) 0 0 k rs) (sym (ap (map reference_of) (none_waits k)))
        (waits_none 32 o.lo 0 k (address_of []) (total_of []) (omega arith));
  };
  order = omega arith;
}

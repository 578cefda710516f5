-- A level that gets a reference, and is emptied.
use Rattle.std.proofs.Common.{◌≡◌, ℕ, ◌<◌, ◌≤◌, List, [], ◌∷◌, ◌++◌, length, sym, ap, ◌∙◌, subst, arith}
use Rattle.std.proofs.lemmas.List.{get_or-set_same, length-set, length_push, set-set}
use Rattle.ak_inner.specs.declared.reference.Ref.{Ref}
use Rattle.std.specs.List.{AllByRecursion}
use Rattle.ak_levels.specs.Entries.{IsTally}
use Rattle.ak_levels.specs.Pending.{Lists, lists, AreLists, HasRoom, pending_at, with_pending}

-- what waits at the level then
pub pending_with : (v w : Lists) (i : ℕ) (rs : List Ref) → AreLists w → i ≤ 10 → w ≡ with_pending v i rs → pending_at w i ≡ rs
pending_with v w i rs are h is =
    let below : i < length v.pending = omega (arith, h, are.levels, ap (λ (u : Lists). length u.pending) is, length-set v.pending i rs) in
    ap (λ (u : Lists). pending_at u i) is ∙ get_or-set_same v.pending i rs [] below

-- the level empty, with the one reference or without it before
pub emptied : (v w u : Lists) (i : ℕ) (rs : List Ref) → w ≡ with_pending v i rs → u ≡ with_pending w i [] → u ≡ with_pending v i []
emptied v w u i rs is empty =
    empty ∙ ap (λ (x : Lists). with_pending x i []) is ∙ ap (λ (l : List (List Ref)). lists l v.placed) (set-set v.pending i rs [])

-- The references of a node: all that waited, and the one behind them.
pub record Taken (level : ℕ) (refs : List Ref) : Type 0 where
  pub some : 1 ≤ length refs
  pub few : length refs ≤ 32
  pub tallies : AllByRecursion (IsTally level) refs

pub taken : (v w : Lists) (level : ℕ) (r : Ref) (refs node : List Ref) → level ≤ 10 → HasRoom v level → AllByRecursion (IsTally level) (pending_at v level ++ r ∷ []) → AreLists w → w ≡ with_pending v level (pending_at v level ++ r ∷ []) → refs ≡ node → node ≡ pending_at w level
    → (refs ≡ pending_at v level ++ r ∷ []) × Taken level refs
taken v w level r refs node low room tallies are pushed shown moved =
    let all : refs ≡ pending_at v level ++ r ∷ [] = shown ∙ moved ∙ pending_with v w level (pending_at v level ++ r ∷ []) are low pushed in
    let many : length refs ≡ length (pending_at v level ++ r ∷ []) = ap length all in (
      all,
      record {
        some = omega (arith, many, length_push (pending_at v level) r);
        few = omega (arith, many, length_push (pending_at v level) r, room.free);
        tallies = subst (AllByRecursion (IsTally level)) (sym all) tallies;
      },
    )

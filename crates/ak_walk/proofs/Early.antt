-- Leaves that end before a time.
use Rattle.std.proofs.Common.{◌≡◌, ◌⊎◌, inl, inr, ◌∙◌, ℕ, suc, ◌+◌, ◌-◌, ◌*◌, ◌^◌, ◌<◌, ◌≤◌, true, false, List, [], ◌∷◌, length, Option, Some, None, Result, Ok, Err, sym, ap, ap₂, subst, arith}
use Rattle.std.proofs.lemmas.Bool.{cases_lt}
use Rattle.std.specs.List.{AllByRecursion}
use Rattle.std.specs.Option.{is_some}
use Rattle.std.specs.Result.{IfOk}
use Rattle.ak_base.specs.declared.stop.Stop.{Stop}
use Rattle.ak_base.specs.Points.{IsHistory}
use Rattle.ak_base.specs.declared.point.Point.{Point}
use Rattle.ak_scene.proofs.Levels.{all_append}
use Rattle.ak_scene.proofs.InScene.{double_none, stretches}
use Rattle.ak_scene.proofs.Links.{moved, live_node}
use Rattle.ak_scene.specs.Scenes.{IsScene}
use Rattle.ak_forest.specs.Numbers.{end}
use Rattle.ak_forest.specs.Tree.{Child}
use Rattle.ak_forest.proofs.Arith.{times_le, times_one, power_up, family_stop}
use Rattle.ak_image.specs.Blocks.{Seen}
use Rattle.ak_image.specs.Nodes.{reference_of}
use Rattle.ak_image.specs.Trees.{points_between, total_of}
use Rattle.ak_inner.specs.declared.reference.Ref.{Ref}
use Rattle.ak_select.proofs.Chosen.{history_most, end_is}
use Rattle.ak_select.proofs.Trees.{end_of}
use Rattle.ak_base.specs.declared.filter.Filter.{Filter}
use Rattle.ak_select.specs.declared.window.Window.{Window}
use Rattle.ak_summary.specs.Folds.{summary_of}
use Rattle.ak_volumes.specs.Ordinals.{Ordinals, IsLive}
use Rattle.ak_walk.specs.Places.{IsSought}
use Rattle.ak_world.specs.Leaves.{Leaf}
use Rattle.ak_world.specs.Views.{address_of}

abbrev pub Early : ℕ → List Point → Type 0
Early x ps = AllByRecursion (λ (p : Point). p.ts < x) ps

pub every : {P Q : Point → Type 0} → ((p : Point) → P p → Q p) → (ps : List Point) → AllByRecursion P ps → AllByRecursion Q ps
every follows [] all = tt
every follows (p ∷ ps) all = (follows p all.0, every follows ps all.1)

early_nothing : (x : ℕ) (ps : List Point) → ps ≡ [] → Early x ps
early_nothing x ps none = subst (Early x) (sym none) tt

early_end : (x : ℕ) (ps : List Point) → IsHistory ps → (summary_of ps).end < x → Early x ps
early_end x [] h before = tt
early_end x (p ∷ ps) h before = every (λ q most. omega (arith, most, end_is p ps, before)) (p ∷ ps) (history_most 0 (p ∷ ps) h)

module _ (o : Ordinals) (seen : Seen) (series : ℕ) (leaves : List Leaf) (scene : IsScene o seen series leaves) (x : ℕ) where
  early_joined : (i m e : ℕ) → i ≤ m → m ≤ e → Early x (points_between leaves i m) → Early x (points_between leaves m e) → Early x (points_between leaves i e)
  early_joined i m e im me first next = subst (Early x) ((stretches o seen series leaves scene).joins i m e im me) (all_append (λ (p : Point). p.ts < x) (points_between leaves i m) (points_between leaves m e) first next)

  -- none yet
  pub early_none : (a b : ℕ) → b ≡ a → Early x (points_between leaves a b)
  early_none a b same =
      let are = stretches o seen series leaves scene in
      early_nothing x (points_between leaves a b) (ap (points_between leaves a) same ∙ double_none (points_between leaves a a) (are.joins a a a (omega arith) (omega arith)))

  pub early_dead : (i e : ℕ) → e ≤ scene.known.leaves - length leaves → Early x (points_between leaves i e)
  early_dead i e dead = early_nothing x (points_between leaves i e) ((stretches o seen series leaves scene).gone i e dead)

  pub early_ref : (k j : ℕ) (r : Ref) → Child 32 o.lo (scene.known.leaves - length leaves) (address_of leaves) (total_of leaves) k j (reference_of r) → IsLive o r.addr.0 → end 32 k j ≤ scene.known.leaves
      → r.summary.end < x → Early x (points_between leaves (j * 32 ^ k) (end 32 k j))
  early_ref k j r child live fits before =
      let are = stretches o seen series leaves scene in
      let alive = live_node o seen series leaves scene k j r child live in
      let it = end_of 32 o.lo (scene.known.leaves - length leaves) scene.known.leaves (address_of leaves) (points_between leaves) (omega arith) are no_window no_filter k j (reference_of r) child alive fits in
      early_end x (points_between leaves (j * 32 ^ k) (end 32 k j)) (are.history (j * 32 ^ k) (end 32 k j)) (omega (arith, it, before))
    where
      no_window : Window
      no_window = record { least = 0; most = 0 }

      no_filter : Filter
      no_filter = record { gt = None; ge = None; lt = None; le = None }

  -- the leaf itself
  pub sought_leaf : (j : ℕ) (r : Ref) → Child 32 o.lo (scene.known.leaves - length leaves) (address_of leaves) (total_of leaves) 0 j (reference_of r) → IsLive o r.addr.0
      → end 32 0 j ≤ scene.known.leaves → x ≤ r.summary.end → IsSought o seen series leaves scene x (j * 32 ^ 0) (end 32 0 j) (Some j)
  sought_leaf j r child live fits from =
      let are = stretches o seen series leaves scene in
      let alive = live_node o seen series leaves scene 0 j r child live in
      let one : end 32 0 j ≡ suc j = times_one 32 (suc j) in
      let here : j * 32 ^ 0 ≡ j = times_one 32 j in
      let it = end_of 32 o.lo (scene.known.leaves - length leaves) scene.known.leaves (address_of leaves) (points_between leaves) (omega arith) are no_window no_filter 0 j (reference_of r) child alive fits in
      let own : points_between leaves (j * 32 ^ 0) (end 32 0 j) ≡ points_between leaves j (suc j) = ap₂ (points_between leaves) here one in
      (omega (arith, here), omega (arith, one), omega (arith, one, alive), early_none (j * 32 ^ 0) j (sym here), omega (arith, from, it, ap (λ (ps : List Point). (summary_of ps).end) own))
    where
      no_window : Window
      no_window = record { least = 0; most = 0 }

      no_filter : Filter
      no_filter = record { gt = None; ge = None; lt = None; le = None }

  -- what is found in a row
  pub sought_on : (k c i n m : ℕ) → i < n → Early x (points_between leaves (c * 32 ^ k) ((c + i) * 32 ^ k)) → IsSought o seen series leaves scene x ((c + i) * 32 ^ k) (end 32 k (c + i)) (Some m)
      → IsSought o seen series leaves scene x (c * 32 ^ k) ((c + n) * 32 ^ k) (Some m)
  sought_on k c i n m below first found =
      let from : c * 32 ^ k ≤ (c + i) * 32 ^ k = times_le c (c + i) (32 ^ k) (omega arith) in
      let to : end 32 k (c + i) ≤ (c + n) * 32 ^ k = times_le (suc (c + i)) (c + n) (32 ^ k) (omega (arith, below)) in
      (omega (arith, from, found.0), omega (arith, to, found.1), found.2, early_joined (c * 32 ^ k) ((c + i) * 32 ^ k) m from found.0 first found.3, found.4)

  pub early_on : (k c i : ℕ) → Early x (points_between leaves (c * 32 ^ k) ((c + i) * 32 ^ k)) → Early x (points_between leaves ((c + i) * 32 ^ k) (end 32 k (c + i)))
      → Early x (points_between leaves (c * 32 ^ k) ((c + (i + 1)) * 32 ^ k))
  early_on k c i first next =
      let same : end 32 k (c + i) ≡ (c + (i + 1)) * 32 ^ k = ap (λ (y : ℕ). y * 32 ^ k) (omega arith) in
      subst (λ (e : ℕ). Early x (points_between leaves (c * 32 ^ k) e)) same
      (early_joined (c * 32 ^ k) ((c + i) * 32 ^ k) (end 32 k (c + i)) (times_le c (c + i) (32 ^ k) (omega arith)) (times_le (c + i) (suc (c + i)) (32 ^ k) (omega arith)) first next)

  -- what is found in a node's children is found in the node
  pub sought_in : (k number n first len : ℕ) (found : Option ℕ) → n ≤ 32 → (n < 32 → (suc number * 32 - n) * 32 ^ k ≤ scene.known.leaves - length leaves)
      → scene.known.leaves - length leaves < end 32 (suc k) number → first ≡ suc number * 32 - n → len ≡ n
      → IsSought o seen series leaves scene x (first * 32 ^ k) ((first + len) * 32 ^ k) found → IsSought o seen series leaves scene x (number * 32 ^ suc k) (end 32 (suc k) number) found
  sought_in k number n first len found most missing live first_is len_is is =
      let are = stretches o seen series leaves scene in
      let c = suc number * 32 - n in
      let stop : (first + len) * 32 ^ k ≡ end 32 (suc k) number = ap₂ (λ (a b : ℕ). (a + b) * 32 ^ k) first_is len_is ∙ family_stop 32 k number n most in
      let less : number * 32 ≤ first = omega (arith, first_is, most) in
      let start : number * 32 ^ suc k ≤ first * 32 ^ k = omega (arith, power_up 32 k number, times_le (number * 32) first (32 ^ k) less) in
      let gap : Early x (points_between leaves (number * 32 ^ suc k) (first * 32 ^ k)) = elim (cases_lt n 32) [
        | inl few ↦ early_dead (number * 32 ^ suc k) (first * 32 ^ k) (omega (arith, ap (λ (y : ℕ). y * 32 ^ k) first_is, missing few))
        | inr all ↦
            let same : first ≡ number * 32 = omega (arith, first_is, most, all) in
            early_none (number * 32 ^ suc k) (first * 32 ^ k) (ap (λ (y : ℕ). y * 32 ^ k) same ∙ sym (power_up 32 k number))
      ] in
      moved_to found stop start gap is
    where
      moved_to : (found : Option ℕ) → (first + len) * 32 ^ k ≡ end 32 (suc k) number → number * 32 ^ suc k ≤ first * 32 ^ k → Early x (points_between leaves (number * 32 ^ suc k) (first * 32 ^ k))
          → IsSought o seen series leaves scene x (first * 32 ^ k) ((first + len) * 32 ^ k) found → IsSought o seen series leaves scene x (number * 32 ^ suc k) (end 32 (suc k) number) found
      moved_to None stop start gap is =
          early_joined (number * 32 ^ suc k) (first * 32 ^ k) (end 32 (suc k) number) start (omega (arith, stop, times_le first (first + len) (32 ^ k) (omega arith))) gap
          (subst (λ (e : ℕ). Early x (points_between leaves (first * 32 ^ k) e)) stop is)
      moved_to (Some m) stop start gap is =
          (omega (arith, start, is.0), omega (arith, stop, is.1), is.2, early_joined (number * 32 ^ suc k) (first * 32 ^ k) m start is.0 gap is.3, is.4)

-- the same after reads
pub sought_moved : (o p : Ordinals) (seen other : Seen) (series : ℕ) (leaves : List Leaf) (scene : IsScene o seen series leaves) (same : o ≡ p) (all : seen ≡ other) (x from to : ℕ) (result : Result (Option ℕ) Stop)
    → IfOk result (IsSought p other series leaves (moved o p seen other series leaves same all scene) x from to) → IfOk result (IsSought o seen series leaves scene x from to)
sought_moved o p seen other series leaves scene same all x from to (Ok None) is = is
sought_moved o p seen other series leaves scene same all x from to (Ok (Some m)) is = is
sought_moved o p seen other series leaves scene same all x from to (Err e) is = tt

pub if_ok : {T E : Type 0} {P Q : T → Type 0} (r : Result T E) → ((v : T) → P v → Q v) → IfOk r P → IfOk r Q
if_ok (Ok v) follows is = follows v is
if_ok (Err e) follows is = tt

pub sought_some : (o : Ordinals) (seen : Seen) (series : ℕ) (leaves : List Leaf) (scene : IsScene o seen series leaves) (x k c i n : ℕ) (found : Option ℕ) → i < n → is_some found ≡ true
    → Early x (points_between leaves (c * 32 ^ k) ((c + i) * 32 ^ k)) → IsSought o seen series leaves scene x ((c + i) * 32 ^ k) (end 32 k (c + i)) found
    → IsSought o seen series leaves scene x (c * 32 ^ k) ((c + n) * 32 ^ k) found
sought_some o seen series leaves scene x k c i n None below some first is = absurd (cc)
sought_some o seen series leaves scene x k c i n (Some m) below some first is = sought_on o seen series leaves scene x k c i n m below first is

pub sought_none : (o : Ordinals) (seen : Seen) (series : ℕ) (leaves : List Leaf) (scene : IsScene o seen series leaves) (x from to : ℕ) (found : Option ℕ) → is_some found ≡ false
    → IsSought o seen series leaves scene x from to found → Early x (points_between leaves from to)
sought_none o seen series leaves scene x from to None none is = is
sought_none o seen series leaves scene x from to (Some m) none is = absurd (cc)

-- up to a number behind the beginning of a level
pub early_level : (o : Ordinals) (seen : Seen) (series : ℕ) (leaves : List Leaf) (scene : IsScene o seen series leaves) (x a b m : ℕ) → a ≤ b → b ≤ m → (b ≡ a) ⊎ (b ≤ scene.known.leaves - length leaves)
    → Early x (points_between leaves 0 a) → Early x (points_between leaves b m) → Early x (points_between leaves 0 m)
early_level o seen series leaves scene x a b m ab bm gap first next =
    let between : Early x (points_between leaves a b) = elim gap [
      | inl same ↦ early_none o seen series leaves scene x a b same
      | inr dead ↦ early_dead o seen series leaves scene x a b dead
    ] in
    early_joined o seen series leaves scene x 0 b m (omega arith) bm (early_joined o seen series leaves scene x 0 a b (omega arith) ab first between) next

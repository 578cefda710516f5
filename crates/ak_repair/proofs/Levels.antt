-- What waits of a series, level by level.
use Rattle.std.proofs.Common.{◌≡◌, ◌≢◌, inl, inr, ◌∙◌, ℕ, zero, suc, ◌+◌, ◌*◌, ◌/◌, ◌%◌, ◌^◌, ◌<◌, ◌≤◌, Bool, true, false, List, [], ◌∷◌, length, get_or, replicate, refl, sym, ap, subst, arith}
use Rattle.std.proofs.lemmas.Bool.{cases_lt}
use Rattle.std.specs.List.{AllByRecursion}
use Rattle.ak_base.specs.declared.point.Addr.{Addr}
use Rattle.ak_forest.proofs.Arith.{made_suc, end_made}
use Rattle.ak_image.specs.Blocks.{Seen}
use Rattle.ak_inner.specs.declared.reference.Ref.{Ref}
use Rattle.ak_levels.specs.Entries.{AreLawful, IsTally}
use Rattle.ak_levels.specs.Pending.{Lists, no_lists, pending_at}
use Rattle.ak_meta.specs.Contents.{rescue_at}
use Rattle.ak_meta.specs.declared.meta.SeriesMeta.{SeriesMeta}
use Rattle.ak_repair.specs.Follows.{AreFollowed, made_of, pending_of, IsRebuilt}
use Rattle.ak_volumes.specs.Ordinals.{Ordinals}

-- ---- At first

none_of : (n k : ℕ) → get_or (replicate {A = List Ref} n []) k [] ≡ []
none_of zero k = refl
none_of (suc n) zero = refl
none_of (suc n) (suc k) = none_of n k

-- nothing waits yet
pub none_waits : (v : Lists) (k : ℕ) → v.pending ≡ no_lists.pending → pending_at v k ≡ []
none_waits v k none = ap (λ (ps : List (List Ref)). get_or ps k []) none ∙ none_of 11 k

pub none_lawful : (v : Lists) (leaves : ℕ) → leaves ≤ 2 ^ 52 → v.pending ≡ no_lists.pending → ((k : ℕ) → k ≤ 10 → 32 ^ k ≤ leaves → get_or v.placed k false ≡ true) → AreLawful leaves v
none_lawful v leaves most none placed = record {
  most = most;
  few = λ k h. omega (arith, ap (length {A = Ref}) (none_waits v k none));
  each = λ k h. subst (AllByRecursion (IsTally k)) (sym (none_waits v k none)) tt;
  placed = placed;
}

-- ---- Counts of nodes

pub made_first : (leaves : ℕ) → leaves ≡ made_of leaves 0
made_first leaves = omega arith

pub made_next : (leaves level made : ℕ) → made ≡ made_of leaves level → made / 32 ≡ made_of leaves (level + 1)
made_next leaves level made is =
    let next : suc level ≡ level + 1 = omega arith in
    ap (λ (n : ℕ). n / 32) is ∙ sym (made_suc 32 level leaves) ∙ ap (λ (k : ℕ). leaves / 32 ^ k) next

-- where nodes wait, the level has one
pub some_made : (leaves level made : ℕ) → made ≡ made_of leaves level → 1 ≤ made % 32 → 32 ^ level ≤ leaves
some_made leaves level made is some =
    let one : 1 * 32 ^ level ≤ leaves = end_made 32 level 0 leaves (omega arith) (omega (arith, is, some)) in
    omega (arith, one)

-- ---- The next level

-- what was said of one level stays as others come
pub record IsAdded (level : ℕ) (v w : Lists) : Type 0 where
  pub placed : w.placed ≡ v.placed
  pub others : (k : ℕ) → k ≢ level → pending_at w k ≡ pending_at v k

pub lawful_added : (leaves level left : ℕ) (v w : Lists) → IsAdded level v w → left ≡ pending_of leaves level → length (pending_at w level) ≤ left → AllByRecursion (IsTally level) (pending_at w level)
    → AreLawful leaves v → AreLawful leaves w
lawful_added leaves level left v w added is few tallies lawful = record {
  most = lawful.most;
  few = λ k h. elim (cases_lt k level) [
    | inl less ↦ subst (λ (rs : List Ref). length rs ≤ leaves / 32 ^ k % 32) (sym (added.others k (omega (arith, less)))) (lawful.few k h)
    | inr more ↦ elim (cases_lt level k) [
      | inl past ↦ subst (λ (rs : List Ref). length rs ≤ leaves / 32 ^ k % 32) (sym (added.others k (omega (arith, past)))) (lawful.few k h)
      | inr same ↦ let here : level ≡ k = omega (arith, more, same) in subst (λ (j : ℕ). length (pending_at w j) ≤ leaves / 32 ^ j % 32) here (omega (arith, few, is))
    ]
  ];
  each = λ k h. elim (cases_lt k level) [
    | inl less ↦ subst (AllByRecursion (IsTally k)) (sym (added.others k (omega (arith, less)))) (lawful.each k h)
    | inr more ↦ elim (cases_lt level k) [
      | inl past ↦ subst (AllByRecursion (IsTally k)) (sym (added.others k (omega (arith, past)))) (lawful.each k h)
      | inr same ↦ let here : level ≡ k = omega (arith, more, same) in subst (λ (j : ℕ). AllByRecursion (IsTally j) (pending_at w j)) here tallies
    ]
  ];
  placed = λ k h made. ap (λ (bs : List Bool). get_or bs k false) added.placed ∙ lawful.placed k h made;
}

-- nothing waits on this level, nor on any above it
abbrev pub NoneFrom : ℕ → Lists → Type 0
NoneFrom level v = (k : ℕ) → level ≤ k → pending_at v k ≡ []

pub none_added : (level : ℕ) (v w : Lists) → IsAdded level v w → NoneFrom level v → NoneFrom (level + 1) w
none_added level v w added none k from = added.others k (omega (arith, from)) ∙ none k (omega (arith, from))

-- what waits below this level is rebuilt
abbrev pub RebuiltTo : Seen → Ordinals → ℕ → SeriesMeta → ℕ → Lists → Type 0
RebuiltTo seen o series known level v = (k : ℕ) → k < level → AreFollowed seen o series k (pending_of known.leaves k) (made_of known.leaves k) (rescue_at known.rescue k) (pending_at v k)

pub rebuilt_added : (seen : Seen) (o : Ordinals) (series : ℕ) (known : SeriesMeta) (level left made at : ℕ) (v w : Lists) → IsAdded level v w → made ≡ made_of known.leaves level → left ≡ made % 32 → at ≡ rescue_at known.rescue level
    → AreFollowed seen o series level left made at (pending_at w level) → RebuiltTo seen o series known level v → RebuiltTo seen o series known (level + 1) w
rebuilt_added seen o series known level left made at v w added made_is left_is at_is followed so_far k below = elim (cases_lt k level) [
  | inl less ↦ subst (AreFollowed seen o series k (pending_of known.leaves k) (made_of known.leaves k) (rescue_at known.rescue k)) (sym (added.others k (omega (arith, less)))) (so_far k less)
  | inr more ↦
      let here : level ≡ k = omega (arith, more, below) in
      let digit : left ≡ pending_of known.leaves level = left_is ∙ ap (λ (n : ℕ). n % 32) made_is in
      let whole : AreFollowed seen o series level (pending_of known.leaves level) (made_of known.leaves level) (rescue_at known.rescue level) (pending_at w level) =
      subst (λ (n : ℕ). AreFollowed seen o series level n (made_of known.leaves level) (rescue_at known.rescue level) (pending_at w level)) digit
      (subst (λ (n : ℕ). AreFollowed seen o series level left n (rescue_at known.rescue level) (pending_at w level)) made_is
      (subst (λ (a : ℕ). AreFollowed seen o series level left made a (pending_at w level)) at_is followed)) in
      subst (λ (j : ℕ). AreFollowed seen o series j (pending_of known.leaves j) (made_of known.leaves j) (rescue_at known.rescue j) (pending_at w j)) here whole
]

pub rebuilt_whole : (seen : Seen) (o : Ordinals) (series : ℕ) (known : SeriesMeta) (level : ℕ) (v : Lists) → 11 ≤ level → RebuiltTo seen o series known level v → IsRebuilt seen o series known v
rebuilt_whole seen o series known level v all so_far k most = so_far k (omega (arith, all, most))

-- the rescue address of a level, as it is read
pub rescue_got : (rescue : List Addr) (k : ℕ) → (get_or rescue k (record { 0 = 0 })).0 ≡ rescue_at rescue k
rescue_got [] k = refl
rescue_got (a ∷ rescue) zero = refl
rescue_got (a ∷ rescue) (suc k) = rescue_got rescue k

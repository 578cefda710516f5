-- What waits once levels are emptied, and once a leaf is closed.
use Rattle.std.proofs.Common.{◌≡◌, inl, inr, ℕ, zero, suc, ◌+◌, ◌/◌, ◌%◌, ◌^◌, ◌<◌, ◌≤◌, Bool, true, false, List, [], ◌∷◌, ◌++◌, length, get_or, refl, sym, ◌∙◌, ap, ap₂, subst, arith, mod-lt}
use Rattle.std.proofs.Math.ListN.{set}
use Rattle.std.proofs.lemmas.Bool.{cases_lt, cases_eq}
use Rattle.std.proofs.lemmas.List.{get_or-set_same, get_or-set_other, length_push, length-set}
use Rattle.std.specs.List.{AllByRecursion}
use Rattle.ak_base.specs.declared.point.Addr.{Addr}
use Rattle.ak_inner.specs.declared.reference.Ref.{Ref}
use Rattle.ak_summary.specs.declared.summary.Summary.{Summary}
use Rattle.ak_levels.specs.Carries.{carry_of}
use Rattle.ak_levels.specs.Closes.{first_leaf_of, node_ref, raised, taken, emptied, closed_lists}
use Rattle.ak_levels.specs.Entries.{IsTally, AreLawful}
use Rattle.ak_levels.specs.Joins.{joined_refs}
use Rattle.ak_levels.specs.Pending.{Lists, HasRoom, pending_at, with_pending, with_places}
use Rattle.ak_levels.proofs.Digits.{carry_most, digit_past, digit_at, reached_past}
use Rattle.ak_levels.proofs.Joined.{tally_joined}
use Rattle.ak_levels.proofs.Lists.{keeps_places}

-- LEVELS THAT ARE EMPTIED
set_none : (xs : List (List Ref)) (i : ℕ) → get_or (set xs i []) i [] ≡ []
set_none [] i = refl
set_none (x ∷ xs) zero = refl
set_none (x ∷ xs) (suc i) = set_none xs i

pub emptied_places : (v : Lists) (k : ℕ) → (emptied v k).placed ≡ v.placed
emptied_places v zero = refl
emptied_places v (suc k) = emptied_places v k

pub emptied_length : (v : Lists) (k : ℕ) → length (emptied v k).pending ≡ length v.pending
emptied_length v zero = refl
emptied_length v (suc k) = length-set (emptied v k).pending k [] ∙ emptied_length v k

-- nothing waits below
pub emptied_below : (v : Lists) (k j : ℕ) → j < k → pending_at (emptied v k) j ≡ []
emptied_below v zero j h = absurd (omega (arith, h))
emptied_below v (suc k) j h = elim (cases_eq j k) [
  | inl same ↦ ap (λ (x : ℕ). pending_at (emptied v (suc k)) x) same ∙ set_none (emptied v k).pending k
  | inr other ↦ get_or-set_other (emptied v k).pending k j [] [] other ∙ emptied_below v k j (omega (arith, h, other))
]

-- and from there on what waited
pub emptied_at : (v : Lists) (k j : ℕ) → k ≤ j → pending_at (emptied v k) j ≡ pending_at v j
emptied_at v zero j h = refl
emptied_at v (suc k) j h = get_or-set_other (emptied v k).pending k j [] [] (omega (arith, h)) ∙ emptied_at v k j (omega (arith, h))

pub emptied_room : (v : Lists) (k j : ℕ) → k ≤ j → HasRoom v j → HasRoom (emptied v k) j
emptied_room v k j h room = record {
  placed = ap (λ (bs : List Bool). get_or bs j false) (emptied_places v k) ∙ room.placed;
  free = omega (arith, ap (length {A = Ref}) (emptied_at v k j h), room.free);
}

pub lawful_emptied : (v : Lists) (m k : ℕ) → AreLawful m v → AreLawful m (emptied v k)
lawful_emptied v m k are = record {
  most = are.most;
  few = λ j top. elim (cases_lt j k) [
    | inl below ↦ omega (arith, ap (length {A = Ref}) (emptied_below v k j below))
    | inr from ↦ omega (arith, ap (length {A = Ref}) (emptied_at v k j from), are.few j top)
  ];
  each = λ j top. elim (cases_lt j k) [
    | inl below ↦ subst (AllByRecursion (IsTally j)) (sym (emptied_below v k j below)) tt
    | inr from ↦ subst (AllByRecursion (IsTally j)) (sym (emptied_at v k j from)) (are.each j top)
  ];
  placed = λ j top reached. ap (λ (bs : List Bool). get_or bs j false) (emptied_places v k) ∙ are.placed j top reached;
}

pub lawful_placed : (v : Lists) (m count : ℕ) → AreLawful m v → AreLawful m (with_places v count)
lawful_placed v m count are = record { most = are.most; few = are.few; each = are.each; placed = λ j top reached. keeps_places count v.placed j (are.placed j top reached) }

-- THE REFERENCE THAT COMES TO A LEVEL
pub free_at : (v : Lists) (m k : ℕ) → AreLawful m v → k ≤ 10 → length (pending_at v k) < 32
free_at v m k are top =
    let digit : m / 32 ^ k % 32 < 32 = mod-lt (m / 32 ^ k) (omega arith) in
    omega (arith, are.few k top, digit)

all_push : (P : Ref → Type 0) (rs : List Ref) (r : Ref) → AllByRecursion P rs → P r → AllByRecursion P (rs ++ r ∷ [])
all_push P [] r all here = (here, tt)
all_push P (q ∷ rs) r all here = (all.0, all_push P rs r all.1 here)

pub raised_addr : (v : Lists) (leaf : Ref) (k : ℕ) → (raised v leaf k).addr.0 ≡ leaf.addr.0 + k
raised_addr v leaf zero = omega arith
raised_addr v leaf (suc k) = omega (arith, raised_addr v leaf k)

pub raised_tally : (v : Lists) (m : ℕ) (leaf : Ref) (k : ℕ) → AreLawful m v → IsTally 0 leaf → k ≤ carry_of m → IsTally k (raised v leaf k)
raised_tally v m leaf zero are tally h = tally
raised_tally v m leaf (suc k) are tally h =
    let free : length (pending_at v k) < 32 = free_at v m k are (omega (arith, h, carry_most m)) in
    let many : length (taken v leaf k) ≡ length (pending_at v k) + 1 = length_push (pending_at v k) (raised v leaf k) in
    let each : AllByRecursion (IsTally k) (taken v leaf k) = all_push (IsTally k) (pending_at v k) (raised v leaf k) (are.each k (omega (arith, h, carry_most m))) (raised_tally v m leaf k are tally (omega (arith, h))) in
    tally_joined k (taken v leaf k) (raised v leaf (suc k)) (omega (arith, many)) (omega (arith, many, free)) each refl

pub taken_tallies : (v : Lists) (m : ℕ) (leaf : Ref) (k : ℕ) → AreLawful m v → IsTally 0 leaf → k ≤ carry_of m → AllByRecursion (IsTally k) (taken v leaf k)
taken_tallies v m leaf k are tally h = all_push (IsTally k) (pending_at v k) (raised v leaf k) (are.each k (omega (arith, h, carry_most m))) (raised_tally v m leaf k are tally h)

-- a reference of these parts
made_ref : ℕ → Addr → Summary → Ref
made_ref a first s = record { addr = record { 0 = a }; first_leaf = first; summary = s }

made_is : (r : Ref) → made_ref r.addr.0 r.first_leaf r.summary ≡ r
unfolding made_ref
made_is r = refl

made_node : (a : ℕ) (rs : List Ref) → made_ref a (first_leaf_of rs) (joined_refs rs) ≡ node_ref a rs
unfolding made_ref
made_node a rs = refl

same_made : (a b : ℕ) (f g : Addr) (s t : Summary) → a ≡ b → f ≡ g → s ≡ t → made_ref a f s ≡ made_ref b g t
same_made a b f g s t p q r = cc

first_pushed : (rs : List Ref) (r : Ref) → (get_or rs 0 r).first_leaf ≡ first_leaf_of (rs ++ r ∷ [])
first_pushed [] r = refl
first_pushed (q ∷ rs) r = refl

node_pushed : (rs : List Ref) (last r : Ref) → r.addr.0 ≡ last.addr.0 + 1 → r.first_leaf ≡ (get_or rs 0 last).first_leaf → r.summary ≡ joined_refs (rs ++ last ∷ []) → r ≡ node_ref (last.addr.0 + 1) (rs ++ last ∷ [])
node_pushed rs last r addr first whole =
    sym (made_is r) ∙ same_made r.addr.0 (last.addr.0 + 1) r.first_leaf (first_leaf_of (rs ++ last ∷ [])) r.summary (joined_refs (rs ++ last ∷ [])) addr (first ∙ first_pushed rs last) whole ∙ made_node (last.addr.0 + 1) (rs ++ last ∷ [])

-- what waits on the next level, and the reference that comes there
pub taken_is : (v w : Lists) (leaf last : Ref) (k : ℕ) → w ≡ emptied v k → last ≡ raised v leaf k → pending_at w k ++ last ∷ [] ≡ taken v leaf k
taken_is v w leaf last k below here = ap₂ (λ (rs : List Ref) (r : Ref). rs ++ r ∷ []) (ap (λ (u : Lists). pending_at u k) below ∙ emptied_at v k k (omega arith)) here

pub raised_more : (v w : Lists) (leaf last r : Ref) (k : ℕ) → w ≡ emptied v k → last ≡ raised v leaf k → r.addr.0 ≡ last.addr.0 + 1 → r.first_leaf ≡ (get_or (pending_at w k) 0 last).first_leaf → r.summary ≡ joined_refs (pending_at w k ++ last ∷ []) → r ≡ raised v leaf (suc k)
raised_more v w leaf last r k below here addr first whole =
    node_pushed (pending_at w k) last r addr first whole ∙ ap₂ node_ref (ap (λ (x : Ref). x.addr.0 + 1) here) (taken_is v w leaf last k below here)

-- A LEAF THAT IS CLOSED
pub closed_places : (v : Lists) (m : ℕ) (leaf : Ref) → (closed_lists v m leaf).placed ≡ v.placed
closed_places v m leaf = emptied_places v (carry_of m)

pub closed_below : (v : Lists) (m : ℕ) (leaf : Ref) (j : ℕ) → j < carry_of m → pending_at (closed_lists v m leaf) j ≡ []
closed_below v m leaf j h = get_or-set_other (emptied v (carry_of m)).pending (carry_of m) j (taken v leaf (carry_of m)) [] (omega (arith, h)) ∙ emptied_below v (carry_of m) j h

pub closed_at : (v : Lists) (m : ℕ) (leaf : Ref) → length v.pending ≡ 11 → pending_at (closed_lists v m leaf) (carry_of m) ≡ taken v leaf (carry_of m)
closed_at v m leaf levels =
    let below : carry_of m < length (emptied v (carry_of m)).pending = omega (arith, carry_most m, levels, emptied_length v (carry_of m)) in
    get_or-set_same (emptied v (carry_of m)).pending (carry_of m) (taken v leaf (carry_of m)) [] below

pub closed_above : (v : Lists) (m : ℕ) (leaf : Ref) (j : ℕ) → carry_of m < j → pending_at (closed_lists v m leaf) j ≡ pending_at v j
closed_above v m leaf j h = get_or-set_other (emptied v (carry_of m)).pending (carry_of m) j (taken v leaf (carry_of m)) [] (omega (arith, h)) ∙ emptied_at v (carry_of m) j (omega (arith, h))

-- what holds of the references that a level gets and of none holds of those that wait on it
set_either : (P : List Ref → Type 0) (xs : List (List Ref)) (i : ℕ) (rs : List Ref) → P [] → P rs → P (get_or (set xs i rs) i [])
set_either P [] i rs none some = none
set_either P (x ∷ xs) zero rs none some = some
set_either P (x ∷ xs) (suc i) rs none some = set_either P xs i rs none some

pub closed_either : (P : List Ref → Type 0) (v : Lists) (m : ℕ) (leaf : Ref) → P [] → P (taken v leaf (carry_of m)) → P (pending_at (closed_lists v m leaf) (carry_of m))
closed_either P v m leaf none some = set_either P (emptied v (carry_of m)).pending (carry_of m) (taken v leaf (carry_of m)) none some

few_closed : (v : Lists) (m : ℕ) (leaf : Ref) (k : ℕ) → m < 2 ^ 53 → AreLawful m v → k ≤ 10 → length (pending_at (closed_lists v m leaf) k) ≤ suc m / 32 ^ k % 32
few_closed v m leaf k small are top = elim (cases_lt k (carry_of m)) [
  | inl below ↦ omega (arith, ap (length {A = Ref}) (closed_below v m leaf k below))
  | inr from ↦ elim (cases_eq k (carry_of m)) [
    | inl here ↦
        let c = carry_of m in
        let many : length (taken v leaf c) ≤ suc m / 32 ^ c % 32 = omega (arith, length_push (pending_at v c) (raised v leaf c), are.few c (carry_most m), digit_at m small) in
        subst (λ (x : ℕ). length (pending_at (closed_lists v m leaf) x) ≤ suc m / 32 ^ x % 32) (sym here)
        (closed_either (λ (rs : List Ref). length rs ≤ suc m / 32 ^ c % 32) v m leaf (omega arith) many)
    | inr other ↦
        let past : carry_of m < k = omega (arith, from, other) in
        omega (arith, ap (length {A = Ref}) (closed_above v m leaf k past), are.few k top, digit_past m k top past)
  ]
]

each_closed : (v : Lists) (m : ℕ) (leaf : Ref) (k : ℕ) → AreLawful m v → IsTally 0 leaf → k ≤ 10 → AllByRecursion (IsTally k) (pending_at (closed_lists v m leaf) k)
each_closed v m leaf k are tally top = elim (cases_lt k (carry_of m)) [
  | inl below ↦ subst (AllByRecursion (IsTally k)) (sym (closed_below v m leaf k below)) tt
  | inr from ↦ elim (cases_eq k (carry_of m)) [
    | inl here ↦
        let c = carry_of m in
        subst (λ (x : ℕ). AllByRecursion (IsTally x) (pending_at (closed_lists v m leaf) x)) (sym here)
        (closed_either (λ (rs : List Ref). AllByRecursion (IsTally c) rs) v m leaf tt (taken_tallies v m leaf c are tally (omega arith)))
    | inr other ↦ subst (AllByRecursion (IsTally k)) (sym (closed_above v m leaf k (omega (arith, from, other)))) (are.each k top)
  ]
]

placed_closed : (v : Lists) (m : ℕ) (leaf : Ref) (k : ℕ) → AreLawful m v → ((j : ℕ) → j ≤ carry_of m → HasRoom v j) → k ≤ 10 → 32 ^ k ≤ suc m → get_or (closed_lists v m leaf).placed k false ≡ true
placed_closed v m leaf k are room top reached = ap (λ (bs : List Bool). get_or bs k false) (closed_places v m leaf) ∙ elim (cases_lt (carry_of m) k) [
  | inl past ↦ are.placed k top (reached_past m k top past reached)
  | inr within ↦ (room k within).placed
]

pub closed_lawful : (v : Lists) (m : ℕ) (leaf : Ref) → m < 2 ^ 52 → AreLawful m v → IsTally 0 leaf → ((k : ℕ) → k ≤ carry_of m → HasRoom v k) → AreLawful (suc m) (closed_lists v m leaf)
closed_lawful v m leaf small are tally room = record {
  most = omega arith;
  few = λ k top. few_closed v m leaf k (omega arith) are top;
  each = λ k top. each_closed v m leaf k are tally top;
  placed = λ k top reached. placed_closed v m leaf k are room top reached;
}

-- what is left once the levels below the carry are emptied, with the reference that comes to the carry behind those that wait there
pub closed_is : (v w u : Lists) (m : ℕ) (leaf last : Ref) (k : ℕ) → k ≡ carry_of m → w ≡ emptied v k → last ≡ raised v leaf k → u ≡ with_pending w k (pending_at w k ++ last ∷ []) → u ≡ closed_lists v m leaf
closed_is v w u m leaf last k top below here new =
    new ∙ ap₂ (λ (x : Lists) (rs : List Ref). with_pending x k rs) below (taken_is v w leaf last k below here) ∙ ap (λ (n : ℕ). with_pending (emptied v n) n (taken v leaf n)) top

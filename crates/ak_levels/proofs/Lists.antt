-- What is seen of the levels.
use Rattle.std.proofs.Common.{◌≡◌, ℕ, zero, suc, ◌<◌, ◌≤◌, Bool, true, false, Option, Some, None, Result, Ok, Err, IfOk, IfErr, Box, List, [], ◌∷◌, ◌++◌, length, drop, replicate, refl, sym, ap, ap₂, ◌∙◌, subst, arith, get_or}
use Rattle.std.proofs.lemmas.List.{map-set, length-set, length-map, get_or-map}
use Rattle.std.proofs.Math.Seq.{map-set_same}
use Rattle.std.proofs.Math.ListN.{set}
use Rattle.std.specs.Box.{with_value}
use Rattle.std.specs.Option.{is_some as option_is_some}
use Rattle.std.specs.List.{AllByRecursion}
use Rattle.std.specs.declared.alloc.Global.{Global}
use Rattle.ak_inner.specs.declared.inner.Inner.{Inner}
use Rattle.ak_inner.specs.declared.reference.Ref.{Ref}
use Rattle.ak_levels.specs.Pending.{Lists, lists, AreLists, HasRoom, pending_at, with_pending, with_places, refs_of, is_placed, lists_of}

as_type : Bool → Type 0
as_type true = ⊥
as_type false = Unit {0}

not_true : false ≡ true → ⊥
unfolding as_type
not_true h = subst as_type h tt

abbrev pub Places : Type 0
Places = Option (Box Inner Global)

-- what is seen of one level
pub pending_is : (xs : List Places) (i : ℕ) (d : Places) → i < length xs → pending_at (lists_of xs) i ≡ refs_of (get_or xs i d)
pending_is xs i d h = get_or-map refs_of xs i d [] h

pub placed_is : (xs : List Places) (i : ℕ) (d : Places) → i < length xs → get_or (lists_of xs).placed i false ≡ is_placed (get_or xs i d)
placed_is xs i d h = get_or-map is_placed xs i d false h

-- what is seen where one level's references change, and its places stay
pub seen_set : (xs : List Places) (i : ℕ) (new d : Places) → is_placed new ≡ is_placed (get_or xs i d) → lists_of (set xs i new) ≡ with_pending (lists_of xs) i (refs_of new)
seen_set xs i new d same = ap₂ lists (map-set refs_of xs i new) (map-set_same is_placed xs i new d same)

-- what is seen where a level gets places
pub seen_placed : (xs : List Places) (i : ℕ) (new d : Places) → refs_of new ≡ refs_of (get_or xs i d) → lists_of (set xs i new) ≡ lists (lists_of xs).pending (set (lists_of xs).placed i (is_placed new))
seen_placed xs i new d same = ap₂ lists (map-set_same refs_of xs i new d same) (map-set is_placed xs i new)

all_set : (xs : List (List Ref)) (i : ℕ) (rs : List Ref) → length rs ≤ 32 → AllByRecursion (λ l. length l ≤ 32) xs → AllByRecursion (λ l. length l ≤ 32) (set xs i rs)
all_set [] i rs h all = tt
all_set (x ∷ xs) zero rs h all = (h, all.1)
all_set (x ∷ xs) (suc i) rs h all = (all.0, all_set xs i rs h all.1)

pub pending_set : (v : Lists) (i : ℕ) (rs : List Ref) → length rs ≤ 32 → AreLists v → AreLists (with_pending v i rs)
pending_set v i rs h are = record {
  levels = length-set v.pending i rs ∙ are.levels;
  places = are.places;
  most = all_set v.pending i rs h are.most;
}

-- the places of one level more
placed_more : (n : ℕ) (bs : List Bool) → n < length bs → set (replicate n true ++ drop n bs) n true ≡ replicate (suc n) true ++ drop (suc n) bs
placed_more zero [] h = absurd (omega arith)
placed_more zero (b ∷ bs) h = refl
placed_more (suc n) [] h = absurd (omega arith)
placed_more (suc n) (b ∷ bs) h = ap (λ (l : List Bool). true ∷ l) (placed_more n bs (omega arith))

placed_already : (n : ℕ) (bs : List Bool) → n < length bs → get_or bs n false ≡ true → replicate n true ++ drop n bs ≡ replicate (suc n) true ++ drop (suc n) bs
placed_already zero [] h is = absurd (omega arith)
placed_already zero (b ∷ bs) h is = ap (λ (c : Bool). c ∷ bs) is
placed_already (suc n) [] h is = absurd (omega arith)
placed_already (suc n) (b ∷ bs) h is = ap (λ (l : List Bool). true ∷ l) (placed_already n bs (omega arith) is)

length_placed : (n : ℕ) (bs : List Bool) → n ≤ length bs → length (replicate n true ++ drop n bs) ≡ length bs
length_placed zero bs h = refl
length_placed (suc n) [] h = absurd (omega arith)
length_placed (suc n) (b ∷ bs) h = ap suc (length_placed n bs (omega arith))

pub with_places_more : (v : Lists) (n : ℕ) → n < length v.placed → lists v.pending (set (with_places v n).placed n true) ≡ with_places v (suc n)
with_places_more v n h = ap (lists v.pending) (placed_more n v.placed h)

pub with_places_already : (v : Lists) (n : ℕ) → n < length v.placed → get_or v.placed n false ≡ true → with_places v n ≡ with_places v (suc n)
with_places_already v n h is = ap (lists v.pending) (placed_already n v.placed h is)

pub placed_lists : (v : Lists) (n : ℕ) → n ≤ length v.placed → AreLists v → AreLists (with_places v n)
placed_lists v n h are = record { levels = are.levels; places = length_placed n v.placed h ∙ are.places; most = are.most }

-- a level that gets places has them, and the others keep theirs
pub has_places : (n : ℕ) (bs : List Bool) (k : ℕ) → k < n → get_or (replicate n true ++ bs) k false ≡ true
has_places zero bs k h = absurd (omega arith)
has_places (suc n) bs zero h = refl
has_places (suc n) bs (suc k) h = has_places n bs k (omega arith)

pub keeps_places : (n : ℕ) (bs : List Bool) (k : ℕ) → get_or bs k false ≡ true → get_or (replicate n true ++ drop n bs) k false ≡ true
keeps_places zero bs k h = h
keeps_places (suc n) [] zero h = absurd (not_true h)
keeps_places (suc n) [] (suc k) h = absurd (not_true h)
keeps_places (suc n) (b ∷ bs) zero h = refl
keeps_places (suc n) (b ∷ bs) (suc k) h = keeps_places n bs k h

pub room_made : (v : Lists) (n k : ℕ) → k < n → length (pending_at v k) < 32 → HasRoom (with_places v n) k
room_made v n k h free = record { placed = has_places n (drop n v.placed) k h; free = free }

pub room_kept : (v : Lists) (n k : ℕ) → HasRoom v k → HasRoom (with_places v n) k
room_kept v n k room = record { placed = keeps_places n v.placed k room.placed; free = room.free }

-- A VIEW AND THE LEVELS BEHIND IT
pub within : (xs : List Places) (i : ℕ) → AreLists (lists_of xs) → i ≤ 10 → i < length xs
within xs i are h = omega (arith, length-map xs refs_of, are.levels, h)

pub pending_there : (xs : List Places) (v : Lists) (i : ℕ) (d : Places) (b : Box Inner Global) → lists_of xs ≡ v → AreLists (lists_of xs) → i ≤ 10 → get_or xs i d ≡ Some b → pending_at v i ≡ b.value
pending_there xs v i d b seen are h is = ap (λ (u : Lists). pending_at u i) (sym seen) ∙ pending_is xs i d (within xs i are h) ∙ ap refs_of is

pub none_there : (xs : List Places) (v : Lists) (i : ℕ) (d : Places) → lists_of xs ≡ v → AreLists (lists_of xs) → i ≤ 10 → get_or xs i d ≡ None → pending_at v i ≡ []
none_there xs v i d seen are h is = ap (λ (u : Lists). pending_at u i) (sym seen) ∙ pending_is xs i d (within xs i are h) ∙ ap refs_of is

pub no_room : (xs : List Places) (v : Lists) (i : ℕ) (d : Places) → lists_of xs ≡ v → AreLists (lists_of xs) → i ≤ 10 → get_or xs i d ≡ None → HasRoom v i → ⊥
no_room xs v i d seen are h is room =
    let none : false ≡ true = sym (placed_is xs i d (within xs i are h) ∙ ap is_placed is) ∙ ap (λ (u : Lists). get_or u.placed i false) seen ∙ room.placed in
    not_true none

pub changed : (xs ys : List Places) (v : Lists) (i : ℕ) (d : Places) (b : Box Inner Global) (rs : List Ref) → lists_of xs ≡ v → get_or xs i d ≡ Some b → ys ≡ set xs i (Some (with_value b rs)) → lists_of ys ≡ with_pending v i rs
changed xs ys v i d b rs seen is new =
    ap lists_of new ∙ seen_set xs i (Some (with_value b rs)) d (sym (ap is_placed is)) ∙ ap (λ (u : Lists). with_pending u i rs) seen

pub stays : (xs ys : List Places) (v : Lists) (i : ℕ) (rs : List Ref) → lists_of xs ≡ v → AreLists (lists_of xs) → length rs ≤ 32 → lists_of ys ≡ with_pending v i rs → AreLists (lists_of ys)
stays xs ys v i rs seen are few new = subst AreLists (sym new) (pending_set v i rs few (subst AreLists seen are))

-- what is seen once the level above so many has places
pub place_more : (xs : List Places) (v w : Lists) (n i : ℕ) (d : Places) (b : Box Inner Global) → lists_of xs ≡ w → w ≡ with_places v i → n ≡ suc i → AreLists v → i ≤ 10 → b.value ≡ [] → refs_of (get_or xs i d) ≡ [] → lists_of (set xs i (Some b)) ≡ with_places v n
place_more xs v w n i d b seen below more are h none before =
    seen_placed xs i (Some b) d (none ∙ sym before) ∙ ap (λ (u : Lists). lists u.pending (set u.placed i true)) (seen ∙ below) ∙ with_places_more v i (omega (arith, are.places, h)) ∙ ap (with_places v) (sym more)

pub place_already : (xs : List Places) (v : Lists) (n i : ℕ) (d : Places) → lists_of xs ≡ v → AreLists (lists_of xs) → n ≡ suc i → i ≤ 10 → true ≡ is_placed (get_or xs i d) → with_places v i ≡ with_places v n
place_already xs v n i d seen are more h is =
    with_places_already v i (omega (arith, (subst AreLists seen are).places, h)) (ap (λ (u : Lists). get_or u.placed i false) (sym seen) ∙ placed_is xs i d (within xs i are h) ∙ sym is) ∙ ap (with_places v) (sym more)

-- a level without places has none that wait
pub none_pending : (xs ys : List Places) (v w : Lists) (i : ℕ) (d e : Places) → lists_of xs ≡ v → lists_of ys ≡ w → AreLists (lists_of xs) → AreLists (lists_of ys) → w ≡ with_places v i → i ≤ 10 → false ≡ option_is_some (get_or xs i d) → refs_of (get_or ys i e) ≡ []
none_pending xs ys v w i d e seen seen' are are' below h none =
    sym (pending_is ys i e (within ys i are' h)) ∙ ap (λ (u : Lists). pending_at u i) (seen' ∙ below ∙ ap (λ (u : Lists). with_places u i) (sym seen)) ∙ pending_is xs i d (within xs i are h) ∙ go (get_or xs i d) none
  where
    go : (p : Places) → false ≡ option_is_some p → refs_of p ≡ []
    go None is = refl
    go (Some q) is = absurd (not_true is)

pub placed_some : (p : Places) → true ≡ option_is_some p → true ≡ is_placed p
placed_some None is = absurd (not_true (sym is))
placed_some (Some q) is = refl

-- WHAT A RESULT SAYS
pub if_ok : {X E : Type 0} (r : Result X E) (P Q : Type 0) → (P → Q) → IfOk r (λ _. P) → IfOk r (λ _. Q)
if_ok (Ok x) P Q f h = f h
if_ok (Err e) P Q f h = tt

pub either : {X E : Type 0} (r : Result X E) (P Q R : Type 0) → (P → R) → (Q → R) → IfOk r (λ _. P) → IfErr r (λ _. Q) → R
either (Ok x) P Q R f g h k = f h
either (Err e) P Q R f g h k = g k

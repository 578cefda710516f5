-- Lists merged by time, of which the next item is taken.
use Rattle.std.proofs.Common.{◌≡◌, ℕ, ◌<◌, ◌≤◌, Bool, true, false, List, [], ◌∷◌, ◌++◌, map, refl, ap, ap₂, subst, ◌∙◌, sym, arith}
use Rattle.std.specs.Prelude.{if◌then◌else◌, flat_map, reverse}
use Rattle.std.specs.List.{AllByRecursion}
use Rattle.std.proofs.lemmas.List.{append_assoc, reverse-append, map-append}
use Rattle.std.proofs.lemmas.List.Concat.{flat_map-append}
use Rattle.ak_rows.specs.Ahead.{comes}
use Rattle.ak_rows.specs.Picks.{loses_before, loses_behind}
use Rattle.ak_rows.specs.Sorted.{in_time, turned}
use Rattle.ak_rows.proofs.InTime.{first_out, last_out}

-- ---- What holds of each

pub all_append : {A : Type 0} (P : A → Type 0) (xs ys : List A) → AllByRecursion P xs → AllByRecursion P ys → AllByRecursion P (xs ++ ys)
all_append P [] ys one two = two
all_append P (x ∷ xs) ys one two = (one.0, all_append P xs ys one.1 two)

pub reverse_first : {A : Type 0} (x : A) (xs : List A) → reverse (x ∷ xs) ≡ reverse xs ++ x ∷ []
reverse_first x xs = reverse-append (x ∷ []) xs

pub all_reverse : {A : Type 0} (P : A → Type 0) (xs : List A) → AllByRecursion P xs → AllByRecursion P (reverse xs)
all_reverse P [] all = tt
all_reverse P (x ∷ xs) all = subst (AllByRecursion P) (sym (reverse_first x xs)) (all_append P (reverse xs) (x ∷ []) (all_reverse P xs all.1) (all.0, tt))

pub all_turned : {A : Type 0} (P : A → Type 0) (back : Bool) (xs : List A) → AllByRecursion P xs → AllByRecursion P (turned back xs)
all_turned P false xs all = all
all_turned P true xs all = all_reverse P xs all

pub all_if : {A : Type 0} (P Q : A → Type 0) → ((x : A) → P x → Q x) → (xs : List A) → AllByRecursion P xs → AllByRecursion Q xs
all_if P Q follows [] all = tt
all_if P Q follows (x ∷ xs) all = (follows x all.0, all_if P Q follows xs all.1)

-- ---- Lists one behind the other

-- in rising order, whichever way they come
abbrev pub flat : {A : Type 0} → Bool → List (List A) → List A
flat back xss = flat_map (λ xs. xs) (map (turned back) xss)

pub flat_split : {A : Type 0} (back : Bool) (us : List (List A)) (x : List A) (vs : List (List A)) → flat back (us ++ x ∷ vs) ≡ flat back us ++ (turned back x ++ flat back vs)
flat_split back us x vs = ap (flat_map (λ xs. xs)) (map-append (turned back) us (x ∷ vs)) ∙ flat_map-append (λ xs. xs) (map (turned back) us) (turned back x ∷ map (turned back) vs)

pub all_flat : {A : Type 0} (P : A → Type 0) (back : Bool) (xss : List (List A)) → AllByRecursion (AllByRecursion P) xss → AllByRecursion P (flat back xss)
all_flat P back [] all = tt
all_flat P back (xs ∷ xss) all = all_append P (turned back xs) (flat back xss) (all_turned P back xs all.0) (all_flat P back xss all.1)

-- ---- The next of all

-- The first item of one of the lists, where it comes before all items of the others and before its own.
pub next_out : {A : Type 0} (time : A → ℕ) (back : Bool) (us : List (List A)) (p : A) (rest : List A) (vs : List (List A))
    → AllByRecursion (AllByRecursion (λ q. loses_before back (time p) (time q))) us
    → AllByRecursion (λ q. comes back (time p) (time q)) rest
    → AllByRecursion (AllByRecursion (λ q. loses_behind back (time p) (time q))) vs
    → turned back (in_time time (flat back (us ++ (p ∷ rest) ∷ vs))) ≡ p ∷ turned back (in_time time (flat back (us ++ rest ∷ vs)))
next_out time false us p rest vs before own behind =
    ap (in_time time) (flat_split false us (p ∷ rest) vs)
    ∙ first_out time (flat false us) p (rest ++ flat false vs)
    (all_flat (λ q. time p < time q) false us before)
    (all_append (λ q. time p ≤ time q) rest (flat false vs) own (all_flat (λ q. time p ≤ time q) false vs behind))
    ∙ ap (λ xs. p ∷ in_time time xs) (sym (flat_split false us rest vs))
next_out time true us p rest vs before own behind =
    let front = flat true us ++ reverse rest in
    let after = flat true vs in
    let placed : flat true us ++ (reverse (p ∷ rest) ++ after) ≡ front ++ p ∷ after =
    ap (λ xs. flat true us ++ (xs ++ after)) (reverse_first p rest)
    ∙ ap (λ xs. flat true us ++ xs) (append_assoc (reverse rest) (p ∷ []) after)
    ∙ sym (append_assoc (flat true us) (reverse rest) (p ∷ after)) in
    ap (λ xs. reverse (in_time time xs)) (flat_split true us (p ∷ rest) vs ∙ placed)
    ∙ ap reverse (last_out time front p after
    (all_append (λ q. time q ≤ time p) (flat true us) (reverse rest) (all_flat (λ q. time q ≤ time p) true us before) (all_reverse (λ q. time q ≤ time p) rest own))
    (all_flat (λ q. time q < time p) true vs behind))
    ∙ reverse-append (in_time time (front ++ after)) (p ∷ [])
    ∙ ap (λ xs. p ∷ reverse (in_time time xs)) (append_assoc (flat true us) (reverse rest) after ∙ sym (flat_split true us rest vs))

-- Words as rows of pairs.
use Rattle.std.proofs.Common.{ℕ, suc, ◌≡◌, ◌≢◌, ◌<◌, ◌≤◌, ◌+◌, ◌%◌, List, [], ◌∷◌, length, get_or, map, take, drop, ◌-◌, ◌↔◌, Bool, true, false, arith, sym, ◌∙◌, ap, refl, add-one, subst}
use Rattle.std.proofs.Math.Seq.{drop-cons}
use Rattle.std.proofs.lemmas.Grind.{common_steps}
use Rattle.std.proofs.lemmas.List.{drop_all, drop-map, length-map, get_or-map}
use Rattle.std.specs.Str.{bytes_eq}
use Rattle.std.specs.List.{AllByRecursion}
use Rattle.ak_words.specs.Words.{Pair, row_of, behind, IsName}
use Rattle.ak_words.specs.Pairs.{pairs_of, Finds}

pub pairs_row : (ps : List Pair) → pairs_of (row_of ps) ≡ ps
pairs_row [] = refl
pairs_row (p ∷ ps) = ap (λ qs. p ∷ qs) (pairs_row ps)

pub row_even : (ps : List Pair) → length (row_of ps) % 2 ≡ 0
row_even [] = refl
row_even (p ∷ ps) = omega (arith, row_even ps)

pub row_pairs : (ws : List (List ℕ)) → length ws % 2 ≡ 0 → row_of (pairs_of ws) ≡ ws
row_pairs [] even = refl
row_pairs (w ∷ []) even = absurd (omega (arith, even))
row_pairs (w ∷ t ∷ ws) even = ap (λ vs. w ∷ t ∷ vs) (row_pairs ws (omega (arith, even)))

-- two words from this place on
pub two_on : (ws : List (List ℕ)) (at : ℕ) → at + 1 < length ws → drop at ws ≡ get_or ws at [] ∷ get_or ws (at + 1) [] ∷ drop (at + 2) ws
two_on ws at within =
    drop-cons ws at [] (omega arith)
    ∙ ap (λ vs. get_or ws at [] ∷ vs) (drop-cons ws (suc at) [] (omega arith) ∙ tail)
  where
    plain : (m n : ℕ) (i j : ℕ) → m ≡ i → n ≡ j → get_or ws m [] ∷ drop n ws ≡ get_or ws i [] ∷ drop j ws
    plain m n i j e f = cc

    tail : get_or ws (suc at) [] ∷ drop (suc (suc at)) ws ≡ get_or ws (at + 1) [] ∷ drop (at + 2) ws
    tail = plain (suc at) (suc (suc at)) (at + 1) (at + 2) (omega arith) (omega arith)

pub pair_on : (ws : List (List ℕ)) (at : ℕ) → at + 1 < length ws → pairs_of (drop at ws) ≡ record { name = get_or ws at []; text = get_or ws (at + 1) [] } ∷ pairs_of (drop (at + 2) ws)
pair_on ws at within = ap pairs_of (two_on ws at within)

behind_pair : (name : List ℕ) (p : Pair) (ps : List Pair) → bytes_eq p.name name ≡ true → behind name (p ∷ ps) ≡ p.text ∷ behind name ps
behind_pair name p ps e = rw e refl

behind_other : (name : List ℕ) (p : Pair) (ps : List Pair) → bytes_eq p.name name ≡ false → behind name (p ∷ ps) ≡ behind name ps
behind_other name p ps e = rw e refl

pub finds_here : (name : List ℕ) (ws : List (List ℕ)) (at : ℕ) → at + 1 < length ws → bytes_eq (get_or ws at []) name ≡ true → behind name (pairs_of (drop at ws)) ≡ get_or ws (at + 1) [] ∷ behind name (pairs_of (drop (at + 2) ws))
finds_here name ws at within e = ap (behind name) (pair_on ws at within) ∙ behind_pair name _ _ e

pub finds_on : (name : List ℕ) (ws : List (List ℕ)) (at : ℕ) → at + 1 < length ws → bytes_eq (get_or ws at []) name ≡ false → behind name (pairs_of (drop at ws)) ≡ behind name (pairs_of (drop (at + 2) ws))
finds_on name ws at within e = ap (behind name) (pair_on ws at within) ∙ behind_other name _ _ e

-- each pair has the name of a limit
abbrev pub AreNamed : List (List ℕ) → Type 0
AreNamed ws = AllByRecursion (λ p. IsName p.name) (pairs_of ws)

pub named_split : (ws : List (List ℕ)) (at : ℕ) → at + 1 < length ws → AreNamed (drop at ws) → IsName (get_or ws at []) × AreNamed (drop (at + 2) ws)
named_split ws at within h = subst (λ (ps : List Pair). AllByRecursion (λ p. IsName p.name) ps) (pair_on ws at within) h

pub named_join : (ws : List (List ℕ)) (at : ℕ) → at + 1 < length ws → IsName (get_or ws at []) → AreNamed (drop (at + 2) ws) → AreNamed (drop at ws)
named_join ws at within h rest = subst (λ (ps : List Pair). AllByRecursion (λ p. IsName p.name) ps) (sym (pair_on ws at within)) (h, rest)

pub named_end : (ws : List (List ℕ)) (at : ℕ) → length ws ≤ at → AreNamed (drop at ws)
named_end ws at past = subst AreNamed (sym (drop_all at ws past)) tt

pub behind_end : (name : List ℕ) (ws : List (List ℕ)) (at : ℕ) → length ws ≤ at → behind name (pairs_of (drop at ws)) ≡ []
behind_end name ws at past = ap (λ vs. behind name (pairs_of vs)) (drop_all at ws past)

-- A loop over the words, two by two, stands at this word.
pub record Stands {X : Type 0} (xs : List X) (at : ℕ) (x : X) : Type 0 where
  pub whole : length xs % 2 ≡ 0
  pub even : at % 2 ≡ 0
  pub within : at < length xs
  pub item : x ≡ get_or xs at x

stands_within : {X : Type 0} (f : X → List ℕ) (xs : List X) (at : ℕ) (x : X) → Stands xs at x → at + 1 < length (map f xs)
stands_within f xs at x h = omega (arith, length-map xs f, h.whole, h.even, h.within)

stands_item : {X : Type 0} (f : X → List ℕ) (xs : List X) (at : ℕ) (x : X) → Stands xs at x → get_or (map f xs) at [] ≡ f x
stands_item f xs at x h = get_or-map f xs at x [] h.within ∙ ap f (sym h.item)

pub named_here : {X : Type 0} (f : X → List ℕ) (xs : List X) (at : ℕ) (x : X) → Stands xs at x → (AreNamed (map f xs) ↔ AreNamed (drop at (map f xs))) → AreNamed (map f xs) → IsName (f x)
named_here f xs at x h same all =
    subst IsName (stands_item f xs at x h) (named_split (map f xs) at (stands_within f xs at x h) (same.0 all)).0

pub named_next : {X : Type 0} (f : X → List ℕ) (xs : List X) (at : ℕ) (x : X) → Stands xs at x → (AreNamed (map f xs) ↔ AreNamed (drop at (map f xs))) → IsName (f x) → AreNamed (map f xs) ↔ AreNamed (drop (at + 2) (map f xs))
named_next f xs at x h same is = (
  λ all. (named_split (map f xs) at (stands_within f xs at x h) (same.0 all)).1,
  λ rest. same.1 (named_join (map f xs) at (stands_within f xs at x h) (subst IsName (sym (stands_item f xs at x h)) is) rest),
)

pub finds_at : {X : Type 0} (f : X → List ℕ) (xs : List X) (at : ℕ) (x : X) (name : List ℕ) → Stands xs at x → behind name (pairs_of (map f xs)) ≡ behind name (pairs_of (drop at (map f xs))) → bytes_eq (f x) name ≡ true → Finds name (map f xs) at
finds_at f xs at x name h same e = record {
  within = stands_within f xs at x h;
  even = h.even;
  splits = same ∙ finds_here name (map f xs) at (stands_within f xs at x h) (ap (λ t. bytes_eq t name) (stands_item f xs at x h) ∙ e);
}

pub finds_next : {X : Type 0} (f : X → List ℕ) (xs : List X) (at : ℕ) (x : X) (name : List ℕ) → Stands xs at x → behind name (pairs_of (map f xs)) ≡ behind name (pairs_of (drop at (map f xs))) → bytes_eq (f x) name ≡ false → behind name (pairs_of (map f xs)) ≡ behind name (pairs_of (drop (at + 2) (map f xs)))
finds_next f xs at x name h same e = same ∙ finds_on name (map f xs) at (stands_within f xs at x h) (ap (λ t. bytes_eq t name) (stands_item f xs at x h) ∙ e)

-- the name stands once
pub finds_once : {X : Type 0} (f : X → List ℕ) (xs : List X) (at : ℕ) (x : X) (name : List ℕ) (ys : List X) → ys ≡ drop (at + 2) xs → Finds name (map f xs) at → x ≡ get_or xs (at + 1) x → behind name (pairs_of (map f ys)) ≡ [] → behind name (pairs_of (map f xs)) ≡ f x ∷ []
finds_once f xs at x name ys tail finds item none =
    let head : get_or (map f xs) (at + 1) [] ≡ f x = get_or-map f xs (at + 1) x [] (omega (arith, length-map xs f, finds.within)) ∙ ap f (sym item) in
    let rest : behind name (pairs_of (drop (at + 2) (map f xs))) ≡ [] = ap (λ (vs : List (List ℕ)). behind name (pairs_of vs)) (drop-map f (at + 2) xs ∙ ap (map f) (sym tail)) ∙ none in
    finds.splits ∙ ap (λ (t : List ℕ). t ∷ behind name (pairs_of (drop (at + 2) (map f xs)))) head ∙ ap (λ (ts : List (List ℕ)). f x ∷ ts) rest

-- the name stands twice
pub finds_twice : {X : Type 0} (f : X → List ℕ) (xs : List X) (at k : ℕ) (name : List ℕ) (ys : List X) → ys ≡ drop (at + 2) xs → Finds name (map f xs) at → Finds name (map f ys) k → (t : List ℕ) × (u : List ℕ) × (rest : List (List ℕ)) × (behind name (pairs_of (map f xs)) ≡ t ∷ u ∷ rest)
finds_twice f xs at k name ys tail first second =
    let rest = ap (λ (vs : List (List ℕ)). behind name (pairs_of vs)) (drop-map f (at + 2) xs ∙ ap (map f) (sym tail)) ∙ second.splits in
    (_, _, _, first.splits ∙ ap (λ (ts : List (List ℕ)). get_or (map f xs) (at + 1) [] ∷ ts) rest)

pub tail_is : {X : Type 0} (xs : List X) (at : ℕ) → take (length xs - (at + 2)) (drop (at + 2) xs) ≡ drop (at + 2) xs
tail_is xs at = grind (arith, common_steps)

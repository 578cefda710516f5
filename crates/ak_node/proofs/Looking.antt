-- How much longer the record is with the names of a message, which of them is late, and where they stand.
use Rattle.std.proofs.Common.{ℕ, zero, suc, ◌≡◌, ◌∙◌, ◌⊎◌, inl, inr, ◌+◌, ◌-◌, ◌^◌, ◌<◌, ◌≤◌, min, Bool, true, false, ◌||◌, if◌then◌else◌, List, [], ◌∷◌, ◌++◌, length, take, drop, get_or, replicate, Option, Some, None, is_some, bytes_eq, refl, sym, ap, arith, add-one, drop-cons}
use Rattle.std.specs.List.{list_any}
use Rattle.std.proofs.lemmas.Cmp.{nat_list_eq_equiv}
use Rattle.std.proofs.lemmas.List.{take_more, drop_all, map-append}
use Rattle.std.proofs.lemmas.List.Folds.{list_any-append}
use Rattle.std.proofs.lemmas.Slice.Eq.{bytes_eq-Decides}
use Rattle.ak_meta.specs.Contents.{Content, names_of, size_of}
use Rattle.ak_meta.specs.Leaves.{with_series, new_series}
use Rattle.ak_meta.specs.declared.meta.SeriesMeta.{SeriesMeta}
use Rattle.ak_node.specs.Names.{place_in, last_in_place, late_known, with_all, ArePlaces}
use Rattle.ak_node.proofs.Naming.{with_one, known_at, new_at}
use Rattle.ak_tree.specs.Standing.{Trees}
use Rattle.ak_tree.proofs.AddingSeries.{size_named}
use Rattle.ak_world.specs.Puts.{late_behind, first_of}

-- ---- How long the record is

-- the bytes that a name takes: none where it is known, or one of those before it
abbrev pub growth : Bool → List (List ℕ) → List ℕ → ℕ
growth known before name = if (known || list_any (λ n. bytes_eq n name) before) then 0 else 106 + length name

-- the bytes that names take, where others stand before them
abbrev pub grows : List (List ℕ) → List (List ℕ) → List (List ℕ) → ℕ
grows known before [] = 0
grows known before (name ∷ names) = growth (list_any (λ n. bytes_eq name n) known) before name + grows known (before ++ name ∷ []) names

or_false : (b : Bool) → (b || false) ≡ b
or_false true = refl
or_false false = refl

or_more : (a b c : Bool) → (a || (b || c)) ≡ ((a || b) || c)
or_more true b c = refl
or_more false b c = refl

absorbed : (a b : Bool) → (b ≡ true → a ≡ true) → a ≡ (a || b)
absorbed true b implied = refl
absorbed false true implied = implied refl
absorbed false false implied = refl

same_name : (xs ys : List ℕ) → bytes_eq xs ys ≡ true → xs ≡ ys
same_name xs ys is = (bytes_eq-Decides xs ys).0 is

abbrev pub knows : Content → List ℕ → Bool
knows c name = list_any (λ n. bytes_eq name n) (names_of c.series)

pub names_more : (c : Content) (name : List ℕ) → names_of (with_series c name).series ≡ names_of c.series ++ name ∷ []
names_more c name = map-append (λ (s : SeriesMeta). s.name) c.series (new_series name ∷ [])

-- with a name more, the others and this one are known
any_one : (c : Content) (m name : List ℕ) → knows (with_one c m) name ≡ (knows c name || bytes_eq m name)
any_one c m name = of (knows c m) refl where
  of : (b : Bool) → knows c m ≡ b → knows (if b then c else with_series c m) name ≡ (knows c name || bytes_eq m name)
  of true some = absorbed (knows c name) (bytes_eq m name) (λ same. ap (knows c) (sym (same_name m name same)) ∙ some)
  of false new =
      ap (list_any (λ n. bytes_eq name n)) (names_more c m)
      ∙ list_any-append (λ n. bytes_eq name n) (names_of c.series) (m ∷ [])
      ∙ ap (λ (b : Bool). knows c name || b) (or_false (bytes_eq name m) ∙ nat_list_eq_equiv.symm name m)

-- the content knows the names that were known, and those before
Knows : List (List ℕ) → List (List ℕ) → Content → Type 0
Knows known before now = (name : List ℕ) → knows now name ≡ (list_any (λ n. bytes_eq name n) known || list_any (λ n. bytes_eq n name) before)

knows_more : (known before : List (List ℕ)) (now : Content) (m : List ℕ) → Knows known before now → Knows known (before ++ m ∷ []) (with_one now m)
unfolding Knows
knows_more known before now m are name =
    let old = list_any (λ n. bytes_eq name n) known in
    any_one now m name
    ∙ ap (λ (b : Bool). b || bytes_eq m name) (are name)
    ∙ sym (or_more old (list_any (λ n. bytes_eq n name) before) (bytes_eq m name))
    ∙ ap (λ (b : Bool). old || (list_any (λ n. bytes_eq n name) before || b)) (sym (or_false (bytes_eq m name)))
    ∙ ap (λ (b : Bool). old || b) (sym (list_any-append (λ n. bytes_eq n name) before (m ∷ [])))

pub size_one : (c : Content) (name : List ℕ) → size_of (with_one c name) ≡ size_of c + (if knows c name then 0 else 106 + length name)
size_one c name = of (knows c name) where
  of : (b : Bool) → size_of (if b then c else with_series c name) ≡ size_of c + (if b then 0 else 106 + length name)
  of true = omega arith
  of false = size_named c name

size_all : (known before names : List (List ℕ)) (now : Content) → Knows known before now → size_of (with_all now names) ≡ size_of now + grows known before names
unfolding Knows
size_all known before [] now are = omega arith
size_all known before (name ∷ names) now are =
    let here : size_of (with_one now name) ≡ size_of now + growth (list_any (λ n. bytes_eq name n) known) before name = size_one now name ∙ ap (λ (b : Bool). size_of now + (if b then 0 else 106 + length name)) (are name) in
    let later = size_all known (before ++ name ∷ []) names (with_one now name) (knows_more known before now name are) in
    omega (arith, here, later)

knows_none : (c : Content) → Knows (names_of c.series) [] c
unfolding Knows
knows_none c name = sym (or_false (knows c name))

pub need_all : (c : Content) (known names : List (List ℕ)) → known ≡ names_of c.series → size_of (with_all c names) ≡ size_of c + grows known [] names
need_all c known names are = size_all (names_of c.series) [] names c (knows_none c) ∙ ap (λ (ns : List (List ℕ)). size_of c + grows ns [] names) (sym are)

-- ---- Name by name

pub rest_at : {X : Type 0} (xs : List X) (i : ℕ) (d : X) → i < length xs → drop i xs ≡ get_or xs i d ∷ drop (i + 1) xs
rest_at xs i d h = rw (add-one, drop-cons xs i d) refl

pub need_more : (known names : List (List ℕ)) (i need next whole : ℕ) (name d : List ℕ) (has : Bool) → i < length names → name ≡ get_or names i d
    → has ≡ list_any (λ n. bytes_eq name n) known → next ≡ min (need + growth has (take i names) name) (2 ^ 64 - 1)
    → min (need + grows known (take i names) (drop i names)) (2 ^ 64 - 1) ≡ whole
    → min (next + grows known (take (i + 1) names) (drop (i + 1) names)) (2 ^ 64 - 1) ≡ whole
need_more known names i need next whole name d has lt is has_is next_is before =
    let split : drop i names ≡ name ∷ drop (i + 1) names = rest_at names i d lt ∙ ap (λ (n : List ℕ). n ∷ drop (i + 1) names) (sym is) in
    let front : take (i + 1) names ≡ take i names ++ name ∷ [] = take_more names i d lt ∙ ap (λ (n : List ℕ). take i names ++ n ∷ []) (sym is) in
    let now : growth (list_any (λ n. bytes_eq name n) known) (take i names) name ≡ growth has (take i names) name = ap (λ (b : Bool). growth b (take i names) name) (sym has_is) in
    let all : grows known (take i names) (drop i names) ≡ growth (list_any (λ n. bytes_eq name n) known) (take i names) name + grows known (take i names ++ name ∷ []) (drop (i + 1) names) = ap (grows known (take i names)) split in
    let later : grows known (take (i + 1) names) (drop (i + 1) names) ≡ grows known (take i names ++ name ∷ []) (drop (i + 1) names) = ap (λ (l : List (List ℕ)). grows known l (drop (i + 1) names)) front in
    omega (arith, now, all, later, next_is, before)

pub need_end : (c : Content) (known names : List (List ℕ)) (i size need : ℕ) → known ≡ names_of c.series → length names ≤ i → need ≤ 2 ^ 64 - 1 → size ≡ 16 + size_of c
    → min (need + grows known (take i names) (drop i names)) (2 ^ 64 - 1) ≡ min (size + grows known [] names) (2 ^ 64 - 1)
    → need ≡ min (16 + size_of (with_all c names)) (2 ^ 64 - 1)
need_end c known names i size need known_is all small size_is is =
    let none : grows known (take i names) (drop i names) ≡ 0 = ap (grows known (take i names)) (drop_all i names all) in
    omega (arith, none, is, size_is, need_all c known names known_is, small)

first_more : (a b c : Option ℕ) → first_of (first_of a b) c ≡ first_of a (first_of b c)
first_more (Some x) b c = refl
first_more None b c = refl

pub late_more : (f : Trees) (known names : List (List ℕ)) (ts i : ℕ) (late next here place whole : Option ℕ) (name d : List ℕ) → i < length names → name ≡ get_or names i d
    → place ≡ place_in known name → here ≡ late_behind (last_in_place f place) ts → next ≡ first_of late here
    → first_of late (late_known f known (drop i names) ts) ≡ whole → first_of next (late_known f known (drop (i + 1) names) ts) ≡ whole
late_more f known names ts i late next here place whole name d lt is place_is here_is next_is before =
    let split : drop i names ≡ name ∷ drop (i + 1) names = rest_at names i d lt ∙ ap (λ (n : List ℕ). n ∷ drop (i + 1) names) (sym is) in
    ap (λ (o : Option ℕ). first_of o (late_known f known (drop (i + 1) names) ts)) (next_is ∙ ap (first_of late) (here_is ∙ ap (λ (o : Option ℕ). late_behind (last_in_place f o) ts) place_is))
    ∙ first_more late (late_behind (last_in_place f (place_in known name)) ts) (late_known f known (drop (i + 1) names) ts)
    ∙ ap (λ (l : List (List ℕ)). first_of late (late_known f known l ts)) (sym split)
    ∙ before

pub has_is : (known : List (List ℕ)) (name : List ℕ) (o : Option ℕ) → o ≡ place_in known name → is_some o ≡ list_any (λ n. bytes_eq name n) known
has_is known name (Some i) is = sym (known_at known name i (sym is))
has_is known name None is = sym (new_at known name (sym is))

-- ---- Places that are kept

none_there : (n i : ℕ) → get_or (replicate {A = Option ℕ} n None) i None ≡ None
none_there zero i = refl
none_there (suc n) zero = refl
none_there (suc n) (suc i) = none_there n i

pub places_none : (n : ℕ) (names known : List (List ℕ)) → ArePlaces (replicate n None) names known
places_none n names known i place lt is = let none = none_there n i in absurd (cc)

pub same_item : (xs : List (List ℕ)) (i : ℕ) (d e : List ℕ) → i < length xs → get_or xs i d ≡ get_or xs i e
same_item [] i d e lt = absurd (omega (arith, lt))
same_item (x ∷ xs) zero d e lt = refl
same_item (x ∷ xs) (suc i) d e lt = same_item xs i d e (omega (arith, lt))

pub places_more : (old new : List (Option ℕ)) (names known : List (List ℕ)) (at : ℕ) (place : Option ℕ) (name d : List ℕ) → at < length names → name ≡ get_or names at d
    → place ≡ place_in known name
    → ((i found : ℕ) → get_or new i None ≡ Some found → ((i ≡ at) × (place ≡ Some found)) ⊎ (get_or old i None ≡ Some found))
    → ArePlaces old names known → ArePlaces new names known
places_more old new names known at place name d here name_is place_is kept before i found lt is = elim (kept i found is) [
  | inl h ↦
      let item : name ≡ get_or names i [] = name_is ∙ same_item names at d [] here ∙ ap (λ (j : ℕ). get_or names j []) (sym h.0) in
      sym h.1 ∙ place_is ∙ ap (place_in known) item
  | inr h ↦ before i found lt h
]

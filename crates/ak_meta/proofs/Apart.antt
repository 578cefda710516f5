-- Series one behind another, and their names, of which no two are alike.
use Rattle.std.proofs.Common.{◌≡◌, ◌∙◌, ◌+◌, ◌≤◌, ◌<◌, ℕ, zero, suc, Bool, true, false, ◌||◌, cond, List, [], ◌∷◌, ◌++◌, length, drop, bytes_eq, position, Option, Some, is_some, refl, ap, ap₂, sym, subst, arith, append_assoc, length-drop}
use Rattle.std.specs.List.{flat_map, list_any, position_from, AllByRecursion, IsDistinct}
use Rattle.std.proofs.lemmas.Cmp.{nat_list_eq_equiv}
use Rattle.std.proofs.lemmas.List.{map-append, drop_all}
use Rattle.std.proofs.lemmas.Iterator.Adapters.{position_from-zero}
use Rattle.std.proofs.lemmas.Map.Keys.{IsDistinct-push}
use Rattle.ak_meta.specs.declared.meta.SeriesMeta.{SeriesMeta}
use Rattle.ak_meta.specs.Contents.{series_bytes, names_of, IsSeries}
use Rattle.ak_meta.proofs.Spellings.{series_fits, one_series}

some_by : (b q : Bool) (i : ℕ) (o : Option ℕ) → is_some o ≡ q → is_some (cond b (Some i) o) ≡ (b || q)
some_by true q i o e = refl
some_by false q i o e = e

some_from : {X : Type 0} (p : X → Bool) (i : ℕ) (xs : List X) → is_some (position_from p i xs) ≡ list_any p xs
some_from p i [] = refl
some_from p i (x ∷ xs) = some_by (p x) (list_any p xs) i (position_from p (i + 1) xs) (some_from p (i + 1) xs)

-- a place is found exactly where one passes
pub some_passes : {X : Type 0} (p : X → Bool) (xs : List X) → is_some (position p xs) ≡ list_any p xs
some_passes p xs = ap is_some (position_from-zero p xs) ∙ some_from p 0 xs

inside : {X : Type 0} (P : X → Type 0) (xs : List X) (x : X) (ys : List X) → AllByRecursion P (xs ++ x ∷ ys) → P x
inside P [] x ys each = each.0
inside P (y ∷ xs) x ys each = inside P xs x ys each.1

none_alike : (ks : List (List ℕ)) (k : List ℕ) (more : List (List ℕ)) → IsDistinct bytes_eq (ks ++ k ∷ more) → list_any (bytes_eq k) ks ≡ false
unfolding IsDistinct
none_alike [] k more apart = refl
none_alike (j ∷ ks) k more apart =
    ap₂ (λ (a b : Bool). a || b) (nat_list_eq_equiv.symm k j ∙ inside (λ y. bytes_eq j y ≡ false) ks k more apart.0) (none_alike ks k more apart.1)

-- what stands behind some series is the spelling of the others
goes_on : (done all : List SeriesMeta) (x : List ℕ) → AllByRecursion IsSeries done → AllByRecursion IsSeries all → length done ≤ length all → flat_map series_bytes done ++ x ≡ flat_map series_bytes all
    → (all ≡ done ++ drop (length done) all) × (x ≡ flat_map series_bytes (drop (length done) all))
goes_on [] all x each each' fewer e = (refl, e)
goes_on (s ∷ done) [] x each each' fewer e = absurd (omega arith)
goes_on (s ∷ done) (t ∷ all) x each each' fewer e =
    let front = one_series s t (flat_map series_bytes done ++ x) (flat_map series_bytes all) (series_fits s each.0) (series_fits t each'.0) (sym (append_assoc (series_bytes s) (flat_map series_bytes done) x) ∙ e) in
    let rest = goes_on done all x each.1 each'.1 (omega arith) front.1 in
    (ap₂ (λ (h : SeriesMeta) (l : List SeriesMeta). h ∷ l) (sym front.0) rest.0, rest.1)

each_others : (n : ℕ) (all : List SeriesMeta) → AllByRecursion IsSeries all → AllByRecursion IsSeries (drop n all)
each_others zero all each = each
each_others (suc n) [] each = tt
each_others (suc n) (s ∷ all) each = each_others n all each.1

first_is : (s : SeriesMeta) (all : List SeriesMeta) (x y : List ℕ) → IsSeries s → AllByRecursion IsSeries all → 0 < length all → x ≡ series_bytes s ++ y → x ≡ flat_map series_bytes all → all ≡ s ∷ drop 1 all
first_is s [] x y is each some e e' = absurd (omega arith)
first_is s (t ∷ all) x y is each some e e' =
    let front = one_series s t y (flat_map series_bytes all) (series_fits s is) (series_fits t each.0) (sym e ∙ e') in
    ap (λ (h : SeriesMeta). h ∷ all) (sym front.0)

first_fails : (all : List SeriesMeta) (x : List ℕ) → AllByRecursion IsSeries all → 0 < length all → x ≡ flat_map series_bytes all → ((s : SeriesMeta) (rest : List ℕ) → IsSeries s → x ≡ series_bytes s ++ rest → ⊥) → ⊥
first_fails [] x each some e none = omega arith
first_fails (s ∷ all) x each some e none = none s (flat_map series_bytes all) each.0 e

-- no series more is spelled where one has to be
pub next_fails : (done all : List SeriesMeta) (a x : List ℕ) → AllByRecursion IsSeries done → AllByRecursion IsSeries all → length done < length all → a ≡ flat_map series_bytes done ++ x → a ≡ flat_map series_bytes all
    → ((s : SeriesMeta) (rest : List ℕ) → IsSeries s → x ≡ series_bytes s ++ rest → ⊥) → ⊥
next_fails done all a x each each' fewer e e' none =
    first_fails (drop (length done) all) x (each_others (length done) all each') (omega (arith, length-drop (length done) all)) (goes_on done all x each each' (omega arith) (sym e ∙ e')).1 none

-- nothing stands behind all series
pub none_behind : (done all : List SeriesMeta) (a x : List ℕ) → AllByRecursion IsSeries done → AllByRecursion IsSeries all → length done ≡ length all → a ≡ flat_map series_bytes done ++ x → a ≡ flat_map series_bytes all → x ≡ []
none_behind done all a x each each' same e e' =
    (goes_on done all x each each' (omega arith) (sym e ∙ e')).1 ∙ ap (λ (l : List SeriesMeta). flat_map series_bytes l) (drop_all (length done) all (omega arith))

-- a name that stands among those before it is not one of names that are apart
pub twice_fails : (done all : List SeriesMeta) (s : SeriesMeta) (a x y : List ℕ) → AllByRecursion IsSeries done → IsSeries s → AllByRecursion IsSeries all → length done < length all
    → a ≡ flat_map series_bytes done ++ x → x ≡ series_bytes s ++ y → a ≡ flat_map series_bytes all
    → list_any (λ n. bytes_eq s.name n) (names_of done) ≡ true → IsDistinct bytes_eq (names_of all) → ⊥
twice_fails done all s a x y each is each' fewer before next e known apart =
    let rest : List SeriesMeta = drop (length done) all in
    let on = goes_on done all x each each' (omega arith) (sym before ∙ e) in
    let first = first_is s rest x y is (each_others (length done) all each') (omega (arith, length-drop (length done) all)) next on.1 in
    let whole : all ≡ done ++ s ∷ drop 1 rest = on.0 ∙ ap (λ (l : List SeriesMeta). done ++ l) first in
    let names : names_of all ≡ names_of done ++ s.name ∷ names_of (drop 1 rest) = ap names_of whole ∙ map-append (λ (t : SeriesMeta). t.name) done (s ∷ drop 1 rest) in
    let none = none_alike (names_of done) s.name (names_of (drop 1 rest)) (subst (IsDistinct bytes_eq) names apart) in
    let some : true ≡ false = sym known ∙ none in
    cc

pub names_push : (done : List SeriesMeta) (s : SeriesMeta) → names_of (done ++ s ∷ []) ≡ names_of done ++ s.name ∷ []
names_push done s = map-append (λ (t : SeriesMeta). t.name) done (s ∷ [])

-- a new name keeps the names apart
pub apart_push : (done : List SeriesMeta) (s : SeriesMeta) → IsDistinct bytes_eq (names_of done) → list_any (λ n. bytes_eq s.name n) (names_of done) ≡ false → IsDistinct bytes_eq (names_of (done ++ s ∷ []))
apart_push done s apart new = subst (IsDistinct bytes_eq) (sym (names_push done s)) (IsDistinct-push nat_list_eq_equiv (names_of done) s.name apart new)

pub none_apart : IsDistinct bytes_eq (names_of [])
unfolding IsDistinct
none_apart = tt

-- Names of series by their places, and what names that are added make of a world.
use Rattle.std.proofs.Common.{◌≡◌, ◌∙◌, ℕ, suc, ◌+◌, ◌<◌, Bool, true, false, cond, ◌||◌, if◌then◌else◌, List, [], ◌∷◌, length, map, Option, Some, None, bytes_eq, refl, sym, ap, ap₂, subst, arith}
use Rattle.std.proofs.lemmas.Cmp.{nat_list_eq_equiv}
use Rattle.std.proofs.lemmas.Iterator.Adapters.{position_from-zero}
use Rattle.std.specs.List.{position_from, list_any}
use Rattle.ak_meta.specs.Contents.{Content, names_of}
use Rattle.ak_meta.specs.Leaves.{with_series}
use Rattle.ak_meta.specs.declared.meta.SeriesMeta.{SeriesMeta}
use Rattle.ak_node.specs.Names.{place_in, last_in_place, late_known, with_all}
use Rattle.ak_tree.specs.Standing.{Trees, AreTrees, Keeps}
use Rattle.ak_tree.proofs.Framing.{known_is, as_many}
use Rattle.ak_world.specs.Leaves.{Series}
use Rattle.ak_world.specs.Puts.{with_name, number_in, last_of, late_behind, first_of, late_of, named}
use Rattle.ak_world.specs.Steps.{last_at}
use Rattle.ak_world.specs.Valid.{IsWorld}
use Rattle.ak_world.specs.Views.{all_known}
use Rattle.ak_world.specs.Worlds.{World, content_now}
use Rattle.ak_world.proofs.ContentsOfNames.{content_named, known_stays}
use Rattle.ak_world.proofs.Valid.{name_valid}

abbrev pub titles : List Series → List (List ℕ)
titles ss = map (λ (s : Series). s.name) ss

pub titles_known : (opened : List SeriesMeta) (ss : List Series) → names_of (all_known opened ss) ≡ titles ss
titles_known opened [] = refl
titles_known [] (s ∷ ss) = ap (λ (ns : List (List ℕ)). s.name ∷ ns) (titles_known [] ss)
titles_known (o ∷ opened) (s ∷ ss) = ap (λ (ns : List (List ℕ)). s.name ∷ ns) (titles_known opened ss)

-- the names that the forest knows are those of the world
pub titles_are : (w : World) (f : Trees) → Keeps w f → names_of f.meta.series ≡ titles w.series
titles_are w f keeps = ap (λ (c : Content). names_of c.series) keeps.content_is ∙ titles_known w.opened.content.series w.series

-- ---- Places

-- the series of this name stands in this place
pub record Found (name : List ℕ) (ss : List Series) (at : ℕ) : Type 0 where
  pub within : at < length ss
  pub number : number_in ss name ≡ at
  pub last : last_of ss name ≡ last_at ss at

record FoundFrom (name : List ℕ) (ss : List Series) (from i : ℕ) : Type 0 where
  at : ℕ
  is : i ≡ from + at
  found : Found name ss at

found_here : (name : List ℕ) (s : Series) (ss : List Series) (from i : ℕ) → bytes_eq s.name name ≡ true → Some from ≡ Some i → FoundFrom name (s ∷ ss) from i
found_here name s ss from i is e = record {
  at = 0;
  is = let same : from ≡ i = cc in omega arith;
  found = record { within = omega arith; number = rw is refl; last = rw is refl };
}

found_later : (name : List ℕ) (s : Series) (ss : List Series) (from i : ℕ) → bytes_eq s.name name ≡ false → FoundFrom name ss (from + 1) i → FoundFrom name (s ∷ ss) from i
found_later name s ss from i is later = record {
  at = suc later.at;
  is = omega (arith, later.is);
  found = record { within = omega (arith, later.found.within); number = rw is (ap suc later.found.number); last = rw is later.found.last };
}

found_by : (name : List ℕ) (s : Series) (ss : List Series) (from i : ℕ) (b : Bool) → bytes_eq name s.name ≡ b → cond b (Some from) (position_from (λ n. bytes_eq name n) (from + 1) (titles ss)) ≡ Some i
    → (position_from (λ n. bytes_eq name n) (from + 1) (titles ss) ≡ Some i → FoundFrom name ss (from + 1) i) → FoundFrom name (s ∷ ss) from i
found_by name s ss from i true is e later = found_here name s ss from i (nat_list_eq_equiv.symm s.name name ∙ is) e
found_by name s ss from i false is e later = found_later name s ss from i (nat_list_eq_equiv.symm s.name name ∙ is) (later e)

found_from : (name : List ℕ) (ss : List Series) (from i : ℕ) → position_from (λ n. bytes_eq name n) from (titles ss) ≡ Some i → FoundFrom name ss from i
found_from name [] from i e = absurd (cc)
found_from name (s ∷ ss) from i e = found_by name s ss from i (bytes_eq name s.name) refl e (found_from name ss (from + 1) i)

none_by : (name : List ℕ) (s : Series) (ss : List Series) (from : ℕ) (b : Bool) → bytes_eq name s.name ≡ b → cond b (Some from) (position_from (λ n. bytes_eq name n) (from + 1) (titles ss)) ≡ None
    → (position_from (λ n. bytes_eq name n) (from + 1) (titles ss) ≡ None → last_of ss name ≡ None) → last_of (s ∷ ss) name ≡ None
none_by name s ss from true is e later = absurd (cc)
none_by name s ss from false is e later =
    let other : bytes_eq s.name name ≡ false = nat_list_eq_equiv.symm s.name name ∙ is in
    rw other (later e)

none_from : (name : List ℕ) (ss : List Series) (from : ℕ) → position_from (λ n. bytes_eq name n) from (titles ss) ≡ None → last_of ss name ≡ None
none_from name [] from e = refl
none_from name (s ∷ ss) from e = none_by name s ss from (bytes_eq name s.name) refl e (none_from name ss (from + 1))

pub found_at : (ss : List Series) (name : List ℕ) (i : ℕ) → place_in (titles ss) name ≡ Some i → Found name ss i
found_at ss name i e =
    let f = found_from name ss 0 i (sym (position_from-zero (λ n. bytes_eq name n) (titles ss)) ∙ e) in
    let same : f.at ≡ i = omega (arith, f.is) in
    subst (Found name ss) same f.found

pub none_at : (ss : List Series) (name : List ℕ) → place_in (titles ss) name ≡ None → last_of ss name ≡ None
none_at ss name e = none_from name ss 0 (sym (position_from-zero (λ n. bytes_eq name n) (titles ss)) ∙ e)

-- ---- Whether a name is known

some_by : (name : List ℕ) (n : List ℕ) (ns : List (List ℕ)) (from i : ℕ) (b : Bool) → cond b (Some from) (position_from (λ n. bytes_eq name n) (from + 1) ns) ≡ Some i
    → (position_from (λ n. bytes_eq name n) (from + 1) ns ≡ Some i → list_any (λ n. bytes_eq name n) ns ≡ true) → (b || list_any (λ n. bytes_eq name n) ns) ≡ true
some_by name n ns from i true e later = refl
some_by name n ns from i false e later = later e

some_from : (name : List ℕ) (ns : List (List ℕ)) (from i : ℕ) → position_from (λ n. bytes_eq name n) from ns ≡ Some i → list_any (λ n. bytes_eq name n) ns ≡ true
some_from name [] from i e = absurd (cc)
some_from name (n ∷ ns) from i e = some_by name n ns from i (bytes_eq name n) e (some_from name ns (from + 1) i)

missing_by : (name : List ℕ) (n : List ℕ) (ns : List (List ℕ)) (from : ℕ) (b : Bool) → cond b (Some from) (position_from (λ n. bytes_eq name n) (from + 1) ns) ≡ None
    → (position_from (λ n. bytes_eq name n) (from + 1) ns ≡ None → list_any (λ n. bytes_eq name n) ns ≡ false) → (b || list_any (λ n. bytes_eq name n) ns) ≡ false
missing_by name n ns from true e later = absurd (cc)
missing_by name n ns from false e later = later e

missing_from : (name : List ℕ) (ns : List (List ℕ)) (from : ℕ) → position_from (λ n. bytes_eq name n) from ns ≡ None → list_any (λ n. bytes_eq name n) ns ≡ false
missing_from name [] from e = refl
missing_from name (n ∷ ns) from e = missing_by name n ns from (bytes_eq name n) e (missing_from name ns (from + 1))

-- a name that has a place is known
pub known_at : (known : List (List ℕ)) (name : List ℕ) (i : ℕ) → place_in known name ≡ Some i → list_any (λ n. bytes_eq name n) known ≡ true
known_at known name i e = some_from name known 0 i (sym (position_from-zero (λ n. bytes_eq name n) known) ∙ e)

-- one that has none is not
pub new_at : (known : List (List ℕ)) (name : List ℕ) → place_in known name ≡ None → list_any (λ n. bytes_eq name n) known ≡ false
new_at known name e = missing_from name known 0 (sym (position_from-zero (λ n. bytes_eq name n) known) ∙ e)

-- ---- Late names

last_here : (w : World) (f : Trees) (known : List (List ℕ)) (name : List ℕ) → AreTrees f → Keeps w f → known ≡ names_of f.meta.series → last_in_place f (place_in known name) ≡ last_of w.series name
last_here w f known name are keeps known_are = of (place_in known name) refl where
  same : place_in known name ≡ place_in (titles w.series) name
  same = ap (λ (ns : List (List ℕ)). place_in ns name) (known_are ∙ titles_are w f keeps)

  of : (o : Option ℕ) → place_in known name ≡ o → last_in_place f o ≡ last_of w.series name
  of None is = sym (none_at w.series name (sym same ∙ is))
  of (Some i) is =
      let found = found_at w.series name i (sym same ∙ is) in
      known_is w f i are keeps (omega (arith, found.within, as_many w f keeps)) ∙ sym found.last

-- the forest knows the names that are late in the world
pub late_is : (w : World) (f : Trees) (known names : List (List ℕ)) (ts : ℕ) → AreTrees f → Keeps w f → known ≡ names_of f.meta.series → late_known f known names ts ≡ late_of w.series names ts
late_is w f known [] ts are keeps known_are = refl
late_is w f known (name ∷ names) ts are keeps known_are =
    ap₂ (λ (o : Option ℕ) (rest : Option ℕ). first_of (late_behind o ts) rest) (last_here w f known name are keeps known_are) (late_is w f known names ts are keeps known_are)

-- the place of a name is the number of its series
pub number_is : (w : World) (f : Trees) (known : List (List ℕ)) (name : List ℕ) (i : ℕ) → Keeps w f → known ≡ names_of f.meta.series → place_in known name ≡ Some i → number_in w.series name ≡ i
number_is w f known name i keeps known_are is =
    (found_at w.series name i (sym (ap (λ (ns : List (List ℕ)). place_in ns name) (known_are ∙ titles_are w f keeps)) ∙ is)).number

-- ---- Names that are added

-- the world with a name more
abbrev pub with_title : World → List ℕ → World
with_title w name = record w { series = with_name w.series name }

-- the content with a name more, where it isn't known
abbrev pub with_one : Content → List ℕ → Content
with_one c name = if list_any (λ n. bytes_eq name n) (names_of c.series) then c else with_series c name

pub content_one : (w : World) (name : List ℕ) → IsWorld w → content_now (with_title w name) ≡ with_one (content_now w) name
content_one w name is = of (list_any (λ n. bytes_eq name n) (names_of (content_now w).series)) refl where
  of : (b : Bool) → list_any (λ n. bytes_eq name n) (names_of (content_now w).series) ≡ b → content_now (with_title w name) ≡ (if b then content_now w else with_series (content_now w) name)
  of true some = ap (λ (ss : List Series). content_now (record w { series = ss })) (known_stays w name some)
  of false new = content_named w name is new

-- the record says of the world with all names what it says with them
pub content_all : (w : World) (names : List (List ℕ)) → IsWorld w → content_now (named w names) ≡ with_all (content_now w) names
content_all w [] is = refl
content_all w (name ∷ names) is =
    content_all (with_title w name) names (name_valid w name is) ∙ ap (λ (c : Content). with_all c names) (content_one w name is)

-- Names of few series.
use Rattle.std.proofs.Common.{◌≡◌, ◌∙◌, ℕ, ◌<◌, ◌≤◌, List, [], ◌∷◌, Bool, true, false, not, length, get_or, bytes_eq, refl, sym, ap, ap₂, subst, arith}
use Rattle.std.proofs.lemmas.Slice.Eq.{bytes_eq-Decides}
use Rattle.std.specs.List.{list_any}
use Rattle.std.specs.Prelude.{◌||◌}
use Rattle.ak_meta.specs.Contents.{IsCanonical, names_of}
use Rattle.ak_meta.specs.declared.meta.SeriesMeta.{SeriesMeta}
use Rattle.ak_names.specs.Names.{DoesName}

pub single : {A : Type 0} (all : List A) (x : A) → 1 ≤ length all → length all < 2 → x ≡ get_or all 0 x → all ≡ x ∷ []
single [] x some few is = absurd (omega (arith, some))
single (y ∷ []) x some few is = ap (λ z. z ∷ []) (sym is)
single (y ∷ z ∷ all) x some few is = absurd (omega (arith, few))

pub double : {A : Type 0} (all : List A) (x y : A) → 2 ≤ length all → length all < 3 → x ≡ get_or all 0 x → y ≡ get_or all 1 y → all ≡ x ∷ y ∷ []
double [] x y some few first second = absurd (omega (arith, some))
double (a ∷ []) x y some few first second = absurd (omega (arith, some))
double (a ∷ b ∷ []) x y some few first second = ap₂ (λ z w. z ∷ w ∷ []) (sym first) (sym second)
double (a ∷ b ∷ c ∷ all) x y some few first second = absurd (omega (arith, few))

is_no : (b : Bool) → not b ≡ true → b ≡ false
is_no true ne = sym ne
is_no false ne = refl

-- the name differs, where two texts that are these do
pub differ : (r : Bool) (s t name other : List ℕ) → r ≡ not (bytes_eq s t) → s ≡ name → t ≡ other → r ≡ true → bytes_eq name other ≡ false
differ r s t name other is one two ne = is_no (bytes_eq name other) (ap₂ (λ x y. not (bytes_eq x y)) (sym one) (sym two) ∙ sym is ∙ ne)

pub none_of_one : (all : List SeriesMeta) (a : SeriesMeta) (name : List ℕ) → all ≡ a ∷ [] → bytes_eq name a.name ≡ false → list_any (λ n. bytes_eq name n) (names_of all) ≡ false
none_of_one all a name is other = ap (λ (l : List SeriesMeta). list_any (λ n. bytes_eq name n) (names_of l)) is ∙ ap (λ (b : Bool). b || false) other

pub none_of_two : (all : List SeriesMeta) (a b : SeriesMeta) (name : List ℕ) → all ≡ a ∷ b ∷ [] → bytes_eq name a.name ≡ false → bytes_eq name b.name ≡ false → list_any (λ n. bytes_eq name n) (names_of all) ≡ false
none_of_two all a b name is first second =
    ap (λ (l : List SeriesMeta). list_any (λ n. bytes_eq name n) (names_of l)) is ∙ ap₂ (λ (c d : Bool). c || (d || false)) first second

-- a text that names itself alone
pub names_itself : (text only s t : List ℕ) (names : List (List ℕ)) → DoesName text names → names ≡ only ∷ [] → bytes_eq s t ≡ true → s ≡ text → t ≡ only → IsCanonical text
names_itself text only s t names does is same one two =
    let e : text ≡ only = sym one ∙ (bytes_eq-Decides s t).0 same ∙ two in
    subst (DoesName text) (is ∙ ap (λ (l : List ℕ). l ∷ []) (sym e)) does

-- What a record says of a world, where a point or a name is added.
use Rattle.std.proofs.Common.{◌≡◌, ◌+◌, ◌≤◌, ◌∙◌, inl, inr, ℕ, zero, suc, Bool, true, false, ◌||◌, if◌then◌else◌, nat_le, nat_lt, List, [], ◌∷◌, ◌++◌, length, drop, map, bytes_eq, refl, sym, ap, ap₂, arith}
use Rattle.std.proofs.lemmas.Bool.{cases_lt}
use Rattle.std.proofs.lemmas.Bool.Decides.{nat_tests}
use Rattle.std.proofs.lemmas.Cmp.{nat_list_eq_equiv}
use Rattle.std.specs.List.{list_any}
use Rattle.ak_base.specs.declared.point.Point.{Point}
use Rattle.ak_meta.specs.Contents.{content, names_of}
use Rattle.ak_meta.specs.Leaves.{with_series}
use Rattle.ak_meta.specs.Leaves.{new_series as series_without}
use Rattle.ak_meta.specs.declared.meta.SeriesMeta.{SeriesMeta}
use Rattle.ak_volumes.specs.Ordinals.{Ordinals, switched, ordinal_of}
use Rattle.ak_world.specs.Leaves.{Leaf, Series, leaves_from, kept_from, new_series, with_point}
use Rattle.ak_world.specs.Puts.{with_name}
use Rattle.ak_world.specs.Steps.{added, changed}
use Rattle.ak_world.specs.Valid.{IsWorld, AreSeriesOf, unknown}
use Rattle.ak_world.specs.Views.{known_of, all_known}
use Rattle.ak_world.specs.Worlds.{World, limits_of, content_now, kept_now}
use Rattle.ak_world.proofs.ContentsOfLeaves.{live_in}

-- ---- Points

all_written : (opened : List SeriesMeta) (ss : List Series) (n : ℕ) (p : Point) → all_known opened (changed ss n (λ s. with_point s p)) ≡ all_known opened ss
all_written opened [] n p = refl
all_written [] (s ∷ ss) zero p = refl
all_written [] (s ∷ ss) (suc n) p = ap (λ (all : List SeriesMeta). known_of (unknown s.name) s ∷ all) (all_written [] ss n p)
all_written (o ∷ opened) (s ∷ ss) zero p = refl
all_written (o ∷ opened) (s ∷ ss) (suc n) p = ap (λ (all : List SeriesMeta). known_of o s ∷ all) (all_written opened ss n p)

live_written : (lo : ℕ) (ss : List Series) (n : ℕ) (p : Point) → live_in lo (changed ss n (λ s. with_point s p)) ≡ live_in lo ss
live_written lo [] n p = refl
live_written lo (s ∷ ss) zero p = refl
live_written lo (s ∷ ss) (suc n) p = ap (λ (kept : List (List Leaf)). leaves_from lo s.closed ∷ kept) (live_written lo ss n p)

pub content_written : (w : World) (n : ℕ) (p : Point) → content_now (added n p w) ≡ content_now w
content_written w n p = ap (content (limits_of w) w.ordinals) (all_written w.opened.content.series w.series n p)

pub kept_written : (w : World) (n : ℕ) (p : Point) → kept_now (added n p w) ≡ kept_now w
kept_written w n p = live_written w.ordinals.lo w.series n p

-- ---- Names

abbrev pub names : List Series → List (List ℕ)
names ss = map (λ (s : Series). s.name) ss

names_known : (opened : List SeriesMeta) (ss : List Series) → names_of (all_known opened ss) ≡ names ss
names_known opened [] = refl
names_known [] (s ∷ ss) = ap (λ (ns : List (List ℕ)). s.name ∷ ns) (names_known [] ss)
names_known (o ∷ opened) (s ∷ ss) = ap (λ (ns : List (List ℕ)). s.name ∷ ns) (names_known opened ss)

pub neither : (a b : Bool) → (a || b) ≡ false → (a ≡ false) × (b ≡ false)
neither false b h = (refl, h)
neither true b h = absurd (cc)

-- another name is passed
pub passed : (name : List ℕ) (s : Series) (ss : List Series) → bytes_eq name s.name ≡ false → with_name (s ∷ ss) name ≡ s ∷ with_name ss name
passed name s ss other = ap (λ (b : Bool). if b then s ∷ ss else s ∷ with_name ss name) (nat_list_eq_equiv.symm s.name name ∙ other)

known_named : (opened : List SeriesMeta) (ss : List Series) (name : List ℕ) → AreSeriesOf opened ss → list_any (λ n. bytes_eq name n) (names ss) ≡ false
    → all_known opened (with_name ss name) ≡ all_known opened ss ++ series_without name ∷ []
known_named opened [] name are new = ap (λ (os : List SeriesMeta). all_known os (new_series name ∷ [])) are
known_named [] (s ∷ ss) name are new =
    let apart = neither (bytes_eq name s.name) (list_any (λ n. bytes_eq name n) (names ss)) new in
    ap (all_known []) (passed name s ss apart.0) ∙ ap (λ (all : List SeriesMeta). known_of (unknown s.name) s ∷ all) (known_named [] ss name are.1 apart.1)
known_named (o ∷ opened) (s ∷ ss) name are new =
    let apart = neither (bytes_eq name s.name) (list_any (λ n. bytes_eq name n) (names ss)) new in
    ap (all_known (o ∷ opened)) (passed name s ss apart.0) ∙ ap (λ (all : List SeriesMeta). known_of o s ∷ all) (known_named opened ss name are.1 apart.1)

live_named : (lo : ℕ) (ss : List Series) (name : List ℕ) → list_any (λ n. bytes_eq name n) (names ss) ≡ false → live_in lo (with_name ss name) ≡ live_in lo ss ++ [] ∷ []
live_named lo [] name new = refl
live_named lo (s ∷ ss) name new =
    let apart = neither (bytes_eq name s.name) (list_any (λ n. bytes_eq name n) (names ss)) new in
    ap (live_in lo) (passed name s ss apart.0) ∙ ap (λ (kept : List (List Leaf)). leaves_from lo s.closed ∷ kept) (live_named lo ss name apart.1)

same : (b rest : Bool) (s : Series) (ss more : List Series) → (b || rest) ≡ true → (rest ≡ true → more ≡ ss) → (if b then s ∷ ss else s ∷ more) ≡ s ∷ ss
same true rest s ss more some others = refl
same false rest s ss more some others = ap (λ (l : List Series). s ∷ l) (others some)

stays : (ss : List Series) (name : List ℕ) → list_any (λ n. bytes_eq name n) (names ss) ≡ true → with_name ss name ≡ ss
stays [] name some = absurd (cc)
stays (s ∷ ss) name some =
    let rest = list_any (λ n. bytes_eq name n) (names ss) in
    same (bytes_eq s.name name) rest s ss (with_name ss name) (ap (λ (b : Bool). b || rest) (nat_list_eq_equiv.symm s.name name) ∙ some) (stays ss name)

-- the names of the record are those of the world
pub told : (w : World) (name : List ℕ) (b : Bool) → list_any (λ n. bytes_eq name n) (names_of (content_now w).series) ≡ b → list_any (λ n. bytes_eq name n) (names w.series) ≡ b
told w name b h = sym (ap (λ (ns : List (List ℕ)). list_any (λ n. bytes_eq name n) ns) (names_known w.opened.content.series w.series)) ∙ h

pub content_named : (w : World) (name : List ℕ) → IsWorld w → list_any (λ n. bytes_eq name n) (names_of (content_now w).series) ≡ false
    → content_now (record w { series = with_name w.series name }) ≡ with_series (content_now w) name
content_named w name is new = ap (content (limits_of w) w.ordinals) (known_named w.opened.content.series w.series name is.series (told w name false new))

pub kept_named : (w : World) (name : List ℕ) → list_any (λ n. bytes_eq name n) (names_of (content_now w).series) ≡ false → kept_now (record w { series = with_name w.series name }) ≡ kept_now w ++ [] ∷ []
kept_named w name new = live_named w.ordinals.lo w.series name (told w name false new)

pub known_stays : (w : World) (name : List ℕ) → list_any (λ n. bytes_eq name n) (names_of (content_now w).series) ≡ true → with_name w.series name ≡ w.series
known_stays w name some = stays w.series name (told w name true some)

-- ---- Ordinals

-- the oldest live one is never replaced by one before it
pub lo_rises : (o : Ordinals) → o.lo ≤ (switched o).lo
lo_rises o = of (nat_lt o.volumes (length o.fills + 1)) where
  of : (b : Bool) → o.lo ≤ (if b then record o { lo = o.lo + 1; fills = drop 1 o.fills ++ 0 ∷ [] } else record o { fills = o.fills ++ 0 ∷ [] }).lo
  of true = omega arith
  of false = omega arith

pub leaves_twice : (lo next : ℕ) (leaves : List Leaf) → lo ≤ next → leaves_from next (leaves_from lo leaves) ≡ leaves_from next leaves
leaves_twice lo next [] rises = refl
leaves_twice lo next (leaf ∷ leaves) rises =
    let rest = leaves_twice lo next leaves rises in
    elim (cases_lt (ordinal_of leaf.address) lo) [
      | inl dead ↦
          let one : nat_le lo (ordinal_of leaf.address) ≡ false = grind (arith, nat_tests, dead) in
          let two : nat_le next (ordinal_of leaf.address) ≡ false = grind (arith, nat_tests, dead, rises) in
          ap (leaves_from next) (ap (λ (b : Bool). if b then leaf ∷ leaves_from lo leaves else leaves_from lo leaves) one) ∙ rest
          ∙ sym (ap (λ (b : Bool). if b then leaf ∷ leaves_from next leaves else leaves_from next leaves) two)
      | inr live ↦
          let one : nat_le lo (ordinal_of leaf.address) ≡ true = grind (arith, nat_tests, live) in
          ap (leaves_from next) (ap (λ (b : Bool). if b then leaf ∷ leaves_from lo leaves else leaves_from lo leaves) one)
          ∙ ap (λ (ls : List Leaf). if nat_le next (ordinal_of leaf.address) then leaf ∷ ls else ls) rest
    ]

kept_twice : (lo next : ℕ) (ss : List Series) → lo ≤ next → live_in next ss ≡ kept_from next (live_in lo ss)
kept_twice lo next [] rises = refl
kept_twice lo next (s ∷ ss) rises = ap₂ (λ (l : List Leaf) (ls : List (List Leaf)). l ∷ ls) (sym (leaves_twice lo next s.closed rises)) (kept_twice lo next ss rises)

pub kept_switched : (w : World) → kept_now (record w { ordinals = switched w.ordinals }) ≡ kept_from (switched w.ordinals).lo (kept_now w)
kept_switched w = kept_twice w.ordinals.lo (switched w.ordinals).lo w.series (lo_rises w.ordinals)

-- What waits of one series, among that of the others.
use Rattle.std.proofs.Common.{◌≡◌, ◌≢◌, ◌⊎◌, ◌∙◌, inl, inr, ℕ, zero, suc, ◌+◌, ◌%◌, ◌^◌, ◌<◌, ◌≤◌, Bool, List, [], ◌∷◌, ◌++◌, length, map, get_or, set, None, true, false, refl, sym, ap, ap₂, subst, arith}
use Rattle.std.proofs.lemmas.Bool.{cases_eq, cases_lt, true≢false}
use Rattle.std.proofs.lemmas.List.{get_or-set_other}
use Rattle.std.proofs.Math.Nat.{mod-eq_of_lt}
use Rattle.std.specs.List.{AllByRecursion}
use Rattle.ak_image.specs.Blocks.{Seen}
use Rattle.ak_image.specs.Laid.{series_in, kept_in}
use Rattle.ak_image.specs.Planted.{IsPlanted, ArePlanted, AreAllLawful}
use Rattle.ak_inner.specs.declared.reference.Ref.{Ref}
use Rattle.ak_levels.proofs.Closed.{free_at}
use Rattle.ak_levels.proofs.Digits.{carry_most}
use Rattle.ak_levels.proofs.Powers.{carry_divides}
use Rattle.ak_levels.specs.Entries.{AreLawful, IsTally}
use Rattle.ak_levels.specs.Carries.{carry_of}
use Rattle.ak_levels.specs.Pending.{Lists, lists, HasRoom, no_lists, pending_at, with_places}
use Rattle.ak_meta.proofs.Closing.{leaves_there}
use Rattle.ak_tree.specs.Standing.{Trees, AreTrees, HasPlaces, IsSameButPlaces, OpensLevel, levels_at}
use Rattle.ak_image.proofs.Growing.{planted_same as planted_agrees}
use Rattle.ak_tree.proofs.Planted.{lawful_at, all_agree}
use Rattle.ak_volumes.specs.Ordinals.{Ordinals, IsLive}
use Rattle.ak_world.specs.Leaves.{Leaf}
use Rattle.ak_world.specs.Valid.{kept_with}
use Rattle.ak_meta.specs.Leaves.{with_leaf, with_leaf_at, leaves_at}
use Rattle.ak_meta.specs.declared.meta.SeriesMeta.{SeriesMeta}

-- what waits of a series is replaced
pub set_twice : (levels : List Lists) (n : ℕ) (v w : Lists) → set (set levels n v) n w ≡ set levels n w
set_twice [] n v w = refl
set_twice (u ∷ levels) zero v w = refl
set_twice (u ∷ levels) (suc n) v w = ap (λ (l : List Lists). u ∷ l) (set_twice levels n v w)

pub set_at : (levels : List Lists) (n : ℕ) (v : Lists) → n < length levels → get_or (set levels n v) n no_lists ≡ v
set_at [] n v within = absurd (omega arith)
set_at (u ∷ levels) zero v within = refl
set_at (u ∷ levels) (suc n) v within = set_at levels n v (omega arith)

-- ---- Lawful

-- something else waits of a series
pub lawful_set : (series : List SeriesMeta) (levels : List Lists) (n : ℕ) (v : Lists) → AreAllLawful series levels → AreLawful (leaves_at series n) v → AreAllLawful series (set levels n v)
lawful_set [] levels n v are is = subst (λ (l : List Lists). set l n v ≡ []) (sym are) refl
lawful_set (s ∷ series) [] n v are is = absurd are
lawful_set (s ∷ series) (u ∷ levels) zero v are is = (is, are.1)
lawful_set (s ∷ series) (u ∷ levels) (suc n) v are is = (are.0, lawful_set series levels n v are.1 is)

-- a leaf of it is entered
pub lawful_entered : (series : List SeriesMeta) (levels : List Lists) (n last a : ℕ) (v : Lists) → AreAllLawful series levels → AreLawful (leaves_at series n + 1) v → AreAllLawful (with_leaf_at series n last a) (set levels n v)
lawful_entered [] levels n last a v are is = subst (λ (l : List Lists). set l n v ≡ []) (sym are) refl
lawful_entered (s ∷ series) [] n last a v are is = absurd are
lawful_entered (s ∷ series) (u ∷ levels) zero last a v are is = (is, are.1)
lawful_entered (s ∷ series) (u ∷ levels) (suc n) last a v are is = (are.0, lawful_entered series levels n last a v are.1 is)

-- levels get places
pub lawful_reserved : (v w : Lists) (m : ℕ) → w.pending ≡ v.pending → ((k : ℕ) → HasRoom v k → HasRoom w k) → AreLawful m v → AreLawful m w
lawful_reserved v w m same keeps are =
    let at : (k : ℕ) → pending_at w k ≡ pending_at v k = λ k. ap (λ (l : List (List Ref)). get_or l k []) same in
    record {
      most = are.most;
      few = λ k top. omega (arith, are.few k top, ap (length {A = Ref}) (at k));
      each = λ k top. subst (AllByRecursion (IsTally k)) (sym (at k)) (are.each k top);
      placed = λ k top reached. (keeps k (record { placed = are.placed k top reached; free = free_at v m k are top })).placed;
    }

-- ---- Places

-- the leaves that are read are those of the series
pub leaves_read : (all known : List SeriesMeta) (n : ℕ) (d : SeriesMeta) → all ≡ known → n < length known → (get_or all n d).leaves ≡ leaves_at known n
leaves_read all known n d same within = ap (λ (l : List SeriesMeta). (get_or l n d).leaves) same ∙ sym (leaves_there known n d within)

-- the levels that the next leaf of a series pushes to get places
abbrev pub with_places_for : Trees → ℕ → Trees
with_places_for f n = record f { levels = set f.levels n (with_places (levels_at f n) (carry_of (leaves_at f.meta.series n) + 1)) }

pub places_for : (inside f : Trees) (n m : ℕ) (v w : Lists) → inside ≡ f → m ≡ leaves_at inside.meta.series n → v ≡ levels_at inside n → w ≡ with_places v (carry_of m + 1) → record inside { levels = set inside.levels n w } ≡ with_places_for f n
places_for inside f n m v w same number read made =
    let is : w ≡ with_places (levels_at inside n) (carry_of (leaves_at inside.meta.series n) + 1) = made ∙ ap₂ (λ (u : Lists) (k : ℕ). with_places u (carry_of k + 1)) read number in
    ap (λ (u : Lists). record inside { levels = set inside.levels n u }) is ∙ ap (λ (t : Trees). with_places_for t n) same

pub has_places : (f : Trees) (n m : ℕ) (w : Lists) → n < length f.levels → m ≡ leaves_at f.meta.series n → ((k : ℕ) → k ≤ carry_of m → HasRoom w k) → HasPlaces (record f { levels = set f.levels n w }) n
has_places f n m w within number room k few =
    ap (λ (u : Lists). get_or u.placed k false) (set_at f.levels n w within) ∙ (room k (omega (arith, few, ap carry_of number))).placed

pub places_read : (inside f : Trees) (n m : ℕ) (v : Lists) → inside ≡ f → m ≡ leaves_at inside.meta.series n → v ≡ levels_at inside n → HasPlaces f n → (k : ℕ) → k ≤ carry_of m → get_or v.placed k false ≡ true
places_read inside f n m v same number read has k few =
    ap (λ (u : Lists). get_or u.placed k false) (read ∙ ap (λ (t : Trees). levels_at t n) same) ∙ has k (omega (arith, few, ap carry_of (number ∙ ap (λ (t : Trees). leaves_at t.meta.series n) same)))

-- the forest is lawful where this waits of a series
pub trees_set : (f : Trees) (n : ℕ) (w : Lists) → AreTrees f → AreLawful (leaves_at f.meta.series n) w → AreTrees (record f { levels = set f.levels n w })
trees_set f n w are is = record {
  rules_are = are.rules_are;
  room = are.room;
  slot_is = are.slot_is;
  count = are.count;
  pooled = are.pooled;
  lawful = lawful_set f.meta.series f.levels n w are.lawful is;
  since = are.since;
}

-- and where levels get places
pub trees_placed : (f : Trees) (n : ℕ) (v w : Lists) → AreTrees f → n < length f.meta.series → v ≡ levels_at f n → w.pending ≡ v.pending → ((k : ℕ) → HasRoom v k → HasRoom w k) → AreTrees (record f { levels = set f.levels n w })
trees_placed f n v w are within read same keeps =
    trees_set f n w are (lawful_reserved v w (leaves_at f.meta.series n) same keeps (subst (AreLawful (leaves_at f.meta.series n)) (sym read) (lawful_at f.meta.series f.levels n are.lawful within)))

-- the first of these levels that has no places
places_or : (bs : List Bool) (top : ℕ) → ((k : ℕ) → k ≤ top → get_or bs k false ≡ true) ⊎ ((k : ℕ) × (k ≤ top) × (get_or bs k false ≡ false))
places_or bs zero = by (get_or bs 0 false) refl
  where
    by : (b : Bool) → get_or bs 0 false ≡ b → ((k : ℕ) → k ≤ 0 → get_or bs k false ≡ true) ⊎ ((k : ℕ) × (k ≤ 0) × (get_or bs k false ≡ false))
    by true is = inl (λ k few. let none : 0 ≡ k = omega (arith, few) in ap (λ (i : ℕ). get_or bs i false) (sym none) ∙ is)
    by false is = inr (0, omega arith, is)
places_or bs (suc top) = by (get_or bs (suc top) false) refl (places_or bs top)
  where
    by : (b : Bool) → get_or bs (suc top) false ≡ b → ((k : ℕ) → k ≤ top → get_or bs k false ≡ true) ⊎ ((k : ℕ) × (k ≤ top) × (get_or bs k false ≡ false))
        → ((k : ℕ) → k ≤ suc top → get_or bs k false ≡ true) ⊎ ((k : ℕ) × (k ≤ suc top) × (get_or bs k false ≡ false))
    by b is (inr below) = inr (below.0, omega (arith, below.1), below.2)
    by false is (inl below) = inr (suc top, omega arith, is)
    by true is (inl below) = inl (λ k few. elim (cases_eq k (suc top)) [
      | inl here ↦ ap (λ (i : ℕ). get_or bs i false) here ∙ is
      | inr other ↦ below k (omega (arith, few, other))
    ])

-- a level that a leaf pushes to and that has no places is opened by it
opened_by : (m k : ℕ) → k ≤ carry_of m → m < 32 ^ k → suc m ≡ 32 ^ k
opened_by m k few below = elim (cases_eq (suc m) (32 ^ k)) [
  | inl same ↦ same
  | inr other ↦
      let next : m + 1 ≡ suc m = omega arith in
      let whole : suc m % 32 ^ k ≡ 0 = ap (λ (x : ℕ). x % 32 ^ k) (sym next) ∙ carry_divides m (carry_of m) k refl (omega (arith, few, carry_most m)) few in
      let rest : suc m % 32 ^ k ≡ suc m = mod-eq_of_lt (omega (arith, below, other)) in
      absurd (omega (arith, whole, rest))
]

opens_by : (v : Lists) (m : ℕ) → AreLawful m v → (((k : ℕ) → k ≤ carry_of m → get_or v.placed k false ≡ true) → ⊥) → OpensLevel m
opens_by v m are wanted = elim (places_or v.placed (carry_of m)) [
  | inl all ↦ absurd (wanted all)
  | inr one ↦
      let few : one.0 ≤ carry_of m = one.1 in
      let below : m < 32 ^ one.0 = elim (cases_lt m (32 ^ one.0)) [
        | inl less ↦ less
        | inr reached ↦ absurd (true≢false (sym (are.placed one.0 (omega (arith, few, carry_most m)) reached) ∙ one.2))
      ] in
      (one.0, opened_by m one.0 few below)
]

pub opens_level : (f : Trees) (n : ℕ) → AreTrees f → n < length f.meta.series → (HasPlaces f n → ⊥) → OpensLevel (leaves_at f.meta.series n)
opens_level f n are within wanted = opens_by (levels_at f n) (leaves_at f.meta.series n) (lawful_at f.meta.series f.levels n are.lawful within) wanted

-- ---- All of them

pub same_places : (f : Trees) → IsSameButPlaces f f
same_places f = record { others = refl; pending = refl }

pub places_on : (f g h : Trees) → IsSameButPlaces f g → IsSameButPlaces g h → IsSameButPlaces f h
places_on f g h one two = record {
  others = two.others ∙ ap (λ (t : Trees). record t { levels = h.levels }) one.others;
  pending = two.pending ∙ one.pending;
}

-- what waits stays where levels get places
pub places_set : (levels : List Lists) (n count : ℕ) → map (λ (v : Lists). v.pending) (set levels n (with_places (get_or levels n no_lists) count)) ≡ map (λ (v : Lists). v.pending) levels
places_set [] n count = refl
places_set (v ∷ levels) zero count = refl
places_set (v ∷ levels) (suc n) count = ap (λ (l : List (List (List Ref))). v.pending ∷ l) (places_set levels n count)

pub places_next : (f g : Trees) (n : ℕ) → g ≡ with_places_for f n → IsSameButPlaces f g
places_next f g n is = subst (IsSameButPlaces f) (sym is) (record { others = refl; pending = places_set f.levels n (carry_of (leaves_at f.meta.series n) + 1) })

-- what waits of the others is the same
pub other_levels : (f g : Trees) (n m : ℕ) → g ≡ with_places_for f n → m ≢ n → levels_at g m ≡ levels_at f m
other_levels f g n m is other = ap (λ (t : Trees). levels_at t m) is ∙ get_or-set_other f.levels n m (with_places (levels_at f n) (carry_of (leaves_at f.meta.series n) + 1)) no_lists other

-- places that a series has, as far as what waits of it and its leaves stay
pub places_stay : (f g : Trees) (n : ℕ) → levels_at g n ≡ levels_at f n → leaves_at g.meta.series n ≡ leaves_at f.meta.series n → HasPlaces f n → HasPlaces g n
places_stay f g n levels leaves has k few = ap (λ (v : Lists). get_or v.placed k false) levels ∙ has k (omega (arith, few, ap carry_of leaves))

pub same_leaves : (f g : Trees) (n : ℕ) → IsSameButPlaces f g → leaves_at g.meta.series n ≡ leaves_at f.meta.series n
same_leaves f g n same = ap (λ (t : Trees). leaves_at t.meta.series n) same.others

-- one series more has its places
pub places_more : (f g : Trees) (i : ℕ) → g ≡ with_places_for f i → HasPlaces g i → ((n : ℕ) → n < i → get_or f.frames n None ≢ None → HasPlaces f n) → (n : ℕ) → n < i + 1 → get_or g.frames n None ≢ None → HasPlaces g n
places_more f g i is here before n below opened = elim (cases_eq n i) [
  | inl same ↦ subst (HasPlaces g) (sym same) here
  | inr other ↦
      let frames : get_or g.frames n None ≡ get_or f.frames n None = ap (λ (t : Trees). get_or t.frames n None) is in
      places_stay f g n (other_levels f g i n is other) (same_leaves f g n (places_next f g i is)) (before n (omega (arith, below, other)) (λ e. opened (frames ∙ e)))
]

-- a series without a frame needs none
pub places_none : (f : Trees) (i : ℕ) → get_or f.frames i None ≡ None → ((n : ℕ) → n < i → get_or f.frames n None ≢ None → HasPlaces f n) → (n : ℕ) → n < i + 1 → get_or f.frames n None ≢ None → HasPlaces f n
places_none f i none before n below opened = elim (cases_eq n i) [
  | inl same ↦ absurd (opened (ap (λ (k : ℕ). get_or f.frames k None) same ∙ none))
  | inr other ↦ before n (omega (arith, below, other)) opened
]

-- the series whose levels have no places
pub places_wanted : (f g : Trees) (n : ℕ) → IsSameButPlaces f g → levels_at g n ≡ levels_at f n → get_or g.frames n None ≢ None → (HasPlaces g n → ⊥) → (m : ℕ) × (get_or f.frames m None ≢ None) × (HasPlaces f m → ⊥)
places_wanted f g n same levels opened wanted = (
  n,
  (λ e. opened (ap (λ (t : Trees). get_or t.frames n None) same.others ∙ e)),
  (λ has. wanted (places_stay f g n levels (same_leaves f g n same) has)),
)

pub places_opened : (f g : Trees) (n : ℕ) → AreTrees f → n < length f.meta.series → IsSameButPlaces f g → levels_at g n ≡ levels_at f n → get_or g.frames n None ≢ None → (HasPlaces g n → ⊥) → (m : ℕ) × (get_or f.frames m None ≢ None) × OpensLevel (leaves_at f.meta.series m)
places_opened f g n are within same levels opened wanted = (
  n,
  (λ e. opened (ap (λ (t : Trees). get_or t.frames n None) same.others ∙ e)),
  opens_level f n are within (λ has. wanted (places_stay f g n levels (same_leaves f g n same) has)),
)

-- ---- Planted

-- what is planted of one series
pub planted_in : (o : Ordinals) (seen : Seen) (k i n : ℕ) (series : List SeriesMeta) (kept : List (List Leaf)) (bases : List ℕ) (levels : List Lists) → n < length series → i ≡ k + n → ArePlanted o seen k series kept bases levels
    → (base : ℕ) × IsPlanted o seen i (series_in series n) (kept_in kept n) base (get_or levels n no_lists)
planted_in o seen k i n [] kept bases levels within at are = absurd (omega arith)
planted_in o seen k i n (known ∷ others) [] bases levels within at are = absurd are
planted_in o seen k i n (known ∷ others) (leaves ∷ kept) [] levels within at are = absurd are
planted_in o seen k i n (known ∷ others) (leaves ∷ kept) (base ∷ bases) [] within at are = absurd are
planted_in o seen k i zero (known ∷ others) (leaves ∷ kept) (base ∷ bases) (v ∷ levels) within at are =
    let here : k ≡ i = omega (arith, at) in
    (base, subst (λ (j : ℕ). IsPlanted o seen j known leaves base v) here are.0)
planted_in o seen k i (suc n) (known ∷ others) (leaves ∷ kept) (base ∷ bases) (v ∷ levels) within at are = planted_in o seen (suc k) i n others kept bases levels (omega arith) (omega (arith, at)) are.1

-- a leaf of one series is entered, and the live blocks stay the same
pub planted_entered : (o p : Ordinals) (old new : Seen) (k i n last a : ℕ) (series : List SeriesMeta) (kept : List (List Leaf)) (bases : List ℕ) (levels : List Lists) (leaf : Leaf) (v : Lists) → p.lo ≡ o.lo
    → ((b : ℕ) → IsLive o b → IsLive p b × (new b ≡ old b)) → n < length series → i ≡ k + n
    → ((base : ℕ) → IsPlanted o old i (series_in series n) (kept_in kept n) base (get_or levels n no_lists) → IsPlanted p new i (with_leaf (series_in series n) last a) (kept_in kept n ++ leaf ∷ []) base v)
    → ArePlanted o old k series kept bases levels → ArePlanted p new k (with_leaf_at series n last a) (kept_with kept n leaf) bases (set levels n v)
planted_entered o p old new k i n last a [] kept bases levels leaf v lo same within at step are = absurd (omega arith)
planted_entered o p old new k i n last a (known ∷ others) [] bases levels leaf v lo same within at step are = absurd are
planted_entered o p old new k i n last a (known ∷ others) (leaves ∷ kept) [] levels leaf v lo same within at step are = absurd are
planted_entered o p old new k i n last a (known ∷ others) (leaves ∷ kept) (base ∷ bases) [] leaf v lo same within at step are = absurd are
planted_entered o p old new k i zero last a (known ∷ others) (leaves ∷ kept) (base ∷ bases) (u ∷ levels) leaf v lo same within at step are =
    let here : k ≡ i = omega (arith, at) in (
      subst (λ (j : ℕ). IsPlanted p new j (with_leaf known last a) (leaves ++ leaf ∷ []) base v) (sym here) (step base (subst (λ (j : ℕ). IsPlanted o old j known leaves base u) here are.0)),
      all_agree o p old new (suc k) others kept bases levels lo same are.1,
    )
planted_entered o p old new k i (suc n) last a (known ∷ others) (leaves ∷ kept) (base ∷ bases) (u ∷ levels) leaf v lo same within at step are = (
  planted_agrees o p old new k base known leaves u lo same are.0,
  planted_entered o p old new (suc k) i n last a others kept bases levels leaf v lo same (omega arith) (omega (arith, at)) step are.1,
)

-- where other levels have places
planted_placed : (o : Ordinals) (seen : Seen) (n base : ℕ) (known : SeriesMeta) (leaves : List Leaf) (v w : Lists) → w.pending ≡ v.pending → IsPlanted o seen n known leaves base v → IsPlanted o seen n known leaves base w
planted_placed o seen n base known leaves v w same is =
    let mid : IsPlanted o seen n known leaves base (lists v.pending w.placed) = record { grown = is.grown; order = is.order } in
    subst (λ (p : List (List Ref)). IsPlanted o seen n known leaves base (lists p w.placed)) (sym same) mid

pub all_placed : (o : Ordinals) (seen : Seen) (n : ℕ) (series : List SeriesMeta) (kept : List (List Leaf)) (bases : List ℕ) (levels others : List Lists) → map (λ (v : Lists). v.pending) others ≡ map (λ (v : Lists). v.pending) levels
    → ArePlanted o seen n series kept bases levels → ArePlanted o seen n series kept bases others
all_placed o seen n [] kept bases levels [] same are = (are.0, are.1, refl)
all_placed o seen n [] kept bases levels (w ∷ others) same are = absurd (nothing levels are.2 same)
  where
    nothing : (levels : List Lists) → levels ≡ [] → w.pending ∷ map (λ (v : Lists). v.pending) others ≡ map (λ (v : Lists). v.pending) levels → ⊥
    nothing [] none is = cc
    nothing (v ∷ levels) none is = cc
all_placed o seen n (known ∷ series) [] bases levels others same are = absurd are
all_placed o seen n (known ∷ series) (leaves ∷ kept) [] levels others same are = absurd are
all_placed o seen n (known ∷ series) (leaves ∷ kept) (base ∷ bases) [] others same are = absurd are
all_placed o seen n (known ∷ series) (leaves ∷ kept) (base ∷ bases) (v ∷ levels) [] same are = absurd (cc)
all_placed o seen n (known ∷ series) (leaves ∷ kept) (base ∷ bases) (v ∷ levels) (w ∷ others) same are =
    let here : w.pending ≡ v.pending = cc in
    let behind : map (λ (u : Lists). u.pending) others ≡ map (λ (u : Lists). u.pending) levels = cc in
    (planted_placed o seen n base known leaves v w here are.0, all_placed o seen (suc n) series kept bases levels others behind are.1)

-- What keeps the rules: the first content, a new series, and a leaf more.
use Rattle.std.proofs.Common.{◌≡◌, ◌≢◌, inl, inr, ◌+◌, ◌-◌, ◌*◌, ◌/◌, ◌%◌, ◌^◌, ◌<◌, ◌≤◌, ◌∙◌, ℕ, zero, suc, List, [], ◌∷◌, ◌++◌, length, drop, get_or, bytes_eq, false, refl, sym, ap, subst, arith, div-add-mod', length-append, length-drop}
use Rattle.std.proofs.Math.ListN.{replicate, get_or-map}
use Rattle.std.proofs.Math.Nat.{one-le-pow}
use Rattle.std.proofs.Math.Seq.{get_or-append_right}
use Rattle.std.proofs.lemmas.List.{get_or_append_left, get_or-drop}
use Rattle.std.proofs.lemmas.Nat.{mod-mul-add}
use Rattle.std.proofs.lemmas.Bool.{cases_lt, cases_eq}
use Rattle.std.specs.List.{AllByRecursion, IsDistinct, list_any}
use Rattle.ak_base.specs.declared.limits.Limits.{Limits}
use Rattle.ak_base.specs.declared.point.Addr.{Addr}
use Rattle.ak_base.specs.Ranges.{AreLimits}
use Rattle.ak_levels.specs.Carries.{carry_of}
use Rattle.ak_meta.specs.declared.meta.SeriesMeta.{SeriesMeta}
use Rattle.ak_meta.specs.Contents.{Content, IsMeta, IsSeries, IsCanonical, names_of, leaves_of, room_of, rescue_at}
use Rattle.ak_meta.specs.Leaves.{first_content, new_series, with_series, with_leaf, with_leaf_at, closed_in, leaves_at, addresses_from, address_at, rescued, IsEntered}
use Rattle.ak_meta.proofs.Apart.{none_apart, apart_push}
use Rattle.ak_meta.proofs.Closing.{leaves_cons, group_fits, room_fits}
use Rattle.ak_meta.proofs.Fronts.{each_push}
use Rattle.ak_meta.proofs.Levels.{carry_most, carry_takes, carry_divides}

pub first_lawful : (limits : Limits) → AreLimits limits → IsMeta (first_content limits)
first_lawful limits are = record {
  limits_are = are;
  volumes = refl;
  blocks = refl;
  ordinals_are = record { some = omega arith; most = omega (arith, are.volumes_least); within = (omega arith, tt); last = omega arith; indexes = omega (arith, are.blocks_most) };
  full = λ some. absurd (omega (arith, some));
  few = omega arith;
  each = tt;
  apart = none_apart;
  total = omega arith;
}

-- the addresses of a level, one by one
pub rescue_is : (rescue : List Addr) (level : ℕ) → rescue_at rescue level ≡ (get_or rescue level (address_at 0)).0
rescue_is rescue level = get_or-map (λ (a : Addr). a.0) rescue level (address_at 0)

none_at : (n level : ℕ) (a : Addr) → level < n → get_or (replicate n a) level (address_at 0) ≡ a
none_at zero level a within = absurd (omega arith)
none_at (suc n) zero a within = refl
none_at (suc n) (suc level) a within = none_at n level a (omega arith)

none_fit : (n : ℕ) (a : Addr) → a.0 < 2 ^ 64 → AllByRecursion (λ (b : Addr). b.0 < 2 ^ 64) (replicate n a)
none_fit zero a small = tt
none_fit (suc n) a small = (small, none_fit n a small)

pub new_lawful : (name : List ℕ) → IsCanonical name → IsSeries (new_series name)
new_lawful name canonical = record {
  name = canonical;
  leaves = omega arith;
  last = omega arith;
  unused = λ none. refl;
  levels = refl;
  addresses = none_fit 11 (address_at (2 ^ 64 - 1)) (omega arith);
  rescue = λ level most. (
    (λ none. omega (arith, one-le-pow level 32 (omega arith))),
    (λ few. rescue_is (replicate 11 (address_at (2 ^ 64 - 1))) level ∙ ap (λ (a : Addr). a.0) (none_at 11 level (address_at (2 ^ 64 - 1)) (omega (arith, most)))),
  );
}

leaves_push : (all : List SeriesMeta) (name : List ℕ) → leaves_of (all ++ new_series name ∷ []) ≡ leaves_of all
leaves_push [] name = leaves_cons (new_series name) []
leaves_push (s ∷ all) name = omega (arith, leaves_cons s (all ++ new_series name ∷ []), leaves_cons s all, leaves_push all name)

pub series_lawful : (c : Content) (name : List ℕ) → IsMeta c → IsCanonical name → list_any (λ n. bytes_eq name n) (names_of c.series) ≡ false → length c.series + 1 < 2 ^ 32 → IsMeta (with_series c name)
series_lawful c name is canonical new few = record {
  limits_are = is.limits_are;
  volumes = is.volumes;
  blocks = is.blocks;
  ordinals_are = is.ordinals_are;
  full = is.full;
  few = omega (arith, few, length-append c.series (new_series name ∷ []));
  each = each_push IsSeries c.series (new_series name) is.each (new_lawful name canonical);
  apart = apart_push c.series (new_series name) is.apart new;
  total = omega (arith, leaves_push c.series name, is.total);
}

-- the addresses of a group
length-addresses : (count a : ℕ) → length (addresses_from count a) ≡ count
length-addresses zero a = refl
length-addresses (suc count) a = omega (arith, length-addresses count (a + 1))

address_is : (count a level : ℕ) → level < count → get_or (addresses_from count a) level (address_at 0) ≡ address_at (a + level)
address_is zero a level within = absurd (omega arith)
address_is (suc count) a zero within = ap address_at (omega arith)
address_is (suc count) a (suc level) within = address_is count (a + 1) level (omega arith) ∙ ap address_at (omega arith)

group_small : (count a : ℕ) (rest : List Addr) → a + count ≤ 2 ^ 64 → AllByRecursion (λ (b : Addr). b.0 < 2 ^ 64) rest → AllByRecursion (λ (b : Addr). b.0 < 2 ^ 64) (addresses_from count a ++ rest)
group_small zero a rest within each = each
group_small (suc count) a rest within each = (omega (arith, within), group_small count (a + 1) rest (omega (arith, within)) each)

each_drop : (n : ℕ) (rescue : List Addr) → AllByRecursion (λ (b : Addr). b.0 < 2 ^ 64) rescue → AllByRecursion (λ (b : Addr). b.0 < 2 ^ 64) (drop n rescue)
each_drop zero rescue each = each
each_drop (suc n) [] each = tt
each_drop (suc n) (a ∷ rescue) each = each_drop n rescue each.1

below_group : (rescue : List Addr) (top a level : ℕ) → level ≤ top → rescue_at (rescued rescue top a) level ≡ a + level
below_group rescue top a level below =
    rescue_is (rescued rescue top a) level
    ∙ ap (λ (b : Addr). b.0) (get_or_append_left (addresses_from (top + 1) a) (drop (top + 1) rescue) (address_at 0) level (omega (arith, below, length-addresses (top + 1) a)) ∙ address_is (top + 1) a level (omega (arith, below)))

above_group : (rescue : List Addr) (top a level : ℕ) → top < level → rescue_at (rescued rescue top a) level ≡ rescue_at rescue level
above_group rescue top a level above =
    let long = length-addresses (top + 1) a in
    let place : top + 1 + (level - length (addresses_from (top + 1) a)) ≡ level = omega (arith, long, above) in
    let past : length (addresses_from (top + 1) a) ≤ level = omega (arith, long, above) in
    rescue_is (rescued rescue top a) level
    ∙ ap (λ (b : Addr). b.0) (get_or-append_right (addresses_from (top + 1) a) (drop (top + 1) rescue) level (address_at 0) past
    ∙ get_or-drop (top + 1) rescue (level - length (addresses_from (top + 1) a)) (address_at 0)
    ∙ ap (λ (k : ℕ). get_or rescue k (address_at 0)) place)
    ∙ sym (rescue_is rescue level)

times_some : (q p : ℕ) → q ≢ 0 → p ≤ q * p
times_some zero p some = absurd (some refl)
times_some (suc q) p some = grind arith

-- a power that divides a number is not above it
power_most : (m level : ℕ) → suc m % 32 ^ level ≡ 0 → 32 ^ level ≤ suc m
power_most m level whole =
    let split : suc m / 32 ^ level * 32 ^ level + suc m % 32 ^ level ≡ suc m = div-add-mod' (suc m) (32 ^ level) in
    elim (cases_eq (suc m / 32 ^ level) 0) [
      | inl none ↦ absurd (omega (arith, split, whole, ap (λ (q : ℕ). q * 32 ^ level) none))
      | inr some ↦ omega (arith, split, whole, times_some (suc m / 32 ^ level) (32 ^ level) some)
    ]

one_time : (p : ℕ) → p ≡ 1 * p + 0
one_time p = omega arith

pub leaf_lawful : (s : SeriesMeta) (last a : ℕ) → IsSeries s → last < 2 ^ 64 → s.leaves + 1 < 2 ^ 64 → a + carry_of s.leaves < 2 ^ 64 - 1 → IsSeries (with_leaf s last a)
leaf_lawful s last a is small fits within =
    let m = s.leaves in
    let top = carry_of m in
    let most : top ≤ 10 = carry_most m in
    let group : List Addr = addresses_from (top + 1) a in
    record {
      name = is.name;
      leaves = fits;
      last = small;
      unused = λ none. absurd (omega (arith, none));
      levels = omega (arith, length-append group (drop (top + 1) s.rescue), length-addresses (top + 1) a, length-drop (top + 1) s.rescue, is.levels, most);
      addresses = group_small (top + 1) a (drop (top + 1) s.rescue) (omega (arith, within)) (each_drop (top + 1) s.rescue is.addresses);
      rescue = λ level few. elim (cases_lt top level) [
        | inl above ↦
            let same = above_group s.rescue top a level above in
            let kept = is.rescue level few in
            let next : suc m ≢ 32 ^ level = λ e. omega (arith, above, carry_takes m level few (ap (λ (x : ℕ). x % 32 ^ level) (e ∙ one_time (32 ^ level)) ∙ mod-mul-add 1 (32 ^ level) 0 (omega (arith, one-le-pow level 32 (omega arith))))) in
            ((λ none. let less : m < 32 ^ level = kept.0 (sym same ∙ none) in omega (arith, less, next)), (λ less. same ∙ kept.1 (omega (arith, less))))
        | inr below ↦
            let same = below_group s.rescue top a level (omega (arith, below)) in
            let whole : suc m % 32 ^ level ≡ 0 = carry_divides m level (omega (arith, below)) in
            let over = power_most m level whole in
            ((λ none. absurd (omega (arith, none, same, within, below))), (λ less. absurd (omega (arith, less, over))))
      ];
    }

names_leaf : (all : List SeriesMeta) (n last a : ℕ) → names_of (with_leaf_at all n last a) ≡ names_of all
names_leaf [] n last a = refl
names_leaf (s ∷ all) zero last a = refl
names_leaf (s ∷ all) (suc n) last a = ap (λ (l : List (List ℕ)). s.name ∷ l) (names_leaf all n last a)

length-leaf : (all : List SeriesMeta) (n last a : ℕ) → length (with_leaf_at all n last a) ≡ length all
length-leaf [] n last a = refl
length-leaf (s ∷ all) zero last a = refl
length-leaf (s ∷ all) (suc n) last a = ap suc (length-leaf all n last a)

leaves_leaf : (all : List SeriesMeta) (n last a : ℕ) → n < length all → leaves_of (with_leaf_at all n last a) ≡ leaves_of all + 1
leaves_leaf [] n last a within = absurd (omega arith)
leaves_leaf (s ∷ all) zero last a within = omega (arith, leaves_cons (with_leaf s last a) all, leaves_cons s all)
leaves_leaf (s ∷ all) (suc n) last a within = omega (arith, leaves_cons s (with_leaf_at all n last a), leaves_cons s all, leaves_leaf all n last a (omega arith))

each_leaf : (all : List SeriesMeta) (n last a : ℕ) → AllByRecursion IsSeries all → last < 2 ^ 64 → leaves_of all + 1 < 2 ^ 64 → a + carry_of (leaves_at all n) < 2 ^ 64 - 1 → AllByRecursion IsSeries (with_leaf_at all n last a)
each_leaf [] n last a each small fits within = tt
each_leaf (s ∷ all) zero last a each small fits within = (leaf_lawful s last a each.0 small (omega (arith, fits, leaves_cons s all)) within, each.1)
each_leaf (s ∷ all) (suc n) last a each small fits within = (each.0, each_leaf all n last a each.1 small (omega (arith, fits, leaves_cons s all)) within)

pub close_lawful : (c : Content) (n last a : ℕ) → IsMeta c → n < length c.series → last < 2 ^ 64 → a < 2 ^ 64 → IsEntered c.ordinals a (carry_of (leaves_at c.series n)) → leaves_of c.series < room_of c.ordinals → IsMeta (closed_in c n last a)
close_lawful c n last a is within small fits entered room = record {
  limits_are = is.limits_are;
  volumes = is.volumes;
  blocks = is.blocks;
  ordinals_are = is.ordinals_are;
  full = is.full;
  few = omega (arith, is.few, length-leaf c.series n last a);
  each = each_leaf c.series n last a is.each small (omega (arith, room, room_fits c.ordinals is.ordinals_are)) (group_fits c.ordinals a (carry_of (leaves_at c.series n)) is.ordinals_are entered);
  apart = subst (IsDistinct bytes_eq) (sym (names_leaf c.series n last a)) is.apart;
  total = omega (arith, room, leaves_leaf c.series n last a within);
}

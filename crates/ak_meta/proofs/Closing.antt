-- A leaf more of a series.
use Rattle.std.proofs.Common.{◌≡◌, ◌+◌, ◌-◌, ◌*◌, ◌/◌, ◌%◌, ◌^◌, ◌<◌, ◌≤◌, ℕ, zero, suc, List, [], ◌∷◌, length, map, sum, get_or, slice_set, refl, sym, ap, ◌∙◌, arith, div-add-mod'}
use Rattle.std.proofs.Math.Nat.{mul-le-mul, mul-le-mul_right}
use Rattle.std.proofs.lemmas.List.Sums.{sum_by-cons}
use Rattle.std.specs.List.{AllByRecursion}
use Rattle.ak_volumes.specs.Ordinals.{Ordinals, AreOrdinals, newest, newest_fill, ordinal_of, fill_of}
use Rattle.ak_meta.specs.declared.meta.SeriesMeta.{SeriesMeta}
use Rattle.ak_meta.specs.Contents.{Content, IsMeta, leaves_of, room_of}
use Rattle.ak_meta.specs.Leaves.{with_leaf, with_leaf_at, leaves_at, IsEntered}

pub leaves_cons : (s : SeriesMeta) (all : List SeriesMeta) → leaves_of (s ∷ all) ≡ s.leaves + leaves_of all
leaves_cons s all = sum_by-cons (λ (n : ℕ). n) s.leaves (map (λ (t : SeriesMeta). t.leaves) all)

pub leaves_there : (all : List SeriesMeta) (n : ℕ) (d : SeriesMeta) → n < length all → leaves_at all n ≡ (get_or all n d).leaves
leaves_there [] n d within = absurd (omega arith)
leaves_there (s ∷ all) zero d within = refl
leaves_there (s ∷ all) (suc n) d within = leaves_there all n d (omega arith)

pub leaves_here : (all : List SeriesMeta) (n : ℕ) (s : SeriesMeta) → n < length all → s ≡ get_or all n s → leaves_at all n ≡ s.leaves
leaves_here all n s within is = leaves_there all n s within ∙ ap (λ (t : SeriesMeta). t.leaves) (sym is)

set_there : (all : List SeriesMeta) (n last a : ℕ) (d : SeriesMeta) → n < length all → slice_set all n (with_leaf (get_or all n d) last a) ≡ with_leaf_at all n last a
set_there [] n last a d within = absurd (omega arith)
set_there (s ∷ all) zero last a d within = refl
set_there (s ∷ all) (suc n) last a d within = ap (λ (l : List SeriesMeta). s ∷ l) (set_there all n last a d (omega arith))

-- one series of all, with a leaf more
pub one_here : (all : List SeriesMeta) (n last a : ℕ) (s new : SeriesMeta) → n < length all → s ≡ get_or all n s → new ≡ with_leaf s last a → slice_set all n new ≡ with_leaf_at all n last a
one_here all n last a s new within is made =
    ap (λ (t : SeriesMeta). slice_set all n t) (made ∙ ap (λ (t : SeriesMeta). with_leaf t last a) is) ∙ set_there all n last a s within

pub some_leaves : (all : List SeriesMeta) (n : ℕ) → leaves_at all n ≤ leaves_of all
some_leaves [] n = omega arith
some_leaves (s ∷ all) zero = omega (arith, leaves_cons s all)
some_leaves (s ∷ all) (suc n) = omega (arith, leaves_cons s all, some_leaves all n)

-- no fill is over the blocks
pub fill_most : (blocks : ℕ) (fills : List ℕ) (n : ℕ) → AllByRecursion (λ (fill : ℕ). fill ≤ blocks) fills → get_or fills n 0 ≤ blocks
fill_most blocks [] n each = omega arith
fill_most blocks (f ∷ fills) zero each = each.0
fill_most blocks (f ∷ fills) (suc n) each = fill_most blocks fills n each.1

-- each leaf has a block
pub leaves_most : (c : Content) (n : ℕ) → IsMeta c → leaves_at c.series n ≤ 2 ^ 52
leaves_most c n is =
    let o = c.ordinals in
    let ordinals : newest o * o.blocks ≤ (2 ^ 32 - 1) * o.blocks = mul-le-mul_right o.blocks (let e : newest o ≤ 2 ^ 32 - 1 = omega (arith, is.ordinals_are.last) in e) in
    let fill : newest_fill o ≤ o.blocks = fill_most o.blocks o.fills (length o.fills - 1) is.ordinals_are.within in
    omega (arith, ordinals, fill, is.limits_are.blocks_most, is.blocks, is.total, some_leaves c.series n)

-- the addresses of a group are below the last one
pub group_fits : (o : Ordinals) (a nodes : ℕ) → AreOrdinals o → IsEntered o a nodes → a + nodes < 2 ^ 64 - 1
group_fits o a nodes are entered =
    let split : a / 2 ^ 32 * 2 ^ 32 + a % 2 ^ 32 ≡ a = div-add-mod' a (2 ^ 32) in
    let most : fill_of o (ordinal_of a) ≤ o.blocks = fill_most o.blocks o.fills (ordinal_of a - o.lo) are.within in
    omega (arith, split, most, entered.index, entered.ordinal.to, are.last, are.indexes)

-- there is less room than addresses
pub room_fits : (o : Ordinals) → AreOrdinals o → room_of o < 2 ^ 64
room_fits o are =
    let most : newest_fill o ≤ o.blocks = fill_most o.blocks o.fills (length o.fills - 1) are.within in
    let all : newest o * o.blocks ≤ (2 ^ 32 - 1) * (2 ^ 32 - 1) = mul-le-mul {n₁ = newest o} {m₁ = o.blocks} {n₂ = 2 ^ 32 - 1} {m₂ = 2 ^ 32 - 1} (omega (arith, are.last, are.some)) (omega (arith, are.indexes)) in
    omega (arith, all, most, are.indexes)

-- names stay, so the size does
pub sizes_here : (all : List SeriesMeta) (n last a : ℕ) → sum (map (λ (s : SeriesMeta). 106 + length s.name) (with_leaf_at all n last a)) ≡ sum (map (λ (s : SeriesMeta). 106 + length s.name) all)
sizes_here [] n last a = refl
sizes_here (s ∷ all) zero last a =
    omega (
      arith,
      sum_by-cons (λ (m : ℕ). m) (106 + length s.name) (map (λ (t : SeriesMeta). 106 + length t.name) all),
      sum_by-cons (λ (m : ℕ). m) (106 + length (with_leaf s last a).name) (map (λ (t : SeriesMeta). 106 + length t.name) all),
    )
sizes_here (s ∷ all) (suc n) last a =
    omega (
      arith,
      sizes_here all n last a,
      sum_by-cons (λ (m : ℕ). m) (106 + length s.name) (map (λ (t : SeriesMeta). 106 + length t.name) all),
      sum_by-cons (λ (m : ℕ). m) (106 + length s.name) (map (λ (t : SeriesMeta). 106 + length t.name) (with_leaf_at all n last a)),
    )

-- The head of the block of an open leaf.
use Rattle.std.proofs.Common.{◌≡◌, ◌≢◌, inl, ◌∙◌, ℕ, zero, suc, ◌-◌, ◌^◌, ◌<◌, ◌≤◌, ◌↔◌, List, [], ◌∷◌, length, get_or, refl, sym, ap, subst, arith}
use Rattle.std.specs.List.{AllByRecursion}
use Rattle.ak_base.specs.declared.point.Addr.{Addr}
use Rattle.ak_base.specs.declared.point.Point.{Point}
use Rattle.ak_bytes.specs.declared.head.Head.{Head}
use Rattle.ak_image.specs.Laid.{rescue_in, series_in}
use Rattle.ak_leaf.specs.Leaf.{IsHeadOf}
use Rattle.ak_leaf.specs.Spelling.{leaf_size}
use Rattle.ak_meta.specs.Contents.{IsSeries, rescue_at}
use Rattle.ak_meta.specs.declared.meta.SeriesMeta.{SeriesMeta}

-- what is said of each is said of the one at a place
pub each_at : (P : SeriesMeta → Type 0) (all : List SeriesMeta) (n : ℕ) (s : SeriesMeta) → AllByRecursion P all → n < length all → s ≡ get_or all n s → P s
each_at P [] n s each within is = absurd (omega arith)
each_at P (t ∷ all) zero s each within is = subst P (sym is) each.0
each_at P (t ∷ all) (suc n) s each within is = each_at P all n s each.1 (omega arith) is

pub rescue_here : (all : List SeriesMeta) (n : ℕ) (s : SeriesMeta) → n < length all → s ≡ get_or all n s → rescue_in all n ≡ rescue_at s.rescue 0
rescue_here [] n s within is = absurd (omega arith)
rescue_here (t ∷ all) zero s within is = ap (λ (r : SeriesMeta). rescue_at r.rescue 0) (sym is)
rescue_here (t ∷ all) (suc n) s within is = rescue_here all n s (omega arith) is

-- the series of a number
pub series_here : (all : List SeriesMeta) (n : ℕ) (s : SeriesMeta) → n < length all → s ≡ get_or all n s → s ≡ series_in all n
series_here [] n s within is = absurd (omega arith)
series_here (t ∷ all) zero s within is = is
series_here (t ∷ all) (suc n) s within is = series_here all n s (omega arith) is

-- the first rescue address is below 2 ^ 64
pub rescue_small : (rescue : List Addr) → AllByRecursion (λ (a : Addr). a.0 < 2 ^ 64) rescue → (get_or rescue 0 (record { 0 = 0 })).0 < 2 ^ 64
rescue_small [] each = omega arith
rescue_small (a ∷ rescue) each = each.0

-- the head of the next leaf of a series
abbrev pub leaf_head : SeriesMeta → ℕ → Addr → Addr → List Point → Head
leaf_head s series addr elder ps = record { kind = 1; level = 0; count = length ps; series = series; number = s.leaves; addr = addr; elder = elder; length = leaf_size ps }

pub head_of : (s : SeriesMeta) (series : ℕ) (addr elder : Addr) (ps : List Point) → IsSeries s → series < 2 ^ 32 → addr.0 < 2 ^ 64 → elder.0 < 2 ^ 64 → elder.0 ≡ rescue_at s.rescue 0
    → ps ≢ [] → length ps ≤ 2016 → leaf_size ps ≤ 4032 → IsHeadOf (leaf_head s series addr elder ps) ps
head_of s series addr elder ps is small at old same some many fits =
    let rescue : (rescue_at s.rescue 0 ≡ 2 ^ 64 - 1) ↔ (s.leaves < 32 ^ 0) = is.rescue 0 (omega arith) in
    record {
      head = record {
        fits = record {
          kind = omega arith;
          level = omega arith;
          count = omega (arith, many);
          series = small;
          number = is.leaves;
          addr = at;
          elder = old;
          length = omega (arith, fits);
        };
        kind = inl (record { kind = refl; level = refl; some = one_at_least ps some; count = many; length = fits });
        elder = (
          (λ none. let few = rescue.0 (sym same ∙ none) in omega (arith, few)),
          (λ none. same ∙ rescue.1 (omega (arith, none))),
        );
      };
      kind = refl;
      count = refl;
      bytes = refl;
    } where
      one_at_least : (ps : List Point) → ps ≢ [] → 1 ≤ length ps
      one_at_least [] some = absurd (some refl)
      one_at_least (p ∷ ps) some = omega arith

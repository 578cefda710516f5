-- Worlds as they are opened.
use Rattle.std.proofs.Common.{◌≡◌, inl, inr, ◌+◌, ◌^◌, ◌==◌, ◌<◌, ◌≤◌, ◌∙◌, ℕ, zero, suc, if◌then◌else◌, List, [], ◌∷◌, length, map, Some, None, refl, sym, ap, ap₂, arith, append-nil}
use Rattle.std.proofs.lemmas.Bool.{cases_lt}
use Rattle.std.specs.List.{AllByRecursion}
use Rattle.ak_base.specs.declared.point.Addr.{Addr}
use Rattle.ak_meta.proofs.Behind.{series_of as meta}
use Rattle.ak_meta.specs.Contents.{content, IsMeta, IsSeries, rescue_at}
use Rattle.ak_meta.specs.Leaves.{address_at}
use Rattle.ak_meta.specs.declared.meta.SeriesMeta.{SeriesMeta}
use Rattle.ak_world.specs.Leaves.{Leaf, Series, leaves_from}
use Rattle.ak_world.specs.Valid.{IsWorld, IsOpenable, AreOpenable, IsSeriesOf, AreSeriesOf, AreHeld}
use Rattle.ak_world.specs.Views.{View, known_of, all_known, rescue_of, rescue_from}
use Rattle.ak_world.specs.Worlds.{world_of, series_of, all_series, content_now, kept_now}
use Rattle.ak_world.proofs.Rescues.{none_made, made_before, last_below}

-- ---- What the record says

levels_are : (count k : ℕ) (o : SeriesMeta) (s : Series) (rescue : List Addr) → length rescue ≡ count → ((i l : ℕ) → l ≡ k + i → i < count → rescue_of o s l ≡ rescue_at rescue i) → rescue_from count o s k ≡ rescue
levels_are zero k o s [] long each = refl
levels_are zero k o s (a ∷ rescue) long each = absurd (omega (arith, long))
levels_are (suc count) k o s [] long each = absurd (omega (arith, long))
levels_are (suc count) k o s (a ∷ rescue) long each =
    ap₂ (λ (x : Addr) (xs : List Addr). x ∷ xs) (ap address_at (each 0 k (omega arith) (omega arith))) (levels_are count (suc k) o s rescue (omega (arith, long)) (λ i l is within. each (suc i) l (omega (arith, is)) (omega (arith, within))))

level_is : (o : SeriesMeta) (leaves : List Leaf) (k : ℕ) → IsSeries o → k ≤ 10 → rescue_of o (series_of o leaves) k ≡ rescue_at o.rescue k
level_is o leaves k is few =
    elim (cases_lt o.leaves (32 ^ k)) [
      | inl less ↦ none_made o (series_of o leaves) k less ∙ sym ((is.rescue k few).1 less)
      | inr more ↦ made_before o (series_of o leaves) k more (last_below o.leaves k more)
    ]

known_opened : (lo : ℕ) (o : SeriesMeta) (leaves : List Leaf) → IsSeries o → IsOpenable lo o leaves → known_of o (series_of o leaves) ≡ o
known_opened lo o leaves is may =
    let rescue : rescue_from 11 o (series_of o leaves) 0 ≡ o.rescue = levels_are 11 0 o (series_of o leaves) o.rescue is.levels (λ i l at within. (let e : l ≡ i = omega (arith, at) in level_is o leaves l is (omega (arith, at, within)) ∙ ap (rescue_at o.rescue) e)) in
    ap₂ (meta o.name o.leaves) may.last rescue

all_opened : (lo : ℕ) (all : List SeriesMeta) (kept : List (List Leaf)) → AllByRecursion IsSeries all → AreOpenable lo all kept → all_known all (all_series all kept) ≡ all
all_opened lo [] kept each may = refl
all_opened lo (o ∷ all) [] each may = absurd may
all_opened lo (o ∷ all) (leaves ∷ kept) each may = ap₂ (λ (m : SeriesMeta) (ms : List SeriesMeta). m ∷ ms) (known_opened lo o leaves each.0 may.0) (all_opened lo all kept each.1 may.1)

all_live : (lo : ℕ) (all : List SeriesMeta) (kept : List (List Leaf)) → AreOpenable lo all kept → map (λ (s : Series). leaves_from lo s.closed) (all_series all kept) ≡ kept
all_live lo [] kept may = sym may
all_live lo (o ∷ all) [] may = absurd may
all_live lo (o ∷ all) (leaves ∷ kept) may = ap₂ (λ (ls : List Leaf) (k : List (List Leaf)). ls ∷ k) may.0.live (all_live lo all kept may.1)

pub opened_content : (v : View) → IsMeta v.content → AreOpenable v.content.ordinals.lo v.content.series v.kept → content_now (world_of v) ≡ v.content
opened_content v is may = ap (content v.content.limits v.content.ordinals) (all_opened v.content.ordinals.lo v.content.series v.kept is.each may)

pub opened_kept : (v : View) → AreOpenable v.content.ordinals.lo v.content.series v.kept → kept_now (world_of v) ≡ v.kept
opened_kept v may = all_live v.content.ordinals.lo v.content.series v.kept may

-- ---- The world is valid

series_opened : (lo : ℕ) (o : SeriesMeta) (leaves : List Leaf) → IsOpenable lo o leaves → IsSeriesOf o (series_of o leaves)
series_opened lo o leaves may = record {
  first = may.first;
  numbers = may.numbers;
  count = may.count;
  least = omega (arith, may.count);
  most = omega arith;
  history = tt;
  each = tt;
  last_is = ap (λ (t : ℕ). if o.leaves == 0 then None else Some t) (sym may.last);
}

each_opened : (lo : ℕ) (all : List SeriesMeta) (kept : List (List Leaf)) → AreOpenable lo all kept → AreSeriesOf all (all_series all kept)
each_opened lo [] kept may = refl
each_opened lo (o ∷ all) [] may = absurd may
each_opened lo (o ∷ all) (leaves ∷ kept) may = (series_opened lo o leaves may.0, each_opened lo all kept may.1)

each_held : (lo : ℕ) (all : List SeriesMeta) (kept : List (List Leaf)) → AreOpenable lo all kept → AreHeld lo all kept (all_series all kept)
each_held lo [] kept may = may
each_held lo (o ∷ all) [] may = absurd may
each_held lo (o ∷ all) (leaves ∷ kept) may = (record { name = refl; had = leaves; later = []; closed = sym (append-nil leaves); count = omega arith; rest = []; points = refl; kept_is = sym may.0.live }, each_held lo all kept may.1)

pub opened_valid : (v : View) → IsMeta v.content → AreOpenable v.content.ordinals.lo v.content.series v.kept → IsWorld (world_of v)
opened_valid v is may = record {
  rules_are = is;
  limits_are = refl;
  lawful = is.ordinals_are;
  volumes = is.volumes;
  blocks = is.blocks;
  behind = record { volumes = refl; blocks = refl; lo = refl; number = refl; live = λ a live. live };
  series = each_opened v.content.ordinals.lo v.content.series v.kept may;
  recent = tt;
  held = (each_held v.content.ordinals.lo v.content.series v.kept may, tt);
}

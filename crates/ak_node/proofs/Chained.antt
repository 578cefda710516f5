-- The disk of a forest has all live leaves of each series.
use Rattle.std.proofs.Common.{◌≡◌, ◌∙◌, ℕ, zero, suc, ◌<◌, List, [], ◌∷◌, length, get_or, refl, sym, ap, subst, arith}
use Rattle.ak_host.specs.Files.{Files}
use Rattle.ak_host.specs.Moments.{HostState}
use Rattle.ak_image.specs.Blocks.{Seen, seen_in}
use Rattle.ak_image.specs.Laid.{rescue_in}
use Rattle.ak_meta.specs.Contents.{Content, rescue_at}
use Rattle.ak_meta.specs.Leaves.{leaves_at}
use Rattle.ak_meta.specs.declared.meta.SeriesMeta.{SeriesMeta}
use Rattle.ak_repair.proofs.Chained.{IsAlive, at_map, at_one, at_place, at_some, laid_at, leaves_at_place, not_broken, rescue_in_place, scan_alive}
use Rattle.ak_repair.specs.Walks.{IsAt, IsBrokenIn}
use Rattle.ak_tree.specs.Standing.{Trees, Holds}
use Rattle.ak_world.specs.Leaves.{Leaf, Series, leaves_from}
use Rattle.ak_world.specs.Views.{known_of, all_known}
use Rattle.ak_world.specs.Worlds.{World, content_now, kept_now}

-- a record tells each series under its name
pub record IsToldAs (all : List SeriesMeta) (n : ℕ) (name : List ℕ) : Type 0 where
  pub known : SeriesMeta
  pub is : IsAt all n known
  pub name_is : known.name ≡ name

pub told_as : (opened : List SeriesMeta) (ss : List Series) (n : ℕ) (s : Series) → IsAt ss n s → IsToldAs (all_known opened ss) n s.name
told_as opened [] n s is = absurd is
told_as [] (t ∷ ss) zero s is = record { known = known_of (record { name = t.name; leaves = 0; last = 0; rescue = [] }) t; is = refl; name_is = ap (λ (r : Series). r.name) is }
told_as (o ∷ opened) (t ∷ ss) zero s is = record { known = known_of o t; is = refl; name_is = ap (λ (r : Series). r.name) is }
told_as [] (t ∷ ss) (suc n) s is = let on = told_as [] ss n s is in record { known = on.known; is = on.is; name_is = on.name_is }
told_as (o ∷ opened) (t ∷ ss) (suc n) s is = let on = told_as opened ss n s is in record { known = on.known; is = on.is; name_is = on.name_is }

-- ---- Forests

-- the disk of a forest has the kept leaves of a series as its live ones
pub record IsKeptAt (w : World) (f : Trees) (host : HostState) (n : ℕ) (s : Series) : Type 0 where
  pub known : SeriesMeta
  pub is : IsAt f.meta.series n known
  pub name_is : known.name ≡ s.name
  pub alive : IsAlive (seen_in f.meta.ordinals.volumes host.files) f.meta.ordinals n (leaves_at f.meta.series n) (rescue_in f.meta.series n) (leaves_from w.ordinals.lo s.closed)

abbrev AliveIn : Content → Files → ℕ → List Leaf → Type 0
AliveIn c files n leaves = IsAlive (seen_in c.ordinals.volumes files) c.ordinals n (leaves_at c.series n) (rescue_in c.series n) leaves

pub kept_at : (w : World) (f : Trees) (host : HostState) (n : ℕ) (s : Series) → Holds w f host → IsAt w.series n s → IsKeptAt w f host n s
kept_at w f host n s holds is =
    let c = content_now w in
    let told = told_as w.opened.content.series w.series n s is in
    let seen : Seen = seen_in c.limits.volumes host.files in
    let laid = laid_at seen w.ordinals.lo w.ordinals.fills 0 n n c.series (kept_now w) told.known (omega arith) holds.stored.laid.leaves told.is in
    let leaves : laid.leaves ≡ leaves_from w.ordinals.lo s.closed = at_one (kept_now w) n laid.leaves (leaves_from w.ordinals.lo s.closed) laid.is
    (at_map (λ (t : Series). leaves_from w.ordinals.lo t.closed) w.series n s is) in
    let alive : IsAlive seen w.ordinals n told.known.leaves (rescue_at told.known.rescue 0) laid.leaves =
    scan_alive seen w.ordinals n told.known laid.leaves holds.keeps.valid.lawful laid.scan laid.chain in
    let alive_there : IsAlive seen w.ordinals n told.known.leaves (rescue_at told.known.rescue 0) (leaves_from w.ordinals.lo s.closed) =
    subst (IsAlive seen w.ordinals n told.known.leaves (rescue_at told.known.rescue 0)) leaves alive in
    let counted : IsAlive seen w.ordinals n (leaves_at c.series n) (rescue_at told.known.rescue 0) (leaves_from w.ordinals.lo s.closed) =
    subst (λ (m : ℕ). IsAlive seen w.ordinals n m (rescue_at told.known.rescue 0) (leaves_from w.ordinals.lo s.closed)) (sym (leaves_at_place c.series n told.known told.is)) alive_there in
    let rescued : IsAlive seen w.ordinals n (leaves_at c.series n) (rescue_in c.series n) (leaves_from w.ordinals.lo s.closed) =
    subst (λ (m : ℕ). IsAlive seen w.ordinals n (leaves_at c.series n) m (leaves_from w.ordinals.lo s.closed)) (sym (rescue_in_place c.series n told.known told.is)) counted in
    let there : AliveIn c host.files n (leaves_from w.ordinals.lo s.closed) =
    subst (λ (v : ℕ). IsAlive (seen_in v host.files) w.ordinals n (leaves_at c.series n) (rescue_in c.series n) (leaves_from w.ordinals.lo s.closed)) (sym holds.keeps.valid.volumes) rescued in
    record {
      known = told.known;
      is = subst (λ (m : Content). IsAt m.series n told.known) (sym holds.keeps.content_is) told.is;
      name_is = told.name_is;
      alive = subst (λ (m : Content). AliveIn m host.files n (leaves_from w.ordinals.lo s.closed)) (sym holds.keeps.content_is) there;
    }

-- ---- What a forest holds

told_long : (opened : List SeriesMeta) (ss : List Series) → length (all_known opened ss) ≡ length ss
told_long opened [] = refl
told_long [] (s ∷ ss) = omega (arith, told_long [] ss)
told_long (o ∷ opened) (s ∷ ss) = omega (arith, told_long opened ss)

pub as_many : (w : World) (f : Trees) → f.meta ≡ content_now w → length f.meta.series ≡ length w.series
as_many w f is = ap (λ (c : Content). length c.series) is ∙ told_long w.opened.content.series w.series

-- no walk breaks
pub never_broken : (w : World) (f : Trees) (host : HostState) (n file block : ℕ) → Holds w f host → n < length f.meta.series → IsBrokenIn f.meta host.files n file block → ⊥
never_broken w f host n file block holds within broken =
    let s = at_some w.series n (omega (arith, within, as_many w f holds.keeps.content_is)) in
    not_broken (kept_at w f host n s.0 holds s.1).alive broken

-- the name of a series in the record is its own
pub named_at : (w : World) (f : Trees) (host : HostState) (n : ℕ) (s : Series) (t : SeriesMeta) → Holds w f host → IsAt w.series n s → n < length f.meta.series → t ≡ get_or f.meta.series n t → t.name ≡ s.name
named_at w f host n s t holds is within here =
    let kept = kept_at w f host n s holds is in
    ap (λ (m : SeriesMeta). m.name) (at_one f.meta.series n t kept.known (at_place f.meta.series n t within here) kept.is) ∙ kept.name_is

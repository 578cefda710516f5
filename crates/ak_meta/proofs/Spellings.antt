-- What the parts of a spelling tell: how long they are, and that they are one content's.
use Rattle.std.proofs.Common.{◌≡◌, ◌+◌, ◌-◌, ◌*◌, ◌^◌, ◌<◌, ◌≤◌, ◌∙◌, ℕ, List, [], ◌∷◌, ◌++◌, length, map, sum, refl, sym, ap, ap₂, arith, append_assoc, length-append}
use Rattle.std.proofs.lemmas.List.{length-replicate}
use Rattle.std.proofs.lemmas.List.Sums.{sum_by-cons}
use Rattle.std.proofs.Math.ListN.{replicate}
use Rattle.std.specs.List.{flat_map, AllByRecursion}
use Rattle.byteorder.specs.Endian.{little_bytes}
use Rattle.ak_base.specs.declared.limits.Limits.{Limits}
use Rattle.ak_base.specs.declared.point.Addr.{Addr}
use Rattle.ak_base.specs.Ranges.{AreLimits}
use Rattle.ak_bytes.proofs.FixedFields.{same_field}
use Rattle.ak_bytes.proofs.Parts.{same_ends}
use Rattle.ak_meta.specs.declared.meta.SeriesMeta.{SeriesMeta}
use Rattle.ak_meta.specs.Contents.{limits_bytes, front_bytes, fills_bytes, series_bytes, rescue_bytes, IsSeries}
use Rattle.ak_meta.proofs.Fronts.{same_fronts, length-field, front_field, long_row, one_row}

-- each limit fits its field
pub record FitFields (limits : Limits) : Type 0 where
  pub volumes : limits.volumes < 2 ^ 32
  pub blocks : limits.blocks < 2 ^ 32
  pub slot : limits.slot < 2 ^ 32
  pub pool : limits.pool < 2 ^ 32
  pub every : limits.every < 2 ^ 32
  pub scale : limits.scale < 2 ^ 32

pub limits_fit : (limits : Limits) → AreLimits limits → FitFields limits
limits_fit limits are = record {
  volumes = omega arith;
  blocks = omega arith;
  slot = omega arith;
  pool = omega arith;
  every = omega arith;
  scale = omega arith;
}

made_limits : (volumes blocks slot pool every scale : ℕ) → Limits
made_limits volumes blocks slot pool every scale = record { volumes = volumes; blocks = blocks; slot = slot; pool = pool; every = every; scale = scale }

limits_made : (l : Limits) → made_limits l.volumes l.blocks l.slot l.pool l.every l.scale ≡ l
unfolding made_limits
limits_made l = refl

same_limits : (l m : Limits) → l.volumes ≡ m.volumes → l.blocks ≡ m.blocks → l.slot ≡ m.slot → l.pool ≡ m.pool → l.every ≡ m.every → l.scale ≡ m.scale → l ≡ m
same_limits l m volumes blocks slot pool every scale =
    let same : made_limits l.volumes l.blocks l.slot l.pool l.every l.scale ≡ made_limits m.volumes m.blocks m.slot m.pool m.every m.scale = cc in
    sym (limits_made l) ∙ same ∙ limits_made m

pub length-limits : (l : Limits) → length (limits_bytes l) ≡ 24
unfolding limits_bytes
length-limits l = simp length-append

pub one_limits : (l m : Limits) → FitFields l → FitFields m → limits_bytes l ≡ limits_bytes m → l ≡ m
unfolding limits_bytes
one_limits l m f f' e =
    let a = same_field 4 l.scale m.scale _ _ f.scale f'.scale e in
    let b = same_field 4 l.every m.every _ _ f.every f'.every a.0 in
    let d = same_field 4 l.pool m.pool _ _ f.pool f'.pool b.0 in
    let g = same_field 4 l.slot m.slot _ _ f.slot f'.slot d.0 in
    let h = same_field 4 l.blocks m.blocks _ _ f.blocks f'.blocks g.0 in
    let i = same_field 4 l.volumes m.volumes [] [] f.volumes f'.volumes h.0 in
    same_limits l m i.1 h.1 g.1 d.1 b.1 a.1

pub length-front : (l : Limits) (lo live series : ℕ) → length (front_bytes l lo live series) ≡ 40
unfolding front_bytes
length-front l lo live series = simp (length-append, length-limits)

-- the format and the limits that a front has
pub front_limits : (format : List ℕ) (l m : Limits) (a b d a' b' d' : ℕ) → FitFields l → FitFields m → format ++ limits_bytes l ++ little_bytes 4 a ++ little_bytes 4 b ++ little_bytes 4 d ≡ front_bytes m a' b' d' → (format ≡ little_bytes 4 1) × (l ≡ m)
unfolding front_bytes
front_limits format l m a b d a' b' d' f f' e =
    let last = same_ends _ _ (little_bytes 4 d) (little_bytes 4 d') (length-field 4 d ∙ sym (length-field 4 d')) e in
    let mid = same_ends _ _ (little_bytes 4 b) (little_bytes 4 b') (length-field 4 b ∙ sym (length-field 4 b')) last.0 in
    let first = same_ends _ _ (little_bytes 4 a) (little_bytes 4 a') (length-field 4 a ∙ sym (length-field 4 a')) mid.0 in
    let both = same_ends format (little_bytes 4 1) (limits_bytes l) (limits_bytes m) (length-limits l ∙ sym (length-limits m)) first.0 in
    (both.0, one_limits l m f f' both.1)

-- a front that is read part by part
pub front_read : (l : Limits) (lo live series : ℕ) (format whole : List ℕ) → whole ≡ format ++ limits_bytes l ++ little_bytes 4 lo ++ little_bytes 4 live ++ little_bytes 4 series → format ≡ little_bytes 4 1 → whole ≡ front_bytes l lo live series
unfolding front_bytes
front_read l lo live series format whole e is = e ∙ ap (λ (f : List ℕ). f ++ limits_bytes l ++ little_bytes 4 lo ++ little_bytes 4 live ++ little_bytes 4 series) is

-- one front has these bytes
pub one_front : (l m : Limits) (lo live series lo' live' series' : ℕ) → FitFields l → FitFields m → lo < 2 ^ 32 → lo' < 2 ^ 32 → live < 2 ^ 32 → live' < 2 ^ 32 → series < 2 ^ 32 → series' < 2 ^ 32
    → front_bytes l lo live series ≡ front_bytes m lo' live' series' → (l ≡ m) × (lo ≡ lo') × (live ≡ live') × (series ≡ series')
unfolding front_bytes
one_front l m lo live series lo' live' series' f f' a a' b b' d d' e =
    let last = same_field 4 series series' _ _ (omega (arith, d)) (omega (arith, d')) e in
    let mid = same_field 4 live live' _ _ (omega (arith, b)) (omega (arith, b')) last.0 in
    let first = same_field 4 lo lo' _ _ (omega (arith, a)) (omega (arith, a')) mid.0 in
    let both = same_ends (little_bytes 4 1) (little_bytes 4 1) (limits_bytes l) (limits_bytes m) (length-limits l ∙ sym (length-limits m)) first.0 in
    (one_limits l m f f' both.1, first.1, mid.1, last.1)

-- the fills of the live ordinals
pub length-fills : (volumes : ℕ) (fills : List ℕ) → length fills ≤ volumes → length (fills_bytes volumes fills) ≡ 4 * volumes
unfolding fills_bytes
length-fills volumes fills most =
    let n = 4 * (volumes - length fills) in
    omega (arith, length-append (flat_map (little_bytes 4) fills) (replicate n 0), long_row (little_bytes 4) 4 (length-field 4) fills, length-replicate {A = ℕ} n 0, most)

one_fill : (a b : ℕ) → a < 2 ^ 32 → b < 2 ^ 32 → little_bytes 4 a ≡ little_bytes 4 b → a ≡ b
one_fill a b small small' e = (same_field 4 a b [] [] (omega (arith, small)) (omega (arith, small')) e).1

pub one_live : (fills fills' : List ℕ) → length fills ≡ length fills' → AllByRecursion (λ (fill : ℕ). fill < 2 ^ 32) fills → AllByRecursion (λ (fill : ℕ). fill < 2 ^ 32) fills'
    → flat_map (little_bytes 4) fills ≡ flat_map (little_bytes 4) fills' → fills ≡ fills'
one_live fills fills' same small small' e = one_row (little_bytes 4) (λ (fill : ℕ). fill < 2 ^ 32) 4 (length-field 4) one_fill fills fills' same small small' e

pub fills_parts : (volumes : ℕ) (fills : List ℕ) → fills_bytes volumes fills ≡ flat_map (little_bytes 4) fills ++ replicate (4 * (volumes - length fills)) 0
unfolding fills_bytes
fills_parts volumes fills = refl

pub one_fills : (volumes : ℕ) (fills fills' : List ℕ) → length fills ≡ length fills' → AllByRecursion (λ (fill : ℕ). fill < 2 ^ 32) fills → AllByRecursion (λ (fill : ℕ). fill < 2 ^ 32) fills'
    → fills_bytes volumes fills ≡ fills_bytes volumes fills' → fills ≡ fills'
one_fills volumes fills fills' same small small' e =
    let long : length (flat_map (little_bytes 4) fills) ≡ length (flat_map (little_bytes 4) fills') = long_row (little_bytes 4) 4 (length-field 4) fills ∙ ap (λ (n : ℕ). 4 * n) same ∙ sym (long_row (little_bytes 4) 4 (length-field 4) fills') in
    let both = same_fronts (flat_map (little_bytes 4) fills) (flat_map (little_bytes 4) fills') (replicate (4 * (volumes - length fills)) 0) (replicate (4 * (volumes - length fills')) 0) long (sym (fills_parts volumes fills) ∙ e ∙ fills_parts volumes fills') in
    one_live fills fills' same small small' both.0

-- what a series' fields have to hold so that they can be read back
pub record FitsSeries (s : SeriesMeta) : Type 0 where
  pub name : length s.name < 2 ^ 16
  pub leaves : s.leaves < 2 ^ 64
  pub last : s.last < 2 ^ 64
  pub levels : length s.rescue ≡ 11
  pub addresses : AllByRecursion (λ (a : Addr). a.0 < 2 ^ 64) s.rescue

pub series_fits : (s : SeriesMeta) → IsSeries s → FitsSeries s
series_fits s is = record {
  name = omega (arith, is.name.named.short.0);
  leaves = is.leaves;
  last = is.last;
  levels = is.levels;
  addresses = is.addresses;
}

made_series : (name : List ℕ) (leaves last : ℕ) (rescue : List Addr) → SeriesMeta
made_series name leaves last rescue = record { name = name; leaves = leaves; last = last; rescue = rescue }

series_made : (s : SeriesMeta) → made_series s.name s.leaves s.last s.rescue ≡ s
unfolding made_series
series_made s = refl

same_series : (s t : SeriesMeta) → s.name ≡ t.name → s.leaves ≡ t.leaves → s.last ≡ t.last → s.rescue ≡ t.rescue → s ≡ t
same_series s t name leaves last rescue =
    let same : made_series s.name s.leaves s.last s.rescue ≡ made_series t.name t.leaves t.last t.rescue = cc in
    sym (series_made s) ∙ same ∙ series_made t

address_bytes : Addr → List ℕ
address_bytes a = little_bytes 8 a.0

length-address : (a : Addr) → length (little_bytes 8 a.0) ≡ 8
length-address a = length-field 8 a.0

made_address : ℕ → Addr
made_address a = record { 0 = a }

address_made : (a : Addr) → made_address a.0 ≡ a
unfolding made_address
address_made a = refl

one_address : (a b : Addr) → a.0 < 2 ^ 64 → b.0 < 2 ^ 64 → little_bytes 8 a.0 ≡ little_bytes 8 b.0 → a ≡ b
one_address a b small small' e =
    let same : a.0 ≡ b.0 = (same_field 8 a.0 b.0 [] [] (omega (arith, small)) (omega (arith, small')) e).1 in
    sym (address_made a) ∙ ap made_address same ∙ address_made b

pub length-rescue : (rescue : List Addr) → length (rescue_bytes rescue) ≡ 8 * length rescue
length-rescue rescue = long_row (λ (a : Addr). little_bytes 8 a.0) 8 length-address rescue

pub one_rescue : (r t : List Addr) → length r ≡ length t → AllByRecursion (λ (a : Addr). a.0 < 2 ^ 64) r → AllByRecursion (λ (a : Addr). a.0 < 2 ^ 64) t → rescue_bytes r ≡ rescue_bytes t → r ≡ t
one_rescue r t same small small' e = one_row (λ (a : Addr). little_bytes 8 a.0) (λ (a : Addr). a.0 < 2 ^ 64) 8 length-address one_address r t same small small' e

-- a series and what stands behind it, part by part
regroup : (a b c d r e : List ℕ) → (a ++ b ++ c ++ d ++ r) ++ e ≡ a ++ (b ++ (c ++ (d ++ (r ++ e))))
regroup a b c d r e =
    append_assoc (a ++ b ++ c ++ d) r e
    ∙ append_assoc (a ++ b ++ c) d (r ++ e)
    ∙ append_assoc (a ++ b) c (d ++ (r ++ e))
    ∙ append_assoc a b (c ++ (d ++ (r ++ e)))

pub series_parts : (s : SeriesMeta) (rest : List ℕ) → series_bytes s ++ rest ≡ little_bytes 2 (length s.name) ++ (s.name ++ (little_bytes 8 s.leaves ++ (little_bytes 8 s.last ++ (rescue_bytes s.rescue ++ rest))))
unfolding series_bytes
series_parts s rest = regroup (little_bytes 2 (length s.name)) s.name (little_bytes 8 s.leaves) (little_bytes 8 s.last) (rescue_bytes s.rescue) rest

pub length-series : (s : SeriesMeta) → length s.rescue ≡ 11 → length (series_bytes s) ≡ 106 + length s.name
unfolding series_bytes
length-series s levels =
    let a : List ℕ = little_bytes 2 (length s.name) in
    let b : List ℕ = little_bytes 8 s.leaves in
    let d : List ℕ = little_bytes 8 s.last in
    omega (
      arith,
      length-append (a ++ s.name ++ b ++ d) (rescue_bytes s.rescue),
      length-append (a ++ s.name ++ b) d,
      length-append (a ++ s.name) b,
      length-append a s.name,
      length-field 2 (length s.name),
      length-field 8 s.leaves,
      length-field 8 s.last,
      length-rescue s.rescue,
      levels,
    )

-- one series is spelled in front
pub one_series : (s t : SeriesMeta) (x y : List ℕ) → FitsSeries s → FitsSeries t → series_bytes s ++ x ≡ series_bytes t ++ y → (s ≡ t) × (x ≡ y)
one_series s t x y f f' e =
    let parted = sym (series_parts s x) ∙ e ∙ series_parts t y in
    let r : List ℕ = rescue_bytes s.rescue ++ x in
    let r' : List ℕ = rescue_bytes t.rescue ++ y in
    let l : List ℕ = little_bytes 8 s.last ++ r in
    let l' : List ℕ = little_bytes 8 t.last ++ r' in
    let k : List ℕ = little_bytes 8 s.leaves ++ l in
    let k' : List ℕ = little_bytes 8 t.leaves ++ l' in
    let sizes = front_field 2 (length s.name) (length t.name) (s.name ++ k) (t.name ++ k') (omega (arith, f.name)) (omega (arith, f'.name)) parted in
    let names = same_fronts s.name t.name k k' sizes.0 sizes.1 in
    let leaves = front_field 8 s.leaves t.leaves l l' (omega (arith, f.leaves)) (omega (arith, f'.leaves)) names.1 in
    let last = front_field 8 s.last t.last r r' (omega (arith, f.last)) (omega (arith, f'.last)) leaves.1 in
    let levels : length s.rescue ≡ length t.rescue = f.levels ∙ sym f'.levels in
    let long : length (rescue_bytes s.rescue) ≡ length (rescue_bytes t.rescue) = length-rescue s.rescue ∙ ap (λ (n : ℕ). 8 * n) levels ∙ sym (length-rescue t.rescue) in
    let rows = same_fronts (rescue_bytes s.rescue) (rescue_bytes t.rescue) x y long last.1 in
    (same_series s t names.0 leaves.0 last.0 (one_rescue s.rescue t.rescue levels f.addresses f'.addresses rows.0), rows.1)

-- one list of series is spelled
pub one_all : (all more : List SeriesMeta) → length all ≡ length more → AllByRecursion IsSeries all → AllByRecursion IsSeries more → flat_map series_bytes all ≡ flat_map series_bytes more → all ≡ more
one_all [] [] same each each' e = refl
one_all [] (t ∷ more) same each each' e = absurd (omega arith)
one_all (s ∷ all) [] same each each' e = absurd (omega arith)
one_all (s ∷ all) (t ∷ more) same each each' e =
    let front = one_series s t (flat_map series_bytes all) (flat_map series_bytes more) (series_fits s each.0) (series_fits t each'.0) e in
    ap₂ (λ (h : SeriesMeta) (l : List SeriesMeta). h ∷ l) front.0 (one_all all more (omega arith) each.1 each'.1 front.1)

pub length-all : (all : List SeriesMeta) → AllByRecursion IsSeries all → length (flat_map series_bytes all) ≡ sum (map (λ (s : SeriesMeta). 106 + length s.name) all)
length-all [] each = refl
length-all (s ∷ all) each =
    omega (
      arith,
      length-append (series_bytes s) (flat_map series_bytes all),
      length-series s each.0.levels,
      length-all all each.1,
      sum_by-cons (λ (n : ℕ). n) (106 + length s.name) (map (λ (t : SeriesMeta). 106 + length t.name) all),
    )

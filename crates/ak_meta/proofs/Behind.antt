-- What bytes spell: fills, a series, and series one behind another.
use Rattle.std.proofs.Common.{◌≡◌, ◌+◌, ◌-◌, ◌*◌, ◌^◌, ◌<◌, ◌≤◌, ◌∙◌, ℕ, List, ◌++◌, length, take, drop, sym, ap, arith, append_assoc, length-append, length-drop}
use Rattle.std.proofs.lemmas.List.{take_at, length-take-le, length-replicate}
use Rattle.std.proofs.Math.ListN.{replicate}
use Rattle.std.proofs.Math.Seq.{take-add}
use Rattle.std.specs.List.{flat_map, AllByRecursion}
use Rattle.byteorder.specs.Endian.{little_bytes}
use Rattle.ak_base.specs.declared.point.Addr.{Addr}
use Rattle.ak_meta.specs.declared.meta.SeriesMeta.{SeriesMeta}
use Rattle.ak_meta.specs.Contents.{fills_bytes, series_bytes, rescue_bytes}
use Rattle.ak_meta.proofs.Fronts.{same_fronts, length-field, front_field, behind_front, all_behind, long_row}
use Rattle.ak_meta.proofs.Joining.{step}
use Rattle.ak_meta.proofs.Spellings.{fills_parts, one_live, FitsSeries, series_parts, length-series, one_series}

-- the fills that are spelled are those that are read, and the bytes behind them are zeros
pub fills_found : (from got fills : List ℕ) (v live : ℕ) → live ≤ v → 40 + 4 * v ≤ length from → length got ≡ live → length fills ≡ live → AllByRecursion (λ (fill : ℕ). fill < 2 ^ 32) got → AllByRecursion (λ (fill : ℕ). fill < 2 ^ 32) fills
    → take (40 + 4 * live) from ≡ take 40 from ++ flat_map (little_bytes 4) got → take (40 + 4 * v) from ≡ take 40 from ++ fills_bytes v fills
    → (got ≡ fills) × (take (40 + 4 * v - (40 + 4 * live)) (drop (40 + 4 * live) from) ≡ replicate (4 * (v - live)) 0)
fills_found from got fills v live few within many many' small small' read spelled =
    let f : List ℕ = flat_map (little_bytes 4) got in
    let g : List ℕ = flat_map (little_bytes 4) fills in
    let n = 4 * (v - live) in
    let z : List ℕ = replicate n 0 in
    let r : List ℕ = drop (40 + 4 * v) from in
    let first = behind_front from f 40 (40 + 4 * live) (omega (arith, within)) read in
    let same : fills_bytes v fills ≡ g ++ z = fills_parts v fills ∙ ap (λ (m : ℕ). g ++ replicate (4 * (v - m)) 0) many' in
    let second : drop 40 from ≡ g ++ (z ++ r) = behind_front from (fills_bytes v fills) 40 (40 + 4 * v) (omega (arith, within)) spelled ∙ ap (λ (l : List ℕ). l ++ r) same ∙ append_assoc g z r in
    let long : length f ≡ length g = omega (arith, long_row (little_bytes 4) 4 (length-field 4) got, long_row (little_bytes 4) 4 (length-field 4) fills, many, many') in
    let both = same_fronts f g (drop (40 + 4 * live) from) (z ++ r) long (sym first ∙ second) in
    let size : length z ≡ 40 + 4 * v - (40 + 4 * live) = omega (arith, length-replicate {A = ℕ} n 0, few) in
    (one_live got fills (omega (arith, many, many')) small small' both.0, ap (take (40 + 4 * v - (40 + 4 * live))) both.1 ∙ take_at z r (40 + 4 * v - (40 + 4 * live)) size)

-- fills that are read, and zeros behind them
pub fills_read : (from got : List ℕ) (v live : ℕ) → live ≤ v → length got ≡ live → take (40 + 4 * live) from ≡ take 40 from ++ flat_map (little_bytes 4) got
    → take (40 + 4 * v - (40 + 4 * live)) (drop (40 + 4 * live) from) ≡ replicate (4 * (v - live)) 0 → take (40 + 4 * v) from ≡ take 40 from ++ fills_bytes v got
fills_read from got v live few many read zeros =
    let n = 40 + 4 * v - (40 + 4 * live) in
    let f : List ℕ = flat_map (little_bytes 4) got in
    let end : 40 + 4 * v ≡ 40 + 4 * live + n = omega (arith, few) in
    let whole : take (40 + 4 * v) from ≡ take (40 + 4 * live) from ++ replicate (4 * (v - live)) 0 =
    ap (λ (k : ℕ). take k from) end ∙ take-add (40 + 4 * live) n from ∙ ap (λ (l : List ℕ). take (40 + 4 * live) from ++ l) zeros in
    step (take 40 from) f (replicate (4 * (v - live)) 0) (take (40 + 4 * live) from) (take (40 + 4 * v) from) whole read
    ∙ ap (λ (m : ℕ). take 40 from ++ (f ++ replicate (4 * (v - m)) 0)) (sym many)
    ∙ ap (λ (l : List ℕ). take 40 from ++ l) (sym (fills_parts v got))

pub series_behind : (from rest : List ℕ) (at : ℕ) (s : SeriesMeta) → at ≤ length from → from ≡ take at from ++ series_bytes s ++ rest → drop at from ≡ series_bytes s ++ rest
series_behind from rest at s within e = all_behind from (series_bytes s ++ rest) at within (e ∙ append_assoc (take at from) (series_bytes s) rest)

pub series_long : (from rest : List ℕ) (at : ℕ) (s : SeriesMeta) → at ≤ length from → length s.rescue ≡ 11 → drop at from ≡ series_bytes s ++ rest → length from ≡ at + (106 + length s.name) + length rest
series_long from rest at s within levels e = omega (arith, within, length-drop at from, ap length e, length-append (series_bytes s) rest, length-series s levels)

-- the length of the name is the number in front, and the name stands behind it
pub series_name : (from rest : List ℕ) (at long : ℕ) (s : SeriesMeta) → at + 2 ≤ length from → long < 2 ^ 16 → length s.name < 2 ^ 16 → take (at + 2) from ≡ take at from ++ little_bytes 2 long → drop at from ≡ series_bytes s ++ rest
    → (long ≡ length s.name) × (take (at + 2 + long - (at + 2)) (drop (at + 2) from) ≡ s.name)
series_name from rest at long s within small small' read e =
    let behind : List ℕ = little_bytes 8 s.leaves ++ (little_bytes 8 s.last ++ (rescue_bytes s.rescue ++ rest)) in
    let front = behind_front from (little_bytes 2 long) at (at + 2) (omega (arith, within)) read in
    let both = front_field 2 long (length s.name) (drop (at + 2) from) (s.name ++ behind) (omega (arith, small)) (omega (arith, small')) (sym front ∙ e ∙ series_parts s rest) in
    let size : length s.name ≡ at + 2 + long - (at + 2) = omega (arith, both.0) in
    (both.0, ap (take (at + 2 + long - (at + 2))) both.1 ∙ take_at s.name behind (at + 2 + long - (at + 2)) size)

abbrev pub series_of : List ℕ → ℕ → ℕ → List Addr → SeriesMeta
series_of name leaves last rescue = record { name = name; leaves = leaves; last = last; rescue = rescue }

-- a series that is read part by part
pub series_read : (from name : List ℕ) (at long leaves last : ℕ) (rescue : List Addr) → at + 2 + long ≤ length from → name ≡ take (at + 2 + long - (at + 2)) (drop (at + 2) from)
    → take (at + 2) from ≡ take at from ++ little_bytes 2 long → take (at + 2 + long + 8) from ≡ take (at + 2 + long) from ++ little_bytes 8 leaves → take (at + 2 + long + 8 + 8) from ≡ take (at + 2 + long + 8) from ++ little_bytes 8 last
    → take (at + 2 + long + 16 + 88) from ≡ take (at + 2 + long + 16) from ++ rescue_bytes rescue → take (at + 2 + long + 104) from ≡ take at from ++ series_bytes (series_of name leaves last rescue)
unfolding series_bytes
series_read from name at long leaves last rescue within is first second third fourth =
    let middle = at + 2 + long in
    let cut : take (middle - (at + 2)) (drop (at + 2) from) ≡ take long (drop (at + 2) from) = ap (λ (m : ℕ). take m (drop (at + 2) from)) (omega arith) in
    let size : length name ≡ long = ap length (is ∙ cut) ∙ length-take-le long (drop (at + 2) from) (omega (arith, within, length-drop (at + 2) from)) in
    let front : List ℕ = take at from in
    let a : List ℕ = little_bytes 2 (length name) in
    let b : List ℕ = a ++ name in
    let d : List ℕ = b ++ little_bytes 8 leaves in
    let e : List ℕ = d ++ little_bytes 8 last in
    let named : take middle from ≡ take (at + 2) from ++ name = take-add (at + 2) long from ∙ ap (λ (l : List ℕ). take (at + 2) from ++ l) (sym (is ∙ cut)) in
    let end : middle + 104 ≡ middle + 16 + 88 = omega arith in
    let place : middle + 16 ≡ middle + 8 + 8 = omega arith in
    ap (λ (k : ℕ). take k from) end
    ∙ step front e (rescue_bytes rescue) (take (middle + 16) from) (take (middle + 16 + 88) from) fourth
    (ap (λ (k : ℕ). take k from) place
    ∙ step front d (little_bytes 8 last) (take (middle + 8) from) (take (middle + 8 + 8) from) third
    (step front b (little_bytes 8 leaves) (take middle from) (take (middle + 8) from) second
    (step front a name (take (at + 2) from) (take middle from) named (first ∙ ap (λ (m : ℕ). front ++ little_bytes 2 m) (sym size)))))

-- the series that is spelled is the one that is read
pub series_same : (from rest : List ℕ) (at end : ℕ) (s t : SeriesMeta) → at ≤ length from → FitsSeries s → FitsSeries t → take end from ≡ take at from ++ series_bytes s → drop at from ≡ series_bytes t ++ rest → s ≡ t
series_same from rest at end s t within fits fits' read e = (one_series s t (drop end from) rest fits fits' (sym (behind_front from (series_bytes s) at end within read) ∙ e)).0

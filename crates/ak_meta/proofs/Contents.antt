-- One content is spelled, and what keeps the rules.
use Rattle.std.proofs.Common.{◌≡◌, ◌+◌, ◌*◌, ◌^◌, ◌<◌, ◌≤◌, ◌∙◌, ℕ, List, ◌++◌, length, take, refl, sym, ap, subst, arith, append_assoc, length-append}
use Rattle.std.proofs.lemmas.List.{take_at}
use Rattle.std.specs.List.{flat_map, AllByRecursion}
use Rattle.ak_base.specs.declared.limits.Limits.{Limits}
use Rattle.ak_base.specs.Ranges.{AreLimits}
use Rattle.ak_volumes.specs.Ordinals.{Ordinals, ordinals, AreOrdinals}
use Rattle.ak_meta.specs.declared.meta.SeriesMeta.{SeriesMeta}
use Rattle.ak_meta.specs.Contents.{Content, content, meta_bytes, front_bytes, fills_bytes, series_bytes, size_of, IsMeta, IsSeries, Spells}
use Rattle.ak_meta.proofs.Fronts.{same_fronts, each_taken, all_behind}
use Rattle.ak_meta.proofs.Spellings.{limits_fit, length-front, length-fills, length-all, one_front, one_fills, one_all}

made : Limits → ℕ → ℕ → ℕ → List ℕ → List SeriesMeta → Content
made limits volumes blocks lo fills series = content limits (ordinals volumes blocks lo fills) series

made_of : (c : Content) → made c.limits c.ordinals.volumes c.ordinals.blocks c.ordinals.lo c.ordinals.fills c.series ≡ c
unfolding made
made_of c = refl

-- the numbers of a front fit
pub record FitsFront (c : Content) : Type 0 where
  pub lo : c.ordinals.lo < 2 ^ 32
  pub live : length c.ordinals.fills < 2 ^ 32
  pub most : length c.ordinals.fills ≤ c.limits.volumes
  pub fills : AllByRecursion (λ (fill : ℕ). fill < 2 ^ 32) c.ordinals.fills

pub front_fits : (c : Content) → IsMeta c → FitsFront c
front_fits c is =
    let most : length c.ordinals.fills ≤ c.limits.volumes = subst (λ (n : ℕ). length c.ordinals.fills ≤ n) is.volumes is.ordinals_are.most in
    record {
      lo = omega (arith, is.ordinals_are.last, is.ordinals_are.some);
      live = omega (arith, most, is.limits_are.volumes_most);
      most = most;
      fills = each_taken (λ (fill : ℕ). fill ≤ c.ordinals.blocks) (λ (fill : ℕ). fill < 2 ^ 32) (λ fill below. omega (arith, below, is.ordinals_are.indexes)) c.ordinals.fills is.ordinals_are.within;
    }

pub one_meta : (c d : Content) → IsMeta c → IsMeta d → meta_bytes c ≡ meta_bytes d → c ≡ d
one_meta c d is is' e =
    let f = front_fits c is in
    let f' = front_fits d is' in
    let a : List ℕ = front_bytes c.limits c.ordinals.lo (length c.ordinals.fills) (length c.series) in
    let a' : List ℕ = front_bytes d.limits d.ordinals.lo (length d.ordinals.fills) (length d.series) in
    let b : List ℕ = fills_bytes c.limits.volumes c.ordinals.fills in
    let b' : List ℕ = fills_bytes d.limits.volumes d.ordinals.fills in
    let s : List ℕ = flat_map series_bytes c.series in
    let s' : List ℕ = flat_map series_bytes d.series in
    let parted : a ++ (b ++ s) ≡ a' ++ (b' ++ s') = sym (append_assoc a b s) ∙ e ∙ append_assoc a' b' s' in
    let long : length a ≡ length a' = length-front c.limits c.ordinals.lo (length c.ordinals.fills) (length c.series) ∙ sym (length-front d.limits d.ordinals.lo (length d.ordinals.fills) (length d.series)) in
    let fronts = same_fronts a a' (b ++ s) (b' ++ s') long parted in
    let one = one_front c.limits d.limits c.ordinals.lo (length c.ordinals.fills) (length c.series) d.ordinals.lo (length d.ordinals.fills) (length d.series) (limits_fit c.limits is.limits_are) (limits_fit d.limits is'.limits_are) f.lo f'.lo f.live f'.live is.few is'.few fronts.0 in
    let volumes : c.limits.volumes ≡ d.limits.volumes = ap (λ (l : Limits). l.volumes) one.0 in
    let blocks : c.limits.blocks ≡ d.limits.blocks = ap (λ (l : Limits). l.blocks) one.0 in
    let size : length b ≡ length b' = length-fills c.limits.volumes c.ordinals.fills f.most ∙ ap (λ (n : ℕ). 4 * n) volumes ∙ sym (length-fills d.limits.volumes d.ordinals.fills f'.most) in
    let rows = same_fronts b b' s s' size fronts.1 in
    let fills : c.ordinals.fills ≡ d.ordinals.fills = one_fills d.limits.volumes c.ordinals.fills d.ordinals.fills one.2 f.fills f'.fills (ap (λ (n : ℕ). fills_bytes n c.ordinals.fills) (sym volumes) ∙ rows.0) in
    let series : c.series ≡ d.series = one_all c.series d.series one.3 is.each is'.each rows.1 in
    let same_volumes : c.ordinals.volumes ≡ d.ordinals.volumes = is.volumes ∙ volumes ∙ sym is'.volumes in
    let same_blocks : c.ordinals.blocks ≡ d.ordinals.blocks = is.blocks ∙ blocks ∙ sym is'.blocks in
    let lo : c.ordinals.lo ≡ d.ordinals.lo = one.1 in
    let limits : c.limits ≡ d.limits = one.0 in
    let same : made c.limits c.ordinals.volumes c.ordinals.blocks c.ordinals.lo c.ordinals.fills c.series ≡ made d.limits d.ordinals.volumes d.ordinals.blocks d.ordinals.lo d.ordinals.fills d.series = cc in
    sym (made_of c) ∙ same ∙ made_of d

-- the parts of bytes that spell a content
pub record ArePartsOf (from : List ℕ) (m : Content) : Type 0 where
  pub long : 40 + 4 * m.limits.volumes ≤ length from
  pub front : take 40 from ≡ front_bytes m.limits m.ordinals.lo (length m.ordinals.fills) (length m.series)
  pub fills : take (40 + 4 * m.limits.volumes) from ≡ take 40 from ++ fills_bytes m.limits.volumes m.ordinals.fills
  pub rest : from ≡ take (40 + 4 * m.limits.volumes) from ++ flat_map series_bytes m.series

pub parts_of : (from : List ℕ) (m : Content) → Spells from m → ArePartsOf from m
parts_of from m spells =
    let is = spells.rules_are in
    let v = m.limits.volumes in
    let f = front_fits m is in
    let a : List ℕ = front_bytes m.limits m.ordinals.lo (length m.ordinals.fills) (length m.series) in
    let b : List ℕ = fills_bytes v m.ordinals.fills in
    let s : List ℕ = flat_map series_bytes m.series in
    let long : length a ≡ 40 = length-front m.limits m.ordinals.lo (length m.ordinals.fills) (length m.series) in
    let both : length (a ++ b) ≡ 40 + 4 * v = omega (arith, length-append a b, long, length-fills v m.ordinals.fills f.most) in
    let front : take 40 from ≡ a = ap (take 40) (spells.is ∙ append_assoc a b s) ∙ take_at a (b ++ s) 40 long in
    let middle : take (40 + 4 * v) from ≡ a ++ b = ap (take (40 + 4 * v)) spells.is ∙ take_at (a ++ b) s (40 + 4 * v) both in
    record {
      long = omega (arith, ap length spells.is, length-append (a ++ b) s, both);
      front = front;
      fills = middle ∙ ap (λ (l : List ℕ). l ++ b) (sym front);
      rest = spells.is ∙ ap (λ (l : List ℕ). l ++ s) (sym middle);
    }

-- what stands in front is that of the content
pub record IsFrontOf (m : Content) (l : Limits) (lo live count : ℕ) : Type 0 where
  pub limits : l ≡ m.limits
  pub lo_is : lo ≡ m.ordinals.lo
  pub live_is : live ≡ length m.ordinals.fills
  pub count_is : count ≡ length m.series

pub front_of : (from : List ℕ) (m : Content) (l : Limits) (lo live count : ℕ) → IsMeta m → ArePartsOf from m → AreLimits l → lo < 2 ^ 32 → live < 2 ^ 32 → count < 2 ^ 32 → take 40 from ≡ front_bytes l lo live count → IsFrontOf m l lo live count
front_of from m l lo live count is parts are small small' small'' e =
    let f = front_fits m is in
    let one = one_front l m.limits lo live count m.ordinals.lo (length m.ordinals.fills) (length m.series) (limits_fit l are) (limits_fit m.limits is.limits_are) small f.lo small' f.live small'' is.few (sym e ∙ parts.front) in
    record { limits = one.0; lo_is = one.1; live_is = one.2; count_is = one.3 }

pub ordinals_of : (m : Content) (l : Limits) (lo live count : ℕ) → IsMeta m → IsFrontOf m l lo live count → m.ordinals ≡ ordinals l.volumes l.blocks lo m.ordinals.fills
ordinals_of m l lo live count is front =
    let volumes : m.ordinals.volumes ≡ l.volumes = is.volumes ∙ ap (λ (k : Limits). k.volumes) (sym front.limits) in
    let blocks : m.ordinals.blocks ≡ l.blocks = is.blocks ∙ ap (λ (k : Limits). k.blocks) (sym front.limits) in
    let lo_is : m.ordinals.lo ≡ lo = sym front.lo_is in
    let same : ordinals m.ordinals.volumes m.ordinals.blocks m.ordinals.lo m.ordinals.fills ≡ ordinals l.volumes l.blocks lo m.ordinals.fills = cc in
    same

pub lawful_of : (m : Content) (l : Limits) (lo live count : ℕ) → IsMeta m → IsFrontOf m l lo live count → AreOrdinals (ordinals l.volumes l.blocks lo m.ordinals.fills)
lawful_of m l lo live count is front = subst AreOrdinals (ordinals_of m l lo live count is front) is.ordinals_are

pub full_of : (m : Content) (l : Limits) (lo live count : ℕ) → IsMeta m → IsFrontOf m l lo live count → 0 < lo → length m.ordinals.fills ≡ l.volumes
full_of m l lo live count is front some = is.full (omega (arith, some, front.lo_is)) ∙ ap (λ (k : Limits). k.volumes) (sym front.limits)

pub long_of : (from : List ℕ) (m : Content) (l : Limits) → ArePartsOf from m → l ≡ m.limits → 40 + 4 * l.volumes ≤ length from
long_of from m l parts same = subst (λ (k : Limits). 40 + 4 * k.volumes ≤ length from) (sym same) parts.long

pub fills_of : (from : List ℕ) (m : Content) (l : Limits) → ArePartsOf from m → l ≡ m.limits → take (40 + 4 * l.volumes) from ≡ take 40 from ++ fills_bytes l.volumes m.ordinals.fills
fills_of from m l parts same = subst (λ (k : Limits). take (40 + 4 * k.volumes) from ≡ take 40 from ++ fills_bytes k.volumes m.ordinals.fills) (sym same) parts.fills

pub rest_of : (from : List ℕ) (m : Content) (l : Limits) → ArePartsOf from m → l ≡ m.limits → from ≡ take (40 + 4 * l.volumes) from ++ flat_map series_bytes m.series
rest_of from m l parts same = subst (λ (k : Limits). from ≡ take (40 + 4 * k.volumes) from ++ flat_map series_bytes m.series) (sym same) parts.rest

-- the ordinals that are read are those of the content
pub same_ordinals : (from : List ℕ) (m : Content) (l : Limits) (lo live count : ℕ) (o : Ordinals) → IsMeta m → ArePartsOf from m → IsFrontOf m l lo live count → AreOrdinals o → o ≡ ordinals l.volumes l.blocks lo o.fills → length o.fills ≡ live
    → take (40 + 4 * l.volumes) from ≡ take 40 from ++ fills_bytes l.volumes o.fills → o ≡ m.ordinals
same_ordinals from m l lo live count o is parts front are form many e =
    let small : AllByRecursion (λ (fill : ℕ). fill < 2 ^ 32) o.fills = each_taken (λ (fill : ℕ). fill ≤ o.blocks) (λ (fill : ℕ). fill < 2 ^ 32) (λ fill below. omega (arith, below, are.indexes)) o.fills are.within in
    let rows = same_fronts (take 40 from) (take 40 from) (fills_bytes l.volumes o.fills) (fills_bytes l.volumes m.ordinals.fills) refl (sym e ∙ fills_of from m l parts front.limits) in
    let fills : o.fills ≡ m.ordinals.fills = one_fills l.volumes o.fills m.ordinals.fills (many ∙ front.live_is) small (front_fits m is).fills rows.1 in
    form ∙ ap (λ (fs : List ℕ). ordinals l.volumes l.blocks lo fs) fills ∙ sym (ordinals_of m l lo live count is front)

-- the series that are read are those of the content
pub same_all : (from : List ℕ) (m : Content) (l : Limits) (lo live count : ℕ) (all : List SeriesMeta) → IsMeta m → ArePartsOf from m → IsFrontOf m l lo live count → AllByRecursion IsSeries all → length all ≡ count
    → from ≡ take (40 + 4 * l.volumes) from ++ flat_map series_bytes all → all ≡ m.series
same_all from m l lo live count all is parts front each many e =
    let start = 40 + 4 * l.volumes in
    let within = long_of from m l parts front.limits in
    one_all all m.series (many ∙ front.count_is) each is.each (sym (all_behind from (flat_map series_bytes all) start within e) ∙ all_behind from (flat_map series_bytes m.series) start within (rest_of from m l parts front.limits))

-- a spelling has the length that its size says
pub spelled_long : (m : Content) → IsMeta m → length (meta_bytes m) ≡ size_of m
spelled_long m is =
    let f : List ℕ = front_bytes m.limits m.ordinals.lo (length m.ordinals.fills) (length m.series) in
    let g : List ℕ = fills_bytes m.limits.volumes m.ordinals.fills in
    omega (
      arith,
      length-append (f ++ g) (flat_map series_bytes m.series),
      length-append f g,
      length-front m.limits m.ordinals.lo (length m.ordinals.fills) (length m.series),
      length-fills m.limits.volumes m.ordinals.fills (front_fits m is).most,
      length-all m.series is.each,
    )

pub size_spelled : (from : List ℕ) (m : Content) → Spells from m → size_of m ≡ length from
size_spelled from m spells = sym (spelled_long m spells.rules_are) ∙ ap length (sym spells.is)

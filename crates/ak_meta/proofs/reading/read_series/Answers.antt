use Rattle.std.proofs.Common.{rules, ◌≡◌, ◌+◌, ◌<◌, ◌≤◌, ◌^◌, ◌++◌, ℕ, List, length, take, sym, subst, arith}
use Rattle.ak_meta.specs.declared.meta.SeriesMeta.{SeriesMeta}
use Rattle.ak_meta.specs.declared.error.MetaError.TheVariants.{Bad}
use Rattle.ak_meta.specs.Contents.{series_bytes, IsCanonical, IsSeries}
use Rattle.ak_meta.proofs.Spellings.{FitsSeries, series_fits}
use Rattle.ak_meta.proofs.Behind.{series_behind, series_long, series_name, series_of, series_read, series_same}
use Rattle.ak_meta.proofs.reading.read_series.Goals as goal

pub returns-then-left-lt2-clause-bad : goal.returns-then-left-lt2-clause-bad
returns-then-left-lt2-clause-bad c bad series rest is e =
    let from = c.args.from.now in
    let at = c.args.at in
    omega (arith, c.if-left-lt2.true, series_long from rest at series c.requires is.levels (series_behind from rest at series c.requires e))

pub returns-then-left-long-clause-bad : goal.returns-then-left-long-clause-bad
returns-then-left-long-clause-bad c bad series rest is e =
    let from = c.args.from.now in
    let at = c.args.at in
    let long = c.get_u16-long.result in
    let small : long < 2 ^ 16 = search rules in
    let spelled = series_behind from rest at series c.requires e in
    let fits = series_fits series is in
    let named = series_name from rest at long series (omega (arith, c.if-left-lt2.false, c.requires)) small fits.name c.get_u16-long.ensures spelled in
    omega (arith, c.if-left-long.true, named.0, series_long from rest at series c.requires is.levels spelled)

pub returns-in_err-read_name-clause-bad : goal.returns-in_err-read_name-clause-bad
returns-in_err-read_name-clause-bad c =
    let from = c.args.from.now in
    let at = c.args.at in
    let long = c.get_u16-long.result in
    let small : long < 2 ^ 16 = search rules in
    let none : c.in_err-read_name.field-0.0 ≡ Bad → (series : SeriesMeta) → (rest : List ℕ) → IsSeries series → from ≡ take at from ++ series_bytes series ++ rest → ⊥ = λ bad series rest is e.
    let spelled = series_behind from rest at series c.requires e in
    let fits = series_fits series is in
    let named = series_name from rest at long series (omega (arith, c.if-left-lt2.false, c.requires)) small fits.name c.get_u16-long.ensures spelled in
    c.in_err-read_name.ensures.bad bad (subst IsCanonical (sym named.1) is.name) in
    search rules

pub returns-then-not-is_series-clause-bad : goal.returns-then-not-is_series-clause-bad
returns-then-not-is_series-clause-bad c bad series rest is e =
    let from = c.args.from.now in
    let at = c.args.at in
    let long = c.get_u16-long.result in
    let name = c.in_ok-read_name.field-0 in
    let found : SeriesMeta = series_of name c.get_u64.result c.get_u64-2.result c.get_rescue.result in
    let within : at + 2 + long ≤ length from = omega (arith, c.if-left-long.false, c.requires) in
    let read = series_read from name at long c.get_u64.result c.get_u64-2.result c.get_rescue.result within c.in_ok-read_name.ensures.ok.0 c.get_u16-long.ensures c.get_u64.ensures c.get_u64-2.ensures c.get_rescue.ensures.bytes in
    let short : IsCanonical name = subst IsCanonical (sym c.in_ok-read_name.ensures.ok.0) c.in_ok-read_name.ensures.ok.1 in
    let fits : FitsSeries found = record {
      name = omega (arith, short.named.short.0);
      leaves = search rules;
      last = search rules;
      levels = search rules;
      addresses = c.get_rescue.ensures.fits;
    } in
    let same : found ≡ series = series_same from rest at (at + 2 + long + 104) found series c.requires fits (series_fits series is) read (series_behind from rest at series c.requires e) in
    let mine : IsSeries found = subst IsSeries (sym same) is in
    search (rules, c.is_series.ensures.1 (mine.unused, mine.rescue))

pub returns-clause-ok : goal.returns-clause-ok
returns-clause-ok c =
    let from = c.args.from.now in
    let at = c.args.at in
    let long = c.get_u16-long.result in
    let name = c.in_ok-read_name.field-0 in
    let within : at + 2 + long ≤ length from = omega (arith, c.if-left-long.false, c.requires) in
    let read = series_read from name at long c.get_u64.result c.get_u64-2.result c.get_rescue.result within c.in_ok-read_name.ensures.ok.0 c.get_u16-long.ensures c.get_u64.ensures c.get_u64-2.ensures c.get_rescue.ensures.bytes in
    let kept = c.is_series.ensures.0 c.if-not-is_series.false in (
      record {
        name = subst IsCanonical (sym c.in_ok-read_name.ensures.ok.0) c.in_ok-read_name.ensures.ok.1;
        leaves = search rules;
        last = search rules;
        unused = kept.0;
        levels = search rules;
        addresses = c.get_rescue.ensures.fits;
        rescue = kept.1;
      },
      omega (arith, c.if-left-long.false, c.requires),
      read,
    )

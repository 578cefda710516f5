use Rattle.std.proofs.Common.{rules, ◌≡◌, ◌≤◌, ◌<◌, ◌+◌, ◌*◌, ◌^◌, Result, Ok, Err, OnOk, OnErr, [], ◌∷◌, ◌++◌, length, bytes_eq, false, sym, subst, arith, length-append}
use Rattle.std.specs.List.{list_any}
use Rattle.ak_meta.specs.Contents.{Content, IsMeta, IsCanonical, names_of, size_of}
use Rattle.ak_meta.specs.Leaves.{new_series, with_series}
use Rattle.ak_meta.proofs.Lawful.{series_lawful}
use Rattle.ak_meta.proofs.Sizes.{many}
use Rattle.ak_meta.proofs.tests.add.Goals as goal

either : {X E : Type 0} (r : Result X E) (old grown new : Content) → OnOk r (new ≡ grown) → OnErr r (new ≡ old) → IsMeta old → IsMeta grown → IsMeta new
either (Ok x) old grown new ok err is is' = subst IsMeta (sym ok) is'
either (Err e) old grown new ok err is is' = subst IsMeta (sym err) is

pub returns : goal.returns
returns c =
    let old : Content = c.args.meta.now in
    let name = c.in-Ok.name in
    let short : size_of (with_series old name) ≤ 4096 * old.limits.slot = search (rules, c.is_short.ensures.0) in
    let few : length old.series + 1 < 2 ^ 32 = omega (arith, many (old.series ++ new_series name ∷ []), length-append old.series (new_series name ∷ []), short, c.requires.limits_are.slot_most) in
    let read = c.in-Ok.ensures.ok in
    let canonical : IsCanonical name = subst IsCanonical (sym read.0) read.1 in
    let new : list_any (λ n. bytes_eq name n) (names_of old.series) ≡ false = search rules in
    either _ old (with_series old name) _ c.add.ensures.ok c.add.ensures.err c.requires (series_lawful old name c.requires canonical new few)

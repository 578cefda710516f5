use Rattle.std.proofs.Common.{rules, ◌≡◌, ◌+◌, ◌*◌, ◌≤◌, ◌<◌, ◌^◌, ◌∙◌, List, length, take, sym, ap, subst, arith, length-append}
use Rattle.std.proofs.lemmas.List.{length-take-le}
use Rattle.std.specs.List.{flat_map}
use Rattle.ak_volumes.specs.Ordinals.{Ordinals}
use Rattle.ak_meta.specs.declared.meta.SeriesMeta.{SeriesMeta}
use Rattle.ak_meta.specs.declared.error.MetaError.TheVariants.{Bad}
use Rattle.ak_meta.specs.Contents.{Content, Spells, leaves_of, room_of, series_bytes}
use Rattle.ak_meta.proofs.Contents.{parts_of, front_of, lawful_of, full_of, long_of, fills_of, rest_of, same_ordinals, same_all}
use Rattle.ak_meta.proofs.Spellings.{length-all}
use Rattle.ak_meta.proofs.reading.read_meta.Goals as goal

pub from_parts-requires-clause-size : goal.from_parts-requires-clause-size
from_parts-requires-clause-size c =
    let from = c.args.from.now in
    let start = 40 + 4 * c.in_ok-front.front.limits.volumes in
    let all : List SeriesMeta = c.in_ok-series.series.items in
    let small : length from < 2 ^ 64 = search rules in
    omega (
      arith,
      small,
      ap length c.in_ok-series.ensures.bytes,
      length-append (take start from) (flat_map series_bytes all),
      length-take-le start from c.in_ok-volumes.ensures.bytes.0,
      length-all all c.in_ok-series.ensures.rules.0,
    )

pub returns-in_err-front-clause-bad : goal.returns-in_err-front-clause-bad
returns-in_err-front-clause-bad c =
    let from = c.args.from.now in
    let none : c.in_err-front.field-0.0 ≡ Bad → (m : Content) → Spells from m → ⊥ = λ bad m spells.
    c.in_err-front.ensures.bad m.limits m.ordinals.lo (length m.ordinals.fills) (length m.series) spells.rules_are.limits_are (parts_of from m spells).front in
    search rules

pub returns-in_err-volumes-clause-bad : goal.returns-in_err-volumes-clause-bad
returns-in_err-volumes-clause-bad c =
    let from = c.args.from.now in
    let found = c.in_ok-front.front in
    let lo : found.lo < 2 ^ 32 = search rules in
    let live : found.live < 2 ^ 32 = search rules in
    let count : found.series < 2 ^ 32 = search rules in
    let none : c.in_err-volumes.field-0.0 ≡ Bad → (m : Content) → Spells from m → ⊥ = λ bad m spells.
    let is = spells.rules_are in
    let parts = parts_of from m spells in
    let front = front_of from m found.limits found.lo found.live found.series is parts c.in_ok-front.ensures.limits lo live count c.in_ok-front.ensures.bytes.1 in
    c.in_err-volumes.ensures.bad bad m.ordinals.fills (lawful_of m found.limits found.lo found.live found.series is front) (sym front.live_is) (full_of m found.limits found.lo found.live found.series is front) (long_of from m found.limits parts front.limits) (fills_of from m found.limits parts front.limits) in
    search rules

pub returns-in_err-series-clause-bad : goal.returns-in_err-series-clause-bad
returns-in_err-series-clause-bad c =
    let from = c.args.from.now in
    let found = c.in_ok-front.front in
    let lo : found.lo < 2 ^ 32 = search rules in
    let live : found.live < 2 ^ 32 = search rules in
    let count : found.series < 2 ^ 32 = search rules in
    let none : c.in_err-series.field-0.0 ≡ Bad → (m : Content) → Spells from m → ⊥ = λ bad m spells.
    let is = spells.rules_are in
    let parts = parts_of from m spells in
    let front = front_of from m found.limits found.lo found.live found.series is parts c.in_ok-front.ensures.limits lo live count c.in_ok-front.ensures.bytes.1 in
    c.in_err-series.ensures.bad bad m.series is.each is.apart (sym front.count_is) (rest_of from m found.limits parts front.limits) in
    search rules

pub returns-then-not-has_room-clause-bad : goal.returns-then-not-has_room-clause-bad
returns-then-not-has_room-clause-bad c bad m spells =
    let from = c.args.from.now in
    let found = c.in_ok-front.front in
    let lo : found.lo < 2 ^ 32 = search rules in
    let live : found.live < 2 ^ 32 = search rules in
    let count : found.series < 2 ^ 32 = search rules in
    let is = spells.rules_are in
    let parts = parts_of from m spells in
    let front = front_of from m found.limits found.lo found.live found.series is parts c.in_ok-front.ensures.limits lo live count c.in_ok-front.ensures.bytes.1 in
    let o : Ordinals = c.in_ok-volumes.volumes in
    let read = c.in_ok-volumes.ensures.ok in
    let same : o ≡ m.ordinals = same_ordinals from m found.limits found.lo found.live found.series o is parts front read.0 read.1 read.2 c.in_ok-volumes.ensures.bytes.1 in
    let all : List SeriesMeta = c.in_ok-series.series.items in
    let kept = c.in_ok-series.ensures.rules in
    let series : all ≡ m.series = same_all from m found.limits found.lo found.live found.series all is parts front kept.0 kept.2 c.in_ok-series.ensures.bytes in
    let slice : c.as_slice.result.now ≡ m.series = c.as_slice.ensures.value ∙ series in
    let total : leaves_of c.as_slice.result.now ≤ room_of o = subst (λ (l : List SeriesMeta). leaves_of l ≤ room_of o) (sym slice) (subst (λ (p : Ordinals). leaves_of m.series ≤ room_of p) (sym same) is.total) in
    search (rules, c.has_room.ensures.1 total)

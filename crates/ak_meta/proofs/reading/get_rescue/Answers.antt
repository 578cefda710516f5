use Rattle.std.proofs.Common.{rules, ◌≡◌, ◌+◌, ◌*◌, ◌^◌, ◌<◌, ◌∙◌, ◌++◌, ◌∷◌, [], List, ℕ, length, take, slice_set, sym, ap, subst, arith}
use Rattle.std.proofs.lemmas.List.{take_more_set, length-set, take_all, flat_map_more}
use Rattle.std.specs.List.{AllByRecursion}
use Rattle.byteorder.specs.Endian.{little_bytes}
use Rattle.ak_base.specs.declared.point.Addr.{Addr}
use Rattle.ak_meta.specs.Contents.{rescue_bytes}
use Rattle.ak_meta.specs.Leaves.{address_at}
use Rattle.ak_meta.proofs.Fronts.{each_push}
use Rattle.ak_meta.proofs.reading.get_rescue.Goals as goal

pub loop-level-preserved : goal.loop-level-preserved
loop-level-preserved c =
    let from = c.args.from.now in
    let at = c.args.at in
    let level = c.loop-level.level in
    let rescue = c.loop-level.rescue in
    let a : Addr = address_at c.get_u64.result in
    let within : level < length rescue = omega (arith, c.loop-level.invariant.long, c.loop-level-test.true) in
    let next : take (level + 1) (slice_set rescue level a) ≡ take level rescue ++ a ∷ [] = take_more_set rescue level a within in
    let place : at + 8 * (level + 1) ≡ at + 8 * level + 8 = omega arith in
    let small : c.get_u64.result < 2 ^ 64 = search rules in
    record {
      long = length-set rescue level a ∙ c.loop-level.invariant.long;
      bytes = ap (λ (k : ℕ). take k from) place
          ∙ c.get_u64.ensures
          ∙ ap (λ (l : List ℕ). l ++ little_bytes 8 c.get_u64.result) c.loop-level.invariant.bytes
          ∙ flat_map_more (λ (b : Addr). little_bytes 8 b.0) (take at from) (take level rescue) a
          ∙ ap (λ (l : List Addr). take at from ++ rescue_bytes l) (sym next);
      fits = subst (AllByRecursion (λ (b : Addr). b.0 < 2 ^ 64)) (sym next) (each_push (λ (b : Addr). b.0 < 2 ^ 64) (take level rescue) a c.loop-level.invariant.fits small);
    }

pub returns-clause-bytes : goal.returns-clause-bytes
returns-clause-bytes c =
    let from = c.args.from.now in
    let at = c.args.at in
    let level = c.loop-level.level in
    let all : take level c.loop-level.rescue ≡ c.loop-level.rescue = take_all level c.loop-level.rescue (omega (arith, c.loop-level.invariant.long, c.loop-level-test.false)) in
    let end : at + 88 ≡ at + 8 * level = omega (arith, c.loop-level-test.false, c.loop-level.auto.level-end) in
    ap (λ (k : ℕ). take k from) end ∙ c.loop-level.invariant.bytes ∙ ap (λ (l : List Addr). take at from ++ rescue_bytes l) all

pub returns-clause-fits : goal.returns-clause-fits
returns-clause-fits c =
    let level = c.loop-level.level in
    let all : take level c.loop-level.rescue ≡ c.loop-level.rescue = take_all level c.loop-level.rescue (omega (arith, c.loop-level.invariant.long, c.loop-level-test.false)) in
    subst (AllByRecursion (λ (b : Addr). b.0 < 2 ^ 64)) all c.loop-level.invariant.fits

use Rattle.std.proofs.Common.{rules, ◌≡◌, ◌∙◌, ◌+◌, ◌≤◌, ◌<◌, ◌++◌, ◌∷◌, List, ℕ, [], take, drop, length, bytes_eq, true, false, ap, sym, subst, arith, append_assoc, append-nil, length-append, length-drop, take-append-drop, Result, Ok, Err, IfErr}
use Rattle.std.specs.Result.{IsErrAnd}
use Rattle.std.proofs.lemmas.List.{flat_map_more}
use Rattle.std.specs.List.{flat_map, list_any, AllByRecursion, IsDistinct}
use Rattle.ak_meta.specs.declared.meta.SeriesMeta.{SeriesMeta}
use Rattle.ak_meta.specs.declared.error.MetaError.{MetaError}
use Rattle.ak_meta.specs.declared.error.MetaError.TheVariants.{Bad}
use Rattle.ak_meta.specs.Contents.{IsSeries, names_of, series_bytes}
use Rattle.ak_meta.proofs.Apart.{next_fails, none_behind, twice_fails, names_push, none_apart, apart_push}
use Rattle.ak_meta.proofs.Fronts.{behind_front, all_behind, each_push}
use Rattle.ak_meta.proofs.reading.read_all.Goals as goal

pub loop-init : goal.loop-init
loop-init c = record {
  count = ap length c.new-all.ensures.items;
  within = c.requires;
  each = subst (AllByRecursion IsSeries) (sym c.new-all.ensures.items) tt;
  apart = subst (λ (l : List SeriesMeta). IsDistinct bytes_eq (names_of l)) (sym c.new-all.ensures.items) none_apart;
  names = c.in_ok-names.ensures.none ∙ ap names_of (sym c.new-all.ensures.items);
  bytes = sym (append-nil (take c.args.start c.args.from.now)) ∙ ap (λ (l : List SeriesMeta). take c.args.start c.args.from.now ++ flat_map series_bytes l) (sym c.new-all.ensures.items);
}

-- what holds of the error of a result
error_is : {T : Type 0} (P : MetaError → Type 0) (r : Result T MetaError) (e : MetaError) → IsErrAnd r (λ y. y ≡ e) → P e → IfErr r P
error_is P (Ok v) e err p = absurd err
error_is P (Err y) e same p = subst P (sym same) p

pub returns-in_err-series-clause-bad : goal.returns-in_err-series-clause-bad
returns-in_err-series-clause-bad c =
    let from = c.args.from.now in
    let start = c.args.start in
    let at = c.loop.at in
    let done = c.loop.all.items in
    let none : c.in_err-series.field-0.0 ≡ Bad → (all : List SeriesMeta) → AllByRecursion IsSeries all → IsDistinct bytes_eq (names_of all) → length all ≡ c.args.count → from ≡ take start from ++ flat_map series_bytes all → ⊥ = λ bad all each apart many e.
    let less : length done < length all = omega (arith, many, c.loop.invariant.count, c.loop-test.true) in
    next_fails done all (drop start from) (drop at from) c.loop.invariant.each each less (behind_front from (flat_map series_bytes done) start at c.requires c.loop.invariant.bytes) (all_behind from (flat_map series_bytes all) start c.requires e)
    (λ s rest is next. c.in_err-series.ensures.bad bad s rest is (sym (take-append-drop at from) ∙ ap (λ (l : List ℕ). take at from ++ l) next ∙ sym (append_assoc (take at from) (series_bytes s) rest))) in
    error_is (λ error. error ≡ Bad → (all : List SeriesMeta) → AllByRecursion IsSeries all → IsDistinct bytes_eq (names_of all) → length all ≡ c.args.count
    → from ≡ take start from ++ flat_map series_bytes all → ⊥) c.from_residual-in_err-series.result c.in_err-series.field-0.0 c.from_residual-in_err-series.ensures.1 none

pub returns-then-has_name-clause-bad : goal.returns-then-has_name-clause-bad
returns-then-has_name-clause-bad c bad all each apart many e =
    let from = c.args.from.now in
    let start = c.args.start in
    let at = c.loop.at in
    let end = c.in_ok-series.end in
    let done = c.loop.all.items in
    let s : SeriesMeta = c.in_ok-series.series in
    let read : IsSeries s × (end ≤ length from) × (take end from ≡ take at from ++ series_bytes s) = c.in_ok-series.ensures.ok in
    let less : length done < length all = omega (arith, many, c.loop.invariant.count, c.loop-test.true) in
    let known : list_any (λ n. bytes_eq s.name n) (names_of done) ≡ true = ap (list_any (bytes_eq s.name)) (sym c.loop.invariant.names) ∙ sym c.has_name.ensures ∙ c.if-has_name.true in
    twice_fails done all s (drop start from) (drop at from) (drop end from) c.loop.invariant.each read.0 each less (behind_front from (flat_map series_bytes done) start at c.requires c.loop.invariant.bytes)
    (behind_front from (series_bytes s) at end c.loop.invariant.within read.2) (all_behind from (flat_map series_bytes all) start c.requires e) known apart

pub loop-preserved : goal.loop-preserved
loop-preserved c =
    let from = c.args.from.now in
    let start = c.args.start in
    let at = c.loop.at in
    let end = c.in_ok-series.end in
    let done = c.loop.all.items in
    let s : SeriesMeta = c.in_ok-series.series in
    let read : IsSeries s × (end ≤ length from) × (take end from ≡ take at from ++ series_bytes s) = c.in_ok-series.ensures.ok in
    let pushed : c.keep.new.all.items ≡ done ++ s ∷ [] = search rules in
    let new : list_any (λ n. bytes_eq s.name n) (names_of done) ≡ false = ap (list_any (bytes_eq s.name)) (sym c.loop.invariant.names) ∙ sym c.has_name.ensures ∙ c.if-has_name.false in
    let added : c.add.new.self ≡ c.loop.names ++ s.name ∷ [] = search rules in
    record {
      count = ap length pushed ∙ length-append done (s ∷ []) ∙ ap (λ n. n + 1) c.loop.invariant.count;
      within = read.1;
      each = subst (AllByRecursion IsSeries) (sym pushed) (each_push IsSeries done s c.loop.invariant.each read.0);
      apart = subst (λ (l : List SeriesMeta). IsDistinct bytes_eq (names_of l)) (sym pushed) (apart_push done s c.loop.invariant.apart new);
      names = added ∙ ap (λ (ks : List (List ℕ)). ks ++ s.name ∷ []) c.loop.invariant.names ∙ sym (names_push done s) ∙ ap names_of (sym pushed);
      bytes = read.2 ∙ ap (λ (l : List ℕ). l ++ series_bytes s) c.loop.invariant.bytes ∙ flat_map_more series_bytes (take start from) done s ∙ ap (λ (l : List SeriesMeta). take start from ++ flat_map series_bytes l) (sym pushed);
    }

pub returns-then-at-from-clause-bad : goal.returns-then-at-from-clause-bad
returns-then-at-from-clause-bad c bad all each apart many e =
    let from = c.args.from.now in
    let start = c.args.start in
    let at = c.loop.at in
    let done = c.loop.all.items in
    let same : length done ≡ length all = omega (arith, many, c.loop.invariant.count) in
    let none : drop at from ≡ [] = none_behind done all (drop start from) (drop at from) c.loop.invariant.each each same (behind_front from (flat_map series_bytes done) start at c.requires c.loop.invariant.bytes) (all_behind from (flat_map series_bytes all) start c.requires e) in
    omega (arith, c.if-at-from.true, ap length none, length-drop at from)

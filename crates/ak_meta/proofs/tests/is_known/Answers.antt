use Rattle.std.proofs.Common.{rules, ◌≡◌, ◌∙◌, ◌+◌, ◌<◌, ◌||◌, ℕ, zero, suc, Bool, true, false, List, [], ◌∷◌, length, drop, get_or, bytes_eq, refl, sym, ap, arith}
use Rattle.std.specs.List.{list_any}
use Rattle.ak_meta.specs.declared.meta.SeriesMeta.{SeriesMeta}
use Rattle.ak_meta.specs.Contents.{names_of}
use Rattle.ak_meta.proofs.tests.is_known.Goals as goal

-- the next one is asked first
one_first : (p : List ℕ → Bool) (all : List SeriesMeta) (i : ℕ) (d : SeriesMeta) → i < length all → list_any p (names_of (drop i all)) ≡ (p (get_or all i d).name || list_any p (names_of (drop (suc i) all)))
one_first p [] i d within = absurd (omega arith)
one_first p (s ∷ all) zero d within = refl
one_first p (s ∷ all) (suc i) d within = one_first p all i d (omega arith)

asked : (p : List ℕ → Bool) (all : List SeriesMeta) (i : ℕ) (s : SeriesMeta) (b : Bool) → i < length all → s ≡ get_or all i s → p s.name ≡ b → list_any p (names_of all) ≡ list_any p (names_of (drop i all))
    → list_any p (names_of all) ≡ (b || list_any p (names_of (drop (i + 1) all)))
asked p all i s b within is said before =
    let next : suc i ≡ i + 1 = omega arith in
    before
    ∙ one_first p all i s within
    ∙ ap (λ (t : SeriesMeta). p t.name || list_any p (names_of (drop (suc i) all))) (sym is)
    ∙ ap (λ (c : Bool). c || list_any p (names_of (drop (suc i) all))) said
    ∙ ap (λ (k : ℕ). b || list_any p (names_of (drop k all))) next

pub returns-then-eq : goal.returns-then-eq
returns-then-eq c =
    let p = bytes_eq c.args.name.now in
    let all = c.args.series.now in
    let s : SeriesMeta = c.s-item.result in
    let said : p s.name ≡ true = search rules in
    sym (asked p all c.loop-s.s-index s true c.loop-s-test.true c.s-item.is said c.loop-s.invariant)

pub loop-s-preserved : goal.loop-s-preserved
loop-s-preserved c =
    let p = bytes_eq c.args.name.now in
    let all = c.args.series.now in
    let s : SeriesMeta = c.s-item.result in
    let said : p s.name ≡ false = search rules in
    asked p all c.loop-s.s-index s false c.loop-s-test.true c.s-item.is said c.loop-s.invariant

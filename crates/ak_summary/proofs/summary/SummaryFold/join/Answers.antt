use Rattle.std.proofs.Common.{◌≡◌, ◌+◌, ◌++◌, ◌∙◌, FitsSigned, to_z, of_z, sym, ap, subst, arith, rules, w64}
use Rattle.std.proofs.lemmas.Int.{ints, to_z-of_z}
use Rattle.ak_base.specs.declared.point.Point.{Point}
use Rattle.ak_base.proofs.Histories.{history_rises}
use Rattle.ak_summary.proofs.Orders.{joined_orderly}
use Rattle.ak_summary.specs.Summaries.{IsBounded, IsOrderly, IsSummary, lesser_of, greater_of}
use Rattle.ak_summary.specs.declared.summary.Summary.{Summary}
use Rattle.ak_summary.proofs.Joins.{joined_bounded, IsSummary-joined, sum_small, added, added_is, made}
use Rattle.ak_summary.proofs.summary.SummaryFold.join.Goals as goal

pub overflow_add-result-2 : goal.overflow_add-result-2
overflow_add-result-2 c =
    let a = sum_small c.args.self c.requires.earlier (omega (arith, c.requires.counts)) (let f : FitsSigned w64 c.args.self.min = search rules in omega (arith, ints)) (let f : FitsSigned w64 c.args.self.max = search rules in omega (arith, ints)) in
    let b = sum_small c.args.later c.requires.later (omega (arith, c.requires.counts)) (let f : FitsSigned w64 c.args.later.min = search rules in omega (arith, ints)) (let f : FitsSigned w64 c.args.later.max = search rules in omega (arith, ints)) in
    added c.args.self.sum c.args.later.sum a.0 a.1 b.0 b.1

pub returns-clause-fields : goal.returns-clause-fields
returns-clause-fields c =
    let first : to_z w64 (of_z w64 c.args.self.first) ≡ c.args.self.first = to_z-of_z w64 c.args.self.first (search rules) in
    let last : to_z w64 (of_z w64 c.args.later.last) ≡ c.args.later.last = to_z-of_z w64 c.args.later.last (search rules) in
    let low : to_z w64 (of_z w64 c.lesser-low.result.value) ≡ c.lesser-low.result.value = to_z-of_z w64 c.lesser-low.result.value (search rules) in
    let high : to_z w64 (of_z w64 c.greater-high.result.value) ≡ c.greater-high.result.value = to_z-of_z w64 c.greater-high.result.value (search rules) in
    let a = sum_small c.args.self c.requires.earlier (omega (arith, c.requires.counts)) (let f : FitsSigned w64 c.args.self.min = search rules in omega (arith, ints)) (let f : FitsSigned w64 c.args.self.max = search rules in omega (arith, ints)) in
    let b = sum_small c.args.later c.requires.later (omega (arith, c.requires.counts)) (let f : FitsSigned w64 c.args.later.min = search rules in omega (arith, ints)) (let f : FitsSigned w64 c.args.later.max = search rules in omega (arith, ints)) in
    let sum = added_is c.args.self.sum c.args.later.sum a.0 a.1 b.0 b.1 in
    let lesser : c.lesser-low.result ≡ lesser_of c.args.self.min_ts c.args.self.min c.args.later.min_ts c.args.later.min = search rules in
    let greater : c.greater-high.result ≡ greater_of c.args.self.max_ts c.args.self.max c.args.later.max_ts c.args.later.max = search rules in
    made (c.args.self.count + c.args.later.count) c.args.self.begin c.args.later.end first last (low ∙ ap (λ (p : Point). p.value) lesser) (ap (λ (p : Point). p.ts) lesser) (high ∙ ap (λ (p : Point). p.value) greater) (ap (λ (p : Point). p.ts) greater) sum

pub returns-clause-value : goal.returns-clause-value
returns-clause-value c ps qs h s t = subst (λ (r : Summary). IsSummary (ps ++ qs) r) (sym (returns-clause-fields c)) (IsSummary-joined c.args.self c.args.later ps qs (history_rises 0 (ps ++ qs) h) s t)

pub returns-clause-bounded : goal.returns-clause-bounded
returns-clause-bounded c = subst IsBounded (sym (returns-clause-fields c)) (joined_bounded c.args.self c.args.later c.requires.earlier c.requires.later)

pub returns-clause-orderly : goal.returns-clause-orderly
returns-clause-orderly c h k before = subst IsOrderly (sym (returns-clause-fields c)) (joined_orderly c.args.self c.args.later h k before)

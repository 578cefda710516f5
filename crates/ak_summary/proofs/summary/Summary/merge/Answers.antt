use Rattle.std.proofs.Common.{◌≡◌, ◌+◌, ◌+ℤ◌, FitsSigned, to_z, of_z, sym, subst, refl, arith, rules, w64}
use Rattle.std.proofs.lemmas.Int.{ints, to_z-of_z}
use Rattle.ak_summary.specs.Summaries.{IsMerged}
use Rattle.ak_summary.specs.declared.summary.Summary.{Summary}
use Rattle.ak_summary.proofs.Joins.{sum_small, added, added_is, made, made_of}
use Rattle.ak_base.proofs.Histories.{history_rises}
use Rattle.ak_summary.proofs.Merges.{merged_bounded, IsSummary-merged}
use Rattle.ak_summary.proofs.Orders.{merged_orderly}
use Rattle.ak_summary.proofs.summary.Summary.merge.Goals as goal

pub overflow_add-result-2 : goal.overflow_add-result-2
overflow_add-result-2 c =
    let a = sum_small c.args.self c.requires.earlier (omega (arith, c.requires.counts)) (let f : FitsSigned w64 c.args.self.min = search rules in omega (arith, ints)) (let f : FitsSigned w64 c.args.self.max = search rules in omega (arith, ints)) in
    let b = sum_small c.args.other c.requires.later (omega (arith, c.requires.counts)) (let f : FitsSigned w64 c.args.other.min = search rules in omega (arith, ints)) (let f : FitsSigned w64 c.args.other.max = search rules in omega (arith, ints)) in
    added c.args.self.sum c.args.other.sum a.0 a.1 b.0 b.1

pub returns-clause-fields : goal.returns-clause-fields
returns-clause-fields c =
    let first : to_z w64 (of_z w64 c.earlier-begin.result.value) ≡ c.earlier-begin.result.value = to_z-of_z w64 c.earlier-begin.result.value (search rules) in
    let last : to_z w64 (of_z w64 c.latest-end.result.value) ≡ c.latest-end.result.value = to_z-of_z w64 c.latest-end.result.value (search rules) in
    let low : to_z w64 (of_z w64 c.least-low.result.value) ≡ c.least-low.result.value = to_z-of_z w64 c.least-low.result.value (search rules) in
    let high : to_z w64 (of_z w64 c.greatest-high.result.value) ≡ c.greatest-high.result.value = to_z-of_z w64 c.greatest-high.result.value (search rules) in
    let a = sum_small c.args.self c.requires.earlier (omega (arith, c.requires.counts)) (let f : FitsSigned w64 c.args.self.min = search rules in omega (arith, ints)) (let f : FitsSigned w64 c.args.self.max = search rules in omega (arith, ints)) in
    let b = sum_small c.args.other c.requires.later (omega (arith, c.requires.counts)) (let f : FitsSigned w64 c.args.other.min = search rules in omega (arith, ints)) (let f : FitsSigned w64 c.args.other.max = search rules in omega (arith, ints)) in
    let sum = added_is c.args.self.sum c.args.other.sum a.0 a.1 b.0 b.1 in
    let plain : Summary = made_of (c.args.self.count + c.args.other.count) c.earlier-begin.result.ts c.latest-end.result.ts c.earlier-begin.result.value c.latest-end.result.value c.least-low.result.value c.least-low.result.ts c.greatest-high.result.value c.greatest-high.result.ts (c.args.self.sum +ℤ c.args.other.sum) in
    let merged : IsMerged c.args.self c.args.other plain = record {
      count = refl;
      total = refl;
      begins-first = search (rules, c.earlier-begin.ensures.first);
      begins-second = search (rules, c.earlier-begin.ensures.second);
      ends-first = search (rules, c.latest-end.ensures.first);
      ends-second = search (rules, c.latest-end.ensures.second);
      low-first = search (rules, c.least-low.ensures.first);
      low-second = search (rules, c.least-low.ensures.second);
      low-both = search (rules, c.least-low.ensures.both);
      high-first = search (rules, c.greatest-high.ensures.first);
      high-second = search (rules, c.greatest-high.ensures.second);
      high-both = search (rules, c.greatest-high.ensures.both);
    } in
    subst (λ (r : Summary). IsMerged c.args.self c.args.other r) (sym (made (c.args.self.count + c.args.other.count) c.earlier-begin.result.ts c.latest-end.result.ts first last low refl high refl sum)) merged

pub returns-clause-value : goal.returns-clause-value
returns-clause-value c rs ps qs m h k s t = IsSummary-merged c.args.self c.args.other _ rs ps qs (returns-clause-fields c) m (history_rises 0 ps h) (history_rises 0 qs k) s t

pub returns-clause-bounded : goal.returns-clause-bounded
returns-clause-bounded c = merged_bounded c.args.self c.args.other _ (returns-clause-fields c) c.requires.earlier c.requires.later

pub returns-clause-orderly : goal.returns-clause-orderly
returns-clause-orderly c h k = merged_orderly c.args.self c.args.other _ (returns-clause-fields c) h k

use Rattle.std.proofs.Common.{[], ◌∷◌, ◌++◌, length, sym, ap, subst, arith}
use Rattle.std.proofs.lemmas.List.{length_push}
use Rattle.ak_inner.specs.References.{AreRefs}
use Rattle.ak_inner.specs.declared.reference.Ref.{Ref}
use Rattle.ak_summary.specs.Summaries.{IsOrderly}
use Rattle.ak_levels.specs.Pending.{pending_at}
use Rattle.ak_levels.proofs.Joined.{tallies_few, tallies_bounded, tally_joined, joined_refs_orderly}
use Rattle.ak_levels.proofs.Lifts.{pending_with, emptied, taken}
use Rattle.ak_levels.proofs.lifting.lift.Goals as goal

pub take-requires-clause-some : goal.take-requires-clause-some
take-requires-clause-some c =
    let before = pending_at c.args.levels.now c.args.level in
    let there = pending_with c.args.levels.now c.push.new.self c.args.level (before ++ c.args.r ∷ []) c.push.ensures.valid (omega (arith, c.requires.level)) c.push.ensures.pushed in
    omega (arith, ap (length {A = Ref}) there, length_push before c.args.r)

pub joined_summary-requires-clause-few : goal.joined_summary-requires-clause-few
joined_summary-requires-clause-few c =
    let all = taken c.args.levels.now c.push.new.self c.args.level c.args.r c.refs-refs.result.now c.take.new.into (omega (arith, c.requires.level)) c.requires.room c.requires.tallies c.push.ensures.valid c.push.ensures.pushed c.refs-refs.ensures.refs c.take.ensures.taken in
    tallies_few c.args.level c.refs-refs.result.now c.requires.level all.1.few all.1.tallies

pub joined_summary-requires-clause-bounded : goal.joined_summary-requires-clause-bounded
joined_summary-requires-clause-bounded c =
    let all = taken c.args.levels.now c.push.new.self c.args.level c.args.r c.refs-refs.result.now c.take.new.into (omega (arith, c.requires.level)) c.requires.room c.requires.tallies c.push.ensures.valid c.push.ensures.pushed c.refs-refs.ensures.refs c.take.ensures.taken in
    tallies_bounded c.args.level c.refs-refs.result.now all.1.tallies

pub returns-clause-empty : goal.returns-clause-empty
returns-clause-empty c = emptied c.args.levels.now c.push.new.self c.take.new.self c.args.level _ c.push.ensures.pushed c.take.ensures.empty

pub returns-clause-tally : goal.returns-clause-tally
returns-clause-tally c =
    let all = taken c.args.levels.now c.push.new.self c.args.level c.args.r c.refs-refs.result.now c.take.new.into (omega (arith, c.requires.level)) c.requires.room c.requires.tallies c.push.ensures.valid c.push.ensures.pushed c.refs-refs.ensures.refs c.take.ensures.taken in
    tally_joined c.args.level c.refs-refs.result.now _ all.1.some all.1.few all.1.tallies c.joined_summary.ensures

pub returns-clause-orderly : goal.returns-clause-orderly
returns-clause-orderly c are =
    let all = taken c.args.levels.now c.push.new.self c.args.level c.args.r c.refs-refs.result.now c.take.new.into (omega (arith, c.requires.level)) c.requires.room c.requires.tallies c.push.ensures.valid c.push.ensures.pushed c.refs-refs.ensures.refs c.take.ensures.taken in
    subst IsOrderly (sym c.joined_summary.ensures) (joined_refs_orderly _ c.refs-refs.result.now all.1.some (subst (AreRefs _) (sym all.0) are))

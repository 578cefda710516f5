use Rattle.std.proofs.Common.{rules, ◌≡◌, ◌%◌, arith, string_bytes, length, IsTrue, subst}
use Rattle.ak_words.specs.Words.{IsName}
use Rattle.ak_words.proofs.Rows.{Stands, named_here, named_next}
use Rattle.ak_words.proofs.options.are_named.Goals as goal

pub returns-then-not-is_name : goal.returns-then-not-is_name
returns-then-not-is_name c =
    let at : Stands c.args.words.now c.loop-at.at c.index-words-at.result = record { whole = c.requires; even = c.loop-at.invariant.even; within = c.loop-at-test.true; item = c.index-words-at.is } in
    let named = named_here string_bytes c.args.words.now c.loop-at.at c.index-words-at.result at c.loop-at.invariant.same in
    let t = c.if-not-is_name.true in
    let e = c.as_str.ensures.value in
    (search rules, λ all. let is : IsName c.as_str.result.now = subst IsName (search rules) (named all) in let yes : IsTrue c.is_name.result = c.is_name.ensures.1 is in search rules)

pub loop-at-preserved : goal.loop-at-preserved
loop-at-preserved c =
    let at : Stands c.args.words.now c.loop-at.at c.index-words-at.result = record { whole = c.requires; even = c.loop-at.invariant.even; within = c.loop-at-test.true; item = c.index-words-at.is } in
    let is : IsName c.as_str.result.now = c.is_name.ensures.0 (search rules) in
    record {
      even = omega (arith, c.loop-at.invariant.even);
      same = named_next string_bytes c.args.words.now c.loop-at.at c.index-words-at.result at c.loop-at.invariant.same (subst IsName c.as_str.ensures.value is);
    }

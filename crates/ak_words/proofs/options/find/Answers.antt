use Rattle.std.proofs.Common.{rules, ◌≡◌, arith, string_bytes, true, false}
use Rattle.std.specs.Str.{bytes_eq}
use Rattle.ak_words.proofs.Rows.{Stands, finds_at, finds_next}
use Rattle.ak_words.proofs.options.find.Goals as goal

pub returns-then-eq : goal.returns-then-eq
returns-then-eq c =
    let at : Stands c.args.words.now c.loop-at.at c.index-words-at.result = record { whole = c.requires; even = c.loop-at.invariant.even; within = c.loop-at-test.true; item = c.index-words-at.is } in
    let same : bytes_eq (string_bytes c.index-words-at.result) c.args.name.now ≡ true = search rules in
    finds_at string_bytes c.args.words.now c.loop-at.at c.index-words-at.result c.args.name.now at c.loop-at.invariant.same same

pub loop-at-preserved : goal.loop-at-preserved
loop-at-preserved c =
    let at : Stands c.args.words.now c.loop-at.at c.index-words-at.result = record { whole = c.requires; even = c.loop-at.invariant.even; within = c.loop-at-test.true; item = c.index-words-at.is } in
    let other : bytes_eq (string_bytes c.index-words-at.result) c.args.name.now ≡ false = search rules in
    record {
      even = omega (arith, c.loop-at.invariant.even);
      same = finds_next string_bytes c.args.words.now c.loop-at.at c.index-words-at.result c.args.name.now at c.loop-at.invariant.same other;
    }

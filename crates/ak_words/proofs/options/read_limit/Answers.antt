use Rattle.std.proofs.Common.{◌≡◌, ◌+◌, ◌-◌, take, length, rules, arith, map, drop, string_bytes, [], inr, ℕ}
use Rattle.ak_words.specs.Words.{behind, IsNumber, IsLimit}
use Rattle.ak_words.specs.Pairs.{pairs_of}
use Rattle.ak_words.proofs.Choices.{some_is, none_is, limit_twice, limit_bad}
use Rattle.ak_words.proofs.Rows.{finds_once, finds_twice, tail_is}
use Rattle.ak_words.proofs.options.read_limit.Goals as goal

pub returns-then-is_some : goal.returns-then-is_some
returns-then-is_some c = λ n limit.
    let second = some_is _ _ c.find-2.result (search rules) c.find-2.ensures in
    let twice = finds_twice string_bytes c.args.words.now c.in-Some.at second.0 c.args.name.now _ (tail_is c.args.words.now c.in-Some.at) c.in-Some.ensures second.1 in
    limit_twice c.args.name.now c.args.least c.args.most c.args.default (pairs_of (map string_bytes c.args.words.now)) n twice.0 twice.1 twice.2 twice.3 limit

pub returns : goal.returns
returns c =
    let none : behind c.args.name.now (pairs_of (map string_bytes (take (length c.args.words.now - (c.in-Some.at + 2)) (drop (c.in-Some.at + 2) c.args.words.now)))) ≡ [] = none_is _ _ c.find-2.result (search rules) c.find-2.ensures in
    let once = finds_once string_bytes c.args.words.now c.in-Some.at c.index-words-at.result c.args.name.now _ (tail_is c.args.words.now c.in-Some.at) c.in-Some.ensures c.index-words-at.is none in
    let number : IsNumber (string_bytes c.index-words-at.result) c.in_ok-number.number = search rules in
    inr (string_bytes c.index-words-at.result, once, number, omega arith, omega arith)

pub returns-in_err-number : goal.returns-in_err-number
returns-in_err-number c =
    let none : behind c.args.name.now (pairs_of (map string_bytes (take (length c.args.words.now - (c.in-Some.at + 2)) (drop (c.in-Some.at + 2) c.args.words.now)))) ≡ [] = none_is _ _ c.find-2.result (search rules) c.find-2.ensures in
    let once = finds_once string_bytes c.args.words.now c.in-Some.at c.index-words-at.result c.args.name.now _ (tail_is c.args.words.now c.in-Some.at) c.in-Some.ensures c.index-words-at.is none in
    let bad : (m : ℕ) → IsNumber (string_bytes c.index-words-at.result) m → ⊥ = search rules in
    let no : (n : ℕ) → IsLimit c.args.name.now c.args.least c.args.most c.args.default (pairs_of (map string_bytes c.args.words.now)) n → ⊥ = λ n limit. limit_bad c.args.name.now c.args.least c.args.most c.args.default (pairs_of (map string_bytes c.args.words.now)) n (string_bytes c.index-words-at.result) once bad limit in
    search rules

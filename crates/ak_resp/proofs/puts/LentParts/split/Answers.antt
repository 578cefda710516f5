use Rattle.std.proofs.Common.{rules, arith}
use Rattle.std.proofs.lemmas.List.{take_rest}
use Rattle.ak_resp.proofs.Parts.{none_of_none, none_in_none, none_without_line, first_part}
use Rattle.ak_resp.proofs.puts.LentParts.split.Goals as goal

pub returns-then-self-eq0 : goal.returns-then-self-eq0
returns-then-self-eq0 c = λ parts are. none_of_none c.args.self.count c.args.self.spelled.now parts c.if-self-eq0.true are

pub returns-then-is_empty : goal.returns-then-is_empty
returns-then-is_empty c = λ parts are. none_in_none c.args.self.count c.args.self.spelled.now parts (search rules) are

pub returns-in_err-end : goal.returns-in_err-end
returns-in_err-end c = λ parts are.
    let found = rw take_rest at c.in_err-end.ensures.found in
    rw c.from_residual.ensures (none_without_line c.args.self.count c.args.self.spelled.now parts (λ line back is split. grind (arith, found line back is split)) are)

pub returns : goal.returns
returns c = λ parts are.
    let found = rw take_rest at c.in_ok-end.ensures.found in
    rw take_rest (rw take_rest (first_part c.args.self.count c.args.self.spelled.now parts c.item_kind-kind.result c.in_ok-end.end c.if-self-eq0.false c.item_kind-kind.ensures.simple
    c.item_kind-kind.ensures.integer (λ line back is split. grind (arith, found line back is split)) are))

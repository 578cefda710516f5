use Rattle.std.proofs.Common.{◌≡◌, ◌∷◌, ◌++◌, [], rules, sym}
use Rattle.ak_node.proofs.KnownPuts.{numbers_more}
use Rattle.ak_node.proofs.kept.numbers_of.Goals as goal

pub loop-name-preserved : goal.loop-name-preserved
loop-name-preserved c =
    let pushed : c.push.new.self.items ≡ c.loop-name.numbers.items ++ c.in_ok-number.number ∷ [] = search rules in
    let more = numbers_more c.args.index.now c.args.names.now c.loop-name.numbers.items c.loop-name.name-index c.in_ok-number.number c.name-item.result _ c.loop-name.invariant.known c.loop-name.invariant.names
    c.loop-name-test.true c.name-item.is (sym c.in_ok-number.ensures) in
    rw pushed (record { known = more.0; names = more.1 })

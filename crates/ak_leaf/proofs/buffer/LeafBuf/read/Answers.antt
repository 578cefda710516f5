use Rattle.std.proofs.Common.{◌+◌, ◌-◌, sym, arith, rules, refl}
use Rattle.ak_leaf.proofs.Blocks.{found_leaf, leaf_middle}
use Rattle.ak_leaf.proofs.buffer.LeafBuf.read.Goals as goal

pub returns-in_default-clause-none : goal.returns-in_default-clause-none
returns-in_default-clause-none c t ps s =
    let middle = leaf_middle c.args.from.now c.args.head.now ps (64 + c.args.head.now.length - 64) (omega arith) s in
    c.in_default.ensures.none ps (sym s.head.count) s.history s.each middle

pub returns-clause-found : goal.returns-clause-found
returns-clause-found c t =
    let some = c.in-Some.ensures.some in
    found_leaf c.args.from.now c.args.head.now c.get_points.new.points.items (64 + c.args.head.now.length - 64) (4096 - (64 + c.args.head.now.length)) (omega arith) c.requires.head c.requires.kind c.requires.front
    (omega arith) refl some.1 some.2 some.3 some.4 (c.is_zero.ensures.0 (search rules))

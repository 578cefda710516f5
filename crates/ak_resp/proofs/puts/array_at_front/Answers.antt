use Rattle.std.proofs.Common.{◌+◌, ◌≤◌, length, take, drop, arith}
use Rattle.std.proofs.lemmas.List.{take_rest, length-drop}
use Rattle.ak_resp.specs.Puts.{AreParts}
use Rattle.ak_resp.proofs.Texts.{array_values, part_within}
use Rattle.ak_resp.proofs.puts.array_at_front.Goals as goal

pub returns : goal.returns
returns c =
    let xs = c.args.bytes.now in
    let head = c.in_ok-head.head in
    let count = rw take_rest at c.in_ok-head.ensures.is in
    let ends = rw take_rest at c.in_ok-head.ensures.end in
    let (parts, are) = c.in_ok-length.ensures.are in
    let inside : c.in_ok-length.length ≤ length (drop (head.digits + 3) xs) = rw take_rest at c.in_ok-length.ensures.within in
    let front : head.digits + 3 ≤ length xs = part_within xs head.digits c.requires.some ends in
    let items : AreParts head.number (take c.in_ok-length.length (drop (head.digits + 3) xs)) parts = rw take_rest at are in
    record {
      within = omega (arith, inside, front, length-drop (head.digits + 3) xs);
      parts = parts;
      are = are;
      spells = array_values xs head.digits head.number c.in_ok-length.length parts c.requires.some c.requires.is c.in_ok-head.ensures.some count ends c.if-head-gt-MAX_VALUES.false items;
    }

use Rattle.std.proofs.Common.{drop}
use Rattle.std.proofs.lemmas.List.{take_rest}
use Rattle.ak_resp.proofs.Numbers.{count_time}
use Rattle.ak_resp.proofs.Texts.{integer_part, count_text, part_within}
use Rattle.ak_resp.proofs.puts.integer_time.Goals as goal

pub returns : goal.returns
returns c =
    let xs = c.args.bytes.now in
    let k = c.in_ok-count.count in
    let count = rw take_rest at c.in_ok-count.ensures.is in
    let ends = rw take_rest at c.in_ok-count.ensures.end in
    record {
      within = part_within xs k.digits c.requires.some ends;
      spells = rw take_rest (integer_part xs k.digits c.requires.some c.requires.is (count_text (drop 1 xs) k.digits k.number c.in_ok-count.ensures.some count) ends);
      text = rw take_rest (count_time (drop 1 xs) k.digits k.number c.in_ok-count.ensures.some count);
    }

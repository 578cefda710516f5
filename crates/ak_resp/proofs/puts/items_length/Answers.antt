use Rattle.std.proofs.Common.{ℕ, ◌+◌, ◌≤◌, ◌++◌, ◌∷◌, List, [], length, take, drop, arith, sym, subst, take-add}
use Rattle.std.proofs.lemmas.List.{take_rest, length-drop}
use Rattle.ak_resp.specs.Grammar.{one, SpellsPart}
use Rattle.ak_resp.specs.Puts.{AreParts, part_as}
use Rattle.ak_resp.proofs.Parts.{parts_more}
use Rattle.ak_resp.proofs.puts.items_length.Goals as goal

pub items-preserved : goal.items-preserved
items-preserved c =
    let xs = c.args.bytes.now in
    let item = c.in_ok-item.item in
    let (parts, are) = c.items.invariant.are in
    let within : item.length ≤ length (drop c.items.at xs) = rw take_rest at c.in_ok-item.ensures.within in
    let spelled : SpellsPart (take item.length (drop c.items.at xs)) (one (part_as item.kind item.text.now)) = rw take_rest at c.in_ok-item.ensures.spells in
    record {
      most = omega (arith, c.items-test.true);
      within = omega (arith, within, length-drop c.items.at xs, c.items.invariant.within);
      are = (
        parts ++ part_as item.kind item.text.now ∷ [],
        subst (λ (l : List ℕ). AreParts (c.items.items + 1) l (parts ++ part_as item.kind item.text.now ∷ [])) (sym (take-add c.items.at item.length xs))
            (parts_more c.items.items (take c.items.at xs) (take item.length (drop c.items.at xs)) parts (part_as item.kind item.text.now) are c.in_ok-item.ensures.item spelled),
      );
    }

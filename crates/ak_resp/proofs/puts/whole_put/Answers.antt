use Rattle.std.proofs.Common.{◌+◌, take, drop, refl}
use Rattle.std.proofs.lemmas.List.{take_rest}
use Rattle.ak_resp.specs.declared.message.Message.TheVariants as message
use Rattle.ak_resp.specs.Grammar.{one, SpellsPart}
use Rattle.ak_resp.specs.Puts.{part_as, IsValuesFront}
use Rattle.ak_resp.proofs.Texts.{put_spelled}
use Rattle.ak_resp.proofs.puts.whole_put.Goals as goal

pub returns-clause-spells : goal.returns-clause-spells
returns-clause-spells c =
    let xs = c.args.bytes.now in
    let name = c.in_ok-name.name in
    let time = c.in_ok-time.time in
    let values = c.in_ok-values.values in
    let name_part = part_as name.kind name.text.now in
    let time_part = part_as time.part.kind time.part.text.now in
    let second : SpellsPart (take time.part.length (drop name.length xs)) (one time_part) = rw take_rest at c.in_ok-time.ensures.spells in
    let third : IsValuesFront (drop (name.length + time.part.length) xs) values = rw take_rest at c.in_ok-values.ensures in (
      message.Put name_part time_part third.parts,
      record { parts = third.parts; values = third.are; is = refl },
      put_spelled xs name.length time.part.length values.length name_part time_part third.parts c.in_ok-name.ensures.name c.in_ok-name.ensures.spells second third.spells,
    )

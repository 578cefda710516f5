use Rattle.std.proofs.Common.{sym, ◌∙◌}
use Rattle.ak_node.proofs.KnownPuts.{by_bytes}
use Rattle.ak_node.proofs.taken.named_one.Goals as goal

pub returns-in-Some : goal.returns-in-Some
returns-in-Some c = by_bytes c.args.index.now c.args.text.now c.in-Some.series c.requires.canonical (sym c.id_of.ensures ∙ c.in-Some.is)

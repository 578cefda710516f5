use Rattle.std.proofs.Common.{lit<, rules, not, ◌==◌, length}
use borrow.Author.Tests.{tests}
use Rattle.std.proofs.lemmas.Iterator.Consumers.{YieldsList-from_filter, YieldsList-at}
use Rattle.std.proofs.lemmas.Iterator.Search.{any_from_yields_List}
use Rattle.std.proofs.lemmas.Iterator.Splits.{YieldsList-from_str_split}
use Rattle.ak_names.specs.Tracks.{asks}
use Rattle.ak_names.proofs.asked.meets.Goals as goal

pub returns : goal.returns
returns c =
    any_from_yields_List (λ word. asks c.args.asked.now word) _ _ c.any.result c.any.ensures.ran
    (YieldsList-from_filter _ (λ word. not (length word == 0)) (YieldsList-at c.filter.ensures.source (YieldsList-from_str_split 32 c.args.rest.now (lit< tt) c.split.ensures.text c.split.ensures.has_more c.split.ensures.pattern)) c.filter.ensures.closure (λ x r q k. search (rules, tests)))
    (λ x b q k. search (rules, tests))

use Rattle.std.proofs.Common.{◌∙◌, ◌++◌, ◌==◌, List, ℕ, filter, length, lit<, not, rules, string_bytes, ap}
use borrow.Author.Tests.{tests}
use Rattle.std.proofs.lemmas.Iterator.Consumers.{YieldsList-from_filter, YieldsList-at, YieldsList-end}
use Rattle.std.proofs.lemmas.Iterator.Splits.{YieldsList-from_str_split}
use Rattle.ak_names.specs.Names.{key_of, words_of}
use Rattle.ak_names.specs.Tracks.{is_among, spelled_tags}
use Rattle.ak_names.proofs.Listed.{listed_more}
use Rattle.ak_names.proofs.naming.push_tags.Goals as goal

pub loop-tag-preserved : goal.loop-tag-preserved
loop-tag-preserved c =
    listed_more (λ x. x.now) (λ t. is_among (key_of t) c.args.keys.now) c.loop-tag.yielded c.in-Some.tag (string_bytes c.args.text.now) (string_bytes c.loop-tag.text) (string_bytes c.push_tag.new.text)
    c.loop-tag.invariant c.in_ok-push_tag.ensures

pub returns : goal.returns
returns c =
    let all = YieldsList-end (YieldsList-at c.into_iter-tag-iterator.ensures.into_iter_gives (YieldsList-from_filter {v = λ x. x.now} _ (λ word. not (length word == 0)) (YieldsList-at c.filter-tag-items.ensures.source (YieldsList-from_str_split 32 c.rest.result.now (lit< tt) c.split.ensures.text c.split.ensures.has_more c.split.ensures.pattern)) c.filter-tag-items.ensures.closure (λ x r q k. search (rules, tests)))) c.loop-tag.yielded _ c.loop-tag.yielded_by _ _ c.in-None.is c.next.ensures.steps in
    c.loop-tag.invariant
    ∙ ap (λ (ws : List (List ℕ)). string_bytes c.args.text.now ++ spelled_tags (filter (λ t. is_among (key_of t) c.args.keys.now) ws)) (all.0 ∙ ap words_of c.rest.ensures)

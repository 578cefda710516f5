use Rattle.std.proofs.Common.{◌∙◌, arith}
use Rattle.ak_host.proofs.Items.{with_item-set, with_item-push}
use Rattle.akl.proofs.real.items.put_item.Goals as goal

pub returns-then-at-len-clause-ok : goal.returns-then-at-len-clause-ok
returns-then-at-len-clause-ok g c = with_item-set _ _ _ (omega arith)

pub returns-in_ok-push-clause-ok : goal.returns-in_ok-push-clause-ok
returns-in_ok-push-clause-ok g c = c.in_ok-push.ensures.items ∙ with_item-push _ c.args.at c.args.item (omega arith)

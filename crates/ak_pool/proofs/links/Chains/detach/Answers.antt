use Rattle.std.proofs.Common.{◌<◌, length, ap, subst, sym, arith}
use Rattle.std.proofs.lemmas.List.{get_or_read}
use Rattle.ak_pool.specs.Chains.{IsName}
use Rattle.ak_pool.specs.Links.{none, link}
use Rattle.ak_pool.specs.declared.links.Link.{Link}
use Rattle.ak_pool.proofs.Chained.{order_below, before_named, after_named, detached}
use Rattle.ak_pool.proofs.links.Chains.detach.Goals as goal

pub index-requires : goal.index-requires
index-requires c =
    let below : c.args.frame < length c.args.self.now.links.items = order_below _ _ _ _ _ c.requires.chains in
    omega (arith, below, c.args.self.now.links.ok)

pub join-requires-clause-newer : goal.join-requires-clause-newer
join-requires-clause-newer c =
    let read = get_or_read c.args.self.now.links.items c.args.frame c.index.result.now (order_below _ _ _ _ _ c.requires.chains) c.index.ensures (link none none) in
    subst (IsName (length c.args.self.now.links.items)) (sym (ap (λ (l : Link). l.newer) read)) (before_named _ _ _ _ _ c.requires.chains)

pub join-requires-clause-older : goal.join-requires-clause-older
join-requires-clause-older c =
    let read = get_or_read c.args.self.now.links.items c.args.frame c.index.result.now (order_below _ _ _ _ _ c.requires.chains) c.index.ensures (link none none) in
    subst (IsName (length c.args.self.now.links.items)) (sym (ap (λ (l : Link). l.older) read)) (after_named _ _ _ _ _ c.requires.chains)

pub returns-clause-chains : goal.returns-clause-chains
returns-clause-chains c a b vacant h =
    let read = get_or_read c.args.self.now.links.items c.args.frame c.index.result.now (order_below _ _ _ _ _ c.requires.chains) c.index.ensures (link none none) in
    detached _ _ _ _ _ a b vacant (ap (λ (l : Link). l.newer) read) (ap (λ (l : Link). l.older) read) c.join.ensures h

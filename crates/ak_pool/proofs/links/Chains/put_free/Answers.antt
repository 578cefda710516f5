use Rattle.std.proofs.Common.{◌<◌, length, ap, refl}
use Rattle.std.proofs.lemmas.List.{length-set, get_or_read, get_or-set_same, get_or-set_other}
use Rattle.ak_pool.specs.Links.{none, link}
use Rattle.ak_pool.specs.declared.links.Link.{Link}
use Rattle.ak_pool.proofs.Chained.{loose_below, put_vacant, newer_set}
use Rattle.ak_pool.proofs.links.Chains.put_free.Goals as goal

pub returns-clause-chains : goal.returns-clause-chains
returns-clause-chains c order vacant h =
    let ls = c.args.self.now.links.items in
    let l = link c.index_mut.result.now.newer c.args.self.now.free in
    let below : c.args.frame < length ls = loose_below _ _ _ _ h in
    let read = get_or_read ls c.args.frame c.index_mut.result.now below c.index_mut.ensures.value (link none none) in
    put_vacant _ _ _ order vacant (length-set ls c.args.frame l)
    (ap (λ (k : Link). k.older) (get_or-set_same ls c.args.frame l (link none none) below))
    (λ g n. ap (λ (k : Link). k.older) (get_or-set_other ls c.args.frame g l (link none none) n))
    (newer_set ls c.args.frame l below (ap (λ (k : Link). k.newer) read))
    refl refl refl h

use Rattle.std.proofs.Common.{◌<◌, length, ap, refl, arith}
use Rattle.std.proofs.lemmas.List.{get_or_read}
use Rattle.ak_pool.specs.Links.{none, link}
use Rattle.ak_pool.specs.declared.links.Link.{Link}
use Rattle.ak_pool.proofs.Chained.{vacant_below, vacant_none, vacant_some}
use Rattle.ak_pool.proofs.links.Chains.take_free.Goals as goal

pub returns-then-frame-clause-none : goal.returns-then-frame-clause-none
returns-then-frame-clause-none c = (refl, λ order vacant h. vacant_none c.args.self.now order vacant c.if-frame.true h)

pub index-requires : goal.index-requires
index-requires c =
    let below : c.args.self.now.free < length c.args.self.now.links.items = vacant_below c.args.self.now c.requires.0 c.requires.1 c.if-frame.false c.requires.2 in
    omega (arith, below, c.args.self.now.links.ok)

pub returns-clause-some : goal.returns-clause-some
returns-clause-some c order vacant h =
    let read = get_or_read c.args.self.now.links.items c.args.self.now.free c.index.result.now (vacant_below c.args.self.now order vacant c.if-frame.false h) c.index.ensures (link none none) in
    vacant_some _ _ order vacant c.if-frame.false refl refl refl (ap (λ (l : Link). l.older) read) h

use Rattle.std.proofs.Common.{List, subst, sym}
use Rattle.ak_pool.specs.Frames.{Frames, numbers}
use Rattle.ak_pool.specs.Links.{none, AreOlder, AreNewer}
use Rattle.ak_pool.specs.declared.links.Link.{Link}
use Rattle.ak_pool.proofs.Kept.{seen_newer, seen_older}
use Rattle.ak_pool.proofs.pool.Pool.links.Goals as goal

pub returns-clause-newer : goal.returns-clause-newer
returns-clause-newer c =
    subst (λ (l : List Link). AreNewer l none (numbers c.args.self.now.used)) (sym c.as_slice.ensures.value)
    (subst (λ (v : Frames). AreNewer c.self.inside.chains.links.items none (numbers v.used)) c.self.view_is (seen_newer _ _ c.self.invariant))

pub returns-clause-older : goal.returns-clause-older
returns-clause-older c =
    subst (λ (l : List Link). AreOlder l (numbers c.args.self.now.used)) (sym c.as_slice.ensures.value)
    (subst (λ (v : Frames). AreOlder c.self.inside.chains.links.items (numbers v.used)) c.self.view_is (seen_older _ _ c.self.invariant))

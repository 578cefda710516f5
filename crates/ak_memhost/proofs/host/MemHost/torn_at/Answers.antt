use Rattle.std.proofs.Common.{◌∙◌, subst}
use Rattle.ak_memhost.specs.Drive.{IsImage, contents}
use Rattle.ak_memhost.specs.Laws.{image_blocks, moment_blocks}
use Rattle.ak_memhost.specs.Host.{drive_at_moment}
use Rattle.ak_memhost.proofs.host.MemHost.torn_at.Goals as goal

pub returns-clause-allowed : goal.returns-clause-allowed
returns-clause-allowed c = subst (λ drive. IsImage drive (contents c.in_ok-base.base.items)) (c.deref.ensures.value ∙ c.in_ok-files.ensures) c.in_ok-base.ensures.allowed

pub returns-clause-blocks : goal.returns-clause-blocks
returns-clause-blocks c =
    let host = c.args.self.now in
    let allowed = subst (λ drive. IsImage drive (contents c.in_ok-base.base.items)) (c.deref.ensures.value ∙ c.in_ok-files.ensures) c.in_ok-base.ensures.allowed in
    image_blocks (drive_at_moment host c.args.moment) (contents c.in_ok-base.base.items) (moment_blocks host.base.items host.calls.items c.args.moment host.base_blocks host.written) allowed

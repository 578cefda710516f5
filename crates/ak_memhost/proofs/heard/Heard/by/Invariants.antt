use Rattle.std.proofs.Common.{◌≡◌, drop}
use Rattle.ak_memhost.specs.Heard.{heard_by}
use Rattle.ak_memhost.proofs.heard.Heard.by.Given as goal

abbrev pub invariant-loop-told : goal.invariant-loop-told
invariant-loop-told l = heard_by l.port l.told-items ≡ heard_by l.port (drop l.told-index l.told-items)

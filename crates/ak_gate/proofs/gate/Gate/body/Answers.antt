use Rattle.std.proofs.Common.{◌+◌, ◌∙◌, ap}
use Rattle.ak_host.proofs.Passing.{disk_weaker}
use Rattle.ak_gate.specs.Slots.{other, body_index}
use Rattle.ak_gate.specs.View.{View}
use Rattle.ak_gate.proofs.Fitting.{body_newest, body_fits, torn_at}
use Rattle.ak_gate.proofs.gate.Gate.body.Goals as goal

pub returns-in-Ok-clause-fits : goal.returns-in-Ok-clause-fits
returns-in-Ok-clause-fits g c told =
    let at = ap (λ k. k + c.args.i) (c.body_index.ensures ∙ ap (body_index c.self.inside.slot) c.other.ensures ∙ ap (λ (v : View). body_index v.slot (other v.newest)) c.self.view_is) in
    body_fits c.args.self.now _ (c.requires.fits told) _ _ c.args.i c.args.from.now at c.requires.shut c.requires.inside (c.in-Ok.ensures.files told) (c.write.ensures.moments told)

pub returns-in-Ok-clause-moments : goal.returns-in-Ok-clause-moments
returns-in-Ok-clause-moments g c told =
    let at = ap (λ k. k + c.args.i) (c.body_index.ensures ∙ ap (body_index c.self.inside.slot) c.other.ensures ∙ ap (λ (v : View). body_index v.slot (other v.newest)) c.self.view_is) in
    disk_weaker (c.write.ensures.moments told) (body_newest c.args.self.now _ (c.requires.fits told) _ c.args.i at c.requires.shut c.requires.inside)

pub returns-in-Err-clause-moments : goal.returns-in-Err-clause-moments
returns-in-Err-clause-moments g c told =
    let at = ap (λ k. k + c.args.i) (c.body_index.ensures ∙ ap (body_index c.self.inside.slot) c.other.ensures ∙ ap (λ (v : View). body_index v.slot (other v.newest)) c.self.view_is) in
    disk_weaker (c.write.ensures.moments told) (body_newest c.args.self.now _ (c.requires.fits told) _ c.args.i at c.requires.shut c.requires.inside)

pub returns-in-Ok-clause-torn : goal.returns-in-Ok-clause-torn
returns-in-Ok-clause-torn g c told =
    let at = ap (λ k. k + c.args.i) (c.body_index.ensures ∙ ap (body_index c.self.inside.slot) c.other.ensures ∙ ap (λ (v : View). body_index v.slot (other v.newest)) c.self.view_is) in
    disk_weaker (c.write.ensures.moments told) (torn_at (g.D.Outside.state c.args.disk.now) _ _ at)

pub returns-in-Err-clause-torn : goal.returns-in-Err-clause-torn
returns-in-Err-clause-torn g c told =
    let at = ap (λ k. k + c.args.i) (c.body_index.ensures ∙ ap (body_index c.self.inside.slot) c.other.ensures ∙ ap (λ (v : View). body_index v.slot (other v.newest)) c.self.view_is) in
    disk_weaker (c.write.ensures.moments told) (torn_at (g.D.Outside.state c.args.disk.now) _ _ at)

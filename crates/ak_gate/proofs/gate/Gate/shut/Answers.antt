use Rattle.std.proofs.Common.{◌∙◌, ap, sym, subst, false}
use Rattle.ak_host.proofs.Passing.{disk_weaker}
use Rattle.ak_gate.specs.Slots.{other, gate_index}
use Rattle.ak_gate.specs.Fits.{Fits}
use Rattle.ak_gate.specs.Written.{Wrote}
use Rattle.ak_gate.specs.View.{View}
use Rattle.ak_gate.proofs.Fitting.{closing_left, closed_fits, torn_at}
use Rattle.ak_gate.proofs.gate.Gate.shut.Goals as goal

pub returns-in-Err-clause-moments : goal.returns-in-Err-clause-moments
returns-in-Err-clause-moments g c told =
    let at = c.gate_index-index.ensures ∙ ap gate_index c.other.ensures ∙ ap (λ (v : View). gate_index (other v.newest)) c.self.view_is in
    let was_open = sym (ap (λ (v : View). v.other_open) c.self.view_is) ∙ c.if-self.true in
    disk_weaker (c.write_gate.ensures.moments told) (closing_left c.args.self.now _ (c.requires.fits told) _ at was_open)

pub returns-then-self-clause-moments : goal.returns-then-self-clause-moments
returns-then-self-clause-moments g c told =
    let at = c.gate_index-index.ensures ∙ ap gate_index c.other.ensures ∙ ap (λ (v : View). gate_index (other v.newest)) c.self.view_is in
    let was_open = sym (ap (λ (v : View). v.other_open) c.self.view_is) ∙ c.if-self.true in
    disk_weaker (c.write_gate.ensures.moments told) (closing_left c.args.self.now _ (c.requires.fits told) _ at was_open)

pub returns-then-self-clause-fits : goal.returns-then-self-clause-fits
returns-then-self-clause-fits g c told =
    let at = c.gate_index-index.ensures ∙ ap gate_index c.other.ensures ∙ ap (λ (v : View). gate_index (other v.newest)) c.self.view_is in
    let was_open = sym (ap (λ (v : View). v.other_open) c.self.view_is) ∙ c.if-self.true in
    subst (λ (v : View). Fits (record v { other_open = false }) (g.D.Outside.state c.write_gate.new.disk)) (sym c.self.view_is) (closed_fits c.args.self.now _ (c.requires.fits told) _ _ at was_open (c.in_default.ensures.wrote told) (c.in_default.ensures.stable told))

pub returns-in-Err-clause-torn : goal.returns-in-Err-clause-torn
returns-in-Err-clause-torn g c told =
    let at = c.gate_index-index.ensures ∙ ap gate_index c.other.ensures ∙ ap (λ (v : View). gate_index (other v.newest)) c.self.view_is in
    disk_weaker (c.write_gate.ensures.moments told) (torn_at (g.D.Outside.state c.args.disk.now) _ _ at)

pub returns-then-self-clause-torn : goal.returns-then-self-clause-torn
returns-then-self-clause-torn g c told =
    let at = c.gate_index-index.ensures ∙ ap gate_index c.other.ensures ∙ ap (λ (v : View). gate_index (other v.newest)) c.self.view_is in
    disk_weaker (c.write_gate.ensures.moments told) (torn_at (g.D.Outside.state c.args.disk.now) _ _ at)

pub returns-then-self-clause-files : goal.returns-then-self-clause-files
returns-then-self-clause-files g c told opened =
    let at = c.gate_index-index.ensures ∙ ap gate_index c.other.ensures ∙ ap (λ (v : View). gate_index (other v.newest)) c.self.view_is in
    subst (λ index. Wrote index 0 (g.D.Outside.state c.args.disk.now).files (g.D.Outside.state c.write_gate.new.disk).files) at (c.in_default.ensures.wrote told)

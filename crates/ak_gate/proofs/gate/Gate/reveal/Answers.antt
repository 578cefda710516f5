use Rattle.std.proofs.Common.{◌∙◌, ap, subst, sym, inl, inr, true}
use Rattle.ak_host.proofs.Passing.{disk_weaker, disk_goes_on}
use Rattle.ak_gate.specs.Slots.{other, gate_index}
use Rattle.ak_host.specs.Files.{Files}
use Rattle.ak_gate.specs.Written.{Wrote}
use Rattle.ak_gate.specs.View.{View}
use Rattle.ak_gate.specs.Fits.{Fits}
use Rattle.ak_gate.proofs.Fitting.{left_newest, opening_left, opened_fits, revealed, revealing_left}
use Rattle.ak_gate.proofs.gate.Gate.reveal.Goals as goal

pub returns-in-Err-clause-moments : goal.returns-in-Err-clause-moments
returns-in-Err-clause-moments g c told =
    disk_weaker (c.sync.ensures.moments told) (λ disk left. inl (left_newest c.args.self.now _ (c.requires.fits told) disk left))

pub returns-in-Ok-clause-moments : goal.returns-in-Ok-clause-moments
returns-in-Ok-clause-moments g c told =
    let at = c.gate_index.ensures ∙ ap gate_index c.other-next.ensures ∙ ap (λ (v : View). gate_index (other v.newest)) c.self.view_is in
    let view = c.args.self.now in
    let fits = c.requires.fits told in
    let synced = disk_weaker (c.sync.ensures.moments told) (λ disk left. inl (left_newest view _ fits disk left)) in
    disk_goes_on synced (c.write_gate.ensures.moments told) (opening_left view _ fits (g.D.Outside.state c.sync.new.self) _ c.args.number at (c.sync.ensures.disk told).files (c.in_default.ensures.stable told) (c.requires.carries told) c.requires.above)

pub returns-in-Err-write_gate-clause-moments : goal.returns-in-Err-write_gate-clause-moments
returns-in-Err-write_gate-clause-moments g c told =
    let at = c.gate_index.ensures ∙ ap gate_index c.other-next.ensures ∙ ap (λ (v : View). gate_index (other v.newest)) c.self.view_is in
    let view = c.args.self.now in
    let fits = c.requires.fits told in
    let synced = disk_weaker (c.sync.ensures.moments told) (λ disk left. inl (left_newest view _ fits disk left)) in
    disk_goes_on synced (c.write_gate.ensures.moments told) (opening_left view _ fits (g.D.Outside.state c.sync.new.self) _ c.args.number at (c.sync.ensures.disk told).files (c.in_default.ensures.stable told) (c.requires.carries told) c.requires.above)

pub returns-in-Ok-clause-fits : goal.returns-in-Ok-clause-fits
returns-in-Ok-clause-fits g c told =
    let at = c.gate_index.ensures ∙ ap gate_index c.other-next.ensures ∙ ap (λ (v : View). gate_index (other v.newest)) c.self.view_is in
    let gate = c.args.self.now in
    let fits = opened_fits gate _ (c.requires.fits told) (g.D.Outside.state c.sync.new.self) (g.D.Outside.state c.write_gate.new.disk) _ c.args.number at (c.sync.ensures.disk told).files (c.requires.carries told) c.requires.above (c.in-Ok.ensures.wrote told) (c.in-Ok.ensures.stable told) in
    subst (λ half. Fits (record { slot = c.self.inside.slot; newest = half; is_open = true; other_open = c.self.inside.is_open; number = c.args.number; broken = c.self.inside.broken }) (g.D.Outside.state c.write_gate.new.disk)) (sym c.other-next.ensures)
    (subst (λ (v : View). Fits (record { slot = v.slot; newest = other v.newest; is_open = true; other_open = v.is_open; number = c.args.number; broken = v.broken }) (g.D.Outside.state c.write_gate.new.disk)) (sym c.self.view_is) fits)

pub returns-in-Ok-clause-revealed : goal.returns-in-Ok-clause-revealed
returns-in-Ok-clause-revealed g c told =
    let at = c.gate_index.ensures ∙ ap gate_index c.other-next.ensures ∙ ap (λ (v : View). gate_index (other v.newest)) c.self.view_is in
    let view = c.args.self.now in
    let mid = g.D.Outside.state c.sync.new.self in
    let new = g.D.Outside.state c.write_gate.new.disk in
    let same = (c.sync.ensures.disk told).files in
    let carries = c.requires.carries told in
    let fits = opened_fits view _ (c.requires.fits told) mid new _ c.args.number at same carries c.requires.above (c.in-Ok.ensures.wrote told) (c.in-Ok.ensures.stable told) in
    revealed view _ (c.requires.fits told) mid new _ c.args.number at same (c.in-Ok.ensures.wrote told) fits

pub returns-in-Err-clause-torn : goal.returns-in-Err-clause-torn
returns-in-Err-clause-torn g c told = disk_weaker (c.sync.ensures.moments told) (λ disk left. inl left)

pub returns-in-Ok-clause-torn : goal.returns-in-Ok-clause-torn
returns-in-Ok-clause-torn g c told =
    let at = c.gate_index.ensures ∙ ap gate_index c.other-next.ensures ∙ ap (λ (v : View). gate_index (other v.newest)) c.self.view_is in
    disk_goes_on (disk_weaker (c.sync.ensures.moments told) (λ disk left. inl left)) (c.write_gate.ensures.moments told)
    (λ disk torn. inr (revealing_left (g.D.Outside.state c.args.disk.now) (g.D.Outside.state c.sync.new.self) _ _ at (c.sync.ensures.disk told).files (c.in_default.ensures.stable told) disk torn))

pub returns-in-Err-write_gate-clause-torn : goal.returns-in-Err-write_gate-clause-torn
returns-in-Err-write_gate-clause-torn g c told =
    let at = c.gate_index.ensures ∙ ap gate_index c.other-next.ensures ∙ ap (λ (v : View). gate_index (other v.newest)) c.self.view_is in
    disk_goes_on (disk_weaker (c.sync.ensures.moments told) (λ disk left. inl left)) (c.write_gate.ensures.moments told)
    (λ disk torn. inr (revealing_left (g.D.Outside.state c.args.disk.now) (g.D.Outside.state c.sync.new.self) _ _ at (c.sync.ensures.disk told).files (c.in_default.ensures.stable told) disk torn))

pub returns-in-Ok-clause-files : goal.returns-in-Ok-clause-files
returns-in-Ok-clause-files g c told =
    let at = c.gate_index.ensures ∙ ap gate_index c.other-next.ensures ∙ ap (λ (v : View). gate_index (other v.newest)) c.self.view_is in
    subst (λ index. Wrote index 1 (g.D.Outside.state c.args.disk.now).files (g.D.Outside.state c.write_gate.new.disk).files) at
    (subst (λ (files : Files). Wrote c.gate_index.result 1 files (g.D.Outside.state c.write_gate.new.disk).files) (c.sync.ensures.disk told).files (c.in-Ok.ensures.wrote told))

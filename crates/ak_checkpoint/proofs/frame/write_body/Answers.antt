use Rattle.std.proofs.Common.{◌+◌, ◌∙◌, ap, arith, subst}
use Rattle.ak_host.specs.Files.{with_block}
use Rattle.ak_gate.specs.Slots.{body_index, other}
use Rattle.ak_gate.specs.View.{View}
use Rattle.ak_gate.specs.Fits.{Fits}
use Rattle.ak_checkpoint.proofs.Bodies.{block_written, all_written}
use Rattle.ak_checkpoint.proofs.Elsewhere.{elsewhere_on, same_on}
use Rattle.ak_checkpoint.proofs.Records.{body_goes_on}
use Rattle.ak_checkpoint.proofs.frame.write_body.Goals as goal

pub returns-in_err-body-clause-moments : goal.returns-in_err-body-clause-moments
returns-in_err-body-clause-moments g c told =
    body_goes_on c.args.gate.now c.loop-i.gate (g.D.Outside.state c.args.disk.now) (g.D.Outside.state c.loop-i.disk) (g.D.Outside.state c.body.new.disk) c.loop-i.i
    c.loop-i.invariant.gate c.requires.shut (omega arith) (c.requires.fits told) (g.met.D.Disk.leaves_files told c.loop-i.disk) (c.loop-i.invariant.fits told)
    (c.loop-i.invariant.moments told) (c.body.ensures.torn told)

pub returns-in_err-body-clause-elsewhere_left : goal.returns-in_err-body-clause-elsewhere_left
returns-in_err-body-clause-elsewhere_left g c told =
    elsewhere_on (g.D.Outside.state c.args.disk.now) (g.D.Outside.state c.loop-i.disk) (g.D.Outside.state c.body.new.disk) (c.loop-i.invariant.elsewhere_left told) (c.body.ensures.elsewhere_left told)

pub loop-i-preserved : goal.loop-i-preserved
loop-i-preserved g c = record {
  gate = c.in_ok-body.ensures.ok ∙ c.loop-i.invariant.gate;
  sizes = c.body.ensures.sizes ∙ c.loop-i.invariant.sizes;
  later = omega (arith, c.loop-i.invariant.later, c.body.ensures.cause.later);
  port_faults = c.body.ensures.port_faults ∙ c.loop-i.invariant.port_faults;
  fits = λ told. c.in_ok-body.ensures.fits told;
  written = λ told.
      let view = c.args.gate.now in
      let old = g.D.Outside.state c.loop-i.disk in
      let at = ap (λ (v : View). body_index v.slot (other v.newest) + c.loop-i.i) c.loop-i.invariant.gate in
      let fits : Fits view old = subst (λ (v : View). Fits v old) c.loop-i.invariant.gate (c.loop-i.invariant.fits told) in
      let is = c.in_ok-body.ensures.files told ∙ ap (with_block old.files 0 (body_index c.loop-i.gate.slot (other c.loop-i.gate.newest) + c.loop-i.i)) c.block_of-block.ensures in
      block_written view.slot (other view.newest) c.args.frame.now old.files (g.D.Outside.state c.body.new.disk).files _ c.loop-i.i at (omega arith) fits.knows.blocks is (c.loop-i.invariant.written told);
  moments = λ told.
      body_goes_on c.args.gate.now c.loop-i.gate (g.D.Outside.state c.args.disk.now) (g.D.Outside.state c.loop-i.disk) (g.D.Outside.state c.body.new.disk) c.loop-i.i
      c.loop-i.invariant.gate c.requires.shut (omega arith) (c.requires.fits told) (g.met.D.Disk.leaves_files told c.loop-i.disk) (c.loop-i.invariant.fits told)
      (c.loop-i.invariant.moments told) (c.body.ensures.torn told);
  elsewhere = λ told. same_on (g.D.Outside.state c.args.disk.now).files (g.D.Outside.state c.loop-i.disk).files (g.D.Outside.state c.body.new.disk).files (c.loop-i.invariant.elsewhere told) (c.body.ensures.elsewhere told);
  elsewhere_left = λ told.
      elsewhere_on (g.D.Outside.state c.args.disk.now) (g.D.Outside.state c.loop-i.disk) (g.D.Outside.state c.body.new.disk) (c.loop-i.invariant.elsewhere_left told) (c.body.ensures.elsewhere_left told);
  reads = λ told. c.body.ensures.reads told ∙ c.loop-i.invariant.reads told;
  writes = λ told. omega (arith, c.loop-i.invariant.writes told, (c.body.ensures.writes told).at_most);
}

pub returns-clause-written : goal.returns-clause-written
returns-clause-written g c told = all_written _ _ c.loop-i.i (omega arith) (c.loop-i.invariant.written told)

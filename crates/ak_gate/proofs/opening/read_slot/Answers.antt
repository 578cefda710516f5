use Rattle.std.proofs.Common.{◌≡◌, ◌∙◌, inr, sym, ap, subst, true, ℕ, slice_index_or, [], Err, arith}
use Rattle.ak_base.specs.declared.stop.Stop.TheVariants.{Damaged}
use Rattle.ak_host.specs.Files.{Files, block_at, file_at}
use Rattle.ak_gate.specs.Slots.{gate_at, is_open, body_index}
use Rattle.ak_gate.proofs.Fitting.{open_first}
use Rattle.ak_gate.proofs.Heads.{head_number}
use Rattle.ak_gate.proofs.opening.read_slot.Goals as goal

pub returns-then-length-slot-clause-err : goal.returns-then-length-slot-clause-err
returns-then-length-slot-clause-err g c = inr (
  ap (λ (i : ℕ). Err (Damaged 0 i)) c.body_index-index.ensures,
  λ told.
      let files = (g.D.Outside.state c.args.disk.now).files in
      let file = file_at files 0 in
      let gate_is : c.in_ok-gate.gate ≡ gate_at c.args.half file = c.in_ok-gate.ensures.block told ∙ ap (λ i. slice_index_or file i []) c.gate_index.ensures in
      let block_is : c.in_ok-block.block ≡ slice_index_or file (body_index c.args.slot c.args.half) [] =
      c.in_ok-block.ensures.block told ∙ ap (λ (f : Files). block_at f 0 c.body_index-index.result) (c.in_ok-gate.ensures.only told).files ∙ ap (λ i. slice_index_or file i []) c.body_index-index.ensures in
      record {
        opened = subst (λ b. is_open b ≡ true) gate_is (open_first c.in_ok-gate.gate c.if-gate-ne1.false);
        bad = omega (arith, c.if-length-slot.true, c.number_at-length.ensures, head_number c.args.slot c.args.half file c.in_ok-block.block 0 c.requires.some block_is c.in_ok-block.ensures.long (omega arith));
      },
)

pub returns-clause-head : goal.returns-clause-head
returns-clause-head g c told =
    let files = (g.D.Outside.state c.args.disk.now).files in
    let file = file_at files 0 in
    let gate_is : c.in_ok-gate.gate ≡ gate_at c.args.half file = c.in_ok-gate.ensures.block told ∙ ap (λ i. slice_index_or file i []) c.gate_index.ensures in
    let block_is : c.in_ok-block.block ≡ slice_index_or file (body_index c.args.slot c.args.half) [] =
    c.in_ok-block.ensures.block told ∙ ap (λ (f : Files). block_at f 0 c.body_index-index.result) (c.in_ok-gate.ensures.only told).files ∙ ap (λ i. slice_index_or file i []) c.body_index-index.ensures in
    record {
      opened = subst (λ b. is_open b ≡ true) gate_is (open_first c.in_ok-gate.gate c.if-gate-ne1.false);
      length_is = c.number_at-length.ensures ∙ sym (head_number c.args.slot c.args.half file c.in_ok-block.block 0 c.requires.some block_is c.in_ok-block.ensures.long (omega arith));
      number_is = c.number_at-number.ensures ∙ sym (head_number c.args.slot c.args.half file c.in_ok-block.block 8 c.requires.some block_is c.in_ok-block.ensures.long (omega arith));
      good = omega (arith, c.if-length-slot.false);
      long = c.in_ok-block.ensures.long;
      block_is = block_is;
    }

use Rattle.std.proofs.Common.{◌≡◌, ◌↔◌, IsTrue, EachIndex, slice_index, rules}
use Rattle.ak_bytes.proofs.Parts.{zeros_from, zeros_each}
use Rattle.ak_bytes.proofs.head.is_zero.Goals as goal

pub returns : goal.returns
returns c =
    let is : IsTrue c.all.result ↔ EachIndex c.args.bytes.now (λ k. slice_index c.args.bytes.now k ≡ 0) = search rules in
    (λ t. zeros_from c.args.bytes.now (is.0 t), λ e. is.1 (λ k h. zeros_each _ c.args.bytes.now e k))

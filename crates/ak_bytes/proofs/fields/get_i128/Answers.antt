use Rattle.std.proofs.Common.{◌≡◌, ◌++◌, ◌∙◌, ℤ, take, refl, sym, ap, rules}
use Rattle.std.proofs.Math.Facts.{Fits-lt-pow}
use Rattle.std.proofs.lemmas.Int.{to_z-of_z}
use mir.Syntax.{w128}
use mir.Val.{to_z, of_z}
use Rattle.ak_bytes.specs.Fields.{signed_bytes}
use Rattle.ak_bytes.proofs.FixedFields.{get_signed}
use Rattle.ak_bytes.proofs.fields.get_i128.Goals as goal

pub returns : goal.returns
returns c =
    let read = get_signed w128 16 c.args.at c.read_i128.result c.args.from.now refl c.requires (λ i. Fits-lt-pow (c.type_inv.from i)) c.read_i128.ensures in
    let same : c.read_i128.result ≡ to_z w128 (of_z w128 c.read_i128.result) = sym (to_z-of_z w128 c.read_i128.result (search rules)) in
    read ∙ ap (λ (z : ℤ). take c.args.at c.args.from.now ++ signed_bytes 16 z) same

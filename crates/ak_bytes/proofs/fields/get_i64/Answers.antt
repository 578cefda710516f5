use Rattle.std.proofs.Common.{◌≡◌, ◌++◌, ◌∙◌, ℤ, take, refl, sym, ap, rules}
use Rattle.std.proofs.Math.Facts.{Fits-lt-pow}
use Rattle.std.proofs.lemmas.Int.{to_z-of_z}
use mir.Syntax.{w64}
use mir.Val.{to_z, of_z}
use Rattle.ak_bytes.specs.Fields.{signed_bytes}
use Rattle.ak_bytes.proofs.FixedFields.{get_signed}
use Rattle.ak_bytes.proofs.fields.get_i64.Goals as goal

pub returns : goal.returns
returns c =
    let read = get_signed w64 8 c.args.at c.read_i64.result c.args.from.now refl c.requires (λ i. Fits-lt-pow (c.type_inv.from i)) c.read_i64.ensures in
    let same : c.read_i64.result ≡ to_z w64 (of_z w64 c.read_i64.result) = sym (to_z-of_z w64 c.read_i64.result (search rules)) in
    read ∙ ap (λ (z : ℤ). take c.args.at c.args.from.now ++ signed_bytes 8 z) same

use Rattle.std.proofs.Math.Facts.{Fits-lt-pow}
use Rattle.ak_bytes.proofs.FixedFields.{get_field}
use Rattle.ak_bytes.proofs.fields.get_u16.Goals as goal

pub returns : goal.returns
returns c = get_field 2 c.args.at c.read_u16.result c.args.from.now c.requires (λ i. Fits-lt-pow (c.type_inv.from i)) c.read_u16.ensures

use Rattle.std.proofs.Common.{◌≡◌, ◌+◌, ◌-◌, refl, arith, rules}
use mir.Syntax.{w64}
use Rattle.ak_bytes.proofs.FixedFields.{put_signed}
use Rattle.ak_bytes.proofs.fields.put_i64.Goals as goal

pub returns : goal.returns
returns c =
    let part : c.args.at + 8 - c.args.at ≡ 8 = omega arith in
    put_signed w64 c.args.into.now c.write_i64.new.buf c.args.at (c.args.at + 8 - c.args.at) 8 c.args.x refl c.requires part (search rules)

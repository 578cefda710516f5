use Rattle.std.proofs.Common.{◌≡◌, ◌+◌, ◌-◌, refl, arith, rules}
use mir.Syntax.{w128}
use Rattle.ak_bytes.proofs.FixedFields.{put_signed}
use Rattle.ak_bytes.proofs.fields.put_i128.Goals as goal

pub returns : goal.returns
returns c =
    let part : c.args.at + 16 - c.args.at ≡ 16 = omega arith in
    put_signed w128 c.args.into.now c.write_i128.new.buf c.args.at (c.args.at + 16 - c.args.at) 16 c.args.x refl c.requires part (search rules)

use Rattle.std.proofs.Common.{◌≡◌, ◌+◌, ◌-◌, arith, rules}
use Rattle.ak_bytes.proofs.FixedFields.{put_field}
use Rattle.ak_bytes.proofs.fields.put_u16.Goals as goal

pub returns : goal.returns
returns c =
    let part : c.args.at + 2 - c.args.at ≡ 2 = omega arith in
    put_field c.args.into.now c.write_u16.new.buf c.args.at (c.args.at + 2 - c.args.at) 2 c.args.x c.requires part (search rules)

use Rattle.std.proofs.Common.{◌≡◌, ◌+◌, ◌-◌, arith, rules}
use Rattle.ak_bytes.proofs.FixedFields.{put_field}
use Rattle.ak_bytes.proofs.fields.put_u64.Goals as goal

pub returns : goal.returns
returns c =
    let part : c.args.at + 8 - c.args.at ≡ 8 = omega arith in
    put_field c.args.into.now c.write_u64.new.buf c.args.at (c.args.at + 8 - c.args.at) 8 c.args.x c.requires part (search rules)

use Rattle.std.proofs.Common.{List, ℕ, ◌++◌, take}
use Rattle.byteorder.specs.Endian.{little_bytes}
use Rattle.ak_meta.specs.Contents.{limits_bytes}
use Rattle.ak_meta.proofs.Joining.{step}
use Rattle.ak_meta.proofs.putting.put_limits.Goals as goal

pub returns : goal.returns
unfolding limits_bytes
returns c =
    let l = c.args.limits.now in
    let front : List ℕ = take 4 c.args.into.now in
    let a : List ℕ = little_bytes 4 l.volumes in
    let b : List ℕ = a ++ little_bytes 4 l.blocks in
    let d : List ℕ = b ++ little_bytes 4 l.slot in
    let e : List ℕ = d ++ little_bytes 4 l.pool in
    let f : List ℕ = e ++ little_bytes 4 l.every in
    step front f (little_bytes 4 l.scale) (take 24 c.put_u32-5.new.into) (take 28 c.put_u32-6.new.into) c.put_u32-6.ensures.front
    (step front e (little_bytes 4 l.every) (take 20 c.put_u32-4.new.into) (take 24 c.put_u32-5.new.into) c.put_u32-5.ensures.front
    (step front d (little_bytes 4 l.pool) (take 16 c.put_u32-3.new.into) (take 20 c.put_u32-4.new.into) c.put_u32-4.ensures.front
    (step front b (little_bytes 4 l.slot) (take 12 c.put_u32-2.new.into) (take 16 c.put_u32-3.new.into) c.put_u32-3.ensures.front
    (step front a (little_bytes 4 l.blocks) (take 8 c.put_u32.new.into) (take 12 c.put_u32-2.new.into) c.put_u32-2.ensures.front c.put_u32.ensures.front))))

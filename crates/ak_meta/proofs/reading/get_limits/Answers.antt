use Rattle.std.proofs.Common.{List, ℕ, ◌++◌, take}
use Rattle.byteorder.specs.Endian.{little_bytes}
use Rattle.ak_meta.specs.Contents.{limits_bytes}
use Rattle.ak_meta.proofs.Joining.{step}
use Rattle.ak_meta.proofs.reading.get_limits.Goals as goal

pub returns : goal.returns
unfolding limits_bytes
returns c =
    let from = c.args.from.now in
    let front : List ℕ = take 4 from in
    let a : List ℕ = little_bytes 4 c.get_u32.result in
    let b : List ℕ = a ++ little_bytes 4 c.get_u32-2.result in
    let d : List ℕ = b ++ little_bytes 4 c.get_u32-3.result in
    let e : List ℕ = d ++ little_bytes 4 c.get_u32-4.result in
    let f : List ℕ = e ++ little_bytes 4 c.get_u32-5.result in
    step front f (little_bytes 4 c.get_u32-6.result) (take 24 from) (take 28 from) c.get_u32-6.ensures
    (step front e (little_bytes 4 c.get_u32-5.result) (take 20 from) (take 24 from) c.get_u32-5.ensures
    (step front d (little_bytes 4 c.get_u32-4.result) (take 16 from) (take 20 from) c.get_u32-4.ensures
    (step front b (little_bytes 4 c.get_u32-3.result) (take 12 from) (take 16 from) c.get_u32-3.ensures
    (step front a (little_bytes 4 c.get_u32-2.result) (take 8 from) (take 12 from) c.get_u32-2.ensures c.get_u32.ensures))))

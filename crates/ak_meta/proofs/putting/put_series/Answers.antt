use Rattle.std.proofs.Common.{◌≡◌, ◌+◌, ◌∙◌, List, ℕ, ◌++◌, length, take, ap, arith}
use Rattle.byteorder.specs.Endian.{little_bytes}
use Rattle.ak_meta.specs.Contents.{series_bytes, rescue_bytes}
use Rattle.ak_meta.proofs.Joining.{step}
use Rattle.ak_meta.proofs.putting.put_series.Goals as goal

pub returns-clause-front : goal.returns-clause-front
unfolding series_bytes
returns-clause-front c =
    let s = c.args.series.now in
    let name = c.as_bytes-name.result.now in
    let is : name ≡ s.name = c.as_bytes-name.ensures.value ∙ c.as_str.ensures.value in
    let at = c.args.at in
    let middle = at + 2 + length name in
    let front : List ℕ = take at c.args.into.now in
    let a : List ℕ = little_bytes 2 (length name) in
    let b : List ℕ = a ++ name in
    let d : List ℕ = b ++ little_bytes 8 s.leaves in
    let e : List ℕ = d ++ little_bytes 8 s.last in
    let place : middle + 16 ≡ middle + 8 + 8 = omega arith in
    let moved : take (middle + 16) c.put_u64-2.new.into ≡ take (middle + 8 + 8) c.put_u64-2.new.into = ap (λ (k : ℕ). take k c.put_u64-2.new.into) place in
    step front e (rescue_bytes s.rescue) (take (middle + 16) c.put_u64-2.new.into) (take c.put_rescue.result c.put_rescue.new.into) c.put_rescue.ensures.front
    (moved ∙ step front d (little_bytes 8 s.last) (take (middle + 8) c.put_u64.new.into) (take (middle + 8 + 8) c.put_u64-2.new.into) c.put_u64-2.ensures.front
    (step front b (little_bytes 8 s.leaves) (take middle c.put_bytes.new.into) (take (middle + 8) c.put_u64.new.into) c.put_u64.ensures.front
    (step front a name (take (at + 2) c.put_u16.new.into) (take middle c.put_bytes.new.into) c.put_bytes.ensures c.put_u16.ensures.front)))
    ∙ ap (λ (l : List ℕ). front ++ (little_bytes 2 (length l) ++ l ++ little_bytes 8 s.leaves ++ little_bytes 8 s.last ++ rescue_bytes s.rescue)) is

use Rattle.std.proofs.Common.{◌≡◌, ◌+◌, ◌-◌, ◌*◌, ◌≤◌, ◌∙◌, List, ℕ, ◌++◌, length, take, ap, arith}
use Rattle.std.proofs.Math.ListN.{replicate}
use Rattle.std.proofs.lemmas.List.{length-replicate}
use Rattle.std.specs.List.{flat_map}
use Rattle.byteorder.specs.Endian.{little_bytes}
use borrow.Rule.Slice.PartMut.{put_mid}
use Rattle.ak_bytes.proofs.Parts.{length-part}
use Rattle.ak_meta.specs.Contents.{fills_bytes}
use Rattle.ak_meta.proofs.Joining.{step, take_mid}
use Rattle.ak_meta.proofs.putting.put_fills.Goals as goal

pub returns-clause-front : goal.returns-clause-front
unfolding fills_bytes
returns-clause-front c =
    let a = c.put_live-middle.result in
    let v = c.args.volumes in
    let fills = c.args.fills.now in
    let mid = c.put_live-middle.new.into in
    let zeros = c.clear.new.bytes in
    let end = 40 + 4 * v in
    let n = end - a in
    let at : a ≡ 40 + 4 * length fills = c.put_live-middle.ensures.end in
    let size : n ≡ 4 * (v - length fills) = omega (arith, at, c.requires.live) in
    let reach : a + n ≡ end = omega (arith, at, c.requires.live) in
    let within : end ≤ length mid = omega (arith, c.requires.within) in
    let long = length-part a n mid (omega (arith, reach, within)) in
    let all : zeros ≡ replicate (4 * (v - length fills)) 0 = c.clear.ensures ∙ ap (λ (m : ℕ). replicate {A = ℕ} m 0) (long ∙ size) in
    let many : length zeros ≡ n = omega (arith, ap length all, length-replicate {A = ℕ} (4 * (v - length fills)) 0, size) in
    step (take 40 c.args.into.now) (flat_map (little_bytes 4) fills) (replicate (4 * (v - length fills)) 0) (take a mid) (take end (put_mid a n mid zeros))
    (take_mid a n end mid zeros reach within many ∙ ap (λ (l : List ℕ). take a mid ++ l) all) c.put_live-middle.ensures.front

use Rattle.std.proofs.Common.{rules, ◌≡◌, ◌+◌, ◌-◌, ◌*◌, ◌<◌, ◌≤◌, ◌^◌, ◌∙◌, ◌++◌, ℕ, List, length, take, drop, sym, ap, subst, arith}
use Rattle.std.specs.List.{AllByRecursion}
use Rattle.ak_bytes.proofs.Parts.{zeros_own, zeros_long, length-part}
use Rattle.ak_meta.specs.Contents.{fills_bytes}
use Rattle.ak_meta.proofs.Fronts.{each_taken}
use Rattle.ak_meta.proofs.Behind.{fills_found, fills_read}
use Rattle.ak_meta.proofs.reading.read_volumes.Goals as goal
use Rattle.ak_meta.proofs.reading.read_volumes.Goals.{then-not-are_fills-via-then-not-are_fills, then-not-are_fills-via-else-not-are_fills+then-not-is_zero}

pub returns-then-not-are_fills-clause-bad : goal.returns-then-not-are_fills-clause-bad
returns-then-not-are_fills-clause-bad c bad fills are many full within e =
    let from = c.args.from.now in
    let v = c.args.front.now.limits.volumes in
    let blocks = c.args.front.now.limits.blocks in
    let live = c.args.front.now.live in
    let got = c.in_ok-fills.fills.items in
    let run = c.is_run.ensures.0 c.if-not-is_run.false in
    let small : AllByRecursion (λ (fill : ℕ). fill < 2 ^ 32) fills = each_taken (λ (fill : ℕ). fill ≤ blocks) (λ (fill : ℕ). fill < 2 ^ 32) (λ fill most. omega (arith, most, are.indexes)) fills are.within in
    let found = fills_found from got fills v live run.1 within c.in_ok-fills.ensures.bytes.0 many c.in_ok-fills.ensures.fits small c.in_ok-fills.ensures.bytes.1 e in
    let own : AllByRecursion (λ (fill : ℕ). fill ≤ blocks) c.as_slice.result.now = subst (AllByRecursion (λ (fill : ℕ). fill ≤ blocks)) (sym (c.as_slice.ensures.value ∙ found.0)) are.within in
    elim c.then-not-are_fills.branch [
      | then-not-are_fills-via-then-not-are_fills w ↦ search (rules, c.are_fills.ensures.1 own)
      | then-not-are_fills-via-else-not-are_fills+then-not-is_zero w ↦ search (rules, w.is_zero.ensures.1 (zeros_own (4 * (v - live)) (take (40 + 4 * v - (40 + 4 * live)) (drop (40 + 4 * live) from)) found.1))
    ]

pub returns-clause-bytes : goal.returns-clause-bytes
returns-clause-bytes c =
    let from = c.args.from.now in
    let v = c.args.front.now.limits.volumes in
    let live = c.args.front.now.live in
    let got = c.in_ok-fills.fills.items in
    let run = c.is_run.ensures.0 c.if-not-is_run.false in
    let within : 40 + 4 * v ≤ length from = omega (arith, c.if-from-end.false) in
    let n = 40 + 4 * v - (40 + 4 * live) in
    let zeros = c.is_zero.ensures.0 (search rules) in
    let long : length (take n (drop (40 + 4 * live) from)) ≡ 4 * (v - live) = length-part (40 + 4 * live) n from (omega (arith, within, run.1)) ∙ omega (arith, run.1) in
    let read = fills_read from got v live run.1 c.in_ok-fills.ensures.bytes.0 c.in_ok-fills.ensures.bytes.1 (zeros_long (4 * (v - live)) (take n (drop (40 + 4 * live) from)) long zeros) in
    let same : c.in_ok-volumes.volumes.fills ≡ got = search rules in
    (within, read ∙ ap (λ (l : List ℕ). take 40 from ++ fills_bytes v l) (sym same))

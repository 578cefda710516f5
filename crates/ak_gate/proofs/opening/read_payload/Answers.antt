use Rattle.std.proofs.Common.{◌≡◌, ◌∙◌, ◌++◌, ◌+◌, ◌-◌, ◌<◌, ◌≤◌, List, ℕ, [], min, take, drop, length, slice_index, slice_index_or, ap, arith, refl, sym}
use Rattle.ak_host.specs.Files.{Files, block_at, file_at}
use Rattle.ak_host.proofs.Passing.{disk_starts, disk_goes_on, disk_now}
use Rattle.ak_gate.specs.Slots.{joined, body_at, body_index}
use Rattle.ak_gate.proofs.Heads.{first_part, joined_at, body_end, at_end}
use Rattle.ak_gate.proofs.opening.read_payload.Goals as goal

pub loop-i-init : goal.loop-i-init
loop-i-init g c = record {
  sizes = refl;
  later = omega arith;
  port_faults = refl;
  short = omega (arith, c.in_ok-left.ensures.short, ap length c.new-payload.ensures);
  only = λ told. record { files = refl; writes = refl; reads_least = omega arith; reads_most = omega arith; moments = disk_starts _ _ };
  to_come = λ told.
      first_part c.args.slot c.args.half (file_at (g.D.Outside.state c.args.disk.now).files 0) c.args.head.now c.extend_by.new.payload c.in_ok-left.left c.requires.some (c.requires.head told)
      (c.in_ok-left.ensures.ok.0 ∙ ap (λ (l : List ℕ). l ++ take (min c.args.head.now.length (4096 - 16)) (drop 16 c.args.head.now.block)) c.new-payload.ensures)
      c.in_ok-left.ensures.ok.1;
}

pub read_more-requires-clause-there : goal.read_more-requires-clause-there
read_more-requires-clause-there g c = omega (arith, ap length c.loop-i.invariant.sizes, c.requires.sized.there)

pub read_more-requires-clause-inside : goal.read_more-requires-clause-inside
read_more-requires-clause-inside g c =
    omega (arith, ap (λ (sizes : List ℕ). slice_index sizes 0) c.loop-i.invariant.sizes, c.requires.sized.blocks, body_end c.args.slot c.args.half, c.body_index-start.ensures)

pub loop-i-preserved : goal.loop-i-preserved
loop-i-preserved g c =
    let so_far = c.loop-i.invariant in
    let file = file_at (g.D.Outside.state c.args.disk.now).files 0 in
    let body = body_at c.args.slot c.args.half file in
    let i = c.loop-i.i in
    record {
      sizes = c.read_more.ensures.sizes ∙ so_far.sizes;
      later = omega (arith, c.read_more.ensures.later, so_far.later);
      port_faults = c.read_more.ensures.port_faults ∙ so_far.port_faults;
      short = omega (arith, c.in_ok-left-2.ensures.short, so_far.short);
      only = λ told. record {
        files = (c.read_more.ensures.only told).files ∙ (so_far.only told).files;
        writes = (c.read_more.ensures.only told).writes ∙ (so_far.only told).writes;
        reads_least = omega (arith, (c.read_more.ensures.only told).reads_least, (so_far.only told).reads_least);
        reads_most = omega (arith, (c.read_more.ensures.only told).reads_most, (so_far.only told).reads_most, c.loop-i.auto.i);
        moments = disk_goes_on (so_far.only told).moments (c.read_more.ensures.only told).moments (disk_now (so_far.only told).moments (λ d was. was));
      };
      to_come = λ told.
          let within : i < c.args.slot = omega arith in
          let block_is : block_at (g.D.Outside.state c.loop-i.disk).files 0 (c.body_index-start.result + i) ≡ slice_index_or file (body_index c.args.slot c.args.half + i) [] =
          ap (λ (files : Files). block_at files 0 (c.body_index-start.result + i)) (so_far.only told).files ∙ ap (λ k. slice_index_or file (k + i) []) c.body_index-start.ensures in
          c.in_ok-left-2.ensures.goes_on told (joined (drop (i + 1) body))
          ∙ ap (λ (bytes : List ℕ). c.loop-i.payload ++ take c.loop-i.left bytes)
          (ap (λ (block : List ℕ). block ++ joined (drop (i + 1) body)) block_is ∙ sym (joined_at c.args.slot c.args.half file i within))
          ∙ so_far.to_come told;
    }

pub returns-clause-payload : goal.returns-clause-payload
returns-clause-payload g c told =
    let past : c.args.slot ≤ c.loop-i.i = omega arith in
    sym (at_end c.loop-i.payload c.loop-i.left c.args.slot c.args.half (file_at (g.D.Outside.state c.args.disk.now).files 0) c.loop-i.i past) ∙ c.loop-i.invariant.to_come told

use Rattle.std.proofs.Common.{◌≡◌, ◌∙◌, ℕ, suc, ◌+◌, ◌/◌, ◌^◌, length, slice_index, List, ap, subst, arith}
use Rattle.ak_host.specs.Files.{file_at}
use Rattle.ak_host.proofs.Passing.{disk_weaker}
use Rattle.ak_levels.specs.Closes.{raised, emptied}
use Rattle.ak_levels.specs.Entries.{IsTally}
use Rattle.ak_tree.proofs.Outside.{long_as_told, outside_on, outside_set, leaves_on, tallies_at, room_at, lawful_at, emptied_next, raised_next, number_next, above_addr, node_more}
use Rattle.ak_tree.proofs.writing.write_nodes.Goals as goal

pub raise-above-requires-clause-room : goal.raise-above-requires-clause-room
raise-above-requires-clause-room g c =
    let k = c.loop-level.level in
    room_at c.args.levels.now c.loop-level.levels k c.loop-level.invariant.emptied_is (c.requires.room k (omega arith))

pub raise-above-requires-clause-tallies : goal.raise-above-requires-clause-tallies
raise-above-requires-clause-tallies g c =
    tallies_at c.args.levels.now c.loop-level.levels c.args.group.now.number c.loop-level.level c.loop-level.above c.loop-level.invariant.emptied_is c.requires.lawful (omega arith) c.loop-level.invariant.tally

pub raise-above-requires-clause-addr : goal.raise-above-requires-clause-addr
raise-above-requires-clause-addr g c =
    omega (arith, above_addr c.args.levels.now c.args.group.now.leaf c.loop-level.above c.loop-level.level c.loop-level.invariant.above_is)

pub returns-in_err-write-clause-lawful : goal.returns-in_err-write-clause-lawful
returns-in_err-write-clause-lawful g c =
    let k = c.loop-level.level in
    lawful_at c.args.levels.now c.raise-above.new.levels c.args.group.now.number (suc k)
    (emptied_next c.args.levels.now c.loop-level.levels c.raise-above.new.levels k c.loop-level.invariant.emptied_is c.raise-above.ensures.empty) c.requires.lawful

pub returns-in_err-write-clause-moments : goal.returns-in_err-write-clause-moments
returns-in_err-write-clause-moments g c told =
    leaves_on c.args.file c.args.index c.args.group.now.others (c.args.index + c.loop-level.level) (g.D.Outside.state c.args.disk.now) (g.D.Outside.state c.loop-level.disk) (g.D.Outside.state c.write.new.self)
    (omega arith) (omega arith) (c.loop-level.invariant.moments told) (c.write.ensures.moments told)

pub returns-in_err-write-clause-passes : goal.returns-in_err-write-clause-passes
returns-in_err-write-clause-passes g c told = disk_weaker (returns-in_err-write-clause-moments g c told) (λ disk left. tt)

pub loop-level-preserved : goal.loop-level-preserved
loop-level-preserved g c =
    let so_far = c.loop-level.invariant in
    let old = g.D.Outside.state c.args.disk.now in
    let mid = g.D.Outside.state c.loop-level.disk in
    let new = g.D.Outside.state c.write.new.self in
    let file = c.args.file in
    let index = c.args.index in
    let group = c.args.group.now in
    let v = c.args.levels.now in
    let w = c.loop-level.levels in
    let k = c.loop-level.level in
    let next : suc k ≡ k + 1 = omega arith in
    let emptied_is : c.raise-above.new.levels ≡ emptied v (suc k) = emptied_next v w c.raise-above.new.levels k so_far.emptied_is c.raise-above.ensures.empty in
    let raised_is : c.raise-above.result ≡ raised v group.leaf (suc k) = raised_next v w group.leaf c.loop-level.above c.raise-above.result k so_far.emptied_is so_far.above_is c.raise-above.ensures.raised in
    let number_is : c.loop-level.number / 32 ≡ group.number / 32 ^ suc k = number_next group.number c.loop-level.number k so_far.number_is in
    record {
      sizes = c.write.ensures.sizes ∙ so_far.sizes;
      later = omega (arith, so_far.later, c.write.ensures.cause.later);
      port_faults = c.write.ensures.port_faults ∙ so_far.port_faults;
      emptied_is = subst (λ (n : ℕ). c.raise-above.new.levels ≡ emptied v n) next emptied_is;
      above_is = subst (λ (n : ℕ). c.raise-above.result ≡ raised v group.leaf n) next raised_is;
      number_is = subst (λ (n : ℕ). c.loop-level.number / 32 ≡ group.number / 32 ^ n) next number_is;
      tally = subst (λ (n : ℕ). IsTally n c.raise-above.result) next c.raise-above.ensures.tally;
      nodes = λ told.
          let long : length (file_at mid.files file) ≡ slice_index old.sizes file = long_as_told mid.files mid.sizes file (g.met.D.Disk.sized told c.loop-level.disk) ∙ ap (λ (sizes : List ℕ). slice_index sizes file) so_far.sizes in
          node_more group v w file index k (c.loop-level.number / 32) c.loop-level.above c.raise-above.result _ mid.files new.files (omega (arith, long, c.requires.index))
          so_far.emptied_is so_far.above_is number_is raised_is c.raise-above.ensures.block (c.in_ok-write.ensures.files told) (so_far.nodes told);
      outside = λ told. outside_on file index group.others old.files mid.files new.files (so_far.outside told)
          (outside_set file index group.others (index + k) mid.files new.files _ (omega arith) (omega arith) (c.in_ok-write.ensures.files told));
      reads = λ told. c.write.ensures.reads told ∙ so_far.reads told;
      writes = λ told. omega (arith, so_far.writes told, (c.in_ok-write.ensures.writes told).ok);
      moments = λ told. leaves_on file index group.others (index + k) old mid new (omega arith) (omega arith) (so_far.moments told) (c.write.ensures.moments told);
    }

pub returns-clause-lawful : goal.returns-clause-lawful
returns-clause-lawful g c = lawful_at c.args.levels.now c.loop-level.levels c.args.group.now.number c.loop-level.level c.loop-level.invariant.emptied_is c.requires.lawful

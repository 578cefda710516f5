use Rattle.std.proofs.Common.{◌≡◌, ◌+◌, arith, length, slice_index, Result, Ok, Err, OnOk}
use Rattle.ak_host.specs.Files.{file_at}
use Rattle.ak_host.proofs.Passing.{disk_starts, disk_weaker}
use Rattle.ak_tree.specs.Writing.{LeavesOutside}
use Rattle.ak_tree.proofs.Outside.{long_as_told, group_made, leaves_on, leaves_then}
use Rattle.ak_tree.proofs.writing.write_group.Goals as goal

both_ok : {T E A B C : Type 0} (r : Result T E) → OnOk r A → OnOk r B → (A → B → C) → OnOk r C
both_ok (Ok x) one two follows = follows one two
both_ok (Err e) one two follows = tt

pub returns-in_err-write-clause-moments : goal.returns-in_err-write-clause-moments
returns-in_err-write-clause-moments g c told =
    let old = g.D.Outside.state c.args.disk.now in
    let others = c.args.group.now.others in
    leaves_on c.args.file c.args.index (1 + others) c.args.index old old (g.D.Outside.state c.write.new.self) (omega arith) (omega arith)
    (disk_starts (LeavesOutside c.args.file c.args.index (1 + others) old) old) (c.write.ensures.moments told)

pub returns-clause-files : goal.returns-clause-files
returns-clause-files g c told =
    let old = g.D.Outside.state c.args.disk.now in
    let mid = g.D.Outside.state c.write.new.self in
    let new = g.D.Outside.state c.write_nodes.new.disk in
    let long : length (file_at old.files c.args.file) ≡ slice_index old.sizes c.args.file = long_as_told old.files old.sizes c.args.file (g.met.D.Disk.sized told c.args.disk.now) in
    both_ok c.write_nodes.result (c.write_nodes.ensures.outside told) (c.write_nodes.ensures.nodes told) (λ outside nodes.
    group_made c.args.file c.args.index c.args.group.now c.args.levels.now old.files mid.files new.files c.args.first.now (omega (arith, long, c.requires.index)) (c.in_ok-write.ensures.files told) outside nodes)

pub returns-clause-moments : goal.returns-clause-moments
returns-clause-moments g c told =
    let old = g.D.Outside.state c.args.disk.now in
    let mid = g.D.Outside.state c.write.new.self in
    let others = c.args.group.now.others in
    let first = leaves_on c.args.file c.args.index (1 + others) c.args.index old old mid (omega arith) (omega arith)
    (disk_starts (LeavesOutside c.args.file c.args.index (1 + others) old) old) (c.write.ensures.moments told) in
    leaves_then c.args.file c.args.index (1 + others) (c.args.index + 1) others old mid (g.D.Outside.state c.write_nodes.new.disk) (omega arith) (omega arith)
    first (c.write_nodes.ensures.moments told)

pub returns-clause-passes : goal.returns-clause-passes
returns-clause-passes g c told = disk_weaker (returns-clause-moments g c told) (λ disk left. tt)

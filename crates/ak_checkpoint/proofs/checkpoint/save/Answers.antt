use Rattle.ak_checkpoint.proofs.Elsewhere.{on_ok, over_now, rests_synced, saving_passes}
use Rattle.ak_record.specs.Records.{frame_for}
use Rattle.ak_checkpoint.proofs.checkpoint.save.Goals as goal

pub returns-clause-moments : goal.returns-clause-moments
returns-clause-moments g c told before content rests is slot_is framed =
    let old = g.D.Outside.state c.args.disk.now in
    let mid = g.D.Outside.state c.sync.new.self in
    let new = g.D.Outside.state c.write_frame.new.disk in
    let same = (c.sync.ensures.disk told).files in
    let run = c.sync.ensures.moments told in
    let stable = c.in_ok-sync.ensures.stable told in
    saving_passes c.args.file old mid new c.requires.volume same run stable c.args.gate.now.slot before (frame_for c.args.number content) (c.write_frame.ensures.elsewhere_left told)
    (c.write_frame.ensures.moments told before content (rests_synced c.args.file old mid new c.requires.volume same run stable c.args.gate.now.slot before rests) is slot_is framed)

pub returns-clause-saved : goal.returns-clause-saved
returns-clause-saved g c told before content rests is slot_is framed =
    let old = g.D.Outside.state c.args.disk.now in
    let mid = g.D.Outside.state c.sync.new.self in
    let new = g.D.Outside.state c.write_frame.new.disk in
    let same = (c.sync.ensures.disk told).files in
    let run = c.sync.ensures.moments told in
    let stable = c.in_ok-sync.ensures.stable told in
    on_ok c.write_frame.result
    (c.write_frame.ensures.rests told before content (rests_synced c.args.file old mid new c.requires.volume same run stable c.args.gate.now.slot before rests) is slot_is framed)
    (λ has disk left. (over_now c.args.file old mid new c.requires.volume same run stable (c.write_frame.ensures.elsewhere_left told) disk left, has disk left))

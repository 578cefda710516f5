use Rattle.std.proofs.Common.{◌≡◌, ◌∙◌, inl, ◌+◌, ◌*◌, ◌≤◌, ◌^◌, ◌<◌, ap, sym, subst, arith, length, false, Some}
use Rattle.ak_host.specs.Files.{file_at}
use Rattle.ak_host.specs.Moments.{DiskPasses}
use Rattle.ak_host.proofs.Passing.{disk_starts, disk_now, disk_weaker}
use Rattle.ak_gate.specs.Slots.{Frame, body_at, other, newest}
use Rattle.ak_gate.specs.Fits.{other_frame}
use Rattle.ak_gate.specs.View.{View}
use Rattle.ak_meta.specs.Contents.{meta_bytes}
use Rattle.ak_record.specs.Records.{HasNewest, frame_for, frame_bytes}
use Rattle.ak_checkpoint.specs.Bodies.{BeginsWith}
use Rattle.ak_checkpoint.proofs.Elsewhere.{elsewhere_on, on_ok}
use Rattle.ak_checkpoint.proofs.Frames.{carried, frame_is, frame_room, view_record, begins_by}
use Rattle.ak_checkpoint.proofs.Records.{shut_passes, written_passes, saved_passes, either_newest}
use Rattle.ak_checkpoint.proofs.frame.write_frame.Goals as goal

pub returns-in_err-shut-clause-moments : goal.returns-in_err-shut-clause-moments
returns-in_err-shut-clause-moments g c told before content rests is slot_is framed =
    let view = c.args.gate.now in
    let old = g.D.Outside.state c.args.disk.now in
    let closed = λ (closed : view.other_open ≡ false). subst (λ d. DiskPasses (HasNewest view.slot before) old (g.D.Outside.state d)) (sym (c.shut.ensures.closed closed)) (disk_starts (HasNewest view.slot before) old) in
    disk_weaker (shut_passes view old (g.D.Outside.state c.shut.new.disk) before (c.requires.fits told) (rests old.files (g.met.D.Disk.leaves_files told c.args.disk.now)) (c.shut.ensures.torn told) closed) (λ disk has. inl has)

pub returns-in_err-write_body-clause-moments : goal.returns-in_err-write_body-clause-moments
returns-in_err-write_body-clause-moments g c told before content rests is slot_is framed =
    let view = c.args.gate.now in
    let old = g.D.Outside.state c.args.disk.now in
    let closed = λ (closed : view.other_open ≡ false). subst (λ d. DiskPasses (HasNewest view.slot before) old (g.D.Outside.state d)) (sym (c.shut.ensures.closed closed)) (disk_starts (HasNewest view.slot before) old) in
    disk_weaker (written_passes view c.shut.new.self old (g.D.Outside.state c.shut.new.disk) (g.D.Outside.state c.write_body.new.disk) before c.in_ok-shut.ensures.ok
    (c.requires.fits told) rests (g.met.D.Disk.leaves_files told c.args.disk.now) (g.met.D.Disk.leaves_files told c.shut.new.disk) (c.shut.ensures.torn told) closed
    (c.in_ok-shut.ensures.fits told) (c.write_body.ensures.moments told)) (λ disk has. inl has)

pub returns-in_err-write_body-clause-elsewhere_left : goal.returns-in_err-write_body-clause-elsewhere_left
returns-in_err-write_body-clause-elsewhere_left g c told =
    elsewhere_on (g.D.Outside.state c.args.disk.now) (g.D.Outside.state c.shut.new.disk) (g.D.Outside.state c.write_body.new.disk) (c.shut.ensures.elsewhere_left told) (c.write_body.ensures.elsewhere_left told)

pub reveal-requires-clause-carries : goal.reveal-requires-clause-carries
reveal-requires-clause-carries g c told =
    carried c.args.number c.args.frame.now _ (omega arith) c.requires.carries
    (subst (λ (v : View). BeginsWith c.args.frame.now (body_at v.slot (other v.newest) (file_at (g.D.Outside.state c.write_body.new.disk).files 0))) (sym c.in_ok-write_body.ensures.ok) (c.in_ok-write_body.ensures.written told))

pub returns-clause-elsewhere_left : goal.returns-clause-elsewhere_left
returns-clause-elsewhere_left g c told =
    elsewhere_on (g.D.Outside.state c.args.disk.now) (g.D.Outside.state c.write_body.new.disk) (g.D.Outside.state c.reveal.new.disk)
    (elsewhere_on (g.D.Outside.state c.args.disk.now) (g.D.Outside.state c.shut.new.disk) (g.D.Outside.state c.write_body.new.disk) (c.shut.ensures.elsewhere_left told) (c.write_body.ensures.elsewhere_left told))
    (c.reveal.ensures.elsewhere_left told)

pub returns-clause-moments : goal.returns-clause-moments
returns-clause-moments g c told before content rests is slot_is framed =
    let view = c.args.gate.now in
    let old = g.D.Outside.state c.args.disk.now in
    let mid = g.D.Outside.state c.write_body.new.disk in
    let closed = λ (closed : view.other_open ≡ false). subst (λ d. DiskPasses (HasNewest view.slot before) old (g.D.Outside.state d)) (sym (c.shut.ensures.closed closed)) (disk_starts (HasNewest view.slot before) old) in
    let so_far = written_passes view c.shut.new.self old (g.D.Outside.state c.shut.new.disk) mid before c.in_ok-shut.ensures.ok
    (c.requires.fits told) rests (g.met.D.Disk.leaves_files told c.args.disk.now) (g.met.D.Disk.leaves_files told c.shut.new.disk) (c.shut.ensures.torn told) closed
    (c.in_ok-shut.ensures.fits told) (c.write_body.ensures.moments told) in
    let frame = frame_for c.args.number content in
    let room : 16 + length (meta_bytes content) ≤ 4096 * view.slot = frame_room frame c.args.frame.now view.slot framed c.requires.room in
    let body = body_at view.slot (other view.newest) (file_at mid.files 0) in
    let begins : BeginsWith (frame_bytes frame) body = begins_by view c.shut.new.self c.args.frame.now (frame_bytes frame) mid.files c.in_ok-shut.ensures.ok framed (c.in_ok-write_body.ensures.written told) in
    let short : length (meta_bytes content) < 2 ^ 64 = omega (arith, room, c.requires.sized.small) in
    let below : c.args.number < 2 ^ 64 = omega arith in
    saved_passes view c.write_body.new.gate old mid (g.D.Outside.state c.reveal.new.disk) before frame (c.in_ok-write_body.ensures.ok ∙ c.in_ok-shut.ensures.ok)
    so_far rests (g.met.D.Disk.leaves_files told c.write_body.new.disk)
    (view_record c.args.number content view.slot body c.requires.sized.small below room begins is slot_is)
    (frame_is frame body short begins below) (c.reveal.ensures.torn told) (c.reveal.ensures.moments told)

pub returns-clause-rests : goal.returns-clause-rests
returns-clause-rests g c told before content rests is slot_is framed =
    let view = c.args.gate.now in
    let mid = g.D.Outside.state c.write_body.new.disk in
    let frame = frame_for c.args.number content in
    let passes = returns-clause-moments g c told before content rests is slot_is framed in
    let room : 16 + length (meta_bytes content) ≤ 4096 * view.slot = frame_room frame c.args.frame.now view.slot framed c.requires.room in
    let begins : BeginsWith (frame_bytes frame) (body_at view.slot (other view.newest) (file_at mid.files 0)) = begins_by view c.shut.new.self c.args.frame.now (frame_bytes frame) mid.files c.in_ok-shut.ensures.ok framed (c.in_ok-write_body.ensures.written told) in
    let other_is : other_frame view mid.files ≡ frame = frame_is frame (body_at view.slot (other view.newest) (file_at mid.files 0)) (omega (arith, room, c.requires.sized.small)) begins (omega arith) in
    let same = c.in_ok-write_body.ensures.ok ∙ c.in_ok-shut.ensures.ok in
    on_ok c.reveal.result (c.reveal.ensures.revealed told) (λ shown disk left.
    either_newest view.slot before (Some frame) disk (disk_now passes (λ d was. inl (rests d was)) disk left)
    (subst (λ (v : View). newest v.slot disk ≡ Some (other_frame v mid.files)) same (shown disk left) ∙ ap (λ (f : Frame). Some f) other_is))

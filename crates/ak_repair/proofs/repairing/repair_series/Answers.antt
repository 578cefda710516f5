use Rattle.std.proofs.Common.{◌≡◌, ◌∙◌, ℕ, ◌%◌, get_or, refl, ap, arith}
use Rattle.ak_base.specs.declared.point.Addr.{Addr}
use Rattle.ak_image.specs.Blocks.{seen_in}
use Rattle.ak_levels.specs.Pending.{Lists, pending_at}
use Rattle.ak_repair.proofs.Follow.{moved}
use Rattle.ak_repair.proofs.Levels.{IsAdded, made_next, lawful_added, none_added, rebuilt_added, rescue_got}
use Rattle.ak_repair.proofs.OnlyReading.{more_reads}
use Rattle.ak_repair.specs.Follows.{AreFollowed, pending_of}
use Rattle.ak_volumes.specs.Ordinals.{Ordinals}
use Rattle.ak_repair.proofs.repairing.repair_series.Goals as goal

pub loop-level-preserved : goal.loop-level-preserved
loop-level-preserved g c =
    let so_far = c.loop-level.invariant in
    let step = c.in_ok-follow.ensures in
    let o : Ordinals = c.args.reach.now.volumes.now in
    let p : Ordinals = c.loop-level.reach.volumes.now in
    let old = g.D.Outside.state c.args.reach.now.disk.now in
    let mid = g.D.Outside.state c.loop-level.reach.disk.now in
    let known = c.args.known.now in
    let level : ℕ = c.loop-level.level in
    let made : ℕ = c.loop-level.made in
    let v : Lists = c.loop-level.levels in
    let w : Lists = c.follow.new.levels in
    let at : Addr = get_or known.rescue level (record { 0 = 0 }) in
    let same : p ≡ o = ap (λ r. r.now) so_far.keeps.volumes in
    let left : made % 32 ≡ pending_of known.leaves level = ap (λ (n : ℕ). n % 32) so_far.made in
    let added : IsAdded level v w = record { placed = step.placed; others = step.others } in
    record {
      keeps = record {
        disk = step.keeps.disk ∙ so_far.keeps.disk;
        volumes = step.keeps.volumes ∙ so_far.keeps.volumes;
        cache = step.keeps.cache ∙ so_far.keeps.cache;
        scratch = step.keeps.scratch ∙ so_far.keeps.scratch;
      };
      cache = step.cache ∙ so_far.cache;
      reads = more_reads so_far.reads step.reads;
      count = λ told. omega (arith, so_far.count told, step.count told);
      made = made_next known.leaves level made so_far.made;
      lawful = lawful_added known.leaves level (made % 32) v w added left step.few step.tallies so_far.lawful;
      none = none_added level v w added so_far.none;
      rebuilt = λ told.
          rebuilt_added (seen_in o.volumes old.files) o c.args.series known level (made % 32) made at.0 v w added so_far.made refl (rescue_got known.rescue level)
          (moved (λ u files. AreFollowed (seen_in u.volumes files) u c.args.series level (made % 32) made at.0 (pending_at w level))
          o p old.files mid.files same (so_far.reads.files told) (step.followed told))
          (so_far.rebuilt told);
    }

use Rattle.std.proofs.Common.{◌≡◌, ◌∙◌, ℕ, suc, ◌+◌, ◌-◌, ◌*◌, ◌/◌, ◌^◌, ◌<◌, ◌≤◌, List, length, map, Ok, Some, None, refl, sym, ap, subst, arith}
use Rattle.std.specs.List.{AllByRecursion}
use Rattle.ak_base.specs.declared.point.Point.{Point}
use Rattle.ak_base.specs.declared.stop.Stop.{Stop}
use Rattle.ak_base.specs.declared.stop.Stop.TheVariants.{Disk}
use Rattle.ak_scene.proofs.Levels.{level_begin, level_end, fit_children, fit_ends, fit_gap}
use Rattle.ak_scene.proofs.Levels.{last_level}
use Rattle.ak_scene.proofs.Links.{moved, moved_children, seen_kept}
use Rattle.ak_forest.specs.Numbers.{made, digit}
use Rattle.ak_forest.proofs.Arith.{times_le}
use Rattle.ak_image.specs.Blocks.{Seen, seen_in}
use Rattle.ak_image.specs.Nodes.{reference_of}
use Rattle.ak_image.specs.Trees.{points_between, total_of}
use Rattle.ak_inner.specs.declared.reference.Ref.{Ref}
use Rattle.ak_levels.specs.Pending.{pending_at}
use Rattle.ak_repair.proofs.OnlyReading.{no_read, more_reads, stop_from}
use Rattle.ak_volumes.specs.Ordinals.{Ordinals}
use Rattle.ak_walk.proofs.Early.{early_none, early_level, sought_moved}
use Rattle.ak_walk.specs.Places.{IsSought}
use Rattle.ak_world.specs.Views.{address_of}
use Rattle.ak_scene.proofs.Reaching.{reached_waits, row_moved, stop_later}
use Rattle.ak_walk.proofs.seeking.seek.Goals as goal

pub loop-below-init : goal.loop-below-init
loop-below-init g c =
    let o = c.args.reach.now.volumes.now in
    let old = g.D.Outside.state c.args.reach.now.disk.now in
    record {
      keeps = record { disk = refl; volumes = refl; cache = refl; scratch = refl };
      cache = refl;
      reads = no_read g.D.Outside.tells old;
      sought = λ told leaves written fit.
          early_none o (seen_in o.volumes old.files) c.args.e.now.series leaves fit.scene c.args.x 0 (c.args.e.now.leaves / 2 ^ 55 * 2 ^ 55) (omega (arith, c.requires.lawful.most));
    }

pub returns-in_err-found-clause-sound : goal.returns-in_err-found-clause-sound
returns-in_err-found-clause-sound g c told leaves written fit =
    let o = c.args.reach.now.volumes.now in
    let p = c.loop-below.reach.volumes.now in
    let old = g.D.Outside.state c.args.reach.now.disk.now in
    let mid = g.D.Outside.state c.loop-below.reach.disk.now in
    let so_far = c.loop-below.invariant in
    let n = c.args.e.now.leaves in
    let below = c.loop-below.below in
    let k = 10 - below in
    let up : 11 - below ≡ suc k = omega (arith, c.loop-below-test.true) in
    let refs : List Ref = c.pending-refs.result.now in
    let len = length refs in
    let long : len ≡ length (pending_at c.args.e.now.levels.now k) = ap (λ (rs : List Ref). length rs) c.pending-refs.ensures.pending in
    let few : len ≤ digit 32 k n = omega (arith, long, c.requires.lawful.few k (omega arith)) in
    let first = c.made.result - len in
    let first_is : first ≡ made 32 k n - len = ap (λ (y : ℕ). y - len) c.made.ensures in
    let volumes : p ≡ o = ap (λ v. v.now) so_far.keeps.volumes in
    let low = fit.scene.known.leaves - length leaves in
    let seen : Seen = seen_in o.volumes old.files in
    let same = seen_kept o p old mid volumes (so_far.reads.files told) in
    let other = moved o p seen (seen_in p.volumes mid.files) c.args.e.now.series leaves (sym volumes) same fit.scene in
    let children = moved_children o.lo p.lo low (address_of leaves) (total_of leaves) k first first (map reference_of refs) (map reference_of refs) (ap (λ (v : Ordinals). v.lo) (sym volumes)) refl refl
    (fit_children o seen c.args.e.now.series n c.args.e.now.levels.now leaves written fit k len first refs (omega arith) c.pending-refs.ensures.pending refl few first_is) in
    let ends = fit_ends o seen c.args.e.now.series n c.args.e.now.levels.now leaves written fit k len first refs (omega arith) c.pending-refs.ensures.pending refl few first_is in
    stop_from (λ (stop : Stop). stop ≡ Disk) c.from_residual.result c.in_err-found.field-0.0 c.from_residual.ensures.1 (c.in_err-found.ensures.sound told leaves other children ends)

pub returns-in-Some-clause-before : goal.returns-in-Some-clause-before
returns-in-Some-clause-before g c told leaves written fit =
    let o = c.args.reach.now.volumes.now in
    let p = c.loop-below.reach.volumes.now in
    let old = g.D.Outside.state c.args.reach.now.disk.now in
    let mid = g.D.Outside.state c.loop-below.reach.disk.now in
    let so_far = c.loop-below.invariant in
    let n = c.args.e.now.leaves in
    let below = c.loop-below.below in
    let k = 10 - below in
    let up : 11 - below ≡ suc k = omega (arith, c.loop-below-test.true) in
    let refs : List Ref = c.pending-refs.result.now in
    let len = length refs in
    let long : len ≡ length (pending_at c.args.e.now.levels.now k) = ap (λ (rs : List Ref). length rs) c.pending-refs.ensures.pending in
    let few : len ≤ digit 32 k n = omega (arith, long, c.requires.lawful.few k (omega arith)) in
    let first = c.made.result - len in
    let first_is : first ≡ made 32 k n - len = ap (λ (y : ℕ). y - len) c.made.ensures in
    let volumes : p ≡ o = ap (λ v. v.now) so_far.keeps.volumes in
    let low = fit.scene.known.leaves - length leaves in
    let seen : Seen = seen_in o.volumes old.files in
    let same = seen_kept o p old mid volumes (so_far.reads.files told) in
    let other = moved o p seen (seen_in p.volumes mid.files) c.args.e.now.series leaves (sym volumes) same fit.scene in
    let children = moved_children o.lo p.lo low (address_of leaves) (total_of leaves) k first first (map reference_of refs) (map reference_of refs) (ap (λ (v : Ordinals). v.lo) (sym volumes)) refl refl
    (fit_children o seen c.args.e.now.series n c.args.e.now.levels.now leaves written fit k len first refs (omega arith) c.pending-refs.ensures.pending refl few first_is) in
    let ends = fit_ends o seen c.args.e.now.series n c.args.e.now.levels.now leaves written fit k len first refs (omega arith) c.pending-refs.ensures.pending refl few first_is in
    let gap = fit_gap o seen c.args.e.now.series n c.args.e.now.levels.now leaves written fit k len first refs (omega arith) c.pending-refs.ensures.pending refl few first_is in
    let before = subst (λ (l : ℕ). AllByRecursion (λ (p : Point). p.ts < c.args.x) (points_between leaves 0 (n / 32 ^ l * 32 ^ l))) up (so_far.sought told leaves written fit) in
    let start : made 32 (suc k) n * 32 ^ suc k ≤ first * 32 ^ k = level_begin n k len first few first_is in
    let found = sought_moved o p seen (seen_in p.volumes mid.files) c.args.e.now.series leaves fit.scene (sym volumes) same c.args.x (first * 32 ^ k) ((first + len) * 32 ^ k) (Ok (Some c.in-Some.number))
    (subst (IsSought p (seen_in p.volumes mid.files) c.args.e.now.series leaves other c.args.x (first * 32 ^ k) ((first + len) * 32 ^ k)) c.in-Some.is (c.in_ok-found.ensures.sought told leaves other children ends)) in
    (omega (arith, found.1, ends, fit.count_is), found.2, early_level o seen c.args.e.now.series leaves fit.scene c.args.x (made 32 (suc k) n * 32 ^ suc k) (first * 32 ^ k) c.in-Some.number start found.0 gap before found.3, λ below. found.4)

pub loop-below-preserved : goal.loop-below-preserved
loop-below-preserved g c =
    let o = c.args.reach.now.volumes.now in
    let p = c.loop-below.reach.volumes.now in
    let old = g.D.Outside.state c.args.reach.now.disk.now in
    let mid = g.D.Outside.state c.loop-below.reach.disk.now in
    let so_far = c.loop-below.invariant in
    let n = c.args.e.now.leaves in
    let below = c.loop-below.below in
    let k = 10 - below in
    let up : 11 - below ≡ suc k = omega (arith, c.loop-below-test.true) in
    let refs : List Ref = c.pending-refs.result.now in
    let len = length refs in
    let long : len ≡ length (pending_at c.args.e.now.levels.now k) = ap (λ (rs : List Ref). length rs) c.pending-refs.ensures.pending in
    let few : len ≤ digit 32 k n = omega (arith, long, c.requires.lawful.few k (omega arith)) in
    let first = c.made.result - len in
    let first_is : first ≡ made 32 k n - len = ap (λ (y : ℕ). y - len) c.made.ensures in
    let volumes : p ≡ o = ap (λ v. v.now) so_far.keeps.volumes in
    let down : k ≡ 11 - (below + 1) = omega (arith, c.loop-below-test.true) in
    let all_are : first + len ≡ made 32 k n = level_end n k len first few first_is in
    let read = c.in_ok-found.ensures in
    record {
      keeps = record {
        disk = read.keeps.disk ∙ so_far.keeps.disk;
        volumes = read.keeps.volumes ∙ so_far.keeps.volumes;
        cache = read.keeps.cache ∙ so_far.keeps.cache;
        scratch = read.keeps.scratch ∙ so_far.keeps.scratch;
      };
      cache = read.cache ∙ so_far.cache;
      reads = more_reads so_far.reads read.reads;
      sought = λ told leaves written fit.
          let low = fit.scene.known.leaves - length leaves in
          let seen : Seen = seen_in o.volumes old.files in
          let same = seen_kept o p old mid volumes (so_far.reads.files told) in
          let other = moved o p seen (seen_in p.volumes mid.files) c.args.e.now.series leaves (sym volumes) same fit.scene in
          let children = moved_children o.lo p.lo low (address_of leaves) (total_of leaves) k first first (map reference_of refs) (map reference_of refs) (ap (λ (v : Ordinals). v.lo) (sym volumes)) refl refl
          (fit_children o seen c.args.e.now.series n c.args.e.now.levels.now leaves written fit k len first refs (omega arith) c.pending-refs.ensures.pending refl few first_is) in
          let ends = fit_ends o seen c.args.e.now.series n c.args.e.now.levels.now leaves written fit k len first refs (omega arith) c.pending-refs.ensures.pending refl few first_is in
          let gap = fit_gap o seen c.args.e.now.series n c.args.e.now.levels.now leaves written fit k len first refs (omega arith) c.pending-refs.ensures.pending refl few first_is in
          let before = subst (λ (l : ℕ). AllByRecursion (λ (p : Point). p.ts < c.args.x) (points_between leaves 0 (n / 32 ^ l * 32 ^ l))) up (so_far.sought told leaves written fit) in
          let start : made 32 (suc k) n * 32 ^ suc k ≤ first * 32 ^ k = level_begin n k len first few first_is in
          let found = sought_moved o p seen (seen_in p.volumes mid.files) c.args.e.now.series leaves fit.scene (sym volumes) same c.args.x (first * 32 ^ k) ((first + len) * 32 ^ k) (Ok None)
          (subst (IsSought p (seen_in p.volumes mid.files) c.args.e.now.series leaves other c.args.x (first * 32 ^ k) ((first + len) * 32 ^ k)) c.in-None.is (read.sought told leaves other children ends)) in
          let on = early_level o seen c.args.e.now.series leaves fit.scene c.args.x (made 32 (suc k) n * 32 ^ suc k) (first * 32 ^ k) ((first + len) * 32 ^ k) start (times_le first (first + len) (32 ^ k) (omega arith)) gap before found in
          subst (λ (l : ℕ). AllByRecursion (λ (p : Point). p.ts < c.args.x) (points_between leaves 0 (n / 32 ^ l * 32 ^ l))) down
          (subst (λ (y : ℕ). AllByRecursion (λ (p : Point). p.ts < c.args.x) (points_between leaves 0 (y * 32 ^ k))) all_are on);
    }

pub returns-clause-before : goal.returns-clause-before
returns-clause-before g c told leaves written fit =
    let is : c.loop-below.below ≡ 11 = omega (arith, c.loop-below-test.false, c.loop-below.auto.below-end) in
    (omega arith, omega (arith, fit.count_is), subst (λ (e : ℕ). AllByRecursion (λ (p : Point). p.ts < c.args.x) (points_between leaves 0 e)) (last_level c.args.e.now.leaves c.loop-below.below is) (c.loop-below.invariant.sought told leaves written fit), λ below. absurd (omega (arith, below)))

pub returns-in_err-found-clause-stops : goal.returns-in_err-found-clause-stops
returns-in_err-found-clause-stops g c =
    let o = c.args.reach.now.volumes.now in
    let p = c.loop-below.reach.volumes.now in
    let old = g.D.Outside.state c.args.reach.now.disk.now in
    let mid = g.D.Outside.state c.loop-below.reach.disk.now in
    let new = g.D.Outside.state c.seek_refs.new.reach.disk.now in
    let so_far = c.loop-below.invariant in
    let n = c.args.e.now.leaves in
    let v = c.args.e.now.levels.now in
    let series = c.args.e.now.series in
    let k = 10 - c.loop-below.below in
    let refs : List Ref = c.pending-refs.result.now in
    let len = length refs in
    let long : len ≡ length (pending_at v k) = ap (λ (rs : List Ref). length rs) c.pending-refs.ensures.pending in
    let few : len ≤ digit 32 k n = omega (arith, long, c.requires.lawful.few k (omega arith)) in
    let first = c.made.result - len in
    let first_is : first ≡ made 32 k n - len = ap (λ (x : ℕ). x - len) c.made.ensures in
    let ends : first + len ≡ made 32 k n = level_end n k len first few first_is in
    let volumes : p ≡ o = ap (λ v. v.now) so_far.keeps.volumes in
    let seen : Seen = seen_in o.volumes old.files in
    let other : Seen = seen_in p.volumes mid.files in
    let there = c.in_err-found.ensures.stops n v
    (λ told. row_moved o p seen other series n v k first first refs refs (sym volumes) (seen_kept o p old mid volumes (so_far.reads.files told)) refl refl
    (reached_waits o seen series n v k first refs (omega arith) c.pending-refs.ensures.pending first_is (omega (arith, ends)))) in
    stop_from _ c.from_residual.result c.in_err-found.field-0.0 c.from_residual.ensures.1
    (stop_later o p seen other series n v old mid new c.in_err-found.field-0.0 volumes (λ told. sym (seen_kept o p old mid volumes (so_far.reads.files told))) so_far.reads.later there)

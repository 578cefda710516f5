use Rattle.std.proofs.Common.{◌≡◌, ◌∙◌, ℕ, suc, ◌+◌, ◌-◌, ◌*◌, ◌/◌, ◌^◌, ◌<◌, ◌≤◌, List, [], ◌++◌, length, map, Ok, Err, Option, refl, sym, ap, subst, arith, append-nil}
use Rattle.std.specs.Option.{MatchOption}
use Rattle.std.specs.List.{AllByRecursion}
use Rattle.ak_base.specs.declared.point.Point.{Point}
use Rattle.ak_base.specs.declared.stop.Stop.{Stop}
use Rattle.ak_base.specs.declared.stop.Stop.TheVariants.{Disk}
use Rattle.ak_scene.proofs.Levels.{last_level, level_begin, level_end, fit_children, fit_ends, all_selected, small_points}
use Rattle.ak_fold.proofs.AtLevels.{level_none, fit_level}
use Rattle.ak_scene.proofs.InScene.{stretches}
use Rattle.ak_fold.proofs.OnePoint.{up_to_more}
use Rattle.ak_scene.proofs.Links.{moved, moved_children, seen_kept}
use Rattle.ak_fold.specs.Folded.{AreUpTo, IsFolded}
use Rattle.ak_forest.specs.Numbers.{made, digit}
use Rattle.ak_image.specs.Blocks.{Seen, seen_in}
use Rattle.ak_image.specs.Nodes.{reference_of}
use Rattle.ak_image.specs.Trees.{points_between, total_of}
use Rattle.ak_inner.specs.declared.reference.Ref.{Ref}
use Rattle.ak_levels.specs.Pending.{pending_at}
use Rattle.ak_repair.proofs.OnlyReading.{no_read, more_reads, stop_from}
use Rattle.ak_select.proofs.Crossed.{borders_most}
use Rattle.ak_select.specs.Costs.{borders}
use Rattle.ak_select.specs.Windows.{chosen, summed}
use Rattle.ak_volumes.specs.Ordinals.{Ordinals}
use Rattle.ak_world.specs.Views.{address_of}
use Rattle.ak_scene.proofs.Reaching.{reached_waits, row_moved, stop_later}
use Rattle.ak_fold.proofs.whole.fold.Goals as goal

pub loop-below-init : goal.loop-below-init
loop-below-init g c =
    let o = c.args.reach.now.volumes.now in
    let old = g.D.Outside.state c.args.reach.now.disk.now in
    record {
      keeps = record { disk = refl; volumes = refl; cache = refl; scratch = refl };
      cache = refl;
      reads = no_read g.D.Outside.tells old;
      up_to = tt;
      folded = λ told leaves written fit.
          level_none (fit.scene.known.leaves - length leaves) fit.scene.known.leaves (points_between leaves) (stretches o (seen_in o.volumes old.files) c.args.e.now.series leaves fit.scene) c.of.result c.args.filter
          (c.args.e.now.leaves / 2 ^ 55 * 2 ^ 55) old (omega (arith, c.requires.lawful.most));
    }

pub fold_refs-requires-clause-up_to : goal.fold_refs-requires-clause-up_to
fold_refs-requires-clause-up_to g c =
    let n = c.args.e.now.leaves in
    let below = c.loop-below.below in
    let k = 10 - below in
    let up : 11 - below ≡ suc k = omega (arith, c.loop-below-test.true) in
    let len = length c.pending-refs.result.now in
    let long : len ≡ length (pending_at c.args.e.now.levels.now k) = ap (λ (rs : List Ref). length rs) c.pending-refs.ensures.pending in
    let few : len ≤ digit 32 k n = omega (arith, long, c.requires.lawful.few k (omega arith)) in
    let first : c.made.result - len ≡ made 32 k n - len = ap (λ (x : ℕ). x - len) c.made.ensures in
    up_to_more (2016 * (n / 32 ^ suc k * 32 ^ suc k)) (2016 * ((c.made.result - len) * 32 ^ k)) c.loop-below.all (omega (arith, level_begin n k len (c.made.result - len) few first))
    (subst (λ (l : ℕ). AreUpTo (2016 * (n / 32 ^ l * 32 ^ l)) c.loop-below.all) up c.loop-below.invariant.up_to)

pub loop-below-preserved : goal.loop-below-preserved
loop-below-preserved g c =
    let o = c.args.reach.now.volumes.now in
    let p = c.loop-below.reach.volumes.now in
    let old = g.D.Outside.state c.args.reach.now.disk.now in
    let mid = g.D.Outside.state c.loop-below.reach.disk.now in
    let new = g.D.Outside.state c.fold_refs.new.reach.disk.now in
    let so_far = c.loop-below.invariant in
    let read = c.in_ok-all.ensures in
    let n = c.args.e.now.leaves in
    let below = c.loop-below.below in
    let k = 10 - below in
    let up : 11 - below ≡ suc k = omega (arith, c.loop-below-test.true) in
    let down : k ≡ 11 - (below + 1) = omega (arith, c.loop-below-test.true) in
    let refs : List Ref = c.pending-refs.result.now in
    let len = length refs in
    let long : len ≡ length (pending_at c.args.e.now.levels.now k) = ap (λ (rs : List Ref). length rs) c.pending-refs.ensures.pending in
    let few : len ≤ digit 32 k n = omega (arith, long, c.requires.lawful.few k (omega arith)) in
    let first = c.made.result - len in
    let first_is : first ≡ made 32 k n - len = ap (λ (x : ℕ). x - len) c.made.ensures in
    let all_are : first + len ≡ made 32 k n = level_end n k len first few first_is in
    let volumes : p ≡ o = ap (λ v. v.now) so_far.keeps.volumes in
    record {
      keeps = record {
        disk = read.keeps.disk ∙ so_far.keeps.disk;
        volumes = read.keeps.volumes ∙ so_far.keeps.volumes;
        cache = read.keeps.cache ∙ so_far.keeps.cache;
        scratch = read.keeps.scratch ∙ so_far.keeps.scratch;
      };
      cache = read.cache ∙ so_far.cache;
      reads = more_reads so_far.reads read.reads;
      up_to = subst (λ (l : ℕ). AreUpTo (2016 * (n / 32 ^ l * 32 ^ l)) c.in_ok-all.all) down (subst (λ (x : ℕ). AreUpTo (2016 * (x * 32 ^ k)) c.in_ok-all.all) all_are read.up_to);
      folded = λ told leaves written fit.
          let low = fit.scene.known.leaves - length leaves in
          let seen : Seen = seen_in o.volumes old.files in
          let other = moved o p seen (seen_in p.volumes mid.files) c.args.e.now.series leaves (sym volumes) (seen_kept o p old mid volumes (so_far.reads.files told)) fit.scene in
          let children = moved_children o.lo p.lo low (address_of leaves) (total_of leaves) k first first (map reference_of refs) (map reference_of refs) (ap (λ (v : Ordinals). v.lo) (sym volumes)) refl refl
          (fit_children o seen c.args.e.now.series n c.args.e.now.levels.now leaves written fit k len first refs (omega arith) c.pending-refs.ensures.pending refl few first_is) in
          let ends = fit_ends o seen c.args.e.now.series n c.args.e.now.levels.now leaves written fit k len first refs (omega arith) c.pending-refs.ensures.pending refl few first_is in
          let before : IsFolded c.of.result c.args.filter [] (points_between leaves 0 (n / 32 ^ suc k * 32 ^ suc k)) (11 * borders c.of.result low (points_between leaves) 0 (n / 32 ^ suc k * 32 ^ suc k)) old mid (Ok c.loop-below.all) =
          subst (λ (l : ℕ). IsFolded c.of.result c.args.filter [] (points_between leaves 0 (n / 32 ^ l * 32 ^ l)) (11 * borders c.of.result low (points_between leaves) 0 (n / 32 ^ l * 32 ^ l)) old mid (Ok c.loop-below.all)) up
          (so_far.folded told leaves written fit) in
          let step = read.folded told leaves other children ends ([] ++ chosen c.of.result c.args.filter (points_between leaves 0 (n / 32 ^ suc k * 32 ^ suc k))) before.value in
          let on = fit_level o seen c.args.e.now.series n c.args.e.now.levels.now leaves written fit k len first refs (omega arith) c.pending-refs.ensures.pending refl few first_is
          c.of.result c.args.filter old mid new c.loop-below.all (Ok c.in_ok-all.all) before step in
          subst (λ (l : ℕ). IsFolded c.of.result c.args.filter [] (points_between leaves 0 (n / 32 ^ l * 32 ^ l)) (11 * borders c.of.result low (points_between leaves) 0 (n / 32 ^ l * 32 ^ l)) old new (Ok c.in_ok-all.all)) down on;
    }

pub returns-in_err-all-clause-sound : goal.returns-in_err-all-clause-sound
returns-in_err-all-clause-sound g c told leaves written fit =
    let o = c.args.reach.now.volumes.now in
    let p = c.loop-below.reach.volumes.now in
    let old = g.D.Outside.state c.args.reach.now.disk.now in
    let mid = g.D.Outside.state c.loop-below.reach.disk.now in
    let so_far = c.loop-below.invariant in
    let n = c.args.e.now.leaves in
    let below = c.loop-below.below in
    let k = 10 - below in
    let up : 11 - below ≡ suc k = omega (arith, c.loop-below-test.true) in
    let refs : List Ref = c.pending-refs.result.now in
    let len = length refs in
    let long : len ≡ length (pending_at c.args.e.now.levels.now k) = ap (λ (rs : List Ref). length rs) c.pending-refs.ensures.pending in
    let few : len ≤ digit 32 k n = omega (arith, long, c.requires.lawful.few k (omega arith)) in
    let first = c.made.result - len in
    let first_is : first ≡ made 32 k n - len = ap (λ (x : ℕ). x - len) c.made.ensures in
    let volumes : p ≡ o = ap (λ v. v.now) so_far.keeps.volumes in
    let low = fit.scene.known.leaves - length leaves in
    let seen : Seen = seen_in o.volumes old.files in
    let other = moved o p seen (seen_in p.volumes mid.files) c.args.e.now.series leaves (sym volumes) (seen_kept o p old mid volumes (so_far.reads.files told)) fit.scene in
    let children = moved_children o.lo p.lo low (address_of leaves) (total_of leaves) k first first (map reference_of refs) (map reference_of refs) (ap (λ (v : Ordinals). v.lo) (sym volumes)) refl refl
    (fit_children o seen c.args.e.now.series n c.args.e.now.levels.now leaves written fit k len first refs (omega arith) c.pending-refs.ensures.pending refl few first_is) in
    let ends = fit_ends o seen c.args.e.now.series n c.args.e.now.levels.now leaves written fit k len first refs (omega arith) c.pending-refs.ensures.pending refl few first_is in
    let before = so_far.folded told leaves written fit in
    let step = c.in_err-all.ensures.folded told leaves other children ends _ before.value in
    stop_from (λ (stop : Stop). stop ≡ Disk) c.from_residual.result c.in_err-all.field-0.0 c.from_residual.ensures.1 step.sound

pub returns-in_err-all-clause-few : goal.returns-in_err-all-clause-few
returns-in_err-all-clause-few g c told open_is leaves written fit =
    let o = c.args.reach.now.volumes.now in
    let p = c.loop-below.reach.volumes.now in
    let old = g.D.Outside.state c.args.reach.now.disk.now in
    let mid = g.D.Outside.state c.loop-below.reach.disk.now in
    let new = g.D.Outside.state c.fold_refs.new.reach.disk.now in
    let so_far = c.loop-below.invariant in
    let n = c.args.e.now.leaves in
    let below = c.loop-below.below in
    let k = 10 - below in
    let up : 11 - below ≡ suc k = omega (arith, c.loop-below-test.true) in
    let refs : List Ref = c.pending-refs.result.now in
    let len = length refs in
    let long : len ≡ length (pending_at c.args.e.now.levels.now k) = ap (λ (rs : List Ref). length rs) c.pending-refs.ensures.pending in
    let few : len ≤ digit 32 k n = omega (arith, long, c.requires.lawful.few k (omega arith)) in
    let first = c.made.result - len in
    let first_is : first ≡ made 32 k n - len = ap (λ (x : ℕ). x - len) c.made.ensures in
    let volumes : p ≡ o = ap (λ v. v.now) so_far.keeps.volumes in
    let low = fit.scene.known.leaves - length leaves in
    let seen : Seen = seen_in o.volumes old.files in
    let other = moved o p seen (seen_in p.volumes mid.files) c.args.e.now.series leaves (sym volumes) (seen_kept o p old mid volumes (so_far.reads.files told)) fit.scene in
    let children = moved_children o.lo p.lo low (address_of leaves) (total_of leaves) k first first (map reference_of refs) (map reference_of refs) (ap (λ (v : Ordinals). v.lo) (sym volumes)) refl refl
    (fit_children o seen c.args.e.now.series n c.args.e.now.levels.now leaves written fit k len first refs (omega arith) c.pending-refs.ensures.pending refl few first_is) in
    let ends = fit_ends o seen c.args.e.now.series n c.args.e.now.levels.now leaves written fit k len first refs (omega arith) c.pending-refs.ensures.pending refl few first_is in
    let before : IsFolded c.of.result c.args.filter [] (points_between leaves 0 (n / 32 ^ suc k * 32 ^ suc k)) (11 * borders c.of.result low (points_between leaves) 0 (n / 32 ^ suc k * 32 ^ suc k)) old mid (Ok c.loop-below.all) =
    subst (λ (l : ℕ). IsFolded c.of.result c.args.filter [] (points_between leaves 0 (n / 32 ^ l * 32 ^ l)) (11 * borders c.of.result low (points_between leaves) 0 (n / 32 ^ l * 32 ^ l)) old mid (Ok c.loop-below.all)) up
    (so_far.folded told leaves written fit) in
    let step = c.in_err-all.ensures.folded told leaves other children ends ([] ++ chosen c.of.result c.args.filter (points_between leaves 0 (n / 32 ^ suc k * 32 ^ suc k))) before.value in
    let on = fit_level o seen c.args.e.now.series n c.args.e.now.levels.now leaves written fit k len first refs (omega arith) c.pending-refs.ensures.pending refl few first_is
    c.of.result c.args.filter old mid new c.loop-below.all (Err c.in_err-all.field-0.0) before step in
    omega (arith, on.few open_is, borders_most c.of.result low (points_between leaves) 0 (made 32 k n * 32 ^ k))

pub returns-in-Some-clause-up_to : goal.returns-in-Some-clause-up_to
returns-in-Some-clause-up_to g c =
    let n = c.args.e.now.leaves in
    let is : c.loop-below.below ≡ 11 = omega (arith, c.loop-below-test.false, c.loop-below.auto.below-end) in
    let e = n / 32 ^ (11 - c.loop-below.below) * 32 ^ (11 - c.loop-below.below) in
    up_to_more (2016 * e + length c.points.result.now) (2016 * (n + 1)) c.with_points.result (omega (arith, last_level n c.loop-below.below is, c.points.ensures.most, ap (λ (ps : List Point). length ps) c.points.ensures.points))
    (c.with_points.ensures.up_to (2016 * e) c.loop-below.invariant.up_to)

pub returns-in-Some-clause-value : goal.returns-in-Some-clause-value
returns-in-Some-clause-value g c told leaves written fit tail =
    let o = c.args.reach.now.volumes.now in
    let old = g.D.Outside.state c.args.reach.now.disk.now in
    let n = c.args.e.now.leaves in
    let is : c.loop-below.below ≡ 11 = omega (arith, c.loop-below-test.false, c.loop-below.auto.below-end) in
    let e = n / 32 ^ (11 - c.loop-below.below) * 32 ^ (11 - c.loop-below.below) in
    let open_leaf : c.in-Some.leaf.now ≡ written = subst (λ (t : Option _). MatchOption t (written ≡ []) (λ leaf. leaf.now ≡ written)) c.in-Some.is tail in
    let points : c.points.result.now ≡ written = c.points.ensures.points ∙ open_leaf in
    let whole = all_selected o (seen_in o.volumes old.files) c.args.e.now.series n c.args.e.now.levels.now leaves written fit c.of.result c.args.range c.args.filter c.of.ensures e (last_level n c.loop-below.below is)
    (small_points written (subst (AllByRecursion _) open_leaf c.points.ensures.each)) in
    c.with_points.ensures.is ([] ++ chosen c.of.result c.args.filter (points_between leaves 0 e)) (c.loop-below.invariant.folded told leaves written fit).value
    ∙ ap (λ (ps : List Point). summed (([] ++ chosen c.of.result c.args.filter (points_between leaves 0 e)) ++ chosen c.of.result c.args.filter ps)) points ∙ ap summed whole

pub returns-in-Some-clause-few : goal.returns-in-Some-clause-few
returns-in-Some-clause-few g c told open_is leaves written fit =
    let n = c.args.e.now.leaves in
    let e = n / 32 ^ (11 - c.loop-below.below) * 32 ^ (11 - c.loop-below.below) in
    omega (arith, (c.loop-below.invariant.folded told leaves written fit).few open_is, borders_most c.of.result (fit.scene.known.leaves - length leaves) (points_between leaves) 0 e)

pub returns-in-None-clause-value : goal.returns-in-None-clause-value
returns-in-None-clause-value g c told leaves written fit tail =
    let o = c.args.reach.now.volumes.now in
    let old = g.D.Outside.state c.args.reach.now.disk.now in
    let n = c.args.e.now.leaves in
    let is : c.loop-below.below ≡ 11 = omega (arith, c.loop-below-test.false, c.loop-below.auto.below-end) in
    let e = n / 32 ^ (11 - c.loop-below.below) * 32 ^ (11 - c.loop-below.below) in
    let none : written ≡ [] = subst (λ (t : Option _). MatchOption t (written ≡ []) (λ leaf. leaf.now ≡ written)) c.in-None.is tail in
    let whole = all_selected o (seen_in o.volumes old.files) c.args.e.now.series n c.args.e.now.levels.now leaves written fit c.of.result c.args.range c.args.filter c.of.ensures e (last_level n c.loop-below.below is)
    (subst (AllByRecursion (λ (p : Point). p.ts < 2 ^ 64)) (sym none) tt) in
    let before : List Point = [] ++ chosen c.of.result c.args.filter (points_between leaves 0 e) in
    (c.loop-below.invariant.folded told leaves written fit).value
    ∙ ap summed (sym (append-nil before) ∙ ap (λ (ps : List Point). before ++ chosen c.of.result c.args.filter ps) (sym none) ∙ whole)

pub returns-in-None-clause-few : goal.returns-in-None-clause-few
returns-in-None-clause-few g c told open_is leaves written fit =
    let n = c.args.e.now.leaves in
    let e = n / 32 ^ (11 - c.loop-below.below) * 32 ^ (11 - c.loop-below.below) in
    omega (arith, (c.loop-below.invariant.folded told leaves written fit).few open_is, borders_most c.of.result (fit.scene.known.leaves - length leaves) (points_between leaves) 0 e)

pub returns-in_err-all-clause-stops : goal.returns-in_err-all-clause-stops
returns-in_err-all-clause-stops g c =
    let o = c.args.reach.now.volumes.now in
    let p = c.loop-below.reach.volumes.now in
    let old = g.D.Outside.state c.args.reach.now.disk.now in
    let mid = g.D.Outside.state c.loop-below.reach.disk.now in
    let new = g.D.Outside.state c.fold_refs.new.reach.disk.now in
    let so_far = c.loop-below.invariant in
    let n = c.args.e.now.leaves in
    let v = c.args.e.now.levels.now in
    let series = c.args.e.now.series in
    let k = 10 - c.loop-below.below in
    let refs : List Ref = c.pending-refs.result.now in
    let len = length refs in
    let long : len ≡ length (pending_at v k) = ap (λ (rs : List Ref). length rs) c.pending-refs.ensures.pending in
    let few : len ≤ digit 32 k n = omega (arith, long, c.requires.lawful.few k (omega arith)) in
    let first = c.made.result - len in
    let first_is : first ≡ made 32 k n - len = ap (λ (x : ℕ). x - len) c.made.ensures in
    let ends : first + len ≡ made 32 k n = level_end n k len first few first_is in
    let volumes : p ≡ o = ap (λ v. v.now) so_far.keeps.volumes in
    let seen : Seen = seen_in o.volumes old.files in
    let other : Seen = seen_in p.volumes mid.files in
    let there = c.in_err-all.ensures.stops n v
    (λ told. row_moved o p seen other series n v k first first refs refs (sym volumes) (seen_kept o p old mid volumes (so_far.reads.files told)) refl refl
    (reached_waits o seen series n v k first refs (omega arith) c.pending-refs.ensures.pending first_is (omega (arith, ends)))) in
    stop_from _ c.from_residual.result c.in_err-all.field-0.0 c.from_residual.ensures.1
    (stop_later o p seen other series n v old mid new c.in_err-all.field-0.0 volumes (λ told. sym (seen_kept o p old mid volumes (so_far.reads.files told))) so_far.reads.later there)

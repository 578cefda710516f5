use Rattle.std.proofs.Common.{◌≡◌, ◌∙◌, ℕ, suc, ◌+◌, ◌-◌, ◌*◌, ◌^◌, ◌<◌, ◌≤◌, List, ◌++◌, length, map, Ok, Err, refl, sym, ap, subst, arith, suc-mul}
use Rattle.std.proofs.lemmas.List.{length-map}
use Rattle.std.specs.List.{AllByRecursion}
use Rattle.std.specs.Result.{IfOk}
use Rattle.ak_base.specs.declared.stop.Stop.{Stop}
use Rattle.ak_scene.proofs.Links.{leaf_spot, not_both, there_kept, moved, moved_children, moved_child, seen_kept, child_ref, live_node}
use Rattle.ak_fold.proofs.Cases.{at_dead, at_out, at_whole, border_here}
use Rattle.ak_scene.proofs.InScene.{stretches}
use Rattle.ak_fold.specs.Folded.{AreUpTo, IsFolded}
use Rattle.ak_forest.specs.Numbers.{end}
use Rattle.ak_forest.specs.Tree.{spot}
use Rattle.ak_forest.proofs.Arith.{times_le, times_one}
use Rattle.ak_image.specs.Blocks.{Seen, seen_in}
use Rattle.ak_image.specs.Nodes.{reference_of}
use Rattle.ak_image.specs.Trees.{points_between, total_of}
use Rattle.ak_repair.proofs.OnlyReading.{no_read, more_reads, stop_from}
use Rattle.ak_scene.proofs.Stopped.{no_value}
use Rattle.ak_base.specs.declared.stop.Stop.TheVariants.{Disk}
use Rattle.ak_select.specs.Windows.{chosen}
use Rattle.ak_select.specs.Costs.{borders}
use Rattle.ak_volumes.specs.Ordinals.{Ordinals}
use Rattle.ak_world.specs.Views.{address_of}
use Rattle.ak_fold.proofs.OnePoint.{up_to_more}
use Rattle.ak_scene.proofs.Spans.{children_begin, children_end, number_fits}
use Rattle.ak_fold.proofs.Steps.{node_done, ref_leaf, ref_node, row_none, row_on, row_stops}
use Rattle.ak_inner.specs.declared.reference.Ref.{Ref}
use Rattle.ak_levels.specs.Entries.{IsTally}
use Rattle.ak_scene.proofs.Reaching.{reached_at, reached_moved, row_moved, stop_later, stops_later}
use Rattle.ak_scene.specs.Scenes.{IsReached}
use Rattle.ak_fold.proofs.folding.+nodes.Goals as goal

pub fold_node-fold_refs-requires : goal.fold_node-fold_refs-requires
fold_node-fold_refs-requires g t c κs within =
    let old = g.D.Outside.state c.args.reach.now.disk.now in
    let new = g.D.Outside.state c.read_refs.new.reach.disk.now in
    let node : List Ref = c.read_refs.new.node in
    let n = length node in
    let k = c.args.level - 1 in
    let read = c.in_ok-first.ensures in
    let refs : c.refs.result.now ≡ node = c.refs.ensures.refs in
    let long : length c.refs.result.now ≡ n = ap (λ (rs : List Ref). length rs) refs in
    let first : c.in_ok-first.first ≡ suc c.args.number * 32 - n = read.first in
    let begin : c.args.number * 32 ^ c.args.level ≤ c.in_ok-first.first * 32 ^ k = subst (λ (x : ℕ). c.args.number * 32 ^ c.args.level ≤ x * 32 ^ k) (sym first) (children_begin c.args.level c.args.number n c.requires.above read.few) in
    let stop : (c.in_ok-first.first + length c.refs.result.now) * 32 ^ k ≡ (suc c.args.number) * 32 ^ c.args.level =
    ap (λ (x : ℕ). x * 32 ^ k) (omega (arith, first, long)) ∙ children_end c.args.level c.args.number n c.requires.above read.few in (
      omega (arith, c.decreases, c.requires.above),
      (
        within,
        (
          there_kept c.args.reach.now.volumes.now c.read_refs.new.reach.volumes.now old new (ap (λ v. v.now) read.keeps.volumes) read.reads.sizes c.requires.there,
          (
            omega (arith, c.requires.most),
            (
              omega (arith, stop, c.requires.number),
              (
                subst (AllByRecursion (IsTally k)) (sym refs) read.tallies,
                up_to_more (2016 * (c.args.number * 32 ^ c.args.level)) (2016 * (c.in_ok-first.first * 32 ^ k)) c.args.so_far (omega (arith, begin)) c.requires.up_to,
              ),
            ),
          ),
        ),
      ),
    )

pub fold_node-returns-clause-up_to : goal.fold_node-returns-clause-up_to
fold_node-returns-clause-up_to g t c =
    let node : List Ref = c.read_refs.new.node in
    let read = c.in_ok-first.ensures in
    let long : length c.refs.result.now ≡ length node = ap (λ (rs : List Ref). length rs) c.refs.ensures.refs in
    let stop : (c.in_ok-first.first + length c.refs.result.now) * 32 ^ (c.args.level - 1) ≡ end 32 c.args.level c.args.number =
    ap (λ (x : ℕ). x * 32 ^ (c.args.level - 1)) (omega (arith, read.first, long)) ∙ children_end c.args.level c.args.number (length node) c.requires.above read.few in
    subst (λ (x : ℕ). IfOk c.fold_refs.result (AreUpTo (2016 * x))) stop c.fold_refs.ensures.up_to

pub fold_node-returns-clause-folded : goal.fold_node-returns-clause-folded
fold_node-returns-clause-folded g t c told leaves scene at live fits before is =
    let o = c.args.reach.now.volumes.now in
    let p = c.read_refs.new.reach.volumes.now in
    let old = g.D.Outside.state c.args.reach.now.disk.now in
    let mid = g.D.Outside.state c.read_refs.new.reach.disk.now in
    let new = g.D.Outside.state c.fold_refs.new.reach.disk.now in
    let low = scene.known.leaves - length leaves in
    let node : List Ref = c.read_refs.new.node in
    let n = length node in
    let k = c.args.level - 1 in
    let up : suc k ≡ c.args.level = omega (arith, c.requires.above) in
    let read = c.in_ok-first.ensures in
    let volumes : p ≡ o = ap (λ v. v.now) read.keeps.volumes in
    let other = moved o p (seen_in o.volumes old.files) (seen_in p.volumes mid.files) c.args.asked.series leaves (sym volumes) (seen_kept o p old mid volumes (read.reads.files told)) scene in
    let refs : c.refs.result.now ≡ node = c.refs.ensures.refs in
    let long : length c.refs.result.now ≡ n = ap (λ (rs : List Ref). length rs) refs in
    let mapped : length (map reference_of node) ≡ n = length-map node reference_of in
    let family = read.family told leaves scene at live fits in
    let first : suc c.args.number * 32 - length (map reference_of node) ≡ c.in_ok-first.first = omega (arith, read.first, mapped) in
    let children = moved_children o.lo p.lo low (address_of leaves) (total_of leaves) k (suc c.args.number * 32 - length (map reference_of node)) c.in_ok-first.first (map reference_of node) (map reference_of c.refs.result.now)
    (ap (λ (v : Ordinals). v.lo) (sym volumes)) first (ap (map reference_of) (sym refs)) family.each in
    let stop : (c.in_ok-first.first + length c.refs.result.now) * 32 ^ k ≡ end 32 c.args.level c.args.number =
    ap (λ (x : ℕ). x * 32 ^ k) (omega (arith, read.first, long)) ∙ children_end c.args.level c.args.number n c.requires.above read.few in
    let inner = c.fold_refs.ensures.folded told leaves other children (omega (arith, stop, fits)) before is in
    let done = node_done low scene.known.leaves (address_of leaves) (points_between leaves) (stretches o (seen_in o.volumes old.files) c.args.asked.series leaves scene) c.args.asked.window c.args.asked.filter
    o.lo k c.args.number n c.in_ok-first.first (length c.refs.result.now) before old mid new c.fold_refs.result read.few
    (λ few. subst (λ (x : ℕ). (suc c.args.number * 32 - x) * 32 ^ k ≤ low) mapped (family.missing (omega (arith, mapped, few))))
    (subst (λ (l : ℕ). low < end 32 l c.args.number) (sym up) live) read.first long (read.one told) inner in
    subst (λ (l : ℕ). IsFolded c.args.asked.window c.args.asked.filter before (points_between leaves (c.args.number * 32 ^ l) (end 32 l c.args.number))
    (1 + l * borders c.args.asked.window low (points_between leaves) (c.args.number * 32 ^ l) (end 32 l c.args.number)) old new c.fold_refs.result) up done

pub fold_ref-returns-then-not-live-clause-folded : goal.fold_ref-returns-then-not-live-clause-folded
fold_ref-returns-then-not-live-clause-folded g t c told leaves scene child fits before is =
    let o = c.args.reach.now.volumes.now in
    let old = g.D.Outside.state c.args.reach.now.disk.now in
    at_dead o (seen_in o.volumes old.files) c.args.asked.series leaves scene c.args.asked.window c.args.asked.filter c.args.level c.args.number c.args.r child fits before c.args.so_far is old
    (λ live. not_both c.live.result (c.live.ensures.1 live) c.if-not-live.true)

pub fold_ref-returns-in-Out-clause-folded : goal.fold_ref-returns-in-Out-clause-folded
fold_ref-returns-in-Out-clause-folded g t c told leaves scene child fits before is =
    let o = c.args.reach.now.volumes.now in
    let old = g.D.Outside.state c.args.reach.now.disk.now in
    at_out o (seen_in o.volumes old.files) c.args.asked.series leaves scene c.args.asked.window c.args.asked.filter c.args.level c.args.number c.args.r child fits before c.args.so_far is old
    c.live-first_live.result c.live-first_live.ensures.0 (c.live.ensures.0 c.if-not-live.false) (c.part_of.ensures.out c.in-Out.is)

pub fold_ref-returns-in-Whole-clause-up_to : goal.fold_ref-returns-in-Whole-clause-up_to
fold_ref-returns-in-Whole-clause-up_to g t c =
    let size : suc c.args.number * 32 ^ c.args.level ≡ c.args.number * 32 ^ c.args.level + 32 ^ c.args.level = omega (arith, suc-mul c.args.number (32 ^ c.args.level)) in
    let made = c.with.ensures.up_to (2016 * (c.args.number * 32 ^ c.args.level)) (2016 * 32 ^ c.args.level) c.requires.up_to c.requires.tally.most in
    record { count = omega (arith, size, made.count); bounded = made.bounded }

pub fold_ref-returns-in-Whole-clause-folded : goal.fold_ref-returns-in-Whole-clause-folded
fold_ref-returns-in-Whole-clause-folded g t c told leaves scene child fits before is =
    let o = c.args.reach.now.volumes.now in
    let old = g.D.Outside.state c.args.reach.now.disk.now in
    let whole = c.part_of.ensures.whole c.in-Whole.is in
    at_whole o (seen_in o.volumes old.files) c.args.asked.series leaves scene c.args.asked.window c.args.asked.filter c.args.level c.args.number c.args.r child fits before c.args.so_far is old
    c.with.result (c.live-first_live.ensures.0 whole.1) (c.is_open.ensures.0 whole.0) whole.2 whole.3 c.with.ensures.is

pub fold_ref-returns-then-level-eq0-clause-folded : goal.fold_ref-returns-then-level-eq0-clause-folded
fold_ref-returns-then-level-eq0-clause-folded g t c told leaves scene child fits before is =
    let o = c.args.reach.now.volumes.now in
    let old = g.D.Outside.state c.args.reach.now.disk.now in
    let new = g.D.Outside.state c.fold_leaf.new.reach.disk.now in
    let low = scene.known.leaves - length leaves in
    let seen : Seen = seen_in o.volumes old.files in
    let number = c.args.number in
    let zero_is : c.args.level ≡ 0 = omega (arith, c.if-level-eq0.true) in
    let live = c.live.ensures.0 c.if-not-live.false in
    let alive : low < end 32 c.args.level number = live_node o seen c.args.asked.series leaves scene c.args.level number c.args.r child live in
    let one : end 32 c.args.level number ≡ suc number = ap (λ (l : ℕ). end 32 l number) zero_is ∙ times_one 32 (suc number) in
    let at : c.args.r.addr.0 ≡ address_of leaves number = child.link.live alive ∙ ap (λ (l : ℕ). spot 32 (address_of leaves) l number) zero_is ∙ leaf_spot (address_of leaves) number in
    let some = border_here o seen c.args.asked.series leaves scene c.args.asked.window c.args.asked.filter c.args.level number c.args.r child fits before c.args.so_far is old
    c.live-first_live.result c.live-first_live.ensures.1 live (λ first open_is. c.part_of.ensures.across c.in-Across.is first (c.is_open.ensures.1 open_is)) in
    let leaf = c.fold_leaf.ensures.folded told leaves scene at (omega (arith, one, alive)) (omega (arith, one, fits)) before is in
    let done = ref_leaf low scene.known.leaves (address_of leaves) (points_between leaves) (stretches o seen c.args.asked.series leaves scene) c.args.asked.window c.args.asked.filter
    number before old new c.fold_leaf.result (λ open_is. subst (λ (l : ℕ). 1 ≤ borders c.args.asked.window low (points_between leaves) (number * 32 ^ l) (end 32 l number)) zero_is (some open_is)) leaf in
    subst (λ (l : ℕ). IsFolded c.args.asked.window c.args.asked.filter before (points_between leaves (number * 32 ^ l) (end 32 l number))
    (suc l * borders c.args.asked.window low (points_between leaves) (number * 32 ^ l) (end 32 l number)) old new c.fold_leaf.result) (sym zero_is) done

pub fold_ref-returns-else-level-eq0-clause-folded : goal.fold_ref-returns-else-level-eq0-clause-folded
fold_ref-returns-else-level-eq0-clause-folded g t c told leaves scene child fits before is =
    let o = c.args.reach.now.volumes.now in
    let old = g.D.Outside.state c.args.reach.now.disk.now in
    let new = g.D.Outside.state c.fold_node.new.reach.disk.now in
    let low = scene.known.leaves - length leaves in
    let seen : Seen = seen_in o.volumes old.files in
    let number = c.args.number in
    let live = c.live.ensures.0 c.if-not-live.false in
    let alive : low < end 32 c.args.level number = live_node o seen c.args.asked.series leaves scene c.args.level number c.args.r child live in
    let some = border_here o seen c.args.asked.series leaves scene c.args.asked.window c.args.asked.filter c.args.level number c.args.r child fits before c.args.so_far is old
    c.live-first_live.result c.live-first_live.ensures.1 live (λ first open_is. c.part_of.ensures.across c.in-Across.is first (c.is_open.ensures.1 open_is)) in
    ref_node low scene.known.leaves (address_of leaves) (points_between leaves) (stretches o seen c.args.asked.series leaves scene) c.args.asked.window c.args.asked.filter
    c.args.level number before (points_between leaves (number * 32 ^ c.args.level) (end 32 c.args.level number)) old new c.fold_node.result
    (borders c.args.asked.window low (points_between leaves) (number * 32 ^ c.args.level) (end 32 c.args.level number)) some
    (c.fold_node.ensures.folded told leaves scene (child.link.live alive) alive fits before is)

pub fold_refs-loop-i-init : goal.fold_refs-loop-i-init
fold_refs-loop-i-init g t c =
    let o = c.args.reach.now.volumes.now in
    let old = g.D.Outside.state c.args.reach.now.disk.now in
    record {
      keeps = record { disk = refl; volumes = refl; cache = refl; scratch = refl };
      cache = refl;
      reads = no_read g.D.Outside.tells old;
      up_to = subst (λ (x : ℕ). AreUpTo (2016 * (x * 32 ^ c.args.level)) c.args.so_far) (omega arith) c.requires.up_to;
      folded = λ told leaves scene children fits before is.
          row_none (scene.known.leaves - length leaves) scene.known.leaves (address_of leaves) (points_between leaves) (stretches o (seen_in o.volumes old.files) c.args.asked.series leaves scene)
          c.args.asked.window c.args.asked.filter c.args.level c.args.first before old c.args.so_far _ is;
    }

pub fold_refs-overflow_add-first : goal.fold_refs-overflow_add-first
fold_refs-overflow_add-first g t c =
    omega (arith, c.loop-i-test.true, number_fits (c.args.first + length c.args.refs.now) c.args.level (2 ^ 52) c.requires.number)

pub fold_refs-returns-in_err-all-clause-folded : goal.fold_refs-returns-in_err-all-clause-folded
fold_refs-returns-in_err-all-clause-folded g t c told leaves scene children fits before is =
    let o = c.args.reach.now.volumes.now in
    let p = c.loop-i.reach.volumes.now in
    let old = g.D.Outside.state c.args.reach.now.disk.now in
    let mid = g.D.Outside.state c.loop-i.reach.disk.now in
    let new = g.D.Outside.state c.fold_ref.new.reach.disk.now in
    let low = scene.known.leaves - length leaves in
    let so_far = c.loop-i.invariant in
    let k = c.args.level in
    let i = c.loop-i.i in
    let n : ℕ = length c.args.refs.now in
    let below : i < n = omega (arith, c.loop-i-test.true) in
    let volumes : p ≡ o = ap (λ v. v.now) so_far.keeps.volumes in
    let seen : Seen = seen_in o.volumes old.files in
    let are = stretches o seen c.args.asked.series leaves scene in
    let other = moved o p seen (seen_in p.volumes mid.files) c.args.asked.series leaves (sym volumes) (seen_kept o p old mid volumes (so_far.reads.files told)) scene in
    let child = moved_child o.lo p.lo low (address_of leaves) (total_of leaves) k (c.args.first + i) _ (ap (λ (v : Ordinals). v.lo) (sym volumes))
    (child_ref o.lo low (address_of leaves) (total_of leaves) k c.args.first i c.args.refs.now _ below children) in
    let next : end 32 k (c.args.first + i) ≤ (c.args.first + n) * 32 ^ k = times_le (suc (c.args.first + i)) (c.args.first + n) (32 ^ k) (omega (arith, below)) in
    let first = so_far.folded told leaves scene children fits before is in
    let step = c.in_err-all.ensures.folded told leaves other child (omega (arith, next, fits)) (before ++ chosen c.args.asked.window c.args.asked.filter (points_between leaves (c.args.first * 32 ^ k) ((c.args.first + i) * 32 ^ k))) first.value in
    let on = row_on low scene.known.leaves (address_of leaves) (points_between leaves) are c.args.asked.window c.args.asked.filter o.lo k c.args.first i before old mid new c.loop-i.all (Err c.in_err-all.field-0.0) first step in
    let all = row_stops low scene.known.leaves (address_of leaves) (points_between leaves) are c.args.asked.window c.args.asked.filter k c.args.first (suc i) n before old new (Err c.in_err-all.field-0.0) (omega (arith, below)) tt on in
    record {
      value = no_value _ _ c.from_residual.result c.from_residual.ensures.1;
      sound = stop_from (λ (stop : Stop). stop ≡ Disk) c.from_residual.result c.in_err-all.field-0.0 c.from_residual.ensures.1 all.sound;
      few = all.few;
    }

pub fold_refs-loop-i-preserved : goal.fold_refs-loop-i-preserved
fold_refs-loop-i-preserved g t c =
    let o = c.args.reach.now.volumes.now in
    let p = c.loop-i.reach.volumes.now in
    let old = g.D.Outside.state c.args.reach.now.disk.now in
    let mid = g.D.Outside.state c.loop-i.reach.disk.now in
    let new = g.D.Outside.state c.fold_ref.new.reach.disk.now in
    let so_far = c.loop-i.invariant in
    let read = c.in_ok-all.ensures in
    let k = c.args.level in
    let i = c.loop-i.i in
    let n : ℕ = length c.args.refs.now in
    let below : i < n = omega (arith, c.loop-i-test.true) in
    let volumes : p ≡ o = ap (λ v. v.now) so_far.keeps.volumes in
    record {
      keeps = record {
        disk = read.keeps.disk ∙ so_far.keeps.disk;
        volumes = read.keeps.volumes ∙ so_far.keeps.volumes;
        cache = read.keeps.cache ∙ so_far.keeps.cache;
        scratch = read.keeps.scratch ∙ so_far.keeps.scratch;
      };
      cache = read.cache ∙ so_far.cache;
      reads = more_reads so_far.reads read.reads;
      up_to = subst (λ (x : ℕ). AreUpTo (2016 * (x * 32 ^ k)) c.in_ok-all.all) (omega arith) read.up_to;
      folded = λ told leaves scene children fits before is.
          let low = scene.known.leaves - length leaves in
          let seen : Seen = seen_in o.volumes old.files in
          let are = stretches o seen c.args.asked.series leaves scene in
          let other = moved o p seen (seen_in p.volumes mid.files) c.args.asked.series leaves (sym volumes) (seen_kept o p old mid volumes (so_far.reads.files told)) scene in
          let child = moved_child o.lo p.lo low (address_of leaves) (total_of leaves) k (c.args.first + i) _ (ap (λ (v : Ordinals). v.lo) (sym volumes))
          (child_ref o.lo low (address_of leaves) (total_of leaves) k c.args.first i c.args.refs.now _ below children) in
          let next : end 32 k (c.args.first + i) ≤ (c.args.first + n) * 32 ^ k = times_le (suc (c.args.first + i)) (c.args.first + n) (32 ^ k) (omega (arith, below)) in
          let first = so_far.folded told leaves scene children fits before is in
          let step = read.folded told leaves other child (omega (arith, next, fits)) (before ++ chosen c.args.asked.window c.args.asked.filter (points_between leaves (c.args.first * 32 ^ k) ((c.args.first + i) * 32 ^ k))) first.value in
          let on = row_on low scene.known.leaves (address_of leaves) (points_between leaves) are c.args.asked.window c.args.asked.filter o.lo k c.args.first i before old mid new c.loop-i.all (Ok c.in_ok-all.all) first step in
          subst (λ (m : ℕ). IsFolded c.args.asked.window c.args.asked.filter before (points_between leaves (c.args.first * 32 ^ k) ((c.args.first + m) * 32 ^ k))
          (suc k * borders c.args.asked.window low (points_between leaves) (c.args.first * 32 ^ k) ((c.args.first + m) * 32 ^ k)) old new (Ok c.in_ok-all.all)) (omega arith) on;
    }

pub fold_refs-returns-clause-folded : goal.fold_refs-returns-clause-folded
fold_refs-returns-clause-folded g t c told leaves scene children fits before is =
    let n : c.loop-i.i ≡ length c.args.refs.now = omega (arith, c.loop-i-test.false, c.loop-i.auto.i-end) in
    let old = g.D.Outside.state c.args.reach.now.disk.now in
    let new = g.D.Outside.state c.loop-i.reach.disk.now in
    let low = scene.known.leaves - length leaves in
    subst (λ (i : ℕ). IsFolded c.args.asked.window c.args.asked.filter before (points_between leaves (c.args.first * 32 ^ c.args.level) ((c.args.first + i) * 32 ^ c.args.level))
    (suc c.args.level * borders c.args.asked.window low (points_between leaves) (c.args.first * 32 ^ c.args.level) ((c.args.first + i) * 32 ^ c.args.level)) old new (Ok c.loop-i.all)) n
    (c.loop-i.invariant.folded told leaves scene children fits before is)

-- ---- Why it stops

pub fold_node-returns-in_err-first-clause-stops : goal.fold_node-returns-in_err-first-clause-stops
fold_node-returns-in_err-first-clause-stops g t c count v reached =
    stop_from _ c.from_residual.result c.in_err-first.field-0.0 c.from_residual.ensures.1 (c.in_err-first.ensures.stops count v reached)

pub fold_node-returns-clause-stops : goal.fold_node-returns-clause-stops
fold_node-returns-clause-stops g t c count v reached =
    let o = c.args.reach.now.volumes.now in
    let p = c.read_refs.new.reach.volumes.now in
    let old = g.D.Outside.state c.args.reach.now.disk.now in
    let mid = g.D.Outside.state c.read_refs.new.reach.disk.now in
    let new = g.D.Outside.state c.fold_refs.new.reach.disk.now in
    let read = c.in_ok-first.ensures in
    let volumes : p ≡ o = ap (λ v. v.now) read.keeps.volumes in
    let seen : Seen = seen_in o.volumes old.files in
    let other : Seen = seen_in p.volumes mid.files in
    stops_later o p seen other c.args.asked.series count v old mid new c.fold_refs.result volumes (λ told. sym (seen_kept o p old mid volumes (read.reads.files told))) read.reads.later
    (c.fold_refs.ensures.stops count v
    (λ told. row_moved o p seen other c.args.asked.series count v (c.args.level - 1) c.in_ok-first.first c.in_ok-first.first c.read_refs.new.node c.refs.result.now
    (sym volumes) (seen_kept o p old mid volumes (read.reads.files told)) refl (sym c.refs.ensures.refs) (read.reached count v told (reached told))))

pub fold_ref-returns-then-level-eq0-clause-stops : goal.fold_ref-returns-then-level-eq0-clause-stops
fold_ref-returns-then-level-eq0-clause-stops g t c count v reached =
    let o = c.args.reach.now.volumes.now in
    let old = g.D.Outside.state c.args.reach.now.disk.now in
    let zero_is : c.args.level ≡ 0 = omega (arith, c.if-level-eq0.true) in
    c.fold_leaf.ensures.stops count v
    (λ told. subst (λ (l : ℕ). IsReached o (seen_in o.volumes old.files) c.args.asked.series count v l c.args.number c.args.r.addr.0) zero_is (reached told))

pub fold_refs-returns-in_err-all-clause-stops : goal.fold_refs-returns-in_err-all-clause-stops
fold_refs-returns-in_err-all-clause-stops g t c count v reached =
    let o = c.args.reach.now.volumes.now in
    let p = c.loop-i.reach.volumes.now in
    let old = g.D.Outside.state c.args.reach.now.disk.now in
    let mid = g.D.Outside.state c.loop-i.reach.disk.now in
    let new = g.D.Outside.state c.fold_ref.new.reach.disk.now in
    let so_far = c.loop-i.invariant in
    let i = c.loop-i.i in
    let volumes : p ≡ o = ap (λ v. v.now) so_far.keeps.volumes in
    let seen : Seen = seen_in o.volumes old.files in
    let other : Seen = seen_in p.volumes mid.files in
    let below : i < length c.args.refs.now = omega (arith, c.loop-i-test.true) in
    let there = c.in_err-all.ensures.stops count v
    (λ told. reached_moved o p seen other c.args.asked.series count v c.args.level (c.args.first + i) _ (sym volumes) (seen_kept o p old mid volumes (so_far.reads.files told))
    (reached_at o seen c.args.asked.series count v c.args.level c.args.first i c.args.refs.now _ below (reached told))) in
    stop_from _ c.from_residual.result c.in_err-all.field-0.0 c.from_residual.ensures.1
    (stop_later o p seen other c.args.asked.series count v old mid new c.in_err-all.field-0.0 volumes (λ told. sym (seen_kept o p old mid volumes (so_far.reads.files told))) so_far.reads.later there)

use Rattle.std.proofs.Common.{◌≡◌, ◌∙◌, ℕ, suc, ◌+◌, ◌-◌, ◌*◌, ◌^◌, ◌<◌, ◌≤◌, List, length, map, Ok, Some, refl, sym, ap, subst, arith}
use Rattle.std.proofs.lemmas.List.{length-map}
use Rattle.std.specs.List.{AllByRecursion}
use Rattle.std.specs.Result.{IfOk}
use Rattle.ak_base.specs.declared.point.Point.{Point}
use Rattle.ak_base.specs.declared.stop.Stop.{Stop}
use Rattle.ak_base.specs.declared.stop.Stop.TheVariants.{Disk}
use Rattle.ak_scene.proofs.Links.{not_both, there_kept, moved, moved_children, moved_child, seen_kept, child_ref, dead_node}
use Rattle.ak_scene.proofs.Spans.{children_end, number_fits}
use Rattle.ak_forest.specs.Numbers.{end}
use Rattle.ak_forest.specs.Tree.{Child}
use Rattle.ak_forest.proofs.Arith.{times_le}
use Rattle.ak_image.specs.Blocks.{Seen, seen_in}
use Rattle.ak_image.specs.Nodes.{reference_of}
use Rattle.ak_image.specs.Trees.{points_between, total_of}
use Rattle.ak_inner.specs.declared.reference.Ref.{Ref}
use Rattle.ak_repair.proofs.OnlyReading.{no_read, more_reads, stop_from}
use Rattle.ak_volumes.specs.Ordinals.{Ordinals}
use Rattle.ak_walk.proofs.Early.{early_none, early_dead, early_ref, sought_leaf, early_on, sought_in, sought_moved, sought_some, sought_none, if_ok}
use Rattle.ak_walk.specs.Places.{IsSought}
use Rattle.ak_world.specs.Views.{address_of}
use Rattle.ak_scene.proofs.Reaching.{reached_at, reached_moved, row_moved, stop_later, stops_later}
use Rattle.ak_walk.proofs.seeking.+sought.Goals as goal

pub seek_node-seek_refs-requires : goal.seek_node-seek_refs-requires
seek_node-seek_refs-requires g t c κs within =
    let old = g.D.Outside.state c.args.reach.now.disk.now in
    let new = g.D.Outside.state c.read_refs.new.reach.disk.now in
    let node : List Ref = c.read_refs.new.node in
    let read = c.in_ok-first.ensures in
    let long : length c.refs.result.now ≡ length node = ap (λ (rs : List Ref). length rs) c.refs.ensures.refs in
    let stop : (c.in_ok-first.first + length c.refs.result.now) * 32 ^ (c.args.level - 1) ≡ (suc c.args.number) * 32 ^ c.args.level =
    ap (λ (y : ℕ). y * 32 ^ (c.args.level - 1)) (omega (arith, read.first, long)) ∙ children_end c.args.level c.args.number (length node) c.requires.above read.few in (
      omega (arith, c.decreases, c.requires.above),
      (
        within,
        (
          there_kept c.args.reach.now.volumes.now c.read_refs.new.reach.volumes.now old new (ap (λ v. v.now) read.keeps.volumes) read.reads.sizes c.requires.there,
          (
            omega (arith, c.requires.most),
            omega (arith, stop, c.requires.number),
          ),
        ),
      ),
    )

pub seek_node-returns-clause-sought : goal.seek_node-returns-clause-sought
seek_node-returns-clause-sought g t c told leaves scene at live fits =
    let o = c.args.reach.now.volumes.now in
    let p = c.read_refs.new.reach.volumes.now in
    let old = g.D.Outside.state c.args.reach.now.disk.now in
    let mid = g.D.Outside.state c.read_refs.new.reach.disk.now in
    let low = scene.known.leaves - length leaves in
    let node : List Ref = c.read_refs.new.node in
    let n = length node in
    let k = c.args.level - 1 in
    let up : suc k ≡ c.args.level = omega (arith, c.requires.above) in
    let read = c.in_ok-first.ensures in
    let volumes : p ≡ o = ap (λ v. v.now) read.keeps.volumes in
    let seen : Seen = seen_in o.volumes old.files in
    let same = seen_kept o p old mid volumes (read.reads.files told) in
    let other = moved o p seen (seen_in p.volumes mid.files) c.args.series leaves (sym volumes) same scene in
    let refs : c.refs.result.now ≡ node = c.refs.ensures.refs in
    let long : length c.refs.result.now ≡ n = ap (λ (rs : List Ref). length rs) refs in
    let mapped : length (map reference_of node) ≡ n = length-map node reference_of in
    let family = read.family told leaves scene at live fits in
    let first : suc c.args.number * 32 - length (map reference_of node) ≡ c.in_ok-first.first = omega (arith, read.first, mapped) in
    let children = moved_children o.lo p.lo low (address_of leaves) (total_of leaves) k (suc c.args.number * 32 - length (map reference_of node)) c.in_ok-first.first (map reference_of node) (map reference_of c.refs.result.now)
    (ap (λ (v : Ordinals). v.lo) (sym volumes)) first (ap (map reference_of) (sym refs)) family.each in
    let stop : (c.in_ok-first.first + length c.refs.result.now) * 32 ^ k ≡ end 32 c.args.level c.args.number =
    ap (λ (y : ℕ). y * 32 ^ k) (omega (arith, read.first, long)) ∙ children_end c.args.level c.args.number n c.requires.above read.few in
    let found = c.seek_refs.ensures.sought told leaves other children (omega (arith, stop, fits)) in
    let inside = sought_moved o p seen (seen_in p.volumes mid.files) c.args.series leaves scene (sym volumes) same c.args.x (c.in_ok-first.first * 32 ^ k) ((c.in_ok-first.first + length c.refs.result.now) * 32 ^ k) c.seek_refs.result found in
    subst (λ (l : ℕ). IfOk c.seek_refs.result (IsSought o seen c.args.series leaves scene c.args.x (c.args.number * 32 ^ l) (end 32 l c.args.number))) up
    (if_ok c.seek_refs.result (λ f is. sought_in o seen c.args.series leaves scene c.args.x k c.args.number n c.in_ok-first.first (length c.refs.result.now) f read.few
    (λ few. subst (λ (y : ℕ). (suc c.args.number * 32 - y) * 32 ^ k ≤ low) mapped (family.missing (omega (arith, mapped, few))))
    (subst (λ (l : ℕ). low < end 32 l c.args.number) (sym up) live) read.first long is) inside)

pub seek_node-returns-clause-sound : goal.seek_node-returns-clause-sound
seek_node-returns-clause-sound g t c told leaves scene at live fits =
    let o = c.args.reach.now.volumes.now in
    let p = c.read_refs.new.reach.volumes.now in
    let old = g.D.Outside.state c.args.reach.now.disk.now in
    let mid = g.D.Outside.state c.read_refs.new.reach.disk.now in
    let low = scene.known.leaves - length leaves in
    let node : List Ref = c.read_refs.new.node in
    let n = length node in
    let k = c.args.level - 1 in
    let read = c.in_ok-first.ensures in
    let volumes : p ≡ o = ap (λ v. v.now) read.keeps.volumes in
    let seen : Seen = seen_in o.volumes old.files in
    let other = moved o p seen (seen_in p.volumes mid.files) c.args.series leaves (sym volumes) (seen_kept o p old mid volumes (read.reads.files told)) scene in
    let refs : c.refs.result.now ≡ node = c.refs.ensures.refs in
    let long : length c.refs.result.now ≡ n = ap (λ (rs : List Ref). length rs) refs in
    let mapped : length (map reference_of node) ≡ n = length-map node reference_of in
    let family = read.family told leaves scene at live fits in
    let first : suc c.args.number * 32 - length (map reference_of node) ≡ c.in_ok-first.first = omega (arith, read.first, mapped) in
    let children = moved_children o.lo p.lo low (address_of leaves) (total_of leaves) k (suc c.args.number * 32 - length (map reference_of node)) c.in_ok-first.first (map reference_of node) (map reference_of c.refs.result.now)
    (ap (λ (v : Ordinals). v.lo) (sym volumes)) first (ap (map reference_of) (sym refs)) family.each in
    let stop : (c.in_ok-first.first + length c.refs.result.now) * 32 ^ k ≡ end 32 c.args.level c.args.number =
    ap (λ (y : ℕ). y * 32 ^ k) (omega (arith, read.first, long)) ∙ children_end c.args.level c.args.number n c.requires.above read.few in
    c.seek_refs.ensures.sound told leaves other children (omega (arith, stop, fits))

pub seek_ref-returns-then-not-live-clause-sought : goal.seek_ref-returns-then-not-live-clause-sought
seek_ref-returns-then-not-live-clause-sought g t c told leaves scene child fits =
    let o = c.args.reach.now.volumes.now in
    let old = g.D.Outside.state c.args.reach.now.disk.now in
    early_dead o (seen_in o.volumes old.files) c.args.series leaves scene c.args.x (c.args.number * 32 ^ c.args.level) (end 32 c.args.level c.args.number)
    (dead_node o (seen_in o.volumes old.files) c.args.series leaves scene c.args.level c.args.number c.args.r child fits (λ live. not_both c.live.result (c.live.ensures.1 live) c.if-not-live.true))

pub seek_ref-returns-then-r-x-clause-sought : goal.seek_ref-returns-then-r-x-clause-sought
seek_ref-returns-then-r-x-clause-sought g t c told leaves scene child fits =
    let o = c.args.reach.now.volumes.now in
    let old = g.D.Outside.state c.args.reach.now.disk.now in
    early_ref o (seen_in o.volumes old.files) c.args.series leaves scene c.args.x c.args.level c.args.number c.args.r child (c.live.ensures.0 c.if-not-live.false) fits (omega (arith, c.if-r-x.true))

pub seek_ref-returns-then-level-eq0-clause-sought : goal.seek_ref-returns-then-level-eq0-clause-sought
seek_ref-returns-then-level-eq0-clause-sought g t c told leaves scene child fits =
    let o = c.args.reach.now.volumes.now in
    let old = g.D.Outside.state c.args.reach.now.disk.now in
    let low = scene.known.leaves - length leaves in
    let zero_is : c.args.level ≡ 0 = omega (arith, c.if-level-eq0.true) in
    let at_zero = subst (λ (l : ℕ). Child 32 o.lo low (address_of leaves) (total_of leaves) l c.args.number (reference_of c.args.r)) zero_is child in
    subst (λ (l : ℕ). IsSought o (seen_in o.volumes old.files) c.args.series leaves scene c.args.x (c.args.number * 32 ^ l) (end 32 l c.args.number) (Some c.args.number)) (sym zero_is)
    (sought_leaf o (seen_in o.volumes old.files) c.args.series leaves scene c.args.x c.args.number c.args.r at_zero (c.live.ensures.0 c.if-not-live.false)
    (subst (λ (l : ℕ). end 32 l c.args.number ≤ scene.known.leaves) zero_is fits) (omega (arith, c.if-r-x.false)))

pub seek_refs-loop-i-init : goal.seek_refs-loop-i-init
seek_refs-loop-i-init g t c =
    let o = c.args.reach.now.volumes.now in
    let old = g.D.Outside.state c.args.reach.now.disk.now in
    record {
      keeps = record { disk = refl; volumes = refl; cache = refl; scratch = refl };
      cache = refl;
      reads = no_read g.D.Outside.tells old;
      sought = λ told leaves scene children fits.
          early_none o (seen_in o.volumes old.files) c.args.series leaves scene c.args.x (c.args.first * 32 ^ c.args.level) ((c.args.first + 0) * 32 ^ c.args.level) (ap (λ (y : ℕ). y * 32 ^ c.args.level) (omega arith));
    }

pub seek_refs-overflow_add-first : goal.seek_refs-overflow_add-first
seek_refs-overflow_add-first g t c =
    omega (arith, c.loop-i-test.true, number_fits (c.args.first + length c.args.refs.now) c.args.level (2 ^ 52) c.requires.number)

pub seek_refs-returns-in_err-found-clause-sound : goal.seek_refs-returns-in_err-found-clause-sound
seek_refs-returns-in_err-found-clause-sound g t c told leaves scene children fits =
    let o = c.args.reach.now.volumes.now in
    let p = c.loop-i.reach.volumes.now in
    let old = g.D.Outside.state c.args.reach.now.disk.now in
    let mid = g.D.Outside.state c.loop-i.reach.disk.now in
    let so_far = c.loop-i.invariant in
    let k = c.args.level in
    let i = c.loop-i.i in
    let n : ℕ = length c.args.refs.now in
    let below : i < n = omega (arith, c.loop-i-test.true) in
    let volumes : p ≡ o = ap (λ v. v.now) so_far.keeps.volumes in
    let low = scene.known.leaves - length leaves in
    let seen : Seen = seen_in o.volumes old.files in
    let same = seen_kept o p old mid volumes (so_far.reads.files told) in
    let other = moved o p seen (seen_in p.volumes mid.files) c.args.series leaves (sym volumes) same scene in
    let child = moved_child o.lo p.lo low (address_of leaves) (total_of leaves) k (c.args.first + i) _ (ap (λ (v : Ordinals). v.lo) (sym volumes))
    (child_ref o.lo low (address_of leaves) (total_of leaves) k c.args.first i c.args.refs.now _ below children) in
    let next : end 32 k (c.args.first + i) ≤ (c.args.first + n) * 32 ^ k = times_le (suc (c.args.first + i)) (c.args.first + n) (32 ^ k) (omega (arith, below)) in
    stop_from (λ (stop : Stop). stop ≡ Disk) c.from_residual.result c.in_err-found.field-0.0 c.from_residual.ensures.1
    (c.in_err-found.ensures.sound told leaves other child (omega (arith, next, fits)))

pub seek_refs-returns-then-is_some-clause-sought : goal.seek_refs-returns-then-is_some-clause-sought
seek_refs-returns-then-is_some-clause-sought g t c told leaves scene children fits =
    let o = c.args.reach.now.volumes.now in
    let p = c.loop-i.reach.volumes.now in
    let old = g.D.Outside.state c.args.reach.now.disk.now in
    let mid = g.D.Outside.state c.loop-i.reach.disk.now in
    let so_far = c.loop-i.invariant in
    let k = c.args.level in
    let i = c.loop-i.i in
    let n : ℕ = length c.args.refs.now in
    let below : i < n = omega (arith, c.loop-i-test.true) in
    let volumes : p ≡ o = ap (λ v. v.now) so_far.keeps.volumes in
    let low = scene.known.leaves - length leaves in
    let seen : Seen = seen_in o.volumes old.files in
    let same = seen_kept o p old mid volumes (so_far.reads.files told) in
    let other = moved o p seen (seen_in p.volumes mid.files) c.args.series leaves (sym volumes) same scene in
    let child = moved_child o.lo p.lo low (address_of leaves) (total_of leaves) k (c.args.first + i) _ (ap (λ (v : Ordinals). v.lo) (sym volumes))
    (child_ref o.lo low (address_of leaves) (total_of leaves) k c.args.first i c.args.refs.now _ below children) in
    let next : end 32 k (c.args.first + i) ≤ (c.args.first + n) * 32 ^ k = times_le (suc (c.args.first + i)) (c.args.first + n) (32 ^ k) (omega (arith, below)) in
    let found = c.in_ok-found.ensures.sought told leaves other child (omega (arith, next, fits)) in
    let here = sought_moved o p seen (seen_in p.volumes mid.files) c.args.series leaves scene (sym volumes) same c.args.x ((c.args.first + i) * 32 ^ k) (end 32 k (c.args.first + i)) (Ok c.in_ok-found.found) found in
    sought_some o seen c.args.series leaves scene c.args.x k c.args.first i n c.in_ok-found.found below (sym c.is_some.ensures ∙ c.if-is_some.true) (so_far.sought told leaves scene children fits) here

pub seek_refs-loop-i-preserved : goal.seek_refs-loop-i-preserved
seek_refs-loop-i-preserved g t c =
    let o = c.args.reach.now.volumes.now in
    let p = c.loop-i.reach.volumes.now in
    let old = g.D.Outside.state c.args.reach.now.disk.now in
    let mid = g.D.Outside.state c.loop-i.reach.disk.now in
    let so_far = c.loop-i.invariant in
    let k = c.args.level in
    let i = c.loop-i.i in
    let n : ℕ = length c.args.refs.now in
    let below : i < n = omega (arith, c.loop-i-test.true) in
    let volumes : p ≡ o = ap (λ v. v.now) so_far.keeps.volumes in
    let read = c.in_ok-found.ensures in
    record {
      keeps = record {
        disk = read.keeps.disk ∙ so_far.keeps.disk;
        volumes = read.keeps.volumes ∙ so_far.keeps.volumes;
        cache = read.keeps.cache ∙ so_far.keeps.cache;
        scratch = read.keeps.scratch ∙ so_far.keeps.scratch;
      };
      cache = read.cache ∙ so_far.cache;
      reads = more_reads so_far.reads read.reads;
      sought = λ told leaves scene children fits.
          let low = scene.known.leaves - length leaves in
          let seen : Seen = seen_in o.volumes old.files in
          let same = seen_kept o p old mid volumes (so_far.reads.files told) in
          let other = moved o p seen (seen_in p.volumes mid.files) c.args.series leaves (sym volumes) same scene in
          let child = moved_child o.lo p.lo low (address_of leaves) (total_of leaves) k (c.args.first + i) _ (ap (λ (v : Ordinals). v.lo) (sym volumes))
          (child_ref o.lo low (address_of leaves) (total_of leaves) k c.args.first i c.args.refs.now _ below children) in
          let next : end 32 k (c.args.first + i) ≤ (c.args.first + n) * 32 ^ k = times_le (suc (c.args.first + i)) (c.args.first + n) (32 ^ k) (omega (arith, below)) in
          let found = read.sought told leaves other child (omega (arith, next, fits)) in
          let here = sought_moved o p seen (seen_in p.volumes mid.files) c.args.series leaves scene (sym volumes) same c.args.x ((c.args.first + i) * 32 ^ k) (end 32 k (c.args.first + i)) (Ok c.in_ok-found.found) found in
          early_on o seen c.args.series leaves scene c.args.x k c.args.first i (so_far.sought told leaves scene children fits)
          (sought_none o seen c.args.series leaves scene c.args.x ((c.args.first + i) * 32 ^ k) (end 32 k (c.args.first + i)) c.in_ok-found.found (sym c.is_some.ensures ∙ c.if-is_some.false) here);
    }

pub seek_refs-returns-clause-sought : goal.seek_refs-returns-clause-sought
seek_refs-returns-clause-sought g t c told leaves scene children fits =
    let n : c.loop-i.i ≡ length c.args.refs.now = omega (arith, c.loop-i-test.false, c.loop-i.auto.i-end) in
    subst (λ (i : ℕ). AllByRecursion (λ (p : Point). p.ts < c.args.x) (points_between leaves (c.args.first * 32 ^ c.args.level) ((c.args.first + i) * 32 ^ c.args.level))) n
    (c.loop-i.invariant.sought told leaves scene children fits)

-- ---- Why it stops

pub seek_node-returns-in_err-first-clause-stops : goal.seek_node-returns-in_err-first-clause-stops
seek_node-returns-in_err-first-clause-stops g t c count v reached =
    stop_from _ c.from_residual.result c.in_err-first.field-0.0 c.from_residual.ensures.1 (c.in_err-first.ensures.stops count v reached)

pub seek_node-returns-clause-stops : goal.seek_node-returns-clause-stops
seek_node-returns-clause-stops g t c count v reached =
    let o = c.args.reach.now.volumes.now in
    let p = c.read_refs.new.reach.volumes.now in
    let old = g.D.Outside.state c.args.reach.now.disk.now in
    let mid = g.D.Outside.state c.read_refs.new.reach.disk.now in
    let new = g.D.Outside.state c.seek_refs.new.reach.disk.now in
    let read = c.in_ok-first.ensures in
    let volumes : p ≡ o = ap (λ v. v.now) read.keeps.volumes in
    let seen : Seen = seen_in o.volumes old.files in
    let other : Seen = seen_in p.volumes mid.files in
    stops_later o p seen other c.args.series count v old mid new c.seek_refs.result volumes (λ told. sym (seen_kept o p old mid volumes (read.reads.files told))) read.reads.later
    (c.seek_refs.ensures.stops count v
    (λ told. row_moved o p seen other c.args.series count v (c.args.level - 1) c.in_ok-first.first c.in_ok-first.first c.read_refs.new.node c.refs.result.now
    (sym volumes) (seen_kept o p old mid volumes (read.reads.files told)) refl (sym c.refs.ensures.refs) (read.reached count v told (reached told))))

pub seek_refs-returns-in_err-found-clause-stops : goal.seek_refs-returns-in_err-found-clause-stops
seek_refs-returns-in_err-found-clause-stops g t c count v reached =
    let o = c.args.reach.now.volumes.now in
    let p = c.loop-i.reach.volumes.now in
    let old = g.D.Outside.state c.args.reach.now.disk.now in
    let mid = g.D.Outside.state c.loop-i.reach.disk.now in
    let new = g.D.Outside.state c.seek_ref.new.reach.disk.now in
    let so_far = c.loop-i.invariant in
    let i = c.loop-i.i in
    let volumes : p ≡ o = ap (λ v. v.now) so_far.keeps.volumes in
    let seen : Seen = seen_in o.volumes old.files in
    let other : Seen = seen_in p.volumes mid.files in
    let below : i < length c.args.refs.now = omega (arith, c.loop-i-test.true) in
    let there = c.in_err-found.ensures.stops count v
    (λ told. reached_moved o p seen other c.args.series count v c.args.level (c.args.first + i) _ (sym volumes) (seen_kept o p old mid volumes (so_far.reads.files told))
    (reached_at o seen c.args.series count v c.args.level c.args.first i c.args.refs.now _ below (reached told))) in
    stop_from _ c.from_residual.result c.in_err-found.field-0.0 c.from_residual.ensures.1
    (stop_later o p seen other c.args.series count v old mid new c.in_err-found.field-0.0 volumes (λ told. sym (seen_kept o p old mid volumes (so_far.reads.files told))) so_far.reads.later there)

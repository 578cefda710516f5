use Rattle.std.proofs.Common.{◌≡◌, ◌∙◌, ℕ, suc, ◌+◌, ◌-◌, ◌/◌, ◌^◌, ◌<◌, ◌≤◌, List, Option, length, map, get_or, refl, sym, ap, subst, arith}
use Rattle.ak_base.specs.declared.stop.Stop.{Stop}
use Rattle.ak_base.specs.declared.stop.Stop.TheVariants.{Disk}
use Rattle.ak_scene.proofs.Links.{not_both, moved, seen_kept, live_node, dead_node}
use Rattle.ak_forest.specs.Numbers.{end, made, digit}
use Rattle.ak_forest.specs.Tree.{Child, Family, spot}
use Rattle.ak_forest.proofs.Arith.{end_made, made_none}
use Rattle.ak_image.specs.Blocks.{Seen, seen_in}
use Rattle.ak_image.specs.Nodes.{reference_of}
use Rattle.ak_image.specs.Trees.{total_of}
use Rattle.ak_inner.specs.declared.reference.Ref.{Ref}
use Rattle.ak_levels.specs.Pending.{pending_at}
use Rattle.ak_repair.proofs.OnlyReading.{stop_from}
use Rattle.ak_volumes.specs.Ordinals.{Ordinals, IsLive}
use Rattle.ak_walk.proofs.Named.{named_here, dead_before, end_above, child_below, missing_below, blank_ref}
use Rattle.ak_walk.specs.Places.{IsRefTo}
use Rattle.ak_world.specs.Views.{address_of}
use Rattle.std.specs.Option.{IfSome}
use Rattle.ak_scene.proofs.Levels.{level_end}
use Rattle.ak_scene.proofs.Reaching.{reached_waits, reached_at, reached_moved, stop_later}
use Rattle.ak_scene.specs.Scenes.{IsReached}
use Rattle.ak_walk.proofs.finding.+find.Goals as goal

pub returns-then-number-first-clause-named : goal.returns-then-number-first-clause-named
returns-then-number-first-clause-named g t c told leaves written fit =
    let o = c.args.reach.now.volumes.now in
    let old = g.D.Outside.state c.args.reach.now.disk.now in
    let seen : Seen = seen_in o.volumes old.files in
    let n = c.args.e.now.leaves in
    let k = c.args.level in
    let number = c.args.number in
    let refs : List Ref = c.pending-refs.result.now in
    let len = length refs in
    let long : len ≡ length (pending_at c.args.e.now.levels.now k) = ap (λ (rs : List Ref). length rs) c.pending-refs.ensures.pending in
    let few : len ≤ digit 32 k n = omega (arith, long, c.requires.lawful.few k c.requires.level) in
    let first = c.made.result - len in
    let first_is : first ≡ made 32 k n - len = ap (λ (y : ℕ). y - len) c.made.ensures in
    let low = fit.scene.known.leaves - length leaves in
    named_here o seen c.args.e.now.series n c.args.e.now.levels.now leaves written fit k len first refs c.requires.level c.pending-refs.ensures.pending refl few first_is number _ c.if-number-first.true c.requires.number

pub returns-then-level-eq-TOP-clause-named : goal.returns-then-level-eq-TOP-clause-named
returns-then-level-eq-TOP-clause-named g t c told leaves written fit =
    let o = c.args.reach.now.volumes.now in
    let old = g.D.Outside.state c.args.reach.now.disk.now in
    let seen : Seen = seen_in o.volumes old.files in
    let n = c.args.e.now.leaves in
    let k = c.args.level in
    let number = c.args.number in
    let refs : List Ref = c.pending-refs.result.now in
    let len = length refs in
    let long : len ≡ length (pending_at c.args.e.now.levels.now k) = ap (λ (rs : List Ref). length rs) c.pending-refs.ensures.pending in
    let few : len ≤ digit 32 k n = omega (arith, long, c.requires.lawful.few k c.requires.level) in
    let first = c.made.result - len in
    let first_is : first ≡ made 32 k n - len = ap (λ (y : ℕ). y - len) c.made.ensures in
    let low = fit.scene.known.leaves - length leaves in
    let top : k ≡ 10 = omega (arith, c.if-level-eq-TOP.true) in
    let none : made 32 (suc k) n ≡ 0 = ap (λ (l : ℕ). made 32 (suc l) n) top ∙ made_none 32 11 n (omega arith) (omega (arith, c.requires.lawful.most)) in
    dead_before o seen c.args.e.now.series n c.args.e.now.levels.now leaves written fit k len first refs c.requires.level c.pending-refs.ensures.pending refl few first_is number c.if-number-first.false (omega (arith, none))

pub returns-then-above-made-clause-named : goal.returns-then-above-made-clause-named
returns-then-above-made-clause-named g t c told leaves written fit =
    let o = c.args.reach.now.volumes.now in
    let old = g.D.Outside.state c.args.reach.now.disk.now in
    let seen : Seen = seen_in o.volumes old.files in
    let n = c.args.e.now.leaves in
    let k = c.args.level in
    let number = c.args.number in
    let refs : List Ref = c.pending-refs.result.now in
    let len = length refs in
    let long : len ≡ length (pending_at c.args.e.now.levels.now k) = ap (λ (rs : List Ref). length rs) c.pending-refs.ensures.pending in
    let few : len ≤ digit 32 k n = omega (arith, long, c.requires.lawful.few k c.requires.level) in
    let first = c.made.result - len in
    let first_is : first ≡ made 32 k n - len = ap (λ (y : ℕ). y - len) c.made.ensures in
    let low = fit.scene.known.leaves - length leaves in
    let plus : k + 1 ≡ suc k = omega arith in
    let parents : c.made-2.result ≡ made 32 (suc k) n = subst (λ (l : ℕ). c.made-2.result ≡ n / 32 ^ l) plus c.made-2.ensures in
    let behind : made 32 (suc k) n ≤ number / 32 = omega (arith, c.if-above-made.true, parents) in
    dead_before o seen c.args.e.now.series n c.args.e.now.levels.now leaves written fit k len first refs c.requires.level c.pending-refs.ensures.pending refl few first_is number c.if-number-first.false (omega (arith, behind))

pub returns-in_err-found-clause-sound : goal.returns-in_err-found-clause-sound
returns-in_err-found-clause-sound g t c told leaves written fit =
    stop_from (λ (stop : Stop). stop ≡ Disk) c.from_residual.result c.in_err-found.field-0.0 c.from_residual.ensures.1 (c.in_err-found.ensures.sound told leaves written fit)

pub returns-in-None-clause-named : goal.returns-in-None-clause-named
returns-in-None-clause-named g t c told leaves written fit =
    let o = c.args.reach.now.volumes.now in
    let old = g.D.Outside.state c.args.reach.now.disk.now in
    let seen : Seen = seen_in o.volumes old.files in
    let n = c.args.e.now.leaves in
    let k = c.args.level in
    let number = c.args.number in
    let refs : List Ref = c.pending-refs.result.now in
    let len = length refs in
    let long : len ≡ length (pending_at c.args.e.now.levels.now k) = ap (λ (rs : List Ref). length rs) c.pending-refs.ensures.pending in
    let few : len ≤ digit 32 k n = omega (arith, long, c.requires.lawful.few k c.requires.level) in
    let first = c.made.result - len in
    let first_is : first ≡ made 32 k n - len = ap (λ (y : ℕ). y - len) c.made.ensures in
    let low = fit.scene.known.leaves - length leaves in
    let above = number / 32 in
    let plus : k + 1 ≡ suc k = omega arith in
    let back : k + 1 - 1 ≡ k = omega arith in
    let p = c.find.new.reach.volumes.now in
    let mid = g.D.Outside.state c.find.new.reach.disk.now in
    let sought = c.in_ok-found.ensures in
    let volumes : p ≡ o = ap (λ v. v.now) sought.keeps.volumes in
    let same = seen_kept o p old mid volumes (sought.reads.files told) in
    let named : IsRefTo o seen c.args.e.now.series leaves fit.scene (k + 1) above c.in_ok-found.found = sought.named told leaves written fit in
    let dead : end 32 (k + 1) above ≤ low = subst (IsRefTo o seen c.args.e.now.series leaves fit.scene (k + 1) above) c.in-None.is named in
    omega (arith, end_above k number, subst (λ (l : ℕ). end 32 l above ≤ low) plus dead)

pub returns-then-not-live-clause-named : goal.returns-then-not-live-clause-named
returns-then-not-live-clause-named g t c told leaves written fit =
    let o = c.args.reach.now.volumes.now in
    let old = g.D.Outside.state c.args.reach.now.disk.now in
    let seen : Seen = seen_in o.volumes old.files in
    let n = c.args.e.now.leaves in
    let k = c.args.level in
    let number = c.args.number in
    let refs : List Ref = c.pending-refs.result.now in
    let len = length refs in
    let long : len ≡ length (pending_at c.args.e.now.levels.now k) = ap (λ (rs : List Ref). length rs) c.pending-refs.ensures.pending in
    let few : len ≤ digit 32 k n = omega (arith, long, c.requires.lawful.few k c.requires.level) in
    let first = c.made.result - len in
    let first_is : first ≡ made 32 k n - len = ap (λ (y : ℕ). y - len) c.made.ensures in
    let low = fit.scene.known.leaves - length leaves in
    let above = number / 32 in
    let plus : k + 1 ≡ suc k = omega arith in
    let back : k + 1 - 1 ≡ k = omega arith in
    let p = c.find.new.reach.volumes.now in
    let mid = g.D.Outside.state c.find.new.reach.disk.now in
    let sought = c.in_ok-found.ensures in
    let volumes : p ≡ o = ap (λ v. v.now) sought.keeps.volumes in
    let same = seen_kept o p old mid volumes (sought.reads.files told) in
    let named : IsRefTo o seen c.args.e.now.series leaves fit.scene (k + 1) above c.in_ok-found.found = sought.named told leaves written fit in
    let parent : Ref = c.in-Some.parent in
    let child = subst (λ (l : ℕ). Child 32 o.lo low (address_of leaves) (total_of leaves) l above (reference_of parent)) plus (subst (IsRefTo o seen c.args.e.now.series leaves fit.scene (k + 1) above) c.in-Some.is named) in
    let parents : c.made-2.result ≡ made 32 (suc k) n = subst (λ (l : ℕ). c.made-2.result ≡ n / 32 ^ l) plus c.made-2.ensures in
    let few_above : above < made 32 (suc k) n = omega (arith, c.if-above-made.false, parents) in
    let fits : end 32 (suc k) above ≤ fit.scene.known.leaves = omega (arith, end_made 32 (suc k) above n (omega arith) few_above, fit.count_is) in
    let dead = dead_node o seen c.args.e.now.series leaves fit.scene (suc k) above parent child fits
    (λ live. not_both c.live.result (c.live.ensures.1 (subst (λ (v : Ordinals). IsLive v parent.addr.0) (sym volumes) live)) c.if-not-live.true) in
    omega (arith, end_above k number, dead)

pub returns-in_err-begin-clause-sound : goal.returns-in_err-begin-clause-sound
returns-in_err-begin-clause-sound g t c told leaves written fit =
    let o = c.args.reach.now.volumes.now in
    let old = g.D.Outside.state c.args.reach.now.disk.now in
    let seen : Seen = seen_in o.volumes old.files in
    let n = c.args.e.now.leaves in
    let k = c.args.level in
    let number = c.args.number in
    let refs : List Ref = c.pending-refs.result.now in
    let len = length refs in
    let long : len ≡ length (pending_at c.args.e.now.levels.now k) = ap (λ (rs : List Ref). length rs) c.pending-refs.ensures.pending in
    let few : len ≤ digit 32 k n = omega (arith, long, c.requires.lawful.few k c.requires.level) in
    let first = c.made.result - len in
    let first_is : first ≡ made 32 k n - len = ap (λ (y : ℕ). y - len) c.made.ensures in
    let low = fit.scene.known.leaves - length leaves in
    let above = number / 32 in
    let plus : k + 1 ≡ suc k = omega arith in
    let back : k + 1 - 1 ≡ k = omega arith in
    let p = c.find.new.reach.volumes.now in
    let mid = g.D.Outside.state c.find.new.reach.disk.now in
    let sought = c.in_ok-found.ensures in
    let volumes : p ≡ o = ap (λ v. v.now) sought.keeps.volumes in
    let same = seen_kept o p old mid volumes (sought.reads.files told) in
    let named : IsRefTo o seen c.args.e.now.series leaves fit.scene (k + 1) above c.in_ok-found.found = sought.named told leaves written fit in
    let parent : Ref = c.in-Some.parent in
    let child = subst (λ (l : ℕ). Child 32 o.lo low (address_of leaves) (total_of leaves) l above (reference_of parent)) plus (subst (IsRefTo o seen c.args.e.now.series leaves fit.scene (k + 1) above) c.in-Some.is named) in
    let parents : c.made-2.result ≡ made 32 (suc k) n = subst (λ (l : ℕ). c.made-2.result ≡ n / 32 ^ l) plus c.made-2.ensures in
    let few_above : above < made 32 (suc k) n = omega (arith, c.if-above-made.false, parents) in
    let fits : end 32 (suc k) above ≤ fit.scene.known.leaves = omega (arith, end_made 32 (suc k) above n (omega arith) few_above, fit.count_is) in
    let live : IsLive o parent.addr.0 = subst (λ (v : Ordinals). IsLive v parent.addr.0) volumes (c.live.ensures.0 c.if-not-live.false) in
    let alive : low < end 32 (suc k) above = live_node o seen c.args.e.now.series leaves fit.scene (suc k) above parent child live in
    let other = moved o p seen (seen_in p.volumes mid.files) c.args.e.now.series leaves (sym volumes) same fit.scene in
    let up : k + 1 ≡ suc k = omega arith in
    stop_from (λ (stop : Stop). stop ≡ Disk) c.from_residual-in_err-begin.result c.in_err-begin.field-0.0 c.from_residual-in_err-begin.ensures.1
    (c.in_err-begin.ensures.sound told leaves other (subst (λ (l : ℕ). parent.addr.0 ≡ spot 32 (address_of leaves) l above) (sym up) (child.link.live alive))
    (subst (λ (l : ℕ). low < end 32 l above) (sym up) alive) (subst (λ (l : ℕ). end 32 l above ≤ fit.scene.known.leaves) (sym up) fits))

pub returns-then-number-begin-clause-named : goal.returns-then-number-begin-clause-named
returns-then-number-begin-clause-named g t c told leaves written fit =
    let o = c.args.reach.now.volumes.now in
    let old = g.D.Outside.state c.args.reach.now.disk.now in
    let seen : Seen = seen_in o.volumes old.files in
    let n = c.args.e.now.leaves in
    let k = c.args.level in
    let number = c.args.number in
    let refs : List Ref = c.pending-refs.result.now in
    let len = length refs in
    let long : len ≡ length (pending_at c.args.e.now.levels.now k) = ap (λ (rs : List Ref). length rs) c.pending-refs.ensures.pending in
    let few : len ≤ digit 32 k n = omega (arith, long, c.requires.lawful.few k c.requires.level) in
    let first = c.made.result - len in
    let first_is : first ≡ made 32 k n - len = ap (λ (y : ℕ). y - len) c.made.ensures in
    let low = fit.scene.known.leaves - length leaves in
    let above = number / 32 in
    let plus : k + 1 ≡ suc k = omega arith in
    let back : k + 1 - 1 ≡ k = omega arith in
    let p = c.find.new.reach.volumes.now in
    let mid = g.D.Outside.state c.find.new.reach.disk.now in
    let sought = c.in_ok-found.ensures in
    let volumes : p ≡ o = ap (λ v. v.now) sought.keeps.volumes in
    let same = seen_kept o p old mid volumes (sought.reads.files told) in
    let named : IsRefTo o seen c.args.e.now.series leaves fit.scene (k + 1) above c.in_ok-found.found = sought.named told leaves written fit in
    let parent : Ref = c.in-Some.parent in
    let child = subst (λ (l : ℕ). Child 32 o.lo low (address_of leaves) (total_of leaves) l above (reference_of parent)) plus (subst (IsRefTo o seen c.args.e.now.series leaves fit.scene (k + 1) above) c.in-Some.is named) in
    let parents : c.made-2.result ≡ made 32 (suc k) n = subst (λ (l : ℕ). c.made-2.result ≡ n / 32 ^ l) plus c.made-2.ensures in
    let few_above : above < made 32 (suc k) n = omega (arith, c.if-above-made.false, parents) in
    let fits : end 32 (suc k) above ≤ fit.scene.known.leaves = omega (arith, end_made 32 (suc k) above n (omega arith) few_above, fit.count_is) in
    let live : IsLive o parent.addr.0 = subst (λ (v : Ordinals). IsLive v parent.addr.0) volumes (c.live.ensures.0 c.if-not-live.false) in
    let alive : low < end 32 (suc k) above = live_node o seen c.args.e.now.series leaves fit.scene (suc k) above parent child live in
    let other = moved o p seen (seen_in p.volumes mid.files) c.args.e.now.series leaves (sym volumes) same fit.scene in
    let up : k + 1 ≡ suc k = omega arith in
    let begun = c.in_ok-begin.ensures in
    let node : List Ref = c.read_refs.new.node in
    let family = subst (λ (l : ℕ). Family 32 o.lo low (address_of leaves) (total_of leaves) l above (map reference_of node)) back
    (subst (λ (v : Ordinals). Family 32 v.lo low (address_of leaves) (total_of leaves) (k + 1 - 1) above (map reference_of node)) volumes
    (begun.family told leaves other (subst (λ (l : ℕ). parent.addr.0 ≡ spot 32 (address_of leaves) l above) (sym up) (child.link.live alive))
    (subst (λ (l : ℕ). low < end 32 l above) (sym up) alive) (subst (λ (l : ℕ). end 32 l above ≤ fit.scene.known.leaves) (sym up) fits))) in
    missing_below o.lo low (address_of leaves) (total_of leaves) k above number (length node) c.in_ok-begin.begin node refl family begun.first refl c.if-number-begin.true

pub returns-clause-named : goal.returns-clause-named
returns-clause-named g t c told leaves written fit =
    let o = c.args.reach.now.volumes.now in
    let old = g.D.Outside.state c.args.reach.now.disk.now in
    let seen : Seen = seen_in o.volumes old.files in
    let n = c.args.e.now.leaves in
    let k = c.args.level in
    let number = c.args.number in
    let refs : List Ref = c.pending-refs.result.now in
    let len = length refs in
    let long : len ≡ length (pending_at c.args.e.now.levels.now k) = ap (λ (rs : List Ref). length rs) c.pending-refs.ensures.pending in
    let few : len ≤ digit 32 k n = omega (arith, long, c.requires.lawful.few k c.requires.level) in
    let first = c.made.result - len in
    let first_is : first ≡ made 32 k n - len = ap (λ (y : ℕ). y - len) c.made.ensures in
    let low = fit.scene.known.leaves - length leaves in
    let above = number / 32 in
    let plus : k + 1 ≡ suc k = omega arith in
    let back : k + 1 - 1 ≡ k = omega arith in
    let p = c.find.new.reach.volumes.now in
    let mid = g.D.Outside.state c.find.new.reach.disk.now in
    let sought = c.in_ok-found.ensures in
    let volumes : p ≡ o = ap (λ v. v.now) sought.keeps.volumes in
    let same = seen_kept o p old mid volumes (sought.reads.files told) in
    let named : IsRefTo o seen c.args.e.now.series leaves fit.scene (k + 1) above c.in_ok-found.found = sought.named told leaves written fit in
    let parent : Ref = c.in-Some.parent in
    let child = subst (λ (l : ℕ). Child 32 o.lo low (address_of leaves) (total_of leaves) l above (reference_of parent)) plus (subst (IsRefTo o seen c.args.e.now.series leaves fit.scene (k + 1) above) c.in-Some.is named) in
    let parents : c.made-2.result ≡ made 32 (suc k) n = subst (λ (l : ℕ). c.made-2.result ≡ n / 32 ^ l) plus c.made-2.ensures in
    let few_above : above < made 32 (suc k) n = omega (arith, c.if-above-made.false, parents) in
    let fits : end 32 (suc k) above ≤ fit.scene.known.leaves = omega (arith, end_made 32 (suc k) above n (omega arith) few_above, fit.count_is) in
    let live : IsLive o parent.addr.0 = subst (λ (v : Ordinals). IsLive v parent.addr.0) volumes (c.live.ensures.0 c.if-not-live.false) in
    let alive : low < end 32 (suc k) above = live_node o seen c.args.e.now.series leaves fit.scene (suc k) above parent child live in
    let other = moved o p seen (seen_in p.volumes mid.files) c.args.e.now.series leaves (sym volumes) same fit.scene in
    let up : k + 1 ≡ suc k = omega arith in
    let begun = c.in_ok-begin.ensures in
    let node : List Ref = c.read_refs.new.node in
    let family = subst (λ (l : ℕ). Family 32 o.lo low (address_of leaves) (total_of leaves) l above (map reference_of node)) back
    (subst (λ (v : Ordinals). Family 32 v.lo low (address_of leaves) (total_of leaves) (k + 1 - 1) above (map reference_of node)) volumes
    (begun.family told leaves other (subst (λ (l : ℕ). parent.addr.0 ≡ spot 32 (address_of leaves) l above) (sym up) (child.link.live alive))
    (subst (λ (l : ℕ). low < end 32 l above) (sym up) alive) (subst (λ (l : ℕ). end 32 l above ≤ fit.scene.known.leaves) (sym up) fits))) in
    subst (λ (rs : List Ref). Child 32 o.lo low (address_of leaves) (total_of leaves) k number (reference_of (get_or rs (number - c.in_ok-begin.begin) blank_ref))) (sym c.refs.ensures.refs)
    (child_below o.lo low (address_of leaves) (total_of leaves) k above number (length node) c.in_ok-begin.begin node refl family begun.first refl blank_ref c.if-number-begin.false)

-- ---- What is reached, and why it stops

pub returns-then-number-first-clause-reached : goal.returns-then-number-first-clause-reached
returns-then-number-first-clause-reached g t c told =
    let o = c.args.reach.now.volumes.now in
    let old = g.D.Outside.state c.args.reach.now.disk.now in
    let seen : Seen = seen_in o.volumes old.files in
    let n = c.args.e.now.leaves in
    let v = c.args.e.now.levels.now in
    let series = c.args.e.now.series in
    let k = c.args.level in
    let number = c.args.number in
    let refs : List Ref = c.pending-refs.result.now in
    let len = length refs in
    let long : len ≡ length (pending_at v k) = ap (λ (rs : List Ref). length rs) c.pending-refs.ensures.pending in
    let few : len ≤ digit 32 k n = omega (arith, long, c.requires.lawful.few k c.requires.level) in
    let first = c.made.result - len in
    let first_is : first ≡ made 32 k n - len = ap (λ (y : ℕ). y - len) c.made.ensures in
    let ends : first + len ≡ made 32 k n = level_end n k len first few first_is in
    let from : first ≤ number = c.if-number-first.true in
    let to : number < made 32 k n = c.requires.number in
    let at : first + (number - first) ≡ number = omega (arith, from) in
    subst (λ (j : ℕ). IsReached o seen series n v k j (get_or refs (number - first) blank_ref).addr.0) at
    (reached_at o seen series n v k first (number - first) refs blank_ref (omega (arith, from, to, ends))
    (reached_waits o seen series n v k first refs c.requires.level c.pending-refs.ensures.pending first_is (omega (arith, ends))))

pub returns-in_err-begin-clause-stops : goal.returns-in_err-begin-clause-stops
returns-in_err-begin-clause-stops g t c =
    let o = c.args.reach.now.volumes.now in
    let old = g.D.Outside.state c.args.reach.now.disk.now in
    let seen : Seen = seen_in o.volumes old.files in
    let n = c.args.e.now.leaves in
    let v = c.args.e.now.levels.now in
    let series = c.args.e.now.series in
    let up = c.args.level + 1 in
    let above = c.args.number / 32 in
    let p = c.find.new.reach.volumes.now in
    let mid = g.D.Outside.state c.find.new.reach.disk.now in
    let new = g.D.Outside.state c.read_refs.new.reach.disk.now in
    let other : Seen = seen_in p.volumes mid.files in
    let sought = c.in_ok-found.ensures in
    let volumes : p ≡ o = ap (λ v. v.now) sought.keeps.volumes in
    let parent : Ref = c.in-Some.parent in
    let there = c.in_err-begin.ensures.stops n v
    (λ told. reached_moved o p seen other series n v up above parent.addr.0 (sym volumes) (seen_kept o p old mid volumes (sought.reads.files told))
    (subst (λ (found : Option Ref). IfSome found (λ (r : Ref). IsReached o seen series n v up above r.addr.0)) c.in-Some.is (sought.reached told))) in
    stop_from _ c.from_residual-in_err-begin.result c.in_err-begin.field-0.0 c.from_residual-in_err-begin.ensures.1
    (stop_later o p seen other series n v old mid new c.in_err-begin.field-0.0 volumes (λ told. sym (seen_kept o p old mid volumes (sought.reads.files told))) sought.reads.later there)

pub returns-clause-reached : goal.returns-clause-reached
returns-clause-reached g t c told =
    let o = c.args.reach.now.volumes.now in
    let old = g.D.Outside.state c.args.reach.now.disk.now in
    let seen : Seen = seen_in o.volumes old.files in
    let n = c.args.e.now.leaves in
    let v = c.args.e.now.levels.now in
    let series = c.args.e.now.series in
    let k = c.args.level in
    let number = c.args.number in
    let above = number / 32 in
    let back : k + 1 - 1 ≡ k = omega arith in
    let p = c.find.new.reach.volumes.now in
    let mid = g.D.Outside.state c.find.new.reach.disk.now in
    let other : Seen = seen_in p.volumes mid.files in
    let sought = c.in_ok-found.ensures in
    let begun = c.in_ok-begin.ensures in
    let volumes : p ≡ o = ap (λ v. v.now) sought.keeps.volumes in
    let same = seen_kept o p old mid volumes (sought.reads.files told) in
    let parent : Ref = c.in-Some.parent in
    let node : List Ref = c.read_refs.new.node in
    let begin = c.in_ok-begin.begin in
    let row = begun.reached n v told
    (reached_moved o p seen other series n v (k + 1) above parent.addr.0 (sym volumes) same
    (subst (λ (found : Option Ref). IfSome found (λ (r : Ref). IsReached o seen series n v (k + 1) above r.addr.0)) c.in-Some.is (sought.reached told))) in
    let below : number - begin < length node = omega (arith, begun.first, begun.few, c.if-number-begin.false) in
    let at : begin + (number - begin) ≡ number = omega (arith, c.if-number-begin.false) in
    let here = reached_at p other series n v (k + 1 - 1) begin (number - begin) node blank_ref below row in
    let there = subst (λ (j : ℕ). IsReached p other series n v (k + 1 - 1) j (get_or node (number - begin) blank_ref).addr.0) at here in
    let mine = subst (λ (l : ℕ). IsReached p other series n v l number (get_or node (number - begin) blank_ref).addr.0) back there in
    subst (λ (rs : List Ref). IsReached o seen series n v k number (get_or rs (number - begin) blank_ref).addr.0) (sym c.refs.ensures.refs)
    (reached_moved p o other seen series n v k number (get_or node (number - begin) blank_ref).addr.0 volumes (sym same) mine)

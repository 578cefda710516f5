use Rattle.std.proofs.Common.{◌≡◌, ◌∙◌, suc, ◌-◌, ◌<◌, ◌≤◌, length, Option, sym, ap, subst, arith}
use Rattle.ak_base.specs.declared.stop.Stop.{Stop}
use Rattle.ak_base.specs.declared.stop.Stop.TheVariants.{Disk}
use Rattle.ak_cache.specs.Leaves.{SpellsNone}
use Rattle.ak_scene.proofs.Links.{not_both, leaf_spot, moved, seen_kept, live_node, dead_node}
use Rattle.ak_scene.proofs.InScene.{leaf_points, leaf_spelled}
use Rattle.ak_scene.proofs.Stopped.{leaf_stop, only_disk}
use Rattle.ak_scene.specs.Scenes.{IsReached, IsUnspelled}
use Rattle.ak_repair.proofs.ReadNodes.{none_leaf}
use Rattle.std.specs.Option.{IfSome}
use Rattle.ak_forest.specs.Numbers.{end}
use Rattle.ak_forest.proofs.Arith.{times_one}
use Rattle.ak_image.specs.Blocks.{Seen, seen_in}
use Rattle.ak_inner.specs.declared.reference.Ref.{Ref}
use Rattle.ak_repair.proofs.OnlyReading.{stop_from}
use Rattle.ak_volumes.specs.Ordinals.{Ordinals, IsLive, ordinal_of, file_of}
use Rattle.ak_walk.specs.Places.{IsRefTo}
use Rattle.ak_world.specs.Views.{address_of}
use Rattle.ak_walk.proofs.walking.fetch.Goals as goal

pub returns-in_err-found-clause-sound : goal.returns-in_err-found-clause-sound
returns-in_err-found-clause-sound g c told leaves written fit =
    stop_from (λ (stop : Stop). stop ≡ Disk) c.from_residual.result c.in_err-found.field-0.0 c.from_residual.ensures.1 (c.in_err-found.ensures.sound told leaves written fit)

pub returns-in-None-clause-dead : goal.returns-in-None-clause-dead
returns-in-None-clause-dead g c told leaves written fit not =
    let o = c.args.reach.now.volumes.now in
    let old = g.D.Outside.state c.args.reach.now.disk.now in
    let p = c.find.new.reach.volumes.now in
    let mid = g.D.Outside.state c.find.new.reach.disk.now in
    let series = c.args.e.now.series in
    let number = c.args.number in
    let sought = c.in_ok-found.ensures in
    let volumes : p ≡ o = ap (λ v. v.now) sought.keeps.volumes in
    let seen : Seen = seen_in o.volumes old.files in
    let low = fit.scene.known.leaves - length leaves in
    let one : end 32 0 number ≡ suc number = times_one 32 (suc number) in
    let named : IsRefTo o seen series leaves fit.scene 0 number c.in_ok-found.found = sought.named told leaves written fit in
    let dead : end 32 0 number ≤ low = subst (IsRefTo o seen series leaves fit.scene 0 number) c.in-None.is named in
    omega (arith, one, dead)

pub returns-then-not-live-clause-dead : goal.returns-then-not-live-clause-dead
returns-then-not-live-clause-dead g c told leaves written fit not =
    let o = c.args.reach.now.volumes.now in
    let old = g.D.Outside.state c.args.reach.now.disk.now in
    let p = c.find.new.reach.volumes.now in
    let mid = g.D.Outside.state c.find.new.reach.disk.now in
    let series = c.args.e.now.series in
    let number = c.args.number in
    let sought = c.in_ok-found.ensures in
    let volumes : p ≡ o = ap (λ v. v.now) sought.keeps.volumes in
    let seen : Seen = seen_in o.volumes old.files in
    let low = fit.scene.known.leaves - length leaves in
    let one : end 32 0 number ≡ suc number = times_one 32 (suc number) in
    let named : IsRefTo o seen series leaves fit.scene 0 number c.in_ok-found.found = sought.named told leaves written fit in
    let r : Ref = c.in-Some.r in
    let child = subst (IsRefTo o seen series leaves fit.scene 0 number) c.in-Some.is named in
    let fits : end 32 0 number ≤ fit.scene.known.leaves = omega (arith, one, fit.count_is, c.requires.number) in
    let dead = dead_node o seen series leaves fit.scene 0 number r child fits
    (λ live. not_both c.live.result (c.live.ensures.1 (subst (λ (v : Ordinals). IsLive v r.addr.0) (sym volumes) live)) c.if-not-live.true) in
    omega (arith, one, dead)

pub returns-in_err-leaf-clause-stops : goal.returns-in_err-leaf-clause-stops
returns-in_err-leaf-clause-stops g c =
    let o = c.args.reach.now.volumes.now in
    let old = g.D.Outside.state c.args.reach.now.disk.now in
    let p = c.find.new.reach.volumes.now in
    let mid = g.D.Outside.state c.find.new.reach.disk.now in
    let series = c.args.e.now.series in
    let number = c.args.number in
    let sought = c.in_ok-found.ensures in
    let volumes : p ≡ o = ap (λ v. v.now) sought.keeps.volumes in
    let r : Ref = c.in-Some.r in
    let live : IsLive o r.addr.0 = subst (λ (v : Ordinals). IsLive v r.addr.0) volumes (c.live.ensures.0 c.if-not-live.false) in
    stop_from _ c.from_residual-in_err-leaf.result c.in_err-leaf.field-0.0 c.from_residual-in_err-leaf.ensures.1
    (leaf_stop {P = λ file block. g.D.Outside.tells → IsUnspelled o (seen_in o.volumes old.files) series c.args.e.now.leaves c.args.e.now.levels.now file block} p old mid (g.D.Outside.state c.leaf.new.self.disk.now) r.addr series number c.in_err-leaf.field-0.0 sought.reads
    (λ file block file_is block_is none told. record {
      level = 0;
      number = number;
      at = r.addr.0;
      reached = subst (λ (found : Option Ref). IfSome found (λ (x : Ref). IsReached o (seen_in o.volumes old.files) series c.args.e.now.leaves c.args.e.now.levels.now 0 number x.addr.0)) c.in-Some.is (sought.reached told);
      live = live;
      file_is = file_is ∙ ap (λ (v : Ordinals). file_of v (ordinal_of r.addr.0)) volumes;
      block_is = block_is;
      none = none_leaf (seen_in o.volumes old.files) r.addr series number (subst (λ (v : Ordinals). SpellsNone (seen_in v.volumes old.files r.addr.0) r.addr series number) volumes (none told));
    })
    c.in_err-leaf.ensures.err)

pub returns-in_err-leaf-clause-sound : goal.returns-in_err-leaf-clause-sound
returns-in_err-leaf-clause-sound g c told leaves written fit =
    let o = c.args.reach.now.volumes.now in
    let old = g.D.Outside.state c.args.reach.now.disk.now in
    let p = c.find.new.reach.volumes.now in
    let mid = g.D.Outside.state c.find.new.reach.disk.now in
    let series = c.args.e.now.series in
    let number = c.args.number in
    let sought = c.in_ok-found.ensures in
    let volumes : p ≡ o = ap (λ v. v.now) sought.keeps.volumes in
    let seen : Seen = seen_in o.volumes old.files in
    let low = fit.scene.known.leaves - length leaves in
    let one : end 32 0 number ≡ suc number = times_one 32 (suc number) in
    let named : IsRefTo o seen series leaves fit.scene 0 number c.in_ok-found.found = sought.named told leaves written fit in
    let r : Ref = c.in-Some.r in
    let child = subst (IsRefTo o seen series leaves fit.scene 0 number) c.in-Some.is named in
    let fits : end 32 0 number ≤ fit.scene.known.leaves = omega (arith, one, fit.count_is, c.requires.number) in
    let live : IsLive o r.addr.0 = subst (λ (v : Ordinals). IsLive v r.addr.0) volumes (c.live.ensures.0 c.if-not-live.false) in
    let alive : low < end 32 0 number = live_node o seen series leaves fit.scene 0 number r child live in
    let same = seen_kept o p old mid volumes (sought.reads.files told) in
    let other = moved o p seen (seen_in p.volumes mid.files) series leaves (sym volumes) same fit.scene in
    let at : r.addr.0 ≡ address_of leaves number = child.link.live alive ∙ leaf_spot (address_of leaves) number in
    stop_from (λ (stop : Stop). stop ≡ Disk) c.from_residual-in_err-leaf.result c.in_err-leaf.field-0.0 c.from_residual-in_err-leaf.ensures.1
    (only_disk (λ block. SpellsNone block r.addr series number) p mid (g.D.Outside.state c.leaf.new.self.disk.now) r.addr c.in_err-leaf.field-0.0 told
    (leaf_spelled p (seen_in p.volumes mid.files) series leaves other number r.addr at (omega (arith, one, alive)) (omega (arith, one, fits))) c.in_err-leaf.ensures.err)

pub returns-clause-read : goal.returns-clause-read
returns-clause-read g c told leaves written fit yes_it =
    let o = c.args.reach.now.volumes.now in
    let old = g.D.Outside.state c.args.reach.now.disk.now in
    let p = c.find.new.reach.volumes.now in
    let mid = g.D.Outside.state c.find.new.reach.disk.now in
    let series = c.args.e.now.series in
    let number = c.args.number in
    let sought = c.in_ok-found.ensures in
    let volumes : p ≡ o = ap (λ v. v.now) sought.keeps.volumes in
    let seen : Seen = seen_in o.volumes old.files in
    let low = fit.scene.known.leaves - length leaves in
    let one : end 32 0 number ≡ suc number = times_one 32 (suc number) in
    let named : IsRefTo o seen series leaves fit.scene 0 number c.in_ok-found.found = sought.named told leaves written fit in
    let r : Ref = c.in-Some.r in
    let child = subst (IsRefTo o seen series leaves fit.scene 0 number) c.in-Some.is named in
    let fits : end 32 0 number ≤ fit.scene.known.leaves = omega (arith, one, fit.count_is, c.requires.number) in
    let live : IsLive o r.addr.0 = subst (λ (v : Ordinals). IsLive v r.addr.0) volumes (c.live.ensures.0 c.if-not-live.false) in
    let alive : low < end 32 0 number = live_node o seen series leaves fit.scene 0 number r child live in
    let same = seen_kept o p old mid volumes (sought.reads.files told) in
    let other = moved o p seen (seen_in p.volumes mid.files) series leaves (sym volumes) same fit.scene in
    let at : r.addr.0 ≡ address_of leaves number = child.link.live alive ∙ leaf_spot (address_of leaves) number in
    c.swap.ensures.x_after
    ∙ leaf_points p (seen_in p.volumes mid.files) series leaves other number r.addr c.in_ok-leaf.field-0 c.leaf.new.self.scratch.now at (omega (arith, one, alive)) (omega (arith, one, fits)) (c.in_ok-leaf.ensures.found told)

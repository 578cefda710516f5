use Rattle.std.proofs.Common.{◌≡◌, ◌∙◌, ℕ, suc, ◌-◌, List, [], ◌∷◌, ◌++◌, length, sym, ap, subst, arith, length-append}
use Rattle.std.specs.List.{AllByRecursion}
use Rattle.ak_base.specs.declared.point.Addr.{Addr}
use Rattle.ak_base.specs.declared.point.Point.{Point}
use Rattle.ak_bytes.specs.declared.head.Head.{Head}
use Rattle.ak_cache.specs.Leaves.{SpellsNone}
use Rattle.ak_image.specs.Blocks.{seen_in}
use Rattle.ak_leaf.specs.Leaf.{SpellsLeaf}
use Rattle.ak_meta.specs.Contents.{rescue_at}
use Rattle.ak_repair.proofs.Linked.{IsWalking, walk_on, walk_breaks, all_more}
use Rattle.ak_repair.proofs.OnlyReading.{more_reads, stop_from, leaf_stop, ok_gives}
use Rattle.ak_repair.specs.Walks.{IsBroken}
use Rattle.ak_volumes.specs.Ordinals.{IsLive, ordinal_of, file_of}
use Rattle.ak_repair.proofs.walking.live_leaves.Goals as goal

pub returns-in_err-head-clause-stops : goal.returns-in_err-head-clause-stops
returns-in_err-head-clause-stops g c =
    let o = c.args.reach.now.volumes.now in
    let old = g.D.Outside.state c.args.reach.now.disk.now in
    let mid = g.D.Outside.state c.loop-number.reach.disk.now in
    let a : Addr = c.loop-number.a in
    let first : ℕ = c.loop-number.number - 1 in
    let next : suc first ≡ c.loop-number.number = omega (arith, c.loop-number-test.true) in
    let volumes : c.loop-number.reach.volumes.now ≡ o = ap (λ v. v.now) c.loop-number.invariant.keeps.volumes in
    let live : IsLive o a.0 = subst (λ v. IsLive v a.0) volumes (c.live.ensures.0 c.if-live.true) in
    stop_from _ c.from_residual.result c.in_err-head.field-0.0 c.from_residual.ensures.1
    (leaf_stop {P = λ file block. g.D.Outside.tells → IsBroken (seen_in o.volumes old.files) o c.args.series c.args.known.now.leaves (rescue_at c.args.known.now.rescue 0) file block}
    c.loop-number.reach.volumes.now old mid (g.D.Outside.state c.leaf.new.self.disk.now) a c.args.series first c.in_err-head.field-0.0 c.loop-number.invariant.reads
    (λ file block file_is block_is none told.
    let there : file ≡ file_of o (ordinal_of a.0) = file_is ∙ ap (λ v. file_of v (ordinal_of a.0)) volumes in
    let same : SpellsNone (seen_in o.volumes old.files a.0) a c.args.series first = subst (λ v. SpellsNone (seen_in v.volumes old.files a.0) a c.args.series first) volumes (none told) in
    walk_breaks (seen_in o.volumes old.files) o c.args.series c.args.known.now.leaves (rescue_at c.args.known.now.rescue 0) c.loop-number.number first a c.loop-number.addresses.items file block next live there block_is same
    (c.loop-number.invariant.walking told))
    c.in_err-head.ensures.err)

pub loop-number-preserved : goal.loop-number-preserved
loop-number-preserved g c =
    let so_far = c.loop-number.invariant in
    let read = c.in_ok-head.ensures in
    let o = c.args.reach.now.volumes.now in
    let old = g.D.Outside.state c.args.reach.now.disk.now in
    let a : Addr = c.loop-number.a in
    let head : Head = c.in_ok-head.head in
    let points : List Point = c.leaf.new.self.scratch.now in
    let first : ℕ = c.loop-number.number - 1 in
    let next : suc first ≡ c.loop-number.number = omega (arith, c.loop-number-test.true) in
    let volumes : c.loop-number.reach.volumes.now ≡ o = ap (λ v. v.now) so_far.keeps.volumes in
    let live : IsLive o a.0 = subst (λ v. IsLive v a.0) volumes (c.live.ensures.0 c.if-live.true) in
    let pushed : c.push.new.self.items ≡ c.loop-number.addresses.items ++ a ∷ [] =
    ok_gives {A = List Addr} c.push.result c.push.new.self.items (c.loop-number.addresses.items ++ a ∷ []) c.loop-number.addresses.items (sym c.is_err.ensures.value ∙ c.if-is_err.false) c.push.ensures.items in
    record {
      keeps = record {
        disk = read.keeps.disk ∙ so_far.keeps.disk;
        volumes = read.keeps.volumes ∙ so_far.keeps.volumes;
        cache = read.keeps.cache ∙ so_far.keeps.cache;
        scratch = read.keeps.scratch ∙ so_far.keeps.scratch;
      };
      cache = read.cache ∙ so_far.cache;
      reads = more_reads so_far.reads (record { later = read.later; port_faults = read.port_faults; sizes = read.sizes; files = read.files; writes = read.writes; moments = read.moments });
      count = λ told. omega (arith, so_far.count told, (read.reads told).at_most, next);
      live = subst (AllByRecursion (λ (b : Addr). IsLive o b.0)) (sym pushed) (all_more (λ (b : Addr). IsLive o b.0) c.loop-number.addresses.items a so_far.live live);
      few = omega (arith, ap (λ (all : List Addr). length all) pushed, length-append c.loop-number.addresses.items (a ∷ []), next, so_far.few);
      walking = λ told.
          let there : SpellsLeaf (seen_in c.loop-number.reach.volumes.now.volumes old.files a.0) head points =
          subst (λ files. SpellsLeaf (seen_in c.loop-number.reach.volumes.now.volumes files a.0) head points) (so_far.reads.files told) (read.found told) in
          let here : SpellsLeaf (seen_in o.volumes old.files a.0) head points = subst (λ v. SpellsLeaf (seen_in v.volumes old.files a.0) head points) volumes there in
          let seen = seen_in o.volumes old.files in
          let last = rescue_at c.args.known.now.rescue 0 in
          subst (IsWalking seen o c.args.series c.args.known.now.leaves last first head.elder.0) (sym pushed)
          (walk_on seen o c.args.series c.args.known.now.leaves last c.loop-number.number first a c.loop-number.addresses.items head points next live here
          read.spelled.1.series_is read.spelled.1.number_is read.spelled.1.addr_is (so_far.walking told));
    }

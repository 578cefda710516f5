use Rattle.std.proofs.Common.{◌≡◌, ◌∙◌, ℕ, suc, ◌+◌, ◌-◌, List, ◌++◌, length, take, get_or, sym, ap, ap₂, subst, arith}
use Rattle.std.proofs.lemmas.List.{take_all}
use Rattle.std.specs.List.{flat_map}
use Rattle.ak_base.specs.declared.point.Addr.{Addr}
use Rattle.ak_base.specs.declared.point.Point.{Point}
use Rattle.ak_cache.specs.Leaves.{SpellsNone}
use Rattle.ak_image.specs.Blocks.{seen_in}
use Rattle.ak_leaf.specs.Leaf.{SpellsLeaf}
use Rattle.ak_meta.specs.Contents.{rescue_at}
use Rattle.ak_repair.specs.Walks.{AreWalked}
use Rattle.ak_repair.proofs.OnlyReading.{more_reads, stop_from, leaf_stop, on_ok}
use Rattle.ak_repair.proofs.Linked.{placed_in, number_in, placed_points, placed_spells, length_back}
use Rattle.ak_node.proofs.RowsOf.{no_shorter, rows_more}
use Rattle.ak_run.specs.Replies.{row_text}
use Rattle.ak_world.specs.Leaves.{Leaf, points_of}
use Rattle.ak_node.proofs.rows.write_leaves.Goals as goal

pub returns-in_err-leaf-clause-stops : goal.returns-in_err-leaf-clause-stops
returns-in_err-leaf-clause-stops g c =
    let o = c.args.reach.now.volumes.now in
    let old = g.D.Outside.state c.args.reach.now.disk.now in
    let mid = g.D.Outside.state c.loop-i.reach.disk.now in
    let i = c.loop-i.i in
    let back : ℕ = length c.args.addresses.now - 1 - i in
    let place : back + suc i ≡ length c.args.addresses.now = omega (arith, c.loop-i-test.true) in
    let a : Addr = get_or c.args.addresses.now back (record { 0 = 0 }) in
    let volumes : c.loop-i.reach.volumes.now ≡ o = ap (λ v. v.now) c.loop-i.invariant.keeps.volumes in
    stop_from _ c.from_residual.result c.in_err-leaf.field-0.0 c.from_residual.ensures.1
    (leaf_stop {P = λ file block. g.D.Outside.tells → AreWalked (seen_in o.volumes old.files) o c.args.series c.args.known.now.leaves (rescue_at c.args.known.now.rescue 0) c.args.addresses.now → ⊥}
    c.loop-i.reach.volumes.now old mid (g.D.Outside.state c.leaf.new.self.disk.now) a c.args.series (c.args.known.now.leaves - 1 - back) c.in_err-leaf.field-0.0 c.loop-i.invariant.reads
    (λ file block file_is block_is none told walked.
    let same : SpellsNone (seen_in o.volumes old.files a.0) a c.args.series (c.args.known.now.leaves - 1 - back) =
    subst (λ v. SpellsNone (seen_in v.volumes old.files a.0) a c.args.series (c.args.known.now.leaves - 1 - back)) volumes (none told) in
    placed_spells (c.args.known.now.leaves - 1 - back) (number_in walked i back place) (placed_in walked i back (record { 0 = 0 }) place) same)
    c.in_err-leaf.ensures.err)

pub loop-i-preserved : goal.loop-i-preserved
loop-i-preserved g c =
    let so_far = c.loop-i.invariant in
    let read = c.in_ok-leaf.ensures in
    let o = c.args.reach.now.volumes.now in
    let old = g.D.Outside.state c.args.reach.now.disk.now in
    let mid = g.D.Outside.state c.loop-i.reach.disk.now in
    let i = c.loop-i.i in
    let back : ℕ = length c.args.addresses.now - 1 - i in
    let place : back + suc i ≡ length c.args.addresses.now = omega (arith, c.loop-i-test.true) in
    let a : Addr = get_or c.args.addresses.now back (record { 0 = 0 }) in
    let volumes : c.loop-i.reach.volumes.now ≡ o = ap (λ v. v.now) so_far.keeps.volumes in
    let added = flat_map (row_text c.args.scale c.as_bytes-name.result.now) c.points.result.now in
    let wrote : c.write_rows.new.text ≡ c.loop-i.text ++ added = on_ok c.write_rows.result (sym c.is_err.ensures.value ∙ c.if-is_err.false) c.write_rows.ensures in
    record {
      keeps = record {
        disk = read.keeps.disk ∙ so_far.keeps.disk;
        volumes = read.keeps.volumes ∙ so_far.keeps.volumes;
        cache = read.keeps.cache ∙ so_far.keeps.cache;
        scratch = read.keeps.scratch ∙ so_far.keeps.scratch;
      };
      cache = read.cache ∙ so_far.cache;
      reads = more_reads so_far.reads (record { later = read.later; port_faults = read.port_faults; sizes = read.sizes; files = read.files; writes = read.writes; moments = read.moments });
      longer = no_shorter c.args.text.now c.loop-i.text added c.write_rows.new.text wrote so_far.longer;
      rows = λ told walked.
          let f = row_text c.args.scale c.args.known.now.name in
          let p = placed_in walked i back (record { 0 = 0 }) place in
          let there : SpellsLeaf (seen_in c.loop-i.reach.volumes.now.volumes old.files a.0) c.in_ok-leaf.field-0 c.leaf.new.self.scratch.now =
          subst (λ files. SpellsLeaf (seen_in c.loop-i.reach.volumes.now.volumes files a.0) c.in_ok-leaf.field-0 c.leaf.new.self.scratch.now) (so_far.reads.files told) (read.found told) in
          let here : SpellsLeaf (seen_in o.volumes old.files a.0) c.in_ok-leaf.field-0 c.leaf.new.self.scratch.now =
          subst (λ v. SpellsLeaf (seen_in v.volumes old.files a.0) c.in_ok-leaf.field-0 c.leaf.new.self.scratch.now) volumes there in
          let points : c.points.result.now ≡ p.leaf.points = c.points.ensures.points ∙ placed_points c.in_ok-leaf.field-0 c.leaf.new.self.scratch.now p here in
          let name : c.as_bytes-name.result.now ≡ c.args.known.now.name = c.as_bytes-name.ensures.value ∙ c.as_str.ensures.value in
          wrote
          ∙ ap₂ (λ (n : List ℕ) (ps : List Point). c.loop-i.text ++ flat_map (row_text c.args.scale n) ps) name points
          ∙ rows_more f walked.leaves p.leaf i c.loop-i.text c.args.text.now p.more (so_far.rows told walked);
    }

pub returns-clause-rows : goal.returns-clause-rows
returns-clause-rows g c told walked =
    let long : length c.args.addresses.now ≡ length walked.leaves = ap (λ (all : List Addr). length all) walked.addresses_are ∙ length_back walked.leaves in
    let all : take c.loop-i.i walked.leaves ≡ walked.leaves = take_all c.loop-i.i walked.leaves (omega (arith, long)) in
    c.loop-i.invariant.rows told walked ∙ ap (λ (leaves : List Leaf). c.args.text.now ++ flat_map (row_text c.args.scale c.args.known.now.name) (points_of leaves)) all

pub returns-then-is_err-clause-reads : goal.returns-then-is_err-clause-reads
returns-then-is_err-clause-reads g c =
    let read = c.in_ok-leaf.ensures in
    more_reads c.loop-i.invariant.reads (record { later = read.later; port_faults = read.port_faults; sizes = read.sizes; files = read.files; writes = read.writes; moments = read.moments })

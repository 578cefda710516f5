use Rattle.std.proofs.Common.{◌≡◌, ◌+◌, ◌-◌, ◌≤◌, ◌<◌, ◌∙◌, ℕ, inl, inr, List, ap, arith, length, slice_index, sym, subst}
use Rattle.std.proofs.lemmas.Bool.{cases_lt}
use Rattle.std.proofs.lemmas.List.{length-map}
use Rattle.ak_host.specs.Files.{file_at, with_item, zero_blocks}
use Rattle.ak_host.proofs.Passing.{disk_goes_on, disk_now}
use Rattle.ak_checkpoint.proofs.Sizes.{sizes_to, sizes_next}
use Rattle.ak_checkpoint.proofs.Stores.{with_item-past, with_item-same, with_item-other, with_item-kept, made_behind, empty_more, all_empty}
use Rattle.ak_checkpoint.proofs.making.make_volumes.Goals as goal

pub loop-file-preserved : goal.loop-file-preserved
loop-file-preserved g c =
    let so_far = c.loop-file.invariant in
    let sizes = (g.D.Outside.state c.loop-file.disk).sizes in
    let file = c.loop-file.file in
    let blocks = c.args.limits.now.blocks in
    let made = c.in_default.ensures.sizes in
    let at = λ (k : ℕ). ap (λ (l : List ℕ). slice_index l k) made in
    let behind : 0 < file = omega arith in
    let old = g.D.Outside.state c.args.disk.now in
    let mid = g.D.Outside.state c.loop-file.disk in
    record {
      number = omega (arith, ap length made, with_item-past sizes file blocks so_far.number);
      first = at 0 ∙ with_item-other sizes file blocks 0 so_far.number (omega arith) ∙ so_far.first;
      volumes = λ k least most. elim (cases_lt k file) [
        | inl before ↦ at k ∙ with_item-other sizes file blocks k so_far.number before ∙ so_far.volumes k least before
        | inr past ↦
            let same : k ≡ file = omega arith in
            at k ∙ ap (λ i. slice_index (with_item sizes file blocks) i) same ∙ with_item-same sizes file blocks so_far.number
      ];
      sizes =
          let start = (g.D.Outside.state c.args.disk.now).sizes in
          let here : 1 + (file - 1) ≡ file = omega (arith, behind) in
          let next : file - 1 + 1 ≡ file + 1 - 1 = omega (arith, behind) in
          made ∙ ap (λ (l : List ℕ). with_item l file blocks) so_far.sizes
          ∙ ap (λ (k : ℕ). with_item (sizes_to start blocks (file - 1)) k blocks) (sym here)
          ∙ sizes_next start blocks (file - 1) c.requires.there ∙ ap (sizes_to start blocks) next;
      later = omega (arith, so_far.later, c.make.ensures.cause.later);
      port_faults = c.make.ensures.port_faults ∙ so_far.port_faults;
      same = λ told. ap (λ files. file_at files 0) (c.in_default.ensures.files told)
          ∙ with_item-kept mid.files file 0 (zero_blocks blocks) behind (subst (λ f. 0 < length f) (sym (so_far.same told)) (c.requires.some told)) ∙ so_far.same told;
      empty = λ told.
          let many : file ≤ length mid.files = omega (arith, so_far.number, ap length (g.met.D.Disk.sized told c.loop-file.disk), length-map mid.files (length {A = List ℕ})) in
          empty_more file blocks mid (g.D.Outside.state c.make.new.self) (omega (arith, c.requires.limits.blocks_least)) many (c.in_default.ensures.files told) (c.in_default.ensures.stable told)
          (c.make.ensures.moments told) (so_far.empty told);
      moments = λ told. disk_goes_on (so_far.moments told) (c.make.ensures.moments told) (λ disk follows.
          let is = disk_now (so_far.moments told) (c.requires.stable told) follows.0 follows.1 in
          made_behind 0 file blocks follows.0 disk behind (subst (λ f. 0 < length f) (sym is) (c.requires.some told)) follows.2 ∙ is);
    }

pub returns-clause-empty : goal.returns-clause-empty
returns-clause-empty g c told = all_empty c.args.limits.now (g.D.Outside.state c.loop-file.disk) c.loop-file.file (omega arith) (c.loop-file.invariant.empty told)

pub returns-clause-sizes : goal.returns-clause-sizes
returns-clause-sizes g c =
    let all : c.loop-file.file - 1 ≡ c.args.limits.now.volumes = omega arith in
    c.loop-file.invariant.sizes ∙ ap (sizes_to (g.D.Outside.state c.args.disk.now).sizes c.args.limits.now.blocks) all

pub returns-in-Err-clause-moments : goal.returns-in-Err-clause-moments
returns-in-Err-clause-moments g c told =
    let so_far = c.loop-file.invariant in
    let file = c.loop-file.file in
    let behind : 0 < file = omega arith in
    disk_goes_on (so_far.moments told) (c.make.ensures.moments told) (λ disk follows.
    let is = disk_now (so_far.moments told) (c.requires.stable told) follows.0 follows.1 in
    made_behind 0 file c.args.limits.now.blocks follows.0 disk behind (subst (λ f. 0 < length f) (sym is) (c.requires.some told)) follows.2 ∙ is)

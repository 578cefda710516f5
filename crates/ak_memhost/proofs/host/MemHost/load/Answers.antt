use Rattle.std.proofs.Common.{◌≡◌, ◌∙◌, List, All, length, arith, sym, subst, ap}
use Rattle.ak_host.specs.Files.{AreBlocks, IsBlock}
use Rattle.ak_memhost.specs.Turns.{IsMemTurn}
use Rattle.std.proofs.lemmas.List.Elements.{All-nil}
use Rattle.ak_memhost.specs.State.{WriteBlocks, block_of}
use Rattle.ak_memhost.specs.declared.call.Call.{Call}
use Rattle.ak_memhost.specs.Drive.{Drive, IsImage, contents}
use Rattle.ak_memhost.specs.Record.{start, after}
use Rattle.ak_memhost.specs.Laws.{left_now, after_blocks}
use Rattle.ak_memhost.proofs.Recorded.{no_calls_image, no_calls_current, now_left}
use Rattle.ak_memhost.proofs.host.MemHost.load.Goals as goal

pub returns-clause-left : goal.returns-clause-left
returns-clause-left c disk =
    let host = c.args.self.now in
    let base_is = c.in_ok-base.ensures ∙ c.deref.ensures.value ∙ host.current.files_are in (
      λ left. left_now host.turns.items (start host.base.items) host.calls.items host.disk_faults host.port_faults disk
          (no_calls_image c.in_ok-turns.turns.items c.in_ok-base.base.items _ c.new.result.items 0 0 disk c.new.ensures.items base_is left),
      λ left. left_now c.in_ok-turns.turns.items (start c.in_ok-base.base.items) c.new.result.items 0 0 disk
          (subst (λ d. IsImage d disk) (sym (ap (λ (l : List Call). (after c.in_ok-turns.turns.items (start c.in_ok-base.base.items) l).drive) c.new.ensures.items ∙ base_is))
          (now_left host.turns.items (start host.base.items) host.calls.items host.disk_faults host.port_faults disk left)),
    )

pub invariant_of-self : goal.invariant_of-self
invariant_of-self c =
    let host = c.args.self.now in
    let same : c.in_ok-base.base.items ≡ host.files.items = c.in_ok-base.ensures ∙ c.deref.ensures.value in
    record {
      current = no_calls_current c.in_ok-turns.turns.items c.in_ok-base.base.items host.files.items c.new.result.items c.new-2.result c.new.ensures.items c.new-2.ensures (sym same);
      base_blocks = subst (λ (b : Drive). AreBlocks (contents b)) (sym (same ∙ host.current.files_are)) (after_blocks host.turns.items (start host.base.items) host.calls.items host.base_blocks host.written);
      written = subst WriteBlocks (sym c.new.ensures.items) (All-nil (λ call. IsBlock (block_of call)));
      few_calls = omega (arith, ap length c.new.ensures.items);
      valid = subst (All IsMemTurn) (sym c.in_ok-turns.ensures) c.requires;
      few_files = host.few_files;
      few_blocks = host.few_blocks;
    }

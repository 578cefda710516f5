use Rattle.std.proofs.Common.{◌<◌, ◌∙◌, ◌++◌, ◌∷◌, [], length, false, ap, subst, arith, slice_index_or}
use Rattle.std.proofs.lemmas.List.{get_or_default, take_all}
use Rattle.ak_memhost.specs.declared.drive.Cell.{Cell}
use Rattle.ak_memhost.specs.Drive.{IsFileImage, file_contents}
use Rattle.ak_memhost.proofs.Tears.{torn_cells_more, file_image_more}
use Rattle.ak_memhost.proofs.drive.torn_copy.Goals as goal

pub loop-index-preserved : goal.loop-index-preserved
loop-index-preserved c =
    let none : Cell = record { block = []; synced = false } in
    let cells = c.args.cells.now in
    let index = c.loop-index.index in
    let cell = slice_index_or cells index none in
    let within : index < length cells = omega arith in
    record {
      is = torn_cells_more c.args.tears.now c.args.file cells index c.loop-index.out.items _ cell within c.loop-index.invariant.is (get_or_default cells index none cell within)
          (c.in_ok-push.ensures.items ∙ ap (λ x. c.loop-index.out.items ++ x ∷ []) c.torn_cell.ensures.torn);
      allowed = file_image_more cells index c.loop-index.out.items _ cell c.torn_cell.result within c.loop-index.invariant.allowed (get_or_default cells index none cell within)
          c.torn_cell.ensures.allowed c.in_ok-push.ensures.items;
    }

pub returns-clause-allowed : goal.returns-clause-allowed
returns-clause-allowed c = subst (λ cells. IsFileImage cells (file_contents c.loop-index.out.items)) (take_all c.loop-index.index c.args.cells.now (omega arith)) c.loop-index.invariant.allowed

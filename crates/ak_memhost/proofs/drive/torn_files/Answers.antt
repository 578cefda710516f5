use Rattle.std.proofs.Common.{◌∙◌, ◌++◌, ◌∷◌, [], ap, subst, arith}
use Rattle.std.proofs.lemmas.List.{take_all}
use Rattle.ak_memhost.specs.Drive.{IsImage, contents}
use Rattle.ak_memhost.proofs.Tears.{torn_more, image_more}
use Rattle.ak_memhost.proofs.drive.torn_files.Goals as goal

pub loop-number-preserved : goal.loop-number-preserved
loop-number-preserved c = record {
  is = torn_more c.args.tears.now c.args.files.now c.loop-number.number c.loop-number.out.items _ c.index-files-number.result (omega arith) c.loop-number.invariant.is c.index-files-number.is
      (c.in_ok-push.ensures.items ∙ ap (λ x. c.loop-number.out.items ++ x ∷ []) c.in_ok-torn.ensures.torn);
  allowed = image_more c.args.files.now c.loop-number.number c.loop-number.out.items _ c.index-files-number.result _ (omega arith) c.loop-number.invariant.allowed c.index-files-number.is
      c.in_ok-torn.ensures.allowed c.in_ok-push.ensures.items;
}

pub returns-clause-allowed : goal.returns-clause-allowed
returns-clause-allowed c = subst (λ drive. IsImage drive (contents c.loop-number.out.items)) (take_all c.loop-number.number c.args.files.now (omega arith)) c.loop-number.invariant.allowed

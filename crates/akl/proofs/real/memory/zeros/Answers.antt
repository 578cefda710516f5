use Rattle.std.proofs.Common.{◌∙◌, ◌++◌, [], ◌∷◌, ap}
use Rattle.std.proofs.lemmas.List.{replicate_more}
use Rattle.ak_host.specs.Files.{zero_block}
use Rattle.akl.proofs.real.memory.zeros.Goals as goal

pub loop-made-preserved : goal.loop-made-preserved
unfolding zero_block
loop-made-preserved c = c.in_ok-push.ensures.items ∙ ap (λ l. l ++ zero_block ∷ []) c.loop-made.invariant ∙ replicate_more c.loop-made._made zero_block

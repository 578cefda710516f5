use Rattle.std.proofs.Common.{◌∷◌, [], ℤ, Err, ap, subst, ◌∙◌}
use Rattle.ak_run.specs.declared.asked.Asked.TheVariants.{Points}
use Rattle.ak_run.specs.Asking.{Asks}
use Rattle.ak_run.proofs.Known.{put_known, put_bad, put_counts}
use Rattle.ak_run.proofs.Valued.{value_back}
use Rattle.ak_run.proofs.asking.ask_known.Goals as goal

pub returns-in_default-clause-none : goal.returns-in_default-clause-none
returns-in_default-clause-none c name m named is = put_counts c.args.put.now m is c.args.scale name named (c.in_default.ensures is.parts is.values)

pub returns-in-Ok-clause-some : goal.returns-in-Ok-clause-some
returns-in-Ok-clause-some c name m named is =
    let v = c.in-Ok.value in
    let read = (c.read_value.ensures.ok v).0 c.in-Ok.is in
    let text = c.in-Some.ensures is.parts is.values in
    subst (λ (w : ℤ). Asks c.args.scale m (Points (name ∷ []) c.args.put.now.ts (w ∷ []))) (value_back v read.1)
    (put_known c.args.put.now m is c.args.scale c.requires.timed name c.in-Some.text.now v named text read.0 read.1)

pub returns-in-Err-clause-none : goal.returns-in-Err-clause-none
returns-in-Err-clause-none c name m named is =
    let e = c.in-Err._refusal in
    let text = c.in-Some.ensures is.parts is.values in
    put_bad c.args.put.now m is c.args.scale c.requires.timed name c.in-Some.text.now e named text c.in-Err.ensures.errors
    (λ h. c.read_value.ensures.bad.0 (c.in-Err.is ∙ ap Err h)) (λ h. c.read_value.ensures.range.0 (c.in-Err.is ∙ ap Err h))

use Rattle.std.proofs.Common.{◌≡◌, ◌++◌, ◌∷◌, [], inl, ℤ, Err, ap, sym, subst, ◌∙◌}
use Rattle.ak_base.specs.declared.refusal.Refusal.TheVariants.{BadValue}
use Rattle.ak_base.specs.Values.{ReadsValue}
use Rattle.ak_run.proofs.Valued.{is_bad, value_back, value_more, range_more, no_values}
use Rattle.ak_run.proofs.values.read_values.Goals as goal
use Rattle.ak_run.proofs.values.read_values.Goals.{in-Ok+in_ok-push-in-Ok, in-Err+in-ValueRange}

pub returns-in_default : goal.returns-in_default
returns-in_default c =
    let bad : c.in-Err.refusal ≡ BadValue = is_bad c.in-Err.refusal c.in-Err.ensures.errors c.in_default.not-ValueRange in
    let never : (v : ℤ) → ¬ (ReadsValue c.text-item.result.bytes c.args.scale v) = subst (λ t. (v : ℤ) → ¬ (ReadsValue t c.args.scale v)) c.as_slice.ensures (c.read_value.ensures.bad.0 (c.in-Err.is ∙ ap Err bad)) in
    inl (bad, no_values (λ v. v.bytes) c.args.texts.now c.loop-text.text-index c.text-item.result c.args.scale c.loop-text-test.true c.text-item.is never)

pub loop-text-preserved : goal.loop-text-preserved
loop-text-preserved c =
    let item = c.text-item.result in
    let scale = c.args.scale in
    elim c.match-read_value.branch [
      | in-Ok+in_ok-push-in-Ok w ↦ (
          let v = w.in-Ok.value in
          let read = (c.read_value.ensures.ok v).0 w.in-Ok.is in
          let reads : ReadsValue item.bytes scale v = subst (λ t. ReadsValue t scale v) c.as_slice.ensures read.0 in
          let pushed : c.loop-text.values ++ v ∷ [] ≡ w.push.new.self = ap (λ x. c.loop-text.values ++ x ∷ []) (value_back v read.1) ∙ sym w.in_ok-push-in-Ok.ensures.ok in
          rw (w.values-is, w.in_range-is, ← pushed) (record { stands = value_more (λ p. p.bytes) c.args.texts.now c.loop-text.text-index item scale c.loop-text.in_range c.loop-text.values v c.loop-text-test.true c.text-item.is c.loop-text.invariant.stands reads read.1 })
          )
      | in-Err+in-ValueRange w ↦ (
          let read = c.read_value.ensures.range.0 (w.in-Err.is ∙ ap Err w.in-ValueRange.is) in
          let reads : ReadsValue item.bytes scale read.0 = subst (λ t. ReadsValue t scale read.0) c.as_slice.ensures read.1 in
          rw (w.values-is, w.in_range-is) (record { stands = range_more (λ p. p.bytes) c.args.texts.now c.loop-text.text-index item scale c.loop-text.in_range c.loop-text.values read.0 c.loop-text-test.true c.text-item.is c.loop-text.invariant.stands reads read.2 })
          )
    ]

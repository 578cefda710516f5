use Rattle.std.proofs.Common.{◌≡◌, ◌∙◌, sym, ap}
use Rattle.jiff_core.specs.declared.civil.datetime.DateTime.{DateTime}
use Rattle.ak_time.proofs.Moments.{moment-shown}
use Rattle.ak_time.proofs.civil.parts_at.Goals as goal

pub returns-clause-moment : goal.returns-clause-moment
returns-clause-moment c =
    let plain : c.to_plain-plain.result ≡ c.datetime_at-dt.result = c.to_plain-plain.ensures in
    sym (moment-shown c.datetime_at-dt.result _ (sym c.year_of.ensures)
    (ap (λ (d : DateTime). d.date.month) (sym plain)) (ap (λ (d : DateTime). d.date.day) (sym plain))
    (ap (λ (d : DateTime). d.time.hour) (sym plain)) (ap (λ (d : DateTime). d.time.minute) (sym plain))
    (ap (λ (d : DateTime). d.time.second) (sym plain)) (ap (λ (d : DateTime). d.time.subsec_nanosecond) (sym plain)))
    ∙ c.datetime_at-dt.ensures

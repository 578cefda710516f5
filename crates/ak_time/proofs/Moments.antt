-- Moments and what a clock shows.
use Rattle.std.proofs.Common.{◌≡◌, refl, arith, pos, ◌<ℤ◌, ◌≤ℤ◌}
use Rattle.jiff_core.specs.declared.civil.datetime.DateTime.{DateTime}
use Rattle.jiff_core.specs.DateTime.{civil_nanos}
use Rattle.jiff_core.proofs.SignedLemmas.{signed_arith}
use Rattle.jiff_core.proofs.CalendarLemmas.{day_count-epoch, day_count-lt_year, days_from_civil-day_count}
use Rattle.jiff_core.proofs.DateLemmas.{civil}
use Rattle.jiff_core.proofs.DateTimeLemmas.{civil_nanos-parts, time_nanos_bound}
use Rattle.ak_time.specs.declared.civil.Parts.{Parts}
use Rattle.ak_time.specs.Calendar.{moment}

-- a datetime and what it shows
pub moment-shown : (dt : DateTime) (s : Parts) → dt.date.year ≡ pos s.year → dt.date.month ≡ s.month → dt.date.day ≡ s.day
    → dt.time.hour ≡ s.hour → dt.time.minute ≡ s.minute → dt.time.second ≡ s.second → dt.time.subsec_nanosecond ≡ s.nanos
    → civil_nanos dt ≡ moment s
unfolding civil_nanos moment
moment-shown dt s y mo d h mi se n = rw (y, mo, d, h, mi, se, n) refl

-- no moment from 1970 on has a year before it
pub no_year_before : (dt : DateTime) → pos 0 ≤ℤ civil_nanos dt → dt.date.year <ℤ pos 1970 → ⊥
no_year_before dt h early =
    let later = day_count-lt_year dt.date.year dt.date.month dt.date.day (pos 1970) 1 1 (civil dt.date) (omega arith) early in
    omega (arith, signed_arith, later, day_count-epoch, days_from_civil-day_count dt.date.year dt.date.month dt.date.day, civil_nanos-parts dt, time_nanos_bound dt.time)

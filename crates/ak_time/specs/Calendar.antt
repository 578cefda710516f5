-- What a text of a date and a time shows, over the calendar of the ported crate.
use Rattle.std.specs.Prelude.{◌+◌, ◌*◌, ℤ, pos, ◌+ℤ◌, ◌*ℤ◌}
use Rattle.jiff_core.specs.Calendar.{IsDate, days_from_civil}
use Rattle.jiff_core.specs.Time.{IsTime}
use Rattle.ak_time.specs.declared.civil.Parts.{Parts}

-- the calendar has the date, and a clock shows the time
abbrev pub IsShown : Parts → Type 0
IsShown p = IsDate (pos p.year) (pos p.month) (pos p.day) × IsTime (pos p.hour) (pos p.minute) (pos p.second) (pos p.nanos)

-- nanoseconds since the beginning of 1970 in UTC
unfoldable pub moment : Parts → ℤ
moment p = days_from_civil (pos p.year) p.month p.day *ℤ pos 86_400_000_000_000
    +ℤ pos ((p.hour * 3600 + p.minute * 60 + p.second) * 1_000_000_000 + p.nanos)

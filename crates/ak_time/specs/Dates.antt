-- The text of a moment: a date and a time of day in UTC.
use Rattle.std.specs.Prelude.{ℕ, zero, suc, ◌+◌, ◌-◌, ◌/◌, ◌%◌, nat_lt, if◌then◌else◌, pos, List, ◌∷◌, ◌++◌}
use Rattle.jiff_core.specs.Calendar.{days_in_year, days_in_month}
use Rattle.ak_base.specs.RowTexts.{padded}
use Rattle.ak_time.specs.declared.civil.Parts.{Parts}

-- The year that has the day so many days behind the first of a year, and how many days of it lie before that day. So many
-- years are looked at, the first of them first.
unfoldable pub year_from : ℕ → ℕ → ℕ → ℕ × ℕ
year_from zero year day = (year, day)
year_from (suc more) year day = if nat_lt day (days_in_year (pos year)) then (year, day)
    else year_from more (year + 1) (day - days_in_year (pos year))

-- The same of the months of a year.
unfoldable pub month_from : ℕ → ℕ → ℕ → ℕ → ℕ × ℕ
month_from zero year month day = (month, day)
month_from (suc more) year month day = if nat_lt day (days_in_month (pos year) month) then (month, day)
    else month_from more year (month + 1) (day - days_in_month (pos year) month)

-- A moment is in one of the 585 years from 1970 on.
abbrev pub year_at : ℕ → ℕ × ℕ
year_at ts = year_from 585 1970 (ts / 86_400_000_000_000)

abbrev pub month_at : ℕ → ℕ × ℕ
month_at ts = month_from 12 (year_at ts).0 1 (year_at ts).1

-- what a clock in UTC shows at a moment
unfoldable pub shown_at : ℕ → Parts
shown_at ts = record {
  year = (year_at ts).0;
  month = (month_at ts).0;
  day = (month_at ts).1 + 1;
  hour = ts / 3_600_000_000_000 % 24;
  minute = ts / 60_000_000_000 % 60;
  second = ts / 1_000_000_000 % 60;
  nanos = ts % 1_000_000_000;
}

-- four digits of the year, two of each other part and nine of the fraction
abbrev pub text_of_parts : Parts → List ℕ
text_of_parts p = padded 4 p.year ++ (padded 2 p.month ++ (padded 2 p.day ++ (84 ∷ (padded 2 p.hour
    ++ (padded 2 p.minute ++ (padded 2 p.second ++ (46 ∷ padded 9 p.nanos)))))))

-- as `20141210T074343.999999999`
unfoldable pub iso_text : ℕ → List ℕ
iso_text ts = text_of_parts (shown_at ts)

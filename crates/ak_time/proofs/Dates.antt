-- The text of a moment has 25 bytes, shows a date and a time, and reads as the moment.
use Rattle.std.proofs.Common.{◌≡◌, ℕ, zero, suc, ◌+◌, ◌-◌, ◌*◌, ◌/◌, ◌%◌, ◌^◌, ◌<◌, ◌≤◌, nat_lt, true, false, inl, inr, if◌then◌else◌, ℤ, pos, ◌+ℤ◌, ◌*ℤ◌, ◌≤ℤ◌, unsigned_abs, get_or, List, ◌∷◌, ◌++◌, length, replicate, refl, sym, ap, subst, ◌∙◌, arith, length-append}
use Rattle.std.specs.Fmt.{decimal}
use Rattle.std.specs.Str.Parse.{AllDigits, IsNumeral, digits_value}
use Rattle.std.proofs.Math.Nat.{div-div-eq-div-mul}
use Rattle.std.proofs.lemmas.Bool.{cases_Bool}
use Rattle.std.proofs.lemmas.Bool.Decides.{nat_tests}
use Rattle.std.proofs.lemmas.Fmt.{decimal_is_IsNumeral, length-decimal-le}
use Rattle.std.proofs.lemmas.List.{length-replicate}
use Rattle.jiff_core.specs.Calendar.{days_in_year, days_in_month, day_count, days_from_civil}
use Rattle.jiff_core.proofs.SignedLemmas.{signed_arith}
use Rattle.jiff_core.proofs.CalendarLemmas.{day_count-epoch, days_from_civil-day_count, days_in_month_bounds, days_in_year_bounds, days_of_months_all, day_count-day_of_year, day_count-next_year, day_count-day, day_count-next_month}
use Rattle.ak_base.specs.RowTexts.{padded}
use Rattle.ak_time.specs.declared.civil.Parts.{Parts}
use Rattle.ak_time.specs.Calendar.{IsShown, moment}
use Rattle.ak_time.specs.Times.{IsCivilText, IsCivilTime, ReadsTime, parts_of}
use Rattle.ak_time.specs.Dates.{year_from, month_from, year_at, month_at, shown_at, text_of_parts, iso_text}
use Rattle.ak_time.proofs.Shapes.{two_bytes, four_bytes, nine_bytes, built, built_shows}

-- ---- The year and the month

under : (a b : ℕ) → nat_lt a b ≡ true → a < b
under a b is = grind (arith, nat_tests)

from : (a b : ℕ) → nat_lt a b ≡ false → b ≤ a
from a b is = grind (arith, nat_tests)

record HasDay (year day most : ℕ) (found : ℕ × ℕ) : Type 0 where
  later : year ≤ found.0
  early : found.0 ≤ most
  inside : found.1 < days_in_year (pos found.0)
  counted : day_count (pos found.0) 1 1 + found.1 ≡ day_count (pos year) 1 1 + day

next_year : (year : ℕ) → day_count (pos (year + 1)) 1 1 ≡ day_count (pos year) 1 1 + days_in_year (pos year)
next_year year = day_count-next_year (pos year) (pos (year + 1)) (omega (arith, signed_arith)) (omega (arith, signed_arith))

skip_year : (year day days most : ℕ) (found : ℕ × ℕ) → days ≤ day → day_count (pos (year + 1)) 1 1 ≡ day_count (pos year) 1 1 + days
    → HasDay (year + 1) (day - days) most found → HasDay year day most found
skip_year year day days most found many next h = record {
  later = omega (arith, h.later);
  early = h.early;
  inside = h.inside;
  counted = omega (arith, h.counted, next, many);
}

fewer : (day days more : ℕ) → 365 ≤ days → days ≤ day → day < 365 * suc more → day - days < 365 * more
fewer day days more low many h = omega arith

year_found : (more year day : ℕ) → day < 365 * more → HasDay year day (year + more) (year_from more year day)
unfolding year_from
year_found zero year day h = absurd (omega arith)
year_found (suc more) year day h =
    let days : ℕ = days_in_year (pos year) in
    elim (cases_Bool (nat_lt day days)) [
      | inl is ↦ subst (λ b. HasDay year day (year + suc more) (if b then (year, day) else year_from more (year + 1) (day - days))) (sym is)
          (record { later = omega arith; early = omega arith; inside = under day days is; counted = refl })
      | inr is ↦ subst (λ b. HasDay year day (year + suc more) (if b then (year, day) else year_from more (year + 1) (day - days))) (sym is)
          (let most : year + 1 + more ≡ year + suc more = omega arith in
          skip_year year day days (year + suc more) (year_from more (year + 1) (day - days)) (from day days is) (next_year year)
          (subst (λ (most : ℕ). HasDay (year + 1) (day - days) most (year_from more (year + 1) (day - days))) most
          (year_found more (year + 1) (day - days) (fewer day days more (days_in_year_bounds (pos year)).1 (from day days is) h))))
    ]

record HasDate (year month day : ℕ) (found : ℕ × ℕ) : Type 0 where
  first : month ≤ found.0
  last : found.0 ≤ 12
  inside : found.1 < days_in_month (pos year) found.0
  counted : day_count (pos year) found.0 1 + found.1 ≡ day_count (pos year) month 1 + day

skip_month : (year month day days : ℕ) (found : ℕ × ℕ) → days ≤ day → day_count (pos year) (month + 1) 1 ≡ day_count (pos year) month 1 + days
    → HasDate year (month + 1) (day - days) found → HasDate year month day found
skip_month year month day days found many next h = record {
  first = omega (arith, h.first);
  last = h.last;
  inside = h.inside;
  counted = omega (arith, h.counted, next, many);
}

month_found : (more year month day : ℕ) → more + month ≡ 13 → 1 ≤ month → day_count (pos year) month 1 + day < day_count (pos year) 13 1
    → HasDate year month day (month_from more year month day)
unfolding month_from
month_found zero year month day is some h =
    let last : month ≡ 13 = omega arith in
    absurd (omega (arith, subst (λ (m : ℕ). day_count (pos year) m 1 + day < day_count (pos year) 13 1) last h))
month_found (suc more) year month day is some h =
    let days : ℕ = days_in_month (pos year) month in
    elim (cases_Bool (nat_lt day days)) [
      | inl here ↦ subst (λ b. HasDate year month day (if b then (month, day) else month_from more year (month + 1) (day - days))) (sym here)
          (record { first = omega arith; last = omega (arith, is); inside = under day days here; counted = refl })
      | inr later ↦ subst (λ b. HasDate year month day (if b then (month, day) else month_from more year (month + 1) (day - days))) (sym later)
          (let many : days ≤ day = from day days later in
          let next : day_count (pos year) (month + 1) 1 ≡ day_count (pos year) month 1 + days = day_count-next_month (pos year) month some in
          skip_month year month day days (month_from more year (month + 1) (day - days)) many next
          (month_found more year (month + 1) (day - days) (omega (arith, is)) (omega arith) (omega (arith, next, many, h))))
    ]

-- a year ends behind its twelfth month
year_end : (year : ℕ) → day_count (pos year) 13 1 ≡ day_count (pos year) 1 1 + days_in_year (pos year)
year_end year =
    omega (arith, day_count-day_of_year (pos year) 13 1 (omega arith), days_of_months_all (pos year))

-- ---- What a clock shows

day_small : (ts : ℕ) → ts < 2 ^ 64 → ts / 86_400_000_000_000 < 365 * 585
day_small ts small = omega (arith, small)

year_is : (ts : ℕ) → ts < 2 ^ 64 → HasDay 1970 (ts / 86_400_000_000_000) (1970 + 585) (year_at ts)
year_is ts small = year_found 585 1970 (ts / 86_400_000_000_000) (day_small ts small)

month_is : (ts : ℕ) → ts < 2 ^ 64 → HasDate (year_at ts).0 1 (year_at ts).1 (month_at ts)
month_is ts small =
    month_found 12 (year_at ts).0 1 (year_at ts).1 refl (omega arith) (omega (arith, (year_is ts small).inside, year_end (year_at ts).0))

-- the days from 1970 on
day_is : (ts : ℕ) → ts < 2 ^ 64 → days_from_civil (pos (year_at ts).0) (month_at ts).0 ((month_at ts).1 + 1) ≡ pos (ts / 86_400_000_000_000)
day_is ts small =
    let year : ℕ = (year_at ts).0 in
    let month : ℕ = (month_at ts).0 in
    let day : ℕ = (month_at ts).1 in
    omega (arith, signed_arith, days_from_civil-day_count (pos year) month (day + 1), day_count-epoch, day_count-day (pos year) month 1 (day + 1) (omega arith) (omega arith), (month_is ts small).counted, (year_is ts small).counted)

-- a moment is its day and the parts of its time
split : (ts : ℕ) → ts ≡ ts / 86_400_000_000_000 * 86_400_000_000_000
    + ((ts / 3_600_000_000_000 % 24 * 3600 + ts / 60_000_000_000 % 60 * 60 + ts / 1_000_000_000 % 60) * 1_000_000_000 + ts % 1_000_000_000)
split ts =
    let minutes : ts / 1_000_000_000 / 60 ≡ ts / 60_000_000_000 = div-div-eq-div-mul ts 1_000_000_000 60 in
    let hours : ts / 60_000_000_000 / 60 ≡ ts / 3_600_000_000_000 = div-div-eq-div-mul ts 60_000_000_000 60 in
    let days : ts / 3_600_000_000_000 / 24 ≡ ts / 86_400_000_000_000 = div-div-eq-div-mul ts 3_600_000_000_000 24 in
    omega (arith, minutes, hours, days)

in_day : (day rest ts : ℕ) (days : ℤ) → days ≡ pos day → ts ≡ day * 86_400_000_000_000 + rest → days *ℤ pos 86_400_000_000_000 +ℤ pos rest ≡ pos ts
in_day day rest ts days is whole = rw is (omega (arith, signed_arith, whole))

pub moment_shown : (ts : ℕ) → ts < 2 ^ 64 → moment (shown_at ts) ≡ pos ts
unfolding moment shown_at
moment_shown ts small = in_day (ts / 86_400_000_000_000) _ ts _ (day_is ts small) (split ts)

pub is_shown : (ts : ℕ) → ts < 2 ^ 64 → IsShown (shown_at ts)
unfolding shown_at
is_shown ts small =
    let y = year_is ts small in
    let m = month_is ts small in (
      (
        (omega (arith, signed_arith), omega (arith, signed_arith, y.early)),
        (omega (arith, signed_arith, m.first), omega (arith, signed_arith, m.last)),
        (omega (arith, signed_arith), omega (arith, signed_arith, m.inside)),
      ),
      (
        (omega (arith, signed_arith), omega (arith, signed_arith)),
        (omega (arith, signed_arith), omega (arith, signed_arith)),
        (omega (arith, signed_arith), omega (arith, signed_arith)),
        (omega (arith, signed_arith), omega (arith, signed_arith)),
      ),
    )

-- ---- Its text

zeros_front : (k : ℕ) (ds : List ℕ) → AllDigits 10 ds → AllDigits 10 (replicate k 48 ++ ds) × (digits_value 10 (replicate k 48 ++ ds) ≡ digits_value 10 ds)
zeros_front zero ds all = (all, refl)
zeros_front (suc k) ds all = let rest = zeros_front k ds all in ((omega arith, rest.0), rest.1)

record Writes (k n : ℕ) (ds : List ℕ) : Type 0 where
  long : length ds ≡ k
  numeral : IsNumeral 10 ds
  value : digits_value 10 ds ≡ n

padded_writes : (k n : ℕ) → 0 < k → n < 10 ^ k → n < 2 ^ 64 → Writes k n (padded k n)
padded_writes k n some below small =
    let is = decimal_is_IsNumeral n small in
    let all = zeros_front (k - length (decimal n)) (decimal n) is.0.1 in
    let long : length (padded k n) ≡ k = omega (arith, length-append (replicate (k - length (decimal n)) 48) (decimal n), length-replicate {A = ℕ} (k - length (decimal n)) 48, length-decimal-le k n some below small) in
    record { long = long; numeral = (omega (arith, long, some), all.0); value = all.1 ∙ is.1 }

four_front : (b r s : List ℕ) → length b ≡ 4 → r ≡ s → b ++ r ≡ get_or b 0 0 ∷ get_or b 1 0 ∷ get_or b 2 0 ∷ get_or b 3 0 ∷ s
four_front b r s l e =
    ap (λ (x : List ℕ). x ++ r) (four_bytes b l) ∙ ap (λ (t : List ℕ). get_or b 0 0 ∷ get_or b 1 0 ∷ get_or b 2 0 ∷ get_or b 3 0 ∷ t) e

two_front : (b r s : List ℕ) → length b ≡ 2 → r ≡ s → b ++ r ≡ get_or b 0 0 ∷ get_or b 1 0 ∷ s
two_front b r s l e = ap (λ (x : List ℕ). x ++ r) (two_bytes b l) ∙ ap (λ (t : List ℕ). get_or b 0 0 ∷ get_or b 1 0 ∷ t) e

-- texts of so many bytes, one after the other
joined : (y mo d h mi s n : List ℕ) → length y ≡ 4 → length mo ≡ 2 → length d ≡ 2 → length h ≡ 2 → length mi ≡ 2 → length s ≡ 2 → length n ≡ 9
    → y ++ (mo ++ (d ++ (84 ∷ (h ++ (mi ++ (s ++ (46 ∷ n))))))) ≡ built y mo d h mi s n
joined y mo d h mi s n ly lmo ld lh lmi ls ln =
    four_front y _ _ ly (two_front mo _ _ lmo (two_front d _ _ ld (ap (λ (t : List ℕ). 84 ∷ t)
    (two_front h _ _ lh (two_front mi _ _ lmi (two_front s _ _ ls (ap (λ (t : List ℕ). 46 ∷ t) (nine_bytes n ln))))))))

record Shows (p : Parts) (text : List ℕ) : Type 0 where
  long : length text ≡ 25
  shape : IsCivilText text
  parts : parts_of text ≡ p

parts_show : (p : Parts) → p.year < 10 ^ 4 → p.month < 10 ^ 2 → p.day < 10 ^ 2 → p.hour < 10 ^ 2 → p.minute < 10 ^ 2 → p.second < 10 ^ 2 → p.nanos < 10 ^ 9
    → Shows p (text_of_parts p)
parts_show p yl mol dl hl mil sl nl =
    let y = padded_writes 4 p.year (omega arith) yl (omega (arith, yl)) in
    let mo = padded_writes 2 p.month (omega arith) mol (omega (arith, mol)) in
    let d = padded_writes 2 p.day (omega arith) dl (omega (arith, dl)) in
    let h = padded_writes 2 p.hour (omega arith) hl (omega (arith, hl)) in
    let mi = padded_writes 2 p.minute (omega arith) mil (omega (arith, mil)) in
    let s = padded_writes 2 p.second (omega arith) sl (omega (arith, sl)) in
    let n = padded_writes 9 p.nanos (omega arith) nl (omega (arith, nl)) in
    let same = joined (padded 4 p.year) (padded 2 p.month) (padded 2 p.day) (padded 2 p.hour) (padded 2 p.minute) (padded 2 p.second) (padded 9 p.nanos)
    y.long mo.long d.long h.long mi.long s.long n.long in
    let shows = built_shows (padded 4 p.year) (padded 2 p.month) (padded 2 p.day) (padded 2 p.hour) (padded 2 p.minute) (padded 2 p.second) (padded 9 p.nanos) p
    y.long mo.long d.long h.long mi.long s.long n.long y.numeral mo.numeral d.numeral h.numeral mi.numeral s.numeral n.numeral
    y.value mo.value d.value h.value mi.value s.value n.value in
    subst (Shows p) (sym same) (record { long = refl; shape = shows.0; parts = shows.1 })

day_two : (p : Parts) → pos p.day ≤ℤ pos (days_in_month (pos p.year) (unsigned_abs (pos p.month))) → p.day < 10 ^ 2
day_two p last = omega (arith, signed_arith, last, days_in_month_bounds (pos p.year) (unsigned_abs (pos p.month)))

text_shows : (ts : ℕ) → ts < 2 ^ 64 → Shows (shown_at ts) (iso_text ts)
unfolding iso_text
text_shows ts small =
    let shown = is_shown ts small in
    parts_show (shown_at ts) (omega (arith, signed_arith, shown.0.0.1)) (omega (arith, signed_arith, shown.0.1.1)) (day_two (shown_at ts) shown.0.2.1)
    (omega (arith, signed_arith, shown.1.0.1)) (omega (arith, signed_arith, shown.1.1.1)) (omega (arith, signed_arith, shown.1.2.1)) (omega (arith, signed_arith, shown.1.3.1))

-- the text of a moment is a date and a time that reads as the moment
pub iso_text_reads : (ts : ℕ) → ts < 2 ^ 64 → (length (iso_text ts) ≡ 25) × IsCivilTime (iso_text ts) × ReadsTime (iso_text ts) (pos ts)
iso_text_reads ts small =
    let shows = text_shows ts small in
    let civil : IsCivilTime (iso_text ts) = (shows.shape, subst IsShown (sym shows.parts) (is_shown ts small)) in
    (shows.long, civil, inr (civil, ap moment shows.parts ∙ moment_shown ts small))

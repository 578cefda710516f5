-- The text of a moment, computed.
use Rattle.std.proofs.Common.{◌≡◌, codes, refl}
use Rattle.std.specs.Fmt.{digits}
use Rattle.ak_time.specs.Dates.{year_from, month_from, shown_at, iso_text}

in_2014 : iso_text 1_418_197_423_999_999_999 ≡ codes "20141210T074343.999999999"
unfolding digits year_from month_from shown_at iso_text
in_2014 = refl

leap_day : iso_text 951_782_400_000_000_000 ≡ codes "20000229T000000.000000000"
unfolding digits year_from month_from shown_at iso_text
leap_day = refl

first_moment : iso_text 0 ≡ codes "19700101T000000.000000000"
unfolding digits year_from month_from shown_at iso_text
first_moment = refl

last_moment : iso_text 18_446_744_073_709_551_615 ≡ codes "25540721T233433.709551615"
unfolding digits year_from month_from shown_at iso_text
last_moment = refl

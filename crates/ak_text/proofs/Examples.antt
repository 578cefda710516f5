-- The definitions, computed.
use Rattle.std.proofs.Common.{◌≡◌, pos, negsuc, [], ◌∷◌, true, false, codes, refl}
use Rattle.std.specs.Fmt.{digits}
use Rattle.ak_rows.specs.declared.row.Cell.TheVariants.{Hole, Units, Number}
use Rattle.ak_time.specs.Dates.{year_from, month_from, shown_at, iso_text}
use Rattle.ak_base.specs.RowTexts.{value_text}
use Rattle.ak_text.specs.Rows.{csv_row, resp_row, row_text}

tenths : value_text 1 (pos 243) ≡ codes "24.3"
unfolding digits
tenths = refl

below_zero : value_text 2 (negsuc 104) ≡ codes "-1.05"
unfolding digits
below_zero = refl

whole : value_text 6 (pos 12000000) ≡ codes "12"
unfolding digits
whole = refl

joined_hole : csv_row 0 (codes "cpu|mem") (codes "5") (Units (pos 2) ∷ Hole ∷ []) ≡ codes "cpu|mem,5,2,\n"
unfolding digits
joined_hole = refl

quoted : csv_row 0 (codes "a,b\"c") (codes "7") (Number 3 ∷ []) ≡ codes "\"a,b\"\"c\",7,3\n"
unfolding digits
quoted = refl

dated : resp_row true 0 (codes "cpu host=a") (codes "20141210T074343.999999999") (Units (pos 5) ∷ []) ≡ codes "+cpu host=a\r\n+20141210T074343.999999999\r\n:5\r\n"
unfolding digits
dated = refl

scaled : resp_row false 3 (codes "cpu") (codes "9") (Units (negsuc 0) ∷ Hole ∷ Number 4 ∷ []) ≡ codes "+cpu\r\n:9\r\n+-0.001\r\n$-1\r\n:4\r\n"
unfolding digits
scaled = refl

iso_row : row_text (record { resp = false; iso = true; scale = 1 }) (codes "cpu host=a")
    (record { track = 0; time = 1_418_197_423_999_999_999; n = 1; cells = Units (pos 5) ∷ Hole ∷ [] })
    ≡ codes "cpu host=a,20141210T074343.999999999,0.5\n"
unfolding digits year_from month_from shown_at iso_text
iso_row = refl

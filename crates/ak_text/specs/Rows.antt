-- The bytes of rows.
use Rattle.std.specs.Prelude.{ℕ, Bool, ◌==◌, if◌then◌else◌, List, [], ◌∷◌, ◌++◌, take, codes}
use Rattle.std.specs.Fmt.{decimal}
use Rattle.std.specs.List.{flat_map}
use Rattle.ak_base.specs.RowTexts.{value_text, name_text}
use Rattle.ak_rows.specs.declared.row.Cell.{Cell}
use Rattle.ak_rows.specs.declared.row.Cell.TheVariants.{Hole, Units, Number}
use Rattle.ak_rows.specs.declared.row.Row.{Row}
use Rattle.ak_time.specs.Dates.{iso_text}
use Rattle.ak_text.specs.declared.form.Form.{Form}

abbrev pub crlf : List ℕ
crlf = 13 ∷ 10 ∷ []

-- the time of a row: a date, or nanoseconds
abbrev pub time_text : Bool → ℕ → List ℕ
time_text iso ts = if iso then iso_text ts else decimal ts

-- ---- CSV

abbrev pub csv_cell : ℕ → Cell → List ℕ
csv_cell scale Hole = 44 ∷ []
csv_cell scale (Units u) = 44 ∷ value_text scale u
csv_cell scale (Number n) = 44 ∷ decimal n

-- the name, the time and the cells, with a comma between them, and an end of line
abbrev pub csv_row : ℕ → List ℕ → List ℕ → List Cell → List ℕ
csv_row scale name time cells = name_text name ++ (44 ∷ time ++ (flat_map (csv_cell scale) cells ++ 10 ∷ []))

-- ---- RESP

-- a whole number, or a text where there is a scale
abbrev pub units_mark : ℕ → ℕ
units_mark scale = if scale == 0 then 58 else 43

abbrev pub resp_cell : ℕ → Cell → List ℕ
resp_cell scale Hole = codes "$-1" ++ crlf
resp_cell scale (Units u) = units_mark scale ∷ (value_text scale u ++ crlf)
resp_cell scale (Number n) = 58 ∷ (decimal n ++ crlf)

abbrev pub time_mark : Bool → ℕ
time_mark iso = if iso then 43 else 58

-- the name, the time and the cells, each on a line of its own
abbrev pub resp_row : Bool → ℕ → List ℕ → List ℕ → List Cell → List ℕ
resp_row iso scale name time cells = 43 ∷ (name ++ (crlf ++ (time_mark iso ∷ (time
    ++ (crlf ++ flat_map (resp_cell scale) cells)))))

-- ---- Rows

-- the bytes of a row of this name
abbrev pub row_text : Form → List ℕ → Row → List ℕ
row_text f name r = if f.resp then resp_row f.iso f.scale name (time_text f.iso r.time) (take r.n r.cells)
    else csv_row f.scale name (time_text f.iso r.time) (take r.n r.cells)

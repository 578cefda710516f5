-- What a query holds at its keys. Each is total: of a value of another shape it is the empty text or list.
use Rattle.std.specs.Prelude.{ℕ, List, [], ◌∷◌, map, Bool, Option, Some, None, is_some, unwrap_or, option_map}
use Rattle.std.specs.Prelude.{option_and_then, if◌then◌else◌, codes, bytes_eq}
use Rattle.std.specs.List.{list_all}
use Rattle.serde_json.specs.Data.{Data}
use Rattle.serde_json.specs.Find.{get}
use Rattle.ak_names.specs.declared.wheres.KeyValues.{KeyValues}
use Rattle.ak_query.specs.declared.query.Func.{Func}
use Rattle.ak_query.specs.declared.query.Func.TheVariants.{Count, Sum, Min, Max, First, Last}
use Rattle.ak_query.specs.Json.{members_in, within, count_in, text_of, texts_of}
use Rattle.ak_query.specs.Shapes.{passes, is}

-- the text at a key
abbrev pub text_at : List ℕ → Data → List ℕ
text_at key d = unwrap_or (option_map text_of (get key d)) []

abbrev pub texts_at : List ℕ → Data → List (List ℕ)
texts_at key d = unwrap_or (option_map texts_of (get key d)) []

abbrev pub first_key : List (List ℕ × Data) → List ℕ
first_key [] = []
first_key (m ∷ ms) = m.0

abbrev pub first_text : List (List ℕ × Data) → List ℕ
first_text [] = []
first_text (m ∷ ms) = text_of m.1

-- the metric and the function of an aggregate
abbrev pub metric_of : Data → List ℕ
metric_of d = unwrap_or (option_map first_key (members_in d)) []

abbrev pub function_of : Data → List ℕ
function_of d = unwrap_or (option_map first_text (members_in d)) []

-- of a select, an aggregate, a group-aggregate or a join
abbrev pub metrics_from : Option Data → Option Data → Option Data → Option Data → List (List ℕ)
metrics_from (Some s) a g j = text_of s ∷ []
metrics_from None (Some a) g j = metric_of a ∷ []
metrics_from None None (Some g) j = text_at (codes "metric") g ∷ []
metrics_from None None None (Some j) = texts_of j
metrics_from None None None None = []

abbrev pub metrics_in : Data → List (List ℕ)
metrics_in d = metrics_from (get (codes "select") d) (get (codes "aggregate") d) (get (codes "group-aggregate") d)
    (get (codes "join") d)

-- ---- Functions

abbrev pub func_named : List ℕ → Option Func
func_named name = if bytes_eq name (codes "count") then Some Count
    else (if bytes_eq name (codes "sum") then Some Sum
    else (if bytes_eq name (codes "min") then Some Min
    else (if bytes_eq name (codes "max") then Some Max
    else (if bytes_eq name (codes "first") then Some First
    else (if bytes_eq name (codes "last") then Some Last else None)))))

abbrev pub is_function : List ℕ → Bool
is_function name = is_some (func_named name)

-- the names of the functions of a select, an aggregate or a group-aggregate
abbrev pub names_from : Option Data → Option Data → Option Data → List (List ℕ)
names_from (Some s) a g = []
names_from None (Some a) g = function_of a ∷ []
names_from None None (Some g) = texts_at (codes "func") g
names_from None None None = []

abbrev pub names_in : Data → List (List ℕ)
names_in d = names_from (get (codes "select") d) (get (codes "aggregate") d) (get (codes "group-aggregate") d)

-- each name is that of a function
abbrev pub has_functions : Data → Bool
has_functions d = list_all is_function (names_in d)

-- ---- The other keys

abbrev pub where_of : List ℕ × Data → KeyValues
where_of m = record { key = m.0; values = texts_of m.1 }

abbrev pub wheres_in : Data → List KeyValues
wheres_in d = map where_of (unwrap_or (option_and_then members_in (get (codes "where") d)) [])

abbrev pub tags_in : Data → Option (List (List ℕ))
tags_in d = option_map texts_of (get (codes "group-by-tag") d)

abbrev pub by_time_in : Data → Bool
by_time_in d = passes (is (codes "time")) (get (codes "order-by") d)

abbrev pub limit_in : Data → Option ℕ
limit_in d = option_and_then count_in (get (codes "limit") d)

abbrev pub offset_in : Data → ℕ
offset_in d = unwrap_or (option_and_then count_in (get (codes "offset") d)) 0

abbrev pub resp_in : Data → Bool
resp_in d = passes (is (codes "resp")) (within (codes "output") (codes "format") d)

abbrev pub iso_in : Data → Bool
iso_in d = passes (is (codes "iso")) (within (codes "output") (codes "timestamp") d)

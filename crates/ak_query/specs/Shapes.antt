-- The shape of a query: which keys an object has, and what may stand at each.
use Rattle.std.specs.Prelude.{ℕ, List, [], ◌∷◌, length, map, Bool, true, false, not, ◌&&◌, ◌||◌, ◌==◌, nat_lt, nat_le}
use Rattle.std.specs.Prelude.{slice_index_or, Option, Some, None, is_some, option_and_then, codes, bytes_eq}
use Rattle.std.specs.List.{list_all, list_any, count_by}
use Rattle.serde_json.specs.Data.{Data}
use Rattle.serde_json.specs.Find.{get, as_str, as_number, as_i64}
use Rattle.ak_query.specs.Json.{items_in, members_in, count_in, text_of}

-- there is a value, and it passes the test
abbrev pub passes : {A : Type 0} → (A → Bool) → Option A → Bool
passes test None = false
passes test (Some x) = test x

abbrev pub has : List ℕ → Data → Bool
has key d = is_some (get key d)

abbrev pub is_text : Data → Bool
is_text d = is_some (as_str d)

-- this text
abbrev pub is : List ℕ → Data → Bool
is text d = passes (λ s. bytes_eq s text) (as_str d)

abbrev pub is_number : Data → Bool
is_number d = is_some (as_number d)

-- a whole number from 0 to 2^64 - 1
abbrev pub is_count : Data → Bool
is_count d = is_some (count_in d)

-- a whole number from -2^63 to 2^63 - 1
abbrev pub is_whole : Data → Bool
is_whole d = is_some (option_and_then as_i64 (as_number d))

-- an array of texts
abbrev pub are_texts : Data → Bool
are_texts d = passes (list_all is_text) (items_in d)

-- an array of so many items
abbrev pub has_from_to : ℕ → ℕ → Data → Bool
has_from_to least most d = passes (λ ds. nat_le least (length ds) && nat_le (length ds) most) (items_in d)

-- a text, or an array of texts
abbrev pub is_texts : Data → Bool
is_texts d = is_text d || are_texts d

-- an object, and each of its members passes the test
abbrev pub is_object : (List ℕ → Data → Bool) → Data → Bool
is_object test d = passes (list_all (λ m. test m.0 m.1)) (members_in d)

-- ---- The values of the keys

-- an object of one member, which holds a text
abbrev pub is_aggregate : Data → Bool
is_aggregate d = passes (λ ms. (length ms == 1) && list_all (λ m. is_text m.1) ms) (members_in d)

-- a text, or an array of 1 to 32 texts
abbrev pub is_functions : Data → Bool
is_functions d = is_text d || (are_texts d && has_from_to 1 32 d)

abbrev pub is_group_member : List ℕ → Data → Bool
is_group_member key d = (bytes_eq key (codes "metric") && is_text d)
    || ((bytes_eq key (codes "step") && (is_text d || is_number d))
    || (bytes_eq key (codes "func") && is_functions d))

-- an object of just these three
abbrev pub is_group : Data → Bool
is_group d = is_object is_group_member d && (has (codes "metric") d && (has (codes "step") d && has (codes "func") d))

-- no two texts are the same
abbrev pub apart : List (List ℕ) → Bool
apart [] = true
apart (t ∷ ts) = not (list_any (bytes_eq t) ts) && apart ts

-- no control character and no space, and neither `=` nor `|`
abbrev pub may_stand : ℕ → Bool
may_stand b = nat_lt 32 b && (not (b == 61) && (not (b == 124) && not (b == 127)))

-- A text that can be the metric of a series: 1 to 512 bytes, of which each may stand in a metric, and the first isn't `!`.
abbrev pub can_be_metric : List ℕ → Bool
can_be_metric text = not (length text == 0) && (nat_le (length text) 512
    && (not (slice_index_or text 0 0 == 33) && list_all may_stand text))

abbrev pub are_metrics : Data → Bool
are_metrics d = passes (list_all (λ d. can_be_metric (text_of d))) (items_in d)

-- an array of 2 to 32 metrics, no two alike
abbrev pub is_join : Data → Bool
is_join d = are_texts d && (has_from_to 2 32 d && (are_metrics d && passes (λ ds. apart (map text_of ds)) (items_in d)))

abbrev pub is_range_member : List ℕ → Data → Bool
is_range_member key d = (bytes_eq key (codes "from") || bytes_eq key (codes "to")) && (is_text d || is_number d)

abbrev pub is_bound_key : List ℕ → Bool
is_bound_key key = (bytes_eq key (codes "gt") || bytes_eq key (codes "ge"))
    || (bytes_eq key (codes "lt") || bytes_eq key (codes "le"))

abbrev pub is_filter_member : List ℕ → Data → Bool
is_filter_member key d = is_bound_key key && (is_text d || is_whole d)

abbrev pub is_where_member : List ℕ → Data → Bool
is_where_member key d = is_texts d

abbrev pub is_output_member : List ℕ → Data → Bool
is_output_member key d = (bytes_eq key (codes "format") && (is (codes "csv") d || is (codes "resp") d))
    || (bytes_eq key (codes "timestamp") && (is (codes "raw") d || is (codes "iso") d))

-- ---- The keys of a query

-- what is asked for
abbrev pub is_kind_member : List ℕ → Data → Bool
is_kind_member key d = (bytes_eq key (codes "select") && is_text d)
    || ((bytes_eq key (codes "aggregate") && is_aggregate d)
    || ((bytes_eq key (codes "group-aggregate") && is_group d)
    || (bytes_eq key (codes "join") && is_join d)))

-- of which points
abbrev pub is_choice_member : List ℕ → Data → Bool
is_choice_member key d = (bytes_eq key (codes "range") && is_object is_range_member d)
    || ((bytes_eq key (codes "where") && is_object is_where_member d)
    || ((bytes_eq key (codes "filter") && is_object is_filter_member d)
    || (bytes_eq key (codes "group-by-tag") && is_texts d)))

-- in which form
abbrev pub is_form_member : List ℕ → Data → Bool
is_form_member key d = (bytes_eq key (codes "order-by") && (is (codes "series") d || is (codes "time") d))
    || (((bytes_eq key (codes "limit") || bytes_eq key (codes "offset")) && is_count d)
    || (bytes_eq key (codes "output") && is_object is_output_member d))

abbrev pub is_member : List ℕ → Data → Bool
is_member key d = is_kind_member key d || (is_choice_member key d || is_form_member key d)

-- how many of the four kinds stand in it
abbrev pub kinds : Data → ℕ
kinds d = count_by (λ key. has key d) (codes "select" ∷ codes "aggregate" ∷ codes "group-aggregate" ∷ codes "join" ∷ [])

-- An object of these keys, with one kind; a join isn't grouped.
abbrev pub is_shaped : Data → Bool
is_shaped d = is_object is_member d && ((kinds d == 1) && not (has (codes "join") d && has (codes "group-by-tag") d))

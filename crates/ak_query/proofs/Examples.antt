-- The definitions, computed.
use Rattle.std.proofs.Common.{◌≡◌, ℕ, List, [], ◌∷◌, Bool, true, false, Option, Some, None, option_map, codes, refl}
use Rattle.serde_json.specs.Read.{read}
use Rattle.serde_json.proofs.OnLiterals.{serde_json_on_literals}
use Rattle.ak_names.specs.declared.wheres.KeyValues.{KeyValues}
use Rattle.ak_query.specs.Shapes.{is_shaped}
use Rattle.ak_query.specs.Pieces.{metrics_in, names_in, has_functions, wheres_in, tags_in, by_time_in, limit_in, offset_in, resp_in, iso_in}

shape : List ℕ → Option Bool
shape s = option_map is_shaped (read s)

no_json : read (codes "{") ≡ None
unfolding serde_json_on_literals
no_json = refl

unknown_key : shape (codes "{\"selct\":\"cpu\"}") ≡ Some false
unfolding serde_json_on_literals shape
unknown_key = refl

bad_time_is_shaped : shape (codes "{\"select\":\"cpu\",\"range\":{\"from\":\"x\"}}") ≡ Some true
unfolding serde_json_on_literals shape
bad_time_is_shaped = refl

two_kinds : shape (codes "{\"select\":\"cpu\",\"join\":[\"a\",\"b\"]}") ≡ Some false
unfolding serde_json_on_literals shape
two_kinds = refl

no_whole_number : shape (codes "{\"select\":\"cpu\",\"limit\":1.0}") ≡ Some false
unfolding serde_json_on_literals shape
no_whole_number = refl

grouped_join : shape (codes "{\"join\":[\"a\",\"b\"],\"group-by-tag\":[]}") ≡ Some false
unfolding serde_json_on_literals shape
grouped_join = refl

-- a line end would stand in the name of tracks
joined_line_end : shape (codes "{\"join\":[\"cpu\",\"x\\r\\ny\"]}") ≡ Some false
unfolding serde_json_on_literals shape
joined_line_end = refl

joined_nothing : shape (codes "{\"join\":[\"cpu\",\"\"]}") ≡ Some false
unfolding serde_json_on_literals shape
joined_nothing = refl

joined : shape (codes "{\"join\":[\"cpu\",\"mem/é\"]}") ≡ Some true
unfolding serde_json_on_literals shape
joined = refl

-- of a key that stands twice the last value counts
twice : option_map metrics_in (read (codes "{\"select\":\"mem\",\"select\":\"cpu\"}")) ≡ Some (codes "cpu" ∷ [])
unfolding serde_json_on_literals
twice = refl

unknown_function : option_map has_functions (read (codes "{\"aggregate\":{\"cpu\":\"mean\"}}")) ≡ Some false
unfolding serde_json_on_literals
unknown_function = refl

abbrev pub web : List ℕ
web = codes "{\"group-aggregate\":{\"metric\":\"cpu.user\",\"step\":\"1m\",\"func\":[\"min\",\"max\"]},\"where\":{\"host\":\"web01\"}}"

web_shape : shape web ≡ Some true
unfolding serde_json_on_literals shape
web_shape = refl

web_metrics : option_map metrics_in (read web) ≡ Some (codes "cpu.user" ∷ [])
unfolding serde_json_on_literals
web_metrics = refl

web_names : option_map names_in (read web) ≡ Some (codes "min" ∷ codes "max" ∷ [])
unfolding serde_json_on_literals
web_names = refl

abbrev pub host : KeyValues
host = record { key = codes "host"; values = codes "web01" ∷ [] }

web_wheres : option_map wheres_in (read web) ≡ Some (host ∷ [])
unfolding serde_json_on_literals
web_wheres = refl

abbrev pub formed : List ℕ
formed = codes "{\"select\":\"cpu\",\"order-by\":\"time\",\"offset\":2,\"limit\":3,\"output\":{\"format\":\"resp\",\"timestamp\":\"iso\"}}"

formed_order : option_map by_time_in (read formed) ≡ Some true
unfolding serde_json_on_literals
formed_order = refl

formed_offset : option_map offset_in (read formed) ≡ Some 2
unfolding serde_json_on_literals
formed_offset = refl

formed_limit : option_map limit_in (read formed) ≡ Some (Some 3)
unfolding serde_json_on_literals
formed_limit = refl

formed_resp : option_map resp_in (read formed) ≡ Some true
unfolding serde_json_on_literals
formed_resp = refl

formed_iso : option_map iso_in (read formed) ≡ Some true
unfolding serde_json_on_literals
formed_iso = refl

ungrouped : option_map tags_in (read formed) ≡ Some None
unfolding serde_json_on_literals
ungrouped = refl

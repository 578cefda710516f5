-- JSON as the ported crate reads it, and looking into it.
use Rattle.std.specs.Prelude.{◌≡◌, ℕ, List, [], ◌∷◌, map, Option, Some, None, unwrap_or, option_map, option_and_then, String}
use Rattle.std.specs.Prelude.{string_bytes, IsUtf8}
use Rattle.std.specs.declared.alloc.Global.{Global}
use Rattle.serde_json.specs.Data.{Data, Items, no_items, item, Members, no_members, member}
use Rattle.serde_json.specs.Read.{read}
use Rattle.serde_json.specs.Find.{get, as_str, as_array, as_object, as_number, as_u64}
use Rattle.serde_json.specs.View.{view}
use Rattle.serde_json.specs.declared.value.Value.{Value}

-- the bytes are JSON, and this is the value
abbrev pub IsJson : List ℕ → Data → Type 0
IsJson bytes d = IsUtf8 bytes × (read bytes ≡ Some d)

-- the items of an array
abbrev pub listed : Items → List Data
listed no_items = []
listed (item d ds) = d ∷ listed ds

-- the members of an object, each key once
abbrev pub entries : Members → List (List ℕ × Data)
entries no_members = []
entries (member k d ms) = (k, d) ∷ entries ms

abbrev pub items_in : Data → Option (List Data)
items_in d = option_map listed (as_array d)

abbrev pub members_in : Data → Option (List (List ℕ × Data))
members_in d = option_map entries (as_object d)

-- the value of a key of an object within an object
abbrev pub within : List ℕ → List ℕ → Data → Option Data
within outer inner d = option_and_then (get inner) (get outer d)

-- a whole number from 0 to 2^64 - 1
abbrev pub count_in : Data → Option ℕ
count_in d = option_and_then as_u64 (as_number d)

-- the text that a value is; the empty text where it is none
abbrev pub text_of : Data → List ℕ
text_of d = unwrap_or (as_str d) []

abbrev pub texts_from : Option (List ℕ) → Option (List Data) → List (List ℕ)
texts_from (Some s) items = s ∷ []
texts_from None (Some ds) = map text_of ds
texts_from None None = []

-- a text, or the texts of an array
abbrev pub texts_of : Data → List (List ℕ)
texts_of d = texts_from (as_str d) (items_in d)

-- the members that a map holds
abbrev pub seen : List (String Global × Value) → List (List ℕ × Data)
seen es = map (λ e. (string_bytes e.0, view e.1)) es

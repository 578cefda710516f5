-- The definitions, computed.
use Rattle.std.specs.Prelude.{pos, ◌≡◌, ◌^◌, refl, [], ◌∷◌, codes, Some}
use Rattle.std.specs.List.{flat_map}
use Rattle.ak_run.specs.declared.asked.Asked.TheVariants.{Flush}
use Rattle.ak_base.specs.RowTexts.{name_text}
use Rattle.ak_run.specs.Replies.{row_text, series_rows, ok_reply, reply_to}
use Rattle.ak_run.specs.Sessions.{with_session, without, stream_at}
use Rattle.ak_world.specs.Leaves.{Series}
use Rattle.ak_world.specs.Views.{first_view}
use Rattle.ak_world.specs.Worlds.{World as Store, world_of, worn_world}

quoted : name_text (codes "a,b\"c") ≡ codes "\"a,b\"\"c\""
quoted = refl

plain : name_text (codes "cpu host=a") ≡ codes "cpu host=a"
plain = refl

rising : with_session (record { port = 3; stream = 1 ∷ [] } ∷ []) (record { port = 1; stream = 2 ∷ [] })
    ≡ record { port = 1; stream = 2 ∷ [] } ∷ record { port = 3; stream = 1 ∷ [] } ∷ []
rising = refl

replaced : with_session (record { port = 1; stream = 2 ∷ [] } ∷ record { port = 3; stream = 1 ∷ [] } ∷ []) (record { port = 3; stream = 9 ∷ [] })
    ≡ record { port = 1; stream = 2 ∷ [] } ∷ record { port = 3; stream = 9 ∷ [] } ∷ []
replaced = refl

taken_out : without (record { port = 1; stream = 2 ∷ [] } ∷ record { port = 3; stream = 1 ∷ [] } ∷ []) 1 ≡ record { port = 3; stream = 1 ∷ [] } ∷ []
taken_out = refl

found : stream_at (record { port = 1; stream = 2 ∷ [] } ∷ record { port = 3; stream = 1 ∷ [] } ∷ []) 3 ≡ Some (1 ∷ [])
found = refl

-- a dead leaf, a live one and an open one
abbrev held : Series
held = record {
  name = codes "cpu host=a";
  closed = record { number = 0; address = 7; points = record { ts = 1; value = pos 1 } ∷ [] } ∷ record { number = 1; address = 2 ^ 32; points = record { ts = 2; value = pos 2 } ∷ [] } ∷ [];
  written = record { ts = 3; value = pos 3 } ∷ [];
  leaves = 2;
  last = Some 3;
}

rows_of_live : series_rows 0 1 (codes "cpu") held ≡ flat_map (row_text 0 (codes "cpu host=a")) (record { ts = 2; value = pos 2 } ∷ record { ts = 3; value = pos 3 } ∷ [])
rows_of_live = refl

rows_of_others : series_rows 0 1 (codes "cp") held ≡ []
rows_of_others = refl

abbrev new : Store
new = world_of (first_view (record { volumes = 2; blocks = 16; slot = 1; pool = 1; every = 1; scale = 0 }))

first_flush : reply_to 7 new Flush ≡ record { port = 7; bytes = ok_reply; confirms = 2 }
first_flush = refl

worn_flush : reply_to 7 (worn_world new) Flush ≡ record { port = 7; bytes = []; confirms = 0 }
worn_flush = refl

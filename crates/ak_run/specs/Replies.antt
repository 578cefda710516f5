-- What a session is told.
use Rattle.std.specs.Prelude.{ℕ, ◌==◌, if◌then◌else◌, List, [], ◌∷◌, ◌++◌, length, Option, Some, None, codes}
use Rattle.std.specs.Fmt.{decimal}
use Rattle.std.specs.List.{before_first, flat_map}
use Rattle.std.specs.Str.{bytes_eq}
use Rattle.ak_base.specs.declared.point.Point.{Point}
use Rattle.ak_base.specs.declared.refusal.Refusal.{Refusal}
use Rattle.ak_base.specs.Refusals.{code_of, refusal_text}
use Rattle.ak_base.specs.RowTexts.{value_text, name_text}
use Rattle.ak_run.specs.declared.asked.Asked.{Asked}
use Rattle.ak_run.specs.declared.asked.Asked.TheVariants.{Refused, Points, Rows, Flush}
use Rattle.ak_run.specs.Contents.{after}
use Rattle.ak_world.specs.Leaves.{Series, kept_points}
use Rattle.ak_world.specs.Puts.{refusal_of}
use Rattle.ak_world.specs.Steps.{flushed}
use Rattle.ak_world.specs.Worlds.{World as Store, limits_of}

abbrev pub crlf : List ℕ
crlf = 13 ∷ 10 ∷ []

-- a refusal: its number and its text
abbrev pub refusal_reply : Refusal → List ℕ
refusal_reply r = codes "-ERR " ++ (decimal (code_of r) ++ (32 ∷ (refusal_text r ++ crlf)))

-- a text as a bulk
abbrev pub bulk_reply : List ℕ → List ℕ
bulk_reply text = 36 ∷ (decimal (length text) ++ (crlf ++ (text ++ crlf)))

-- ---- Rows

-- a row: the name, the time and the value
abbrev pub row_text : ℕ → List ℕ → Point → List ℕ
row_text scale name p = name_text name ++ (44 ∷ (decimal p.ts ++ (44 ∷ (value_text scale p.value ++ (10 ∷ [])))))

-- the metric of a name: its bytes before the first space
abbrev pub metric_of : List ℕ → List ℕ
metric_of name = before_first (λ b. b == 32) name

-- the rows of a series of this metric, one for each point that is kept, where this ordinal is the oldest live one
abbrev pub series_rows : ℕ → ℕ → List ℕ → Series → List ℕ
series_rows scale lo metric s = if bytes_eq (metric_of s.name) metric then flat_map (row_text scale s.name) (kept_points lo s) else []

-- the rows of all series of this metric, by order of first acceptance
abbrev pub rows_of : Store → List ℕ → List ℕ
rows_of c metric = flat_map (series_rows (limits_of c).scale c.ordinals.lo metric) c.series

-- ---- Replies

-- Accepted points answer nothing.
abbrev pub points_reply : Option Refusal → List ℕ
points_reply None = []
points_reply (Some r) = refusal_reply r

-- a flush is confirmed
abbrev pub ok_reply : List ℕ
ok_reply = codes "+OK" ++ crlf

-- what a port is told at once, and the number of the view that this confirms: 0 where it confirms none
pub record Reply : Type 0 where
  pub port : ℕ
  pub bytes : List ℕ
  pub confirms : ℕ

-- a reply that confirms no view
abbrev pub plain : ℕ → List ℕ → Reply
plain port bytes = record { port = port; bytes = bytes; confirms = 0 }

-- a flush is confirmed where its view was taken
abbrev pub flush_reply : ℕ → Store → Reply
flush_reply port c = if c.worn then plain port [] else record { port = port; bytes = ok_reply; confirms = c.last.number }

abbrev pub answer_to : ℕ → Store → Asked → Reply
answer_to port c (Refused r) = plain port (refusal_reply r)
answer_to port c (Points names ts vs) = plain port (points_reply (refusal_of c names ts))
answer_to port c (Rows metric) = plain port (bulk_reply (rows_of c metric))
answer_to port c Flush = flush_reply port (flushed c)

-- Once the store is worn, nothing is answered.
abbrev pub reply_to : ℕ → Store → Asked → Reply
reply_to port c a = if c.worn then plain port [] else answer_to port c a

abbrev pub replies_to : ℕ → Store → List Asked → List Reply
replies_to port c [] = []
replies_to port c (a ∷ more) = reply_to port c a ∷ replies_to port (after c a) more

-- all the bytes that a port is told
abbrev pub bytes_at : ℕ → List Reply → List ℕ
bytes_at port [] = []
bytes_at port (r ∷ rs) = (if r.port == port then r.bytes else []) ++ bytes_at port rs

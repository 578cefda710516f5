-- Turns without queries.
use Rattle.std.specs.Prelude.{ℕ, ◌≡◌, List, [], ◌∷◌, ◌++◌}
use Rattle.std.specs.List.{AllByRecursion}
use Rattle.ak_host.specs.Marks.{Mark, Taken, piece, ended, idle, done}
use Rattle.ak_resp.specs.declared.message.Message.{Message}
use Rattle.ak_resp.specs.declared.message.Message.TheVariants as message
use Rattle.ak_resp.specs.Grammar.{Splits}
use Rattle.ak_run.specs.declared.asked.Asked.{Asked}
use Rattle.ak_run.specs.declared.asked.Asked.TheVariants.{Refused, Points, Rows, Flush}
use Rattle.ak_run.specs.Run.{World, bytes_of}
use Rattle.ak_run.specs.Sessions.{stream_at}

abbrev pub IsNoQuery : Message → Type 0
IsNoQuery (message.Put name time values) = Unit {0}
IsNoQuery (message.Query json) = ⊥
IsNoQuery message.Flush = Unit {0}
IsNoQuery message.Unknown = Unit {0}

-- what is asked for isn't rows
abbrev pub IsNoRows : Asked → Type 0
IsNoRows (Refused r) = Unit {0}
IsNoRows (Points names ts vs) = Unit {0}
IsNoRows (Rows metric) = ⊥
IsNoRows Flush = Unit {0}

-- None of the messages that act where these bytes come behind a stream is a query.
abbrev pub AreNoQueries : List ℕ → List ℕ → Type 0
AreNoQueries stream bytes = (before acting : List Message) (rest after : List ℕ) → Splits stream before rest
    → Splits (stream ++ bytes) (before ++ acting) after → AllByRecursion IsNoQuery acting

-- no message that acts in the turn is a query
abbrev pub HasNoQueries : World → Taken → Type 0
HasNoQueries world (piece port bytes) = AreNoQueries (bytes_of (stream_at world.sessions port)) bytes
HasNoQueries world (ended port) = Unit {0}
HasNoQueries world idle = Unit {0}
HasNoQueries world done = Unit {0}

-- where a turn was taken meanwhile, it has P
abbrev pub OnTurn : Mark → Mark → (Taken → Type 0) → Type 0
OnTurn start mark P = (turn : Taken) → mark.turns ≡ start.turns ++ turn ∷ [] → P turn

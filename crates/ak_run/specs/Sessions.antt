-- The open sessions. They stand by rising port, so that each is where the first port is that isn't below its own.
use Rattle.std.specs.Prelude.{ℕ, ◌==◌, nat_lt, if◌then◌else◌, List, [], ◌∷◌, Option, Some, None}

-- an open session: its port, and its bytes since it began
pub record Session : Type 0 where
  pub port : ℕ
  pub stream : List ℕ

-- the bytes of the session of a port, where one is open
abbrev pub stream_at : List Session → ℕ → Option (List ℕ)
stream_at [] port = None
stream_at (s ∷ ss) port = if nat_lt s.port port then stream_at ss port else (if s.port == port then Some s.stream else None)

-- the sessions where this one is open, in place of the one of its port
abbrev pub with_session : List Session → Session → List Session
with_session [] t = t ∷ []
with_session (s ∷ ss) t = if nat_lt s.port t.port then s ∷ with_session ss t else (if s.port == t.port then t ∷ ss else t ∷ s ∷ ss)

-- the sessions but that of a port
abbrev pub without : List Session → ℕ → List Session
without [] port = []
without (s ∷ ss) port = if nat_lt s.port port then s ∷ without ss port else (if s.port == port then ss else s ∷ ss)

-- the most sessions that are open at once
abbrev pub most_sessions : ℕ
most_sessions = 1024

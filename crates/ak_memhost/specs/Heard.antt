-- What each port was told, in a list of ports with their bytes.
use Rattle.std.specs.Prelude.{◌≡◌, ◌≢◌, ℕ, ◌<◌, List, [], ◌∷◌, length, slice_index_or, if◌then◌else◌, ◌==◌}
use Rattle.ak_memhost.specs.declared.heard.PortBytes.{PortBytes}

-- the bytes of the first entry with this port, and none where there is no such entry
abbrev pub heard_by : ℕ → List PortBytes → List ℕ
heard_by port [] = []
heard_by port (told ∷ rest) = if told.port == port then told.bytes else heard_by port rest

-- no entry before this place has this port
abbrev pub IsNotBefore : ℕ → List PortBytes → ℕ → Type 0
IsNotBefore port ports at = (k : ℕ) (d : PortBytes) → k < at → (slice_index_or ports k d).port ≢ port

-- the first entry with this port stands here
pub record IsFirstAt (port : ℕ) (ports : List PortBytes) (at : ℕ) : Type 0 where
  pub within : at < length ports
  pub not_before : IsNotBefore port ports at
  pub here : (d : PortBytes) → (slice_index_or ports at d).port ≡ port

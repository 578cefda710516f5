-- Which bytes spell a request, and where a stream of requests has a fault.
use Rattle.std.specs.Prelude.{ℕ, ◌≡◌, ◌+◌, ◌≤◌, ◌++◌, ◌⊎◌, List, [], ◌∷◌, length, Some, None}
use Rattle.httparse.specs.Grammar.{RequestHead}
use Rattle.ak_http.specs.declared.request.Request.{Request}
use Rattle.ak_http.specs.declared.request.HttpError.{HttpError}
use Rattle.ak_http.specs.declared.request.HttpError.TheVariants.{BadHead, BadLength, Memory}
use Rattle.ak_http.specs.Head.{HasNoMark, EndsHead, IsHead, IsNoHead, names_and_values, body_length}

-- ---- Requests

-- The bytes are a whole head with this method and target, and behind it is a body of n bytes.
pub record SpellsHead (bytes method target : List ℕ) (n : ℕ) : Type 0 where
  pub ends : EndsHead bytes
  pub head : RequestHead
  pub is : IsHead bytes head
  pub method_is : method ≡ head.method
  pub target_is : target ≡ head.target
  pub length_is : body_length (names_and_values head) ≡ Some n

-- These bytes spell the request: a head, and a body of the head's length.
abbrev pub Spells : List ℕ → Request → Type 0
Spells bytes request = (head : List ℕ) × SpellsHead head request.method request.target (length request.body) × (bytes ≡ head ++ request.body)

-- ---- Streams

-- a row of spellings
abbrev pub SpellsRow : List ℕ → List Request → Type 0
SpellsRow bytes [] = bytes ≡ []
SpellsRow bytes (m ∷ ms) = (x : List ℕ) × (y : List ℕ) × (bytes ≡ x ++ y) × Spells x m × SpellsRow y ms

-- The requests of the stream are those of its longest first part that is a row of spellings; the rest is what is behind it.
pub record Splits (stream : List ℕ) (requests : List Request) (rest : List ℕ) : Type 0 where
  pub front : List ℕ
  pub whole : stream ≡ front ++ rest
  pub spelled : SpellsRow front requests
  pub longest : (x y : List ℕ) (ms : List Request) → stream ≡ x ++ y → SpellsRow x ms → length x ≤ length front

-- The bytes are a faulty head, up to the byte at which that is told: the last of its end mark, or the 8192nd where no mark
-- stands in as many.
abbrev pub IsFault : List ℕ → HttpError → Type 0
IsFault bytes BadHead = (EndsHead bytes × IsNoHead bytes) ⊎ ((length bytes ≡ 8192) × HasNoMark bytes)
IsFault bytes BadLength = (head : RequestHead) × EndsHead bytes × IsHead bytes head × (body_length (names_and_values head) ≡ None)
IsFault bytes Memory = ⊥

-- Behind a row of spellings stands a faulty head, whose last byte has this place.
pub record HasFaultAt (stream : List ℕ) (place : ℕ) (error : HttpError) : Type 0 where
  pub front : List ℕ
  pub head : List ℕ
  pub more : List ℕ
  pub requests : List Request
  pub whole : stream ≡ front ++ (head ++ more)
  pub spelled : SpellsRow front requests
  pub fault : IsFault head error
  pub last : place + 1 ≡ length (front ++ head)

abbrev pub HasNoFault : List ℕ → Type 0
HasNoFault stream = (place : ℕ) (error : HttpError) → ¬ (HasFaultAt stream place error)

-- What a reader stands for: a row of bytes, of which it keeps the request in hand alone.
use Rattle.std.specs.Prelude.{ℕ, ◌≡◌, ◌≢◌, ◌+◌, ◌<◌, ◌≤◌, ◌++◌, List, [], ◌∷◌, length, max, Option, Some, None, Result, Ok, Err}
use Rattle.ak_http.specs.declared.request.Request.{Request}
use Rattle.ak_http.specs.declared.request.HttpError.{HttpError}
use Rattle.ak_http.specs.declared.request.HttpError.TheVariants.{Memory}
use Rattle.ak_http.specs.declared.http.Http.{Http}
use Rattle.ak_http.specs.declared.stage.Stage.{Stage}
use Rattle.ak_http.specs.declared.stage.Stage.TheVariants.{Head, Body}
use Rattle.ak_http.specs.declared.stage.Outcome.{Outcome}
use Rattle.ak_http.specs.declared.stage.Outcome.TheVariants.{Going, Whole, Refused}
use Rattle.ak_http.specs.Head.{HasNoMark}
use Rattle.ak_http.specs.Grammar.{SpellsHead, Spells, Splits, IsFault, HasFaultAt, HasNoFault}

-- how many bytes a stage takes at most; a body has one to come at least
abbrev pub most_bytes : Stage → ℕ
most_bytes (Head head) = 1
most_bytes (Body request left) = max left 1

-- The stage is where this rest of a stream has led: within a head, or behind a whole one within its body.
abbrev pub StandsAt : Stage → List ℕ → Type 0
StandsAt (Head head) rest = (rest ≡ head) × HasNoMark head × (length head < 8192)
StandsAt (Body request left) rest = (head : List ℕ) × SpellsHead head request.method request.target (length request.body + left) × (1 ≤ left) × (rest ≡ head ++ request.body)

-- what a rest has come to
abbrev pub ComesTo : List ℕ → Outcome → Type 0
ComesTo rest (Going stage) = StandsAt stage rest
ComesTo rest (Whole request) = Spells rest request
ComesTo rest (Refused error) = IsFault rest error

-- the fault that the reader has met
abbrev pub fault_of : Http → Option HttpError
fault_of r = r.fault

-- The row is these requests and a rest. A reader without a fault is where the rest has led, and the row has no fault.
-- One with a fault has met it.
pub record StandsFor (r : Http) (row : List ℕ) (requests : List Request) : Type 0 where
  pub rest : List ℕ
  pub splits : Splits row requests rest
  pub sound : fault_of r ≡ None → HasNoFault row × StandsAt r.stage rest
  pub faulty : (error : HttpError) → fault_of r ≡ Some error → (place : ℕ) × HasFaultAt row place error

-- Bytes were answered as the rest says, unless memory ran out.
abbrev pub Takes : Http → List ℕ → Http → Result (Option Request) HttpError → Type 0
Takes old bytes new (Ok None) = ((rest : List ℕ) → StandsAt old.stage rest → StandsAt new.stage (rest ++ bytes)) × (fault_of new ≡ None)
Takes old bytes new (Ok (Some m)) = ((rest : List ℕ) → StandsAt old.stage rest → Spells (rest ++ bytes) m) × (new.stage ≡ Head []) × (fault_of new ≡ None)
Takes old bytes new (Err error) = error ≢ Memory → ((rest : List ℕ) → StandsAt old.stage rest → IsFault (rest ++ bytes) error) × (fault_of new ≡ Some error)

-- what a reader stands for after an answer, unless memory ran out
abbrev pub StandsAfter : Http → List ℕ → List Request → Result (Option Request) HttpError → Type 0
StandsAfter new row requests (Ok (Some m)) = StandsFor new row (requests ++ m ∷ [])
StandsAfter new row requests (Ok None) = StandsFor new row requests
StandsAfter new row requests (Err error) = error ≢ Memory → StandsFor new row requests

-- A fault is met exactly where one is answered, and it is the one answered.
abbrev pub TellsFault : Http → Result (Option Request) HttpError → Type 0
TellsFault new (Ok o) = fault_of new ≡ None
TellsFault new (Err error) = error ≢ Memory → fault_of new ≡ Some error

abbrev pub OnNone : Result (Option Request) HttpError → Type 0 → Type 0
OnNone (Ok None) P = P
OnNone (Ok (Some m)) P = Unit {0}
OnNone (Err e) P = Unit {0}

abbrev pub OnRequest : Result (Option Request) HttpError → Type 0 → Type 0
OnRequest (Ok (Some m)) P = P
OnRequest (Ok None) P = Unit {0}
OnRequest (Err e) P = Unit {0}

-- The row has the answered fault, at its last byte.
abbrev pub HasFaultLast : List ℕ → Result (Option Request) HttpError → Type 0
HasFaultLast row (Ok o) = Unit {0}
HasFaultLast row (Err error) = error ≢ Memory → (place : ℕ) × (place + 1 ≡ length row) × HasFaultAt row place error

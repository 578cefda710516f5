-- The machine over a row of bytes: what it leaves of a reader, and what it says.
use Rattle.std.specs.Prelude.{ℕ, ◌≡◌, ◌+◌, ◌++◌, List, [], ◌∷◌, min, Option, Some, None, Result, Ok, Err}
use Rattle.ak_base.specs.declared.refusal.Refusal.{Refusal}
use Rattle.ak_resp.specs.declared.message.Message.{Message}
use Rattle.ak_resp.specs.declared.message.RespError.{RespError}
use Rattle.ak_resp.specs.declared.message.RespError.TheVariants.{Refused, Memory}
use Rattle.ak_resp.specs.declared.resp.Resp.{Resp}
use Rattle.ak_resp.specs.Kinds.{told}
use Rattle.ak_resp.specs.Standing.{last_place}
use Rattle.ak_resp.specs.Machine.{Outcome, going, whole, refused, first, step}

-- a reader at the start of a stream
abbrev pub fresh : Resp
fresh = record { spot = first; place = 0; refusal = None }

abbrev pub on : Resp → Outcome → Resp
on r (going s) = record r { spot = s; place = min (r.place + 1) last_place }
on r (whole m) = record r { spot = first; place = min (r.place + 1) last_place }
on r (refused f) = record r { refusal = Some (told f r.place) }

abbrev pub next_in : Option Refusal → Resp → ℕ → Resp
next_in None r b = on r (step r.spot b)
next_in (Some f) r b = r

-- a reader after one more byte. A fault stays
abbrev pub next_reader : Resp → ℕ → Resp
next_reader r b = next_in r.refusal r b

abbrev pub message_in : Outcome → List Message
message_in (going s) = []
message_in (whole m) = m ∷ []
message_in (refused f) = []

abbrev pub said_in : Option Refusal → Resp → ℕ → List Message
said_in None r b = message_in (step r.spot b)
said_in (Some f) r b = []

-- the message that ends at this byte
abbrev pub said_by : Resp → ℕ → List Message
said_by r b = said_in r.refusal r b

-- a reader after more bytes
abbrev pub after : Resp → List ℕ → Resp
after r [] = r
after r (b ∷ bs) = after (next_reader r b) bs

-- the messages that end in these bytes
abbrev pub said : Resp → List ℕ → List Message
said r [] = []
said r (b ∷ bs) = said_by r b ++ said (next_reader r b) bs

-- An answer is these messages and the fault of this reader, which is left, unless memory ran out.
abbrev pub Answers : List Message → Resp → Result (Option Message) RespError → Resp → Type 0
Answers messages left (Ok (Some m)) new = (messages ≡ m ∷ []) × (left ≡ new) × (new.refusal ≡ None)
Answers messages left (Ok None) new = (messages ≡ []) × (left ≡ new) × (new.refusal ≡ None)
Answers messages left (Err (Refused f)) new = (messages ≡ []) × (left ≡ new) × (new.refusal ≡ Some f)
Answers messages left (Err Memory) new = Unit {0}

-- a reader that has read a row from the stream's start, of which these messages are whole
pub record HasRead (r : Resp) (row : List ℕ) (messages : List Message) : Type 0 where
  pub state : after fresh row ≡ r
  pub says : said fresh row ≡ messages

-- What a reader took of these bytes: those before the rest.
pub record Reads (old new : Resp) (bytes rest : List ℕ) (messages : List Message) : Type 0 where
  pub taken : List ℕ
  pub split : bytes ≡ taken ++ rest
  pub state : after old taken ≡ new
  pub says : said old taken ≡ messages

-- a byte that is refused, and what was read before it
pub record Refuses (old new : Resp) (bytes rest : List ℕ) (f : Refusal) : Type 0 where
  pub mid : Resp
  pub byte : ℕ
  pub reads : Reads old mid bytes (byte ∷ rest) []
  pub sound : mid.refusal ≡ None
  pub answers : Answers (said_by mid byte) (next_reader mid byte) (Err (Refused f)) new

-- What a call took of these bytes, and answered, unless memory ran out.
abbrev pub FeedsOn : Resp → Resp → List ℕ → List ℕ → Result (Option Message) RespError → Type 0
FeedsOn old new bytes rest (Ok (Some m)) = Reads old new bytes rest (m ∷ []) × (new.refusal ≡ None)
FeedsOn old new bytes rest (Ok None) = Reads old new bytes rest [] × (new.refusal ≡ None)
FeedsOn old new bytes rest (Err (Refused f)) = Refuses old new bytes rest f
FeedsOn old new bytes rest (Err Memory) = Unit {0}

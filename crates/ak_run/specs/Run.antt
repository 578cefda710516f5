-- A run: what turns make of the world, and what they are answered.
use Rattle.std.proofs.Common.{inl, inr}
use Rattle.std.specs.Prelude.{ℕ, ◌≡◌, ◌≢◌, ◌↔◌, ◌⊎◌, ◌≤◌, Bool, true, false, if◌then◌else◌, List, [], ◌∷◌, ◌++◌, length, Option, Some, None}
use Rattle.std.specs.Str.{bytes_eq}
use Rattle.ak_base.specs.declared.point.Point.{Point}
use Rattle.ak_base.specs.declared.refusal.Refusal.{Refusal}
use Rattle.ak_base.specs.declared.refusal.Refusal.TheVariants.{Cut, TooMany}
use Rattle.ak_host.specs.Marks.{Taken, piece, ended, idle, done}
use Rattle.ak_meta.specs.declared.meta.SeriesMeta.{SeriesMeta}
use Rattle.ak_resp.specs.declared.message.Message.{Message}
use Rattle.ak_resp.specs.Grammar.{IsOpen, Splits}
use Rattle.ak_resp.specs.Standing.{HasRefusal}
use Rattle.ak_run.specs.declared.asked.Asked.{Asked}
use Rattle.ak_run.specs.Asking.{AllAsk}
use Rattle.ak_run.specs.Contents.{after_all, given_by_all}
use Rattle.ak_run.specs.Replies.{Reply, plain, refusal_reply, replies_to, bytes_at}
use Rattle.ak_run.specs.Sessions.{Session, stream_at, with_session, without, most_sessions}
use Rattle.ak_world.specs.Leaves.{Leaf, leaves_from, points_of}
use Rattle.ak_world.specs.Steps.{flushed}
use Rattle.ak_world.specs.Views.{View}
use Rattle.ak_world.specs.Worlds.{World as Store, world_of as opened, limits_of}

-- what the store holds, and the open sessions by rising port
pub record World : Type 0 where
  pub content : Store
  pub sessions : List Session

-- as a view is opened
abbrev pub world_of : View → World
world_of view = record { content = opened view; sessions = [] }

-- one reply, which confirms no view
abbrev pub to : ℕ → List ℕ → List Reply
to port bytes = plain port bytes ∷ []

-- The bytes meet the fault of the stream: it had none before.
pub record MeetsFault (stream bytes : List ℕ) (f : Refusal) : Type 0 where
  pub open_before : IsOpen stream
  pub place : ℕ
  pub refused : HasRefusal (stream ++ bytes) place f

-- what a session is told of its fault, unless the store is worn
abbrev pub fault_replies : ℕ → Bool → Option Refusal → List Reply
fault_replies port worn None = []
fault_replies port worn (Some f) = if worn then [] else to port (refusal_reply f)

-- Bytes come behind the stream of a port. The messages of the longer stream that weren't messages before act now, in
-- order. Then the stream's fault is answered, where it has one that it hadn't before.
pub record PieceGives (port : ℕ) (content : Store) (stream bytes : List ℕ) (next : Store) (replies : List Reply) : Type 0 where
  pub before : List Message
  pub acting : List Message
  pub rest : List ℕ
  pub rest_after : List ℕ
  pub was : Splits stream before rest
  pub is : Splits (stream ++ bytes) (before ++ acting) rest_after
  pub asked : List Asked
  pub asks : AllAsk (limits_of content).scale acting asked
  pub fault : Option Refusal
  pub fault_is : (f : Refusal) → (fault ≡ Some f) ↔ MeetsFault stream bytes f
  pub next_is : next ≡ after_all content asked
  pub replies_are : replies ≡ replies_to port content asked ++ fault_replies port next.worn fault

-- the stream has bytes after its last message, and no fault
pub record IsCut (stream : List ℕ) : Type 0 where
  pub open_stream : IsOpen stream
  pub messages : List Message
  pub rest : List ℕ
  pub splits : Splits stream messages rest
  pub some : rest ≢ []

-- The end of a session answers where it is inside a message.
abbrev pub EndGives : List ℕ → List ℕ → Type 0
EndGives stream reply = (cut : Bool) × ((cut ≡ true) ↔ IsCut stream) × (reply ≡ (if cut then refusal_reply Cut else []))

-- nothing changes, and this is told
pub record OtherTurn (world next : World) (replies told : List Reply) : Type 0 where
  pub same : next ≡ world
  pub told_is : replies ≡ told

-- the bytes of an open session, or of one that begins
abbrev pub bytes_of : Option (List ℕ) → List ℕ
bytes_of None = []
bytes_of (Some stream) = stream

-- a piece of a session that is open, or that begins with it
pub record PieceTurn (world : World) (port : ℕ) (bytes : List ℕ) (next : World) (replies : List Reply) : Type 0 where
  pub gives : PieceGives port world.content (bytes_of (stream_at world.sessions port)) bytes next.content replies
  pub sessions_are : next.sessions ≡ with_session world.sessions (record { port = port; stream = bytes_of (stream_at world.sessions port) ++ bytes })

-- a session would begin with the piece, and as many as may be are open
pub record IsOneTooMany (world : World) (port : ℕ) : Type 0 where
  pub new : stream_at world.sessions port ≡ None
  pub full : most_sessions ≤ length world.sessions

-- the end of a session
pub record EndTurn (world : World) (port : ℕ) (stream : List ℕ) (next : World) (replies : List Reply) : Type 0 where
  pub reply : List ℕ
  pub gives : EndGives stream reply
  pub content_is : next.content ≡ world.content
  pub sessions_are : next.sessions ≡ without world.sessions port
  pub told : replies ≡ to port reply

abbrev pub EndActs : World → ℕ → Option (List ℕ) → World → List Reply → Type 0
EndActs world port None next replies = OtherTurn world next replies []
EndActs world port (Some stream) next replies = EndTurn world port stream next replies

-- the ends of all these sessions, in order
abbrev pub AllEnd : List Session → List Reply → Type 0
AllEnd [] replies = replies ≡ []
AllEnd (s ∷ ss) replies = (reply : List ℕ) × (others : List Reply) × EndGives s.stream reply × AllEnd ss others × (replies ≡ to s.port reply ++ others)

-- All sessions end, and then a flush is done.
pub record DoneTurn (world next : World) (replies : List Reply) : Type 0 where
  pub ends : AllEnd world.sessions replies
  pub content_is : next.content ≡ flushed world.content
  pub sessions_are : next.sessions ≡ []

-- One turn. A session opens with the first bytes on a port that has none. Where as many as may be are open, such bytes
-- are refused and dropped. The end of a port without a session does nothing.
abbrev pub Acts : World → Taken → World → List Reply → Type 0
Acts world (piece port bytes) next replies =
    (IsOneTooMany world port × OtherTurn world next replies (to port (refusal_reply TooMany)))
    ⊎ ((¬ (IsOneTooMany world port)) × PieceTurn world port bytes next replies)
Acts world (ended port) next replies = EndActs world port (stream_at world.sessions port) next replies
Acts world idle next replies = OtherTurn world next replies []
Acts world done next replies = DoneTurn world next replies

-- one turn, which does nothing once the store is worn
abbrev pub Gives : World → Taken → World → List Reply → Type 0
Gives world turn next replies = ((world.content.worn ≡ true) × OtherTurn world next replies []) ⊎ ((world.content.worn ≡ false) × Acts world turn next replies)

-- turns from a world on
abbrev pub RunsFrom : World → List Taken → World → List Reply → Type 0
RunsFrom world [] last replies = OtherTurn world last replies []
RunsFrom world (turn ∷ turns) last replies = (next : World) × (first : List Reply) × (others : List Reply)
    × Gives world turn next first × RunsFrom next turns last others × (replies ≡ first ++ others)

-- These turns, from the opening of this view on, are answered so at this port.
pub record AreAnswers (view : View) (turns : List Taken) (port : ℕ) (bytes : List ℕ) : Type 0 where
  pub last : World
  pub replies : List Reply
  pub run : RunsFrom (world_of view) turns last replies
  pub is : bytes ≡ bytes_at port replies

-- ---- The points of a run

-- what the messages that act in a turn ask for
abbrev pub asked_in : (world : World) (turn : Taken) (next : World) (replies : List Reply) → Gives world turn next replies → List Asked
asked_in world turn next replies (inl worn) = []
asked_in world (piece port bytes) next replies (inr (sound, inl many)) = []
asked_in world (piece port bytes) next replies (inr (sound, inr (few, acts))) = acts.gives.asked
asked_in world (ended port) next replies (inr acts) = []
asked_in world idle next replies (inr acts) = []
asked_in world done next replies (inr acts) = []

-- of the points that are put in these turns and not refused, those of one name, in order
abbrev pub given_in : List ℕ → (turns : List Taken) (world last : World) (replies : List Reply) → RunsFrom world turns last replies → List Point
given_in name [] world last replies run = []
given_in name (turn ∷ turns) world last replies (next, first, others, gives, run, told) =
    given_by_all name world.content (asked_in world turn next first gives) ++ given_in name turns next last others run

-- the points of the leaves that a view holds of the series of this name
abbrev pub points_held : List SeriesMeta → List (List Leaf) → List ℕ → List Point
points_held [] kept name = []
points_held (known ∷ others) [] name = if bytes_eq known.name name then [] else points_held others [] name
points_held (known ∷ others) (leaves ∷ kept) name = if bytes_eq known.name name then points_of leaves else points_held others kept name

-- the points of one name that were accepted: those of the opening view's leaves, and then those that are put in the run
abbrev pub accepted_in : List ℕ → (view : View) (turns : List Taken) (last : World) (replies : List Reply) → RunsFrom (world_of view) turns last replies → List Point
accepted_in name view turns last replies run = points_held view.content.series view.kept name ++ given_in name turns (world_of view) last replies run

-- These are the live ones of some leaves, whose points are a prefix of those that were accepted.
pub record HoldsFirst (lo : ℕ) (accepted : List Point) (leaves : List Leaf) : Type 0 where
  pub had : List Leaf
  pub rest : List Point
  pub points : accepted ≡ points_of had ++ rest
  pub live : leaves ≡ leaves_from lo had

-- so a view holds leaves of each series of its record, where these points were accepted of each name
abbrev pub AllHoldFirst : ℕ → (List ℕ → List Point) → List SeriesMeta → List (List Leaf) → Type 0
AllHoldFirst lo accepted [] kept = kept ≡ []
AllHoldFirst lo accepted (known ∷ others) [] = ⊥
AllHoldFirst lo accepted (known ∷ others) (leaves ∷ kept) = HoldsFirst lo (accepted known.name) leaves × AllHoldFirst lo accepted others kept

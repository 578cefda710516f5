-- What a node stands for.
use Rattle.std.specs.Prelude.{ℕ, zero, suc, ◌≡◌, ◌⊎◌, ◌≤◌, nat_lt, if◌then◌else◌, List, [], ◌∷◌, ◌++◌, length, None}
use Rattle.std.specs.List.{AllByRecursion}
use Rattle.ak_base.specs.declared.stop.Stop.{Stop}
use Rattle.ak_host.specs.Files.{Files}
use Rattle.ak_host.specs.Marks.{Mark, Taken, piece, ended, idle, done, Telling, told_to}
use Rattle.ak_host.specs.Moments.{HostState}
use Rattle.ak_host.specs.declared.host.Turn.{Turn}
use Rattle.ak_host.specs.declared.host.Turn.TheVariants as turn
use Rattle.ak_resp.specs.declared.message.Message.{Message}
use Rattle.ak_resp.specs.Standing.{StandsFor, is_faulted}
use Rattle.ak_image.specs.Images.{IsSound, StandsFor as IsLeft}
use Rattle.ak_meta.specs.Contents.{names_of}
use Rattle.ak_run.specs.Keeping.{Confirms}
use Rattle.ak_run.specs.Replies.{Reply, bytes_at}
use Rattle.ak_run.specs.Run.{World, Gives, EndGives, AllEnd}
use Rattle.ak_run.specs.Sessions.{Session as Stream}
use Rattle.ak_tree.specs.Standing.{IsReady as IsForestReady, Holds as ForestHolds}
use Rattle.ak_tree.specs.Stops.{IsWornBy}
use Rattle.ak_world.specs.Views.{View, IsIn}
use Rattle.ak_world.specs.Worlds.{World as Store, views_of}
use Rattle.ak_node.specs.declared.keeper.Keeper.{Keeper}
use Rattle.ak_node.specs.declared.node.Node.{Node}
use Rattle.ak_node.specs.declared.session.Session.{Session}
use Rattle.ak_node.specs.declared.node.Went.{Went}
use Rattle.ak_node.specs.declared.node.Went.TheVariants.{More}
use Rattle.ak_node.specs.declared.node.Went.TheVariants as went
use Rattle.ak_node.specs.Calls.{Told, Begins}

-- leaves can be closed and views taken, and the index knows the names of the series
pub record IsReady (told : Type 0) (keeper : Keeper) (host : HostState) : Type 0 where
  pub forest : IsForestReady told keeper.forest host
  pub names : keeper.names ≡ names_of keeper.forest.meta.series

-- views can be saved, and no session is the console's
pub record CanServe (told : Type 0) (node : Node) (host : HostState) : Type 0 where
  pub ready : IsReady told node.keeper host
  pub ports : AllByRecursion (λ s. 1 ≤ s.port) node.sessions.items

-- The forest holds the content, and whatever a stop leaves stands for its last view.
abbrev pub Holds : Store → Keeper → HostState → Type 0
Holds content keeper host = ForestHolds content keeper.forest host

-- a stop leaves a sound image, which stands for the last view
abbrev pub LeavesLast : Store → Files → Type 0
LeavesLast content disk = IsSound disk × IsLeft content.last disk

-- a session has read this stream
pub record HasRead (session : Session) (stream : List ℕ) : Type 0 where
  pub messages : List Message
  pub stands : StandsFor session.reader stream messages
  pub fault : session.faulted ≡ is_faulted session.reader

-- a session is that of this stream, and has read it
abbrev pub IsSession : Session → Stream → Type 0
IsSession session stream = (session.port ≡ stream.port) × HasRead session stream.stream

-- the sessions are those of these streams, in order
abbrev pub AreSessions : List Session → List Stream → Type 0
AreSessions [] [] = Unit {0}
AreSessions [] (stream ∷ streams) = ⊥
AreSessions (session ∷ sessions) [] = ⊥
AreSessions (session ∷ sessions) (stream ∷ streams) = IsSession session stream × AreSessions sessions streams

-- where the first session is whose port isn't below this one
abbrev pub place_of : List Session → ℕ → ℕ
place_of [] port = zero
place_of (session ∷ sessions) port = if nat_lt session.port port then suc (place_of sessions port) else zero

-- The node holds the world's content, its sessions have read those of the world, and it keeps no stop.
pub record Stands (node : Node) (world : World) (host : HostState) : Type 0 where
  pub fresh : node.stop ≡ None
  pub holds : Holds world.content node.keeper host
  pub sessions : AreSessions node.sessions.items world.sessions

-- From start on no turn was taken, and these were told.
pub record Tells (start mark : Mark) (tellings : List Telling) : Type 0 where
  pub turns_are : mark.turns ≡ start.turns
  pub tellings_are : mark.tellings ≡ start.tellings ++ tellings

-- within the answer to a turn: a part of it was told
pub record InAct (world : World) (turn : Taken) (start mark : Mark) : Type 0 where
  pub tellings : List Telling
  pub tells : Tells start mark tellings
  pub next : World
  pub answer : List Reply
  pub gives : Gives world turn next answer
  pub part : (port : ℕ) → Begins (told_to port tellings) (bytes_at port answer)
  pub console : told_to 0 tellings ≡ []

-- A stop leaves a sound image and a view: one that the turn found or takes, no older than the one it found, and than those
-- confirmed.
pub record IsLeftIn (content next : Store) (answer : List Reply) (told : ℕ → ℕ) (disk : Files) : Type 0 where
  pub view : View
  pub sound : IsSound disk
  pub stands : IsLeft view disk
  pub taken : IsIn view (views_of next)
  pub recent : content.last.number ≤ view.number
  pub confirmed : (port : ℕ) → Confirms port (told port) view.number answer

-- the same, and what a stop leaves meanwhile
pub record LeavesInAct (world : World) (turn : Taken) (start mark : Mark) (disk : Files) : Type 0 where
  pub acting : InAct world turn start mark
  pub left : IsLeftIn world.content acting.next.content acting.answer (λ port. length (told_to port acting.tellings)) disk

-- after it: all of it was told, and the node stands for the next world
pub record AfterAct (world : World) (turn : Taken) (start mark : Mark) (node : Node) (host : HostState) : Type 0 where
  pub tellings : List Telling
  pub tells : Tells start mark tellings
  pub next : World
  pub answer : List Reply
  pub gives : Gives world turn next answer
  pub all : (port : ℕ) → told_to port tellings ≡ bytes_at port answer
  pub console : told_to 0 tellings ≡ []
  pub stands : Stands node next host

-- The turn wears the store, and the stop tells so.
pub record Wears (world : World) (turn : Taken) (stop : Stop) : Type 0 where
  pub next : World
  pub answer : List Reply
  pub gives : Gives world turn next answer
  pub worn : IsWornBy next.content stop

-- within the answer to the end of a session: nothing of it was told, or all
pub record InEnd (port : ℕ) (stream : List ℕ) (start mark : Mark) : Type 0 where
  pub reply : List ℕ
  pub gives : EndGives stream reply
  pub told : (mark ≡ start) ⊎ Told start mark port reply

-- after it: all of it was told
pub record AfterEnd (port : ℕ) (stream : List ℕ) (start mark : Mark) : Type 0 where
  pub reply : List ℕ
  pub gives : EndGives stream reply
  pub told : Told start mark port reply

-- within the answers to the ends of sessions: a part of them was told
pub record InEnds (streams : List Stream) (start mark : Mark) : Type 0 where
  pub tellings : List Telling
  pub tells : Tells start mark tellings
  pub replies : List Reply
  pub ends : AllEnd streams replies
  pub part : (port : ℕ) → Begins (told_to port tellings) (bytes_at port replies)
  pub console : told_to 0 tellings ≡ []

-- after them: all was told
pub record AfterEnds (streams : List Stream) (start mark : Mark) : Type 0 where
  pub tellings : List Telling
  pub tells : Tells start mark tellings
  pub replies : List Reply
  pub ends : AllEnd streams replies
  pub all : (port : ℕ) → told_to port tellings ≡ bytes_at port replies
  pub console : told_to 0 tellings ≡ []

-- within a turn: it was taken, and a part of its answer told
pub record InTurn (world : World) (start mark : Mark) : Type 0 where
  pub taking : Taken
  pub taken : Mark
  pub turns_are : taken.turns ≡ start.turns ++ taking ∷ []
  pub tellings_are : taken.tellings ≡ start.tellings
  pub acting : InAct world taking taken mark

pub record LeavesInTurn (world : World) (start mark : Mark) (disk : Files) : Type 0 where
  pub taking : Taken
  pub taken : Mark
  pub turns_are : taken.turns ≡ start.turns ++ taking ∷ []
  pub tellings_are : taken.tellings ≡ start.tellings
  pub acting : LeavesInAct world taking taken mark disk

-- only `Done` ends the turns
abbrev pub went_after : Turn → Went
went_after (turn.Bytes port n) = More
went_after (turn.End port) = More
went_after turn.Idle = More
went_after turn.Done = went.Done

abbrev pub went_of : Taken → Went
went_of (piece port bytes) = More
went_of (ended port) = More
went_of idle = More
went_of done = went.Done

-- one turn was taken
abbrev pub TakesOne : Mark → Mark → Type 0
TakesOne start mark = (turn : Taken) × (mark.turns ≡ start.turns ++ turn ∷ [])

-- One turn was taken, and this tells whether it was `Done`.
pub record TakesTurn (start mark : Mark) (went : Went) : Type 0 where
  pub turn : Taken
  pub turns_are : mark.turns ≡ start.turns ++ turn ∷ []
  pub went_is : went ≡ went_of turn

-- After a turn was acted on. What `Done` asks for isn't done yet.
abbrev pub AfterTaken : World → Taken → Mark → Mark → Node → HostState → Type 0
AfterTaken world (piece port bytes) start mark node host = AfterAct world (piece port bytes) start mark node host
AfterTaken world (ended port) start mark node host = AfterAct world (ended port) start mark node host
AfterTaken world idle start mark node host = AfterAct world idle start mark node host
AfterTaken world done start mark node host = (mark ≡ start) × Stands node world host

-- after a turn
pub record AfterTurn (world : World) (start mark : Mark) (node : Node) (host : HostState) (went : Went) : Type 0 where
  pub taking : Taken
  pub taken : Mark
  pub turns_are : taken.turns ≡ start.turns ++ taking ∷ []
  pub tellings_are : taken.tellings ≡ start.tellings
  pub acted : AfterTaken world taking taken mark node host
  pub went_is : went ≡ went_of taking

-- a turn that was taken wears the store, and the stop tells so
pub record WearsIn (world : World) (start mark : Mark) (stop : Stop) : Type 0 where
  pub taking : Taken
  pub turns_are : mark.turns ≡ start.turns ++ taking ∷ []
  pub tellings : List Telling
  pub tellings_are : mark.tellings ≡ start.tellings ++ tellings
  pub wears : Wears world taking stop

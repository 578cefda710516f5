-- How far a session has come in a piece.
use Rattle.std.specs.Prelude.{ℕ, ◌≡◌, ◌⊎◌, ◌++◌, ◌==◌, if◌then◌else◌, List, [], length}
use Rattle.ak_base.specs.declared.stop.Stop.{Stop}
use Rattle.ak_host.specs.Files.{Files}
use Rattle.ak_host.specs.Marks.{Mark}
use Rattle.ak_host.specs.Moments.{HostState}
use Rattle.ak_resp.specs.declared.message.Message.{Message}
use Rattle.ak_resp.specs.declared.resp.Resp.{Resp}
use Rattle.ak_resp.specs.Standing.{StandsFor, is_faulted}
use Rattle.ak_run.specs.declared.asked.Asked.{Asked}
use Rattle.ak_run.specs.Asking.{AllAsk}
use Rattle.ak_run.specs.Contents.{after, after_all}
use Rattle.ak_run.specs.Replies.{Reply, reply_to, replies_to, bytes_at}
use Rattle.ak_run.specs.Run.{PieceGives}
use Rattle.ak_node.specs.declared.keeper.Keeper.{Keeper}
use Rattle.ak_node.specs.declared.session.Session.{Session}
use Rattle.ak_node.specs.Calls.{Told, Begins}
use Rattle.ak_node.specs.Standing.{Holds, IsLeftIn, LeavesLast}
use Rattle.ak_tree.specs.Stops.{IsWornBy}
use Rattle.ak_tree.specs.Storing.{LeavesView}
use Rattle.ak_world.specs.Worlds.{World as Store, limits_of}

-- within the answer to what is asked at a port: nothing of it was told, or all
abbrev pub InAnswer : ℕ → Store → Asked → Mark → Mark → Type 0
InAnswer port content a start mark = (mark ≡ start) ⊎ Told start mark port (reply_to port content a).bytes

-- Meanwhile a stop leaves a view that was found or is taken, while nothing was told, and then the last one.
abbrev pub LeavesInAnswer : ℕ → Store → Asked → Mark → Mark → Files → Type 0
LeavesInAnswer port content a start mark disk = ((mark ≡ start) × LeavesView content (after content a) disk)
    ⊎ (InAnswer port content a start mark × LeavesLast (after content a) disk)

-- What stood as the piece began: the session's port, its reader and the stream that it had read, the content, and the
-- mark.
pub record Begun : Type 0 where
  pub port : ℕ
  pub reader : Resp
  pub stream : List ℕ
  pub messages : List Message
  pub content : Store
  pub mark : Mark
  pub stands : StandsFor reader stream messages

-- The session has read the row, some messages acted, and all that they are answered was told.
pub record ReadsOn (begun : Begun) (keeper : Keeper) (session : Session) (row : List ℕ) (mark : Mark) (host : HostState) : Type 0 where
  pub acting : List Message
  pub asked : List Asked
  pub asks : AllAsk (limits_of begun.content).scale acting asked
  pub port : session.port ≡ begun.port
  pub stands : StandsFor session.reader row (begun.messages ++ acting)
  pub holds : Holds (after_all begun.content asked) keeper host
  pub told : Told begun.mark mark begun.port (bytes_at begun.port (replies_to begun.port begun.content asked))
  pub fault : session.faulted ≡ is_faulted session.reader
  pub same : is_faulted session.reader ≡ is_faulted begun.reader

-- within the answer to a piece: a part of it was told
pub record InPiece (begun : Begun) (bytes : List ℕ) (mark : Mark) : Type 0 where
  pub next : Store
  pub replies : List Reply
  pub gives : PieceGives begun.port begun.content begun.stream bytes next replies
  pub part : List ℕ
  pub told : Told begun.mark mark begun.port part
  pub begins : Begins part (bytes_at begun.port replies)

-- the same, and what a stop leaves meanwhile
pub record LeavesInPiece (begun : Begun) (bytes : List ℕ) (mark : Mark) (disk : Files) : Type 0 where
  pub acting : InPiece begun bytes mark
  pub left : IsLeftIn begun.content acting.next acting.replies (λ port. length (if begun.port == port then acting.part else [])) disk

-- after it: the session has read the stream and the piece, and all was told
pub record AfterPiece (begun : Begun) (bytes : List ℕ) (keeper : Keeper) (session : Session) (mark : Mark) (host : HostState) : Type 0 where
  pub next : Store
  pub replies : List Reply
  pub gives : PieceGives begun.port begun.content begun.stream bytes next replies
  pub told : Told begun.mark mark begun.port (bytes_at begun.port replies)
  pub holds : Holds next keeper host
  pub messages : List Message
  pub port : session.port ≡ begun.port
  pub stands : StandsFor session.reader (begun.stream ++ bytes) messages
  pub fault : session.faulted ≡ is_faulted session.reader

-- the piece wears the store, and the stop tells so
pub record WearsPiece (begun : Begun) (bytes : List ℕ) (stop : Stop) : Type 0 where
  pub next : Store
  pub replies : List Reply
  pub gives : PieceGives begun.port begun.content begun.stream bytes next replies
  pub worn : IsWornBy next stop

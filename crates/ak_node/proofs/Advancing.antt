-- A put of a known series is a message of the piece, and is answered.
use Rattle.std.proofs.Common.{◌≡◌, ◌∙◌, ℕ, ◌+◌, List, [], ◌∷◌, ◌++◌, take, Some, Ok, Err, refl, sym, ap, subst}
use Rattle.std.proofs.lemmas.Bool.{false≢true}
use Rattle.ak_base.specs.declared.refusal.Refusal.{Refusal}
use Rattle.ak_base.specs.declared.stop.Stop.{Stop}
use Rattle.ak_host.specs.Files.{Files}
use Rattle.ak_host.specs.Marks.{Mark}
use Rattle.ak_host.specs.Moments.{HostState}
use Rattle.ak_resp.specs.declared.message.RespError.TheVariants.{Refused}
use Rattle.ak_resp.specs.declared.resp.Resp.{Resp}
use Rattle.ak_resp.specs.Standing.{refusal_of, is_refused, passed}
use Rattle.ak_run.specs.declared.asked.Asked.{Asked}
use Rattle.ak_run.specs.declared.asked.Asked.TheVariants.{Points}
use Rattle.ak_run.specs.Contents.{after}
use Rattle.ak_run.specs.Replies.{reply_to}
use Rattle.ak_tree.specs.Stops.{IsWornBy}
use Rattle.ak_world.specs.Worlds.{World as Store}
use Rattle.ak_node.specs.declared.keeper.Keeper.{Keeper}
use Rattle.ak_node.specs.declared.session.Session.{Session}
use Rattle.ak_node.specs.declared.taken.KnownPut.{KnownPut}
use Rattle.ak_node.specs.Calls.{Told}
use Rattle.ak_node.specs.Pieces.{Begun, ReadsOn, InAnswer, LeavesInAnswer, InPiece, LeavesInPiece, WearsPiece}
use Rattle.ak_node.specs.Standing.{Holds}
use Rattle.ak_node.specs.Taken.{IsKnownPut}
use Rattle.ak_node.proofs.Steps.{asked_same, asked_of, asks_held, held, after_message, message_moment, message_leaves, message_wears}

module _ (begun : Begun) (piece : List ℕ) (keeper : Keeper) (session : Session) (k : ℕ) (before : Mark) (old : HostState) (at : ReadsOn begun keeper session (begun.stream ++ take k piece) before old)
    (known : KnownPut) (is : IsKnownPut keeper session.reader piece k known) where
  -- the reader behind it
  abbrev behind : Resp
  behind = passed session.reader known.length

  -- where it ends
  abbrev end : ℕ
  end = k + known.length

  -- what the store held
  abbrev pub held_here : Store
  held_here = held begun piece keeper session k end before old at behind

  -- what it asks for
  abbrev pub asked_here : Asked
  asked_here = Points (is.name ∷ []) known.point.ts (known.point.value ∷ [])

  same : asked_here ≡ asked_of begun is.message
  same =
      asked_same held_here keeper old is.message asked_here (asked_of begun is.message) at.holds is.asks (asks_held begun piece keeper session k end before old at behind is.message)

  -- no fault was met before
  no_fault : (f : Refusal) → refusal_of session.reader ≡ Some f → (Ok (Some is.message) ≡ Err (Refused f)) × (behind ≡ session.reader) × (end ≡ k)
  no_fault f fault = absurd (false≢true (sym is.sound ∙ ap is_refused fault))

  pub known_after : (next : Keeper) (after_mark : Mark) (after_host : HostState) → Holds (after held_here asked_here) next after_host → Told before after_mark session.port (reply_to session.port held_here asked_here).bytes
      → ReadsOn begun next (record session { reader = behind }) (begun.stream ++ take end piece) after_mark after_host
  known_after next after_mark after_host holds told =
      after_message begun piece keeper session k end before old at behind is.message (Some is.message) refl (λ row ms s. is.stands row ms s) (λ f fault. no_fault f fault) is.sound next after_mark after_host
      (subst (λ (a : Asked). Holds (after held_here a) next after_host) same holds)
      (subst (λ (a : Asked). Told before after_mark session.port (reply_to session.port held_here a).bytes) same told)

  pub known_moment : (mark : Mark) → InAnswer session.port held_here asked_here before mark → InPiece begun piece mark
  known_moment mark in_answer =
      message_moment begun piece keeper session k end before old at behind is.message (Some is.message) refl (λ row ms s. is.stands row ms s) (λ f fault. no_fault f fault) is.sound mark
      (subst (λ (a : Asked). InAnswer session.port held_here a before mark) same in_answer)

  pub known_leaves : (mark : Mark) (disk : Files) → LeavesInAnswer session.port held_here asked_here before mark disk → LeavesInPiece begun piece mark disk
  known_leaves mark disk leaves =
      message_leaves begun piece keeper session k end before old at behind is.message (Some is.message) refl (λ row ms s. is.stands row ms s) (λ f fault. no_fault f fault) is.sound mark disk
      (subst (λ (a : Asked). LeavesInAnswer session.port held_here a before mark disk) same leaves)

  pub known_wears : (stop : Stop) → IsWornBy (after held_here asked_here) stop → WearsPiece begun piece stop
  known_wears stop worn =
      message_wears begun piece keeper session k end before old at behind is.message (Some is.message) refl (λ row ms s. is.stands row ms s) stop
      (subst (λ (a : Asked). IsWornBy (after held_here a) stop) same worn)

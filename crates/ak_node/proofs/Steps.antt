-- What one answer of the reader does to how far a session has come.
use Rattle.std.proofs.Common.{◌≡◌, ◌⊎◌, inl, inr, ℕ, ◌≤◌, true, false, List, [], ◌∷◌, ◌++◌, length, take, drop, take-append-drop, Option, Some, None, Result, Ok, Err, refl, sym, ◌∙◌, ap, subst, append_assoc, arith}
use Rattle.std.proofs.lemmas.List.{take_all, append-nil}
use Rattle.ak_base.specs.declared.limits.Limits.{Limits}
use Rattle.ak_base.specs.declared.refusal.Refusal.{Refusal}
use Rattle.ak_base.specs.declared.stop.Stop.{Stop}
use Rattle.ak_host.specs.Files.{Files}
use Rattle.ak_host.specs.Marks.{Mark}
use Rattle.ak_host.specs.Moments.{HostState, LeavesNow}
use Rattle.ak_meta.specs.Contents.{Content}
use Rattle.ak_resp.specs.declared.message.Message.{Message}
use Rattle.ak_resp.specs.declared.message.RespError.{RespError}
use Rattle.ak_resp.specs.declared.message.RespError.TheVariants.{Refused}
use Rattle.ak_resp.specs.declared.resp.Resp.{Resp}
use Rattle.ak_resp.specs.Standing.{StandsFor, StandsAfter, TellsFault, OnNone, refusal_of, is_refused, is_faulted}
use Rattle.ak_resp.proofs.Readers.{reads_on, fault_stays}
use Rattle.ak_run.specs.declared.asked.Asked.{Asked}
use Rattle.ak_run.specs.Asking.{Asks, AllAsk}
use Rattle.ak_run.specs.Contents.{after, after_all}
use Rattle.ak_run.specs.Replies.{reply_to, replies_to, refusal_reply, bytes_at}
use Rattle.ak_run.proofs.Confirming.{confirms_all}
use Rattle.ak_run.proofs.EveryAsking.{every_all}
use Rattle.ak_run.proofs.Growing.{after_all-append, last_in, rises, limits_stay}
use Rattle.ak_run.proofs.OneAsking.{one_asking}
use Rattle.ak_run.proofs.Turns.{gives_confirms, gives_rises}
use Rattle.ak_tree.specs.Stops.{IsWornBy}
use Rattle.ak_world.specs.Views.{IsIn}
use Rattle.ak_world.specs.Worlds.{World as Store, views_of, limits_of}
use Rattle.ak_node.specs.declared.keeper.Keeper.{Keeper}
use Rattle.ak_node.specs.declared.session.Session.{Session}
use Rattle.ak_node.specs.Calls.{Told}
use Rattle.ak_node.specs.Pieces.{InAnswer, LeavesInAnswer, Begun, ReadsOn, InPiece, LeavesInPiece, AfterPiece, WearsPiece}
use Rattle.ak_node.specs.Queries.{IsNoQuery, AreNoQueries}
use Rattle.ak_node.specs.Standing.{Holds}
use Rattle.ak_node.proofs.Pieces.{Heard, heard_all, Whole, whole_piece, in_whole, leaves_whole, wears_whole, reads_message, read_all, read_fault, asks_more, answered_more}
use Rattle.ak_node.proofs.Querying.{none_within}
use Rattle.ak_node.proofs.Staying.{left_last}
use Rattle.ak_node.proofs.Tellings.{told_more, begins_all}

abbrev Answer : Type 0
Answer = Result (Option Message) RespError

-- what the reader's clause says, for every row
abbrev Reads : Resp → Resp → List ℕ → List ℕ → Answer → Type 0
Reads old new a b result = (row : List ℕ) (messages : List Message) → StandsFor old (row ++ a) messages → StandsAfter new (row ++ b) messages result

abbrev Kept : Resp → Resp → ℕ → ℕ → Answer → Type 0
Kept old new a b result = (f : Refusal) → refusal_of old ≡ Some f → (result ≡ Err (Refused f)) × (new ≡ old) × (b ≡ a)

some_refusal : (o : Option Refusal) → is_refused o ≡ true → (f : Refusal) × (o ≡ Some f)
some_refusal (Some f) is = (f, refl)
some_refusal None is = cc

not_refused : (o : Option Refusal) → ((f : Refusal) → o ≡ Some f → ⊥) → is_refused o ≡ false
not_refused None none = refl
not_refused (Some f) none = absurd (none f refl)

pub was_sound : {old new : Resp} {a b : ℕ} (o : Option Message) → Kept old new a b (Ok o) → is_faulted old ≡ false
was_sound {old} o kept = not_refused (refusal_of old) (λ f is. let k = (kept f is).0 in cc)

pub to_whole : (stream piece : List ℕ) (k : ℕ) → (stream ++ take k piece) ++ drop k piece ≡ stream ++ piece
to_whole stream piece k = append_assoc stream (take k piece) (drop k piece) ∙ ap (λ (l : List ℕ). stream ++ l) (take-append-drop k piece)

-- ---- What a message asks for

pub some_asking : (scale : ℕ) (m : Message) → (a : Asked) × Asks scale m a
some_asking scale m = by (every_all scale (m ∷ []))
  where
    by : (asked : List Asked) × AllAsk scale (m ∷ []) asked → (a : Asked) × Asks scale m a
    by (asked, (first, others, is, asks, rest)) = (first, asks)

-- what it asks for in the scale of the store is what it asks for in that of the content
pub asked_same : (content : Store) (keeper : Keeper) (host : HostState) (m : Message) (got asked : Asked) → Holds content keeper host → Asks keeper.forest.meta.limits.scale m got → Asks (limits_of content).scale m asked → got ≡ asked
asked_same content keeper host m got asked holds g h =
    let limits : keeper.forest.meta.limits ≡ limits_of content = ap (λ (c : Content). c.limits) holds.keeps.content_is in
    one_asking (limits_of content).scale m got asked (subst (λ (l : Limits). Asks l.scale m got) limits g) h

-- ---- What a piece gives

-- all that a piece is answered was told, and a stop leaves the last view
pub after_in_piece : {begun : Begun} {bytes : List ℕ} {keeper : Keeper} {session : Session} {mark : Mark} {host : HostState} → AfterPiece begun bytes keeper session mark host → InPiece begun bytes mark
after_in_piece {begun} after = record {
  next = after.next;
  replies = after.replies;
  gives = after.gives;
  part = bytes_at begun.port after.replies;
  told = after.told;
  begins = begins_all (bytes_at begun.port after.replies);
}

pub after_leaves_piece : {begun : Begun} {bytes : List ℕ} {keeper : Keeper} {session : Session} {mark : Mark} {host : HostState} (after : AfterPiece begun bytes keeper session mark host) (disk : Files)
    → LeavesNow host disk → LeavesInPiece begun bytes mark disk
after_leaves_piece {begun} {bytes} {keeper} {session} {mark} {host} after disk left = record {
  acting = record {
    next = after.next;
    replies = after.replies;
    gives = after.gives;
    part = bytes_at begun.port after.replies;
    told = after.told;
    begins = begins_all (bytes_at begun.port after.replies);
  };
  left = record {
    view = after.next.last;
    sound = (left_last after.next keeper host after.holds disk left).0;
    stands = (left_last after.next keeper host after.holds disk left).1;
    taken = last_in after.next;
    recent = gives_rises after.gives;
    confirmed = λ at. confirms_all at _ after.next.last.number after.replies (gives_confirms after.gives);
  };
}

-- what a message of the piece asks for
abbrev pub asked_of : Begun → Message → Asked
asked_of begun m = (some_asking (limits_of begun.content).scale m).0

module _ (begun : Begun) (piece : List ℕ) (keeper : Keeper) (session : Session) (k j : ℕ) (before : Mark) (old : HostState) (at : ReadsOn begun keeper session (begun.stream ++ take k piece) before old) (new : Resp) where
  -- what the store held as the message was read
  abbrev pub held : Store
  held = after_all begun.content at.asked

  -- all that was answered so far
  abbrev answered : List ℕ
  answered = bytes_at begun.port (replies_to begun.port begun.content at.asked)

  told_here : (mark : Mark) → mark ≡ before → Told begun.mark mark begun.port answered
  told_here mark same = subst (λ (x : Mark). Told begun.mark x begun.port answered) (sym same) at.told

  -- what is told at the port of the session is told at that of the piece
  told_at : (mark : Mark) (bytes : List ℕ) → Told before mark session.port bytes → Told before mark begun.port bytes
  told_at mark bytes told = subst (λ (p : ℕ). Told before mark p bytes) at.port told

  pub asks_held : (m : Message) → Asks (limits_of held).scale m (asked_of begun m)
  asks_held m = subst (λ (l : Limits). Asks l.scale m (asked_of begun m)) (sym (limits_stay begun.content at.asked)) (some_asking (limits_of begun.content).scale m).1

  module _ (m : Message) (o : Option Message) (is : o ≡ Some m) (reads : Reads session.reader new (take k piece) (take j piece) (Ok o)) where
    abbrev asked_now : Asked
    asked_now = asked_of begun m

    asks_now : Asks (limits_of begun.content).scale m asked_now
    asks_now = (some_asking (limits_of begun.content).scale m).1

    next_stands : (ms : List Message) → StandsFor session.reader (begun.stream ++ take k piece) ms → StandsFor new (begun.stream ++ take j piece) (ms ++ m ∷ [])
    next_stands ms s = subst (λ x. StandsAfter new (begun.stream ++ take j piece) ms (Ok x)) is (reads begun.stream ms s)

    -- a message was read, and answered
    pub after_message : Kept session.reader new k j (Ok o) → TellsFault new (Ok o)
        → (next : Keeper) (after_mark : Mark) (after_host : HostState) → Holds (after held asked_now) next after_host → Told before after_mark session.port (reply_to session.port held asked_now).bytes
        → ReadsOn begun next (record session { reader = new }) (begun.stream ++ take j piece) after_mark after_host
    after_message kept fault next after_mark after_host holds told =
        reads_message m asked_now at asks_now next_stands (was_sound o kept) fault refl refl holds (subst (λ (p : ℕ). Told before after_mark p (reply_to p held asked_now).bytes) at.port told)

    heard : Heard begun new (begun.stream ++ take j piece) at.asked (asked_now ∷ []) before
    heard = record {
      acting = at.acting ++ m ∷ [];
      asks = asks_more (limits_of begun.content).scale at.acting m at.asked asked_now at.asks asks_now;
      stands = subst (StandsFor new (begun.stream ++ take j piece)) (append_assoc begun.messages at.acting (m ∷ [])) (next_stands (begun.messages ++ at.acting) at.stands);
      told = at.told;
    }

    whole : Whole begun piece at.asked (asked_now ∷ [])
    whole = whole_piece begun piece (drop j piece) (to_whole begun.stream piece j) heard

    module _ (kept : Kept session.reader new k j (Ok o)) (fault : TellsFault new (Ok o)) where
      -- the answer was told
      told_all : (mark : Mark) → Told before mark begun.port (reply_to begun.port held asked_now).bytes → Told begun.mark mark begun.port (bytes_at begun.port (replies_to begun.port begun.content (at.asked ++ asked_now ∷ [])))
      told_all mark told = subst (λ b. Told begun.mark mark begun.port b) (answered_more begun.port begun.content at.asked asked_now) (told_more at.told told)

      reads_all : (mark : Mark) → Told before mark begun.port (reply_to begun.port held asked_now).bytes → Heard begun new (begun.stream ++ take j piece) (at.asked ++ asked_now ∷ []) [] mark
      reads_all mark told = record {
        acting = heard.acting;
        asks = subst (AllAsk (limits_of begun.content).scale heard.acting) (sym (append-nil (at.asked ++ asked_now ∷ []))) heard.asks;
        stands = heard.stands;
        told = told_all mark told;
      }

      whole_told : (mark : Mark) → Told before mark begun.port (reply_to begun.port held asked_now).bytes → Whole begun piece (at.asked ++ asked_now ∷ []) []
      whole_told mark told = whole_piece begun piece (drop j piece) (to_whole begun.stream piece j) (reads_all mark told)

      held_after : after_all begun.content (at.asked ++ asked_now ∷ []) ≡ after held asked_now
      held_after = after_all-append begun.content at.asked (asked_now ∷ [])

      moment_at : (mark : Mark) → InAnswer begun.port held asked_now before mark → InPiece begun piece mark
      moment_at mark (inl same) = in_whole begun piece whole (told_here mark same)
      moment_at mark (inr told) = in_whole begun piece (whole_told mark told) (told_all mark told)

      pub message_moment : (mark : Mark) → InAnswer session.port held asked_now before mark → InPiece begun piece mark
      message_moment mark in_answer = moment_at mark (subst (λ (p : ℕ). InAnswer p held asked_now before mark) at.port in_answer)

      leaves_at : (mark : Mark) (disk : Files) → LeavesInAnswer begun.port held asked_now before mark disk → LeavesInPiece begun piece mark disk
      leaves_at mark disk (inl (same, left)) = leaves_whole begun piece whole (told_here mark same) left.view disk (left.sound, left.stands) left.taken left.recent
      leaves_at mark disk (inr (inl same, left)) =
          leaves_whole begun piece whole (told_here mark same) (after held asked_now).last disk left (last_in (after held asked_now)) (rises held asked_now)
      leaves_at mark disk (inr (inr told, left)) =
          leaves_whole begun piece (whole_told mark told) (told_all mark told) (after held asked_now).last disk left
          (subst (λ (c : Store). IsIn (after held asked_now).last (views_of c)) (sym held_after) (last_in (after held asked_now)))
          (subst (λ (c : Store). c.last.number ≤ (after held asked_now).last.number) (sym held_after) (omega arith))

      pub message_leaves : (mark : Mark) (disk : Files) → LeavesInAnswer session.port held asked_now before mark disk → LeavesInPiece begun piece mark disk
      message_leaves mark disk leaves = leaves_at mark disk (subst (λ (p : ℕ). LeavesInAnswer p held asked_now before mark disk) at.port leaves)

    pub message_wears : (stop : Stop) → IsWornBy (after held asked_now) stop → WearsPiece begun piece stop
    message_wears stop worn = wears_whole begun piece stop whole worn

    -- it is among those that act
    pub message_asks : AreNoQueries begun.stream piece → IsNoQuery m
    unfolding heard
    message_asks none =
        let on = reads_on new (begun.stream ++ take j piece) (drop j piece) (begun.messages ++ heard.acting) heard.stands in
        let last : StandsFor on.reader (begun.stream ++ piece) (begun.messages ++ (heard.acting ++ on.acting)) =
        subst (StandsFor on.reader (begun.stream ++ piece)) (append_assoc begun.messages heard.acting on.acting)
        (subst (λ l. StandsFor on.reader l ((begun.messages ++ heard.acting) ++ on.acting)) (to_whole begun.stream piece j) on.stands) in
        none_within at.acting on.acting m (none begun.messages (heard.acting ++ on.acting) begun.stands.rest last.rest begun.stands.splits last.splits)

  -- the piece is used up
  pub after_none : (o : Option Message) → o ≡ None → Reads session.reader new (take k piece) (take j piece) (Ok o) → Kept session.reader new k j (Ok o) → TellsFault new (Ok o)
      → OnNone (Ok o) (j ≡ length piece) → AfterPiece begun piece keeper (record session { reader = new }) before old
  after_none o is reads kept fault used =
      read_all piece at (λ ms s. subst (λ l. StandsFor new (begun.stream ++ l) ms) whole (subst (λ x. StandsAfter new (begun.stream ++ take j piece) ms (Ok x)) is (reads begun.stream ms s)))
      (fault ∙ sym (was_sound o kept)) refl refl
    where
      at_end : j ≡ length piece
      at_end = subst (λ x. OnNone (Ok x) (j ≡ length piece)) is used

      whole : take j piece ≡ piece
      whole = take_all j piece (omega (arith, at_end))

  -- a fault was met before, and was told then
  pub after_kept : (e : RespError) → Kept session.reader new k j (Err e) → session.faulted ≡ true → AfterPiece begun piece keeper (record session { reader = new }) before old
  after_kept e kept flag =
      let old = sym at.fault ∙ flag in
      let refusal = some_refusal (refusal_of session.reader) old in
      let same = (kept refusal.0 refusal.1).1 in
      read_all piece at
      (λ ms s. subst (λ r. StandsFor r (begun.stream ++ piece) ms) (sym same)
      (subst (λ l. StandsFor session.reader l ms) (to_whole begun.stream piece k) (fault_stays session.reader (begun.stream ++ take k piece) (drop k piece) ms old s)))
      (ap is_faulted same) refl refl

  -- a fault was met, and told
  pub after_fault : (f : Refusal) (e : RespError) → e ≡ Refused f → Reads session.reader new (take k piece) (take j piece) (Err e) → TellsFault new (Err e) → session.faulted ≡ false
      → (after_mark : Mark) (after_host : HostState) → Told before after_mark session.port (refusal_reply f) → Holds held keeper after_host
      → AfterPiece begun piece keeper (record { port = session.port; reader = new; faulted = true }) after_mark after_host
  after_fault f e is reads fault flag after_mark after_host told holds =
      let tells = subst (λ x. TellsFault new (Err x)) is fault in
      read_fault f piece (drop j piece) at (λ ms s. subst (λ x. StandsAfter new (begun.stream ++ take j piece) ms (Err x)) is (reads begun.stream ms s))
      (to_whole begun.stream piece j) (sym at.fault ∙ flag) tells.0 tells.1 refl refl (told_at after_mark (refusal_reply f) told) holds

  -- nothing of the next message was read
  whole_here : Whole begun piece at.asked []
  whole_here = whole_piece begun piece (drop k piece) (to_whole begun.stream piece k) (heard_all at)

  pub fault_moment : (f : Refusal) (e : RespError) → e ≡ Refused f → Reads session.reader new (take k piece) (take j piece) (Err e) → TellsFault new (Err e) → session.faulted ≡ false
      → (mark : Mark) → (mark ≡ before) ⊎ Told before mark session.port (refusal_reply f) → InPiece begun piece mark
  fault_moment f e is reads fault flag mark (inl same) = in_whole begun piece whole_here (told_here mark same)
  fault_moment f e is reads fault flag mark (inr told) = after_in_piece (after_fault f e is reads fault flag mark old told at.holds)

  pub fault_leaves : (f : Refusal) (e : RespError) → e ≡ Refused f → Reads session.reader new (take k piece) (take j piece) (Err e) → TellsFault new (Err e) → session.faulted ≡ false
      → (mark : Mark) (disk : Files) → (mark ≡ before) ⊎ Told before mark session.port (refusal_reply f) → LeavesNow old disk → LeavesInPiece begun piece mark disk
  fault_leaves f e is reads fault flag mark disk (inl same) left =
      leaves_whole begun piece whole_here (told_here mark same) held.last disk (left_last held keeper old at.holds disk left) (last_in held) (omega arith)
  fault_leaves f e is reads fault flag mark disk (inr told) left = after_leaves_piece (after_fault f e is reads fault flag mark old told at.holds) disk left

-- What a piece gives, from how far its session has come.
use Rattle.std.proofs.Common.{◌≡◌, ℕ, ◌+◌, ◌≤◌, Bool, true, false, ◌==◌, if◌then◌else◌, List, [], ◌∷◌, ◌++◌, length, Option, Some, None, refl, sym, ◌∙◌, ap, subst, append_assoc, arith}
use Rattle.std.proofs.lemmas.List.{append-nil}
use Rattle.ak_base.specs.declared.refusal.Refusal.{Refusal}
use Rattle.ak_host.specs.Files.{Files}
use Rattle.ak_host.specs.Marks.{Mark}
use Rattle.ak_host.specs.Moments.{HostState}
use Rattle.ak_resp.specs.declared.message.Message.{Message}
use Rattle.ak_resp.specs.declared.resp.Resp.{Resp}
use Rattle.ak_resp.specs.Standing.{StandsFor, refusal_of, is_refused, is_faulted}
use Rattle.ak_resp.proofs.Readers.{reads_on, fault_stays}
use Rattle.ak_base.specs.declared.stop.Stop.{Stop}
use Rattle.ak_image.specs.Images.{IsSound, StandsFor as IsLeft}
use Rattle.ak_run.specs.declared.asked.Asked.{Asked}
use Rattle.ak_run.specs.Asking.{Asks, AllAsk}
use Rattle.ak_run.specs.Contents.{after, after_all}
use Rattle.ak_run.specs.Keeping.{Confirms}
use Rattle.ak_run.specs.Replies.{Reply, reply_to, replies_to, refusal_reply, bytes_at}
use Rattle.ak_run.specs.Run.{PieceGives, to, fault_replies}
use Rattle.ak_run.proofs.EveryAsking.{every_all}
use Rattle.ak_run.proofs.Giving.{fault_from, piece_gives}
use Rattle.ak_run.proofs.Confirming.{confirms_front, confirms_none}
use Rattle.ak_run.proofs.Growing.{after_all-append, replies_to-append, bytes_at-append, stays_all, rises_all, worn_after, confirms_all_within, within_more, ports_are}
use Rattle.ak_tree.specs.Stops.{IsWornBy}
use Rattle.ak_tree.proofs.Telling.{told_same}
use Rattle.ak_world.specs.Views.{View, IsIn}
use Rattle.ak_world.specs.Worlds.{World as Store, views_of, limits_of}
use Rattle.ak_node.specs.declared.keeper.Keeper.{Keeper}
use Rattle.ak_node.specs.declared.session.Session.{Session}
use Rattle.ak_node.specs.Calls.{Told}
use Rattle.ak_node.specs.Pieces.{Begun, ReadsOn, InPiece, LeavesInPiece, AfterPiece, WearsPiece}
use Rattle.ak_node.specs.Standing.{Holds}
use Rattle.ak_node.proofs.Tellings.{told_more, same_port, at_port, to_is}

-- a worn store rests
pub worn_rests : (c : Store) (xs : List Asked) → c.worn ≡ true → after_all c xs ≡ c
worn_rests c [] worn = refl
worn_rests c (a ∷ xs) worn = ap (λ (d : Store). after_all d xs) (worn_after c a worn) ∙ worn_rests c xs worn

-- ---- What messages ask for, one row behind another

pub asks_append : (scale : ℕ) (ms ns : List Message) (xs ys : List Asked) → AllAsk scale ms xs → AllAsk scale ns ys → AllAsk scale (ms ++ ns) (xs ++ ys)
asks_append scale [] ns xs ys none more = subst (λ (l : List Asked). AllAsk scale ns (l ++ ys)) (sym none) more
asks_append scale (m ∷ ms) ns xs ys (first, others, is, asks, rest) more = (first, others ++ ys, ap (λ (l : List Asked). l ++ ys) is, asks, asks_append scale ms ns others ys rest more)

pub asks_more : (scale : ℕ) (ms : List Message) (m : Message) (xs : List Asked) (a : Asked) → AllAsk scale ms xs → Asks scale m a → AllAsk scale (ms ++ m ∷ []) (xs ++ a ∷ [])
asks_more scale ms m xs a all is = asks_append scale ms (m ∷ []) xs (a ∷ []) all (a, [], refl, is, refl)

-- ---- How far a session has come

-- The reader has read the row. Of what its messages ask for this is answered and told, and more was read.
pub record Heard (begun : Begun) (reader : Resp) (row : List ℕ) (done more : List Asked) (mark : Mark) : Type 0 where
  pub acting : List Message
  pub asks : AllAsk (limits_of begun.content).scale acting (done ++ more)
  pub stands : StandsFor reader row (begun.messages ++ acting)
  pub told : Told begun.mark mark begun.port (bytes_at begun.port (replies_to begun.port begun.content done))

pub heard_all : {begun : Begun} {keeper : Keeper} {session : Session} {row : List ℕ} {mark : Mark} {host : HostState} (at : ReadsOn begun keeper session row mark host) → Heard begun session.reader row at.asked [] mark
heard_all {begun} {keeper} {session} {row} at = record {
  acting = at.acting;
  asks = subst (AllAsk (limits_of begun.content).scale at.acting) (sym (append-nil at.asked)) at.asks;
  stands = at.stands;
  told = at.told;
}

pub record Whole (begun : Begun) (bytes : List ℕ) (done more : List Asked) : Type 0 where
  pub later : List Asked
  pub rest : List Reply
  pub gives : PieceGives begun.port begun.content begun.stream bytes (after_all begun.content (done ++ (more ++ later))) (replies_to begun.port begun.content done ++ rest)

append_assoc_replies : (xs ys zs : List Reply) → (xs ++ ys) ++ zs ≡ xs ++ (ys ++ zs)
append_assoc_replies xs ys zs = append_assoc xs ys zs

module _ (begun : Begun) (bytes : List ℕ) where
  -- what the whole piece gives
  pub whole_piece : {reader : Resp} {row : List ℕ} {done more : List Asked} {mark : Mark} (behind : List ℕ) → row ++ behind ≡ begun.stream ++ bytes → Heard begun reader row done more mark → Whole begun bytes done more
  whole_piece {reader} {row} {done} {more} {mark} behind whole at =
      let port = begun.port in
      let content = begun.content in
      let scale = (limits_of content).scale in
      let on = reads_on reader row behind (begun.messages ++ at.acting) at.stands in
      let later = every_all scale on.acting in
      let all : List Asked = done ++ (more ++ later.0) in
      let asks : AllAsk scale (at.acting ++ on.acting) all =
      subst (AllAsk scale (at.acting ++ on.acting)) (append_assoc done more later.0) (asks_append scale at.acting on.acting (done ++ more) later.0 at.asks later.1) in
      let last : StandsFor on.reader (begun.stream ++ bytes) (begun.messages ++ (at.acting ++ on.acting)) =
      subst (StandsFor on.reader (begun.stream ++ bytes)) (append_assoc begun.messages at.acting on.acting) (subst (λ l. StandsFor on.reader l ((begun.messages ++ at.acting) ++ on.acting)) whole on.stands) in
      let fault : List Reply = fault_replies port (after_all content all).worn (fault_from (is_faulted begun.reader) (refusal_of on.reader)) in
      record {
        later = later.0;
        rest = replies_to port (after_all content done) (more ++ later.0) ++ fault;
        gives = subst (PieceGives port content begun.stream bytes (after_all content all))
            (ap (λ (l : List Reply). l ++ fault) (replies_to-append port content done (more ++ later.0)) ∙ append_assoc_replies (replies_to port content done) (replies_to port (after_all content done) (more ++ later.0)) fault)
            (piece_gives port content begun.reader on.reader begun.stream bytes begun.messages (at.acting ++ on.acting) all asks begun.stands last);
      }

  abbrev pub in_whole : {done more : List Asked} {mark : Mark} → Whole begun bytes done more → Told begun.mark mark begun.port (bytes_at begun.port (replies_to begun.port begun.content done)) → InPiece begun bytes mark
  in_whole {done} {more} {mark} w told = record {
    next = after_all begun.content (done ++ (more ++ w.later));
    replies = replies_to begun.port begun.content done ++ w.rest;
    gives = w.gives;
    part = bytes_at begun.port (replies_to begun.port begun.content done);
    told = told;
    begins = record { rest = bytes_at begun.port w.rest; is = bytes_at-append begun.port (replies_to begun.port begun.content done) w.rest };
  }

  all_same : (done more later : List Asked) → after_all begun.content (done ++ (more ++ later)) ≡ after_all (after_all (after_all begun.content done) more) later
  all_same done more later = after_all-append begun.content done (more ++ later) ∙ after_all-append (after_all begun.content done) more later

  -- a stop leaves a view that is there once what was read is done, and that isn't older than those told
  pub leaves_whole : {done more : List Asked} {mark : Mark} (w : Whole begun bytes done more) → Told begun.mark mark begun.port (bytes_at begun.port (replies_to begun.port begun.content done))
      → (view : View) (disk : Files) → IsSound disk × IsLeft view disk → IsIn view (views_of (after_all (after_all begun.content done) more)) → (after_all begun.content done).last.number ≤ view.number
      → LeavesInPiece begun bytes mark disk
  leaves_whole {done} {more} {mark} w told view disk left is recent = record {
    acting = in_whole w told;
    left = record {
      view = view;
      sound = left.0;
      stands = left.1;
      taken = subst (λ (c : Store). IsIn view (views_of c)) (sym (all_same done more w.later)) (stays_all view (after_all (after_all begun.content done) more) w.later is);
      recent = omega (arith, rises_all begun.content done, recent);
      confirmed = λ at. subst (λ (n : ℕ). Confirms at n view.number (replies_to begun.port begun.content done ++ w.rest)) (told_same at)
          (confirms_front at 0 view.number (replies_to begun.port begun.content done) w.rest (within_more _ view.number (replies_to begun.port begun.content done) recent (confirms_all_within begun.port begun.content done)) (confirms_none at view.number w.rest));
    };
  }
    where
      told_same : (at : ℕ) → length (bytes_at at (replies_to begun.port begun.content done)) + 0 ≡ length (if begun.port == at then bytes_at begun.port (replies_to begun.port begun.content done) else [])
      told_same at =
          let none : length (bytes_at at (replies_to begun.port begun.content done)) + 0 ≡ length (bytes_at at (replies_to begun.port begun.content done)) = omega arith in
          none ∙ ap (λ (l : List ℕ). length l) (at_port begun.port at (replies_to begun.port begun.content done) (ports_are begun.port begun.content done))

  pub wears_whole : {done more : List Asked} (stop : Stop) → Whole begun bytes done more → IsWornBy (after_all (after_all begun.content done) more) stop → WearsPiece begun bytes stop
  wears_whole {done} {more} stop w worn = record {
    next = after_all begun.content (done ++ (more ++ w.later));
    replies = replies_to begun.port begun.content done ++ w.rest;
    gives = w.gives;
    worn = told_same (after_all (after_all begun.content done) more) (after_all begun.content (done ++ (more ++ w.later))) stop
        (λ worn. all_same done more w.later ∙ worn_rests (after_all (after_all begun.content done) more) w.later worn) worn;
  }

one_at : (port : ℕ) (r : Reply) → r.port ≡ port → r.bytes ≡ (if r.port == port then r.bytes else []) ++ []
one_at port r is =
    subst (λ (q : ℕ). r.bytes ≡ (if q == port then r.bytes else []) ++ []) (sym is) (sym (ap (λ (b : Bool). (if b then r.bytes else []) ++ []) (same_port port) ∙ append-nil r.bytes))

pub answered_more : (port : ℕ) (c : Store) (xs : List Asked) (a : Asked) → bytes_at port (replies_to port c xs) ++ (reply_to port (after_all c xs) a).bytes ≡ bytes_at port (replies_to port c (xs ++ a ∷ []))
answered_more port c xs a =
    ap (λ (l : List ℕ). bytes_at port (replies_to port c xs) ++ l) (one_at port (reply_to port (after_all c xs) a) (ports_are port (after_all c xs) (a ∷ [])).0)
    ∙ sym (bytes_at-append port (replies_to port c xs) (replies_to port (after_all c xs) (a ∷ [])))
    ∙ ap (bytes_at port) (sym (replies_to-append port c xs (a ∷ [])))

-- one message more, and its answer
pub reads_message : {begun : Begun} {keeper next : Keeper} {session later : Session} {row longer : List ℕ} {mark after_mark : Mark} {host after_host : HostState} (m : Message) (a : Asked)
    (at : ReadsOn begun keeper session row mark host) → Asks (limits_of begun.content).scale m a
    → ((messages : List Message) → StandsFor session.reader row messages → StandsFor later.reader longer (messages ++ m ∷ []))
    → is_faulted session.reader ≡ false → is_faulted later.reader ≡ false → later.faulted ≡ session.faulted → later.port ≡ session.port
    → Holds (after (after_all begun.content at.asked) a) next after_host → Told mark after_mark begun.port (reply_to begun.port (after_all begun.content at.asked) a).bytes
    → ReadsOn begun next later longer after_mark after_host
reads_message {begun} {keeper} {next} {session} {later} {row} {longer} {mark} {after_mark} {host} {after_host} m a at asks reads was is flag port holds told = record {
  acting = at.acting ++ m ∷ [];
  asked = at.asked ++ a ∷ [];
  asks = asks_more (limits_of begun.content).scale at.acting m at.asked a at.asks asks;
  port = port ∙ at.port;
  stands = subst (StandsFor later.reader longer) (append_assoc begun.messages at.acting (m ∷ [])) (reads (begun.messages ++ at.acting) at.stands);
  holds = subst (λ (c : Store). Holds c next after_host) (sym (after_all-append begun.content at.asked (a ∷ []))) holds;
  told = subst (λ bytes. Told begun.mark after_mark begun.port bytes) (answered_more begun.port begun.content at.asked a) (told_more at.told told);
  fault = flag ∙ at.fault ∙ was ∙ sym is;
  same = is ∙ sym was ∙ at.same;
}

-- ---- Faults

no_reply : (port : ℕ) (worn was : Bool) (o : Option Refusal) → is_refused o ≡ was → fault_replies port worn (fault_from was o) ≡ []
no_reply port worn true o e = refl
no_reply port worn false None e = refl
no_reply port worn false (Some f) e = cc

some_reply : (port : ℕ) (worn was : Bool) (o : Option Refusal) (f : Refusal) → was ≡ false → o ≡ Some f → worn ≡ false → fault_replies port worn (fault_from was o) ≡ to port (refusal_reply f)
some_reply port worn was o f old is sound =
    ap (λ (b : Bool). fault_replies port worn (fault_from b o)) old ∙ ap (λ (q : Option Refusal). fault_replies port worn q) is ∙ ap (λ (b : Bool). if b then [] else to port (refusal_reply f)) sound

-- the whole piece was read without a fault of its own
pub read_all : {begun : Begun} {keeper : Keeper} {session later : Session} {row : List ℕ} {mark : Mark} {host : HostState} (bytes : List ℕ) → ReadsOn begun keeper session row mark host
    → ((messages : List Message) → StandsFor session.reader row messages → StandsFor later.reader (begun.stream ++ bytes) messages)
    → is_faulted later.reader ≡ is_faulted session.reader → later.faulted ≡ session.faulted → later.port ≡ session.port
    → AfterPiece begun bytes keeper later mark host
read_all {begun} {keeper} {session} {later} {row} {mark} {host} bytes at reads same flag port = record {
  next = after_all begun.content at.asked;
  replies = replies_to begun.port begun.content at.asked;
  gives = subst (PieceGives begun.port begun.content begun.stream bytes (after_all begun.content at.asked)) no_fault
      (piece_gives begun.port begun.content begun.reader later.reader begun.stream bytes begun.messages at.acting at.asked at.asks begun.stands last);
  told = at.told;
  holds = at.holds;
  messages = begun.messages ++ at.acting;
  port = port ∙ at.port;
  stands = last;
  fault = flag ∙ at.fault ∙ sym same;
}
  where
    last : StandsFor later.reader (begun.stream ++ bytes) (begun.messages ++ at.acting)
    last = reads (begun.messages ++ at.acting) at.stands

    no_fault : replies_to begun.port begun.content at.asked ++ fault_replies begun.port (after_all begun.content at.asked).worn (fault_from (is_faulted begun.reader) (refusal_of later.reader)) ≡ replies_to begun.port begun.content at.asked
    no_fault = ap (λ (l : List Reply). replies_to begun.port begun.content at.asked ++ l) (no_reply begun.port (after_all begun.content at.asked).worn (is_faulted begun.reader) (refusal_of later.reader) (same ∙ at.same))
        ∙ append-nil (replies_to begun.port begun.content at.asked)

-- a fault was met, and told
pub read_fault : {begun : Begun} {keeper : Keeper} {session later : Session} {row longer : List ℕ} {mark after_mark : Mark} {host after_host : HostState} (f : Refusal) (bytes more : List ℕ) → (at : ReadsOn begun keeper session row mark host)
    → ((messages : List Message) → StandsFor session.reader row messages → StandsFor later.reader longer messages)
    → longer ++ more ≡ begun.stream ++ bytes
    → is_faulted session.reader ≡ false → is_faulted later.reader ≡ true → refusal_of later.reader ≡ Some f → later.faulted ≡ true → later.port ≡ session.port
    → Told mark after_mark begun.port (refusal_reply f)
    → Holds (after_all begun.content at.asked) keeper after_host
    → AfterPiece begun bytes keeper later after_mark after_host
read_fault {begun} {keeper} {session} {later} {row} {longer} {mark} {after_mark} {host} {after_host} f bytes more at reads whole was is refused flag port told holds = record {
  next = after_all begun.content at.asked;
  replies = replies_to begun.port begun.content at.asked ++ to begun.port (refusal_reply f);
  gives = subst (PieceGives begun.port begun.content begun.stream bytes (after_all begun.content at.asked)) fault
      (piece_gives begun.port begun.content begun.reader later.reader begun.stream bytes begun.messages at.acting at.asked at.asks begun.stands last);
  told = subst (λ b. Told begun.mark after_mark begun.port b) answered (told_more at.told told);
  holds = holds;
  messages = begun.messages ++ at.acting;
  port = port ∙ at.port;
  stands = last;
  fault = flag ∙ sym is;
}
  where
    last : StandsFor later.reader (begun.stream ++ bytes) (begun.messages ++ at.acting)
    last = subst (λ l. StandsFor later.reader l (begun.messages ++ at.acting)) whole (fault_stays later.reader longer more (begun.messages ++ at.acting) is (reads (begun.messages ++ at.acting) at.stands))

    fault : replies_to begun.port begun.content at.asked ++ fault_replies begun.port (after_all begun.content at.asked).worn (fault_from (is_faulted begun.reader) (refusal_of later.reader))
        ≡ replies_to begun.port begun.content at.asked ++ to begun.port (refusal_reply f)
    fault = ap (λ (l : List Reply). replies_to begun.port begun.content at.asked ++ l) (some_reply begun.port (after_all begun.content at.asked).worn (is_faulted begun.reader) (refusal_of later.reader) f (sym at.same ∙ was) refused at.holds.keeps.not_worn)

    answered : bytes_at begun.port (replies_to begun.port begun.content at.asked) ++ refusal_reply f ≡ bytes_at begun.port (replies_to begun.port begun.content at.asked ++ to begun.port (refusal_reply f))
    answered = ap (λ (l : List ℕ). bytes_at begun.port (replies_to begun.port begun.content at.asked) ++ l) (sym (to_is begun.port (refusal_reply f)))
        ∙ sym (bytes_at-append begun.port (replies_to begun.port begun.content at.asked) (to begun.port (refusal_reply f)))

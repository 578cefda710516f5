-- What a turn gives, from what its calls say.
use Rattle.std.proofs.Common.{◌≡◌, ◌↔◌, ◌⊎◌, inl, inr, ℕ, ◌+◌, ◌<◌, ◌≤◌, Bool, true, false, if◌then◌else◌, List, [], ◌∷◌, ◌++◌, length, take, drop, get_or, Option, Some, None, refl, sym, ◌∙◌, ap, subst, append_assoc, arith}
use Rattle.std.specs.List.{AllByRecursion}
use Rattle.std.proofs.lemmas.List.{append-nil, take_more, take-append-drop}
use Rattle.ak_base.specs.declared.refusal.Refusal.{Refusal}
use Rattle.ak_base.specs.declared.refusal.Refusal.TheVariants.{Cut, TooMany}
use Rattle.ak_base.specs.declared.stop.Stop.{Stop}
use Rattle.ak_host.specs.Files.{Files}
use Rattle.ak_host.specs.Marks.{Mark, Taken, piece, ended, idle, done, Telling, taken, after_turn, told_to}
use Rattle.ak_host.specs.Moments.{HostState, LeavesNow, Passes, PortPasses, mark_now}
use Rattle.ak_host.specs.declared.host.Turn.{Turn}
use Rattle.ak_host.specs.declared.host.Turn.TheVariants as turn
use Rattle.ak_host.proofs.Passing.{passes_weaker, goes_on, mark_holds}
use Rattle.ak_resp.specs.Standing.{StandsFor}
use Rattle.ak_run.specs.Keeping.{Confirms}
use Rattle.ak_run.specs.Replies.{Reply, refusal_reply, bytes_at}
use Rattle.ak_run.specs.Run.{World, to, fault_replies, Gives, PieceGives, EndGives, EndActs, AllEnd, IsOneTooMany, IsCut}
use Rattle.ak_run.specs.Sessions.{Session as Stream}
use Rattle.ak_run.specs.Sessions.{stream_at, with_session, without}
use Rattle.ak_run.proofs.Giving.{some_end}
use Rattle.ak_run.proofs.Confirming.{confirms_all, confirms_none}
use Rattle.ak_run.proofs.Growing.{all_append, bytes_at-append, confirms_within, last_in, ports_are}
use Rattle.ak_run.proofs.Turns.{some_turn, turn_stays}
use Rattle.ak_tree.specs.Stops.{IsWornBy}
use Rattle.ak_tree.specs.Storing.{LeavesView}
use Rattle.ak_world.specs.Steps.{flushed}
use Rattle.ak_world.specs.Worlds.{World as Store}
use Rattle.ak_node.specs.declared.keeper.Keeper.{Keeper}
use Rattle.ak_node.specs.declared.node.Node.{Node}
use Rattle.ak_node.specs.declared.session.Session.{Session}
use Rattle.ak_node.specs.declared.node.Went.{Went}
use Rattle.ak_node.specs.Calls.{Told, Begins}
use Rattle.ak_node.specs.Pieces.{Begun, ReadsOn, InPiece, LeavesInPiece, AfterPiece, WearsPiece}
use Rattle.ak_node.specs.Standing.{Holds, HasRead, IsSession, AreSessions, Stands, Tells, LeavesLast, InAct, LeavesInAct, AfterAct, Wears, InEnd, AfterEnd, InEnds, AfterEnds, InTurn, LeavesInTurn, AfterTaken, AfterTurn, WearsIn, went_after, went_of}
use Rattle.ak_node.proofs.Staying.{left_last}
use Rattle.ak_node.proofs.Sessions.{stream_of, stream_before, none_open, session_at, same_length, all_at}
use Rattle.ak_node.proofs.Tellings.{AreAt, told_to-append, told_nothing, begins_nothing, begins_all, part_of, all_of, not_console, to_is, to_at}

pub tells_nothing : (mark : Mark) → Tells mark mark []
tells_nothing mark = record { turns_are = refl; tellings_are = sym (append-nil mark.tellings) }

-- ---- Before anything is told of a turn

abbrev pub act_starts : (world : World) (turn : Taken) (mark : Mark) → InAct world turn mark mark
act_starts world turn mark = record {
  tellings = [];
  tells = tells_nothing mark;
  next = (some_turn world turn).next;
  answer = (some_turn world turn).replies;
  gives = (some_turn world turn).gives;
  part = λ port. begins_nothing (bytes_at port (some_turn world turn).replies);
  console = refl;
}

-- and a stop leaves the last view then
pub act_leaves_view : (world : World) (turn : Taken) (mark : Mark) (disk : Files) → LeavesLast world.content disk → LeavesInAct world turn mark mark disk
act_leaves_view world turn mark disk left = record {
  acting = act_starts world turn mark;
  left = record {
    view = world.content.last;
    sound = left.0;
    stands = left.1;
    taken = turn_stays world turn (some_turn world turn).next (some_turn world turn).replies (some_turn world turn).gives world.content.last (last_in world.content);
    recent = omega arith;
    confirmed = λ port. confirms_none port world.content.last.number (some_turn world turn).replies;
  };
}

-- ---- A piece

pub piece_at : {port : ℕ} {content next : Store} {stream bytes : List ℕ} {replies : List Reply} → PieceGives port content stream bytes next replies → AreAt port replies
piece_at {port} {content} {next} {stream} {bytes} {replies} g =
    subst (AreAt port) (sym g.replies_are) (all_append (λ r. r.port ≡ port) _ _ (ports_are port content g.asked) (fault_at next.worn g.fault))
  where
    fault_at : (worn : Bool) (o : Option Refusal) → AreAt port (fault_replies port worn o)
    fault_at true (Some f) = tt
    fault_at false (Some f) = (refl, tt)
    fault_at worn None = tt

-- what a session's piece began with
abbrev pub begun_of : (world : World) (port : ℕ) (session : Session) (mark : Mark) → HasRead session (stream_before world port) → Begun
begun_of world port session mark has = record { port = port; reader = session.reader; stream = stream_before world port; messages = has.messages; content = world.content; mark = mark; stands = has.stands }

pub begun_reads : (world : World) (port : ℕ) (keeper : Keeper) (session : Session) (mark : Mark) (host : HostState) (has : HasRead session (stream_before world port)) → session.port ≡ port → Holds world.content keeper host
    → ReadsOn (begun_of world port session mark has) keeper session (stream_before world port) mark host
begun_reads world port keeper session mark host has same holds = record {
  acting = [];
  asked = [];
  asks = refl;
  port = same;
  stands = subst (StandsFor session.reader (stream_before world port)) (sym (append-nil has.messages)) has.stands;
  holds = holds;
  told = told_nothing mark port;
  fault = has.fault;
  same = refl;
}

-- the world once a piece has come
abbrev pub piece_world : World → ℕ → List ℕ → Store → World
piece_world world port bytes next = record { content = next; sessions = with_session world.sessions (stream_of port (stream_before world port ++ bytes)) }

module _ (world : World) (port : ℕ) (bytes : List ℕ) (some : 1 ≤ port) (sound : world.content.worn ≡ false) (few : IsOneTooMany world port → ⊥) (session : Session) (start : Mark) (has : HasRead session (stream_before world port)) where
  pub piece_acts : (next : Store) (replies : List Reply) → PieceGives port world.content (stream_before world port) bytes next replies → Gives world (piece port bytes) (piece_world world port bytes next) replies
  piece_acts next replies gives = inr (sound, inr (few, record { gives = gives; sessions_are = refl }))

  abbrev pub piece_in_act : (mark : Mark) → InPiece (begun_of world port session start has) bytes mark → InAct world (piece port bytes) start mark
  piece_in_act mark p = record {
    tellings = p.told.tellings;
    tells = record { turns_are = p.told.turns_are; tellings_are = p.told.tellings_are };
    next = piece_world world port bytes p.next;
    answer = p.replies;
    gives = piece_acts p.next p.replies p.gives;
    part = part_of p.replies p.told (piece_at p.gives) p.begins;
    console = not_console p.told some;
  }

  pub piece_leaves_act : (mark : Mark) (disk : Files) → LeavesInPiece (begun_of world port session start has) bytes mark disk → LeavesInAct world (piece port bytes) start mark disk
  piece_leaves_act mark disk p = record {
    acting = piece_in_act mark p.acting;
    left = record {
      view = p.left.view;
      sound = p.left.sound;
      stands = p.left.stands;
      taken = p.left.taken;
      recent = p.left.recent;
      confirmed = λ at. subst (λ (l : List ℕ). Confirms at (length l) p.left.view.number p.acting.replies) (sym (p.acting.told.told at)) (p.left.confirmed at);
    };
  }

  pub piece_after_act : (node : Node) (later : Session) (mark : Mark) (host : HostState) → node.stop ≡ None → AfterPiece (begun_of world port session start has) bytes node.keeper later mark host
      → (HasRead later (stream_before world port ++ bytes) → AreSessions node.sessions.items (with_session world.sessions (stream_of port (stream_before world port ++ bytes))))
      → AfterAct world (piece port bytes) start mark node host
  piece_after_act node later mark host fresh p sessions = record {
    tellings = p.told.tellings;
    tells = record { turns_are = p.told.turns_are; tellings_are = p.told.tellings_are };
    next = piece_world world port bytes p.next;
    answer = p.replies;
    gives = piece_acts p.next p.replies p.gives;
    all = all_of p.replies p.told (piece_at p.gives) refl;
    console = not_console p.told some;
    stands = record { fresh = fresh; holds = p.holds; sessions = sessions (record { messages = p.messages; stands = p.stands; fault = p.fault }) };
  }

  pub piece_wears : (stop : Stop) → WearsPiece (begun_of world port session start has) bytes stop → Wears world (piece port bytes) stop
  piece_wears stop p = record { next = piece_world world port bytes p.next; answer = p.replies; gives = piece_acts p.next p.replies p.gives; worn = p.worn }

-- ---- Turns that change nothing

-- a turn that is answered this at a port
module _ (world : World) (turn : Taken) (port : ℕ) (reply : List ℕ) (some : 1 ≤ port) (gives : Gives world turn world (to port reply)) where
  abbrev pub other_in : (start mark : Mark) (x : List ℕ) → Told start mark port x → Begins x reply → InAct world turn start mark
  other_in start mark x told begins = record {
    tellings = told.tellings;
    tells = record { turns_are = told.turns_are; tellings_are = told.tellings_are };
    next = world;
    answer = to port reply;
    gives = gives;
    part = part_of (to port reply) told (to_at port reply) (subst (Begins x) (sym (to_is port reply)) begins);
    console = not_console told some;
  }

  pub other_leaves : (start mark : Mark) (disk : Files) (x : List ℕ) → Told start mark port x → Begins x reply → LeavesLast world.content disk → LeavesInAct world turn start mark disk
  other_leaves start mark disk x told begins left = record {
    acting = other_in start mark x told begins;
    left = record { view = world.content.last; sound = left.0; stands = left.1; taken = last_in world.content; recent = omega arith; confirmed = λ at. confirms_all at _ world.content.last.number (to port reply) (omega arith, tt) };
  }

  pub other_after : (node : Node) (start mark : Mark) (host : HostState) → Stands node world host → Told start mark port reply → AfterAct world turn start mark node host
  other_after node start mark host stands told = record {
    tellings = told.tellings;
    tells = record { turns_are = told.turns_are; tellings_are = told.tellings_are };
    next = world;
    answer = to port reply;
    gives = gives;
    all = all_of (to port reply) told (to_at port reply) (sym (to_is port reply));
    console = not_console told some;
    stands = stands;
  }

  pub other_moment : (start mark : Mark) → (mark ≡ start) ⊎ Told start mark port reply → InAct world turn start mark
  other_moment start mark (inl same) = subst (InAct world turn start) (sym same) (other_in start start [] (told_nothing start port) (begins_nothing reply))
  other_moment start mark (inr told) = other_in start mark reply told (begins_all reply)

  pub other_leaves_moment : (start mark : Mark) (disk : Files) → (mark ≡ start) ⊎ Told start mark port reply → LeavesLast world.content disk → LeavesInAct world turn start mark disk
  other_leaves_moment start mark disk (inl same) left = subst (λ (m : Mark). LeavesInAct world turn start m disk) (sym same) (other_leaves start start disk [] (told_nothing start port) (begins_nothing reply) left)
  other_leaves_moment start mark disk (inr told) left = other_leaves start mark disk reply told (begins_all reply) left

pub many_gives : (world : World) (port : ℕ) (bytes : List ℕ) → world.content.worn ≡ false → IsOneTooMany world port → Gives world (piece port bytes) world (to port (refusal_reply TooMany))
many_gives world port bytes sound many = inr (sound, inl (many, record { same = refl; told_is = refl }))

-- a turn that is answered nothing and changes nothing
pub quiet_after : (world : World) (node : Node) (turn : Taken) (mark : Mark) (host : HostState) → Gives world turn world [] → Stands node world host → AfterAct world turn mark mark node host
quiet_after world node turn mark host gives stands = record { tellings = []; tells = tells_nothing mark; next = world; answer = []; gives = gives; all = λ port. refl; console = refl; stands = stands }

pub no_end : (world : World) (port : ℕ) → world.content.worn ≡ false → (((bytes : List ℕ) × (stream_at world.sessions port ≡ Some bytes)) → ⊥) → Gives world (ended port) world []
no_end world port sound none = inr (sound, subst (λ (o : Option (List ℕ)). EndActs world port o world []) (sym (none_open (stream_at world.sessions port) none)) (record { same = refl; told_is = refl }))

pub no_idle : (world : World) → world.content.worn ≡ false → Gives world idle world []
no_idle world sound = inr (sound, record { same = refl; told_is = refl })

-- ---- The end of a session

pub cut_gives : (stream : List ℕ) (cut : Bool) → (cut ≡ true) ↔ IsCut stream → EndGives stream (if cut then refusal_reply Cut else [])
cut_gives stream cut is = (cut, is, refl)

abbrev pub ended_world : World → ℕ → World
ended_world world port = record { content = world.content; sessions = without world.sessions port }

module _ (world : World) (port : ℕ) (stream : List ℕ) (some : 1 ≤ port) (sound : world.content.worn ≡ false) (opened : stream_at world.sessions port ≡ Some stream) where
  pub end_gives : (reply : List ℕ) → EndGives stream reply → Gives world (ended port) (ended_world world port) (to port reply)
  end_gives reply gives =
      inr (sound, subst (λ (o : Option (List ℕ)). EndActs world port o (ended_world world port) (to port reply)) (sym opened) (record { reply = reply; gives = gives; content_is = refl; sessions_are = refl; told = refl }))

  -- what was told of the end, at a moment
  pub record EndPart (start mark : Mark) (reply : List ℕ) : Type 0 where
    pub part : List ℕ
    pub told : Told start mark port part
    pub begins : Begins part reply

  pub end_part : (start mark : Mark) (reply : List ℕ) → (mark ≡ start) ⊎ Told start mark port reply → EndPart start mark reply
  end_part start mark reply (inl same) = subst (λ (m : Mark). EndPart start m reply) (sym same) (record { part = []; told = told_nothing start port; begins = begins_nothing reply })
  end_part start mark reply (inr told) = record { part = reply; told = told; begins = begins_all reply }

  abbrev pub end_in_act : (start mark : Mark) → InEnd port stream start mark → InAct world (ended port) start mark
  end_in_act start mark e = record {
    tellings = (end_part start mark e.reply e.told).told.tellings;
    tells = record { turns_are = (end_part start mark e.reply e.told).told.turns_are; tellings_are = (end_part start mark e.reply e.told).told.tellings_are };
    next = ended_world world port;
    answer = to port e.reply;
    gives = end_gives e.reply e.gives;
    part = part_of (to port e.reply) (end_part start mark e.reply e.told).told (to_at port e.reply) (subst (Begins (end_part start mark e.reply e.told).part) (sym (to_is port e.reply)) (end_part start mark e.reply e.told).begins);
    console = not_console (end_part start mark e.reply e.told).told some;
  }

  pub end_leaves_act : (start mark : Mark) (disk : Files) → InEnd port stream start mark → LeavesLast world.content disk → LeavesInAct world (ended port) start mark disk
  end_leaves_act start mark disk e left = record {
    acting = end_in_act start mark e;
    left = record { view = world.content.last; sound = left.0; stands = left.1; taken = last_in world.content; recent = omega arith; confirmed = λ at. confirms_all at _ world.content.last.number (to port e.reply) (omega arith, tt) };
  }

  pub end_after_act : (start mark : Mark) (node : Node) (host : HostState) → AfterEnd port stream start mark → Stands node (ended_world world port) host → AfterAct world (ended port) start mark node host
  end_after_act start mark node host e stands = record {
    tellings = e.told.tellings;
    tells = record { turns_are = e.told.turns_are; tellings_are = e.told.tellings_are };
    next = ended_world world port;
    answer = to port e.reply;
    gives = end_gives e.reply e.gives;
    all = all_of (to port e.reply) e.told (to_at port e.reply) (sym (to_is port e.reply));
    console = not_console e.told some;
    stands = stands;
  }

-- ---- The ends of sessions

all_end_more : (xs ys : List Stream) (a b : List Reply) → AllEnd xs a → AllEnd ys b → AllEnd (xs ++ ys) (a ++ b)
all_end_more [] ys a b first second = subst (λ (l : List Reply). AllEnd ys (l ++ b)) (sym first) second
all_end_more (x ∷ xs) ys a b (reply, others, gives, rest, is) second =
    (reply, others ++ b, gives, all_end_more xs ys others b rest second, ap (λ (l : List Reply). l ++ b) is ∙ append_assoc (to x.port reply) others b)

some_ends : (ss : List Stream) → (replies : List Reply) × AllEnd ss replies
some_ends [] = ([], refl)
some_ends (s ∷ ss) =
    let first = some_end s.stream in
    let others = some_ends ss in
    (to s.port first.0 ++ others.0, (first.0, others.0, first.1, others.1, refl))

-- no end confirms a view
ends_confirm : (number : ℕ) (ss : List Stream) (replies : List Reply) → AllEnd ss replies → AllByRecursion (confirms_within number) replies
ends_confirm number [] replies e = subst (AllByRecursion (confirms_within number)) (sym e) tt
ends_confirm number (s ∷ ss) replies (reply, others, gives, all, is) = subst (AllByRecursion (confirms_within number)) (sym is) (omega arith, ends_confirm number ss others all)

pub some_port : (ss : List Session) (at : ℕ) (x : Session) → AllByRecursion (λ s. 1 ≤ s.port) ss → at < length ss → x ≡ get_or ss at x → 1 ≤ x.port
some_port ss at x all within is = subst (λ (s : Session). 1 ≤ s.port) (sym is) (all_at (λ s. 1 ≤ s.port) ss at x all within)

pub some_port_of : (ss : List Session) {zs : List Session} (port at : ℕ) (x : Session) → AllByRecursion (λ s. 1 ≤ s.port) ss → at < length zs → zs ≡ ss → x ≡ get_or ss at x → x.port ≡ port → 1 ≤ port
some_port_of ss port at x all within same is port_is = subst (λ (p : ℕ). 1 ≤ p) port_is (some_port ss at x all (subst (λ (l : List Session). at < length l) same within) is)

pub ends_start : (mark : Mark) → AfterEnds [] mark mark
ends_start mark = record { tellings = []; tells = tells_nothing mark; replies = []; ends = refl; all = λ port. refl; console = refl }

-- one end more was told
pub ends_more : (xs : List Stream) (s : Stream) (start mid mark : Mark) → 1 ≤ s.port → AfterEnds xs start mid → AfterEnd s.port s.stream mid mark → AfterEnds (xs ++ s ∷ []) start mark
ends_more xs s start mid mark some first e = record {
  tellings = first.tellings ++ e.told.tellings;
  tells = record {
    turns_are = e.told.turns_are ∙ first.tells.turns_are;
    tellings_are = e.told.tellings_are ∙ ap (λ (l : List Telling). l ++ e.told.tellings) first.tells.tellings_are ∙ append_assoc start.tellings first.tellings e.told.tellings;
  };
  replies = first.replies ++ to s.port e.reply;
  ends = all_end_more xs (s ∷ []) first.replies (to s.port e.reply) first.ends (e.reply, [], e.gives, refl, refl);
  all = λ at. told_to-append at first.tellings e.told.tellings
      ∙ (λ i. first.all at i ++ all_of (to s.port e.reply) e.told (to_at s.port e.reply) (sym (to_is s.port e.reply)) at i)
      ∙ sym (bytes_at-append at first.replies (to s.port e.reply));
  console = told_to-append 0 first.tellings e.told.tellings ∙ ap (λ (l : List ℕ). l ++ told_to 0 e.told.tellings) first.console ∙ not_console e.told some;
}

-- some ends were told, and others are to be told
pub ends_part : (xs rest : List Stream) (start mark : Mark) → AfterEnds xs start mark → InEnds (xs ++ rest) start mark
ends_part xs rest start mark first =
    let others = some_ends rest in
    record {
      tellings = first.tellings;
      tells = first.tells;
      replies = first.replies ++ others.0;
      ends = all_end_more xs rest first.replies others.0 first.ends others.1;
      part = λ at. record { rest = bytes_at at others.0; is = bytes_at-append at first.replies others.0 ∙ ap (λ (l : List ℕ). l ++ bytes_at at others.0) (sym (first.all at)) };
      console = first.console;
    }

pub ends_moment : (xs : List Stream) (s : Stream) (rest : List Stream) (start mid mark : Mark) → 1 ≤ s.port → AfterEnds xs start mid → InEnd s.port s.stream mid mark → InEnds (xs ++ s ∷ rest) start mark
ends_moment xs s rest start mid mark some first e = by e.told
  where
    by : (mark ≡ mid) ⊎ Told mid mark s.port e.reply → InEnds (xs ++ s ∷ rest) start mark
    by (inl same) = subst (InEnds (xs ++ s ∷ rest) start) (sym same) (ends_part xs (s ∷ rest) start mid first)
    by (inr told) =
        subst (λ (l : List Stream). InEnds l start mark) (append_assoc xs (s ∷ []) rest)
        (ends_part (xs ++ s ∷ []) rest start mark (ends_more xs s start mid mark some first (record { reply = e.reply; gives = e.gives; told = told })))

-- one session after those before it
module _ (ss : List Session) (streams : List Stream) (at : ℕ) (x : Session) (start mid : Mark) (are : AreSessions ss streams) (within : at < length ss) (is : x ≡ get_or ss at x) (some : 1 ≤ x.port) (first : AfterEnds (take at streams) start mid) where
  here : Stream
  here = get_or streams at (stream_of 0 [])

  is_here : (x.port ≡ here.port) × HasRead x here.stream
  unfolding here
  is_here = subst (λ (s : Session). IsSession s (get_or streams at (stream_of 0 []))) (sym is) (session_at ss streams at x (stream_of 0 []) are within)

  take_here : take (at + 1) streams ≡ take at streams ++ here ∷ []
  unfolding here
  take_here = take_more streams at (stream_of 0 []) (omega (arith, within, same_length ss streams are))

  some_here : 1 ≤ here.port
  some_here = subst (λ (p : ℕ). 1 ≤ p) is_here.0 some

  pub ends_step : (mark : Mark) → ((stream : List ℕ) → HasRead x stream → AfterEnd x.port stream mid mark) → AfterEnds (take (at + 1) streams) start mark
  ends_step mark after =
      subst (λ (l : List Stream). AfterEnds l start mark) (sym take_here)
      (ends_more (take at streams) here start mid mark some_here first (subst (λ (p : ℕ). AfterEnd p here.stream mid mark) is_here.0 (after here.stream is_here.1)))

  -- while its end is told
  pub ends_within : {P : Mark → Files → Type 0} {old new : HostState} → ((stream : List ℕ) → HasRead x stream → Passes (InEnd x.port stream mid) P old new) → Passes (InEnds streams start) P old new
  ends_within call = passes_weaker (call here.stream is_here.1) each (λ mark disk e left. left)
    where
      whole : take at streams ++ here ∷ drop (at + 1) streams ≡ streams
      whole = sym (append_assoc (take at streams) (here ∷ []) (drop (at + 1) streams)) ∙ ap (λ (l : List Stream). l ++ drop (at + 1) streams) (sym take_here) ∙ take-append-drop (at + 1) streams

      each : (mark : Mark) → InEnd x.port here.stream mid mark → InEnds streams start mark
      each mark e =
          subst (λ (l : List Stream). InEnds l start mark) whole
          (ends_moment (take at streams) here (drop (at + 1) streams) start mid mark some_here first (subst (λ (p : ℕ). InEnd p here.stream mid mark) is_here.0 e))

-- ---- All sessions end, and a view is taken

abbrev pub done_world : World → World
done_world world = record { content = flushed world.content; sessions = [] }

module _ (world : World) (sound : world.content.worn ≡ false) where
  pub done_gives : (replies : List Reply) → AllEnd world.sessions replies → Gives world done (done_world world) replies
  done_gives replies ends = inr (sound, record { ends = ends; content_is = refl; sessions_are = refl })

  abbrev pub done_in_act : (start mark : Mark) → InEnds world.sessions start mark → InAct world done start mark
  done_in_act start mark e = record { tellings = e.tellings; tells = e.tells; next = done_world world; answer = e.replies; gives = done_gives e.replies e.ends; part = e.part; console = e.console }

  pub done_leaves_act : (start mark : Mark) (disk : Files) → InEnds world.sessions start mark → LeavesView world.content (flushed world.content) disk → LeavesInAct world done start mark disk
  done_leaves_act start mark disk e left = record {
    acting = done_in_act start mark e;
    left = record {
      view = left.view;
      sound = left.sound;
      stands = left.stands;
      taken = left.taken;
      recent = left.recent;
      confirmed = λ port. confirms_all port _ left.view.number e.replies (ends_confirm left.view.number world.sessions e.replies e.ends);
    };
  }

  pub done_after_act : (start mark : Mark) (node : Node) (host : HostState) → AfterEnds world.sessions start mark → Stands node (done_world world) host → AfterAct world done start mark node host
  done_after_act start mark node host e stands = record { tellings = e.tellings; tells = e.tells; next = done_world world; answer = e.replies; gives = done_gives e.replies e.ends; all = e.all; console = e.console; stands = stands }

  pub done_wears : (replies : List Reply) (stop : Stop) → AllEnd world.sessions replies → IsWornBy (flushed world.content) stop → Wears world done stop
  done_wears replies stop ends worn = record { next = done_world world; answer = replies; gives = done_gives replies ends; worn = worn }

pub ends_told : (streams : List Stream) (start mark : Mark) → AfterEnds streams start mark → InEnds streams start mark
ends_told streams start mark e = record {
  tellings = e.tellings;
  tells = e.tells;
  replies = e.replies;
  ends = e.ends;
  part = λ port. subst (λ (l : List ℕ). Begins l (bytes_at port e.replies)) (sym (e.all port)) (begins_all (bytes_at port e.replies));
  console = e.console;
}

-- ---- Once a turn was taken

pub turn_in : (world : World) (taking : Taken) (start taken mark : Mark) → taken ≡ after_turn start taking → InAct world taking taken mark → InTurn world start mark
turn_in world taking start taken mark is acting = record { taking = taking; taken = taken; turns_are = ap (λ (m : Mark). m.turns) is; tellings_are = ap (λ (m : Mark). m.tellings) is; acting = acting }

pub turn_leaves : (world : World) (taking : Taken) (start taken mark : Mark) (disk : Files) → taken ≡ after_turn start taking → LeavesInAct world taking taken mark disk → LeavesInTurn world start mark disk
turn_leaves world taking start taken mark disk is acting = record { taking = taking; taken = taken; turns_are = ap (λ (m : Mark). m.turns) is; tellings_are = ap (λ (m : Mark). m.tellings) is; acting = acting }

-- one turn of a host
module _ (world : World) (taking : Taken) (node : Node) (old mid new : HostState) (given : mark_now mid ≡ after_turn (mark_now old) taking) where
  pub turn_acts : Stands node world old
      → PortPasses (λ mark. (mark ≡ mark_now old) ⊎ (mark ≡ mark_now mid)) old mid
      → Passes (InAct world taking (mark_now mid)) (LeavesInAct world taking (mark_now mid)) mid new
      → Passes (λ mark. (mark ≡ mark_now old) ⊎ InTurn world (mark_now old) mark) (λ mark disk. ((mark ≡ mark_now old) × LeavesLast world.content disk) ⊎ LeavesInTurn world (mark_now old) mark disk) old new
  turn_acts before turn act = goes_on (passes_weaker turn first first_disk) act (λ mark a. inr (turn_in world taking (mark_now old) (mark_now mid) mark given a)) (λ mark disk a left. inr (turn_leaves world taking (mark_now old) (mark_now mid) mark disk given left))
    where
      first : (mark : Mark) → (mark ≡ mark_now old) ⊎ (mark ≡ mark_now mid) → (mark ≡ mark_now old) ⊎ InTurn world (mark_now old) mark
      first mark (inl same) = inl same
      first mark (inr same) = inr (subst (InTurn world (mark_now old)) (sym same) (turn_in world taking (mark_now old) (mark_now mid) (mark_now mid) given (act_starts world taking (mark_now mid))))

      first_disk : (mark : Mark) (disk : Files) → (mark ≡ mark_now old) ⊎ (mark ≡ mark_now mid) → LeavesNow old disk → ((mark ≡ mark_now old) × LeavesLast world.content disk) ⊎ LeavesInTurn world (mark_now old) mark disk
      first_disk mark disk (inl same) left = inl (same, left_last world.content node.keeper old before.holds disk left)
      first_disk mark disk (inr same) left =
          inr (subst (λ (m : Mark). LeavesInTurn world (mark_now old) m disk) (sym same)
          (turn_leaves world taking (mark_now old) (mark_now mid) (mark_now mid) disk given
          (act_leaves_view world taking (mark_now mid) disk (left_last world.content node.keeper old before.holds disk left))))

  -- the turn is the one that was taken
  pub turn_taken : Passes (InAct world taking (mark_now mid)) (LeavesInAct world taking (mark_now mid)) mid new → (mark_now new).turns ≡ (mark_now old).turns ++ taking ∷ []
  turn_taken act = (mark_holds act (act_starts world taking (mark_now mid))).tells.turns_are ∙ ap (λ (m : Mark). m.turns) given

  -- the turn was taken also where acting on it stopped
  pub turn_wears : (stop : Stop) → Passes (InAct world taking (mark_now mid)) (LeavesInAct world taking (mark_now mid)) mid new → Wears world taking stop → WearsIn world (mark_now old) (mark_now new) stop
  turn_wears stop act wears =
      let a = mark_holds act (act_starts world taking (mark_now mid)) in
      record {
        taking = taking;
        turns_are = a.tells.turns_are ∙ ap (λ (m : Mark). m.turns) given;
        tellings = a.tellings;
        tellings_are = a.tells.tellings_are ∙ ap (λ (m : Mark). m.tellings ++ a.tellings) given;
        wears = wears;
      }

  pub turn_after : (later : Node) (went : Went) → went ≡ went_of taking → AfterTaken world taking (mark_now mid) (mark_now new) later new → AfterTurn world (mark_now old) (mark_now new) later new went
  turn_after later went is acted = record {
    taking = taking;
    taken = mark_now mid;
    turns_are = ap (λ (m : Mark). m.turns) given;
    tellings_are = ap (λ (m : Mark). m.tellings) given;
    acted = acted;
    went_is = is;
  }

-- no turn was taken, since the port failed
pub turn_failed : (world : World) (node : Node) (old new : HostState) → Stands node world old → mark_now new ≡ mark_now old → PortPasses (λ mark. (mark ≡ mark_now old) ⊎ (mark ≡ mark_now new)) old new
    → Passes (λ mark. (mark ≡ mark_now old) ⊎ InTurn world (mark_now old) mark) (λ mark disk. ((mark ≡ mark_now old) × LeavesLast world.content disk) ⊎ LeavesInTurn world (mark_now old) mark disk) old new
turn_failed world node old new before same call = passes_weaker call (λ mark is. inl (at mark is)) (λ mark disk is left. inl (at mark is, left_last world.content node.keeper old before.holds disk left))
  where
    at : (mark : Mark) → (mark ≡ mark_now old) ⊎ (mark ≡ mark_now new) → mark ≡ mark_now old
    at mark (inl is) = is
    at mark (inr is) = is ∙ same

pub went_same : (turn : Turn) (into : List ℕ) → went_after turn ≡ went_of (taken turn into)
went_same (turn.Bytes port n) into = refl
went_same (turn.End port) into = refl
went_same turn.Idle into = refl
went_same turn.Done into = refl

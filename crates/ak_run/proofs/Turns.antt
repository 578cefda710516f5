-- Each turn gives one world and one answer, and what it leaves of what the store holds.
use Rattle.std.proofs.Common.{◌≡◌, ◌↔◌, ◌⊎◌, inl, inr, ℕ, ◌≤◌, Bool, true, false, if◌then◌else◌, List, [], ◌∷◌, ◌++◌, length, Option, Some, None, refl, sym, ◌∙◌, ap, subst, arith}
use Rattle.std.specs.List.{AllByRecursion}
use Rattle.std.proofs.lemmas.List.{append_cancel_left}
use Rattle.std.proofs.lemmas.Bool.{cases_Bool, cases_lt}
use Rattle.ak_base.proofs.Basics.{not_both}
use Rattle.ak_base.specs.declared.refusal.Refusal.{Refusal}
use Rattle.ak_base.specs.declared.refusal.Refusal.TheVariants.{Cut, TooMany}
use Rattle.ak_host.specs.Marks.{Taken, piece, ended, idle, done}
use Rattle.ak_resp.specs.declared.message.Message.{Message}
use Rattle.ak_resp.proofs.Rows.{one_split}
use Rattle.ak_run.specs.declared.asked.Asked.{Asked}
use Rattle.ak_run.specs.Asking.{AllAsk}
use Rattle.ak_run.specs.Contents.{after_all}
use Rattle.ak_run.specs.Replies.{Reply, refusal_reply, replies_to, bytes_at}
use Rattle.ak_run.specs.Run.{World, world_of, to, fault_replies, PieceGives, EndGives, EndActs, OtherTurn, PieceTurn, IsOneTooMany, AllEnd, bytes_of, Acts, Gives, RunsFrom, AreAnswers}
use Rattle.ak_run.specs.Sessions.{Session, stream_at, with_session, without, most_sessions}
use Rattle.ak_run.proofs.Giving.{some_piece, some_end}
use Rattle.ak_run.proofs.Growing.{all_append, confirms_within, confirms_all_within, stay, all_go, rises_by, stays_in}
use Rattle.ak_run.proofs.OneAsking.{one_all}
use Rattle.ak_run.proofs.Orders.{Orderly, flush_orderly, orderly_all}
use Rattle.ak_world.proofs.Going.{joined, flush_goes}
use Rattle.ak_world.specs.Steps.{flushed}
use Rattle.ak_world.specs.Valid.{Goes}
use Rattle.ak_world.specs.Views.{View, IsIn}
use Rattle.ak_world.specs.Worlds.{World as Store, views_of, limits_of}

-- ---- In one way

-- two tests of one fact
same_test : {P : Type 0} (a b : Bool) → (a ≡ true) ↔ P → (b ≡ true) ↔ P → a ≡ b
same_test true true h k = refl
same_test true false h k = sym (k.1 (h.0 refl))
same_test false true h k = h.1 (k.0 refl)
same_test false false h k = refl

-- two answers to one question
same_answer : {P : Refusal → Type 0} (a b : Option Refusal) → ((f : Refusal) → (a ≡ Some f) ↔ P f) → ((f : Refusal) → (b ≡ Some f) ↔ P f) → a ≡ b
same_answer None None h k = refl
same_answer (Some f) b h k = sym ((k f).1 ((h f).0 refl))
same_answer None (Some g) h k = (h g).1 ((k g).0 refl)

make_world : Store → List Session → World
make_world content sessions = record { content = content; sessions = sessions }

same_world : (v w : World) → v.content ≡ w.content → v.sessions ≡ w.sessions → v ≡ w
unfolding make_world
same_world v w content sessions = ap (λ (c : Store). make_world c v.sessions) content ∙ ap (λ (o : List Session). make_world w.content o) sessions

one_piece : (port : ℕ) (content next other : Store) (stream bytes : List ℕ) (x y : List Reply) → PieceGives port content stream bytes next x → PieceGives port content stream bytes other y → (next ≡ other) × (x ≡ y)
one_piece port content next other stream bytes x y g h =
    let before : g.before ≡ h.before = (one_split stream g.before h.before g.rest h.rest g.was h.was).0 in
    let all : g.before ++ g.acting ≡ h.before ++ h.acting = (one_split (stream ++ bytes) (g.before ++ g.acting) (h.before ++ h.acting) g.rest_after h.rest_after g.is h.is).0 in
    let acting : g.acting ≡ h.acting = append_cancel_left h.before g.acting h.acting (ap (λ (ms : List Message). ms ++ g.acting) (sym before) ∙ all) in
    let asked : g.asked ≡ h.asked = one_all (limits_of content).scale h.acting g.asked h.asked (subst (λ (ms : List Message). AllAsk (limits_of content).scale ms g.asked) acting g.asks) h.asks in
    let fault : g.fault ≡ h.fault = same_answer g.fault h.fault g.fault_is h.fault_is in
    let same : next ≡ other = g.next_is ∙ ap (after_all content) asked ∙ sym h.next_is in (
      same,
      g.replies_are
          ∙ ap (λ (l : List Asked). replies_to port content l ++ fault_replies port next.worn g.fault) asked
          ∙ ap (λ (o : Option Refusal). replies_to port content h.asked ++ fault_replies port next.worn o) fault
          ∙ ap (λ (c : Store). replies_to port content h.asked ++ fault_replies port c.worn h.fault) same
          ∙ sym h.replies_are,
    )

one_cut : (stream x y : List ℕ) → EndGives stream x → EndGives stream y → x ≡ y
one_cut stream x y g h = g.2 ∙ ap (λ (b : Bool). if b then refusal_reply Cut else []) (same_test g.0 h.0 g.1 h.1) ∙ sym h.2

one_all_end : (ss : List Session) (x y : List Reply) → AllEnd ss x → AllEnd ss y → x ≡ y
one_all_end [] x y g h = g ∙ sym h
one_all_end (s ∷ ss) x y (r, rs, gives, all, is) (q, qs, also, rest, are) =
    is ∙ ap (λ (l : List ℕ). to s.port l ++ rs) (one_cut s.stream r q gives also) ∙ ap (λ (l : List Reply). to s.port q ++ l) (one_all_end ss rs qs all rest) ∙ sym are

one_other : (world v w : World) (a b told : List Reply) → OtherTurn world v a told → OtherTurn world w b told → (v ≡ w) × (a ≡ b)
one_other world v w a b told g h = (g.same ∙ sym h.same, g.told_is ∙ sym h.told_is)

one_end : (world v w : World) (port : ℕ) (a b : List Reply) (o : Option (List ℕ)) → EndActs world port o v a → EndActs world port o w b → (v ≡ w) × (a ≡ b)
one_end world v w port a b None g h = one_other world v w a b [] g h
one_end world v w port a b (Some stream) g h = (
  same_world v w (g.content_is ∙ sym h.content_is) (g.sessions_are ∙ sym h.sessions_are),
  g.told ∙ ap (to port) (one_cut stream g.reply h.reply g.gives h.gives) ∙ sym h.told,
)

one_act : (world : World) (turn : Taken) (v w : World) (a b : List Reply) → Acts world turn v a → Acts world turn w b → (v ≡ w) × (a ≡ b)
one_act world (piece port bytes) v w a b (inl g) (inl h) = one_other world v w a b (to port (refusal_reply TooMany)) g.1 h.1
one_act world (piece port bytes) v w a b (inl g) (inr h) = absurd (h.0 g.0)
one_act world (piece port bytes) v w a b (inr g) (inl h) = absurd (g.0 h.0)
one_act world (piece port bytes) v w a b (inr g) (inr h) =
    let both = one_piece port world.content v.content w.content (bytes_of (stream_at world.sessions port)) bytes a b g.1.gives h.1.gives in
    (same_world v w both.0 (g.1.sessions_are ∙ sym h.1.sessions_are), both.1)
one_act world (ended port) v w a b g h = one_end world v w port a b (stream_at world.sessions port) g h
one_act world idle v w a b g h = one_other world v w a b [] g h
one_act world done v w a b g h = (
  same_world v w (g.content_is ∙ sym h.content_is) (g.sessions_are ∙ sym h.sessions_are),
  one_all_end world.sessions a b g.ends h.ends,
)

-- One turn leads to one world, and is answered one thing.
one_turn : (world : World) (turn : Taken) (v w : World) (a b : List Reply) → Gives world turn v a → Gives world turn w b → (v ≡ w) × (a ≡ b)
one_turn world turn v w a b (inl g) (inl h) = one_other world v w a b [] g.1 h.1
one_turn world turn v w a b (inl g) (inr h) = absurd (not_both world.content.worn g.0 h.0)
one_turn world turn v w a b (inr g) (inl h) = absurd (not_both world.content.worn h.0 g.0)
one_turn world turn v w a b (inr g) (inr h) = one_act world turn v w a b g.1 h.1

pub one_run : (turns : List Taken) (world v w : World) (a b : List Reply) → RunsFrom world turns v a → RunsFrom world turns w b → (v ≡ w) × (a ≡ b)
one_run [] world v w a b g h = one_other world v w a b [] g h
one_run (turn ∷ turns) world v w a b (next, x, xs, g, run, a_is) (other, y, ys, h, run_too, b_is) =
    let first = one_turn world turn next other x y g h in
    let others = one_run turns other v w xs ys (subst (λ (u : World). RunsFrom u turns v xs) first.0 run) run_too in
    (others.0, a_is ∙ ap (λ (l : List Reply). l ++ xs) first.1 ∙ ap (λ (l : List Reply). y ++ l) others.1 ∙ sym b_is)

pub one_answer : (view : View) (turns : List Taken) (port : ℕ) (a b : List ℕ) → AreAnswers view turns port a → AreAnswers view turns port b → a ≡ b
one_answer view turns port a b g h = g.is ∙ ap (bytes_at port) (one_run turns (world_of view) g.last h.last g.replies h.replies g.run h.run).1 ∙ sym h.is

-- ---- In some way

pub record TurnGives (world : World) (turn : Taken) : Type 0 where
  pub next : World
  pub replies : List Reply
  pub gives : Gives world turn next replies

record TurnActs (world : World) (turn : Taken) : Type 0 where
  next : World
  replies : List Reply
  acts : Acts world turn next replies

many_or_few : (world : World) (port : ℕ) → IsOneTooMany world port ⊎ ¬ (IsOneTooMany world port)
many_or_few world port = by (stream_at world.sessions port) refl
  where
    by : (o : Option (List ℕ)) → stream_at world.sessions port ≡ o → IsOneTooMany world port ⊎ ¬ (IsOneTooMany world port)
    by (Some stream) is = inr (λ many. let two = sym is ∙ many.new in cc)
    by None is = elim (cases_lt (length world.sessions) most_sessions) [
      | inl few ↦ inr (λ many. absurd (omega (arith, few, many.full)))
      | inr full ↦ inl (record { new = is; full = full })
    ]

all_end : (ss : List Session) → (replies : List Reply) × AllEnd ss replies
all_end [] = ([], refl)
all_end (s ∷ ss) =
    let first = some_end s.stream in
    let others = all_end ss in
    (to s.port first.0 ++ others.0, (first.0, others.0, first.1, others.1, refl))

other_acts : (world : World) (told : List Reply) → OtherTurn world world told told
other_acts world told = record { same = refl; told_is = refl }

some_ended : (world : World) (port : ℕ) (o : Option (List ℕ)) → stream_at world.sessions port ≡ o → TurnActs world (ended port)
some_ended world port None is = record { next = world; replies = []; acts = subst (λ o. EndActs world port o world []) (sym is) (other_acts world []) }
some_ended world port (Some stream) is =
    let e = some_end stream in
    let next : World = record { content = world.content; sessions = without world.sessions port } in
    record {
      next = next;
      replies = to port e.0;
      acts = subst (λ o. EndActs world port o next (to port e.0)) (sym is) (record { reply = e.0; gives = e.1; content_is = refl; sessions_are = refl; told = refl });
    }

some_act : (world : World) (turn : Taken) → TurnActs world turn
some_act world (piece port bytes) = elim (many_or_few world port) [
  | inl many ↦ record { next = world; replies = to port (refusal_reply TooMany); acts = inl (many, other_acts world (to port (refusal_reply TooMany))) }
  | inr few ↦ (let stream = bytes_of (stream_at world.sessions port) in
      let p = some_piece port world.content stream bytes in
      record {
        next = record { content = p.next; sessions = with_session world.sessions (record { port = port; stream = stream ++ bytes }) };
        replies = p.replies;
        acts = inr (few, record { gives = p.gives; sessions_are = refl });
      })
]
some_act world (ended port) = some_ended world port (stream_at world.sessions port) refl
some_act world idle = record { next = world; replies = []; acts = other_acts world [] }
some_act world done =
    let e = all_end world.sessions in
    record { next = record { content = flushed world.content; sessions = [] }; replies = e.0; acts = record { ends = e.1; content_is = refl; sessions_are = refl } }

-- Each turn gives something.
pub some_turn : (world : World) (turn : Taken) → TurnGives world turn
some_turn world turn = elim (cases_Bool world.content.worn) [
  | inl worn ↦ record { next = world; replies = []; gives = inl (worn, other_acts world []) }
  | inr sound ↦ let a = some_act world turn in record { next = a.next; replies = a.replies; gives = inr (sound, a.acts) }
]

some_run : (turns : List Taken) (world : World) → (last : World) × (replies : List Reply) × RunsFrom world turns last replies
some_run [] world = (world, [], other_acts world [])
some_run (turn ∷ turns) world =
    let first = some_turn world turn in
    let others = some_run turns first.next in
    (others.0, first.replies ++ others.1, (first.next, first.replies, others.1, first.gives, others.2, refl))

pub every_run : (view : View) (turns : List Taken) → (last : World) × (replies : List Reply) × RunsFrom (world_of view) turns last replies
every_run view turns = some_run turns (world_of view)

-- ---- What a turn leaves of what the store holds

-- what holds of the next store and the replies
record Follows (content next : Store) (replies : List Reply) : Type 0 where
  goes : Goes content next
  orderly : Orderly content → Orderly next
  confirms : AllByRecursion (confirms_within next.last.number) replies

other_follows : (world next : World) (replies told : List Reply) → AllByRecursion (confirms_within world.content.last.number) told → OtherTurn world next replies told → Follows world.content next.content replies
other_follows world next replies told all o = record {
  goes = subst (λ (w : World). Goes world.content w.content) (sym o.same) (stay world.content);
  orderly = λ is. subst (λ (w : World). Orderly w.content) (sym o.same) is;
  confirms = subst (λ (w : World). AllByRecursion (confirms_within w.content.last.number) replies) (sym o.same) (subst (AllByRecursion (confirms_within world.content.last.number)) (sym o.told_is) all);
}

fault_confirms : (port number : ℕ) (worn : Bool) (o : Option Refusal) → AllByRecursion (confirms_within number) (fault_replies port worn o)
fault_confirms port number true (Some f) = tt
fault_confirms port number false (Some f) = (omega arith, tt)
fault_confirms port number worn None = tt

pub gives_confirms : {port : ℕ} {content next : Store} {stream bytes : List ℕ} {replies : List Reply} → PieceGives port content stream bytes next replies → AllByRecursion (confirms_within next.last.number) replies
gives_confirms {port} {content} {next} {stream} {bytes} {replies} g =
    subst (AllByRecursion (confirms_within next.last.number)) (sym g.replies_are)
    (all_append (confirms_within next.last.number) (replies_to port content g.asked) _
    (subst (λ (c : Store). AllByRecursion (confirms_within c.last.number) (replies_to port content g.asked)) (sym g.next_is) (confirms_all_within port content g.asked))
    (fault_confirms port next.last.number next.worn g.fault))

pub gives_goes : {port : ℕ} {content next : Store} {stream bytes : List ℕ} {replies : List Reply} → PieceGives port content stream bytes next replies → Goes content next
gives_goes {port} {content} {next} g = subst (Goes content) (sym g.next_is) (all_go content g.asked)

pub gives_rises : {port : ℕ} {content next : Store} {stream bytes : List ℕ} {replies : List Reply} → PieceGives port content stream bytes next replies → content.last.number ≤ next.last.number
gives_rises g = rises_by (gives_goes g)

piece_follows : (world next : World) (port : ℕ) (bytes : List ℕ) (replies : List Reply) → PieceTurn world port bytes next replies → Follows world.content next.content replies
piece_follows world next port bytes replies p = record {
  goes = gives_goes p.gives;
  orderly = λ is. subst Orderly (sym p.gives.next_is) (orderly_all world.content p.gives.asked is);
  confirms = gives_confirms p.gives;
}

end_follows : (world next : World) (port : ℕ) (replies : List Reply) (o : Option (List ℕ)) → EndActs world port o next replies → Follows world.content next.content replies
end_follows world next port replies None e = other_follows world next replies [] tt e
end_follows world next port replies (Some stream) e = record {
  goes = subst (Goes world.content) (sym e.content_is) (stay world.content);
  orderly = λ is. subst Orderly (sym e.content_is) is;
  confirms = subst (AllByRecursion (confirms_within next.content.last.number)) (sym e.told) (omega arith, tt);
}

all_end_confirms : (number : ℕ) (ss : List Session) (replies : List Reply) → AllEnd ss replies → AllByRecursion (confirms_within number) replies
all_end_confirms number [] replies e = subst (AllByRecursion (confirms_within number)) (sym e) tt
all_end_confirms number (s ∷ ss) replies (reply, others, gives, all, is) =
    subst (AllByRecursion (confirms_within number)) (sym is) (omega arith, all_end_confirms number ss others all)

acts_follow : (world : World) (turn : Taken) (next : World) (replies : List Reply) → Acts world turn next replies → Follows world.content next.content replies
acts_follow world (piece port bytes) next replies (inl o) = other_follows world next replies _ (omega arith, tt) o.1
acts_follow world (piece port bytes) next replies (inr p) = piece_follows world next port bytes replies p.1
acts_follow world (ended port) next replies e = end_follows world next port replies (stream_at world.sessions port) e
acts_follow world idle next replies o = other_follows world next replies [] tt o
acts_follow world done next replies e = record {
  goes = subst (Goes world.content) (sym e.content_is) (flush_goes world.content);
  orderly = λ is. subst Orderly (sym e.content_is) (flush_orderly world.content is);
  confirms = all_end_confirms next.content.last.number world.sessions replies e.ends;
}

turn_follows : (world : World) (turn : Taken) (next : World) (replies : List Reply) → Gives world turn next replies → Follows world.content next.content replies
turn_follows world turn next replies (inl worn) = other_follows world next replies [] tt worn.1
turn_follows world turn next replies (inr acts) = acts_follow world turn next replies acts.1

pub turn_goes : (world : World) (turn : Taken) (next : World) (replies : List Reply) → Gives world turn next replies → Goes world.content next.content
turn_goes world turn next replies g = (turn_follows world turn next replies g).goes

pub turn_rises : (world : World) (turn : Taken) (next : World) (replies : List Reply) → Gives world turn next replies → world.content.last.number ≤ next.content.last.number
turn_rises world turn next replies g = rises_by (turn_goes world turn next replies g)

pub turn_stays : (world : World) (turn : Taken) (next : World) (replies : List Reply) → Gives world turn next replies → (view : View) → IsIn view (views_of world.content) → IsIn view (views_of next.content)
turn_stays world turn next replies g view is = stays_in view (turn_goes world turn next replies g) is

pub turn_orderly : (world : World) (turn : Taken) (next : World) (replies : List Reply) → Gives world turn next replies → Orderly world.content → Orderly next.content
turn_orderly world turn next replies g = (turn_follows world turn next replies g).orderly

pub turn_confirms : (world : World) (turn : Taken) (next : World) (replies : List Reply) → Gives world turn next replies → AllByRecursion (confirms_within next.content.last.number) replies
turn_confirms world turn next replies g = (turn_follows world turn next replies g).confirms

pub run_orderly : (turns : List Taken) (world last : World) (replies : List Reply) → RunsFrom world turns last replies → Orderly world.content → Orderly last.content
run_orderly [] world last replies run is = subst (λ (w : World). Orderly w.content) (sym run.same) is
run_orderly (turn ∷ turns) world last replies (next, first, others, gives, run, told) is = run_orderly turns next last others run (turn_orderly world turn next first gives is)

pub run_goes : (turns : List Taken) (world last : World) (replies : List Reply) → RunsFrom world turns last replies → Goes world.content last.content
run_goes [] world last replies run = subst (λ (w : World). Goes world.content w.content) (sym run.same) (stay world.content)
run_goes (turn ∷ turns) world last replies (next, first, others, gives, run, told) =
    joined world.content next.content last.content (turn_goes world turn next first gives) (run_goes turns next last others run)

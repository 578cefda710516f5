-- Runs of turns, what stands told in them, and what a stop leaves.
use Rattle.std.proofs.Common.{◌≡◌, ◌⊎◌, inl, inr, ℕ, ◌+◌, ◌-◌, ◌^◌, ◌≤◌, false, List, [], ◌∷◌, ◌++◌, length, take, drop, take-append-drop, refl, sym, ◌∙◌, ap, subst, arith, append_assoc, length-append}
use Rattle.std.specs.List.{AllByRecursion}
use Rattle.std.proofs.lemmas.List.{append-nil, take_at}
use Rattle.ak_base.proofs.Basics.{not_both}
use Rattle.ak_host.specs.Files.{Files}
use Rattle.ak_host.specs.Marks.{Mark, Taken, piece, ended, idle, done, Telling, told_to}
use Rattle.ak_host.specs.Moments.{HostState, Passes}
use Rattle.ak_host.proofs.Passing.{passes_on, passes_weaker}
use Rattle.ak_base.specs.declared.stop.Stop.{Stop}
use Rattle.ak_node.specs.declared.node.Node.{Node}
use Rattle.ak_node.specs.declared.node.Went.{Went}
use Rattle.ak_node.specs.declared.node.Went.TheVariants.{More}
use Rattle.ak_node.specs.declared.node.Went.TheVariants as went
use Rattle.ak_world.specs.Views.{View}
use Rattle.ak_world.specs.Worlds.{views_of}
use Rattle.ak_run.specs.Keeping.{Confirms}
use Rattle.ak_top.specs.Kept.{IsKept, KeepsLast}
use Rattle.ak_run.specs.Replies.{Reply, bytes_at}
use Rattle.ak_run.specs.Run.{World, world_of, Gives, RunsFrom, AreAnswers}
use Rattle.ak_node.specs.Calls.{Begins}
use Rattle.ak_node.specs.Standing.{Stands, InTurn, LeavesInTurn, LeavesLast, WearsIn, went_of}
use Rattle.ak_top.specs.Calls.{AfterWhole}
use Rattle.ak_top.specs.Told.{Since, IsAnswered, IsComplete, IsDone, NoneDone, EndsDone, AreSpent, IsWorn, HasWorn, IsQuiet}
use Rattle.ak_run.proofs.Turns.{turn_rises, turn_orderly, turn_confirms}
use Rattle.ak_run.proofs.Growing.{bytes_at-append, all_append, confirms_within, within_more, last_in}
use Rattle.ak_run.proofs.Orders.{orderly_in}
use Rattle.ak_node.proofs.Staying.{left_last}
use Rattle.ak_node.proofs.Tellings.{told_to-append, begins_all}
use Rattle.ak_run.proofs.Confirming.{confirms_all, confirms_front}
use Rattle.ak_top.proofs.Stopping.{told_worn}
use Rattle.ak_run.proofs.Turns.{one_run}

-- ---- Runs one after another

pub run_more : (turns : List Taken) (world last next : World) (turn : Taken) (xs ys : List Reply) → RunsFrom world turns last xs → Gives last turn next ys → RunsFrom world (turns ++ turn ∷ []) next (xs ++ ys)
run_more [] world last next turn xs ys run gives =
    (next, ys, [], subst (λ w. Gives w turn next ys) run.same gives, record { same = refl; told_is = refl }, ap (λ (l : List Reply). l ++ ys) run.told_is ∙ sym (append-nil ys))
run_more (t ∷ turns) world last next turn xs ys (v, a, b, first, others, is) gives =
    (v, a, b ++ ys, first, run_more turns v last next turn b ys others gives, ap (λ (l : List Reply). l ++ ys) is ∙ append_assoc a b ys)

-- what the first turns of a run give
pub record Front (world : World) (turns : List Taken) (replies : List Reply) : Type 0 where
  pub last : World
  pub first : List Reply
  pub others : List Reply
  pub run : RunsFrom world turns last first
  pub is : replies ≡ first ++ others

pub run_front : (turns more : List Taken) (world last : World) (replies : List Reply) → RunsFrom world (turns ++ more) last replies → Front world turns replies
run_front [] more world last replies run = record { last = world; first = []; others = replies; run = record { same = refl; told_is = refl }; is = refl }
run_front (t ∷ turns) more world last replies (v, a, b, first, others, is) =
    let f = run_front turns more v last b others in
    record { last = f.last; first = a ++ f.first; others = f.others; run = (v, a, f.first, first, f.run, refl); is = is ∙ ap (λ (l : List Reply). a ++ l) f.is ∙ sym (append_assoc a f.first f.others) }

-- ---- A run so far

-- Each turn since was answered in full, none was `Done`, and the node stands for the world that they led to.
pub record Running (view : View) (start mark : Mark) (node : Node) (host : HostState) (count : ℕ) : Type 0 where
  pub since : Since start mark
  pub world : World
  pub before : World
  pub earlier : List Reply
  pub answer : List Reply
  pub run : RunsFrom (world_of view) since.turns world answer
  pub run_before : RunsFrom (world_of view) (take (length since.turns - 1) since.turns) before earlier
  pub all : (port : ℕ) → told_to port since.tellings ≡ bytes_at port answer
  pub console : told_to 0 since.tellings ≡ []
  pub stands : Stands node world host
  pub confirms : AllByRecursion (confirms_within world.content.last.number) answer
  pub no_older : view.number ≤ world.content.last.number
  pub recent : before.content.last.number ≤ world.content.last.number
  pub count_is : length since.turns ≡ count
  pub none_done : NoneDone since.turns

abbrev pub none_since : (mark : Mark) → Since mark mark
none_since mark = record { turns = []; tellings = []; turns_are = sym (append-nil mark.turns); tellings_are = sym (append-nil mark.tellings) }

abbrev pub running_starts : (view : View) (mark : Mark) (node : Node) (host : HostState) → Stands node (world_of view) host → Running view mark mark node host 0
running_starts view mark node host stands = record {
  since = none_since mark;
  world = world_of view;
  before = world_of view;
  earlier = [];
  answer = [];
  run = record { same = refl; told_is = refl };
  run_before = record { same = refl; told_is = refl };
  all = λ port. refl;
  console = refl;
  stands = stands;
  confirms = tt;
  no_older = omega arith;
  recent = omega arith;
  count_is = refl;
  none_done = tt;
}

abbrev pub front_answers : (view : View) (turns : List Taken) (k port : ℕ) (last : World) (answer : List Reply) → RunsFrom (world_of view) turns last answer → (bytes : List ℕ) × AreAnswers view (take k turns) port bytes × Begins bytes (bytes_at port answer)
front_answers view turns k port last answer run =
    let f = run_front (take k turns) (drop k turns) (world_of view) last answer (subst (λ ts. RunsFrom (world_of view) ts last answer) (sym (take-append-drop k turns)) run) in (
      bytes_at port f.first,
      record { last = f.last; replies = f.first; run = f.run; is = refl },
      record { rest = bytes_at port f.others; is = ap (bytes_at port) f.is ∙ bytes_at-append port f.first f.others },
    )

-- a run whose turns are all answered, at its end
abbrev pub answered_all : (view : View) (start mark : Mark) (since : Since start mark) (last : World) (answer : List Reply) → RunsFrom (world_of view) since.turns last answer
    → ((port : ℕ) → told_to port since.tellings ≡ bytes_at port answer) → IsAnswered view start mark
answered_all view start mark since last answer run all = record {
  since = since;
  ports = λ port h.
      let f = front_answers view since.turns (length since.turns - 1) port last answer run in (
        f.0,
        bytes_at port answer,
        f.1,
        record { last = last; replies = answer; run = run; is = refl },
        record { at_least = subst (Begins f.0) (sym (all port)) f.2; at_most = subst (λ l. Begins l (bytes_at port answer)) (sym (all port)) (begins_all (bytes_at port answer)) },
      );
}

abbrev pub complete_all : (view : View) (start mark : Mark) (since : Since start mark) (last : World) (answer : List Reply) → RunsFrom (world_of view) since.turns last answer
    → ((port : ℕ) → told_to port since.tellings ≡ bytes_at port answer) → IsComplete view start mark
complete_all view start mark since last answer run all = record {
  since = since;
  ports = λ port h. record { last = last; replies = answer; run = run; is = all port };
}

pub running_quiet : (view : View) (start mark : Mark) (node : Node) (host : HostState) (count : ℕ) → Running view start mark node host count → IsQuiet view start mark
running_quiet view start mark node host count r = record { answered = answered_all view start mark r.since r.world r.answer r.run r.all; console = r.console }

-- the turns since a mark are the same however they are told apart
same_behind : {A : Type 0} (xs ys zs : List A) → xs ++ ys ≡ xs ++ zs → ys ≡ zs
same_behind [] ys zs e = e
same_behind (x ∷ xs) ys zs e = same_behind xs ys zs (let tails : xs ++ ys ≡ xs ++ zs = cc in tails)

pub same_since : {start mark : Mark} (a b : Since start mark) → a.turns ≡ b.turns
same_since {start} a b = same_behind start.turns a.turns b.turns (sym a.turns_are ∙ b.turns_are)

-- a run that leads to a world that isn't worn has worn no store
pub fresh_run : (view : View) (start mark : Mark) (since : Since start mark) → IsWorn view start mark → (last : World) (answer : List Reply) → RunsFrom (world_of view) since.turns last answer → last.content.worn ≡ false → ⊥
fresh_run view start mark since worn last answer run sound =
    let same = (one_run since.turns (world_of view) last worn.last answer worn.replies run (subst (λ (ts : List Taken). RunsFrom (world_of view) ts worn.last worn.replies) (same_since worn.since since) worn.run)).0 in
    not_both last.content.worn (ap (λ (w : World). w.content.worn) same ∙ worn.worn) sound

-- ---- Counts of turns

pub none_more : (ts : List Taken) (t : Taken) → NoneDone ts → ¬ (IsDone t) → NoneDone (ts ++ t ∷ [])
none_more [] t none is = (is, tt)
none_more (x ∷ ts) t none is = (none.0, none_more ts t none.1 is)

is_not_done : (t : Taken) → More ≡ went_of t → ¬ (IsDone t)
is_not_done (piece port bytes) is d = d
is_not_done (ended port) is d = d
is_not_done idle is d = d
is_not_done done is d = cc

is_done : (t : Taken) → went.Done ≡ went_of t → t ≡ done
is_done (piece port bytes) is = cc
is_done (ended port) is = cc
is_done idle is = cc
is_done done is = refl

abbrev turns_more : (start before mark : Mark) (since : Since start before) (taking : Taken) → mark.turns ≡ before.turns ++ taking ∷ [] → mark.turns ≡ start.turns ++ (since.turns ++ taking ∷ [])
turns_more start before mark since taking is = is ∙ ap (λ (l : List Taken). l ++ taking ∷ []) since.turns_are ∙ append_assoc start.turns since.turns (taking ∷ [])

-- ---- One turn more

module _ (view : View) (start before : Mark) (node : Node) (host : HostState) (count : ℕ) (r : Running view start before node host count) where
  abbrev since_more : (taking : Taken) (taken mark : Mark) (tellings : List Telling) → taken.turns ≡ before.turns ++ taking ∷ [] → taken.tellings ≡ before.tellings
      → mark.turns ≡ taken.turns → mark.tellings ≡ taken.tellings ++ tellings → Since start mark
  since_more taking taken mark tellings turns_are same turns_same tellings_are = record {
    turns = r.since.turns ++ taking ∷ [];
    tellings = r.since.tellings ++ tellings;
    turns_are = turns_same ∙ turns_more start before taken r.since taking turns_are;
    tellings_are = tellings_are ∙ ap (λ (l : List Telling). l ++ tellings) (same ∙ r.since.tellings_are) ∙ append_assoc start.tellings r.since.tellings tellings;
  }

  told_more : (port : ℕ) (tellings : List Telling) → told_to port (r.since.tellings ++ tellings) ≡ bytes_at port r.answer ++ told_to port tellings
  told_more port tellings = told_to-append port r.since.tellings tellings ∙ ap (λ (l : List ℕ). l ++ told_to port tellings) (r.all port)

  quiet_more : (tellings : List Telling) → told_to 0 tellings ≡ [] → told_to 0 (r.since.tellings ++ tellings) ≡ []
  quiet_more tellings none = told_to-append 0 r.since.tellings tellings ∙ ap (λ (l : List ℕ). l ++ told_to 0 tellings) r.console ∙ none

  all_more : (port : ℕ) (tellings : List Telling) (answer : List Reply) → told_to port tellings ≡ bytes_at port answer → told_to port (r.since.tellings ++ tellings) ≡ bytes_at port (r.answer ++ answer)
  all_more port tellings answer same = told_more port tellings ∙ ap (λ (l : List ℕ). bytes_at port r.answer ++ l) same ∙ sym (bytes_at-append port r.answer answer)

  -- the turns before the last are those before it
  run_last : (turn : Taken) → RunsFrom (world_of view) (take (length (r.since.turns ++ turn ∷ []) - 1) (r.since.turns ++ turn ∷ [])) r.world r.answer
  run_last turn =
      subst (λ ts. RunsFrom (world_of view) ts r.world r.answer) (sym (take_at r.since.turns (turn ∷ []) (length (r.since.turns ++ turn ∷ []) - 1) (omega (arith, length-append r.since.turns (turn ∷ []))))) r.run

  run_next : (turn : Taken) (next : World) (answer : List Reply) → Gives r.world turn next answer → RunsFrom (world_of view) (r.since.turns ++ turn ∷ []) next (r.answer ++ answer)
  run_next turn next answer gives = run_more r.since.turns (world_of view) r.world next turn r.answer answer r.run gives

  -- within it
  pub turn_quiet : (mark : Mark) → InTurn r.world before mark → IsQuiet view start mark
  turn_quiet mark t =
      let a = t.acting in
      let since = since_more t.taking t.taken mark a.tellings t.turns_are t.tellings_are a.tells.turns_are a.tells.tellings_are in
      record {
        answered = record {
          since = since;
          ports = λ port h. (
            bytes_at port r.answer,
            bytes_at port (r.answer ++ a.answer),
            record { last = r.world; replies = r.answer; run = run_last t.taking; is = refl },
            record { last = a.next; replies = r.answer ++ a.answer; run = run_next t.taking a.next a.answer a.gives; is = refl },
            record {
              at_least = record { rest = told_to port a.tellings; is = told_more port a.tellings };
              at_most = record {
                rest = (a.part port).rest;
                is = bytes_at-append port r.answer a.answer
                    ∙ ap (λ (l : List ℕ). bytes_at port r.answer ++ l) (a.part port).is
                    ∙ sym (append_assoc (bytes_at port r.answer) (told_to port a.tellings) (a.part port).rest)
                    ∙ ap (λ (l : List ℕ). l ++ (a.part port).rest) (sym (told_more port a.tellings));
              };
            },
          );
        };
        console = quiet_more a.tellings a.console;
      }

  pub moment_quiet : (mark : Mark) → (mark ≡ before) ⊎ InTurn r.world before mark → IsQuiet view start mark
  moment_quiet mark (inl same) = subst (IsQuiet view start) (sym same) (running_quiet view start before node host count r)
  moment_quiet mark (inr t) = turn_quiet mark t

  -- between turns a stop leaves the last view
  pub running_kept : (disk : Files) → LeavesLast r.world.content disk → IsKept view start before disk
  running_kept disk left = record {
    since = r.since;
    all = record { last = r.world; replies = r.answer; run = r.run };
    before = record { last = r.before; replies = r.earlier; run = r.run_before };
    view = r.world.content.last;
    sound = left.0;
    stands = left.1;
    taken = last_in r.world.content;
    recent = omega (arith, r.recent);
    no_older = r.no_older;
    confirmed = λ port h. confirms_all port _ r.world.content.last.number r.answer r.confirms;
    prefixes = orderly_in r.world.content.last r.world.content.series (views_of r.world.content) (last_in r.world.content) r.stands.holds.keeps.valid.held;
  }

  -- and within a turn one of those that it finds or takes
  pub turn_kept : (mark : Mark) (disk : Files) → LeavesInTurn r.world before mark disk → IsKept view start mark disk
  turn_kept mark disk t =
      let a = t.acting.acting in
      let l = t.acting.left in
      let since = since_more t.taking t.taken mark a.tellings t.turns_are t.tellings_are a.tells.turns_are a.tells.tellings_are in
      record {
        since = since;
        all = record { last = a.next; replies = r.answer ++ a.answer; run = run_next t.taking a.next a.answer a.gives };
        before = record { last = r.world; replies = r.answer; run = run_last t.taking };
        view = l.view;
        sound = l.sound;
        stands = l.stands;
        taken = l.taken;
        recent = omega (arith, l.recent);
        no_older = omega (arith, l.recent, r.no_older);
        confirmed = λ port h.
            let same : length (bytes_at port r.answer) + length (told_to port a.tellings) ≡ length (told_to port (r.since.tellings ++ a.tellings)) =
            sym (length-append (bytes_at port r.answer) (told_to port a.tellings)) ∙ ap (λ (x : List ℕ). length x) (sym (told_more port a.tellings)) in
            subst (λ (n : ℕ). Confirms port n l.view.number (r.answer ++ a.answer)) same
            (confirms_front port (length (told_to port a.tellings)) l.view.number r.answer a.answer (within_more _ l.view.number r.answer l.recent r.confirms) (l.confirmed port));
        prefixes = orderly_in l.view a.next.content.series (views_of a.next.content) l.taken (turn_orderly r.world t.taking a.next a.answer a.gives r.stands.holds.keeps.valid.held);
      }

  pub moment_kept : (mark : Mark) (disk : Files) → ((mark ≡ before) × LeavesLast r.world.content disk) ⊎ LeavesInTurn r.world before mark disk → IsKept view start mark disk
  moment_kept mark disk (inl (same, left)) = subst (λ (m : Mark). IsKept view start m disk) (sym same) (running_kept disk left)
  moment_kept mark disk (inr t) = turn_kept mark disk t

  -- over it
  pub turn_passes : (from old new : HostState) → Passes (IsQuiet view start) (IsKept view start) from old
      → Passes (λ mark. (mark ≡ before) ⊎ InTurn r.world before mark) (λ mark disk. ((mark ≡ before) × LeavesLast r.world.content disk) ⊎ LeavesInTurn r.world before mark disk) old new
      → Passes (IsQuiet view start) (IsKept view start) from new
  turn_passes from old new so_far turn = passes_on so_far (passes_weaker turn moment_quiet (λ mark disk m left. moment_kept mark disk left))

  -- after it
  pub running_on : (mark : Mark) (later : Node) (after : HostState) → AfterWhole r.world before mark later after More → Running view start mark later after (count + 1)
  running_on mark later after t =
      let a = t.acted in
      record {
        since = since_more t.taking t.taken mark a.tellings t.turns_are t.tellings_are a.tells.turns_are a.tells.tellings_are;
        world = a.next;
        before = r.world;
        earlier = r.answer;
        answer = r.answer ++ a.answer;
        run = run_next t.taking a.next a.answer a.gives;
        run_before = run_last t.taking;
        all = λ port. all_more port a.tellings a.answer (a.all port);
        console = quiet_more a.tellings a.console;
        stands = a.stands;
        confirms = all_append (confirms_within a.next.content.last.number) r.answer a.answer
            (within_more _ a.next.content.last.number r.answer (turn_rises r.world t.taking a.next a.answer a.gives) r.confirms)
            (turn_confirms r.world t.taking a.next a.answer a.gives);
        no_older = omega (arith, r.no_older, turn_rises r.world t.taking a.next a.answer a.gives);
        recent = turn_rises r.world t.taking a.next a.answer a.gives;
        count_is = length-append r.since.turns (t.taking ∷ []) ∙ ap (λ (n : ℕ). n + 1) r.count_is;
        none_done = none_more r.since.turns t.taking r.none_done (is_not_done t.taking t.went_is);
      }

  -- after the last
  pub ends_done : (mark : Mark) (later : Node) (after : HostState) → AfterWhole r.world before mark later after went.Done → EndsDone view start mark
  ends_done mark later after t =
      let a = t.acted in
      let since = since_more t.taking t.taken mark a.tellings t.turns_are t.tellings_are a.tells.turns_are a.tells.tellings_are in
      record {
        complete = complete_all view start mark since a.next (r.answer ++ a.answer) (run_next t.taking a.next a.answer a.gives) (λ port. all_more port a.tellings a.answer (a.all port));
        others = r.since.turns;
        turns_are = ap (λ (x : Taken). r.since.turns ++ x ∷ []) (is_done t.taking t.went_is);
        none_done = r.none_done;
      }

  -- and the last view is left then
  pub ends_kept : (mark : Mark) (later : Node) (after : HostState) (w : Went) → AfterWhole r.world before mark later after w → KeepsLast view start mark after
  ends_kept mark later after w t =
      let a = t.acted in
      record {
        since = since_more t.taking t.taken mark a.tellings t.turns_are t.tellings_are a.tells.turns_are a.tells.tellings_are;
        all = record { last = a.next; replies = r.answer ++ a.answer; run = run_next t.taking a.next a.answer a.gives };
        left = λ disk left. (left_last a.next.content later.keeper after a.stands.holds disk left).1;
        sound = λ disk left. (left_last a.next.content later.keeper after a.stands.holds disk left).0;
      }

  pub ends_fresh : (mark : Mark) (later : Node) (after : HostState) (w : Went) → AfterWhole r.world before mark later after w → ¬ (IsWorn view start mark)
  ends_fresh mark later after w t worn =
      let a = t.acted in
      let since = since_more t.taking t.taken mark a.tellings t.turns_are t.tellings_are a.tells.turns_are a.tells.tellings_are in
      fresh_run view start mark since worn a.next (r.answer ++ a.answer) (run_next t.taking a.next a.answer a.gives) a.stands.holds.keeps.not_worn

  pub wears_run : (mark : Mark) (s : Stop) → WearsIn r.world before mark s → HasWorn view start mark s
  wears_run mark s w = record {
    is = record {
      since = record {
        turns = r.since.turns ++ w.taking ∷ [];
        tellings = r.since.tellings ++ w.tellings;
        turns_are = turns_more start before mark r.since w.taking w.turns_are;
        tellings_are = w.tellings_are ∙ ap (λ (l : List Telling). l ++ w.tellings) r.since.tellings_are ∙ append_assoc start.tellings r.since.tellings w.tellings;
      };
      last = w.wears.next;
      replies = r.answer ++ w.wears.answer;
      run = run_next w.taking w.wears.next w.wears.answer w.wears.gives;
      worn = told_worn w.wears.next.content s w.wears.worn;
    };
    by = w.wears.worn;
    by_the_last = λ world replies run.
        let same : world ≡ r.world = (one_run (take (length (r.since.turns ++ w.taking ∷ []) - 1) (r.since.turns ++ w.taking ∷ [])) (world_of view) world r.world replies r.answer run (run_last w.taking)).0 in
        ap (λ (x : World). x.content.worn) same ∙ r.stands.holds.keeps.not_worn;
  }

-- once all turns are spent
module _ (view : View) (start mark : Mark) (node : Node) (host : HostState) (count : ℕ) (r : Running view start mark node host count) where
  pub spent_complete : IsComplete view start mark
  spent_complete = complete_all view start mark r.since r.world r.answer r.run r.all

  pub spent_all : count ≡ 2 ^ 32 → AreSpent start mark
  spent_all all = record { since = r.since; count = r.count_is ∙ all; none_done = r.none_done }

  pub spent_fresh : ¬ (IsWorn view start mark)
  spent_fresh worn = fresh_run view start mark r.since worn r.world r.answer r.run r.stands.holds.keeps.not_worn

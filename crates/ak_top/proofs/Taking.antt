-- A turn, and what `Done` asks for.
use Rattle.std.proofs.Common.{◌≡◌, ◌⊎◌, inr, List, [], ◌∷◌, ◌++◌, refl, sym, ◌∙◌, ap}
use Rattle.ak_base.specs.declared.stop.Stop.{Stop}
use Rattle.std.proofs.lemmas.List.{append-nil}
use Rattle.ak_host.specs.Files.{Files}
use Rattle.ak_host.specs.Marks.{Mark, Taken, piece, ended, idle, done, Telling}
use Rattle.ak_host.specs.Moments.{HostState, Passes, mark_now}
use Rattle.ak_host.proofs.Passing.{goes_on}
use Rattle.ak_node.specs.Standing.{Stands, InAct, LeavesInAct, AfterAct, AfterTaken, AfterTurn, InTurn, LeavesInTurn, LeavesLast, Wears, WearsIn, went_of}
use Rattle.ak_node.specs.declared.node.Node.{Node}
use Rattle.ak_node.specs.declared.node.Went.TheVariants.{More}
use Rattle.ak_node.specs.declared.node.Went.TheVariants as went
use Rattle.ak_run.specs.Replies.{bytes_at}
use Rattle.ak_run.specs.Run.{World}
use Rattle.ak_run.proofs.Turns.{some_turn}
use Rattle.ak_node.proofs.Tellings.{begins_nothing}
use Rattle.ak_top.specs.Calls.{AfterWhole}

-- ---- Before anything is told of a turn

pub act_starts : (world : World) (turn : Taken) (mark : Mark) → InAct world turn mark mark
act_starts world turn mark = record {
  tellings = [];
  tells = record { turns_are = refl; tellings_are = sym (append-nil mark.tellings) };
  next = (some_turn world turn).next;
  answer = (some_turn world turn).replies;
  gives = (some_turn world turn).gives;
  part = λ port. begins_nothing (bytes_at port (some_turn world turn).replies);
  console = refl;
}

-- ---- A turn that isn't `Done`

pub whole_more : (world : World) (start mark : Mark) (node : Node) (host : HostState) → AfterTurn world start mark node host More → AfterWhole world start mark node host More
whole_more world start mark node host t = record {
  taking = t.taking;
  taken = t.taken;
  turns_are = t.turns_are;
  tellings_are = t.tellings_are;
  acted = acted t.taking t.went_is t.acted;
  went_is = t.went_is;
}
  where
    acted : (taking : Taken) → More ≡ went_of taking → AfterTaken world taking t.taken mark node host → AfterAct world taking t.taken mark node host
    acted (piece port bytes) is a = a
    acted (ended port) is a = a
    acted idle is a = a
    acted done is a = cc

-- ---- `Done`

-- it was taken, and nothing of it is done
pub record HasTaken (world : World) (start mark : Mark) (node : Node) (host : HostState) : Type 0 where
  pub turns_are : mark.turns ≡ start.turns ++ done ∷ []
  pub tellings_are : mark.tellings ≡ start.tellings
  pub stands : Stands node world host

pub has_taken : (world : World) (start mark : Mark) (node : Node) (host : HostState) → AfterTurn world start mark node host went.Done → HasTaken world start mark node host
has_taken world start mark node host t = by t.taking t.went_is t.turns_are t.acted
  where
    by : (taking : Taken) → went.Done ≡ went_of taking → t.taken.turns ≡ start.turns ++ taking ∷ [] → AfterTaken world taking t.taken mark node host → HasTaken world start mark node host
    by (piece port bytes) is turns a = cc
    by (ended port) is turns a = cc
    by idle is turns a = cc
    by done is turns a = record { turns_are = ap (λ (m : Mark). m.turns) a.0 ∙ turns; tellings_are = ap (λ (m : Mark). m.tellings) a.0 ∙ t.tellings_are; stands = a.1 }

module _ (world : World) (old mid new : HostState) (node : Node) (t : HasTaken world (mark_now old) (mark_now mid) node mid) where
  in_turn : (mark : Mark) → InAct world done (mark_now mid) mark → InTurn world (mark_now old) mark
  in_turn mark a = record { taking = done; taken = mark_now mid; turns_are = t.turns_are; tellings_are = t.tellings_are; acting = a }

  leaves_in_turn : (mark : Mark) (disk : Files) → LeavesInAct world done (mark_now mid) mark disk → LeavesInTurn world (mark_now old) mark disk
  leaves_in_turn mark disk a = record { taking = done; taken = mark_now mid; turns_are = t.turns_are; tellings_are = t.tellings_are; acting = a }

  pub finish_passes : Passes (λ mark. (mark ≡ mark_now old) ⊎ InTurn world (mark_now old) mark) (λ mark disk. ((mark ≡ mark_now old) × LeavesLast world.content disk) ⊎ LeavesInTurn world (mark_now old) mark disk) old mid
      → Passes (InAct world done (mark_now mid)) (LeavesInAct world done (mark_now mid)) mid new
      → Passes (λ mark. (mark ≡ mark_now old) ⊎ InTurn world (mark_now old) mark) (λ mark disk. ((mark ≡ mark_now old) × LeavesLast world.content disk) ⊎ LeavesInTurn world (mark_now old) mark disk) old new
  finish_passes first second = goes_on first second (λ mark a. inr (in_turn mark a)) (λ mark disk a left. inr (leaves_in_turn mark disk left))

  pub finish_wears : (a : InAct world done (mark_now mid) (mark_now new)) (s : Stop) → Wears world done s → WearsIn world (mark_now old) (mark_now new) s
  finish_wears a s wears = record {
    taking = done;
    turns_are = a.tells.turns_are ∙ t.turns_are;
    tellings = a.tellings;
    tellings_are = a.tells.tellings_are ∙ ap (λ (l : List Telling). l ++ a.tellings) t.tellings_are;
    wears = wears;
  }

  pub finish_after : (later : Node) → AfterAct world done (mark_now mid) (mark_now new) later new → AfterWhole world (mark_now old) (mark_now new) later new went.Done
  finish_after later a = record { taking = done; taken = mark_now mid; turns_are = t.turns_are; tellings_are = t.tellings_are; acted = a; went_is = refl }

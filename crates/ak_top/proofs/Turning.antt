-- Turns that are taken one behind another, and calls that leave the disk alone, on any disk.
use Rattle.std.proofs.Common.{◌≡◌, ◌≢◌, ◌⊎◌, ◌↔◌, inl, inr, ℕ, ◌+◌, ◌^◌, ◌≤◌, List, [], ◌∷◌, ◌++◌, length, Result, Ok, Err, OnOk, refl, sym, ◌∙◌, ap, subst, arith, length-append}
use Rattle.std.proofs.lemmas.List.{append_assoc, append_cancel_left, append-nil}
use Rattle.std.specs.Prelude.{IfErr}
use Rattle.std.specs.Result.{IsErrAnd}
use Rattle.ak_base.specs.declared.stop.Stop.{Stop}
use Rattle.ak_base.specs.declared.stop.Stop.TheVariants.{Usage, Damaged, Disk, Port, Memory, Budget, Worn, NoStore, Exists}
use Rattle.ak_base.specs.Stops.{status_of}
use Rattle.ak_checkpoint.specs.Making.{KeepsDisk}
use Rattle.ak_host.specs.Marks.{Mark, Taken, piece, ended, idle, done}
use Rattle.ak_host.specs.Moments.{HostState, LeavesNow, Passes, PortPasses, HoldsFrom, mark_now}
use Rattle.ak_host.proofs.Passing.{holds_here, holds_on, same_mark, nothing_passes, passes_weaker}
use Rattle.ak_node.specs.Standing.{TakesOne, TakesTurn, went_of}
use Rattle.ak_node.specs.declared.node.Went.TheVariants.{More}
use Rattle.ak_node.specs.declared.node.Went.TheVariants as went
use Rattle.ak_record.specs.Stops.{IsTaken, IsMakeStop}
use Rattle.ak_meta.specs.Contents.{Content}
use Rattle.ak_node.specs.Calls.{IsNodeStop}
use Rattle.ak_top.specs.Calls.{OnStop, HasTold, IsBudget, IsServeStop, ServeStopsBy}
use Rattle.ak_top.specs.Commands.{Serves}
use Rattle.ak_top.specs.Ends.{IsOwn}
use Rattle.ak_top.specs.Told.{IsDone, NoneDone}
use Rattle.ak_top.specs.Turns.{IsIdle, AreDone, AreAll, AreSome, TurnsSince, IsUntouched, IsRefusal, IsDamage}
use Rattle.ak_top.proofs.Runs.{none_more}
use Rattle.ak_top.proofs.Ends.{serves_or_not, done_last}

-- ---- Turns

-- so many, none of which is `Done`
pub record AreSoFar (count : ℕ) (turns : List Taken) : Type 0 where
  pub number : length turns ≡ count
  pub none_done : NoneDone turns

pub turns_none : (mark : Mark) → TurnsSince (AreSoFar 0) mark mark
turns_none mark = record { turns = []; turns_are = sym (append-nil mark.turns); have = record { number = refl; none_done = tt } }

not_done : (turn : Taken) → More ≡ went_of turn → ¬ (IsDone turn)
not_done (piece port bytes) is never = absurd never
not_done (ended port) is never = absurd never
not_done idle is never = absurd never
not_done done is never = cc

is_done : (turn : Taken) → went.Done ≡ went_of turn → turn ≡ done
is_done (piece port bytes) is = cc
is_done (ended port) is = cc
is_done idle is = cc
is_done done is = refl

one_behind : (start mid mark : Mark) (turns : List Taken) (turn : Taken) → mid.turns ≡ start.turns ++ turns → mark.turns ≡ mid.turns ++ turn ∷ [] → mark.turns ≡ start.turns ++ (turns ++ turn ∷ [])
one_behind start mid mark turns turn before one = one ∙ ap (λ (l : List Taken). l ++ turn ∷ []) before ∙ append_assoc start.turns turns (turn ∷ [])

module _ (start mid mark : Mark) (count : ℕ) (before : TurnsSince (AreSoFar count) start mid) where
  pub turns_more : TakesTurn mid mark More → TurnsSince (AreSoFar (count + 1)) start mark
  turns_more one = record {
    turns = before.turns ++ one.turn ∷ [];
    turns_are = one_behind start mid mark before.turns one.turn before.turns_are one.turns_are;
    have = record {
      number = omega (arith, length-append before.turns (one.turn ∷ []), before.have.number);
      none_done = none_more before.turns one.turn before.have.none_done (not_done one.turn one.went_is);
    };
  }

  pub turns_done : TakesTurn mid mark went.Done → TurnsSince AreDone start mark
  turns_done one = record {
    turns = before.turns ++ one.turn ∷ [];
    turns_are = one_behind start mid mark before.turns one.turn before.turns_are one.turns_are;
    have = record {
      others = before.turns;
      turns_are = ap (λ (t : Taken). before.turns ++ t ∷ []) (is_done one.turn one.went_is);
      none_done = before.have.none_done;
    };
  }

  pub turns_some : TakesOne mid mark → TurnsSince AreSome start mark
  turns_some one = record {
    turns = before.turns ++ one.0 ∷ [];
    turns_are = one_behind start mid mark before.turns one.0 before.turns_are one.1;
    have = omega (arith, length-append before.turns (one.0 ∷ []));
  }

pub turns_all : (start mark : Mark) (count : ℕ) → TurnsSince (AreSoFar count) start mark → count ≡ 2 ^ 32 → TurnsSince AreAll start mark
turns_all start mark count t all = record { turns = t.turns; turns_are = t.turns_are; have = record { count = t.have.number ∙ all; none_done = t.have.none_done } }

-- from another mark with the same turns, or to one
pub turns_from : {P : List Taken → Type 0} {one two mark : Mark} → one.turns ≡ two.turns → TurnsSince P one mark → TurnsSince P two mark
turns_from {P} {one} {two} {mark} same t = record { turns = t.turns; turns_are = t.turns_are ∙ ap (λ (l : List Taken). l ++ t.turns) same; have = t.have }

pub turns_to : {P : List Taken → Type 0} {start one two : Mark} → two.turns ≡ one.turns → TurnsSince P start one → TurnsSince P start two
turns_to {P} {start} {one} {two} same t = record { turns = t.turns; turns_are = same ∙ t.turns_are; have = t.have }

no_length : (start turns : List Taken) → start ≡ start ++ turns → length turns ≡ 0
no_length start turns same = ap length (append_cancel_left start turns [] (sym same ∙ sym (append-nil start)))

pub idle_not_some : {start mark : Mark} → IsIdle start mark → TurnsSince AreSome start mark → ⊥
idle_not_some {start} {mark} still t = omega (arith, no_length start.turns t.turns (sym still ∙ t.turns_are), t.have)

pub idle_not_all : {start mark : Mark} → IsIdle start mark → TurnsSince AreAll start mark → ⊥
idle_not_all {start} {mark} still t = omega (arith, no_length start.turns t.turns (sym still ∙ t.turns_are), t.have.count)

pub done_not_all : {start mark : Mark} → TurnsSince AreDone start mark → TurnsSince AreAll start mark → ⊥
done_not_all {start} {mark} one two =
    let same : two.turns ≡ one.turns = append_cancel_left start.turns two.turns one.turns (sym two.turns_are ∙ one.turns_are) in
    done_last one.have.others (subst NoneDone (same ∙ one.have.turns_are) two.have.none_done)

-- ---- Calls that leave the disk alone

pub untouched_of : {old new : HostState} → KeepsDisk old new → IsUntouched old new
untouched_of {old} {new} kept = record {
  later = kept.moments.later;
  idle = ap (λ (m : Mark). m.turns) (same_mark kept.moments);
  sizes = kept.sizes;
  files = kept.files;
  moments = (holds_on {M = λ mark. mark ≡ mark_now old} {P = λ mark disk. LeavesNow old disk} old.moment (holds_here refl (λ disk left. left)) kept.moments).disks;
}

pub untouched_here : (host : HostState) → IsUntouched host host
untouched_here host = untouched_of (record { sizes = refl; files = refl; moments = nothing_passes _ _ host })

-- where a line is told behind it
pub line_idle : (before now : ℕ) {start mark : Mark} (line : List ℕ) → HasTold before now start mark line → mark.turns ≡ start.turns
line_idle before now line (inl told) = told.turns_are
line_idle before now line (inr (same, rose)) = ap (λ (m : Mark). m.turns) same

pub untouched_told : {M : Mark → Type 0} {old mid new : HostState} (line : List ℕ) → IsUntouched old mid → new.sizes ≡ mid.sizes → new.files ≡ mid.files
    → HasTold mid.port_faults new.port_faults (mark_now mid) (mark_now new) line → PortPasses M mid new → IsUntouched old new
untouched_told {M} {old} {mid} {new} line kept sizes files told run = record {
  later = omega (arith, kept.later, run.later);
  idle = line_idle mid.port_faults new.port_faults line told ∙ kept.idle;
  sizes = sizes ∙ kept.sizes;
  files = files ∙ kept.files;
  moments = (holds_on {M = λ mark. Unit {0}} {P = λ mark disk. LeavesNow old disk} old.moment before behind).disks;
}
  where
    before : HoldsFrom old.moment (λ mark. Unit {0}) (λ mark disk. LeavesNow old disk) mid
    before = record { marks = λ t from until. tt; disks = kept.moments }

    behind : Passes (λ mark. Unit {0}) (λ mark disk. LeavesNow old disk) mid new
    behind = passes_weaker run (λ mark m. tt) (λ mark disk m left. kept.moments mid.moment disk kept.later (omega arith) left)

-- ---- Stops

-- the stop of a call is handed on
pub stop_handed : {T : Type 0} (is : Stop → Type 0) {P : Type 0} (r : Result T Stop) (stop : Stop) → IsErrAnd r (λ e. e ≡ stop) → (is stop → P) → OnStop is r P
stop_handed is (Ok v) stop err p = tt
stop_handed is (Err e) stop same p = λ x. p (subst is same x)

pub on_stop_weaker : {T : Type 0} (is : Stop → Type 0) {P Q : Type 0} (r : Result T Stop) → (P → Q) → OnStop is r P → OnStop is r Q
on_stop_weaker is (Ok v) follows p = tt
on_stop_weaker is (Err s) follows p = λ x. follows (p x)

pub on_ok_all : {T : Type 0} {P : Type 0} (r : Result T Stop) → P → OnOk r P
on_ok_all (Ok v) p = p
on_ok_all (Err s) p = tt

-- no serving is refused
never_refused : (told : Type 0) (was : Content) (old new : HostState) (s : Stop) → IsRefusal s → IsServeStop told was old new s → ⊥
never_refused told was old new s (inl e) stop = by_words (subst (IsServeStop told was old new) e stop)
  where
    by_words : IsServeStop told was old new Usage → ⊥
    by_words (inl never) = absurd never
    by_words (inr never) = cc
never_refused told was old new s (inr (inl e)) stop = by_none (subst (IsServeStop told was old new) e stop)
  where
    by_none : IsServeStop told was old new NoStore → ⊥
    by_none (inl never) = absurd never
    by_none (inr never) = cc
never_refused told was old new s (inr (inr e)) stop = by_one (subst (IsServeStop told was old new) e stop)
  where
    by_one : IsServeStop told was old new Exists → ⊥
    by_one (inl never) = absurd never
    by_one (inr never) = cc

pub serve_refuses_none : (P : Type 0) (told : Type 0) (was : Content) (old new : HostState) (r : Result (Unit {0}) Stop) → ServeStopsBy told was old new r → OnStop IsRefusal r P
serve_refuses_none P told was old new (Ok v) stops = tt
serve_refuses_none P told was old new (Err s) stops = λ refused. absurd (never_refused told was old new s refused stops)

-- no turn spends them all
pub turn_not_spent : (told : Type 0) (was : Content) (old new : HostState) (s : Stop) → IsBudget s → IsNodeStop told was old new s → ⊥
turn_not_spent told was old new s budget stop = subst (IsNodeStop told was old new) budget stop

pub damaged_one : (start mark : Mark) (s : Stop) → IsDamage s → (s ≡ Port) ⊎ TakesOne start mark → TakesOne start mark
damaged_one start mark s (file, block, e) (inl port) = cc
damaged_one start mark s (file, block, e) (inr one) = one

pub make_refused : (told : Type 0) (old new : HostState) (s : Stop) → told → IsMakeStop told old new s → (IsTaken old.files → KeepsDisk old new) → IsRefusal s → IsUntouched old new
make_refused told old new s t cause kept (inl e) = absurd (subst (IsMakeStop told old new) e cause)
make_refused told old new s t cause kept (inr (inl e)) = absurd (subst (IsMakeStop told old new) e cause)
make_refused told old new s t cause kept (inr (inr e)) = untouched_of (kept (subst (IsMakeStop told old new) e cause t))

pub make_refuses : {T : Type 0} (told : Type 0) (old new : HostState) (r : Result T Stop) → told → IfErr r (IsMakeStop told old new) → (IsTaken old.files → KeepsDisk old new)
    → OnStop IsRefusal r (IsUntouched old new)
make_refuses told old new (Ok v) t cause kept = tt
make_refuses told old new (Err s) t cause kept = make_refused told old new s t cause kept

pub make_undamaged : (told : Type 0) (old new : HostState) (s : Stop) → IsMakeStop told old new s → IsDamage s → ⊥
make_undamaged told old new s cause (file, block, e) = subst (IsMakeStop told old new) e cause

no_other : (n status : ℕ) → status ≡ n → (status ≡ 1) ⊎ ((status ≡ 8) ⊎ (status ≡ 9)) → 2 ≤ n → n ≤ 7 → ⊥
no_other n status is (inl one) least most = omega (arith, is, one, least, most)
no_other n status is (inr (inl eight)) least most = omega (arith, is, eight, least, most)
no_other n status is (inr (inr nine)) least most = omega (arith, is, nine, least, most)

pub refusal_of : (s : Stop) (status : ℕ) → status ≡ status_of s → (status ≡ 1) ⊎ ((status ≡ 8) ⊎ (status ≡ 9)) → IsRefusal s
refusal_of Usage status is refused = inl refl
refusal_of NoStore status is refused = inr (inl refl)
refusal_of Exists status is refused = inr (inr refl)
refusal_of (Damaged file block) status is refused = absurd (no_other 2 status is refused (omega arith) (omega arith))
refusal_of Disk status is refused = absurd (no_other 3 status is refused (omega arith) (omega arith))
refusal_of Port status is refused = absurd (no_other 4 status is refused (omega arith) (omega arith))
refusal_of Memory status is refused = absurd (no_other 5 status is refused (omega arith) (omega arith))
refusal_of Budget status is refused = absurd (no_other 6 status is refused (omega arith) (omega arith))
refusal_of (Worn ordinal fill number) status is refused = absurd (no_other 7 status is refused (omega arith) (omega arith))

pub damage_of : (s : Stop) (status : ℕ) → status ≡ status_of s → status ≡ 2 → IsDamage s
damage_of (Damaged file block) status is two = (file, block, refl)
damage_of Usage status is two = absurd (omega (arith, is, two))
damage_of Disk status is two = absurd (omega (arith, is, two))
damage_of Port status is two = absurd (omega (arith, is, two))
damage_of Memory status is two = absurd (omega (arith, is, two))
damage_of Budget status is two = absurd (omega (arith, is, two))
damage_of (Worn ordinal fill number) status is two = absurd (omega (arith, is, two))
damage_of NoStore status is two = absurd (omega (arith, is, two))
damage_of Exists status is two = absurd (omega (arith, is, two))

module _ (old mid new : HostState) (still : IsIdle (mark_now mid) (mark_now new)) where
  refused_none : (s : Stop) → IsRefusal s → (IsRefusal s → IsUntouched old mid) → TurnsSince AreAll (mark_now old) (mark_now new) → ⊥
  refused_none s is refused all = idle_not_all (still ∙ (refused is).idle) all

  -- a call that stopped with this, where what was refused took no turn
  pub all_failed : (s : Stop) (status : ℕ) → status ≡ status_of s → (IsRefusal s → IsUntouched old mid) → (IsBudget s → TurnsSince AreAll (mark_now old) (mark_now mid))
      → (status ≡ 6) ↔ (TurnsSince AreAll (mark_now old) (mark_now new) × IsOwn status × (status ≢ 2) × (status ≢ 7))
  all_failed Budget status is refused all = (
    λ six. (
      turns_to still (all refl),
      record { no_disk = λ e. omega (arith, e, is); no_port = λ e. omega (arith, e, is); no_memory = λ e. omega (arith, e, is) },
      λ e. omega (arith, e, is),
      λ e. omega (arith, e, is),
    ),
    λ h. is,
  )
  all_failed Usage status is refused all = (λ six. absurd (omega (arith, is, six)), λ h. absurd (refused_none Usage (inl refl) refused h.0))
  all_failed NoStore status is refused all = (λ six. absurd (omega (arith, is, six)), λ h. absurd (refused_none NoStore (inr (inl refl)) refused h.0))
  all_failed Exists status is refused all = (λ six. absurd (omega (arith, is, six)), λ h. absurd (refused_none Exists (inr (inr refl)) refused h.0))
  all_failed (Damaged file block) status is refused all = (λ six. absurd (omega (arith, is, six)), λ h. absurd (h.2 is))
  all_failed Disk status is refused all = (λ six. absurd (omega (arith, is, six)), λ h. absurd (h.1.no_disk is))
  all_failed Port status is refused all = (λ six. absurd (omega (arith, is, six)), λ h. absurd (h.1.no_port is))
  all_failed Memory status is refused all = (λ six. absurd (omega (arith, is, six)), λ h. absurd (h.1.no_memory is))
  all_failed (Worn ordinal fill number) status is refused all = (λ six. absurd (omega (arith, is, six)), λ h. absurd (h.3 is))

-- a call that was done
pub all_done : (status : ℕ) → status ≡ 0 → (words : List (List ℕ)) (start mark : Mark) → (Serves words → TurnsSince AreDone start mark) → (¬ (Serves words) → mark ≡ start)
    → (status ≡ 6) ↔ (TurnsSince AreAll start mark × IsOwn status × (status ≢ 2) × (status ≢ 7))
all_done status is words start mark finished still = (λ six. absurd (omega (arith, is, six)), λ h. absurd (unspent (serves_or_not words) h.0))
  where
    unspent : Serves words ⊎ ¬ (Serves words) → TurnsSince AreAll start mark → ⊥
    unspent (inl serves) all = done_not_all (finished serves) all
    unspent (inr none) all = idle_not_all (ap (λ (m : Mark). m.turns) (still none)) all

-- How a call ends: what stands told as it does, and what its status says.
use Rattle.std.proofs.Common.{◌≡◌, ◌≢◌, ◌⊎◌, ◌↔◌, inl, inr, ℕ, ◌+◌, ◌≤◌, ◌<◌, Bool, false, ◌==◌, if◌then◌else◌, List, [], ◌∷◌, ◌++◌, length, Err, refl, sym, ◌∙◌, ap, subst, arith, append_assoc, codes}
use Rattle.std.proofs.lemmas.List.{append-nil}
use Rattle.std.proofs.lemmas.Bool.{cases_eq, cases_lt}
use Rattle.std.proofs.lemmas.Bool.Decides.{nat_tests}
use Rattle.ak_base.specs.declared.limits.Limits.{Limits}
use Rattle.ak_base.specs.declared.stop.Stop.{Stop}
use Rattle.ak_base.specs.declared.stop.Stop.TheVariants.{Usage, Damaged, Disk, Port, Memory, Budget, Worn, NoStore, Exists}
use Rattle.ak_base.specs.Stops.{status_of}
use Rattle.ak_host.specs.Causes.{Rose}
use Rattle.ak_host.specs.Files.{Files}
use Rattle.ak_host.specs.Marks.{Mark, Taken, done, Telling, told_to}
use Rattle.ak_host.specs.Moments.{HostState, Passes, DiskPasses, PortPasses, HoldsFrom, mark_now}
use Rattle.ak_host.proofs.Passing.{passes_weaker, mark_holds, holds_here, holds_on}
use Rattle.ak_node.specs.Calls.{Begins, Told, IsSilent}
use Rattle.ak_image.specs.Named.{IsDamagedBy}
use Rattle.ak_record.specs.Stops.{IsTaken}
use Rattle.ak_world.specs.Views.{View}
use Rattle.ak_words.specs.Words.{IsCommand}
use Rattle.ak_words.specs.declared.job.Command.TheVariants.{Run, Scratch}
use Rattle.ak_top.specs.Calls.{HasTold}
use Rattle.ak_top.specs.Commands.{IsRun, Makes, Serves, AreFree, IsMaking}
use Rattle.ak_top.specs.Ends.{IsEnd, IsRunDamage, OnConsole, TellsLine, EndsBy, IsOneOf, IsOwn, IsMissing, IsThere, IsServingOrThere, IsExists, HasServed, IsFinished}
use Rattle.ak_run.specs.Keeping.{Confirms}
use Rattle.ak_top.specs.Kept.{IsKept, KeepsFrom}
use Rattle.ak_run.specs.Run.{RunsFrom, world_of}
use Rattle.ak_top.specs.Told.{Since, IsAnswered, IsComplete, NoneDone, EndsDone, AreSpent, IsWorn, HasWorn, IsQuiet, line_of, IsTold}
use Rattle.ak_top.proofs.Commands.{quiet_starts}
use Rattle.ak_node.proofs.Tellings.{told_to-append}
use Rattle.ak_top.proofs.Making.{free_none}
use Rattle.ak_top.proofs.Runs.{none_since, same_since, fresh_run}

-- ---- Before any turn

spent_none : (mark : Mark) → AreSpent mark mark → ⊥
spent_none mark s =
    let count : length s.since.turns ≡ 0 = ap length (same_since s.since (none_since mark)) in
    omega (arith, count, s.count)

pub not_spent_here : (start mark : Mark) → mark ≡ start → AreSpent start mark → ⊥
not_spent_here start mark same s = spent_none start (subst (AreSpent start) same s)

pub fresh_here : (view : View) (start mark : Mark) → mark ≡ start → IsWorn view start mark → ⊥
fresh_here view start mark same w = fresh_run view start start (none_since start) (subst (IsWorn view start) same w) (world_of view) [] (record { same = refl; told_is = refl }) refl

-- ---- The line of the console

zero_at : (port : ℕ) → 1 ≤ port → (0 == port) ≡ false
zero_at port h = grind (arith, nat_tests)

-- the line was told, or nothing
abbrev pub Lined : Mark → Mark → List ℕ → Type 0
Lined mid mark line = (mark ≡ mid) ⊎ Told mid mark 0 line

pub lined : (before now : ℕ) (mid mark : Mark) (line : List ℕ) → HasTold before now mid mark line → Lined mid mark line
lined before now mid mark line (inl t) = inr t
lined before now mid mark line (inr (same, rose)) = inl same

pub lined_turns : (mid mark : Mark) (line : List ℕ) → Lined mid mark line → mark.turns ≡ mid.turns
lined_turns mid mark line (inl same) = ap (λ (m : Mark). m.turns) same
lined_turns mid mark line (inr t) = t.turns_are

module _ (start mid mark : Mark) (line : List ℕ) (t : Told mid mark 0 line) where
  abbrev since_line : Since start mid → Since start mark
  since_line since = record {
    turns = since.turns;
    tellings = since.tellings ++ t.tellings;
    turns_are = t.turns_are ∙ since.turns_are;
    tellings_are = t.tellings_are ∙ ap (λ (l : List Telling). l ++ t.tellings) since.tellings_are ∙ append_assoc start.tellings since.tellings t.tellings;
  }

  same_port : (since : Since start mid) (port : ℕ) → 1 ≤ port → told_to port (since.tellings ++ t.tellings) ≡ told_to port since.tellings
  same_port since port h = told_to-append port since.tellings t.tellings
      ∙ ap (λ (l : List ℕ). told_to port since.tellings ++ l) (t.told port ∙ ap (λ (b : Bool). if b then line else []) (zero_at port h))
      ∙ append-nil (told_to port since.tellings)

  console_line : (since : Since start mid) → told_to 0 since.tellings ≡ [] → told_to 0 (since.tellings ++ t.tellings) ≡ line
  console_line since none = told_to-append 0 since.tellings t.tellings ∙ ap (λ (l : List ℕ). l ++ told_to 0 t.tellings) none ∙ t.told 0

  abbrev answered_line : (view : View) → IsAnswered view start mid → IsAnswered view start mark
  answered_line view a = record {
    since = since_line a.since;
    ports = λ port h. let p = a.ports port h in (
      p.0,
      p.1,
      p.2,
      p.3,
      record {
        at_least = subst (Begins p.0) (sym (same_port a.since port h)) p.4.at_least;
        at_most = subst (λ l. Begins l p.1) (sym (same_port a.since port h)) p.4.at_most;
      },
    );
  }

  complete_line : (view : View) → IsComplete view start mid → IsComplete view start mark
  complete_line view a = record {
    since = since_line a.since;
    ports = λ port h. let p = a.ports port h in record { last = p.last; replies = p.replies; run = p.run; is = same_port a.since port h ∙ p.is };
  }

  spent_line : AreSpent start mid → AreSpent start mark
  spent_line s = record { since = since_line s.since; count = s.count; none_done = s.none_done }

  worn_line : (view : View) → IsWorn view start mid → IsWorn view start mark
  worn_line view w = record { since = since_line w.since; last = w.last; replies = w.replies; run = w.run; worn = w.worn }

  told_line : (view : View) (s : Stop) → HasWorn view start mid s → HasWorn view start mark s
  unfolding worn_line
  told_line view s w = record { is = worn_line view w.is; by = w.by; by_the_last = w.by_the_last }

  kept_line : (view : View) (disk : Files) → IsKept view start mid disk → IsKept view start mark disk
  kept_line view disk k = record {
    since = since_line k.since;
    all = k.all;
    before = k.before;
    view = k.view;
    sound = k.sound;
    stands = k.stands;
    taken = k.taken;
    recent = k.recent;
    no_older = k.no_older;
    confirmed = λ port h. subst (λ (l : List ℕ). Confirms port (length l) k.view.number k.all.replies) (sym (same_port k.since port h)) (k.confirmed port h);
    prefixes = k.prefixes;
  }

-- each goes on over the line
module _ (start mid mark : Mark) (line : List ℕ) where
  pub since_on : Lined mid mark line → Since start mid → Since start mark
  since_on (inl same) s = subst (Since start) (sym same) s
  since_on (inr t) s = since_line start mid mark line t s

  pub complete_on : (view : View) → Lined mid mark line → IsComplete view start mid → IsComplete view start mark
  complete_on view (inl same) a = subst (IsComplete view start) (sym same) a
  complete_on view (inr t) a = complete_line start mid mark line t view a

  pub spent_on : Lined mid mark line → AreSpent start mid → AreSpent start mark
  spent_on (inl same) a = subst (AreSpent start) (sym same) a
  spent_on (inr t) a = spent_line start mid mark line t a

  pub worn_on : (view : View) → Lined mid mark line → IsWorn view start mid → IsWorn view start mark
  worn_on view (inl same) a = subst (IsWorn view start) (sym same) a
  worn_on view (inr t) a = worn_line start mid mark line t view a

  pub told_on : (view : View) (s : Stop) → Lined mid mark line → HasWorn view start mid s → HasWorn view start mark s
  told_on view s (inl same) a = subst (λ (m : Mark). HasWorn view start m s) (sym same) a
  told_on view s (inr t) a = told_line start mid mark line t view s a

  pub kept_on : (view : View) (disk : Files) → Lined mid mark line → IsKept view start mid disk → IsKept view start mark disk
  kept_on view disk (inl same) a = subst (λ (m : Mark). IsKept view start m disk) (sym same) a
  kept_on view disk (inr t) a = kept_line start mid mark line t view disk a

  -- and back
  same_turns : Lined mid mark line → (a : Since start mid) (b : Since start mark) → b.turns ≡ a.turns
  same_turns l a b = same_since b (record { turns = a.turns; tellings = b.tellings; turns_are = lined_turns mid mark line l ∙ a.turns_are; tellings_are = b.tellings_are })

  pub spent_back : Lined mid mark line → Since start mid → AreSpent start mark → AreSpent start mid
  spent_back l a s = record {
    since = a;
    count = ap length (sym (same_turns l a s.since)) ∙ s.count;
    none_done = subst NoneDone (same_turns l a s.since) s.none_done;
  }

  pub worn_back : (view : View) → Lined mid mark line → Since start mid → IsWorn view start mark → IsWorn view start mid
  worn_back view l a w = record {
    since = a;
    last = w.last;
    replies = w.replies;
    run = subst (λ (ts : List Taken). RunsFrom (world_of view) ts w.last w.replies) (same_turns l a w.since) w.run;
    worn = w.worn;
  }

-- ---- At each moment of the call

quiet_told : (status : ℕ) (view : View) (start mark : Mark) → IsQuiet view start mark → IsTold status view start mark
quiet_told status view start mark q = record { answered = q.answered; console = inl q.console }

line_told : (s : Stop) (view : View) (start mid mark : Mark) → IsQuiet view start mid → Lined mid mark (line_of s) → IsTold (status_of s) view start mark
line_told s view start mid mark q (inl same) = quiet_told (status_of s) view start mark (subst (IsQuiet view start) (sym same) q)
line_told s view start mid mark q (inr t) = record {
  answered = answered_line start mid mark (line_of s) t view q.answered;
  console = inr (s, refl, console_line start mid mark (line_of s) t q.answered.since q.console);
}

pub quiet_end : {view : View} {P : Mark → Files → Type 0} {old new : HostState} → Passes (IsQuiet view (mark_now old)) P old new → IsQuiet view (mark_now old) (mark_now new)
quiet_end {view} {P} {old} {new} run = mark_holds {M = IsQuiet view (mark_now old)} {P = P} run (quiet_starts view (mark_now old))

told_from : (status : ℕ) (view : View) (old new : HostState) → Passes (IsQuiet view (mark_now old)) (λ mark disk. Unit {0}) old new → HoldsFrom old.moment (IsTold status view (mark_now old)) (λ mark disk. Unit {0}) new
told_from status view old new run =
    holds_on old.moment (holds_here {M = IsTold status view (mark_now old)} {P = λ mark disk. Unit {0}} (quiet_told status view _ _ (quiet_starts view (mark_now old))) (λ disk left. tt))
    (passes_weaker run (λ mark q. quiet_told status view (mark_now old) mark q) (λ mark disk q left. tt))

pub told_done : (view : View) (old new : HostState) → Passes (IsQuiet view (mark_now old)) (λ mark disk. Unit {0}) old new → HoldsFrom old.moment (IsTold 0 view (mark_now old)) (λ mark disk. Unit {0}) new
told_done view old new run = told_from 0 view old new run

pub told_failed : (s : Stop) (status : ℕ) (view : View) (old mid new : HostState) → status ≡ status_of s → Passes (IsQuiet view (mark_now old)) (λ mark disk. Unit {0}) old mid
    → PortPasses (λ mark. Lined (mark_now mid) mark (line_of s)) mid new
    → HoldsFrom old.moment (IsTold status view (mark_now old)) (λ mark disk. Unit {0}) new
told_failed s status view old mid new is run tell =
    holds_on old.moment (told_from status view old mid run)
    (passes_weaker tell (λ mark m. subst (λ n. IsTold n view (mark_now old) mark) (sym is) (line_told s view (mark_now old) (mark_now mid) mark (quiet_end run) m)) (λ mark disk m left. tt))

pub making_from : (limits : Limits) (old new : HostState) → AreFree old → DiskPasses (IsMaking limits) old new → HoldsFrom old.moment (λ mark. Unit {0}) (λ mark disk. IsMaking limits disk) new
making_from limits old new free run =
    holds_on old.moment (holds_here {M = λ mark. Unit {0}} {P = λ mark disk. IsMaking limits disk} tt (λ disk left. inl (free_none disk (free disk left))))
    (passes_weaker run (λ mark same. tt) (λ mark disk same left. left))

pub making_failed : {M : Mark → Type 0} (limits : Limits) (old mid new : HostState) → AreFree old → DiskPasses (IsMaking limits) old mid → PortPasses M mid new
    → HoldsFrom old.moment (λ mark. Unit {0}) (λ mark disk. IsMaking limits disk) new
making_failed {M} limits old mid new free run tell =
    let so_far = making_from limits old mid free run in
    holds_on old.moment so_far
    (passes_weaker tell (λ mark m. tt) (λ mark disk m left. so_far.disks mid.moment disk run.later (omega arith) left))

-- the moments of the line
pub keeps_on : {opened : Type 0} (view : View) (P : Files → Type 0) (line : List ℕ) (old mid new : HostState) → old.moment ≤ mid.moment → KeepsFrom view P opened old mid
    → PortPasses (λ mark. Lined (mark_now mid) mark line) mid new → KeepsFrom view P opened old new
keeps_on {opened} view P line old mid new later k tell = elim (cases_lt mid.moment k.barrier) [
  | inl after ↦ record {
    barrier = k.barrier + new.moment + 1;
    later = omega (arith, k.later);
    within = λ o. absurd (omega (arith, k.within o, after));
    turns_before = λ t from below until. turns_at after t from until;
    before = λ t disk from below until left. had after t disk from until left;
    from = λ t disk from until left. absurd (omega (arith, from, until));
  }
  | inr before ↦ record {
    barrier = k.barrier;
    later = k.later;
    within = λ o. omega (arith, before, tell.later);
    turns_before = λ t from until upto.
        let early : t ≤ mid.moment = omega (arith, until, before) in
        ap (λ (m : Mark). m.turns) (tell.mark_kept t early) ∙ k.turns_before t from until early;
    before = λ t disk from until upto left.
        let early : t ≤ mid.moment = omega (arith, until, before) in
        k.before t disk from until early ((tell.leaves_kept t disk early).0 left);
    from = λ t disk from until left. kept before t disk from until left;
  }
]
  where
    turns_at : mid.moment < k.barrier → (t : ℕ) → old.moment ≤ t → t ≤ new.moment → (new.mark t).turns ≡ (old.mark old.moment).turns
    turns_at after t from until = elim (cases_lt mid.moment t) [
      | inl on ↦ lined_turns (mark_now mid) (new.mark t) line (tell.marks t on until) ∙ k.turns_before mid.moment later after (omega arith)
      | inr early ↦ ap (λ (m : Mark). m.turns) (tell.mark_kept t early) ∙ k.turns_before t from (omega (arith, early, after)) early
    ]

    had : mid.moment < k.barrier → (t : ℕ) (disk : Files) → old.moment ≤ t → t ≤ new.moment → new.leaves t disk → P disk
    had after t disk from until left = elim (cases_lt mid.moment t) [
      | inl on ↦ k.before mid.moment disk later after (omega arith) (tell.disks t disk on until left)
      | inr early ↦ k.before t disk from (omega (arith, early, after)) early ((tell.leaves_kept t disk early).0 left)
    ]

    kept : k.barrier ≤ mid.moment → (t : ℕ) (disk : Files) → k.barrier ≤ t → t ≤ new.moment → new.leaves t disk → IsKept view (old.mark old.moment) (new.mark t) disk
    kept before t disk from until left = elim (cases_lt mid.moment t) [
      | inl on ↦ kept_on (old.mark old.moment) (mark_now mid) (new.mark t) line view disk (tell.marks t on until) (k.from mid.moment disk before (omega arith) (tell.disks t disk on until left))
      | inr early ↦ subst (λ (m : Mark). IsKept view (old.mark old.moment) m disk) (sym (tell.mark_kept t early)) (k.from t disk from early ((tell.leaves_kept t disk early).0 left))
    ]

-- ---- What the words ask for

eq_or_not : (xs ys : List ℕ) → (xs ≡ ys) ⊎ (xs ≡ ys → ⊥)
eq_or_not [] [] = inl refl
eq_or_not [] (y ∷ ys) = inr (λ e. cc)
eq_or_not (x ∷ xs) [] = inr (λ e. cc)
eq_or_not (x ∷ xs) (y ∷ ys) = elim (cases_eq x y) [
  | inl e ↦ elim (eq_or_not xs ys) [
    | inl f ↦ inl (ap (λ (n : ℕ). n ∷ xs) e ∙ ap (λ (l : List ℕ). y ∷ l) f)
    | inr n ↦ inr (λ g. n (cc))
  ]
  | inr n ↦ inr (λ g. n (cc))
]

pub serves_or_not : (words : List (List ℕ)) → Serves words ⊎ ¬ (Serves words)
serves_or_not [] = inl (inr refl)
serves_or_not (a ∷ []) = inr none
  where
    none : ¬ (Serves (a ∷ []))
    none (inl (dir, is)) = cc
    none (inr is) = cc
serves_or_not (a ∷ b ∷ []) = elim (eq_or_not a (codes "run")) [
  | inl is ↦ inl (inl (b, ap (λ (l : List ℕ). l ∷ b ∷ []) is))
  | inr other ↦ inr (none other)
]
  where
    none : (a ≡ codes "run" → ⊥) → ¬ (Serves (a ∷ b ∷ []))
    none other (inl (dir, is)) = other (cc)
    none other (inr is) = cc
serves_or_not (a ∷ b ∷ c ∷ rest) = inr none
  where
    none : ¬ (Serves (a ∷ b ∷ c ∷ rest))
    none (inl (dir, is)) = cc
    none (inr is) = cc

pub serves_command : (words : List (List ℕ)) → Serves words → IsCommand words
serves_command words (inl (dir, is)) = (record { command = Run; dir = dir; files = [] }, record { asked = is; files = refl })
serves_command words (inr is) = (record { command = Scratch; dir = []; files = [] }, record { asked = (is, refl); files = refl })

-- words that make a store and serve it are none
pub makes_serves : (words : List (List ℕ)) (limits : Limits) → Makes words limits → Serves words → words ≡ []
makes_serves words limits (inr (none, is)) serves = none
makes_serves words limits (inl (dir, asks)) (inr none) = none
makes_serves words limits (inl (dir, asks)) (inl (other, run)) = let is = asks.1 in absurd (cc)

-- ---- Why the call ends

end_later : (words : List (List ℕ)) (told : Type 0) (old mid new : HostState) (s : Stop) → IsEnd words told old mid s → new.disk_faults ≡ mid.disk_faults → mid.port_faults ≤ new.port_faults
    → (told → new.files ≡ mid.files) → (told → Lined (mark_now mid) (mark_now new) (line_of s)) → IsEnd words told old new s
end_later words told old mid new Usage cause disk port files line = cause
end_later words told old mid new (Damaged file block) cause disk port files line = (cause.0, λ t. damaged t (cause.1 t))
  where
    damaged : told → IsRunDamage words old mid file block → IsRunDamage words old new file block
    damaged t (run, inl before) = (run, inl before)
    damaged t (run, inr leaf) = (
      run,
      inr (record {
        number = leaf.number;
        found = leaf.found;
        newest = leaf.newest;
        damaged = subst (IsDamagedBy leaf.found file block) (sym (files t)) leaf.damaged;
      }),
    )
end_later words told old mid new Disk cause disk port files line = subst (Rose old.disk_faults) (sym disk) cause
end_later words told old mid new Port cause disk port files line = omega (arith, cause, port)
end_later words told old mid new Memory cause disk port files line = tt
end_later words told old mid new Budget cause disk port files line = cause
end_later words told old mid new (Worn ordinal fill number) cause disk port files line =
    (cause.0, λ t view opens. told_on (mark_now old) (mark_now mid) (mark_now new) _ view (Worn ordinal fill number) (line t) (cause.1 t view opens))
end_later words told old mid new NoStore cause disk port files line = cause
end_later words told old mid new Exists cause disk port files line = cause

pub silent_console : (old new : HostState) → IsSilent old new → OnConsole (mark_now old) (mark_now new) []
silent_console old new silent = silent ∙ sym (append-nil (told_to 0 (mark_now old).tellings))

tells_line : (s : Stop) (old mid new : HostState) → old.port_faults ≤ mid.port_faults → OnConsole (mark_now old) (mark_now mid) []
    → HasTold mid.port_faults new.port_faults (mark_now mid) (mark_now new) (line_of s) → TellsLine old new s
tells_line s old mid new later quiet (inl t) = inl (
    ap (told_to 0) t.tellings_are ∙ told_to-append 0 (mark_now mid).tellings t.tellings
    ∙ ap (λ (l : List ℕ). told_to 0 (mark_now mid).tellings ++ l) (t.told 0)
    ∙ ap (λ (l : List ℕ). l ++ line_of s) (quiet ∙ append-nil (told_to 0 (mark_now old).tellings))
    )
tells_line s old mid new later quiet (inr (same, rose)) = inr (subst (λ (m : Mark). OnConsole (mark_now old) m []) (sym same) quiet, omega (arith, rose, later))

pub ends_failed : (words : List (List ℕ)) (told : Type 0) (old mid new : HostState) (s : Stop) (status : ℕ) → status ≡ status_of s → IsEnd words told old mid s
    → new.disk_faults ≡ mid.disk_faults → mid.port_faults ≤ new.port_faults → (told → new.files ≡ mid.files) → old.port_faults ≤ mid.port_faults → (told → IsSilent old mid)
    → (told → HasTold mid.port_faults new.port_faults (mark_now mid) (mark_now new) (line_of s)) → EndsBy words told old new status
ends_failed words told old mid new s status is cause disk port files later quiet line =
    inr (
      s,
      is,
      end_later words told old mid new s cause disk port files (λ t. lined mid.port_faults new.port_faults (mark_now mid) (mark_now new) (line_of s) (line t)),
      λ t. tells_line s old mid new later (silent_console old mid (quiet t)) (line t),
    )

pub missing_status : (s : Stop) (status : ℕ) → status ≡ status_of s → IsMissing s → IsOneOf 8 3 5 status
missing_status s status is (inl e) = inl (is ∙ ap status_of e)
missing_status s status is (inr (inl e)) = inr (inl (is ∙ ap status_of e))
missing_status s status is (inr (inr e)) = inr (inr (is ∙ ap status_of e))

pub there_status : (s : Stop) (status : ℕ) → status ≡ status_of s → IsThere s → IsOneOf 9 3 5 status
there_status s status is (inl e) = inl (is ∙ ap status_of e)
there_status s status is (inr (inl e)) = inr (inl (is ∙ ap status_of e))
there_status s status is (inr (inr e)) = inr (inr (is ∙ ap status_of e))

pub stop_some : (s : Stop) (status : ℕ) → status ≡ status_of s → status ≡ 0 → ⊥
stop_some s status is none = omega (arith, some s, is, none)
  where
    some : (s : Stop) → 1 ≤ status_of s
    some Usage = omega arith
    some (Damaged file block) = omega arith
    some Disk = omega arith
    some Port = omega arith
    some Memory = omega arith
    some Budget = omega arith
    some (Worn ordinal fill number) = omega arith
    some NoStore = omega arith
    some Exists = omega arith

-- a stop that no serving gives
abbrev Serving : Stop → Type 0
Serving Usage = ⊥
Serving (Damaged file block) = ⊥
Serving Disk = Unit {0}
Serving Port = Unit {0}
Serving Memory = Unit {0}
Serving Budget = Unit {0}
Serving (Worn ordinal fill number) = Unit {0}
Serving NoStore = ⊥
Serving Exists = Unit {0}

serving : (s : Stop) → IsServingOrThere s → Serving s
serving s (inl (inl e)) = subst Serving (sym e) tt
serving s (inl (inr (inl e))) = subst Serving (sym e) tt
serving s (inl (inr (inr (inl e)))) = subst Serving (sym e) tt
serving s (inl (inr (inr (inr (inl e))))) = subst Serving (sym e) tt
serving s (inl (inr (inr (inr (inr (ordinal, fill, number, e)))))) = subst Serving (sym e) tt
serving s (inr e) = subst Serving (sym e) tt

pub undamaged_failed : (s : Stop) (status : ℕ) → status ≡ status_of s → IsServingOrThere s → status ≢ 2
undamaged_failed s status is served two = other s (serving s served) (sym is ∙ two)
  where
    other : (s : Stop) → Serving s → status_of s ≢ 2
    other Usage none e = absurd none
    other (Damaged file block) none e = absurd none
    other Disk some e = omega (arith, e)
    other Port some e = omega (arith, e)
    other Memory some e = omega (arith, e)
    other Budget some e = omega (arith, e)
    other (Worn ordinal fill number) some e = omega (arith, e)
    other NoStore none e = absurd none
    other Exists some e = omega (arith, e)

-- A call that stopped, and told its line.
pub record Failed (words : List (List ℕ)) (told : Type 0) (view : View) (old mid new : HostState) (s : Stop) : Type 0 where
  pub since : Since (mark_now old) (mark_now mid)
  pub cause : IsEnd words told old mid s
  pub idle : ¬ (Serves words) → mark_now mid ≡ mark_now old
  pub there : IsExists s → mark_now mid ≡ mark_now old
  pub served : Serves words → HasServed view (mark_now old) mid (Err s)
  pub sound : Serves words → IsServingOrThere s
  pub line : Lined (mark_now mid) (mark_now new) (line_of s)

module _ (words : List (List ℕ)) (told : Type 0) (view : View) (old mid new : HostState) where
  pub complete_failed : (s : Stop) (status : ℕ) → status ≡ status_of s → Failed words told view old mid new s → status ≡ 6 → IsComplete view (mark_now old) (mark_now new)
  complete_failed Usage status is f six = absurd (omega (arith, is, six))
  complete_failed (Damaged file block) status is f six = absurd (omega (arith, is, six))
  complete_failed Disk status is f six = absurd (omega (arith, is, six))
  complete_failed Port status is f six = absurd (omega (arith, is, six))
  complete_failed Memory status is f six = absurd (omega (arith, is, six))
  complete_failed Budget status is f six = complete_on (mark_now old) (mark_now mid) (mark_now new) _ view f.line ((f.served f.cause).complete refl)
  complete_failed (Worn ordinal fill number) status is f six = absurd (omega (arith, is, six))
  complete_failed NoStore status is f six = absurd (omega (arith, is, six))
  complete_failed Exists status is f six = absurd (omega (arith, is, six))

  -- with no turn taken they aren't spent, and the store isn't worn
  unspent : (s : Stop) → Failed words told view old mid new s → mark_now mid ≡ mark_now old → AreSpent (mark_now old) (mark_now new) → ⊥
  unspent s f same spent = not_spent_here (mark_now old) (mark_now mid) same (spent_back (mark_now old) (mark_now mid) (mark_now new) (line_of s) f.line f.since spent)

  unworn : (s : Stop) → Failed words told view old mid new s → mark_now mid ≡ mark_now old → IsWorn view (mark_now old) (mark_now new) → ⊥
  unworn s f same worn = fresh_here view (mark_now old) (mark_now mid) same (worn_back (mark_now old) (mark_now mid) (mark_now new) (line_of s) view f.line f.since worn)

  -- a run is sound
  not_refused : (s : Stop) → Failed words told view old mid new s → (Serving s → ⊥) → IsRun words → ⊥
  not_refused s f none run = none (serving s (f.sound (inl run)))

  pub budget_failed : (s : Stop) (status : ℕ) → status ≡ status_of s → Failed words told view old mid new s
      → (status ≡ 6) ↔ (AreSpent (mark_now old) (mark_now new) × IsOwn status × (status ≢ 7))
  budget_failed Usage status is f = (
    λ six. absurd (omega (arith, is, six)),
    λ h. absurd (unspent Usage f (f.idle (λ serves. f.cause (serves_command words serves))) h.0),
  )
  budget_failed (Damaged file block) status is f = (
    λ six. absurd (omega (arith, is, six)),
    λ h. absurd (serving (Damaged file block) (f.sound f.cause.0)),
  )
  budget_failed Disk status is f = (λ six. absurd (omega (arith, is, six)), λ h. absurd (h.1.no_disk is))
  budget_failed Port status is f = (λ six. absurd (omega (arith, is, six)), λ h. absurd (h.1.no_port is))
  budget_failed Memory status is f = (λ six. absurd (omega (arith, is, six)), λ h. absurd (h.1.no_memory is))
  budget_failed Budget status is f = (
    λ six. (
      spent_on (mark_now old) (mark_now mid) (mark_now new) _ f.line ((f.served f.cause).spent refl),
      record { no_disk = λ e. omega (arith, e, is); no_port = λ e. omega (arith, e, is); no_memory = λ e. omega (arith, e, is) },
      λ e. omega (arith, e, is),
    ),
    λ h. is,
  )
  budget_failed (Worn ordinal fill number) status is f = (λ six. absurd (omega (arith, is, six)), λ h. absurd (h.2 is))
  budget_failed NoStore status is f = (λ six. absurd (omega (arith, is, six)), λ h. absurd (not_refused NoStore f (λ x. x) f.cause.0))
  budget_failed Exists status is f = (λ six. absurd (omega (arith, is, six)), λ h. absurd (unspent Exists f (f.there refl) h.0))

  pub worn_failed : (s : Stop) (status : ℕ) → status ≡ status_of s → Failed words told view old mid new s
      → (status ≡ 7) ↔ (Serves words × IsWorn view (mark_now old) (mark_now new) × IsOwn status)
  worn_failed Usage status is f = (λ seven. absurd (omega (arith, is, seven)), λ h. absurd (f.cause (serves_command words h.0)))
  worn_failed (Damaged file block) status is f = (λ seven. absurd (omega (arith, is, seven)), λ h. absurd (serving (Damaged file block) (f.sound h.0)))
  worn_failed Disk status is f = (λ seven. absurd (omega (arith, is, seven)), λ h. absurd (h.2.no_disk is))
  worn_failed Port status is f = (λ seven. absurd (omega (arith, is, seven)), λ h. absurd (h.2.no_port is))
  worn_failed Memory status is f = (λ seven. absurd (omega (arith, is, seven)), λ h. absurd (h.2.no_memory is))
  worn_failed Budget status is f = (
    λ seven. absurd (omega (arith, is, seven)),
    λ h. absurd ((f.served h.0).fresh_spent refl (worn_back (mark_now old) (mark_now mid) (mark_now new) _ view f.line f.since h.1)),
  )
  worn_failed (Worn ordinal fill number) status is f = (
    λ seven. (
      f.cause.0,
      worn_on (mark_now old) (mark_now mid) (mark_now new) _ view f.line (f.served f.cause.0).worn.is,
      record { no_disk = λ e. omega (arith, e, is); no_port = λ e. omega (arith, e, is); no_memory = λ e. omega (arith, e, is) },
    ),
    λ h. is,
  )
  worn_failed NoStore status is f = (λ seven. absurd (omega (arith, is, seven)), λ h. absurd (serving NoStore (f.sound h.0)))
  worn_failed Exists status is f = (λ seven. absurd (omega (arith, is, seven)), λ h. absurd (unworn Exists f (f.there refl) h.1))

  pub finished_failed : (s : Stop) (status : ℕ) → status ≡ status_of s → Failed words told view old mid new s → told → Serves words → (words ≡ [] → ¬ (IsTaken old.files))
      → new.disk_faults ≡ mid.disk_faults → mid.port_faults ≤ new.port_faults → ¬ (Rose old.disk_faults new.disk_faults) → ¬ (Rose old.port_faults new.port_faults)
      → IsFinished status view (mark_now old) (mark_now new)
  finished_failed Usage status is f t serves none disk port no_disk no_port = absurd (f.cause (serves_command words serves))
  finished_failed (Damaged file block) status is f t serves none disk port no_disk no_port = absurd (serving (Damaged file block) (f.sound serves))
  finished_failed Disk status is f t serves none disk port no_disk no_port = absurd (no_disk (subst (Rose old.disk_faults) (sym disk) f.cause))
  finished_failed Port status is f t serves none disk port no_disk no_port = absurd (no_port (omega (arith, f.cause, port)))
  finished_failed Memory status is f t serves none disk port no_disk no_port = inr (inl is)
  finished_failed Budget status is f t serves none disk port no_disk no_port = inr (inr (inl (spent_on (mark_now old) (mark_now mid) (mark_now new) _ f.line ((f.served serves).spent refl))))
  finished_failed (Worn ordinal fill number) status is f t serves none disk port no_disk no_port = inr (inr (inr (worn_on (mark_now old) (mark_now mid) (mark_now new) _ view f.line (f.served serves).worn.is)))
  finished_failed NoStore status is f t serves none disk port no_disk no_port = absurd (serving NoStore (f.sound serves))
  finished_failed Exists status is f t serves none disk port no_disk no_port = absurd (none (makes_serves words f.cause.0 f.cause.1 serves) (f.cause.2 t))

pub made_failed : (words : List (List ℕ)) (told : Type 0) (old mid new : HostState) (s : Stop) (status : ℕ) → status ≡ status_of s → IsEnd words told old mid s → IsThere s → told → ¬ (IsTaken old.files)
    → new.disk_faults ≡ mid.disk_faults → ¬ (Rose old.disk_faults new.disk_faults) → (status ≡ 0) ⊎ (status ≡ 5)
made_failed words told old mid new s status is cause (inl e) t none disk no_disk = absurd (none ((subst (IsEnd words told old mid) e cause).2 t))
made_failed words told old mid new s status is cause (inr (inl e)) t none disk no_disk = absurd (no_disk (subst (Rose old.disk_faults) (sym disk) (subst (IsEnd words told old mid) e cause)))
made_failed words told old mid new s status is cause (inr (inr e)) t none disk no_disk = inr (is ∙ ap status_of e)

-- ---- A call that was done

pub done_last : (others : List Taken) → NoneDone (others ++ done ∷ []) → ⊥
done_last [] none = none.0 tt
done_last (x ∷ others) none = done_last others none.1

not_spent_done : (view : View) (start mark : Mark) → EndsDone view start mark → AreSpent start mark → ⊥
not_spent_done view start mark e s = done_last e.others (subst NoneDone (same_since s.since e.complete.since ∙ e.turns_are) s.none_done)

pub budget_done : (status : ℕ) → status ≡ 0 → (words : List (List ℕ)) (view : View) (start mark : Mark) → (Serves words → EndsDone view start mark) → (¬ (Serves words) → mark ≡ start)
    → (status ≡ 6) ↔ (AreSpent start mark × IsOwn status × (status ≢ 7))
budget_done status is words view start mark ends idle = (λ six. absurd (omega (arith, is, six)), λ h. absurd (unspent (serves_or_not words) h.0))
  where
    unspent : Serves words ⊎ ¬ (Serves words) → AreSpent start mark → ⊥
    unspent (inl serves) s = not_spent_done view start mark (ends serves) s
    unspent (inr none) s = not_spent_here start mark (idle none) s

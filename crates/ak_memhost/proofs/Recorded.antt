-- One call more in the record of a host in memory.
use Rattle.std.proofs.Common.{◌≡◌, ◌⊎◌, inl, inr, ℕ, zero, suc, ◌+◌, ◌*◌, ◌<◌, ◌≤◌, add-zero, zero-add, List, [], ◌∷◌, ◌++◌, length, slice_index_or, slice_get, refl, sym, min, if◌then◌else◌, ◌==◌, length-append, None, ◌∙◌, ap, subst, arith}
use Rattle.std.proofs.lemmas.Bool.{cases_eq, cases_lt}
use Rattle.std.proofs.lemmas.List.{get_or_default}
use Rattle.ak_host.specs.Files.{Files, IsBlock, MayBeTorn, Made, file_at}
use Rattle.ak_host.specs.Marks.{Mark, after_turn, after_reply}
use Rattle.ak_host.specs.Moments.{HostState, Passes, DiskPasses, PortPasses, LeavesNow, IsStable, mark_now}
use Rattle.ak_host.proofs.Passing.{passes_weaker}
use Rattle.ak_host.specs.Calls.{Follows}
use Rattle.ak_memhost.specs.Drive.{Drive, IsImage, contents, cells_at}
use Rattle.std.proofs.lemmas.List.Elements.{All-push}
use Rattle.ak_memhost.specs.Laws.{instant_now, left_now, zero_is_block}
use Rattle.ak_memhost.proofs.Images.{torn_image, settled_image, settled_stable, made_image, made_stable}
use Rattle.ak_memhost.specs.Heard.{heard_by}
use Rattle.ak_host.specs.Marks.{told_to}
use Rattle.ak_memhost.specs.Turns.{turn_or_done}
use Rattle.ak_memhost.specs.declared.heard.PortBytes.{PortBytes}
use Rattle.ak_memhost.proofs.HeardBy.{told_to-push}
use Rattle.ak_memhost.specs.Record.{Stage, start, step, after, Current}
use Rattle.ak_memhost.specs.State.{Instant, at_rest, IsLeft, moments_of, reads_in, writes_in, FailsAt, WriteBlocks, block_of, within, instant_at, state_of}
use Rattle.ak_memhost.specs.declared.call.Call.{Call}
use Rattle.ak_memhost.specs.declared.call.Call.TheVariants.{Make, Read, Write, Sync, Turn, Reply, Failure}
use Rattle.ak_memhost.specs.declared.mem_turn.MemTurn.{MemTurn}

slice_get_past : {A : Type 0} (items : List A) (at : ℕ) → length items ≤ at → slice_get items at ≡ None
slice_get_past [] at past = refl
slice_get_past (x ∷ items) zero past = absurd (omega arith)
slice_get_past (x ∷ items) (suc at) past = slice_get_past items at (omega arith)

pub moments-length : (calls : List Call) → moments_of calls ≡ 2 * length calls
moments-length [] = refl
moments-length (call ∷ calls) = omega (arith, moments-length calls)

pub moments-push : (calls : List Call) (call : Call) → moments_of (calls ++ call ∷ []) ≡ suc (suc (moments_of calls))
moments-push [] call = refl
moments-push (c ∷ calls) call = ap (λ n. suc (suc n)) (moments-push calls call)

module _ (turns : List MemTurn) where
  pub after-push : (begun : Stage) (calls : List Call) (call : Call) → after turns begun (calls ++ call ∷ []) ≡ step turns (after turns begun calls) call
  after-push begun [] call = refl
  after-push begun (c ∷ calls) call = after-push (step turns begun c) calls call

  instant_kept : (begun : Stage) (calls : List Call) (call : Call) (t : ℕ) → t ≤ moments_of calls → instant_at turns begun (calls ++ call ∷ []) t ≡ instant_at turns begun calls t
  instant_kept begun [] call zero le = refl
  instant_kept begun [] call (suc t) le = absurd (omega arith)
  instant_kept begun (c ∷ calls) call zero le = refl
  instant_kept begun (c ∷ calls) call (suc zero) le = refl
  instant_kept begun (c ∷ calls) call (suc (suc t)) le = instant_kept (step turns begun c) calls call t (omega arith)

  instant_within : (begun : Stage) (calls : List Call) (call : Call) → instant_at turns begun (calls ++ call ∷ []) (suc (moments_of calls)) ≡ within turns (after turns begun calls) call
  instant_within begun [] call = refl
  instant_within begun (c ∷ calls) call = instant_within (step turns begun c) calls call

  instant_after : (begun : Stage) (calls : List Call) (call : Call) → instant_at turns begun (calls ++ call ∷ []) (suc (suc (moments_of calls))) ≡ at_rest (step turns (after turns begun calls) call)
  instant_after begun [] call = refl
  instant_after begun (c ∷ calls) call = instant_after (step turns begun c) calls call

  -- an instant at which the mark has M, and the mark and each disk that is left have P
  record Has (M : Mark → Type 0) (P : Mark → Files → Type 0) (instant : Instant) : Type 0 where
    pub of_mark : M instant.mark
    pub of_disks : (disk : Files) → IsLeft instant.drives disk → P instant.mark disk

  pub now_left : (begun : Stage) (calls : List Call) (d p : ℕ) (disk : Files) → LeavesNow (state_of turns begun calls d p) disk → IsImage (after turns begun calls).drive disk
  now_left begun calls d p disk left = only (subst (λ i. IsLeft i.drives disk) (instant_now turns begun calls) left)
    where
      only : IsLeft ((after turns begun calls).drive ∷ []) disk → IsImage (after turns begun calls).drive disk
      only (inl image) = image
      only (inr none) = absurd none

  pub mark_is : (begun : Stage) (calls : List Call) (d p : ℕ) → mark_now (state_of turns begun calls d p) ≡ (after turns begun calls).mark
  mark_is begun calls d p = ap (λ i. i.mark) (instant_now turns begun calls)

  -- what stands after one call more
  pub after_is : (begun : Stage) (calls later : List Call) (call : Call) → later ≡ calls ++ call ∷ [] → after turns begun later ≡ step turns (after turns begun calls) call
  after_is begun calls later call is = ap (after turns begun) is ∙ after-push begun calls call

  pub drive_is : (begun : Stage) (calls later : List Call) (call : Call) → later ≡ calls ++ call ∷ [] → (after turns begun later).drive ≡ (step turns (after turns begun calls) call).drive
  drive_is begun calls later call is = ap (λ s. s.drive) (after_is begun calls later call is)

  one_image : (drive : Drive) (disk : Files) → IsLeft (drive ∷ []) disk → IsImage drive disk
  one_image drive disk (inl image) = image
  one_image drive disk (inr none) = absurd none

  module _ (begun : Stage) (calls later : List Call) (d p d' p' : ℕ) where
    abbrev stage : Stage
    stage = after turns begun calls

    abbrev old : HostState
    old = state_of turns begun calls d p

    abbrev new : HostState
    new = state_of turns begun later d' p'

    was : stage.mark ≡ mark_now old
    was = sym (mark_is begun calls d p)

    -- the two moments of one call more
    recorded : (M : Mark → Type 0) (P : Mark → Files → Type 0) (call : Call) → later ≡ calls ++ call ∷ []
        → Has M P (within turns stage call) → Has M P (at_rest (step turns stage call)) → Passes M P old new
    recorded M P call is during behind = subst (λ l. Passes M P old (state_of turns begun l d' p')) (sym is) (record {
      later = omega (arith, moments-push calls call);
      mark_kept = λ t le. ap (λ i. i.mark) (instant_kept begun calls call t le);
      leaves_kept = λ t disk le. (subst (λ i. IsLeft i.drives disk) (instant_kept begun calls call t le), subst (λ i. IsLeft i.drives disk) (sym (instant_kept begun calls call t le)));
      marks = λ t later until. (has t later until).of_mark;
      disks = λ t disk later until left. (has t later until).of_disks disk left;
    })
      where
        has : (t : ℕ) → moments_of calls < t → t ≤ moments_of (calls ++ call ∷ []) → Has M P (instant_at turns begun (calls ++ call ∷ []) t)
        has t later until = elim (cases_eq t (suc (moments_of calls))) [
          | inl at ↦ subst (Has M P) (sym (ap (instant_at turns begun (calls ++ call ∷ [])) at ∙ instant_within begun calls call)) during
          | inr not ↦
              let at : t ≡ suc (suc (moments_of calls)) = omega (arith, moments-push calls call) in
              subst (Has M P) (sym (ap (instant_at turns begun (calls ++ call ∷ [])) at ∙ instant_after begun calls call)) behind
        ]

    pub write_passes : (file index : ℕ) (block : List ℕ) → later ≡ calls ++ Write file index block ∷ [] → IsBlock block → file < length stage.drive → index < length (cells_at stage.drive file)
        → DiskPasses (Follows (MayBeTorn file index) old) old new
    write_passes file index block is bytes there inside =
        let torn = λ (disk : Files) (left : IsLeft ((step turns stage (Write file index block)).drive ∷ []) disk).
        let from = torn_image stage.drive file index block disk bytes there inside (one_image _ disk left) in
        let follows : Follows (MayBeTorn file index) old disk = (from.0, left_now turns begun calls d p from.0 from.1, inr from.2) in
        follows in
        recorded _ _ (Write file index block) is (record { of_mark = was; of_disks = torn }) (record { of_mark = was; of_disks = torn })

    pub sync_passes : (file : ℕ) → later ≡ calls ++ Sync file ∷ [] → DiskPasses (LeavesNow old) old new
    sync_passes file is = recorded _ _ (Sync file) is
        (record { of_mark = was; of_disks = λ disk left. left_now turns begun calls d p disk (one_image _ disk left) })
        (record { of_mark = was; of_disks = λ disk left. left_now turns begun calls d p disk (settled_image stage.drive file disk (one_image _ disk left)) })

    pub sync_stable : (file : ℕ) → later ≡ calls ++ Sync file ∷ [] → IsStable file new
    sync_stable file is disk left =
        let settled = subst (λ (s : Stage). IsImage s.drive disk) (after_is begun calls later (Sync file) is) (now_left begun later d' p' disk left) in
        settled_stable stage.drive file disk settled ∙ ap (λ (s : Stage). file_at (contents s.drive) file) (sym (after_is begun calls later (Sync file) is))

    pub make_passes : (file blocks : ℕ) → later ≡ calls ++ Make file blocks ∷ [] → DiskPasses (Follows (Made file blocks) old) old new
    make_passes file blocks is = recorded _ _ (Make file blocks) is
        (record { of_mark = was; of_disks = during })
        (record { of_mark = was; of_disks = λ disk left. made disk (one_image _ disk left) })
      where
        made : (disk : Files) → IsImage (step turns stage (Make file blocks)).drive disk → Follows (Made file blocks) old disk
        made disk image = let from = made_image stage.drive file blocks disk image in (from.0, left_now turns begun calls d p from.0 from.1, inr from.2)

        during : (disk : Files) → IsLeft (within turns stage (Make file blocks)).drives disk → Follows (Made file blocks) old disk
        during disk (inl image) = (disk, left_now turns begun calls d p disk image, inl refl)
        during disk (inr (inl image)) = made disk image
        during disk (inr (inr none)) = absurd none

    pub make_stable : (file blocks : ℕ) → later ≡ calls ++ Make file blocks ∷ [] → IsStable file new
    make_stable file blocks is disk left =
        let made = subst (λ (s : Stage). IsImage s.drive disk) (after_is begun calls later (Make file blocks) is) (now_left begun later d' p' disk left) in
        made_stable stage.drive file blocks disk made ∙ ap (λ (s : Stage). file_at (contents s.drive) file) (sym (after_is begun calls later (Make file blocks) is))

    -- a call that changes nothing
    abbrev IsStill : Call → Type 0
    IsStill call = (within turns stage call ≡ at_rest stage) × (step turns stage call ≡ stage)

    abbrev Same : Instant → Type 0
    Same = Has (λ mark. mark ≡ mark_now old) (λ mark disk. LeavesNow old disk)

    still_passes : (call : Call) → later ≡ calls ++ call ∷ [] → IsStill call → DiskPasses (LeavesNow old) old new
    still_passes call is still = recorded _ _ call is (subst Same (sym still.0) here) (subst (λ s. Same (at_rest s)) (sym still.1) here)
      where
        here : Same (at_rest stage)
        here = record { of_mark = was; of_disks = λ disk left. left_now turns begun calls d p disk (one_image _ disk left) }

    pub read_passes : later ≡ calls ++ Read ∷ [] → DiskPasses (LeavesNow old) old new
    read_passes is = still_passes Read is (refl, refl)

    -- a refused call adds no moment
    pub none_passes : later ≡ calls → DiskPasses (LeavesNow old) old new
    none_passes is = subst (λ l. DiskPasses (LeavesNow old) old (state_of turns begun l d' p')) (sym is) (record {
      later = omega arith;
      mark_kept = λ t le. refl;
      leaves_kept = λ t disk le. (λ left. left, λ left. left);
      marks = λ t later until. absurd (omega arith);
      disks = λ t disk later until left. absurd (omega arith);
    })

    pub read_or_none_is : (later ≡ calls ++ Read ∷ []) ⊎ (later ≡ calls) → after turns begun later ≡ stage
    read_or_none_is (inl is) = after_is begun calls later Read is
    read_or_none_is (inr is) = ap (after turns begun) is

    -- a call that failed, as it was to or for want of memory
    pub failure_passes : (refused refused' : ℕ) → FailsAt calls later refused refused' → DiskPasses (LeavesNow old) old new
    failure_passes refused refused' (inl recorded) = still_passes Failure recorded.0 (refl, refl)
    failure_passes refused refused' (inr refusal) = none_passes refusal.0

    -- a `make` that failed so
    pub failed_make_passes : (file blocks refused refused' : ℕ) → FailsAt calls later refused refused' → DiskPasses (Follows (Made file blocks) old) old new
    failed_make_passes file blocks refused refused' failure =
        passes_weaker (failure_passes refused refused' failure) (λ mark same. same) (λ mark disk same left. (disk, left, inl refl))

    pub failure_is : (refused refused' : ℕ) → FailsAt calls later refused refused' → after turns begun later ≡ stage
    failure_is refused refused' (inl recorded) = after_is begun calls later Failure recorded.0
    failure_is refused refused' (inr refusal) = ap (after turns begun) refusal.0

    abbrev Marked : Instant → Type 0
    Marked = Has (λ mark. (mark ≡ mark_now old) ⊎ (mark ≡ mark_now new)) (λ mark disk. LeavesNow old disk)

    -- a call of the disk more
    pub disk_current : (call : Call) (files files' : Drive) (next : ℕ) (heard : List PortBytes) → later ≡ calls ++ call ∷ [] → files' ≡ (step turns stage call).drive → (step turns stage call).mark ≡ stage.mark
        → Current turns files next heard stage → Current turns files' next heard (after turns begun later)
    disk_current call files files' next heard is drive same current = subst (Current turns files' next heard) (sym (after_is begun calls later call is)) (record {
      files_are = drive;
      next_is = current.next_is ∙ ap (λ (mark : Mark). min (length mark.turns) (length turns)) (sym same);
      heard_is = λ p. current.heard_is p ∙ ap (λ (mark : Mark). told_to p mark.tellings) (sym same);
    })

    -- a reply more
    pub reply_current : (files : Drive) (next port : ℕ) (bytes : List ℕ) (heard heard' : List PortBytes) → later ≡ calls ++ Reply port bytes ∷ []
        → ((p : ℕ) → heard_by p heard' ≡ heard_by p heard ++ (if port == p then bytes else [])) → Current turns files next heard stage → Current turns files next heard' (after turns begun later)
    reply_current files next port bytes heard heard' is tells current = subst (Current turns files next heard') (sym (after_is begun calls later (Reply port bytes) is)) (record {
      files_are = current.files_are;
      next_is = current.next_is;
      heard_is = λ p.
          tells p ∙ ap (λ l. l ++ (if port == p then bytes else [])) (current.heard_is p) ∙ sym (told_to-push p stage.mark.tellings (record { port = port; bytes = bytes }));
    })

    -- a turn more
    pub turn_current : (files : Drive) (next following : ℕ) (heard : List PortBytes) → later ≡ calls ++ Turn ∷ [] → following ≡ min (next + 1) (length turns) → Current turns files next heard stage
        → Current turns files following heard (after turns begun later)
    turn_current files next following heard is counts current = subst (Current turns files following heard) (sym (after_is begun calls later Turn is)) (record {
      files_are = current.files_are;
      next_is = omega (arith, counts, current.next_is, length-append stage.mark.turns (turn_or_done (slice_get turns (length stage.mark.turns)) ∷ []));
      heard_is = current.heard_is;
    })

    -- the next turn by its number, which stands still past the last
    pub turn_at_next : (files : Drive) (next : ℕ) (heard : List PortBytes) → Current turns files next heard stage → slice_get turns next ≡ slice_get turns (length stage.mark.turns)
    turn_at_next files next heard current = elim (cases_lt (length stage.mark.turns) (length turns)) [
      | inl within ↦ let same : next ≡ length stage.mark.turns = omega (arith, current.next_is) in ap (slice_get turns) same
      | inr past ↦
          let at_end : length turns ≤ next = omega (arith, current.next_is) in
          slice_get_past turns next at_end ∙ sym (slice_get_past turns (length stage.mark.turns) past)
    ]

    -- a call of ports changes the mark alone, and that once
    marked_passes : (call : Call) → later ≡ calls ++ call ∷ [] → within turns stage call ≡ at_rest stage → (step turns stage call).drive ≡ stage.drive
        → PortPasses (λ mark. (mark ≡ mark_now old) ⊎ (mark ≡ mark_now new)) old new
    marked_passes call is still same = recorded _ _ call is (subst Marked (sym still) before) behind
      where
        before : Marked (at_rest stage)
        before = record { of_mark = inl was; of_disks = λ disk left. left_now turns begun calls d p disk (one_image _ disk left) }

        behind : Marked (at_rest (step turns stage call))
        behind = record {
          of_mark = inr (sym (ap (λ (s : Stage). s.mark) (after_is begun calls later call is)) ∙ sym (mark_is begun later d' p'));
          of_disks = λ disk left. left_now turns begun calls d p disk (subst (λ drive. IsImage drive disk) same (one_image _ disk left));
        }

    pub turn_passes : later ≡ calls ++ Turn ∷ [] → PortPasses (λ mark. (mark ≡ mark_now old) ⊎ (mark ≡ mark_now new)) old new
    turn_passes is = marked_passes Turn is refl refl

    pub reply_passes : (port : ℕ) (bytes : List ℕ) → later ≡ calls ++ Reply port bytes ∷ [] → PortPasses (λ mark. (mark ≡ mark_now old) ⊎ (mark ≡ mark_now new)) old new
    reply_passes port bytes is = marked_passes (Reply port bytes) is refl refl

    pub port_failure_passes : (refused refused' : ℕ) → FailsAt calls later refused refused' → PortPasses (λ mark. (mark ≡ mark_now old) ⊎ (mark ≡ mark_now new)) old new
    port_failure_passes refused refused' failure = passes_weaker (failure_passes refused refused' failure) (λ mark same. inl same) (λ mark disk same left. left)

    pub turn_mark : later ≡ calls ++ Turn ∷ [] → mark_now new ≡ after_turn (mark_now old) (turn_or_done (slice_get turns (length stage.mark.turns)))
    turn_mark is = mark_is begun later d' p' ∙ ap (λ (s : Stage). s.mark) (after_is begun calls later Turn is) ∙ ap (λ m. after_turn m (turn_or_done (slice_get turns (length stage.mark.turns)))) was

    pub reply_mark : (port : ℕ) (bytes : List ℕ) → later ≡ calls ++ Reply port bytes ∷ [] → mark_now new ≡ after_reply (mark_now old) port bytes
    reply_mark port bytes is = mark_is begun later d' p' ∙ ap (λ (s : Stage). s.mark) (after_is begun calls later (Reply port bytes) is) ∙ ap (λ m. after_reply m port bytes) was

    pub failure_mark : (refused refused' : ℕ) → FailsAt calls later refused refused' → mark_now new ≡ mark_now old
    failure_mark refused refused' failure = mark_is begun later d' p' ∙ ap (λ (s : Stage). s.mark) (failure_is refused refused' failure) ∙ was

-- how the counts go on
pub reads-push : (calls : List Call) (call : Call) → reads_in (calls ++ call ∷ []) ≡ reads_in calls + reads_in (call ∷ [])
reads-push [] call = sym (zero-add _)
reads-push (Read ∷ calls) call = omega (arith, reads-push calls call)
reads-push (Make file blocks ∷ calls) call = reads-push calls call
reads-push (Write file index block ∷ calls) call = reads-push calls call
reads-push (Sync file ∷ calls) call = reads-push calls call
reads-push (Turn ∷ calls) call = reads-push calls call
reads-push (Reply port bytes ∷ calls) call = reads-push calls call
reads-push (Failure ∷ calls) call = reads-push calls call

pub writes-push : (calls : List Call) (call : Call) → writes_in (calls ++ call ∷ []) ≡ writes_in calls + writes_in (call ∷ [])
writes-push [] call = sym (zero-add _)
writes-push (Write file index block ∷ calls) call = omega (arith, writes-push calls call)
writes-push (Make file blocks ∷ calls) call = writes-push calls call
writes-push (Read ∷ calls) call = writes-push calls call
writes-push (Sync file ∷ calls) call = writes-push calls call
writes-push (Turn ∷ calls) call = writes-push calls call
writes-push (Reply port bytes ∷ calls) call = writes-push calls call
writes-push (Failure ∷ calls) call = writes-push calls call

pub reads_is : (calls later : List Call) (call : Call) → later ≡ calls ++ call ∷ [] → reads_in later ≡ reads_in calls + reads_in (call ∷ [])
reads_is calls later call is = ap reads_in is ∙ reads-push calls call

pub writes_is : (calls later : List Call) (call : Call) → later ≡ calls ++ call ∷ [] → writes_in later ≡ writes_in calls + writes_in (call ∷ [])
writes_is calls later call is = ap writes_in is ∙ writes-push calls call

pub failure_reads : (calls later : List Call) (refused refused' : ℕ) → FailsAt calls later refused refused' → reads_in later ≡ reads_in calls
failure_reads calls later refused refused' (inl recorded) = reads_is calls later Failure recorded.0 ∙ add-zero _
failure_reads calls later refused refused' (inr refusal) = ap reads_in refusal.0

pub failure_writes : (calls later : List Call) (refused refused' : ℕ) → FailsAt calls later refused refused' → writes_in later ≡ writes_in calls
failure_writes calls later refused refused' (inl recorded) = writes_is calls later Failure recorded.0 ∙ add-zero _
failure_writes calls later refused refused' (inr refusal) = ap writes_in refusal.0

pub failure_blocks : (calls later : List Call) (refused refused' : ℕ) → FailsAt calls later refused refused' → WriteBlocks calls → WriteBlocks later
failure_blocks calls later refused refused' (inl recorded) written = subst WriteBlocks (sym recorded.0) (All-push (λ call. IsBlock (block_of call)) calls Failure written zero_is_block)
failure_blocks calls later refused refused' (inr refusal) written = subst WriteBlocks (sym refusal.0) written

-- the bytes of an array
pub array_block : (block : List ℕ) → length block ≡ 4096 → ((i : ℕ) → slice_index_or block i 0 < 256) → IsBlock block
array_block block long bytes = record { size = long; bytes = λ k d within. omega (arith, bytes k, get_or_default block k d 0 within) }

-- a host with no calls

pub no_calls_files : (turns : List MemTurn) (base drive : Drive) (calls : List Call) (d p : ℕ) → calls ≡ [] → base ≡ drive → (state_of turns (start base) calls d p).files ≡ contents drive
no_calls_files turns base drive calls d p none is = ap (λ (l : List Call). contents (after turns (start base) l).drive) none ∙ ap contents is

pub no_calls_image : (turns : List MemTurn) (base drive : Drive) (calls : List Call) (d p : ℕ) (disk : Files) → calls ≡ [] → base ≡ drive → LeavesNow (state_of turns (start base) calls d p) disk → IsImage drive disk
no_calls_image turns base drive calls d p disk none is left =
    subst (λ b. IsImage b disk) (ap (λ (l : List Call). (after turns (start base) l).drive) none ∙ is) (now_left turns (start base) calls d p disk left)

pub no_calls_current : (turns : List MemTurn) (base files : Drive) (calls : List Call) (heard : List PortBytes) → calls ≡ [] → heard ≡ [] → files ≡ base → Current turns files 0 heard (after turns (start base) calls)
no_calls_current turns base files calls heard none silent same = subst (λ (l : List Call). Current turns files 0 heard (after turns (start base) l)) (sym none) (record {
  files_are = same;
  next_is = omega arith;
  heard_is = λ p. ap (heard_by p) silent;
})

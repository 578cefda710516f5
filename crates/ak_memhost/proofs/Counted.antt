-- Counts over the record of a host in memory.
use Rattle.std.proofs.Common.{◌≡◌, inl, inr, ℕ, zero, suc, ◌+◌, ◌*◌, ◌<◌, ◌≤◌, add-zero, zero-add, List, [], ◌∷◌, ◌++◌, length, take, get_or, if◌then◌else◌, ◌==◌, refl, sym, ◌∙◌, ap, arith, length-append}
use Rattle.std.proofs.lemmas.Bool.{cases_Bool}
use Rattle.std.proofs.lemmas.List.{take_more, take_all}
use Rattle.ak_host.specs.Marks.{Telling, told_to}
use Rattle.ak_memhost.specs.declared.mem_turn.MemTurn.{MemTurn}
use Rattle.ak_memhost.proofs.HeardBy.{told_to-push}
use Rattle.ak_memhost.specs.Record.{Stage, step, after}
use Rattle.ak_memhost.specs.State.{within, instant_at, told_by, told_in}
use Rattle.ak_memhost.specs.declared.call.Call.{Call}
use Rattle.ak_memhost.specs.declared.call.Call.TheVariants.{Make, Read, Write, Sync, Turn, Reply, Failure}

-- a count that grows call by call
pub count_more : (count : List Call → ℕ) → ((calls : List Call) (call : Call) → count (calls ++ call ∷ []) ≡ count calls + count (call ∷ []))
    → (calls : List Call) (i : ℕ) (call : Call) → i < length calls → call ≡ get_or calls i call → count (take (i + 1) calls) ≡ count (take i calls) + count (call ∷ [])
count_more count push calls i call within is = ap count (take_more calls i call within ∙ ap (λ c. take i calls ++ c ∷ []) (sym is)) ∙ push (take i calls) call

pub told-push : (port : ℕ) (calls : List Call) (call : Call) → told_in port (calls ++ call ∷ []) ≡ told_in port calls + told_in port (call ∷ [])
told-push port [] call = sym (zero-add _)
told-push port (c ∷ calls) call = omega (arith, told-push port calls call)

pub told_prefix : (port n : ℕ) (calls : List Call) → told_in port (take n calls) ≤ told_in port calls
told_prefix port zero calls = omega arith
told_prefix port (suc n) [] = omega arith
told_prefix port (suc n) (c ∷ calls) = omega (arith, told_prefix port n calls)

-- what was told, by the length of each reply

length_told : (own port : ℕ) (bytes : List ℕ) → length (if own == port then bytes else []) ≡ (if own == port then length bytes else 0)
length_told own port bytes = elim (cases_Bool (own == port)) [
  | inl same ↦ ap (λ b. length (if b then bytes else [])) same ∙ sym (ap (λ b. if b then length bytes else 0) same)
  | inr other ↦ ap (λ b. length (if b then bytes else [])) other ∙ sym (ap (λ b. if b then length bytes else 0) other)
]

module _ (turns : List MemTurn) where
  told_step : (port : ℕ) (stage : Stage) (call : Call) → length (told_to port (step turns stage call).mark.tellings) ≡ length (told_to port stage.mark.tellings) + told_by port call
  told_step port stage (Reply own bytes) =
      let telling : Telling = record { port = own; bytes = bytes } in
      ap length (told_to-push port stage.mark.tellings telling) ∙ length-append (told_to port stage.mark.tellings) (if own == port then bytes else [])
      ∙ ap (λ n. length (told_to port stage.mark.tellings) + n) (length_told own port bytes)
  told_step port stage (Make file blocks) = sym (add-zero _)
  told_step port stage (Write file index block) = sym (add-zero _)
  told_step port stage (Sync file) = sym (add-zero _)
  told_step port stage Read = sym (add-zero _)
  told_step port stage Turn = sym (add-zero _)
  told_step port stage Failure = sym (add-zero _)

  pub told_after : (port : ℕ) (stage : Stage) (calls : List Call) → length (told_to port (after turns stage calls).mark.tellings) ≡ length (told_to port stage.mark.tellings) + told_in port calls
  told_after port stage [] = sym (add-zero _)
  told_after port stage (call ∷ calls) = omega (arith, told_after port (step turns stage call) calls, told_step port stage call)

  -- the mark at a moment, by the calls that were made before it

  within_mark : (stage : Stage) (call : Call) → (within turns stage call).mark ≡ stage.mark
  within_mark stage (Make file blocks) = refl
  within_mark stage (Write file index block) = refl
  within_mark stage (Sync file) = refl
  within_mark stage Read = refl
  within_mark stage Turn = refl
  within_mark stage (Reply own bytes) = refl
  within_mark stage Failure = refl

  pub mark_by : (stage : Stage) (calls : List Call) (t k : ℕ) → 2 * k ≤ t → t ≤ 2 * k + 1 → (instant_at turns stage calls t).mark ≡ (after turns stage (take k calls)).mark
  mark_by stage [] t zero least most = refl
  mark_by stage [] t (suc k) least most = refl
  mark_by stage (c ∷ calls) zero zero least most = refl
  mark_by stage (c ∷ calls) (suc zero) zero least most = within_mark stage c
  mark_by stage (c ∷ calls) (suc (suc t)) zero least most = absurd (omega arith)
  mark_by stage (c ∷ calls) zero (suc k) least most = absurd (omega arith)
  mark_by stage (c ∷ calls) (suc zero) (suc k) least most = absurd (omega arith)
  mark_by stage (c ∷ calls) (suc (suc t)) (suc k) least most = mark_by (step turns stage c) calls t k (omega arith) (omega arith)

  pub mark_past : (stage : Stage) (calls : List Call) (t k : ℕ) → 2 * k ≤ t → t ≤ 2 * k + 1 → length calls ≤ k → (instant_at turns stage calls t).mark ≡ (after turns stage calls).mark
  mark_past stage calls t k least most past = mark_by stage calls t k least most ∙ ap (λ cs. (after turns stage cs).mark) (take_all k calls past)

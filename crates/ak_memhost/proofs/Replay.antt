-- Replaying the record up to a moment.
use Rattle.std.proofs.Common.{◌≡◌, inl, ℕ, zero, suc, ◌+◌, ◌*◌, ◌<◌, ◌≤◌, List, [], ◌∷◌, ◌++◌, length, take, slice_get, slice_index_or, Some, refl, sym, ap, arith}
use Rattle.ak_host.specs.Files.{Files}
use Rattle.ak_memhost.specs.Drive.{Drive, IsImage}
use Rattle.ak_memhost.specs.Record.{Stage, step, drive_after, drive_after_all}
use Rattle.ak_memhost.specs.State.{IsLeft, within, instant_at}
use Rattle.ak_memhost.specs.Torn.{drive_within, drive_at}
use Rattle.ak_memhost.specs.declared.call.Call.{Call}
use Rattle.ak_memhost.specs.declared.call.Call.TheVariants.{Make, Read, Write, Sync, Turn, Reply, Failure}
use Rattle.ak_memhost.specs.declared.mem_turn.MemTurn.{MemTurn}

pub drive_after_all-push : (drive : Drive) (calls : List Call) (call : Call) → drive_after_all drive (calls ++ call ∷ []) ≡ drive_after (drive_after_all drive calls) call
drive_after_all-push drive [] call = refl
drive_after_all-push drive (c ∷ calls) call = drive_after_all-push (drive_after drive c) calls call

-- before a call, or after all
pub drive_before : (drive : Drive) (calls : List Call) (t k : ℕ) → t ≡ 2 * k → k ≤ length calls → drive_at drive calls t ≡ drive_after_all drive (take k calls)
drive_before drive [] t zero is le = refl
drive_before drive [] t (suc k) is le = absurd (omega arith)
drive_before drive (c ∷ calls) zero zero is le = refl
drive_before drive (c ∷ calls) zero (suc k) is le = absurd (omega arith)
drive_before drive (c ∷ calls) (suc t) zero is le = absurd (omega arith)
drive_before drive (c ∷ calls) (suc zero) (suc k) is le = absurd (omega arith)
drive_before drive (c ∷ calls) (suc (suc t)) (suc k) is le = drive_before (drive_after drive c) calls t k (omega arith) (omega arith)

-- within a call
pub drive_during : (drive : Drive) (calls : List Call) (t k : ℕ) (call : Call) → t ≡ 2 * k + 1 → slice_get calls k ≡ Some call → drive_at drive calls t ≡ drive_within (drive_after_all drive (take k calls)) call
drive_during drive [] t k call is at = cc
drive_during drive (c ∷ calls) zero k call is at = absurd (omega arith)
drive_during drive (c ∷ calls) (suc zero) zero call is at = let same : c ≡ call = cc in ap (drive_within drive) same
drive_during drive (c ∷ calls) (suc zero) (suc k) call is at = absurd (omega arith)
drive_during drive (c ∷ calls) (suc (suc t)) zero call is at = absurd (omega arith)
drive_during drive (c ∷ calls) (suc (suc t)) (suc k) call is at = drive_during (drive_after drive c) calls t k call (omega arith) at

module _ (turns : List MemTurn) where
  within_left : (stage : Stage) (call : Call) (disk : Files) → IsImage (drive_within stage.drive call) disk → IsLeft (within turns stage call).drives disk
  within_left stage (Make file blocks) disk image = inl image
  within_left stage (Write file index block) disk image = inl image
  within_left stage Read disk image = inl image
  within_left stage (Sync file) disk image = inl image
  within_left stage Turn disk image = inl image
  within_left stage (Reply port bytes) disk image = inl image
  within_left stage Failure disk image = inl image

  -- an image at a moment is a disk that a stop then may leave
  pub image_left : (stage : Stage) (calls : List Call) (t : ℕ) (disk : Files) → IsImage (drive_at stage.drive calls t) disk → IsLeft (instant_at turns stage calls t).drives disk
  image_left stage [] t disk image = inl image
  image_left stage (c ∷ calls) zero disk image = inl image
  image_left stage (c ∷ calls) (suc zero) disk image = within_left stage c disk image
  image_left stage (c ∷ calls) (suc (suc t)) disk image = image_left (step turns stage c) calls t disk image

-- an item that was read
pub item_got : {A : Type 0} (items : List A) (at : ℕ) (item : A) → at < length items → item ≡ slice_index_or items at item → slice_get items at ≡ Some item
item_got [] at item within is = absurd (omega arith)
item_got (x ∷ items) zero item within is = ap (λ y. Some y) (sym is)
item_got (x ∷ items) (suc at) item within is = item_got items at item (omega arith) is

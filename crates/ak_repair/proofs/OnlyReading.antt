-- Runs of reads.
use Rattle.std.proofs.Common.{◌≡◌, ◌∙◌, ℕ, ◌≤◌, Result, Ok, Err, false, refl, sym, subst, arith}
use Rattle.std.specs.Prelude.{if◌then◌else◌}
use Rattle.std.specs.Result.{OnOk, IfErr, IsErrAnd, is_err, is_ok}
use Rattle.ak_base.specs.declared.point.Addr.{Addr}
use Rattle.ak_base.specs.declared.stop.Stop.{Stop}
use Rattle.ak_base.specs.declared.stop.Stop.TheVariants.{Usage, Damaged, Disk, Port, Memory, Budget, Worn, NoStore, Exists}
use Rattle.ak_cache.specs.Leaves.{SpellsNone, IsLeafStop}
use Rattle.ak_host.specs.Causes.{Rose}
use Rattle.ak_host.specs.Files.{Files}
use Rattle.ak_host.specs.Moments.{HostState, LeavesNow}
use Rattle.ak_host.proofs.Passing.{disk_starts, disk_goes_on, disk_now}
use Rattle.ak_image.specs.Blocks.{seen_in}
use Rattle.ak_repair.specs.Reads.{OnlyReads, IsReadStop}
use Rattle.ak_volumes.specs.Ordinals.{Ordinals, ordinal_of, index_of, file_of}

-- no read yet
pub no_read : (told : Type 0) (host : HostState) → OnlyReads told host host
no_read told host = record {
  later = omega arith;
  port_faults = refl;
  sizes = refl;
  files = λ is. refl;
  writes = λ is. refl;
  moments = λ is. disk_starts (LeavesNow host) host;
}

-- what a stop may leave after reads might have been left before
pub left_before : {told : Type 0} {old new : HostState} → OnlyReads told old new → told → (disk : Files) → LeavesNow new disk → LeavesNow old disk
left_before {told} {old} {new} reads is = disk_now (reads.moments is) (λ disk left. left)

-- more reads
pub more_reads : {told : Type 0} {old mid new : HostState} → OnlyReads told old mid → OnlyReads told mid new → OnlyReads told old new
more_reads {told} {old} {mid} {new} first second = record {
  later = omega (arith, first.later, second.later);
  port_faults = second.port_faults ∙ first.port_faults;
  sizes = second.sizes ∙ first.sizes;
  files = λ is. second.files is ∙ first.files is;
  writes = λ is. second.writes is ∙ first.writes is;
  moments = λ is. disk_goes_on (first.moments is) (second.moments is) (left_before first is);
}

-- a count that rose later rose
pub rose_later : (a b c : ℕ) → a ≤ b → Rose b c → Rose a c
rose_later a b c before rose = omega (arith, before, rose)

-- a stop that is handed on
pub stop_from : {T : Type 0} (P : Stop → Type 0) (r : Result T Stop) (stop : Stop) → IsErrAnd r (λ e. e ≡ stop) → P stop → IfErr r P
stop_from P (Ok v) stop err p = absurd err
stop_from P (Err e) stop same p = subst P (sym same) p

-- a reason that the first of more reads gives
pub reason_weaker : {P Q : ℕ → ℕ → Type 0} (old mid new : HostState) (stop : Stop) → old.disk_faults ≤ mid.disk_faults → ((file block : ℕ) → P file block → Q file block)
    → IsReadStop P mid new stop → IsReadStop Q old new stop
reason_weaker old mid new Disk before follows is = rose_later old.disk_faults mid.disk_faults new.disk_faults before is
reason_weaker old mid new Memory before follows is = tt
reason_weaker old mid new (Damaged file block) before follows is = follows file block is
reason_weaker old mid new Usage before follows is = absurd is
reason_weaker old mid new Port before follows is = absurd is
reason_weaker old mid new Budget before follows is = absurd is
reason_weaker old mid new (Worn ordinal fill number) before follows is = absurd is
reason_weaker old mid new NoStore before follows is = absurd is
reason_weaker old mid new Exists before follows is = absurd is

-- why a leaf isn't read, after other reads
pub leaf_stop : {told : Type 0} {P : ℕ → ℕ → Type 0} (o : Ordinals) (old mid new : HostState) (a : Addr) (series number : ℕ) (stop : Stop) → OnlyReads told old mid
    → ((file block : ℕ) → (file ≡ file_of o (ordinal_of a.0)) → (block ≡ index_of a.0) → (told → SpellsNone (seen_in o.volumes old.files a.0) a series number) → P file block)
    → IsLeafStop told o mid new a series number stop → IsReadStop P old new stop
leaf_stop o old mid new a series number Disk so_far damaged is = rose_later old.disk_faults mid.disk_faults new.disk_faults so_far.later is
leaf_stop o old mid new a series number (Damaged file block) so_far damaged is =
    damaged file block is.0 is.1 (λ told. subst (λ (files : Files). SpellsNone (seen_in o.volumes files a.0) a series number) (so_far.files told) (is.2 told))
leaf_stop o old mid new a series number Memory so_far damaged is = absurd is
leaf_stop o old mid new a series number Usage so_far damaged is = absurd is
leaf_stop o old mid new a series number Port so_far damaged is = absurd is
leaf_stop o old mid new a series number Budget so_far damaged is = absurd is
leaf_stop o old mid new a series number (Worn ordinal fill last) so_far damaged is = absurd is
leaf_stop o old mid new a series number NoStore so_far damaged is = absurd is
leaf_stop o old mid new a series number Exists so_far damaged is = absurd is

-- what a call gave that didn't fail
pub on_ok : {T E P : Type 0} (r : Result T E) → is_err r ≡ false → OnOk r P → P
on_ok (Ok v) is p = p
on_ok (Err e) is p = cc

pub ok_gives : {T E A : Type 0} (r : Result T E) (new x y : A) → is_err r ≡ false → new ≡ (if is_ok r then x else y) → new ≡ x
ok_gives (Ok v) new x y is gave = gave
ok_gives (Err e) new x y is gave = cc

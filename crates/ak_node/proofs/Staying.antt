-- What calls of ports leave as it is, and what a stop leaves of a store that is held.
use Rattle.std.proofs.Common.{◌≡◌, ℕ, ◌+◌, ◌*◌, ◌<◌, List, length, slice_index, Result, Ok, Err, OnOk, IfOk, sym, subst, arith}
use Rattle.ak_gate.specs.Fits.{Knows}
use Rattle.ak_gate.specs.Fits.{Stands as GateStands}
use Rattle.ak_host.specs.Files.{Files, file_at}
use Rattle.ak_host.specs.Marks.{Mark}
use Rattle.ak_host.specs.Moments.{HostState, LeavesNow, Passes, PortPasses}
use Rattle.ak_host.proofs.Passing.{passes_weaker, ports_leave}
use Rattle.ak_image.specs.Blocks.{AreThere, seen_in}
use Rattle.ak_image.specs.Laid.{IsLaid}
use Rattle.ak_image.specs.Planted.{ArePlanted}
use Rattle.ak_levels.specs.Pending.{Lists}
use Rattle.ak_meta.specs.Contents.{Content}
use Rattle.ak_run.proofs.Growing.{last_in, stays_in}
use Rattle.ak_tree.specs.Standing.{bases_of}
use Rattle.ak_tree.specs.Storing.{IsStored, IsLeftOf, LeavesView}
use Rattle.ak_tree.proofs.Stored.{stands_last}
use Rattle.ak_volumes.specs.Ordinals.{newest, file_of}
use Rattle.ak_world.specs.Leaves.{Leaf}
use Rattle.ak_world.specs.Valid.{Goes}
use Rattle.ak_world.specs.Views.{View}
use Rattle.ak_world.specs.Worlds.{World as Store, content_now, kept_now}
use Rattle.ak_node.specs.declared.keeper.Keeper.{Keeper}
use Rattle.ak_node.specs.Standing.{IsReady, Holds, LeavesLast}

-- ---- What a stop leaves

pub left_last : (content : Store) (keeper : Keeper) (host : HostState) → Holds content keeper host → (disk : Files) → LeavesNow host disk → LeavesLast content disk
left_last content keeper host holds disk left =
    stands_last content.last (content_now content) (kept_now content) (bases_of content) keeper.forest.levels (file_of content.ordinals (newest content.ordinals)) host holds.stored disk left

-- the last view is one of those of a later store
pub last_left : (content next : Store) (disk : Files) → Goes content next → LeavesLast content disk → LeavesView content next disk
last_left content next disk goes left = record {
  view = content.last;
  sound = left.0;
  stands = left.1;
  taken = stays_in content.last goes (last_in content);
  recent = omega arith;
}

-- ---- Calls of ports

stored_still : (last : View) (c : Content) (kept : List (List Leaf)) (bases : List ℕ) (levels : List Lists) (file : ℕ) (old new : HostState) → IsStored last c kept bases levels file old → new.files ≡ old.files → ((disk : Files) → LeavesNow new disk → LeavesNow old disk)
    → IsStored last c kept bases levels file new
stored_still last c kept bases levels file old new stored files back = record {
  rules_are = stored.rules_are;
  limits_are = stored.limits_are;
  laid = subst (λ (l : Files). IsLaid (seen_in c.limits.volumes l) c kept) (sym files) stored.laid;
  planted = subst (λ (l : Files). ArePlanted c.ordinals (seen_in c.limits.volumes l) 0 c.series kept bases levels) (sym files) stored.planted;
  saved = subst (λ (l : Files). IsLaid (seen_in c.limits.volumes l) last.content last.kept) (sym files) stored.saved;
  left = λ disk left. subst (λ (l : Files). IsLeftOf last file l disk) (sym files) (stored.left disk (back disk left));
}

pub holds_still : (content : Store) (keeper : Keeper) (old new : HostState) → Holds content keeper old → new.files ≡ old.files → ((disk : Files) → LeavesNow new disk → LeavesNow old disk) → Holds content keeper new
holds_still content keeper old new holds files back = record {
  keeps = holds.keeps;
  stored = stored_still content.last (content_now content) (kept_now content) (bases_of content) keeper.forest.levels (file_of content.ordinals (newest content.ordinals)) old new holds.stored files back;
}

-- what the store holds
pub holds_after_ports : {M : Mark → Type 0} (content : Store) (keeper : Keeper) (old new : HostState) → Holds content keeper old → new.files ≡ old.files → PortPasses M old new → Holds content keeper new
holds_after_ports content keeper old new holds files run = holds_still content keeper old new holds files (ports_leave run)

there_still : (keeper : Keeper) (old new : HostState) → new.sizes ≡ old.sizes → AreThere keeper.forest.meta.ordinals old → AreThere keeper.forest.meta.ordinals new
there_still keeper old new sizes there = record {
  number = rw sizes there.number;
  each = λ file from to. rw sizes (there.each file from to);
}

-- leaves can be closed and views taken
pub ready_after_ports : (told : Type 0) (keeper : Keeper) (old new : HostState) → IsReady told keeper old → new.sizes ≡ old.sizes → (told → new.files ≡ old.files)
    → (told → (disk : Files) → LeavesNow new disk → LeavesNow old disk) → IsReady told keeper new
ready_after_ports told keeper old new ready sizes files back = record {
  forest = record {
    whole = ready.forest.whole;
    opened = ready.forest.opened;
    none_pending = ready.forest.none_pending;
    number = ready.forest.number;
    sized = record {
      there = subst (λ (l : List ℕ). 0 < length l) (sym sizes) ready.forest.sized.there;
      blocks = subst (λ (l : List ℕ). slice_index l 0 ≡ 2 + 2 * keeper.forest.check.gate.slot) (sym sizes) ready.forest.sized.blocks;
      small = ready.forest.sized.small;
    };
    there = there_still keeper old new sizes ready.forest.there;
    fits = λ t. record {
      knows = subst (λ (f : Files). Knows keeper.forest.check.gate (file_at f 0)) (sym (files t)) (ready.forest.fits t).knows;
      stands = λ disk left. subst (λ (f : Files). GateStands keeper.forest.check.gate (file_at f 0) (file_at disk 0)) (sym (files t)) ((ready.forest.fits t).stands disk (back t disk left));
    };
  };
  names = ready.names;
}

-- ---- One call's moments

pub by_moment : {M N : Mark → Type 0} {P Q : Mark → Files → Type 0} {old new : HostState} → Passes N Q old new → ((mark : Mark) → N mark → M mark) → ((mark : Mark) (disk : Files) → N mark → Q mark disk → P mark disk) → Passes M P old new
by_moment call marks disks = passes_weaker call marks disks

pub ok_is : {T E P : Type 0} (r : Result T E) → P → OnOk r P
ok_is (Ok v) p = p
ok_is (Err e) p = tt

pub if_and_ok : {T E Q : Type 0} {R : T → Type 0} (r : Result T E) (t : T) → IfOk r (λ v. v ≡ t) → OnOk r Q → ((v : T) → v ≡ t → Q → R v) → IfOk r R
if_and_ok (Ok v) t is q to = to v is q
if_and_ok (Err e) t is q to = tt

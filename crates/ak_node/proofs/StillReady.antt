-- What a keeper is and holds after reads.
use Rattle.std.proofs.Common.{◌≡◌, ◌∙◌, ℕ, ◌≤◌, Result, Ok, Err, List, length, slice_index, sym, ap, subst, arith}
use Rattle.std.specs.Result.{IfErr}
use Rattle.ak_base.specs.declared.stop.Stop.{Stop}
use Rattle.ak_base.specs.declared.stop.Stop.TheVariants.{Usage, Damaged, Disk, Port, Memory, Budget, Worn, NoStore, Exists}
use Rattle.ak_gate.specs.Fits.{IsSized, Stands, Knows, Fits}
use Rattle.ak_gate.specs.View.{View as GateView}
use Rattle.ak_host.specs.Files.{Files, file_at}
use Rattle.ak_host.specs.Moments.{HostState}
use Rattle.ak_image.specs.Blocks.{seen_in, AreThere}
use Rattle.ak_image.specs.Laid.{IsLaid}
use Rattle.ak_image.specs.Named.{IsDamagedBy}
use Rattle.ak_image.specs.Planted.{ArePlanted}
use Rattle.ak_levels.specs.Pending.{Lists}
use Rattle.ak_meta.specs.Contents.{Content, names_of}
use Rattle.ak_repair.proofs.OnlyReading.{left_before}
use Rattle.ak_node.proofs.Blaming.{blamed}
use Rattle.ak_node.specs.Calls.{HasStops, StopsBy}
use Rattle.ak_repair.specs.Damage.{IsDamagedLeaf}
use Rattle.ak_repair.specs.Reads.{OnlyReads, IsReadStop}
use Rattle.ak_node.specs.Standing.{IsReady, Holds}
use Rattle.ak_node.specs.declared.keeper.Keeper.{Keeper}
use Rattle.ak_tree.specs.Standing.{Trees, IsReady as IsForestReady, Holds as ForestHolds}
use Rattle.ak_tree.specs.Stops.{OnWorn}
use Rattle.ak_tree.specs.Storing.{IsLeftOf, IsStored}
use Rattle.ak_volumes.specs.Ordinals.{Ordinals, AreOrdinals}
use Rattle.ak_world.specs.Leaves.{Leaf}
use Rattle.ak_world.specs.Views.{View}
use Rattle.ak_world.specs.Worlds.{World as Store}

-- ---- Ready

sized_still : (slot : ℕ) (old new : HostState) → new.sizes ≡ old.sizes → IsSized slot old → IsSized slot new
sized_still slot old new same is = record {
  there = omega (arith, is.there, ap (λ (sizes : List ℕ). length sizes) same);
  blocks = ap (λ (sizes : List ℕ). slice_index sizes 0) same ∙ is.blocks;
  small = is.small;
}

pub there_still : (o : Ordinals) (old new : HostState) → new.sizes ≡ old.sizes → AreThere o old → AreThere o new
there_still o old new same is = record {
  number = omega (arith, is.number, ap (λ (sizes : List ℕ). length sizes) same);
  each = λ file from to. subst (λ (sizes : List ℕ). o.blocks ≤ slice_index sizes file) (sym same) (is.each file from to);
}

fits_still : {told : Type 0} (view : GateView) (old new : HostState) → OnlyReads told old new → told → Fits view old → Fits view new
fits_still view old new reads is fits = record {
  knows = subst (λ (files : Files). Knows view (file_at files 0)) (sym (reads.files is)) fits.knows;
  stands = λ disk left. subst (λ (files : Files). Stands view (file_at files 0) (file_at disk 0)) (sym (reads.files is)) (fits.stands disk (left_before reads is disk left));
}

forest_still : {told : Type 0} (f : Trees) (old new : HostState) → OnlyReads told old new → IsForestReady told f old → IsForestReady told f new
forest_still f old new reads ready = record {
  whole = ready.whole;
  opened = ready.opened;
  none_pending = ready.none_pending;
  number = ready.number;
  sized = sized_still f.check.gate.slot old new reads.sizes ready.sized;
  there = there_still f.meta.ordinals old new reads.sizes ready.there;
  fits = λ is. fits_still f.check.gate old new reads is (ready.fits is);
}

pub ready_still : {told : Type 0} (before after : Keeper) (old new : HostState) → after.forest ≡ before.forest → after.names ≡ before.names → OnlyReads told old new → IsReady told before old → IsReady told after new
ready_still {told} before after old new forest names reads ready = record {
  forest = subst (λ (f : Trees). IsForestReady told f new) (sym forest) (forest_still before.forest old new reads ready.forest);
  names = names ∙ ready.names ∙ ap (λ (f : Trees). names_of f.meta.series) (sym forest);
}

-- ---- Held

stored_still : {told : Type 0} (last : View) (c : Content) (kept : List (List Leaf)) (bases : List ℕ) (levels : List Lists) (file : ℕ) (old new : HostState) → OnlyReads told old new → told
    → IsStored last c kept bases levels file old → IsStored last c kept bases levels file new
stored_still last c kept bases levels file old new reads is stored = record {
  rules_are = stored.rules_are;
  limits_are = stored.limits_are;
  laid = subst (λ (files : Files). IsLaid (seen_in c.limits.volumes files) c kept) (sym (reads.files is)) stored.laid;
  planted = subst (λ (files : Files). ArePlanted c.ordinals (seen_in c.limits.volumes files) 0 c.series kept bases levels) (sym (reads.files is)) stored.planted;
  saved = subst (λ (files : Files). IsLaid (seen_in c.limits.volumes files) last.content last.kept) (sym (reads.files is)) stored.saved;
  left = λ disk left. subst (λ (files : Files). IsLeftOf last file files disk) (sym (reads.files is)) (stored.left disk (left_before reads is disk left));
}

pub holds_still : {told : Type 0} (content : Store) (before after : Keeper) (old new : HostState) → after.forest ≡ before.forest → OnlyReads told old new → told → Holds content before old → Holds content after new
holds_still content before after old new forest reads is holds = subst (λ (f : Trees). ForestHolds content f new) (sym forest) (record {
  keeps = holds.keeps;
  stored = stored_still _ _ _ _ _ _ old new reads is holds.stored;
})

-- ---- Stops

stops_by : {T : Type 0} (told : Type 0) (c : Content) (old new : HostState) (result : Result T Stop) → AreOrdinals c.ordinals → OnlyReads told old new
    → IfErr result (IsReadStop (λ file block. told → IsDamagedLeaf c file block old.files) old new) → StopsBy told c old new result
stops_by told c old new (Ok v) are reads is = tt
stops_by told c old new (Err Memory) are reads is = tt
stops_by told c old new (Err Disk) are reads is = is
stops_by told c old new (Err (Damaged file block)) are reads is =
    λ tells found was. subst (λ (files : Files). IsDamagedBy found file block files) (sym (reads.files tells)) (blamed found c file block old.files are was (is tells))
stops_by told c old new (Err (Worn ordinal fill number)) are reads is = absurd is
stops_by told c old new (Err Port) are reads is = absurd is
stops_by told c old new (Err Usage) are reads is = absurd is
stops_by told c old new (Err Budget) are reads is = absurd is
stops_by told c old new (Err NoStore) are reads is = absurd is
stops_by told c old new (Err Exists) are reads is = absurd is

pub has_stops : {T : Type 0} (told : Type 0) (c : Content) (old new : HostState) (result : Result T Stop) → AreOrdinals c.ordinals → OnlyReads told old new
    → IfErr result (IsReadStop (λ file block. told → IsDamagedLeaf c file block old.files) old new) → HasStops told c old new result
has_stops told c old new result are reads is = record {
  disk_later = reads.later;
  port_later = omega (arith, reads.port_faults);
  sizes = reads.sizes;
  stops = stops_by told c old new result are reads is;
}

pub not_worn : {T : Type 0} (P : ℕ → ℕ → Type 0) (old new : HostState) (result : Result T Stop) → IfErr result (IsReadStop P old new) → OnWorn result (λ stop. ⊥)
not_worn P old new (Ok v) is = tt
not_worn P old new (Err Memory) is = tt
not_worn P old new (Err Disk) is = tt
not_worn P old new (Err (Damaged file block)) is = tt
not_worn P old new (Err (Worn ordinal fill number)) is = is
not_worn P old new (Err Port) is = tt
not_worn P old new (Err Usage) is = tt
not_worn P old new (Err Budget) is = tt
not_worn P old new (Err NoStore) is = tt
not_worn P old new (Err Exists) is = tt

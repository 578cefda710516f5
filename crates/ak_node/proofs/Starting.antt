-- What stands when a view is opened.
use Rattle.std.specs.Prelude.{Option, None}
use Rattle.ak_checkpoint.specs.Saving.{Saving}
use Rattle.ak_gate.proofs.Found.{length_file}
use Rattle.ak_gate.specs.Fits.{IsSized, Fits}
use Rattle.ak_gate.specs.Slots.{Frame, gate_at, body_at, is_open}
use Rattle.ak_gate.specs.declared.half.Half.{Half}
use Rattle.ak_levels.specs.Pending.{Lists}
use Rattle.ak_meta.proofs.Contents.{one_meta}
use Rattle.ak_meta.specs.Contents.{meta_bytes}
use Rattle.ak_node.specs.Standing.{IsReady, CanServe, Stands, AreSessions}
use Rattle.ak_node.specs.declared.keeper.Keeper.{Keeper}
use Rattle.ak_node.specs.declared.node.Node.{Node}
use Rattle.ak_node.specs.declared.session.Session.{Session}
use Rattle.ak_record.proofs.Frames.{one_frame}
use Rattle.ak_record.proofs.Refusals.{newest_is_store}
use Rattle.ak_record.specs.Records.{IsRecord}
use Rattle.ak_record.specs.Stops.{IsNoStore, IsDamagedAt, IsShortAt, IsDamaged, IsOpenStop, AreMade}
use Rattle.ak_image.specs.Named.{IsDamagedNode}
use Rattle.ak_repair.specs.Firsts.{firsts}
use Rattle.ak_repair.specs.Reads.{IsReadStop}
use Rattle.ak_run.specs.Run.{world_of as run_of}
use Rattle.std.proofs.Common.{◌≡◌, ◌⊎◌, inl, inr, ℕ, zero, suc, Bool, false, ◌||◌, ◌++◌, take, get_or, bytes_eq, ap₂, ◌+◌, ◌-◌, ◌*◌, ◌<◌, ◌≤◌, nat_le, true, List, [], ◌∷◌, length, map, slice_index, Some, refl, sym, ◌∙◌, ap, subst, arith}
use Rattle.std.proofs.lemmas.Bool.Decides.{nat_tests}
use Rattle.std.proofs.lemmas.Cmp.{nat_list_eq_equiv}
use Rattle.std.proofs.lemmas.List.{length-replicate}
use Rattle.std.specs.List.{list_any, AllByRecursion, IsDistinct}
use Rattle.ak_base.specs.declared.limits.Limits.{Limits}
use Rattle.ak_base.specs.declared.stop.Stop.{Stop}
use Rattle.ak_base.specs.declared.stop.Stop.TheVariants.{Usage, Damaged, Disk, Port, Memory, Budget, Worn, NoStore, Exists}
use Rattle.ak_base.specs.Ranges.{AreLimits}
use Rattle.ak_gate.specs.Slots.{newest}
use Rattle.ak_host.specs.Files.{Files, file_at, zero_block}
use Rattle.ak_host.specs.Moments.{HostState, LeavesNow, IsStable}
use Rattle.ak_image.specs.Blocks.{Seen, seen_in, HasVolumes, AreThere}
use Rattle.ak_image.specs.Chains.{IsChain}
use Rattle.ak_image.specs.Images.{IsSound, StandsFor}
use Rattle.ak_image.specs.Laid.{IsLaid, AreLaid}
use Rattle.ak_image.specs.Planted.{ArePlanted}
use Rattle.ak_image.specs.Scans.{IsScan}
use Rattle.ak_image.proofs.Places.{AtEach, live_rows, scan_at}
use Rattle.ak_image.proofs.Standing.{one_record, newest_same, sound_laid, sound_view, laid_image}
use Rattle.ak_checkpoint.specs.Making.{AreEmpty, IsMade}
use Rattle.ak_meta.proofs.Lawful.{first_lawful}
use Rattle.ak_meta.specs.Leaves.{first_content}
use Rattle.ak_node.specs.Opening.{IsFirst, IsFoundRecord, IsNodeOpenStop, KeepsOpened}
use Rattle.ak_meta.specs.Contents.{Content, IsMeta, names_of}
use Rattle.ak_meta.specs.declared.meta.SeriesMeta.{SeriesMeta}
use Rattle.ak_record.specs.Records.{frame_for, HasNewest, Rests}
use Rattle.ak_record.specs.Volumes.{AreThere as AreFilesThere}
use Rattle.ak_tree.specs.Standing.{Holds, Keeps, Trees, base_of, bases_of}
use Rattle.ak_tree.specs.Storing.{IsStored, IsLeftOf}
use Rattle.ak_tree.proofs.Stored.{SameVolumes, seen_same, has_same}
use Rattle.ak_volumes.specs.Ordinals.{Ordinals, AreOrdinals, ordinal_of, newest as newest_ordinal, file_of}
use Rattle.ak_world.proofs.Opened.{opened_content, opened_kept}
use Rattle.ak_world.specs.Leaves.{Leaf, leaves_from}
use Rattle.ak_world.specs.Valid.{IsOpenable, AreOpenable}
use Rattle.ak_world.specs.Views.{View, first_view}
use Rattle.ak_world.specs.Worlds.{world_of, all_series, kept_now}

-- ---- The leaves of a view that a disk stands for

-- live leaves are all kept
from_all : (lo : ℕ) (leaves : List Leaf) → AtEach (λ a. lo ≤ ordinal_of a) leaves → leaves_from lo leaves ≡ leaves
from_all lo [] each = refl
from_all lo (leaf ∷ leaves) each =
    let least : lo ≤ ordinal_of leaf.address = each.0 in
    let here : nat_le lo (ordinal_of leaf.address) ≡ true = grind (arith, nat_tests) in
    rw here (ap (λ (l : List Leaf). leaf ∷ l) (from_all lo leaves each.1))

leaves_openable : (seen : Seen) (o : Ordinals) (series : ℕ) (known : SeriesMeta) (leaves : List Leaf) → AreOrdinals o → IsScan seen series o.lo o.fills leaves
    → IsChain seen o.lo series known leaves → IsOpenable o.lo known leaves
leaves_openable seen o series known leaves rules scan chain = record {
  live = from_all o.lo leaves (scan_at (λ a. o.lo ≤ ordinal_of a) seen series o.lo o.fills leaves (live_rows o (λ a. o.lo ≤ ordinal_of a) rules (λ a live. live.ordinal.from)) scan);
  first = chain.first;
  numbers = chain.numbers;
  count = chain.count;
  last = chain.last;
}

pub laid_openable : (seen : Seen) (o : Ordinals) (series : ℕ) (all : List SeriesMeta) (kept : List (List Leaf)) → AreOrdinals o → AreLaid seen o.lo o.fills series all kept
    → AreOpenable o.lo all kept
laid_openable seen o series [] kept rules laid = laid
laid_openable seen o series (known ∷ others) kept rules (leaves, rest, is, scan, chain, more) =
    subst (AreOpenable o.lo (known ∷ others)) (sym is)
    (leaves_openable seen o series known leaves rules scan chain, laid_openable seen o (suc series) others rest rules more)

-- the leaves that were live at the opening are those of the view
bases_opened : (lo : ℕ) (all : List SeriesMeta) (kept : List (List Leaf)) → AreOpenable lo all kept → map base_of (all_series all kept) ≡ firsts all kept
bases_opened lo [] kept may = refl
bases_opened lo (known ∷ others) [] may = absurd may
bases_opened lo (known ∷ others) (leaves ∷ kept) may = ap (λ (l : List ℕ). (known.leaves - length leaves) ∷ l) (bases_opened lo others kept may.1)

-- ---- A store that is open

-- the store holds what the view did
pub opened_holds : (view : View) (f : Trees) (host : HostState) → IsMeta view.content → AreOpenable view.content.ordinals.lo view.content.series view.kept → Keeps (world_of view) f
    → IsLaid (seen_in view.content.limits.volumes host.files) view.content view.kept
    → ArePlanted view.content.ordinals (seen_in view.content.limits.volumes host.files) 0 view.content.series view.kept (firsts view.content.series view.kept) f.levels
    → ((disk : Files) → LeavesNow host disk → IsLeftOf view (file_of view.content.ordinals (newest_ordinal view.content.ordinals)) host.files disk)
    → Holds (world_of view) f host
opened_holds view f host rules openable keeps laid planted left =
    let file : ℕ = file_of view.content.ordinals (newest_ordinal view.content.ordinals) in
    let bases : List ℕ = bases_of (world_of view) in
    let first = sym (bases_opened view.content.ordinals.lo view.content.series view.kept openable) in
    let is : IsStored view view.content view.kept bases f.levels file host = record {
      rules_are = rules;
      limits_are = refl;
      laid = laid;
      planted = subst (λ (l : List ℕ). ArePlanted view.content.ordinals (seen_in view.content.limits.volumes host.files) 0 view.content.series view.kept l f.levels) first planted;
      saved = laid;
      left = left;
    } in
    record {
      keeps = keeps;
      stored = subst (λ (c : Content). IsStored view c (kept_now (world_of view)) bases f.levels file host) (sym (opened_content view rules openable))
          (subst (λ (kept : List (List Leaf)). IsStored view view.content kept bases f.levels file host) (sym (opened_kept view openable)) is);
    }

-- a disk whose newest record is that of the view, and whose volumes are as they read
pub left_of : (view : View) (file : ℕ) (files disk : Files) → IsMeta view.content → HasNewest view.content.limits.slot (Some (frame_for view.number view.content)) disk
    → HasVolumes view.content.limits.volumes view.content.limits.blocks files → SameVolumes view.content.limits.volumes files disk
    → IsLeftOf view file files disk
left_of view file files disk rules newest volumes same = record {
  newest = newest;
  volumes = has_same view.content.limits.volumes view.content.limits.blocks files disk same volumes;
  same = λ a live. seen_same view.content.limits.volumes files disk (omega (arith, rules.limits_are.volumes_least)) same a;
  still = λ other from to apart. same other from to;
}

-- the first view of a store that was just made
empty_volumes : (limits : Limits) (host : HostState) → AreEmpty limits host → HasVolumes limits.volumes limits.blocks host.files
empty_volumes limits host empty file from to = omega (arith, ap length (empty.zeros file from to), length-replicate {A = List ℕ} limits.blocks zero_block)

pub made_first : (limits : Limits) (disk : Files) → AreLimits limits → IsMade limits disk → IsFirst limits disk
made_first limits disk are made =
    laid_image disk (first_view limits) (first_lawful limits are) made.newest
    (λ file from to. omega (arith, ap length (made.zeros file from to), length-replicate {A = List ℕ} limits.blocks zero_block))
    (record { rows = (([], refl), tt); leaves = refl; trees = tt })

pub first_left : (limits : Limits) (file : ℕ) (host : HostState) → AreLimits limits → Rests limits.slot (Some (frame_for 1 (first_content limits))) host → AreEmpty limits host
    → (disk : Files) → LeavesNow host disk → IsLeftOf (first_view limits) file host.files disk
first_left limits file host are rests empty disk left =
    left_of (first_view limits) file host.files disk (first_lawful limits are) (rests disk left) (empty_volumes limits host empty) (λ other from to. empty.stable other from to disk left)

pub first_is : (limits : Limits) (host : HostState) → AreLimits limits → Rests limits.slot (Some (frame_for 1 (first_content limits))) host → AreEmpty limits host
    → (disk : Files) → LeavesNow host disk → IsFirst limits disk
first_is limits host are rests empty disk left =
    let is = first_left limits 1 host are rests empty disk left in
    laid_image disk (first_view limits) (first_lawful limits are) is.newest is.volumes (record { rows = (([], refl), tt); leaves = refl; trees = tt })

-- ---- The index of names

name_at : (name : List ℕ) (all : List SeriesMeta) (d : SeriesMeta) (i : ℕ) → AllByRecursion (λ n. bytes_eq name n ≡ false) (names_of all) → i < length all
    → bytes_eq name (get_or all i d).name ≡ false
name_at name [] d i each within = absurd (omega (arith, within))
name_at name (s ∷ all) d zero each within = each.0
name_at name (s ∷ all) d (suc i) each within = name_at name all d i each.1 (omega (arith, within))

-- no name is among those before it
pub new_name : (all : List SeriesMeta) (d : SeriesMeta) (i : ℕ) → IsDistinct bytes_eq (names_of all) → i < length all
    → list_any (λ n. bytes_eq (get_or all i d).name n) (names_of (take i all)) ≡ false
unfolding IsDistinct
new_name [] d i apart within = absurd (omega (arith, within))
new_name (s ∷ all) d zero apart within = refl
new_name (s ∷ all) d (suc i) apart within =
    ap₂ (λ (a b : Bool). a || b) (nat_list_eq_equiv.symm (get_or all i d).name s.name ∙ name_at s.name all d i apart.0 (omega (arith, within))) (new_name all d i apart.1 (omega (arith, within)))

pub names_take : (all : List SeriesMeta) (d : SeriesMeta) (i : ℕ) → i < length all → names_of (take (suc i) all) ≡ names_of (take i all) ++ (get_or all i d).name ∷ []
names_take [] d i within = absurd (omega (arith, within))
names_take (s ∷ all) d zero within = refl
names_take (s ∷ all) d (suc i) within = ap (λ (l : List (List ℕ)). s.name ∷ l) (names_take all d i (omega (arith, within)))

pub names_most : (all : List SeriesMeta) (i : ℕ) → length (names_of (take i all)) ≤ i
names_most all zero = omega arith
names_most [] (suc i) = omega arith
names_most (s ∷ all) (suc i) = omega (arith, names_most all i)

-- ---- Nodes that begin

pub there_of : (c : Content) (host : HostState) → IsMeta c → AreFilesThere c.limits host.sizes → AreThere c.ordinals host
there_of c host rules there = record {
  number = omega (arith, rules.volumes, there.0);
  each = λ file from to. omega (arith, rules.blocks, there.1 file from (omega (arith, rules.volumes)));
}

pub made_there : (limits : Limits) (sizes : List ℕ) → AreMade limits sizes → AreFilesThere limits sizes
made_there limits sizes made = (made.number, λ file from to. omega (arith, made.volumes file from to))

pub opened_ready : (told : Type 0) (meta : Content) (levels : List Lists) (check : Saving) (keeper : Keeper) (host : HostState) → KeepsOpened meta levels check keeper
    → check.gate.broken ≡ false → check.gate.is_open ≡ true → check.pending ≡ false → check.number ≡ check.gate.number
    → IsSized check.gate.slot host → AreThere meta.ordinals host → (told → Fits check.gate host) → IsReady told keeper host
opened_ready told meta levels check keeper host o whole opened idle number sized there fits = record {
  forest = record {
    whole = ap (λ (s : Saving). s.gate.broken) o.check_is ∙ whole;
    opened = ap (λ (s : Saving). s.gate.is_open) o.check_is ∙ opened;
    none_pending = ap (λ (s : Saving). s.pending) o.check_is ∙ idle;
    number = ap (λ (s : Saving). s.number) o.check_is ∙ number ∙ ap (λ (s : Saving). s.gate.number) (sym o.check_is);
    sized = subst (λ (s : Saving). IsSized s.gate.slot host) (sym o.check_is) sized;
    there = subst (λ (m : Content). AreThere m.ordinals host) (sym o.meta_is) there;
    fits = λ t. subst (λ (s : Saving). Fits s.gate host) (sym o.check_is) (fits t);
  };
  names = o.names ∙ ap (λ (m : Content). names_of m.series) (sym o.meta_is);
}

pub node_serves : (told : Type 0) (node : Node) (keeper : Keeper) (host : HostState) → node.keeper ≡ keeper → node.sessions.items ≡ [] → IsReady told keeper host → CanServe told node host
node_serves told node keeper host is none ready = record {
  ready = subst (λ (k : Keeper). IsReady told k host) (sym is) ready;
  ports = subst (λ (l : List Session). AllByRecursion (λ s. 1 ≤ s.port) l) (sym none) tt;
}

pub node_stands : (view : View) (node : Node) (keeper : Keeper) (host : HostState) → node.stop ≡ None → node.keeper ≡ keeper → node.sessions.items ≡ []
    → Holds (world_of view) keeper.forest host → Stands node (run_of view) host
node_stands view node keeper host fresh is none holds = record {
  fresh = fresh;
  holds = subst (λ (k : Keeper). Holds (world_of view) k.forest host) (sym is) holds;
  sessions = subst (λ (l : List Session). AreSessions l []) (sym none) tt;
}

-- a store that was just made
pub first_holds : (limits : Limits) (meta : Content) (check : Saving) (keeper : Keeper) (host : HostState) → AreLimits limits → meta ≡ first_content limits → check.number ≡ 1
    → KeepsOpened meta [] check keeper → Rests limits.slot (Some (frame_for 1 (first_content limits))) host → AreEmpty limits host → Holds (world_of (first_view limits)) keeper.forest host
first_holds limits meta check keeper host are is number o rests empty =
    let view = first_view limits in
    let openable : AreOpenable meta.ordinals.lo meta.series [] = subst (λ (m : Content). AreOpenable m.ordinals.lo m.series []) (sym is) refl in
    opened_holds view keeper.forest host (first_lawful limits are) refl (o.keeps view (sym is) (sym number) openable)
    (record { rows = (([], refl), tt); leaves = refl; trees = tt }) (refl, refl, o.levels_are) (first_left limits (file_of view.content.ordinals (newest_ordinal view.content.ordinals)) host are rests empty)

-- ---- The view that is found

-- the record and the number that were found are those of the view for which the disk stands
pub record IsFoundView (view : View) (number : ℕ) (meta : Content) : Type 0 where
  pub number_is : view.number ≡ number
  pub content_is : view.content ≡ meta

pub found_view : (view : View) (files : Files) (slot number : ℕ) (meta : Content) → StandsFor view files → IsMeta meta → meta.limits.slot ≡ slot → length (file_at files 0) ≡ 2 + 2 * slot
    → newest slot files ≡ Some (frame_for number meta) → IsFoundView view number meta
found_view view files slot number meta stands rules slot_is blocks newest_is =
    let same : view.content.limits.slot ≡ slot = omega (arith, stands.newest.blocks, blocks) in
    let has : HasNewest slot (Some (frame_for number meta)) files = record {
      blocks = blocks;
      newest_is = newest_is;
      records = subst (λ (k : ℕ). (half : Half) → is_open (gate_at half (file_at files 0)) ≡ true → IsRecord k (body_at k half (file_at files 0))) same stands.newest.records;
    } in
    let one = one_record files view.number number view.content meta stands.rules_are rules stands.newest (subst (λ (k : ℕ). HasNewest k (Some (frame_for number meta)) files) (sym slot_is) has) in
    record { number_is = one.number; content_is = one.content }

pub found_is : (slot number : ℕ) (meta : Content) (files : Files) → IsMeta meta → meta.limits.slot ≡ slot → length (file_at files 0) ≡ 2 + 2 * slot → newest slot files ≡ Some (frame_for number meta) → IsFoundRecord number meta files
found_is slot number meta files rules slot_is blocks newest_is = record {
  rules_are = rules;
  blocks = omega (arith, blocks, slot_is);
  newest_is = ap (λ (k : ℕ). newest k files) slot_is ∙ newest_is;
}

-- a disk has one record that is found
pub one_found : (m n : ℕ) (c d : Content) (files : Files) → IsFoundRecord m c files → IsFoundRecord n d files → c ≡ d
one_found m n c d files one other =
    let slot : d.limits.slot ≡ c.limits.slot = omega (arith, one.blocks, other.blocks) in
    let both : Some (frame_for m c) ≡ Some (frame_for n d) = sym one.newest_is ∙ ap (λ (k : ℕ). newest k files) (sym slot) ∙ other.newest_is in
    let same : frame_for m c ≡ frame_for n d = cc in
    (one_frame m n c d one.rules_are other.rules_are same).1

-- a node that is over what was found
pub node_found : (number : ℕ) (meta : Content) (levels : List Lists) (check : Saving) (keeper : Keeper) (node : Node) (files : Files) → node.keeper ≡ keeper → KeepsOpened meta levels check keeper → check.number ≡ number
    → IsFoundRecord number meta files → IsFoundRecord node.keeper.forest.check.number node.keeper.forest.meta files
node_found number meta levels check keeper node files is o numbered found =
    let here : IsFoundRecord keeper.forest.check.number keeper.forest.meta files =
    subst (λ (m : Content). IsFoundRecord keeper.forest.check.number m files) (sym o.meta_is) (subst (λ (n : ℕ). IsFoundRecord n meta files) (sym (ap (λ (s : Saving). s.number) o.check_is ∙ numbered)) found) in
    subst (λ (k : Keeper). IsFoundRecord k.forest.check.number k.forest.meta files) (sym is) here

-- the leaves of the view that is found are laid out by its record
pub found_laid : (view : View) (number : ℕ) (meta : Content) (files : Files) → IsFoundView view number meta → IsSound files → StandsFor view files
    → IsLaid (seen_in meta.limits.volumes files) meta view.kept
found_laid view number meta files is sound stands = subst (λ (c : Content). IsLaid (seen_in c.limits.volumes files) c view.kept) is.content_is (sound_laid files view sound stands).1

-- the leaves of a sound disk are
pub sound_found : (slot number : ℕ) (meta : Content) (files : Files) → IsSound files → IsMeta meta → meta.limits.slot ≡ slot → length (file_at files 0) ≡ 2 + 2 * slot
    → newest slot files ≡ Some (frame_for number meta) → (kept : List (List Leaf)) × IsLaid (seen_in meta.limits.volumes files) meta kept
sound_found slot number meta files sound rules slot_is blocks newest_is =
    let there = sound_view files sound in
    let view : View = there.0 in
    (view.kept, found_laid view number meta files (found_view view files slot number meta there.1 rules slot_is blocks newest_is) sound there.1)

-- what waits of each series, as the leaves of the view make it
abbrev pub IsRepaired : Content → List Lists → View → Files → Type 0
IsRepaired meta levels view files = ArePlanted meta.ordinals (seen_in meta.limits.volumes files) 0 meta.series view.kept (firsts meta.series view.kept) levels

-- the files that are synced are as they read, whatever a stop leaves
pub found_holds : (view : View) (number : ℕ) (meta : Content) (levels : List Lists) (check : Saving) (keeper : Keeper) (host : HostState) → IsFoundView view number meta → check.number ≡ number
    → KeepsOpened meta levels check keeper → IsSound host.files → StandsFor view host.files → IsRepaired meta levels view host.files → AreFilesThere meta.limits host.sizes
    → ((file : ℕ) → file < length host.sizes → IsStable file host) → Holds (world_of view) keeper.forest host
found_holds view number meta levels check keeper host is numbered o sound stands repaired there stable =
    let c = view.content in
    let laid = sound_laid host.files view sound stands in
    let openable = laid_openable (seen_in c.limits.volumes host.files) c.ordinals 0 c.series view.kept stands.rules_are.ordinals_are laid.1.leaves in
    let few : c.limits.volumes < length host.sizes = omega (arith, ap (λ (m : Content). m.limits.volumes) is.content_is, there.0) in
    let same : (disk : Files) → LeavesNow host disk → (file : ℕ) → file ≤ c.limits.volumes → file_at disk file ≡ file_at host.files file = λ disk left file to. stable file (omega (arith, few)) disk left in
    opened_holds view keeper.forest host stands.rules_are openable
    (o.keeps view is.content_is (is.number_is ∙ sym numbered) (subst (λ (m : Content). AreOpenable m.ordinals.lo m.series view.kept) is.content_is openable))
    laid.1
    (subst (λ (l : List Lists). IsRepaired view.content l view host.files) (sym o.levels_are) (subst (λ (m : Content). IsRepaired m levels view host.files) (sym is.content_is) repaired))
    (λ disk left. left_of view (file_of c.ordinals (newest_ordinal c.ordinals)) host.files disk stands.rules_are
    (newest_same host.files disk c.limits.slot view.number c (sym (same disk left 0 (omega arith))) stands.newest) laid.0 (λ file from to. same disk left file to))

-- ---- Why a sound disk isn't opened

short_not : (file block : ℕ) (disk : Files) → IsSound disk → IsShortAt file block disk → ⊥
short_not file block disk sound short =
    let c = sound.content in
    let same : short.slot ≡ c.limits.slot = omega (arith, sound.newest.blocks, short.blocks) in
    let frames : Some short.newest_frame ≡ Some (frame_for sound.number c) = sym short.newest_is ∙ ap (λ (k : ℕ). newest k disk) same ∙ sound.newest.newest_is in
    let payload : short.newest_frame.payload ≡ meta_bytes c = ap (λ (f : Option Frame). payload_of f) frames in
    let one : short.content ≡ c = one_meta short.content c short.spells.rules_are sound.rules_are (sym short.spells.is ∙ payload) in
    let whole = sound.volumes file short.volume (omega (arith, short.among, ap (λ (m : Content). m.limits.volumes) one)) in
    omega (arith, whole, short.has, short.short, ap (λ (m : Content). m.limits.blocks) one)
  where
    payload_of : Option Frame → List ℕ
    payload_of None = []
    payload_of (Some f) = f.payload

body_not : (block : ℕ) (disk : Files) → IsSound disk → IsDamagedAt block disk → ⊥
body_not block disk sound d =
    let same : sound.content.limits.slot ≡ d.slot = omega (arith, sound.newest.blocks, d.blocks) in
    d.damaged (subst (λ (k : ℕ). IsRecord k (body_at k d.half (file_at disk 0))) same (sound.newest.records d.half d.opened))

damage_not : (file block : ℕ) (disk : Files) → IsSound disk → IsDamaged file block disk → ⊥
damage_not file block disk sound (inl d) = body_not block disk sound d.1
damage_not file block disk sound (inr short) = short_not file block disk sound short

pub open_sound : (told : Type 0) → told → (old new : HostState) → IsSound old.files → (s : Stop) → IsOpenStop told old new s → (s ≡ Disk) ⊎ (s ≡ Memory)
open_sound told t old new sound NoStore why = absurd (newest_is_store sound.content.limits.slot (frame_for sound.number sound.content) old.files sound.rules_are.limits_are.slot_least sound.newest (why t))
open_sound told t old new sound (Damaged file block) why = absurd (damage_not file block old.files sound (why t))
open_sound told t old new sound Disk why = inl refl
open_sound told t old new sound Memory why = inr refl
open_sound told t old new sound Usage why = absurd why
open_sound told t old new sound Port why = absurd why
open_sound told t old new sound Budget why = absurd why
open_sound told t old new sound (Worn ordinal fill number) why = absurd why
open_sound told t old new sound Exists why = absurd why

-- why a store isn't opened, while what waits of its series is rebuilt
pub stop_repaired : (told : Type 0) (number : ℕ) (found : Content) (old mid new : HostState) (s : Stop) → (told → IsFoundRecord number found old.files) → old.disk_faults ≤ mid.disk_faults
    → (told → new.files ≡ mid.files) → IsReadStop (λ file block. told → IsDamagedNode (seen_in found.ordinals.volumes mid.files) found.ordinals found file block) mid new s → IsNodeOpenStop told old new s
stop_repaired told number found old mid new (Damaged file block) record_is later files why =
    λ t. inr (number, found, record_is t, subst (λ (read : Files). IsDamagedNode (seen_in found.ordinals.volumes read) found.ordinals found file block) (sym (files t)) (why t))
stop_repaired told number found old mid new Disk record_is later files why = omega (arith, later, why)
stop_repaired told number found old mid new Memory record_is later files why = tt
stop_repaired told number found old mid new NoStore record_is later files why = absurd why
stop_repaired told number found old mid new Usage record_is later files why = absurd why
stop_repaired told number found old mid new Port record_is later files why = absurd why
stop_repaired told number found old mid new Budget record_is later files why = absurd why
stop_repaired told number found old mid new (Worn ordinal fill last) record_is later files why = absurd why
stop_repaired told number found old mid new Exists record_is later files why = absurd why

pub file_long : (host : HostState) → map length host.files ≡ host.sizes → length (file_at host.files 0) ≡ slice_index host.sizes 0
file_long host sized = sym (length_file host.files) ∙ ap (λ (sizes : List ℕ). slice_index sizes 0) sized

pub making_first : (limits : Limits) → AreLimits limits → (disk : Files) → IsNoStore disk ⊎ IsMade limits disk → IsNoStore disk ⊎ IsFirst limits disk
making_first limits are disk (inl none) = inl none
making_first limits are disk (inr made) = inr (made_first limits disk are made)

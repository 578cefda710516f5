-- For which views the disks stand that a stop leaves of a stored view.
use Rattle.std.proofs.Common.{◌≡◌, ◌⊎◌, inl, inr, ℕ, ◌+◌, ◌%◌, ◌<◌, ◌≤◌, List, [], length, get_or, Some, refl, sym, ◌∙◌, ap, subst, arith}
use Rattle.std.proofs.lemmas.Bool.{cases_eq}
use Rattle.std.proofs.lemmas.Nat.{mod_below}
use Rattle.ak_base.specs.declared.limits.Limits.{Limits}
use Rattle.ak_checkpoint.specs.Saving.{IsSavedOver, IsSaving}
use Rattle.ak_gate.specs.Fits.{SameElsewhere}
use Rattle.ak_host.specs.Files.{Files, file_at}
use Rattle.ak_host.specs.Moments.{HostState, LeavesNow}
use Rattle.ak_image.specs.Blocks.{seen_in, HasVolumes}
use Rattle.ak_image.specs.Images.{IsSound, StandsFor}
use Rattle.ak_image.specs.Laid.{IsLaid}
use Rattle.ak_image.specs.Planted.{ArePlanted}
use Rattle.ak_image.proofs.Agreeing.{laid_agree}
use Rattle.ak_image.proofs.Standing.{laid_image, sound_laid}
use Rattle.ak_image.proofs.Raising.{ordinal_laid, ordinal_planted}
use Rattle.ak_levels.specs.Pending.{Lists}
use Rattle.ak_meta.specs.Contents.{Content, IsMeta}
use Rattle.ak_record.specs.Records.{frame_for, HasNewest, Rests}
use Rattle.ak_volumes.specs.Ordinals.{ordinal_of, index_of, switched}
use Rattle.ak_world.specs.Leaves.{Leaf, kept_from}
use Rattle.ak_world.specs.Valid.{AreOpenable}
use Rattle.ak_world.specs.Views.{View}
use Rattle.ak_world.specs.Worlds.{world_of, content_now, kept_now}
use Rattle.ak_world.proofs.Opened.{opened_content, opened_kept}
use Rattle.ak_tree.specs.Standing.{bases_of}
use Rattle.ak_tree.specs.Storing.{IsStored, IsLeftOf, LeavesSaved}
use Rattle.ak_tree.proofs.Planted.{all_same}

-- the view that follows
abbrev pub view_behind : View → Content → List (List Leaf) → View
view_behind last c kept = record { number = last.number + 1; content = c; kept = kept }

-- ---- Volumes

-- the files of so many volumes are the same
abbrev pub SameVolumes : ℕ → Files → Files → Type 0
SameVolumes volumes old new = (file : ℕ) → 1 ≤ file → file ≤ volumes → file_at new file ≡ file_at old file

pub seen_same : (volumes : ℕ) (old new : Files) → 0 < volumes → SameVolumes volumes old new → (a : ℕ) → seen_in volumes new a ≡ seen_in volumes old a
seen_same volumes old new some same a =
    let file : ℕ = 1 + ordinal_of a % volumes in
    let most : file ≤ volumes = omega (arith, mod_below (ordinal_of a) volumes some) in
    ap (λ (blocks : List (List ℕ)). get_or blocks (index_of a) []) (same file (omega arith) most)

pub has_same : (volumes blocks : ℕ) (old new : Files) → SameVolumes volumes old new → HasVolumes volumes blocks old → HasVolumes volumes blocks new
has_same volumes blocks old new same has file from to = subst (λ (l : List (List ℕ)). blocks ≤ length l) (sym (same file from to)) (has file from to)

pub elsewhere_same : (volumes : ℕ) (old new : Files) → SameElsewhere old new → SameVolumes volumes old new
elsewhere_same volumes old new elsewhere file from to = elsewhere.others file (λ e. absurd (omega (arith, e, from)))

pub laid_by_volumes : (old new : Files) (c : Content) (kept : List (List Leaf)) → IsMeta c → SameVolumes c.limits.volumes old new
    → IsLaid (seen_in c.limits.volumes old) c kept → IsLaid (seen_in c.limits.volumes new) c kept
laid_by_volumes old new c kept rules same laid =
    let some : 0 < c.limits.volumes = omega (arith, rules.limits_are.volumes_least) in
    laid_agree (seen_in c.limits.volumes old) (seen_in c.limits.volumes new) c kept rules laid (λ a live. seen_same c.limits.volumes old new some same a)

-- ---- A stored view

-- the view that a store is opened with, where what waits belongs to its blocks
pub stored_first : (view : View) (bases : List ℕ) (levels : List Lists) (file : ℕ) (host : HostState) → IsMeta view.content → IsLaid (seen_in view.content.limits.volumes host.files) view.content view.kept
    → ArePlanted view.content.ordinals (seen_in view.content.limits.volumes host.files) 0 view.content.series view.kept bases levels → ((disk : Files) → LeavesNow host disk → IsLeftOf view file host.files disk)
    → IsStored view view.content view.kept bases levels file host
stored_first view bases levels file host rules laid planted left = record { rules_are = rules; limits_are = refl; laid = laid; planted = planted; saved = laid; left = left }

-- the same of a sound image that stands for it
pub stored_sound : (view : View) (bases : List ℕ) (levels : List Lists) (file : ℕ) (host : HostState) → IsSound host.files → StandsFor view host.files
    → ArePlanted view.content.ordinals (seen_in view.content.limits.volumes host.files) 0 view.content.series view.kept bases levels → ((disk : Files) → LeavesNow host disk → IsLeftOf view file host.files disk)
    → IsStored view view.content view.kept bases levels file host
stored_sound view bases levels file host sound stands planted left =
    stored_first view bases levels file host stands.rules_are (sound_laid host.files view sound stands).1 planted left

-- and so the store holds what the view did
pub opened_stored : (view : View) (levels : List Lists) (file : ℕ) (host : HostState) → IsMeta view.content → AreOpenable view.content.ordinals.lo view.content.series view.kept
    → IsStored view view.content view.kept (bases_of (world_of view)) levels file host → IsStored view (content_now (world_of view)) (kept_now (world_of view)) (bases_of (world_of view)) levels file host
opened_stored view levels file host rules openable stored =
    subst (λ (c : Content). IsStored view c (kept_now (world_of view)) (bases_of (world_of view)) levels file host) (sym (opened_content view rules openable))
    (subst (λ (kept : List (List Leaf)). IsStored view view.content kept (bases_of (world_of view)) levels file host) (sym (opened_kept view openable)) stored)

module _ (last : View) (c : Content) (kept : List (List Leaf)) (bases : List ℕ) (levels : List Lists) (file : ℕ) (host : HostState) (stored : IsStored last c kept bases levels file host) where
  -- the last view, as the disk reads
  pub last_laid : IsLaid (seen_in last.content.limits.volumes host.files) last.content last.kept
  last_laid = subst (λ (limits : Limits). IsLaid (seen_in limits.volumes host.files) last.content last.kept) (sym stored.limits_are) stored.saved

  pub stands_last : (disk : Files) → LeavesNow host disk → IsSound disk × StandsFor last disk
  stands_last disk left =
      let is = stored.left disk left in
      laid_image disk last stored.rules_are is.newest is.volumes
      (laid_agree (seen_in last.content.limits.volumes host.files) (seen_in last.content.limits.volumes disk) last.content last.kept stored.rules_are last_laid is.same)

  pub leaves_last : (saved : View) (disk : Files) → LeavesNow host disk → LeavesSaved last saved disk
  leaves_last saved disk left = let both = stands_last disk left in record { sound = both.0; stands = inl both.1 }

  pub last_rests : Rests c.limits.slot (Some (frame_for last.number last.content)) host
  last_rests disk left = subst (λ (limits : Limits). HasNewest limits.slot (Some (frame_for last.number last.content)) disk) stored.limits_are (stored.left disk left).newest

  -- once the file is synced, the volumes are as they read
  before_same : (disk : Files) → IsSavedOver file host disk → (other : ℕ) → 1 ≤ other → other ≤ c.limits.volumes → (other ≡ file) ⊎ (other ≡ file → ⊥) → file_at disk other ≡ file_at host.files other
  before_same disk over other from to (inl same) =
      over.elsewhere.others other (λ e. absurd (omega (arith, e, from)))
      ∙ ap (file_at over.before) same ∙ over.synced ∙ ap (file_at host.files) (sym same)
  before_same disk over other from to (inr apart) =
      let among : other ≤ last.content.limits.volumes = omega (arith, to, ap (λ (limits : Limits). limits.volumes) stored.limits_are) in
      over.elsewhere.others other (λ e. absurd (omega (arith, e, from))) ∙ (stored.left over.before over.left).still other from among apart

  pub over_same : (disk : Files) → IsSavedOver file host disk → SameVolumes c.limits.volumes host.files disk
  over_same disk over other from to = before_same disk over other from to (cases_eq other file)

  pub over_has : (disk : Files) → IsSavedOver file host disk → HasVolumes c.limits.volumes c.limits.blocks disk
  over_has disk over =
      has_same c.limits.volumes c.limits.blocks over.before disk (elsewhere_same c.limits.volumes over.before disk over.elsewhere)
      (subst (λ (limits : Limits). HasVolumes limits.volumes limits.blocks over.before) stored.limits_are (stored.left over.before over.left).volumes)

  module _ (rules : IsMeta c) where
    over_last : (disk : Files) → IsSavedOver file host disk → HasNewest c.limits.slot (Some (frame_for last.number last.content)) disk → IsSound disk × StandsFor last disk
    over_last disk over newest =
        let limits = stored.limits_are in
        let laid = laid_agree (seen_in c.limits.volumes host.files) (seen_in c.limits.volumes disk) last.content last.kept stored.rules_are stored.saved
        (λ a live. seen_same c.limits.volumes host.files disk (omega (arith, rules.limits_are.volumes_least)) (over_same disk over) a) in
        laid_image disk last stored.rules_are
        (subst (λ (l : Limits). HasNewest l.slot (Some (frame_for last.number last.content)) disk) (sym limits) newest)
        (subst (λ (l : Limits). HasVolumes l.volumes l.blocks disk) (sym limits) (over_has disk over))
        (subst (λ (l : Limits). IsLaid (seen_in l.volumes disk) last.content last.kept) (sym limits) laid)

    over_next : (disk : Files) → IsSavedOver file host disk → HasNewest c.limits.slot (Some (frame_for (last.number + 1) c)) disk → IsSound disk × StandsFor (view_behind last c kept) disk
    over_next disk over newest = laid_image disk (view_behind last c kept) rules newest (over_has disk over) (laid_by_volumes host.files disk c kept rules (over_same disk over) stored.laid)

    -- at each moment
    pub saving_leaves : (disk : Files) → IsSaving c.limits.slot file (Some (frame_for last.number last.content)) (frame_for (last.number + 1) c) host disk → LeavesSaved last (view_behind last c kept) disk
    saving_leaves disk (inl left) = leaves_last (view_behind last c kept) disk left
    saving_leaves disk (inr both) = elim both.1 [
      | inl newest ↦ let is = over_last disk both.0 newest in record { sound = is.0; stands = inl is.1 }
      | inr newest ↦ let is = over_next disk both.0 newest in record { sound = is.0; stands = inr is.1 }
    ]

    -- once it is saved, whatever file is written next
    pub stored_next : (next : ℕ) (new : HostState) → SameElsewhere host.files new.files
        → ((disk : Files) → LeavesNow new disk → IsSavedOver file host disk × HasNewest c.limits.slot (Some (frame_for (last.number + 1) c)) disk)
        → IsStored (view_behind last c kept) c kept bases levels next new
    stored_next next new elsewhere saved =
        let reads = elsewhere_same c.limits.volumes host.files new.files elsewhere in
        let laid = laid_by_volumes host.files new.files c kept rules reads stored.laid in
        let same : (disk : Files) → LeavesNow new disk → SameVolumes c.limits.volumes new.files disk =
        λ disk left other from to. over_same disk (saved disk left).0 other from to ∙ sym (reads other from to) in
        record {
          rules_are = rules;
          limits_are = refl;
          laid = laid;
          planted = all_same c.ordinals (seen_in c.limits.volumes host.files) (seen_in c.limits.volumes new.files) 0 c.series kept bases levels
              (seen_same c.limits.volumes host.files new.files (omega (arith, rules.limits_are.volumes_least)) reads) stored.planted;
          saved = laid;
          left = λ disk left. record {
            newest = (saved disk left).1;
            volumes = over_has disk (saved disk left).0;
            same = λ a live. seen_same c.limits.volumes new.files disk (omega (arith, rules.limits_are.volumes_least)) (same disk left) a;
            still = λ other from to apart. same disk left other from to;
          };
        }

    -- an ordinal that begins, maybe in the place of the oldest
    pub stored_switched : IsStored last (record c { ordinals = switched c.ordinals }) (kept_from (switched c.ordinals).lo kept) bases levels file host
    stored_switched = record {
      rules_are = stored.rules_are;
      limits_are = stored.limits_are;
      laid = ordinal_laid (seen_in c.limits.volumes host.files) c kept rules stored.laid;
      planted = ordinal_planted (seen_in c.limits.volumes host.files) c kept rules stored.laid bases levels stored.planted;
      saved = stored.saved;
      left = stored.left;
    }

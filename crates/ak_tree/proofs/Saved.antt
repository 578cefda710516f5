-- Worlds whose view is saved, and the forests that hold them.
use Rattle.std.proofs.Common.{◌≡◌, inl, inr, ℕ, ◌+◌, ◌-◌, ◌^◌, ◌<◌, ◌≤◌, Bool, true, false, List, [], ◌∷◌, length, map, get_or, Option, Some, None, Result, Ok, Err, OnOk, refl, sym, ◌∙◌, ap, subst, arith}
use Rattle.std.proofs.lemmas.Bool.{lt-leb, le-leb, ne_eqb}
use Rattle.std.proofs.lemmas.Nat.{mod_below}
use Rattle.std.specs.List.{AllByRecursion}
use Rattle.std.specs.Prelude.{◌==◌, if◌then◌else◌}
use Rattle.ak_base.specs.declared.stop.Stop.{Stop}
use Rattle.ak_base.specs.declared.stop.Stop.TheVariants.{Worn}
use Rattle.ak_checkpoint.specs.Saving.{Saving, IsSaving, IsSavedOver}
use Rattle.ak_gate.specs.Fits.{SameElsewhere}
use Rattle.ak_gate.specs.Slots.{Frame as Slot}
use Rattle.ak_host.specs.Files.{Files}
use Rattle.ak_host.specs.Moments.{HostState, DiskPasses, LeavesNow}
use Rattle.ak_host.proofs.Passing.{disk_weaker}
use Rattle.ak_levels.specs.Pending.{Lists}
use Rattle.ak_meta.specs.Contents.{Content, IsMeta}
use Rattle.ak_meta.proofs.Rooms.{switched_lawful}
use Rattle.ak_pool.specs.Frames.{Frames, Used}
use Rattle.ak_pool.specs.declared.pool.Frame.{Frame}
use Rattle.ak_record.specs.Records.{frame_for, frame_bytes, HasNewest, Rests}
use Rattle.ak_volumes.specs.Ordinals.{Ordinals, newest, newest_fill, file_of, switched}
use Rattle.ak_world.specs.Leaves.{Leaf, kept_from}
use Rattle.ak_world.specs.Steps.{switch, written_in}
use Rattle.ak_world.specs.Valid.{IsWorld}
use Rattle.ak_world.specs.Views.{View, IsIn}
use Rattle.ak_world.specs.Worlds.{World, views_of, worn_world, content_now, kept_now, next_view, after_view}
use Rattle.ak_world.proofs.ContentsOfNames.{kept_switched}
use Rattle.ak_world.proofs.Valid.{view_valid, switch_valid}
use Rattle.ak_tree.specs.Standing.{Trees, AreTrees, Keeps, Holds, trees, bases_of}
use Rattle.ak_tree.specs.Stops.{IsWornBy}
use Rattle.ak_tree.specs.Storing.{IsStored, LeavesView, LeavesSaved}
use Rattle.ak_tree.proofs.Joining.{in_more, in_push}
use Rattle.ak_tree.proofs.Stored.{view_behind, last_rests, saving_leaves, stored_next, stored_switched}
use Rattle.ak_tree.proofs.Telling.{told_here}

-- ---- Worlds

-- the view that is due was taken
abbrev pub saved_world : World → World
saved_world w = record w { earlier = views_of w; last = next_view w; since = 0 }

pub after_saved : (w : World) → w.last.number < 2 ^ 64 - 1 → after_view w ≡ saved_world w
after_saved w below = ap (λ (b : Bool). if b then worn_world w else saved_world w) (lt-leb (2 ^ 64 - 1) w.last.number below)

pub after_last : (w : World) → w.last.number ≡ 2 ^ 64 - 1 → after_view w ≡ worn_world w
after_last w last = ap (λ (b : Bool). if b then worn_world w else saved_world w) (le-leb (2 ^ 64 - 1) w.last.number (omega (arith, last)))

-- an ordinal begins
abbrev pub with_ordinal : World → World
with_ordinal w = record w { ordinals = switched w.ordinals }

pub switch_begins : (w : World) → newest w.ordinals < 2 ^ 32 - 1 → switch w ≡ after_view (with_ordinal w)
switch_begins w below =
    let test : (newest w.ordinals == 2 ^ 32 - 1) ≡ false = ne_eqb (newest w.ordinals) (2 ^ 32 - 1) (λ e. absurd (omega (arith, e, below))) in
    ap (λ (b : Bool). if b then worn_world w else after_view (with_ordinal w)) test

-- ---- Views of it

-- a stop leaves the last view or the one that is taken
pub leaves_view : (w u : World) → views_of u ≡ views_of w → u.last ≡ w.last → (disk : Files) → LeavesSaved w.last (next_view u) disk → LeavesView w (saved_world u) disk
leaves_view w u views same disk is = elim is.stands [
  | inl last ↦ record {
    view = w.last;
    sound = is.sound;
    stands = last;
    taken = in_more w.last (views_of u) (next_view u ∷ []) (subst (IsIn w.last) (sym views) (in_push w.earlier w.last));
    recent = omega arith;
  }
  | inr saved ↦ record {
    view = next_view u;
    sound = is.sound;
    stands = saved;
    taken = in_push (views_of u) (next_view u);
    recent = omega (arith, ap (λ (v : View). v.number) same);
  }
]

-- the view that is due, by what a record says and the leaves that are kept
pub next_is : (u : World) (c : Content) (kept : List (List Leaf)) → c ≡ content_now u → kept ≡ kept_now u → view_behind u.last c kept ≡ next_view u
next_is u c kept content_is kept_is = λ i. record { number = u.last.number + 1; content = content_is i; kept = kept_is i }

pub view_passes : (w : World) (c : Content) (old new : HostState) → w.last.number < 2 ^ 64 - 1 → c ≡ content_now w
    → DiskPasses (LeavesSaved w.last (view_behind w.last c (kept_now w))) old new → DiskPasses (LeavesView w (after_view w)) old new
view_passes w c old new below content_is run =
    let next = next_is w c (kept_now w) content_is refl in
    subst (λ (v : World). DiskPasses (LeavesView w v) old new) (sym (after_saved w below))
    (disk_weaker run (λ disk is. leaves_view w w refl refl disk (subst (λ (v : View). LeavesSaved w.last v disk) next is)))

pub switch_is : (w : World) → newest w.ordinals < 2 ^ 32 - 1 → w.last.number < 2 ^ 64 - 1 → switch w ≡ saved_world (with_ordinal w)
switch_is w below least = switch_begins w below ∙ after_saved (with_ordinal w) least

pub switch_passes : (w : World) (c : Content) (old new : HostState) → newest w.ordinals < 2 ^ 32 - 1 → w.last.number < 2 ^ 64 - 1 → c ≡ content_now (with_ordinal w)
    → DiskPasses (LeavesSaved w.last (view_behind w.last c (kept_now (with_ordinal w)))) old new → DiskPasses (LeavesView w (switch w)) old new
switch_passes w c old new below least content_is run =
    let u : World = with_ordinal w in
    let next = next_is u c (kept_now u) content_is refl in
    subst (λ (v : World). DiskPasses (LeavesView w v) old new) (sym (switch_is w below least))
    (disk_weaker run (λ disk is. leaves_view w u refl refl disk (subst (λ (v : View). LeavesSaved w.last v disk) next is)))

-- ---- Forests

-- a forest that keeps all of a world whose view was taken
pub keeps_saved : (u : World) (f : Trees) (check : Saving) → u.worn ≡ false → IsWorld (saved_world u) → f.meta ≡ content_now u → check.number ≡ u.last.number + 1
    → map (λ (x : Used). x.series) f.pool.used ≡ u.recent → AllByRecursion (λ (x : Used). written_in u.series x.series ≡ x.leaf) f.pool.used
    → ((n : ℕ) → n < length u.series → get_or f.frames n None ≡ None → written_in u.series n ≡ []) → Keeps (saved_world u) (record f { check = check; since = 0 })
keeps_saved u f check not_worn valid content_is number recent open_leaves others = record {
  not_worn = not_worn;
  valid = valid;
  content_is = content_is;
  since_is = refl;
  number_is = number;
  recent_is = recent;
  open_leaves = open_leaves;
  others = others;
}

pub holds_view : (w : World) (f g : Trees) (host : HostState) → Keeps w f → w.last.number < 2 ^ 64 - 1 → g ≡ record f { check = g.check; since = 0 } → g.check.number ≡ f.check.number + 1
    → IsStored (view_behind w.last f.meta (kept_now w)) f.meta (kept_now w) (bases_of w) f.levels (file_of w.ordinals (newest w.ordinals)) host → Holds (after_view w) g host
holds_view w f g host keeps below same number stored =
    let is = after_saved w below in
    let valid : IsWorld (saved_world w) = subst IsWorld is (view_valid w keeps.valid) in
    let kept = keeps_saved w f g.check keeps.not_worn valid keeps.content_is (omega (arith, number, keeps.number_is)) keeps.recent_is keeps.open_leaves keeps.others in
    subst (λ (v : World). Holds v g host) (sym is) (record {
      keeps = subst (Keeps (saved_world w)) (sym same) kept;
      stored = subst (λ (levels : List Lists). IsStored (next_view w) (content_now w) (kept_now w) (bases_of w) levels (file_of w.ordinals (newest w.ordinals)) host) (sym (ap (λ (t : Trees). t.levels) same))
          (subst (λ (c : Content). IsStored (view_behind w.last c (kept_now w)) c (kept_now w) (bases_of w) f.levels (file_of w.ordinals (newest w.ordinals)) host) keeps.content_is stored);
    })

-- what a record says where an ordinal begins
abbrev pub content_switched : Content → Content
content_switched c = record c { ordinals = switched c.ordinals }

pub holds_switch : (w : World) (f g : Trees) (host : HostState) → Keeps w f → newest w.ordinals < 2 ^ 32 - 1 → w.last.number < 2 ^ 64 - 1
    → g ≡ record f { meta = content_switched f.meta; check = g.check; since = 0 } → g.check.number ≡ f.check.number + 1
    → IsStored (view_behind w.last (content_switched f.meta) (kept_now (with_ordinal w))) (content_switched f.meta) (kept_now (with_ordinal w)) (bases_of w) f.levels (file_of (switched w.ordinals) (newest (switched w.ordinals))) host → Holds (switch w) g host
holds_switch w f g host keeps below least same number stored =
    let u : World = with_ordinal w in
    let is = switch_is w below least in
    let content_is : content_switched f.meta ≡ content_now u = ap content_switched keeps.content_is in
    let whole : (switch w).worn ≡ false = ap (λ (v : World). v.worn) is ∙ keeps.not_worn in
    let valid : IsWorld (saved_world u) = subst IsWorld is (switch_valid w keeps.valid whole) in
    let kept = keeps_saved u (record f { meta = content_switched f.meta }) g.check keeps.not_worn valid content_is (omega (arith, number, keeps.number_is)) keeps.recent_is keeps.open_leaves keeps.others in
    subst (λ (v : World). Holds v g host) (sym is) (record {
      keeps = subst (Keeps (saved_world u)) (sym same) kept;
      stored = subst (λ (levels : List Lists). IsStored (next_view u) (content_now u) (kept_now u) (bases_of w) levels (file_of u.ordinals (newest u.ordinals)) host) (sym (ap (λ (t : Trees). t.levels) same))
          (subst (λ (c : Content). IsStored (view_behind w.last c (kept_now u)) c (kept_now u) (bases_of w) f.levels (file_of u.ordinals (newest u.ordinals)) host) content_is stored);
    })

-- ---- Worn stores

-- what a forest tells of its world once that is worn
pub told_of : (w : World) (f : Trees) (s : Stop) → Keeps w f → s ≡ Worn (newest f.meta.ordinals) (newest_fill f.meta.ordinals) f.check.number → IsWornBy (worn_world w) s
told_of w f s keeps is = told_here (worn_world w) f.meta.ordinals f.check.number s refl (ap (λ (c : Content). c.ordinals) keeps.content_is) keeps.number_is is

-- what is told where no view can be taken
abbrev pub IsLastTold : Trees → Stop → Type 0
IsLastTold f s = (f.check.number ≡ 2 ^ 64 - 1) × (s ≡ Worn (newest f.meta.ordinals) (newest_fill f.meta.ordinals) f.check.number)

pub view_told : (w : World) (f : Trees) (s : Stop) → Keeps w f → IsLastTold f s → IsWornBy (after_view w) s
view_told w f s keeps told = subst (λ (u : World). IsWornBy u s) (sym (after_last w (sym keeps.number_is ∙ told.0))) (told_of w f s keeps told.1)

-- ---- Calls

four_ok : {T E A B C D F : Type 0} (r : Result T E) → OnOk r A → OnOk r B → OnOk r C → OnOk r D → (A → B → C → D → F) → OnOk r F
four_ok (Ok x) a b c d follows = follows a b c d
four_ok (Err e) a b c d follows = tt

-- a view that was begun
abbrev pub begun : Saving → Content → ℕ → Saving
begun check c file = record check { pending = true; number = check.number + 1; bytes = frame_bytes (frame_for (check.number + 1) c); file = file }

-- what is said while a view is finished, and once it is
abbrev pub Finishing : HostState → HostState → Saving → Type 0
Finishing old new s = (before : Option Slot) (c : Content) → Rests s.gate.slot before old → IsMeta c → c.limits.slot ≡ s.gate.slot → s.bytes ≡ frame_bytes (frame_for s.number c)
    → DiskPasses (IsSaving s.gate.slot s.file before (frame_for s.number c) old) old new

abbrev pub Finished : HostState → HostState → Saving → Type 0
Finished old new s = (before : Option Slot) (c : Content) → Rests s.gate.slot before old → IsMeta c → c.limits.slot ≡ s.gate.slot → s.bytes ≡ frame_bytes (frame_for s.number c)
    → (left : Files) → LeavesNow new left → IsSavedOver s.file old left × HasNewest s.gate.slot (Some (frame_for s.number c)) left

module _ (last : View) (c : Content) (kept : List (List Leaf)) (bases : List ℕ) (levels : List Lists) (file : ℕ) (check s : Saving) (old new : HostState) (stored : IsStored last c kept bases levels file old) (number : last.number ≡ check.number)
    (rules : IsMeta c) (slot : check.gate.slot ≡ c.limits.slot) (is : s ≡ begun check c file) where
  rests_before : Rests check.gate.slot (Some (frame_for last.number last.content)) old
  rests_before = subst (λ (n : ℕ). Rests n (Some (frame_for last.number last.content)) old) (sym slot) (last_rests last c kept bases levels file old stored)

  pub finishing_leaves : Finishing old new s → DiskPasses (LeavesSaved last (view_behind last c kept)) old new
  finishing_leaves finishing =
      let run = subst (Finishing old new) is finishing (Some (frame_for last.number last.content)) c rests_before rules (sym slot) refl in
      let same = subst (λ (n : ℕ). DiskPasses (IsSaving n file (Some (frame_for last.number last.content)) (frame_for (check.number + 1) c) old) old new) slot run in
      let now = subst (λ (n : ℕ). DiskPasses (IsSaving c.limits.slot file (Some (frame_for last.number last.content)) (frame_for (n + 1) c) old) old new) (sym number) same in
      disk_weaker now (saving_leaves last c kept bases levels file old stored rules)

  pub finished_stored : (next : ℕ) → SameElsewhere old.files new.files → Finished old new s → IsStored (view_behind last c kept) c kept bases levels next new
  finished_stored next elsewhere finished =
      let saved = subst (Finished old new) is finished (Some (frame_for last.number last.content)) c rests_before rules (sym slot) refl in
      stored_next last c kept bases levels file old stored rules next new elsewhere (λ disk left. (
        (saved disk left).0,
        subst (λ (k : ℕ). HasNewest c.limits.slot (Some (frame_for (k + 1) c)) disk) (sym number) (subst (λ (n : ℕ). HasNewest n (Some (frame_for (check.number + 1) c)) disk) slot (saved disk left).1),
      ))

-- what is said of a view that is saved
abbrev pub SavesTo : Content → ℕ → ℕ → HostState → HostState → Type 0
SavesTo c file number old new = (last : View) (kept : List (List Leaf)) (bases : List ℕ) (levels : List Lists) (next : ℕ) → IsStored last c kept bases levels file old → last.number ≡ number → IsStored (view_behind last c kept) c kept bases levels next new

abbrev pub Saves : {T E : Type 0} → Result T E → Content → ℕ → ℕ → HostState → HostState → Type 0
Saves r c file number old new = (last : View) (kept : List (List Leaf)) (bases : List ℕ) (levels : List Lists) (next : ℕ) → IsStored last c kept bases levels file old → last.number ≡ number → OnOk r (IsStored (view_behind last c kept) c kept bases levels next new)

abbrev pub SavingPasses : Content → ℕ → ℕ → HostState → HostState → Type 0
SavingPasses c file number old new = (last : View) (kept : List (List Leaf)) (bases : List ℕ) (levels : List Lists) → IsStored last c kept bases levels file old → last.number ≡ number → DiskPasses (LeavesSaved last (view_behind last c kept)) old new

module _ (w : World) (f : Trees) (file : ℕ) (old new : HostState) (holds : Holds w f old) (file_is : file ≡ file_of f.meta.ordinals (newest f.meta.ordinals)) where
  pub stored_here : IsStored w.last f.meta (kept_now w) (bases_of w) f.levels file old
  stored_here = subst (λ (k : ℕ). IsStored w.last f.meta (kept_now w) (bases_of w) f.levels k old) (sym file_is)
      (subst (λ (c : Content). IsStored w.last c (kept_now w) (bases_of w) f.levels (file_of c.ordinals (newest c.ordinals)) old) (sym holds.keeps.content_is) holds.stored)

  pub view_holds : {T E : Type 0} (r : Result T E) (g : Trees) → OnOk r (g ≡ record f { check = g.check; since = 0 }) → OnOk r (g.check.number ≡ f.check.number + 1) → OnOk r (f.check.number < 2 ^ 64 - 1)
      → Saves r f.meta file f.check.number old new → OnOk r (Holds (after_view w) g new)
  view_holds r g same number below saves =
      four_ok r same number below (saves w.last (kept_now w) (bases_of w) f.levels (file_of w.ordinals (newest w.ordinals)) stored_here (sym holds.keeps.number_is)) (λ is next least stored.
      holds_view w f g new holds.keeps (omega (arith, holds.keeps.number_is, least)) is next stored)

  pub view_leaves : f.check.number < 2 ^ 64 - 1 → SavingPasses f.meta file f.check.number old new → DiskPasses (LeavesView w (after_view w)) old new
  view_leaves least run = view_passes w f.meta old new (omega (arith, holds.keeps.number_is, least)) holds.keeps.content_is (run w.last (kept_now w) (bases_of w) f.levels stored_here (sym holds.keeps.number_is))

  module _ (rules : IsMeta f.meta) (below : newest f.meta.ordinals < 2 ^ 32 - 1) (h : Trees) (begun_is : h ≡ record f { meta = content_switched f.meta }) where
    ordinals_are : f.meta.ordinals ≡ w.ordinals
    ordinals_are = ap (λ (c : Content). c.ordinals) holds.keeps.content_is

    kept_is : kept_from (switched f.meta.ordinals).lo (kept_now w) ≡ kept_now (with_ordinal w)
    kept_is = ap (λ (o : Ordinals). kept_from (switched o).lo (kept_now w)) ordinals_are ∙ sym (kept_switched w)

    world_below : newest w.ordinals < 2 ^ 32 - 1
    world_below = subst (λ (o : Ordinals). newest o < 2 ^ 32 - 1) ordinals_are below

    stored_begun : IsStored w.last h.meta (kept_now (with_ordinal w)) (bases_of w) f.levels file old
    stored_begun = subst (λ (t : Trees). IsStored w.last t.meta (kept_now (with_ordinal w)) (bases_of w) f.levels file old) (sym begun_is)
        (subst (λ (kept : List (List Leaf)). IsStored w.last (content_switched f.meta) kept (bases_of w) f.levels file old) kept_is (stored_switched w.last f.meta (kept_now w) (bases_of w) f.levels file old stored_here rules))

    check_is : h.check.number ≡ f.check.number
    check_is = ap (λ (t : Trees). t.check.number) begun_is

    number_is : w.last.number ≡ h.check.number
    number_is = sym holds.keeps.number_is ∙ sym check_is

    meta_is : h.meta ≡ content_switched f.meta
    meta_is = ap (λ (t : Trees). t.meta) begun_is

    pub switch_holds : {T E : Type 0} (r : Result T E) (g : Trees) → OnOk r (g ≡ record h { check = g.check; since = 0 }) → OnOk r (g.check.number ≡ h.check.number + 1) → OnOk r (h.check.number < 2 ^ 64 - 1)
        → Saves r h.meta file h.check.number old new → OnOk r (Holds (switch w) g new)
    switch_holds r g same number least saves =
        let next : ℕ = file_of (switched w.ordinals) (newest (switched w.ordinals)) in
        four_ok r same number least (saves w.last (kept_now (with_ordinal w)) (bases_of w) f.levels next stored_begun number_is) (λ is behind small stored.
        holds_switch w f g new holds.keeps world_below (omega (arith, number_is, small))
        (is ∙ ap (λ (t : Trees). record t { check = g.check; since = 0 }) begun_is) (omega (arith, behind, check_is))
        (subst (λ (c : Content). IsStored (view_behind w.last c (kept_now (with_ordinal w))) c (kept_now (with_ordinal w)) (bases_of w) f.levels next new) meta_is stored))

    pub switch_leaves : h.check.number < 2 ^ 64 - 1 → SavingPasses h.meta file h.check.number old new → DiskPasses (LeavesView w (switch w)) old new
    switch_leaves least run =
        switch_passes w h.meta old new world_below (omega (arith, number_is, least)) (meta_is ∙ ap content_switched holds.keeps.content_is) (run w.last (kept_now (with_ordinal w)) (bases_of w) f.levels stored_begun number_is)

-- the forest stays one where an ordinal begins
pub trees_switched : (c : Content) (o : Ordinals) (pool : Frames) (frames : List (Option Frame)) (levels : List Lists) (check : Saving) (since : ℕ) → AreTrees (trees c pool frames levels check since) → newest c.ordinals < 2 ^ 32 - 1 → o ≡ switched c.ordinals
    → AreTrees (trees (record c { ordinals = o }) pool frames levels check since)
trees_switched c o pool frames levels check since are below is = subst (λ (p : Ordinals). AreTrees (trees (record c { ordinals = p }) pool frames levels check since)) (sym is) (record {
  rules_are = switched_lawful c are.rules_are below;
  room = are.room;
  slot_is = are.slot_is;
  count = are.count;
  pooled = are.pooled;
  lawful = are.lawful;
  since = are.since;
})

-- the newest ordinal stands in the file of a volume
pub newest_among : (c : Content) → IsMeta c → file_of c.ordinals (newest c.ordinals) ≤ c.limits.volumes
newest_among c rules = omega (arith, mod_below (newest c.ordinals) c.ordinals.volumes (omega (arith, rules.volumes, rules.limits_are.volumes_least)), rules.volumes)

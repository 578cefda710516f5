-- Why the newest record can't be opened.
use Rattle.std.proofs.Common.{◌≡◌, ◌⊎◌, inl, inr, ℕ, Result, Err, ◌+◌, ◌*◌, ◌%◌, ◌≤◌, Bool, true, false, List, [], ◌∷◌, length, map, slice_index, refl, sym, ◌∙◌, ap, subst, arith, Option, Some, None}
use Rattle.std.proofs.lemmas.Bool.{cases_lt}
use Rattle.std.proofs.lemmas.List.{length-map}
use Rattle.std.proofs.Math.ListN.{get_or-map}
use Rattle.ak_base.specs.declared.limits.Limits.{Limits}
use Rattle.ak_base.specs.declared.stop.Stop.{Stop}
use Rattle.ak_base.specs.declared.stop.Stop.TheVariants.{Usage, Damaged, Disk, Port, Memory, Budget, Worn, NoStore, Exists}
use Rattle.ak_host.specs.Files.{Files, file_at}
use Rattle.ak_host.specs.Moments.{HostState}
use Rattle.ak_gate.specs.Opening.{HasSlots, IsCause, slot_size}
use Rattle.ak_gate.specs.Fits.{Knows}
use Rattle.ak_gate.specs.View.{View}
use Rattle.ak_gate.specs.Slots.{Frame, frame_of, body_at, body_index, gate_at, is_open, newest, newest_in, newest_of, current}
use Rattle.ak_gate.specs.declared.half.Half.TheVariants.{First, Second}
use Rattle.ak_gate.proofs.Found.{length_file}
use Rattle.ak_meta.specs.Contents.{Content, Spells}
use Rattle.ak_record.specs.Records.{HasNewest, IsRecord}
use Rattle.ak_record.specs.Stops.{AreShut, IsNoStore, IsOpenStop, IsShortAt}
use Rattle.ak_record.specs.Volumes.{AreThere, IsShort}
use Rattle.ak_record.proofs.Frames.{one_spelled}

abbrev AreSized : HostState → Type 0
AreSized host = map length host.files ≡ host.sizes

first_size : (host : HostState) → AreSized host → slice_index host.sizes 0 ≡ length (file_at host.files 0)
first_size host sized = ap (λ (sizes : List ℕ). slice_index sizes 0) (sym sized) ∙ length_file host.files

size_at : (host : HostState) (file : ℕ) → AreSized host → slice_index host.sizes file ≡ length (file_at host.files file)
size_at host file sized = ap (λ (sizes : List ℕ). slice_index sizes file) (sym sized) ∙ get_or-map length host.files file []

-- file 0 has gates and bodies, or there is no store
slots_or_none : (told : Type 0) (host : HostState) → (told → AreSized host) → HasSlots host ⊎ ((HasSlots host → ⊥) × (told → IsNoStore host.files))
slots_or_none told host sized = elim (cases_lt 0 (length host.sizes)) [
  | inr none ↦ inr (λ slots. absurd (omega (arith, slots.there)), λ t. inl (omega (arith, ap length (sized t), length-map host.files length)))
  | inl there ↦ elim (cases_lt (slice_index host.sizes 0) 4) [
    | inl few ↦ inr (λ slots. absurd (omega (arith, slots.least)), λ t. inr (inr (inl (omega (arith, few, first_size host (sized t))))))
    | inr least ↦ elim (cases_lt 0 (slice_index host.sizes 0 % 2)) [
      | inl odd ↦ inr (λ slots. absurd (omega (arith, slots.even)), λ t. inr (inl (ap (λ n. n % 2) (sym (first_size host (sized t))) ∙ omega (arith, odd))))
      | inr even ↦ inl (record { there = there; even = omega (arith, even); least = least })
    ]
  ]
]

-- where file 0 has gates and bodies
cause_stop : (told : Type 0) (old new : HostState) → (told → AreSized old) → HasSlots old → (stop : Stop) → IsCause (slot_size old) told old new stop → IsOpenStop told old new stop
cause_stop told old new sized slots NoStore shut = λ t. inr (inr (inr (shut t)))
cause_stop told old new sized slots (Damaged file block) (zero, (half, at, bad, first)) = λ t. inl (
  zero,
  record {
    slot = slot_size old;
    some = omega (arith, slots.least);
    blocks = omega (arith, first_size old (sized t), slots.even, slots.least);
    half = half;
    at = at;
    opened = (bad t).opened;
    damaged = λ is_record. is_record.good (bad t).bad;
  },
)
cause_stop told old new sized slots Disk rose = rose
cause_stop told old new sized slots Memory why = tt
cause_stop told old new sized slots Usage why = elim why [ ]
cause_stop told old new sized slots Port why = elim why [ ]
cause_stop told old new sized slots Budget why = elim why [ ]
cause_stop told old new sized slots (Worn ordinal fill number) why = elim why [ ]
cause_stop told old new sized slots Exists why = elim why [ ]

abbrev failed : (A : Type 0) → Stop → Result A Stop
failed A stop = Err stop

pub err_same : {A : Type 0} (a b : Stop) → failed A a ≡ failed A b → a ≡ b
err_same a b same = cc

-- where no gate could be opened
pub open_stop : (told : Type 0) (old new : HostState) → (told → AreSized old) → (stop : Stop) → ((HasSlots old → ⊥) → stop ≡ NoStore)
    → (HasSlots old → IsCause (slot_size old) told old new stop) → IsOpenStop told old new stop
open_stop told old new sized stop none cause = elim (slots_or_none told old sized) [
  | inl slots ↦ cause_stop told old new sized slots stop (cause slots)
  | inr without ↦ subst (IsOpenStop told old new) (sym (none without.0)) without.1
]

some_same : {A : Type 0} (x y : A) → Some x ≡ Some y → x ≡ y
some_same x y same = cc

-- the frame in the body of an open gate is the newest record
wins_frame : (opened : Bool) (found : Option Frame) (here frame : Frame) → opened ≡ true → found ≡ current opened here → found ≡ Some frame → here ≡ frame
wins_frame true found here frame is wins newest_is = some_same here frame (sym wins ∙ newest_is)
wins_frame false found here frame is wins newest_is = cc (is)

-- the newest body is no record where the payload of the newest record spells no content with this size of a slot
no_record : (view : View) (disk : Files) (frame : Frame) → Knows view (file_at disk 0) → view.is_open ≡ true → newest view.slot disk ≡ Some frame
    → ((content : Content) → Spells frame.payload content → content.limits.slot ≡ view.slot → ⊥)
    → IsRecord view.slot (body_at view.slot view.newest (file_at disk 0)) → ⊥
no_record view disk frame knows opened newest_is none is_record =
    let here : frame_of (body_at view.slot view.newest (file_at disk 0)) ≡ frame = wins_frame view.is_open (newest view.slot disk) _ frame opened knows.wins newest_is in
    none is_record.content (subst (λ (f : Frame). Spells f.payload is_record.content) here is_record.spells) is_record.slot_is

-- where the newest record could not be read
pub content_stop : (told : Type 0) (old new : HostState) (view : View) (frame : Frame) → (told → Knows view (file_at old.files 0)) → view.is_open ≡ true → 1 ≤ view.slot
    → (told → newest view.slot old.files ≡ Some frame) → (bytes : List ℕ) → bytes ≡ frame.payload → (stop : Stop)
    → (stop ≡ Memory) ⊎ ((stop ≡ Damaged 0 (body_index view.slot view.newest)) × ((content : Content) → Spells bytes content → content.limits.slot ≡ view.slot → ⊥))
    → IsOpenStop told old new stop
content_stop told old new view frame knows opened some newest_is bytes payload stop (inl memory) = subst (IsOpenStop told old new) (sym memory) tt
content_stop told old new view frame knows opened some newest_is bytes payload stop (inr (damaged, none)) = subst (IsOpenStop told old new) (sym damaged) (λ t. inl (
  refl,
  record {
    slot = view.slot;
    some = some;
    blocks = (knows t).blocks;
    half = view.newest;
    at = refl;
    opened = (knows t).own ∙ opened;
    damaged = no_record view old.files frame (knows t) opened (newest_is t) (λ content spells. none content (subst (λ (b : List ℕ). Spells b content) (sym payload) spells));
  },
))

-- where the file of a volume has too few blocks
pub short_stop : (told : Type 0) (old new : HostState) (slot : ℕ) (frame : Frame) (bytes : List ℕ) (content : Content) (limits : Limits) (file blocks : ℕ) → (told → AreSized old)
    → new.sizes ≡ old.sizes → (told → length (file_at old.files 0) ≡ 2 + 2 * slot) → (told → newest slot old.files ≡ Some frame) → bytes ≡ frame.payload → Spells bytes content → limits ≡ content.limits
    → IsShort limits new.sizes file blocks → IsOpenStop told old new (Damaged file blocks)
short_stop told old new slot frame bytes content limits file blocks sized same long newest_is payload spells limits_are short = λ t. inr (record {
  slot = slot;
  blocks = long t;
  newest_frame = frame;
  newest_is = newest_is t;
  content = content;
  spells = subst (λ (b : List ℕ). Spells b content) payload spells;
  volume = short.volume;
  among = omega (arith, short.among, ap (λ (l : Limits). l.volumes) limits_are);
  has = sym (size_at old file (sized t)) ∙ ap (λ (sizes : List ℕ). slice_index sizes file) (sym same) ∙ short.has;
  short = omega (arith, short.short, ap (λ (l : Limits). l.blocks) limits_are);
  first = λ other from before. omega (arith, short.first other from before, size_at old other (sized t), ap (λ (sizes : List ℕ). slice_index sizes other) same, ap (λ (l : Limits). l.blocks) limits_are);
})

-- where the files of the volumes are there, none is short
pub not_short : (old new : HostState) (slot : ℕ) (frame : Frame) (bytes : List ℕ) (content : Content) (limits : Limits) → AreSized old → new.sizes ≡ old.sizes
    → length (file_at old.files 0) ≡ 2 + 2 * slot → newest slot old.files ≡ Some frame → bytes ≡ frame.payload → Spells bytes content → limits ≡ content.limits
    → AreThere limits new.sizes → (file block : ℕ) → IsShortAt file block old.files → ⊥
not_short old new slot frame bytes content limits sized same long newest_is payload spells limits_are there file block short =
    let slots : short.slot ≡ slot = omega (arith, short.blocks, long) in
    let found : newest slot old.files ≡ Some short.newest_frame = ap (λ (s : ℕ). newest s old.files) (sym slots) ∙ short.newest_is in
    let frames : short.newest_frame ≡ frame = some_same _ _ (sym found ∙ newest_is) in
    let theirs : Spells frame.payload short.content = subst (λ (f : Frame). Spells f.payload short.content) frames short.spells in
    let limits_same : short.content.limits ≡ limits = ap (λ (c : Content). c.limits) (one_spelled frame.payload short.content content theirs (subst (λ (b : List ℕ). Spells b content) payload spells)) ∙ sym limits_are in
    let among : file ≤ limits.volumes = omega (arith, short.among, ap (λ (l : Limits). l.volumes) limits_same) in
    absurd (omega (arith, there.1 file short.volume among, short.short, short.has, ap (λ (l : Limits). l.blocks) limits_same, size_at old file sized, ap (λ (sizes : List ℕ). slice_index sizes file) same))

not_open : (b : Bool) → b ≡ false → b ≡ true → ⊥
not_open b is_false is_true = cc

-- a gate that is open
pub no_store_not : (view : View) (disk : Files) → Knows view (file_at disk 0) → view.is_open ≡ true → 1 ≤ view.slot → IsNoStore disk → ⊥
no_store_not view [] knows opened some none = absurd (omega (arith, knows.blocks))
no_store_not view (file ∷ disk) knows opened some (inl none) = absurd (omega arith)
no_store_not view (file ∷ disk) knows opened some (inr (inl odd)) = absurd (omega (arith, knows.blocks))
no_store_not view (file ∷ disk) knows opened some (inr (inr (inl few))) = absurd (omega (arith, knows.blocks))
no_store_not view (file ∷ disk) knows opened some (inr (inr (inr shut))) = not_open _ (shut view.newest) (knows.own ∙ opened)

none_newest : (slot : ℕ) (file : List (List ℕ)) → is_open (gate_at First file) ≡ false → is_open (gate_at Second file) ≡ false → newest_in slot file ≡ None
unfolding newest_in
none_newest slot file first second = λ i. newest_of (first i) (second i) (frame_of (body_at slot First file)) (frame_of (body_at slot Second file))

shut_not : (slot : ℕ) (frame : Frame) (disk : Files) → newest slot disk ≡ Some frame → AreShut disk → ⊥
shut_not slot frame disk newest_is shut = let none = none_newest slot (file_at disk 0) (shut First) (shut Second) in cc (none, newest_is)

-- a newest record
pub newest_is_store : (slot : ℕ) (frame : Frame) (disk : Files) → 1 ≤ slot → HasNewest slot (Some frame) disk → IsNoStore disk → ⊥
newest_is_store slot frame [] some has none = absurd (omega (arith, has.blocks))
newest_is_store slot frame (file ∷ disk) some has (inl none) = absurd (omega arith)
newest_is_store slot frame (file ∷ disk) some has (inr (inl odd)) = absurd (omega (arith, has.blocks))
newest_is_store slot frame (file ∷ disk) some has (inr (inr (inl few))) = absurd (omega (arith, has.blocks))
newest_is_store slot frame (file ∷ disk) some has (inr (inr (inr shut))) = shut_not slot frame (file ∷ disk) has.newest_is shut

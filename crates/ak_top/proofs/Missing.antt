-- A disk without a store: none of it is damaged.
use Rattle.std.proofs.Common.{◌≡◌, ◌⊎◌, inl, inr, ℕ, Bool, true, false, List, [], ◌∷◌, length, Option, Some, None, refl, sym, ap, subst, arith}
use Rattle.ak_base.specs.declared.stop.Stop.{Stop}
use Rattle.ak_base.specs.declared.stop.Stop.TheVariants.{Usage, Damaged, Disk, Port, Memory, Budget, Worn, NoStore, Exists}
use Rattle.ak_gate.specs.declared.half.Half.TheVariants.{First, Second}
use Rattle.ak_gate.specs.Slots.{Frame, newest, newest_in, newest_of, frame_of, body_at, gate_at, is_open}
use Rattle.ak_host.specs.Files.{Files, file_at}
use Rattle.ak_host.specs.Moments.{HostState}
use Rattle.ak_meta.proofs.Contents.{size_spelled}
use Rattle.ak_meta.specs.Contents.{Content}
use Rattle.ak_node.specs.Opening.{IsDamagedByFound, IsFoundRecord, IsNodeOpenStop}
use Rattle.ak_record.specs.Records.{frame_for}
use Rattle.ak_record.specs.Stops.{IsNoStore, IsDamagedAt, IsShortAt, IsDamaged, AreShut}
use Rattle.ak_top.specs.Ends.{IsMissing}

not_open : (b : Bool) → b ≡ true → b ≡ false → ⊥
not_open b is_true is_false = cc

body_not : (block : ℕ) (disk : Files) → IsNoStore disk → IsDamagedAt block disk → ⊥
body_not block [] none d = absurd (omega (arith, d.blocks))
body_not block (file ∷ disk) (inl none) d = absurd (omega arith)
body_not block (file ∷ disk) (inr (inl odd)) d = absurd (omega (arith, d.blocks))
body_not block (file ∷ disk) (inr (inr (inl few))) d = absurd (omega (arith, d.blocks, d.some))
body_not block (file ∷ disk) (inr (inr (inr shut))) d = not_open _ d.opened (shut d.half)

-- with no gate open there is no newest record
none_newest : (slot : ℕ) (file : List (List ℕ)) → is_open (gate_at First file) ≡ false → is_open (gate_at Second file) ≡ false → newest_in slot file ≡ None
unfolding newest_in
none_newest slot file first second = λ i. newest_of (first i) (second i) (frame_of (body_at slot First file)) (frame_of (body_at slot Second file))

shut_not : (slot : ℕ) (frame : Frame) (disk : Files) → newest slot disk ≡ Some frame → AreShut disk → ⊥
shut_not slot frame disk newest_is shut = let none = none_newest slot (file_at disk 0) (shut First) (shut Second) in cc (none, newest_is)

-- slots of no block hold no bytes
none_by : (a b : Bool) (frame : Frame) → newest_of a b (frame_of []) (frame_of []) ≡ Some frame → Some frame ≡ Some (frame_of [])
none_by true true frame is = sym is
none_by true false frame is = sym is
none_by false true frame is = sym is
none_by false false frame is = cc

size_by : Option Frame → ℕ
size_by None = 0
size_by (Some f) = length f.payload

none_held : (file : List (List ℕ)) (frame : Frame) → newest_in 0 file ≡ Some frame → length frame.payload ≡ 0
unfolding newest_in size_by
none_held file frame is = ap size_by (none_by (is_open (gate_at First file)) (is_open (gate_at Second file)) frame is)

small_not : (file block : ℕ) (disk : Files) (short : IsShortAt file block disk) → short.slot ≡ 0 → ⊥
small_not file block disk short none =
    let empty : length short.newest_frame.payload ≡ 0 = none_held (file_at disk 0) short.newest_frame (subst (λ (k : ℕ). newest k disk ≡ Some short.newest_frame) none short.newest_is) in
    absurd (omega (arith, empty, size_spelled short.newest_frame.payload short.content short.spells))

short_not : (file block : ℕ) (disk : Files) → IsNoStore disk → IsShortAt file block disk → ⊥
short_not file block [] none short = absurd (omega (arith, short.blocks))
short_not file block (first ∷ disk) (inl none) short = absurd (omega arith)
short_not file block (first ∷ disk) (inr (inl odd)) short = absurd (omega (arith, short.blocks))
short_not file block (first ∷ disk) (inr (inr (inl few))) short = small_not file block (first ∷ disk) short (omega (arith, short.blocks, few))
short_not file block (first ∷ disk) (inr (inr (inr shut))) short = shut_not short.slot short.newest_frame (first ∷ disk) short.newest_is shut

-- there is no record either
found_not : (number : ℕ) (c : Content) (disk : Files) → IsNoStore disk → IsFoundRecord number c disk → ⊥
found_not number c [] none found = absurd (omega (arith, found.blocks))
found_not number c (file ∷ disk) (inl none) found = absurd (omega arith)
found_not number c (file ∷ disk) (inr (inl odd)) found = absurd (omega (arith, found.blocks))
found_not number c (file ∷ disk) (inr (inr (inl few))) found = absurd (omega (arith, found.blocks, found.rules_are.limits_are.slot_least))
found_not number c (file ∷ disk) (inr (inr (inr shut))) found = shut_not c.limits.slot (frame_for number c) (file ∷ disk) found.newest_is shut

pub open_missing : (told : Type 0) → told → (old new : HostState) → IsNoStore old.files → (s : Stop) → IsNodeOpenStop told old new s → IsMissing s
open_missing told t old new none NoStore why = inl refl
open_missing told t old new none (Damaged file block) why = absurd (damage_not (why t))
  where
    damage_not : IsDamaged file block old.files ⊎ IsDamagedByFound old new file block → ⊥
    damage_not (inl (inl at)) = body_not block old.files none at.1
    damage_not (inl (inr short)) = short_not file block old.files none short
    damage_not (inr leaf) = found_not leaf.0 leaf.1 old.files none leaf.2
open_missing told t old new none Disk why = inr (inl refl)
open_missing told t old new none Memory why = inr (inr refl)
open_missing told t old new none Usage why = absurd why
open_missing told t old new none Port why = absurd why
open_missing told t old new none Budget why = absurd why
open_missing told t old new none (Worn ordinal fill number) why = absurd why
open_missing told t old new none Exists why = absurd why

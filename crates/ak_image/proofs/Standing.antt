-- For which view an image stands.
use Rattle.std.proofs.Common.{◌≡◌, ◌↔◌, ℕ, suc, ◌≤◌, List, [], ◌∷◌, length, map, true, Some, get_or, refl, sym, ◌∙◌, ap, subst, arith}
use Rattle.std.proofs.lemmas.Option.{same_Some}
use Rattle.std.proofs.Math.ListN.{get_or-map}
use Rattle.ak_gate.specs.Slots.{Frame, newest, newest_in, gate_at, body_at, is_open}
use Rattle.ak_gate.specs.declared.half.Half.{Half}
use Rattle.ak_host.specs.Files.{Files, file_at}
use Rattle.ak_image.specs.Blocks.{Seen, seen_in, HasVolumes}
use Rattle.ak_image.specs.Chains.{IsChain}
use Rattle.ak_image.specs.Images.{AreScans, AreGrown, AreSound, IsSound, StandsFor, AreAlike}
use Rattle.ak_image.specs.Laid.{AreLaid, IsLaid}
use Rattle.ak_image.specs.Trees.{IsTreeOf, AreTreed}
use Rattle.ak_volumes.specs.Ordinals.{Ordinals}
use Rattle.ak_meta.proofs.Contents.{one_meta}
use Rattle.ak_meta.specs.Contents.{Content, IsMeta}
use Rattle.ak_meta.specs.declared.meta.SeriesMeta.{SeriesMeta}
use Rattle.ak_record.specs.Records.{frame_for, IsRecord, HasNewest}
use Rattle.ak_world.specs.Leaves.{Leaf}
use Rattle.ak_world.specs.Views.{View}
use Rattle.ak_image.proofs.Agreeing.{Same, sound_same, scans_same}
use Rattle.ak_image.proofs.Places.{InRows, live_rows}
use Rattle.ak_image.proofs.Scanning.{one_scan, one_scans}

-- a disk has one newest record, of one number and one content
pub record OneRecord (m n : ℕ) (c d : Content) : Type 0 where
  pub number : m ≡ n
  pub content : c ≡ d

pub one_record : (disk : Files) (m n : ℕ) (c d : Content) → IsMeta c → IsMeta d → HasNewest c.limits.slot (Some (frame_for m c)) disk → HasNewest d.limits.slot (Some (frame_for n d)) disk → OneRecord m n c d
one_record disk m n c d is is' one two =
    let slot : c.limits.slot ≡ d.limits.slot = omega (arith, one.blocks, two.blocks) in
    let frames : Some (frame_for m c) ≡ Some (frame_for n d) = sym one.newest_is ∙ ap (λ (s : ℕ). newest s disk) slot ∙ two.newest_is in
    let same : frame_for m c ≡ frame_for n d = same_Some (frame_for m c) (frame_for n d) frames in
    record { number = ap (λ (f : Frame). f.number) same; content = one_meta c d is is' (ap (λ (f : Frame). f.payload) same) }

-- the same file 0 has the same newest record
pub newest_same : (disk other : Files) (slot m : ℕ) (c : Content) → file_at disk 0 ≡ file_at other 0 → HasNewest slot (Some (frame_for m c)) disk → HasNewest slot (Some (frame_for m c)) other
newest_same disk other slot m c same is = record {
  blocks = ap length (sym same) ∙ is.blocks;
  newest_is = ap (newest_in slot) (sym same) ∙ is.newest_is;
  records = subst (λ (file : List (List ℕ)). (half : Half) → is_open (gate_at half file) ≡ true → IsRecord slot (body_at slot half file)) same is.records;
}

-- files of the same sizes
pub size_same : (disk other : Files) → map length disk ≡ map length other → (file : ℕ) → length (file_at disk file) ≡ length (file_at other file)
size_same disk other same file = sym (get_or-map length disk file []) ∙ ap (λ (sizes : List ℕ). get_or sizes file 0) same ∙ get_or-map length other file []

pub volumes_same : (disk other : Files) (volumes blocks : ℕ) → map length disk ≡ map length other → HasVolumes volumes blocks disk → HasVolumes volumes blocks other
volumes_same disk other volumes blocks same has = λ file from to. subst (λ (n : ℕ). blocks ≤ n) (size_same disk other same file) (has file from to)

-- the leaves that are laid out are those of the scans, and with the trees over them they are sound
pub laid_scans : (seen : Seen) (lo : ℕ) (fills : List ℕ) (series : ℕ) (all : List SeriesMeta) (kept : List (List Leaf)) → AreLaid seen lo fills series all kept → AreScans seen lo fills series all kept
laid_scans seen lo fills series [] kept are = are
laid_scans seen lo fills series (known ∷ all) kept are = (are.0, are.1, are.2, are.3, laid_scans seen lo fills (suc series) all are.1 are.5)

pub laid_grown : (o : Ordinals) (seen : Seen) (series : ℕ) (all : List SeriesMeta) (kept : List (List Leaf)) → AreLaid seen o.lo o.fills series all kept → AreTreed o seen series all kept → AreGrown o seen series all
laid_grown o seen series [] kept are trees = tt
laid_grown o seen series (known ∷ all) kept are trees =
    let both : AreTreed o seen series (known ∷ all) (are.0 ∷ are.1) = subst (AreTreed o seen series (known ∷ all)) are.2 trees in
    ((are.0, are.3, are.4, both.0), laid_grown o seen (suc series) all are.1 are.5 both.1)

-- what is sound is scanned
pub grown_scanned : (o : Ordinals) (seen : Seen) (series : ℕ) (all : List SeriesMeta) → AreGrown o seen series all → (kept : List (List Leaf)) × AreScans seen o.lo o.fills series all kept
grown_scanned o seen series [] are = ([], refl)
grown_scanned o seen series (known ∷ all) are =
    let others = grown_scanned o seen (suc series) all are.1 in
    (are.0.0 ∷ others.0, (are.0.0, others.0, refl, are.0.1, others.1))

-- by the record of its content, a view's number is told and its leaves are the scans
pub one_view : (disk : Files) (v w : View) → StandsFor v disk → StandsFor w disk → v ≡ w
one_view disk v w one two =
    let same = one_record disk v.number w.number v.content w.content one.rules_are two.rules_are one.newest two.newest in
    let scans = subst (λ (c : Content). AreScans (seen_in c.limits.volumes disk) c.ordinals.lo c.ordinals.fills 0 c.series v.kept) same.content one.scans in
    let kept : v.kept ≡ w.kept = one_scans (seen_in w.content.limits.volumes disk) w.content.ordinals.lo w.content.ordinals.fills 0 w.content.series v.kept w.kept scans two.scans in
    λ i. record { number = same.number i; content = same.content i; kept = kept i }

-- a view whose leaves are laid out
pub laid_image : (disk : Files) (view : View) → IsMeta view.content → HasNewest view.content.limits.slot (Some (frame_for view.number view.content)) disk
    → HasVolumes view.content.limits.volumes view.content.limits.blocks disk → IsLaid (seen_in view.content.limits.volumes disk) view.content view.kept → IsSound disk × StandsFor view disk
laid_image disk view is newest volumes laid =
    let c : Content = view.content in
    let seen : Seen = seen_in c.limits.volumes disk in (
      record {
        number = view.number;
        content = view.content;
        rules_are = is;
        newest = newest;
        volumes = volumes;
        blocks = record { rows = laid.rows; series = laid_grown c.ordinals seen 0 c.series view.kept laid.leaves laid.trees };
      },
      record { rules_are = is; newest = newest; scans = laid_scans seen c.ordinals.lo c.ordinals.fills 0 c.series view.kept laid.leaves },
    )

-- what is sound, and what the scans find
pub grown_laid : (o : Ordinals) (seen : Seen) (series : ℕ) (all : List SeriesMeta) (kept : List (List Leaf)) → AreGrown o seen series all → AreScans seen o.lo o.fills series all kept → AreLaid seen o.lo o.fills series all kept
grown_laid o seen series [] kept grown scans = scans
grown_laid o seen series (known ∷ all) kept grown scans =
    let same : grown.0.0 ≡ scans.0 = one_scan seen series o.lo o.fills grown.0.0 scans.0 grown.0.1 scans.3 in (
      scans.0,
      scans.1,
      scans.2,
      scans.3,
      subst (IsChain seen o.lo series known) same grown.0.2,
      grown_laid o seen (suc series) all scans.1 grown.1 scans.4,
    )

pub grown_treed : (o : Ordinals) (seen : Seen) (series : ℕ) (all : List SeriesMeta) (kept : List (List Leaf)) → AreGrown o seen series all → AreScans seen o.lo o.fills series all kept → AreTreed o seen series all kept
grown_treed o seen series [] kept grown scans = tt
grown_treed o seen series (known ∷ all) kept grown scans =
    let same : grown.0.0 ≡ scans.0 = one_scan seen series o.lo o.fills grown.0.0 scans.0 grown.0.1 scans.3 in
    subst (AreTreed o seen series (known ∷ all)) (sym scans.2) (subst (IsTreeOf o seen series known) same grown.0.3, grown_treed o seen (suc series) all scans.1 grown.1 scans.4)

pub sound_view : (disk : Files) → IsSound disk → (view : View) × StandsFor view disk
sound_view disk sound =
    let c : Content = sound.content in
    let scanned = grown_scanned c.ordinals (seen_in c.limits.volumes disk) 0 c.series sound.blocks.series in (
      record { number = sound.number; content = sound.content; kept = scanned.0 },
      record { rules_are = sound.rules_are; newest = sound.newest; scans = scanned.1 },
    )

-- what a sound image says of its newest record
pub record IsSoundBy (disk : Files) (c : Content) : Type 0 where
  pub volumes : HasVolumes c.limits.volumes c.limits.blocks disk
  pub blocks : AreSound (seen_in c.limits.volumes disk) c

pub sound_by : (disk : Files) (m : ℕ) (c : Content) → IsSound disk → IsMeta c → HasNewest c.limits.slot (Some (frame_for m c)) disk → IsSoundBy disk c
sound_by disk m c sound is newest =
    let same = one_record disk sound.number m sound.content c sound.rules_are is sound.newest newest in
    subst (IsSoundBy disk) same.content (record { volumes = sound.volumes; blocks = sound.blocks })

pub sound_laid : (disk : Files) (view : View) → IsSound disk → StandsFor view disk
    → HasVolumes view.content.limits.volumes view.content.limits.blocks disk × IsLaid (seen_in view.content.limits.volumes disk) view.content view.kept
sound_laid disk view sound stands =
    let c : Content = view.content in
    let by = sound_by disk view.number view.content sound stands.rules_are stands.newest in (
      by.volumes,
      record {
        rows = by.blocks.rows;
        leaves = grown_laid c.ordinals (seen_in c.limits.volumes disk) 0 c.series view.kept by.blocks.series stands.scans;
        trees = grown_treed c.ordinals (seen_in c.limits.volumes disk) 0 c.series view.kept by.blocks.series stands.scans;
      },
    )

-- images that are alike
pub alike_back : (disk other : Files) → AreAlike disk other → AreAlike other disk
alike_back disk other alike = record {
  first = sym alike.first;
  sizes = sym alike.sizes;
  live = λ number c is newest a lives. sym (alike.live number c is (newest_same other disk c.limits.slot number c (sym alike.first) newest) a lives);
}

alike_rows : (disk other : Files) (number : ℕ) (c : Content) → AreAlike disk other → IsMeta c → HasNewest c.limits.slot (Some (frame_for number c)) disk
    → InRows (Same (seen_in c.limits.volumes disk) (seen_in c.limits.volumes other)) c.ordinals.lo c.ordinals.fills
alike_rows disk other number c alike is newest =
    live_rows c.ordinals (Same (seen_in c.limits.volumes disk) (seen_in c.limits.volumes other)) is.ordinals_are (λ a lives. sym (alike.live number c is newest a lives))

pub sound_alike : (disk other : Files) → AreAlike disk other → IsSound disk → IsSound other
sound_alike disk other alike sound =
    let c : Content = sound.content in
    record {
      number = sound.number;
      content = sound.content;
      rules_are = sound.rules_are;
      newest = newest_same disk other c.limits.slot sound.number c alike.first sound.newest;
      volumes = volumes_same disk other c.limits.volumes c.limits.blocks alike.sizes sound.volumes;
      blocks = sound_same (seen_in c.limits.volumes disk) (seen_in c.limits.volumes other) c sound.rules_are.ordinals_are
          (λ a lives. sym (alike.live sound.number c sound.rules_are sound.newest a lives)) sound.blocks;
    }

pub stands_alike : (disk other : Files) (view : View) → AreAlike disk other → StandsFor view disk → StandsFor view other
stands_alike disk other view alike stands =
    let c : Content = view.content in
    record {
      rules_are = stands.rules_are;
      newest = newest_same disk other c.limits.slot view.number c alike.first stands.newest;
      scans = scans_same (seen_in c.limits.volumes disk) (seen_in c.limits.volumes other) c.ordinals.lo c.ordinals.fills
          (alike_rows disk other view.number c alike stands.rules_are stands.newest) 0 c.series view.kept stands.scans;
    }

pub sound_alike_both : (disk other : Files) → AreAlike disk other → IsSound disk ↔ IsSound other
sound_alike_both disk other alike = (sound_alike disk other alike, sound_alike other disk (alike_back disk other alike))

pub stands_alike_both : (disk other : Files) (view : View) → AreAlike disk other → StandsFor view disk ↔ StandsFor view other
stands_alike_both disk other view alike = (stands_alike disk other view alike, stands_alike other disk view (alike_back disk other alike))

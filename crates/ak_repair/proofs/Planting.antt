-- What waits of all series, one behind another.
use Rattle.std.proofs.Common.{◌≡◌, ◌⊎◌, inl, inr, ◌∙◌, ℕ, zero, suc, ◌+◌, ◌-◌, ◌/◌, ◌^◌, ◌<◌, ◌≤◌, Result, Ok, Err, List, [], ◌∷◌, ◌++◌, length, drop, get_or, refl, sym, ap, subst, arith, append_assoc, append-nil}
use Rattle.std.proofs.Math.Seq.{drop-cons}
use Rattle.std.specs.Result.{IfErr}
use Rattle.ak_base.specs.declared.stop.Stop.{Stop}
use Rattle.ak_base.specs.declared.stop.Stop.TheVariants.{Usage, Damaged, Disk, Port, Memory, Budget, Worn, NoStore, Exists}
use Rattle.ak_forest.proofs.Arith.{made_split}
use Rattle.ak_host.specs.Files.{Files}
use Rattle.ak_host.specs.Moments.{HostState}
use Rattle.ak_image.specs.Blocks.{Seen, seen_in}
use Rattle.ak_image.specs.Chains.{IsChain}
use Rattle.ak_image.proofs.Rescuing.{leaves_in}
use Rattle.ak_image.specs.Laid.{IsLaid, AreLaid, series_in}
use Rattle.ak_image.specs.Named.{IsNamed, rescue, elder, IsNodeOf, IsDamagedNode}
use Rattle.ak_image.specs.Planted.{IsPlanted, ArePlanted, AreAllLawful}
use Rattle.ak_image.specs.Scans.{IsScan}
use Rattle.ak_image.specs.Trees.{IsTreeOf, AreTreed}
use Rattle.ak_levels.specs.Entries.{AreLawful}
use Rattle.ak_levels.specs.Pending.{Lists}
use Rattle.ak_meta.specs.Contents.{Content, rescue_at}
use Rattle.ak_meta.specs.Leaves.{leaves_at}
use Rattle.ak_meta.specs.declared.meta.SeriesMeta.{SeriesMeta}
use Rattle.ak_repair.proofs.Levels.{some_made}
use Rattle.ak_repair.proofs.Rebuilding.{rebuilt_planted}
use Rattle.ak_repair.specs.Firsts.{firsts}
use Rattle.ak_repair.specs.Follows.{AreRebuilt, IsRebuilt, IsReferred, IsLost, IsLostOf, made_of, pending_of}
use Rattle.ak_repair.specs.Reads.{IsReadStop}
use Rattle.ak_volumes.specs.Ordinals.{Ordinals}
use Rattle.ak_world.specs.Leaves.{Leaf}

-- ---- One series of all

-- the record of a series, as a list that is the same has it
pub series_at : (all seen counted : List SeriesMeta) (n : ℕ) (known : SeriesMeta) → seen ≡ all → counted ≡ all → n < length counted → known ≡ get_or seen n known → (n < length all) × (known ≡ get_or all n known)
series_at all seen counted n known same as_many within is =
    (omega (arith, within, ap (length {A = SeriesMeta}) as_many), subst (λ (l : List SeriesMeta). known ≡ get_or l n known) same is)

parted : (series : List SeriesMeta) (i : ℕ) (known : SeriesMeta) → i < length series → known ≡ get_or series i known → drop i series ≡ known ∷ drop (suc i) series
parted series i known within is = drop-cons series i known within ∙ ap (λ (k : SeriesMeta). k ∷ drop (suc i) series) (sym is)

parted_on : (series : List SeriesMeta) (i : ℕ) (known : SeriesMeta) → i < length series → known ≡ get_or series i known → drop i series ≡ known ∷ drop (i + 1) series
parted_on series i known within is =
    let next : suc i ≡ i + 1 = omega arith in
    parted series i known within is ∙ ap (λ (n : ℕ). known ∷ drop n series) next

none_left : (series : List SeriesMeta) (i : ℕ) → length series ≤ i → drop i series ≡ []
none_left [] zero past = refl
none_left [] (suc i) past = refl
none_left (s ∷ series) zero past = absurd (omega arith)
none_left (s ∷ series) (suc i) past = none_left series i (omega arith)

-- what is pushed stands before what comes behind it
pushed_before : (v : Lists) (levels new more : List Lists) → new ≡ levels ++ v ∷ [] → levels ++ v ∷ more ≡ new ++ more
pushed_before v levels new more pushed = sym (ap (λ (vs : List Lists). vs ++ more) pushed ∙ append_assoc levels (v ∷ []) more)

-- the series in a place
pub series_there : (all : List SeriesMeta) (n : ℕ) (known : SeriesMeta) → n < length all → known ≡ get_or all n known → series_in all n ≡ known
series_there [] n known within is = absurd (omega arith)
series_there (s ∷ all) zero known within is = sym is
series_there (s ∷ all) (suc n) known within is = series_there all n known (omega arith) is

-- what waits of so many series is lawful
abbrev pub LawfulTo : List SeriesMeta → ℕ → List Lists → Type 0
LawfulTo series i levels = (more : List Lists) → AreAllLawful (drop i series) more → AreAllLawful series (levels ++ more)

pub lawful_on : (series : List SeriesMeta) (i : ℕ) (known : SeriesMeta) (v : Lists) (levels new : List Lists) → i < length series → known ≡ get_or series i known → AreLawful known.leaves v → new ≡ levels ++ v ∷ []
    → LawfulTo series i levels → LawfulTo series (i + 1) new
lawful_on series i known v levels new within is lawful pushed so_far more rest =
    let all : AreAllLawful (drop i series) (v ∷ more) = subst (λ (ks : List SeriesMeta). AreAllLawful ks (v ∷ more)) (sym (parted_on series i known within is)) (lawful, rest) in
    subst (AreAllLawful series) (pushed_before v levels new more pushed) (so_far (v ∷ more) all)

pub lawful_all : (series : List SeriesMeta) (i : ℕ) (levels : List Lists) → length series ≤ i → LawfulTo series i levels → AreAllLawful series levels
lawful_all series i levels past so_far =
    let rest : AreAllLawful (drop i series) [] = subst (λ (ks : List SeriesMeta). AreAllLawful ks []) (sym (none_left series i past)) refl in
    subst (AreAllLawful series) (append-nil levels) (so_far [] rest)

-- ---- Those that are rebuilt

-- what waits of so many series is rebuilt
abbrev pub RebuiltUpTo : Seen → Ordinals → List SeriesMeta → ℕ → List Lists → Type 0
RebuiltUpTo seen o series i levels = (more : List Lists) → AreRebuilt seen o i (drop i series) more → AreRebuilt seen o 0 series (levels ++ more)

pub rebuilt_more : (seen : Seen) (o : Ordinals) (series : List SeriesMeta) (i : ℕ) (known : SeriesMeta) (v : Lists) (levels new : List Lists) → i < length series → known ≡ get_or series i known → IsRebuilt seen o i known v → new ≡ levels ++ v ∷ []
    → RebuiltUpTo seen o series i levels → RebuiltUpTo seen o series (i + 1) new
rebuilt_more seen o series i known v levels new within is rebuilt pushed so_far more rest =
    let next : i + 1 ≡ suc i = omega arith in
    let behind : AreRebuilt seen o (suc i) (drop (i + 1) series) more = subst (λ (n : ℕ). AreRebuilt seen o n (drop (i + 1) series) more) next rest in
    let all : AreRebuilt seen o i (drop i series) (v ∷ more) = subst (λ (ks : List SeriesMeta). AreRebuilt seen o i ks (v ∷ more)) (sym (parted_on series i known within is)) (rebuilt, behind) in
    subst (AreRebuilt seen o 0 series) (pushed_before v levels new more pushed) (so_far (v ∷ more) all)

pub rebuilt_all : (seen : Seen) (o : Ordinals) (series : List SeriesMeta) (i : ℕ) (levels : List Lists) → length series ≤ i → RebuiltUpTo seen o series i levels → AreRebuilt seen o 0 series levels
rebuilt_all seen o series i levels past so_far =
    let rest : AreRebuilt seen o i (drop i series) [] = subst (λ (ks : List SeriesMeta). AreRebuilt seen o i ks []) (sym (none_left series i past)) refl in
    subst (AreRebuilt seen o 0 series) (append-nil levels) (so_far [] rest)

-- ---- Those that belong to the blocks

-- So many series are planted: whatever is planted behind them, all are.
pub record PlantedTo (o : Ordinals) (seen : Seen) (series : List SeriesMeta) (kept : List (List Leaf)) (i : ℕ) (levels : List Lists) : Type 0 where
  pub rest : List (List Leaf)
  pub laid : AreLaid seen o.lo o.fills i (drop i series) rest
  pub trees : AreTreed o seen i (drop i series) rest
  pub goes : (more : List Lists) → ArePlanted o seen i (drop i series) rest (firsts (drop i series) rest) more → ArePlanted o seen 0 series kept (firsts series kept) (levels ++ more)

pub planted_begins : (seen : Seen) (c : Content) (kept : List (List Leaf)) → IsLaid seen c kept → PlantedTo c.ordinals seen c.series kept 0 []
planted_begins seen c kept laid = record { rest = kept; laid = laid.leaves; trees = laid.trees; goes = λ more all. all }

-- what waits of one series belongs to its blocks
abbrev pub Grows : Seen → Ordinals → ℕ → SeriesMeta → Lists → Type 0
Grows seen o n known v = (leaves : List Leaf) → IsScan seen n o.lo o.fills leaves → IsChain seen o.lo n known leaves → IsTreeOf o seen n known leaves → IsPlanted o seen n known leaves (known.leaves - length leaves) v

pub rebuilt_grows : (seen : Seen) (o : Ordinals) (n : ℕ) (known : SeriesMeta) (v : Lists) → known.leaves < 32 ^ 11 → length v.pending ≡ 11 → IsRebuilt seen o n known v → Grows seen o n known v
rebuilt_grows seen o n known v few levels rebuilt leaves scan chain tree = rebuilt_planted o seen n known leaves v few levels chain tree rebuilt

pub grows_same : (count : ℕ) (files read : Files) (o p : Ordinals) (n : ℕ) (known : SeriesMeta) (v : Lists) → read ≡ files → p ≡ o → o.volumes ≡ count → Grows (seen_in p.volumes read) p n known v → Grows (seen_in count files) o n known v
grows_same count files read o p n known v still same volumes grows =
    subst (λ (m : ℕ). Grows (seen_in m files) o n known v) volumes
    (subst (λ (q : Ordinals). Grows (seen_in q.volumes files) q n known v) same
    (subst (λ (f : Files). Grows (seen_in p.volumes f) p n known v) still grows))

planted_next : (o : Ordinals) (seen : Seen) (series others : List SeriesMeta) (kept : List (List Leaf)) (i : ℕ) (known : SeriesMeta) (v : Lists) (levels new : List Lists) → drop i series ≡ known ∷ others → drop (suc i) series ≡ others
    → Grows seen o i known v → new ≡ levels ++ v ∷ [] → PlantedTo o seen series kept i levels → PlantedTo o seen series kept (suc i) new
planted_next o seen series others kept i known v levels new here later grows pushed so_far =
    let laid : AreLaid seen o.lo o.fills i (known ∷ others) so_far.rest = subst (λ (ks : List SeriesMeta). AreLaid seen o.lo o.fills i ks so_far.rest) here so_far.laid in
    let leaves : List Leaf = laid.0 in
    let kept_behind : List (List Leaf) = laid.1 in
    let trees : AreTreed o seen i (known ∷ others) (leaves ∷ kept_behind) =
    subst (AreTreed o seen i (known ∷ others)) laid.2 (subst (λ (ks : List SeriesMeta). AreTreed o seen i ks so_far.rest) here so_far.trees) in
    let goes : (more : List Lists) → ArePlanted o seen i (known ∷ others) (leaves ∷ kept_behind) (firsts (known ∷ others) (leaves ∷ kept_behind)) more → ArePlanted o seen 0 series kept (firsts series kept) (levels ++ more) =
    subst (λ (all : List (List Leaf)). (more : List Lists) → ArePlanted o seen i (known ∷ others) all (firsts (known ∷ others) all) more → ArePlanted o seen 0 series kept (firsts series kept) (levels ++ more)) laid.2
    (subst (λ (ks : List SeriesMeta). (more : List Lists) → ArePlanted o seen i ks so_far.rest (firsts ks so_far.rest) more → ArePlanted o seen 0 series kept (firsts series kept) (levels ++ more)) here so_far.goes) in
    let planted : IsPlanted o seen i known leaves (known.leaves - length leaves) v = grows leaves laid.3 laid.4 trees.0 in
    record {
      rest = kept_behind;
      laid = subst (λ (ks : List SeriesMeta). AreLaid seen o.lo o.fills (suc i) ks kept_behind) (sym later) laid.5;
      trees = subst (λ (ks : List SeriesMeta). AreTreed o seen (suc i) ks kept_behind) (sym later) trees.1;
      goes = λ more all.
          let behind : ArePlanted o seen (suc i) others kept_behind (firsts others kept_behind) more =
          subst (λ (ks : List SeriesMeta). ArePlanted o seen (suc i) ks kept_behind (firsts ks kept_behind) more) later all in
          subst (ArePlanted o seen 0 series kept (firsts series kept)) (pushed_before v levels new more pushed) (goes (v ∷ more) (planted, behind));
    }

pub planted_on : (o : Ordinals) (seen : Seen) (series : List SeriesMeta) (kept : List (List Leaf)) (i : ℕ) (known : SeriesMeta) (v : Lists) (levels new : List Lists) → i < length series → known ≡ get_or series i known
    → Grows seen o i known v → new ≡ levels ++ v ∷ [] → PlantedTo o seen series kept i levels → PlantedTo o seen series kept (i + 1) new
planted_on o seen series kept i known v levels new within is grows pushed so_far =
    let next : suc i ≡ i + 1 = omega arith in
    subst (λ (n : ℕ). PlantedTo o seen series kept n new) next (planted_next o seen series (drop (suc i) series) kept i known v levels new (parted series i known within is) refl grows pushed so_far)

pub planted_all : (o : Ordinals) (seen : Seen) (series : List SeriesMeta) (kept : List (List Leaf)) (i : ℕ) (levels : List Lists) → length series ≤ i → PlantedTo o seen series kept i levels
    → ArePlanted o seen 0 series kept (firsts series kept) levels
planted_all o seen series kept i levels past so_far =
    let none = none_left series i past in
    let left : so_far.rest ≡ [] = subst (λ (ks : List SeriesMeta). AreLaid seen o.lo o.fills i ks so_far.rest) none so_far.laid in
    let last : ArePlanted o seen i (drop i series) so_far.rest (firsts (drop i series) so_far.rest) [] =
    subst (λ (ks : List SeriesMeta). ArePlanted o seen i ks so_far.rest (firsts ks so_far.rest) []) (sym none) (left, refl, refl) in
    subst (ArePlanted o seen 0 series kept (firsts series kept)) (append-nil levels) (so_far.goes [] last)

-- ---- Damaged nodes

-- where the node from which so many are followed is named, a lost one is damaged
named_lost : (seen : Seen) (o : Ordinals) (c : Content) (series level left number at file block : ℕ) → left ≤ number → (1 ≤ left → IsNamed seen o c series level (number - 1) at) → IsLost seen o series level left number at file block
    → IsDamagedNode seen o c file block
named_lost seen o c series level zero number at file block few named lost = absurd lost
named_lost seen o c series level (suc left) number at file block few named (live, inl here) = record {
  series = series;
  level = level;
  number = number - 1;
  at = at;
  named = named (omega arith);
  live = live;
  file_is = here.0;
  block_is = here.1;
  none = here.2;
}
named_lost seen o c series level (suc left) number at file block few named (live, inr on) =
    let referred : IsReferred seen series level (number - 1) at on.1 on.0 = on.2 in
    let is : IsNodeOf seen series level (number - 1) at referred.node = record { is = referred.is; series_is = referred.series_is; level_is = referred.level_is; number_is = referred.number_is } in
    let behind : 1 ≤ left → IsNamed seen o c series level (number - 1 - 1) on.1 = λ some.
    let next : number - 1 ≡ suc (number - 1 - 1) = omega (arith, few, some) in
    subst (IsNamed seen o c series level (number - 1 - 1)) referred.elder_is
    (elder series level (number - 1 - 1) at referred.node (subst (λ (n : ℕ). IsNamed seen o c series level n at) next (named (omega arith))) live
    (subst (λ (n : ℕ). IsNodeOf seen series level n at referred.node) next is)) in
    named_lost seen o c series level left (number - 1) on.1 file block (omega (arith, few)) behind on.3

-- the last node of a level is named
lost_named : (seen : Seen) (c : Content) (n file block : ℕ) → IsLostOf seen c.ordinals n (series_in c.series n) file block → IsDamagedNode seen c.ordinals c file block
lost_named seen c n file block (level, low, lost) =
    let leaves : ℕ = (series_in c.series n).leaves in
    let same : leaves ≡ leaves_at c.series n = leaves_in c.series n in
    let made_same : leaves_at c.series n / 32 ^ level - 1 ≡ made_of leaves level - 1 = ap (λ (x : ℕ). x / 32 ^ level - 1) (sym same) in
    let named : 1 ≤ pending_of leaves level → IsNamed seen c.ordinals c n level (made_of leaves level - 1) (rescue_at (series_in c.series n).rescue level) = λ some.
    subst (λ (x : ℕ). IsNamed seen c.ordinals c n level x (rescue_at (series_in c.series n).rescue level)) made_same
    (rescue n level low (subst (λ (x : ℕ). 32 ^ level ≤ x) same (some_made leaves level (made_of leaves level) refl some))) in
    named_lost seen c.ordinals c n level (pending_of leaves level) (made_of leaves level) (rescue_at (series_in c.series n).rescue level) file block (omega (arith, made_split 32 level leaves)) named lost

pub lost_damaged : (c : Content) (files read : Files) (o : Ordinals) (n : ℕ) (known : SeriesMeta) (file block : ℕ) → o ≡ c.ordinals → read ≡ files → series_in c.series n ≡ known
    → IsLostOf (seen_in o.volumes read) o n known file block → IsDamagedNode (seen_in c.ordinals.volumes files) c.ordinals c file block
lost_damaged c files read o n known file block same still here lost =
    lost_named (seen_in c.ordinals.volumes files) c n file block
    (subst (λ (k : SeriesMeta). IsLostOf (seen_in c.ordinals.volumes files) c.ordinals n k file block) (sym here)
    (subst (λ (v : Ordinals). IsLostOf (seen_in v.volumes files) v n known file block) same (subst (λ (f : Files). IsLostOf (seen_in o.volumes f) o n known file block) still lost)))

-- ---- Sound disks

disk_or_memory : {P : ℕ → ℕ → Type 0} (old new : HostState) (stop : Stop) → ((file block : ℕ) → P file block → ⊥) → IsReadStop P old new stop → (stop ≡ Disk) ⊎ (stop ≡ Memory)
disk_or_memory old new Disk none is = inl refl
disk_or_memory old new Memory none is = inr refl
disk_or_memory old new (Damaged file block) none is = absurd (none file block is)
disk_or_memory old new Usage none is = absurd is
disk_or_memory old new Port none is = absurd is
disk_or_memory old new Budget none is = absurd is
disk_or_memory old new (Worn ordinal fill number) none is = absurd is
disk_or_memory old new NoStore none is = absurd is
disk_or_memory old new Exists none is = absurd is

-- where no block is damaged a read failed, or there was no memory
pub sound_stop : {T : Type 0} {P : ℕ → ℕ → Type 0} (old new : HostState) (r : Result T Stop) → ((file block : ℕ) → P file block → ⊥) → IfErr r (IsReadStop P old new) → IfErr r (λ stop. (stop ≡ Disk) ⊎ (stop ≡ Memory))
sound_stop old new (Ok v) none is = tt
sound_stop old new (Err stop) none is = disk_or_memory old new stop none is

-- Blocks of one file that are written in a row.
use Rattle.std.proofs.Common.{◌≡◌, ◌≢◌, inl, inr, ℕ, suc, ◌+◌, ◌/◌, ◌^◌, ◌<◌, ◌≤◌, List, [], ◌∷◌, ◌++◌, length, map, get_or, refl, sym, ◌∙◌, ap, ap₂, subst, arith, pow-suc}
use Rattle.std.specs.List.{AllByRecursion}
use Rattle.std.proofs.Math.Nat.{div-div-eq-div-mul}
use Rattle.std.proofs.lemmas.Bool.{cases_lt}
use Rattle.std.proofs.Math.ListN.{get_or-map}
use Rattle.std.proofs.lemmas.List.{length-set, length-map, get_or-set_same, get_or-set_other}
use Rattle.std.specs.Prelude.{slice_index}
use Rattle.ak_host.specs.Calls.{Follows}
use Rattle.ak_host.specs.Files.{Files, MayBeTorn, file_at, block_at, with_block}
use Rattle.ak_host.specs.Moments.{HostState, DiskPasses, LeavesNow}
use Rattle.ak_host.proofs.Items.{file_at-with_block_same, file_at-with_block_other}
use Rattle.ak_host.proofs.Passing.{disk_goes_on, disk_now}
use Rattle.ak_bytes.specs.Head.{IsHead}
use Rattle.ak_bytes.specs.declared.head.Head.{Head}
use Rattle.ak_inner.specs.Nodes.{SpellsInner}
use Rattle.ak_inner.specs.References.{AreRefs}
use Rattle.ak_inner.specs.declared.reference.Ref.{Ref}
use Rattle.ak_levels.specs.Closes.{node_ref, raised, taken, emptied}
use Rattle.ak_levels.specs.Entries.{IsTally, AreLawful}
use Rattle.ak_levels.specs.Pending.{Lists, HasRoom, pending_at, with_pending}
use Rattle.ak_levels.proofs.Closed.{emptied_room, lawful_emptied, raised_addr, taken_is}
use Rattle.ak_tree.specs.declared.writing.Group.{Group}
use Rattle.ak_tree.specs.Writing.{IsOutside, AreNodeBlocks, IsGroup, LeavesOutside, head_above, node_head}

-- how long a file is, by the sizes that are told
pub long_as_told : (files : Files) (sizes : List ℕ) (file : ℕ) → map length files ≡ sizes → length (file_at files file) ≡ slice_index sizes file
long_as_told files sizes file is = sym (get_or-map length files file []) ∙ ap (λ (l : List ℕ). get_or l file 0) is

pub many_as_told : (files : Files) (sizes : List ℕ) → map length files ≡ sizes → length files ≡ length sizes
many_as_told files sizes is = sym (length-map files (length {A = List ℕ})) ∙ ap length is

-- nothing is written yet
pub outside_here : (file index count : ℕ) (files : Files) → IsOutside file index count files files
outside_here file index count files = record { number = refl; files = λ other apart. refl; size = refl; below = λ i before. refl; behind = λ i past. refl }

pub outside_on : (file index count : ℕ) (old mid new : Files) → IsOutside file index count old mid → IsOutside file index count mid new → IsOutside file index count old new
outside_on file index count old mid new first second = record {
  number = second.number ∙ first.number;
  files = λ other apart. second.files other apart ∙ first.files other apart;
  size = second.size ∙ first.size;
  below = λ i before. second.below i before ∙ first.below i before;
  behind = λ i past. second.behind i past ∙ first.behind i past;
}

-- the same of more blocks
pub outside_wider : (file index count from many : ℕ) (old new : Files) → index ≤ from → from + many ≤ index + count → IsOutside file from many old new → IsOutside file index count old new
outside_wider file index count from many old new low high is = record {
  number = is.number;
  files = is.files;
  size = is.size;
  below = λ i before. is.below i (omega (arith, before, low));
  behind = λ i past. is.behind i (omega (arith, past, high));
}

-- one block is written
pub outside_set : (file index count at : ℕ) (old new : Files) (block : List ℕ) → index ≤ at → at < index + count → new ≡ with_block old file at block → IsOutside file index count old new
outside_set file index count at old new block low high is =
    let there : file_at new file ≡ file_at (with_block old file at block) file = ap (λ (files : Files). file_at files file) is in
    let same = there ∙ file_at-with_block_same old file at block in
    let other : (i : ℕ) → i ≢ at → block_at new file i ≡ block_at old file i = λ i apart. ap (λ (l : List (List ℕ)). get_or l i []) same ∙ get_or-set_other (file_at old file) at i block [] apart in
    record {
      number = ap length is ∙ length-set old file _;
      files = λ k apart. ap (λ (files : Files). file_at files k) is ∙ file_at-with_block_other old file at block k apart;
      size = ap length same ∙ length-set (file_at old file) at block;
      below = λ i before. other i (λ e. absurd (omega (arith, e, before, low)));
      behind = λ i past. other i (λ e. absurd (omega (arith, e, past, high)));
    }

pub outside_torn : (file index count at : ℕ) (old new : Files) → index ≤ at → at < index + count → MayBeTorn file at old new → IsOutside file index count old new
outside_torn file index count at old new low high (inl same) = subst (λ (files : Files). IsOutside file index count old files) (sym same) (outside_here file index count old)
outside_torn file index count at old new low high (inr torn) = outside_set file index count at old new torn.block low high torn.is

-- the block that was written, as it reads
pub block_set : (file at : ℕ) (old new : Files) (block : List ℕ) → at < length (file_at old file) → new ≡ with_block old file at block → block_at new file at ≡ block
block_set file at old new block within is =
    let there : file_at new file ≡ file_at (with_block old file at block) file = ap (λ (files : Files). file_at files file) is in
    ap (λ (l : List (List ℕ)). get_or l at []) (there ∙ file_at-with_block_same old file at block) ∙ get_or-set_same (file_at old file) at block [] within

-- ---- Inner nodes

all_push : (P : Ref → Type 0) (rs : List Ref) (r : Ref) → AllByRecursion P rs → P r → AllByRecursion P (rs ++ r ∷ [])
all_push P [] r all here = (here, tt)
all_push P (q ∷ rs) r all here = (all.0, all_push P rs r all.1 here)

-- what goes into a node is a tally each
pub tallies_at : (v w : Lists) (m k : ℕ) (above : Ref) → w ≡ emptied v k → AreLawful m v → k ≤ 10 → IsTally k above → AllByRecursion (IsTally k) (pending_at w k ++ above ∷ [])
tallies_at v w m k above is are top tally = subst (λ (u : Lists). AllByRecursion (IsTally k) (pending_at u k ++ above ∷ [])) (sym is)
    (all_push (IsTally k) (pending_at (emptied v k) k) above ((lawful_emptied v m k are).each k top) tally)

pub room_at : (v w : Lists) (k : ℕ) → w ≡ emptied v k → HasRoom v k → HasRoom w k
room_at v w k is room = subst (λ (u : Lists). HasRoom u k) (sym is) (emptied_room v k k (omega arith) room)

pub lawful_at : (v w : Lists) (m k : ℕ) → w ≡ emptied v k → AreLawful m v → AreLawful m w
lawful_at v w m k is are = subst (AreLawful m) (sym is) (lawful_emptied v m k are)

-- the next level is emptied
pub emptied_next : (v w u : Lists) (k : ℕ) → w ≡ emptied v k → u ≡ with_pending w k [] → u ≡ emptied v (suc k)
emptied_next v w u k is next = next ∙ ap (λ (x : Lists). with_pending x k []) is

-- the reference to the node goes a level up
pub raised_next : (v w : Lists) (leaf above r : Ref) (k : ℕ) → w ≡ emptied v k → above ≡ raised v leaf k → r ≡ node_ref (above.addr.0 + 1) (pending_at w k ++ above ∷ []) → r ≡ raised v leaf (suc k)
raised_next v w leaf above r k below here is =
    is ∙ ap₂ node_ref (ap (λ (x : Ref). x.addr.0 + 1) here) (taken_is v w leaf above k below here)

pub number_next : (m n k : ℕ) → n ≡ m / 32 ^ k → n / 32 ≡ m / 32 ^ suc k
number_next m n k is = ap (λ (x : ℕ). x / 32) is ∙ div-div-eq-div-mul m (32 ^ k) 32 ∙ ap (λ (x : ℕ). m / x) (sym (pow-suc 32 k))

pub above_addr : (v : Lists) (leaf above : Ref) (k : ℕ) → above ≡ raised v leaf k → above.addr.0 ≡ leaf.addr.0 + k
above_addr v leaf above k is = ap (λ (x : Ref). x.addr.0) is ∙ raised_addr v leaf k

-- one node more
pub node_more : (g : Group) (v w : Lists) (file index k number : ℕ) (above r : Ref) (block : List ℕ) (old new : Files) → index + k < length (file_at old file)
    → w ≡ emptied v k → above ≡ raised v g.leaf k → number ≡ g.number / 32 ^ suc k → r ≡ raised v g.leaf (suc k)
    → (IsHead (head_above g k number r.addr.0 (pending_at w k ++ above ∷ [])) → AreRefs (suc k) (pending_at w k ++ above ∷ [])
    → SpellsInner block (head_above g k number r.addr.0 (pending_at w k ++ above ∷ [])) (pending_at w k ++ above ∷ []))
    → new ≡ with_block old file (index + k) block → AreNodeBlocks g v k file index old → AreNodeBlocks g v (k + 1) file index new
node_more g v w file index k number above r block old new within below here number_is raised_is spells is so_far j before head refs = elim (cases_lt j k) [
  | inl less ↦
      let same : block_at new file (index + j) ≡ block_at old file (index + j) = (outside_set file (index + k) 1 (index + k) old new block (omega arith) (omega arith) is).below (index + j) (omega (arith, less)) in
      subst (λ (b : List ℕ). SpellsInner b (node_head g v j) (taken v g.leaf j)) (sym same) (so_far j less head refs)
  | inr past ↦
      let at : k ≡ j = omega (arith, past, before) in
      let all : pending_at w k ++ above ∷ [] ≡ taken v g.leaf k = taken_is v w g.leaf above k below here in
      let addr : r.addr.0 ≡ g.leaf.addr.0 + suc k = above_addr v g.leaf r (suc k) raised_is in
      let head_is : head_above g k number r.addr.0 (pending_at w k ++ above ∷ []) ≡ node_head g v k =
      ap (λ (rs : List Ref). head_above g k number r.addr.0 rs) all ∙ ap₂ (λ (n a : ℕ). head_above g k n a (taken v g.leaf k)) number_is addr in
      let reads : block_at new file (index + k) ≡ block = block_set file (index + k) old new block within is in
      subst (λ (i : ℕ). IsHead (node_head g v i) → AreRefs (suc i) (taken v g.leaf i) → SpellsInner (block_at new file (index + i)) (node_head g v i) (taken v g.leaf i)) at
      (λ lawful rules. subst (λ (b : List ℕ). SpellsInner b (node_head g v k) (taken v g.leaf k)) (sym reads)
      (subst (λ (h : Head). SpellsInner block h (taken v g.leaf k)) head_is
      (subst (λ (rs : List Ref). SpellsInner block (head_above g k number r.addr.0 (pending_at w k ++ above ∷ [])) rs) all
      (spells (subst IsHead (sym head_is) lawful) (subst (AreRefs (suc k)) (sym all) rules)))))
      head refs
]

-- ---- What a stop leaves

pub leaves_outside : (file index count : ℕ) (host : HostState) (disk : Files) → LeavesNow host disk → LeavesOutside file index count host disk
leaves_outside file index count host disk left = record { before = disk; left = left; outside = outside_here file index count disk }

-- one block more, which may be torn
pub leaves_on : (file index count at : ℕ) (old mid new : HostState) → index ≤ at → at < index + count
    → DiskPasses (LeavesOutside file index count old) old mid → DiskPasses (Follows (MayBeTorn file at) mid) mid new → DiskPasses (LeavesOutside file index count old) old new
leaves_on file index count at old mid new low high so_far call = disk_goes_on so_far call (λ disk follows.
    let was = disk_now so_far (leaves_outside file index count old) follows.0 follows.1 in
    record {
      before = was.before;
      left = was.left;
      outside = outside_on file index count was.before follows.0 disk was.outside (outside_torn file index count at follows.0 disk low high follows.2);
    })

-- some blocks more
pub leaves_then : (file index count from many : ℕ) (old mid new : HostState) → index ≤ from → from + many ≤ index + count
    → DiskPasses (LeavesOutside file index count old) old mid → DiskPasses (LeavesOutside file from many mid) mid new → DiskPasses (LeavesOutside file index count old) old new
leaves_then file index count from many old mid new low high so_far call = disk_goes_on so_far call (λ disk more.
    let was = disk_now so_far (leaves_outside file index count old) more.before more.left in
    record {
      before = was.before;
      left = was.left;
      outside = outside_on file index count was.before more.before disk was.outside (outside_wider file index count from many more.before disk low high more.outside);
    })

-- a first block, and inner nodes behind it
pub group_made : (file index : ℕ) (g : Group) (v : Lists) (old mid new : Files) (first : List ℕ) → index < length (file_at old file) → mid ≡ with_block old file index first
    → IsOutside file (index + 1) g.others mid new → AreNodeBlocks g v g.others file (index + 1) new → IsGroup file index g v first old new
group_made file index g v old mid new first within is outside nodes = record {
  outside = outside_on file index (1 + g.others) old mid new (outside_set file index (1 + g.others) index old mid first (omega arith) (omega arith) is)
      (outside_wider file index (1 + g.others) (index + 1) g.others mid new (omega arith) (omega arith) outside);
  block = outside.below index (omega arith) ∙ block_set file index old mid first within is;
  nodes = nodes;
}

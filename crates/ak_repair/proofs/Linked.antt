-- Walks along the leaves of a series, leaf by leaf.
use Rattle.std.proofs.Common.{◌≡◌, ◌⊎◌, ◌∙◌, ℕ, zero, suc, ◌+◌, ◌-◌, ◌<◌, List, [], ◌∷◌, ◌++◌, length, take, get_or, refl, sym, ap, subst, arith, add-one, length-append}
use Rattle.std.proofs.lemmas.List.{get_or_append_left, get_or-append_right}
use Rattle.std.specs.List.{AllByRecursion}
use Rattle.ak_base.specs.declared.point.Addr.{Addr}
use Rattle.ak_base.specs.declared.point.Point.{Point}
use Rattle.ak_bytes.specs.declared.head.Head.{Head}
use Rattle.ak_cache.specs.Leaves.{SpellsNone}
use Rattle.ak_image.specs.Blocks.{Seen}
use Rattle.ak_image.specs.Chains.{AreLinked}
use Rattle.ak_image.specs.Scans.{IsLeafOf}
use Rattle.ak_leaf.proofs.Blocks.{one_leaf}
use Rattle.ak_leaf.specs.Leaf.{SpellsLeaf}
use Rattle.ak_meta.specs.Leaves.{address_at}
use Rattle.ak_repair.specs.Walks.{addresses_back, IsWalk, AreWalked, IsBroken}
use Rattle.ak_volumes.specs.Ordinals.{Ordinals, IsLive, ordinal_of, index_of, file_of}
use Rattle.ak_world.specs.Leaves.{Leaf}
use Rattle.ak_world.specs.Valid.{AreNumbered}

-- a walk that has come to a number and an address, and the addresses that it passed
pub record IsWalking (seen : Seen) (o : Ordinals) (series count last first before : ℕ) (addresses : List Addr) : Type 0 where
  pub leaves : List Leaf
  pub addresses_are : addresses ≡ addresses_back leaves
  pub walk : IsWalk seen o series count last first before leaves

-- it begins
pub walk_begins : (seen : Seen) (o : Ordinals) (series count last : ℕ) → IsWalking seen o series count last count last []
walk_begins seen o series count last = record {
  leaves = [];
  addresses_are = refl;
  walk = record { numbers = tt; count_is = omega arith; live = tt; links = refl };
}

-- one leaf more
pub walk_on : (seen : Seen) (o : Ordinals) (series count last number first : ℕ) (a : Addr) (addresses : List Addr) (head : Head) (ps : List Point) → suc first ≡ number
    → IsLive o a.0 → SpellsLeaf (seen a.0) head ps → head.series ≡ series → head.number ≡ first → head.addr ≡ a
    → IsWalking seen o series count last number a.0 addresses → IsWalking seen o series count last first head.elder.0 (addresses ++ a ∷ [])
walk_on seen o series count last number first a addresses head ps next live spells series_is number_is addr_is so_far =
    let leaf : Leaf = record { number = first; address = a.0; points = ps } in
    record {
      leaves = leaf ∷ so_far.leaves;
      addresses_are = ap (λ (front : List Addr). front ++ a ∷ []) so_far.addresses_are;
      walk = record {
        numbers = (refl, subst (λ (n : ℕ). AreNumbered n so_far.leaves) (sym next) so_far.walk.numbers);
        count_is = omega (arith, so_far.walk.count_is, next);
        live = (live, so_far.walk.live);
        links = (record { head = head; spells = spells; series_is = series_is; number_is = number_is; address_is = ap (λ (b : Addr). b.0) addr_is; elder_is = refl }, so_far.walk.links);
      };
    }

-- a leaf that isn't spelled
pub walk_breaks : (seen : Seen) (o : Ordinals) (series count last number first : ℕ) (a : Addr) (addresses : List Addr) (file block : ℕ) → suc first ≡ number
    → IsLive o a.0 → (file ≡ file_of o (ordinal_of a.0)) → (block ≡ index_of a.0) → SpellsNone (seen a.0) a series first
    → IsWalking seen o series count last number a.0 addresses → IsBroken seen o series count last file block
walk_breaks seen o series count last number first a addresses file block next live file_is block_is none so_far = record {
  number = first;
  at = a;
  behind = so_far.leaves;
  walk = subst (λ (n : ℕ). IsWalk seen o series count last n a.0 so_far.leaves) (sym next) so_far.walk;
  live = live;
  file_is = file_is;
  block_is = block_is;
  none = none;
}

pub all_more : {X : Type 0} (P : X → Type 0) (xs : List X) (x : X) → AllByRecursion P xs → P x → AllByRecursion P (xs ++ x ∷ [])
all_more P [] x all more = (more, tt)
all_more P (y ∷ xs) x all more = (all.0, all_more P xs x all.1 more)

-- it ends
pub walk_ends : {seen : Seen} {o : Ordinals} {series count last first before : ℕ} {addresses : List Addr} → IsWalking seen o series count last first before addresses
    → (first ≡ 0) ⊎ (¬ IsLive o before) → AreWalked seen o series count last addresses
walk_ends {seen} {o} {series} {count} {last} {first} {before} so_far ends = record {
  leaves = so_far.leaves;
  addresses_are = so_far.addresses_are;
  whole = record { first = first; before = before; walk = so_far.walk; ends = ends };
}

-- ---- The leaf in a place

pub length_back : (leaves : List Leaf) → length (addresses_back leaves) ≡ length leaves
length_back [] = refl
length_back (leaf ∷ leaves) = omega (arith, length-append (addresses_back leaves) (address_at leaf.address ∷ []), length_back leaves)

pub record IsPlaced (seen : Seen) (series first i : ℕ) (leaves : List Leaf) (a : Addr) : Type 0 where
  pub leaf : Leaf
  pub elder : ℕ
  pub is : IsLeafOf seen series elder leaf
  pub at : a ≡ address_at leaf.address
  pub number : leaf.number ≡ first + i
  pub more : take (i + 1) leaves ≡ take i leaves ++ leaf ∷ []

-- the leaf in a place from the front, whose address stands in this place
pub placed : (seen : Seen) (series last first before i back : ℕ) (leaves : List Leaf) (d : Addr) → AreNumbered first leaves → AreLinked seen series before leaves last → back + suc i ≡ length leaves
    → IsPlaced seen series first i leaves (get_or (addresses_back leaves) back d)
placed seen series last first before i back [] d numbers links is = absurd (omega arith)
placed seen series last first before zero back (leaf ∷ leaves) d numbers links is =
    let long = length_back leaves in
    let here : back ≡ length (addresses_back leaves) = omega (arith, is, long) in
    let none : back - back ≡ 0 = omega arith in
    let at : get_or (addresses_back leaves ++ address_at leaf.address ∷ []) back d ≡ address_at leaf.address =
    get_or-append_right (addresses_back leaves) (address_at leaf.address ∷ []) back back d (sym here) (omega arith)
    ∙ ap (λ (k : ℕ). get_or (address_at leaf.address ∷ []) k d) none
    in
    record {
      leaf = leaf;
      elder = before;
      is = links.0;
      at = at;
      number = omega (arith, numbers.0);
      more = refl;
    }
placed seen series last first before (suc i) back (leaf ∷ leaves) d numbers links is =
    let below : back < length (addresses_back leaves) = omega (arith, is, length_back leaves) in
    let on = placed seen series last (suc first) leaf.address i back leaves d numbers.1 links.1 (omega (arith, is)) in
    let next = rw add-one at on.more in
    record {
      leaf = on.leaf;
      elder = on.elder;
      is = on.is;
      at = get_or_append_left (addresses_back leaves) (address_at leaf.address ∷ []) d back below ∙ on.at;
      number = omega (arith, on.number);
      more = rw add-one (ap (λ (front : List Leaf). leaf ∷ front) next);
    }

-- what is read where a leaf stands is this leaf
pub placed_points : {seen : Seen} {series first i : ℕ} {leaves : List Leaf} {a : Addr} (head : Head) (ps : List Point) (p : IsPlaced seen series first i leaves a) → SpellsLeaf (seen a.0) head ps → ps ≡ p.leaf.points
placed_points {seen} {a = a} head ps p spells =
    (one_leaf (seen p.leaf.address) head p.is.head ps p.leaf.points (subst (λ (b : Addr). SpellsLeaf (seen b.0) head ps) p.at spells) p.is.spells).1

-- and it is spelled there
pub placed_spells : {seen : Seen} {series first i : ℕ} {leaves : List Leaf} {a : Addr} (number : ℕ) → number ≡ first + i → IsPlaced seen series first i leaves a → SpellsNone (seen a.0) a series number → ⊥
placed_spells {seen} {a = a} number same p none =
    let place : a.0 ≡ p.leaf.address = ap (λ (b : Addr). b.0) p.at in
    none p.is.head p.leaf.points (record {
      leaf = subst (λ (b : ℕ). SpellsLeaf (seen b) p.is.head p.leaf.points) (sym place) p.is.spells;
      series_is = p.is.series_is;
      number_is = p.is.number_is ∙ p.number ∙ sym same;
      addr_is = ap address_at (p.is.address_is ∙ sym place);
    })

-- the same by the addresses of a walk
pub placed_in : {seen : Seen} {o : Ordinals} {series count last : ℕ} {addresses : List Addr} (walked : AreWalked seen o series count last addresses) (i back : ℕ) (d : Addr) → back + suc i ≡ length addresses
    → IsPlaced seen series walked.whole.first i walked.leaves (get_or addresses back d)
placed_in {seen} {o} {series} {count} {last} {addresses} walked i back d is =
    let long : length addresses ≡ length walked.leaves = ap (λ (all : List Addr). length all) walked.addresses_are ∙ length_back walked.leaves in
    subst (λ (all : List Addr). IsPlaced seen series walked.whole.first i walked.leaves (get_or all back d)) (sym walked.addresses_are)
    (placed seen series last walked.whole.first walked.whole.before i back walked.leaves d walked.whole.walk.numbers walked.whole.walk.links (omega (arith, is, long)))

-- the number of the leaf that is asked for there
pub number_in : {seen : Seen} {o : Ordinals} {series count last : ℕ} {addresses : List Addr} (walked : AreWalked seen o series count last addresses) (i back : ℕ) → back + suc i ≡ length addresses → count - 1 - back ≡ walked.whole.first + i
number_in {addresses = addresses} walked i back is =
    let long : length addresses ≡ length walked.leaves = ap (λ (all : List Addr). length all) walked.addresses_are ∙ length_back walked.leaves in
    omega (arith, is, long, walked.whole.walk.count_is)

-- A leaf that a walk can't read is one that the record which was found names.
use Rattle.std.proofs.Common.{◌≡◌, inl, inr, ◌∙◌, ℕ, zero, suc, ◌+◌, ◌-◌, ◌/◌, ◌^◌, ◌≤◌, List, [], ◌∷◌, length, refl, sym, ap, subst, arith}
use Rattle.ak_base.specs.declared.point.Addr.{Addr}
use Rattle.ak_bytes.specs.declared.head.Head.{Head}
use Rattle.ak_cache.specs.Leaves.{SpellsNone}
use Rattle.ak_host.specs.Files.{Files}
use Rattle.ak_image.specs.Blocks.{Seen, seen_in}
use Rattle.ak_image.specs.Laid.{series_in, rescue_in}
use Rattle.ak_image.specs.Named.{IsNamed, IsDamagedNode, IsDamagedBy}
use Rattle.ak_image.specs.Scans.{IsLeafOf}
use Rattle.ak_leaf.proofs.Blocks.{one_leaf}
use Rattle.ak_leaf.specs.Leaf.{SpellsLeaf}
use Rattle.ak_meta.specs.Contents.{Content, rescue_at}
use Rattle.ak_meta.specs.Leaves.{address_at, leaves_at}
use Rattle.ak_meta.specs.declared.meta.SeriesMeta.{SeriesMeta}
use Rattle.ak_repair.proofs.ReadNodes.{none_leaf}
use Rattle.ak_repair.specs.Damage.{IsDamagedLeaf}
use Rattle.ak_repair.specs.Walks.{IsWalk, IsBrokenIn}
use Rattle.ak_tree.specs.Later.{AreAdded, Becomes}
use Rattle.ak_volumes.specs.Ordinals.{Ordinals, AreOrdinals, IsLive, ordinal_of}
use Rattle.ak_world.specs.Leaves.{Leaf}

-- ---- The newest leaf of a walk

-- the last leaf of a walk, and the walk over those before it
record IsLast (seen : Seen) (o : Ordinals) (series last first before count : ℕ) : Type 0 where
  leaf : Leaf
  elder : ℕ
  front : List Leaf
  at : leaf.address ≡ last
  live : IsLive o leaf.address
  is : IsLeafOf seen series elder leaf
  reached : IsWalk seen o series count elder first before front

last_of : (seen : Seen) (o : Ordinals) (series last first before count : ℕ) (leaf : Leaf) (leaves : List Leaf) → IsWalk seen o series (suc count) last first before (leaf ∷ leaves)
    → IsLast seen o series last first before count
last_of seen o series last first before count leaf [] walk = record {
  leaf = leaf;
  elder = before;
  front = [];
  at = sym walk.links.1;
  live = walk.live.0;
  is = walk.links.0;
  reached = record { numbers = tt; count_is = omega (arith, walk.count_is); live = tt; links = refl };
}
last_of seen o series last first before count leaf (next ∷ leaves) walk =
    let on = last_of seen o series last (suc first) leaf.address count next leaves (record { numbers = walk.numbers.1; count_is = omega (arith, walk.count_is); live = walk.live.1; links = walk.links.1 }) in
    record {
      leaf = on.leaf;
      elder = on.elder;
      front = leaf ∷ on.front;
      at = on.at;
      live = on.live;
      is = on.is;
      reached = record { numbers = (walk.numbers.0, on.reached.numbers); count_is = omega (arith, on.reached.count_is); live = (walk.live.0, on.reached.live); links = (walk.links.0, on.reached.links) };
    }

-- ---- Leaves that were added

-- where the leaf of this number should stand, a live block doesn't spell it
record IsMissing (seen : Seen) (o : Ordinals) (series number : ℕ) (at : Addr) : Type 0 where
  live : IsLive o at.0
  none : SpellsNone (seen at.0) at series number

-- a leaf that stands there is another
other_leaf : (seen : Seen) (o : Ordinals) (series number elder : ℕ) (at : Addr) (leaf : Leaf) → IsMissing seen o series number at → IsLeafOf seen series elder leaf → leaf.address ≡ at.0 → leaf.number ≡ number → ⊥
other_leaf seen o series number elder at leaf missing is place same = missing.none is.head leaf.points (record {
  leaf = subst (λ (a : ℕ). SpellsLeaf (seen a) is.head leaf.points) place is.spells;
  series_is = is.series_is;
  number_is = is.number_is ∙ same;
  addr_is = ap address_at (is.address_is ∙ place);
})

-- an address has one leaf, with one elder
one_elder : (seen : Seen) (series b c : ℕ) (x y : Leaf) → IsLeafOf seen series b x → IsLeafOf seen series c y → x.address ≡ y.address → b ≡ c
one_elder seen series b c x y one two place =
    let spells : SpellsLeaf (seen x.address) two.head y.points = subst (λ (a : ℕ). SpellsLeaf (seen a) two.head y.points) (sym place) two.spells in
    sym one.elder_is ∙ ap (λ (h : Head). h.elder.0) (one_leaf (seen x.address) one.head two.head x.points y.points one.spells spells).0 ∙ two.elder_is

-- what a walk from the last leaf of a record reaches, before which the leaf of a number is missing
record IsReachedFrom (seen : Seen) (o : Ordinals) (series number : ℕ) (at : Addr) (last count : ℕ) : Type 0 where
  leaves : List Leaf
  reached : IsWalk seen o series count last (suc number) at.0 leaves

one_more : {seen : Seen} {o : Ordinals} {series last first before : ℕ} {leaves : List Leaf} (count more : ℕ) → IsWalk seen o series (count + suc more) last first before leaves
    → IsWalk seen o series (suc (count + more)) last first before leaves
one_more count more walk = record { numbers = walk.numbers; count_is = omega (arith, walk.count_is); live = walk.live; links = walk.links }

-- A walk over leaves of which some were added passes all of these: they are spelled.
before_added : (seen : Seen) (o : Ordinals) (series number : ℕ) (at : Addr) (count from more last : ℕ) (leaves : List Leaf) → IsMissing seen o series number at
    → AreAdded seen o series count from more last → IsWalk seen o series (count + more) last (suc number) at.0 leaves → IsReachedFrom seen o series number at from count
before_added seen o series number at count from zero last leaves missing (inl none) walk = absurd (omega (arith, none, walk.count_is))
before_added seen o series number at count from zero last leaves missing (inr same) walk = record {
  leaves = leaves;
  reached = subst (λ (n : ℕ). IsWalk seen o series count n (suc number) at.0 leaves) same (record { numbers = walk.numbers; count_is = omega (arith, walk.count_is); live = walk.live; links = walk.links });
}
before_added seen o series number at count from (suc more) last [] missing (inl dead) walk =
    let same : ordinal_of last ≡ ordinal_of at.0 = ap ordinal_of walk.links in
    absurd (omega (arith, same, missing.live.ordinal.from, dead))
before_added seen o series number at count from (suc more) last [] missing (inr added) walk =
    absurd (other_leaf seen o series number added.1.1 at added.1.0 missing added.1.4 (added.1.2 ∙ walk.links) (omega (arith, added.1.3, walk.count_is)))
before_added seen o series number at count from (suc more) last (leaf ∷ leaves) missing (inl dead) walk =
    let end = last_of seen o series last (suc number) at.0 (count + more) leaf leaves (one_more count more walk) in
    let same : ordinal_of last ≡ ordinal_of end.leaf.address = ap ordinal_of (sym end.at) in
    absurd (omega (arith, same, end.live.ordinal.from, dead))
before_added seen o series number at count from (suc more) last (leaf ∷ leaves) missing (inr added) walk =
    let end = last_of seen o series last (suc number) at.0 (count + more) leaf leaves (one_more count more walk) in
    let elder : end.elder ≡ added.1.1 = one_elder seen series end.elder added.1.1 end.leaf added.1.0 end.is added.1.4 (end.at ∙ sym added.1.2) in
    before_added seen o series number at count from more added.1.1 end.front missing added.1.5
    (subst (λ (n : ℕ). IsWalk seen o series (count + more) n (suc number) at.0 end.front) elder end.reached)

-- ---- Leaves that a record names

-- a leaf that is named names its elder
elder_named : (seen : Seen) (o : Ordinals) (c : Content) (series number before : ℕ) (leaf : Leaf) → leaf.number ≡ suc number → IsLive o leaf.address → IsLeafOf seen series before leaf
    → IsNamed seen o c series 0 (suc number) leaf.address → IsNamed seen o c series 0 number before
elder_named seen o c series number before leaf same live is named =
    IsNamed.elder series 0 number leaf.address (record { series = series; level = 0; number = suc number; elder = before; references = []; value = _ }) named live (record {
      is = inl (record { level_is = refl; leaf = leaf; at = refl; number_is = same; is = is; value_is = refl; none = refl });
      series_is = refl;
      level_is = refl;
      number_is = refl;
    })

-- so does each that a walk reaches from one that is named
reached_named : (seen : Seen) (o : Ordinals) (c : Content) (series last number before : ℕ) (leaves : List Leaf) → IsWalk seen o series (suc number + length leaves) last (suc number) before leaves
    → IsNamed seen o c series 0 (number + length leaves) last → IsNamed seen o c series 0 number before
reached_named seen o c series last number before [] walk named =
    let none : number + 0 ≡ number = omega arith in
    subst (λ (n : ℕ). IsNamed seen o c series 0 n before) none (subst (λ (a : ℕ). IsNamed seen o c series 0 (number + 0) a) walk.links named)
reached_named seen o c series last number before (leaf ∷ leaves) walk named =
    let long : number + length (leaf ∷ leaves) ≡ suc number + length leaves = omega arith in
    elder_named seen o c series number before leaf walk.numbers.0 walk.live.0 walk.links.0
    (reached_named seen o c series last (suc number) leaf.address leaves
    (record { numbers = walk.numbers.1; count_is = omega arith; live = walk.live.1; links = walk.links.1 })
    (subst (λ (n : ℕ). IsNamed seen o c series 0 n last) long named))

-- the record names the last leaf by the rescue address of level 0
rescue_known : (all : List SeriesMeta) (n : ℕ) → 1 ≤ leaves_at all n → rescue_at (series_in all n).rescue 0 ≡ rescue_in all n
rescue_known [] n some = absurd (omega (arith, some))
rescue_known (s ∷ all) zero some = refl
rescue_known (s ∷ all) (suc n) some = rescue_known all n some

last_named : (seen : Seen) (o : Ordinals) (c : Content) (series count : ℕ) → leaves_at c.series series ≡ suc count → IsNamed seen o c series 0 count (rescue_in c.series series)
last_named seen o c series count is =
    let number : leaves_at c.series series / 32 ^ 0 - 1 ≡ count = omega (arith, is) in
    subst (λ (a : ℕ). IsNamed seen o c series 0 count a) (rescue_known c.series series (omega (arith, is)))
    (subst (λ (n : ℕ). IsNamed seen o c series 0 n (rescue_at (series_in c.series series).rescue 0)) number (IsNamed.rescue series 0 (omega arith) (omega (arith, is))))

-- ---- Damage

-- the leaf to which a walk comes and can't read is named by each record that has become this one
broken_named : (found c : Content) (file block series : ℕ) (files : Files) → Becomes (seen_in c.ordinals.volumes files) found c → IsBrokenIn c files series file block
    → IsDamagedNode (seen_in c.ordinals.volumes files) c.ordinals found file block
broken_named found c file block series files becomes broken =
    let seen : Seen = seen_in c.ordinals.volumes files in
    let count : ℕ = leaves_at found.series series in
    let more : ℕ = leaves_at c.series series - count in
    let all : count + more ≡ leaves_at c.series series = omega (arith, becomes.leaves series) in
    let walk = broken.walk in
    let first = before_added seen c.ordinals series broken.number broken.at count (rescue_in found.series series) more (rescue_in c.series series) broken.behind (record { live = broken.live; none = broken.none })
    (becomes.added series) (record { numbers = walk.numbers; count_is = walk.count_is ∙ sym all; live = walk.live; links = walk.links }) in
    let reached = first.reached in
    let long : leaves_at found.series series ≡ suc (broken.number + length first.leaves) = omega (arith, reached.count_is) in
    record {
      series = series;
      level = 0;
      number = broken.number;
      at = broken.at.0;
      named = reached_named seen c.ordinals found series (rescue_in found.series series) broken.number broken.at.0 first.leaves
          (record { numbers = reached.numbers; count_is = omega arith; live = reached.live; links = reached.links })
          (last_named seen c.ordinals found series (broken.number + length first.leaves) long);
      live = broken.live;
      file_is = broken.file_is;
      block_is = broken.block_is;
      none = none_leaf seen broken.at series broken.number broken.none;
    }

pub blamed : (found c : Content) (file block : ℕ) (files : Files) → AreOrdinals c.ordinals → Becomes (seen_in c.ordinals.volumes files) found c → IsDamagedLeaf c file block files
    → IsDamagedBy found file block files
blamed found c file block files are becomes damaged = record {
  now = c.ordinals;
  rules_are = are;
  grown = becomes.ordinals;
  damaged = subst (λ (v : ℕ). IsDamagedNode (seen_in v files) c.ordinals found file block) becomes.ordinals.volumes (broken_named found c file block damaged.0 files becomes damaged.1);
}

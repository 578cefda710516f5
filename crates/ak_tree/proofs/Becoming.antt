-- What a record becomes, whichever one it had come from.
use Rattle.std.proofs.Common.{◌≡◌, inl, inr, ◌∙◌, ℕ, zero, suc, ◌+◌, ◌-◌, ◌<◌, ◌≤◌, List, [], ◌∷◌, ◌++◌, length, drop, get_or, set, Bool, true, false, refl, sym, ap, subst, arith, length-append, length-drop, length-set}
use Rattle.std.proofs.lemmas.Bool.{cases_eq, cases_lt}
use Rattle.std.specs.Prelude.{◌≢◌, nat_lt, if◌then◌else◌}
use Rattle.ak_base.specs.declared.point.Addr.{Addr}
use Rattle.ak_gate.specs.Fits.{SameElsewhere}
use Rattle.ak_host.specs.Files.{Files}
use Rattle.ak_host.specs.Moments.{HostState}
use Rattle.ak_image.specs.Blocks.{Seen, seen_in}
use Rattle.ak_image.specs.Laid.{rescue_in}
use Rattle.ak_image.specs.Scans.{IsLeafOf}
use Rattle.ak_leaf.specs.Leaf.{SpellsLeaf}
use Rattle.ak_levels.specs.Carries.{carry_of}
use Rattle.ak_meta.specs.Contents.{Content, rescue_at}
use Rattle.ak_meta.specs.Leaves.{with_series, new_series, with_leaf_at, closed_in, leaves_at, addresses_from}
use Rattle.ak_meta.specs.declared.meta.SeriesMeta.{SeriesMeta}
use Rattle.ak_tree.specs.Later.{AreAdded, Becomes, KeepsOrigins}
use Rattle.ak_volumes.specs.Ordinals.{Ordinals, HasGrown, IsLive, newest_fill, ordinal_of, index_of, filled, switched}
use Rattle.ak_world.specs.Leaves.{Leaf}

-- ---- Ordinals

-- no fill gets smaller
fill_grows : (fills : List ℕ) (n i more x : ℕ) → x < get_or fills i 0 → x < get_or (set fills n (get_or fills n 0 + more)) i 0
fill_grows [] n i more x below = below
fill_grows (f ∷ fills) zero zero more x below = omega (arith, below)
fill_grows (f ∷ fills) zero (suc i) more x below = below
fill_grows (f ∷ fills) (suc n) zero more x below = below
fill_grows (f ∷ fills) (suc n) (suc i) more x below = fill_grows fills n i more x below

pub filled_live : (o : Ordinals) (blocks a : ℕ) → IsLive o a → IsLive (filled o blocks) a
filled_live o blocks a live =
    let n = length o.fills - 1 in
    let long = length-set o.fills n (newest_fill o + blocks) in
    record {
      ordinal = record { from = live.ordinal.from; to = omega (arith, long, live.ordinal.to) };
      index = fill_grows o.fills n (ordinal_of a - o.lo) blocks (index_of a) live.index;
    }

-- a group is entered
pub grown_filled : (o : Ordinals) (blocks : ℕ) → HasGrown o (filled o blocks)
grown_filled o blocks = record { volumes = refl; blocks = refl; lo = omega arith; live = λ a live from. filled_live o blocks a live }

-- a fill is where it was before the new one
fill_kept : (fills : List ℕ) (i x : ℕ) → x < get_or fills i 0 → x < get_or (fills ++ 0 ∷ []) i 0
fill_kept [] i x below = absurd (omega (arith, below))
fill_kept (f ∷ fills) zero x below = below
fill_kept (f ∷ fills) (suc i) x below = fill_kept fills i x below

-- and one place before it, where the oldest is taken out
fill_moved : (fills : List ℕ) (i x : ℕ) → 1 ≤ i → x < get_or fills i 0 → x < get_or (drop 1 fills ++ 0 ∷ []) (i - 1) 0
fill_moved [] i x some below = absurd (omega (arith, below))
fill_moved (f ∷ fills) zero x some below = absurd (omega (arith, some))
fill_moved (f ∷ fills) (suc i) x some below =
    let same : suc i - 1 ≡ i = omega arith in
    subst (λ (k : ℕ). x < get_or (fills ++ 0 ∷ []) k 0) (sym same) (fill_kept fills i x below)

one_more : (o : Ordinals) → HasGrown o (record o { fills = o.fills ++ 0 ∷ [] })
one_more o = record {
  volumes = refl;
  blocks = refl;
  lo = omega arith;
  live = λ a live from. record {
    ordinal = record { from = live.ordinal.from; to = omega (arith, live.ordinal.to, length-append o.fills (0 ∷ [])) };
    index = fill_kept o.fills (ordinal_of a - o.lo) (index_of a) live.index;
  };
}

one_over : (o : Ordinals) → HasGrown o (record o { lo = o.lo + 1; fills = drop 1 o.fills ++ 0 ∷ [] })
one_over o = record {
  volumes = refl;
  blocks = refl;
  lo = omega arith;
  live = λ a live from.
      let moved : ordinal_of a - o.lo - 1 ≡ ordinal_of a - (o.lo + 1) = omega arith in
      record {
        ordinal = record { from = from; to = omega (arith, live.ordinal.from, live.ordinal.to, length-append (drop 1 o.fills) (0 ∷ []), length-drop 1 o.fills) };
        index = subst (λ (k : ℕ). index_of a < get_or (drop 1 o.fills ++ 0 ∷ []) k 0) moved
            (fill_moved o.fills (ordinal_of a - o.lo) (index_of a) (omega (arith, from)) live.index);
      };
}

switched_goes : (o : Ordinals) (over : Bool)
    → HasGrown o (if over then record o { lo = o.lo + 1; fills = drop 1 o.fills ++ 0 ∷ [] } else record o { fills = o.fills ++ 0 ∷ [] })
switched_goes o true = one_over o
switched_goes o false = one_more o

-- an ordinal begins
grown_switched : (o : Ordinals) → HasGrown o (switched o)
grown_switched o = switched_goes o (nat_lt o.volumes (length o.fills + 1))

grown_same : (o : Ordinals) → HasGrown o o
grown_same o = record { volumes = refl; blocks = refl; lo = omega arith; live = λ a live from. live }

grown_on : (o p q : Ordinals) → HasGrown o p → HasGrown p q → HasGrown o q
grown_on o p q one two = record {
  volumes = two.volumes ∙ one.volumes;
  blocks = two.blocks ∙ one.blocks;
  lo = omega (arith, one.lo, two.lo);
  live = λ a live from. two.live a (one.live a live (omega (arith, two.lo, from))) from;
}

-- ---- Ordinals grow over leaves that were added

leaf_agrees : (seen later : Seen) (series elder : ℕ) (leaf : Leaf) → later leaf.address ≡ seen leaf.address → IsLeafOf seen series elder leaf → IsLeafOf later series elder leaf
leaf_agrees seen later series elder leaf same is = record {
  head = is.head;
  spells = subst (λ (block : List ℕ). SpellsLeaf block is.head leaf.points) (sym same) is.spells;
  series_is = is.series_is;
  number_is = is.number_is;
  address_is = is.address_is;
  elder_is = is.elder_is;
}

-- what is live in both reads as before
abbrev pub StaySame : Seen → Seen → Ordinals → Ordinals → Type 0
StaySame seen later o p = (a : ℕ) → IsLive o a → p.lo ≤ ordinal_of a → later a ≡ seen a

added_on : (seen later : Seen) (o p : Ordinals) (n leaves from more last : ℕ) → HasGrown o p → StaySame seen later o p → AreAdded seen o n leaves from more last → AreAdded later p n leaves from more last
added_on seen later o p n leaves from zero last grown same are = are
added_on seen later o p n leaves from (suc more) last grown same (inl dead) = inl (omega (arith, dead, grown.lo))
added_on seen later o p n leaves from (suc more) last grown same (inr are) = elim (cases_lt (ordinal_of last) p.lo) [
  | inl dead ↦ inl dead
  | inr above ↦
      let rest = are.1 in
      inr (
        grown.live last are.0 above,
        (
          rest.0,
          rest.1,
          rest.2,
          rest.3,
          leaf_agrees seen later n rest.1 rest.0 (subst (λ (a : ℕ). later a ≡ seen a) (sym rest.2) (same last are.0 above)) rest.4,
          added_on seen later o p n leaves from more rest.1 grown same rest.5,
        ),
      )
]

pub becomes_grown : (seen later : Seen) (found c : Content) (p : Ordinals) → HasGrown c.ordinals p → StaySame seen later c.ordinals p → Becomes seen found c → Becomes later found (record c { ordinals = p })
becomes_grown seen later found c p grown same is = record {
  limits = is.limits;
  ordinals = grown_on found.ordinals c.ordinals p is.ordinals grown;
  leaves = is.leaves;
  added = λ n.
      added_on seen later c.ordinals p n (leaves_at found.series n) (rescue_in found.series n) (leaves_at c.series n - leaves_at found.series n) (rescue_in c.series n) grown same (is.added n);
}

-- ---- A leaf is entered

leaves_here : (all : List SeriesMeta) (n last a : ℕ) → n < length all → leaves_at (with_leaf_at all n last a) n ≡ leaves_at all n + 1
leaves_here [] n last a within = absurd (omega arith)
leaves_here (s ∷ all) zero last a within = refl
leaves_here (s ∷ all) (suc n) last a within = leaves_here all n last a (omega arith)

-- other series have as many leaves as before
pub leaves_others : (all : List SeriesMeta) (n m last a : ℕ) → m ≢ n → leaves_at (with_leaf_at all n last a) m ≡ leaves_at all m
leaves_others [] n m last a other = refl
leaves_others (s ∷ all) zero zero last a other = absurd (other refl)
leaves_others (s ∷ all) zero (suc m) last a other = refl
leaves_others (s ∷ all) (suc n) zero last a other = refl
leaves_others (s ∷ all) (suc n) (suc m) last a other = leaves_others all n m last a (λ e. other (ap suc e))

rescue_first : (count a : ℕ) (rescue : List Addr) → rescue_at (addresses_from (count + 1) a ++ rescue) 0 ≡ a
rescue_first count a rescue =
    let next : suc count ≡ count + 1 = omega arith in
    subst (λ (k : ℕ). rescue_at (addresses_from k a ++ rescue) 0 ≡ a) next refl

rescue_entered : (all : List SeriesMeta) (n last a : ℕ) → n < length all → rescue_in (with_leaf_at all n last a) n ≡ a
rescue_entered [] n last a within = absurd (omega arith)
rescue_entered (s ∷ all) zero last a within = rescue_first (carry_of s.leaves) a (drop (carry_of s.leaves + 1) s.rescue)
rescue_entered (s ∷ all) (suc n) last a within = rescue_entered all n last a (omega arith)

rescue_others : (all : List SeriesMeta) (n m last a : ℕ) → m ≢ n → rescue_in (with_leaf_at all n last a) m ≡ rescue_in all m
rescue_others [] n m last a other = refl
rescue_others (s ∷ all) zero zero last a other = absurd (other refl)
rescue_others (s ∷ all) zero (suc m) last a other = refl
rescue_others (s ∷ all) (suc n) zero last a other = refl
rescue_others (s ∷ all) (suc n) (suc m) last a other = rescue_others all n m last a (λ e. other (ap suc e))

-- the leaves of a series that were added to those of a record, where it has so many and the last one stands here
abbrev AreAddedTo : Seen → Ordinals → Content → ℕ → ℕ → ℕ → Type 0
AreAddedTo seen o found n leaves last = AreAdded seen o n (leaves_at found.series n) (rescue_in found.series n) (leaves - leaves_at found.series n) last

module _ (seen : Seen) (found c : Content) (n last : ℕ) (leaf : Leaf) (within : n < length c.series) (live : IsLive c.ordinals leaf.address) (number : leaf.number ≡ leaves_at c.series n)
    (is : IsLeafOf seen n (rescue_in c.series n) leaf) (was : Becomes seen found c) where
  added_here : AreAddedTo seen c.ordinals found n (leaves_at c.series n + 1) leaf.address
  added_here =
      let few : leaves_at found.series n ≤ leaves_at c.series n = was.leaves n in
      let next : suc (leaves_at c.series n - leaves_at found.series n) ≡ leaves_at c.series n + 1 - leaves_at found.series n = omega (arith, few) in
      let all : leaf.number ≡ leaves_at found.series n + (leaves_at c.series n - leaves_at found.series n) = omega (arith, few, number) in
      subst (λ (more : ℕ). AreAdded seen c.ordinals n (leaves_at found.series n) (rescue_in found.series n) more leaf.address) next
      (inr (live, (leaf, rescue_in c.series n, refl, all, is, was.added n)))

  added_own : AreAddedTo seen c.ordinals found n (leaves_at (with_leaf_at c.series n last leaf.address) n) (rescue_in (with_leaf_at c.series n last leaf.address) n)
  added_own =
      subst (λ (k : ℕ). AreAddedTo seen c.ordinals found n k (rescue_in (with_leaf_at c.series n last leaf.address) n)) (sym (leaves_here c.series n last leaf.address within))
      (subst (λ (a : ℕ). AreAddedTo seen c.ordinals found n (leaves_at c.series n + 1) a) (sym (rescue_entered c.series n last leaf.address within)) added_here)

  added_other : (m : ℕ) → m ≢ n → AreAddedTo seen c.ordinals found m (leaves_at (with_leaf_at c.series n last leaf.address) m) (rescue_in (with_leaf_at c.series n last leaf.address) m)
  added_other m other =
      subst (λ (k : ℕ). AreAddedTo seen c.ordinals found m k (rescue_in (with_leaf_at c.series n last leaf.address) m)) (sym (leaves_others c.series n m last leaf.address other))
      (subst (λ (a : ℕ). AreAddedTo seen c.ordinals found m (leaves_at c.series m) a) (sym (rescue_others c.series n m last leaf.address other)) (was.added m))

  pub becomes_closed : Becomes seen found (closed_in c n last leaf.address)
  becomes_closed = record {
    limits = was.limits;
    ordinals = was.ordinals;
    leaves = λ m. elim (cases_eq m n) [
      | inl here ↦
          subst (λ (k : ℕ). leaves_at found.series k ≤ leaves_at (with_leaf_at c.series n last leaf.address) k) (sym here)
          (omega (arith, was.leaves n, leaves_here c.series n last leaf.address within))
      | inr other ↦ omega (arith, was.leaves m, leaves_others c.series n m last leaf.address other)
    ];
    added = λ m. elim (cases_eq m n) [
      | inl here ↦
          subst (λ (k : ℕ). AreAddedTo seen c.ordinals found k (leaves_at (with_leaf_at c.series n last leaf.address) k) (rescue_in (with_leaf_at c.series n last leaf.address) k)) (sym here) added_own
      | inr other ↦ added_other m other
    ];
  }

-- ---- A name is added

leaves_named : (all : List SeriesMeta) (name : List ℕ) (n : ℕ) → leaves_at (all ++ new_series name ∷ []) n ≡ leaves_at all n
leaves_named [] name zero = refl
leaves_named [] name (suc n) = refl
leaves_named (s ∷ all) name zero = refl
leaves_named (s ∷ all) name (suc n) = leaves_named all name n

rescue_named : (all : List SeriesMeta) (name : List ℕ) (n : ℕ) → n < length all → rescue_in (all ++ new_series name ∷ []) n ≡ rescue_in all n
rescue_named [] name n within = absurd (omega arith)
rescue_named (s ∷ all) name zero within = refl
rescue_named (s ∷ all) name (suc n) within = rescue_named all name n (omega arith)

none_behind : (all : List SeriesMeta) (n : ℕ) → length all ≤ n → leaves_at all n ≡ 0
none_behind [] n past = refl
none_behind (s ∷ all) zero past = absurd (omega arith)
none_behind (s ∷ all) (suc n) past = none_behind all n (omega arith)

added_named : (seen : Seen) (found c : Content) (name : List ℕ) (n : ℕ) → Becomes seen found c → AreAddedTo seen c.ordinals found n (leaves_at c.series n) (rescue_in (c.series ++ new_series name ∷ []) n)
added_named seen found c name n is = elim (cases_lt n (length c.series)) [
  | inl within ↦ subst (λ (a : ℕ). AreAddedTo seen c.ordinals found n (leaves_at c.series n) a) (sym (rescue_named c.series name n within)) (is.added n)
  | inr past ↦
      let none : leaves_at found.series n ≡ 0 = omega (arith, is.leaves n, none_behind c.series n past) in
      let no_more : 0 ≡ leaves_at c.series n - leaves_at found.series n = omega (arith, none_behind c.series n past) in
      subst (λ (more : ℕ). AreAdded seen c.ordinals n (leaves_at found.series n) (rescue_in found.series n) more (rescue_in (c.series ++ new_series name ∷ []) n)) no_more (inl none)
]

pub becomes_named : (seen : Seen) (found c : Content) (name : List ℕ) → Becomes seen found c → Becomes seen found (with_series c name)
becomes_named seen found c name is = record {
  limits = is.limits;
  ordinals = is.ordinals;
  leaves = λ n. omega (arith, is.leaves n, leaves_named c.series name n);
  added = λ n.
      subst (λ (k : ℕ). AreAddedTo seen c.ordinals found n k (rescue_in (c.series ++ new_series name ∷ []) n)) (sym (leaves_named c.series name n)) (added_named seen found c name n is);
}

-- ---- Records

-- each record is what it was
pub becomes_same : (seen : Seen) (c : Content) → Becomes seen c c
becomes_same seen c = record {
  limits = refl;
  ordinals = grown_same c.ordinals;
  leaves = λ n. omega arith;
  added = λ n.
      let no_more : 0 ≡ leaves_at c.series n - leaves_at c.series n = omega arith in
      subst (λ (more : ℕ). AreAdded seen c.ordinals n (leaves_at c.series n) (rescue_in c.series n) more (rescue_in c.series n)) no_more (inr refl);
}

-- where the files stay
pub origins_same : (old new : HostState) (c : Content) → new.files ≡ old.files → KeepsOrigins old new c c
origins_same old new c same found is = subst (λ (files : Files). Becomes (seen_in c.ordinals.volumes files) found c) (sym same) is

-- and the record becomes the same
pub origins_it : (old new : HostState) (c d : Content) → d ≡ c → new.files ≡ old.files → KeepsOrigins old new c d
origins_it old new c d same files = subst (KeepsOrigins old new c) (sym same) (origins_same old new c files)

pub origins_named : (host : HostState) (c : Content) (name : List ℕ) → KeepsOrigins host host c (with_series c name)
origins_named host c name found is = becomes_named (seen_in c.ordinals.volumes host.files) found c name is

-- ordinals grow, where what is live in both reads as before
origins_grown : (old new : HostState) (c : Content) (p : Ordinals) → HasGrown c.ordinals p → StaySame (seen_in c.ordinals.volumes old.files) (seen_in c.ordinals.volumes new.files) c.ordinals p
    → KeepsOrigins old new c (record c { ordinals = p })
origins_grown old new c p grown same found is =
    subst (λ (v : ℕ). Becomes (seen_in v new.files) found (record c { ordinals = p })) (sym grown.volumes)
    (becomes_grown (seen_in c.ordinals.volumes old.files) (seen_in c.ordinals.volumes new.files) found c p grown same is)

-- no ordinal stands in file 0
seen_elsewhere : (volumes : ℕ) (old new : Files) → SameElsewhere old new → (a : ℕ) → seen_in volumes new a ≡ seen_in volumes old a
seen_elsewhere volumes old new same a = ap (λ (blocks : List (List ℕ)). get_or blocks (index_of a) []) (same.others _ (λ e. absurd (omega (arith, e))))

-- a view is saved
pub origins_saved : (old new : HostState) (c : Content) → SameElsewhere old.files new.files → KeepsOrigins old new c c
origins_saved old new c same = origins_grown old new c c.ordinals (grown_same c.ordinals) (λ a live from. seen_elsewhere c.ordinals.volumes old.files new.files same a)

-- and an ordinal begins
pub origins_switched : (old new : HostState) (c : Content) → SameElsewhere old.files new.files → KeepsOrigins old new c (record c { ordinals = switched c.ordinals })
origins_switched old new c same = origins_grown old new c (switched c.ordinals) (grown_switched c.ordinals) (λ a live from. seen_elsewhere c.ordinals.volumes old.files new.files same a)

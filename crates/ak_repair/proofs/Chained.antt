-- A chain has all live leaves of its series.
use Rattle.std.proofs.Common.{◌≡◌, ◌⊎◌, inl, inr, ◌∙◌, ℕ, zero, suc, ◌+◌, ◌<◌, List, [], ◌∷◌, length, map, get_or, refl, sym, ap, ap₂, subst, arith}
use Rattle.std.proofs.lemmas.Bool.{cases_lt}
use Rattle.std.specs.List.{AllByRecursion}
use Rattle.ak_base.specs.declared.point.Addr.{Addr}
use Rattle.ak_bytes.specs.declared.head.Head.{Head}
use Rattle.ak_cache.specs.Leaves.{SpellsNone}
use Rattle.ak_host.specs.Files.{Files}
use Rattle.ak_image.proofs.Places.{AtEach, live_rows, scan_at}
use Rattle.ak_image.specs.Blocks.{Seen, seen_in}
use Rattle.ak_image.specs.Chains.{IsGone, AreLinked, IsChain}
use Rattle.ak_image.specs.Laid.{AreLaid, rescue_in}
use Rattle.ak_image.specs.Scans.{IsLeafOf, IsScan}
use Rattle.ak_leaf.proofs.Blocks.{one_leaf}
use Rattle.ak_leaf.specs.Leaf.{SpellsLeaf}
use Rattle.ak_meta.specs.Contents.{Content, rescue_at}
use Rattle.ak_meta.specs.Leaves.{address_at, leaves_at}
use Rattle.ak_meta.specs.declared.meta.SeriesMeta.{SeriesMeta}
use Rattle.ak_repair.specs.Walks.{IsAt, IsWalk, IsWhole, AreWalked, IsBroken, IsWholeIn, IsBrokenIn}
use Rattle.ak_volumes.specs.Ordinals.{Ordinals, AreOrdinals, IsLive}
use Rattle.ak_world.specs.Leaves.{Leaf}

-- ---- Two walks from one address

same_leaf : (l m : Leaf) → l.number ≡ m.number → l.address ≡ m.address → l.points ≡ m.points → l ≡ m
same_leaf l m number address points = λ i. record { number = number i; address = address i; points = points i }

-- an address has one leaf, with one elder
one_at : (seen : Seen) (series b c : ℕ) (x y : Leaf) → IsLeafOf seen series b x → IsLeafOf seen series c y → x.address ≡ y.address → (b ≡ c) × (x ≡ y)
one_at seen series b c x y one two place =
    let spells : SpellsLeaf (seen x.address) two.head y.points = subst (λ (a : ℕ). SpellsLeaf (seen a) two.head y.points) (sym place) two.spells in
    let same = one_leaf (seen x.address) one.head two.head x.points y.points one.spells spells in (
      sym one.elder_is ∙ ap (λ (h : Head). h.elder.0) same.0 ∙ two.elder_is,
      same_leaf x y (sym one.number_is ∙ ap (λ (h : Head). h.number) same.0 ∙ two.number_is) place same.1,
    )

-- as many leaves are the same leaves
same_links : (seen : Seen) (series b c last : ℕ) (xs ys : List Leaf) → length xs ≡ length ys → AreLinked seen series b xs last → AreLinked seen series c ys last → (b ≡ c) × (xs ≡ ys)
same_links seen series b c last [] [] long one two = (sym one ∙ two, refl)
same_links seen series b c last [] (y ∷ ys) long one two = absurd (omega arith)
same_links seen series b c last (x ∷ xs) [] long one two = absurd (omega arith)
same_links seen series b c last (x ∷ xs) (y ∷ ys) long one two =
    let rest = same_links seen series x.address y.address last xs ys (omega (arith, long)) one.1 two.1 in
    let here = one_at seen series b c x y one.0 two.0 rest.0 in
    (here.0, ap₂ (λ (l : Leaf) (ls : List Leaf). l ∷ ls) here.1 rest.1)

-- where more leaves are linked, one of them stands before the fewer
record IsBefore (seen : Seen) (o : Ordinals) (series b count fewer : ℕ) : Type 0 where
  leaf : Leaf
  elder : ℕ
  at : leaf.address ≡ b
  live : IsLive o b
  is : IsLeafOf seen series elder leaf
  number_is : suc leaf.number + fewer ≡ count

one_before : (seen : Seen) (o : Ordinals) (series b c last first count : ℕ) (xs ys : List Leaf) → length xs < length ys → AreLinked seen series b xs last → IsWalk seen o series count last first c ys
    → IsBefore seen o series b count (length xs)
one_before seen o series b c last first count xs [] less one two = absurd (omega arith)
one_before seen o series b c last first count xs (y ∷ ys) less one two = elim (cases_lt (length xs) (length ys)) [
  | inl more ↦ one_before seen o series b y.address last (suc first) count xs ys more one (record { numbers = two.numbers.1; count_is = omega (arith, two.count_is); live = two.live.1; links = two.links.1 })
  | inr few ↦
      let here = same_links seen series b y.address last xs ys (omega (arith, less, few)) one two.links.1 in
      record {
        leaf = y;
        elder = c;
        at = sym here.0;
        live = subst (IsLive o) (sym here.0) two.live.0;
        is = two.links.0;
        number_is = omega (arith, two.numbers.0, two.count_is, less, few);
      }
]

-- ---- Walks along a chain

-- a chain of live leaves
pub record IsAlive (seen : Seen) (o : Ordinals) (series count last : ℕ) (leaves : List Leaf) : Type 0 where
  pub first : ℕ
  pub before : ℕ
  pub walk : IsWalk seen o series count last first before leaves
  pub gone : IsGone o.lo first before

not_gone : (o : Ordinals) (first before : ℕ) → 0 < first → IsLive o before → IsGone o.lo first before → ⊥
not_gone o zero before some live gone = absurd (omega arith)
not_gone o (suc m) before some live gone = omega (arith, live.ordinal.from, gone)

not_ended : (o : Ordinals) (first before : ℕ) → 0 < first → IsLive o before → (first ≡ 0) ⊎ (¬ IsLive o before) → ⊥
not_ended o first before some live (inl none) = omega (arith, some, none)
not_ended o first before some live (inr dead) = dead live

-- a walk doesn't go on behind a chain
not_more : {seen : Seen} {o : Ordinals} {series count last first before : ℕ} {xs ys : List Leaf} → IsAlive seen o series count last xs → IsWalk seen o series count last first before ys → length xs < length ys → ⊥
not_more {seen} {o} {series} {count} {last} {first} {before} {xs} {ys} chain walk more =
    let found = one_before seen o series chain.before before last first count xs ys more chain.walk.links walk in
    not_gone o chain.first chain.before (omega (arith, found.number_is, chain.walk.count_is)) found.live chain.gone

-- a whole walk has the leaves of the chain
pub whole_alive : {seen : Seen} {o : Ordinals} {series count last : ℕ} {xs ys : List Leaf} → IsAlive seen o series count last xs → IsWhole seen o series count last ys → ys ≡ xs
whole_alive {seen} {o} {series} {count} {last} {xs} {ys} chain whole = elim (cases_lt (length ys) (length xs)) [
  | inl fewer ↦
      let found = one_before seen o series whole.before chain.before last chain.first count ys xs fewer whole.walk.links chain.walk in
      absurd (not_ended o whole.first whole.before (omega (arith, found.number_is, whole.walk.count_is)) found.live whole.ends)
  | inr others ↦ elim (cases_lt (length xs) (length ys)) [
    | inl more ↦ absurd (not_more chain whole.walk more)
    | inr same ↦ (same_links seen series whole.before chain.before last ys xs (omega (arith, others, same)) whole.walk.links chain.walk.links).1
  ]
]

-- the leaf that is asked for
spelled_before : {seen : Seen} {o : Ordinals} {series count fewer number : ℕ} {a : Addr} → IsBefore seen o series a.0 count fewer → suc number + fewer ≡ count → SpellsNone (seen a.0) a series number → ⊥
spelled_before {seen} {o} {series} {count} {fewer} {number} {a} found same none = none found.is.head found.leaf.points (record {
  leaf = subst (λ (b : ℕ). SpellsLeaf (seen b) found.is.head found.leaf.points) found.at found.is.spells;
  series_is = found.is.series_is;
  number_is = found.is.number_is ∙ omega (arith, found.number_is, same);
  addr_is = ap address_at (found.is.address_is ∙ found.at);
})

-- a chain isn't broken
pub not_broken : {seen : Seen} {o : Ordinals} {series count last file block : ℕ} {xs : List Leaf} → IsAlive seen o series count last xs → IsBroken seen o series count last file block → ⊥
not_broken {seen} {o} {series} {count} {last} {file} {block} {xs} chain broken = elim (cases_lt (length broken.behind) (length xs)) [
  | inl fewer ↦
      let found = one_before seen o series broken.at.0 chain.before last chain.first count broken.behind xs fewer broken.walk.links chain.walk in
      spelled_before found broken.walk.count_is broken.none
  | inr others ↦ elim (cases_lt (length xs) (length broken.behind)) [
    | inl more ↦ not_more chain broken.walk more
    | inr same ↦
        let at = (same_links seen series chain.before broken.at.0 last xs broken.behind (omega (arith, others, same)) chain.walk.links broken.walk.links).0 in
        not_gone o chain.first chain.before (omega (arith, others, same, chain.walk.count_is, broken.walk.count_is)) (subst (IsLive o) (sym at) broken.live) chain.gone
  ]
]

-- ---- Chains of a laid disk

all_live : (o : Ordinals) (leaves : List Leaf) → AtEach (IsLive o) leaves → AllByRecursion (λ (leaf : Leaf). IsLive o leaf.address) leaves
all_live o [] each = tt
all_live o (leaf ∷ leaves) each = (each.0, all_live o leaves each.1)

-- a chain that a scan finds is one of live leaves
pub scan_alive : (seen : Seen) (o : Ordinals) (series : ℕ) (known : SeriesMeta) (leaves : List Leaf) → AreOrdinals o → IsScan seen series o.lo o.fills leaves → IsChain seen o.lo series known leaves
    → IsAlive seen o series known.leaves (rescue_at known.rescue 0) leaves
scan_alive seen o series known leaves are scan chain = record {
  first = chain.first;
  before = chain.before;
  walk = record {
    numbers = chain.numbers;
    count_is = chain.count;
    live = all_live o leaves (scan_at (IsLive o) seen series o.lo o.fills leaves (live_rows o (IsLive o) are (λ a live. live)) scan);
    links = chain.links;
  };
  gone = chain.gone;
}

-- the leaves of a series
pub record IsLaidAt (seen : Seen) (lo : ℕ) (fills : List ℕ) (series n : ℕ) (known : SeriesMeta) (kept : List (List Leaf)) : Type 0 where
  pub leaves : List Leaf
  pub is : IsAt kept n leaves
  pub scan : IsScan seen series lo fills leaves
  pub chain : IsChain seen lo series known leaves

pub laid_at : (seen : Seen) (lo : ℕ) (fills : List ℕ) (from n series : ℕ) (all : List SeriesMeta) (kept : List (List Leaf)) (known : SeriesMeta) → from + n ≡ series
    → AreLaid seen lo fills from all kept → IsAt all n known → IsLaidAt seen lo fills series n known kept
laid_at seen lo fills from n series [] kept known same laid is = absurd is
laid_at seen lo fills from zero series (s ∷ all) kept known same laid is =
    let here : from ≡ series = omega (arith, same) in
    record {
      leaves = laid.0;
      is = subst (λ (k : List (List Leaf)). IsAt k 0 laid.0) (sym laid.2) refl;
      scan = subst (λ (m : ℕ). IsScan seen m lo fills laid.0) here laid.3;
      chain = subst (λ (m : ℕ). IsChain seen lo m known laid.0) here (subst (λ (m : SeriesMeta). IsChain seen lo from m laid.0) is laid.4);
    }
laid_at seen lo fills from (suc n) series (s ∷ all) kept known same laid is =
    let on = laid_at seen lo fills (suc from) n series all laid.1 known (omega (arith, same)) laid.5 is in
    record {
      leaves = on.leaves;
      is = subst (λ (k : List (List Leaf)). IsAt k (suc n) on.leaves) (sym laid.2) on.is;
      scan = on.scan;
      chain = on.chain;
    }

-- ---- The series in a place

pub at_one : {A : Type 0} (xs : List A) (n : ℕ) (x y : A) → IsAt xs n x → IsAt xs n y → x ≡ y
at_one [] n x y one two = absurd one
at_one (z ∷ xs) zero x y one two = sym one ∙ two
at_one (z ∷ xs) (suc n) x y one two = at_one xs n x y one two

pub at_map : {A B : Type 0} (f : A → B) (xs : List A) (n : ℕ) (x : A) → IsAt xs n x → IsAt (map f xs) n (f x)
at_map f [] n x is = absurd is
at_map f (y ∷ xs) zero x is = ap f is
at_map f (y ∷ xs) (suc n) x is = at_map f xs n x is

pub at_place : {A : Type 0} (xs : List A) (n : ℕ) (x : A) → n < length xs → x ≡ get_or xs n x → IsAt xs n x
at_place [] n x within is = absurd (omega arith)
at_place (y ∷ xs) zero x within is = sym is
at_place (y ∷ xs) (suc n) x within is = at_place xs n x (omega arith) is

pub at_some : {A : Type 0} (xs : List A) (n : ℕ) → n < length xs → (x : A) × IsAt xs n x
at_some [] n within = absurd (omega arith)
at_some (x ∷ xs) zero within = (x, refl)
at_some (x ∷ xs) (suc n) within = at_some xs n (omega arith)

pub at_within : {A : Type 0} (xs : List A) (n : ℕ) (x : A) → IsAt xs n x → n < length xs
at_within [] n x is = absurd is
at_within (y ∷ xs) zero x is = omega arith
at_within (y ∷ xs) (suc n) x is = omega (arith, at_within xs n x is)

pub leaves_at_place : (all : List SeriesMeta) (n : ℕ) (known : SeriesMeta) → IsAt all n known → leaves_at all n ≡ known.leaves
leaves_at_place [] n known is = absurd is
leaves_at_place (s ∷ all) zero known is = ap (λ (m : SeriesMeta). m.leaves) is
leaves_at_place (s ∷ all) (suc n) known is = leaves_at_place all n known is

pub rescue_in_place : (all : List SeriesMeta) (n : ℕ) (known : SeriesMeta) → IsAt all n known → rescue_in all n ≡ rescue_at known.rescue 0
rescue_in_place [] n known is = absurd is
rescue_in_place (s ∷ all) zero known is = ap (λ (m : SeriesMeta). rescue_at m.rescue 0) is
rescue_in_place (s ∷ all) (suc n) known is = rescue_in_place all n known is

-- ---- Walks of a record

pub broken_in : (c : Content) (files : Files) (n : ℕ) (o : Ordinals) (known : SeriesMeta) (file block : ℕ) → o ≡ c.ordinals → IsAt c.series n known
    → IsBroken (seen_in o.volumes files) o n known.leaves (rescue_at known.rescue 0) file block → IsBrokenIn c files n file block
broken_in c files n o known file block same is broken =
    let there : IsBroken (seen_in c.ordinals.volumes files) c.ordinals n known.leaves (rescue_at known.rescue 0) file block =
    subst (λ (v : Ordinals). IsBroken (seen_in v.volumes files) v n known.leaves (rescue_at known.rescue 0) file block) same broken in
    let counted : IsBroken (seen_in c.ordinals.volumes files) c.ordinals n (leaves_at c.series n) (rescue_at known.rescue 0) file block =
    subst (λ (m : ℕ). IsBroken (seen_in c.ordinals.volumes files) c.ordinals n m (rescue_at known.rescue 0) file block) (sym (leaves_at_place c.series n known is)) there in
    subst (λ (m : ℕ). IsBroken (seen_in c.ordinals.volumes files) c.ordinals n (leaves_at c.series n) m file block) (sym (rescue_in_place c.series n known is)) counted

pub whole_in : (c : Content) (files : Files) (n : ℕ) (o : Ordinals) (known : SeriesMeta) (leaves : List Leaf) → o ≡ c.ordinals → IsAt c.series n known
    → IsWhole (seen_in o.volumes files) o n known.leaves (rescue_at known.rescue 0) leaves → IsWholeIn c files n leaves
whole_in c files n o known leaves same is whole =
    let there : IsWhole (seen_in c.ordinals.volumes files) c.ordinals n known.leaves (rescue_at known.rescue 0) leaves =
    subst (λ (v : Ordinals). IsWhole (seen_in v.volumes files) v n known.leaves (rescue_at known.rescue 0) leaves) same whole in
    let counted : IsWhole (seen_in c.ordinals.volumes files) c.ordinals n (leaves_at c.series n) (rescue_at known.rescue 0) leaves =
    subst (λ (m : ℕ). IsWhole (seen_in c.ordinals.volumes files) c.ordinals n m (rescue_at known.rescue 0) leaves) (sym (leaves_at_place c.series n known is)) there in
    subst (λ (m : ℕ). IsWhole (seen_in c.ordinals.volumes files) c.ordinals n (leaves_at c.series n) m leaves) (sym (rescue_in_place c.series n known is)) counted

-- the addresses of a walk, where the same is seen
pub walked_same : {o : Ordinals} {files : Files} {n count last : ℕ} {addresses : List Addr} (v : Ordinals) (read : Files) (as_slice : List Addr) → v ≡ o → read ≡ files → as_slice ≡ addresses
    → (walked : AreWalked (seen_in o.volumes files) o n count last addresses) → (again : AreWalked (seen_in v.volumes read) v n count last as_slice) × (again.leaves ≡ walked.leaves)
walked_same {o} {files} {n} {count} {last} {addresses} v read as_slice same still slice walked =
    let there : IsWhole (seen_in v.volumes files) v n count last walked.leaves = subst (λ (w : Ordinals). IsWhole (seen_in w.volumes files) w n count last walked.leaves) (sym same) walked.whole in (
      record {
        leaves = walked.leaves;
        addresses_are = slice ∙ walked.addresses_are;
        whole = subst (λ (f : Files). IsWhole (seen_in v.volumes f) v n count last walked.leaves) (sym still) there;
      },
      refl,
    )

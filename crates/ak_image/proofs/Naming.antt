-- On a laid disk no node that the record names is damaged.
use Rattle.std.proofs.Common.{◌≡◌, inl, inr, ◌∙◌, ℕ, suc, ◌+◌, ◌-◌, ◌*◌, ◌/◌, ◌^◌, ◌<◌, ◌≤◌, List, [], ◌∷◌, ◌++◌, length, sym, ap, subst, arith, length-append}
use Rattle.std.proofs.lemmas.Bool.{cases_lt}
use Rattle.ak_forest.proofs.Arith.{end_made, made_end, times_le, power_up, fan_pos}
use Rattle.ak_forest.specs.Numbers.{made, end}
use Rattle.ak_forest.specs.Tree.{Node, Reference, Link, Elder, Children, Family, Stands, spot, width}
use Rattle.ak_image.proofs.OneNode.{one_node}
use Rattle.ak_image.proofs.Rescuing.{leaves_in, leaves_past, point_low, tree_in}
use Rattle.ak_image.specs.Blocks.{Seen}
use Rattle.ak_image.specs.Laid.{IsLaid, kept_in, series_in}
use Rattle.ak_image.specs.Named.{IsNamed, rescue, elder, child, IsNodeOf, IsDamagedNode}
use Rattle.ak_image.specs.Nodes.{IsNodeAt, Reads}
use Rattle.ak_image.specs.Trees.{IsTreeOf, total_of, point_of}
use Rattle.ak_meta.specs.Contents.{Content, rescue_at}
use Rattle.ak_meta.specs.Leaves.{leaves_at}
use Rattle.ak_summary.specs.declared.summary.Summary.{Summary}
use Rattle.ak_volumes.specs.Ordinals.{Ordinals, IsLive}
use Rattle.ak_world.specs.Leaves.{Leaf}
use Rattle.ak_world.specs.Views.{address_of}

-- ---- Links

-- a link to a node that is live
pub record IsThere (low : ℕ) (home : ℕ → ℕ) (k j at : ℕ) : Type 0 where
  pub below : low < end 32 k j
  pub place : at ≡ spot 32 home k j
  pub from : made 32 k low ≤ j

pub link_there : (o : Ordinals) (low : ℕ) (home : ℕ → ℕ) (k j at : ℕ) → Link 32 o.lo low home k j at → IsLive o at → IsThere low home k j at
link_there o low home k j at link live = elim (cases_lt low (end 32 k j)) [
  | inl below ↦ record {
    below = below;
    place = link.live below;
    from = elim (cases_lt j (made 32 k low)) [
      | inl less ↦ absurd (omega (arith, below, end_made 32 k j low (omega arith) less))
      | inr past ↦ past
    ];
  }
  | inr gone ↦ let dead : at < o.lo * width = link.dead gone in absurd (omega (arith, dead, live.ordinal.from))
]

-- one child of many
child_there : (fan lo low : ℕ) (home : ℕ → ℕ) (total : ℕ → ℕ → Summary) (k j : ℕ) (front : List Reference) (r : Reference) (behind : List Reference) → Children fan lo low home total k j (front ++ r ∷ behind)
    → Link fan lo low home k (j + length front) r.child
child_there fan lo low home total k j [] r behind each = let here : j ≡ j + 0 = omega arith in subst (λ (i : ℕ). Link fan lo low home k i r.child) here each.0.link
child_there fan lo low home total k j (s ∷ front) r behind each =
    let here : suc j + length front ≡ j + suc (length front) = omega arith in
    subst (λ (i : ℕ). Link fan lo low home k i r.child) here (child_there fan lo low home total k (suc j) front r behind each.1)

-- a child of a node that was made was made
child_made : (k j i leaves : ℕ) → j < made 32 (suc k) leaves → i < suc j * 32 → i < made 32 k leaves
child_made k j i leaves above within =
    let whole : end 32 (suc k) j ≤ leaves = end_made 32 (suc k) j leaves (omega arith) above in
    let under : suc i * 32 ^ k ≤ suc j * 32 * 32 ^ k = times_le (suc i) (suc j * 32) (32 ^ k) (omega (arith, within)) in
    made_end 32 k i leaves (omega arith) (omega (arith, whole, under, power_up 32 k (suc j)))

module _ (seen : Seen) (c : Content) (kept : List (List Leaf)) (laid : IsLaid seen c kept) where
  abbrev count_of : ℕ → ℕ
  count_of n = (series_in c.series n).leaves

  abbrev low_of : ℕ → ℕ
  low_of n = count_of n - length (kept_in kept n)

  abbrev home_of : ℕ → ℕ → ℕ
  home_of n = address_of (kept_in kept n)

  -- a link to a node that was made
  record IsPlaced (n k j at : ℕ) : Type 0 where
    within : n < length c.series
    made_is : j < made 32 k (count_of n)
    link : Link 32 c.ordinals.lo (low_of n) (home_of n) k j at

  tree_at : (n : ℕ) → n < length c.series → IsTreeOf c.ordinals seen n (series_in c.series n) (kept_in kept n)
  tree_at n within = let same : 0 + n ≡ n = omega arith in subst (λ (x : ℕ). IsTreeOf c.ordinals seen x (series_in c.series n) (kept_in kept n)) same (tree_in c.ordinals seen 0 n c.series kept within laid.trees)

  -- where it is live, the node stands there
  abbrev Standing : ℕ → ℕ → ℕ → Type 0
  Standing n k j = Stands 32 c.ordinals.lo n (low_of n) (home_of n) (total_of (kept_in kept n)) (Reads c.ordinals seen) k j

  stands_at : (n k j at : ℕ) → IsPlaced n k j at → IsLive c.ordinals at → (s : Standing n k j) × IsNodeAt seen at s.node
  stands_at n k j at placed live =
      let there = link_there c.ordinals (low_of n) (home_of n) k j at placed.link live in
      let s = (tree_at n placed.within).nodes k j there.below (end_made 32 k j (count_of n) (omega arith) placed.made_is) in
      (s, subst (λ (a : ℕ). IsNodeAt seen a s.node) (sym there.place) s.read.1)

  rescue_placed : (n k : ℕ) → k ≤ 10 → 32 ^ k ≤ leaves_at c.series n → IsPlaced n k (leaves_at c.series n / 32 ^ k - 1) (rescue_at (series_in c.series n).rescue k)
  rescue_placed n k low some =
      let count : count_of n ≡ leaves_at c.series n = leaves_in c.series n in
      let made_one : 0 < made 32 k (count_of n) = made_end 32 k 0 (count_of n) (omega arith) (omega (arith, some, count)) in
      let within : n < length c.series = elim (cases_lt n (length c.series)) [
        | inl below ↦ below
        | inr past ↦ absurd (omega (arith, leaves_past c.series n past, some, fan_pos 32 k (omega arith)))
      ] in
      let before : made 32 k (count_of n) ≡ suc (leaves_at c.series n / 32 ^ k - 1) = omega (arith, made_one, ap (λ (x : ℕ). x / 32 ^ k) count) in
      let before_is : Elder 32 c.ordinals.lo (low_of n) (home_of n) k (suc (leaves_at c.series n / 32 ^ k - 1)) (rescue_at (series_in c.series n).rescue k) =
      subst (Elder 32 c.ordinals.lo (low_of n) (home_of n) k (suc (leaves_at c.series n / 32 ^ k - 1))) (point_low (series_in c.series n).rescue k low)
      (subst (λ (j : ℕ). Elder 32 c.ordinals.lo (low_of n) (home_of n) k j (point_of (series_in c.series n).rescue k)) before ((tree_at n within).rescues k)) in
      record { within = within; made_is = omega (arith, before); link = before_is }

  elder_placed : (n k j at : ℕ) (node : Node) → IsPlaced n k (suc j) at → IsLive c.ordinals at → IsNodeOf seen n k (suc j) at node → IsPlaced n k j node.elder
  elder_placed n k j at node placed live is =
      let s = stands_at n k (suc j) at placed live in
      let same = one_node seen at s.0.node node s.1 is.is in
      record {
        within = placed.within;
        made_is = omega (arith, placed.made_is);
        link = subst (Elder 32 c.ordinals.lo (low_of n) (home_of n) k (suc j)) same.3 s.0.elder;
      }

  child_placed : (n k j at : ℕ) (node : Node) (front : List Reference) (r : Reference) (behind : List Reference) → IsPlaced n (suc k) j at → IsLive c.ordinals at → IsNodeOf seen n (suc k) j at node
      → node.references ≡ front ++ r ∷ behind → IsPlaced n k (32 * j + (31 - length behind)) r.child
  child_placed n k j at node front r behind placed live is parted =
      let s = stands_at n (suc k) j at placed live in
      let same = one_node seen at s.0.node node s.1 is.is in
      let all = front ++ r ∷ behind in
      let family : Family 32 c.ordinals.lo (low_of n) (home_of n) (total_of (kept_in kept n)) k j all =
      subst (Family 32 c.ordinals.lo (low_of n) (home_of n) (total_of (kept_in kept n)) k j) (same.4 ∙ parted) s.0.body in
      let many : length all ≡ length front + suc (length behind) = length-append front (r ∷ behind) in
      let number : suc j * 32 - length all + length front ≡ 32 * j + (31 - length behind) = omega (arith, many, family.most) in
      record {
        within = placed.within;
        made_is = child_made k j (32 * j + (31 - length behind)) (count_of n) placed.made_is (omega arith);
        link = subst (λ (i : ℕ). Link 32 c.ordinals.lo (low_of n) (home_of n) k i r.child) number
            (child_there 32 c.ordinals.lo (low_of n) (home_of n) (total_of (kept_in kept n)) k (suc j * 32 - length all) front r behind family.each);
      }

  named_placed : (n k j at : ℕ) → IsNamed seen c.ordinals c n k j at → IsPlaced n k j at
  named_placed n k j at (rescue series level low some) = rescue_placed series level low some
  named_placed n k j at (elder series level number above node named live is) = elder_placed series level number above node (named_placed series level (suc number) above named) live is
  named_placed n k j at (child series level number above node front r behind named live is parted) =
      child_placed series level number above node front r behind (named_placed series (suc level) number above named) live is parted

  pub none_damaged : (file block : ℕ) → IsDamagedNode seen c.ordinals c file block → ⊥
  none_damaged file block damaged =
      let s = stands_at damaged.series damaged.level damaged.number damaged.at (named_placed damaged.series damaged.level damaged.number damaged.at damaged.named) damaged.live in
      damaged.none s.0.node s.1 s.0.of_series s.0.of_level s.0.numbered

-- A block and the leaf that it spells.
use Rattle.std.proofs.Common.{inl, inr, ◌≡◌, ◌+◌, ◌-◌, ◌≤◌, ℕ, List, [], ◌++◌, length, take, drop, replicate, refl, sym, ap, ap₂, ◌∙◌, subst, arith, append_assoc, append-nil, length-drop}
use Rattle.std.proofs.lemmas.List.{take-append-drop, take_at, drop_at, drop-drop, drop_all, take_all}
use Rattle.std.proofs.Math.Seq.{take-add}
use borrow.Rule.Slice.PartMut.{put_mid}
use Rattle.std.specs.List.{AllByRecursion}
use Rattle.ak_base.specs.Points.{IsPoint, IsHistory}
use Rattle.ak_base.specs.declared.point.Point.{Point}
use Rattle.ak_bytes.specs.Fields.{IsPut}
use Rattle.ak_bytes.specs.Head.{IsHead, head_bytes}
use Rattle.ak_bytes.specs.declared.head.Head.{Head}
use Rattle.ak_bytes.proofs.Heads.{length-head_bytes, head_same}
use Rattle.ak_bytes.proofs.Parts.{length-part, zeros_own}
use Rattle.ak_leaf.specs.Spelling.{start, spelling, leaf_size}
use Rattle.ak_leaf.specs.Leaf.{SpellsLeaf}
use Rattle.ak_leaf.proofs.Spellings.{may_follow, spelling_one}

-- the three parts of a leaf's block
pub record Parts (bytes : List ℕ) (h : Head) (ps : List Point) : Type 0 where
  pub front : take 64 bytes ≡ head_bytes h
  pub middle : take (leaf_size ps) (drop 64 bytes) ≡ spelling ps
  pub back : drop (64 + leaf_size ps) bytes ≡ replicate (4032 - leaf_size ps) 0

pub parts_of : (bytes : List ℕ) (h : Head) (ps : List Point) → bytes ≡ head_bytes h ++ spelling ps ++ replicate (4032 - leaf_size ps) 0 → Parts bytes h ps
parts_of bytes h ps e =
    let a = head_bytes h in
    let b = spelling ps in
    let z : List ℕ = replicate (4032 - leaf_size ps) 0 in
    let whole : bytes ≡ a ++ (b ++ z) = e ∙ append_assoc a b z in
    let rest : drop 64 bytes ≡ b ++ z = ap (drop 64) whole ∙ drop_at a (b ++ z) 64 (length-head_bytes h) in
    record {
      front = ap (take 64) whole ∙ take_at a (b ++ z) 64 (length-head_bytes h);
      middle = ap (take (leaf_size ps)) rest ∙ take_at b z (leaf_size ps) refl;
      back = sym (drop-drop (leaf_size ps) 64 bytes) ∙ ap (drop (leaf_size ps)) rest ∙ drop_at b z (leaf_size ps) refl;
    }

pub parts_make : (bytes : List ℕ) (h : Head) (ps : List Point) → Parts bytes h ps → bytes ≡ head_bytes h ++ spelling ps ++ replicate (4032 - leaf_size ps) 0
parts_make bytes h ps p =
    let n = leaf_size ps in
    sym (take-append-drop (64 + n) bytes)
    ∙ ap₂ (λ (x y : List ℕ). x ++ y) (take-add 64 n bytes ∙ ap₂ (λ (x y : List ℕ). x ++ y) p.front p.middle) p.back

-- what encode leaves
pub encoded : (h : Head) (ps : List Point) (old one two zeros : List ℕ) (end : ℕ) → length two ≡ 4096 → one ≡ head_bytes h ++ drop 64 old → end ≡ 64 + leaf_size ps → end ≤ 4096 → IsPut one two 64 end (spelling ps)
    → zeros ≡ replicate (length (take (4096 - end) (drop end two))) 0 → put_mid end (4096 - end) two zeros ≡ head_bytes h ++ spelling ps ++ replicate (4032 - leaf_size ps) 0
encoded h ps old one two zeros end long first e within put cleared =
    let a = head_bytes h in
    let front : take end two ≡ a ++ spelling ps = put.front ∙ ap (λ (l : List ℕ). l ++ spelling ps) (ap (take 64) first ∙ take_at a (drop 64 old) 64 (length-head_bytes h)) in
    let many : length (take (4096 - end) (drop end two)) ≡ 4032 - leaf_size ps = length-part end (4096 - end) two (omega arith) ∙ omega arith in
    let back : zeros ≡ replicate (4032 - leaf_size ps) 0 = cleared ∙ ap (λ (m : ℕ). replicate {A = ℕ} m 0) many in
    let none : drop (4096 - end) (drop end two) ≡ [] = drop_all (4096 - end) (drop end two) (omega (arith, length-drop end two)) in
    ap₂ (λ (x y : List ℕ). x ++ y) front (ap₂ (λ (x y : List ℕ). x ++ y) back none ∙ append-nil (replicate (4032 - leaf_size ps) 0))

-- a block spells one leaf
pub one_leaf : (block : List ℕ) (g h : Head) (ps qs : List Point) → SpellsLeaf block g ps → SpellsLeaf block h qs → (g ≡ h) × (ps ≡ qs)
one_leaf block g h ps qs s t =
    let p = parts_of block g ps s.spelled in
    let q = parts_of block h qs t.spelled in
    let heads : g ≡ h = head_same g h s.head.head t.head.head (sym p.front ∙ q.front) in
    let many : length ps ≡ length qs = sym s.head.count ∙ ap (λ (k : Head). k.count) heads ∙ t.head.count in
    let size : leaf_size ps ≡ leaf_size qs = sym s.head.bytes ∙ ap (λ (k : Head). k.length) heads ∙ t.head.bytes in
    let same : spelling ps ≡ spelling qs = sym p.middle ∙ ap (λ (n : ℕ). take n (drop 64 block)) size ∙ q.middle in
    (heads, spelling_one ps qs [] [] (may_follow start ps s.history s.each) (may_follow start qs t.history t.each) many (ap (λ (l : List ℕ). l ++ []) same))

pub body_within : (h : Head) → IsHead h → h.kind ≡ 1 → h.length ≤ 4032
body_within h is kind = elim is.kind [ inl leaf ↦ leaf.length | inr inner ↦ absurd (omega (arith, inner.kind)) ]

-- what was read is a leaf
pub found_leaf : (bytes : List ℕ) (h : Head) (ps : List Point) (k m : ℕ) → length bytes ≡ 4096 → IsHead h → h.kind ≡ 1 → take 64 bytes ≡ head_bytes h → k ≡ h.length → m ≡ 4096 - (64 + h.length)
    → length ps ≡ h.count → IsHistory ps → AllByRecursion IsPoint ps → take k (drop 64 bytes) ≡ spelling ps → take m (drop (64 + h.length) bytes) ≡ replicate (length (take m (drop (64 + h.length) bytes))) 0 → SpellsLeaf bytes h ps
found_leaf bytes h ps k m long is kind front e f count history each middle back =
    let within = body_within h is kind in
    let size : h.length ≡ leaf_size ps = omega (arith, e, ap length middle, length-part 64 k bytes (omega arith)) in
    let whole : take m (drop (64 + h.length) bytes) ≡ drop (64 + h.length) bytes = take_all m (drop (64 + h.length) bytes) (omega (arith, length-drop (64 + h.length) bytes)) in
    let many : length (take m (drop (64 + h.length) bytes)) ≡ 4032 - h.length = ap length whole ∙ length-drop (64 + h.length) bytes ∙ omega arith in
    let zeros : drop (64 + h.length) bytes ≡ replicate (4032 - h.length) 0 = sym whole ∙ back ∙ ap (λ (n : ℕ). replicate {A = ℕ} n 0) many in
    record {
      head = record { head = is; kind = kind; count = sym count; bytes = size };
      history = history;
      each = each;
      spelled = parts_make bytes h ps (record {
        front = front;
        middle = ap (λ (n : ℕ). take n (drop 64 bytes)) (sym (e ∙ size)) ∙ middle;
        back = subst (λ (n : ℕ). drop (64 + n) bytes ≡ replicate (4032 - n) 0) size zeros;
      });
    }

-- what a leaf's block shows
pub leaf_middle : (bytes : List ℕ) (h : Head) (ps : List Point) (k : ℕ) → k ≡ h.length → SpellsLeaf bytes h ps → take k (drop 64 bytes) ≡ spelling ps
leaf_middle bytes h ps k e s = ap (λ (n : ℕ). take n (drop 64 bytes)) (e ∙ s.head.bytes) ∙ (parts_of bytes h ps s.spelled).middle

pub leaf_back : (bytes : List ℕ) (h : Head) (ps : List Point) (m : ℕ) → length bytes ≡ 4096 → m ≡ 4096 - (64 + h.length) → h.length ≤ 4032 → SpellsLeaf bytes h ps → take m (drop (64 + h.length) bytes) ≡ replicate (length (take m (drop (64 + h.length) bytes))) 0
leaf_back bytes h ps m long e within s =
    let zeros : drop (64 + h.length) bytes ≡ replicate (4032 - h.length) 0 = subst (λ (n : ℕ). drop (64 + n) bytes ≡ replicate (4032 - n) 0) (sym s.head.bytes) (parts_of bytes h ps s.spelled).back in
    let whole : take m (drop (64 + h.length) bytes) ≡ drop (64 + h.length) bytes = take_all m (drop (64 + h.length) bytes) (omega (arith, length-drop (64 + h.length) bytes)) in
    zeros_own (4032 - h.length) (take m (drop (64 + h.length) bytes)) (whole ∙ zeros)

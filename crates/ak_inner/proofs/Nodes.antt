-- A block and the inner node that it spells.
use Rattle.std.proofs.Common.{IfNone, Option, Some, None, inl, inr, ◌≡◌, ◌+◌, ◌-◌, ◌*◌, ◌≤◌, ℕ, List, [], ◌++◌, length, take, drop, replicate, sym, ap, ap₂, ◌∙◌, arith, append_assoc, append-nil, length-append, length-drop}
use Rattle.std.proofs.lemmas.List.{take_at, drop_at, drop_all, take_all}
use borrow.Rule.Slice.PartMut.{put_mid}
use Rattle.std.specs.List.{AllByRecursion, flat_map}
use Rattle.ak_bytes.specs.Head.{IsHead, IsInnerHead, head_bytes}
use Rattle.ak_bytes.specs.declared.head.Head.{Head}
use Rattle.ak_bytes.proofs.Heads.{length-head_bytes, head_same}
use Rattle.ak_bytes.proofs.Parts.{length-part, same_ends, zeros_own}
use Rattle.ak_inner.specs.References.{FitsRef, ref_bytes}
use Rattle.ak_inner.specs.Nodes.{SpellsInner, inner_bytes}
use Rattle.ak_inner.specs.declared.reference.Ref.{Ref}
use Rattle.ak_inner.proofs.Lists.{length-refs, refs_same}

pub if_none : {A : Type 0} (o : Option A) (P : Type 0) → P → IfNone o P
if_none None P h = h
if_none (Some x) P h = tt

-- the parts of an inner node's block
pub record Parts (bytes : List ℕ) (h : Head) (rs : List Ref) : Type 0 where
  pub front : take 64 bytes ≡ head_bytes h
  pub whole : take (64 + 104 * length rs) bytes ≡ head_bytes h ++ flat_map ref_bytes rs
  pub back : drop (64 + 104 * length rs) bytes ≡ replicate (4032 - 104 * length rs) 0

pub parts_of : (bytes : List ℕ) (h : Head) (rs : List Ref) → bytes ≡ inner_bytes h rs → Parts bytes h rs
parts_of bytes h rs e =
    let a = head_bytes h in
    let b = flat_map ref_bytes rs in
    let z : List ℕ = replicate (4032 - 104 * length rs) 0 in
    let long : length (a ++ b) ≡ 64 + 104 * length rs = omega (arith, length-append a b, length-head_bytes h, length-refs rs) in
    record {
      front = ap (take 64) (e ∙ append_assoc a b z) ∙ take_at a (b ++ z) 64 (length-head_bytes h);
      whole = ap (take (64 + 104 * length rs)) e ∙ take_at (a ++ b) z (64 + 104 * length rs) long;
      back = ap (drop (64 + 104 * length rs)) e ∙ drop_at (a ++ b) z (64 + 104 * length rs) long;
    }

-- what encode leaves
pub encoded : (h : Head) (rs : List Ref) (old one two zeros : List ℕ) (end : ℕ) → length two ≡ 4096 → one ≡ head_bytes h ++ drop 64 old → end ≡ 64 + 104 * length rs → end ≤ 4096 → take end two ≡ take 64 one ++ flat_map ref_bytes rs
    → zeros ≡ replicate (length (take (4096 - end) (drop end two))) 0 → put_mid end (4096 - end) two zeros ≡ inner_bytes h rs
encoded h rs old one two zeros end long first e within put cleared =
    let a = head_bytes h in
    let front : take end two ≡ a ++ flat_map ref_bytes rs = put ∙ ap (λ (l : List ℕ). l ++ flat_map ref_bytes rs) (ap (take 64) first ∙ take_at a (drop 64 old) 64 (length-head_bytes h)) in
    let many : length (take (4096 - end) (drop end two)) ≡ 4032 - 104 * length rs = length-part end (4096 - end) two (omega arith) ∙ omega arith in
    let back : zeros ≡ replicate (4032 - 104 * length rs) 0 = cleared ∙ ap (λ (m : ℕ). replicate {A = ℕ} m 0) many in
    let none : drop (4096 - end) (drop end two) ≡ [] = drop_all (4096 - end) (drop end two) (omega (arith, length-drop end two)) in
    ap₂ (λ (x y : List ℕ). x ++ y) front (ap₂ (λ (x y : List ℕ). x ++ y) back none ∙ append-nil (replicate (4032 - 104 * length rs) 0))

-- as many references at one place are the same
pub same_refs : (bytes : List ℕ) (g h : Head) (rs ss : List Ref) → length rs ≡ length ss → AllByRecursion FitsRef rs → AllByRecursion FitsRef ss
    → take (64 + 104 * length rs) bytes ≡ head_bytes g ++ flat_map ref_bytes rs → take (64 + 104 * length ss) bytes ≡ head_bytes h ++ flat_map ref_bytes ss → rs ≡ ss
same_refs bytes g h rs ss long f f' e e' =
    let moved : head_bytes g ++ flat_map ref_bytes rs ≡ head_bytes h ++ flat_map ref_bytes ss = sym e ∙ ap (λ (n : ℕ). take (64 + 104 * n) bytes) long ∙ e' in
    let both = same_ends (head_bytes g) (head_bytes h) (flat_map ref_bytes rs) (flat_map ref_bytes ss) (omega (arith, length-refs rs, length-refs ss, long)) moved in
    refs_same rs ss long f f' both.1

-- a block spells one node
pub one_node : (block : List ℕ) (g h : Head) (rs ss : List Ref) → SpellsInner block g rs → SpellsInner block h ss → (g ≡ h) × (rs ≡ ss)
one_node block g h rs ss s t =
    let p = parts_of block g rs s.spelled in
    let q = parts_of block h ss t.spelled in
    let heads : g ≡ h = head_same g h s.head t.head (sym p.front ∙ q.front) in
    let long : length rs ≡ length ss = sym s.of.count ∙ ap (λ (k : Head). k.count) heads ∙ t.of.count in
    (heads, same_refs block g h rs ss long s.fits t.fits p.whole q.whole)

pub inner_head : (h : Head) → IsHead h → h.kind ≡ 2 → IsInnerHead h
inner_head h is kind = elim is.kind [ inl leaf ↦ absurd (omega (arith, leaf.kind)) | inr inner ↦ inner ]

-- what a node's block shows
pub node_back : (bytes : List ℕ) (h : Head) (rs : List Ref) (end m : ℕ) → length bytes ≡ 4096 → end ≡ 64 + 104 * h.count → end ≤ 4096 → m ≡ 4096 - end → SpellsInner bytes h rs
    → take m (drop end bytes) ≡ replicate (length (take m (drop end bytes))) 0
node_back bytes h rs end m long e within f s =
    let ends : end ≡ 64 + 104 * length rs = e ∙ ap (λ (n : ℕ). 64 + 104 * n) s.of.count in
    let zeros : drop end bytes ≡ replicate (4032 - 104 * length rs) 0 = ap (λ (n : ℕ). drop n bytes) ends ∙ (parts_of bytes h rs s.spelled).back in
    let all : take m (drop end bytes) ≡ drop end bytes = take_all m (drop end bytes) (omega (arith, length-drop end bytes)) in
    zeros_own (4032 - 104 * length rs) (take m (drop end bytes)) (all ∙ zeros)

-- the references that were read are those of the node
pub read_same : (bytes : List ℕ) (h : Head) (rs ss : List Ref) (end : ℕ) → end ≡ 64 + 104 * h.count → length rs ≡ h.count → AllByRecursion FitsRef rs → take 64 bytes ≡ head_bytes h → take end bytes ≡ take 64 bytes ++ flat_map ref_bytes rs
    → SpellsInner bytes h ss → ss ≡ rs
read_same bytes h rs ss end e count fits front middle s =
    let mine : take (64 + 104 * length rs) bytes ≡ head_bytes h ++ flat_map ref_bytes rs =
    ap (λ (n : ℕ). take n bytes) (sym (e ∙ ap (λ (n : ℕ). 64 + 104 * n) (sym count))) ∙ middle ∙ ap (λ (l : List ℕ). l ++ flat_map ref_bytes rs) front in
    same_refs bytes h h ss rs (sym s.of.count ∙ sym count) s.fits fits (parts_of bytes h ss s.spelled).whole mine

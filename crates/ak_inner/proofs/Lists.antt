-- References and their bytes.
use Rattle.std.proofs.Common.{◌≡◌, ◌+◌, ◌*◌, ℕ, ℤ, pos, negsuc, List, [], ◌∷◌, ◌++◌, length, take, drop, refl, sym, ap, ap₂, ◌∙◌, arith, length-append, FitsSigned}
use Rattle.std.proofs.lemmas.Int.{ints}
use Rattle.std.proofs.lemmas.List.{flat_map_more}
use Rattle.std.proofs.Math.Seq.{take-add}
use mir.Syntax.{w64, w128}
use Rattle.std.specs.List.{AllByRecursion, flat_map}
use Rattle.byteorder.specs.Numbers.{length-bytes_low_first}
use Rattle.ak_bytes.specs.Fields.{signed_bytes}
use Rattle.ak_bytes.proofs.FixedFields.{same_field, same_signed}
use Rattle.ak_bytes.proofs.Parts.{same_ends}
use Rattle.ak_inner.specs.References.{FitsRef, FollowFrom, IsRef, IsSigned, ref_bytes}
use Rattle.ak_inner.specs.declared.reference.Ref.{Ref}

made : (addr first_leaf count begin end : ℕ) (first last min : ℤ) (min_ts : ℕ) (max : ℤ) (max_ts : ℕ) (sum : ℤ) → Ref
made addr first_leaf count begin end first last min min_ts max max_ts sum = record {
  addr = record { 0 = addr };
  first_leaf = record { 0 = first_leaf };
  summary = record { count = count; begin = begin; end = end; first = first; last = last; min = min; min_ts = min_ts; max = max; max_ts = max_ts; sum = sum };
}

made_of : (r : Ref)
    → made r.addr.0 r.first_leaf.0 r.summary.count r.summary.begin r.summary.end r.summary.first r.summary.last r.summary.min r.summary.min_ts r.summary.max r.summary.max_ts r.summary.sum ≡ r
unfolding made
made_of r = refl

made_same : (r s : Ref) → r.addr.0 ≡ s.addr.0 → r.first_leaf.0 ≡ s.first_leaf.0 → r.summary.count ≡ s.summary.count → r.summary.begin ≡ s.summary.begin → r.summary.end ≡ s.summary.end → r.summary.first ≡ s.summary.first
    → r.summary.last ≡ s.summary.last → r.summary.min ≡ s.summary.min → r.summary.min_ts ≡ s.summary.min_ts → r.summary.max ≡ s.summary.max → r.summary.max_ts ≡ s.summary.max_ts → r.summary.sum ≡ s.summary.sum → r ≡ s
made_same r s a b c d e f g h i j k l =
    let same : made r.addr.0 r.first_leaf.0 r.summary.count r.summary.begin r.summary.end r.summary.first r.summary.last r.summary.min r.summary.min_ts r.summary.max r.summary.max_ts r.summary.sum
    ≡ made s.addr.0 s.first_leaf.0 s.summary.count s.summary.begin s.summary.end s.summary.first s.summary.last s.summary.min s.summary.min_ts s.summary.max s.summary.max_ts s.summary.sum = cc in
    sym (made_of r) ∙ same ∙ made_of s

signed_64 : (z : ℤ) → IsSigned 64 z → FitsSigned w64 z
signed_64 z is = omega (arith, ints, is.low, is.high)

signed_128 : (z : ℤ) → IsSigned 128 z → FitsSigned w128 z
signed_128 z is = omega (arith, ints, is.low, is.high)

-- one reference has these bytes
pub ref_same : (r s : Ref) → FitsRef r → FitsRef s → ref_bytes r ≡ ref_bytes s → r ≡ s
unfolding ref_bytes
ref_same r s f g e =
    let sum = same_signed w128 16 r.summary.sum s.summary.sum _ _ refl (signed_128 r.summary.sum f.sum) (signed_128 s.summary.sum g.sum) e in
    let max_ts = same_field 8 r.summary.max_ts s.summary.max_ts _ _ f.max_ts g.max_ts sum.0 in
    let max = same_signed w64 8 r.summary.max s.summary.max _ _ refl (signed_64 r.summary.max f.max) (signed_64 s.summary.max g.max) max_ts.0 in
    let min_ts = same_field 8 r.summary.min_ts s.summary.min_ts _ _ f.min_ts g.min_ts max.0 in
    let min = same_signed w64 8 r.summary.min s.summary.min _ _ refl (signed_64 r.summary.min f.min) (signed_64 s.summary.min g.min) min_ts.0 in
    let last = same_signed w64 8 r.summary.last s.summary.last _ _ refl (signed_64 r.summary.last f.last) (signed_64 s.summary.last g.last) min.0 in
    let first = same_signed w64 8 r.summary.first s.summary.first _ _ refl (signed_64 r.summary.first f.first) (signed_64 s.summary.first g.first) last.0 in
    let end = same_field 8 r.summary.end s.summary.end _ _ f.end g.end first.0 in
    let begin = same_field 8 r.summary.begin s.summary.begin _ _ f.begin g.begin end.0 in
    let count = same_field 8 r.summary.count s.summary.count _ _ f.count g.count begin.0 in
    let leaf = same_field 8 r.first_leaf.0 s.first_leaf.0 _ _ f.first_leaf g.first_leaf count.0 in
    let addr = same_field 8 r.addr.0 s.addr.0 [] [] f.addr g.addr leaf.0 in
    made_same r s addr.1 leaf.1 count.1 begin.1 end.1 first.1 last.1 min.1 min_ts.1 max.1 max_ts.1 sum.1

length-signed : (n : ℕ) (z : ℤ) → length (signed_bytes n z) ≡ n
length-signed n (pos m) = length-bytes_low_first 0 n m
length-signed n (negsuc m) = length-bytes_low_first 0 n _

pub length-ref_bytes : (r : Ref) → length (ref_bytes r) ≡ 104
unfolding ref_bytes
length-ref_bytes r = simp (length-append, length-signed)

pub length-refs : (rs : List Ref) → length (flat_map ref_bytes rs) ≡ 104 * length rs
length-refs [] = refl
length-refs (r ∷ rs) = omega (arith, length-append (ref_bytes r) (flat_map ref_bytes rs), length-ref_bytes r, length-refs rs)

-- as many references with one row of bytes are the same references
pub refs_same : (rs ss : List Ref) → length rs ≡ length ss → AllByRecursion FitsRef rs → AllByRecursion FitsRef ss → flat_map ref_bytes rs ≡ flat_map ref_bytes ss → rs ≡ ss
refs_same [] [] long f g e = refl
refs_same [] (s ∷ ss) long f g e = absurd (omega arith)
refs_same (r ∷ rs) [] long f g e = absurd (omega arith)
refs_same (r ∷ rs) (s ∷ ss) long f g e =
    let few : length rs ≡ length ss = omega arith in
    let both = same_ends (ref_bytes r) (ref_bytes s) (flat_map ref_bytes rs) (flat_map ref_bytes ss) (omega (arith, length-refs rs, length-refs ss, few)) e in
    ap₂ (λ (q : Ref) (l : List Ref). q ∷ l) (ref_same r s f.0 g.0 both.0) (refs_same rs ss few f.1 g.1 both.1)

-- the rules of references behind one that ends at this time
abbrev pub AreFrom : ℕ → ℕ → List Ref → Type 0
AreFrom level ts rs = AllByRecursion (IsRef level) rs × FollowFrom ts rs

-- one reference more was read
pub read_more : (bytes front : List ℕ) (rs new : List Ref) (r : Ref) (end k : ℕ) → k ≡ 104 → take end bytes ≡ front ++ flat_map ref_bytes rs → take k (drop end bytes) ≡ ref_bytes r → new ≡ rs ++ r ∷ []
    → take (end + 104) bytes ≡ front ++ flat_map ref_bytes new
read_more bytes front rs new r end k size e f g =
    take-add end 104 bytes ∙ ap₂ (λ (x y : List ℕ). x ++ y) e (ap (λ (n : ℕ). take n (drop end bytes)) (sym size) ∙ f)
    ∙ flat_map_more ref_bytes front rs r ∙ ap (λ (l : List Ref). front ++ flat_map ref_bytes l) (sym g)

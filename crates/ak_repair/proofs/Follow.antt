-- From a node of a level back along elder links, node by node.
use Rattle.std.proofs.Common.{◌≡◌, inl, inr, ℕ, zero, suc, ◌-◌, ◌≤◌, List, [], ◌∷◌, ◌++◌, subst, arith}
use Rattle.ak_host.specs.Files.{Files}
use Rattle.ak_image.specs.Blocks.{Seen}
use Rattle.ak_image.specs.Named.{IsNoNode}
use Rattle.ak_inner.specs.declared.reference.Ref.{Ref}
use Rattle.ak_repair.specs.Follows.{AreFollowed, IsReferred, IsLost}
use Rattle.ak_volumes.specs.Ordinals.{Ordinals, IsLive, ordinal_of, index_of, file_of}

-- what is said of the same ordinals and files
pub moved : (P : Ordinals → Files → Type 0) (o p : Ordinals) (files read : Files) → p ≡ o → read ≡ files → P p read → P o files
moved P o p files read same still is = subst (λ (v : Ordinals). P v files) same (subst (λ (f : Files). P p f) still is)

-- no node is asked for
pub followed_none : (seen : Seen) (o : Ordinals) (series level left number at : ℕ) (refs : List Ref) → left ≡ 0 → refs ≡ [] → AreFollowed seen o series level left number at refs
followed_none seen o series level zero number at refs none is = is
followed_none seen o series level (suc left) number at refs none is = absurd (omega (arith, none))

-- or none is live
pub followed_dead : (seen : Seen) (o : Ordinals) (series level left number at : ℕ) (refs : List Ref) → ¬ IsLive o at → refs ≡ [] → AreFollowed seen o series level left number at refs
followed_dead seen o series level zero number at refs dead is = is
followed_dead seen o series level (suc left) number at refs dead is = inl (dead, is)

-- one more
pub followed_on : (seen : Seen) (o : Ordinals) (series level left number at elder : ℕ) (front refs : List Ref) (last : Ref) → 1 ≤ left → IsLive o at → refs ≡ front ++ last ∷ [] → IsReferred seen series level (number - 1) at elder last
    → AreFollowed seen o series level (left - 1) (number - 1) elder front → AreFollowed seen o series level left number at refs
followed_on seen o series level zero number at elder front refs last some live is referred rest = absurd (omega (arith, some))
followed_on seen o series level (suc left) number at elder front refs last some live is referred rest =
    let less : suc left - 1 ≡ left = omega arith in
    inr (live, (front, last, elder, is, referred, subst (λ (n : ℕ). AreFollowed seen o series level n (number - 1) elder front) less rest))

-- it is lost
pub lost_here : (seen : Seen) (o : Ordinals) (series level left number at file block : ℕ) → 1 ≤ left → IsLive o at → file ≡ file_of o (ordinal_of at) → block ≡ index_of at → IsNoNode seen series level (number - 1) at
    → IsLost seen o series level left number at file block
lost_here seen o series level zero number at file block some live file_is block_is none = absurd (omega (arith, some))
lost_here seen o series level (suc left) number at file block some live file_is block_is none = (live, inl (file_is, block_is, none))

-- or one behind it
pub lost_on : (seen : Seen) (o : Ordinals) (series level left number at elder file block : ℕ) (last : Ref) → 1 ≤ left → IsLive o at → IsReferred seen series level (number - 1) at elder last
    → IsLost seen o series level (left - 1) (number - 1) elder file block → IsLost seen o series level left number at file block
lost_on seen o series level zero number at elder file block last some live referred rest = absurd (omega (arith, some))
lost_on seen o series level (suc left) number at elder file block last some live referred rest =
    let less : suc left - 1 ≡ left = omega arith in
    (live, inr (last, elder, referred, subst (λ (n : ℕ). IsLost seen o series level n (number - 1) elder file block) less rest))

-- Parts that stand one behind the other.
use Rattle.std.proofs.Common.{ℕ, ◌≡◌, ◌⊎◌, ◌+◌, ◌-◌, ◌≤◌, ◌++◌, ◌∙◌, List, [], ◌∷◌, suc, map, length, take, drop, arith, inl, inr, sym, subst, ap, refl, append_assoc, append-nil, get_or, take_at}
use Rattle.std.proofs.lemmas.List.{length-append, drop_at, drop-drop}
use Rattle.std.specs.List.{AllByRecursion}
use Rattle.ak_resp.specs.declared.message.Part.{Part}
use Rattle.ak_resp.specs.declared.message.PartKind.{PartKind}
use Rattle.ak_resp.specs.declared.message.PartKind.TheVariants as kind
use Rattle.ak_resp.specs.Grammar.{crlf, one, IsDigit, IsLine, IsLineByte, IsInteger, IsItem, SpellsKind, SpellsPart, SpellsParts}
use Rattle.ak_resp.specs.Puts.{AreParts, part_as}
use Rattle.ak_resp.proofs.Sound.{all_snoc}

pub no_parts : AreParts 0 [] []
no_parts = record { number = refl; items = tt; are = refl }

spells_snoc : (ps : List Part) (p : Part) (xs ys : List ℕ) → SpellsParts xs (map one ps) → SpellsPart ys (one p) → SpellsParts (xs ++ ys) (map one (ps ++ p ∷ []))
spells_snoc [] p xs ys h k = rw h (ys, [], sym (append-nil ys), k, refl)
spells_snoc (q ∷ ps) p xs ys h k =
    let (x, y, split, first, others) = h in
    (x, y ++ ys, ap (λ l. l ++ ys) split ∙ append_assoc x y ys, first, spells_snoc ps p y ys others k)

-- a part more
pub parts_more : (n : ℕ) (xs ys : List ℕ) (ps : List Part) (p : Part) → AreParts n xs ps → IsItem p.kind → SpellsPart ys (one p) → AreParts (n + 1) (xs ++ ys) (ps ++ p ∷ [])
parts_more n xs ys ps p are item spelled = record {
  number = length-append ps (p ∷ []) ∙ ap (λ k. k + 1) are.number;
  items = all_snoc (λ (v : Part). IsItem v.kind) ps p are.items item;
  are = spells_snoc ps p xs ys are.are spelled;
}

-- ---- The first of several parts

-- What begins with an item of an array: its type byte, its line, and the other parts.
pub record Begins (n : ℕ) (xs : List ℕ) (p : Part) (ps : List Part) : Type 0 where
  pub some : 1 ≤ n
  pub byte : ℕ
  pub rest : List ℕ
  pub is : ((byte ≡ 43) × (p.kind ≡ kind.Simple)) ⊎ ((byte ≡ 58) × (p.kind ≡ kind.Integer))
  pub line : IsLine p.bytes
  pub bytes : xs ≡ byte ∷ p.bytes ++ (crlf ++ rest)
  pub others : AreParts (n - 1) rest ps

digit_line : (b : ℕ) → IsDigit b → IsLineByte b
digit_line b d = record { not_cr = λ e. omega (arith, d.least, e); not_lf = λ e. omega (arith, d.least, e) }

pub digits_line : (ds : List ℕ) → AllByRecursion IsDigit ds → AllByRecursion IsLineByte ds
digits_line [] h = tt
digits_line (d ∷ ds) h = (digit_line d h.0, digits_line ds h.1)

sign_line : (b : ℕ) → (b ≡ 43) ⊎ (b ≡ 45) → IsLineByte b
sign_line b (inl e) = record { not_cr = λ k. omega (arith, e, k); not_lf = λ k. omega (arith, e, k) }
sign_line b (inr e) = record { not_cr = λ k. omega (arith, e, k); not_lf = λ k. omega (arith, e, k) }

integer_line : (text : List ℕ) → IsInteger text → AllByRecursion IsLineByte text
integer_line [] h = absurd h
integer_line (b ∷ bs) (inl h) = (digit_line b h.0, digits_line bs h.1)
integer_line (b ∷ bs) (inr h) = (sign_line b h.0, digits_line bs h.2)

spelled_line : (k : PartKind) (text x : List ℕ) → IsItem k → SpellsKind k text x →
    (byte : ℕ) × (((byte ≡ 43) × (k ≡ kind.Simple)) ⊎ ((byte ≡ 58) × (k ≡ kind.Integer))) × IsLine text × (x ≡ byte ∷ text ++ crlf)
spelled_line kind.Simple text x item h = (43, inl (refl, refl), h.0, h.1)
spelled_line kind.Integer text x item h = (58, inr (refl, refl), record { short = h.0; each = integer_line text h.1 }, h.2)
spelled_line kind.Bulk text x item h = absurd item

pub begins : (n : ℕ) (xs : List ℕ) (p : Part) (ps : List Part) → AreParts n xs (p ∷ ps) → Begins n xs p ps
begins n xs p ps are =
    let (x, y, split, first, others) = are.are in
    let (byte, is, line, bytes) = spelled_line p.kind p.bytes x are.items.0 first in
    let number : suc (length ps) ≡ n = are.number in record {
      some = omega (arith, number);
      byte = byte;
      rest = y;
      is = is;
      line = line;
      bytes = split ∙ ap (λ l. l ++ y) bytes ∙ append_assoc (byte ∷ p.bytes) crlf y;
      others = record { number = omega (arith, number); items = are.items.1; are = others };
    }

pub none_of_none : (n : ℕ) (xs : List ℕ) (ps : List Part) → n ≡ 0 → AreParts n xs ps → ps ≡ []
none_of_none n xs [] none are = refl
none_of_none n xs (p ∷ ps) none are = absurd (omega (arith, none, (begins n xs p ps are).some))

pub none_in_none : (n : ℕ) (xs : List ℕ) (ps : List Part) → length xs ≡ 0 → AreParts n xs ps → ps ≡ []
none_in_none n xs [] none are = refl
none_in_none n xs (p ∷ ps) none are = absurd (omega (arith, none, ap length (begins n xs p ps are).bytes))

-- where no line stands behind the type byte there is no part
pub none_without_line : (n : ℕ) (xs : List ℕ) (ps : List Part) → ((line back : List ℕ) → IsLine line → drop 1 xs ≡ line ++ (crlf ++ back) → ⊥) → AreParts n xs ps → ps ≡ []
none_without_line n xs [] none are = refl
none_without_line n xs (p ∷ ps) none are = let b = begins n xs p ps are in absurd (none p.bytes b.rest b.line (ap (drop 1) b.bytes))

same_part : (p : Part) (k : PartKind) (text : List ℕ) → p.kind ≡ k → p.bytes ≡ text → p ≡ part_as k text
same_part p k text e f = rw (sym e, sym f) refl

kind_is : (byte : ℕ) (k kept : PartKind) → (byte ≡ 43 → kept ≡ kind.Simple) → (byte ≡ 58 → kept ≡ kind.Integer) → ((byte ≡ 43) × (k ≡ kind.Simple)) ⊎ ((byte ≡ 58) × (k ≡ kind.Integer)) → k ≡ kept
kind_is byte k kept simple integer (inl h) = h.1 ∙ sym (simple h.0)
kind_is byte k kept simple integer (inr h) = h.1 ∙ sym (integer h.0)

-- the first part is what stands up to the end of the line
pub first_part : (n : ℕ) (xs : List ℕ) (ps : List Part) (k : PartKind) (e : ℕ) → ¬ (n ≡ 0) → (get_or xs 0 0 ≡ 43 → k ≡ kind.Simple) → (get_or xs 0 0 ≡ 58 → k ≡ kind.Integer) →
    ((line back : List ℕ) → IsLine line → drop 1 xs ≡ line ++ (crlf ++ back) → e ≡ length line) → AreParts n xs ps →
    (others : List Part) × (ps ≡ part_as k (take e (drop 1 xs)) ∷ others) × AreParts (n - 1) (drop (e + 2) (drop 1 xs)) others
first_part n xs [] k e some simple integer found are = absurd (some (sym are.number))
first_part n xs (p ∷ ps) k e some simple integer found are =
    let b = begins n xs p ps are in
    let rest : drop 1 xs ≡ p.bytes ++ (crlf ++ b.rest) = ap (drop 1) b.bytes in
    let byte : get_or xs 0 0 ≡ b.byte = ap (λ l. get_or l 0 0) b.bytes in
    let end : e ≡ length p.bytes = found p.bytes b.rest b.line rest in
    let kind_same : p.kind ≡ k = kind_is b.byte p.kind k (λ h. simple (byte ∙ h)) (λ h. integer (byte ∙ h)) b.is in
    let text : take e (drop 1 xs) ≡ p.bytes = ap (take e) rest ∙ take_at p.bytes (crlf ++ b.rest) e (sym end) in
    let behind : drop (e + 2) (drop 1 xs) ≡ b.rest = sym (drop-drop 2 e (drop 1 xs)) ∙ ap (drop 2) (ap (drop e) rest ∙ drop_at p.bytes (crlf ++ b.rest) e (sym end)) in
    (ps, ap (λ q. q ∷ ps) (same_part p k (take e (drop 1 xs)) kind_same (sym text)), subst (λ (l : List ℕ). AreParts (n - 1) l ps) (sym behind) b.others)

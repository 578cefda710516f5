-- Integers as they stand in a piece.
use Rattle.std.proofs.Common.{ℕ, ◌≡◌, ◌+◌, ◌<◌, ◌≤◌, ◌++◌, ◌∙◌, List, [], ◌∷◌, zero, suc, length, take, drop, get_or, All, inl, inr, arith, sym, subst, ap, refl, append_assoc, append-nil, false, take-add, length-take-le, map}
use Rattle.std.proofs.lemmas.Bool.Decides.{nat_tests}
use Rattle.ak_resp.specs.declared.message.PartKind.TheVariants as kind
use Rattle.ak_resp.specs.declared.message.Message.TheVariants as message
use Rattle.ak_resp.specs.Machine.{is_control}
use Rattle.std.proofs.lemmas.List.{length-take, length-append, get_or_append_left, get_or-take, get_or_at, drop_at, drop-drop}
use Rattle.std.proofs.lemmas.List.Elements.{recursion_from_All, All-from_recursion}
use Rattle.ak_resp.specs.Grammar.{crlf, one, array, IsDigit, IsLine, IsLineByte, IsNumber, IsName, SpellsPart, BeginsControl, Spells}
use Rattle.ak_resp.specs.declared.message.Part.{Part}
use Rattle.ak_resp.proofs.Numbers.{count_number}
use Rattle.ak_resp.proofs.Parts.{digits_line}
use Rattle.ak_resp.specs.Puts.{AreParts, IsCount, IsIntegerText, IsSign, IsEnd, SpellsValues, part_as}

pub digits_text : (xs : List ℕ) (n : ℕ) → 0 < n → n < 4096 → n ≤ length xs → All IsDigit (take n xs) → IsIntegerText (take n xs)
digits_text [] n some most within all = absurd (omega (arith, some, within))
digits_text (x ∷ xs) zero some most within all = absurd (omega (arith, some))
digits_text (x ∷ xs) (suc n) some most within all = record {
  short = omega (arith, most, length-take (suc n) (x ∷ xs));
  is = inl (recursion_from_All IsDigit (take (suc n) (x ∷ xs)) all);
}

signed : (s n : ℕ) (xs : List ℕ) → IsSign s → 0 < n → n < 4096 → n ≤ length xs → All IsDigit (take n xs) → IsIntegerText (s ∷ take n xs)
signed s n [] sign some most within all = absurd (omega (arith, some, within))
signed s zero (x ∷ xs) sign some most within all = absurd (omega (arith, some))
signed s (suc n) (x ∷ xs) sign some most within all = record {
  short = omega (arith, most, length-take (suc n) (x ∷ xs));
  is = inr (sign, (λ e. absurd (omega (arith, ap length e))), recursion_from_All IsDigit (take (suc n) (x ∷ xs)) all);
}

pub signed_text : (xs : List ℕ) (n : ℕ) → 0 < length xs → IsSign (get_or xs 0 0) → 0 < n → n < 4096 → n ≤ length (drop 1 xs) → All IsDigit (take n (drop 1 xs)) → IsIntegerText (take (n + 1) xs)
signed_text [] n some_bytes sign some most within all = absurd (omega (arith, some_bytes))
signed_text (x ∷ xs) n some_bytes sign some most within all =
    let more : suc n ≡ n + 1 = omega arith in
    subst (λ (k : ℕ). IsIntegerText (take k (x ∷ xs))) more (signed x n xs sign some most within all)

-- the bytes up to the end of the line
pub ended : (xs : List ℕ) (n : ℕ) → IsEnd xs n → take (n + 2) xs ≡ take n xs ++ crlf
ended xs n e = take-add n 2 xs ∙ ap (λ l. take n xs ++ take 2 l) e.is

first_on : (xs : List ℕ) (b n : ℕ) → 0 < length xs → get_or xs 0 0 ≡ b → take (n + 1) xs ≡ b ∷ take n (drop 1 xs)
first_on [] b n some is = absurd (omega (arith, some))
first_on (x ∷ xs) b n some is =
    let more : suc n ≡ n + 1 = omega arith in
    subst (λ (k : ℕ). take k (x ∷ xs) ≡ b ∷ take n xs) more (ap (λ c. c ∷ take n xs) is)

-- a type byte, content and CR LF
pub part_bytes : (xs : List ℕ) (b n : ℕ) → 0 < length xs → get_or xs 0 0 ≡ b → IsEnd (drop 1 xs) n → take (n + 3) xs ≡ b ∷ take n (drop 1 xs) ++ crlf
part_bytes xs b n some is e =
    let more : n + 2 + 1 ≡ n + 3 = omega arith in
    subst (λ (k : ℕ). take k xs ≡ b ∷ take n (drop 1 xs) ++ crlf) more (first_on xs b (n + 2) some is ∙ ap (λ l. b ∷ l) (ended (drop 1 xs) n e))

pub line_part : (xs : List ℕ) (n : ℕ) → 0 < length xs → get_or xs 0 0 ≡ 43 → IsLine (take n (drop 1 xs)) → IsEnd (drop 1 xs) n →
    SpellsPart (take (n + 3) xs) (one (part_as kind.Simple (take n (drop 1 xs))))
line_part xs n some is line e = (line, part_bytes xs 43 n some is e)

pub integer_part : (xs : List ℕ) (n : ℕ) → 0 < length xs → get_or xs 0 0 ≡ 58 → IsIntegerText (take n (drop 1 xs)) → IsEnd (drop 1 xs) n →
    SpellsPart (take (n + 3) xs) (one (part_as kind.Integer (take n (drop 1 xs))))
integer_part xs n some is text e = (text.short, text.is, part_bytes xs 58 n some is e)

pub part_within : (xs : List ℕ) (n : ℕ) → 0 < length xs → IsEnd (drop 1 xs) n → n + 3 ≤ length xs
part_within [] n some e = absurd (omega (arith, some))
part_within (x ∷ xs) n some e = omega (arith, e.within)

no_control : (text : List ℕ) → is_control text ≡ false → ¬ (BeginsControl text)
no_control [] is = λ b. b
no_control (x ∷ xs) is = λ b. grind (arith, nat_tests, is, b)

-- a name, a time and values are a put
pub put_spelled : (xs : List ℕ) (a b c : ℕ) (name time : Part) (parts : List Part) → IsName name → SpellsPart (take a xs) (one name) →
    SpellsPart (take b (drop a xs)) (one time) → SpellsValues (take c (drop (a + b) xs)) parts → Spells (take (a + b + c) xs) (message.Put name time parts)
put_spelled xs a b c name time parts is first second (inl (value, one_value, third)) =
    let x = take a xs in
    let y = take b (drop a xs) in
    let z = take c (drop (a + b) xs) in
    let whole : take (a + b + c) xs ≡ x ++ (y ++ z) = take-add (a + b) c xs ∙ ap (λ l. l ++ z) (take-add a b xs) ∙ append_assoc x y z in (
      one name ∷ one time ∷ one value ∷ [],
      (is, inl (value, one_value, refl)),
      (x, y ++ z, whole, first, (y, z, refl, second, (z, [], sym (append-nil z), third, refl))),
    )
put_spelled xs a b c name time parts is first second (inr (few, items, third)) =
    let x = take a xs in
    let y = take b (drop a xs) in
    let z = take c (drop (a + b) xs) in
    let whole : take (a + b + c) xs ≡ x ++ (y ++ z) = take-add (a + b) c xs ∙ ap (λ l. l ++ z) (take-add a b xs) ∙ append_assoc x y z in (
      one name ∷ one time ∷ array (length parts) ∷ map one parts,
      (is, inr (few, items, refl)),
      (x, y ++ z, whole, first, (y, z, refl, second, third)),
    )

-- a bulk: `$`, its length, and so many bytes
pub bulk_part : (xs : List ℕ) (d v : ℕ) → 0 < length xs → get_or xs 0 0 ≡ 36 → 0 < d → IsCount (drop 1 xs) d v → IsEnd (drop 1 xs) d → v ≤ 65536 → IsEnd (drop (d + 3) xs) v →
    SpellsPart (take (d + v + 5) xs) (one (part_as kind.Bulk (take v (drop (d + 3) xs))))
bulk_part xs d v some is digits count head fits content =
    let rest = drop (d + 3) xs in
    let text = take v rest in
    let long : length text ≡ v = length-take-le v rest (omega (arith, content.within)) in
    let sum : d + 3 + (v + 2) ≡ d + v + 5 = omega arith in
    let number : IsNumber (take d (drop 1 xs)) (length text) = subst (λ (n : ℕ). IsNumber (take d (drop 1 xs)) n) (sym long) (count_number (drop 1 xs) d v digits count) in
    let bytes : take (d + 3 + (v + 2)) xs ≡ 36 ∷ take d (drop 1 xs) ++ crlf ++ text ++ crlf =
    take-add (d + 3) (v + 2) xs ∙ ap (λ l. l ++ take (v + 2) rest) (part_bytes xs 36 d some is head) ∙ ap (λ l. (36 ∷ take d (drop 1 xs) ++ crlf) ++ l) (ended rest v content)
    ∙ sym (append_assoc (36 ∷ take d (drop 1 xs) ++ crlf) text crlf) in
    (take d (drop 1 xs), number, omega (arith, long, fits), subst (λ (k : ℕ). take k xs ≡ 36 ∷ take d (drop 1 xs) ++ crlf ++ text ++ crlf) sum bytes)

-- an array: `*`, how many items, and the items
pub array_values : (xs : List ℕ) (d v l : ℕ) (parts : List Part) → 0 < length xs → get_or xs 0 0 ≡ 42 → 0 < d → IsCount (drop 1 xs) d v → IsEnd (drop 1 xs) d → v ≤ 64 →
    AreParts v (take l (drop (d + 3) xs)) parts → SpellsValues (take (d + 3 + l) xs) parts
array_values xs d v l parts some is digits count head fits are =
    let number : IsNumber (take d (drop 1 xs)) (length parts) = subst (λ (n : ℕ). IsNumber (take d (drop 1 xs)) n) (sym are.number) (count_number (drop 1 xs) d v digits count) in
    let few : length parts ≤ 64 = omega (arith, are.number, fits) in
    inr (few, are.items, (take (d + 3) xs, take l (drop (d + 3) xs), take-add (d + 3) l xs, (take d (drop 1 xs), number, few, part_bytes xs 42 d some is head), are.are))

split_length : (xs line back : List ℕ) → xs ≡ line ++ (crlf ++ back) → length xs ≡ length line + 2 + length back
split_length xs line back split =
    let both : length (line ++ (crlf ++ back)) ≡ length line + length (crlf ++ back) = length-append line (crlf ++ back) in
    let behind : length (crlf ++ back) ≡ 2 + length back = length-append crlf back in
    omega (arith, ap length split, both, behind)

-- where the line ends that the bytes begin with
pub line_stops : (xs line back : List ℕ) (n : ℕ) → n ≤ length xs → n ≤ 4096 → All IsLineByte (take n xs) → (n < length xs → n < 4096 → ¬ (IsLineByte (get_or xs n 0))) →
    IsLine line → xs ≡ line ++ (crlf ++ back) → n ≡ length line
line_stops xs line back n within most content stops is split =
    let long = split_length xs line back split in
    let low : ¬ (n < length line) = λ less.
    let here : get_or xs n 0 ≡ get_or line n 0 = ap (λ l. get_or l n 0) split ∙ get_or_append_left line (crlf ++ back) 0 n less in
    let line_byte : IsLineByte (get_or line n 0) = All-from_recursion IsLineByte line is.each n 0 less in
    stops (omega (arith, long, less)) (omega (arith, is.short, less)) (subst IsLineByte (sym here) line_byte) in
    let high : ¬ (length line < n) = λ more.
    let here : get_or (take n xs) (length line) 0 ≡ 13 = get_or-take n xs (length line) 0 more ∙ ap (λ l. get_or l (length line) 0) split ∙ get_or_at line 13 (10 ∷ back) 0 (length line) refl in
    let all : length line < length (take n xs) = omega (arith, more, length-take-le n xs within) in
    (content (length line) 0 all).not_cr here in
    omega (arith, low, high)

pub line_is_end : (xs line back : List ℕ) → xs ≡ line ++ (crlf ++ back) → IsEnd xs (length line)
line_is_end xs line back split =
    let first : drop (length line) xs ≡ crlf ++ back = ap (drop (length line)) split ∙ drop_at line (crlf ++ back) (length line) refl in
    let second : drop (length line + 2) xs ≡ back = sym (drop-drop 2 (length line) xs) ∙ ap (drop 2) first in record {
      within = omega (arith, split_length xs line back split);
      is = first ∙ ap (λ l. crlf ++ l) (sym second);
    }

-- digits that stand in a line are an integer, and a line
pub count_text : (xs : List ℕ) (n v : ℕ) → 0 < n → IsCount xs n v → IsIntegerText (take n xs)
count_text xs n v some c = digits_text xs n some (omega (arith, c.most)) c.within (All-from_recursion IsDigit (take n xs) c.each)

pub count_line : (xs : List ℕ) (n v : ℕ) → IsCount xs n v → IsLine (take n xs)
count_line xs n v c = record {
  short = omega (arith, length-take-le n xs c.within, c.most);
  each = digits_line (take n xs) c.each;
}

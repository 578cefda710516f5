-- Whatever was read of a message, some bytes complete it.
use Rattle.std.proofs.Common.{ℕ, ◌≡◌, ◌-◌, ◌≤◌, ◌++◌, List, [], ◌∷◌, Bool, true, false, length, replicate, refl, sym, ◌∙◌, zero, suc, arith, codes, bytes_eq, cond, not, nat_le, nat_eq, lit≤}
use Rattle.std.proofs.lemmas.Bool.Decides.{nat_tests}
use Rattle.std.proofs.lemmas.List.{length-replicate}
use Rattle.std.specs.List.{list_any}
use Rattle.ak_resp.specs.declared.message.PartKind.{PartKind}
use Rattle.ak_resp.specs.declared.message.PartKind.TheVariants as kind
use Rattle.ak_resp.specs.declared.message.Part.{Part}
use Rattle.ak_resp.specs.declared.message.Message.{Message}
use Rattle.ak_resp.specs.declared.message.Message.TheVariants as message
use Rattle.ak_resp.specs.declared.spot.Spot.{Spot}
use Rattle.ak_resp.specs.declared.spot.Progress.{Progress}
use Rattle.ak_resp.specs.declared.spot.Progress.TheVariants.{Name, Time, Value, Item, Json}
use Rattle.ak_resp.specs.declared.spot.Within.{Within}
use Rattle.ak_resp.specs.declared.spot.Within.TheVariants.{Start, Simple, Integer, BulkHead, ArrayHead, BulkHeadEnd, ArrayHeadEnd, Content, PartEnd}
use Rattle.ak_resp.specs.Grammar.{crlf, IsDigit, IsLine}
use Rattle.ak_resp.specs.Standing.{IsIntegerFront, AreDigits, IsBegun, StandsAt}
use Rattle.ak_resp.specs.Machine.{Outcome, going, whole, refused, first, step, between, finish, is_control}
use Rattle.ak_resp.specs.Kinds.{allows, is_digit, goes_on}
use Rattle.ak_resp.proofs.Runs.{spot}
use Rattle.ak_resp.proofs.Goes.{Goes, Lands, goes_append, lands_step, lands_one}
use Rattle.ak_resp.proofs.Complete.{part, simple_lands, end_lands, integer_end, integer_byte, content_goes, item_goes_on, or_true}

-- some bytes lead on to the end of a message
abbrev pub Completes : Spot → Type 0
Completes s = (more : List ℕ) × (m : Message) × Goes s first more (m ∷ [])

abbrev MayComplete : Outcome → Type 0
MayComplete (going t) = Completes t
MayComplete (whole m) = Unit {0}
MayComplete (refused f) = Unit {0}

lands_complete : (s : Spot) (bytes : List ℕ) (o : Outcome) → Lands s bytes o → MayComplete o → Completes s
lands_complete s bytes (going t) g k = (bytes ++ k.0, k.1, goes_append s t first bytes k.0 [] (k.1 ∷ []) g k.2)
lands_complete s bytes (whole m) g k = (bytes, m, g)
lands_complete s bytes (refused f) g k = absurd g

empty : IsLine []
empty = record { short = lit≤ tt; each = tt }

value_completes : (name time : Part) → Completes (between (Value name time))
value_completes name time = (43 ∷ crlf, message.Put name time (part kind.Simple [] ∷ []), simple_lands (Value name time) [] empty)

time_completes : (name : Part) → Completes (between (Time name))
time_completes name = lands_complete (between (Time name)) (43 ∷ crlf) (going (between (Value name (part kind.Simple [])))) (simple_lands (Time name) [] empty) (value_completes name (part kind.Simple []))

json_completes : Completes (between Json)
json_completes = (43 ∷ crlf, message.Query (part kind.Simple []), simple_lands Json [] empty)

name_completes : Completes (between Name)
name_completes = lands_complete (between Name) (43 ∷ crlf) (going (between (Time (part kind.Simple [])))) (simple_lands Name [] empty) (time_completes (part kind.Simple []))

item_completes : (name time : Part) (values : List Part) (left : ℕ) → Completes (between (Item name time values left))
item_completes name time values zero = (43 ∷ crlf, message.Put name time (values ++ part kind.Simple [] ∷ []), simple_lands (Item name time values 0) [] empty)
item_completes name time values (suc zero) = (43 ∷ crlf, message.Put name time (values ++ part kind.Simple [] ∷ []), simple_lands (Item name time values 1) [] empty)
item_completes name time values (suc (suc k)) =
    lands_complete (between (Item name time values (suc (suc k)))) (43 ∷ crlf) (going (between (Item name time (values ++ part kind.Simple [] ∷ []) (suc k))))
    (rw (item_goes_on name time values (part kind.Simple []) k) at (simple_lands (Item name time values (suc (suc k))) [] empty))
    (item_completes name time (values ++ part kind.Simple [] ∷ []) (suc k))

between_completes : (p : Progress) → Completes (between p)
between_completes Name = name_completes
between_completes (Time name) = time_completes name
between_completes (Value name time) = value_completes name time
between_completes (Item name time values left) = item_completes name time values left
between_completes Json = json_completes

chosen : (t : Bool) (x y : Outcome) → MayComplete x → MayComplete y → MayComplete (cond t x y)
chosen true x y h k = h
chosen false x y h k = k

finish_may : (p : Progress) (w : Part) → MayComplete (finish p w)
finish_may Name w =
    let third : MayComplete (cond (bytes_eq w.bytes (codes "!flush")) (whole message.Flush) (whole message.Unknown)) =
    chosen (bytes_eq w.bytes (codes "!flush")) (whole message.Flush) (whole message.Unknown) tt tt in
    let second : MayComplete (cond (bytes_eq w.bytes (codes "!query")) (going (between Json)) (cond (bytes_eq w.bytes (codes "!flush")) (whole message.Flush) (whole message.Unknown))) =
    chosen (bytes_eq w.bytes (codes "!query")) (going (between Json)) (cond (bytes_eq w.bytes (codes "!flush")) (whole message.Flush) (whole message.Unknown)) json_completes third in
    chosen (not (is_control w.bytes)) (going (between (Time w)))
    (cond (bytes_eq w.bytes (codes "!query")) (going (between Json)) (cond (bytes_eq w.bytes (codes "!flush")) (whole message.Flush) (whole message.Unknown))) (time_completes w) second
finish_may (Time name) w = value_completes name w
finish_may (Value name time) w = tt
finish_may (Item name time values left) w =
    chosen (nat_le left 1) (whole (message.Put name time (values ++ w ∷ []))) (going (between (Item name time (values ++ w ∷ []) (left - 1)))) tt
    (item_completes name time (values ++ w ∷ []) (left - 1))
finish_may Json w = tt

-- ---- Within a part

end_completes : (p : Progress) (k : PartKind) (c : List ℕ) → Completes (spot p (PartEnd k) c)
end_completes p k c = lands_complete (spot p (PartEnd k) c) (10 ∷ []) (finish p (part k c)) (end_lands p k c) (finish_may p (part k c))

-- one byte more
by_byte : (s t : Spot) (b : ℕ) → step s b ≡ going t → Completes t → Completes s
by_byte s t b e k = (b ∷ k.0, k.1, lands_step s t b k.0 (whole k.1) e k.2)

simple_completes : (p : Progress) (c : List ℕ) → Completes (spot p Simple c)
simple_completes p c = by_byte (spot p Simple c) (spot p (PartEnd kind.Simple) c) 13 refl (end_completes p kind.Simple c)

a_digit : (b d : ℕ) (ds : List ℕ) → IsDigit d → list_any is_digit (b ∷ d ∷ ds) ≡ false → ⊥
a_digit b d ds h e =
    let is : is_digit d ≡ true = grind (arith, nat_tests, h.least, h.most) in
    let any : list_any is_digit (b ∷ d ∷ ds) ≡ true = rw is (or_true (is_digit b)) in
    cc

few_bytes : (c : List ℕ) → IsIntegerFront c → list_any is_digit c ≡ false → length c ≤ 1
few_bytes [] h e = lit≤ tt
few_bytes (b ∷ []) h e = lit≤ tt
few_bytes (b ∷ d ∷ ds) h e = absurd (a_digit b d ds h.1.0 e)

zero_goes_on : (c : List ℕ) → goes_on c 48 ≡ true
zero_goes_on [] = refl
zero_goes_on (x ∷ xs) = refl

any_zero : (c : List ℕ) → list_any is_digit (c ++ 48 ∷ []) ≡ true
any_zero [] = refl
any_zero (x ∷ xs) = rw (any_zero xs) (or_true (is_digit x))

digit_ends : (p : Progress) (c : List ℕ) → list_any is_digit c ≡ true → Completes (spot p Integer c)
digit_ends p c e = lands_complete (spot p Integer c) crlf (finish p (part kind.Integer c)) (integer_end p c e) (finish_may p (part kind.Integer c))

integer_completes : (p : Progress) (c : List ℕ) (t : Bool) → list_any is_digit c ≡ t → IsIntegerFront c → Completes (spot p Integer c)
integer_completes p c true e h = digit_ends p c e
integer_completes p c false e h =
    let short : length c ≤ 1 = few_bytes c h e in
    by_byte (spot p Integer c) (spot p Integer (c ++ 48 ∷ [])) 48 (integer_byte p c 48 (omega (arith, short)) (omega arith) (omega arith) (zero_goes_on c)) (digit_ends p (c ++ 48 ∷ []) (any_zero c))

content_completes : (p : Progress) (left : ℕ) (c : List ℕ) → Completes (spot p (Content left) c)
content_completes p left c =
    let filler : List ℕ = replicate left 48 in
    let size : length filler ≡ left = length-replicate left 48 in
    let none : left - length filler ≡ 0 = omega (arith, size) in
    let filled : Goes (spot p (Content left) c) (spot p (Content 0) (c ++ filler)) filler [] = rw none at (content_goes p c filler left (omega (arith, size))) in
    let end = by_byte (spot p (Content 0) (c ++ filler)) (spot p (PartEnd kind.Bulk) (c ++ filler)) 13 refl (end_completes p kind.Bulk (c ++ filler)) in
    (filler ++ end.0, end.1, goes_append (spot p (Content left) c) (spot p (Content 0) (c ++ filler)) first filler end.0 [] (end.1 ∷ []) filled end.2)

bulk_head_end_completes : (p : Progress) (v : ℕ) (c : List ℕ) → Completes (spot p (BulkHeadEnd v) c)
bulk_head_end_completes p v c = by_byte (spot p (BulkHeadEnd v) c) (spot p (Content v) c) 10 refl (content_completes p v c)

items_complete : (name time : Part) (v : ℕ) (c : List ℕ) (t : Bool) → nat_eq v 0 ≡ t → Completes (spot (Value name time) (ArrayHeadEnd v) c)
items_complete name time v c true e =
    let lands : step (spot (Value name time) (ArrayHeadEnd v) c) 10 ≡ whole (message.Put name time []) = rw e refl in
    (10 ∷ [], message.Put name time [], lands_one (spot (Value name time) (ArrayHeadEnd v) c) 10 (whole (message.Put name time [])) lands tt)
items_complete name time v c false e =
    let lands : step (spot (Value name time) (ArrayHeadEnd v) c) 10 ≡ going (between (Item name time [] v)) = rw e refl in
    by_byte (spot (Value name time) (ArrayHeadEnd v) c) (between (Item name time [] v)) 10 lands (item_completes name time [] v)

array_head_end_completes : (p : Progress) (v : ℕ) (c : List ℕ) → allows p 42 ≡ true → Completes (spot p (ArrayHeadEnd v) c)
array_head_end_completes Name v c a = cc
array_head_end_completes (Time name) v c a = cc
array_head_end_completes (Item name time values left) v c a = cc
array_head_end_completes Json v c a = cc
array_head_end_completes (Value name time) v c a = items_complete name time v c (nat_eq v 0) refl

bulk_head_completes : (p : Progress) (d v : ℕ) (c : List ℕ) (t : Bool) → nat_eq d 0 ≡ t → (d ≡ 0 → v ≡ 0) → Completes (spot p (BulkHead d v) c)
bulk_head_completes p d v c false e h =
    let ends : step (spot p (BulkHead d v) c) 13 ≡ going (spot p (BulkHeadEnd v) c) = rw e refl in
    by_byte (spot p (BulkHead d v) c) (spot p (BulkHeadEnd v) c) 13 ends (bulk_head_end_completes p v c)
bulk_head_completes p d v c true e h =
    let none : d ≡ 0 = grind (arith, nat_tests, e) in
    rw (none, h none) (by_byte (spot p (BulkHead 0 0) c) (spot p (BulkHead 1 0) c) 48 refl
    (by_byte (spot p (BulkHead 1 0) c) (spot p (BulkHeadEnd 0) c) 13 refl (bulk_head_end_completes p 0 c)))

array_head_completes : (p : Progress) (d v : ℕ) (c : List ℕ) (t : Bool) → allows p 42 ≡ true → nat_eq d 0 ≡ t → (d ≡ 0 → v ≡ 0) → Completes (spot p (ArrayHead d v) c)
array_head_completes p d v c false a e h =
    let ends : step (spot p (ArrayHead d v) c) 13 ≡ going (spot p (ArrayHeadEnd v) c) = rw e refl in
    by_byte (spot p (ArrayHead d v) c) (spot p (ArrayHeadEnd v) c) 13 ends (array_head_end_completes p v c a)
array_head_completes p d v c true a e h =
    let none : d ≡ 0 = grind (arith, nat_tests, e) in
    rw (none, h none) (by_byte (spot p (ArrayHead 0 0) c) (spot p (ArrayHead 1 0) c) 48 refl
    (by_byte (spot p (ArrayHead 1 0) c) (spot p (ArrayHeadEnd 0) c) 13 refl (array_head_end_completes p 0 c a)))

no_digits : (ds : List ℕ) (d v most : ℕ) → AreDigits ds d v most → d ≡ 0 → v ≡ 0
no_digits [] d v most h e = sym h.3
no_digits (x ∷ xs) d v most h e = absurd (let k : suc (length xs) ≡ 0 = h.0 ∙ e in omega (arith, k))

completes_in : (w : Within) (p : Progress) (c begun : List ℕ) → IsBegun p w c begun → Completes (spot p w c)
completes_in Start p c begun h = rw h.0 (between_completes p)
completes_in Simple p c begun h = simple_completes p c
completes_in Integer p c begun h = integer_completes p c (list_any is_digit c) refl h.2
completes_in (BulkHead d v) p c begun h = bulk_head_completes p d v c (nat_eq d 0) refl (no_digits h.2 d v 65536 h.3)
completes_in (ArrayHead d v) p c begun h = array_head_completes p d v c (nat_eq d 0) h.0 refl (no_digits h.2 d v 64 h.3)
completes_in (BulkHeadEnd v) p c begun h = bulk_head_end_completes p v c
completes_in (ArrayHeadEnd v) p c begun h = array_head_end_completes p v c h.0
completes_in (Content left) p c begun h = content_completes p left c
completes_in (PartEnd k) p c begun h = end_completes p k c

-- Whatever was read of a message, some bytes complete it.
pub completes : (s : Spot) (rest : List ℕ) → StandsAt s rest → Completes s
completes s rest h = completes_in s.within s.progress s.bytes h.begun h.part

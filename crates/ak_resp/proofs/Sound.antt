-- What is read is spelled so.
use Rattle.std.proofs.Common.{ℕ, ◌≡◌, ◌≢◌, ◌+◌, ◌*◌, ◌-◌, ◌<◌, ◌≤◌, ◌++◌, ◌⊎◌, List, [], ◌∷◌, Bool, true, false, ◌||◌, length, map, Option, Some, None, Result, Ok, Err, refl, sym, ◌∙◌, ap, arith, append_assoc, append-nil, length-append, inl, inr, codes, bytes_eq, cond, not, nat_le, nat_lt, nat_eq, lit≤}
use Rattle.std.proofs.lemmas.Bool.Decides.{nat_tests}
use Rattle.std.proofs.lemmas.List.{map-append}
use Rattle.std.specs.List.{AllByRecursion, list_any}
use Rattle.std.specs.Cmp.Lexicographic.{bytes_decides}
use Rattle.ak_base.proofs.Basics.{is_eq}
use Rattle.ak_resp.specs.declared.message.PartKind.{PartKind}
use Rattle.ak_resp.specs.declared.message.PartKind.TheVariants as kind
use Rattle.ak_resp.specs.declared.message.Part.{Part}
use Rattle.ak_resp.specs.declared.message.Message.TheVariants as message
use Rattle.ak_resp.specs.declared.fault.Fault.{Fault}
use Rattle.ak_resp.specs.declared.fault.Fault.TheVariants as fault
use Rattle.ak_resp.specs.declared.spot.Spot.{Spot}
use Rattle.ak_resp.specs.declared.spot.Progress.{Progress}
use Rattle.ak_resp.specs.declared.spot.Progress.TheVariants.{Name, Time, Value, Item, Json}
use Rattle.ak_resp.specs.declared.spot.Within.{Within}
use Rattle.ak_resp.specs.declared.spot.Within.TheVariants.{Start, Simple, Integer, BulkHead, ArrayHead, BulkHeadEnd, ArrayHeadEnd, Content, PartEnd}
use Rattle.ak_resp.specs.Grammar.{crlf, IsLineByte, IsDigit, number_from, IsNumber, IsInteger, Written, one, array, SpellsPart, SpellsParts, IsText, IsItem, BeginsControl, Spells}
use Rattle.ak_resp.specs.Standing.{type_byte, AreDone, IsIntegerFront, AreDigits, IsBegun, StandsAt}
use Rattle.ak_resp.specs.Machine.{Outcome, going, whole, refused, first, step, between, begin_as, bulk_head_as, array_head_as, finish, items, is_control}
use Rattle.ak_resp.specs.Kinds.{allows, is_digit, goes_on}
use Rattle.ak_resp.proofs.Runs.{spot}

-- what an outcome says of the bytes of a message
abbrev pub Sound : Outcome → List ℕ → Type 0
Sound (going t) bytes = StandsAt t bytes
Sound (whole m) bytes = Spells bytes m
Sound (refused f) bytes = Unit {0}

either : (b : Bool) (x y : Outcome) (bytes : List ℕ) → (b ≡ true → Sound x bytes) → (b ≡ false → Sound y bytes) → Sound (cond b x y) bytes
either true x y bytes h k = h refl
either false x y bytes h k = k refl

is_ne : (a b : ℕ) → nat_eq a b ≡ false → a ≢ b
is_ne a b e = grind (arith, nat_tests)

moves : (p : Progress) (w v : Within) (c d rest : List ℕ) (b : ℕ) → StandsAt (spot p w c) rest → ((y : List ℕ) → IsBegun p w c y → IsBegun p v d (y ++ b ∷ [])) →
    StandsAt (spot p v d) (rest ++ b ∷ [])
moves p w v c d rest b s f = record {
  before = s.before;
  begun = s.begun ++ b ∷ [];
  parts = s.parts;
  whole = ap (λ xs. xs ++ b ∷ []) s.whole ∙ append_assoc s.before s.begun (b ∷ []);
  done = s.done;
  spelled = s.spelled;
  part = f s.begun s.part;
}

-- ---- The first byte of a part

opens_or : (p : Progress) (rest c : List ℕ) (b : ℕ) (t : Bool) (x y : Option Within) →
    (t ≡ true → Sound (begin_as (spot p Start c) b x) rest) → (t ≡ false → Sound (begin_as (spot p Start c) b y) rest) → Sound (begin_as (spot p Start c) b (cond t x y)) rest
opens_or p rest c b true x y h k = h refl
opens_or p rest c b false x y h k = k refl

opens : (p : Progress) (w : Within) (c rest : List ℕ) (b : ℕ) → StandsAt (spot p Start c) rest → (allows p b ≡ true → (y : List ℕ) → IsBegun p Start c y → IsBegun p w c (y ++ b ∷ [])) →
    Sound (begin_as (spot p Start c) b (Some w)) (rest ++ b ∷ [])
opens p w c rest b s f = either (allows p b) (going (spot p w c)) (refused fault.BadShape) (rest ++ b ∷ []) (λ e. moves p Start w c c rest b s (f e)) (λ e. tt)

begin_sound : (p : Progress) (c rest : List ℕ) (b : ℕ) → StandsAt (spot p Start c) rest → Sound (step (spot p Start c) b) (rest ++ b ∷ [])
begin_sound p c rest b s =
    opens_or p (rest ++ b ∷ []) c b (nat_eq b 43) (Some Simple) _ (λ e. opens p Simple c rest b s (λ a y h. rw (h.0, h.1, is_eq b 43 e) (record { short = lit≤ tt; each = tt }, refl)))
    (λ n. opens_or p (rest ++ b ∷ []) c b (nat_eq b 58) (Some Integer) _ (λ e. opens p Integer c rest b s (λ a y h. let k = is_eq b 58 e in rw (h.0, h.1, k) (rw k at a, lit≤ tt, tt, refl)))
    (λ n. opens_or p (rest ++ b ∷ []) c b (nat_eq b 36) (Some (BulkHead 0 0)) _ (λ e. opens p (BulkHead 0 0) c rest b s (λ a y h. let k = is_eq b 36 e in rw (h.0, h.1, k) (rw k at a, refl, [], (refl, lit≤ tt, tt, refl, lit≤ tt), refl)))
    (λ n. opens_or p (rest ++ b ∷ []) c b (nat_eq b 42) (Some (ArrayHead 0 0)) None (λ e. opens p (ArrayHead 0 0) c rest b s (λ a y h. let k = is_eq b 42 e in rw (h.0, h.1, k) (rw k at a, refl, [], (refl, lit≤ tt, tt, refl, lit≤ tt), refl)))
    (λ n. either (nat_eq b 10) (refused fault.BadEnd) (refused fault.BadKind) (rest ++ b ∷ []) (λ e. tt) (λ e. tt)))))

-- ---- Lines

pub all_snoc : {X : Type 0} (P : X → Type 0) (xs : List X) (x : X) → AllByRecursion P xs → P x → AllByRecursion P (xs ++ x ∷ [])
all_snoc P [] x h k = (k, tt)
all_snoc P (y ∷ ys) x h k = (h.0, all_snoc P ys x h.1 k)

plus_allowed : (p : Progress) → allows p 43 ≡ true
plus_allowed Name = refl
plus_allowed (Time name) = refl
plus_allowed (Value name time) = refl
plus_allowed (Item name time values left) = refl
plus_allowed Json = refl

below : (n m : ℕ) → nat_le n m ≡ false → m < n
below n m e = grind (arith, nat_tests)

simple_sound : (p : Progress) (c rest : List ℕ) (b : ℕ) → StandsAt (spot p Simple c) rest → Sound (step (spot p Simple c) b) (rest ++ b ∷ [])
simple_sound p c rest b s =
    either (nat_eq b 10) (refused fault.BadEnd) _ _ (λ e. tt) (λ lf.
    either (nat_eq b 13) (going (spot p (PartEnd kind.Simple) c)) _ _
    (λ e. moves p Simple (PartEnd kind.Simple) c c rest b s (λ y h. (plus_allowed p, (h.0, rw (h.1, is_eq b 13 e) (append_assoc (43 ∷ c) (13 ∷ []) (10 ∷ []))))))
    (λ cr. either (nat_le 4096 (length c)) (refused fault.LongLine) (going (spot p Simple (c ++ b ∷ []))) _ (λ e. tt)
    (λ e. moves p Simple Simple c (c ++ b ∷ []) rest b s (λ y h. (
      record {
        short = let k : length c < 4096 = below 4096 (length c) e in omega (arith, k, length-append {A = ℕ});
        each = all_snoc IsLineByte c b h.0.each (record { not_cr = is_ne b 13 cr; not_lf = is_ne b 10 lf });
      },
      ap (λ xs. xs ++ b ∷ []) h.1,
    )))))

pub digit_from : (b : ℕ) → is_digit b ≡ true → IsDigit b
digit_from b e = record { least = grind (arith, nat_tests); most = grind (arith, nat_tests) }

or_either : (a b : Bool) → (a || b) ≡ true → (a ≡ true) ⊎ (b ≡ true)
or_either true b e = inl refl
or_either false b e = inr e

sign_first : (b : ℕ) → (nat_eq b 43 || nat_eq b 45) ≡ true → (b ≡ 43) ⊎ (b ≡ 45)
sign_first b e = elim (or_either (nat_eq b 43) (nat_eq b 45) e) [ inl d ↦ inl (is_eq b 43 d) | inr k ↦ inr (is_eq b 45 k) ]

front_first : (b : ℕ) → goes_on [] b ≡ true → IsDigit b ⊎ ((b ≡ 43) ⊎ (b ≡ 45))
front_first b e = elim (or_either (is_digit b) (nat_eq b 43 || nat_eq b 45) e) [ inl d ↦ inl (digit_from b d) | inr k ↦ inr (sign_first b k) ]

front_more : (c : List ℕ) (b : ℕ) → IsIntegerFront c → goes_on c b ≡ true → IsIntegerFront (c ++ b ∷ [])
front_more [] b h e = (front_first b e, tt)
front_more (x ∷ xs) b h e = (h.0, all_snoc IsDigit xs b h.1 (digit_from b e))

no_digit : (b : ℕ) → (b ≡ 43) ⊎ (b ≡ 45) → list_any is_digit (b ∷ []) ≡ true → ⊥
no_digit b (inl e) h = let k = rw e at h in cc
no_digit b (inr e) h = let k = rw e at h in cc

whole_integer : (c : List ℕ) → IsIntegerFront c → list_any is_digit c ≡ true → IsInteger c
whole_integer [] h e = cc
whole_integer (b ∷ bs) (inl d, l) e = inl (d, l)
whole_integer (b ∷ []) (inr k, l) e = absurd (no_digit b k e)
whole_integer (b ∷ d ∷ ds) (inr k, l) e = inr (k, (λ q. cc), l)

integer_sound : (p : Progress) (c rest : List ℕ) (b : ℕ) → StandsAt (spot p Integer c) rest → Sound (step (spot p Integer c) b) (rest ++ b ∷ [])
integer_sound p c rest b s =
    either (nat_eq b 10) (refused fault.BadEnd) _ _ (λ e. tt) (λ lf.
    either (nat_eq b 13) (cond (list_any is_digit c) (going (spot p (PartEnd kind.Integer) c)) (refused fault.BadNumber)) _ _
    (λ e. either (list_any is_digit c) (going (spot p (PartEnd kind.Integer) c)) (refused fault.BadNumber) _
    (λ any. moves p Integer (PartEnd kind.Integer) c c rest b s (λ y h. (h.0, (h.1, whole_integer c h.2 any, rw (h.3, is_eq b 13 e) (append_assoc (58 ∷ c) (13 ∷ []) (10 ∷ []))))))
    (λ any. tt))
    (λ cr. either (nat_le 4096 (length c)) (refused fault.LongLine) _ _ (λ e. tt)
    (λ e. either (goes_on c b) (going (spot p Integer (c ++ b ∷ []))) (refused fault.BadNumber) _
    (λ g. moves p Integer Integer c (c ++ b ∷ []) rest b s (λ y h. (
      h.0,
      (let k : length c < 4096 = below 4096 (length c) e in omega (arith, k, length-append {A = ℕ})),
      front_more c b h.2 g,
      ap (λ xs. xs ++ b ∷ []) h.3,
    )))
    (λ g. tt))))

-- ---- Lengths

chosen : {A : Type 0} (P : A → Type 0) (t : Bool) (x y : A) → (t ≡ true → P x) → (t ≡ false → P y) → P (cond t x y)
chosen P true x y h k = h refl
chosen P false x y h k = k refl

pub number_snoc : (n : ℕ) (ds : List ℕ) (b : ℕ) → number_from n (ds ++ b ∷ []) ≡ number_from n ds * 10 + (b - 48)
number_snoc n [] b = refl
number_snoc n (d ∷ ds) b = number_snoc (n * 10 + (d - 48)) ds b

not_not : (b : Bool) → not b ≡ false → b ≡ true
not_not true e = refl
not_not false e = sym e

more_digits : (ds : List ℕ) (d v most b : ℕ) → AreDigits ds d v most → nat_le 4096 d ≡ false → not (is_digit b) ≡ false → nat_lt most (v * 10 + (b - 48)) ≡ false →
    AreDigits (ds ++ b ∷ []) (d + 1) (v * 10 + (b - 48)) most
more_digits ds d v most b h k g m =
    let few : d < 4096 = below 4096 d k in
    let digit : is_digit b ≡ true = not_not (is_digit b) g in
    let count : length (ds ++ b ∷ []) ≡ d + 1 = length-append ds (b ∷ []) ∙ ap (λ n. n + 1) h.0 in
    (count, omega (arith, count, few), all_snoc IsDigit ds b h.2 (digit_from b digit), number_snoc 0 ds b ∙ ap (λ n. n * 10 + (b - 48)) h.3, grind (arith, nat_tests, m))

a_number : (ds : List ℕ) (d v most : ℕ) → AreDigits ds d v most → nat_eq d 0 ≡ false → IsNumber ds v
a_number ds d v most h e = record {
  some = λ q. let none : d ≡ 0 = sym h.0 ∙ ap length q in is_ne d 0 e none;
  short = h.1;
  each = h.2;
  value = h.3;
}

bulk_head_sound : (p : Progress) (d v : ℕ) (c rest : List ℕ) (b : ℕ) → StandsAt (spot p (BulkHead d v) c) rest → Sound (step (spot p (BulkHead d v) c) b) (rest ++ b ∷ [])
bulk_head_sound p d v c rest b s =
    let P : Result (Option (ℕ × ℕ)) Fault → Type 0 = λ r. Sound (bulk_head_as (spot p (BulkHead d v) c) v r) (rest ++ b ∷ []) in
    let digit : Result (Option (ℕ × ℕ)) Fault = Ok (Some (d + 1, v * 10 + (b - 48))) in
    let tail : Result (Option (ℕ × ℕ)) Fault = cond (nat_lt 65536 (v * 10 + (b - 48))) (Err fault.LongBulk) digit in
    let tails : Result (Option (ℕ × ℕ)) Fault = cond (not (is_digit b)) (Err fault.BadNumber) tail in
    chosen P (nat_eq b 10) (Err fault.BadEnd) _ (λ e. tt) (λ lf.
    chosen P (nat_eq b 13) (cond (nat_eq d 0) (Err fault.BadNumber) (Ok None)) _
    (λ e. chosen P (nat_eq d 0) (Err fault.BadNumber) (Ok None) (λ z. tt)
    (λ z. moves p (BulkHead d v) (BulkHeadEnd v) c c rest b s (λ y h. (h.0, h.1, h.2, a_number h.2 d v 65536 h.3 z, h.3.4, rw (h.4, is_eq b 13 e) refl))))
    (λ cr. chosen P (nat_le 4096 d) (Err fault.LongLine) tails (λ e. tt)
    (λ few. chosen P (not (is_digit b)) (Err fault.BadNumber) tail (λ e. tt)
    (λ g. chosen P (nat_lt 65536 (v * 10 + (b - 48))) (Err fault.LongBulk) digit (λ e. tt)
    (λ low. moves p (BulkHead d v) (BulkHead (d + 1) (v * 10 + (b - 48))) c c rest b s
    (λ y h. (h.0, h.1, h.2 ++ b ∷ [], more_digits h.2 d v 65536 b h.3 few g low, ap (λ xs. xs ++ b ∷ []) h.4)))))))

array_head_sound : (p : Progress) (d v : ℕ) (c rest : List ℕ) (b : ℕ) → StandsAt (spot p (ArrayHead d v) c) rest → Sound (step (spot p (ArrayHead d v) c) b) (rest ++ b ∷ [])
array_head_sound p d v c rest b s =
    let P : Result (Option (ℕ × ℕ)) Fault → Type 0 = λ r. Sound (array_head_as (spot p (ArrayHead d v) c) v r) (rest ++ b ∷ []) in
    let digit : Result (Option (ℕ × ℕ)) Fault = Ok (Some (d + 1, v * 10 + (b - 48))) in
    let tail : Result (Option (ℕ × ℕ)) Fault = cond (nat_lt 64 (v * 10 + (b - 48))) (Err fault.BadShape) digit in
    let tails : Result (Option (ℕ × ℕ)) Fault = cond (not (is_digit b)) (Err fault.BadNumber) tail in
    chosen P (nat_eq b 10) (Err fault.BadEnd) _ (λ e. tt) (λ lf.
    chosen P (nat_eq b 13) (cond (nat_eq d 0) (Err fault.BadNumber) (Ok None)) _
    (λ e. chosen P (nat_eq d 0) (Err fault.BadNumber) (Ok None) (λ z. tt)
    (λ z. moves p (ArrayHead d v) (ArrayHeadEnd v) c c rest b s (λ y h. (h.0, h.1, h.2, a_number h.2 d v 64 h.3 z, h.3.4, rw (h.4, is_eq b 13 e) refl))))
    (λ cr. chosen P (nat_le 4096 d) (Err fault.LongLine) tails (λ e. tt)
    (λ few. chosen P (not (is_digit b)) (Err fault.BadNumber) tail (λ e. tt)
    (λ g. chosen P (nat_lt 64 (v * 10 + (b - 48))) (Err fault.BadShape) digit (λ e. tt)
    (λ low. moves p (ArrayHead d v) (ArrayHead (d + 1) (v * 10 + (b - 48))) c c rest b s
    (λ y h. (h.0, h.1, h.2 ++ b ∷ [], more_digits h.2 d v 64 b h.3 few g low, ap (λ xs. xs ++ b ∷ []) h.4)))))))

bulk_head_end_sound : (p : Progress) (v : ℕ) (c rest : List ℕ) (b : ℕ) → StandsAt (spot p (BulkHeadEnd v) c) rest → Sound (step (spot p (BulkHeadEnd v) c) b) (rest ++ b ∷ [])
bulk_head_end_sound p v c rest b s =
    either (nat_eq b 10) (going (spot p (Content v) c)) (refused fault.BadEnd) _
    (λ e. moves p (BulkHeadEnd v) (Content v) c c rest b s (λ y h.
    let none : 0 + v ≡ v = omega arith in
    rw (h.1, none, h.5, is_eq b 10 e) (h.0, h.2, h.3, h.4, append_assoc (36 ∷ h.2) (13 ∷ []) (10 ∷ []))))
    (λ e. tt)

content_sound : (p : Progress) (left : ℕ) (c rest : List ℕ) (b : ℕ) → StandsAt (spot p (Content left) c) rest → Sound (step (spot p (Content left) c) b) (rest ++ b ∷ [])
content_sound p left c rest b s =
    either (nat_lt 0 left) (going (spot p (Content (left - 1)) (c ++ b ∷ []))) _ _
    (λ e. moves p (Content left) (Content (left - 1)) c (c ++ b ∷ []) rest b s (λ y h.
    let same : length (c ++ b ∷ []) + (left - 1) ≡ length c + left = let some : 0 < left = grind (arith, nat_tests, e) in omega (arith, some, length-append c (b ∷ [])) in
    rw (same, h.4) (h.0, h.1, h.2, h.3, append_assoc (36 ∷ h.1) (crlf ++ c) (b ∷ []))))
    (λ z. either (nat_eq b 13) (going (spot p (PartEnd kind.Bulk) c)) (refused fault.BadEnd) _
    (λ e. moves p (Content left) (PartEnd kind.Bulk) c c rest b s (λ y h.
    let none : length c + left ≡ length c = let zero : left ≡ 0 = grind (arith, nat_tests, z) in omega (arith, zero) in (
      h.0,
      (
        h.1,
        rw none at h.2,
        rw none at h.3,
        rw (h.4, is_eq b 13 e) (append_assoc (36 ∷ h.1 ++ (crlf ++ c)) (13 ∷ []) (10 ∷ []) ∙ ap (λ xs. xs ++ crlf) (sym (append_assoc (36 ∷ h.1) crlf c))),
      ),
    )))
    (λ e. tt))

-- ---- Whole parts

parts_snoc : (ws : List Written) (w : Written) (x y : List ℕ) → SpellsParts x ws → SpellsPart y w → SpellsParts (x ++ y) (ws ++ w ∷ [])
parts_snoc [] w x y h k = (y, [], rw (h, append-nil) refl, k, refl)
parts_snoc (v ∷ vs) w x y h k = (h.0, h.1 ++ y, rw h.2 (append_assoc h.0 h.1 y), h.3, parts_snoc vs w h.1 y h.4 k)

-- what bytes say of the parts so far, one more part behind them
abbrev Follows : Progress → List Written → Written → List ℕ → Type 0
Follows p parts w bytes = AreDone p parts × SpellsParts bytes (parts ++ w ∷ [])

between_stands : (p : Progress) (parts : List Written) (bytes : List ℕ) → AreDone p parts → SpellsParts bytes parts → StandsAt (between p) bytes
between_stands p parts bytes d s = record { before = bytes; begun = []; parts = parts; whole = sym (append-nil bytes); done = d; spelled = s; part = (refl, refl) }

text_of : (k : PartKind) → allows Name (type_byte k) ≡ true → IsText k
text_of kind.Simple e = tt
text_of kind.Integer e = cc
text_of kind.Bulk e = tt

text_of_json : (k : PartKind) → allows Json (type_byte k) ≡ true → IsText k
text_of_json kind.Simple e = tt
text_of_json kind.Integer e = cc
text_of_json kind.Bulk e = tt

item_of : (name time : Part) (values : List Part) (left : ℕ) (k : PartKind) → allows (Item name time values left) (type_byte k) ≡ true → IsItem k
item_of name time values left kind.Simple e = tt
item_of name time values left kind.Integer e = tt
item_of name time values left kind.Bulk e = cc

control_of : (c : List ℕ) → is_control c ≡ true → BeginsControl c
control_of [] e = cc
control_of (b ∷ bs) e = is_eq b 33 e

no_control_of : (c : List ℕ) → is_control c ≡ false → ¬ (BeginsControl c)
no_control_of [] e h = h
no_control_of (b ∷ bs) e h = is_ne b 33 e h

same_bytes : (xs ys : List ℕ) → bytes_eq xs ys ≡ true → xs ≡ ys
same_bytes xs ys e = (bytes_decides xs ys).0 e

other_bytes : (xs ys : List ℕ) → bytes_eq xs ys ≡ false → xs ≢ ys
other_bytes xs ys e q = let h : bytes_eq xs ys ≡ true = (bytes_decides xs ys).1 q in cc

not_true : (b : Bool) → not b ≡ true → b ≡ false
not_true true e = sym e
not_true false e = refl

name_sound : (w : Part) (bytes : List ℕ) → IsText w.kind → SpellsParts bytes (one w ∷ []) → Sound (finish Name w) bytes
name_sound w bytes t s =
    either (not (is_control w.bytes)) (going (between (Time w))) _ bytes
    (λ e. between_stands (Time w) (one w ∷ []) bytes ((t, no_control_of w.bytes (not_true (is_control w.bytes) e)), refl) s)
    (λ e. let begins = control_of w.bytes (not_not (is_control w.bytes) e) in
    either (bytes_eq w.bytes (codes "!query")) (going (between Json)) _ bytes
    (λ q. between_stands Json (one w ∷ []) bytes (w, (t, same_bytes w.bytes (codes "!query") q), refl) s)
    (λ q. either (bytes_eq w.bytes (codes "!flush")) (whole message.Flush) (whole message.Unknown) bytes
    (λ f. (one w ∷ [], (w, (t, same_bytes w.bytes (codes "!flush") f), refl), s))
    (λ f. (one w ∷ [], (w, t, begins, other_bytes w.bytes (codes "!query") q, other_bytes w.bytes (codes "!flush") f, refl), s))))

finish_sound : (p : Progress) (w : Part) (parts : List Written) (bytes : List ℕ) → allows p (type_byte w.kind) ≡ true → AreDone p parts → SpellsParts bytes (parts ++ one w ∷ []) →
    Sound (finish p w) bytes
finish_sound Name w parts bytes a d s = name_sound w bytes (text_of w.kind a) (rw d at s)
finish_sound (Time name) w parts bytes a d s = between_stands (Value name w) (one name ∷ one w ∷ []) bytes (d.0, refl) (rw d.1 at s)
finish_sound (Value name time) w parts bytes a d s = (one name ∷ one time ∷ one w ∷ [], (d.0, inl (w, refl, refl)), rw d.1 at s)
finish_sound Json w parts bytes a d s = (one d.0 ∷ one w ∷ [], (d.0, d.1, text_of_json w.kind a, refl), rw d.2 at s)
finish_sound (Item name time values left) w parts bytes a d s =
    let one_more : map one (values ++ w ∷ []) ≡ map one values ++ one w ∷ [] = map-append one values (w ∷ []) in
    let items_are : AllByRecursion (λ v. IsItem v.kind) (values ++ w ∷ []) = all_snoc (λ v. IsItem v.kind) values w d.3 (item_of name time values left w.kind a) in
    let count : length (values ++ w ∷ []) ≡ length values + 1 = length-append values (w ∷ []) in
    let spelled : SpellsParts bytes (one name ∷ one time ∷ array (length values + left) ∷ map one (values ++ w ∷ [])) = rw one_more (rw d.4 at s) in
    either (nat_le left 1) (whole (message.Put name time (values ++ w ∷ []))) (going (between (Item name time (values ++ w ∷ []) (left - 1)))) bytes
    (λ e. let last : left ≤ 1 = grind (arith, nat_tests, e) in
    let all : length values + left ≡ length (values ++ w ∷ []) = omega (arith, count, last, d.1) in (
      one name ∷ one time ∷ array (length (values ++ w ∷ [])) ∷ map one (values ++ w ∷ []),
      (d.0, inr (omega (arith, all, d.2), items_are, refl)),
      rw all at spelled,
    ))
    (λ e. let more : 1 < left = grind (arith, nat_tests, e) in
    let all : length values + left ≡ length (values ++ w ∷ []) + (left - 1) = omega (arith, count, more) in
    between_stands (Item name time (values ++ w ∷ []) (left - 1)) (one name ∷ one time ∷ array (length (values ++ w ∷ []) + (left - 1)) ∷ map one (values ++ w ∷ [])) bytes
    (d.0, omega (arith, more), omega (arith, all, d.2), items_are, refl) (rw all at spelled))

part_end_sound : (p : Progress) (k : PartKind) (c rest : List ℕ) (b : ℕ) → StandsAt (spot p (PartEnd k) c) rest → Sound (step (spot p (PartEnd k) c) b) (rest ++ b ∷ [])
part_end_sound p k c rest b s =
    either (nat_eq b 10) (finish p (record { kind = k; bytes = c })) (refused fault.BadEnd) _
    (λ e. let at_end : rest ++ b ∷ [] ≡ s.before ++ (s.begun ++ 10 ∷ []) = rw (s.whole, is_eq b 10 e) (append_assoc s.before s.begun (10 ∷ [])) in
    rw at_end (finish_sound p (record { kind = k; bytes = c }) s.parts _ s.part.0 s.done (parts_snoc s.parts (one (record { kind = k; bytes = c })) s.before (s.begun ++ 10 ∷ []) s.spelled s.part.1)))
    (λ e. tt)

items_sound : (p : Progress) (v : ℕ) (parts : List Written) (bytes : List ℕ) → v ≤ 64 → AreDone p parts → SpellsParts bytes (parts ++ array v ∷ []) → Sound (items p v) bytes
items_sound Name v parts bytes h d s = tt
items_sound (Time name) v parts bytes h d s = tt
items_sound (Item name time values left) v parts bytes h d s = tt
items_sound Json v parts bytes h d s = tt
items_sound (Value name time) v parts bytes h d s =
    let spelled : SpellsParts bytes (one name ∷ one time ∷ array v ∷ []) = rw d.1 at s in
    either (nat_eq v 0) (whole (message.Put name time [])) (going (between (Item name time [] v))) bytes
    (λ e. (one name ∷ one time ∷ array 0 ∷ [], (d.0, inr (lit≤ tt, tt, refl)), rw (is_eq v 0 e) at spelled))
    (λ e. let some : 0 < v = let ne : v ≢ 0 = is_ne v 0 e in omega arith in
    let all : v ≡ 0 + v = omega arith in
    between_stands (Item name time [] v) (one name ∷ one time ∷ array (0 + v) ∷ []) bytes (d.0, some, omega (arith, h), tt, refl) (rw all at spelled))

array_head_end_sound : (p : Progress) (v : ℕ) (c rest : List ℕ) (b : ℕ) → StandsAt (spot p (ArrayHeadEnd v) c) rest → Sound (step (spot p (ArrayHeadEnd v) c) b) (rest ++ b ∷ [])
array_head_end_sound p v c rest b s =
    let h = s.part in
    either (nat_eq b 10) (items p v) (refused fault.BadEnd) _
    (λ e. let at_end : rest ++ b ∷ [] ≡ s.before ++ (s.begun ++ 10 ∷ []) = rw (s.whole, is_eq b 10 e) (append_assoc s.before s.begun (10 ∷ [])) in
    let head_is : SpellsPart (s.begun ++ 10 ∷ []) (array v) = (h.2, h.3, h.4, rw h.5 (append_assoc (42 ∷ h.2) (13 ∷ []) (10 ∷ []))) in
    rw at_end (items_sound p v s.parts _ h.4 s.done (parts_snoc s.parts (array v) s.before (s.begun ++ 10 ∷ []) s.spelled head_is)))
    (λ e. tt)

step_sound_in : (w : Within) (p : Progress) (c rest : List ℕ) (b : ℕ) → StandsAt (spot p w c) rest → Sound (step (spot p w c) b) (rest ++ b ∷ [])
step_sound_in Start p c rest b s = begin_sound p c rest b s
step_sound_in Simple p c rest b s = simple_sound p c rest b s
step_sound_in Integer p c rest b s = integer_sound p c rest b s
step_sound_in (BulkHead d v) p c rest b s = bulk_head_sound p d v c rest b s
step_sound_in (ArrayHead d v) p c rest b s = array_head_sound p d v c rest b s
step_sound_in (BulkHeadEnd v) p c rest b s = bulk_head_end_sound p v c rest b s
step_sound_in (ArrayHeadEnd v) p c rest b s = array_head_end_sound p v c rest b s
step_sound_in (Content left) p c rest b s = content_sound p left c rest b s
step_sound_in (PartEnd k) p c rest b s = part_end_sound p k c rest b s

-- A byte leads to a spot that the bytes with it stand for, or ends a message that they spell.
pub step_sound : (s : Spot) (rest : List ℕ) (b : ℕ) → StandsAt s rest → Sound (step s b) (rest ++ b ∷ [])
step_sound s rest b h = step_sound_in s.within s.progress s.bytes rest b h

pub first_stands : StandsAt first []
first_stands = between_stands Name [] [] refl refl

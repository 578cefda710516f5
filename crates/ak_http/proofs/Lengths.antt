-- The length that the lines of a head give.
use Rattle.std.proofs.Common.{ℕ, ◌≡◌, ◌+◌, ◌*◌, ◌-◌, ◌<◌, ◌≤◌, List, [], ◌∷◌, Bool, true, false, ◌&&◌, ◌||◌, cond, not, nat_eq, nat_le, Option, Some, None, length, take, drop, get_or, map, refl, sym, ◌∙◌, ap, arith, unwrap_or}
use Rattle.std.proofs.lemmas.List.{at_drop_more}
use Rattle.std.proofs.lemmas.Bool.Decides.{nat_tests}
use Rattle.std.specs.Char.{is_ascii_digit}
use Rattle.std.specs.List.{list_any, list_all}
use Rattle.ak_base.proofs.Basics.{is_eq}
use Rattle.httparse.specs.declared.spans.HeaderSpan.{HeaderSpan}
use Rattle.httparse.specs.Grammar.{Field}
use Rattle.httparse.specs.Spans.{AreFieldsAt, header_bytes, name_and_value, span_bytes}
use Rattle.ak_http.specs.Head.{same_name, number_from, length_of, content_length, is_same_length, agreed, differs, lengths, transfer_encoding, body_length}

not_true : (b : Bool) → not b ≡ true → b ≡ false
not_true true e = cc
not_true false e = refl

not_false : (b : Bool) → not b ≡ false → b ≡ true
not_false true e = refl
not_false false e = cc

-- ---- Names

by_pair : (buf name : List ℕ) (hs : List HeaderSpan) → list_any (λ h. same_name (span_bytes buf h.name) name) hs ≡ list_any (λ p. same_name p.0 name) (map (header_bytes buf) hs)
by_pair buf name [] = refl
by_pair buf name (h ∷ hs) = ap (λ b. same_name (span_bytes buf h.name) name || b) (by_pair buf name hs)

pub by_field : (buf name : List ℕ) (hs : List HeaderSpan) (count : ℕ) (fields : List Field) → AreFieldsAt buf hs count fields →
    list_any (λ h. same_name (span_bytes buf h.name) name) (take count hs) ≡ list_any (λ p. same_name p.0 name) (map name_and_value fields)
by_field buf name hs count fields e = by_pair buf name (take count hs) ∙ ap (list_any (λ p. same_name p.0 name)) e

-- ---- Numbers

-- A number with digits behind it is no less.
pub number_least : (ds : List ℕ) (n : ℕ) → n ≤ number_from n ds
number_least [] n = omega arith
number_least (d ∷ ds) n = let more = number_least ds (n * 10 + (d - 48)) in omega arith

last_false : (a b c d : Bool) (n : ℕ) → d ≡ false → cond (a && b && c && d) (Some n) None ≡ None
last_false true true true true n e = cc
last_false true true true false n e = refl
last_false true true false d n e = refl
last_false true false c d n e = refl
last_false false b c d n e = refl

third_false : (a b c d : Bool) (n : ℕ) → c ≡ false → cond (a && b && c && d) (Some n) None ≡ None
third_false true true true d n e = cc
third_false true true false d n e = refl
third_false true false c d n e = refl
third_false false b c d n e = refl

second_false : (a b c d : Bool) (n : ℕ) → b ≡ false → cond (a && b && c && d) (Some n) None ≡ None
second_false true true c d n e = cc
second_false true false c d n e = refl
second_false false b c d n e = refl

all_true : (a b c d : Bool) (n : ℕ) → a ≡ true → b ≡ true → c ≡ true → d ≡ true → cond (a && b && c && d) (Some n) None ≡ Some n
all_true a b c d n e f g h = rw (e, f, g, h) refl

pub length_is : (text : List ℕ) (n : ℕ) → 1 ≤ length text → length text ≤ 10 → list_all is_ascii_digit text ≡ true → number_from 0 text ≡ n → n ≤ 65536 → length_of text ≡ Some n
length_is text n some few digits value most =
    let below : number_from 0 text ≤ 65536 = rw value most in
    all_true (nat_le 1 (length text)) (nat_le (length text) 10) (list_all is_ascii_digit text) (nat_le (number_from 0 text) 65536) (number_from 0 text)
    (grind (arith, nat_tests)) (grind (arith, nat_tests)) digits (grind (arith, nat_tests)) ∙ ap Some value

pub length_of_none : (text : List ℕ) → length text ≡ 0 → length_of text ≡ None
length_of_none [] e = refl
length_of_none (d ∷ ds) e = cc

pub length_many : (text : List ℕ) → 10 < length text → length_of text ≡ None
length_many text h = second_false (nat_le 1 (length text)) (nat_le (length text) 10) (list_all is_ascii_digit text) (nat_le (number_from 0 text) 65536) (number_from 0 text) (grind (arith, nat_tests))

pub length_no_digits : (text : List ℕ) → list_all is_ascii_digit text ≡ false → length_of text ≡ None
length_no_digits text h = third_false (nat_le 1 (length text)) (nat_le (length text) 10) (list_all is_ascii_digit text) (nat_le (number_from 0 text) 65536) (number_from 0 text) h

pub length_over : (text : List ℕ) → 65536 < number_from 0 text → length_of text ≡ None
length_over text h = last_false (nat_le 1 (length text)) (nat_le (length text) 10) (list_all is_ascii_digit text) (nat_le (number_from 0 text) 65536) (number_from 0 text) (grind (arith, nat_tests))

-- ---- Lengths that agree

abbrev Lines : Type 0
Lines = List (List ℕ × List ℕ)

-- with a length known, or none, what the lengths behind make of it
abbrev pub with_known : Option ℕ → List (Option ℕ) → Option ℕ
with_known None ns = agreed ns
with_known (Some n) ns = agreed (Some n ∷ ns)

lengths_skip : (p : List ℕ × List ℕ) (ps : Lines) → same_name p.0 content_length ≡ false → lengths (p ∷ ps) ≡ lengths ps
lengths_skip p ps e = rw e refl

lengths_keep : (p : List ℕ × List ℕ) (ps : Lines) → same_name p.0 content_length ≡ true → lengths (p ∷ ps) ≡ length_of p.1 ∷ lengths ps
lengths_keep p ps e = rw e refl

both_same : (b : Bool) (o : Option ℕ) → cond b o o ≡ o
both_same true o = refl
both_same false o = refl

bad_known : (known : Option ℕ) (ns : List (Option ℕ)) → with_known known (None ∷ ns) ≡ None
bad_known None ns = both_same (list_all (is_same_length None) ns) None
bad_known (Some n) ns = refl

first_true : (n : ℕ) (a b : Bool) → a ≡ true → cond (a && b) (Some n) None ≡ cond b (Some n) None
first_true n a b e = rw e refl

first_false : (n : ℕ) (a b : Bool) → a ≡ false → cond (a && b) (Some n) None ≡ None
first_false n a b e = rw e refl

other_known : (known : Option ℕ) (n : ℕ) (ns : List (Option ℕ)) → differs known n ≡ true → with_known known (Some n ∷ ns) ≡ None
other_known None n ns e = cc
other_known (Some m) n ns e = first_false m (nat_eq m n) (list_all (is_same_length (Some m)) ns) (not_true (nat_eq m n) e)

same_known : (known : Option ℕ) (n : ℕ) (ns : List (Option ℕ)) → differs known n ≡ false → with_known known (Some n ∷ ns) ≡ with_known (Some n) ns
same_known None n ns e = refl
same_known (Some m) n ns e =
    let same : m ≡ n = is_eq m n (not_false (nat_eq m n) e) in
    first_true m (nat_eq m n) (list_all (is_same_length (Some m)) ns) (not_false (nat_eq m n) e) ∙ ap (λ k. with_known (Some k) ns) same

-- what the lines of the headers from this one on make of what is known
abbrev pub with_lines : List ℕ → Option ℕ → List HeaderSpan → Option ℕ
with_lines buf known hs = with_known known (lengths (map (header_bytes buf) hs))

pub lines_skip : (buf : List ℕ) (known : Option ℕ) (h : HeaderSpan) (hs : List HeaderSpan) → same_name (span_bytes buf h.name) content_length ≡ false → with_lines buf known (h ∷ hs) ≡ with_lines buf known hs
lines_skip buf known h hs e = ap (with_known known) (lengths_skip (header_bytes buf h) (map (header_bytes buf) hs) e)

lines_keep : (buf : List ℕ) (known : Option ℕ) (h : HeaderSpan) (hs : List HeaderSpan) → same_name (span_bytes buf h.name) content_length ≡ true →
    with_lines buf known (h ∷ hs) ≡ with_known known (length_of (span_bytes buf h.value) ∷ lengths (map (header_bytes buf) hs))
lines_keep buf known h hs e = ap (with_known known) (lengths_keep (header_bytes buf h) (map (header_bytes buf) hs) e)

pub lines_bad : (buf : List ℕ) (known : Option ℕ) (h : HeaderSpan) (hs : List HeaderSpan) → same_name (span_bytes buf h.name) content_length ≡ true → length_of (span_bytes buf h.value) ≡ None →
    with_lines buf known (h ∷ hs) ≡ None
lines_bad buf known h hs e f =
    lines_keep buf known h hs e ∙ ap (λ n. with_known known (n ∷ lengths (map (header_bytes buf) hs))) f ∙ bad_known known (lengths (map (header_bytes buf) hs))

pub lines_other : (buf : List ℕ) (known : Option ℕ) (h : HeaderSpan) (hs : List HeaderSpan) (n : ℕ) → same_name (span_bytes buf h.name) content_length ≡ true → length_of (span_bytes buf h.value) ≡ Some n →
    differs known n ≡ true → with_lines buf known (h ∷ hs) ≡ None
lines_other buf known h hs n e f d =
    lines_keep buf known h hs e ∙ ap (λ n. with_known known (n ∷ lengths (map (header_bytes buf) hs))) f ∙ other_known known n (lengths (map (header_bytes buf) hs)) d

pub lines_same : (buf : List ℕ) (known : Option ℕ) (h : HeaderSpan) (hs : List HeaderSpan) (n : ℕ) → same_name (span_bytes buf h.name) content_length ≡ true → length_of (span_bytes buf h.value) ≡ Some n →
    differs known n ≡ false → with_lines buf known (h ∷ hs) ≡ with_lines buf (Some n) hs
lines_same buf known h hs n e f d =
    lines_keep buf known h hs e ∙ ap (λ n. with_known known (n ∷ lengths (map (header_bytes buf) hs))) f ∙ same_known known n (lengths (map (header_bytes buf) hs)) d

pub lines_end : (known : Option ℕ) (n : ℕ) → n ≡ unwrap_or known 0 → with_known known [] ≡ Some n
lines_end None n e = ap Some (sym e)
lines_end (Some m) n e = ap Some (sym e)

-- no header
abbrev pub no_header : HeaderSpan
no_header = record { name = record { start = 0; end = 0 }; value = record { start = 0; end = 0 } }

pub next_line : (buf : List ℕ) (known : Option ℕ) (hs : List HeaderSpan) (i : ℕ) (all : Option ℕ) → i < length hs → with_lines buf known (drop i hs) ≡ all →
    with_lines buf known (get_or hs i no_header ∷ drop (i + 1) hs) ≡ all
next_line buf known hs i all h e = sym (at_drop_more (with_lines buf known) hs i no_header h) ∙ e

pub value_over : (text : List ℕ) (n i : ℕ) → i < length text → number_from n (drop i text) ≡ number_from 0 text → 65536 < n * 10 + (get_or text i 0 - 48) → length_of text ≡ None
value_over text n i h e over =
    let here : number_from n (drop i text) ≡ number_from (n * 10 + (get_or text i 0 - 48)) (drop (i + 1) text) = at_drop_more (number_from n) text i 0 h in
    let least : n * 10 + (get_or text i 0 - 48) ≤ number_from (n * 10 + (get_or text i 0 - 48)) (drop (i + 1) text) = number_least (drop (i + 1) text) (n * 10 + (get_or text i 0 - 48)) in
    length_over text (omega (arith, here, least, e, over))

-- ---- What a head gives

pub encoded : (lines : Lines) → list_any (λ line. same_name line.0 transfer_encoding) lines ≡ true → None ≡ body_length lines
encoded lines e = rw e refl

pub not_encoded : (lines : Lines) → list_any (λ line. same_name line.0 transfer_encoding) lines ≡ false → agreed (lengths lines) ≡ body_length lines
not_encoded lines e = rw e refl

-- Rows of spellings, how a stream splits, and what comes behind a fault.
use Rattle.std.proofs.Common.{ℕ, ◌≡◌, ◌+◌, ◌<◌, ◌≤◌, ◌++◌, inl, inr, List, [], ◌∷◌, length, take, drop, get_or, min, Some, refl, sym, subst, ◌∙◌, ap, arith, append_assoc, append-nil, take-append-drop, lit≤}
use Rattle.std.proofs.lemmas.List.{append_cancel_left, length-append, take-take, take-append-le, take_at, get_or_append_left}
use Rattle.std.proofs.lemmas.Bool.{cases_lt}
use Rattle.ak_base.proofs.Basics.{longer_front}
use Rattle.ak_base.specs.declared.refusal.Refusal.{Refusal}
use Rattle.ak_resp.specs.declared.message.Message.{Message}
use Rattle.ak_resp.specs.declared.spot.Spot.{Spot}
use Rattle.ak_resp.specs.Grammar.{Spells, SpellsRow, IsOpen, Splits, HasFaultAt}
use Rattle.ak_resp.specs.Kinds.{kind_of, told}
use Rattle.ak_resp.specs.Standing.{StandsAt, HasRefusal, last_place}
use Rattle.ak_resp.proofs.Complete.{row_goes}
use Rattle.ak_resp.proofs.Back.{stands_goes}
use Rattle.ak_resp.proofs.Whole.{prefix_free}

-- ---- How a row splits

-- no spelling begins these bytes
abbrev pub HasNoFront : List ℕ → Type 0
HasNoFront rest = (x y : List ℕ) (m : Message) → rest ≡ x ++ y → Spells x m → ⊥

-- no row of spellings that begins the stream is longer
abbrev pub IsLongest : List ℕ → List ℕ → Type 0
IsLongest stream front = (x y : List ℕ) (ms : List Message) → stream ≡ x ++ y → SpellsRow x ms → length x ≤ length front

row_longest : (ms ns : List Message) (front rest x y : List ℕ) → SpellsRow front ms → HasNoFront rest → SpellsRow x ns → front ++ rest ≡ x ++ y → length x ≤ length front
row_longest ms [] front rest x y h none k e = rw k (omega arith)
row_longest [] (n ∷ ns) front rest x y h none k e =
    let P : List ℕ → Type 0 = λ q. q ++ rest ≡ x ++ y in
    let rest_is : rest ≡ x ++ y = subst P h e in
    absurd (none k.0 (k.1 ++ y) n (rest_is ∙ ap (λ q. q ++ y) k.2 ∙ append_assoc k.0 k.1 y) k.3)
row_longest (m ∷ ms) (n ∷ ns) front rest x y h none k e =
    let joined : h.0 ++ (h.1 ++ rest) ≡ k.0 ++ (k.1 ++ y) =
    sym (append_assoc h.0 h.1 rest) ∙ ap (λ q. q ++ rest) (sym h.2) ∙ e ∙ ap (λ q. q ++ y) k.2 ∙ append_assoc k.0 k.1 y in
    let same = prefix_free h.0 k.0 (h.1 ++ rest) (k.1 ++ y) m n h.3 k.3 joined in
    let P : List ℕ → Type 0 = λ q. q ++ (h.1 ++ rest) ≡ k.0 ++ (k.1 ++ y) in
    let tail : h.1 ++ rest ≡ k.1 ++ y = append_cancel_left k.0 (h.1 ++ rest) (k.1 ++ y) (subst P same.0 joined) in
    let fewer = row_longest ms ns h.1 rest k.1 y h.4 none k.4 tail in
    let front_size : length front ≡ length h.0 + length h.1 = ap length h.2 ∙ length-append h.0 h.1 in
    let size : length x ≡ length k.0 + length k.1 = ap length k.2 ∙ length-append k.0 k.1 in
    let first_size : length h.0 ≡ length k.0 = ap length same.0 in
    omega (arith, fewer, front_size, size, first_size)

pub splits_by : (front rest row : List ℕ) (ms : List Message) → SpellsRow front ms → HasNoFront rest → row ≡ front ++ rest → Splits row ms rest
splits_by front rest row ms h none e = record {
  front = front;
  whole = e;
  spelled = h;
  longest = λ x y ns split k. row_longest ms ns front rest x y h none k (sym e ∙ split);
}

same_messages : (ms ns : List Message) (front : List ℕ) → SpellsRow front ms → SpellsRow front ns → ms ≡ ns
same_messages ms ns front h k = sym ((row_goes ms front h).says 0 (lit≤ tt)) ∙ (row_goes ns front k).says 0 (lit≤ tt)

pub one_split : (row : List ℕ) (ms ns : List Message) (rest end : List ℕ) → Splits row ms rest → Splits row ns end → (ms ≡ ns) × (rest ≡ end)
one_split row ms ns rest end h k =
    let joined : h.front ++ rest ≡ k.front ++ end = sym h.whole ∙ k.whole in
    let shorter : length k.front ≤ length h.front = h.longest k.front end ns k.whole k.spelled in
    let longer : length h.front ≤ length k.front = k.longest h.front rest ms h.whole h.spelled in
    let size : length k.front ≡ length h.front = omega arith in
    let fronts : h.front ≡ k.front = sym (take_at h.front rest (length h.front) refl) ∙ ap (take (length h.front)) joined ∙ take_at k.front end (length h.front) size in
    let P : List ℕ → Type 0 = λ q. SpellsRow q ns in
    let Q : List ℕ → Type 0 = λ q. q ++ rest ≡ k.front ++ end in
    (same_messages ms ns h.front h.spelled (subst P (sym fronts) k.spelled), append_cancel_left k.front rest end (subst Q fronts joined))

-- ---- Where a row is open

pub open_front : (xs ys : List ℕ) → IsOpen (xs ++ ys) → IsOpen xs
open_front xs ys (more, ms, s) = (ys ++ more, ms, rw append_assoc at s)

pub open_take : (row : List ℕ) (n : ℕ) → IsOpen row → IsOpen (take n row)
open_take row n o = open_front (take n row) (drop n row) (subst IsOpen (sym (take-append-drop n row)) o)

row_open : (row : List ℕ) (ms : List Message) → SpellsRow row ms → IsOpen row
row_open row ms h = let P : List ℕ → Type 0 = λ q. SpellsRow q ms in ([], ms, subst P (sym (append-nil row)) h)

front_of : (row : List ℕ) (p q : ℕ) → p < q → IsOpen (take q row) → IsOpen (take (p + 1) row)
front_of row p q h o =
    let shorter : p + 1 ≤ q = omega arith in
    subst IsOpen (take-take (p + 1) q row shorter) (open_take (take q row) (p + 1) o)

-- a stream has its fault at one place
pub one_place : (row : List ℕ) (p q : ℕ) → HasFaultAt row p → HasFaultAt row q → p ≡ q
one_place row p q h k =
    let not_less : ¬ (p < q) = λ l. h.closed (front_of row p q l k.open_before) in
    let not_more : ¬ (q < p) = λ l. k.closed (front_of row q p l h.open_before) in
    omega (arith, not_less, not_more)

-- where the row before the last byte is open, the fault is that byte
pub place_last : (xs row : List ℕ) (b p : ℕ) → row ≡ xs ++ b ∷ [] → IsOpen xs → HasFaultAt row p → p + 1 ≡ length row
place_last xs row b p e o h =
    let size : length row ≡ length xs + 1 = ap length e ∙ length-append xs (b ∷ []) in
    let within : p < length row = h.within in
    let not_less : ¬ (p + 1 ≤ length xs) = λ l. h.closed (subst IsOpen (sym (ap (take (p + 1)) e ∙ take-append-le (p + 1) xs (b ∷ []) l)) (open_take xs (p + 1) o)) in
    omega (arith, size, within, not_less)

-- ---- Behind a fault

-- Where no row of spellings begins with one byte more than these, what comes behind adds none.
pub longest_over : (low high front : List ℕ) (q : ℕ) → q ≤ length low + 1 → (IsOpen (take q (low ++ high)) → ⊥) → IsLongest low front → IsLongest (low ++ high) front
longest_over low high front q h closed longest x y ms e s =
    elim (cases_lt (length low) (length x)) [
      | inr l ↦ let w = longer_front x y low high (sym e) l in longest x w.0 ms w.1 s
      | inl l ↦
          let fits : q ≤ length x = omega arith in
          let same : take q (low ++ high) ≡ take q x = ap (take q) e ∙ take-append-le q x y fits in
          absurd (closed (subst IsOpen (sym same) (open_take x q (row_open x ms s))))
    ]

pub fault_more : (row more : List ℕ) (place : ℕ) → HasFaultAt row place → HasFaultAt (row ++ more) place
fault_more row more place h =
    let within : place < length row = h.within in
    let before : take place (row ++ more) ≡ take place row = take-append-le place row more (omega arith) in
    let after : take (place + 1) (row ++ more) ≡ take (place + 1) row = take-append-le (place + 1) row more (omega arith) in
    record {
      within = omega (arith, length-append {A = ℕ});
      open_before = subst IsOpen (sym before) h.open_before;
      closed = λ q. h.closed (subst IsOpen after q);
    }

pub splits_more : (row more rest : List ℕ) (ms : List Message) (place : ℕ) → HasFaultAt row place → Splits row ms rest → Splits (row ++ more) ms (rest ++ more)
splits_more row more rest ms place h k =
    let within : place < length row = h.within in record {
      front = k.front;
      whole = ap (λ z. z ++ more) k.whole ∙ append_assoc k.front rest more;
      spelled = k.spelled;
      longest = longest_over row more k.front (place + 1) (omega arith) (fault_more row more place h).closed k.longest;
    }

pub refusal_more : (row more : List ℕ) (place : ℕ) (f : Refusal) → HasRefusal row place f → HasRefusal (row ++ more) place f
refusal_more row more place f h =
    let within : place < length row = h.has.within in
    let before : take place (row ++ more) ≡ take place row = take-append-le place row more (omega arith) in
    let byte : get_or (row ++ more) place 0 ≡ get_or row place 0 = get_or_append_left row more 0 place within in
    let P : List ℕ → Type 0 = λ q. Splits q h.messages h.rest in
    record {
      has = fault_more row more place h.has;
      messages = h.messages;
      rest = h.rest;
      splits = subst P (sym before) h.splits;
      spot = h.spot;
      stands = h.stands;
      kind = h.kind;
      is_kind = ap (kind_of h.spot) byte ∙ h.is_kind;
      is_told = h.is_told;
    }

-- ---- One refusal

-- a rest leads to one spot
pub one_spot : (s t : Spot) (rest : List ℕ) → StandsAt s rest → StandsAt t rest → s ≡ t
one_spot s t rest h k = ap (λ r. r.spot) (sym ((stands_goes s rest h).state 0 (lit≤ tt)) ∙ (stands_goes t rest k).state 0 (lit≤ tt))

same_refusal : (row : List ℕ) (p : ℕ) (f g : Refusal) → HasRefusal row p f → HasRefusal row p g → f ≡ g
same_refusal row p f g h k =
    let rests : h.rest ≡ k.rest = (one_split (take p row) h.messages k.messages h.rest k.rest h.splits k.splits).1 in
    let P : List ℕ → Type 0 = λ q. StandsAt h.spot q in
    let spots : h.spot ≡ k.spot = one_spot h.spot k.spot k.rest (subst P rests h.stands) k.stands in
    let kinds : Some h.kind ≡ Some k.kind = sym h.is_kind ∙ ap (λ s. kind_of s (get_or row p 0)) spots ∙ k.is_kind in
    let kind : h.kind ≡ k.kind = cc in
    h.is_told ∙ ap (λ x. told x (min p last_place)) kind ∙ sym k.is_told

-- a stream is refused by one refusal
pub one_refusal : (row : List ℕ) (p q : ℕ) (f g : Refusal) → HasRefusal row p f → HasRefusal row q g → (p ≡ q) × (f ≡ g)
one_refusal row p q f g h k =
    let place : p ≡ q = one_place row p q h.has k.has in
    let P : ℕ → Type 0 = λ n. HasRefusal row n g in
    (place, same_refusal row p f g h (subst P (sym place) k))

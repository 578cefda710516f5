-- A reader stands for the row that it has read.
use Rattle.std.proofs.Common.{ℕ, ◌≡◌, ◌+◌, ◌≤◌, ◌++◌, ◌⊎◌, inl, inr, List, [], ◌∷◌, Bool, true, false, Option, Some, None, Result, Ok, Err, length, take, drop, min, suc, refl, sym, subst, ◌∙◌, ap, arith, append_assoc, append-nil, length-append, lit≤}
use Rattle.std.proofs.lemmas.List.{take_at, get_or_at}
use Rattle.ak_base.proofs.Basics.{not_both}
use Rattle.ak_base.specs.declared.refusal.Refusal.{Refusal}
use Rattle.ak_resp.specs.declared.fault.Fault.{Fault}
use Rattle.ak_resp.specs.declared.message.Message.{Message}
use Rattle.ak_resp.specs.declared.message.RespError.{RespError}
use Rattle.ak_resp.specs.declared.message.RespError.TheVariants.{Refused, Memory}
use Rattle.ak_resp.specs.declared.resp.Resp.{Resp}
use Rattle.ak_resp.specs.declared.spot.Spot.{Spot}
use Rattle.ak_resp.specs.Grammar.{IsOpen, Splits, HasFaultAt}
use Rattle.ak_resp.specs.Kinds.{kind_of, told}
use Rattle.ak_resp.specs.Standing.{StandsAt, HasRefusal, StandsFor, StandsAfter, OnFault, Continues, Starts, is_refused, is_faulted, last_place}
use Rattle.ak_resp.specs.Machine.{refused, first, step}
use Rattle.ak_resp.specs.Rows.{fresh, after, said, HasRead, Reads, Refuses, FeedsOn}
use Rattle.ak_resp.proofs.Runs.{at, reader, after-append, said-append, has_read_more, taken_is, refuses_reads}
use Rattle.ak_resp.proofs.Goes.{Goes, goes_append}
use Rattle.ak_resp.proofs.Complete.{row_goes}
use Rattle.ak_resp.proofs.KindsAre.{kind_when_refused}
use Rattle.ak_resp.proofs.Back.{stands_goes}
use Rattle.ak_resp.proofs.Whole.{Standing, Through, Upto, walk, nothing_read, standing_open, refused_closed, fault_after, longest}
use Rattle.ak_resp.proofs.Rows.{splits_by, splits_more, longest_over, fault_more, refusal_more, place_last}

-- ---- What has been read, the grammar says

splits_of : (t : Spot) (row : List ℕ) (ms : List Message) (h : Standing t row ms) → said fresh row ≡ ms → Splits row ms h.rest
splits_of t row ms h e =
    splits_by h.front h.rest row ms h.spelled (λ x y m split s. longest h.front h.rest x y ms m h.spelled (ap (said fresh) (sym h.joined) ∙ e) split s) h.joined

sound_stands : (t : Spot) (n : ℕ) (row : List ℕ) (ms : List Message) → Standing t row ms → said fresh row ≡ ms → n ≡ min (length row) last_place → StandsFor (at t n) row ms
sound_stands t n row ms h e place = record {
  rest = h.rest;
  splits = splits_of t row ms h e;
  sound = λ _. (standing_open t row ms h, h.stands, place);
  faulty = λ q. let no : false ≡ true = q in cc;
  refused = λ f q. let no : None ≡ Some f = q in cc;
}

has_fault : (t : Spot) (f : Fault) (xs ys : List ℕ) (b : ℕ) (ms : List Message) → Standing t xs ms → Goes first t xs ms → step t b ≡ refused f → HasFaultAt (xs ++ b ∷ ys) (length xs)
has_fault t f xs ys b ms h g e =
    let size : length (xs ++ b ∷ ys) ≡ length xs + suc (length ys) = length-append xs (b ∷ ys) in
    let longer : length (xs ++ b ∷ []) ≡ length xs + 1 = length-append xs (b ∷ []) in
    let with_it : take (length xs + 1) (xs ++ b ∷ ys) ≡ xs ++ b ∷ [] =
    ap (take (length xs + 1)) (sym (append_assoc xs (b ∷ []) ys)) ∙ take_at (xs ++ b ∷ []) ys (length xs + 1) longer in
    record {
      within = omega (arith, size);
      open_before = subst IsOpen (sym (take_at xs (b ∷ ys) (length xs) refl)) (standing_open t xs ms h);
      closed = λ o. refused_closed t xs b ms f g e (subst IsOpen with_it o);
    }

has_refusal : (t : Spot) (n : ℕ) (f : Fault) (xs ys : List ℕ) (b : ℕ) (ms : List Message) → Standing t xs ms → Goes first t xs ms → step t b ≡ refused f → n ≡ min (length xs) last_place →
    HasRefusal (xs ++ b ∷ ys) (length xs) (told f n)
has_refusal t n f xs ys b ms h g e place =
    let P : List ℕ → Type 0 = λ q. Splits q ms h.rest in
    record {
      has = has_fault t f xs ys b ms h g e;
      messages = ms;
      rest = h.rest;
      splits = subst P (sym (take_at xs (b ∷ ys) (length xs) refl)) (splits_of t xs ms h (g.says 0 (lit≤ tt)));
      spot = t;
      stands = h.stands;
      kind = f;
      is_kind = ap (kind_of t) (get_or_at xs b ys 0 (length xs) refl) ∙ kind_when_refused t h.rest b f h.stands e;
      is_told = ap (told f) place;
    }

faulty_stands : (t : Spot) (n : ℕ) (f : Fault) (xs ys : List ℕ) (b : ℕ) (ms : List Message) → Standing t xs ms → Goes first t xs ms → step t b ≡ refused f → n ≡ min (length xs) last_place →
    StandsFor (reader t n (Some (told f n))) (xs ++ b ∷ ys) ms
faulty_stands t n f xs ys b ms h g e place =
    let before = splits_of t xs ms h (g.says 0 (lit≤ tt)) in
    let fault = has_fault t f xs ys b ms h g e in
    let refusal = has_refusal t n f xs ys b ms h g e place in
    record {
      rest = h.rest ++ b ∷ ys;
      splits = record {
        front = before.front;
        whole = ap (λ q. q ++ b ∷ ys) before.whole ∙ append_assoc before.front h.rest (b ∷ ys);
        spelled = before.spelled;
        longest = longest_over xs (b ∷ ys) before.front (length xs + 1) (omega arith) fault.closed before.longest;
      };
      sound = λ q. let no : true ≡ false = q in cc;
      faulty = λ q. (length xs, fault);
      refused = λ k q. let same : told f n ≡ k = cc in (length xs, subst (HasRefusal (xs ++ b ∷ ys) (length xs)) same refusal);
    }

by_walk : (r : Resp) (row : List ℕ) (ms : List Message) → HasRead r row ms → Through first [] [] row ⊎ Upto first [] [] row → StandsFor r row ms
by_walk r row ms h (inl k) =
    let n : ℕ = min (0 + length row) last_place in
    let r_is : at k.0 n ≡ r = sym (k.2.state 0 (lit≤ tt)) ∙ h.state in
    let ms_is : k.1 ≡ ms = sym (k.2.says 0 (lit≤ tt)) ∙ h.says in
    let place_is : n ≡ min (length row) last_place = omega arith in
    let st : Standing k.0 row ms = rw ms_is at k.3 in
    let P : Resp → Type 0 = λ q. StandsFor q row ms in
    subst P r_is (sound_stands k.0 n row ms st h.says place_is)
by_walk r row ms h (inr (xs, b, ys, t, ns, f, split, g, st, e)) =
    let n : ℕ = min (0 + length xs) last_place in
    let stuck = fault_after first t xs ys b ns f g e in
    let r_is : reader t n (Some (told f n)) ≡ r = sym stuck.0 ∙ ap (after fresh) (sym split) ∙ h.state in
    let ms_is : ns ≡ ms = sym stuck.1 ∙ ap (said fresh) (sym split) ∙ h.says in
    let place_is : n ≡ min (length xs) last_place = omega arith in
    let found : StandsFor (reader t n (Some (told f n))) (xs ++ b ∷ ys) ns = faulty_stands t n f xs ys b ns st g e place_is in
    let P : Resp → Type 0 = λ q. StandsFor q row ms in
    let Q : List ℕ → Type 0 = λ q. StandsFor (reader t n (Some (told f n))) q ms in
    let R : List Message → Type 0 = λ q. StandsFor (reader t n (Some (told f n))) (xs ++ b ∷ ys) q in
    subst P r_is (subst Q (sym split) (subst R ms_is found))

-- What a reader has read, it stands for.
pub means : (r : Resp) (row : List ℕ) (ms : List Message) → HasRead r row ms → StandsFor r row ms
means r row ms h = by_walk r row ms h (walk row first [] [] nothing_read)

-- ---- What a reader without a fault stands for, it has read

none_when : (o : Option Refusal) → is_refused o ≡ false → o ≡ None
none_when None e = refl
none_when (Some f) e = let no : true ≡ false = e in cc

split_goes : (s : Spot) (row rest : List ℕ) (ms : List Message) → Splits row ms rest → StandsAt s rest → Goes first s row ms
split_goes s row rest ms h k =
    let g : Goes first s (h.front ++ rest) (ms ++ []) = goes_append first first s h.front rest ms [] (row_goes ms h.front h.spelled) (stands_goes s rest k) in
    rw h.whole (rw append-nil at g)

back_at : (s : Spot) (n : ℕ) (o : Option Refusal) (row rest : List ℕ) (ms : List Message) → o ≡ None → Splits row ms rest → StandsAt s rest → n ≡ min (length row) last_place → HasRead (reader s n o) row ms
back_at s n o row rest ms e h k place =
    let g = split_goes s row rest ms h k in
    let place_is : min (0 + length row) last_place ≡ n = omega (arith, place) in
    rw e (record { state = g.state 0 (lit≤ tt) ∙ ap (at s) place_is; says = g.says 0 (lit≤ tt) })

pub back : (r : Resp) (row : List ℕ) (ms : List Message) → is_faulted r ≡ false → StandsFor r row ms → HasRead r row ms
back r row ms e h =
    let at_end = h.sound e in
    back_at r.spot r.place r.refusal row h.rest ms (none_when r.refusal e) h.splits at_end.1 at_end.2

-- ---- Behind a fault

pub fault_stays : (r : Resp) (row more : List ℕ) (ms : List Message) → is_faulted r ≡ true → StandsFor r row ms → StandsFor r (row ++ more) ms
fault_stays r row more ms t h =
    let fault = h.faulty t in
    record {
      rest = h.rest ++ more;
      splits = splits_more row more h.rest ms fault.0 fault.1 h.splits;
      sound = λ f. absurd (not_both (is_faulted r) t f);
      faulty = λ q. (fault.0, fault_more row more fault.0 fault.1);
      refused = λ f q. let x = h.refused f q in (x.0, refusal_more row more x.0 f x.1);
    }

-- ---- What a call leaves

none_faulted : (r : Resp) → r.refusal ≡ None → is_faulted r ≡ false
none_faulted r e = ap is_refused e

read_on : (old new : Resp) (piece row : List ℕ) (i j : ℕ) (ms ns : List Message) → i ≤ j → j ≤ length piece → Reads old new (drop i piece) (drop j piece) ns → HasRead old (row ++ take i piece) ms →
    HasRead new (row ++ take j piece) (ms ++ ns)
read_on old new piece row i j ms ns h k r s =
    let more = has_read_more old new (drop i piece) (drop j piece) (row ++ take i piece) ms ns r s in
    let P : List ℕ → Type 0 = λ q. HasRead new q (ms ++ ns) in
    subst P (append_assoc row (take i piece) r.taken ∙ ap (λ q. row ++ q) (taken_is piece r.taken i j h k r.split)) more

stands_on : (old new : Resp) (piece row : List ℕ) (i j : ℕ) (ms ns : List Message) → i ≤ j → j ≤ length piece → Reads old new (drop i piece) (drop j piece) ns → is_faulted old ≡ false →
    StandsFor old (row ++ take i piece) ms → StandsFor new (row ++ take j piece) (ms ++ ns)
stands_on old new piece row i j ms ns h k r e s =
    means new (row ++ take j piece) (ms ++ ns) (read_on old new piece row i j ms ns h k r (back old (row ++ take i piece) ms e s))

stands_still : (old new : Resp) (piece row : List ℕ) (i j : ℕ) (ms : List Message) → i ≤ j → j ≤ length piece → Reads old new (drop i piece) (drop j piece) [] → is_faulted old ≡ false →
    StandsFor old (row ++ take i piece) ms → StandsFor new (row ++ take j piece) ms
stands_still old new piece row i j ms h k r e s =
    subst (StandsFor new (row ++ take j piece)) (append-nil ms) (stands_on old new piece row i j ms [] h k r e s)

pub stands_after : (old new : Resp) (piece : List ℕ) (i j : ℕ) (result : Result (Option Message) RespError) → i ≤ j → j ≤ length piece → is_faulted old ≡ false →
    FeedsOn old new (drop i piece) (drop j piece) result → (row : List ℕ) (ms : List Message) → StandsFor old (row ++ take i piece) ms → StandsAfter new (row ++ take j piece) ms result
stands_after old new piece i j (Ok (Some m)) h k e r row ms s = stands_on old new piece row i j ms (m ∷ []) h k r.0 e s
stands_after old new piece i j (Ok None) h k e r row ms s = stands_still old new piece row i j ms h k r.0 e s
stands_after old new piece i j (Err (Refused f)) h k e r row ms s = stands_still old new piece row i j ms h k (refuses_reads old new (drop i piece) (drop j piece) f r) e s
stands_after old new piece i j (Err Memory) h k e r row ms s = tt

-- the refusal of a row, at its last byte
abbrev pub HasRefusalLast : List ℕ → Refusal → Type 0
HasRefusalLast row f = (place : ℕ) × (place + 1 ≡ length row) × HasRefusal row place f

refused_last : (mid new : Resp) (xs : List ℕ) (b : ℕ) (ms : List Message) (f : Refusal) → IsOpen xs → new.refusal ≡ Some f → StandsFor new (xs ++ b ∷ []) ms → HasRefusalLast (xs ++ b ∷ []) f
refused_last mid new xs b ms f o e s =
    let found = s.refused f e in
    (found.0, place_last xs (xs ++ b ∷ []) b found.0 refl o found.1.has, found.1)

refused_at : (old new : Resp) (piece row : List ℕ) (i j : ℕ) (ms : List Message) (f : Refusal) → i ≤ j → j ≤ length piece → is_faulted old ≡ false →
    Refuses old new (drop i piece) (drop j piece) f → StandsFor old (row ++ take i piece) ms → HasRefusalLast (row ++ take j piece) f
refused_at old new piece row i j ms f h k e r s =
    let before = row ++ take i piece in
    let xs = before ++ r.reads.taken in
    let read : HasRead r.mid xs (ms ++ []) = has_read_more old r.mid (drop i piece) (r.byte ∷ drop j piece) before ms [] r.reads (back old before ms e s) in
    let open_row : IsOpen xs = ((means r.mid xs (ms ++ []) read).sound (none_faulted r.mid r.sound)).0 in
    let whole : drop i piece ≡ (r.reads.taken ++ r.byte ∷ []) ++ drop j piece = r.reads.split ∙ sym (append_assoc r.reads.taken (r.byte ∷ []) (drop j piece)) in
    let row_is : xs ++ r.byte ∷ [] ≡ row ++ take j piece =
    append_assoc before r.reads.taken (r.byte ∷ []) ∙ append_assoc row (take i piece) (r.reads.taken ++ r.byte ∷ [])
    ∙ ap (λ q. row ++ q) (taken_is piece (r.reads.taken ++ r.byte ∷ []) i j h k whole) in
    let last : StandsFor new (row ++ take j piece) ms = stands_still old new piece row i j ms h k (refuses_reads old new (drop i piece) (drop j piece) f r) e s in
    let P : List ℕ → Type 0 = λ q. StandsFor new q ms in
    let Q : List ℕ → Type 0 = λ q. HasRefusalLast q f in
    subst Q row_is (refused_last r.mid new xs r.byte ms f open_row r.answers.2 (subst P (sym row_is) last))

pub place_after : (old new : Resp) (piece : List ℕ) (i j : ℕ) (result : Result (Option Message) RespError) → i ≤ j → j ≤ length piece → is_faulted old ≡ false →
    FeedsOn old new (drop i piece) (drop j piece) result →
    OnFault result (λ f. (row : List ℕ) (ms : List Message) → StandsFor old (row ++ take i piece) ms → HasRefusalLast (row ++ take j piece) f)
place_after old new piece i j (Ok o) h k e r = tt
place_after old new piece i j (Err (Refused f)) h k e r = λ row ms s. refused_at old new piece row i j ms f h k e r s
place_after old new piece i j (Err Memory) h k e r = tt

-- ---- Every stream is read by some reader

pub starts : Starts
starts = record { reader = fresh; stands = means fresh [] [] (record { state = refl; says = refl }) }

by_fault : (r : Resp) (row bytes : List ℕ) (ms : List Message) (b : Bool) → is_faulted r ≡ b → StandsFor r row ms → Continues row ms bytes
by_fault r row bytes ms true e s = record {
  reader = r;
  acting = [];
  stands = subst (StandsFor r (row ++ bytes)) (sym (append-nil ms)) (fault_stays r row bytes ms e s);
}
by_fault r row bytes ms false e s =
    let h = back r row ms e s in
    record {
      reader = after r bytes;
      acting = said r bytes;
      stands = means (after r bytes) (row ++ bytes) (ms ++ said r bytes) (record {
        state = after-append fresh row bytes ∙ ap (λ q. after q bytes) h.state;
        says = said-append fresh row bytes ∙ rw (h.says, h.state) refl;
      });
    }

pub reads_on : (r : Resp) (row bytes : List ℕ) (ms : List Message) → StandsFor r row ms → Continues row ms bytes
reads_on r row bytes ms s = by_fault r row bytes ms (is_faulted r) refl s

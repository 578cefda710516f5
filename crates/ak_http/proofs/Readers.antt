-- A reader stands for the row that it has read.
use Rattle.std.proofs.Common.{ℕ, ◌≡◌, ◌+◌, ◌-◌, ◌≤◌, List, [], ◌∷◌, ◌++◌, Option, Some, None, Result, Ok, Err, length, take, slice_range, refl, sym, ◌∙◌, ap, subst, arith, append_assoc, append-nil}
use Rattle.std.proofs.Math.Seq.{take-add}
use Rattle.ak_http.specs.declared.request.Request.{Request}
use Rattle.ak_http.specs.declared.request.HttpError.{HttpError}
use Rattle.ak_http.specs.declared.http.Http.{Http}
use Rattle.ak_http.specs.declared.stage.Stage.{Stage}
use Rattle.ak_http.specs.declared.stage.Stage.TheVariants.{Head}
use Rattle.ak_http.specs.Grammar.{Spells, SpellsRow, IsFault, HasFaultAt}
use Rattle.ak_http.specs.Standing.{StandsAt, fault_of, StandsFor, Takes, StandsAfter, HasFaultLast}
use Rattle.ak_http.proofs.Heads.{no_front_at, no_bad_front_at, no_front_behind, start_stands}
use Rattle.ak_http.proofs.Rows.{row_more, splits_by, no_fault, fault_more, fault_splits, fault_at}

not_both : (o : Option HttpError) (e : HttpError) → o ≡ None → o ≡ Some e → ⊥
not_both o e f g = cc

joined_more : (front rest row bytes : List ℕ) → row ≡ front ++ rest → row ++ bytes ≡ front ++ (rest ++ bytes)
joined_more front rest row bytes e = ap (λ z. z ++ bytes) e ∙ append_assoc front rest bytes

-- a reader without a fault, where a rest has led
stands_at : (r : Http) (front rest row : List ℕ) (ms : List Request) → fault_of r ≡ None → SpellsRow front ms → row ≡ front ++ rest → StandsAt r.stage rest → StandsFor r row ms
stands_at r front rest row ms f h e s =
    let splits = splits_by front rest row ms h (no_front_at r.stage rest s) e in
    record {
      rest = rest;
      splits = splits;
      sound = λ _. (no_fault row rest ms splits (no_bad_front_at r.stage rest s), s);
      faulty = λ e g. absurd (not_both (fault_of r) e f g);
    }

starts_at : (r : Http) (row : List ℕ) (ms : List Request) → fault_of r ≡ None → r.stage ≡ Head [] → SpellsRow row ms → StandsFor r row ms
starts_at r row ms f s h = let P : Stage → Type 0 = λ q. StandsAt q [] in stands_at r row [] row ms f h (sym (append-nil row)) (subst P (sym s) start_stands)

pub new_stands : (r : Http) → r.stage ≡ Head [] → fault_of r ≡ None → StandsFor r [] []
new_stands r s f = starts_at r [] [] f s refl

pub fault_stays : (r : Http) (row more : List ℕ) (ms : List Request) (e : HttpError) → fault_of r ≡ Some e → StandsFor r row ms → StandsFor r (row ++ more) ms
fault_stays r row more ms e t h =
    let fault = h.faulty e t in
    record {
      rest = h.rest ++ more;
      splits = fault_splits row more h.rest ms fault.0 e fault.1 h.splits;
      sound = λ f. absurd (not_both (fault_of r) e f t);
      faulty = λ g q. let found = h.faulty g q in (found.0, fault_more row more found.0 g found.1);
    }

fault_here : (old new : Http) (row bytes : List ℕ) (ms : List Request) (e : HttpError) → fault_of old ≡ None → ((rest : List ℕ) → StandsAt old.stage rest → IsFault (rest ++ bytes) e) →
    StandsFor old row ms → (place : ℕ) × (place + 1 ≡ length (row ++ bytes)) × HasFaultAt (row ++ bytes) place e
fault_here old new row bytes ms e f k h =
    fault_at h.splits.front (h.rest ++ bytes) (row ++ bytes) ms e h.splits.spelled (k h.rest (h.sound f).1) (joined_more h.splits.front h.rest row bytes h.splits.whole)

same_error : (o : Option HttpError) (e g : HttpError) → o ≡ Some e → o ≡ Some g → e ≡ g
same_error o e g h k = cc

pub stands_more : (old new : Http) (row bytes : List ℕ) (ms : List Request) (result : Result (Option Request) HttpError) → fault_of old ≡ None → Takes old bytes new result → StandsFor old row ms →
    StandsAfter new (row ++ bytes) ms result
stands_more old new row bytes ms (Ok None) f k h =
    stands_at new h.splits.front (h.rest ++ bytes) (row ++ bytes) ms k.1 h.splits.spelled (joined_more h.splits.front h.rest row bytes h.splits.whole) (k.0 h.rest (h.sound f).1)
stands_more old new row bytes ms (Ok (Some m)) f k h =
    let R : List ℕ → Type 0 = λ z. SpellsRow z (ms ++ m ∷ []) in
    let spelled = row_more ms m h.splits.front (h.rest ++ bytes) h.splits.spelled (k.0 h.rest (h.sound f).1) in
    starts_at new (row ++ bytes) (ms ++ m ∷ []) k.2 k.1 (subst R (sym (joined_more h.splits.front h.rest row bytes h.splits.whole)) spelled)
stands_more old new row bytes ms (Err e) f k h = λ n.
    let taken = k n in
    let at = (h.sound f).1 in
    let H : List ℕ → Type 0 = λ z. (z' y : List ℕ) (m : Request) → Spells z' m → z ≡ z' ++ y → ⊥ in
    let found = fault_here old new row bytes ms e f taken.0 h in
    record {
      rest = h.rest ++ bytes;
      splits = splits_by h.splits.front (h.rest ++ bytes) (row ++ bytes) ms h.splits.spelled (subst H (append-nil (h.rest ++ bytes)) (no_front_behind (h.rest ++ bytes) [] e (taken.0 h.rest at))) (joined_more h.splits.front h.rest row bytes h.splits.whole);
      sound = λ g. absurd (not_both (fault_of new) e g taken.1);
      faulty = λ g q. let F : HttpError → Type 0 = λ x. HasFaultAt (row ++ bytes) found.0 x in (found.0, subst F (same_error (fault_of new) e g taken.1 q) found.2);
    }

fault_last : (old new : Http) (row bytes : List ℕ) (ms : List Request) (result : Result (Option Request) HttpError) → fault_of old ≡ None → Takes old bytes new result → StandsFor old row ms →
    HasFaultLast (row ++ bytes) result
fault_last old new row bytes ms (Ok o) f k h = tt
fault_last old new row bytes ms (Err e) f k h = λ n. fault_here old new row bytes ms e f (k n).0 h

-- what a reader stood for at the beginning of a piece, and stands for further on
abbrev pub Reads : Http → Http → List ℕ → ℕ → ℕ → Type 0
Reads old new piece start at = (row : List ℕ) (ms : List Request) → StandsFor old (row ++ take start piece) ms → StandsFor new (row ++ take at piece) ms

one_more : (row piece bytes : List ℕ) (at end : ℕ) → take end piece ≡ take at piece ++ bytes → (row ++ take at piece) ++ bytes ≡ row ++ take end piece
one_more row piece bytes at end e = append_assoc row (take at piece) bytes ∙ ap (λ z. row ++ z) (sym e)

pub range_more : (piece : List ℕ) (at end : ℕ) → at ≤ end → take end piece ≡ take at piece ++ slice_range piece at end
range_more piece at end h =
    let whole : at + (end - at) ≡ end = omega arith in
    sym (ap (λ n. take n piece) whole) ∙ take-add at (end - at) piece

pub reads_bytes : (old mid new : Http) (piece bytes : List ℕ) (start at end : ℕ) (result : Result (Option Request) HttpError) → take end piece ≡ take at piece ++ bytes → fault_of mid ≡ None →
    Takes mid bytes new result → Reads old mid piece start at → (row : List ℕ) (ms : List Request) → StandsFor old (row ++ take start piece) ms → StandsAfter new (row ++ take end piece) ms result
reads_bytes old mid new piece bytes start at end result e f k reads row ms s =
    let P : List ℕ → Type 0 = λ z. StandsAfter new z ms result in
    subst P (one_more row piece bytes at end e) (stands_more mid new (row ++ take at piece) bytes ms result f k (reads row ms s))

pub reads_fault : (old mid new : Http) (piece bytes : List ℕ) (start at end : ℕ) (result : Result (Option Request) HttpError) → take end piece ≡ take at piece ++ bytes → fault_of mid ≡ None →
    Takes mid bytes new result → Reads old mid piece start at → (row : List ℕ) (ms : List Request) → StandsFor old (row ++ take start piece) ms → HasFaultLast (row ++ take end piece) result
reads_fault old mid new piece bytes start at end result e f k reads row ms s =
    let P : List ℕ → Type 0 = λ z. HasFaultLast z result in
    subst P (one_more row piece bytes at end e) (fault_last mid new (row ++ take at piece) bytes ms result f k (reads row ms s))

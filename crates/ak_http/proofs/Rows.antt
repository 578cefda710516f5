-- Rows of spellings, and what comes behind them.
use Rattle.std.proofs.Common.{ℕ, ◌≡◌, ◌+◌, ◌-◌, ◌≤◌, inl, inr, List, [], ◌∷◌, ◌++◌, length, refl, sym, ◌∙◌, ap, subst, arith, append_assoc, append-nil}
use Rattle.std.proofs.lemmas.List.{append_cancel_left, length-append}
use Rattle.ak_http.specs.declared.request.Request.{Request}
use Rattle.ak_http.specs.declared.request.HttpError.{HttpError}
use Rattle.ak_http.specs.Grammar.{Spells, SpellsRow, Splits, IsFault, HasFaultAt, HasNoFault}
use Rattle.ak_base.proofs.Basics.{longer_front}
use Rattle.ak_http.proofs.Heads.{cases_le, no_length, both_none, one_cut, cut_some, fault_cut, same_fault, one_spelling, HasNoFront, HasNoBadFront, no_front_at, no_front_behind, start_stands}
use Rattle.ak_http.specs.declared.stage.Stage.TheVariants.{Head}

no_spelling : (m : Request) → Spells [] m → ⊥
no_spelling m h = no_front_at (Head []) [] start_stands [] [] m h refl

no_row : (x y : List ℕ) (m : Request) → Spells x m → x ++ y ≡ [] → ⊥
no_row x y m h e = let P : List ℕ → Type 0 = λ z. Spells z m in no_spelling m (subst P (both_none x y e) h)

-- Behind a row of spellings that begins another, the other goes on with one.
pub peel : (ms ns : List Request) (front behind row : List ℕ) → SpellsRow front ms → SpellsRow row ns → row ≡ front ++ behind → (more : List Request) × SpellsRow behind more × (ns ≡ ms ++ more)
peel [] ns front behind row h k e =
    let whole : row ≡ behind = rw h at e in
    let P : List ℕ → Type 0 = λ z. SpellsRow z ns in
    (ns, subst P whole k, refl)
peel (m ∷ ms) [] front behind row h k e =
    absurd (no_row h.0 (h.1 ++ behind) m h.3 (sym (append_assoc h.0 h.1 behind) ∙ ap (λ z. z ++ behind) (sym h.2) ∙ sym e ∙ k))
peel (m ∷ ms) (n ∷ ns) front behind row h k e =
    let joined : h.0 ++ (h.1 ++ behind) ≡ k.0 ++ k.1 = sym (append_assoc h.0 h.1 behind) ∙ ap (λ z. z ++ behind) (sym h.2) ∙ sym e ∙ k.2 in
    let same = one_spelling h.0 k.0 (h.1 ++ behind) k.1 m n h.3 k.3 joined in
    let P : List ℕ → Type 0 = λ z. z ++ (h.1 ++ behind) ≡ k.0 ++ k.1 in
    let tail : h.1 ++ behind ≡ k.1 = append_cancel_left k.0 (h.1 ++ behind) k.1 (subst P same.0 joined) in
    let rest = peel ms ns h.1 behind k.1 h.4 k.4 (sym tail) in
    let request : m ≡ n = same.1 in
    let requests : ns ≡ ms ++ rest.0 = rest.2 in
    (rest.0, rest.1, cc)

pub row_more : (ms : List Request) (m : Request) (x y : List ℕ) → SpellsRow x ms → Spells y m → SpellsRow (x ++ y) (ms ++ m ∷ [])
row_more [] m x y h k = (y, [], rw (h, append-nil) refl, k, refl)
row_more (n ∷ ns) m x y h k = (h.0, h.1 ++ y, rw h.2 (append_assoc h.0 h.1 y), h.3, row_more ns m h.1 y h.4 k)

no_longer_row : (ns : List Request) (w y rest front : List ℕ) → HasNoFront rest → SpellsRow w ns → rest ≡ w ++ y → length (front ++ w) ≤ length front
no_longer_row [] w y rest front none k e = rw (k, append-nil) (omega arith)
no_longer_row (n ∷ ns) w y rest front none k e = absurd (none k.0 (k.1 ++ y) n k.3 (e ∙ ap (λ z. z ++ y) k.2 ∙ append_assoc k.0 k.1 y))

row_longest : (ms ns : List Request) (front rest x y : List ℕ) → SpellsRow front ms → HasNoFront rest → SpellsRow x ns → front ++ rest ≡ x ++ y → length x ≤ length front
row_longest ms ns front rest x y h none k e =
    elim (cases_le (length x) (length front)) [
      | inl l ↦ l
      | inr l ↦
          let w = longer_front front rest x y e l in
          let more = peel ms ns front w.0 x h k w.1 in
          rw w.1 (no_longer_row more.0 w.0 y rest front none more.1 w.2)
    ]

pub splits_by : (front rest row : List ℕ) (ms : List Request) → SpellsRow front ms → HasNoFront rest → row ≡ front ++ rest → Splits row ms rest
splits_by front rest row ms h none e = record {
  front = front;
  whole = e;
  spelled = h;
  longest = λ x y ns split k. row_longest ms ns front rest x y h none k (sym e ∙ split);
}

no_requests : (ms more : List Request) → SpellsRow [] more → ms ++ more ≡ ms
no_requests ms [] h = append-nil ms
no_requests ms (m ∷ more) h = absurd (no_row h.0 h.1 m h.3 (sym h.2))

same_requests : (ms ns : List Request) (front : List ℕ) → SpellsRow front ms → SpellsRow front ns → ms ≡ ns
same_requests ms ns front h k =
    let more = peel ms ns front [] front h k (sym (append-nil front)) in
    sym (more.2 ∙ no_requests ms more.0 more.1)

pub one_split : (row : List ℕ) (ms ns : List Request) (rest end : List ℕ) → Splits row ms rest → Splits row ns end → (ms ≡ ns) × (rest ≡ end)
one_split row ms ns rest end h k =
    let joined : h.front ++ rest ≡ k.front ++ end = sym h.whole ∙ k.whole in
    let shorter : length k.front ≤ length h.front = h.longest k.front end ns k.whole k.spelled in
    let longer : length h.front ≤ length k.front = k.longest h.front rest ms h.whole h.spelled in
    let w = longer_front h.front rest k.front end joined longer in
    let all : length k.front ≡ length h.front + length w.0 = ap length w.1 ∙ length-append h.front w.0 in
    let none : w.0 ≡ [] = no_length w.0 (omega arith) in
    let same : k.front ≡ h.front = w.1 ∙ rw (none, append-nil) refl in
    let P : List ℕ → Type 0 = λ z. SpellsRow z ns in
    (same_requests ms ns h.front h.spelled (subst P same k.spelled), w.2 ∙ rw none refl)

-- ---- Faults

-- No spelling stands where a faulty head does.
nothing_spelled : (ns : List Request) (w rest head more : List ℕ) (e : HttpError) → IsFault head e → SpellsRow w ns → head ++ more ≡ w ++ rest → w ≡ []
nothing_spelled [] w rest head more e f k j = k
nothing_spelled (n ∷ ns) w rest head more e f k j =
    absurd (no_front_behind head more e f k.0 (k.1 ++ rest) n k.3 (j ∙ ap (λ z. z ++ rest) k.2 ∙ append_assoc k.0 k.1 rest))

-- a row of spellings that goes on from before a faulty head ends there
fronts_same : (ms ns : List Request) (front behind x y head more : List ℕ) (e : HttpError) → SpellsRow front ms → SpellsRow x ns → IsFault head e →
    behind ≡ head ++ more → front ++ behind ≡ x ++ y → length front ≤ length x → (x ≡ front) × (behind ≡ y)
fronts_same ms ns front behind x y head more e h k f i j l =
    let w = longer_front front behind x y j l in
    let row = peel ms ns front w.0 x h k w.1 in
    let none : w.0 ≡ [] = nothing_spelled row.0 w.0 y head more e f row.1 (sym i ∙ w.2) in
    (w.1 ∙ ap (λ z. front ++ z) none ∙ append-nil front, w.2 ∙ ap (λ z. z ++ y) none)

before_fault : (row x y : List ℕ) (ns : List Request) (p : ℕ) (e : HttpError) (f : HasFaultAt row p e) → row ≡ x ++ y → SpellsRow x ns → length x ≤ length f.front
before_fault row x y ns p e f j k =
    elim (cases_le (length x) (length f.front)) [
      | inl l ↦ l
      | inr l ↦
          let same = fronts_same f.requests ns f.front (f.head ++ f.more) x y f.head f.more e f.spelled k f.fault refl (sym f.whole ∙ j) l in
          let size : length x ≡ length f.front = ap length same.0 in
          omega arith
    ]

pub no_fault : (row rest : List ℕ) (ms : List Request) → Splits row ms rest → HasNoBadFront rest → HasNoFault row
no_fault row rest ms h none p e f =
    let shorter : length f.front ≤ length h.front = h.longest f.front (f.head ++ f.more) f.requests f.whole f.spelled in
    let same = fronts_same f.requests ms f.front (f.head ++ f.more) h.front rest f.head f.more e f.spelled h.spelled f.fault refl (sym f.whole ∙ h.whole) shorter in
    none f.head f.more e f.fault (sym same.1)

same_place : (p q n m : ℕ) → p + 1 ≡ n → q + 1 ≡ m → n ≡ m → p ≡ q
same_place p q n m h k e = omega arith

faults_same : (row : List ℕ) (p q : ℕ) (e f : HttpError) (h : HasFaultAt row p e) (k : HasFaultAt row q f) → length h.front ≤ length k.front → (p ≡ q) × (e ≡ f)
faults_same row p q e f h k l =
    let same = fronts_same h.requests k.requests h.front (h.head ++ h.more) k.front (k.head ++ k.more) h.head h.more e h.spelled k.spelled h.fault refl (sym h.whole ∙ k.whole) l in
    let heads : h.head ≡ k.head = one_cut h.head k.head h.more k.more same.1 (fault_cut h.head e h.fault) (fault_cut k.head f k.fault) in
    let F : List ℕ → Type 0 = λ z. IsFault z e in
    let all : h.front ++ h.head ≡ k.front ++ k.head = ap (λ z. h.front ++ z) heads ∙ ap (λ z. z ++ k.head) (sym same.0) in
    (same_place p q _ _ h.last k.last (ap length all), same_fault k.head e f (subst F heads h.fault) k.fault)

pub one_fault : (row : List ℕ) (p q : ℕ) (e f : HttpError) → HasFaultAt row p e → HasFaultAt row q f → (p ≡ q) × (e ≡ f)
one_fault row p q e f h k =
    elim (cases_le (length h.front) (length k.front)) [
      | inl l ↦ faults_same row p q e f h k l
      | inr l ↦ let same = faults_same row q p f e k h l in (sym same.0, sym same.1)
    ]

pub fault_more : (row more : List ℕ) (p : ℕ) (e : HttpError) → HasFaultAt row p e → HasFaultAt (row ++ more) p e
fault_more row more p e h = record {
  front = h.front;
  head = h.head;
  more = h.more ++ more;
  requests = h.requests;
  whole = ap (λ z. z ++ more) h.whole ∙ append_assoc h.front (h.head ++ h.more) more ∙ ap (λ z. h.front ++ z) (append_assoc h.head h.more more);
  spelled = h.spelled;
  fault = h.fault;
  last = h.last;
}

pub fault_splits : (row more rest : List ℕ) (ms : List Request) (p : ℕ) (e : HttpError) → HasFaultAt row p e → Splits row ms rest → Splits (row ++ more) ms (rest ++ more)
unfolding fault_more
fault_splits row more rest ms p e h k = record {
  front = k.front;
  whole = ap (λ z. z ++ more) k.whole ∙ append_assoc k.front rest more;
  spelled = k.spelled;
  longest = λ x y ns j s.
      let shorter : length x ≤ length h.front = before_fault (row ++ more) x y ns p e (fault_more row more p e h) j s in
      let short : length h.front ≤ length k.front = k.longest h.front (h.head ++ h.more) h.requests h.whole h.spelled in
      omega arith;
}

pub fault_at : (front rest row : List ℕ) (ms : List Request) (e : HttpError) → SpellsRow front ms → IsFault rest e → row ≡ front ++ rest → (place : ℕ) × (place + 1 ≡ length row) × HasFaultAt row place e
fault_at front rest row ms e h f j =
    let some : 1 ≤ length rest = cut_some rest (fault_cut rest e f) in
    let size : length row ≡ length (front ++ rest) = ap length j in
    let all : length (front ++ rest) ≡ length front + length rest = length-append front rest in
    let last : length (front ++ rest) - 1 + 1 ≡ length (front ++ rest) = omega arith in (
      length (front ++ rest) - 1,
      last ∙ sym size,
      record {
        front = front;
        head = rest;
        more = [];
        requests = ms;
        whole = j ∙ ap (λ z. front ++ z) (sym (append-nil rest));
        spelled = h;
        fault = f;
        last = last;
      },
    )

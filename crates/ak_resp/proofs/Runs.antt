-- Content that is taken together does what its bytes do one by one.
use Rattle.std.proofs.Common.{ℕ, ◌≡◌, ◌+◌, ◌-◌, ◌<◌, ◌≤◌, ◌++◌, List, [], ◌∷◌, min, length, Option, Some, None, refl, sym, ◌∙◌, ap, suc, arith, append_assoc, append-nil, length-append, take, drop, take-append-drop, length-take-le, Result, Ok, Err}
use Rattle.std.proofs.lemmas.List.{drop-drop, take_at, length-drop}
use Rattle.ak_resp.specs.declared.message.RespError.{RespError}
use Rattle.ak_resp.specs.declared.message.RespError.TheVariants.{Refused, Memory}
use Rattle.std.proofs.lemmas.Bool.Decides.{nat_tests}
use Rattle.std.specs.List.{AllByRecursion}
use Rattle.std.proofs.lemmas.List.Elements.{recursion_from_All}
use Rattle.ak_resp.specs.declared.message.Message.{Message}
use Rattle.ak_base.specs.declared.refusal.Refusal.{Refusal}
use Rattle.ak_resp.specs.declared.resp.Resp.{Resp}
use Rattle.ak_resp.specs.declared.spot.Spot.{Spot}
use Rattle.ak_resp.specs.declared.spot.Progress.{Progress}
use Rattle.ak_resp.specs.declared.spot.Within.{Within}
use Rattle.ak_resp.specs.declared.spot.Within.TheVariants.{Start, Simple, Integer, BulkHead, ArrayHead, BulkHeadEnd, ArrayHeadEnd, Content, PartEnd}
use Rattle.ak_resp.specs.Grammar.{IsLineByte}
use Rattle.ak_resp.specs.Machine.{going, simple, content, IsRun, extended}
use Rattle.ak_resp.specs.Standing.{last_place}
use Rattle.ak_resp.specs.Rows.{after, said, next_reader, said_by, fresh, HasRead, Reads, Refuses, FeedsOn, Answers}

-- a spot, and a reader that is there
abbrev pub spot : Progress → Within → List ℕ → Spot
spot p w c = record { progress = p; within = w; bytes = c }

abbrev pub at : Spot → ℕ → Resp
at s n = record { spot = s; place = n; refusal = None }

pub simple_byte : (p : Progress) (c : List ℕ) (b : ℕ) → length c < 4096 → IsLineByte b → simple (spot p Simple c) b ≡ going (spot p Simple (c ++ b ∷ []))
simple_byte p c b h l = grind (arith, nat_tests, l.not_cr, l.not_lf)

pub content_byte : (p : Progress) (c : List ℕ) (left b : ℕ) → 0 < left → content (spot p (Content left) c) left b ≡ going (spot p (Content (left - 1)) (c ++ b ∷ []))
content_byte p c left b h = grind (arith, nat_tests)

pub min_more : (n k : ℕ) → min (min (n + 1) last_place + k) last_place ≡ min (n + suc k) last_place
min_more n k = omega arith

abbrev Run : Spot → Spot → ℕ → List ℕ → Type 0
Run old new n bytes = (after (at old n) bytes ≡ at new (min (n + length bytes) last_place)) × (said (at old n) bytes ≡ [])

pub simple_run : (p : Progress) (c : List ℕ) (n : ℕ) (bytes : List ℕ) → n ≤ last_place → length bytes ≤ 4096 - length c → AllByRecursion IsLineByte bytes →
    Run (spot p Simple c) (spot p Simple (c ++ bytes)) n bytes
simple_run p c n [] f h l = (grind (arith, append-nil {A = ℕ}), refl)
simple_run p c n (b ∷ bs) f h l =
    let e : simple (spot p Simple c) b ≡ going (spot p Simple (c ++ b ∷ [])) = simple_byte p c b (omega arith) l.0 in
    let ih : Run (spot p Simple (c ++ b ∷ [])) (spot p Simple ((c ++ b ∷ []) ++ bs)) (min (n + 1) last_place) bs =
    simple_run p (c ++ b ∷ []) (min (n + 1) last_place) bs (omega arith) (omega (arith, length-append {A = ℕ})) l.1 in
    rw e (rw append_assoc at (rw min_more at ih))

pub content_run : (p : Progress) (c : List ℕ) (n left : ℕ) (bytes : List ℕ) → n ≤ last_place → length bytes ≤ left →
    Run (spot p (Content left) c) (spot p (Content (left - length bytes)) (c ++ bytes)) n bytes
content_run p c n left [] f h = (grind (arith, append-nil {A = ℕ}), refl)
content_run p c n left (b ∷ bs) f h =
    let e : content (spot p (Content left) c) left b ≡ going (spot p (Content (left - 1)) (c ++ b ∷ [])) = content_byte p c left b (omega arith) in
    let ih : Run (spot p (Content (left - 1)) (c ++ b ∷ [])) (spot p (Content (left - 1 - length bs)) ((c ++ b ∷ []) ++ bs)) (min (n + 1) last_place) bs =
    content_run p (c ++ b ∷ []) (min (n + 1) last_place) (left - 1) bs (omega arith) (omega arith) in
    let one_less : left - 1 - length bs ≡ left - suc (length bs) = omega arith in
    rw e (rw one_less at (rw append_assoc at (rw min_more at ih)))

abbrev RunIn : Within → Progress → List ℕ → ℕ → List ℕ → Type 0
RunIn w p c n bytes = IsRun (spot p w c) bytes → Run (spot p w c) (extended (spot p w c) bytes) n bytes

none_run : (w : Within) (p : Progress) (c : List ℕ) (n : ℕ) (bytes : List ℕ) → n ≤ last_place → bytes ≡ [] → Run (spot p w c) (spot p w (c ++ bytes)) n bytes
none_run w p c n bytes f e = rw e (grind (arith, append-nil {A = ℕ}), refl)

run_in : (w : Within) (p : Progress) (c : List ℕ) (n : ℕ) (bytes : List ℕ) → n ≤ last_place → RunIn w p c n bytes
run_in Simple p c n bytes f h = simple_run p c n bytes f h.0 (recursion_from_All IsLineByte bytes h.1)
run_in (Content left) p c n bytes f h = content_run p c n left bytes f h
run_in Start p c n bytes f h = none_run _ p c n bytes f h
run_in Integer p c n bytes f h = none_run _ p c n bytes f h
run_in (BulkHead d v) p c n bytes f h = none_run _ p c n bytes f h
run_in (ArrayHead d v) p c n bytes f h = none_run _ p c n bytes f h
run_in (BulkHeadEnd v) p c n bytes f h = none_run _ p c n bytes f h
run_in (ArrayHeadEnd v) p c n bytes f h = none_run _ p c n bytes f h
run_in (PartEnd k) p c n bytes f h = none_run _ p c n bytes f h

abbrev pub reader : Spot → ℕ → Option Refusal → Resp
reader s n f = record { spot = s; place = n; refusal = f }

run_takes_at : (s : Spot) (n : ℕ) (f : Option Refusal) (bytes : List ℕ) → f ≡ None → n ≤ last_place → IsRun s bytes →
    (reader (extended s bytes) (min (n + length bytes) last_place) f ≡ after (reader s n f) bytes) × (said (reader s n f) bytes ≡ [])
run_takes_at s n f bytes e h run =
    let found : Run s (extended s bytes) n bytes = run_in s.within s.progress s.bytes n bytes h run in
    rw e (sym found.0, found.1)

-- what taking content together leaves of a reader
pub run_takes : (r : Resp) (bytes : List ℕ) → r.refusal ≡ None → r.place ≤ last_place → IsRun r.spot bytes →
    (reader (extended r.spot bytes) (min (r.place + length bytes) last_place) r.refusal ≡ after r bytes) × (said r bytes ≡ [])
run_takes r bytes e h run = run_takes_at r.spot r.place r.refusal bytes e h run

-- what was read before, and then more
pub after-append : (r : Resp) (xs ys : List ℕ) → after r (xs ++ ys) ≡ after (after r xs) ys
after-append r [] ys = refl
after-append r (x ∷ xs) ys = after-append (next_reader r x) xs ys

pub said-append : (r : Resp) (xs ys : List ℕ) → said r (xs ++ ys) ≡ said r xs ++ said (after r xs) ys
said-append r [] ys = refl
said-append r (x ∷ xs) ys = ap (λ ms. said_by r x ++ ms) (said-append (next_reader r x) xs ys) ∙ sym (append_assoc (said_by r x) (said (next_reader r x) xs) (said (after (next_reader r x) xs) ys))

-- what was read before, and then more
pub joins : (old mid new : Resp) (bytes more rest : List ℕ) (ms ns : List Message) → Reads old mid bytes more ms → Reads mid new more rest ns → Reads old new bytes rest (ms ++ ns)
joins old mid new bytes more rest ms ns h k = record {
  taken = h.taken ++ k.taken;
  split = h.split ∙ ap (λ xs. h.taken ++ xs) k.split ∙ sym (append_assoc h.taken k.taken rest);
  state = after-append old h.taken k.taken ∙ rw h.state k.state;
  says = said-append old h.taken k.taken ∙ rw (h.says, h.state) (ap (λ ks. ms ++ ks) k.says);
}

-- nothing was taken yet
pub reads_none : (r : Resp) (bytes : List ℕ) → Reads r r bytes bytes []
reads_none r bytes = record { taken = []; split = refl; state = refl; says = refl }

-- a call that went on where another left off
pub feeds_more : (old mid new : Resp) (bytes more rest : List ℕ) (result : Result (Option Message) RespError) →
    Reads old mid bytes more [] → FeedsOn mid new more rest result → FeedsOn old new bytes rest result
feeds_more old mid new bytes more rest (Ok (Some m)) h k = (joins old mid new bytes more rest [] (m ∷ []) h k.0, k.1)
feeds_more old mid new bytes more rest (Ok None) h k = (joins old mid new bytes more rest [] [] h k.0, k.1)
feeds_more old mid new bytes more rest (Err (Refused f)) h k = record {
  mid = k.mid;
  byte = k.byte;
  reads = joins old mid k.mid bytes more (k.byte ∷ rest) [] [] h k.reads;
  sound = k.sound;
  answers = k.answers;
}
feeds_more old mid new bytes more rest (Err Memory) h k = tt

pub reads_run : (old new : Resp) (piece : List ℕ) (i run : ℕ) → new ≡ after old (take run (drop i piece)) → said old (take run (drop i piece)) ≡ [] →
    Reads old new (drop i piece) (drop (i + run) piece) []
reads_run old new piece i run left told = record {
  taken = take run (drop i piece);
  split = sym (take-append-drop run (drop i piece)) ∙ ap (λ xs. take run (drop i piece) ++ xs) (drop-drop run i piece);
  state = sym left;
  says = told;
}

reads_byte : (old new : Resp) (bytes rest : List ℕ) (b : ℕ) (ms : List Message) → bytes ≡ b ∷ rest → next_reader old b ≡ new → said_by old b ≡ ms →
    Reads old new bytes rest ms
reads_byte old new bytes rest b ms e left told = record {
  taken = b ∷ [];
  split = e;
  state = left;
  says = append-nil (said_by old b) ∙ told;
}

pub feeds_byte : (old new : Resp) (bytes rest : List ℕ) (b : ℕ) (result : Result (Option Message) RespError) → bytes ≡ b ∷ rest → old.refusal ≡ None →
    Answers (said_by old b) (next_reader old b) result new → FeedsOn old new bytes rest result
feeds_byte old new bytes rest b (Ok (Some m)) e n k = (reads_byte old new bytes rest b (m ∷ []) e k.1 k.0, k.2)
feeds_byte old new bytes rest b (Ok None) e n k = (reads_byte old new bytes rest b [] e k.1 k.0, k.2)
feeds_byte old new bytes rest b (Err (Refused f)) e n k = record {
  mid = old;
  byte = b;
  reads = record { taken = []; split = e; state = refl; says = refl };
  sound = n;
  answers = k;
}
feeds_byte old new bytes rest b (Err Memory) e n k = tt

-- a fault stays
pub fault_stays : (s : Spot) (n : ℕ) (f : Refusal) (xs : List ℕ) → (after (reader s n (Some f)) xs ≡ reader s n (Some f)) × (said (reader s n (Some f)) xs ≡ [])
fault_stays s n f [] = (refl, refl)
fault_stays s n f (x ∷ xs) = fault_stays s n f xs

-- what was taken comes behind the row
pub has_read_more : (old new : Resp) (bytes rest row : List ℕ) (ms ns : List Message) (h : Reads old new bytes rest ns) → HasRead old row ms → HasRead new (row ++ h.taken) (ms ++ ns)
has_read_more old new bytes rest row ms ns h s = record {
  state = after-append fresh row h.taken ∙ rw s.state h.state;
  says = said-append fresh row h.taken ∙ rw (s.says, s.state) (ap (λ ks. ms ++ ks) h.says);
}

-- what was taken stands between the two places of the piece
pub taken_is : (piece taken : List ℕ) (i j : ℕ) → i ≤ j → j ≤ length piece → drop i piece ≡ taken ++ drop j piece → take i piece ++ taken ≡ take j piece
taken_is piece taken i j h k e =
    let count : length (take i piece ++ taken) ≡ j =
    omega (arith, ap length e, length-append taken (drop j piece), length-drop i piece, length-drop j piece, length-append (take i piece) taken, length-take-le i piece (omega (arith, h, k))) in
    let whole : piece ≡ (take i piece ++ taken) ++ drop j piece =
    sym (take-append-drop i piece) ∙ ap (λ xs. take i piece ++ xs) e ∙ sym (append_assoc (take i piece) taken (drop j piece)) in
    sym (ap (λ xs. take j xs) whole ∙ take_at (take i piece ++ taken) (drop j piece) j count)

-- what was read with the byte that is refused
pub refuses_reads : (old new : Resp) (bytes rest : List ℕ) (f : Refusal) → Refuses old new bytes rest f → Reads old new bytes rest []
refuses_reads old new bytes rest f h =
    joins old h.mid new bytes (h.byte ∷ rest) rest [] [] h.reads (reads_byte h.mid new (h.byte ∷ rest) rest h.byte [] refl h.answers.1 h.answers.0)

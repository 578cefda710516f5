-- Where a head is cut, and what no stage of a request begins with.
use Rattle.std.proofs.Common.{ℕ, ◌≡◌, ◌+◌, ◌<◌, ◌≤◌, ◌⊎◌, inl, inr, List, [], ◌∷◌, ◌++◌, Some, None, Result, Ok, Err, IfOk, length, refl, sym, ◌∙◌, ap, subst, arith, append_assoc, append-nil, suc, lit<}
use Rattle.std.proofs.lemmas.List.{append_cancel_left, length-append}
use Rattle.std.proofs.lemmas.Bool.{cases_lt}
use Rattle.ak_base.proofs.Basics.{longer_front}
use Rattle.httparse.proofs.GrammarLemmas.{request_unique}
use Rattle.ak_http.specs.declared.request.Request.{Request}
use Rattle.ak_http.specs.declared.request.HttpError.{HttpError}
use Rattle.ak_http.specs.declared.request.HttpError.TheVariants.{BadHead, BadLength, Memory}
use Rattle.ak_http.specs.declared.stage.Stage.{Stage}
use Rattle.ak_http.specs.declared.stage.Stage.TheVariants.{Head, Body}
use Rattle.ak_http.specs.Head.{EndsInMark, HasNoMark, EndsHead, names_and_values, body_length}
use Rattle.ak_http.specs.Grammar.{SpellsHead, Spells, IsFault}
use Rattle.ak_http.specs.declared.stage.Outcome.{Outcome}
use Rattle.ak_http.specs.Standing.{StandsAt, ComesTo}

-- ---- Lists

pub cases_le : (n m : ℕ) → (n ≤ m) ⊎ (m ≤ n)
cases_le n m = elim (cases_lt n m) [ inl h ↦ inl (omega arith) | inr h ↦ inr h ]

pub no_length : (xs : List ℕ) → length xs ≡ 0 → xs ≡ []
no_length [] e = refl
no_length (x ∷ xs) e = let some : suc (length xs) ≡ 0 = e in absurd (omega arith)

pub both_none : (xs ys : List ℕ) → xs ++ ys ≡ [] → xs ≡ []
both_none [] ys e = refl
both_none (x ∷ xs) ys e = cc

none_behind : (a w : List ℕ) → length a ≡ 8192 → length (a ++ w) ≤ 8192 → w ≡ []
none_behind a w e h = let all : length (a ++ w) ≡ length a + length w = length-append a w in no_length w (omega arith)

same_front : (a x b y : List ℕ) → a ++ x ≡ b ++ y → length a ≡ length b → a ≡ b
same_front a x b y e l =
    let w = longer_front a x b y e (omega arith) in
    let all : length b ≡ length a + length w.0 = ap length w.1 ∙ length-append a w.0 in
    let none : w.0 ≡ [] = no_length w.0 (omega arith) in
    sym (w.1 ∙ ap (λ z. a ++ z) none ∙ append-nil a)

-- ---- Cuts

-- A head ends here, or 8192 bytes have no end.
abbrev pub IsCut : List ℕ → Type 0
IsCut bytes = EndsHead bytes ⊎ ((length bytes ≡ 8192) × HasNoMark bytes)

cut_within : (a w : List ℕ) → IsCut a → IsCut (a ++ w) → w ≡ []
cut_within a w (inl h) (inl k) = k.first a w refl h.marked
cut_within a w (inl h) (inr k) = absurd (k.1 a w refl h.marked)
cut_within a w (inr h) (inl k) = none_behind a w h.0 k.short
cut_within a w (inr h) (inr k) = let all = k.0 in none_behind a w h.0 (omega arith)

pub one_cut : (a b x y : List ℕ) → a ++ x ≡ b ++ y → IsCut a → IsCut b → a ≡ b
one_cut a b x y e h k =
    elim (cases_le (length a) (length b)) [
      | inl l ↦ let w = longer_front a x b y e l in sym (w.1 ∙ ap (λ z. a ++ z) (cut_within a w.0 h (subst IsCut w.1 k)) ∙ append-nil a)
      | inr l ↦ let w = longer_front b y a x (sym e) l in w.1 ∙ ap (λ z. b ++ z) (cut_within b w.0 k (subst IsCut w.1 h)) ∙ append-nil b
    ]

no_mark : EndsInMark [] → ⊥
no_mark (inl e) = cc
no_mark (inr e) = cc

pub none_marked : HasNoMark []
none_marked x y e m = no_mark (subst EndsInMark (both_none x y (sym e)) m)

no_cut : IsCut [] → ⊥
no_cut (inl h) = no_mark h.marked
no_cut (inr h) = let none : length {A = ℕ} [] ≡ 8192 = h.0 in omega (arith, none)

pub cut_some : (a : List ℕ) → IsCut a → 1 ≤ length a
cut_some [] h = absurd (no_cut h)
cut_some (b ∷ a) h = let more : length (b ∷ a) ≡ suc (length a) = refl in omega arith

pub fault_cut : (a : List ℕ) (e : HttpError) → IsFault a e → IsCut a
fault_cut a BadHead (inl f) = inl f.0
fault_cut a BadHead (inr f) = inr f
fault_cut a BadLength f = inl f.1
fault_cut a Memory f = absurd f

-- ---- Whole heads

some_is : (n m : ℕ) → Some n ≡ Some m → n ≡ m
some_is n m e = cc

some_none : (n : ℕ) → Some n ≡ None → ⊥
some_none n e = cc

one_head : (a m s t u : List ℕ) (n o : ℕ) → SpellsHead a m t n → SpellsHead a s u o → (m ≡ s) × (t ≡ u) × (n ≡ o)
one_head a m s t u n o h k =
    let same : h.head ≡ k.head = (request_unique a h.head k.head [] [] h.is.0 k.is.0).0 in (
      h.method_is ∙ ap (λ z. z.method) same ∙ sym k.method_is,
      h.target_is ∙ ap (λ z. z.target) same ∙ sym k.target_is,
      some_is n o (sym h.length_is ∙ ap (λ z. body_length (names_and_values z)) same ∙ k.length_is),
    )

pub no_fault_head : (a m t : List ℕ) (n : ℕ) (e : HttpError) → SpellsHead a m t n → IsFault a e → ⊥
no_fault_head a m t n BadHead h (inl f) = f.1 h.head h.is
no_fault_head a m t n BadHead h (inr f) = f.1 a [] (sym (append-nil a)) h.ends.marked
no_fault_head a m t n BadLength h f =
    let same : h.head ≡ f.0 = (request_unique a h.head f.0 [] [] h.is.0 f.2.0).0 in
    some_none n (sym h.length_is ∙ ap (λ z. body_length (names_and_values z)) same ∙ f.3)
no_fault_head a m t n Memory h f = f

pub same_fault : (a : List ℕ) (e f : HttpError) → IsFault a e → IsFault a f → e ≡ f
same_fault a BadHead BadHead h k = refl
same_fault a BadHead BadLength (inl h) k = absurd (h.1 k.0 k.2)
same_fault a BadHead BadLength (inr h) k = absurd (h.1 a [] (sym (append-nil a)) k.1.marked)
same_fault a BadLength BadHead h (inl k) = absurd (k.1 h.0 h.2)
same_fault a BadLength BadHead h (inr k) = absurd (k.1 a [] (sym (append-nil a)) h.1.marked)
same_fault a BadLength BadLength h k = refl
same_fault a Memory f h k = absurd h
same_fault a BadHead Memory h k = absurd k
same_fault a BadLength Memory h k = absurd k

-- ---- One spelling

request_is : (m n : Request) → m.method ≡ n.method → m.target ≡ n.target → m.body ≡ n.body → m ≡ n
request_is m n e f g =
    let made : List ℕ → List ℕ → List ℕ → Request = λ a b c. record { method = a; target = b; body = c } in
    ap (λ z. made z m.target m.body) e ∙ ap (λ z. made n.method z m.body) f ∙ ap (λ z. made n.method n.target z) g

joined_front : (a head body x : List ℕ) → a ≡ head ++ body → a ++ x ≡ head ++ (body ++ x)
joined_front a head body x e = ap (λ z. z ++ x) e ∙ append_assoc head body x

pub one_spelling : (a b x y : List ℕ) (m n : Request) → Spells a m → Spells b n → a ++ x ≡ b ++ y → (a ≡ b) × (m ≡ n)
one_spelling a b x y m n h k e =
    let joined : h.0 ++ (m.body ++ x) ≡ k.0 ++ (n.body ++ y) = sym (joined_front a h.0 m.body x h.2) ∙ e ∙ joined_front b k.0 n.body y k.2 in
    let heads : h.0 ≡ k.0 = one_cut h.0 k.0 (m.body ++ x) (n.body ++ y) joined (inl h.1.ends) (inl k.1.ends) in
    let S : List ℕ → Type 0 = λ z. SpellsHead z m.method m.target (length m.body) in
    let parts = one_head k.0 m.method n.method m.target n.target (length m.body) (length n.body) (subst S heads h.1) k.1 in
    let P : List ℕ → Type 0 = λ z. z ++ (m.body ++ x) ≡ k.0 ++ (n.body ++ y) in
    let tail : m.body ++ x ≡ n.body ++ y = append_cancel_left k.0 (m.body ++ x) (n.body ++ y) (subst P heads joined) in
    let bodies : m.body ≡ n.body = same_front m.body x n.body y tail parts.2 in
    (h.2 ∙ ap (λ z. z ++ m.body) heads ∙ ap (λ z. k.0 ++ z) bodies ∙ sym k.2, request_is m n parts.0 parts.1 bodies)

-- ---- What a rest does not begin with

-- no spelling begins these bytes
abbrev pub HasNoFront : List ℕ → Type 0
HasNoFront rest = (z y : List ℕ) (n : Request) → Spells z n → rest ≡ z ++ y → ⊥

-- no faulty head begins these bytes
abbrev pub HasNoBadFront : List ℕ → Type 0
HasNoBadFront rest = (z y : List ℕ) (e : HttpError) → IsFault z e → rest ≡ z ++ y → ⊥

no_cut_front : (head z y : List ℕ) → HasNoMark head → length head < 8192 → IsCut z → head ≡ z ++ y → ⊥
no_cut_front head z y n l (inl h) e = n z y e h.marked
no_cut_front head z y n l (inr h) e =
    let all : length head ≡ length z + length y = ap length e ∙ length-append z y in
    let long = h.0 in
    omega arith

no_longer_body : (body more y : List ℕ) (left : ℕ) → 1 ≤ left → length more ≡ length body + left → body ≡ more ++ y → ⊥
no_longer_body body more y left some e f =
    let all : length body ≡ length more + length y = ap length f ∙ length-append more y in
    omega arith

pub no_front_at : (s : Stage) (rest : List ℕ) → StandsAt s rest → HasNoFront rest
no_front_at (Head head) rest h z y n k e =
    no_cut_front head k.0 (n.body ++ y) h.1 h.2 (inl k.1.ends) (sym h.0 ∙ e ∙ joined_front z k.0 n.body y k.2)
no_front_at (Body m left) rest h z y n k e =
    let joined : h.0 ++ m.body ≡ k.0 ++ (n.body ++ y) = sym h.3 ∙ e ∙ joined_front z k.0 n.body y k.2 in
    let heads : h.0 ≡ k.0 = one_cut h.0 k.0 m.body (n.body ++ y) joined (inl h.1.ends) (inl k.1.ends) in
    let S : List ℕ → Type 0 = λ q. SpellsHead q m.method m.target (length m.body + left) in
    let parts = one_head k.0 m.method n.method m.target n.target (length m.body + left) (length n.body) (subst S heads h.1) k.1 in
    let P : List ℕ → Type 0 = λ q. q ++ m.body ≡ k.0 ++ (n.body ++ y) in
    let tail : m.body ≡ n.body ++ y = append_cancel_left k.0 m.body (n.body ++ y) (subst P heads joined) in
    no_longer_body m.body n.body y left h.2 (sym parts.2) tail

pub no_bad_front_at : (s : Stage) (rest : List ℕ) → StandsAt s rest → HasNoBadFront rest
no_bad_front_at (Head head) rest h z y f k e = no_cut_front head z y h.1 h.2 (fault_cut z f k) (sym h.0 ∙ e)
no_bad_front_at (Body m left) rest h z y f k e =
    let heads : h.0 ≡ z = one_cut h.0 z m.body y (sym h.3 ∙ e) (inl h.1.ends) (fault_cut z f k) in
    let F : List ℕ → Type 0 = λ q. IsFault q f in
    no_fault_head h.0 m.method m.target (length m.body + left) f h.1 (subst F (sym heads) k)

pub start_stands : StandsAt (Head []) []
start_stands = (refl, none_marked, lit< tt)

-- Whatever follows, no spelling begins with a faulty head.
pub no_front_behind : (a more : List ℕ) (e : HttpError) → IsFault a e → HasNoFront (a ++ more)
no_front_behind a more e f z y n k j =
    let heads : a ≡ k.0 = one_cut a k.0 more (n.body ++ y) (j ∙ joined_front z k.0 n.body y k.2) (fault_cut a e f) (inl k.1.ends) in
    let F : List ℕ → Type 0 = λ q. IsFault q e in
    no_fault_head k.0 n.method n.target (length n.body) e k.1 (subst F heads f)

-- ---- A byte more of a head

mark_last : (head byte x y : List ℕ) → HasNoMark head → length byte ≡ 1 → head ++ byte ≡ x ++ y → EndsInMark x → y ≡ []
mark_last head byte x y n l e m =
    elim (cases_lt (length head) (length x)) [
      | inr k ↦
          let w = longer_front x y head byte (sym e) (omega arith) in
          absurd (n x w.0 w.1 m)
      | inl k ↦
          let w = longer_front head byte x y e (omega arith) in
          let front : length x ≡ length head + length w.0 = ap length w.1 ∙ length-append head w.0 in
          let end : length byte ≡ length w.0 + length y = ap length w.2 ∙ length-append w.0 y in
          no_length y (omega arith)
    ]

no_mark_more : (head byte : List ℕ) → HasNoMark head → length byte ≡ 1 → ¬ (EndsInMark (head ++ byte)) → HasNoMark (head ++ byte)
no_mark_more head byte n l none x y e m =
    let end : y ≡ [] = mark_last head byte x y n l e m in
    let all : x ≡ head ++ byte = sym (append-nil x) ∙ ap (λ z. x ++ z) (sym end) ∙ sym e in
    none (subst EndsInMark all m)

ends_more : (head byte : List ℕ) → HasNoMark head → length head < 8192 → length byte ≡ 1 → EndsInMark (head ++ byte) → EndsHead (head ++ byte)
ends_more head byte n s l m =
    let size : length (head ++ byte) ≡ length head + length byte = length-append head byte in
    record { marked = m; first = λ x y e k. mark_last head byte x y n l e k; short = omega arith }

rest_more : (bytes head byte rest : List ℕ) → bytes ≡ head ++ byte → rest ≡ head → bytes ≡ rest ++ byte
rest_more bytes head byte rest e f = e ∙ ap (λ z. z ++ byte) (sym f)

-- what is found out of a head that ends holds of a rest that ends with it
pub judged : {E : Type 0} (r : Result Outcome E) (bytes head byte : List ℕ) → bytes ≡ head ++ byte → length byte ≡ 1 → EndsInMark bytes → (EndsHead bytes → IfOk r (ComesTo bytes)) →
    IfOk r (λ o. (rest : List ℕ) → StandsAt (Head head) rest → ComesTo (rest ++ byte) o)
judged (Ok o) bytes head byte e l m k = λ rest s.
    let P : List ℕ → Type 0 = λ z. ComesTo z o in
    let ends : EndsHead bytes = subst EndsHead (sym e) (ends_more head byte s.1 s.2 l (subst EndsInMark e m)) in
    subst P (rest_more bytes head byte rest e s.0) (k ends)
judged (Err x) bytes head byte e l m k = tt

pub too_long : (bytes head byte rest : List ℕ) → bytes ≡ head ++ byte → length byte ≡ 1 → ¬ (EndsInMark bytes) → 8192 ≤ length bytes → StandsAt (Head head) rest → IsFault (rest ++ byte) BadHead
too_long bytes head byte rest e l none long s =
    let P : List ℕ → Type 0 = λ z. (length z ≡ 8192) × HasNoMark z in
    let size : length bytes ≡ length head + length byte = ap length e ∙ length-append head byte in
    let short : length head < 8192 = s.2 in
    let none_more : HasNoMark bytes = subst HasNoMark (sym e) (no_mark_more head byte s.1 l (λ m. none (subst EndsInMark (sym e) m))) in
    inr (subst P (rest_more bytes head byte rest e s.0) (omega arith, none_more))

pub goes_on : (bytes head byte rest : List ℕ) → bytes ≡ head ++ byte → length byte ≡ 1 → ¬ (EndsInMark bytes) → length bytes < 8192 → StandsAt (Head head) rest → StandsAt (Head bytes) (rest ++ byte)
goes_on bytes head byte rest e l none short s =
    (sym (rest_more bytes head byte rest e s.0), subst HasNoMark (sym e) (no_mark_more head byte s.1 l (λ m. none (subst EndsInMark (sym e) m))), short)

pub body_begun : (m : Request) (left : ℕ) (rest : List ℕ) → StandsAt (Body m left) rest → rest ≡ [] → ⊥
body_begun m left rest h e =
    let none : h.0 ≡ [] = both_none h.0 m.body (sym h.3 ∙ e) in
    no_cut (subst IsCut none (inl h.1.ends))

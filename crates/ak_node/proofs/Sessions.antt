-- The open sessions of a node beside those of a world.
use Rattle.std.proofs.Common.{◌≡◌, inl, inr, ℕ, zero, suc, ◌<◌, ◌≤◌, nat_lt, Bool, true, false, ◌==◌, List, [], ◌∷◌, length, get_or, slice_set, Option, Some, None, refl, sym, ◌∙◌, ap, subst, arith}
use Rattle.std.specs.List.{AllByRecursion, insert, remove}
use Rattle.std.proofs.lemmas.Bool.{cases_Bool}
use Rattle.std.proofs.lemmas.Bool.Decides.{nat_tests}
use Rattle.ak_base.proofs.Basics.{is_eq}
use Rattle.ak_run.specs.Run.{World, IsOneTooMany, bytes_of}
use Rattle.ak_run.specs.Sessions.{Session as Stream}
use Rattle.ak_run.specs.Sessions.{stream_at, with_session, without}
use Rattle.ak_node.specs.declared.session.Session.{Session}
use Rattle.ak_node.specs.Standing.{HasRead, IsSession, AreSessions, place_of}
use Rattle.ak_node.proofs.Tellings.{same_port}

abbrev pub stream_of : ℕ → List ℕ → Stream
stream_of port stream = record { port = port; stream = stream }

not_below : (port : ℕ) → nat_lt port port ≡ false
not_below port = grind (arith, nat_tests)

-- ---- Each walk, by one step

place_more : (s : Session) (ss : List Session) (port : ℕ) → nat_lt s.port port ≡ true → place_of (s ∷ ss) port ≡ suc (place_of ss port)
place_more s ss port low = rw low refl

place_here : (s : Session) (ss : List Session) (port : ℕ) → nat_lt s.port port ≡ false → place_of (s ∷ ss) port ≡ zero
place_here s ss port high = rw high refl

stream_more : (t : Stream) (ts : List Stream) (port : ℕ) → nat_lt t.port port ≡ true → stream_at (t ∷ ts) port ≡ stream_at ts port
stream_more t ts port low = rw low refl

stream_here : (t : Stream) (ts : List Stream) (port : ℕ) → nat_lt t.port port ≡ false → (t.port == port) ≡ true → stream_at (t ∷ ts) port ≡ Some t.stream
stream_here t ts port high same = rw high (rw same refl)

stream_none : (t : Stream) (ts : List Stream) (port : ℕ) → nat_lt t.port port ≡ false → (t.port == port) ≡ false → stream_at (t ∷ ts) port ≡ None
stream_none t ts port high other = rw high (rw other refl)

with_more : (t : Stream) (ts : List Stream) (x : Stream) → nat_lt t.port x.port ≡ true → with_session (t ∷ ts) x ≡ t ∷ with_session ts x
with_more t ts x low = rw low refl

with_here : (t : Stream) (ts : List Stream) (x : Stream) → nat_lt t.port x.port ≡ false → (t.port == x.port) ≡ true → with_session (t ∷ ts) x ≡ x ∷ ts
with_here t ts x high same = rw high (rw same refl)

with_before : (t : Stream) (ts : List Stream) (x : Stream) → nat_lt t.port x.port ≡ false → (t.port == x.port) ≡ false → with_session (t ∷ ts) x ≡ x ∷ t ∷ ts
with_before t ts x high other = rw high (rw other refl)

without_more : (t : Stream) (ts : List Stream) (port : ℕ) → nat_lt t.port port ≡ true → without (t ∷ ts) port ≡ t ∷ without ts port
without_more t ts port low = rw low refl

without_here : (t : Stream) (ts : List Stream) (port : ℕ) → nat_lt t.port port ≡ false → (t.port == port) ≡ true → without (t ∷ ts) port ≡ ts
without_here t ts port high same = rw high (rw same refl)

low_too : (s : Session) (t : Stream) (port : ℕ) (b : Bool) → s.port ≡ t.port → nat_lt t.port port ≡ b → nat_lt s.port port ≡ b
low_too s t port b same is = ap (λ (p : ℕ). nat_lt p port) same ∙ is

none_some : (x : List ℕ) → ◌≡◌ {A = Option (List ℕ)} None (Some x) → ⊥
none_some x e = cc

some_same : (x y : List ℕ) → ◌≡◌ {A = Option (List ℕ)} (Some x) (Some y) → x ≡ y
some_same x y e = cc

-- ---- Where a session stands

-- in this place stands the session of this port, which has read these bytes
pub record IsOpenAt (ss : List Session) (at port : ℕ) (bytes : List ℕ) : Type 0 where
  pub within : at < length ss
  pub session : Session
  pub is : (d : Session) → get_or ss at d ≡ session
  pub port_is : session.port ≡ port
  pub has : HasRead session bytes

pub open_at : (ss : List Session) (ts : List Stream) (port : ℕ) (bytes : List ℕ) → AreSessions ss ts → stream_at ts port ≡ Some bytes → IsOpenAt ss (place_of ss port) port bytes
open_at [] [] port bytes are some = absurd (none_some bytes some)
open_at [] (t ∷ ts) port bytes are some = absurd are
open_at (s ∷ ss) [] port bytes are some = absurd are
open_at (s ∷ ss) (t ∷ ts) port bytes are some = elim (cases_Bool (nat_lt t.port port)) [
  | inl low ↦ (let rest = open_at ss ts port bytes are.1 (sym (stream_more t ts port low) ∙ some) in
      subst (λ (k : ℕ). IsOpenAt (s ∷ ss) k port bytes) (sym (place_more s ss port (low_too s t port true are.0.0 low)))
      (record { within = omega (arith, rest.within); session = rest.session; is = rest.is; port_is = rest.port_is; has = rest.has }))
  | inr high ↦ elim (cases_Bool (t.port == port)) [
    | inl same ↦ (let bytes_are : t.stream ≡ bytes = some_same t.stream bytes (sym (stream_here t ts port high same) ∙ some) in
        subst (λ (k : ℕ). IsOpenAt (s ∷ ss) k port bytes) (sym (place_here s ss port (low_too s t port false are.0.0 high)))
        (record { within = omega arith; session = s; is = λ d. refl; port_is = are.0.0 ∙ is_eq t.port port same; has = subst (HasRead s) bytes_are are.0.1 }))
    | inr other ↦ absurd (none_some bytes (sym (stream_none t ts port high other) ∙ some))
  ]
]

-- where the session in that place has the port, one is open
pub opened_by : (ss : List Session) (ts : List Stream) (port at : ℕ) (d : Session) → AreSessions ss ts → at ≡ place_of ss port → at < length ss → (get_or ss at d).port ≡ port
    → (bytes : List ℕ) × (stream_at ts port ≡ Some bytes)
opened_by [] ts port at d are place within same = absurd (omega (arith, within))
opened_by (s ∷ ss) [] port at d are place within same = absurd are
opened_by (s ∷ ss) (t ∷ ts) port zero d are place within same = elim (cases_Bool (nat_lt t.port port)) [
  | inl low ↦ (let more = place_more s ss port (low_too s t port true are.0.0 low) in absurd (omega (arith, place, more)))
  | inr high ↦ (t.stream, stream_here t ts port high (ap (λ (p : ℕ). p == port) (sym are.0.0 ∙ same) ∙ same_port port))
]
opened_by (s ∷ ss) (t ∷ ts) port (suc at) d are place within same = elim (cases_Bool (nat_lt t.port port)) [
  | inl low ↦ (let more = place_more s ss port (low_too s t port true are.0.0 low) in
      let rest = opened_by ss ts port at d are.1 (omega (arith, place, more)) (omega (arith, within)) same in
      (rest.0, stream_more t ts port low ∙ rest.1))
  | inr high ↦ (let here = place_here s ss port (low_too s t port false are.0.0 high) in absurd (omega (arith, place, here)))
]

pub open_same : (ss : List Session) (ts : List Stream) (port at : ℕ) (d : Session) → AreSessions ss ts → at ≡ place_of ss port → at < length ss
    → (((get_or ss at d).port == port) ≡ true → (bytes : List ℕ) × (stream_at ts port ≡ Some bytes)) × (((bytes : List ℕ) × (stream_at ts port ≡ Some bytes)) → ((get_or ss at d).port == port) ≡ true)
open_same ss ts port at d are place within = (
  λ same. opened_by ss ts port at d are place within (is_eq (get_or ss at d).port port same),
  λ some.
      let o = open_at ss ts port some.0 are some.1 in
      let there : get_or ss at d ≡ o.session = ap (λ (k : ℕ). get_or ss k d) place ∙ o.is d in
      ap (λ (p : ℕ). p == port) (ap (λ (s : Session). s.port) there ∙ o.port_is) ∙ same_port port,
)

-- past the last session none is open
pub not_open : (ss : List Session) (ts : List Stream) (port at : ℕ) → AreSessions ss ts → at ≡ place_of ss port → length ss ≤ at → ((bytes : List ℕ) × (stream_at ts port ≡ Some bytes)) → ⊥
not_open ss ts port at are place past some = let o = open_at ss ts port some.0 are some.1 in absurd (omega (arith, place, past, o.within))

pub same_length : (ss : List Session) (ts : List Stream) → AreSessions ss ts → length ss ≡ length ts
same_length [] [] are = refl
same_length [] (t ∷ ts) are = absurd are
same_length (s ∷ ss) [] are = absurd are
same_length (s ∷ ss) (t ∷ ts) are = omega (arith, same_length ss ts are.1)

pub session_at : (ss : List Session) (ts : List Stream) (at : ℕ) (d : Session) (e : Stream) → AreSessions ss ts → at < length ss → IsSession (get_or ss at d) (get_or ts at e)
session_at [] ts at d e are within = absurd (omega (arith, within))
session_at (s ∷ ss) [] at d e are within = absurd are
session_at (s ∷ ss) (t ∷ ts) zero d e are within = are.0
session_at (s ∷ ss) (t ∷ ts) (suc at) d e are within = session_at ss ts at d e are.1 (omega (arith, within))

-- ---- One session more, another in its place, or one fewer

-- a session that begins stands in its place
pub inserted : (ss : List Session) (ts : List Stream) (port : ℕ) (x : Session) (bytes : List ℕ) → AreSessions ss ts → stream_at ts port ≡ None → x.port ≡ port → HasRead x bytes
    → AreSessions (insert ss (place_of ss port) x) (with_session ts (stream_of port bytes))
inserted [] [] port x bytes are new same has = ((same, has), tt)
inserted [] (t ∷ ts) port x bytes are new same has = absurd are
inserted (s ∷ ss) [] port x bytes are new same has = absurd are
inserted (s ∷ ss) (t ∷ ts) port x bytes are new same has = elim (cases_Bool (nat_lt t.port port)) [
  | inl low ↦ (let rest = inserted ss ts port x bytes are.1 (sym (stream_more t ts port low) ∙ new) same has in
      subst (λ (k : ℕ). AreSessions (insert (s ∷ ss) k x) (with_session (t ∷ ts) (stream_of port bytes))) (sym (place_more s ss port (low_too s t port true are.0.0 low)))
      (subst (AreSessions (s ∷ insert ss (place_of ss port) x)) (sym (with_more t ts (stream_of port bytes) low)) (are.0, rest)))
  | inr high ↦ elim (cases_Bool (t.port == port)) [
    | inl here ↦ absurd (none_some t.stream (sym new ∙ stream_here t ts port high here))
    | inr other ↦
        subst (λ (k : ℕ). AreSessions (insert (s ∷ ss) k x) (with_session (t ∷ ts) (stream_of port bytes))) (sym (place_here s ss port (low_too s t port false are.0.0 high)))
        (subst (AreSessions (x ∷ s ∷ ss)) (sym (with_before t ts (stream_of port bytes) high other)) ((same, has), are))
  ]
]

-- and is the first whose port isn't below it
pub place_inserted : (ss : List Session) (port : ℕ) (x : Session) → x.port ≡ port → place_of ss port ≡ place_of (insert ss (place_of ss port) x) port
place_inserted [] port x same = sym (place_here x [] port (ap (λ (p : ℕ). nat_lt p port) same ∙ not_below port))
place_inserted (s ∷ ss) port x same = elim (cases_Bool (nat_lt s.port port)) [
  | inl low ↦
      subst (λ (k : ℕ). k ≡ place_of (insert (s ∷ ss) k x) port) (sym (place_more s ss port low))
      (ap suc (place_inserted ss port x same) ∙ sym (place_more s (insert ss (place_of ss port) x) port low))
  | inr high ↦
      subst (λ (k : ℕ). k ≡ place_of (insert (s ∷ ss) k x) port) (sym (place_here s ss port high))
      (sym (place_here x (s ∷ ss) port (ap (λ (p : ℕ). nat_lt p port) same ∙ not_below port)))
]

-- a session that is open is open once more
pub with_same : (ts : List Stream) (port : ℕ) (bytes : List ℕ) → stream_at ts port ≡ Some bytes → with_session ts (stream_of port bytes) ≡ ts
with_same [] port bytes some = absurd (none_some bytes some)
with_same (t ∷ ts) port bytes some = elim (cases_Bool (nat_lt t.port port)) [
  | inl low ↦ with_more t ts (stream_of port bytes) low ∙ ap (λ (l : List Stream). t ∷ l) (with_same ts port bytes (sym (stream_more t ts port low) ∙ some))
  | inr high ↦ elim (cases_Bool (t.port == port)) [
    | inl same ↦ (let port_is : port ≡ t.port = sym (is_eq t.port port same) in
        let bytes_are : bytes ≡ t.stream = sym (some_same t.stream bytes (sym (stream_here t ts port high same) ∙ some)) in
        with_here t ts (stream_of port bytes) high same ∙ (λ i. stream_of (port_is i) (bytes_are i) ∷ ts))
    | inr other ↦ absurd (none_some bytes (sym (stream_none t ts port high other) ∙ some))
  ]
]

pub stream_with : (ts : List Stream) (port : ℕ) (bytes : List ℕ) → stream_at (with_session ts (stream_of port bytes)) port ≡ Some bytes
stream_with [] port bytes = stream_here (stream_of port bytes) [] port (not_below port) (same_port port)
stream_with (t ∷ ts) port bytes = elim (cases_Bool (nat_lt t.port port)) [
  | inl low ↦ ap (λ (l : List Stream). stream_at l port) (with_more t ts (stream_of port bytes) low) ∙ stream_more t _ port low ∙ stream_with ts port bytes
  | inr high ↦ elim (cases_Bool (t.port == port)) [
    | inl same ↦ ap (λ (l : List Stream). stream_at l port) (with_here t ts (stream_of port bytes) high same) ∙ stream_here (stream_of port bytes) ts port (not_below port) (same_port port)
    | inr other ↦ ap (λ (l : List Stream). stream_at l port) (with_before t ts (stream_of port bytes) high other) ∙ stream_here (stream_of port bytes) (t ∷ ts) port (not_below port) (same_port port)
  ]
]

head_replaced : (s : Session) (ss : List Session) (us : List Stream) (port : ℕ) (x : Session) (bytes more : List ℕ) → AreSessions (s ∷ ss) (stream_of port bytes ∷ us) → x.port ≡ port → HasRead x more
    → AreSessions (slice_set (s ∷ ss) (place_of (s ∷ ss) port) x) (stream_of port more ∷ us)
head_replaced s ss us port x bytes more are same has =
    subst (λ (k : ℕ). AreSessions (slice_set (s ∷ ss) k x) (stream_of port more ∷ us)) (sym (place_here s ss port (ap (λ (p : ℕ). nat_lt p port) are.0.0 ∙ not_below port))) ((same, has), are.1)

-- the one of a port is replaced
pub replaced : (ss : List Session) (ts : List Stream) (port : ℕ) (x : Session) (bytes more : List ℕ) → AreSessions ss (with_session ts (stream_of port bytes)) → x.port ≡ port → HasRead x more
    → AreSessions (slice_set ss (place_of ss port) x) (with_session ts (stream_of port more))
replaced [] [] port x bytes more are same has = absurd are
replaced (s ∷ ss) [] port x bytes more are same has = head_replaced s ss [] port x bytes more are same has
replaced [] (t ∷ ts) port x bytes more are same has = elim (cases_Bool (nat_lt t.port port)) [
  | inl low ↦ absurd (subst (AreSessions []) (with_more t ts (stream_of port bytes) low) are)
  | inr high ↦ elim (cases_Bool (t.port == port)) [
    | inl here ↦ absurd (subst (AreSessions []) (with_here t ts (stream_of port bytes) high here) are)
    | inr other ↦ absurd (subst (AreSessions []) (with_before t ts (stream_of port bytes) high other) are)
  ]
]
replaced (s ∷ ss) (t ∷ ts) port x bytes more are same has = elim (cases_Bool (nat_lt t.port port)) [
  | inl low ↦ (let now = subst (AreSessions (s ∷ ss)) (with_more t ts (stream_of port bytes) low) are in
      subst (AreSessions (slice_set (s ∷ ss) (place_of (s ∷ ss) port) x)) (sym (with_more t ts (stream_of port more) low))
      (subst (λ (k : ℕ). AreSessions (slice_set (s ∷ ss) k x) (t ∷ with_session ts (stream_of port more))) (sym (place_more s ss port (low_too s t port true now.0.0 low)))
      (now.0, replaced ss ts port x bytes more now.1 same has)))
  | inr high ↦ elim (cases_Bool (t.port == port)) [
    | inl here ↦
        subst (AreSessions (slice_set (s ∷ ss) (place_of (s ∷ ss) port) x)) (sym (with_here t ts (stream_of port more) high here))
        (head_replaced s ss ts port x bytes more (subst (AreSessions (s ∷ ss)) (with_here t ts (stream_of port bytes) high here) are) same has)
    | inr other ↦
        subst (AreSessions (slice_set (s ∷ ss) (place_of (s ∷ ss) port) x)) (sym (with_before t ts (stream_of port more) high other))
        (head_replaced s ss (t ∷ ts) port x bytes more (subst (AreSessions (s ∷ ss)) (with_before t ts (stream_of port bytes) high other) are) same has)
  ]
]

-- the one of a port is removed
pub removed : (ss : List Session) (ts : List Stream) (port : ℕ) (bytes : List ℕ) → AreSessions ss ts → stream_at ts port ≡ Some bytes → AreSessions (remove ss (place_of ss port)) (without ts port)
removed [] [] port bytes are some = absurd (none_some bytes some)
removed [] (t ∷ ts) port bytes are some = absurd are
removed (s ∷ ss) [] port bytes are some = absurd are
removed (s ∷ ss) (t ∷ ts) port bytes are some = elim (cases_Bool (nat_lt t.port port)) [
  | inl low ↦ (let rest = removed ss ts port bytes are.1 (sym (stream_more t ts port low) ∙ some) in
      subst (λ (k : ℕ). AreSessions (remove (s ∷ ss) k) (without (t ∷ ts) port)) (sym (place_more s ss port (low_too s t port true are.0.0 low)))
      (subst (AreSessions (s ∷ remove ss (place_of ss port))) (sym (without_more t ts port low)) (are.0, rest)))
  | inr high ↦ elim (cases_Bool (t.port == port)) [
    | inl here ↦
        subst (λ (k : ℕ). AreSessions (remove (s ∷ ss) k) (without (t ∷ ts) port)) (sym (place_here s ss port (low_too s t port false are.0.0 high)))
        (subst (AreSessions ss) (sym (without_here t ts port high here)) are.1)
    | inr other ↦ absurd (none_some bytes (sym (stream_none t ts port high other) ∙ some))
  ]
]

-- ---- As a piece comes

pub place_within : (ss : List Session) (port : ℕ) → place_of ss port ≤ length ss
place_within [] port = omega arith
place_within (s ∷ ss) port = elim (cases_Bool (nat_lt s.port port)) [
  | inl low ↦ omega (arith, place_more s ss port low, place_within ss port)
  | inr high ↦ omega (arith, place_here s ss port high)
]

length_inserted : (ss : List Session) (at : ℕ) (x : Session) → length (insert ss at x) ≡ suc (length ss)
length_inserted ss zero x = refl
length_inserted [] (suc at) x = refl
length_inserted (s ∷ ss) (suc at) x = ap suc (length_inserted ss at x)

-- where the one that begins stands
pub placed : (ss ys : List Session) (port at : ℕ) (x : Session) → at ≡ place_of ss port → ys ≡ insert ss at x → x.port ≡ port → (at ≡ place_of ys port) × (at < length ys)
placed ss ys port at x place is same =
    let here : ys ≡ insert ss (place_of ss port) x = is ∙ ap (λ (k : ℕ). insert ss k x) place in
    let long : length ys ≡ suc (length ss) = ap (λ (l : List Session). length l) is ∙ length_inserted ss at x in
    (place ∙ place_inserted ss port x same ∙ ap (λ (l : List Session). place_of l port) (sym here), omega (arith, place, long, place_within ss port))

abbrev pub IsOpenIn : World → ℕ → Type 0
IsOpenIn world port = (bytes : List ℕ) × (stream_at world.sessions port ≡ Some bytes)

-- the stream of the session that a piece on this port comes to
abbrev pub stream_before : World → ℕ → List ℕ
stream_before world port = bytes_of (stream_at world.sessions port)

-- the world's sessions, where one of the port is open
abbrev pub opened_in : World → ℕ → List Stream
opened_in world port = with_session world.sessions (stream_of port (stream_before world port))

pub open_already : (world : World) (ss : List Session) (port : ℕ) → AreSessions ss world.sessions → IsOpenIn world port → (IsOneTooMany world port → ⊥) × AreSessions ss (opened_in world port)
open_already world ss port are some = (
  λ many. absurd (none_some some.0 (sym many.new ∙ some.1)),
  subst (AreSessions ss) (sym (with_same world.sessions port (stream_before world port) (some.1 ∙ ap Some (sym (ap bytes_of some.1))))) are,
)

pub none_open : (o : Option (List ℕ)) → (((bytes : List ℕ) × (o ≡ Some bytes)) → ⊥) → o ≡ None
none_open None none = refl
none_open (Some x) none = absurd (none (x, refl))

pub open_too_many : (world : World) (ss : List Session) (port : ℕ) → AreSessions ss world.sessions → (IsOpenIn world port → ⊥) → 1024 ≤ length ss → IsOneTooMany world port × AreSessions ss world.sessions
open_too_many world ss port are none full = (
  record { new = none_open (stream_at world.sessions port) none; full = omega (arith, full, same_length ss world.sessions are) },
  are,
)

pub open_now : (world : World) (ss ys : List Session) (port at : ℕ) (x : Session) → AreSessions ss world.sessions → (IsOpenIn world port → ⊥) → length ss < 1024 → at ≡ place_of ss port → ys ≡ insert ss at x
    → x.port ≡ port → HasRead x [] → (IsOneTooMany world port → ⊥) × AreSessions ys (opened_in world port)
open_now world ss ys port at x are none few place is same has =
    let new = none_open (stream_at world.sessions port) none in
    let here : ys ≡ insert ss (place_of ss port) x = is ∙ ap (λ (k : ℕ). insert ss k x) place in (
      λ many. absurd (omega (arith, few, many.full, same_length ss world.sessions are)),
      subst (λ (l : List Session). AreSessions l (opened_in world port)) (sym here)
          (inserted ss world.sessions port x (stream_before world port) are new same (subst (HasRead x) (sym (ap bytes_of new)) has)),
    )

-- the session that a piece comes to
pub session_of : (world : World) (ss : List Session) (port at : ℕ) (x : Session) → AreSessions ss (opened_in world port) → at ≡ place_of ss port → x ≡ get_or ss at x → (x.port ≡ port) × HasRead x (stream_before world port)
session_of world ss port at x are place is =
    let o = open_at ss (opened_in world port) port (stream_before world port) are (stream_with world.sessions port (stream_before world port)) in
    let there : x ≡ o.session = is ∙ ap (λ (k : ℕ). get_or ss k x) place ∙ o.is x in
    (ap (λ (s : Session). s.port) there ∙ o.port_is, subst (λ (s : Session). HasRead s (stream_before world port)) (sym there) o.has)

-- once it has read more
pub session_later : (world : World) (ss : List Session) (port at : ℕ) (x : Session) (more : List ℕ) → AreSessions ss (opened_in world port) → at ≡ place_of ss port → x.port ≡ port → HasRead x more
    → AreSessions (slice_set ss at x) (with_session world.sessions (stream_of port more))
session_later world ss port at x more are place same has =
    subst (λ (k : ℕ). AreSessions (slice_set ss k x) (with_session world.sessions (stream_of port more))) (sym place) (replaced ss world.sessions port x (stream_before world port) more are same has)

-- ---- As a session ends

-- the session that was removed, and what is left
pub record IsRemoved (ss : List Session) (ts : List Stream) (port : ℕ) (x : Session) (left : List Session) : Type 0 where
  pub bytes : List ℕ
  pub opened : stream_at ts port ≡ Some bytes
  pub port_is : x.port ≡ port
  pub has : HasRead x bytes
  pub are : AreSessions left (without ts port)

pub is_removed : (ss : List Session) (ts : List Stream) (port at : ℕ) (x : Session) (left : List Session) → AreSessions ss ts → ((bytes : List ℕ) × (stream_at ts port ≡ Some bytes)) → at ≡ place_of ss port → x ≡ get_or ss at x
    → left ≡ remove ss at → IsRemoved ss ts port x left
is_removed ss ts port at x left are some place is left_is =
    let o = open_at ss ts port some.0 are some.1 in
    let there : x ≡ o.session = is ∙ ap (λ (k : ℕ). get_or ss k x) place ∙ o.is x in
    let here : left ≡ remove ss (place_of ss port) = left_is ∙ ap (λ (k : ℕ). remove ss k) place in
    record {
      bytes = some.0;
      opened = some.1;
      port_is = ap (λ (s : Session). s.port) there ∙ o.port_is;
      has = subst (λ (s : Session). HasRead s some.0) (sym there) o.has;
      are = subst (λ (l : List Session). AreSessions l (without ts port)) (sym here) (removed ss ts port some.0 are some.1);
    }

-- ---- What holds of each

module _ (P : Session → Type 0) where
  pub all_inserted : (ss : List Session) (at : ℕ) (x : Session) → AllByRecursion P ss → P x → AllByRecursion P (insert ss at x)
  all_inserted ss zero x all p = (p, all)
  all_inserted [] (suc at) x all p = (p, tt)
  all_inserted (s ∷ ss) (suc at) x all p = (all.0, all_inserted ss at x all.1 p)

  pub all_replaced : (ss : List Session) (at : ℕ) (x : Session) → AllByRecursion P ss → P x → AllByRecursion P (slice_set ss at x)
  all_replaced [] at x all p = tt
  all_replaced (s ∷ ss) zero x all p = (p, all.1)
  all_replaced (s ∷ ss) (suc at) x all p = (all.0, all_replaced ss at x all.1 p)

  pub all_removed : (ss : List Session) (at : ℕ) → AllByRecursion P ss → AllByRecursion P (remove ss at)
  all_removed [] zero all = tt
  all_removed [] (suc at) all = tt
  all_removed (s ∷ ss) zero all = all.1
  all_removed (s ∷ ss) (suc at) all = (all.0, all_removed ss at all.1)

  pub all_at : (ss : List Session) (at : ℕ) (d : Session) → AllByRecursion P ss → at < length ss → P (get_or ss at d)
  all_at [] at d all within = absurd (omega (arith, within))
  all_at (s ∷ ss) zero d all within = all.0
  all_at (s ∷ ss) (suc at) d all within = all_at ss at d all.1 (omega (arith, within))

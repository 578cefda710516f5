-- The machine over a row gives what the grammar says of it.
use Rattle.std.proofs.Common.{ℕ, ◌≡◌, ◌+◌, ◌++◌, ◌⊎◌, List, [], ◌∷◌, min, length, Some, refl, sym, subst, ◌∙◌, ap, append_assoc, append-nil, inl, inr, lit≤}
use Rattle.ak_resp.specs.declared.message.Message.{Message}
use Rattle.ak_resp.specs.declared.fault.Fault.{Fault}
use Rattle.ak_resp.specs.declared.spot.Spot.{Spot}
use Rattle.ak_resp.specs.Grammar.{Spells, SpellsRow, IsOpen, SpellsParts}
use Rattle.ak_resp.specs.Standing.{StandsAt, last_place}
use Rattle.ak_resp.specs.Kinds.{told}
use Rattle.ak_resp.specs.Machine.{Outcome, going, whole, refused, first, step}
use Rattle.ak_resp.specs.Rows.{after, said, fresh}
use Rattle.ak_resp.proofs.Runs.{at, reader, after-append, said-append, fault_stays}
use Rattle.ak_resp.proofs.Goes.{Goes, goes_nil, goes_step, goes_whole, goes_append}
use Rattle.ak_resp.proofs.Complete.{message_goes, row_goes}
use Rattle.ak_resp.proofs.Sound.{Sound, step_sound, first_stands}
use Rattle.ak_resp.proofs.Completes.{completes}

pub row_snoc : (ms : List Message) (m : Message) (x y : List ℕ) → SpellsRow x ms → Spells y m → SpellsRow (x ++ y) (ms ++ m ∷ [])
row_snoc [] m x y h k = (y, [], rw (h, append-nil) refl, k, refl)
row_snoc (n ∷ ns) m x y h k = (h.0, h.1 ++ y, rw h.2 (append_assoc h.0 h.1 y), h.3, row_snoc ns m h.1 y h.4 k)

-- the row is these messages and a rest, at whose end the spot is
pub record Standing (t : Spot) (row : List ℕ) (ms : List Message) : Type 0 where
  pub front : List ℕ
  pub rest : List ℕ
  pub joined : row ≡ front ++ rest
  pub spelled : SpellsRow front ms
  pub stands : StandsAt t rest

stands_next : (s t : Spot) (row : List ℕ) (ms : List Message) (b : ℕ) → Standing s row ms → step s b ≡ going t → Standing t (row ++ b ∷ []) ms
stands_next s t row ms b h e = record {
  front = h.front;
  rest = h.rest ++ b ∷ [];
  joined = rw h.joined (append_assoc h.front h.rest (b ∷ []));
  spelled = h.spelled;
  stands = let P : Outcome → Type 0 = λ o. Sound o (h.rest ++ b ∷ []) in subst P e (step_sound s h.rest b h.stands);
}

stands_whole : (s : Spot) (row : List ℕ) (ms : List Message) (m : Message) (b : ℕ) → Standing s row ms → step s b ≡ whole m → Standing first (row ++ b ∷ []) (ms ++ m ∷ [])
stands_whole s row ms m b h e =
    let spells : Spells (h.rest ++ b ∷ []) m = let P : Outcome → Type 0 = λ o. Sound o (h.rest ++ b ∷ []) in subst P e (step_sound s h.rest b h.stands) in
    record {
      front = h.front ++ (h.rest ++ b ∷ []);
      rest = [];
      joined = rw (h.joined, append-nil) (append_assoc h.front h.rest (b ∷ []));
      spelled = row_snoc ms m h.front (h.rest ++ b ∷ []) h.spelled spells;
      stands = first_stands;
    }

-- where bytes lead, without a fault
abbrev pub Through : Spot → List ℕ → List Message → List ℕ → Type 0
Through s row ms bytes = (t : Spot) × (ns : List Message) × Goes s t bytes ns × Standing t (row ++ bytes) (ms ++ ns)

-- where they lead up to a byte that is refused
abbrev pub Upto : Spot → List ℕ → List Message → List ℕ → Type 0
Upto s row ms bytes = (xs : List ℕ) × (b : ℕ) × (ys : List ℕ) × (t : Spot) × (ns : List Message) × (f : Fault) × (bytes ≡ xs ++ b ∷ ys) × Goes s t xs ns
    × Standing t (row ++ xs) (ms ++ ns) × (step t b ≡ refused f)

on_through : (s u : Spot) (row : List ℕ) (ms : List Message) (b : ℕ) (bs : List ℕ) → step s b ≡ going u → Through u (row ++ b ∷ []) ms bs ⊎ Upto u (row ++ b ∷ []) ms bs →
    Through s row ms (b ∷ bs) ⊎ Upto s row ms (b ∷ bs)
on_through s u row ms b bs e (inl k) = inl (k.0, k.1, goes_step s u k.0 b bs k.1 e k.2, rw append_assoc at k.3)
on_through s u row ms b bs e (inr k) = inr (b ∷ k.0, k.1, k.2, k.3, k.4, k.5, ap (λ xs. b ∷ xs) k.6, goes_step s u k.3 b k.0 k.4 e k.7, rw append_assoc at k.8, k.9)

on_whole : (s : Spot) (m : Message) (row : List ℕ) (ms : List Message) (b : ℕ) (bs : List ℕ) → step s b ≡ whole m →
    Through first (row ++ b ∷ []) (ms ++ m ∷ []) bs ⊎ Upto first (row ++ b ∷ []) (ms ++ m ∷ []) bs → Through s row ms (b ∷ bs) ⊎ Upto s row ms (b ∷ bs)
on_whole s m row ms b bs e (inl k) = inl (k.0, m ∷ k.1, goes_whole s k.0 m b bs k.1 e k.2, rw (append_assoc row (b ∷ []) bs, append_assoc ms (m ∷ []) k.1) at k.3)
on_whole s m row ms b bs e (inr k) = inr (
  b ∷ k.0,
  k.1,
  k.2,
  k.3,
  m ∷ k.4,
  k.5,
  ap (λ xs. b ∷ xs) k.6,
  goes_whole s k.3 m b k.0 k.4 e k.7,
  rw (append_assoc row (b ∷ []) k.0, append_assoc ms (m ∷ []) k.4) at k.8,
  k.9,
)

walk_at : (b : ℕ) (bs : List ℕ) (s : Spot) (row : List ℕ) (ms : List Message) → ((t : Spot) (so_far : List ℕ) (said : List Message) → Standing t so_far said → Through t so_far said bs ⊎ Upto t so_far said bs) →
    (o : Outcome) → step s b ≡ o → Standing s row ms → Through s row ms (b ∷ bs) ⊎ Upto s row ms (b ∷ bs)
walk_at b bs s row ms next (going t) e h = on_through s t row ms b bs e (next t (row ++ b ∷ []) ms (stands_next s t row ms b h e))
walk_at b bs s row ms next (whole m) e h = on_whole s m row ms b bs e (next first (row ++ b ∷ []) (ms ++ m ∷ []) (stands_whole s row ms m b h e))
walk_at b bs s row ms next (refused f) e h = inr ([], b, bs, s, [], f, refl, goes_nil s, rw (append-nil row, append-nil ms) h, e)

pub walk : (bytes : List ℕ) (s : Spot) (row : List ℕ) (ms : List Message) → Standing s row ms → Through s row ms bytes ⊎ Upto s row ms bytes
walk [] s row ms h = inl (s, [], goes_nil s, rw (append-nil row, append-nil ms) h)
walk (b ∷ bs) s row ms h = walk_at b bs s row ms (λ t so_far told k. walk bs t so_far told k) (step s b) refl h

-- a fault, and what comes after it
pub fault_after : (s t : Spot) (xs ys : List ℕ) (b : ℕ) (ns : List Message) (f : Fault) → Goes s t xs ns → step t b ≡ refused f →
    (after (at s 0) (xs ++ b ∷ ys) ≡ reader t (min (0 + length xs) last_place) (Some (told f (min (0 + length xs) last_place)))) × (said (at s 0) (xs ++ b ∷ ys) ≡ ns)
fault_after s t xs ys b ns f g e =
    let n : ℕ = min (0 + length xs) last_place in
    let stays = fault_stays t n (told f n) ys in (
      after-append (at s 0) xs (b ∷ ys) ∙ rw (g.state 0 (lit≤ tt), e) stays.0,
      said-append (at s 0) xs (b ∷ ys) ∙ rw (g.says 0 (lit≤ tt), g.state 0 (lit≤ tt), e) (rw stays.1 (append-nil ns)),
    )

-- ---- What the grammar says

first_rest : (rest : List ℕ) → StandsAt first rest → rest ≡ []
first_rest rest h =
    let none : h.before ≡ [] = let s : SpellsParts h.before [] = rw h.done at h.spelled in s in
    rw (h.whole, none, h.part.1) refl

-- where bytes lead to the beginning of a message, they are a row of spellings
first_row : (row : List ℕ) (ms : List Message) → Standing first row ms → SpellsRow row ms
first_row row ms h = let P : List ℕ → Type 0 = λ xs. SpellsRow xs ms in
    subst P (sym (rw (h.joined, first_rest h.rest h.stands) (append-nil h.front))) h.spelled

faultless : (s t u : Spot) (xs ys : List ℕ) (b : ℕ) (ms ns : List Message) (f : Fault) → Goes s u (xs ++ b ∷ ys) ms → Goes s t xs ns → step t b ≡ refused f → ⊥
faultless s t u xs ys b ms ns f g k e =
    let stuck = (fault_after s t xs ys b ns f k e).0 in
    let moved = g.state 0 (lit≤ tt) in
    let both : (at u (min (0 + length (xs ++ b ∷ ys)) last_place)).refusal ≡ Some (told f (min (0 + length xs) last_place)) = ap (λ r. r.refusal) (sym moved ∙ stuck) in
    cc

reaches_row : (s : Spot) (row more : List ℕ) (ms : List Message) (m : Message) → Goes s first more (m ∷ []) → Through s row ms more ⊎ Upto s row ms more → SpellsRow (row ++ more) (ms ++ m ∷ [])
reaches_row s row more ms m g (inl k) =
    let states : at k.0 (min (0 + length more) last_place) ≡ at first (min (0 + length more) last_place) = sym (k.2.state 0 (lit≤ tt)) ∙ g.state 0 (lit≤ tt) in
    let spot_is : k.0 ≡ first = ap (λ r. r.spot) states in
    let says_is : k.1 ≡ m ∷ [] = sym (k.2.says 0 (lit≤ tt)) ∙ g.says 0 (lit≤ tt) in
    first_row (row ++ more) (ms ++ m ∷ []) (rw (spot_is, says_is) at k.3)
reaches_row s row more ms m g (inr k) = absurd (faultless s k.3 first k.0 k.2 k.1 (m ∷ []) k.4 k.5 (rw k.6 at g) k.7 k.9)

-- what stands so far can be completed
pub standing_open : (s : Spot) (row : List ℕ) (ms : List Message) → Standing s row ms → IsOpen row
standing_open s row ms h =
    let k = completes s h.rest h.stands in
    (k.0, ms ++ k.1 ∷ [], reaches_row s row k.0 ms k.1 k.2 (walk k.0 s row ms h))

-- a byte that is refused is behind no front of a row of spellings
pub refused_closed : (t : Spot) (xs : List ℕ) (b : ℕ) (ns : List Message) (f : Fault) → Goes first t xs ns → step t b ≡ refused f → IsOpen (xs ++ b ∷ []) → ⊥
refused_closed t xs b ns f g e (more, ms, s) =
    faultless first t first xs more b ms ns f (rw append_assoc at (row_goes ms ((xs ++ b ∷ []) ++ more) s)) g e

no_more : (ms ns : List Message) (m : Message) → ms ++ (m ∷ ns) ≡ ms → ⊥
no_more [] ns m e = cc
no_more (k ∷ ks) ns m e = no_more ks ns m (let P : k ∷ (ks ++ m ∷ ns) ≡ k ∷ ks = e in cc)

pub longest : (front rest x y : List ℕ) (ms : List Message) (m : Message) → SpellsRow front ms → said fresh (front ++ rest) ≡ ms → rest ≡ x ++ y → Spells x m → ⊥
longest front rest x y ms m f e split s =
    let g : Goes first first (front ++ x) (ms ++ m ∷ []) = goes_append first first first front x ms (m ∷ []) (row_goes ms front f) (message_goes m x s) in
    let told : said fresh ((front ++ x) ++ y) ≡ (ms ++ m ∷ []) ++ said (after fresh (front ++ x)) y = said-append fresh (front ++ x) y ∙ ap (λ ks. ks ++ said (after fresh (front ++ x)) y) (g.says 0 (lit≤ tt)) in
    let same : front ++ rest ≡ (front ++ x) ++ y = rw split (sym (append_assoc front x y)) in
    no_more ms (said (after fresh (front ++ x)) y) m (sym (append_assoc ms (m ∷ []) (said (after fresh (front ++ x)) y)) ∙ sym told ∙ ap (said fresh) (sym same) ∙ e)

pub nothing_read : Standing first [] []
nothing_read = record { front = []; rest = []; joined = refl; spelled = refl; stands = first_stands }

-- ---- No spelling begins another

pub Begins : List ℕ → List ℕ → Type 0
Begins a b = (z : List ℕ) × (b ≡ a ++ z)

pub one_begins : (a b x y : List ℕ) → a ++ x ≡ b ++ y → Begins a b ⊎ Begins b a
unfolding Begins
one_begins [] b x y e = inl (b, refl)
one_begins (c ∷ cs) [] x y e = inr (c ∷ cs, refl)
one_begins (c ∷ cs) (d ∷ ds) x y e =
    let head_is : c ≡ d = cc in
    let tail_is : cs ++ x ≡ ds ++ y = cc in
    elim (one_begins cs ds x y tail_is) [ inl k ↦ inl (k.0, rw (head_is, k.1) refl) | inr k ↦ inr (k.0, rw (head_is, k.1) refl) ]

by_walk : (a z : List ℕ) (m n : Message) → Spells a m → Spells (a ++ z) n → Through first [] [] z ⊎ Upto first [] [] z → (a ≡ a ++ z) × (m ≡ n)
by_walk a z m n h k (inl w) =
    let whole_way : Goes first w.0 (a ++ z) (m ∷ w.1) = goes_append first first w.0 a z (m ∷ []) w.1 (message_goes m a h) w.2 in
    let other : Goes first first (a ++ z) (n ∷ []) = message_goes n (a ++ z) k in
    let states = sym (whole_way.state 0 (lit≤ tt)) ∙ other.state 0 (lit≤ tt) in
    let spot_is : w.0 ≡ first = ap (λ r. r.spot) states in
    let says_is : m ∷ w.1 ≡ n ∷ [] = sym (whole_way.says 0 (lit≤ tt)) ∙ other.says 0 (lit≤ tt) in
    let same : m ≡ n = cc in
    let none : w.1 ≡ [] = cc in
    let empty : z ≡ [] = first_row z [] (rw (spot_is, none) at w.3) in
    (sym (ap (λ q. a ++ q) empty ∙ append-nil a), same)
by_walk a z m n h k (inr w) =
    let whole_way : Goes first w.3 (a ++ w.0) (m ∷ w.4) = goes_append first first w.3 a w.0 (m ∷ []) w.4 (message_goes m a h) w.7 in
    let other : Goes first first (a ++ z) (n ∷ []) = message_goes n (a ++ z) k in
    absurd (faultless first w.3 first (a ++ w.0) w.2 w.1 (n ∷ []) (m ∷ w.4) w.5 (let same : a ++ z ≡ (a ++ w.0) ++ w.1 ∷ w.2 = rw w.6 (sym (append_assoc a w.0 (w.1 ∷ w.2))) in rw same at other) whole_way w.9)

same_when : (a b z : List ℕ) (m n : Message) → Spells a m → Spells b n → b ≡ a ++ z → (a ≡ b) × (m ≡ n)
same_when a b z m n h k e =
    let P : List ℕ → Type 0 = λ q. Spells q n in
    let both = by_walk a z m n h (subst P e k) (walk z first [] [] nothing_read) in
    (both.0 ∙ sym e, both.1)

pub prefix_free : (a b x y : List ℕ) (m n : Message) → Spells a m → Spells b n → a ++ x ≡ b ++ y → (a ≡ b) × (m ≡ n)
unfolding Begins
prefix_free a b x y m n h k e =
    elim (one_begins a b x y e) [ inl z ↦ same_when a b z.0 m n h k z.1 | inr z ↦ (let q = same_when b a z.0 n m k h z.1 in (sym q.0, sym q.1)) ]

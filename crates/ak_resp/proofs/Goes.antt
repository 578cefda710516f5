-- A machine over a row of bytes: what it leaves, and what it says.
use Rattle.std.proofs.Common.{ℕ, ◌≡◌, ◌+◌, ◌≤◌, ◌++◌, List, [], ◌∷◌, min, length, refl, sym, ◌∙◌, ap, arith, length-append}
use Rattle.ak_resp.specs.declared.message.Message.{Message}
use Rattle.ak_resp.specs.declared.spot.Spot.{Spot}
use Rattle.ak_resp.specs.Machine.{Outcome, going, whole, refused, first, step}
use Rattle.ak_resp.specs.Rows.{after, said}
use Rattle.ak_resp.specs.Standing.{last_place}
use Rattle.ak_resp.proofs.Runs.{at, min_more, after-append, said-append}

-- from s these bytes lead to the other spot, and say these messages
pub record Goes (s t : Spot) (bytes : List ℕ) (ms : List Message) : Type 0 where
  pub state : (n : ℕ) → n ≤ last_place → after (at s n) bytes ≡ at t (min (n + length bytes) last_place)
  pub says : (n : ℕ) → n ≤ last_place → said (at s n) bytes ≡ ms

min_none : (n : ℕ) → n ≤ last_place → n ≡ min (n + 0) last_place
min_none n h = omega arith

one_fits : (n : ℕ) → min (n + 1) last_place ≤ last_place
one_fits n = omega arith

pub goes_nil : (s : Spot) → Goes s s [] []
goes_nil s = record { state = λ n h. ap (at s) (min_none n h); says = λ n h. refl }

pub goes_step : (s t u : Spot) (b : ℕ) (bs : List ℕ) (ms : List Message) → step s b ≡ going t → Goes t u bs ms → Goes s u (b ∷ bs) ms
goes_step s t u b bs ms e g = record {
  state = λ n h. rw e (g.state (min (n + 1) last_place) (one_fits n) ∙ ap (at u) (min_more n (length bs)));
  says = λ n h. rw e (g.says (min (n + 1) last_place) (one_fits n));
}

pub goes_whole : (s u : Spot) (m : Message) (b : ℕ) (bs : List ℕ) (ms : List Message) → step s b ≡ whole m → Goes first u bs ms → Goes s u (b ∷ bs) (m ∷ ms)
goes_whole s u m b bs ms e g = record {
  state = λ n h. rw e (g.state (min (n + 1) last_place) (one_fits n) ∙ ap (at u) (min_more n (length bs)));
  says = λ n h. rw e (ap (λ ks. m ∷ ks) (g.says (min (n + 1) last_place) (one_fits n)));
}

min_add : (n a b : ℕ) → min (min (n + a) last_place + b) last_place ≡ min (n + (a + b)) last_place
min_add n a b = omega arith

fits : (n a : ℕ) → min (n + a) last_place ≤ last_place
fits n a = omega arith

pub goes_append : (s t u : Spot) (xs ys : List ℕ) (ms ns : List Message) → Goes s t xs ms → Goes t u ys ns → Goes s u (xs ++ ys) (ms ++ ns)
goes_append s t u xs ys ms ns g k = record {
  state = λ n h. after-append (at s n) xs ys ∙ rw (g.state n h) (k.state (min (n + length xs) last_place) (fits n (length xs))
      ∙ ap (at u) (min_add n (length xs) (length ys) ∙ ap (λ j. min (n + j) last_place) (sym (length-append xs ys))));
  says = λ n h. said-append (at s n) xs ys ∙ rw (g.says n h, g.state n h) (ap (λ ks. ms ++ ks) (k.says (min (n + length xs) last_place) (fits n (length xs))));
}

-- these bytes lead from s to where an outcome says
abbrev pub Lands : Spot → List ℕ → Outcome → Type 0
Lands s bytes (going t) = Goes s t bytes []
Lands s bytes (whole m) = Goes s first bytes (m ∷ [])
Lands s bytes (refused f) = ⊥

abbrev pub IsTaken : Outcome → Type 0
IsTaken (refused f) = ⊥
IsTaken _ = Unit {0}

pub lands_one : (s : Spot) (b : ℕ) (o : Outcome) → step s b ≡ o → IsTaken o → Lands s (b ∷ []) o
lands_one s b (going t) e h = goes_step s t t b [] [] e (goes_nil t)
lands_one s b (whole m) e h = goes_whole s first m b [] [] e (goes_nil first)
lands_one s b (refused f) e h = h

pub lands_after : (s t : Spot) (xs ys : List ℕ) (o : Outcome) → Goes s t xs [] → Lands t ys o → Lands s (xs ++ ys) o
lands_after s t xs ys (going u) g k = goes_append s t u xs ys [] [] g k
lands_after s t xs ys (whole m) g k = goes_append s t first xs ys [] (m ∷ []) g k
lands_after s t xs ys (refused f) g k = k

pub lands_step : (s t : Spot) (b : ℕ) (ys : List ℕ) (o : Outcome) → step s b ≡ going t → Lands t ys o → Lands s (b ∷ ys) o
lands_step s t b ys (going u) e k = goes_step s t u b ys [] e k
lands_step s t b ys (whole m) e k = goes_step s t first b ys (m ∷ []) e k
lands_step s t b ys (refused f) e k = k

-- What is asked for leaves of a store: views only come, and their numbers rise.
use Rattle.std.proofs.Common.{◌≡◌, ℕ, ◌≤◌, Bool, true, false, if◌then◌else◌, ◌==◌, List, [], ◌∷◌, ◌++◌, refl, sym, ◌∙◌, ap, subst, append_assoc, arith}
use Rattle.std.specs.List.{AllByRecursion}
use Rattle.ak_run.specs.declared.asked.Asked.{Asked}
use Rattle.ak_run.specs.declared.asked.Asked.TheVariants.{Refused, Points, Rows, Flush}
use Rattle.ak_run.specs.Contents.{after_asked, after, after_all}
use Rattle.ak_run.specs.Replies.{Reply, plain, ok_reply, answer_to, reply_to, replies_to, bytes_at}
use Rattle.ak_run.proofs.Confirming.{is_in_last, is_in_more}
use Rattle.ak_world.proofs.Going.{final, last_is, same, joined, points_go, flush_goes}
use Rattle.ak_world.specs.Steps.{flushed}
use Rattle.ak_world.specs.Valid.{Goes, Rise}
use Rattle.ak_world.specs.Views.{View, IsIn}
use Rattle.ak_world.specs.Worlds.{World as Store, views_of, limits_of}

-- ---- Lists of messages, replies and bytes

pub after_all-append : (c : Store) (xs ys : List Asked) → after_all c (xs ++ ys) ≡ after_all (after_all c xs) ys
after_all-append c [] ys = refl
after_all-append c (a ∷ xs) ys = after_all-append (after c a) xs ys

pub replies_to-append : (port : ℕ) (c : Store) (xs ys : List Asked) → replies_to port c (xs ++ ys) ≡ replies_to port c xs ++ replies_to port (after_all c xs) ys
replies_to-append port c [] ys = refl
replies_to-append port c (a ∷ xs) ys = ap (λ (l : List Reply). reply_to port c a ∷ l) (replies_to-append port (after c a) xs ys)

pub bytes_at-append : (port : ℕ) (xs ys : List Reply) → bytes_at port (xs ++ ys) ≡ bytes_at port xs ++ bytes_at port ys
bytes_at-append port [] ys = refl
bytes_at-append port (r ∷ xs) ys =
    ap (λ (l : List ℕ). (if r.port == port then r.bytes else []) ++ l) (bytes_at-append port xs ys) ∙ sym (append_assoc (if r.port == port then r.bytes else []) (bytes_at port xs) (bytes_at port ys))

pub all_append : (P : Reply → Type 0) (xs ys : List Reply) → AllByRecursion P xs → AllByRecursion P ys → AllByRecursion P (xs ++ ys)
all_append P [] ys a b = b
all_append P (x ∷ xs) ys a b = (a.0, all_append P xs ys a.1 b)

-- ---- Views

-- nothing changes
pub stay : (c : Store) → Goes c c
stay c = same c c refl refl

asked_goes : (c : Store) (a : Asked) → Goes c (after_asked c a)
asked_goes c (Refused r) = stay c
asked_goes c (Points names ts vs) = points_go c names ts vs
asked_goes c (Rows metric) = stay c
asked_goes c Flush = flush_goes c

either_goes : (c d : Store) (b : Bool) → Goes c d → Goes c (if b then c else d)
either_goes c d true goes = stay c
either_goes c d false goes = goes

-- a store goes on by what is asked
pub after_goes : (c : Store) (a : Asked) → Goes c (after c a)
after_goes c a = either_goes c (after_asked c a) c.worn (asked_goes c a)

pub all_go : (c : Store) (xs : List Asked) → Goes c (after_all c xs)
all_go c [] = stay c
all_go c (a ∷ xs) = joined c (after c a) (after_all (after c a) xs) (after_goes c a) (all_go (after c a) xs)

pub last_in : (c : Store) → IsIn c.last (views_of c)
last_in c = is_in_last c.last c.earlier

-- a view that was taken stays among those taken
pub stays_in : {c d : Store} (view : View) → Goes c d → IsIn view (views_of c) → IsIn view (views_of d)
stays_in {c} {d} view goes is = subst (IsIn view) (sym goes.views) (is_in_more view (views_of c) goes.more is)

pub stays_all : (v : View) (c : Store) (xs : List Asked) → IsIn v (views_of c) → IsIn v (views_of (after_all c xs))
stays_all v c xs is = stays_in v (all_go c xs) is

-- ---- Numbers

rise_final : (v : View) (xs : List View) → Rise v.number xs → v.number ≤ (final v xs).number
rise_final v [] rise = omega arith
rise_final v (x ∷ xs) rise = omega (arith, rise.0, rise_final x xs rise.1)

pub rises_by : {c d : Store} → Goes c d → c.last.number ≤ d.last.number
rises_by {c} {d} goes = subst (λ (v : View). c.last.number ≤ v.number) (last_is c d goes) (rise_final c.last goes.more goes.numbers)

pub rises : (c : Store) (a : Asked) → c.last.number ≤ (after c a).last.number
rises c a = rises_by (after_goes c a)

pub rises_all : (c : Store) (xs : List Asked) → c.last.number ≤ (after_all c xs).last.number
rises_all c xs = rises_by (all_go c xs)

-- no view has other limits
pub limits_stay : (c : Store) (xs : List Asked) → limits_of (after_all c xs) ≡ limits_of c
limits_stay c xs = ap (λ (v : View). v.content.limits) (all_go c xs).opened

-- ---- Worn stays worn

pub worn_after : (c : Store) (a : Asked) → c.worn ≡ true → after c a ≡ c
worn_after c a worn = rw worn refl

pub worn_stays : (c : Store) (xs : List Asked) → c.worn ≡ true → (after_all c xs).worn ≡ true
worn_stays c [] worn = worn
worn_stays c (a ∷ xs) worn = worn_stays (after c a) xs (ap (λ (d : Store). d.worn) (worn_after c a worn) ∙ worn)

pub sound_after : (c : Store) (a : Asked) → c.worn ≡ false → after c a ≡ after_asked c a
sound_after c a sound = rw sound refl

pub sound_reply : (port : ℕ) (c : Store) (a : Asked) → c.worn ≡ false → reply_to port c a ≡ answer_to port c a
sound_reply port c a sound = rw sound refl

-- ---- Replies

abbrev pub confirms_within : ℕ → Reply → Type 0
confirms_within number r = r.confirms ≤ number

pub within_more : (a b : ℕ) (rs : List Reply) → a ≤ b → AllByRecursion (confirms_within a) rs → AllByRecursion (confirms_within b) rs
within_more a b [] le all = tt
within_more a b (r ∷ rs) le all = (omega (arith, all.0, le), within_more a b rs le all.1)

module _ (port : ℕ) where
  flush_confirms : (c : Store) (b : Bool) → (if b then plain port [] else record { port = port; bytes = ok_reply; confirms = c.last.number }).confirms ≤ c.last.number
  flush_confirms c true = omega arith
  flush_confirms c false = omega arith

  answer_confirms : (c : Store) (a : Asked) → (answer_to port c a).confirms ≤ (after_asked c a).last.number
  answer_confirms c (Refused r) = omega arith
  answer_confirms c (Points names ts vs) = omega arith
  answer_confirms c (Rows metric) = omega arith
  answer_confirms c Flush = flush_confirms (flushed c) (flushed c).worn

  by_worn : (c : Store) (a : Asked) (b : Bool) → (if b then plain port [] else answer_to port c a).confirms ≤ (if b then c else after_asked c a).last.number
  by_worn c a true = omega arith
  by_worn c a false = answer_confirms c a

  pub reply_confirms : (c : Store) (a : Asked) → (reply_to port c a).confirms ≤ (after c a).last.number
  reply_confirms c a = by_worn c a c.worn

  -- each reply confirms a view that is there
  pub confirms_all_within : (c : Store) (xs : List Asked) → AllByRecursion (confirms_within (after_all c xs).last.number) (replies_to port c xs)
  confirms_all_within c [] = tt
  confirms_all_within c (a ∷ xs) = (omega (arith, reply_confirms c a, rises_all (after c a) xs), confirms_all_within (after c a) xs)

  flush_port : (c : Store) (b : Bool) → (if b then plain port [] else record { port = port; bytes = ok_reply; confirms = c.last.number }).port ≡ port
  flush_port c true = refl
  flush_port c false = refl

  answer_port : (c : Store) (a : Asked) → (answer_to port c a).port ≡ port
  answer_port c (Refused r) = refl
  answer_port c (Points names ts vs) = refl
  answer_port c (Rows metric) = refl
  answer_port c Flush = flush_port (flushed c) (flushed c).worn

  reply_port : (c : Store) (a : Asked) (b : Bool) → (if b then plain port [] else answer_to port c a).port ≡ port
  reply_port c a true = refl
  reply_port c a false = answer_port c a

  -- all are told at the port
  pub ports_are : (c : Store) (xs : List Asked) → AllByRecursion (λ r. r.port ≡ port) (replies_to port c xs)
  ports_are c [] = tt
  ports_are c (a ∷ xs) = (reply_port c a c.worn, ports_are (after c a) xs)

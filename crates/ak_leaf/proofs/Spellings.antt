-- Spellings of lists of points: one more point, their length, and that no spelling of as many points begins another.
use Rattle.std.proofs.Common.{◌≡◌, ◌+◌, ◌-◌, ◌*◌, ◌^◌, ◌<◌, ◌≤◌, ℕ, ℤ, pos, negsuc, ◌-ℤ◌, ◌<ℤ◌, List, [], ◌∷◌, ◌++◌, length, Option, Some, None, IfNone, refl, sym, ap, ap₂, ◌∙◌, subst, arith, append_assoc, append-nil, length-append, take, drop, get_or}
use Rattle.std.proofs.lemmas.List.{nil_from_length, take_more, drop_more, take-append-drop}
use Rattle.std.proofs.lemmas.Int.{ints}
use Rattle.std.specs.List.{AllByRecursion}
use Rattle.ak_base.specs.Points.{IsPoint, IsHistoryFrom, last_ts_from}
use Rattle.ak_base.specs.declared.point.Point.{Point}
use Rattle.ak_bytes.specs.Fields.{IsPut}
use Rattle.ak_bytes.specs.Uvar.{uvar}
use Rattle.ak_bytes.specs.Zigzag.{zigzag_of}
use Rattle.ak_bytes.proofs.Groups.{uvar_nonempty, uvar_longest, uvar_prefix}
use Rattle.ak_leaf.specs.Spelling.{IsBefore, start, after, after_all, point_spelling, spelling_after}
use Rattle.ak_leaf.specs.declared.point.Before.{Before}

pub if_none : {A : Type 0} (o : Option A) (P : Type 0) → P → IfNone o P
if_none None P h = h
if_none (Some x) P h = tt

-- one point more
pub spelling_push : (before : Before) (ps : List Point) (p : Point) → spelling_after before (ps ++ p ∷ []) ≡ spelling_after before ps ++ point_spelling (after_all before ps) p
spelling_push before [] p = append-nil (point_spelling before p)
spelling_push before (q ∷ ps) p = ap (λ (l : List ℕ). point_spelling before q ++ l) (spelling_push (after before q) ps p) ∙ sym (append_assoc (point_spelling before q) (spelling_after (after before q) ps) (point_spelling (after_all (after before q) ps) p))

pub after_push : (before : Before) (ps : List Point) (p : Point) → after_all before (ps ++ p ∷ []) ≡ after (after_all before ps) p
after_push before [] p = refl
after_push before (q ∷ ps) p = after_push (after before q) ps p

pub after_ts : (before : Before) (ps : List Point) → (after_all before ps).ts ≡ last_ts_from before.ts ps
after_ts before [] = refl
after_ts before (p ∷ ps) = after_ts (after before p) ps

-- points that may stand behind others
abbrev pub MayFollow : Before → List Point → Type 0
MayFollow before [] = Unit {0}
MayFollow before (p ∷ ps) = IsPoint p × (before.ts ≤ p.ts) × MayFollow (after before p) ps

pub may_follow : (before : Before) (ps : List Point) → IsHistoryFrom before.ts ps → AllByRecursion IsPoint ps → MayFollow before ps
may_follow before [] h is = tt
may_follow before (p ∷ ps) h is = (is.0, h.0, may_follow (after before p) ps h.1 is.1)

pub follow_history : (before : Before) (ps : List Point) → MayFollow before ps → IsHistoryFrom before.ts ps
follow_history before [] f = tt
follow_history before (p ∷ ps) (is, rises, f) = (rises, follow_history (after before p) ps f)

pub follow_each : (before : Before) (ps : List Point) → MayFollow before ps → AllByRecursion IsPoint ps
follow_each before [] f = tt
follow_each before (p ∷ ps) (is, rises, f) = (is, follow_each (after before p) ps f)

pub follow_push : (before : Before) (ps : List Point) (p : Point) → MayFollow before ps → IsPoint p → (after_all before ps).ts ≤ p.ts → MayFollow before (ps ++ p ∷ [])
follow_push before [] p f is rises = (is, rises, tt)
follow_push before (q ∷ ps) p (point, from, f) is rises = (point, from, follow_push (after before q) ps p f is rises)

-- the points behind some points
pub history_rest : (ts : ℕ) (ps qs : List Point) → IsHistoryFrom ts (ps ++ qs) → IsHistoryFrom (last_ts_from ts ps) qs
history_rest ts [] qs h = h
history_rest ts (p ∷ ps) qs h = history_rest p.ts ps qs h.1

pub after_is : (before : Before) (ps : List Point) → IsBefore before → MayFollow before ps → IsBefore (after_all before ps)
after_is before [] is f = is
after_is before (p ∷ ps) is (point, from, f) = after_is (after before p) ps (record { ts = point.ts; low = point.low; high = point.high }) f

pub start_is : IsBefore start
start_is = record { ts = omega arith; low = omega (arith, ints); high = omega (arith, ints) }

pub spelling_append : (before : Before) (ps qs : List Point) → spelling_after before (ps ++ qs) ≡ spelling_after before ps ++ spelling_after (after_all before ps) qs
spelling_append before [] qs = refl
spelling_append before (p ∷ ps) qs = ap (λ (l : List ℕ). point_spelling before p ++ l) (spelling_append (after before p) ps qs) ∙ sym (append_assoc (point_spelling before p) (spelling_after (after before p) ps) (spelling_after (after_all (after before p) ps) qs))

-- a point takes 2 to 20 bytes
pub point_least : (before : Before) (p : Point) → 2 ≤ length (point_spelling before p)
point_least before p =
    omega (arith, length-append (uvar (p.ts - before.ts)) (uvar (zigzag_of (p.value -ℤ before.value))), uvar_nonempty (p.ts - before.ts), uvar_nonempty (zigzag_of (p.value -ℤ before.value)))

pub point_most : (before : Before) (p : Point) → length (point_spelling before p) ≤ 20
point_most before p =
    omega (arith, length-append (uvar (p.ts - before.ts)) (uvar (zigzag_of (p.value -ℤ before.value))), uvar_longest (p.ts - before.ts), uvar_longest (zigzag_of (p.value -ℤ before.value)))

pub spelling_least : (before : Before) (ps : List Point) → 2 * length ps ≤ length (spelling_after before ps)
spelling_least before [] = omega arith
spelling_least before (p ∷ ps) = omega (arith, length-append (point_spelling before p) (spelling_after (after before p) ps), point_least before p, spelling_least (after before p) ps)

pub spelling_most : (before : Before) (ps : List Point) → length (spelling_after before ps) ≤ 20 * length ps
spelling_most before [] = omega arith
spelling_most before (p ∷ ps) = omega (arith, length-append (point_spelling before p) (spelling_after (after before p) ps), point_most before p, spelling_most (after before p) ps)

-- the numbers of a difference of values
zigzag_below : (d : ℤ) → negsuc (2 ^ 64) <ℤ d → d <ℤ pos (2 ^ 64) → zigzag_of d < 2 ^ 66
zigzag_below (pos n) low high = omega (arith, ints)
zigzag_below (negsuc n) low high = omega (arith, ints)

zigzag_same : (c d : ℤ) → zigzag_of c ≡ zigzag_of d → c ≡ d
zigzag_same (pos m) (pos n) e = ap pos (omega arith)
zigzag_same (pos m) (negsuc n) e = absurd (omega arith)
zigzag_same (negsuc m) (pos n) e = absurd (omega arith)
zigzag_same (negsuc m) (negsuc n) e = ap negsuc (omega arith)

pub zigzag_small : (before : Before) (p : Point) → IsBefore before → IsPoint p → zigzag_of (p.value -ℤ before.value) < 2 ^ 70
zigzag_small before p is is' =
    let small = zigzag_below (p.value -ℤ before.value) (omega (arith, ints, is.high, is'.low)) (omega (arith, ints, is.low, is'.high)) in omega (arith, small)

same_points : (p q : Point) → p.ts ≡ q.ts → p.value ≡ q.value → p ≡ q
same_points p q e f = ap₂ (λ (t : ℕ) (v : ℤ). let made : Point = record { ts = t; value = v } in made) e f

-- the point at the front is one, and so is what follows it
pub point_prefix : (before : Before) (p q : Point) (x y : List ℕ) → IsBefore before → IsPoint p → IsPoint q → before.ts ≤ p.ts → before.ts ≤ q.ts → point_spelling before p ++ x ≡ point_spelling before q ++ y → (p ≡ q) × (x ≡ y)
point_prefix before p q x y is isp isq rises rises' e =
    let a = uvar (p.ts - before.ts) in
    let b = uvar (zigzag_of (p.value -ℤ before.value)) in
    let a' = uvar (q.ts - before.ts) in
    let b' = uvar (zigzag_of (q.value -ℤ before.value)) in
    let moved : a ++ (b ++ x) ≡ a' ++ (b' ++ y) = sym (append_assoc a b x) ∙ e ∙ append_assoc a' b' y in
    let times = uvar_prefix (p.ts - before.ts) (q.ts - before.ts) (b ++ x) (b' ++ y) (omega (arith, isp.ts)) (omega (arith, isq.ts)) moved in
    let values = uvar_prefix (zigzag_of (p.value -ℤ before.value)) (zigzag_of (q.value -ℤ before.value)) x y (zigzag_small before p is isp) (zigzag_small before q is isq) times.1 in
    let same = zigzag_same (p.value -ℤ before.value) (q.value -ℤ before.value) values.0 in
    (same_points p q (omega (arith, times.0)) (omega (arith, ints, same)), values.1)

-- a list of points goes on as another
pub record GoesOn (before : Before) (done ps : List Point) (left rest : List ℕ) : Type 0 where
  pub more : List Point
  pub is : ps ≡ done ++ more
  pub follow : MayFollow (after_all before done) more
  pub spelled : left ≡ spelling_after (after_all before done) more ++ rest

consed : (q p : Point) (ps done more : List Point) → q ≡ p → ps ≡ done ++ more → q ∷ ps ≡ (p ∷ done) ++ more
consed q p ps done more e f = ap₂ (λ (r : Point) (l : List Point). r ∷ l) e f

pub spelling_prefix : (before : Before) (done ps : List Point) (left rest : List ℕ) → IsBefore before → MayFollow before done → MayFollow before ps → length done ≤ length ps
    → spelling_after before done ++ left ≡ spelling_after before ps ++ rest → GoesOn before done ps left rest
spelling_prefix before [] ps left rest is f f' few e = record { more = ps; is = refl; follow = f'; spelled = e }
spelling_prefix before (p ∷ done) [] left rest is f f' few e = absurd (omega arith)
spelling_prefix before (p ∷ done) (q ∷ ps) left rest is (point, from, f) (point', from', f') few e =
    let behind = spelling_after (after before p) done ++ left in
    let behind' = spelling_after (after before q) ps ++ rest in
    let moved : point_spelling before p ++ behind ≡ point_spelling before q ++ behind' =
    sym (append_assoc (point_spelling before p) (spelling_after (after before p) done) left) ∙ e ∙ append_assoc (point_spelling before q) (spelling_after (after before q) ps) rest in
    let first = point_prefix before p q behind behind' is point point' from from' moved in
    let same : q ≡ p = sym first.0 in
    let next : behind ≡ spelling_after (after before p) ps ++ rest = first.1 ∙ ap (λ (r : Point). spelling_after (after before r) ps ++ rest) same in
    let is' : IsBefore (after before p) = record { ts = point.ts; low = point.low; high = point.high } in
    let g = spelling_prefix (after before p) done ps left rest is' f (subst (λ (r : Point). MayFollow (after before r) ps) same f') (omega arith) next in
    record { more = g.more; is = consed q p ps done g.more same g.is; follow = g.follow; spelled = g.spelled }

-- as many points with one spelling are the same points
pub spelling_one : (ps qs : List Point) (x y : List ℕ) → MayFollow start ps → MayFollow start qs → length ps ≡ length qs → spelling_after start ps ++ x ≡ spelling_after start qs ++ y → ps ≡ qs
spelling_one ps qs x y f f' same e =
    let g = spelling_prefix start ps qs x y start_is f f' (omega arith) e in
    let none : g.more ≡ [] = nil_from_length g.more (omega (arith, ap length g.is, length-append ps g.more)) in
    sym (g.is ∙ ap (λ (l : List Point). ps ++ l) none ∙ append-nil ps)

-- one write after another
pub put_append : (old mid new : List ℕ) (at m end : ℕ) (a b : List ℕ) → m ≤ end → IsPut old mid at m a → IsPut mid new m end b → IsPut old new at end (a ++ b)
put_append old mid new at m end a b h p q = record {
  front = q.front ∙ ap (λ (l : List ℕ). l ++ b) p.front ∙ append_assoc (take at old) a b;
  back = λ k past. q.back k past ∙ p.back k (omega arith);
}

-- the first number of a point was read
pub time_read : (before : Before) (p : Point) (bytes left rest : List ℕ) (time : ℕ) → IsPoint p → before.ts ≤ p.ts → time < 2 ^ 70 → bytes ≡ uvar time ++ left → bytes ≡ point_spelling before p ++ rest
    → (time ≡ p.ts - before.ts) × (left ≡ uvar (zigzag_of (p.value -ℤ before.value)) ++ rest)
time_read before p bytes left rest time is rises small e f =
    let a = uvar (p.ts - before.ts) in
    let b = uvar (zigzag_of (p.value -ℤ before.value)) in
    uvar_prefix time (p.ts - before.ts) left (b ++ rest) small (omega (arith, is.ts)) (sym e ∙ f ∙ append_assoc a b rest)

-- the point that comes next
pub record Next (before : Before) (left : List ℕ) : Type 0 where
  pub p : Point
  pub rest : List ℕ
  pub is : IsPoint p
  pub rises : before.ts ≤ p.ts
  pub spelled : left ≡ point_spelling before p ++ rest

first_next : (before : Before) (more : List Point) (left : List ℕ) → 0 < length more → MayFollow before more → left ≡ spelling_after before more ++ [] → Next before left
first_next before [] left some f e = absurd (omega arith)
first_next before (p ∷ more) left some (is, rises, f) e = record {
  p = p;
  rest = spelling_after (after before p) more ++ [];
  is = is;
  rises = rises;
  spelled = e ∙ append_assoc (point_spelling before p) (spelling_after (after before p) more) [];
}

goes : (done ps : List Point) (left : List ℕ) → MayFollow start done → MayFollow start ps → length done ≤ length ps → spelling_after start done ++ left ≡ spelling_after start ps → GoesOn start done ps left []
goes done ps left f f' few e = spelling_prefix start done ps left [] start_is f f' few (e ∙ sym (append-nil (spelling_after start ps)))

pub goes_next : (before : Before) (done ps : List Point) (left : List ℕ) → before ≡ after_all start done → MayFollow start done → MayFollow start ps → length done < length ps
    → spelling_after start done ++ left ≡ spelling_after start ps → Next before left
goes_next before done ps left last f f' few e =
    let g = goes done ps left f f' (omega arith) e in
    subst (λ (b : Before). Next b left) (sym last) (first_next (after_all start done) g.more left (omega (arith, ap length g.is, length-append done g.more)) g.follow g.spelled)

pub goes_end : (done ps : List Point) (left : List ℕ) → MayFollow start done → MayFollow start ps → length done ≡ length ps → spelling_after start done ++ left ≡ spelling_after start ps → left ≡ []
goes_end done ps left f f' same e =
    let g = goes done ps left f f' (omega arith) e in
    let none : g.more ≡ [] = nil_from_length g.more (omega (arith, ap length g.is, length-append done g.more)) in
    g.spelled ∙ ap (λ (l : List Point). spelling_after (after_all start done) l ++ []) none

-- one point more was read
pub record Read (from : List ℕ) (new : List Point) (before : Before) (left : List ℕ) : Type 0 where
  pub last : before ≡ after_all start new
  pub follow : MayFollow start new
  pub spelled : from ≡ spelling_after start new ++ left

pub read_more : (from : List ℕ) (done new : List Point) (before : Before) (p : Point) (left rest : List ℕ) → new ≡ done ++ p ∷ [] → before ≡ after_all start done → MayFollow start done → IsPoint p → before.ts ≤ p.ts
    → from ≡ spelling_after start done ++ left → left ≡ point_spelling before p ++ rest → Read from new (after before p) rest
read_more from done new before p left rest e last f is rises spelled next =
    let from-last : (after_all start done).ts ≤ p.ts = subst (λ (b : Before). b.ts ≤ p.ts) last rises in
    let whole : from ≡ spelling_after start (done ++ p ∷ []) ++ rest =
    spelled ∙ ap (λ (l : List ℕ). spelling_after start done ++ l) (next ∙ ap (λ (b : Before). point_spelling b p ++ rest) last)
    ∙ sym (append_assoc (spelling_after start done) (point_spelling (after_all start done) p) rest)
    ∙ ap (λ (l : List ℕ). l ++ rest) (sym (spelling_push start done p)) in
    let behind : after before p ≡ after_all start (done ++ p ∷ []) = ap (λ (b : Before). after b p) last ∙ sym (after_push start done p) in
    subst (λ (ps : List Point). Read from ps (after before p) rest) (sym e) (record { last = behind; follow = follow_push start done p f is from-last; spelled = whole })

-- the point at a place of a history
pub record At (ps : List Point) (i : ℕ) (before : Before) (p : Point) : Type 0 where
  pub rises : before.ts ≤ p.ts
  pub last : after before p ≡ after_all start (take (i + 1) ps)
  pub spelled : spelling_after start (take (i + 1) ps) ≡ spelling_after start (take i ps) ++ point_spelling before p
  pub fits : length (spelling_after start (take i ps)) + length (point_spelling before p) ≤ length (spelling_after start ps)

pub at_place : (ps : List Point) (i : ℕ) (before : Before) (default : Point) → i < length ps → IsHistoryFrom 0 ps → before ≡ after_all start (take i ps) → At ps i before (get_or ps i default)
at_place ps i before default within h last =
    let p = get_or ps i default in
    let front : take (i + 1) ps ≡ take i ps ++ p ∷ [] = take_more ps i default within in
    let whole : take i ps ++ (p ∷ drop (i + 1) ps) ≡ ps = ap (λ (l : List Point). take i ps ++ l) (sym (drop_more ps i default within)) ∙ take-append-drop i ps in
    let rest = history_rest 0 (take i ps) (p ∷ drop (i + 1) ps) (subst (λ (l : List Point). IsHistoryFrom 0 l) (sym whole) h) in
    let ts : before.ts ≡ last_ts_from 0 (take i ps) = ap (λ (b : Before). b.ts) last ∙ after_ts start (take i ps) in
    let spelled : spelling_after start (take (i + 1) ps) ≡ spelling_after start (take i ps) ++ point_spelling before p =
    ap (spelling_after start) front ∙ spelling_push start (take i ps) p ∙ ap (λ (b : Before). spelling_after start (take i ps) ++ point_spelling b p) (sym last) in
    let all : spelling_after start ps ≡ spelling_after start (take (i + 1) ps) ++ spelling_after (after_all start (take (i + 1) ps)) (drop (i + 1) ps) =
    ap (spelling_after start) (sym (take-append-drop (i + 1) ps)) ∙ spelling_append start (take (i + 1) ps) (drop (i + 1) ps) in
    record {
      rises = omega (arith, ts, rest.0);
      last = ap (λ (b : Before). after b p) last ∙ sym (after_push start (take i ps) p) ∙ ap (after_all start) (sym front);
      spelled = spelled;
      fits = omega (arith, ap length spelled, ap length all, length-append (spelling_after start (take (i + 1) ps)) (spelling_after (after_all start (take (i + 1) ps)) (drop (i + 1) ps)), length-append (spelling_after start (take i ps)) (point_spelling before p));
    }

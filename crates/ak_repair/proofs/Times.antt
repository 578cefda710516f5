-- Live leaves by their times, and references in the order of these.
use Rattle.std.proofs.Common.{◌≡◌, ◌≢◌, inl, inr, ◌⊎◌, ◌∙◌, ℕ, zero, suc, ◌+◌, ◌-◌, ◌<◌, ◌≤◌, List, [], ◌∷◌, ◌++◌, length, take, refl, sym, ap, subst, arith}
use Rattle.std.proofs.lemmas.Bool.{cases_lt}
use Rattle.std.proofs.lemmas.Bool.Decides.{nat_tests}
use Rattle.std.proofs.lemmas.List.{take_all}
use Rattle.std.specs.List.{AllByRecursion}
use Rattle.ak_base.specs.Points.{IsHistory, IsHistoryFrom, last_ts_from}
use Rattle.ak_base.specs.declared.point.Point.{Point}
use Rattle.ak_image.proofs.Lifting.{begins_from, some_of}
use Rattle.ak_image.proofs.Numbered.{between_before, between_one, between_some, number_at}
use Rattle.ak_image.specs.Trees.{points_between, total_of}
use Rattle.ak_inner.specs.declared.reference.Ref.{Ref}
use Rattle.ak_levels.proofs.Leaves.{leaf_end}
use Rattle.ak_levels.specs.Orders.{AreInOrder}
use Rattle.ak_summary.specs.Folds.{summary_of}
use Rattle.ak_summary.specs.Summaries.{IsOrderly}
use Rattle.ak_world.specs.Leaves.{Leaf, points_of}
use Rattle.ak_world.specs.Valid.{AreNumbered}
use Rattle.ak_world.specs.Views.{last_time}

-- ---- Lists in order

pub order_joined : (from mid to : ℕ) (rs ss : List Ref) → AreInOrder from mid rs → AreInOrder mid to ss → AreInOrder from to (rs ++ ss)
order_joined from mid to [] [] one two = omega (arith, one, two)
order_joined from mid to [] (s ∷ ss) one two = (omega (arith, one, two.0), two.1, two.2)
order_joined from mid to (r ∷ rs) ss one two = (one.0, one.1, order_joined r.summary.end mid to rs ss one.2 two)

pub order_pushed : (from mid to : ℕ) (rs : List Ref) (r : Ref) → AreInOrder from mid rs → mid ≤ r.summary.begin → IsOrderly r.summary → r.summary.end ≤ to → AreInOrder from to (rs ++ r ∷ [])
order_pushed from mid to rs r order begins orderly ends = order_joined from mid to rs (r ∷ []) order (begins, orderly, ends)

-- ---- Histories

history_joined : (t : ℕ) (ps qs : List Point) → IsHistoryFrom t ps → IsHistoryFrom (last_ts_from t ps) qs → IsHistoryFrom t (ps ++ qs)
history_joined t [] qs one two = two
history_joined t (p ∷ ps) qs one two = (one.0, history_joined p.ts ps qs one.1 two)

history_front : (t : ℕ) (ps qs : List Point) → IsHistoryFrom t (ps ++ qs) → IsHistoryFrom t ps
history_front t [] qs h = tt
history_front t (p ∷ ps) qs h = (h.0, history_front p.ts ps qs h.1)

history_back : (t : ℕ) (ps qs : List Point) → IsHistoryFrom t (ps ++ qs) → IsHistoryFrom (last_ts_from t ps) qs
history_back t [] qs h = h
history_back t (p ∷ ps) qs h = history_back p.ts ps qs h.1

between_with : (x : Leaf) (leaves : List Leaf) (i j : ℕ) → i ≤ x.number → x.number < j → points_between (x ∷ leaves) i j ≡ x.points ++ points_between leaves i j
between_with x leaves i j from to = grind (arith, nat_tests)

between_without : (x : Leaf) (leaves : List Leaf) (i j : ℕ) → (x.number < i) ⊎ (j ≤ x.number) → points_between (x ∷ leaves) i j ≡ points_between leaves i j
between_without x leaves i j out = grind (arith, nat_tests)

-- the points of the first of the leaves
between_front : (first : ℕ) (leaves : List Leaf) (t i j : ℕ) → AreNumbered first leaves → i ≤ first → IsHistoryFrom t (points_of leaves) → IsHistoryFrom t (points_between leaves i j)
between_front first [] t i j are from h = tt
between_front first (x ∷ leaves) t i j are from h = elim (cases_lt x.number j) [
  | inl to ↦ subst (IsHistoryFrom t) (sym (between_with x leaves i j (omega (arith, are.0, from)) to))
      (history_joined t x.points (points_between leaves i j) (history_front t x.points (points_of leaves) h)
      (between_front (suc first) leaves (last_ts_from t x.points) i j are.1 (omega (arith, from)) (history_back t x.points (points_of leaves) h)))
  | inr past ↦ subst (IsHistoryFrom t) (sym (between_without x leaves i j (inr past) ∙ between_before (suc first) leaves i j are.1 (omega (arith, are.0, past)))) tt
]

-- the points of the leaves from one on follow those of the leaves before it
between_history : (first : ℕ) (leaves : List Leaf) (t n j : ℕ) → AreNumbered first leaves → IsHistoryFrom t (points_of leaves) → IsHistoryFrom (last_time t (take n leaves)) (points_between leaves (first + n) j)
between_history first leaves t zero j are h =
    let same : first + 0 ≡ first = omega arith in
    subst (λ (i : ℕ). IsHistoryFrom t (points_between leaves i j)) (sym same) (between_front first leaves t first j are (omega arith) h)
between_history first [] t (suc n) j are h = tt
between_history first (x ∷ leaves) t (suc n) j are h =
    let same : suc first + n ≡ first + suc n = omega arith in
    subst (λ (ps : List Point). IsHistoryFrom (last_time (last_ts_from t x.points) (take n leaves)) ps) (sym (between_without x leaves (first + suc n) j (inl (omega (arith, are.0)))))
    (subst (λ (i : ℕ). IsHistoryFrom (last_time (last_ts_from t x.points) (take n leaves)) (points_between leaves i j)) same
    (between_history (suc first) leaves (last_ts_from t x.points) n j are.1 (history_back t x.points (points_of leaves) h)))

last_rises : (t u : ℕ) (ps : List Point) → t ≤ u → last_ts_from t ps ≤ last_ts_from u ps
last_rises t u [] more = more
last_rises t u (p ∷ ps) more = omega arith

pub time_rises : (t u : ℕ) (leaves : List Leaf) → t ≤ u → last_time t leaves ≤ last_time u leaves
time_rises t u [] more = more
time_rises t u (leaf ∷ leaves) more = time_rises (last_ts_from t leaf.points) (last_ts_from u leaf.points) leaves (last_rises t u leaf.points more)

-- ---- Times

-- the time of the last point before the leaf of a number, where leaves from one on are live
abbrev pub time_at : ℕ → List Leaf → ℕ → ℕ
time_at low leaves m = last_time 0 (take (m - low) leaves)

-- what comes from a leaf on begins no earlier
pub total_begins : (low : ℕ) (leaves : List Leaf) (m j : ℕ) → AreNumbered low leaves → AllByRecursion (λ (leaf : Leaf). 0 < length leaf.points) leaves → IsHistory (points_of leaves) → low ≤ m → m < low + length leaves → m < j
    → time_at low leaves m ≤ (total_of leaves m j).begin
total_begins low leaves m j are each history from to less =
    let n : ℕ = m - low in
    let same : low + n ≡ m = omega (arith, from) in
    let some : points_between leaves m j ≢ [] = between_some low leaves m j are each from to less in
    begins_from (time_at low leaves m) (points_between leaves m j) (long_of (points_between leaves m j) some)
    (subst (λ (i : ℕ). IsHistoryFrom (time_at low leaves m) (points_between leaves i j)) same (between_history low leaves 0 n j are history))
  where
    long_of : (ps : List Point) → ps ≢ [] → 0 < length ps
    long_of [] some = absurd (some refl)
    long_of (p ∷ ps) some = omega arith

time_push : (t : ℕ) (front : List Leaf) (leaf : Leaf) → last_time t (front ++ leaf ∷ []) ≡ last_ts_from (last_time t front) leaf.points
time_push t [] leaf = refl
time_push t (x ∷ front) leaf = time_push (last_ts_from t x.points) front leaf

-- the leaf of a number, with those before it and behind it
record IsParted (leaves : List Leaf) (n : ℕ) : Type 0 where
  leaf : Leaf
  behind : List Leaf
  is : leaves ≡ take n leaves ++ leaf ∷ behind
  next : take (suc n) leaves ≡ take n leaves ++ leaf ∷ []
  long : length (take n leaves) ≡ n

parted : (leaves : List Leaf) (n : ℕ) → n < length leaves → IsParted leaves n
parted [] n within = absurd (omega arith)
parted (x ∷ leaves) zero within = record { leaf = x; behind = leaves; is = refl; next = refl; long = refl }
parted (x ∷ leaves) (suc n) within =
    let on = parted leaves n (omega arith) in
    record { leaf = on.leaf; behind = on.behind; is = ap (λ (ls : List Leaf). x ∷ ls) on.is; next = ap (λ (ls : List Leaf). x ∷ ls) on.next; long = ap suc on.long }

all_at : (P : Leaf → Type 0) (front : List Leaf) (leaf : Leaf) (behind : List Leaf) → AllByRecursion P (front ++ leaf ∷ behind) → P leaf
all_at P [] leaf behind all = all.0
all_at P (x ∷ front) leaf behind all = all_at P front leaf behind all.1

-- and a leaf ends then
pub total_ends : (low : ℕ) (leaves : List Leaf) (m : ℕ) → AreNumbered low leaves → AllByRecursion (λ (leaf : Leaf). 0 < length leaf.points) leaves → low ≤ m → m < low + length leaves
    → (total_of leaves m (suc m)).end ≡ time_at low leaves (suc m)
total_ends low leaves m are each from to =
    let n : ℕ = m - low in
    let p = parted leaves n (omega (arith, from, to)) in
    let front : List Leaf = take n leaves in
    let numbers : AreNumbered low (front ++ p.leaf ∷ p.behind) = subst (AreNumbered low) p.is are in
    let some : 0 < length p.leaf.points = all_at (λ (x : Leaf). 0 < length x.points) front p.leaf p.behind (subst (AllByRecursion (λ (x : Leaf). 0 < length x.points)) p.is each) in
    let number : p.leaf.number ≡ m = number_at low front p.leaf p.behind numbers ∙ omega (arith, p.long, from) in
    let own : points_between leaves m (suc m) ≡ p.leaf.points =
    subst (λ (i : ℕ). points_between leaves i (suc i) ≡ p.leaf.points) number
    (subst (λ (ls : List Leaf). points_between ls p.leaf.number (suc p.leaf.number) ≡ p.leaf.points) (sym p.is) (between_one low front p.leaf p.behind numbers)) in
    let next : suc m - low ≡ suc n = omega (arith, from) in
    ap (λ (ps : List Point). (summary_of ps).end) own
    ∙ leaf_end 0 (last_time 0 front) p.leaf.points (some_of p.leaf.points some)
    ∙ sym (time_push 0 front p.leaf)
    ∙ ap (last_time 0) (sym p.next)
    ∙ ap (λ (i : ℕ). last_time 0 (take i leaves)) (sym next)

-- before the first live leaf there is no time
pub time_none : (low : ℕ) (leaves : List Leaf) (m : ℕ) → m ≤ low → time_at low leaves m ≡ 0
time_none low leaves m below = let none : m - low ≡ 0 = omega (arith, below) in ap (λ (n : ℕ). last_time 0 (take n leaves)) none

-- numbers that are the same but for dead leaves
pub time_same : (low : ℕ) (leaves : List Leaf) (m n : ℕ) → m - low ≡ n - low → time_at low leaves m ≡ time_at low leaves n
time_same low leaves m n same = ap (λ (i : ℕ). last_time 0 (take i leaves)) same

pub time_whole : (low : ℕ) (leaves : List Leaf) (m : ℕ) → low + length leaves ≡ m → time_at low leaves m ≡ last_time 0 leaves
time_whole low leaves m long = ap (last_time 0) (take_all (m - low) leaves (omega (arith, long)))

-- The rows of all tracks, of which the next is taken.
use Rattle.std.proofs.Common.{◌≡◌, ℕ, zero, suc, ◌<◌, ◌≤◌, Bool, true, false, List, [], ◌∷◌, ◌++◌, length, map, get_or, set, take, drop, Option, Some, None, refl, ap, ap₂, subst, ◌∙◌, sym, arith}
use Rattle.std.specs.Prelude.{flat_map, reverse}
use Rattle.std.specs.List.{AllByRecursion}
use Rattle.std.proofs.lemmas.List.{map-append, set_split, reverse-reverse}
use Rattle.ak_rows.specs.Ahead.{comes}
use Rattle.ak_rows.specs.Answers.{ordered, paged}
use Rattle.ak_rows.specs.Lines.{Line}
use Rattle.ak_rows.specs.Orders.{TimeIs, LinesInOrder, next_time_of}
use Rattle.ak_rows.specs.Picks.{loses_before, loses_behind}
use Rattle.ak_rows.specs.Sorted.{in_time, turned}
use Rattle.ak_rows.proofs.Chosen.{later_before, later_behind, all_take, all_drop, split_at, before_by_place, behind_by_place}
use Rattle.ak_rows.proofs.Merging.{next_out, all_if}

line_all : (back : Bool) (P : ℕ → Type 0) → ((u v : ℕ) → P u → comes back u v → P v) → (ls : List Line) → LinesInOrder back ls
    → TimeIs P (next_time_of ls) → AllByRecursion (λ (m : Line). P m.time) ls
line_all back P on [] order is = tt
line_all back P on (l ∷ ls) order is = (is, all_if (λ (m : Line). comes back l.time m.time) (λ (m : Line). P m.time) (λ m c. on l.time m.time is c) ls order.0)

lines_all : (back : Bool) (P : ℕ → Type 0) → ((u v : ℕ) → P u → comes back u v → P v) → (css : List (List Line)) → AllByRecursion (LinesInOrder back) css
    → AllByRecursion (λ ls. TimeIs P (next_time_of ls)) css → AllByRecursion (AllByRecursion (λ (m : Line). P m.time)) css
lines_all back P on [] order is = tt
lines_all back P on (ls ∷ css) order is = (line_all back P on ls order.0 is.0, lines_all back P on css order.1 is.1)

at_place : (P : List Line → Type 0) (css : List (List Line)) (i : ℕ) → i < length css → AllByRecursion P css → P (get_or css i [])
at_place P [] i within all = absurd (omega arith)
at_place P (ls ∷ css) zero within all = all.0
at_place P (ls ∷ css) (suc i) within all = at_place P css i (omega arith) all.1

-- By time: the track whose next row comes before those of all others gives it.
pub by_time_next : (back : Bool) (css : List (List Line)) (i : ℕ) (l : Line) (rest : List Line) → i < length css → AllByRecursion (LinesInOrder back) css
    → get_or css i [] ≡ l ∷ rest
    → ((k : ℕ) → k < i → TimeIs (loses_before back l.time) (next_time_of (get_or css k [])))
    → ((k : ℕ) → i < k → k < length css → TimeIs (loses_behind back l.time) (next_time_of (get_or css k [])))
    → ordered true back (map (turned back) css) ≡ l ∷ ordered true back (map (turned back) (set css i rest))
by_time_next back css i l rest within order here before behind =
    let us = take i css in
    let vs = drop (suc i) css in
    let G = λ (xss : List (List Line)). ordered true back (map (turned back) xss) in
    let own = subst (LinesInOrder back) here (at_place (LinesInOrder back) css i within order) in
    ap G (split_at i css [] within ∙ ap (λ x. us ++ x ∷ vs) here)
    ∙ next_out (λ (m : Line). m.time) back us l rest vs
    (lines_all back (loses_before back l.time) (λ u v. later_before back l.time u v) us (all_take (LinesInOrder back) i css order)
    (before_by_place (λ ls. TimeIs (loses_before back l.time) (next_time_of ls)) i css [] (omega (arith, within)) before))
    own.0
    (lines_all back (loses_behind back l.time) (λ u v. later_behind back l.time u v) vs (all_drop (LinesInOrder back) (suc i) css order)
    (behind_by_place (λ ls. TimeIs (loses_behind back l.time) (next_time_of ls)) (suc i) css [] (λ k more less. behind k (omega (arith, more)) less)))
    ∙ ap (λ xss. l ∷ G xss) (sym (set_split css i rest within))

pub turned_twice : {A : Type 0} (back : Bool) (xs : List A) → turned back (turned back xs) ≡ xs
turned_twice false xs = refl
turned_twice true xs = reverse-reverse xs

-- By series: the first track that has a row gives it.
pub by_series_next : (back : Bool) (css : List (List Line)) (i : ℕ) (l : Line) (rest : List Line) → i < length css → get_or css i [] ≡ l ∷ rest
    → ((k : ℕ) → k < i → get_or css k [] ≡ [])
    → ordered false back (map (turned back) css) ≡ l ∷ ordered false back (map (turned back) (set css i rest))
by_series_next back [] i l rest within here before = absurd (omega arith)
by_series_next back (ls ∷ css) zero l rest within here before =
    ap (λ xs. xs ++ ordered false back (map (turned back) css)) (turned_twice back ls ∙ here)
    ∙ ap (λ xs. l ∷ (xs ++ ordered false back (map (turned back) css))) (sym (turned_twice back rest))
by_series_next back (ls ∷ css) (suc i) l rest within here before =
    let empty : turned back (turned back ls) ≡ [] = turned_twice back ls ∙ before zero (omega arith) in
    let H = λ (xss : List (List Line)). ordered false back (map (turned back) xss) in
    ap (λ xs. xs ++ H css) empty
    ∙ by_series_next back css i l rest (omega arith) here (λ k less. before (suc k) (omega (arith, less)))
    ∙ ap (λ xs. l ∷ (xs ++ H (set css i rest))) (sym empty)

-- ---- Rows that are dropped, and rows that are kept

pub paged_skip : {A : Type 0} (n : ℕ) (limit : Option ℕ) (x : A) (xs : List A) → paged (suc n) limit (x ∷ xs) ≡ paged n limit xs
paged_skip n limit x xs = refl

pub paged_keep : {A : Type 0} (n : ℕ) (x : A) (xs : List A) → paged 0 (Some (suc n)) (x ∷ xs) ≡ x ∷ paged 0 (Some n) xs
paged_keep n x xs = refl

pub paged_all : {A : Type 0} (x : A) (xs : List A) → paged 0 None (x ∷ xs) ≡ x ∷ paged 0 None xs
paged_all x xs = refl

pub paged_end : {A : Type 0} (n : ℕ) (xs : List A) → paged n (Some 0) xs ≡ []
paged_end n xs = refl

-- What is selected of a list, by its parts and by its ends.
use Rattle.std.proofs.Common.{◌≡◌, ℕ, ◌^◌, ◌<◌, ◌≤◌, Bool, true, false, List, [], ◌∷◌, ◌++◌, refl, ap, ap₂, arith}
use Rattle.std.specs.Prelude.{◌&&◌, if◌then◌else◌}
use Rattle.std.specs.List.{filter, AllByRecursion}
use Rattle.std.proofs.lemmas.Bool.Decides.{nat_tests}
use Rattle.std.proofs.lemmas.List.Elements.{filter-append}
use Rattle.ak_base.proofs.Histories.{history_least}
use Rattle.ak_base.specs.declared.point.Point.{Point}
use Rattle.ak_base.specs.Points.{IsHistory, IsHistoryFrom, last_ts_from}
use Rattle.ak_base.specs.declared.filter.Filter.{Filter}
use Rattle.ak_base.specs.declared.range.Range.{Range}
use Rattle.ak_select.specs.declared.window.Window.{Window}
use Rattle.ak_base.specs.Selections.{selected, range_has, filter_has, IsOpen}
use Rattle.ak_select.specs.Windows.{chosen, is_within}
use Rattle.ak_summary.specs.Folds.{summary_of}

-- ---- Ends of a history

pub last_append : (t : ℕ) (ps qs : List Point) → last_ts_from t (ps ++ qs) ≡ last_ts_from (last_ts_from t ps) qs
last_append t [] qs = refl
last_append t (p ∷ ps) qs = last_append p.ts ps qs

pub last_least : (t : ℕ) (ps : List Point) → IsHistoryFrom t ps → t ≤ last_ts_from t ps
last_least t [] h = omega arith
last_least t (p ∷ ps) h = omega (arith, h.0, last_least p.ts ps h.1)

pub history_front : (t : ℕ) (ps qs : List Point) → IsHistoryFrom t (ps ++ qs) → IsHistoryFrom t ps
history_front t [] qs h = tt
history_front t (p ∷ ps) qs h = (h.0, history_front p.ts ps qs h.1)

pub history_rest : (t : ℕ) (ps qs : List Point) → IsHistoryFrom t (ps ++ qs) → IsHistoryFrom (last_ts_from t ps) qs
history_rest t [] qs h = h
history_rest t (p ∷ ps) qs h = history_rest p.ts ps qs h.1

-- the summary of a list begins with its first point and ends with its last
pub begin_is : (p : Point) (ps : List Point) → (summary_of (p ∷ ps)).begin ≡ p.ts
begin_is p [] = refl
begin_is p (q ∷ ps) = refl

pub end_is : (p : Point) (ps : List Point) → (summary_of (p ∷ ps)).end ≡ last_ts_from p.ts ps
end_is p [] = refl
end_is p (q ∷ ps) = end_is q ps

-- no point of a history is behind its end
pub history_most : (t : ℕ) (ps : List Point) → IsHistoryFrom t ps → AllByRecursion (λ p. p.ts ≤ last_ts_from t ps) ps
history_most t [] h = tt
history_most t (p ∷ ps) h = (last_least p.ts ps h.1, history_most p.ts ps h.1)

-- ---- Selections

filter_same : (p q : Point → Bool) (ps : List Point) → AllByRecursion (λ x. p x ≡ q x) ps → filter p ps ≡ filter q ps
filter_same p q [] same = refl
filter_same p q (x ∷ ps) same = ap₂ (λ (b : Bool) (ys : List Point). if b then x ∷ ys else ys) same.0 (filter_same p q ps same.1)

filter_none : (p : Point → Bool) (ps : List Point) → AllByRecursion (λ x. p x ≡ false) ps → filter p ps ≡ []
filter_none p [] none = refl
filter_none p (x ∷ ps) none = ap₂ (λ (b : Bool) (ys : List Point). if b then x ∷ ys else ys) none.0 (filter_none p ps none.1)

filter_all : (p : Point → Bool) (ps : List Point) → AllByRecursion (λ x. p x ≡ true) ps → filter p ps ≡ ps
filter_all p [] all = refl
filter_all p (x ∷ ps) all = ap₂ (λ (b : Bool) (ys : List Point). if b then x ∷ ys else ys) all.0 (filter_all p ps all.1)

every : {P Q : Point → Type 0} → ((p : Point) → P p → Q p) → (ps : List Point) → AllByRecursion P ps → AllByRecursion Q ps
every follows [] all = tt
every follows (p ∷ ps) all = (follows p all.0, every follows ps all.1)

both : (P Q : Point → Type 0) → (ps : List Point) → AllByRecursion P ps → AllByRecursion Q ps → AllByRecursion (λ p. P p × Q p) ps
both P Q [] one two = tt
both P Q (p ∷ ps) one two = ((one.0, two.0), both P Q ps one.1 two.1)

pub selected_chosen : (w : Window) (r : Range) (f : Filter) (ps : List Point) → ((ts : ℕ) → ts < 2 ^ 64 → is_within w ts ≡ range_has r ts)
    → AllByRecursion (λ p. p.ts < 2 ^ 64) ps → chosen w f ps ≡ selected r f ps
selected_chosen w r f ps same each =
    filter_same (λ (p : Point). is_within w p.ts && filter_has f p.value) (λ (p : Point). range_has r p.ts && filter_has f p.value) ps
    (every (λ p small. ap (λ (b : Bool). b && filter_has f p.value) (same p.ts small)) ps each)

-- with no filter every value passes
open_has : (f : Filter) (v : _) → IsOpen f → filter_has f v ≡ true
open_has f v is = rw (is.gt, is.ge, is.lt, is.le) refl

inside : (w : Window) (ts : ℕ) → w.least ≤ ts → ts ≤ w.most → is_within w ts ≡ true
inside w ts from to = grind (arith, nat_tests)

early : (w : Window) (ts : ℕ) → ts < w.least → is_within w ts ≡ false
early w ts before = grind (arith, nat_tests)

late : (w : Window) (ts : ℕ) → w.most < ts → is_within w ts ≡ false
late w ts behind = grind (arith, nat_tests)

no_value : (f : Filter) (v : _) (b : Bool) → b ≡ false → (b && filter_has f v) ≡ false
no_value f v b is = rw is refl

pub chosen_early : (w : Window) (f : Filter) (p : Point) (ps : List Point) → IsHistory (p ∷ ps) → last_ts_from p.ts ps < w.least → chosen w f (p ∷ ps) ≡ []
chosen_early w f p ps h before = filter_none (λ (q : Point). is_within w q.ts && filter_has f q.value) (p ∷ ps)
    (every (λ q most. no_value f q.value (is_within w q.ts) (early w q.ts (omega (arith, most, before)))) (p ∷ ps) (history_most 0 (p ∷ ps) h))

pub chosen_late : (w : Window) (f : Filter) (p : Point) (ps : List Point) → IsHistory (p ∷ ps) → w.most < p.ts → chosen w f (p ∷ ps) ≡ []
chosen_late w f p ps h behind = filter_none (λ (q : Point). is_within w q.ts && filter_has f q.value) (p ∷ ps) (
  no_value f p.value (is_within w p.ts) (late w p.ts behind),
  every (λ q least. no_value f q.value (is_within w q.ts) (late w q.ts (omega (arith, least, behind)))) ps (history_least p.ts ps h.1),
)

pub chosen_all : (w : Window) (f : Filter) (p : Point) (ps : List Point) → IsOpen f → IsHistory (p ∷ ps) → w.least ≤ p.ts → last_ts_from p.ts ps ≤ w.most → chosen w f (p ∷ ps) ≡ p ∷ ps
chosen_all w f p ps open_is h from to =
    let most = history_most 0 (p ∷ ps) h in
    let each : AllByRecursion (λ (q : Point). (p.ts ≤ q.ts) × (q.ts ≤ last_ts_from p.ts ps)) (p ∷ ps) =
    ((omega arith, most.0), both (λ (q : Point). p.ts ≤ q.ts) (λ (q : Point). q.ts ≤ last_ts_from p.ts ps) ps (history_least p.ts ps h.1) most.1) in
    filter_all (λ (q : Point). is_within w q.ts && filter_has f q.value) (p ∷ ps)
    (every (λ q ends. ap₂ (λ (b c : Bool). b && c) (inside w q.ts (omega (arith, ends.0, from)) (omega (arith, ends.1, to))) (open_has f q.value open_is)) (p ∷ ps) each)

-- the same of a stretch by its summary
pub chosen_whole_is : (w : Window) (f : Filter) (ps : List Point) → IsOpen f → IsHistory ps → w.least ≤ (summary_of ps).begin → (summary_of ps).end ≤ w.most → chosen w f ps ≡ ps
chosen_whole_is w f [] open_is h from to = refl
chosen_whole_is w f (p ∷ ps) open_is h from to = chosen_all w f p ps open_is h (omega (arith, begin_is p ps, from)) (omega (arith, end_is p ps, to))

pub chosen_early_is : (w : Window) (f : Filter) (ps : List Point) → IsHistory ps → (summary_of ps).end < w.least → chosen w f ps ≡ []
chosen_early_is w f [] h before = refl
chosen_early_is w f (p ∷ ps) h before = chosen_early w f p ps h (omega (arith, end_is p ps, before))

pub chosen_late_is : (w : Window) (f : Filter) (ps : List Point) → IsHistory ps → w.most < (summary_of ps).begin → chosen w f ps ≡ []
chosen_late_is w f [] h behind = refl
chosen_late_is w f (p ∷ ps) h behind = chosen_late w f p ps h (omega (arith, begin_is p ps, behind))

pub chosen_append : (w : Window) (f : Filter) (ps qs : List Point) → chosen w f (ps ++ qs) ≡ chosen w f ps ++ chosen w f qs
chosen_append w f ps qs = filter-append (λ (p : Point). is_within w p.ts && filter_has f p.value) ps qs

-- points that are all before the window, or all behind it
pub chosen_before : (w : Window) (f : Filter) (ps : List Point) → AllByRecursion (λ p. p.ts < w.least) ps → chosen w f ps ≡ []
chosen_before w f ps each = filter_none (λ (q : Point). is_within w q.ts && filter_has f q.value) ps (every (λ q before. no_value f q.value (is_within w q.ts) (early w q.ts before)) ps each)

pub chosen_behind : (w : Window) (f : Filter) (ps : List Point) → AllByRecursion (λ p. w.most < p.ts) ps → chosen w f ps ≡ []
chosen_behind w f ps each = filter_none (λ (q : Point). is_within w q.ts && filter_has f q.value) ps (every (λ q behind. no_value f q.value (is_within w q.ts) (late w q.ts behind)) ps each)

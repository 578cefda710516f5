-- The leaves that a walk has still to come to.
use Rattle.std.proofs.Common.{◌≡◌, ◌∙◌, ℕ, zero, suc, ◌+◌, ◌-◌, ◌^◌, ◌<◌, ◌≤◌, Bool, true, false, List, [], ◌∷◌, ◌++◌, length, take, drop, get_or, refl, sym, ap, ap₂, subst, arith, append_assoc, append-nil, length-append}
use Rattle.std.proofs.Common.{inl, inr}
use Rattle.std.proofs.lemmas.List.{take_all}
use Rattle.std.proofs.lemmas.Bool.{cases_lt}
use Rattle.std.specs.List.{AllByRecursion}
use Rattle.ak_base.specs.Points.{IsHistory, IsHistoryFrom, last_ts_from}
use Rattle.ak_base.specs.declared.point.Point.{Point}
use Rattle.ak_base.proofs.Histories.{history_least}
use Rattle.ak_scene.proofs.InScene.{double_none, between_history, all_between}
use Rattle.ak_scene.specs.Scenes.{IsFit}
use Rattle.ak_scene.proofs.Links.{moved}
use Rattle.ak_image.specs.Planted.{IsPlanted}
use Rattle.std.specs.Option.{is_some, MatchOption}
use Rattle.std.proofs.Common.{Option, Some, None}
use Rattle.ak_image.specs.Blocks.{Seen}
use Rattle.ak_image.specs.Trees.{points_between}
use Rattle.ak_image.proofs.Numbered.{between_join, between_before, between_other, between_one}
use Rattle.ak_levels.specs.Pending.{Lists}
use Rattle.ak_select.proofs.Chosen.{history_rest, history_front, history_most, end_is, chosen_append, chosen_before, chosen_behind}
use Rattle.ak_base.specs.Selections.{selected, range_has}
use Rattle.ak_select.specs.Windows.{chosen, is_within}
use Rattle.ak_base.specs.declared.range.Range.{Range}
use Rattle.ak_scene.proofs.Levels.{all_selected}
use Rattle.ak_base.specs.declared.filter.Filter.{Filter}
use Rattle.ak_select.specs.declared.window.Window.{Window}
use Rattle.ak_summary.specs.Folds.{summary_of}
use Rattle.ak_volumes.specs.Ordinals.{Ordinals}
use Rattle.ak_walk.proofs.Early.{Early, every}
use Rattle.ak_walk.proofs.Ahead.{begun_not}
use Rattle.ak_walk.specs.Walking.{with_open, at_hand, IsAhead, IsPassed, blank_point}
use Rattle.ak_walk.specs.declared.walking.Walk.{Walk}
use Rattle.ak_world.specs.Leaves.{Leaf, points_of}
use Rattle.ak_world.specs.Valid.{AreNumbered}
use Rattle.ak_world.specs.Views.{none}

-- what stands behind a history that ends no earlier than a time isn't earlier
pub behind_end : (x : ℕ) (ps qs : List Point) → 0 < x → IsHistory (ps ++ qs) → x ≤ (summary_of ps).end → AllByRecursion (λ p. x ≤ p.ts) qs
behind_end x [] qs some h end = absurd (omega (arith, some, end))
behind_end x (p ∷ ps) qs some h end =
    every (λ q least. omega (arith, least, end_is p ps, end)) qs (history_least (last_ts_from 0 (p ∷ ps)) qs (history_rest 0 (p ∷ ps) qs h))

numbered_open : (first n : ℕ) (leaves : List Leaf) (written : List Point) → first + length leaves ≡ n → AreNumbered first leaves → AreNumbered first (with_open leaves n written)
numbered_open first n [] written count are = (omega (arith, count), tt)
numbered_open first n (x ∷ leaves) written count are = (are.0, numbered_open (suc first) n leaves written (omega (arith, count)) are.1)

points_open : (n : ℕ) (leaves : List Leaf) (written : List Point) → points_of (with_open leaves n written) ≡ points_of leaves ++ written
points_open n [] written = append-nil written
points_open n (x ∷ leaves) written = ap (λ (ps : List Point). x.points ++ ps) (points_open n leaves written) ∙ sym (append_assoc x.points (points_of leaves) written)

history_lower : (t u : ℕ) (ps : List Point) → t ≤ u → IsHistoryFrom u ps → IsHistoryFrom t ps
history_lower t u [] less h = tt
history_lower t u (p ∷ ps) less h = (omega (arith, less, h.0), h.1)

before_first : (x : ℕ) (ps qs : List Point) → 0 < length qs → (get_or qs 0 blank_point).ts < x → IsHistory (ps ++ qs) → Early x ps
before_first x ps [] some first h = absurd (omega (arith, some))
before_first x ps (q ∷ qs) some first h = every (λ p most. omega (arith, most, (history_rest 0 ps (q ∷ qs) h).0, first)) ps (history_most 0 ps (history_front 0 ps (q ∷ qs) h))

module _ (o : Ordinals) (seen : Seen) (series n : ℕ) (v : Lists) (leaves : List Leaf) (written : List Point) (fit : IsFit o seen series n v leaves written) where
  count : fit.scene.chain.first + length leaves ≡ n
  count = omega (arith, fit.scene.chain.count, fit.count_is)

  numbers : AreNumbered fit.scene.chain.first (with_open leaves n written)
  numbers = numbered_open fit.scene.chain.first n leaves written count fit.scene.chain.numbers

  pub all_joins : (i j k : ℕ) → i ≤ j → j ≤ k → points_between (with_open leaves n written) i j ++ points_between (with_open leaves n written) j k ≡ points_between (with_open leaves n written) i k
  all_joins i j k h g = between_join fit.scene.chain.first (with_open leaves n written) i j k numbers h g

  pub all_gone : (i j : ℕ) → j ≤ fit.scene.known.leaves - length leaves → points_between (with_open leaves n written) i j ≡ []
  all_gone i j past = between_before fit.scene.chain.first (with_open leaves n written) i j numbers (omega (arith, past, fit.scene.chain.count))

  pub all_history : (i j : ℕ) → IsHistory (points_between (with_open leaves n written) i j)
  all_history i j = between_history 0 (with_open leaves n written) i j (subst IsHistory (sym (points_open n leaves written)) fit.history)

  -- of the closed ones alone
  pub all_closed : (i j : ℕ) → j ≤ n → points_between (with_open leaves n written) i j ≡ points_between leaves i j
  all_closed i j below = between_other leaves (record { number = n; address = none; points = written }) i j below

  -- all of them
  pub all_points : points_between (with_open leaves n written) 0 (n + 1) ≡ points_of leaves ++ written
  all_points = all_between fit.scene.chain.first (with_open leaves n written) 0 (n + 1) numbers (omega arith)
      (omega (arith, count, length-append leaves (record { number = n; address = none; points = written } ∷ []))) ∙ points_open n leaves written

  same_none : (a : ℕ) → points_between (with_open leaves n written) a a ≡ []
  same_none a = double_none (points_between (with_open leaves n written) a a) (all_joins a a a (omega arith) (omega arith))

  -- what comes before the first leaf that ends no earlier than the window begins isn't chosen
  pub chosen_from : (w : Window) (f : Filter) (m : ℕ) → m ≤ n → Early w.least (points_between leaves 0 m) → chosen w f (points_between (with_open leaves n written) 0 (n + 1)) ≡ chosen w f (points_between (with_open leaves n written) m (n + 1))
  chosen_from w f m most before =
      let all = with_open leaves n written in
      sym (ap (chosen w f) (all_joins 0 m (n + 1) (omega arith) (omega (arith, most)))) ∙ chosen_append w f (points_between all 0 m) (points_between all m (n + 1))
      ∙ ap (λ (ps : List Point). ps ++ chosen w f (points_between all m (n + 1))) (chosen_before w f (points_between all 0 m) (subst (Early w.least) (sym (all_closed 0 m most)) before))

  -- and what comes behind the first leaf that ends behind the window isn't either
  pub chosen_to : (w : Window) (f : Filter) (m : ℕ) → m ≤ n → (m < n → suc w.most ≤ (summary_of (points_between leaves m (suc m))).end)
      → chosen w f (points_between (with_open leaves n written) 0 (n + 1)) ≡ chosen w f (points_between (with_open leaves n written) 0 (m + 1))
  chosen_to w f m most behind = elim (cases_lt m n) [
    | inr past ↦ ap (λ (e : ℕ). chosen w f (points_between (with_open leaves n written) 0 e)) (omega (arith, most, past))
    | inl below ↦
        let all = with_open leaves n written in
        let own : points_between all m (m + 1) ≡ points_between leaves m (suc m) = all_closed m (m + 1) (omega (arith, below)) ∙ ap (points_between leaves m) (omega arith) in
        let history : IsHistory (points_between all m (m + 1) ++ points_between all (m + 1) (n + 1)) =
        subst IsHistory (sym (all_joins m (m + 1) (n + 1) (omega arith) (omega (arith, most)))) (all_history m (n + 1)) in
        let later = behind_end (suc w.most) (points_between all m (m + 1)) (points_between all (m + 1) (n + 1)) (omega arith) history (omega (arith, behind below, ap (λ (ps : List Point). (summary_of ps).end) own)) in
        sym (ap (chosen w f) (all_joins 0 (m + 1) (n + 1) (omega arith) (omega (arith, most)))) ∙ chosen_append w f (points_between all 0 (m + 1)) (points_between all (m + 1) (n + 1))
        ∙ ap (λ (ps : List Point). chosen w f (points_between all 0 (m + 1)) ++ ps) (chosen_behind w f (points_between all (m + 1) (n + 1)) (every (λ q is. omega (arith, is)) (points_between all (m + 1) (n + 1)) later))
        ∙ append-nil (chosen w f (points_between all 0 (m + 1)))
  ]

  -- ---- A walk that begins

  pub begins_on : (low m : ℕ) (w : Walk) (rest : List Point) → w.begun ≡ true → w.back ≡ false → w.left ≡ n + 1 - m → m ≤ n → low ≤ m → at_hand w written ≡ [] → rest ≡ chosen w.window w.filter (points_between (with_open leaves n written) 0 (n + 1))
      → Early w.window.least (points_between leaves 0 m) → IsAhead low n leaves written w rest
  begins_on low m w rest begun on left most from none is before =
      let all = with_open leaves n written in
      let place : n + 1 - w.left ≡ m = omega (arith, left, most) in
      let behind : points_between all (n + 1 - w.left) (n + 1) ≡ points_between all m (n + 1) = ap (λ (i : ℕ). points_between all i (n + 1)) place in
      record {
        fresh = λ fresh. absurd (begun_not w.begun begun fresh);
        forward = λ b f. record {
          few = omega (arith, left);
          alive = λ some. omega (arith, place, from);
          history = subst IsHistory (sym (ap₂ (λ (xs ys : List Point). xs ++ ys) none behind)) (all_history m (n + 1));
          rest_is = is ∙ chosen_from w.window w.filter m most before
              ∙ sym (ap₂ (λ (xs ys : List Point). chosen w.window w.filter (drop w.at xs) ++ chosen w.window w.filter ys) none behind ∙ ap (λ (xs : List Point). chosen w.window w.filter xs ++ chosen w.window w.filter (points_between all m (n + 1))) (drop_nil w.at));
        };
        backward = λ b f. absurd (begun_not w.back f on);
      }
    where
      drop_nil : (i : ℕ) → drop {A = Point} i [] ≡ []
      drop_nil zero = refl
      drop_nil (suc i) = refl

  pub begins_back : (low m : ℕ) (w : Walk) (rest : List Point) → w.begun ≡ true → w.back ≡ true → w.left ≡ m + 1 → m ≤ n → at_hand w written ≡ [] → rest ≡ chosen w.window w.filter (points_between (with_open leaves n written) 0 (n + 1))
      → (m < n → suc w.window.most ≤ (summary_of (points_between leaves m (suc m))).end) → IsAhead low n leaves written w rest
  begins_back low m w rest begun back left most none is behind =
      let all = with_open leaves n written in
      let before : points_between all 0 w.left ≡ points_between all 0 (m + 1) = ap (points_between all 0) left in
      record {
        fresh = λ fresh. absurd (begun_not w.begun begun fresh);
        forward = λ b f. absurd (begun_not w.back back f);
        backward = λ b f. record {
          few = omega (arith, left, most);
          history = subst IsHistory (sym (ap₂ (λ (xs ys : List Point). xs ++ ys) before none ∙ append-nil (points_between all 0 (m + 1)))) (all_history 0 (m + 1));
          rest_is = is ∙ chosen_to w.window w.filter m most behind
              ∙ sym (ap₂ (λ (xs ys : List Point). chosen w.window w.filter xs ++ chosen w.window w.filter (take w.at ys)) before none ∙ ap (λ (ys : List Point). chosen w.window w.filter (points_between all 0 (m + 1)) ++ chosen w.window w.filter ys) (take_nil w.at)
              ∙ append-nil (chosen w.window w.filter (points_between all 0 (m + 1))));
        };
      }
    where
      take_nil : (i : ℕ) → take {A = Point} i [] ≡ []
      take_nil zero = refl
      take_nil (suc i) = refl

  -- ---- A walk that goes on

  -- the points of the leaf of a number
  pub own_open : points_between (with_open leaves n written) n (n + 1) ≡ written
  own_open = ap (points_between (with_open leaves n written) n) (omega arith) ∙ between_one fit.scene.chain.first leaves (record { number = n; address = none; points = written }) [] numbers

  pub own_closed : (i : ℕ) → i < n → points_between (with_open leaves n written) i (i + 1) ≡ points_between leaves i (suc i)
  own_closed i below = all_closed i (i + 1) (omega (arith, below)) ∙ ap (points_between leaves i) (omega arith)

  pub loads_on : (low i : ℕ) (w v : Walk) (rest : List Point) → w.begun ≡ true → w.back ≡ false → 0 < w.left → IsAhead low n leaves written w rest → IsPassed w written
      → v.begun ≡ true → v.back ≡ false → v.window ≡ w.window → v.filter ≡ w.filter → v.left ≡ w.left - 1 → v.at ≡ 0 → i ≡ n + 1 - w.left → at_hand v written ≡ points_between (with_open leaves n written) i (i + 1)
      → IsAhead low n leaves written v rest
  loads_on low i w v rest begun on some ahead passed begun_v on_v window filter left at place hand =
      let all = with_open leaves n written in
      let old = ahead.forward begun on in
      let next : n + 1 - v.left ≡ i + 1 = omega (arith, left, place, some, old.few) in
      let behind : points_between all (n + 1 - v.left) (n + 1) ≡ points_between all (i + 1) (n + 1) = ap (λ (j : ℕ). points_between all j (n + 1)) next in
      let whole : points_between all i (i + 1) ++ points_between all (i + 1) (n + 1) ≡ points_between all i (n + 1) = all_joins i (i + 1) (n + 1) (omega arith) (omega (arith, place, some, old.few)) in
      let before : points_between all (n + 1 - w.left) (n + 1) ≡ points_between all i (n + 1) = ap (λ (j : ℕ). points_between all j (n + 1)) (sym place) in
      let parts : chosen w.window w.filter (points_between all i (n + 1)) ≡ chosen w.window w.filter (points_between all i (i + 1)) ++ chosen w.window w.filter (points_between all (i + 1) (n + 1)) =
      ap (chosen w.window w.filter) (sym whole) ∙ chosen_append w.window w.filter (points_between all i (i + 1)) (points_between all (i + 1) (n + 1)) in
      record {
        fresh = λ fresh. absurd (begun_not v.begun begun_v fresh);
        forward = λ b f. record {
          few = omega (arith, left, old.few);
          alive = λ more. omega (arith, next, place, old.alive some);
          history = subst IsHistory (sym (ap₂ (λ (xs ys : List Point). xs ++ ys) hand behind ∙ whole)) (all_history i (n + 1));
          rest_is = old.rest_is ∙ ap₂ (λ (xs ys : List Point). xs ++ chosen w.window w.filter ys) (passed.on on) before ∙ parts
              ∙ sym (ap₂ (λ (u : Window) (g : Filter). chosen u g (drop v.at (at_hand v written)) ++ chosen u g (points_between all (n + 1 - v.left) (n + 1))) window filter
              ∙ ap₂ (λ (xs ys : List Point). chosen w.window w.filter (drop v.at xs) ++ chosen w.window w.filter ys) hand behind
              ∙ ap (λ (j : ℕ). chosen w.window w.filter (drop j (points_between all i (i + 1))) ++ chosen w.window w.filter (points_between all (i + 1) (n + 1))) at);
        };
        backward = λ b f. absurd (begun_not v.back f on_v);
      }

  pub loads_back : (low i : ℕ) (w v : Walk) (rest : List Point) → w.begun ≡ true → w.back ≡ true → 0 < w.left → IsAhead low n leaves written w rest → IsPassed w written
      → v.begun ≡ true → v.back ≡ true → v.window ≡ w.window → v.filter ≡ w.filter → v.left ≡ w.left - 1 → v.at ≡ length (at_hand v written) → i ≡ w.left - 1 → at_hand v written ≡ points_between (with_open leaves n written) i (i + 1)
      → IsAhead low n leaves written v rest
  loads_back low i w v rest begun back some ahead passed begun_v back_v window filter left at place hand =
      let all = with_open leaves n written in
      let old = ahead.backward begun back in
      let next : v.left ≡ i = omega (arith, left, place) in
      let before : points_between all 0 v.left ≡ points_between all 0 i = ap (points_between all 0) next in
      let whole : points_between all 0 i ++ points_between all i (i + 1) ≡ points_between all 0 (i + 1) = all_joins 0 i (i + 1) (omega arith) (omega arith) in
      let was : points_between all 0 w.left ≡ points_between all 0 (i + 1) = ap (points_between all 0) (omega (arith, place, some)) in
      let parts : chosen w.window w.filter (points_between all 0 (i + 1)) ≡ chosen w.window w.filter (points_between all 0 i) ++ chosen w.window w.filter (points_between all i (i + 1)) =
      ap (chosen w.window w.filter) (sym whole) ∙ chosen_append w.window w.filter (points_between all 0 i) (points_between all i (i + 1)) in
      record {
        fresh = λ fresh. absurd (begun_not v.begun begun_v fresh);
        forward = λ b f. absurd (begun_not v.back back_v f);
        backward = λ b f. record {
          few = omega (arith, left, old.few);
          history = subst IsHistory (sym (ap₂ (λ (xs ys : List Point). xs ++ ys) before hand ∙ whole)) (all_history 0 (i + 1));
          rest_is = old.rest_is ∙ ap₂ (λ (xs ys : List Point). chosen w.window w.filter xs ++ ys) was (passed.back back) ∙ append-nil (chosen w.window w.filter (points_between all 0 (i + 1))) ∙ parts
              ∙ sym (ap₂ (λ (u : Window) (g : Filter). chosen u g (points_between all 0 v.left) ++ chosen u g (take v.at (at_hand v written))) window filter
              ∙ ap (λ (ys : List Point). chosen w.window w.filter (points_between all 0 v.left) ++ chosen w.window w.filter ys) (take_all v.at (at_hand v written) (omega (arith, at)))
              ∙ ap₂ (λ (xs ys : List Point). chosen w.window w.filter xs ++ chosen w.window w.filter ys) before hand);
        };
      }

  -- nothing is left
  pub none_left : (low : ℕ) (w : Walk) (rest : List Point) → w.begun ≡ true → w.left ≡ 0 → IsAhead low n leaves written w rest → IsPassed w written → rest ≡ []
  none_left low w rest begun zero_left ahead passed = go w.back refl
    where
      go : (b : Bool) → w.back ≡ b → rest ≡ []
      go false on =
          let place : n + 1 - w.left ≡ n + 1 = omega (arith, zero_left) in
          (ahead.forward begun on).rest_is ∙ ap₂ (λ (xs ys : List Point). xs ++ chosen w.window w.filter ys) (passed.on on)
          (ap (λ (j : ℕ). points_between (with_open leaves n written) j (n + 1)) place ∙ same_none (n + 1))
      go true back = (ahead.backward begun back).rest_is ∙ ap₂ (λ (xs ys : List Point). chosen w.window w.filter xs ++ ys)
          (ap (points_between (with_open leaves n written) 0) zero_left ∙ same_none 0) (passed.back back)

  pub stopped : (low : ℕ) (v : Walk) (rest : List Point) → v.begun ≡ true → v.left ≡ 0 → rest ≡ [] → IsPassed v written → IsHistory (at_hand v written) → IsAhead low n leaves written v rest
  stopped low v rest begun zero_left none_is passed history =
      let all = with_open leaves n written in
      let place : n + 1 - v.left ≡ n + 1 = omega (arith, zero_left) in
      let behind : points_between all (n + 1 - v.left) (n + 1) ≡ [] = ap (λ (j : ℕ). points_between all j (n + 1)) place ∙ same_none (n + 1) in
      let before : points_between all 0 v.left ≡ [] = ap (points_between all 0) zero_left ∙ same_none 0 in
      record {
        fresh = λ fresh. absurd (begun_not v.begun begun fresh);
        forward = λ b on. record {
          few = omega (arith, zero_left);
          alive = λ more. absurd (omega (arith, zero_left, more));
          history = subst IsHistory (sym (ap (λ (ys : List Point). at_hand v written ++ ys) behind ∙ append-nil (at_hand v written))) history;
          rest_is = none_is ∙ sym (ap₂ (λ (xs ys : List Point). xs ++ chosen v.window v.filter ys) (passed.on on) behind);
        };
        backward = λ b back. record {
          few = omega (arith, zero_left);
          history = subst IsHistory (sym (ap (λ (xs : List Point). xs ++ at_hand v written) before)) history;
          rest_is = none_is ∙ sym (ap₂ (λ (xs ys : List Point). chosen v.window v.filter xs ++ ys) before (passed.back back));
        };
      }

  -- what is behind the range isn't chosen
  pub past_none : (low : ℕ) (w : Walk) (rest : List Point) → w.begun ≡ true → IsAhead low n leaves written w rest → IsPassed w written
      → (w.back ≡ false → w.window.most < last_ts_from 0 (at_hand w written))
      → (w.back ≡ true → (0 < length (at_hand w written)) × ((get_or (at_hand w written) 0 blank_point).ts < w.window.least)) → rest ≡ []
  past_none low w rest begun ahead passed behind before = go w.back refl
    where
      go : (b : Bool) → w.back ≡ b → rest ≡ []
      go false on =
          let old = ahead.forward begun on in
          let far : List Point = points_between (with_open leaves n written) (n + 1 - w.left) (n + 1) in
          let each = history_least (last_ts_from 0 (at_hand w written)) far (history_rest 0 (at_hand w written) far old.history) in
          old.rest_is ∙ ap₂ (λ (xs ys : List Point). xs ++ ys) (passed.on on) (chosen_behind w.window w.filter far (every (λ q is. omega (arith, is, behind on)) far each))
      go true back =
          let old = ahead.backward begun back in
          let near : List Point = points_between (with_open leaves n written) 0 w.left in
          old.rest_is ∙ ap₂ (λ (xs ys : List Point). xs ++ ys) (chosen_before w.window w.filter near (before_first w.window.least near (at_hand w written) (before back).0 (before back).1 old.history)) (passed.back back)

  pub hand_history : (low : ℕ) (w : Walk) (rest : List Point) → w.begun ≡ true → IsAhead low n leaves written w rest → IsHistory (at_hand w written)
  hand_history low w rest begun ahead = go w.back refl
    where
      go : (b : Bool) → w.back ≡ b → IsHistory (at_hand w written)
      go false on = history_front 0 (at_hand w written) (points_between (with_open leaves n written) (n + 1 - w.left) (n + 1)) (ahead.forward begun on).history
      go true back = history_lower 0 (last_ts_from 0 (points_between (with_open leaves n written) 0 w.left)) (at_hand w written) (omega arith)
          (history_rest 0 (points_between (with_open leaves n written) 0 w.left) (at_hand w written) (ahead.backward begun back).history)

  -- where the next leaf is dead nothing is left
  pub dead_none : (low i : ℕ) (w : Walk) (rest : List Point) → low ≡ fit.scene.known.leaves - length leaves → w.begun ≡ true → 0 < w.left → IsAhead low n leaves written w rest → IsPassed w written
      → (w.back ≡ false → i ≡ n + 1 - w.left) → (w.back ≡ true → i ≡ w.left - 1) → suc i ≤ low → rest ≡ []
  dead_none low i w rest low_is begun some ahead passed on_place back_place dead = go w.back refl
    where
      go : (b : Bool) → w.back ≡ b → rest ≡ []
      go false on = absurd (omega (arith, (ahead.forward begun on).alive some, on_place on, dead))
      go true back =
          let gone : points_between (with_open leaves n written) 0 w.left ≡ [] = all_gone 0 w.left (omega (arith, back_place back, some, dead, low_is)) in
          (ahead.backward begun back).rest_is ∙ ap₂ (λ (xs ys : List Point). chosen w.window w.filter xs ++ ys) gone (passed.back back)

  -- in either direction
  pub loaded : (low i : ℕ) (w v : Walk) (rest : List Point) → w.begun ≡ true → 0 < w.left → IsAhead low n leaves written w rest → IsPassed w written
      → v.begun ≡ true → v.back ≡ w.back → v.window ≡ w.window → v.filter ≡ w.filter → v.left ≡ w.left - 1
      → (v.back ≡ false → v.at ≡ 0) → (v.back ≡ true → v.at ≡ length (at_hand v written)) → (w.back ≡ false → i ≡ n + 1 - w.left) → (w.back ≡ true → i ≡ w.left - 1)
      → at_hand v written ≡ points_between (with_open leaves n written) i (i + 1) → IsAhead low n leaves written v rest
  loaded low i w v rest begun some ahead passed begun_v way window filter left at_on at_back place_on place_back hand = go w.back refl
    where
      go : (b : Bool) → w.back ≡ b → IsAhead low n leaves written v rest
      go false on = loads_on low i w v rest begun on some ahead passed begun_v (way ∙ on) window filter left (at_on (way ∙ on)) (place_on on) hand
      go true back = loads_back low i w v rest begun back some ahead passed begun_v (way ∙ back) window filter left (at_back (way ∙ back)) (place_back back) hand

-- where there is nothing at hand
drop_nothing : (i : ℕ) → drop {A = Point} i [] ≡ []
drop_nothing zero = refl
drop_nothing (suc i) = refl

take_nothing : (i : ℕ) → take {A = Point} i [] ≡ []
take_nothing zero = refl
take_nothing (suc i) = refl

pub nothing_passed : (w : Walk) (written : List Point) → at_hand w written ≡ [] → IsPassed w written
nothing_passed w written none = record {
  on = λ on. ap (λ (ps : List Point). chosen w.window w.filter (drop w.at ps)) none ∙ ap (chosen w.window w.filter) (drop_nothing w.at);
  back = λ back. ap (λ (ps : List Point). chosen w.window w.filter (take w.at ps)) none ∙ ap (chosen w.window w.filter) (take_nothing w.at);
}

pub nothing_history : (ps : List Point) → ps ≡ [] → IsHistory ps
nothing_history ps none = subst IsHistory (sym none) tt

-- an entry fits as it did after reads
abbrev pub moved_fit : (o p : Ordinals) (seen other : Seen) (series n : ℕ) (v : Lists) (leaves : List Leaf) (written : List Point) → o ≡ p → seen ≡ other → IsFit o seen series n v leaves written → IsFit p other series n v leaves written
moved_fit o p seen other series n v leaves written same all fit = record {
  scene = moved o p seen other series leaves same all fit.scene;
  count_is = fit.count_is;
  base = fit.base;
  planted = subst (λ (s : Seen). IsPlanted p s series fit.scene.known leaves fit.base v) all (subst (λ (q : Ordinals). IsPlanted q seen series fit.scene.known leaves fit.base v) same fit.planted);
  history = fit.history;
}

pub is_none : {A : Type 0} (m : Option A) → is_some m ≡ false → m ≡ None
is_none None not = refl
is_none (Some x) not = absurd (cc)

pub of_none : {A N : Type 0} (S : A → Type 0) (m : Option A) → m ≡ None → MatchOption m N S → N
of_none S None is it = it
of_none S (Some x) is it = absurd (cc)

-- a walk that is made has all that is selected ahead
pub new_has_all : (o : Ordinals) (seen : Seen) (series n : ℕ) (v : Lists) (leaves : List Leaf) (written : List Point) (fit : IsFit o seen series n v leaves written) (low : ℕ) (r : Range) (w : Walk)
    → w.begun ≡ false → ((ts : ℕ) → ts < 2 ^ 64 → is_within w.window ts ≡ range_has r ts) → AllByRecursion (λ p. p.ts < 2 ^ 64) written → IsAhead low n leaves written w (selected r w.filter (points_of leaves ++ written))
new_has_all o seen series n v leaves written fit low r w fresh same small = record {
  fresh = λ is.
      sym (all_selected o seen series n v leaves written fit w.window r w.filter same n refl small)
      ∙ sym (chosen_append w.window w.filter (points_between leaves 0 n) written)
      ∙ ap (chosen w.window w.filter) (ap₂ (λ (xs ys : List Point). xs ++ ys) (sym (all_closed o seen series n v leaves written fit 0 n (omega arith))) (sym (own_open o seen series n v leaves written fit))
      ∙ all_joins o seen series n v leaves written fit 0 n (n + 1) (omega arith) (omega arith));
  forward = λ is on. absurd (begun_not w.begun is fresh);
  backward = λ is back. absurd (begun_not w.begun is fresh);
}

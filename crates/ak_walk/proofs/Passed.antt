-- A run of points that a walk passes.
use Rattle.std.proofs.Common.{◌≡◌, ◌∙◌, ℕ, zero, suc, ◌+◌, ◌-◌, ◌<◌, ◌≤◌, Bool, true, false, List, ◌++◌, length, reverse, take, drop, refl, sym, ap, ap₂, subst, arith, append_assoc, append-nil}
use Rattle.std.proofs.Math.Seq.{drop-length}
use Rattle.std.proofs.lemmas.List.{drop-drop, take-take, length-drop, length-take, length-take-le, length-reverse}
use Rattle.std.proofs.lemmas.List.Sums.{prefix_len-le-length}
use Rattle.std.specs.Prelude.{if◌then◌else◌, ◌&&◌, not}
use Rattle.std.specs.List.{prefix_len}
use Rattle.ak_base.specs.declared.point.Point.{Point}
use Rattle.ak_image.specs.Trees.{points_between}
use Rattle.ak_select.specs.Windows.{chosen}
use Rattle.ak_walk.proofs.Ahead.{begun_not}
use Rattle.ak_walk.proofs.Runs.{filter_front, filter_back}
use Rattle.ak_walk.specs.Walking.{with_open, at_hand, is_asked, IsAhead, Parts, beside, nearest, run_length}
use Rattle.ak_walk.specs.declared.walking.Walk.{Walk}
use Rattle.ak_world.specs.Leaves.{Leaf}

-- in one direction
pub beside_on : (w : Walk) → w.back ≡ false → beside w ≡ drop w.at w.leaf
beside_on w f = ap (λ (b : Bool). if b then take w.at w.leaf else drop w.at w.leaf) f

pub beside_back : (w : Walk) → w.back ≡ true → beside w ≡ take w.at w.leaf
beside_back w b = ap (λ (d : Bool). if d then take w.at w.leaf else drop w.at w.leaf) b

pub nearest_on : (w : Walk) (m : ℕ) → w.back ≡ false → nearest w m ≡ take m (drop w.at w.leaf)
nearest_on w m f = ap (λ (b : Bool). if b then drop (length (beside w) - m) (beside w) else take m (beside w)) f ∙ ap (take m) (beside_on w f)

pub nearest_back : (w : Walk) (m : ℕ) → w.back ≡ true → nearest w m ≡ drop (length (take w.at w.leaf) - m) (take w.at w.leaf)
nearest_back w m b =
    ap (λ (d : Bool). if d then drop (length (beside w) - m) (beside w) else take m (beside w)) b ∙ ap (λ (xs : List Point). drop (length xs - m) xs) (beside_back w b)

-- a run that isn't empty is of a closed leaf
run_where : (w : Walk) (begun open_leaf : Bool) (count : ℕ) → 0 < (if begun && not open_leaf then count else 0) → (begun ≡ true) × (open_leaf ≡ false)
run_where w true false count some = (refl, refl)
run_where w true true count some = absurd (omega (arith, some))
run_where w false open_leaf count some = absurd (omega (arith, some))

pub run_begun : (w : Walk) → 0 < run_length w → w.begun ≡ true
run_begun w some = (run_where w w.begun w.in_open _ some).0

pub run_closed : (w : Walk) → 0 < run_length w → w.in_open ≡ false
run_closed w some = (run_where w w.begun w.in_open _ some).1

run_less : (c : Bool) (count : ℕ) → (if c then count else 0) ≤ count
run_less true count = omega arith
run_less false count = omega arith

pub run_on : (w : Walk) → w.back ≡ false → run_length w ≤ prefix_len (is_asked w) (drop w.at w.leaf)
run_on w f =
    let same : (if w.back then reverse (beside w) else beside w) ≡ drop w.at w.leaf = ap (λ (b : Bool). if b then reverse (beside w) else beside w) f ∙ beside_on w f in
    omega (arith, run_less (w.begun && not w.in_open) (prefix_len (is_asked w) (if w.back then reverse (beside w) else beside w)), ap (prefix_len (is_asked w)) same)

pub run_back : (w : Walk) → w.back ≡ true → run_length w ≤ prefix_len (is_asked w) (reverse (take w.at w.leaf))
run_back w b =
    let same : (if w.back then reverse (beside w) else beside w) ≡ reverse (take w.at w.leaf) =
    ap (λ (d : Bool). if d then reverse (beside w) else beside w) b ∙ ap reverse (beside_back w b) in
    omega (arith, run_less (w.begun && not w.in_open) (prefix_len (is_asked w) (if w.back then reverse (beside w) else beside w)), ap (prefix_len (is_asked w)) same)

-- it is no longer than what is there
pub run_on_fits : (w : Walk) → w.back ≡ false → run_length w ≤ length (drop w.at w.leaf)
run_on_fits w f = omega (arith, run_on w f, prefix_len-le-length (is_asked w) (drop w.at w.leaf))

pub run_back_fits : (w : Walk) → w.back ≡ true → run_length w ≤ length (take w.at w.leaf)
run_back_fits w b = omega (arith, run_back w b, prefix_len-le-length (is_asked w) (reverse (take w.at w.leaf)), length-reverse (take w.at w.leaf))

-- what is lent is the run
pub nearest_is : (w : Walk) (points run : List Point) (count : ℕ) → points ≡ w.leaf → count ≡ run_length w → (w.back ≡ false → run ≡ take count (drop w.at points))
    → (w.back ≡ true → run ≡ drop (length (take w.at points) - count) (take w.at points)) → run ≡ nearest w (run_length w)
nearest_is w points run count points_are count_is on backs = pick w.back refl
  where
    pick : (b : Bool) → w.back ≡ b → run ≡ nearest w (run_length w)
    pick false f = on f ∙ ap₂ (λ (k : ℕ) (ps : List Point). take k (drop w.at ps)) count_is points_are ∙ sym (nearest_on w (run_length w) f)
    pick true b =
        backs b ∙ ap₂ (λ (k : ℕ) (ps : List Point). drop (length (take w.at ps) - k) (take w.at ps)) count_is points_are ∙ sym (nearest_back w (run_length w) b)

pub nearest_length : (w : Walk) (points run : List Point) (count : ℕ) → points ≡ w.leaf → count ≡ run_length w → (w.back ≡ false → run ≡ take count (drop w.at points))
    → (w.back ≡ true → run ≡ drop (length (take w.at points) - count) (take w.at points)) → length run ≡ run_length w
nearest_length w points run count points_are count_is on backs = ap (λ (ps : List Point). length ps) (nearest_is w points run count points_are count_is on backs) ∙ pick w.back refl
  where
    pick : (b : Bool) → w.back ≡ b → length (nearest w (run_length w)) ≡ run_length w
    pick false f = ap (λ (ps : List Point). length ps) (nearest_on w (run_length w) f) ∙ length-take-le (run_length w) (drop w.at w.leaf) (run_on_fits w f)
    pick true b =
        ap (λ (ps : List Point). length ps) (nearest_back w (run_length w) b)
        ∙ omega (arith, length-drop (length (take w.at w.leaf) - run_length w) (take w.at w.leaf), run_back_fits w b)

-- nothing is passed
pub parts_zero : (w : Walk) (rest : List Point) (b : Bool) → w.back ≡ b → Parts w.back rest (nearest w 0) rest
parts_zero w rest false f = subst (λ (d : Bool). Parts d rest (nearest w 0) rest) (sym f) (ap (λ (xs : List Point). xs ++ rest) (sym (nearest_on w 0 f)))
parts_zero w rest true b =
    subst (λ (d : Bool). Parts d rest (nearest w 0) rest) (sym b)
    (sym (ap (λ (xs : List Point). rest ++ xs) (nearest_back w 0 b ∙ ap (λ (k : ℕ). drop k (take w.at w.leaf)) (omega arith) ∙ drop-length (take w.at w.leaf)) ∙ append-nil rest))

module _ (low n : ℕ) (leaves : List Leaf) (written rest : List Point) (w : Walk) (ahead : IsAhead low n leaves written w rest) where
  hand : w.in_open ≡ false → at_hand w written ≡ w.leaf
  hand closed = ap (λ (b : Bool). if b then written else w.leaf) closed

  pass_on : (m at : ℕ) → w.begun ≡ true → w.in_open ≡ false → w.back ≡ false → m ≤ prefix_len (is_asked w) (drop w.at w.leaf) → at ≡ w.at + m
      → (later : List Point) × Parts w.back rest (nearest w m) later × IsAhead low n leaves written (record w { at = at }) later
  pass_on m at begun closed f few at_is =
      let old = ahead.forward begun f in
      let behind : List Point = chosen w.window w.filter (points_between (with_open leaves n written) (n + 1 - w.left) (n + 1)) in
      let left : List Point = chosen w.window w.filter (drop at (at_hand w written)) in
      let front : List Point = take m (drop w.at w.leaf) in
      let there : drop m (drop w.at w.leaf) ≡ drop at (at_hand w written) =
      drop-drop m w.at w.leaf ∙ ap (λ (k : ℕ). drop k w.leaf) (sym at_is) ∙ ap (drop at) (sym (hand closed)) in
      let split : chosen w.window w.filter (drop w.at (at_hand w written)) ≡ front ++ left =
      ap (λ (xs : List Point). chosen w.window w.filter (drop w.at xs)) (hand closed) ∙ filter_front (is_asked w) m (drop w.at w.leaf) few
      ∙ ap (λ (xs : List Point). front ++ chosen w.window w.filter xs) there in
      let whole : rest ≡ front ++ (left ++ behind) = old.rest_is ∙ ap (λ (xs : List Point). xs ++ behind) split ∙ append_assoc front left behind in (
        left ++ behind,
        subst (λ (b : Bool). Parts b rest (nearest w m) (left ++ behind)) (sym f) (whole ∙ ap (λ (xs : List Point). xs ++ (left ++ behind)) (sym (nearest_on w m f))),
        record {
          fresh = λ fresh. absurd (begun_not w.begun begun fresh);
          forward = λ is g. record { few = old.few; alive = old.alive; history = old.history; rest_is = refl };
          backward = λ is b. absurd (begun_not w.back b f);
        },
      )

  pass_back : (m at : ℕ) → w.begun ≡ true → w.in_open ≡ false → w.back ≡ true → m ≤ prefix_len (is_asked w) (reverse (take w.at w.leaf)) → at ≡ length (take w.at w.leaf) - m
      → (later : List Point) × Parts w.back rest (nearest w m) later × IsAhead low n leaves written (record w { at = at }) later
  pass_back m at begun closed b few at_is =
      let old = ahead.backward begun b in
      let before : List Point = chosen w.window w.filter (points_between (with_open leaves n written) 0 w.left) in
      let left : List Point = chosen w.window w.filter (take at (at_hand w written)) in
      let last : List Point = drop (length (take w.at w.leaf) - m) (take w.at w.leaf) in
      let there : take (length (take w.at w.leaf) - m) (take w.at w.leaf) ≡ take at (at_hand w written) =
      take-take (length (take w.at w.leaf) - m) w.at w.leaf (omega (arith, length-take w.at w.leaf)) ∙ ap (λ (k : ℕ). take k w.leaf) (sym at_is) ∙ ap (take at) (sym (hand closed)) in
      let split : chosen w.window w.filter (take w.at (at_hand w written)) ≡ left ++ last =
      ap (λ (xs : List Point). chosen w.window w.filter (take w.at xs)) (hand closed) ∙ filter_back (is_asked w) m (take w.at w.leaf) few
      ∙ ap (λ (xs : List Point). chosen w.window w.filter xs ++ last) there in
      let whole : rest ≡ (before ++ left) ++ last = old.rest_is ∙ ap (λ (xs : List Point). before ++ xs) split ∙ sym (append_assoc before left last) in (
        before ++ left,
        subst (λ (d : Bool). Parts d rest (nearest w m) (before ++ left)) (sym b) (whole ∙ ap (λ (xs : List Point). (before ++ left) ++ xs) (sym (nearest_back w m b))),
        record {
          fresh = λ fresh. absurd (begun_not w.begun begun fresh);
          forward = λ is f. absurd (begun_not w.back b f);
          backward = λ is c. record { few = old.few; history = old.history; rest_is = refl };
        },
      )

  -- the next so many points of the run
  pub passed_on : (m at : ℕ) → 0 < m → m ≤ run_length w → w.back ≡ false → at ≡ w.at + m
      → (later : List Point) × Parts w.back rest (nearest w m) later × IsAhead low n leaves written (record w { at = at }) later
  passed_on m at some few f at_is =
      let run : 0 < run_length w = omega (arith, some, few) in
      pass_on m at (run_begun w run) (run_closed w run) f (omega (arith, few, run_on w f)) at_is

  pub passed_back : (m at : ℕ) → 0 < m → m ≤ run_length w → w.back ≡ true → at ≡ length (take w.at w.leaf) - m
      → (later : List Point) × Parts w.back rest (nearest w m) later × IsAhead low n leaves written (record w { at = at }) later
  passed_back m at some few b at_is =
      let run : 0 < run_length w = omega (arith, some, few) in
      pass_back m at (run_begun w run) (run_closed w run) b (omega (arith, few, run_back w b)) at_is

  -- all of it
  pub run_ahead : (later : List Point) × Parts w.back rest (nearest w (run_length w)) later
  run_ahead = by_length (run_length w) refl
    where
      by_back : (b : Bool) → w.back ≡ b → (m : ℕ) → 0 < m → m ≡ run_length w → (later : List Point) × Parts w.back rest (nearest w m) later
      by_back false f m some is = let it = passed_on m (w.at + m) some (omega (arith, is)) f refl in (it.0, it.1)
      by_back true b m some is = let it = passed_back m (length (take w.at w.leaf) - m) some (omega (arith, is)) b refl in (it.0, it.1)

      by_length : (m : ℕ) → m ≡ run_length w → (later : List Point) × Parts w.back rest (nearest w (run_length w)) later
      by_length zero is = subst (λ (k : ℕ). (later : List Point) × Parts w.back rest (nearest w k) later) is (rest, parts_zero w rest w.back refl)
      by_length (suc m) is = subst (λ (k : ℕ). (later : List Point) × Parts w.back rest (nearest w k) later) is (by_back w.back refl (suc m) (omega arith) is)

-- What a walk has to give, step by step.
use Rattle.std.proofs.Common.{◌≡◌, ◌∙◌, ℕ, ◌+◌, ◌-◌, Bool, true, false, List, [], ◌∷◌, ◌++◌, take, drop, Option, Some, None, refl, sym, ap, subst, append_assoc}
use Rattle.std.specs.Option.{MatchOption}
use Rattle.ak_base.specs.declared.point.Point.{Point}
use Rattle.ak_image.specs.Trees.{points_between}
use Rattle.ak_select.specs.Windows.{chosen}
use Rattle.ak_walk.specs.Walking.{with_open, at_hand, IsAhead, Splits}
use Rattle.ak_walk.specs.declared.walking.Walk.{Walk}
use Rattle.ak_world.specs.Leaves.{Leaf}

pub begun_not : (b : Bool) → b ≡ true → b ≡ false → ⊥
begun_not b is not = cc

module _ (low n : ℕ) (leaves : List Leaf) (written rest : List Point) (w : Walk) (at : ℕ) (begun : w.begun ≡ true) (ahead : IsAhead low n leaves written w rest) where
  -- the points at hand that are looked at
  on_from : ℕ → List Point
  on_from i = chosen w.window w.filter (drop i (at_hand w written))

  back_to : ℕ → List Point
  back_to i = chosen w.window w.filter (take i (at_hand w written))

  pub take_none : (w.back ≡ false → (chosen w.window w.filter (drop w.at (at_hand w written)) ≡ []) × (chosen w.window w.filter (drop at (at_hand w written)) ≡ []))
      → (w.back ≡ true → (chosen w.window w.filter (take w.at (at_hand w written)) ≡ []) × (chosen w.window w.filter (take at (at_hand w written)) ≡ []))
      → IsAhead low n leaves written (record w { at = at }) rest
  take_none on backs = record {
    fresh = λ fresh. absurd (begun_not w.begun begun fresh);
    forward = λ is f.
        let old = ahead.forward is f in
        record {
          few = old.few;
          alive = old.alive;
          history = old.history;
          rest_is = old.rest_is ∙ ap (λ (xs : List Point). xs ++ chosen w.window w.filter (points_between (with_open leaves n written) (n + 1 - w.left) (n + 1))) ((on f).0 ∙ sym (on f).1);
        };
    backward = λ is b.
        let old = ahead.backward is b in
        record {
          few = old.few;
          history = old.history;
          rest_is = old.rest_is ∙ ap (λ (xs : List Point). chosen w.window w.filter (points_between (with_open leaves n written) 0 w.left) ++ xs) ((backs b).0 ∙ sym (backs b).1);
        };
  }

  pub take_on : (p : Point) → w.back ≡ false → chosen w.window w.filter (drop w.at (at_hand w written)) ≡ p ∷ chosen w.window w.filter (drop at (at_hand w written))
      → (later : List Point) × Splits w.back rest p later × IsAhead low n leaves written (record w { at = at }) later
  take_on p f found =
      let old = ahead.forward begun f in
      let behind : List Point = chosen w.window w.filter (points_between (with_open leaves n written) (n + 1 - w.left) (n + 1)) in (
        chosen w.window w.filter (drop at (at_hand w written)) ++ behind,
        subst (λ (b : Bool). Splits b rest p (chosen w.window w.filter (drop at (at_hand w written)) ++ behind)) (sym f) (old.rest_is ∙ ap (λ (xs : List Point). xs ++ behind) found),
        record {
          fresh = λ fresh. absurd (begun_not w.begun begun fresh);
          forward = λ is g. record { few = old.few; alive = old.alive; history = old.history; rest_is = refl };
          backward = λ is b. absurd (begun_not w.back b f);
        },
      )

  pub take_back : (p : Point) → w.back ≡ true → chosen w.window w.filter (take w.at (at_hand w written)) ≡ chosen w.window w.filter (take at (at_hand w written)) ++ p ∷ []
      → (later : List Point) × Splits w.back rest p later × IsAhead low n leaves written (record w { at = at }) later
  take_back p b found =
      let old = ahead.backward begun b in
      let before : List Point = chosen w.window w.filter (points_between (with_open leaves n written) 0 w.left) in
      let left : List Point = chosen w.window w.filter (take at (at_hand w written)) in (
        before ++ left,
        subst (λ (d : Bool). Splits d rest p (before ++ left)) (sym b) (old.rest_is ∙ ap (λ (xs : List Point). before ++ xs) found ∙ sym (append_assoc before left (p ∷ []))),
        record {
          fresh = λ fresh. absurd (begun_not w.begun begun fresh);
          forward = λ is f. absurd (begun_not w.back b f);
          backward = λ is c. record { few = old.few; history = old.history; rest_is = refl };
        },
      )

-- in either direction
pub taken : (low n : ℕ) (leaves : List Leaf) (written rest : List Point) (w : Walk) (at : ℕ) (point : Option Point) (begun : w.begun ≡ true) (ahead : IsAhead low n leaves written w rest)
    → (w.back ≡ false → MatchOption point ((chosen w.window w.filter (drop w.at (at_hand w written)) ≡ []) × (chosen w.window w.filter (drop at (at_hand w written)) ≡ []))
    (λ p. chosen w.window w.filter (drop w.at (at_hand w written)) ≡ p ∷ chosen w.window w.filter (drop at (at_hand w written))))
    → (w.back ≡ true → MatchOption point ((chosen w.window w.filter (take w.at (at_hand w written)) ≡ []) × (chosen w.window w.filter (take at (at_hand w written)) ≡ []))
    (λ p. chosen w.window w.filter (take w.at (at_hand w written)) ≡ chosen w.window w.filter (take at (at_hand w written)) ++ p ∷ []))
    → MatchOption point (IsAhead low n leaves written (record w { at = at }) rest) (λ p. (later : List Point) × Splits w.back rest p later × IsAhead low n leaves written (record w { at = at }) later)
taken low n leaves written rest w at None begun ahead on backs = take_none low n leaves written rest w at begun ahead on backs
taken low n leaves written rest w at (Some p) begun ahead on backs = go w.back refl
  where
    go : (b : Bool) → w.back ≡ b → (later : List Point) × Splits w.back rest p later × IsAhead low n leaves written (record w { at = at }) later
    go false f = take_on low n leaves written rest w at begun ahead p f (on f)
    go true b = take_back low n leaves written rest w at begun ahead p b (backs b)

-- The rows of a track of a select come in order.
use Rattle.std.proofs.Common.{◌≡◌, ◌≢◌, ℕ, ◌<◌, ◌≤◌, Bool, true, false, List, [], ◌∷◌, ◌++◌, map, refl, ap, subst, ◌∙◌, sym, arith, ◌⊎◌, inl, inr}
use Rattle.std.specs.Prelude.{flat_map, reverse}
use Rattle.std.specs.List.{AllByRecursion}
use Rattle.std.proofs.lemmas.Bool.{cases_lt}
use Rattle.ak_base.specs.declared.point.Point.{Point}
use Rattle.ak_query.specs.declared.query.Kind.TheVariants.{Select}
use Rattle.ak_rows.specs.Ahead.{comes}
use Rattle.ak_rows.specs.Answers.{merged}
use Rattle.ak_rows.specs.Coming.{coming, rising}
use Rattle.ak_rows.specs.Lines.{Line, point_line}
use Rattle.ak_rows.specs.Orders.{LinesInOrder}
use Rattle.ak_rows.specs.Sorted.{placed, in_time, turned}
use Rattle.ak_rows.specs.declared.points.Lane.{Lane}
use Rattle.ak_rows.proofs.InTime.{all_placed, placed_front, placed_behind}
use Rattle.ak_rows.proofs.Merging.{all_if, all_append, all_reverse, reverse_first}

module _ {A : Type 0} (time : A → ℕ) where
  -- times rise, or fall for a backward range
  abbrev Comes : Bool → List A → Type 0
  Comes back [] = Unit {0}
  Comes back (x ∷ xs) = AllByRecursion (λ y. comes back (time x) (time y)) xs × Comes back xs

  placed_rises : (x : A) (ys : List A) → Comes false ys → Comes false (placed time x ys)
  placed_rises x [] order = (tt, tt)
  placed_rises x (y ∷ ys) order = by (cases_lt (time y) (time x)) (placed_rises x ys order.1)
    where
      by : (time y < time x) ⊎ (time x ≤ time y) → Comes false (placed time x ys) → Comes false (placed time x (y ∷ ys))
      by (inl behind) rest =
          subst (Comes false) (sym (placed_behind time x y ys behind)) (all_placed time (λ z. time y ≤ time z) x ys (omega (arith, behind)) order.0, rest)
      by (inr front) rest =
          subst (Comes false) (sym (placed_front time x y ys front))
          ((front, all_if (λ z. time y ≤ time z) (λ z. time x ≤ time z) (λ z more. omega (arith, front, more)) ys order.0), order)

  in_time_rises : (xs : List A) → Comes false (in_time time xs)
  in_time_rises [] = tt
  in_time_rises (x ∷ xs) = placed_rises x (in_time time xs) (in_time_rises xs)

  last_falls : (xs : List A) (x : A) → Comes true xs → AllByRecursion (λ y. time x ≤ time y) xs → Comes true (xs ++ x ∷ [])
  last_falls [] x order all = (tt, tt)
  last_falls (y ∷ xs) x order all = (all_append (λ z. time z ≤ time y) xs (x ∷ []) order.0 (all.0, tt), last_falls xs x order.1 all.1)

  reverse_falls : (xs : List A) → Comes false xs → Comes true (reverse xs)
  reverse_falls [] order = tt
  reverse_falls (x ∷ xs) order =
      subst (Comes true) (sym (reverse_first x xs)) (last_falls (reverse xs) x (reverse_falls xs order.1) (all_reverse (λ y. time x ≤ time y) xs order.0))

  turned_comes : (back : Bool) (xs : List A) → Comes false xs → Comes back (turned back xs)
  turned_comes false xs order = order
  turned_comes true xs order = reverse_falls xs order

lines_rise : (track : ℕ) (ps : List Point) → Comes (λ (p : Point). p.ts) false ps → Comes (λ (l : Line). l.time) false (map (point_line track) ps)
lines_rise track [] order = tt
lines_rise track (p ∷ ps) order = (times_rise ps order.0, lines_rise track ps order.1)
  where
    times_rise : (qs : List Point) → AllByRecursion (λ (q : Point). p.ts ≤ q.ts) qs → AllByRecursion (λ (l : Line). p.ts ≤ l.time) (map (point_line track) qs)
    times_rise [] all = tt
    times_rise (q ∷ qs) all = (all.0, times_rise qs all.1)

to_lines : (back : Bool) (ls : List Line) → Comes (λ (l : Line). l.time) back ls → LinesInOrder back ls
to_lines back [] order = tt
to_lines back (l ∷ ls) order = (order.0, to_lines back ls order.1)

pub select_in_order : (back : Bool) (track : ℕ) (points : ℕ → List Point) (ls : List Lane) → LinesInOrder back (coming Select back track points ls)
select_in_order back track points ls =
    to_lines back (coming Select back track points ls)
    (turned_comes (λ (l : Line). l.time) back (map (point_line track) (merged (rising back points ls))) (lines_rise track (merged (rising back points ls)) (in_time_rises (λ (p : Point). p.ts) (flat_map (λ ps. ps) (rising back points ls)))))

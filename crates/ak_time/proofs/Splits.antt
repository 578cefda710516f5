-- Digits and what stands behind them.
use Rattle.std.proofs.Common.{◌≡◌, ℕ, zero, suc, ◌<◌, ◌≤◌, inl, inr, List, [], ◌∷◌, ◌++◌, length, get_or, take, drop, refl, ap, sym, subst, rules, arith}
use Rattle.std.specs.Char.{digit_value}
use Rattle.std.specs.Str.Parse.{AllDigits}
use Rattle.ak_time.specs.Steps.{IsUnit, ReadsStep}

abbrev pub BeginsOtherwise : List ℕ → Type 0
BeginsOtherwise [] = Unit {0}
BeginsOtherwise (c ∷ cs) = 10 ≤ digit_value c

-- the digits at the front are all of them
split_once : (ds u : List ℕ) (i : ℕ) → AllDigits 10 ds → BeginsOtherwise u → i ≤ length (ds ++ u) → AllDigits 10 (take i (ds ++ u)) → (i < length (ds ++ u) → 10 ≤ digit_value (get_or (ds ++ u) i 0))
    → (take i (ds ++ u) ≡ ds) × (drop i (ds ++ u) ≡ u)
split_once [] u zero p other within front end = (refl, refl)
split_once [] [] (suc i) p other within front end = absurd (omega arith)
split_once [] (c ∷ cs) (suc i) p other within front end = absurd (omega (arith, front.0, other))
split_once (d ∷ ds) u zero p other within front end = absurd (omega (arith, p.0, end (omega arith)))
split_once (d ∷ ds) u (suc i) p other within front end =
    let rest = split_once ds u i p.1 other (omega arith) front.1 (λ h. end (omega arith)) in
    (ap (λ xs. d ∷ xs) rest.0, rest.1)

unit_begins : (u : List ℕ) (n : ℕ) → IsUnit u n → BeginsOtherwise u
unit_begins u n (inl (e, _)) = rw e tt
unit_begins u n (inr (inl (e, _))) = rw e (search (rules, arith))
unit_begins u n (inr (inr (inl (e, _)))) = rw e (search (rules, arith))
unit_begins u n (inr (inr (inr (inl (e, _))))) = rw e (search (rules, arith))
unit_begins u n (inr (inr (inr (inr (inl (e, _)))))) = rw e (search (rules, arith))
unit_begins u n (inr (inr (inr (inr (inr (inl (e, _))))))) = rw e (search (rules, arith))
unit_begins u n (inr (inr (inr (inr (inr (inr (inl (e, _)))))))) = rw e (search (rules, arith))
unit_begins u n (inr (inr (inr (inr (inr (inr (inr (e, _)))))))) = rw e (search (rules, arith))

-- a text is digits and a unit in one way
pub step_split : (text : List ℕ) (i n : ℕ) (s : ReadsStep text n) → i ≤ length text → AllDigits 10 (take i text) → (i < length text → 10 ≤ digit_value (get_or text i 0))
    → (take i text ≡ s.digits) × (drop i text ≡ s.unit)
step_split text i n s =
    let P : List ℕ → Type 0 = λ t. i ≤ length t → AllDigits 10 (take i t) → (i < length t → 10 ≤ digit_value (get_or t i 0)) → (take i t ≡ s.digits) × (drop i t ≡ s.unit) in
    subst P (sym s.whole) (split_once s.digits s.unit i s.numeral.1 (unit_begins s.unit s.size s.known))

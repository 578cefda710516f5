-- Points in a row for which a test holds.
use Rattle.std.proofs.Common.{◌≡◌, ◌∙◌, ℕ, zero, suc, ◌+◌, ◌-◌, ◌≤◌, Bool, true, false, List, [], ◌∷◌, ◌++◌, length, reverse, take, drop, refl, sym, ap, arith, append-nil}
use Rattle.std.proofs.Math.Bool.{cond}
use Rattle.std.proofs.Math.Seq.{take-append_seam}
use Rattle.std.proofs.lemmas.List.{length-drop, length-reverse, reverse-append, reverse-reverse, take-append-drop}
use Rattle.std.proofs.lemmas.List.Elements.{filter-append}
use Rattle.std.proofs.lemmas.List.Sums.{prefix_len-le-length}
use Rattle.std.specs.Prelude.{if◌then◌else◌}
use Rattle.std.specs.List.{filter, prefix_len}

module _ {X : Type 0} (f : X → Bool) where
  -- a first element for which the test holds, and one for which it doesn't
  pub prefix_yes : (x : X) (xs : List X) → f x ≡ true → prefix_len f (x ∷ xs) ≡ 1 + prefix_len f xs
  prefix_yes x xs is = ap (λ (b : Bool). cond b (1 + prefix_len f xs) 0) is

  pub prefix_no : (x : X) (xs : List X) → f x ≡ false → prefix_len f (x ∷ xs) ≡ 0
  prefix_no x xs is = ap (λ (b : Bool). cond b (1 + prefix_len f xs) 0) is

  filter_yes : (x : X) (xs : List X) → f x ≡ true → filter f (x ∷ xs) ≡ x ∷ filter f xs
  filter_yes x xs is = ap (λ (b : Bool). if b then x ∷ filter f xs else filter f xs) is

  filter_no : (x : X) (xs : List X) → f x ≡ false → filter f (x ∷ xs) ≡ filter f xs
  filter_no x xs is = ap (λ (b : Bool). if b then x ∷ filter f xs else filter f xs) is

  -- the first of them
  pub filter_front : (n : ℕ) (xs : List X) → n ≤ prefix_len f xs → filter f xs ≡ take n xs ++ filter f (drop n xs)
  filter_front zero xs few = refl
  filter_front (suc n) [] few = absurd (omega (arith, few))
  filter_front (suc n) (x ∷ xs) few = pick (f x) refl (filter_front n xs)
    where
      pick : (b : Bool) → f x ≡ b → (n ≤ prefix_len f xs → filter f xs ≡ take n xs ++ filter f (drop n xs)) → filter f (x ∷ xs) ≡ x ∷ (take n xs ++ filter f (drop n xs))
      pick true is rest = filter_yes x xs is ∙ ap (λ (ys : List X). x ∷ ys) (rest (omega (arith, prefix_yes x xs is, few)))
      pick false is rest = absurd (omega (arith, prefix_no x xs is, few))

  filter_all : (n : ℕ) (xs : List X) → n ≤ prefix_len f xs → filter f (take n xs) ≡ take n xs
  filter_all zero xs few = refl
  filter_all (suc n) [] few = refl
  filter_all (suc n) (x ∷ xs) few = pick (f x) refl (filter_all n xs)
    where
      pick : (b : Bool) → f x ≡ b → (n ≤ prefix_len f xs → filter f (take n xs) ≡ take n xs) → filter f (x ∷ take n xs) ≡ x ∷ take n xs
      pick true is rest = filter_yes x (take n xs) is ∙ ap (λ (ys : List X). x ∷ ys) (rest (omega (arith, prefix_yes x xs is, few)))
      pick false is rest = absurd (omega (arith, prefix_no x xs is, few))

  filter_reverse : (xs : List X) → filter f (reverse xs) ≡ reverse (filter f xs)
  filter_reverse [] = refl
  filter_reverse (x ∷ xs) =
      ap (filter f) (reverse-append (x ∷ []) xs) ∙ filter-append f (reverse xs) (x ∷ []) ∙ ap (λ (ys : List X). ys ++ filter f (x ∷ [])) (filter_reverse xs) ∙ pick (f x) refl
    where
      pick : (b : Bool) → f x ≡ b → reverse (filter f xs) ++ filter f (x ∷ []) ≡ reverse (filter f (x ∷ xs))
      pick true is =
          ap (λ (ys : List X). reverse (filter f xs) ++ ys) (filter_yes x [] is) ∙ sym (reverse-append (x ∷ []) (filter f xs)) ∙ ap reverse (sym (filter_yes x xs is))
      pick false is =
          ap (λ (ys : List X). reverse (filter f xs) ++ ys) (filter_no x [] is) ∙ append-nil (reverse (filter f xs)) ∙ ap reverse (sym (filter_no x xs is))

  -- the last of them
  reverse_last : (n : ℕ) (xs : List X) → n ≤ length xs → reverse (drop (length xs - n) xs) ≡ take n (reverse xs)
  reverse_last n xs few =
      let m = length xs - n in
      let last : List X = reverse (drop m xs) in
      let long : length last ≡ n = omega (arith, length-reverse (drop m xs), length-drop m xs, few) in
      let whole : reverse xs ≡ last ++ reverse (take m xs) = ap reverse (sym (take-append-drop m xs)) ∙ reverse-append (take m xs) (drop m xs) in
      sym (ap (take n) whole ∙ ap (λ (k : ℕ). take k (last ++ reverse (take m xs))) (sym long) ∙ take-append_seam last (reverse (take m xs)))

  pub filter_back : (n : ℕ) (xs : List X) → n ≤ prefix_len f (reverse xs) → filter f xs ≡ filter f (take (length xs - n) xs) ++ drop (length xs - n) xs
  filter_back n xs few =
      let m = length xs - n in
      let fits : n ≤ length xs = omega (arith, few, prefix_len-le-length f (reverse xs), length-reverse xs) in
      let last : List X = drop m xs in
      let same : reverse (filter f last) ≡ reverse last =
      sym (filter_reverse last) ∙ ap (filter f) (reverse_last n xs fits) ∙ filter_all n (reverse xs) few ∙ sym (reverse_last n xs fits) in
      let kept : filter f last ≡ last = sym (reverse-reverse (filter f last)) ∙ ap reverse same ∙ reverse-reverse last in
      ap (filter f) (sym (take-append-drop m xs)) ∙ filter-append f (take m xs) last ∙ ap (λ (ys : List X). filter f (take m xs) ++ ys) kept

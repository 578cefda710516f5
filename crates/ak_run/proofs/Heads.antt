-- Heads of bulks that are written into the room before their texts.
use Rattle.std.proofs.Common.{◌≡◌, ◌∙◌, ℕ, ◌+◌, ◌≤◌, List, [], ◌∷◌, ◌++◌, length, take, drop, sym, ap, ap₂, arith, append_assoc, length-append}
use Rattle.std.proofs.Math.Seq.{take-append_seam, drop-append_seam}
use Rattle.std.proofs.lemmas.List.{drop-append-le, length-take-le, take-append-drop}
use Rattle.std.proofs.lemmas.Slice.{drop-append-drop}
use Rattle.ak_run.specs.Replies.{crlf}

seam_take : (xs ys : List ℕ) (n : ℕ) → length xs ≡ n → take n (xs ++ ys) ≡ xs
seam_take xs ys n is = ap (λ k. take k (xs ++ ys)) (sym is) ∙ take-append_seam xs ys

seam_drop : (xs ys : List ℕ) (n : ℕ) → length xs ≡ n → drop n (xs ++ ys) ≡ ys
seam_drop xs ys n is = ap (λ k. drop k (xs ++ ys)) (sym is) ∙ drop-append_seam xs ys

module _ (r x w : List ℕ) (at : ℕ) (fits : at + length x ≤ length r) (is : w ≡ take at r ++ (x ++ drop (at + length x) r)) where
  front : length (take at r ++ x) ≡ at + length x
  front = length-append (take at r) x ∙ ap (λ n. n + length x) (length-take-le at r (omega (arith, fits)))

  split : w ≡ (take at r ++ x) ++ drop (at + length x) r
  split = is ∙ sym (append_assoc (take at r) x (drop (at + length x) r))

  -- what stands up to the end of what was written
  written : take (at + length x) w ≡ take at r ++ x
  written = ap (take (at + length x)) split ∙ seam_take (take at r ++ x) (drop (at + length x) r) (at + length x) front

  -- what stands behind it
  behind : (n : ℕ) → at + length x ≤ n → drop n w ≡ drop n r
  behind n more = ap (drop n) split ∙ drop-append-drop (at + length x) r (take at r ++ x) n more front

  same_length : length w ≡ length r
  same_length =
      ap length split ∙ length-append (take at r ++ x) (drop (at + length x) r) ∙ ap (λ n. n + length (drop (at + length x) r)) (length-append (take at r) x)
      ∙ ap (λ n. n + length x + length (drop (at + length x) r)) (length-take-le at r (omega (arith, fits))) ∙ rest
    where
      whole : length r ≡ (at + length x) + length (drop (at + length x) r)
      whole = ap length (sym (take-append-drop (at + length x) r)) ∙ length-append (take (at + length x) r) (drop (at + length x) r) ∙ ap (λ n. n + length (drop (at + length x) r)) (length-take-le (at + length x) r fits)

      rest : at + length x + length (drop (at + length x) r) ≡ length r
      rest = sym whole

module _ (r a b w digits : List ℕ) (start : ℕ) (long : start + 1 + length digits ≡ 21) (fits : 23 ≤ length r) (first : a ≡ take start r ++ ((36 ∷ []) ++ drop (start + 1) r))
    (second : b ≡ take (start + 1) a ++ (digits ++ drop (start + 1 + length digits) a)) (third : w ≡ take 21 b ++ (crlf ++ drop 23 b)) where
  long_a : length a ≡ length r
  long_a = same_length r (36 ∷ []) a start (omega (arith, long, fits)) first

  long_b : length b ≡ length a
  long_b = same_length a digits b (start + 1) (omega (arith, long, fits, long_a)) second

  pub head_length : length w ≡ length r
  head_length = same_length b crlf w 21 (omega (arith, fits, long_a, long_b)) third ∙ long_b ∙ long_a

  head : take 21 b ≡ take start r ++ ((36 ∷ []) ++ digits)
  head =
      ap (λ n. take n b) (sym long) ∙ written a digits b (start + 1) (omega (arith, long, fits, long_a)) second
      ∙ ap (λ l. l ++ digits) (written r (36 ∷ []) a start (omega (arith, long, fits)) first)
      ∙ append_assoc (take start r) (36 ∷ []) digits

  text : drop 23 b ≡ drop 23 r
  text = behind a digits b (start + 1) (omega (arith, long, fits, long_a)) second 23 (omega (arith, long)) ∙ behind r (36 ∷ []) a start (omega (arith, long, fits)) first 23 (omega (arith, long))

  pub head_written : drop start w ≡ 36 ∷ (digits ++ (crlf ++ drop 23 r))
  head_written =
      ap (drop start) (third ∙ ap₂ (λ l m. l ++ (crlf ++ m)) head text ∙ append_assoc (take start r) ((36 ∷ []) ++ digits) (crlf ++ drop 23 r))
      ∙ seam_drop (take start r) (((36 ∷ []) ++ digits) ++ (crlf ++ drop 23 r)) start (length-take-le start r (omega (arith, long, fits)))

-- the text ends in CR LF
pub text_ended : (r : List ℕ) → 23 ≤ length r → drop 23 (r ++ crlf) ≡ drop 23 r ++ crlf
text_ended r fits = drop-append-le 23 r crlf fits

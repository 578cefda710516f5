-- Words as pairs, and where a name stands in them.
use Rattle.std.specs.Prelude.{ℕ, ◌≡◌, ◌+◌, ◌%◌, ◌<◌, List, [], ◌∷◌, drop, length, slice_index_or}
use Rattle.ak_words.specs.Words.{Pair, behind}

-- the words two by two
abbrev pub pairs_of : List (List ℕ) → List Pair
pairs_of [] = []
pairs_of (name ∷ []) = []
pairs_of (name ∷ text ∷ rest) = record { name = name; text = text } ∷ pairs_of rest

-- The name stands at this place, and not before it.
pub record Finds (name : List ℕ) (words : List (List ℕ)) (at : ℕ) : Type 0 where
  pub within : at + 1 < length words
  pub even : at % 2 ≡ 0
  pub splits : behind name (pairs_of words) ≡ slice_index_or words (at + 1) [] ∷ behind name (pairs_of (drop (at + 2) words))

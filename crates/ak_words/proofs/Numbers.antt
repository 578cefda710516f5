-- What `parse` says of a number.
use Rattle.std.proofs.Common.{ℕ, ◌≡◌, ◌≢◌, ◌<◌, ◌≤◌, ◌^◌, List, [], ◌∷◌, length, get_or, Result, Ok, Err, MatchOption, arith, rules, sym, ◌∙◌, ap}
use Rattle.std.specs.Int.{IsInRange}
use Rattle.std.specs.List.{AllByRecursion}
use Rattle.std.specs.Result.{result_ok}
use Rattle.std.specs.Str.Parse.{ParsesUnsigned}
use Rattle.std.proofs.lemmas.Str.Parse.{IsNumeralModel, numerals_by_weight, parse_plain, digits_value_short}
use Rattle.ak_words.specs.Words.{value_of, IsNumber}

own : IsNumeralModel (AllByRecursion (λ c. IsInRange 48 57 c)) value_of
own = numerals_by_weight _ (search rules) _ (search rules)

pub number_read : {E : Type 0} (text : List ℕ) (r : Result ℕ E) → length text ≤ 10 → get_or text 0 0 ≢ 43 → ParsesUnsigned 64 10 text r → MatchOption (result_ok r) ((n : ℕ) → IsNumber text n → ⊥) (λ n. IsNumber text n)
number_read {E} text (Ok x) short plain h =
    let told : (AllByRecursion (λ c. IsInRange 48 57 c) text × (0 < length text) × (value_of text < 2 ^ 64)) × (x ≡ value_of text) = parse_plain own {E = E} 64 text (Ok x) h plain in
    record { digits = told.0.0; least = omega (arith, told.0.1); most = short; value = told.1 }
number_read {E} text (Err e) short plain h = λ n number.
    parse_plain own {E = E} 64 text (Err e) h plain (number.digits, omega (arith, number.least), omega (arith, digits_value_short own text 10 number.digits number.most))

pub number_one : (text : List ℕ) (m n : ℕ) → IsNumber text m → IsNumber text n → m ≡ n
number_one text m n a b = a.value ∙ sym b.value

pub no_plus : (text : List ℕ) → ((rest : List ℕ) → text ≡ 43 ∷ rest → ⊥) → get_or text 0 0 ≢ 43
no_plus [] h e = omega (arith, e)
no_plus (c ∷ cs) h e = h cs (ap (λ x. x ∷ cs) e)

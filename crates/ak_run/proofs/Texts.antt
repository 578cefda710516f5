-- Texts of queries.
use Rattle.std.proofs.Common.{◌≡◌, ◌≢◌, ℕ, List, [], ◌∷◌, ◌++◌, drop, Option, Some, None, Bor, MatchOption, IfSome, ap, ◌∙◌}
use Rattle.std.proofs.lemmas.List.{append_cancel_right}
use Rattle.ak_run.specs.Asking.{query_text}

-- what stands between a front and an end
pub middle_some : (text p q rest : List ℕ) (r : Option (Bor (List ℕ))) → text ≡ p ++ rest → MatchOption r ((front : List ℕ) → rest ≢ front ++ q) (λ x. rest ≡ x.now ++ q) → IfSome r (λ m. text ≡ p ++ (m.now ++ q))
middle_some text p q rest None e h = tt
middle_some text p q rest (Some x) e h = e ∙ ap (λ l. p ++ l) h

-- a query's text is that of one metric
pub query_one : (a b : List ℕ) → query_text a ≡ query_text b → a ≡ b
query_one a b e = append_cancel_right a b (34 ∷ 125 ∷ []) (ap (λ l. drop 11 l) e)

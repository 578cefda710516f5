-- Puts whose values are as many as their metrics.
use Rattle.std.proofs.Common.{◌≡◌, ℕ, List, map, length, inr, Some, None, Result, Ok, Err, IfOk, refl, ◌∙◌}
use Rattle.std.proofs.lemmas.List.{length-map}
use Rattle.ak_base.specs.declared.refusal.Refusal.TheVariants.{BadName}
use Rattle.ak_names.specs.Names.{words_of, metric_count, DoesName}
use Rattle.ak_run.specs.declared.asked.Asked.{Asked}
use Rattle.ak_run.specs.declared.asked.Asked.TheVariants.{Refused}
use Rattle.ak_run.specs.Asking.{PutAsks, OnNames}

same_count : {X : Type 0} (f : X → List ℕ) (values : List X) (name : List ℕ) (n : ℕ) → length values ≡ n → n ≡ metric_count (words_of name) → length (map f values) ≡ metric_count (words_of name)
same_count f values name n e k = length-map values f ∙ (e ∙ k)

pub named_put : {X E : Type 0} (f : X → List ℕ) (scale : ℕ) (name time : List ℕ) (values : List X) (n : ℕ) (names : List (List ℕ)) (r : Result Asked E) → length values ≡ n → n ≡ metric_count (words_of name) → DoesName name names
    → IfOk r (λ asked. OnNames scale time (map f values) asked (Some names)) → IfOk r (λ asked. PutAsks scale name time (map f values) asked)
named_put f scale name time values n names (Ok asked) e k named h = inr (same_count f values name n e k, Some names, named, h)
named_put f scale name time values n names (Err x) e k named h = tt

pub unnamed_put : {X : Type 0} (f : X → List ℕ) (scale : ℕ) (name time : List ℕ) (values : List X) (n : ℕ) → length values ≡ n → n ≡ metric_count (words_of name) → ((names : List (List ℕ)) → ¬ (DoesName name names))
    → PutAsks scale name time (map f values) (Refused BadName)
unnamed_put f scale name time values n e k none = inr (same_count f values name n e k, None, none, refl)

use Rattle.std.proofs.Common.{◌≡◌, ◌∙◌, ℕ, ◌+◌, Bool, true, false, ◌||◌, cond, List, [], ◌∷◌, bytes_eq, Option, Some, None, position, refl, sym}
use Rattle.std.specs.List.{list_any, position_from}
use Rattle.std.specs.Option.{option_eq}
use Rattle.std.proofs.lemmas.Iterator.Adapters.{position_from-zero}
use Rattle.ak_names.proofs.track_tests.add.Goals as goal

missing_by : (name : List ℕ) (n : List ℕ) (ns : List (List ℕ)) (from : ℕ) (b : Bool) → cond b (Some from) (position_from (λ n. bytes_eq name n) (from + 1) ns) ≡ None
    → (position_from (λ n. bytes_eq name n) (from + 1) ns ≡ None → list_any (λ n. bytes_eq name n) ns ≡ false) → (b || list_any (λ n. bytes_eq name n) ns) ≡ false
missing_by name n ns from true e later = absurd (cc)
missing_by name n ns from false e later = later e

missing_from : (name : List ℕ) (ns : List (List ℕ)) (from : ℕ) → position_from (λ n. bytes_eq name n) from ns ≡ None → list_any (λ n. bytes_eq name n) ns ≡ false
missing_from name [] from e = refl
missing_from name (n ∷ ns) from e = missing_by name n ns from (bytes_eq name n) e (missing_from name ns (from + 1))

missing : (name : List ℕ) (ns : List (List ℕ)) → position (λ n. bytes_eq name n) ns ≡ None → list_any (λ n. bytes_eq name n) ns ≡ false
missing name ns e = missing_from name ns 0 (sym (position_from-zero (λ n. bytes_eq name n) ns) ∙ e)

none_of : (eq : ℕ → ℕ → Bool) (o : Option ℕ) → true ≡ option_eq eq o None → o ≡ None
none_of eq None is = refl
none_of eq (Some n) is = absurd (cc)

pub add-requires-clause-new : goal.add-requires-clause-new
add-requires-clause-new c = missing c.args.name.now c.args.index.now (sym c.id.ensures ∙ none_of _ c.id.result (sym c.if-eq.true ∙ c.eq.ensures))

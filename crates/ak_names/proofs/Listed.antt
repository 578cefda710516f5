-- Tags that are written one by one.
use Rattle.std.proofs.Common.{◌≡◌, ◌∙◌, ℕ, Bool, ◌++◌, ◌∷◌, [], List, map, filter, refl, sym, ap, ap₂, append_assoc}
use Rattle.std.proofs.lemmas.List.{map-append}
use Rattle.std.proofs.lemmas.List.Elements.{filter-append}
use Rattle.ak_names.specs.Tracks.{spelled_tags}

spelled_append : (xs ys : List (List ℕ)) → spelled_tags (xs ++ ys) ≡ spelled_tags xs ++ spelled_tags ys
spelled_append [] ys = refl
spelled_append (x ∷ xs) ys = ap (λ (zs : List ℕ). (32 ∷ x) ++ zs) (spelled_append xs ys) ∙ sym (append_assoc (32 ∷ x) (spelled_tags xs) (spelled_tags ys))

pub listed_more : {A : Type 0} (v : A → List ℕ) (p : List ℕ → Bool) (tags : List A) (tag : A) (old text new : List ℕ)
    → text ≡ old ++ spelled_tags (filter p (map v tags)) → new ≡ text ++ spelled_tags (filter p (v tag ∷ []))
    → new ≡ old ++ spelled_tags (filter p (map v (tags ++ tag ∷ [])))
listed_more v p tags tag old text new so_far more =
    let a : List (List ℕ) = map v tags in
    let b : List (List ℕ) = v tag ∷ [] in
    let whole : spelled_tags (filter p (map v (tags ++ tag ∷ []))) ≡ spelled_tags (filter p a) ++ spelled_tags (filter p b) =
    ap (λ (ts : List (List ℕ)). spelled_tags (filter p ts)) (map-append v tags (tag ∷ [])) ∙ ap spelled_tags (filter-append p a b) ∙ spelled_append (filter p a) (filter p b) in
    more ∙ ap (λ (t : List ℕ). t ++ spelled_tags (filter p b)) so_far ∙ append_assoc old (spelled_tags (filter p a)) (spelled_tags (filter p b)) ∙ ap (λ (zs : List ℕ). old ++ zs) (sym whole)

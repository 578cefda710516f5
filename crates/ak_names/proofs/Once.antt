-- Texts that are listed once each.
use Rattle.std.proofs.Common.{◌≡◌, ◌∙◌, ℕ, ◌+◌, ◌<◌, ◌++◌, ◌∷◌, [], List, Option, map, take, length, get_or, String, Global, string_bytes, refl, sym, ap, ap₂}
use Rattle.std.proofs.lemmas.List.{take_more, map-append}
use Rattle.ak_names.specs.Tracks.{once, firsts, firsts_on}

pub firsts_last : (seen : List (List ℕ)) (xs : List (Option (List ℕ))) (x : Option (List ℕ)) → firsts_on seen (xs ++ x ∷ []) ≡ once (firsts_on seen xs) x
firsts_last seen [] x = refl
firsts_last seen (y ∷ xs) x = firsts_last (once seen y) xs x

-- the text of one item more
pub firsts_more : (g : List ℕ → Option (List ℕ)) (ns : List (String Global)) (i : ℕ) (d : String Global) (seen : List (List ℕ)) (name : List ℕ) → i < length ns
    → seen ≡ firsts (map g (map string_bytes (take i ns))) → name ≡ string_bytes (get_or ns i d)
    → once seen (g name) ≡ firsts (map g (map string_bytes (take (i + 1) ns)))
firsts_more g ns i d seen name below so_far here =
    let s : String Global = get_or ns i d in
    let parts : map g (map string_bytes (take (i + 1) ns)) ≡ map g (map string_bytes (take i ns)) ++ g (string_bytes s) ∷ [] =
    ap (λ (xs : List (String Global)). map g (map string_bytes xs)) (take_more ns i d below)
    ∙ ap (map g) (map-append string_bytes (take i ns) (s ∷ [])) ∙ map-append g (map string_bytes (take i ns)) (string_bytes s ∷ []) in
    ap₂ (λ (xs : List (List ℕ)) (n : List ℕ). once xs (g n)) so_far here ∙ sym (firsts_last [] (map g (map string_bytes (take i ns))) (g (string_bytes s))) ∙ ap firsts (sym parts)

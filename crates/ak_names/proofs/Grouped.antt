-- Series that join their tracks one by one.
use Rattle.std.proofs.Common.{◌≡◌, ◌∙◌, ℕ, zero, suc, ◌+◌, ◌<◌, Bool, true, false, ◌&&◌, ◌||◌, cond, true≢false, List, [], ◌∷◌, ◌++◌, map, length, get_or, set, bytes_eq, Option, Some, None, String, Global, string_bytes, position, take, refl, sym, ap, ap₂, arith, append-nil}
use Rattle.std.specs.Cmp.Lexicographic.{bytes_decides}
use Rattle.std.proofs.lemmas.List.{map-append, take_more, length-map}
use Rattle.ak_names.specs.declared.tracks.Track.{Track}
use Rattle.ak_names.specs.declared.wheres.KeyValues.{KeyValues}
use Rattle.ak_names.specs.Tracks.{is_among, once, firsts, firsts_on, places, grouped, tracked, track_name, metric_of, rest_of, admits}
use Rattle.ak_names.specs.Groups.{with_member}
use Rattle.std.specs.List.{list_any}
use Rattle.std.proofs.lemmas.List.Quantifiers.{position-Some}
use Rattle.ak_names.specs.Groups.{AreGrouped}
use Rattle.ak_names.proofs.Keys.{any_texts, position-map}
use Rattle.ak_names.proofs.Once.{firsts_last}

-- ---- Texts

alike : (a b : List ℕ) → bytes_eq a b ≡ true → a ≡ b
alike a b e = (bytes_decides a b).0 e

itself : (a b : List ℕ) → a ≡ b → bytes_eq a b ≡ true
itself a b e = (bytes_decides a b).1 e

turned : (a b : List ℕ) → bytes_eq a b ≡ false → bytes_eq b a ≡ false
turned a b e = by (bytes_eq b a) refl
  where
    by : (t : Bool) → bytes_eq b a ≡ t → t ≡ false
    by false is = refl
    by true is = absurd (true≢false (sym (itself a b (sym (alike b a is))) ∙ e))

-- ---- Which texts are among others

among_last : (t : List ℕ) (xs : List (List ℕ)) (x : List ℕ) → is_among t (xs ++ x ∷ []) ≡ (is_among t xs || bytes_eq t x)
among_last t [] x = by (bytes_eq t x)
  where
    by : (b : Bool) → (b || false) ≡ (false || b)
    by true = refl
    by false = refl
among_last t (y ∷ xs) x = by (bytes_eq t y) (is_among t (xs ++ x ∷ [])) (is_among t xs) (bytes_eq t x) (among_last t xs x)
  where
    by : (a b c d : Bool) → b ≡ (c || d) → (a || b) ≡ ((a || c) || d)
    by true b c d e = refl
    by false b c d e = e

stays_true : (a b : Bool) → a ≡ true → (a || b) ≡ true
stays_true true b e = refl
stays_true false b e = absurd (true≢false (sym e))

made_true : (a b : Bool) → b ≡ true → (a || b) ≡ true
made_true true b e = refl
made_true false b e = e

first_false : (a b : Bool) → (a || b) ≡ false → a ≡ false
first_false true b e = absurd (true≢false e)
first_false false b e = refl

second_false : (a b : Bool) → (a || b) ≡ false → b ≡ false
second_false true b e = absurd (true≢false e)
second_false false b e = e

still_among : (t : List ℕ) (seen : List (List ℕ)) (x : Option (List ℕ)) → is_among t seen ≡ true → is_among t (once seen x) ≡ true
still_among t seen None here = here
still_among t seen (Some u) here = by (is_among u seen)
  where
    by : (b : Bool) → is_among t (cond b seen (seen ++ u ∷ [])) ≡ true
    by true = here
    by false = among_last t seen u ∙ stays_true (is_among t seen) (bytes_eq t u) here

now_among : (t : List ℕ) (seen : List (List ℕ)) (u : List ℕ) → bytes_eq t u ≡ true → is_among t (once seen (Some u)) ≡ true
now_among t seen u same = by (is_among u seen) refl
  where
    by : (b : Bool) → is_among u seen ≡ b → is_among t (cond b seen (seen ++ u ∷ [])) ≡ true
    by true here = ap (λ (x : List ℕ). is_among x seen) (alike t u same) ∙ here
    by false none = among_last t seen u ∙ made_true (is_among t seen) (bytes_eq t u) same

among_firsts : (t : List ℕ) (seen : List (List ℕ)) (xs : List (Option (List ℕ))) → is_among t seen ≡ true → is_among t (firsts_on seen xs) ≡ true
among_firsts t seen [] here = here
among_firsts t seen (x ∷ xs) here = among_firsts t (once seen x) xs (still_among t seen x here)

not_at : (t : List ℕ) (xs : List (List ℕ)) (k : ℕ) → is_among t xs ≡ false → k < length xs → bytes_eq t (get_or xs k []) ≡ false
not_at t [] k none below = absurd (omega arith)
not_at t (x ∷ xs) zero none below = first_false (bytes_eq t x) (is_among t xs) none
not_at t (x ∷ xs) (suc k) none below = not_at t xs k (second_false (bytes_eq t x) (is_among t xs) none) (omega arith)

-- ---- Texts of which no two are alike

abbrev AreApart : List (List ℕ) → Type 0
AreApart [] = Unit {0}
AreApart (x ∷ xs) = (is_among x xs ≡ false) × AreApart xs

apart_last : (xs : List (List ℕ)) (t : List ℕ) → AreApart xs → is_among t xs ≡ false → AreApart (xs ++ t ∷ [])
apart_last [] t apart none = (refl, tt)
apart_last (x ∷ xs) t apart none =
    let other : bytes_eq x t ≡ false = turned t x (first_false (bytes_eq t x) (is_among t xs) none) in (
      among_last x xs t ∙ ap₂ (λ (a b : Bool). a || b) apart.0 other,
      apart_last xs t apart.1 (second_false (bytes_eq t x) (is_among t xs) none),
    )

once_apart : (seen : List (List ℕ)) (x : Option (List ℕ)) → AreApart seen → AreApart (once seen x)
once_apart seen None apart = apart
once_apart seen (Some t) apart = by (is_among t seen) refl
  where
    by : (b : Bool) → is_among t seen ≡ b → AreApart (cond b seen (seen ++ t ∷ []))
    by true here = apart
    by false none = apart_last seen t apart none

firsts_apart : (seen : List (List ℕ)) (xs : List (Option (List ℕ))) → AreApart seen → AreApart (firsts_on seen xs)
firsts_apart seen [] apart = apart
firsts_apart seen (x ∷ xs) apart = firsts_apart (once seen x) xs (once_apart seen x apart)

-- ---- Places

places_last : (u : List ℕ) (m : ℕ) (xs : List (Option (List ℕ))) (x : Option (List ℕ)) → places u m (xs ++ x ∷ []) ≡ places u m xs ++ places u (m + length xs) (x ∷ [])
places_last u m [] x = ap (λ (k : ℕ). places u k (x ∷ [])) (omega arith)
places_last u m (None ∷ xs) x = places_last u (suc m) xs x ∙ ap (λ (k : ℕ). places u (suc m) xs ++ places u k (x ∷ [])) (omega arith)
places_last u m (Some y ∷ xs) x = by (bytes_eq u y) (places_last u (suc m) xs x ∙ ap (λ (k : ℕ). places u (suc m) xs ++ places u k (x ∷ [])) (omega arith))
  where
    by : (b : Bool) → places u (suc m) (xs ++ x ∷ []) ≡ places u (suc m) xs ++ places u (m + suc (length xs)) (x ∷ [])
        → cond b (m ∷ places u (suc m) (xs ++ x ∷ [])) (places u (suc m) (xs ++ x ∷ [])) ≡ cond b (m ∷ places u (suc m) xs) (places u (suc m) xs) ++ places u (m + suc (length xs)) (x ∷ [])
    by true rest = ap (λ (ns : List ℕ). m ∷ ns) rest
    by false rest = rest

no_places : (t : List ℕ) (seen : List (List ℕ)) (m : ℕ) (xs : List (Option (List ℕ))) → is_among t (firsts_on seen xs) ≡ false → places t m xs ≡ []
no_places t seen m [] none = refl
no_places t seen m (None ∷ xs) none = no_places t seen (suc m) xs none
no_places t seen m (Some u ∷ xs) none = by (bytes_eq t u) refl (no_places t (once seen (Some u)) (suc m) xs none)
  where
    by : (b : Bool) → bytes_eq t u ≡ b → places t (suc m) xs ≡ [] → cond b (m ∷ places t (suc m) xs) (places t (suc m) xs) ≡ []
    by true same rest = absurd (true≢false (sym (among_firsts t (once seen (Some u)) xs (now_among t seen u same)) ∙ none))
    by false other rest = rest

-- ---- One item of a list of tracks changes

module _ {B : Type 0} (t : List ℕ) (before after : List ℕ → B) (change : B → B) (others : (u : List ℕ) → bytes_eq u t ≡ false → after u ≡ before u) where
  all_others : (xs : List (List ℕ)) → is_among t xs ≡ false → map after xs ≡ map before xs
  all_others [] none = refl
  all_others (x ∷ xs) none =
      ap₂ (λ (y : B) (ys : List B). y ∷ ys) (others x (turned t x (first_false (bytes_eq t x) (is_among t xs) none))) (all_others xs (second_false (bytes_eq t x) (is_among t xs) none))

  one_changed : ((u : List ℕ) → bytes_eq u t ≡ true → after u ≡ change (before u)) → (xs : List (List ℕ)) (at : ℕ) (d : B) → AreApart xs → at < length xs → bytes_eq t (get_or xs at []) ≡ true
      → map after xs ≡ set (map before xs) at (change (get_or (map before xs) at d))
  one_changed this [] at d apart below same = absurd (omega arith)
  one_changed this (x ∷ xs) zero d apart below same =
      let is : t ≡ x = alike t x same in
      ap₂ (λ (y : B) (ys : List B). y ∷ ys) (this x (itself x t (sym is))) (all_others xs (ap (λ (y : List ℕ). is_among y xs) is ∙ apart.0))
  one_changed this (x ∷ xs) (suc k) d apart below same =
      let within : k < length xs = omega arith in
      let is : t ≡ get_or xs k [] = alike t (get_or xs k []) same in
      let other : bytes_eq x t ≡ false = ap (bytes_eq x) is ∙ not_at x xs k apart.0 within in
      ap₂ (λ (y : B) (ys : List B). y ∷ ys) (others x other) (one_changed this xs k d apart.1 within same)

map_same : {A B : Type 0} (f g : A → B) → ((x : A) → f x ≡ g x) → (xs : List A) → map f xs ≡ map g xs
map_same f g same [] = refl
map_same f g same (x ∷ xs) = ap₂ (λ y ys. y ∷ ys) (same x) (map_same f g same xs)

-- ---- A series more

abbrev of_text : List (Option (List ℕ)) → List ℕ → Track
of_text named u = record { name = u; members = places u 0 named }

placed : (named : List (Option (List ℕ))) (t u : List ℕ) (b : Bool) → bytes_eq u t ≡ b
    → of_text (named ++ Some t ∷ []) u ≡ cond b (with_member (length named) (of_text named u)) (of_text named u)
placed named t u b is =
    ap (λ (ns : List ℕ). record { name = u; members = ns }) (places_last u 0 named (Some t) ∙ ap (λ (c : Bool). places u 0 named ++ cond c ((0 + length named) ∷ []) []) is) ∙ by b
  where
    by : (c : Bool) → record { name = u; members = places u 0 named ++ cond c ((0 + length named) ∷ []) [] } ≡ cond c (with_member (length named) (of_text named u)) (of_text named u)
    by true = ap (λ (k : ℕ). record { name = u; members = places u 0 named ++ k ∷ [] }) (omega arith)
    by false = ap (λ (ns : List ℕ). record { name = u; members = ns }) (append-nil (places u 0 named))

pub grouped_none : (named : List (Option (List ℕ))) → grouped (named ++ None ∷ []) ≡ grouped named
grouped_none named =
    ap (map (of_text (named ++ None ∷ []))) (firsts_last [] named None)
    ∙ map_same (of_text (named ++ None ∷ [])) (of_text named) (λ u. ap (λ (ns : List ℕ). record { name = u; members = ns }) (places_last u 0 named None ∙ append-nil (places u 0 named))) (firsts named)

pub grouped_known : (named : List (Option (List ℕ))) (t : List ℕ) (at : ℕ) (d : Track) → at < length (firsts named) → bytes_eq t (get_or (firsts named) at []) ≡ true → is_among t (firsts named) ≡ true
    → grouped (named ++ Some t ∷ []) ≡ set (grouped named) at (with_member (length named) (get_or (grouped named) at d))
grouped_known named t at d below same here =
    ap (map (of_text (named ++ Some t ∷ []))) (firsts_last [] named (Some t) ∙ ap (λ (b : Bool). cond b (firsts named) (firsts named ++ t ∷ [])) here)
    ∙ one_changed t (of_text named) (of_text (named ++ Some t ∷ [])) (with_member (length named)) (λ u other. placed named t u false other) (λ u is. placed named t u true is) (firsts named) at d (firsts_apart [] named tt) below same

pub grouped_new : (named : List (Option (List ℕ))) (t : List ℕ) → is_among t (firsts named) ≡ false
    → grouped (named ++ Some t ∷ []) ≡ grouped named ++ record { name = t; members = length named ∷ [] } ∷ []
grouped_new named t none =
    let F : List (List ℕ) = firsts named in
    ap (map (of_text (named ++ Some t ∷ []))) (firsts_last [] named (Some t) ∙ ap (λ (b : Bool). cond b F (F ++ t ∷ [])) none)
    ∙ map-append (of_text (named ++ Some t ∷ [])) F (t ∷ [])
    ∙ ap₂ (λ (xs : List Track) (x : Track). xs ++ x ∷ [])
    (all_others t (of_text named) (of_text (named ++ Some t ∷ [])) (λ x. x) (λ u other. placed named t u false other) F none)
    (placed named t t true (itself t t refl) ∙ ap (λ (ns : List ℕ). record { name = t; members = ns ++ length named ∷ [] }) (no_places t [] 0 named none))

-- ---- The groups after a series more

pub taken_none : (named : List (Option (List ℕ))) (x : Option (List ℕ)) (names : List (List ℕ)) (tracks : List Track) → x ≡ None → AreGrouped named names tracks → AreGrouped (named ++ x ∷ []) names tracks
taken_none named x names tracks none groups =
    rw none record {
      names_are = groups.names_are ∙ sym (firsts_last [] named None);
      tracks_are = groups.tracks_are ∙ sym (grouped_none named);
    }

-- the key of a track that is there
at_key : (named : List (Option (List ℕ))) (t : List ℕ) (keys : List (String Global)) (names : List (List ℕ)) (at : ℕ) → names ≡ map string_bytes keys → Some at ≡ position (λ k. bytes_eq t (string_bytes k)) keys
    → (at < length names) × (bytes_eq t (get_or names at []) ≡ true)
at_key named t keys names at are place =
    let p = position-Some (bytes_eq t) names at [] (ap (position (bytes_eq t)) are ∙ position-map string_bytes (bytes_eq t) keys ∙ sym place) in
    (p.0, p.1)

pub known_within : (named : List (Option (List ℕ))) (t : List ℕ) (keys : List (String Global)) (tracks : List Track) (at : ℕ) → AreGrouped named (map string_bytes keys) tracks
    → Some at ≡ position (λ k. bytes_eq t (string_bytes k)) keys → at < length tracks
known_within named t keys tracks at groups place =
    let below : at < length (firsts named) = (at_key named t keys (firsts named) at (sym groups.names_are) place).0 in
    let long : length tracks ≡ length (firsts named) = ap length groups.tracks_are ∙ length-map (firsts named) (of_text named) in
    omega arith

pub taken_known : (named : List (Option (List ℕ))) (t : List ℕ) (keys : List (String Global)) (tracks new : List Track) (at n : ℕ) → AreGrouped named (map string_bytes keys) tracks → n ≡ length named
    → Some at ≡ position (λ k. bytes_eq t (string_bytes k)) keys → true ≡ list_any (λ k. bytes_eq t (string_bytes k)) keys
    → (at < length tracks → new ≡ set tracks at (with_member n (get_or tracks at (of_text [] []))))
    → AreGrouped (named ++ Some t ∷ []) (map string_bytes keys) new
taken_known named t keys tracks new at n groups many place found change =
    let d : Track = of_text [] [] in
    let F : List (List ℕ) = firsts named in
    let here : is_among t F ≡ true = ap (is_among t) (sym groups.names_are) ∙ any_texts t keys ∙ sym found in
    let p = at_key named t keys F at (sym groups.names_are) place in
    record {
      names_are = groups.names_are ∙ sym (firsts_last [] named (Some t) ∙ ap (λ (b : Bool). cond b F (F ++ t ∷ [])) here);
      tracks_are = change (known_within named t keys tracks at groups place) ∙ ap₂ (λ (ts : List Track) (k : ℕ). set ts at (with_member k (get_or ts at d))) groups.tracks_are many ∙ sym (grouped_known named t at d p.0 p.1 here);
    }

pub taken_new : (named : List (Option (List ℕ))) (t : List ℕ) (keys : List (String Global)) (names : List (List ℕ)) (tracks : List Track) (track : Track) → AreGrouped named (map string_bytes keys) tracks
    → false ≡ list_any (λ k. bytes_eq t (string_bytes k)) keys → names ≡ map string_bytes keys ++ t ∷ [] → track ≡ record { name = t; members = length named ∷ [] }
    → AreGrouped (named ++ Some t ∷ []) names (tracks ++ track ∷ [])
taken_new named t keys names tracks track groups found last one =
    let F : List (List ℕ) = firsts named in
    let none : is_among t F ≡ false = ap (is_among t) (sym groups.names_are) ∙ any_texts t keys ∙ sym found in
    record {
      names_are = last ∙ ap (λ (ns : List (List ℕ)). ns ++ t ∷ []) groups.names_are ∙ sym (firsts_last [] named (Some t) ∙ ap (λ (b : Bool). cond b F (F ++ t ∷ [])) none);
      tracks_are = ap₂ (λ (ts : List Track) (x : Track). ts ++ x ∷ []) groups.tracks_are one ∙ sym (grouped_new named t none);
    }

-- the names of the tracks of one series more
pub tracked_more : (g : List ℕ → Option (List ℕ)) (ns : List (String Global)) (i : ℕ) (d : String Global) (name : List ℕ) → i < length ns → name ≡ string_bytes (get_or ns i d)
    → map g (map string_bytes (take i ns)) ++ g name ∷ [] ≡ map g (map string_bytes (take (i + 1) ns))
tracked_more g ns i d name below here =
    let s : String Global = get_or ns i d in
    ap (λ (n : List ℕ). map g (map string_bytes (take i ns)) ++ g n ∷ []) here
    ∙ sym (ap (λ (xs : List (String Global)). map g (map string_bytes xs)) (take_more ns i d below) ∙ ap (map g) (map-append string_bytes (take i ns) (s ∷ [])) ∙ map-append g (map string_bytes (take i ns)) (string_bytes s ∷ []))

pub untracked : (metric : List ℕ) (wheres : List KeyValues) (tags : Option (List (List ℕ))) (name : List ℕ) → (bytes_eq (metric_of name) metric && admits wheres (rest_of name)) ≡ false → tracked metric wheres tags name ≡ None
untracked metric wheres tags name out = ap (λ (b : Bool). cond b (Some (track_name tags name)) None) out

abbrev pub no_track : Track
no_track = of_text [] []

pub named_track : (track : Track) (t : List ℕ) (n m : ℕ) → track.name ≡ t → track.members ≡ n ∷ [] → n ≡ m → track ≡ record { name = t; members = m ∷ [] }
named_track track t n m name members same = ap₂ (λ (x ms : List ℕ). record { name = x; members = ms }) name (members ∙ ap (λ (k : ℕ). k ∷ []) same)

-- Names as keys of a set.
use Rattle.std.proofs.Common.{◌≡◌, ◌+◌, ℕ, suc, Bool, false, nat_lt, not, ◌||◌, cond, List, [], ◌∷◌, ◌++◌, map, length, position, bytes_eq, Some, None, String, Global, string_bytes, refl, ap, ap₂, sym, ◌∙◌, subst, true, IsUtf8, arith}
use Rattle.std.specs.Cmp.Lexicographic.{bytes_decides}
use Rattle.std.proofs.lemmas.Bool.Decides.{nat_tests}
use Rattle.std.proofs.lemmas.Str.{IsUtf8-string_bytes}
use Rattle.std.specs.Prelude.{if◌then◌else◌}
use Rattle.std.specs.List.{prefix_len, list_any}
use Rattle.std.proofs.lemmas.List.{map-append}
use Rattle.indexmap.specs.IndexSet.{insert_key}
use Rattle.ak_names.specs.Tracks.{once}

prefix_len-map : {X Y : Type 0} (f : X → Y) (p : Y → Bool) (xs : List X) → prefix_len p (map f xs) ≡ prefix_len (λ x. p (f x)) xs
prefix_len-map f p [] = refl
prefix_len-map f p (x ∷ xs) = ap (λ n. cond (p (f x)) (1 + n) 0) (prefix_len-map f p xs)

length-map : {X Y : Type 0} (f : X → Y) (xs : List X) → length (map f xs) ≡ length xs
length-map f [] = refl
length-map f (x ∷ xs) = ap suc (length-map f xs)

-- a search in what a function makes of the items
pub position-map : {X Y : Type 0} (f : X → Y) (p : Y → Bool) (xs : List X) → position p (map f xs) ≡ position (λ x. p (f x)) xs
position-map f p xs = ap₂ (λ a b. cond (nat_lt a b) (Some a) None) (prefix_len-map f (λ y. not (p y)) xs) (length-map f xs)

list_any-map : {X Y : Type 0} (f : X → Y) (p : Y → Bool) (xs : List X) → list_any p (map f xs) ≡ list_any (λ x. p (f x)) xs
list_any-map f p [] = refl
list_any-map f p (x ∷ xs) = ap (λ b. p (f x) || b) (list_any-map f p xs)

pub any_texts : (name : List ℕ) (ks : List (String Global)) → list_any (λ n. bytes_eq name n) (map string_bytes ks) ≡ list_any (λ k. bytes_eq name (string_bytes k)) ks
any_texts name ks = list_any-map string_bytes (λ n. bytes_eq name n) ks

-- a name that no key has goes last
pub added_last : (k : String Global) (ks : List (String Global)) (name : List ℕ) → string_bytes k ≡ name
    → list_any (λ n. bytes_eq name n) (map string_bytes ks) ≡ false
    → map string_bytes (insert_key (λ a b. bytes_eq (string_bytes a) (string_bytes b)) ks k) ≡ map string_bytes ks ++ name ∷ []
added_last k ks name is none =
    let absent : list_any (λ x. bytes_eq (string_bytes k) (string_bytes x)) ks ≡ false =
    rw is (sym (list_any-map string_bytes (λ n. bytes_eq name n) ks) ∙ none) in
    rw (absent, ← is) (map-append string_bytes ks (k ∷ []))

pub any_keys : (k : String Global) (ks : List (String Global)) (name : List ℕ) → string_bytes k ≡ name
    → list_any (λ x. bytes_eq (string_bytes k) (string_bytes x)) ks ≡ list_any (λ n. bytes_eq name n) (map string_bytes ks)
any_keys k ks name is = rw is (sym (list_any-map string_bytes (λ n. bytes_eq name n) ks))

-- a name more, where no key has it
pub entered : (k : String Global) (ks js : List (String Global)) (name : List ℕ) → string_bytes k ≡ name → js ≡ insert_key (λ a b. bytes_eq (string_bytes a) (string_bytes b)) ks k
    → map string_bytes js ≡ once (map string_bytes ks) (Some name)
entered k ks js name is same =
    ap (map string_bytes) same ∙ pick (list_any (λ x. bytes_eq (string_bytes k) (string_bytes x)) ks)
    ∙ ap (λ (b : Bool). if b then map string_bytes ks else map string_bytes ks ++ name ∷ []) (any_keys k ks name is)
  where
    pick : (b : Bool) → map string_bytes (if b then ks else ks ++ k ∷ []) ≡ (if b then map string_bytes ks else map string_bytes ks ++ name ∷ [])
    pick true = refl
    pick false = map-append string_bytes ks (k ∷ []) ∙ ap (λ (n : List ℕ). map string_bytes ks ++ n ∷ []) is

-- a text that is no UTF-8 is no name
other_at : (text : List ℕ) (k : String Global) (b : Bool) → ¬ (IsUtf8 text) → bytes_eq text (string_bytes k) ≡ b → b ≡ false
other_at text k true bad e = absurd (bad (subst IsUtf8 (sym ((bytes_decides text (string_bytes k)).0 e)) (IsUtf8-string_bytes k)))
other_at text k false bad e = refl

none_before : (text : List ℕ) (ks : List (String Global)) → ¬ (IsUtf8 text) → prefix_len (λ n. not (bytes_eq text n)) (map string_bytes ks) ≡ length (map string_bytes ks)
none_before text [] bad = refl
none_before text (k ∷ ks) bad =
    let other : bytes_eq text (string_bytes k) ≡ false = other_at text k (bytes_eq text (string_bytes k)) bad refl in
    rw other (omega (arith, none_before text ks bad))

pub unknown_text : (text : List ℕ) (ks : List (String Global)) → ¬ (IsUtf8 text) → position (λ n. bytes_eq text n) (map string_bytes ks) ≡ None
unknown_text text ks bad = rw (none_before text ks bad) (grind (arith, nat_tests))

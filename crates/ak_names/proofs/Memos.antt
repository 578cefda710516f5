-- Texts that are kept with the numbers of the names that they name.
use Rattle.std.proofs.Common.{◌≡◌, ◌+◌, ℕ, Bool, false, true, true≢false, cond, List, [], ◌∷◌, ◌++◌, map, length, bytes_eq, Option, Some, None, option_map, option_copied, is_some, IfSome, String, Vec, Global, Bor, string_bytes, refl, ap, ap₂, sym, ◌∙◌, subst, IsUtf8, length-append, arith}
use Rattle.std.specs.Cmp.Lexicographic.{bytes_decides}
use Rattle.std.specs.List.{AllByRecursion, sum_by}
use Rattle.std.specs.Map.{lookup}
use Rattle.std.proofs.lemmas.List.{get_or_append_left}
use Rattle.std.proofs.lemmas.List.Sums.{sum_by_push}
use Rattle.std.proofs.lemmas.Str.{IsUtf8-string_bytes}
use Rattle.indexmap.specs.IndexMap.{insert_entry}
use Rattle.ak_names.specs.Known.{AreNumbers, names_at, NamesThese, AreFew, AreCounted}
use Rattle.ak_names.specs.Names.{DoesName}

-- a look-up in what a contract sees
pub lookup-pairs : (text : List ℕ) (es : List (String Global × Vec ℕ Global))
    → lookup (λ t. bytes_eq text t) (map {B = List ℕ × List ℕ} (λ e. (string_bytes e.0, e.1.items)) es) ≡ option_map (λ (v : Vec ℕ Global). v.items) (lookup (λ k. bytes_eq text (string_bytes k)) es)
lookup-pairs text [] = refl
lookup-pairs text (e ∷ es) = by (bytes_eq text (string_bytes e.0)) (lookup-pairs text es)
  where
    by : (b : Bool) → lookup (λ t. bytes_eq text t) (map {B = List ℕ × List ℕ} (λ x. (string_bytes x.0, x.1.items)) es) ≡ option_map (λ (v : Vec ℕ Global). v.items) (lookup (λ k. bytes_eq text (string_bytes k)) es)
        → cond b (Some e.1.items) (lookup (λ t. bytes_eq text t) (map {B = List ℕ × List ℕ} (λ x. (string_bytes x.0, x.1.items)) es))
        ≡ option_map (λ (v : Vec ℕ Global). v.items) (cond b (Some e.1) (lookup (λ k. bytes_eq text (string_bytes k)) es))
    by true rest = refl
    by false rest = rest

-- the same of what is known by other names
pub lookup-seen : (text bytes : List ℕ) (es : List (String Global × Vec ℕ Global)) (kept : List (List ℕ × List ℕ)) (found : Option (Vec ℕ Global)) → text ≡ bytes
    → map {B = List ℕ × List ℕ} (λ e. (string_bytes e.0, e.1.items)) es ≡ kept
    → found ≡ lookup (λ k. bytes_eq text (string_bytes k)) es → option_map (λ (v : Vec ℕ Global). v.items) found ≡ lookup (λ t. bytes_eq bytes t) kept
lookup-seen text bytes es kept found is kept_is found_is =
    ap (option_map (λ (v : Vec ℕ Global). v.items)) found_is ∙ sym (lookup-pairs text es)
    ∙ ap₂ (λ (t : List ℕ) (ks : List (List ℕ × List ℕ)). lookup (λ x. bytes_eq t x) ks) is kept_is

-- a text that is no UTF-8 isn't kept
pub lookup-no_text : (text : List ℕ) (es : List (String Global × Vec ℕ Global)) → ¬ (IsUtf8 text)
    → lookup (λ t. bytes_eq text t) (map {B = List ℕ × List ℕ} (λ e. (string_bytes e.0, e.1.items)) es) ≡ None
lookup-no_text text [] bad = refl
lookup-no_text text (e ∷ es) bad = by (bytes_eq text (string_bytes e.0)) refl (lookup-no_text text es bad)
  where
    by : (b : Bool) → bytes_eq text (string_bytes e.0) ≡ b → lookup (λ t. bytes_eq text t) (map {B = List ℕ × List ℕ} (λ x. (string_bytes x.0, x.1.items)) es) ≡ None
        → cond b (Some e.1.items) (lookup (λ t. bytes_eq text t) (map {B = List ℕ × List ℕ} (λ x. (string_bytes x.0, x.1.items)) es)) ≡ None
    by true is rest = absurd (bad (subst IsUtf8 (sym ((bytes_decides text (string_bytes e.0)).0 is)) (IsUtf8-string_bytes e.0)))
    by false is rest = rest

-- a text that isn't kept yet goes last
pub kept_last : (k : String Global) (v : Vec ℕ Global) (es : List (String Global × Vec ℕ Global)) (text : List ℕ) → string_bytes k ≡ text
    → is_some (lookup (λ t. bytes_eq text (string_bytes t)) es) ≡ false
    → map {B = List ℕ × List ℕ} (λ e. (string_bytes e.0, e.1.items)) (insert_entry (λ a b. bytes_eq (string_bytes a) (string_bytes b)) es k v)
    ≡ map {B = List ℕ × List ℕ} (λ e. (string_bytes e.0, e.1.items)) es ++ (text, v.items) ∷ []
kept_last k v [] text is none = ap (λ (t : List ℕ). (t, v.items) ∷ []) is
kept_last k v (e ∷ es) text is none = by (bytes_eq text (string_bytes e.0)) refl (kept_last k v es text is)
  where
    by : (b : Bool) → bytes_eq text (string_bytes e.0) ≡ b
        → (is_some (lookup (λ t. bytes_eq text (string_bytes t)) es) ≡ false → map {B = List ℕ × List ℕ} (λ x. (string_bytes x.0, x.1.items)) (insert_entry (λ a b. bytes_eq (string_bytes a) (string_bytes b)) es k v)
        ≡ map {B = List ℕ × List ℕ} (λ x. (string_bytes x.0, x.1.items)) es ++ (text, v.items) ∷ [])
        → map {B = List ℕ × List ℕ} (λ x. (string_bytes x.0, x.1.items)) (insert_entry (λ a b. bytes_eq (string_bytes a) (string_bytes b)) (e ∷ es) k v)
        ≡ map {B = List ℕ × List ℕ} (λ x. (string_bytes x.0, x.1.items)) (e ∷ es) ++ (text, v.items) ∷ []
    by true same last = absurd (true≢false (sym (ap (λ b. is_some (cond b (Some e.1) (lookup (λ t. bytes_eq text (string_bytes t)) es))) same) ∙ none))
    by false other last =
        let rest : is_some (lookup (λ t. bytes_eq text (string_bytes t)) es) ≡ false = sym (ap (λ b. is_some (cond b (Some e.1) (lookup (λ t. bytes_eq text (string_bytes t)) es))) other) ∙ none in
        let here : bytes_eq (string_bytes k) (string_bytes e.0) ≡ false = ap (λ (t : List ℕ). bytes_eq t (string_bytes e.0)) is ∙ other in
        rw here (ap (λ l. (string_bytes e.0, e.1.items) ∷ l) (last rest))

-- one more text is counted
pub counted_last : (kept : List (List ℕ × List ℕ)) (bytes numbers : ℕ) (text : List ℕ) (found : List ℕ) → AreCounted kept bytes numbers
    → AreFew (length kept + 1) (sum_by (λ e. length e.0) kept + length text) (sum_by (λ e. length e.1) kept + length found)
    → AreCounted (kept ++ (text, found) ∷ []) (bytes + length text) (numbers + length found)
counted_last kept bytes numbers text found are few = record {
  bytes_are = omega (arith, are.bytes_are, sum_by_push (λ e. length e.0) kept (text, found));
  numbers_are = omega (arith, are.numbers_are, sum_by_push (λ e. length e.1) kept (text, found));
  few = (omega (arith, few.0, length-append kept ((text, found) ∷ [])), omega (arith, few.1, are.bytes_are), omega (arith, few.2, are.numbers_are));
}

-- with one more name each number has the name that it had
numbers_stay : (names : List (List ℕ)) (name : List ℕ) (numbers : List ℕ) → AreNumbers names numbers → AreNumbers (names ++ name ∷ []) numbers
numbers_stay names name [] known = tt
numbers_stay names name (n ∷ numbers) known = (omega (arith, known.0, length-append names (name ∷ [])), numbers_stay names name numbers known.1)

pub names_stay : (names : List (List ℕ)) (name : List ℕ) (numbers : List ℕ) → AreNumbers names numbers → names_at (names ++ name ∷ []) numbers ≡ names_at names numbers
names_stay names name [] known = refl
names_stay names name (n ∷ numbers) known = ap₂ (λ x xs. x ∷ xs) (get_or_append_left names (name ∷ []) [] n known.0) (names_stay names name numbers known.1)

-- and what is kept stays right
pub kept_stay : (names : List (List ℕ)) (name : List ℕ) (kept : List (List ℕ × List ℕ)) → AllByRecursion (NamesThese names) kept → AllByRecursion (NamesThese (names ++ name ∷ [])) kept
kept_stay names name [] each = tt
kept_stay names name (e ∷ kept) each = (
  record {
    known = numbers_stay names name e.1 each.0.known;
    named = subst (DoesName e.0) (sym (names_stay names name e.1 each.0.known)) each.0.named;
  },
  kept_stay names name kept each.1,
)

-- what a look-up finds names these
found_names : (names : List (List ℕ)) (kept : List (List ℕ × List ℕ)) (text numbers : List ℕ) → AllByRecursion (NamesThese names) kept → Some numbers ≡ lookup (λ t. bytes_eq text t) kept → NamesThese names (text, numbers)
found_names names [] text numbers each found = absurd (true≢false (ap is_some found))
found_names names (e ∷ kept) text numbers each found = by (bytes_eq text e.0) refl (found_names names kept text numbers each.1)
  where
    by : (b : Bool) → bytes_eq text e.0 ≡ b → (Some numbers ≡ lookup (λ t. bytes_eq text t) kept → NamesThese names (text, numbers)) → NamesThese names (text, numbers)
    by true same later =
        let is : Some numbers ≡ Some e.1 = found ∙ ap (λ b. cond b (Some e.1) (lookup (λ t. bytes_eq text t) kept)) same in
        let numbers_are : e.1 ≡ numbers = search (is) in
        let text_is : e.0 ≡ text = sym ((bytes_decides text e.0).0 same) in
        subst (λ (t : List ℕ). NamesThese names (t, numbers)) text_is (subst (λ (ns : List ℕ). NamesThese names (e.0, ns)) numbers_are each.0)
    by false other later = later (found ∙ ap (λ b. cond b (Some e.1) (lookup (λ t. bytes_eq text t) kept)) other)

pub known_names : (names : List (List ℕ)) (kept : List (List ℕ × List ℕ)) (text : List ℕ) (o : Option (Bor (List ℕ))) → AllByRecursion (NamesThese names) kept
    → option_copied o ≡ lookup (λ t. bytes_eq text t) kept → IfSome o (λ numbers. NamesThese names (text, numbers.now))
known_names names kept text None each is = tt
known_names names kept text (Some numbers) each is = found_names names kept text numbers.now each is

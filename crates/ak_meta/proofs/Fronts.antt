-- What stands in front, and lists of which each item is spelled with one length.
use Rattle.std.proofs.Common.{◌≡◌, ◌*◌, ◌^◌, ◌<◌, ◌≤◌, ◌∙◌, ℕ, List, [], ◌∷◌, ◌++◌, length, take, drop, get_or, refl, sym, ap, ap₂, arith, append_assoc, length-append, take-append-drop}
use Rattle.std.proofs.lemmas.List.{take_at, drop_at, length-take-le}
use Rattle.std.specs.List.{flat_map, AllByRecursion}
use Rattle.byteorder.specs.Endian.{little_bytes}
use Rattle.byteorder.specs.Numbers.{length-bytes_low_first}
use Rattle.ak_bytes.proofs.FixedFields.{same_field}

-- two fronts of one length
pub same_fronts : (p q x y : List ℕ) → length p ≡ length q → p ++ x ≡ q ++ y → (p ≡ q) × (x ≡ y)
same_fronts p q x y same e =
    let front : p ≡ q = sym (take_at p x (length p) refl) ∙ ap (take (length p)) e ∙ take_at q y (length p) (sym same) in
    let back : x ≡ y = sym (drop_at p x (length p) refl) ∙ ap (drop (length p)) e ∙ drop_at q y (length p) (sym same) in
    (front, back)

pub length-field : (n x : ℕ) → length (little_bytes n x) ≡ n
length-field n x = length-bytes_low_first 0 n x

-- a field in front
pub front_field : (n a b : ℕ) (x y : List ℕ) → a < 256 ^ n → b < 256 ^ n → little_bytes n a ++ x ≡ little_bytes n b ++ y → (a ≡ b) × (x ≡ y)
front_field n a b x y small small' e =
    let both = same_fronts (little_bytes n a) (little_bytes n b) x y (length-field n a ∙ sym (length-field n b)) e in
    let field = same_field n a b [] [] small small' both.0 in
    (field.1, both.1)

-- what stands behind a front
pub behind_front : (from part : List ℕ) (start at : ℕ) → start ≤ length from → take at from ≡ take start from ++ part → drop start from ≡ part ++ drop at from
behind_front from part start at within e =
    ap (drop start) (sym (take-append-drop at from) ∙ ap (λ (l : List ℕ). l ++ drop at from) e ∙ append_assoc (take start from) part (drop at from))
    ∙ drop_at (take start from) (part ++ drop at from) start (length-take-le start from within)

pub all_behind : (from part : List ℕ) (start : ℕ) → start ≤ length from → from ≡ take start from ++ part → drop start from ≡ part
all_behind from part start within e = ap (drop start) e ∙ drop_at (take start from) part start (length-take-le start from within)

pub long_row : {X : Type 0} (f : X → List ℕ) (n : ℕ) → ((x : X) → length (f x) ≡ n) → (xs : List X) → length (flat_map f xs) ≡ n * length xs
long_row f n each [] = omega arith
long_row f n each (x ∷ xs) = omega (arith, length-append (f x) (flat_map f xs), each x, long_row f n each xs)

pub one_row : {X : Type 0} (f : X → List ℕ) (P : X → Type 0) (n : ℕ) → ((x : X) → length (f x) ≡ n) → ((x y : X) → P x → P y → f x ≡ f y → x ≡ y)
    → (xs ys : List X) → length xs ≡ length ys → AllByRecursion P xs → AllByRecursion P ys → flat_map f xs ≡ flat_map f ys → xs ≡ ys
one_row f P n each one [] [] same ps qs e = refl
one_row f P n each one [] (y ∷ ys) same ps qs e = absurd (omega arith)
one_row f P n each one (x ∷ xs) [] same ps qs e = absurd (omega arith)
one_row f P n each one (x ∷ xs) (y ∷ ys) same ps qs e =
    let both = same_fronts (f x) (f y) (flat_map f xs) (flat_map f ys) (each x ∙ sym (each y)) e in
    ap₂ (λ h t. h ∷ t) (one x y ps.0 qs.0 both.0) (one_row f P n each one xs ys (omega arith) ps.1 qs.1 both.1)

pub each_push : {X : Type 0} (P : X → Type 0) (done : List X) (x : X) → AllByRecursion P done → P x → AllByRecursion P (done ++ x ∷ [])
each_push P [] x each is = (is, tt)
each_push P (y ∷ done) x each is = (each.0, each_push P done x each.1 is)

pub each_taken : {X : Type 0} (P Q : X → Type 0) → ((x : X) → P x → Q x) → (xs : List X) → AllByRecursion P xs → AllByRecursion Q xs
each_taken P Q step [] each = tt
each_taken P Q step (x ∷ xs) each = (step x each.0, each_taken P Q step xs each.1)

-- a list that has one item
pub one_item : {X : Type 0} (xs : List X) (x : X) → 1 ≤ length xs → length xs < 2 → x ≡ get_or xs 0 x → xs ≡ x ∷ []
one_item [] x some few is = absurd (omega arith)
one_item (y ∷ []) x some few is = ap (λ z. z ∷ []) (sym is)
one_item (y ∷ z ∷ xs) x some few is = absurd (omega arith)

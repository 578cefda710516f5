-- The values of texts, one after another.
use Rattle.std.proofs.Common.{◌≡◌, ℕ, zero, suc, ◌+◌, ◌<◌, ◌⊎◌, inl, inr, ℤ, Bool, true, false, List, [], ◌∷◌, ◌++◌, map, length, get_or, take, refl, sym, ap, subst, ◌∙◌, arith, to_z, of_z, to_z-of_z}
use mir.Syntax.{w64}
use Rattle.std.proofs.lemmas.Int.{ints}
use Rattle.std.proofs.lemmas.List.{map_more}
use Rattle.std.specs.List.{AllByRecursion}
use Rattle.ak_base.specs.declared.refusal.Refusal.{Refusal}
use Rattle.ak_base.specs.declared.refusal.Refusal.TheVariants.{BadValue, ValueRange}
use Rattle.ak_base.specs.Values.{IsValue, ReadsValue}
use Rattle.ak_run.specs.Asking.{HaveValues}

-- The texts have values: these, all in range, or others, of which one isn't.
abbrev pub Stands : ℕ → List (List ℕ) → Bool → List ℤ → Type 0
Stands scale texts true vs = HaveValues scale texts vs × AllByRecursion IsValue vs
Stands scale texts false vs = (all : List ℤ) × HaveValues scale texts all × ¬ (AllByRecursion IsValue all)

have_push : (scale : ℕ) (texts : List (List ℕ)) (text : List ℕ) (vs : List ℤ) (v : ℤ) → HaveValues scale texts vs → ReadsValue text scale v → HaveValues scale (texts ++ text ∷ []) (vs ++ v ∷ [])
have_push scale [] text vs v h r = (v, [], ap (λ l. l ++ v ∷ []) h, r, refl)
have_push scale (t ∷ ts) text vs v h r = (h.0, h.1 ++ v ∷ [], ap (λ l. l ++ v ∷ []) h.2, h.3, have_push scale ts text h.1 v h.4 r)

all_push : (vs : List ℤ) (v : ℤ) → AllByRecursion IsValue vs → IsValue v → AllByRecursion IsValue (vs ++ v ∷ [])
all_push [] v h k = (k, tt)
all_push (w ∷ ws) v h k = (h.0, all_push ws v h.1 k)

all_pushed : (vs : List ℤ) (v : ℤ) → AllByRecursion IsValue (vs ++ v ∷ []) → AllByRecursion IsValue vs × IsValue v
all_pushed [] v h = (tt, h.0)
all_pushed (w ∷ ws) v h = let rest = all_pushed ws v h.1 in ((h.0, rest.0), rest.1)

value_stands : (scale : ℕ) (texts : List (List ℕ)) (text : List ℕ) (b : Bool) (vs : List ℤ) (v : ℤ) → Stands scale texts b vs → ReadsValue text scale v → IsValue v → Stands scale (texts ++ text ∷ []) b (vs ++ v ∷ [])
value_stands scale texts text true vs v h r k = (have_push scale texts text vs v h.0 r, all_push vs v h.1 k)
value_stands scale texts text false vs v h r k = (h.0 ++ v ∷ [], have_push scale texts text h.0 v h.1 r, λ all. h.2 (all_pushed h.0 v all).0)

range_stands : (scale : ℕ) (texts : List (List ℕ)) (text : List ℕ) (b : Bool) (vs : List ℤ) (v : ℤ) → Stands scale texts b vs → ReadsValue text scale v → ¬ (IsValue v) → Stands scale (texts ++ text ∷ []) false vs
range_stands scale texts text true vs v h r k = (vs ++ v ∷ [], have_push scale texts text vs v h.0 r, λ all. k (all_pushed vs v all).1)
range_stands scale texts text false vs v h r k = (h.0 ++ v ∷ [], have_push scale texts text h.0 v h.1 r, λ all. h.2 (all_pushed h.0 v all).0)

take_next : {X : Type 0} (f : X → List ℕ) (xs : List X) (i : ℕ) (x : X) → i < length xs → x ≡ get_or xs i x → map f (take i xs) ++ f x ∷ [] ≡ map f (take (i + 1) xs)
take_next f xs i x h e = ap (λ z. map f (take i xs) ++ f z ∷ []) e ∙ sym (map_more f xs i x h)

pub value_more : {X : Type 0} (f : X → List ℕ) (xs : List X) (i : ℕ) (x : X) (scale : ℕ) (b : Bool) (vs : List ℤ) (v : ℤ) → i < length xs → x ≡ get_or xs i x → Stands scale (map f (take i xs)) b vs → ReadsValue (f x) scale v → IsValue v → Stands scale (map f (take (i + 1) xs)) b (vs ++ v ∷ [])
value_more f xs i x scale b vs v h e s r k = subst (λ ts. Stands scale ts b (vs ++ v ∷ [])) (take_next f xs i x h e) (value_stands scale (map f (take i xs)) (f x) b vs v s r k)

pub range_more : {X : Type 0} (f : X → List ℕ) (xs : List X) (i : ℕ) (x : X) (scale : ℕ) (b : Bool) (vs : List ℤ) (v : ℤ) → i < length xs → x ≡ get_or xs i x → Stands scale (map f (take i xs)) b vs → ReadsValue (f x) scale v → ¬ (IsValue v) → Stands scale (map f (take (i + 1) xs)) false vs
range_more f xs i x scale b vs v h e s r k = subst (λ ts. Stands scale ts false vs) (take_next f xs i x h e) (range_stands scale (map f (take i xs)) (f x) b vs v s r k)

-- one text without a value leaves all without
pub no_values : {X : Type 0} (f : X → List ℕ) (xs : List X) (i : ℕ) (x : X) (scale : ℕ) → i < length xs → x ≡ get_or xs i x → ((v : ℤ) → ¬ (ReadsValue (f x) scale v)) → (vs : List ℤ) → ¬ (HaveValues scale (map f xs) vs)
no_values f [] i x scale h e never vs k = absurd (omega arith)
no_values f (y ∷ ys) zero x scale h e never vs k = never k.0 (subst (λ z. ReadsValue (f z) scale k.0) (sym e) k.3)
no_values f (y ∷ ys) (suc i) x scale h e never vs k = no_values f ys i x scale (omega arith) e never k.1 k.4

pub is_bad : (e : Refusal) → (e ≡ BadValue) ⊎ (e ≡ ValueRange) → ¬ (e ≡ ValueRange) → e ≡ BadValue
is_bad e (inl bad) other = bad
is_bad e (inr range) other = absurd (other range)

-- such a value comes back from its bits
pub value_back : (v : ℤ) → IsValue v → v ≡ to_z w64 (of_z w64 v)
value_back v h = search (arith, ints, to_z-of_z)

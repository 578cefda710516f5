-- Texts of decimals and the units that they read as.
use Rattle.std.proofs.Common.{◌≡◌, ◌≢◌, ℕ, zero, suc, ◌+◌, ◌-◌, ◌*◌, ◌^◌, ◌<◌, ◌≤◌, min, inl, inr, false, ◌==◌, List, [], ◌∷◌, ◌++◌, length, get_or, take, drop, Option, Some, None, IfSome, IfNone, SomeIff, refl, sym, ap, ap₂, subst, ◌∙◌, arith, rules, take_all, take-append-drop, length-append, append-nil}
use Rattle.std.proofs.lemmas.Bool.Decides.{nat_tests}
use Rattle.std.proofs.lemmas.List.{take_min, drop_min}
use Rattle.std.specs.Char.{digit_value}
use Rattle.std.specs.Str.Parse.{AllDigits, digits_value, digits_value_after}
use Rattle.ak_base.specs.Values.{AreZeros, IsTail, ReadsUnits}
use Rattle.ak_base.proofs.Numerals.{digit-at, digits-take, digits_zeros, after-append, after_kept, times_kept, tens_pos}

-- a fraction whose kept places aren't all digits is none
pub not_digits : (f kept : List ℕ) (places count : ℕ) → kept ≡ take places f → length kept ≡ places → count < places → (count < length kept → 10 ≤ digit_value (get_or kept count 0)) → ¬ (AllDigits 10 f)
not_digits f kept places count is long less end digits =
    let inside : count < length kept = omega arith in
    omega (arith, end inside, digit-at kept count (subst (AllDigits 10) (sym is) (digits-take places f digits)) inside)

-- a fraction by its kept places and those past them
pub record IsCut (f kept past : List ℕ) (scale places : ℕ) : Type 0 where
  pub count : places ≡ min scale (length f)
  pub front : kept ≡ take places f
  pub rest : past ≡ drop places f
  pub long : length kept ≡ places

pub fraction_units : (w scale places count n p r : ℕ) (f kept past : List ℕ) → IsCut f kept past scale places → AllDigits 10 (take count kept) → places ≤ count → AreZeros past
    → n ≡ min (digits_value_after 10 w (take count kept)) (2 ^ 64 - 1) → p ≡ 10 ^ (scale - places) → r ≡ min (n * p) (2 ^ 64 - 1)
    → (AllDigits 10 f × AreZeros (drop scale f)) × (r ≡ min (digits_value_after 10 w (take scale f) * 10 ^ (scale - length (take scale f))) (2 ^ 64 - 1))
fraction_units w scale places count n p r f kept past cut digits full zeros number power product =
    let front : kept ≡ take scale f = cut.front ∙ (ap (λ k. take k f) cut.count ∙ take_min scale f) in
    let rest : past ≡ drop scale f = cut.rest ∙ (ap (λ k. drop k f) cut.count ∙ drop_min scale f) in
    let all : take count kept ≡ take scale f = take_all count kept (omega (arith, cut.long)) ∙ front in
    let v : ℕ = digits_value_after 10 w (take scale f) in
    let t : ℕ = 10 ^ (scale - length (take scale f)) in
    let number' : n ≡ min v (2 ^ 64 - 1) = number ∙ ap (λ ds. min (digits_value_after 10 w ds) (2 ^ 64 - 1)) all in
    let power' : p ≡ t = power ∙ ap (λ k. 10 ^ (scale - k)) (sym cut.long ∙ ap length front) in
    let same : min (min v (2 ^ 64 - 1)) (2 ^ 64 - 1) ≡ min v (2 ^ 64 - 1) = omega arith in (
      (digits_zeros scale f (subst (AllDigits 10) all digits) (subst AreZeros rest zeros), subst AreZeros rest zeros),
      product ∙ (ap₂ (λ x y. min (x * y) (2 ^ 64 - 1)) number' power' ∙ times_kept (min v (2 ^ 64 - 1)) v t (tens_pos (scale - length (take scale f))) same),
    )

abbrev pub BeginsOtherwise : List ℕ → Type 0
BeginsOtherwise [] = Unit {0}
BeginsOtherwise (c ∷ cs) = 10 ≤ digit_value c

-- digits end where other bytes begin
one_split : (a x b y : List ℕ) → AllDigits 10 a → AllDigits 10 b → BeginsOtherwise x → BeginsOtherwise y → a ++ x ≡ b ++ y → (a ≡ b) × (x ≡ y)
one_split [] x [] y p q g h e = (refl, e)
one_split [] x (d ∷ b) y p q g h e = let other : 10 ≤ digit_value d = subst BeginsOtherwise e g in absurd (omega (arith, other, q.0))
one_split (c ∷ a) x [] y p q g h e = let other : 10 ≤ digit_value c = subst BeginsOtherwise (sym e) h in absurd (omega (arith, other, p.0))
one_split (c ∷ a) x (d ∷ b) y p q g h e =
    let first : c ≡ d = cc in
    let behind : a ++ x ≡ b ++ y = cc in
    let rest = one_split a x b y p.1 q.1 g h behind in
    (ap₂ (λ z zs. z ∷ zs) first rest.0, rest.1)

tail_begins : (t f : List ℕ) → IsTail t f → BeginsOtherwise t
tail_begins t f (inl e) = rw e.0 tt
tail_begins t f (inr e) = rw e (search (rules, arith))

-- one fraction stands in a tail
one_fraction : (t f g : List ℕ) → IsTail t f → IsTail t g → f ≡ g
one_fraction t f g (inl a) (inl b) = a.1 ∙ sym b.1
one_fraction t f g (inl a) (inr b) = let e : [] ≡ 46 ∷ g = sym a.0 ∙ b in cc
one_fraction t f g (inr a) (inl b) = let e : [] ≡ 46 ∷ f = sym b.0 ∙ a in cc
one_fraction t f g (inr a) (inr b) = let e : 46 ∷ f ≡ 46 ∷ g = sym a ∙ b in cc

abbrev units : ℕ → List ℕ → List ℕ → ℕ
units scale w f = digits_value 10 (w ++ take scale f) * 10 ^ (scale - length (take scale f))

-- a text reads as units in one way
pub one_reading : (text : List ℕ) (scale m n : ℕ) → ReadsUnits text scale m → ReadsUnits text scale n → m ≡ n
one_reading text scale m n a b =
    let split = one_split a.whole a.tail b.whole b.tail a.whole_digits b.whole_digits (tail_begins a.tail a.fraction a.point) (tail_begins b.tail b.fraction b.point) (sym a.parts ∙ b.parts) in
    let fraction = one_fraction b.tail a.fraction b.fraction (subst (λ t. IsTail t a.fraction) split.1 a.point) b.point in
    a.value ∙ (ap₂ (units scale) split.0 fraction ∙ sym b.value)

-- where the digits at the front of a text end
pub record IsFront (text : List ℕ) (i : ℕ) : Type 0 where
  pub digits : AllDigits 10 (take i text)
  pub end : i < length text → 10 ≤ digit_value (get_or text i 0)

rest_begins : (i : ℕ) (text : List ℕ) → (i < length text → 10 ≤ digit_value (get_or text i 0)) → BeginsOtherwise (drop i text)
rest_begins zero [] end = tt
rest_begins zero (c ∷ cs) end = end (omega arith)
rest_begins (suc i) [] end = tt
rest_begins (suc i) (c ∷ cs) end = rest_begins i cs (λ h. end (omega arith))

same_parts : (text : List ℕ) (i scale n : ℕ) → IsFront text i → (s : ReadsUnits text scale n) → (take i text ≡ s.whole) × (drop i text ≡ s.tail)
same_parts text i scale n f s =
    one_split (take i text) (drop i text) s.whole s.tail f.digits s.whole_digits (rest_begins i text f.end) (tail_begins s.tail s.fraction s.point) (take-append-drop i text ∙ s.parts)

same_fraction : (text f : List ℕ) (i scale n : ℕ) → IsFront text i → IsTail (drop i text) f → (s : ReadsUnits text scale n) → f ≡ s.fraction
same_fraction text f i scale n front point s =
    one_fraction s.tail f s.fraction (subst (λ t. IsTail t f) (same_parts text i scale n front s).1 point) s.point

pub no_tail : (text : List ℕ) (i scale : ℕ) → IsFront text i → ((f : List ℕ) → ¬ (IsTail (drop i text) f)) → (n : ℕ) → ¬ (ReadsUnits text scale n)
no_tail text i scale front never n s = never s.fraction (subst (λ t. IsTail t s.fraction) (sym (same_parts text i scale n front s).1) s.point)

pub no_digits : (text f : List ℕ) (i scale : ℕ) → IsFront text i → IsTail (drop i text) f → i ≡ 0 → f ≡ [] → (n : ℕ) → ¬ (ReadsUnits text scale n)
no_digits text f i scale front point none empty n s =
    let whole : s.whole ≡ [] = sym (same_parts text i scale n front s).0 ∙ ap (λ k. take k text) none in
    let fraction : s.fraction ≡ [] = sym (same_fraction text f i scale n front point s) ∙ empty in
    s.some (ap₂ (λ x y. x ++ y) whole fraction)

pub some_digits : (w f : List ℕ) → 0 < length w + length f → w ++ f ≢ []
some_digits w f h e = let none : length (w ++ f) ≡ 0 = ap length e in omega (arith, length-append w f)

pub not_empty : (n : ℕ) → false ≡ (n == 0) → 0 < n
not_empty n h = grind (arith, nat_tests)

abbrev IsExact : ℕ → List ℕ → Type 0
IsExact scale f = AllDigits 10 f × AreZeros (drop scale f)

abbrev kept_units : ℕ → ℕ → List ℕ → ℕ
kept_units w scale f = min (digits_value_after 10 w (take scale f) * 10 ^ (scale - length (take scale f))) (2 ^ 64 - 1)

kept_same : (w scale : ℕ) (ds f : List ℕ) → w ≡ min (digits_value_after 10 0 ds) (2 ^ 64 - 1) → kept_units w scale f ≡ min (units scale ds f) (2 ^ 64 - 1)
kept_same w scale ds f e =
    let d : ℕ = digits_value_after 10 0 ds in
    let same : min w (2 ^ 64 - 1) ≡ min d (2 ^ 64 - 1) = omega (arith, e) in
    times_kept (digits_value_after 10 w (take scale f)) (digits_value 10 (ds ++ take scale f)) (10 ^ (scale - length (take scale f))) (tens_pos (scale - length (take scale f)))
    (after_kept w d (take scale f) same ∙ ap (λ x. min x (2 ^ 64 - 1)) (sym (after-append 0 ds (take scale f))))

pub units_some : (text f : List ℕ) (i scale w : ℕ) (r : Option ℕ) → IsFront text i → IsTail (drop i text) f → take i text ++ f ≢ [] → w ≡ min (digits_value_after 10 0 (take i text)) (2 ^ 64 - 1)
    → SomeIff r (IsExact scale f) (kept_units w scale f) → IfSome r (λ u. (n : ℕ) × ReadsUnits text scale n × (u ≡ min n (2 ^ 64 - 1)))
units_some text f i scale w None front point some e h = tt
units_some text f i scale w (Some u) front point some e h = (
  units scale (take i text) f,
  record {
    whole = take i text;
    tail = drop i text;
    fraction = f;
    parts = sym (take-append-drop i text);
    point = point;
    whole_digits = front.digits;
    fraction_digits = h.0.0;
    some = some;
    exact = h.0.1;
    value = refl;
  },
  h.1 ∙ kept_same w scale (take i text) f e,
)

pub units_none : (text f : List ℕ) (i scale w : ℕ) (r : Option ℕ) → IsFront text i → IsTail (drop i text) f
    → SomeIff r (IsExact scale f) (kept_units w scale f) → IfNone r ((n : ℕ) → ¬ (ReadsUnits text scale n))
units_none text f i scale w (Some u) front point h = tt
units_none text f i scale w None front point h = λ n s.
    let same = same_fraction text f i scale n front point s in
    h (subst (IsExact scale) (sym same) (s.fraction_digits, s.exact))

nothing_taken : (k : ℕ) → take {A = ℕ} k [] ≡ []
nothing_taken zero = refl
nothing_taken (suc k) = refl

no_zeros : (k : ℕ) → AreZeros (drop k [])
no_zeros zero = tt
no_zeros (suc k) = tt

-- a text of digits alone reads as their number, raised by the scale
pub plain_units : (text : List ℕ) (scale n : ℕ) → 0 < length text → AllDigits 10 text → n ≡ digits_value_after 10 0 text → ReadsUnits text scale (n * 10 ^ scale)
plain_units text scale n long digits is = record {
  whole = text;
  tail = [];
  fraction = [];
  parts = sym (append-nil text);
  point = inl (refl, refl);
  whole_digits = digits;
  fraction_digits = tt;
  some = some_digits text [] (omega (arith, long));
  exact = no_zeros scale;
  value =
      let whole_power : scale ≡ scale - 0 = omega arith in
      ap₂ (λ m k. m * 10 ^ k) (is ∙ ap (digits_value_after 10 0) (sym (append-nil text))) whole_power
      ∙ ap (λ (l : List ℕ). digits_value_after 10 0 (text ++ l) * 10 ^ (scale - length l)) (sym (nothing_taken scale));
}

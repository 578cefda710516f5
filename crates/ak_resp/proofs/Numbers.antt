-- Numbers of at most 19 digits.
use Rattle.std.proofs.Common.{ℕ, ◌≡◌, ◌+◌, ◌*◌, ◌-◌, ◌<◌, ◌≤◌, ◌++◌, ◌∙◌, List, [], ◌∷◌, zero, suc, length, take, drop, get_or, arith, sym, subst, ap, refl, length-take-le, take-add}
use Rattle.std.proofs.lemmas.List.{take_more, length-drop}
use Rattle.std.specs.List.{AllByRecursion}
use Rattle.ak_resp.specs.Grammar.{IsDigit, IsNumber, number_from}
use Rattle.ak_resp.specs.Puts.{IsCount, IsTimeText}
use Rattle.ak_resp.proofs.Sound.{number_snoc, all_snoc}

-- a digit is below ten
digit_below : (b : ℕ) → IsDigit b → b - 48 < 10
digit_below b d = omega (arith, d.least, d.most)

-- a number with so many nines behind it
abbrev nines : ℕ → ℕ → ℕ
nines zero m = m
nines (suc k) m = nines k (m * 10 + 9)

nines_least : (k m : ℕ) → m ≤ nines k m
nines_least zero m = omega arith
nines_least (suc k) m = omega (arith, nines_least k (m * 10 + 9))

number_below : (k n m : ℕ) (ds : List ℕ) → AllByRecursion IsDigit ds → n ≤ m → length ds ≤ k → number_from n ds ≤ nines k m
number_below k n m [] h least short = omega (arith, least, nines_least k m)
number_below zero n m (d ∷ ds) h least short = absurd (omega (arith, short))
number_below (suc k) n m (d ∷ ds) h least short =
    number_below k (n * 10 + (d - 48)) (m * 10 + 9) ds h.1 (omega (arith, least, digit_below d h.0)) (omega (arith, short))

-- what less than 19 digits stand for
pub count_small : (xs : List ℕ) (n v : ℕ) → IsCount xs n v → n < 19 → v ≤ 999999999999999999
count_small xs n v c few =
    let long : length (take n xs) ≡ n = length-take-le n xs c.within in
    let below : number_from 0 (take n xs) ≤ nines 18 0 = number_below 18 0 0 (take n xs) c.each (omega arith) (omega (arith, long, few)) in
    subst (λ (k : ℕ). k ≤ 999999999999999999) c.value below

pub count_more : (xs : List ℕ) (n v : ℕ) → IsCount xs n v → n < 19 → n < length xs → IsDigit (get_or xs n 0) → IsCount xs (n + 1) (v * 10 + (get_or xs n 0 - 48))
count_more xs n v c most within digit =
    let more = take_more xs n 0 within in record {
      within = omega (arith, within);
      most = omega (arith, most);
      each = subst (AllByRecursion IsDigit) (sym more) (all_snoc IsDigit (take n xs) (get_or xs n 0) c.each digit);
      value = ap (number_from 0) more ∙ number_snoc 0 (take n xs) (get_or xs n 0) ∙ ap (λ k. k * 10 + (get_or xs n 0 - 48)) c.value;
    }

-- digits that stand in a line are a number
pub count_number : (xs : List ℕ) (n v : ℕ) → 0 < n → IsCount xs n v → IsNumber (take n xs) v
count_number xs n v some c =
    let long : length (take n xs) ≡ n = length-take-le n xs c.within in record {
      some = λ e. omega (arith, some, long, ap length e);
      short = omega (arith, long, c.most);
      each = c.each;
      value = c.value;
    }

pub count_time : (xs : List ℕ) (n v : ℕ) → 0 < n → IsCount xs n v → IsTimeText (take n xs) v
count_time xs n v some c =
    let long : length (take n xs) ≡ n = length-take-le n xs c.within in record {
      some = omega (arith, some, long);
      short = omega (arith, long, c.most);
      digits = c.each;
      value = c.value;
    }

-- a number with so many digits 0 behind it
abbrev shifted : ℕ → ℕ → ℕ
shifted zero n = n
shifted (suc k) n = shifted k (n * 10)

shifted_sum : (k a b : ℕ) → shifted k (a + b) ≡ shifted k a + shifted k b
shifted_sum zero a b = refl
shifted_sum (suc k) a b = let tens : (a + b) * 10 ≡ a * 10 + b * 10 = omega arith in ap (shifted k) tens ∙ shifted_sum k (a * 10) (b * 10)

number_behind : (n : ℕ) (ds : List ℕ) → number_from n ds ≡ shifted (length ds) n + number_from 0 ds
number_behind n [] = omega arith
number_behind n (d ∷ ds) =
    let all : number_from (n * 10 + (d - 48)) ds ≡ shifted (length ds) (n * 10 + (d - 48)) + number_from 0 ds = number_behind (n * 10 + (d - 48)) ds in
    let rest : number_from (0 * 10 + (d - 48)) ds ≡ shifted (length ds) (0 * 10 + (d - 48)) + number_from 0 ds = number_behind (0 * 10 + (d - 48)) ds in
    let zeros : 0 * 10 + (d - 48) ≡ d - 48 = omega arith in
    omega (arith, all, rest, shifted_sum (length ds) (n * 10) (d - 48), ap (shifted (length ds)) zeros)

number_append : (n : ℕ) (xs ys : List ℕ) → number_from n (xs ++ ys) ≡ number_from (number_from n xs) ys
number_append n [] ys = refl
number_append n (x ∷ xs) ys = number_append (n * 10 + (x - 48)) xs ys

all_append : (xs ys : List ℕ) → AllByRecursion IsDigit xs → AllByRecursion IsDigit ys → AllByRecursion IsDigit (xs ++ ys)
all_append [] ys h k = k
all_append (x ∷ xs) ys h k = (h.0, all_append xs ys h.1 k)

-- eight digits and eight more
pub counts_joined : (xs : List ℕ) (front back : ℕ) → IsCount xs 8 front → IsCount (drop 8 xs) 8 back → IsCount xs 16 (front * 100000000 + back)
counts_joined xs front back c d =
    let both : take 16 xs ≡ take 8 xs ++ take 8 (drop 8 xs) = take-add 8 8 xs in
    let long : length (take 8 (drop 8 xs)) ≡ 8 = length-take-le 8 (drop 8 xs) d.within in
    let split : number_from 0 (take 8 xs ++ take 8 (drop 8 xs)) ≡ number_from front (take 8 (drop 8 xs)) =
    number_append 0 (take 8 xs) (take 8 (drop 8 xs)) ∙ ap (λ n. number_from n (take 8 (drop 8 xs))) c.value in
    let behind : number_from front (take 8 (drop 8 xs)) ≡ shifted 8 front + back =
    number_behind front (take 8 (drop 8 xs)) ∙ ap (λ k. shifted k front + number_from 0 (take 8 (drop 8 xs))) long ∙ ap (λ n. shifted 8 front + n) d.value in
    record {
      within = omega (arith, d.within, c.within, length-drop 8 xs);
      most = omega arith;
      each = subst (AllByRecursion IsDigit) (sym both) (all_append (take 8 xs) (take 8 (drop 8 xs)) c.each d.each);
      value = omega (arith, ap (number_from 0) both, split, behind);
    }

pub count_none : (xs : List ℕ) → IsCount xs 0 0
count_none xs = record { within = omega arith; most = omega arith; each = tt; value = refl }

pub eight : (xs : List ℕ) → 8 ≤ length xs → IsDigit (get_or xs 0 0) → IsDigit (get_or xs 1 0) → IsDigit (get_or xs 2 0) → IsDigit (get_or xs 3 0) → IsDigit (get_or xs 4 0) →
    IsDigit (get_or xs 5 0) → IsDigit (get_or xs 6 0) → IsDigit (get_or xs 7 0) → (n : ℕ) →
    ((get_or xs 0 0 - 48) * 1000 + (get_or xs 1 0 - 48) * 100 + (get_or xs 2 0 - 48) * 10 + (get_or xs 3 0 - 48)) * 10000
    + ((get_or xs 4 0 - 48) * 1000 + (get_or xs 5 0 - 48) * 100 + (get_or xs 6 0 - 48) * 10 + (get_or xs 7 0 - 48)) ≡ n → IsCount xs 8 n
eight xs long a b c d e f g h n is =
    let c0 = count_more xs 0 0 (count_none xs) (omega arith) (omega (arith, long)) a in
    let c1 = count_more xs 1 _ c0 (omega arith) (omega (arith, long)) b in
    let c2 = count_more xs 2 _ c1 (omega arith) (omega (arith, long)) c in
    let c3 = count_more xs 3 _ c2 (omega arith) (omega (arith, long)) d in
    let c4 = count_more xs 4 _ c3 (omega arith) (omega (arith, long)) e in
    let c5 = count_more xs 5 _ c4 (omega arith) (omega (arith, long)) f in
    let c6 = count_more xs 6 _ c5 (omega arith) (omega (arith, long)) g in
    let c7 = count_more xs 7 _ c6 (omega arith) (omega (arith, long)) h in
    record { within = c7.within; most = c7.most; each = c7.each; value = omega (arith, c7.value, is) }

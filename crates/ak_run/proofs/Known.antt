-- A put whose text names one series asks for a point of it.
use Rattle.std.proofs.Common.{ℕ, ℤ, pos, neg_ℤ, ◌==◌, ◌≡◌, ◌≢◌, ◌⊎◌, ◌+◌, ◌-◌, ◌*◌, ◌^◌, ◌<◌, ◌≤◌, ◌++◌, List, [], ◌∷◌, map, length, inl, inr, refl, sym, ap, ◌∙◌, subst, arith, Ok, Err, Some, cond, false}
use Rattle.std.specs.Char.{digit_value}
use Rattle.std.specs.List.{AllByRecursion, count_by}
use Rattle.std.specs.Str.Parse.{AllDigits, digits_value, digits_value_after, without_leading_sign}
use Rattle.std.proofs.Math.Nat.{pow-le-pow_right}
use Rattle.std.proofs.lemmas.Bool.Decides.{nat_tests}
use Rattle.std.proofs.lemmas.Int.Digits.{digits_value-lt}
use Rattle.std.proofs.lemmas.List.{length-map}
use Rattle.std.proofs.lemmas.List.Splits.{length-slice_split}
use Rattle.ak_base.specs.declared.refusal.Refusal.{Refusal}
use Rattle.ak_base.specs.declared.refusal.Refusal.TheVariants.{BadValue, ValueRange, CountsDiffer}
use Rattle.ak_base.specs.Values.{IsValue, ReadsValue}
use Rattle.ak_names.specs.Names.{words_of, metric_count, metrics_of, tail_of, DoesName}
use Rattle.ak_resp.specs.Grammar.{IsDigit, number_from}
use Rattle.ak_resp.specs.declared.message.Message.{Message}
use Rattle.ak_resp.specs.declared.puts.WholePut.{WholePut}
use Rattle.ak_resp.specs.Puts.{IsPutOf, IsTimed}
use Rattle.ak_run.specs.declared.asked.Asked.{Asked}
use Rattle.ak_run.specs.declared.asked.Asked.TheVariants.{Points, Refused}
use Rattle.ak_run.specs.Asking.{Asks, PutAsks, TimeGives}
use Rattle.ak_run.proofs.Timed.{stamp_is}
use Rattle.ak_time.specs.Times.{whole}

-- ---- Times

digit_is : (b : ℕ) → IsDigit b → (digit_value b ≡ b - 48) × (digit_value b < 10)
digit_is b d = let least = d.least in let most = d.most in grind (arith, nat_tests)

all_digits : (ds : List ℕ) → AllByRecursion IsDigit ds → AllDigits 10 ds
all_digits [] each = tt
all_digits (d ∷ ds) each = ((digit_is d each.0).1, all_digits ds each.1)

same_number : (n : ℕ) (ds : List ℕ) → AllByRecursion IsDigit ds → digits_value_after 10 n ds ≡ number_from n ds
same_number n [] each = refl
same_number n (d ∷ ds) each = ap (λ v. digits_value_after 10 (n * 10 + v) ds) (digit_is d each.0).0 ∙ same_number (n * 10 + (d - 48)) ds each.1

small_number : (text : List ℕ) (ts : ℕ) → length text ≤ 19 → AllDigits 10 text → digits_value 10 text ≡ ts → ts < 2 ^ 64
small_number text ts short digits is =
    let below : digits_value 10 text < 10 ^ length text = digits_value-lt 10 text digits in
    let most : 10 ^ length text ≤ 10 ^ 19 = pow-le-pow_right (omega arith) short in
    omega (arith, below, most, is)

-- 1 to 19 digits are a time
pub digits_give : (text : List ℕ) (ts : ℕ) → 1 ≤ length text → length text ≤ 19 → AllByRecursion IsDigit text → number_from 0 text ≡ ts → TimeGives text (Ok ts)
digits_give [] ts some short each is = absurd (omega arith)
digits_give (d ∷ ds) ts some short each is =
    let digits = all_digits (d ∷ ds) each in
    let first = each.0.least in
    let last = each.0.most in
    let no_minus : (d == 45) ≡ false = grind (arith, nat_tests) in
    let no_plus : (d == 43) ≡ false = grind (arith, nat_tests) in
    let bare : without_leading_sign (d ∷ ds) ≡ d ∷ ds = rw (no_minus, no_plus) refl in
    let value : digits_value 10 (d ∷ ds) ≡ ts = same_number 0 (d ∷ ds) each ∙ is in
    let number : whole (d ∷ ds) ≡ pos ts =
    ap (λ b. cond b (neg_ℤ (pos (digits_value 10 (without_leading_sign (d ∷ ds))))) (pos (digits_value 10 (without_leading_sign (d ∷ ds))))) no_minus
    ∙ ap (λ l. pos (digits_value 10 l)) bare ∙ ap pos value in
    let small : ts < 2 ^ 64 = small_number (d ∷ ds) ts short digits value in
    (subst (λ l. (0 < length l) × AllDigits 10 l) (sym bare) (omega arith, digits), number, stamp_is ts (whole (d ∷ ds)) number small)

pub time_gives : (put : WholePut) → IsTimed put → TimeGives put.time.text.now (Ok put.ts)
time_gives put timed = digits_give put.time.text.now put.ts timed.some timed.short timed.digits timed.value

-- ---- Values

pub one_metric : (text name : List ℕ) → DoesName text (name ∷ []) → 1 ≡ metric_count (words_of text)
one_metric text name d =
    let tail = tail_of d.named.sorted in
    let count : length (name ∷ []) ≡ length (metrics_of d.first) = ap length d.named.names_are ∙ length-map (metrics_of d.first) (λ metric. metric ++ tail) in
    let split : length (metrics_of d.first) ≡ count_by (λ b. b == 124) d.first + 1 = length-slice_split (λ b. b == 124) d.first in
    let one : 1 ≡ metric_count (d.first ∷ d.others) = omega (arith, count, split) in
    subst (λ (ws : List (List ℕ)). 1 ≡ metric_count ws) (sym d.words) one

known_asks : (scale : ℕ) (text name time value : List ℕ) (ts : ℕ) (v : ℤ) → DoesName text (name ∷ []) → TimeGives time (Ok ts) → ReadsValue value scale v → IsValue v
    → PutAsks scale text time (value ∷ []) (Points (name ∷ []) ts (v ∷ []))
known_asks scale text name time value ts v named gives reads is =
    inr (one_metric text name named, Some (name ∷ []), named, (Ok ts, gives, (Ok (v ∷ []), ((v, [], refl, reads, refl), (is, tt)), refl)))

bad_value : (scale : ℕ) (text name time value : List ℕ) (ts : ℕ) (e : Refusal) → DoesName text (name ∷ []) → TimeGives time (Ok ts)
    → (e ≡ BadValue) ⊎ (e ≡ ValueRange) → (e ≡ BadValue → (v : ℤ) → ¬ (ReadsValue value scale v))
    → (e ≡ ValueRange → (v : ℤ) × ReadsValue value scale v × ¬ (IsValue v)) → PutAsks scale text time (value ∷ []) (Refused e)
bad_value scale text name time value ts e named gives (inl h) bad range =
    inr (one_metric text name named, Some (name ∷ []), named, (Ok ts, gives, (Err e, inl (h, λ vs k. bad h k.0 k.3), refl)))
bad_value scale text name time value ts e named gives (inr h) bad range =
    let k = range h in
    inr (one_metric text name named, Some (name ∷ []), named, (Ok ts, gives, (Err e, inr (h, k.0 ∷ [], (k.0, [], refl, k.1, refl), λ all. k.2 all.0), refl)))

counts_differ : (scale : ℕ) (text name time : List ℕ) (values : List (List ℕ)) → DoesName text (name ∷ []) → length values ≢ 1 → PutAsks scale text time values (Refused CountsDiffer)
counts_differ scale text name time values named many = inl (λ same. many (same ∙ sym (one_metric text name named)), refl)

-- ---- Puts

module _ (put : WholePut) (m : Message) (is : IsPutOf put m) (scale : ℕ) where
  of_values : (values : List (List ℕ)) (asked : Asked) → map (λ v. v.bytes) is.parts ≡ values → PutAsks scale put.name.text.now put.time.text.now values asked → Asks scale m asked
  of_values values asked same asks =
      subst (λ x. Asks scale x asked) (sym is.is) (subst (λ vs. PutAsks scale put.name.text.now put.time.text.now vs asked) (sym same) asks)

  pub put_known : (timed : IsTimed put) (name value : List ℕ) (v : ℤ) → DoesName put.name.text.now (name ∷ []) → map (λ v. v.bytes) is.parts ≡ value ∷ [] → ReadsValue value scale v → IsValue v
      → Asks scale m (Points (name ∷ []) put.ts (v ∷ []))
  put_known timed name value v named same reads fits =
      of_values (value ∷ []) (Points (name ∷ []) put.ts (v ∷ [])) same (known_asks scale put.name.text.now name put.time.text.now value put.ts v named (time_gives put timed) reads fits)

  pub put_bad : (timed : IsTimed put) (name value : List ℕ) (e : Refusal) → DoesName put.name.text.now (name ∷ []) → map (λ v. v.bytes) is.parts ≡ value ∷ []
      → (e ≡ BadValue) ⊎ (e ≡ ValueRange) → (e ≡ BadValue → (v : ℤ) → ¬ (ReadsValue value scale v))
      → (e ≡ ValueRange → (v : ℤ) × ReadsValue value scale v × ¬ (IsValue v)) → (refusal : Refusal) × Asks scale m (Refused refusal)
  put_bad timed name value e named same errors bad range =
      (e, of_values (value ∷ []) (Refused e) same (bad_value scale put.name.text.now name put.time.text.now value put.ts e named (time_gives put timed) errors bad range))

  pub put_counts : (name : List ℕ) → DoesName put.name.text.now (name ∷ []) → length is.parts ≢ 1 → (refusal : Refusal) × Asks scale m (Refused refusal)
  put_counts name named many =
      let texts = map (λ v. v.bytes) is.parts in
      (CountsDiffer, of_values texts (Refused CountsDiffer) refl (counts_differ scale put.name.text.now name put.time.text.now texts named (λ one. many (sym (length-map is.parts (λ v. v.bytes)) ∙ one))))

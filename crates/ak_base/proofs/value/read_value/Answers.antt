use Rattle.std.proofs.Common.{◌≡◌, ◌-◌, ◌<◌, ◌≤◌, ℕ, List, ◌∷◌, length, get_or, take, drop, pos, neg_ℤ, sym, ap, ◌∙◌, take_all, length-drop, arith, rules}
use Rattle.ak_base.specs.Values.{ReadsUnits, ReadsValue}
use Rattle.ak_base.proofs.Decimals.{one_reading}
use Rattle.ak_base.proofs.Readings.{HasNoSign, IsRead, no_bytes, first_cons, reads_plain, reads_plus, reads_minus, settle_ok, settle_bad, settle_range}
use Rattle.ak_base.proofs.value.read_value.Goals as goal
use Rattle.ak_base.proofs.value.read_value.Goals.{in_default-via-then-text-lt1, in_default-via-else-text-lt1+in_default-1}

rest_of : List ℕ → List ℕ
rest_of text = take (length text - 1) (drop 1 text)

behind : (text : List ℕ) (c : ℕ) → 1 ≤ length text → get_or text 0 0 ≡ c → text ≡ c ∷ rest_of text
unfolding rest_of
behind text c long first = first_cons text c long first ∙ ap (λ xs. c ∷ xs) (sym (take_all (length text - 1) (drop 1 text) (omega (arith, length-drop 1 text))))

minus : (c : goal.After-read_negative) → IsRead (ReadsValue c.args.text.now c.args.scale) (λ n. ReadsUnits (rest_of c.args.text.now) c.args.scale n) (λ n. neg_ℤ (pos n))
minus c =
    let text = c.args.text.now in
    record { by = reads_minus text (rest_of text) c.args.scale (behind text 45 c.in-45.len_at_least (search rules)); one = one_reading (rest_of text) c.args.scale }

plus : (c : goal.After-read_positive) → IsRead (ReadsValue c.args.text.now c.args.scale) (λ n. ReadsUnits (rest_of c.args.text.now) c.args.scale n) (λ n. pos n)
plus c =
    let text = c.args.text.now in
    record { by = reads_plus text (rest_of text) c.args.scale (behind text 43 c.in-43.len_at_least (search rules)); one = one_reading (rest_of text) c.args.scale }

unsigned : (c : goal.After-read_positive-in_default) → HasNoSign c.args.text.now
unsigned c = elim c.in_default.branch [
  | in_default-via-then-text-lt1 w ↦ (let short : length c.args.text.now < 1 = search rules in no_bytes c.args.text.now short)
  | in_default-via-else-text-lt1+in_default-1 w ↦ (λ h. grind arith, λ h. grind arith)
]

plain : (c : goal.After-read_positive-in_default) → IsRead (ReadsValue c.args.text.now c.args.scale) (λ n. ReadsUnits c.args.text.now c.args.scale n) (λ n. pos n)
plain c =
    let text = c.args.text.now in
    record { by = reads_plain text c.args.scale (unsigned c); one = one_reading text c.args.scale }

pub returns-in-45-clause-ok : goal.returns-in-45-clause-ok
unfolding rest_of
returns-in-45-clause-ok c =
    let text = c.args.text.now in
    settle_ok (ReadsValue text c.args.scale) (λ n. ReadsUnits (rest_of text) c.args.scale n) (λ n. neg_ℤ (pos n)) c.read_negative.result (minus c) c.read_negative.ensures

pub returns-in-45-clause-bad : goal.returns-in-45-clause-bad
unfolding rest_of
returns-in-45-clause-bad c =
    let text = c.args.text.now in
    settle_bad (ReadsValue text c.args.scale) (λ n. ReadsUnits (rest_of text) c.args.scale n) (λ n. neg_ℤ (pos n)) c.read_negative.result (minus c) c.read_negative.ensures

pub returns-in-45-clause-range : goal.returns-in-45-clause-range
unfolding rest_of
returns-in-45-clause-range c =
    let text = c.args.text.now in
    settle_range (ReadsValue text c.args.scale) (λ n. ReadsUnits (rest_of text) c.args.scale n) (λ n. neg_ℤ (pos n)) c.read_negative.result (minus c) c.read_negative.ensures

pub returns-in-43-clause-ok : goal.returns-in-43-clause-ok
unfolding rest_of
returns-in-43-clause-ok c =
    let text = c.args.text.now in
    settle_ok (ReadsValue text c.args.scale) (λ n. ReadsUnits (rest_of text) c.args.scale n) (λ n. pos n) c.read_positive.result (plus c) c.read_positive.ensures

pub returns-in-43-clause-bad : goal.returns-in-43-clause-bad
unfolding rest_of
returns-in-43-clause-bad c =
    let text = c.args.text.now in
    settle_bad (ReadsValue text c.args.scale) (λ n. ReadsUnits (rest_of text) c.args.scale n) (λ n. pos n) c.read_positive.result (plus c) c.read_positive.ensures

pub returns-in-43-clause-range : goal.returns-in-43-clause-range
unfolding rest_of
returns-in-43-clause-range c =
    let text = c.args.text.now in
    settle_range (ReadsValue text c.args.scale) (λ n. ReadsUnits (rest_of text) c.args.scale n) (λ n. pos n) c.read_positive.result (plus c) c.read_positive.ensures

pub returns-in_default-clause-ok : goal.returns-in_default-clause-ok
returns-in_default-clause-ok c =
    let text = c.args.text.now in
    settle_ok (ReadsValue text c.args.scale) (λ n. ReadsUnits text c.args.scale n) (λ n. pos n) c.read_positive-in_default.result (plain c) c.read_positive-in_default.ensures

pub returns-in_default-clause-bad : goal.returns-in_default-clause-bad
returns-in_default-clause-bad c =
    let text = c.args.text.now in
    settle_bad (ReadsValue text c.args.scale) (λ n. ReadsUnits text c.args.scale n) (λ n. pos n) c.read_positive-in_default.result (plain c) c.read_positive-in_default.ensures

pub returns-in_default-clause-range : goal.returns-in_default-clause-range
returns-in_default-clause-range c =
    let text = c.args.text.now in
    settle_range (ReadsValue text c.args.scale) (λ n. ReadsUnits text c.args.scale n) (λ n. pos n) c.read_positive-in_default.result (plain c) c.read_positive-in_default.ensures

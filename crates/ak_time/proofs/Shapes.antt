-- The one text of 25 bytes that reads as a moment.
use Rattle.std.proofs.Common.{◌≡◌, ℕ, ◌+◌, ◌-◌, ◌*◌, ◌^◌, ◌<◌, ◌≤◌, pos, List, [], ◌∷◌, ◌++◌, length, get_or, take, drop, refl, sym, ap, ap₂, subst, ◌∙◌, arith, rules, length-take-le, length-drop, take-append-drop, drop-drop, drop-cons}
use Rattle.std.proofs.lemmas.Bool.Decides.{nat_tests}
use Rattle.std.proofs.lemmas.Slice.Eq.{text_from_reads}
use Rattle.std.specs.Char.{digit_value}
use Rattle.std.specs.Str.Parse.{AllDigits, IsNumeral, digits_value}
use Rattle.jiff_core.specs.declared.civil.datetime.DateTime.{DateTime}
use Rattle.jiff_core.specs.DateTime.{civil_nanos}
use Rattle.jiff_core.proofs.SignedLemmas.{signed_arith}
use Rattle.jiff_core.proofs.DateLemmas.{epoch_day_injective}
use Rattle.jiff_core.proofs.DateTimeLemmas.{civil_nanos_injective, time_nanos_injective}
use Rattle.ak_time.specs.declared.civil.Parts.{Parts}
use Rattle.ak_time.specs.Calendar.{IsShown, moment}
use Rattle.ak_time.specs.Times.{IsFraction, fraction_nanos, IsCivilText, parts_of}
use Rattle.ak_time.proofs.Numerals.{digit-at, digits_injective}
use Rattle.ak_time.proofs.Moments.{moment-shown}

pub two_bytes : (b : List ℕ) → length b ≡ 2 → b ≡ get_or b 0 0 ∷ get_or b 1 0 ∷ []
two_bytes b l = text_from_reads b (get_or b 0 0 ∷ get_or b 1 0 ∷ []) l (search rules)

pub four_bytes : (b : List ℕ) → length b ≡ 4 → b ≡ get_or b 0 0 ∷ get_or b 1 0 ∷ get_or b 2 0 ∷ get_or b 3 0 ∷ []
four_bytes b l = text_from_reads b (get_or b 0 0 ∷ get_or b 1 0 ∷ get_or b 2 0 ∷ get_or b 3 0 ∷ []) l (search rules)

pub nine_bytes : (b : List ℕ) → length b ≡ 9 → b ≡ get_or b 0 0 ∷ get_or b 1 0 ∷ get_or b 2 0 ∷ get_or b 3 0 ∷ get_or b 4 0 ∷ get_or b 5 0 ∷ get_or b 6 0 ∷ get_or b 7 0 ∷ get_or b 8 0 ∷ []
nine_bytes b l = text_from_reads b (get_or b 0 0 ∷ get_or b 1 0 ∷ get_or b 2 0 ∷ get_or b 3 0 ∷ get_or b 4 0 ∷ get_or b 5 0 ∷ get_or b 6 0 ∷ get_or b 7 0 ∷ get_or b 8 0 ∷ []) l (search rules)

low_digit : (d : ℕ) → d < 10 → digit_value (48 + d) ≡ d
low_digit d h = grind (arith, nat_tests)

-- two times four digits and one more
pub nine_digits : (h l : List ℕ) (d : ℕ) → length h ≡ 4 → length l ≡ 4 → IsNumeral 10 h → IsNumeral 10 l → d < 10
    → AllDigits 10 (get_or h 0 0 ∷ get_or h 1 0 ∷ get_or h 2 0 ∷ get_or h 3 0 ∷ get_or l 0 0 ∷ get_or l 1 0 ∷ get_or l 2 0 ∷ get_or l 3 0 ∷ (48 + d) ∷ [])
    × (digits_value 10 (get_or h 0 0 ∷ get_or h 1 0 ∷ get_or h 2 0 ∷ get_or h 3 0 ∷ get_or l 0 0 ∷ get_or l 1 0 ∷ get_or l 2 0 ∷ get_or l 3 0 ∷ (48 + d) ∷ []) ≡ digits_value 10 h * 100_000 + digits_value 10 l * 10 + d)
nine_digits h l d lh ll nh nl small =
    let last : digit_value (48 + d) ≡ d = low_digit d small in
    let high : digits_value 10 h ≡ digits_value 10 (get_or h 0 0 ∷ get_or h 1 0 ∷ get_or h 2 0 ∷ get_or h 3 0 ∷ []) = ap (digits_value 10) (four_bytes h lh) in
    let low : digits_value 10 l ≡ digits_value 10 (get_or l 0 0 ∷ get_or l 1 0 ∷ get_or l 2 0 ∷ get_or l 3 0 ∷ []) = ap (digits_value 10) (four_bytes l ll) in (
      (
        digit-at h 0 nh.1 (omega arith),
        (
          digit-at h 1 nh.1 (omega arith),
          (
            digit-at h 2 nh.1 (omega arith),
            (
              digit-at h 3 nh.1 (omega arith),
              (digit-at l 0 nl.1 (omega arith), (digit-at l 1 nl.1 (omega arith), (digit-at l 2 nl.1 (omega arith), (digit-at l 3 nl.1 (omega arith), (rw last small, tt))))),
            ),
          ),
        ),
      ),
      omega (arith, last, high, low),
    )

make_same : (y y₂ mo mo₂ d d₂ h h₂ mi mi₂ s s₂ n n₂ : ℕ) → y ≡ y₂ → mo ≡ mo₂ → d ≡ d₂ → h ≡ h₂ → mi ≡ mi₂ → s ≡ s₂ → n ≡ n₂
    → (let one : Parts = record { year = y; month = mo; day = d; hour = h; minute = mi; second = s; nanos = n } in let two : Parts = record { year = y₂; month = mo₂; day = d₂; hour = h₂; minute = mi₂; second = s₂; nanos = n₂ } in one ≡ two)
make_same y y₂ mo mo₂ d d₂ h h₂ mi mi₂ s s₂ n n₂ a b c e f g i = rw (a, b, c, e, f, g, i) refl

pub parts_same : (p q : Parts) → p.year ≡ q.year → p.month ≡ q.month → p.day ≡ q.day → p.hour ≡ q.hour → p.minute ≡ q.minute → p.second ≡ q.second → p.nanos ≡ q.nanos → p ≡ q
parts_same p q = make_same p.year q.year p.month q.month p.day q.day p.hour q.hour p.minute q.minute p.second q.second p.nanos q.nanos

datetime_of : (p : Parts) → IsShown p → DateTime
datetime_of p h = record {
  date = record { year = pos p.year; month = p.month; day = p.day; year_in = h.0.0; month_in = (omega (arith, signed_arith, h.0.1), omega (arith, signed_arith, h.0.1)); day_in = (omega (arith, signed_arith, h.0.2), omega (arith, signed_arith, h.0.2)) };
  time = record { hour = p.hour; minute = p.minute; second = p.second; subsec_nanosecond = p.nanos; hour_in = omega (arith, signed_arith, h.1.0); minute_in = omega (arith, signed_arith, h.1.1); second_in = omega (arith, signed_arith, h.1.2); subsec_in = omega (arith, signed_arith, h.1.3) };
}

-- a moment is shown in one way
pub moment_injective : (p q : Parts) → IsShown p → IsShown q → moment p ≡ moment q → p ≡ q
unfolding datetime_of
moment_injective p q hp hq e =
    let a = datetime_of p hp in
    let b = datetime_of q hq in
    let left : civil_nanos a ≡ moment p = moment-shown a p refl refl refl refl refl refl refl in
    let right : civil_nanos b ≡ moment q = moment-shown b q refl refl refl refl refl refl refl in
    let both = civil_nanos_injective a b (left ∙ (e ∙ sym right)) in
    let date = epoch_day_injective a.date b.date both.0 in
    let time = time_nanos_injective a.time b.time both.1 in
    let year : p.year ≡ q.year = omega (arith, signed_arith, date.0) in
    parts_same p q year date.1 date.2 time.0 time.1 time.2 time.3

-- two texts with the same bytes from j on and from i to j have the same bytes from i on
step_back : (a b : List ℕ) (i k : ℕ) → take k (drop i a) ≡ take k (drop i b) → drop (i + k) a ≡ drop (i + k) b → drop i a ≡ drop i b
step_back a b i k front rest =
    sym (take-append-drop k (drop i a)) ∙ (ap₂ (λ xs ys. xs ++ ys) front (drop-drop k i a ∙ (rest ∙ sym (drop-drop k i b))) ∙ take-append-drop k (drop i b))

field_same : (a b : List ℕ) (i k : ℕ) → i + k ≤ length a → i + k ≤ length b → IsNumeral 10 (take k (drop i a)) → IsNumeral 10 (take k (drop i b)) → digits_value 10 (take k (drop i a)) ≡ digits_value 10 (take k (drop i b))
    → take k (drop i a) ≡ take k (drop i b)
field_same a b i k la lb na nb e =
    digits_injective (take k (drop i a)) (take k (drop i b))
    (length-take-le k (drop i a) (omega (arith, length-drop i a)) ∙ sym (length-take-le k (drop i b) (omega (arith, length-drop i b)))) na.1 nb.1 e

fraction_same : (f g : List ℕ) → length f ≡ 10 → length g ≡ 10 → IsFraction f → IsFraction g → fraction_nanos f ≡ fraction_nanos g → f ≡ g
fraction_same [] g lf lg hf hg e = absurd (omega arith)
fraction_same (c ∷ cs) [] lf lg hf hg e = absurd (omega arith)
fraction_same (c ∷ cs) (d ∷ ds) lf lg hf hg e =
    let first : length cs ≡ 9 = omega arith in
    let second : length ds ≡ 9 = omega arith in
    let left : digits_value 10 cs * 10 ^ (9 - 9) ≡ digits_value 10 ds * 10 ^ (9 - 9) = subst (λ (k : ℕ). digits_value 10 cs * 10 ^ (9 - 9) ≡ digits_value 10 ds * 10 ^ (9 - k)) second (subst (λ (k : ℕ). digits_value 10 cs * 10 ^ (9 - k) ≡ digits_value 10 ds * 10 ^ (9 - length ds)) first e) in
    let value : digits_value 10 cs ≡ digits_value 10 ds = omega arith in
    ap₂ (λ x xs. x ∷ xs) (hf.0 ∙ sym hg.0) (digits_injective cs ds (first ∙ sym second) hf.1.1 hg.1.1 value)

-- of 25 bytes, one text shows the parts
pub text_injective : (a b : List ℕ) → length a ≡ 25 → length b ≡ 25 → IsCivilText a → IsCivilText b → parts_of a ≡ parts_of b → a ≡ b
text_injective a b la lb ca cb e =
    let d15 : drop 15 a ≡ drop 15 b = fraction_same (drop 15 a) (drop 15 b) (omega (arith, length-drop 15 a)) (omega (arith, length-drop 15 b)) ca.fraction cb.fraction (ap (λ (p : Parts). p.nanos) e) in
    let d13 = step_back a b 13 2 (field_same a b 13 2 (omega arith) (omega arith) ca.second cb.second (ap (λ (p : Parts). p.second) e)) d15 in
    let d11 = step_back a b 11 2 (field_same a b 11 2 (omega arith) (omega arith) ca.minute cb.minute (ap (λ (p : Parts). p.minute) e)) d13 in
    let d9 = step_back a b 9 2 (field_same a b 9 2 (omega arith) (omega arith) ca.hour cb.hour (ap (λ (p : Parts). p.hour) e)) d11 in
    let d8 : drop 8 a ≡ drop 8 b = drop-cons a 8 0 (omega arith) ∙ (ap₂ (λ x xs. x ∷ xs) (ca.mark ∙ sym cb.mark) d9 ∙ sym (drop-cons b 8 0 (omega arith))) in
    let d6 = step_back a b 6 2 (field_same a b 6 2 (omega arith) (omega arith) ca.day cb.day (ap (λ (p : Parts). p.day) e)) d8 in
    let d4 = step_back a b 4 2 (field_same a b 4 2 (omega arith) (omega arith) ca.month cb.month (ap (λ (p : Parts). p.month) e)) d6 in
    step_back a b 0 4 (field_same a b 0 4 (omega arith) (omega arith) ca.year cb.year (ap (λ (p : Parts). p.year) e)) d4

abbrev pub built : List ℕ → List ℕ → List ℕ → List ℕ → List ℕ → List ℕ → List ℕ → List ℕ
built y mo d h mi s n = get_or y 0 0 ∷ get_or y 1 0 ∷ get_or y 2 0 ∷ get_or y 3 0 ∷ get_or mo 0 0 ∷ get_or mo 1 0 ∷ get_or d 0 0 ∷ get_or d 1 0 ∷ 84
    ∷ get_or h 0 0 ∷ get_or h 1 0 ∷ get_or mi 0 0 ∷ get_or mi 1 0 ∷ get_or s 0 0 ∷ get_or s 1 0 ∷ 46
    ∷ get_or n 0 0 ∷ get_or n 1 0 ∷ get_or n 2 0 ∷ get_or n 3 0 ∷ get_or n 4 0 ∷ get_or n 5 0 ∷ get_or n 6 0 ∷ get_or n 7 0 ∷ get_or n 8 0 ∷ []

-- a text that is built of digits shows what they write
pub built_shows : (y mo d h mi s n : List ℕ) (p : Parts) → length y ≡ 4 → length mo ≡ 2 → length d ≡ 2 → length h ≡ 2 → length mi ≡ 2 → length s ≡ 2 → length n ≡ 9
    → IsNumeral 10 y → IsNumeral 10 mo → IsNumeral 10 d → IsNumeral 10 h → IsNumeral 10 mi → IsNumeral 10 s → IsNumeral 10 n
    → digits_value 10 y ≡ p.year → digits_value 10 mo ≡ p.month → digits_value 10 d ≡ p.day → digits_value 10 h ≡ p.hour → digits_value 10 mi ≡ p.minute → digits_value 10 s ≡ p.second → digits_value 10 n ≡ p.nanos
    → IsCivilText (built y mo d h mi s n) × (parts_of (built y mo d h mi s n) ≡ p)
built_shows y mo d h mi s n p ly lmo ld lh lmi ls ln ny nmo nd nh nmi ns nn vy vmo vd vh vmi vs vn =
    let by = four_bytes y ly in
    let bmo = two_bytes mo lmo in
    let bd = two_bytes d ld in
    let bh = two_bytes h lh in
    let bmi = two_bytes mi lmi in
    let bs = two_bytes s ls in
    let bn = nine_bytes n ln in
    let nanos : digits_value 10 n * 10 ^ (9 - 9) ≡ p.nanos = omega arith in (
      record {
        long = omega arith;
        year = subst (IsNumeral 10) by ny;
        month = subst (IsNumeral 10) bmo nmo;
        day = subst (IsNumeral 10) bd nd;
        mark = refl;
        hour = subst (IsNumeral 10) bh nh;
        minute = subst (IsNumeral 10) bmi nmi;
        second = subst (IsNumeral 10) bs ns;
        fraction = (refl, subst (IsNumeral 10) bn nn, omega arith);
      },
      parts_same (parts_of (built y mo d h mi s n)) p
          (sym (ap (digits_value 10) by) ∙ vy) (sym (ap (digits_value 10) bmo) ∙ vmo) (sym (ap (digits_value 10) bd) ∙ vd) (sym (ap (digits_value 10) bh) ∙ vh)
          (sym (ap (digits_value 10) bmi) ∙ vmi) (sym (ap (digits_value 10) bs) ∙ vs) (sym (ap (λ xs. digits_value 10 xs * 10 ^ (9 - 9)) bn) ∙ nanos),
    )

-- Texts of times and what they read as.
use Rattle.std.proofs.Common.{◌≡◌, ℕ, ◌-◌, ◌^◌, ◌<◌, ◌⊎◌, inl, inr, ◌↔◌, ℤ, pos, true, false, cond, ◌==◌, List, [], ◌∷◌, length, get_or, take, drop, slice_index, Result, Ok, Err, IsErrOf, refl, sym, ap, subst, ◌∙◌, arith, take_all, length-drop, get_or-drop}
use Rattle.std.specs.Str.Parse.{AllDigits, digits_value, without_leading_sign}
use Rattle.std.specs.Char.{digit_value}
use Rattle.std.proofs.lemmas.Int.Digits.{digits_value-lt}
use Rattle.jiff_core.proofs.SignedLemmas.{signed_arith}
use Rattle.ak_base.specs.declared.refusal.Refusal.{Refusal}
use Rattle.ak_base.specs.declared.refusal.Refusal.TheVariants.{BadTime, TimeRange}
use Rattle.ak_time.specs.Times.{IsTimestamp, IsWhole, whole, IsFraction, fraction_nanos, IsCivilText, IsCivilTime, civil_moment, ReadsTime, Answers}
use Rattle.ak_time.proofs.Numerals.{fraction_small, digit-at}

pub rest_whole : (n : ℕ) (text : List ℕ) → take (length text - n) (drop n text) ≡ drop n text
rest_whole n text = take_all (length text - n) (drop n text) (omega (arith, length-drop n text))

pub fraction_nanos_small : (text : List ℕ) → IsFraction text → fraction_nanos text < 1_000_000_000
fraction_nanos_small [] h = omega arith
fraction_nanos_small (c ∷ ds) h = fraction_small (digits_value 10 ds) (length ds) h.2 (digits_value-lt 10 ds h.1.1)

pub civil_small : (text : List ℕ) → IsCivilText text → fraction_nanos (drop 15 text) < 1_000_000_000
civil_small text h = fraction_nanos_small (drop 15 text) h.fraction

sign_cases : (text : List ℕ) → (without_leading_sign text ≡ text) ⊎ (without_leading_sign text ≡ drop 1 text)
sign_cases text =
    elim (slice_index text 0 == 45) as (λ b. (cond b (drop 1 text) (drop (cond (slice_index text 0 == 43) 1 0) text) ≡ text) ⊎ (cond b (drop 1 text) (drop (cond (slice_index text 0 == 43) 1 0) text) ≡ drop 1 text)) [
      | true ↦ inr refl
      | false ↦ elim (slice_index text 0 == 43) as (λ b. (drop (cond b 1 0) text ≡ text) ⊎ (drop (cond b 1 0) text ≡ drop 1 text)) [
        | true ↦ inr refl
        | false ↦ inl refl
      ]
    ]

no_mark : (ds : List ℕ) (i : ℕ) → AllDigits 10 ds → i < length ds → get_or ds i 0 ≡ 84 → ⊥
no_mark ds i p inside e =
    let low : digit_value (get_or ds i 0) < 10 = digit-at ds i p inside in
    let mark : digit_value 84 < 10 = subst (λ (x : ℕ). digit_value x < 10) e low in
    omega arith

-- a text with a T behind eight bytes is no whole number
pub civil_not_whole : (text : List ℕ) → 8 < length text → get_or text 8 0 ≡ 84 → ¬ (IsWhole text)
civil_not_whole text long mark w =
    elim (sign_cases text) [
      | inl e ↦ no_mark text 8 (subst (AllDigits 10) e w.1) long mark
      | inr e ↦ no_mark (drop 1 text) 7 (subst (AllDigits 10) e w.1) (omega (arith, length-drop 1 text)) (get_or-drop 1 text 7 0 ∙ mark)
    ]

pub reads_civil : (text : List ℕ) → 8 < length text → get_or text 8 0 ≡ 84 → (m : ℤ) → ReadsTime text m ↔ (IsCivilTime text × (civil_moment text ≡ m))
reads_civil text long mark m = (λ h. elim h [ inl w ↦ absurd (civil_not_whole text long mark w.0) | inr x ↦ x ], λ x. inr x)

pub reads_whole : (text : List ℕ) → ¬ (IsCivilText text) → (m : ℤ) → ReadsTime text m ↔ (IsWhole text × (whole text ≡ m))
reads_whole text never m = (λ h. elim h [ inl w ↦ w | inr x ↦ absurd (never x.0.0) ], λ w. inl w)

pub settle_ok : (R : ℤ → Type 0) (Reads : Type 0) (v : ℤ) (r : Result ℕ Refusal) → ((m : ℤ) → R m ↔ (Reads × (v ≡ m))) → Answers Reads v r → (t : ℕ) → (r ≡ Ok t) ↔ (R (pos t) × (t < 2 ^ 64))
settle_ok R Reads v (Ok x) f a t = (
  λ e. let same : x ≡ t = cc in let here : v ≡ pos t = a.2 ∙ ap pos same in ((f (pos t)).1 (a.0, here), omega (arith, signed_arith, a.1, here)),
  λ h. let there : v ≡ pos t = ((f (pos t)).0 h.0).1 in let both : pos x ≡ pos t = sym a.2 ∙ there in let same : x ≡ t = cc in ap Ok same,
)
settle_ok R Reads v (Err e) f (inl (bad, never)) t = (λ e. cc, λ h. absurd (never ((f (pos t)).0 h.0).0))
settle_ok R Reads v (Err e) f (inr (range, reads, out)) t = (λ e. cc, λ h. let there : v ≡ pos t = ((f (pos t)).0 h.0).1 in let small : t < 2 ^ 64 = h.1 in absurd (out (omega (arith, signed_arith, there), omega (arith, signed_arith, there))))

pub settle_bad : (R : ℤ → Type 0) (Reads : Type 0) (v : ℤ) (r : Result ℕ Refusal) → ((m : ℤ) → R m ↔ (Reads × (v ≡ m))) → Answers Reads v r → IsErrOf r BadTime ↔ ((m : ℤ) → ¬ (R m))
settle_bad R Reads v (Ok x) f a = (λ e. cc, λ none. absurd (none v ((f v).1 (a.0, refl))))
settle_bad R Reads v (Err e) f (inl (bad, never)) = (λ _ m h. never ((f m).0 h).0, λ _. ap Err bad)
settle_bad R Reads v (Err e) f (inr (range, reads, out)) = (λ is. cc, λ none. absurd (none v ((f v).1 (reads, refl))))

pub settle_range : (R : ℤ → Type 0) (Reads : Type 0) (v : ℤ) (r : Result ℕ Refusal) → ((m : ℤ) → R m ↔ (Reads × (v ≡ m))) → Answers Reads v r → IsErrOf r TimeRange ↔ ((m : ℤ) × R m × ¬ (IsTimestamp m))
settle_range R Reads v (Ok x) f a = (λ e. cc, λ h. absurd (h.2 (subst IsTimestamp ((f h.0).0 h.1).1 a.1)))
settle_range R Reads v (Err e) f (inl (bad, never)) = (λ is. cc, λ h. absurd (never ((f h.0).0 h.1).0))
settle_range R Reads v (Err e) f (inr (range, reads, out)) = (λ _. (v, (f v).1 (reads, refl), out), λ _. ap Err range)

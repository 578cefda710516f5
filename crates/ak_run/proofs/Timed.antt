-- Times of puts.
use Rattle.std.proofs.Common.{◌≡◌, ℕ, ◌^◌, ◌<◌, ◌⊎◌, inl, inr, ◌↔◌, ℤ, pos, negsuc, Result, Ok, Err, IsErrOf, List, refl, sym, ap, ◌∙◌, arith}
use Rattle.std.proofs.lemmas.Bool.{cases_lt}
use Rattle.std.proofs.lemmas.Int.{ints}
use Rattle.std.specs.Result.{result_or}
use Rattle.ak_base.specs.declared.refusal.Refusal.{Refusal}
use Rattle.ak_base.specs.declared.refusal.Refusal.TheVariants.{TimeRange}
use Rattle.ak_time.specs.Times.{IsTimestamp, IsWhole, whole, ReadsTime}
use Rattle.ak_run.specs.Asking.{TimeGives}

-- a number is a time stamp, or it isn't one
pub stamp_cases : (m : ℤ) → ((t : ℕ) × (m ≡ pos t) × (t < 2 ^ 64)) ⊎ (¬ (IsTimestamp m))
stamp_cases (pos n) = elim (cases_lt n (2 ^ 64)) [
  | inl lt ↦ inl (n, refl, lt)
  | inr ge ↦ inr (λ h. omega (arith, ints, h.0, h.1, ge))
]
stamp_cases (negsuc n) = inr (λ h. omega (arith, ints, h.0))

pub stamp_is : (t : ℕ) (m : ℤ) → m ≡ pos t → t < 2 ^ 64 → IsTimestamp m
stamp_is t m e lt = (omega (arith, ints, e), omega (arith, ints, e))

-- what reading the time of a whole number says of the number
pub time_given : (text : List ℕ) (r s : Result ℕ Refusal) → IsWhole text → ((t : ℕ) → (r ≡ Ok t) ↔ (ReadsTime text (pos t) × (t < 2 ^ 64)))
    → (IsErrOf r TimeRange ↔ ((m : ℤ) × ReadsTime text m × ¬ (IsTimestamp m))) → s ≡ result_or {D = Refusal} r (Err TimeRange) → TimeGives text s
time_given text (Ok x) (Ok y) w ok range same = elim (stamp_cases (whole text)) [
  | inl (t, is, small) ↦ (let read : Ok x ≡ Ok t = (ok t).1 (inl (w, is), small) in let y_is : y ≡ t = cc in (w, is ∙ ap pos (sym y_is), stamp_is t (whole text) is small))
  | inr out ↦ (let refused : IsErrOf (Ok x) TimeRange = range.1 (whole text, inl (w, refl), out) in cc)
]
time_given text (Ok x) (Err f) w ok range same = cc
time_given text (Err e) (Ok y) w ok range same = cc
time_given text (Err e) (Err f) w ok range same = elim (stamp_cases (whole text)) [
  | inl (t, is, small) ↦ (let read : Err e ≡ Ok t = (ok t).1 (inl (w, is), small) in cc)
  | inr out ↦ (let is : f ≡ TimeRange = cc in inr (is, w, out))
]

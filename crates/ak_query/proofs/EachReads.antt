-- Times, steps, bounds and what is made of them are each read as one thing or as none.
use Rattle.std.proofs.Common.{◌≡◌, ◌↔◌, inl, inr, ℕ, ◌≤◌, ◌^◌, ℤ, pos, ◌*ℤ◌, Bool, Option, Some, None, codes, refl, sym, ap, ap₂, subst, ◌∙◌}
use Rattle.serde_json.specs.Data.{Data, null, boolean, number, string, array, object}
use Rattle.serde_json.specs.Find.{as_u64, as_i64}
use Rattle.ak_base.specs.Values.{IsValue}
use Rattle.ak_base.specs.declared.range.Range.{Range}
use Rattle.ak_time.proofs.EveryTime.{every_time, every_step}
use Rattle.ak_time.proofs.Settled.{Settled, none_settled, one_settled, some_or_none, no_other, most_cases}
use Rattle.ak_query.specs.Json.{within}
use Rattle.ak_query.specs.Reads.{IsTime, IsStep, FromIs, ToIs, is_back, RangeIs, StepIs, IsBound, BoundIs, FilterIs}
use Rattle.ak_query.proofs.EveryValue.{every_value, range_cases}
use Rattle.ak_query.proofs.Moments.{none_of, filter_some}

optional : {A : Type 0} (P : A → Type 0) → Settled P → Settled (λ (o : Option A). (x : A) × P x × (o ≡ Some x))
optional {A} P s = elim (some_or_none P s) [
  | inl (x, p) ↦ one_settled (λ (o : Option A). (x : A) × P x × (o ≡ Some x)) (Some x) (x, p, refl) (λ o h. ap (λ z. Some z) (no_other P s x h.0 p h.1) ∙ sym h.2)
  | inr never ↦ none_settled (λ (o : Option A). (x : A) × P x × (o ≡ Some x)) (λ o h. never h.0 h.1)
]

-- ---- Times and steps

time_settled : (d : Data) → Settled (IsTime d)
time_settled null = none_settled (IsTime null) (λ t h. h)
time_settled (boolean b) = none_settled (IsTime (boolean b)) (λ t h. h)
time_settled (number n) = (as_u64 n, λ t. (λ e. e, λ e. e))
time_settled (string s) = every_time s
time_settled (array ds) = none_settled (IsTime (array ds)) (λ t h. h)
time_settled (object ms) = none_settled (IsTime (object ms)) (λ t h. h)

from_settled : (o : Option Data) → Settled (FromIs o)
from_settled None = one_settled (FromIs None) 0 refl (λ t e. sym e)
from_settled (Some d) = time_settled d

to_settled : (o : Option Data) → Settled (ToIs o)
to_settled None = one_settled (ToIs None) None refl (λ t e. sym e)
to_settled (Some d) = optional (IsTime d) (time_settled d)

same_range : (from from₂ : ℕ) (to to₂ : Option ℕ) (back back₂ : Bool) → from ≡ from₂ → to ≡ to₂ → back ≡ back₂
    → (let one : Range = record { from = from; to = to; back = back } in let two : Range = record { from = from₂; to = to₂; back = back₂ } in one ≡ two)
same_range from from₂ to to₂ back back₂ a b c = rw (a, b, c) refl

pub range_settled : (d : Data) → Settled (RangeIs d)
range_settled d =
    let f = from_settled (within (codes "range") (codes "from") d) in
    let t = to_settled (within (codes "range") (codes "to") d) in
    elim (some_or_none (FromIs (within (codes "range") (codes "from") d)) f) [
      | inr never ↦ none_settled (RangeIs d) (λ r h. never r.from h.from)
      | inl (from, p) ↦ elim (some_or_none (ToIs (within (codes "range") (codes "to") d)) t) [
        | inr never ↦ none_settled (RangeIs d) (λ r h. never r.to h.to)
        | inl (to, q) ↦ one_settled (RangeIs d) (record { from = from; to = to; back = is_back from to }) (record { from = p; to = q; back = refl })
            (λ r h. let first = no_other (FromIs (within (codes "range") (codes "from") d)) f from r.from p h.from in
            let last = no_other (ToIs (within (codes "range") (codes "to") d)) t to r.to q h.to in
            same_range from r.from to r.to (is_back from to) r.back first last (ap₂ (λ x y. is_back x y) first last ∙ sym h.back))
      ]
    ]

counted : (o : Option ℕ) → Settled (λ n. (o ≡ Some n) × (1 ≤ n))
counted None = none_settled (λ n. (None ≡ Some n) × (1 ≤ n)) (λ n h. let is : None ≡ Some n = h.0 in cc)
counted (Some k) = elim (most_cases 1 k) [
  | inl some ↦ one_settled (λ n. (Some k ≡ Some n) × (1 ≤ n)) k (refl, some) (λ n h. let is : Some k ≡ Some n = h.0 in cc)
  | inr zero ↦ none_settled (λ n. (Some k ≡ Some n) × (1 ≤ n)) (λ n h. let is : Some k ≡ Some n = h.0 in let same : n ≡ k = cc in zero (subst (λ (m : ℕ). 1 ≤ m) same h.1))
]

step_settled : (d : Data) → Settled (IsStep d)
step_settled null = none_settled (IsStep null) (λ t h. h)
step_settled (boolean b) = none_settled (IsStep (boolean b)) (λ t h. h)
step_settled (number n) = counted (as_u64 n)
step_settled (string s) = every_step s
step_settled (array ds) = none_settled (IsStep (array ds)) (λ t h. h)
step_settled (object ms) = none_settled (IsStep (object ms)) (λ t h. h)

pub any_step_settled : (o : Option Data) → Settled (StepIs o)
any_step_settled None = one_settled (StepIs None) 1 refl (λ n e. sym e)
any_step_settled (Some d) = step_settled d

-- ---- Bounds

abbrev ScaledBy : ℤ → Option ℤ → ℤ → Type 0
ScaledBy k o v = (i : ℤ) × (o ≡ Some i) × (v ≡ i *ℤ k) × IsValue v

scaled : (k : ℤ) (o : Option ℤ) → Settled (ScaledBy k o)
scaled k None = none_settled (ScaledBy k None) (λ v h. let is : None ≡ Some h.0 = h.1 in cc)
scaled k (Some i) = elim (range_cases (i *ℤ k)) [
  | inl fits ↦ one_settled (ScaledBy k (Some i)) (i *ℤ k) (i, refl, refl, fits) (λ v h. let is : Some i ≡ Some h.0 = h.1 in let same : i ≡ h.0 = cc in ap (λ j. j *ℤ k) same ∙ sym h.2)
  | inr out ↦ none_settled (ScaledBy k (Some i)) (λ v h. let is : Some i ≡ Some h.0 = h.1 in let same : h.0 ≡ i = cc in out (subst IsValue (h.2 ∙ ap (λ j. j *ℤ k) same) h.3))
]

bound_settled : (scale : ℕ) (d : Data) → Settled (IsBound scale d)
bound_settled scale null = none_settled (IsBound scale null) (λ t h. h)
bound_settled scale (boolean b) = none_settled (IsBound scale (boolean b)) (λ t h. h)
bound_settled scale (number n) = scaled (pos (10 ^ scale)) (as_i64 n)
bound_settled scale (string s) = every_value s scale
bound_settled scale (array ds) = none_settled (IsBound scale (array ds)) (λ t h. h)
bound_settled scale (object ms) = none_settled (IsBound scale (object ms)) (λ t h. h)

any_bound_settled : (scale : ℕ) (o : Option Data) → Settled (BoundIs scale o)
any_bound_settled scale None = one_settled (BoundIs scale None) None refl (λ b e. sym e)
any_bound_settled scale (Some d) = optional (IsBound scale d) (bound_settled scale d)

abbrev Reads : {A : Type 0} → Option A → (A → Type 0) → Type 0
Reads {A} o P = (x : A) → (o ≡ Some x) ↔ P x

by_bounds : (scale : ℕ) (d : Data) (gt ge lt le : Option (Option ℤ)) → Reads gt (BoundIs scale (within (codes "filter") (codes "gt") d)) → Reads ge (BoundIs scale (within (codes "filter") (codes "ge") d))
    → Reads lt (BoundIs scale (within (codes "filter") (codes "lt") d)) → Reads le (BoundIs scale (within (codes "filter") (codes "le") d)) → Settled (FilterIs scale d)
by_bounds scale d (Some gt) (Some ge) (Some lt) (Some le) a b c e = (Some (record { gt = gt; ge = ge; lt = lt; le = le }), filter_some scale d gt ge lt le a b c e)
by_bounds scale d None ge lt le a b c e = none_settled (FilterIs scale d) (λ f h. none_of None f.gt refl (a f.gt) h.gt)
by_bounds scale d (Some gt) None lt le a b c e = none_settled (FilterIs scale d) (λ f h. none_of None f.ge refl (b f.ge) h.ge)
by_bounds scale d (Some gt) (Some ge) None le a b c e = none_settled (FilterIs scale d) (λ f h. none_of None f.lt refl (c f.lt) h.lt)
by_bounds scale d (Some gt) (Some ge) (Some lt) None a b c e = none_settled (FilterIs scale d) (λ f h. none_of None f.le refl (e f.le) h.le)

pub filter_settled : (scale : ℕ) (d : Data) → Settled (FilterIs scale d)
filter_settled scale d =
    let gt = any_bound_settled scale (within (codes "filter") (codes "gt") d) in
    let ge = any_bound_settled scale (within (codes "filter") (codes "ge") d) in
    let lt = any_bound_settled scale (within (codes "filter") (codes "lt") d) in
    let le = any_bound_settled scale (within (codes "filter") (codes "le") d) in
    by_bounds scale d gt.0 ge.0 lt.0 le.0 gt.1 ge.1 lt.1 le.1

-- What texts and numbers read as.
use Rattle.std.proofs.Common.{◌≡◌, ◌↔◌, ◌∙◌, ℕ, ℤ, pos, ◌*ℤ◌, ◌^◌, ◌<◌, ◌≤◌, List, Option, Some, None, option_and_then, Result, Ok, Err, IfSome, IfNone, refl, ap, sym, subst, inl, inr, ◌⊎◌, false, codes}
use Rattle.std.specs.Prelude.{ok_or}
use Rattle.std.specs.Result.{result_ok}
use Rattle.serde_json.specs.Data.{Data, null, boolean, number, string, array, object}
use Rattle.serde_json.specs.Find.{as_str, as_number, as_i64}
use Rattle.ak_base.specs.Values.{IsValue}
use Rattle.ak_base.specs.declared.filter.Filter.{Filter}
use Rattle.ak_time.specs.Steps.{ReadsStep}
use Rattle.ak_time.specs.Times.{ReadsTime}
use Rattle.ak_base.specs.declared.refusal.Refusal.{Refusal}
use Rattle.ak_base.specs.declared.refusal.Refusal.TheVariants.{BadFunc}
use Rattle.ak_query.specs.declared.query.QueryError.{QueryError}
use Rattle.ak_query.specs.declared.query.QueryError.TheVariants.{Refused, Memory}
use Rattle.ak_query.specs.Json.{within}
use Rattle.ak_query.specs.Pieces.{has_functions}
use Rattle.ak_query.specs.Reads.{IsTime, IsStep, IsBound, BoundIs, FilterIs, IsShaped, HasTimes, Refuses}

pub ok_same : {A E : Type 0} (r : Result A E) (o : Option A) (P : A → Type 0) → o ≡ result_ok r → ((x : A) → (r ≡ Ok x) ↔ P x) → (x : A) → (o ≡ Some x) ↔ P x
ok_same (Ok y) o P e f x = (λ h. let same : y ≡ x = cc in (f x).0 (ap (λ z. Ok z) same), λ p. let same = (f x).1 p in cc)
ok_same (Err y) o P e f x = (λ h. cc, λ p. let same = (f x).1 p in cc)

pub time_text : (d : Data) (s : List ℕ) (o : Option ℕ) → Some s ≡ as_str d → ((t : ℕ) → (o ≡ Some t) ↔ (ReadsTime s (pos t) × (t < 2 ^ 64))) → (t : ℕ) → (o ≡ Some t) ↔ IsTime d t
time_text null s o e f t = cc
time_text (boolean b) s o e f t = cc
time_text (number n) s o e f t = cc
time_text (string u) s o e f t = let same : s ≡ u = cc in subst (λ (u : List ℕ). (o ≡ Some t) ↔ (ReadsTime u (pos t) × (t < 2 ^ 64))) same (f t)
time_text (array ds) s o e f t = cc
time_text (object ms) s o e f t = cc

pub step_text : (d : Data) (s : List ℕ) (o : Option ℕ) → Some s ≡ as_str d → ((n : ℕ) → (o ≡ Some n) ↔ (ReadsStep s n × (1 ≤ n) × (n < 2 ^ 64))) → (n : ℕ) → (o ≡ Some n) ↔ IsStep d n
step_text null s o e f t = cc
step_text (boolean b) s o e f t = cc
step_text (number n) s o e f t = cc
step_text (string u) s o e f t = let same : s ≡ u = cc in subst (λ (u : List ℕ). (o ≡ Some t) ↔ (ReadsStep u t × (1 ≤ t) × (t < 2 ^ 64))) same (f t)
step_text (array ds) s o e f t = cc
step_text (object ms) s o e f t = cc

pub bound_number : (d : Data) (scale : ℕ) (whole : ℤ) (o : Option ℤ) → None ≡ as_str d → Some whole ≡ option_and_then as_i64 (as_number d) → ((v : ℤ) → (o ≡ Some v) ↔ ((v ≡ whole *ℤ pos (10 ^ scale)) × IsValue v)) → (v : ℤ) → (o ≡ Some v) ↔ IsBound scale d v
bound_number null scale whole o n e f v = cc
bound_number (boolean b) scale whole o n e f v = cc
bound_number (string s) scale whole o n e f v = cc
bound_number (array ds) scale whole o n e f v = cc
bound_number (object ms) scale whole o n e f v = cc
bound_number (number x) scale whole o n e f v = (
  λ h. let found = (f v).0 h in (whole, sym e, found.0, found.1),
  λ p. let same : p.0 ≡ whole = cc (e, p.1) in (f v).1 (p.2 ∙ ap (λ i. i *ℤ pos (10 ^ scale)) same, p.3),
)

-- ---- What is there, and what isn't

pub none_of : {A P : Type 0} (o : Option A) (x : A) → o ≡ None → ((o ≡ Some x) ↔ P) → ¬ P
none_of o x none f p = let some = f.1 p in absurd (cc)

pub refused : {A E : Type 0} (o : Option A) (e x : E) (r : Result A E) → r ≡ ok_or o e → r ≡ Err x → (o ≡ None) × (x ≡ e)
refused (Some a) e x r h w = absurd (cc)
refused None e x r h w = (refl, cc)

pub accepted : {A E : Type 0} (o : Option A) (e : E) (x : A) (r : Result A E) → r ≡ ok_or o e → r ≡ Ok x → o ≡ Some x
accepted (Some a) e x r h w = let same : a ≡ x = cc in ap (λ z. Some z) same
accepted None e x r h w = absurd (cc)

pub if_none : {A P : Type 0} (o : Option A) → o ≡ None → IfNone o P → P
if_none None none p = p
if_none (Some x) none p = absurd (cc)

pub if_some : {A : Type 0} (P : A → Type 0) (o : Option A) (x : A) → o ≡ Some x → IfSome o P → P x
if_some P None x some p = absurd (cc)
if_some P (Some y) x some p = let same : y ≡ x = cc in subst P same p

-- ---- Bounds

pub no_filter : (scale : ℕ) (d : Data) → ((f : Filter) → ¬ (FilterIs scale d f)) → (o : Option Filter) → o ≡ None → (f : Filter) → (o ≡ Some f) ↔ FilterIs scale d f
no_filter scale d never o none f = (λ h. absurd (cc), λ p. absurd (never f p))

same_filter : (gt gt₂ ge ge₂ lt lt₂ le le₂ : Option ℤ) → gt ≡ gt₂ → ge ≡ ge₂ → lt ≡ lt₂ → le ≡ le₂
    → (let one : Filter = record { gt = gt; ge = ge; lt = lt; le = le } in let two : Filter = record { gt = gt₂; ge = ge₂; lt = lt₂; le = le₂ } in one ≡ two)
same_filter gt gt₂ ge ge₂ lt lt₂ le le₂ a b c e = rw (a, b, c, e) refl

unwrapped : {A : Type 0} (x y : A) → ◌≡◌ {A = Option A} (Some x) (Some y) → x ≡ y
unwrapped x y e = cc

pub filter_some : (scale : ℕ) (d : Data) (gt ge lt le : Option ℤ)
    → ((b : Option ℤ) → (◌≡◌ {A = Option (Option ℤ)} (Some gt) (Some b)) ↔ BoundIs scale (within (codes "filter") (codes "gt") d) b)
    → ((b : Option ℤ) → (◌≡◌ {A = Option (Option ℤ)} (Some ge) (Some b)) ↔ BoundIs scale (within (codes "filter") (codes "ge") d) b)
    → ((b : Option ℤ) → (◌≡◌ {A = Option (Option ℤ)} (Some lt) (Some b)) ↔ BoundIs scale (within (codes "filter") (codes "lt") d) b)
    → ((b : Option ℤ) → (◌≡◌ {A = Option (Option ℤ)} (Some le) (Some b)) ↔ BoundIs scale (within (codes "filter") (codes "le") d) b)
    → (f : Filter) → (◌≡◌ {A = Option Filter} (Some (record { gt = gt; ge = ge; lt = lt; le = le })) (Some f)) ↔ FilterIs scale d f
filter_some scale d gt ge lt le a b c e f = (
  λ h. subst (FilterIs scale d) (unwrapped (record { gt = gt; ge = ge; lt = lt; le = le }) f h) (record { gt = (a gt).0 refl; ge = (b ge).0 refl; lt = (c lt).0 refl; le = (e le).0 refl }),
  λ p. ap (λ (x : Filter). Some x) (same_filter gt f.gt ge f.ge lt f.lt le f.le (unwrapped gt f.gt ((a f.gt).1 p.gt)) (unwrapped ge f.ge ((b f.ge).1 p.ge)) (unwrapped lt f.lt ((c f.lt).1 p.lt)) (unwrapped le f.le ((e f.le).1 p.le))),
)

-- ---- Refusals

pub refusing : (scale : ℕ) (d : Data) (r : Refusal) (e : QueryError) → e ≡ Refused r → Refuses scale d r → (e ≡ Memory) ⊎ ((x : Refusal) × (e ≡ Refused x) × Refuses scale d x)
refusing scale d r e is why = inr (r, is, why)

pub unnamed : (scale : ℕ) (d : Data) (e : QueryError) → ((e ≡ Memory) ⊎ ((e ≡ Refused BadFunc) × (has_functions d ≡ false))) → IsShaped scale d → HasTimes d → (e ≡ Memory) ⊎ ((x : Refusal) × (e ≡ Refused x) × Refuses scale d x)
unnamed scale d e (inl memory) shaped times = inl memory
unnamed scale d e (inr (is, none)) shaped times = inr (BadFunc, is, inr (inr (refl, shaped, times, none)))

-- Texts of values by their signs, and what they are answered.
use Rattle.std.proofs.Common.{◌≡◌, ◌≢◌, ℕ, ◌<◌, ◌≤◌, inl, inr, ◌↔◌, ℤ, pos, neg_ℤ, List, [], ◌∷◌, ◌++◌, length, get_or, drop, codes, Result, Ok, Err, IsErrOf, refl, sym, ap, subst, ◌∙◌, arith}
use Rattle.std.specs.Char.{digit_value}
use Rattle.std.specs.Str.Parse.{AllDigits}
use Rattle.ak_base.specs.declared.refusal.Refusal.{Refusal}
use Rattle.ak_base.specs.declared.refusal.Refusal.TheVariants.{BadValue, ValueRange}
use Rattle.ak_base.specs.Values.{IsValue, IsTail, ReadsUnits, ReadsValue, Answers}

-- no sign stands first
abbrev pub HasNoSign : List ℕ → Type 0
HasNoSign text = (get_or text 0 0 ≢ 45) × (get_or text 0 0 ≢ 43)

pub no_bytes : (text : List ℕ) → length text < 1 → HasNoSign text
no_bytes [] h = (λ e. omega arith, λ e. omega arith)
no_bytes (c ∷ cs) h = absurd (omega arith)

first_byte : (w t f : List ℕ) → AllDigits 10 w → IsTail t f → HasNoSign (w ++ t)
first_byte [] t f p (inl e) = rw e.0 (λ h. omega arith, λ h. omega arith)
first_byte [] t f p (inr e) = rw e (λ h. omega arith, λ h. omega arith)
first_byte (c ∷ w) t f p g = (
  λ h. let low : digit_value 45 < 10 = subst (λ (x : ℕ). digit_value x < 10) h p.0 in omega arith,
  λ h. let low : digit_value 43 < 10 = subst (λ (x : ℕ). digit_value x < 10) h p.0 in omega arith,
)

no_sign : (text : List ℕ) (scale n : ℕ) → ReadsUnits text scale n → HasNoSign text
no_sign text scale n s = subst HasNoSign (sym s.parts) (first_byte s.whole s.tail s.fraction s.whole_digits s.point)

pub first_cons : (text : List ℕ) (c : ℕ) → 1 ≤ length text → get_or text 0 0 ≡ c → text ≡ c ∷ drop 1 text
first_cons [] c h e = absurd (omega arith)
first_cons (x ∷ xs) c h e = ap (λ y. y ∷ xs) e

abbrev Reads : List ℕ → ℕ → (ℕ → ℤ) → ℤ → Type 0
Reads text scale signed v = (n : ℕ) × ReadsUnits text scale n × (v ≡ signed n)

pub reads_plain : (text : List ℕ) (scale : ℕ) → HasNoSign text → (v : ℤ) → ReadsValue text scale v ↔ Reads text scale (λ n. pos n) v
reads_plain text scale none v = (
  λ s. elim s.signed [
    | inl (inl e, value) ↦ (let same : s.decimal ≡ text = sym (s.parts ∙ ap (λ x. x ++ s.decimal) e) in (s.units, subst (λ t. ReadsUnits t scale s.units) same s.reads, value))
    | inl (inr e, value) ↦ absurd (none.1 (ap (λ t. get_or t 0 0) (s.parts ∙ ap (λ x. x ++ s.decimal) e)))
    | inr (e, value) ↦ absurd (none.0 (ap (λ t. get_or t 0 0) (s.parts ∙ ap (λ x. x ++ s.decimal) e)))
  ],
  λ h. record { sign = []; decimal = text; units = h.0; parts = refl; reads = h.1; signed = inl (inl refl, h.2) },
)

pub reads_plus : (text rest : List ℕ) (scale : ℕ) → text ≡ 43 ∷ rest → (v : ℤ) → ReadsValue text scale v ↔ Reads rest scale (λ n. pos n) v
reads_plus text rest scale plus v = (
  λ s. elim s.signed [
    | inl (inl e, value) ↦ (let same : s.decimal ≡ 43 ∷ rest = sym (s.parts ∙ ap (λ x. x ++ s.decimal) e) ∙ plus in absurd ((no_sign s.decimal scale s.units s.reads).1 (ap (λ t. get_or t 0 0) same)))
    | inl (inr e, value) ↦ (let same : s.decimal ≡ rest = ap (λ t. drop 1 t) (sym (s.parts ∙ ap (λ x. x ++ s.decimal) e) ∙ plus) in (s.units, subst (λ t. ReadsUnits t scale s.units) same s.reads, value))
    | inr (e, value) ↦ (let same : 45 ≡ 43 = ap (λ t. get_or t 0 0) (sym (s.parts ∙ ap (λ x. x ++ s.decimal) e) ∙ plus) in absurd (omega (arith, same)))
  ],
  λ h. record { sign = codes "+"; decimal = rest; units = h.0; parts = plus; reads = h.1; signed = inl (inr refl, h.2) },
)

pub reads_minus : (text rest : List ℕ) (scale : ℕ) → text ≡ 45 ∷ rest → (v : ℤ) → ReadsValue text scale v ↔ Reads rest scale (λ n. neg_ℤ (pos n)) v
reads_minus text rest scale minus v = (
  λ s. elim s.signed [
    | inl (inl e, value) ↦ (let same : s.decimal ≡ 45 ∷ rest = sym (s.parts ∙ ap (λ x. x ++ s.decimal) e) ∙ minus in absurd ((no_sign s.decimal scale s.units s.reads).0 (ap (λ t. get_or t 0 0) same)))
    | inl (inr e, value) ↦ (let same : 43 ≡ 45 = ap (λ t. get_or t 0 0) (sym (s.parts ∙ ap (λ x. x ++ s.decimal) e) ∙ minus) in absurd (omega (arith, same)))
    | inr (e, value) ↦ (let same : s.decimal ≡ rest = ap (λ t. drop 1 t) (sym (s.parts ∙ ap (λ x. x ++ s.decimal) e) ∙ minus) in (s.units, subst (λ t. ReadsUnits t scale s.units) same s.reads, value))
  ],
  λ h. record { sign = codes "-"; decimal = rest; units = h.0; parts = minus; reads = h.1; signed = inr (refl, h.2) },
)

-- a value is read from the units of one text, which reads as one number at most
pub record IsRead (R : ℤ → Type 0) (U : ℕ → Type 0) (g : ℕ → ℤ) : Type 0 where
  pub by : (v : ℤ) → R v ↔ ((n : ℕ) × U n × (v ≡ g n))
  pub one : (m n : ℕ) → U m → U n → m ≡ n

pub settle_ok : (R : ℤ → Type 0) (U : ℕ → Type 0) (g : ℕ → ℤ) (r : Result ℤ Refusal) → IsRead R U g → Answers U g r → (v : ℤ) → (r ≡ Ok v) ↔ (R v × IsValue v)
settle_ok R U g (Ok x) f a v = (
  λ e. let same : x ≡ v = cc in ((f.by v).1 (a.0, a.1, sym same ∙ a.2), subst IsValue same a.3),
  λ h. let there = (f.by v).0 h.0 in ap Ok (a.2 ∙ (ap g (f.one a.0 there.0 a.1 there.1) ∙ sym there.2)),
)
settle_ok R U g (Err e) f (inl (bad, never)) v = (λ is. cc, λ h. let there = (f.by v).0 h.0 in absurd (never there.0 there.1))
settle_ok R U g (Err e) f (inr (range, out)) v = (λ is. cc, λ h. let there = (f.by v).0 h.0 in absurd (out.2 (subst IsValue (there.2 ∙ ap g (f.one there.0 out.0 there.1 out.1)) h.1)))

pub settle_bad : (R : ℤ → Type 0) (U : ℕ → Type 0) (g : ℕ → ℤ) (r : Result ℤ Refusal) → IsRead R U g → Answers U g r → IsErrOf r BadValue ↔ ((v : ℤ) → ¬ (R v))
settle_bad R U g (Ok x) f a = (λ is. cc, λ none. absurd (none x ((f.by x).1 (a.0, a.1, a.2))))
settle_bad R U g (Err e) f (inl (bad, never)) = (λ _ v h. (let there = (f.by v).0 h in never there.0 there.1), λ _. ap Err bad)
settle_bad R U g (Err e) f (inr (range, out)) = (λ is. cc, λ none. absurd (none (g out.0) ((f.by (g out.0)).1 (out.0, out.1, refl))))

pub settle_range : (R : ℤ → Type 0) (U : ℕ → Type 0) (g : ℕ → ℤ) (r : Result ℤ Refusal) → IsRead R U g → Answers U g r → IsErrOf r ValueRange ↔ ((v : ℤ) × R v × ¬ (IsValue v))
settle_range R U g (Ok x) f a = (λ is. cc, λ h. let there = (f.by h.0).0 h.1 in absurd (h.2 (subst IsValue (a.2 ∙ (ap g (f.one a.0 there.0 a.1 there.1) ∙ sym there.2)) a.3)))
settle_range R U g (Err e) f (inl (bad, never)) = (λ is. cc, λ h. let there = (f.by h.0).0 h.1 in absurd (never there.0 there.1))
settle_range R U g (Err e) f (inr (range, out)) = (λ _. (g out.0, (f.by (g out.0)).1 (out.0, out.1, refl), out.2), λ _. ap Err range)

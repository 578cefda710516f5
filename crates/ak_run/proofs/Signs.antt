-- The sign of a text of a value, and its one value.
use Rattle.std.proofs.Common.{◌≡◌, ℕ, inl, inr, ◌↔◌, ℤ, pos, neg_ℤ, List, [], ◌∷◌, sym, ap, ◌∙◌, arith}
use Rattle.std.proofs.lemmas.Bool.{cases_eq}
use Rattle.ak_base.specs.Values.{ReadsUnits, ReadsValue}
use Rattle.ak_base.proofs.Decimals.{one_reading}
use Rattle.ak_base.proofs.Readings.{HasNoSign, no_bytes, reads_plain, reads_plus, reads_minus}

-- Values are read from the units of a text: that without its sign.
pub record IsReadFrom (text : List ℕ) : Type 0 where
  pub bare : List ℕ
  pub signed : ℕ → ℤ
  pub by : (scale : ℕ) (v : ℤ) → ReadsValue text scale v ↔ ((n : ℕ) × ReadsUnits bare scale n × (v ≡ signed n))

plain : (text : List ℕ) → HasNoSign text → IsReadFrom text
plain text none = record { bare = text; signed = λ n. pos n; by = λ scale. reads_plain text scale none }

pub read_from : (text : List ℕ) → IsReadFrom text
read_from [] = plain [] (no_bytes [] (omega arith))
read_from (c ∷ cs) = elim (cases_eq c 45) [
  | inl minus ↦ record { bare = cs; signed = λ n. neg_ℤ (pos n); by = λ scale. reads_minus (c ∷ cs) cs scale (ap (λ x. x ∷ cs) minus) }
  | inr other ↦ elim (cases_eq c 43) [
    | inl plus ↦ record { bare = cs; signed = λ n. pos n; by = λ scale. reads_plus (c ∷ cs) cs scale (ap (λ x. x ∷ cs) plus) }
    | inr none ↦ plain (c ∷ cs) (other, none)
  ]
]

-- a text has one value at most
pub value_one : (text : List ℕ) (scale : ℕ) (v w : ℤ) → ReadsValue text scale v → ReadsValue text scale w → v ≡ w
value_one text scale v w a b =
    let from = read_from text in
    let x = (from.by scale v).0 a in
    let y = (from.by scale w).0 b in
    x.2 ∙ (ap from.signed (one_reading from.bare scale x.0 y.0 x.1 y.1) ∙ sym y.2)

-- Writing a number a group at a time.
use Rattle.std.proofs.Common.{◌≡◌, ◌+◌, ◌-◌, ◌/◌, ◌%◌, ◌^◌, ◌<◌, ◌≤◌, inl, inr, ℕ, suc, List, [], ◌∷◌, ◌++◌, length, take, drop, refl, sym, ap, ◌∙◌, subst, arith, append_assoc, length-append}
use Rattle.std.proofs.Math.ListN.{set, length-set}
use Rattle.std.proofs.lemmas.List.{length-take-le, take_more_set, drop-set-lt, drop-drop, take-set-le}
use Rattle.std.proofs.Math.Nat.{pow-suc}
use Rattle.ak_bytes.specs.Fields.{IsPut}
use Rattle.ak_bytes.specs.Uvar.{groups, uvar}
use Rattle.std.proofs.lemmas.Bool.{cases_lt}
use Rattle.ak_bytes.proofs.Groups.{groups-small, groups-split, groups_nonempty, groups_more}

-- The groups up to end are written, and those of rest are left.
pub record Putting (v at : ℕ) (old buf : List ℕ) (end rest : ℕ) : Type 0 where
  pub from : at ≤ end
  pub room : end ≤ at + 9
  pub within : end ≤ length buf
  pub bound : rest < 128 ^ suc (at + 9 - end)
  pub front : take end buf ++ groups (at + 9 - end) rest ≡ take at old ++ uvar v
  pub back : drop end buf ≡ drop end old
  pub before : take at buf ≡ take at old

pub putting_none : (v at : ℕ) (old : List ℕ) → at ≤ length old → v < 2 ^ 70 → Putting v at old old at v
unfolding uvar
putting_none v at old within small =
    let nine : at + 9 - at ≡ 9 = omega arith in
    record {
      from = omega arith;
      room = omega arith;
      within = within;
      bound = subst (λ (k : ℕ). v < 128 ^ suc k) (sym nine) small;
      front = ap (λ (k : ℕ). take at old ++ groups k v) nine;
      back = refl;
      before = refl;
    }

more_front : (v at k end rest : ℕ) (old buf : List ℕ) → 128 ≤ rest → end < length buf → take end buf ++ groups (suc k) rest ≡ take at old ++ uvar v
    → take (end + 1) (set buf end (rest % 128 + 128)) ++ groups k (rest / 128) ≡ take at old ++ uvar v
more_front v at k end rest old buf large within e =
    ap (λ (l : List ℕ). l ++ groups k (rest / 128)) (take_more_set buf end (rest % 128 + 128) within)
    ∙ append_assoc (take end buf) ((rest % 128 + 128) ∷ []) (groups k (rest / 128))
    ∙ ap (λ (l : List ℕ). take end buf ++ l) (sym (groups-split k rest large))
    ∙ e

set_back : (end b : ℕ) (old buf : List ℕ) → drop end buf ≡ drop end old → drop (end + 1) (set buf end b) ≡ drop (end + 1) old
set_back end b old buf e =
    drop-set-lt (end + 1) buf end b (omega arith) ∙ sym (drop-drop 1 end buf) ∙ ap (drop 1) e ∙ drop-drop 1 end old

more_at : (v at k end rest : ℕ) (old buf : List ℕ) → 128 ≤ rest → end < length buf → end + suc k ≡ at + 9 → Putting v at old buf end rest → Putting v at old (set buf end (rest % 128 + 128)) (end + 1) (rest / 128)
more_at v at k end rest old buf large within e p =
    let now : at + 9 - end ≡ suc k = omega arith in
    let next : at + 9 - (end + 1) ≡ k = omega arith in
    let bound : rest < 128 ^ suc (suc k) = subst (λ (j : ℕ). rest < 128 ^ suc j) now p.bound in
    let front : take end buf ++ groups (suc k) rest ≡ take at old ++ uvar v = ap (λ (j : ℕ). take end buf ++ groups j rest) (sym now) ∙ p.front in
    record {
      from = omega (arith, p.from);
      room = omega arith;
      within = omega (arith, length-set buf end (rest % 128 + 128));
      bound = subst (λ (j : ℕ). rest / 128 < 128 ^ suc j) (sym next) (omega (arith, pow-suc 128 (suc k)));
      front = ap (λ (j : ℕ). take (end + 1) (set buf end (rest % 128 + 128)) ++ groups j (rest / 128)) next ∙ more_front v at k end rest old buf large within front;
      back = set_back end (rest % 128 + 128) old buf p.back;
      before = take-set-le at buf end (rest % 128 + 128) p.from ∙ p.before;
    }

-- what follows further on
pub put_back : (old new : List ℕ) (end m : ℕ) → end ≤ m → drop end new ≡ drop end old → drop m new ≡ drop m old
put_back old new end m h e =
    let sum : end + (m - end) ≡ m = omega arith in
    ap (λ (k : ℕ). drop k new) (sym sum) ∙ sym (drop-drop (m - end) end new) ∙ ap (drop (m - end)) e ∙ drop-drop (m - end) end old ∙ ap (λ (k : ℕ). drop k old) sum

-- so many bytes are still to come
putting_left : (v at end rest : ℕ) (old buf : List ℕ) → Putting v at old buf end rest → rest < 128 ^ suc (at + 9 - end) → 128 ≤ rest → end < at + 9
putting_left v at end rest old buf p bound large =
    elim (cases_lt end (at + 9)) [
      | inl less ↦ less
      | inr more ↦
          let none : at + 9 - end ≡ 0 = omega arith in
          let one : rest < 128 ^ suc 0 = subst (λ (j : ℕ). rest < 128 ^ suc j) none bound in
          absurd (omega arith)
    ]

pub putting_more : (v at end rest : ℕ) (old buf : List ℕ) → 128 ≤ rest → end < length buf → Putting v at old buf end rest → Putting v at old (set buf end (rest % 128 + 128)) (end + 1) (rest / 128)
putting_more v at end rest old buf large within p =
    let less : end < at + 9 = putting_left v at end rest old buf p p.bound large in
    more_at v at (at + 8 - end) end rest old buf large within (omega arith) p

-- how long what is written is
putting_length : (v at end rest : ℕ) (old buf : List ℕ) → at ≤ length old → Putting v at old buf end rest → end + length (groups (at + 9 - end) rest) ≡ at + length (uvar v)
putting_length v at end rest old buf place p =
    let whole = ap length p.front in
    omega (arith, length-append (take end buf) (groups (at + 9 - end) rest), length-append (take at old) (uvar v), length-take-le end buf p.within, length-take-le at old place, whole)

pub putting_full : (v at end rest : ℕ) (old buf : List ℕ) → at ≤ length old → length buf ≡ length old → length buf ≤ end → Putting v at old buf end rest → (length old < at + length (uvar v)) × (take at buf ≡ take at old)
putting_full v at end rest old buf place same full p =
    (omega (arith, putting_length v at end rest old buf place p, groups_nonempty (at + 9 - end) rest), p.before)

pub putting_last : (v at end rest : ℕ) (old buf : List ℕ) → at ≤ length old → rest < 128 → end < length buf → Putting v at old buf end rest → (end + 1 ≡ at + length (uvar v)) × IsPut old (set buf end rest) at (end + 1) (uvar v)
putting_last v at end rest old buf place small within p =
    let last = groups-small (at + 9 - end) rest small in (
      omega (arith, putting_length v at end rest old buf place p, ap length last),
      record {
        front = take_more_set buf end rest within ∙ ap (λ (l : List ℕ). take end buf ++ l) (sym last) ∙ p.front;
        back = λ m past. put_back old (set buf end rest) (end + 1) m past (set_back end rest old buf p.back);
      },
    )

-- Counting the groups: length counts the one that is begun.
pub record Counting (v rest count : ℕ) : Type 0 where
  pub room : count ≤ 10
  pub some : 1 ≤ count
  pub bound : rest < 128 ^ suc (10 - count)
  pub whole : count + length (groups (10 - count) rest) ≡ suc (length (uvar v))

pub counting_none : (v : ℕ) → v < 2 ^ 70 → Counting v v 1
unfolding uvar
counting_none v small = record { room = omega arith; some = omega arith; bound = small; whole = omega arith }

more_count : (v rest count k : ℕ) → count + suc k ≡ 10 → 128 ≤ rest → Counting v rest count → Counting v (rest / 128) (count + 1)
more_count v rest count k e large p =
    let now : 10 - count ≡ suc k = omega arith in
    let next : 10 - (count + 1) ≡ k = omega arith in
    let bound : rest < 128 ^ suc (suc k) = subst (λ (j : ℕ). rest < 128 ^ suc j) now p.bound in
    let old : count + length (groups (suc k) rest) ≡ suc (length (uvar v)) = ap (λ (j : ℕ). count + length (groups j rest)) (sym now) ∙ p.whole in
    record {
      room = omega arith;
      some = omega arith;
      bound = subst (λ (j : ℕ). rest / 128 < 128 ^ suc j) (sym next) (omega (arith, pow-suc 128 (suc k)));
      whole = ap (λ (j : ℕ). count + 1 + length (groups j (rest / 128))) next ∙ omega (arith, old, groups_more k rest large);
    }

-- a number with more groups has room for them
counting_left : (v rest count : ℕ) → 128 ≤ rest → Counting v rest count → count < 10
counting_left v rest count large p =
    elim (cases_lt count 10) [
      | inl less ↦ less
      | inr more ↦
          let none : 10 - count ≡ 0 = omega arith in
          let one : rest < 128 ^ suc 0 = subst (λ (j : ℕ). rest < 128 ^ suc j) none p.bound in
          absurd (omega arith)
    ]

pub counting_more : (v rest count : ℕ) → 128 ≤ rest → Counting v rest count → Counting v (rest / 128) (count + 1)
counting_more v rest count large p =
    let less = counting_left v rest count large p in
    more_count v rest count (9 - count) (omega (arith, less)) large p

pub counting_last : (v rest count : ℕ) → rest < 128 → Counting v rest count → count ≡ length (uvar v)
counting_last v rest count small p = omega (arith, p.whole, ap length (groups-small (10 - count) rest small))

-- Fields of fixed width: what a write leaves, what a read gives, and that a field is one number's.
use Rattle.std.proofs.Common.{◌≡◌, ◌+◌, ◌-◌, ◌*◌, ◌/◌, ◌%◌, ◌^◌, ◌<◌, ◌≤◌, ℕ, zero, suc, List, [], ◌∷◌, ◌++◌, length, take, drop, get_or, refl, sym, ap, ap₂, ◌∙◌, arith, append-nil, subst, ℤ, pos, negsuc}
use Rattle.std.proofs.lemmas.Slice.{take-put_mid, drop-put_mid}
use Rattle.std.proofs.lemmas.List.{get_or-drop, length-drop, take_all}
use Rattle.std.proofs.Math.Seq.{take-add}
use Rattle.std.proofs.Math.Nat.{div-div-eq-div-mul, div-one, pow-suc}
use Rattle.ak_bytes.proofs.Parts.{same_ends}
use Rattle.std.specs.Int.{byte_at, bytes_low_first}
use Rattle.byteorder.specs.Endian.{little_bytes, little_from, little_number}
use Rattle.byteorder.specs.Numbers.{length-bytes_low_first, little_from-cons, little_from-lt, little_number-reads_back}
use Rattle.ak_bytes.specs.Fields.{IsPut, signed_bytes}
use Rattle.std.proofs.Math.Facts.{Fits-lt-pow, Fits-of_z}
use Rattle.std.proofs.lemmas.Int.{of_z-to_z, to_z-of_z}
use mir.Syntax.{Width}
use mir.Val.{SFits, bits, of_z, to_z}
use borrow.Rule.Slice.PartMut.{put_mid}

pub put_field : (old ys : List ℕ) (at k n x : ℕ) → at + n ≤ length old → k ≡ n → ys ≡ little_bytes n x → IsPut old (put_mid at k old ys) at (at + n) (little_bytes n x)
put_field old ys at k n x h same e =
    let len : length ys ≡ n = ap length e ∙ length-bytes_low_first 0 n x in
    record {
      front = take-put_mid at k old ys (at + n) (omega (arith, len)) (omega arith) ∙ ap (λ (l : List ℕ). take at old ++ l) e;
      back = λ m past. drop-put_mid at k old ys m (omega (arith, same)) (omega arith) (len ∙ sym same);
    }

byte_at-pow : (k x : ℕ) → byte_at k x ≡ x / 256 ^ k % 256
byte_at-pow zero x = ap (λ (y : ℕ). y % 256) (sym (div-one x))
byte_at-pow (suc k) x = refl

abbrev pub AllBytes : List ℕ → Type 0
AllBytes xs = (i : ℕ) → get_or xs i 0 < 256

-- the bytes of the number that bytes read as are those bytes
little_back : (n j x : ℕ) (xs : List ℕ) → n ≤ length xs → AllBytes xs → x / 256 ^ j ≡ little_from 0 n xs → bytes_low_first j n x ≡ take n xs
little_back zero j x xs h all e = refl
little_back (suc n) j x [] h all e = absurd (omega arith)
little_back (suc n) j x (b ∷ xs) h all e =
    let rest : x / 256 ^ j ≡ b + 256 * little_from 0 n xs = e ∙ ap (λ (m : ℕ). b + 256 * m) (little_from-cons 0 n b xs) in
    let small : b < 256 = all 0 in
    let first : byte_at j x ≡ b = byte_at-pow j x ∙ omega (arith, rest, small) in
    let next : x / 256 ^ suc j ≡ little_from 0 n xs =
    ap (λ (p : ℕ). x / p) (pow-suc 256 j) ∙ sym (div-div-eq-div-mul x (256 ^ j) 256) ∙ omega (arith, rest, small) in
    ap₂ (λ (c : ℕ) (l : List ℕ). c ∷ l) first (little_back n (suc j) x xs (omega arith) (λ i. all (suc i)) next)

pub little_bytes-little_number : (n : ℕ) (xs : List ℕ) → n ≤ length xs → AllBytes xs → little_bytes n (little_number n xs) ≡ take n xs
little_bytes-little_number n xs h all = little_back n 0 (little_number n xs) xs h all (div-one (little_number n xs))

-- a field that is read is the bytes at its place
pub get_field : (n at x : ℕ) (xs : List ℕ) → at + n ≤ length xs → AllBytes xs → x ≡ little_number n (take (length xs - at) (drop at xs)) → take (at + n) xs ≡ take at xs ++ little_bytes n x
get_field n at x xs h all e =
    let part = drop at xs in
    let long : n ≤ length part = omega (arith, length-drop at xs) in
    let whole : take (length xs - at) part ≡ part = take_all (length xs - at) part (omega (arith, length-drop at xs)) in
    let back = little_bytes-little_number n part long (λ i. omega (arith, get_or-drop at xs i 0, all (at + i))) in
    let is : x ≡ little_number n part = e ∙ ap (λ (l : List ℕ). little_number n l) whole in
    take-add at n xs ∙ ap (λ (l : List ℕ). take at xs ++ l) (sym (ap (λ (y : ℕ). little_bytes n y) is ∙ back))

-- the bytes of a signed number are those of the number that its bits are
pub signed_bits : (w : Width) (n : ℕ) (z : ℤ) → 2 ^ bits w ≡ 256 ^ n → little_bytes n (of_z w z) ≡ signed_bytes n z
signed_bits w n (pos m) e = refl
signed_bits w n (negsuc m) e = ap (λ (x : ℕ). little_bytes n x) (omega (arith, e))

pub put_signed : (w : Width) (old ys : List ℕ) (at k n : ℕ) (z : ℤ) → 2 ^ bits w ≡ 256 ^ n → at + n ≤ length old → k ≡ n → ys ≡ little_bytes n (of_z w z) → IsPut old (put_mid at k old ys) at (at + n) (signed_bytes n z)
put_signed w old ys at k n z e h same put =
    subst (λ (l : List ℕ). IsPut old (put_mid at k old ys) at (at + n) l) (signed_bits w n z e) (put_field old ys at k n (of_z w z) h same put)

pub get_signed : (w : Width) (n at : ℕ) (z : ℤ) (xs : List ℕ) → 2 ^ bits w ≡ 256 ^ n → at + n ≤ length xs → AllBytes xs → z ≡ to_z w (little_number n (take (length xs - at) (drop at xs))) → take (at + n) xs ≡ take at xs ++ signed_bytes n z
get_signed w n at z xs e h all is =
    let part = take (length xs - at) (drop at xs) in
    let x = little_number n part in
    let whole : part ≡ drop at xs = take_all (length xs - at) (drop at xs) (omega (arith, length-drop at xs)) in
    let fits = little_from-lt 0 n (drop at xs) (λ i. omega (arith, get_or-drop at xs i 0, all (at + i))) in
    let small : x < 2 ^ bits w = omega (arith, e, fits, ap (λ (l : List ℕ). little_number n l) whole) in
    let same : little_bytes n x ≡ signed_bytes n z = ap (λ (y : ℕ). little_bytes n y) (sym (of_z-to_z w x small)) ∙ signed_bits w n (to_z w x) e ∙ ap (signed_bytes n) (sym is) in
    get_field n at x xs h all refl ∙ ap (λ (l : List ℕ). take at xs ++ l) same

-- a field is one number's
number_back : (n x : ℕ) → x < 256 ^ n → little_number n (little_bytes n x) ≡ x
number_back n x small = ap (little_number n) (sym (append-nil (little_bytes n x))) ∙ little_number-reads_back n x [] small

pub same_field : (n x y : ℕ) (p q : List ℕ) → x < 256 ^ n → y < 256 ^ n → p ++ little_bytes n x ≡ q ++ little_bytes n y → (p ≡ q) × (x ≡ y)
same_field n x y p q small small' e =
    let both = same_ends p q (little_bytes n x) (little_bytes n y) (length-bytes_low_first 0 n x ∙ sym (length-bytes_low_first 0 n y)) e in
    (both.0, sym (number_back n x small) ∙ ap (little_number n) both.1 ∙ number_back n y small')

-- a field is one signed number's
pub same_signed : (w : Width) (n : ℕ) (y z : ℤ) (p q : List ℕ) → 2 ^ bits w ≡ 256 ^ n → SFits w y → SFits w z → p ++ signed_bytes n y ≡ q ++ signed_bytes n z → (p ≡ q) × (y ≡ z)
same_signed w n y z p q e fits fits' same =
    let moved : p ++ little_bytes n (of_z w y) ≡ q ++ little_bytes n (of_z w z) =
    ap (λ (l : List ℕ). p ++ l) (signed_bits w n y e) ∙ same ∙ ap (λ (l : List ℕ). q ++ l) (sym (signed_bits w n z e)) in
    let small : of_z w y < 2 ^ bits w = Fits-lt-pow (Fits-of_z fits) in
    let small' : of_z w z < 2 ^ bits w = Fits-lt-pow (Fits-of_z fits') in
    let both = same_field n (of_z w y) (of_z w z) p q (omega (arith, e)) (omega (arith, e)) moved in
    (both.0, sym (to_z-of_z w y fits) ∙ ap (to_z w) both.1 ∙ to_z-of_z w z fits')

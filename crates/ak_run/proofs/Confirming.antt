-- Views in a list, and which views replies confirm.
use Rattle.std.proofs.Common.{ℕ, ◌≡◌, inl, inr, ◌+◌, ◌-◌, ◌≤◌, ◌==◌, if◌then◌else◌, List, [], ◌∷◌, ◌++◌, length, refl, subst, arith, length-append}
use Rattle.std.specs.List.{AllByRecursion}
use Rattle.ak_run.specs.Keeping.{Confirms}
use Rattle.ak_run.specs.Replies.{Reply, bytes_at}
use Rattle.ak_world.specs.Views.{View, IsIn}

-- ---- Views in a list

pub is_in_last : (v : View) (vs : List View) → IsIn v (vs ++ v ∷ [])
is_in_last v [] = inl refl
is_in_last v (w ∷ vs) = inr (is_in_last v vs)

pub is_in_more : (v : View) (vs ws : List View) → IsIn v vs → IsIn v (vs ++ ws)
is_in_more v [] ws h = absurd h
is_in_more v (w ∷ vs) ws (inl same) = inl same
is_in_more v (w ∷ vs) ws (inr later) = inr (is_in_more v vs ws later)

-- ---- Confirmed views

pub confirms_all : (port told number : ℕ) (rs : List Reply) → AllByRecursion (λ r. r.confirms ≤ number) rs → Confirms port told number rs
confirms_all port told number [] all = tt
confirms_all port told number (r ∷ rs) all = ((λ at some. all.0), confirms_all port (told - length (if r.port == port then r.bytes else [])) number rs all.1)

pub confirms_none : (port number : ℕ) (rs : List Reply) → Confirms port 0 number rs
confirms_none port number [] = tt
confirms_none port number (r ∷ rs) =
    let none : 0 ≡ 0 - length (if r.port == port then r.bytes else []) = omega arith in
    ((λ at some. absurd (omega (arith, some))), subst (λ (n : ℕ). Confirms port n number rs) none (confirms_none port number rs))

pub confirms_front : (port k number : ℕ) (front rest : List Reply) → AllByRecursion (λ r. r.confirms ≤ number) front → Confirms port k number rest
    → Confirms port (length (bytes_at port front) + k) number (front ++ rest)
confirms_front port k number [] rest all later =
    let same : k ≡ 0 + k = omega arith in
    subst (λ (n : ℕ). Confirms port n number rest) same later
confirms_front port k number (r ∷ front) rest all later =
    let here : List ℕ = if r.port == port then r.bytes else [] in
    let past : length (bytes_at port front) + k ≡ (length (here ++ bytes_at port front) + k) - length here = omega (arith, length-append here (bytes_at port front)) in
    ((λ at some. all.0), subst (λ (n : ℕ). Confirms port n number (front ++ rest)) past (confirms_front port k number front rest all.1 later))

-- with a greater number
pub confirms_more : (port told number more : ℕ) (rs : List Reply) → number ≤ more → Confirms port told number rs → Confirms port told more rs
confirms_more port told number more [] later all = tt
confirms_more port told number more (r ∷ rs) later all =
    ((λ at some. omega (arith, all.0 at some, later)), confirms_more port (told - length (if r.port == port then r.bytes else [])) number more rs later all.1)

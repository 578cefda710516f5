-- Members in a row, of which one is asked.
use Rattle.std.proofs.Common.{◌≡◌, ◌≢◌, ℕ, zero, suc, ◌<◌, ◌≤◌, Bool, true, false, List, [], ◌∷◌, ◌++◌, length, map, get_or, set, take, drop, refl, ap, ap₂, subst, ◌∙◌, sym, ◌⊎◌, inl, inr, arith}
use Rattle.std.proofs.lemmas.List.{set-get_or}
use Rattle.std.specs.List.{AllByRecursion}
use Rattle.ak_rows.specs.Feeds.{Bucket}
use Rattle.ak_rows.specs.declared.buckets.Part.{Part}
use Rattle.ak_rows.specs.Starts.{next_buckets, lode_buckets}
use Rattle.ak_rows.specs.Lodes.{no_lode, IsApart, AreApart, IsLater, AreLater, IsHad}
use Rattle.ak_rows.specs.declared.buckets.Next.{Next}
use Rattle.ak_rows.specs.declared.buckets.Next.TheVariants.{Unasked, Ended, At}
use Rattle.ak_rows.specs.declared.buckets.Lode.{Lode}

pub later_same : (ls : List Lode) → AreLater ls ls
later_same [] = tt
later_same (l ∷ ls) = ((refl, λ e. e), later_same ls)

pub later_on : (us vs ws : List Lode) → AreLater us vs → AreLater vs ws → AreLater us ws
later_on [] [] [] x y = tt
later_on [] [] (c ∷ ws) x y = y
later_on [] (b ∷ vs) ws x y = absurd x
later_on (a ∷ us) [] ws x y = absurd x
later_on (a ∷ us) (b ∷ vs) [] x y = y
later_on (a ∷ us) (b ∷ vs) (c ∷ ws) x y = ((y.0.0 ∙ x.0.0, λ e. y.0.1 (x.0.1 e)), later_on us vs ws x.1 y.1)

pub later_set : (ls : List Lode) (i : ℕ) (l : Lode) → i < length ls → IsLater (get_or ls i no_lode) l → AreLater ls (set ls i l)
later_set [] i l within is = absurd (omega arith)
later_set (m ∷ ls) zero l within is = (is, later_same ls)
later_set (m ∷ ls) (suc i) l within is = ((refl, λ e. e), later_set ls i l (omega arith) is)

pub later_length : (us vs : List Lode) → AreLater us vs → length vs ≡ length us
later_length [] [] x = refl
later_length [] (b ∷ vs) x = absurd x
later_length (a ∷ us) [] x = absurd x
later_length (a ∷ us) (b ∷ vs) x = ap suc (later_length us vs x.1)

-- what holds of members that haven't ended still does
apart_later_one : (a : Lode) (us vs : List Lode) → AreLater us vs → AllByRecursion (IsApart a) us → AllByRecursion (IsApart a) vs
apart_later_one a [] [] x all = tt
apart_later_one a [] (c ∷ ws) x all = absurd x
apart_later_one a (b ∷ vs) [] x all = absurd x
apart_later_one a (b ∷ vs) (c ∷ ws) x all =
    ((λ here there same. all.0 here (λ e. there (x.0.1 e)) (same ∙ x.0.0)), apart_later_one a vs ws x.1 all.1)

apart_first : (a b : Lode) (ls : List Lode) → IsLater a b → AllByRecursion (IsApart a) ls → AllByRecursion (IsApart b) ls
apart_first a b [] is all = tt
apart_first a b (l ∷ ls) is all = ((λ here there same. all.0 (λ e. here (is.1 e)) there (sym is.0 ∙ same)), apart_first a b ls is all.1)

pub apart_later : (us vs : List Lode) → AreLater us vs → AreApart us → AreApart vs
apart_later [] [] x all = tt
apart_later [] (b ∷ vs) x all = absurd x
apart_later (a ∷ us) [] x all = absurd x
apart_later (a ∷ us) (b ∷ vs) x all =
    (apart_first a b vs x.0 (apart_later_one a us vs x.1 all.0), apart_later us vs x.1 all.1)

pub each_later : (P : ℕ → Type 0) (us vs : List Lode) → AreLater us vs
    → AllByRecursion (λ (l : Lode). l.next ≢ Ended → P l.series) us → AllByRecursion (λ (l : Lode). l.next ≢ Ended → P l.series) vs
each_later P [] [] x all = tt
each_later P [] (b ∷ vs) x all = absurd x
each_later P (a ∷ us) [] x all = absurd x
each_later P (a ∷ us) (b ∷ vs) x all = ((λ on. subst P (sym x.0.0) (all.0 (λ e. on (x.0.1 e)))), each_later P us vs x.1 all.1)

pub all_at : (P : Lode → Type 0) (ls : List Lode) (i : ℕ) → i < length ls → AllByRecursion P ls → P (get_or ls i no_lode)
all_at P [] i within all = absurd (omega arith)
all_at P (l ∷ ls) zero within all = all.0
all_at P (l ∷ ls) (suc i) within all = all_at P ls i (omega arith) all.1

-- ---- What is still to come stays

abbrev HasNotEnded : Next → Type 0
HasNotEnded Unasked = Unit {0}
HasNotEnded Ended = ⊥
HasNotEnded (At p) = Unit {0}

pub unasked_goes_on : Unasked ≢ Ended
unasked_goes_on e = subst HasNotEnded e tt

pub at_goes_on : (p : Part) → At p ≢ Ended
at_goes_on p e = subst HasNotEnded e tt

same_head : (h : Next) (ps qs : List Bucket) → (h ≢ Ended → qs ≡ ps) → next_buckets h qs ≡ next_buckets h ps
same_head Unasked ps qs same = same unasked_goes_on
same_head Ended ps qs same = refl
same_head (At p) ps qs same = ap (λ rs. (p.start, p.summary) ∷ rs) (same (at_goes_on p))

pub same_rest : (points later : ℕ → List Bucket) (ls : List Lode)
    → AllByRecursion (λ (l : Lode). l.next ≢ Ended → later l.series ≡ points l.series) ls → map (lode_buckets later) ls ≡ map (lode_buckets points) ls
same_rest points later [] all = refl
same_rest points later (l ∷ ls) all = ap₂ (λ (x : List Bucket) (xs : List (List Bucket)). x ∷ xs) (same_head l.next (points l.series) (later l.series) all.0) (same_rest points later ls all.1)

apart_rest : (points later : ℕ → List Bucket) (a : Lode) (ls : List Lode) → a.next ≢ Ended → ((s : ℕ) → s ≢ a.series → later s ≡ points s)
    → AllByRecursion (IsApart a) ls → AllByRecursion (λ (l : Lode). l.next ≢ Ended → later l.series ≡ points l.series) ls
apart_rest points later a [] on same all = tt
apart_rest points later a (l ∷ ls) on same all = ((λ there. same l.series (λ e. all.0 on there (sym e))), apart_rest points later a ls on same all.1)

pub keeps_set : (points later : ℕ → List Bucket) (ls : List Lode) (i : ℕ) (l : Lode) → i < length ls → AreApart ls
    → lode_buckets later l ≡ lode_buckets points (get_or ls i no_lode) → (get_or ls i no_lode).next ≢ Ended
    → ((s : ℕ) → s ≢ (get_or ls i no_lode).series → later s ≡ points s)
    → map (lode_buckets later) (set ls i l) ≡ map (lode_buckets points) ls
keeps_set points later [] i l within apart one on same = absurd (omega arith)
keeps_set points later (m ∷ ls) zero l within apart one on same =
    ap₂ (λ (x : List Bucket) (xs : List (List Bucket)). x ∷ xs) one (same_rest points later ls (apart_rest points later m ls on same apart.0))
keeps_set points later (m ∷ ls) (suc i) l within apart one on same =
    let small : i < length ls = omega arith in
    let first : m.next ≢ Ended → later m.series ≡ points m.series = λ here. same m.series (all_at (IsApart m) ls i small apart.0 here on) in
    ap₂ (λ (x : List Bucket) (xs : List (List Bucket)). x ∷ xs) (same_head m.next (points m.series) (later m.series) first) (keeps_set points later ls i l small apart.1 one on same)

-- ---- One that is asked

unasked_stays : Ended ≢ Unasked
unasked_stays e = unasked_goes_on (sym e)

cases_ended : (h : Next) → (h ≡ Ended) ⊎ (h ≢ Ended)
cases_ended Unasked = inr unasked_goes_on
cases_ended Ended = inl refl
cases_ended (At p) = inr (at_goes_on p)

pub is_later_asked : (a b : Lode) → b.series ≡ a.series → (a.next ≢ Unasked → b ≡ a) → IsLater a b
is_later_asked a b series same = (series, λ e. ap (λ (l : Lode). l.next) (same (λ u. unasked_stays (sym e ∙ u))) ∙ e)

pub later_asked : (ls : List Lode) (i : ℕ) (l : Lode) → i < length ls → l.series ≡ (get_or ls i no_lode).series
    → ((get_or ls i no_lode).next ≢ Unasked → l ≡ get_or ls i no_lode) → AreLater ls (set ls i l)
later_asked ls i l within series same = later_set ls i l within (is_later_asked (get_or ls i no_lode) l series same)

same_all : (points later : ℕ → List Bucket) (ls : List Lode) → ((s : ℕ) → later s ≡ points s) → map (lode_buckets later) ls ≡ map (lode_buckets points) ls
same_all points later [] same = refl
same_all points later (l ∷ ls) same = ap₂ (λ (x : List Bucket) (xs : List (List Bucket)). x ∷ xs) (ap (next_buckets l.next) (same l.series)) (same_all points later ls same)

pub keeps_asked : (points later : ℕ → List Bucket) (ls : List Lode) (i : ℕ) (l : Lode) → i < length ls → AreApart ls
    → lode_buckets later l ≡ lode_buckets points (get_or ls i no_lode)
    → ((get_or ls i no_lode).next ≢ Unasked → l ≡ get_or ls i no_lode)
    → ((get_or ls i no_lode).next ≢ Unasked → (s : ℕ) → later s ≡ points s)
    → ((s : ℕ) → s ≢ (get_or ls i no_lode).series → later s ≡ points s)
    → map (lode_buckets later) (set ls i l) ≡ map (lode_buckets points) ls
keeps_asked points later ls i l within apart one same same_points others =
    elim (cases_ended (get_or ls i no_lode).next) as (λ _. map (lode_buckets later) (set ls i l) ≡ map (lode_buckets points) ls) [
      | inl e ↦ (let on : (get_or ls i no_lode).next ≢ Unasked = λ u. unasked_stays (sym e ∙ u) in
          ap (λ m. map (lode_buckets later) (set ls i m)) (same on) ∙ ap (map (lode_buckets later)) (set-get_or ls i no_lode) ∙ same_all points later ls (same_points on))
      | inr on ↦ keeps_set points later ls i l within apart one on others
    ]

pub others_asked : (points later : ℕ → List Bucket) (ls : List Lode) (i s : ℕ) → i < length ls
    → ((get_or ls i no_lode).next ≢ Unasked → (t : ℕ) → later t ≡ points t)
    → ((t : ℕ) → t ≢ (get_or ls i no_lode).series → later t ≡ points t)
    → AllByRecursion (λ (l : Lode). l.next ≢ Ended → l.series ≢ s) ls → later s ≡ points s
others_asked points later ls i s within same_points others all =
    elim (cases_ended (get_or ls i no_lode).next) as (λ _. later s ≡ points s) [
      | inl e ↦ same_points (λ u. unasked_stays (sym e ∙ u)) s
      | inr on ↦ others s (λ e. all_at (λ (l : Lode). l.next ≢ Ended → l.series ≢ s) ls i within all on (sym e))
    ]

pub each_push : {A : Type 0} (P : A → Type 0) (xs : List A) (x : A) → AllByRecursion P xs → P x → AllByRecursion P (xs ++ x ∷ [])
each_push P [] x all one = (one, tt)
each_push P (y ∷ ys) x all one = (all.0, each_push P ys x all.1 one)

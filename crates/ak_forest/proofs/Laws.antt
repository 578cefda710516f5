-- The laws over a sound image.
use Rattle.std.proofs.Common.{◌≡◌, inl, inr, ℕ, zero, suc, ◌+◌, ◌-◌, ◌*◌, ◌/◌, ◌%◌, ◌^◌, ◌<◌, ◌≤◌, ◌&&◌, nat_le, nat_lt, Bool, true, false, if◌then◌else◌, List, [], ◌∷◌, ◌++◌, length, map, max, get_or, None, refl, sym, ◌∙◌, ap, ap₂, subst, subst₂, arith, is_none, true≢false}
use Rattle.std.proofs.lemmas.Bool.{cases_lt, cases_eq}
use Rattle.std.proofs.lemmas.Bool.Decides.{nat_tests}
use Rattle.ak_forest.specs.Numbers.{made, digit, end, between, carry, waiting}
use Rattle.ak_forest.specs.Tree.{Seen, IsBlind, spot, width, none}
use Rattle.ak_summary.specs.declared.summary.Summary.{Summary}
use Rattle.ak_forest.specs.Image.{Volumes, live, seen_of, IsSeries}
use Rattle.ak_forest.specs.Laws.{Agree, Rescued, Found, DeadBelow, Switched, Placed, Carried}
use Rattle.ak_forest.proofs.Arith.{made_suc, made_split, made_mono, between_one, between_append}
use Rattle.ak_forest.proofs.Pending.{rescued, pending_is}
use Rattle.ak_forest.proofs.Carries.{waiting_empty, waiting_digit, made_at}
use Rattle.ak_forest.proofs.Place.{made_rest}
use Rattle.ak_forest.proofs.Agree.{agreement, same_scan}
use Rattle.ak_forest.proofs.Switch.{sound_switched}
use Rattle.ak_forest.proofs.Group.{whole_placed, series_placed, series_beside, spelled_placed, fill_last, fill_other}

unseen : (v : Volumes) (spells : Seen) (at : ℕ) → live v at ≡ false → seen_of v spells at ≡ None
unseen v spells at is = ap (λ (b : Bool). if b then spells at else None) is

off : (a b : Bool) → a ≡ false → (a && b) ≡ false
off a b is = ap (λ (x : Bool). x && b) is

pub off_right : (a b : Bool) → b ≡ false → (a && b) ≡ false
off_right true b is = is
off_right false b is = refl

not_le : (a b : ℕ) → b < a → nat_le a b ≡ false
not_le a b h = grind (arith, nat_tests)

not_lt : (a b : ℕ) → b ≤ a → nat_lt a b ≡ false
not_lt a b h = grind (arith, nat_tests)

pub blind : (v : Volumes) (spells : Seen) → ((i : ℕ) → get_or v.fills i 0 < width) → IsBlind v.lo (seen_of v spells)
blind v spells small = record {
  dead = λ at h. unseen v spells at (off (nat_le v.lo (at / width)) (nat_lt (at % width) (get_or v.fills (at / width - v.lo) 0)) (not_le v.lo (at / width) (omega (arith, h))));
  at_none = unseen v spells none (off_right (nat_le v.lo (none / width)) (nat_lt (none % width) (get_or v.fills (none / width - v.lo) 0))
      (not_lt (none % width) (get_or v.fills (none / width - v.lo) 0) (omega (arith, small (none / width - v.lo)))));
}

pub agree : Agree
agree fan count leaves rescue total v one two same sound = (agreement fan count leaves rescue total v one two same sound, λ series. same_scan v one two series same)

pub rescued_all : Rescued
rescued_all fan count leaves rescue total v spells two sound series known few =
    let s = sound.each series known in
    rescued fan v.lo series s.low (leaves series) s.home (rescue series) (total series) (seen_of v spells) two (blind v spells sound.small) s.tree 11 few ∙ sym s.scanned

pub found_all : Found
found_all fan count leaves rescue total v spells two sound series known k =
    let s = sound.each series known in
    pending_is fan v.lo series s.low (leaves series) s.home (rescue series) (total series) (seen_of v spells) two (blind v spells sound.small) s.tree k
    ∙ ap (λ (x : ℕ). map (spot fan s.home k) (between (max (made fan k s.low) (x * fan)) (made fan k (leaves series)))) (made_suc fan k (leaves series))

pub dead_below : DeadBelow
dead_below fan count leaves rescue total v spells two sound series known k j made_j dead =
    let s = sound.each series known in
    elim (cases_lt s.low (end fan k j)) [
      | inl l ↦
          let stands = s.tree.nodes k j l made_j in
          let gone = (blind v spells sound.small).dead (spot fan s.home k j) dead in
          absurd (true≢false (ap is_none (sym gone ∙ stands.read)))
      | inr d ↦ d
    ]

pub switched : Switched
switched fan count leaves rescue total lo fill fills spells two few sound = sound_switched lo fill fills spells fan count leaves rescue total two few sound

pub front_le : (front : List ℕ) (x i : ℕ) → get_or front i 0 ≤ get_or (front ++ x ∷ []) i 0
front_le [] x i = omega arith
front_le (f ∷ front) x zero = omega arith
front_le (f ∷ front) x (suc i) = front_le front x i

pub small_placed : (front : List ℕ) (n m : ℕ) → m < width → ((i : ℕ) → get_or (front ++ n ∷ []) i 0 < width) → (i : ℕ) → get_or (front ++ m ∷ []) i 0 < width
small_placed front n m room small i = elim (cases_eq i (length front)) [
  | inl last ↦ let f : get_or (front ++ m ∷ []) i 0 ≡ m = ap (λ (x : ℕ). get_or (front ++ m ∷ []) x 0) last ∙ fill_last front m in omega (arith, f, room)
  | inr other ↦ let f : get_or (front ++ m ∷ []) i 0 ≡ get_or (front ++ n ∷ []) i 0 = fill_other front m n i other in omega (arith, f, small i)
]

pub placed : Placed
placed fan count series value base join leaves leaves' rescue rescue' total total' lo n front spells spells' waiting waiting' fresh nodes home' two few known written changed sound grown step =
    let m = leaves series in
    let c = carry fan m in
    let v : Volumes = record { lo = lo; fills = front ++ (n + suc c) ∷ [] } in
    let parts : (k : ℕ) → k ≤ c → ((nodes k).series ≡ series) × ((nodes k).level ≡ k) × ((nodes k).number ≡ made fan k m) =
    λ k h. ((step.parts k h).of_series, (step.parts k h).of_level, (step.parts k h).numbered) in
    let small : (i : ℕ) → get_or front i 0 ≤ width = λ i. omega (arith, front_le front n i, sound.small i) in
    record {
      small = small_placed front n (n + suc c) written.room sound.small;
      spelled = spelled_placed lo n c front spells spells' nodes written.room written.agrees written.wrote fan series m refl parts count known sound.spelled;
      whole = whole_placed lo n c front spells spells' nodes written.room written.agrees written.wrote fan series m refl parts (omega arith) sound.whole;
      each = λ s h. elim (cases_eq series s) [
        | inl is ↦ subst (λ (x : ℕ). IsSeries fan v (seen_of v spells') x (leaves' x) (total' x) (rescue' x)) is
            (subst (λ (l : ℕ). IsSeries fan v (seen_of v spells') series l (total' series) (rescue' series)) (sym changed.one_more)
            (series_placed lo n c front spells spells' nodes written.room written.agrees written.wrote fan series m refl parts value base join (total series) (total' series) (rescue series) (rescue' series)
            waiting waiting' fresh two few small (sound.each series known) home' grown step))
        | inr differs ↦
            subst₂ (λ (l : ℕ) (t : ℕ → ℕ → Summary). IsSeries fan v (seen_of v spells') s l t (rescue' s)) (changed.same_leaves s differs) (changed.same_total s differs)
            (subst (λ (r : ℕ → ℕ). IsSeries fan v (seen_of v spells') s (leaves s) (total s) r) (changed.same_points s differs)
            (series_beside lo n c front spells spells' nodes written.room written.agrees written.wrote fan series m refl parts s (leaves s) (total s) (rescue s) small differs (sound.each s h)))
      ];
    }

waiting_here : (fan base m k : ℕ) → 0 < fan → base ≤ m → suc m < fan ^ 11 → k ≡ carry fan m → waiting fan base (suc m) k ≡ waiting fan base m k ++ made fan k m ∷ []
waiting_here fan base m k p fits few is =
    let here : made fan k (suc m) ≡ suc (made fan k m) = made_at fan m k p (omega (arith, is)) in
    let above : made fan (suc k) (suc m) ≡ made fan (suc k) m = made_rest fan m (suc k) p few (omega (arith, is)) in
    let split : made fan (suc k) m * fan + digit fan k m ≡ made fan k m = made_split fan k m in
    let start = max (made fan k base) (made fan (suc k) m * fan) in
    let begun : start ≤ made fan k m = omega (arith, split, made_mono fan k base m p fits) in
    ap₂ (λ (x y : ℕ). between (max (made fan k base) (x * fan)) y) above here
    ∙ sym (ap (λ (l : List ℕ). between start (made fan k m) ++ l) (sym (between_one (made fan k m))) ∙ between_append start (made fan k m) (suc (made fan k m)) begun (omega arith))

waiting_above : (fan base m k : ℕ) → 0 < fan → suc m < fan ^ 11 → carry fan m < k → waiting fan base (suc m) k ≡ waiting fan base m k
waiting_above fan base m k p few h =
    ap₂ (λ (x y : ℕ). between (max (made fan k base) (x * fan)) y) (made_rest fan m (suc k) p few (omega (arith, h))) (made_rest fan m k p few h)

pub carried : Carried
carried fan base m k two fits few =
    (λ h. waiting_empty fan base m k (omega arith) h, λ is. waiting_here fan base m k (omega arith) fits few is, λ h. waiting_above fan base m k (omega arith) few h, waiting_digit fan m k (omega arith))

-- Puts of known series: what their texts name, and what is accepted.
use Rattle.std.proofs.Common.{◌≡◌, ◌∙◌, ℕ, zero, suc, ◌+◌, ◌*◌, ◌-◌, ◌^◌, ◌<◌, min, false, List, [], ◌∷◌, ◌++◌, length, get_or, slice_index_or, take, Some, None, bytes_eq, refl, sym, ap, ap₂, subst, arith}
use Rattle.std.proofs.lemmas.Cmp.{nat_list_eq_equiv}
use Rattle.std.proofs.lemmas.Iterator.Adapters.{position_from-zero}
use Rattle.std.proofs.lemmas.List.{map-append, take_more}
use Rattle.std.proofs.lemmas.List.Quantifiers.{position-Some}
use Rattle.std.proofs.lemmas.Map.Keys.{IsDistinct-tail, apart_from_distinct}
use Rattle.std.specs.Cmp.Lexicographic.{bytes_decides}
use Rattle.std.specs.List.{AllByRecursion, IsDistinct, list_any, position_from}
use Rattle.ak_base.specs.declared.point.Point.{Point}
use Rattle.ak_host.specs.Files.{Files}
use Rattle.ak_host.specs.Moments.{HostState, Passes, DiskPasses, mark_now}
use Rattle.ak_meta.specs.Contents.{Content, IsCanonical, IsSeries, names_of, size_of}
use Rattle.ak_meta.proofs.Fronts.{each_push}
use Rattle.ak_meta.specs.declared.meta.SeriesMeta.{SeriesMeta}
use Rattle.ak_names.specs.Known.{AreNumbers, names_at}
use Rattle.ak_names.specs.Names.{DoesName}
use Rattle.ak_run.specs.declared.asked.Asked.{Asked}
use Rattle.ak_run.specs.declared.asked.Asked.TheVariants.{Points}
use Rattle.ak_run.specs.Contents.{after}
use Rattle.ak_run.specs.Replies.{reply_to}
use Rattle.ak_run.proofs.Growing.{sound_after}
use Rattle.ak_node.specs.Calls.{Told}
use Rattle.ak_node.specs.Names.{place_in, last_in_place, late_known, with_all}
use Rattle.ak_node.specs.Pieces.{InAnswer, LeavesInAnswer}
use Rattle.ak_node.specs.Taken.{NamesOne, IsInTime}
use Rattle.ak_node.proofs.Adding.{each_at}
use Rattle.ak_node.proofs.Answering.{disk_part, told_none, points_bytes}
use Rattle.ak_node.proofs.Late.{late_none}
use Rattle.ak_node.proofs.Naming.{known_at, number_is}
use Rattle.ak_node.proofs.Refusing.{fitting, taken}
use Rattle.ak_tree.specs.Standing.{Trees, AreTrees, Keeps, last_known}
use Rattle.ak_tree.specs.Storing.{LeavesView}
use Rattle.ak_world.specs.Puts.{named, refusal_of, all_accepted, after_points, late_behind, first_of}
use Rattle.ak_world.specs.Steps.{accepted}
use Rattle.ak_world.specs.Leaves.{Series}
use Rattle.ak_world.specs.Worlds.{World, content_now}
use Rattle.ak_world.proofs.ContentsOfNames.{known_stays}

-- ---- Names

place_from : (known : List (List ℕ)) (i from : ℕ) → IsDistinct bytes_eq known → i < length known → position_from (λ n. bytes_eq (get_or known i []) n) from known ≡ Some (from + i)
place_from [] i from apart lt = absurd (omega (arith, lt))
place_from (k ∷ ks) zero from apart lt = rw (nat_list_eq_equiv.refl k) (ap Some (omega arith))
place_from (k ∷ ks) (suc i) from apart lt =
    let other : bytes_eq k (get_or ks i []) ≡ false = apart_from_distinct bytes_eq (k ∷ ks) 0 (suc i) [] apart (omega arith) lt in
    rw (nat_list_eq_equiv.symm (get_or ks i []) k, other)
    (place_from ks i (from + 1) (IsDistinct-tail bytes_eq k ks apart) (omega (arith, lt)) ∙ ap Some (omega arith))

-- a name stands in its own place among names of which no two are alike
pub place_at : (known : List (List ℕ)) (i : ℕ) → IsDistinct bytes_eq known → i < length known → place_in known (get_or known i []) ≡ Some i
place_at known i apart lt = position_from-zero (λ n. bytes_eq (get_or known i []) n) known ∙ place_from known i 0 apart lt ∙ ap Some (omega arith)

-- a text that has the bytes of a known name names it
pub by_bytes : (known : List (List ℕ)) (text : List ℕ) (series : ℕ) → AllByRecursion IsCanonical known → place_in known text ≡ Some series → NamesOne known text series
by_bytes known text series canonical place =
    let at = position-Some (λ n. bytes_eq text n) known series [] place in
    let same : text ≡ get_or known series [] = (bytes_decides text (get_or known series [])).0 at.1 in
    record { name = text; place = place; named = each_at IsCanonical known series text [] canonical at.0 same }

-- one that was kept with one number names the name of that number
by_number : (known : List (List ℕ)) (text : List ℕ) (series : ℕ) → IsDistinct bytes_eq known → AreNumbers known (series ∷ []) → DoesName text (names_at known (series ∷ [])) → NamesOne known text series
by_number known text series apart numbers named = record { name = get_or known series []; place = place_at known series apart numbers.0; named = named }

pub by_numbers : (known : List (List ℕ)) (text numbers : List ℕ) → IsDistinct bytes_eq known → length numbers ≡ 1 → AreNumbers known numbers → DoesName text (names_at known numbers) → NamesOne known text (slice_index_or numbers 0 0)
by_numbers known text [] apart one are named = absurd (omega (arith, one))
by_numbers known text (n ∷ []) apart one are named = by_number known text n apart are named
by_numbers known text (n ∷ m ∷ ns) apart one are named = absurd (omega (arith, one))

names_canonical : (ss : List SeriesMeta) → AllByRecursion IsSeries ss → AllByRecursion IsCanonical (names_of ss)
names_canonical [] each = tt
names_canonical (s ∷ ss) each = (each.0.name, names_canonical ss each.1)

pub index_canonical : (known : List (List ℕ)) (f : Trees) → known ≡ names_of f.meta.series → AreTrees f → AllByRecursion IsCanonical known
index_canonical known f is are = subst (AllByRecursion IsCanonical) (sym is) (names_canonical f.meta.series are.rules_are.each)

pub index_apart : (known : List (List ℕ)) (f : Trees) → known ≡ names_of f.meta.series → AreTrees f → IsDistinct bytes_eq known
index_apart known f is are = subst (IsDistinct bytes_eq) (sym is) are.rules_are.apart

pub within : (known : List (List ℕ)) (text : List ℕ) (series : ℕ) → NamesOne known text series → series < length known
within known text series one = (position-Some (λ n. bytes_eq one.name n) known series [] one.place).0

-- ---- Points

module _ (w : World) (f : Trees) (known : List (List ℕ)) (name : List ℕ) (series : ℕ) (p : Point) (are : AreTrees f) (index : known ≡ names_of f.meta.series) (place : place_in known name ≡ Some series)
    (in_time : IsInTime f series p.ts) (keeps : Keeps w f) where
  -- nothing is added
  same_content : with_all f.meta (name ∷ []) ≡ f.meta
  same_content = rw (ap (λ ns. list_any (λ n. bytes_eq name n) ns) (sym index) ∙ known_at known name series place) refl

  same_names : named w (name ∷ []) ≡ w
  same_names =
      let here : known ≡ names_of (content_now w).series = index ∙ ap (λ (c : Content). names_of c.series) keeps.content_is in
      ap (λ (ss : List Series). record w { series = ss }) (known_stays w name (ap (λ (ns : List (List ℕ)). list_any (λ n. bytes_eq name n) ns) (sym here) ∙ known_at known name series place))

  -- nothing is refused
  pub none_refused : refusal_of w (name ∷ []) p.ts ≡ None
  none_refused =
      let need = min (16 + size_of (with_all f.meta (name ∷ []))) (2 ^ 64 - 1) in
      let late : late_known f known (name ∷ []) p.ts ≡ None = ap (λ o. first_of (late_behind (last_in_place f o) p.ts) None) place ∙ ap (λ o. first_of o None) (late_none (last_known f series) p.ts in_time) in
      sym (fitting w f (name ∷ []) p.ts keeps known need (4096 * f.meta.limits.slot) None are index refl refl (rw same_content (omega (arith, are.room))) (sym late))

  -- the point is accepted
  pub one_point : after_points w (name ∷ []) p.ts (p.value ∷ []) ≡ accepted w series p
  one_point =
      sym (taken w (name ∷ []) p.ts (p.value ∷ []) (sym none_refused))
      ∙ ap (λ v. all_accepted v (name ∷ []) p.ts (p.value ∷ [])) same_names
      ∙ ap (λ n. accepted w n p) (number_is w f known name series keeps index place)

  abbrev asks_it : Asked
  asks_it = Points (name ∷ []) p.ts (p.value ∷ [])

  pub after_known : after w asks_it ≡ accepted w series p
  after_known = sound_after w asks_it keeps.not_worn ∙ one_point

  pub known_told : (port : ℕ) {P : Files → Type 0} {old new : HostState} → DiskPasses P old new → Told (mark_now old) (mark_now new) port (reply_to port w asks_it).bytes
  known_told port run = told_none port w asks_it run (points_bytes port w (name ∷ []) p.ts (p.value ∷ []) None keeps.not_worn (sym none_refused))

  pub known_passes : (port : ℕ) {old new : HostState} → DiskPasses (LeavesView w (accepted w series p)) old new
      → Passes (InAnswer port w asks_it (mark_now old)) (LeavesInAnswer port w asks_it (mark_now old)) old new
  known_passes port {old} {new} run = disk_part port w asks_it keeps.not_worn (subst (λ (v : World). DiskPasses (LeavesView w v) old new) (sym one_point) run)

-- ---- Texts that are kept

-- the next of some names has its number
pub numbers_more : (known names : List (List ℕ)) (numbers : List ℕ) (i n : ℕ) (name d : List ℕ) → AreNumbers known numbers → names_at known numbers ≡ take i names → i < length names → name ≡ get_or names i d
    → place_in known name ≡ Some n → AreNumbers known (numbers ++ n ∷ []) × (names_at known (numbers ++ n ∷ []) ≡ take (i + 1) names)
numbers_more known names numbers i n name d are so_far lt is place =
    let at = position-Some (λ m. bytes_eq name m) known n [] place in
    let same : name ≡ get_or known n [] = (bytes_decides name (get_or known n [])).0 at.1 in (
      each_push (λ m. m < length known) numbers n are at.0,
      map-append (λ m. get_or known m []) numbers (n ∷ []) ∙ ap₂ (λ ms m. ms ++ m ∷ []) so_far (sym same ∙ is) ∙ sym (take_more names i d lt),
    )

-- New forests, and series that are added.
use Rattle.std.proofs.Common.{◌≡◌, ◌≢◌, inl, inr, ◌∙◌, ℕ, zero, suc, ◌+◌, ◌*◌, ◌^◌, ◌<◌, ◌≤◌, List, [], ◌∷◌, ◌++◌, length, get_or, map, sum, Option, Some, None, Bool, true, false, ◌||◌, if◌then◌else◌, bytes_eq, refl, sym, ap, subst, arith, length-append}
use Rattle.std.proofs.lemmas.Bool.{cases_lt}
use Rattle.std.proofs.lemmas.Cmp.{nat_list_eq_equiv}
use Rattle.std.proofs.lemmas.List.{get_or_append_left}
use Rattle.std.proofs.lemmas.List.Sums.{sum_by-cons}
use Rattle.std.specs.List.{list_any}
use Rattle.ak_checkpoint.specs.Saving.{Saving}
use Rattle.ak_host.specs.Moments.{HostState}
use Rattle.ak_image.proofs.StepLaid.{series_laid}
use Rattle.ak_image.specs.Blocks.{Seen, seen_in}
use Rattle.ak_image.specs.Planted.{AreAllLawful}
use Rattle.ak_levels.specs.Pending.{Lists, no_lists}
use Rattle.ak_meta.proofs.Lawful.{series_lawful}
use Rattle.ak_meta.proofs.Sizes.{many}
use Rattle.ak_meta.specs.Contents.{Content, IsMeta, IsCanonical, size_of, names_of, leaves_of}
use Rattle.ak_meta.specs.Leaves.{with_series, new_series}
use Rattle.ak_meta.specs.declared.meta.SeriesMeta.{SeriesMeta}
use Rattle.ak_pool.specs.Frames.{frames_of}
use Rattle.ak_pool.specs.declared.pool.Frame.{Frame}
use Rattle.ak_tree.specs.Standing.{Trees, trees, AreTrees, IsOpenLeaf, ArePooled, Keeps, Holds, base_of, bases_of}
use Rattle.ak_tree.specs.Storing.{IsStored}
use Rattle.ak_tree.proofs.Framing.{as_many}
use Rattle.ak_tree.proofs.Planted.{lawful_more, all_named}
use Rattle.ak_tree.proofs.Pooling.{each_both, pooled_more}
use Rattle.ak_volumes.specs.Ordinals.{newest, file_of}
use Rattle.ak_world.proofs.ContentsOfNames.{content_named, kept_named}
use Rattle.ak_world.proofs.Opened.{opened_content, opened_valid}
use Rattle.ak_world.proofs.Valid.{name_valid}
use Rattle.ak_world.specs.Leaves.{Leaf, Series}
use Rattle.ak_world.specs.Puts.{with_name}
use Rattle.ak_world.specs.Steps.{written_in}
use Rattle.ak_world.specs.Valid.{AreOpenable, IsWorld}
use Rattle.ak_world.specs.Views.{View, all_known}
use Rattle.ak_world.specs.Worlds.{World, world_of, all_series, content_now, kept_now}

-- ---- A new forest

-- no series has a frame
pub record AreFree (frames : List (Option Frame)) (count : ℕ) : Type 0 where
  pub number : length frames ≡ count
  pub none : (n : ℕ) → get_or frames n None ≡ None

none_in : (frames : List (Option Frame)) (n : ℕ) → length frames ≡ 0 → get_or frames n None ≡ None
none_in [] zero long = refl
none_in [] (suc n) long = refl
none_in (x ∷ frames) n long = absurd (omega (arith, long))

pub free_none : AreFree [] 0
free_none = record { number = refl; none = λ n. none_in [] n refl }

none_more : (frames : List (Option Frame)) (n : ℕ) → ((m : ℕ) → get_or frames m None ≡ None) → get_or (frames ++ None ∷ []) n None ≡ None
none_more [] zero none = refl
none_more [] (suc n) none = none n
none_more (x ∷ frames) zero none = none zero
none_more (x ∷ frames) (suc n) none = none_more frames n (λ m. none (suc m))

pub free_more : (frames : List (Option Frame)) (count : ℕ) → AreFree frames count → AreFree (frames ++ None ∷ []) (count + 1)
free_more frames count free = record { number = omega (arith, length-append frames (None ∷ []), free.number); none = λ n. none_more frames n free.none }

no_frame : (g : Frame) → None ≢ Some g
no_frame g e = cc

pub pooled_none : (count k : ℕ) (frames : List (Option Frame)) → AreFree frames k → ArePooled (frames_of count []) frames k
pooled_none count k frames free = record {
  frames_are = record { numbered = tt; most = omega arith };
  number = free.number;
  each = tt;
  framed = λ n g is. absurd (no_frame g (sym (free.none n) ∙ is));
}

pub trees_new : (meta : Content) (frames : List (Option Frame)) (levels : List Lists) (check : Saving) → IsMeta meta → 16 + size_of meta ≤ 4096 * meta.limits.slot → check.gate.slot ≡ meta.limits.slot → AreAllLawful meta.series levels
    → AreFree frames (length meta.series) → AreTrees (trees meta (frames_of meta.limits.pool []) frames levels check 0)
trees_new meta frames levels check rules room slot lawful free = record {
  rules_are = rules;
  room = room;
  slot_is = slot;
  count = refl;
  pooled = pooled_none meta.limits.pool (length meta.series) frames free;
  lawful = lawful;
  since = omega arith;
}

none_written : (all : List SeriesMeta) (kept : List (List Leaf)) (n : ℕ) → written_in (all_series all kept) n ≡ []
none_written [] kept n = refl
none_written (known ∷ all) [] zero = refl
none_written (known ∷ all) [] (suc n) = none_written all [] n
none_written (known ∷ all) (leaves ∷ kept) zero = refl
none_written (known ∷ all) (leaves ∷ kept) (suc n) = none_written all kept n

pub keeps_new : (meta : Content) (pool : ℕ) (frames : List (Option Frame)) (levels : List Lists) (check : Saving) (view : View) → IsMeta meta → view.content ≡ meta → view.number ≡ check.number → AreOpenable meta.ordinals.lo meta.series view.kept
    → Keeps (world_of view) (trees meta (frames_of pool []) frames levels check 0)
keeps_new meta pool frames levels check view rules same number may =
    let is : IsMeta view.content = subst IsMeta (sym same) rules in
    let open_is : AreOpenable view.content.ordinals.lo view.content.series view.kept = subst (λ (c : Content). AreOpenable c.ordinals.lo c.series view.kept) (sym same) may in
    record {
      not_worn = refl;
      valid = opened_valid view is open_is;
      content_is = sym same ∙ sym (opened_content view is open_is);
      since_is = refl;
      number_is = sym number;
      recent_is = refl;
      open_leaves = tt;
      others = λ n within none. none_written view.content.series view.kept n;
    }

-- ---- A series more

size_more : (all : List SeriesMeta) (s : SeriesMeta) → sum (map (λ (t : SeriesMeta). 106 + length t.name) (all ++ s ∷ [])) ≡ sum (map (λ (t : SeriesMeta). 106 + length t.name) all) + (106 + length s.name)
size_more [] s = omega (arith, sum_by-cons (λ (n : ℕ). n) (106 + length s.name) [])
size_more (t ∷ all) s =
    omega (
      arith,
      size_more all s,
      sum_by-cons (λ (n : ℕ). n) (106 + length t.name) (map (λ (r : SeriesMeta). 106 + length r.name) all),
      sum_by-cons (λ (n : ℕ). n) (106 + length t.name) (map (λ (r : SeriesMeta). 106 + length r.name) (all ++ s ∷ [])),
    )

-- the record is longer by the name and 106 bytes
pub size_named : (c : Content) (name : List ℕ) → size_of (with_series c name) ≡ size_of c + (106 + length name)
size_named c name = omega (arith, size_more c.series (new_series name))

leaves_same : (all : List SeriesMeta) (name : List ℕ) → leaves_of (all ++ new_series name ∷ []) ≡ leaves_of all
leaves_same [] name = omega (arith, sum_by-cons (λ (n : ℕ). n) 0 [])
leaves_same (s ∷ all) name =
    omega (
      arith,
      leaves_same all name,
      sum_by-cons (λ (n : ℕ). n) s.leaves (map (λ (t : SeriesMeta). t.leaves) all),
      sum_by-cons (λ (n : ℕ). n) s.leaves (map (λ (t : SeriesMeta). t.leaves) (all ++ new_series name ∷ [])),
    )

-- the forest with one series more
abbrev pub with_named : Trees → List ℕ → Trees
with_named f name = record f { meta = with_series f.meta name; frames = f.frames ++ None ∷ []; levels = f.levels ++ no_lists ∷ [] }

pub trees_named : (f : Trees) (name : List ℕ) → AreTrees f → IsCanonical name → list_any (λ n. bytes_eq name n) (names_of f.meta.series) ≡ false → 16 + size_of (with_series f.meta name) ≤ 4096 * f.meta.limits.slot → AreTrees (with_named f name)
trees_named f name are canonical new room =
    let few : length f.meta.series + 1 < 2 ^ 32 = omega (arith, many f.meta.series, are.room, are.rules_are.limits_are.slot_most) in
    record {
      rules_are = series_lawful f.meta name are.rules_are canonical new few;
      room = room;
      slot_is = are.slot_is;
      count = are.count;
      pooled = subst (ArePooled f.pool (f.frames ++ None ∷ [])) (sym (length-append f.meta.series (new_series name ∷ []))) (pooled_more f.pool f.frames (length f.meta.series) are.pooled);
      lawful = lawful_more f.meta.series f.levels name are.lawful;
      since = omega (arith, leaves_same f.meta.series name, are.since);
    }

one_written : (b : Bool) (ss ts : List Series) (n : ℕ) (ps : List _) → written_in ss n ≡ ps → written_in ts n ≡ ps → written_in (if b then ss else ts) n ≡ ps
one_written true ss ts n ps first second = first
one_written false ss ts n ps first second = second

named_written : (ss : List Series) (name : List ℕ) (n : ℕ) → n < length ss → written_in (with_name ss name) n ≡ written_in ss n
named_written [] name n within = absurd (omega arith)
named_written (s ∷ ss) name zero within = one_written (bytes_eq s.name name) (s ∷ ss) (s ∷ with_name ss name) zero s.written refl refl
named_written (s ∷ ss) name (suc n) within = one_written (bytes_eq s.name name) (s ∷ ss) (s ∷ with_name ss name) (suc n) (written_in ss n) refl (named_written ss name n (omega arith))

behind_written : (ss : List Series) (n : ℕ) → length ss ≤ n → written_in ss n ≡ []
behind_written [] n behind = refl
behind_written (s ∷ ss) zero behind = absurd (omega arith)
behind_written (s ∷ ss) (suc n) behind = behind_written ss n (omega arith)

named_behind : (ss : List Series) (name : List ℕ) (n : ℕ) → length ss ≤ n → written_in (with_name ss name) n ≡ []
named_behind [] name zero behind = refl
named_behind [] name (suc n) behind = refl
named_behind (s ∷ ss) name zero behind = absurd (omega arith)
named_behind (s ∷ ss) name (suc n) behind = one_written (bytes_eq s.name name) (s ∷ ss) (s ∷ with_name ss name) (suc n) [] (behind_written ss n (omega arith)) (named_behind ss name n (omega arith))

pub keeps_named : (w : World) (f : Trees) (name : List ℕ) → AreTrees f → Keeps w f → list_any (λ n. bytes_eq name n) (names_of f.meta.series) ≡ false → Keeps (record w { series = with_name w.series name }) (with_named f name)
keeps_named w f name are keeps new =
    let new_is = subst (λ (c : Content). list_any (λ n. bytes_eq name n) (names_of c.series) ≡ false) keeps.content_is new in
    record {
      not_worn = keeps.not_worn;
      valid = name_valid w name keeps.valid;
      content_is = ap (λ (c : Content). with_series c name) keeps.content_is ∙ sym (content_named w name keeps.valid new_is);
      since_is = keeps.since_is;
      number_is = keeps.number_is;
      recent_is = keeps.recent_is;
      open_leaves = each_both (IsOpenLeaf f.frames) (λ u. written_in w.series u.series ≡ u.leaf) (λ u. written_in (with_name w.series name) u.series ≡ u.leaf)
          (λ u leaf is. named_written w.series name u.series (omega (arith, leaf.known, are.pooled.number, as_many w f keeps)) ∙ is) f.pool.used are.pooled.each keeps.open_leaves;
      others = λ n within none. elim (cases_lt n (length w.series)) [
        | inl less ↦
            (let inner : n < length f.frames = omega (arith, less, are.pooled.number, as_many w f keeps) in
            named_written w.series name n less ∙ keeps.others n less (sym (get_or_append_left f.frames (None ∷ []) None n inner) ∙ none))
        | inr more ↦ named_behind w.series name n more
      ];
    }

-- ---- What is stored, with a series more

neither : (a b : Bool) → (a || b) ≡ false → (a ≡ false) × (b ≡ false)
neither false b none = (refl, none)
neither true b none = absurd (cc)

-- no leaf of a new series was ever live
one_base : (s : Series) (name : List ℕ) (ss : List Series) (bases : List ℕ) → bytes_eq name s.name ≡ false → map base_of (with_name ss name) ≡ bases ++ 0 ∷ [] → map base_of (with_name (s ∷ ss) name) ≡ (base_of s ∷ bases) ++ 0 ∷ []
one_base s name ss bases other is =
    ap (λ (b : Bool). map base_of (if b then s ∷ ss else s ∷ with_name ss name)) (nat_list_eq_equiv.symm s.name name ∙ other)
    ∙ ap (λ (l : List ℕ). base_of s ∷ l) is

bases_named : (opened : List SeriesMeta) (ss : List Series) (name : List ℕ) → list_any (λ n. bytes_eq name n) (names_of (all_known opened ss)) ≡ false → map base_of (with_name ss name) ≡ map base_of ss ++ 0 ∷ []
bases_named opened [] name new = refl
bases_named [] (s ∷ ss) name new =
    let apart = neither (bytes_eq name s.name) (list_any (λ n. bytes_eq name n) (names_of (all_known [] ss))) new in
    one_base s name ss (map base_of ss) apart.0 (bases_named [] ss name apart.1)
bases_named (o ∷ opened) (s ∷ ss) name new =
    let apart = neither (bytes_eq name s.name) (list_any (λ n. bytes_eq name n) (names_of (all_known opened ss))) new in
    one_base s name ss (map base_of ss) apart.0 (bases_named opened ss name apart.1)

pub stored_named : (w : World) (name : List ℕ) (levels : List Lists) (file : ℕ) (host : HostState) → IsWorld w → IsMeta (content_now w) → list_any (λ n. bytes_eq name n) (names_of (content_now w).series) ≡ false
    → IsStored w.last (content_now w) (kept_now w) (bases_of w) levels file host
    → IsStored w.last (content_now (record w { series = with_name w.series name })) (kept_now (record w { series = with_name w.series name })) (bases_of (record w { series = with_name w.series name })) (levels ++ no_lists ∷ []) file host
stored_named w name levels file host is rules new stored =
    let c : Content = content_now w in
    let seen : Seen = seen_in c.limits.volumes host.files in
    let more : IsStored w.last (with_series c name) (kept_now w ++ [] ∷ []) (bases_of w ++ 0 ∷ []) (levels ++ no_lists ∷ []) file host = record {
      rules_are = stored.rules_are;
      limits_are = stored.limits_are;
      laid = series_laid seen c (kept_now w) name rules stored.laid;
      planted = all_named c.ordinals seen 0 c.series (kept_now w) (bases_of w) levels name stored.planted;
      saved = stored.saved;
      left = stored.left;
    } in
    let v : World = record w { series = with_name w.series name } in
    subst (λ (d : Content). IsStored w.last d (kept_now v) (bases_of v) (levels ++ no_lists ∷ []) file host) (sym (content_named w name is new))
    (subst (λ (kept : List (List Leaf)). IsStored w.last (with_series c name) kept (bases_of v) (levels ++ no_lists ∷ []) file host) (sym (kept_named w name new))
    (subst (λ (bases : List ℕ). IsStored w.last (with_series c name) (kept_now w ++ [] ∷ []) bases (levels ++ no_lists ∷ []) file host) (sym (bases_named w.opened.content.series w.series name new)) more))

pub holds_named : (w : World) (f : Trees) (name : List ℕ) (host : HostState) → AreTrees f → Holds w f host → list_any (λ n. bytes_eq name n) (names_of f.meta.series) ≡ false
    → Holds (record w { series = with_name w.series name }) (with_named f name) host
holds_named w f name host are holds new =
    let new_is = subst (λ (c : Content). list_any (λ n. bytes_eq name n) (names_of c.series) ≡ false) holds.keeps.content_is new in
    record {
      keeps = keeps_named w f name are holds.keeps new;
      stored = stored_named w name f.levels (file_of w.ordinals (newest w.ordinals)) host holds.keeps.valid (subst IsMeta holds.keeps.content_is are.rules_are) new_is holds.stored;
    }

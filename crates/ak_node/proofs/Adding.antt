-- Names that are added to a forest, to its index, and to the world.
use Rattle.std.proofs.Common.{◌≡◌, ◌∙◌, ℕ, zero, suc, ◌+◌, ◌*◌, ◌^◌, ◌<◌, ◌≤◌, Bool, true, false, ◌||◌, if◌then◌else◌, List, [], ◌∷◌, ◌++◌, length, take, drop, get_or, Option, Some, None, is_some, not, cond, map, bytes_eq, refl, sym, ap, ap₂, subst, arith}
use Rattle.std.proofs.lemmas.List.{take_more, drop_all, length-map}
use Rattle.std.proofs.lemmas.List.Folds.{list_any-append}
use Rattle.std.proofs.lemmas.Slice.Eq.{bytes_eq-Decides}
use Rattle.std.proofs.lemmas.Cmp.{nat_list_eq_equiv}
use Rattle.std.proofs.lemmas.Iterator.Adapters.{position_from-zero}
use Rattle.std.specs.List.{AllByRecursion, list_any, position_from}
use Rattle.std.specs.Prelude.{IfSome}
use Rattle.ak_host.specs.Moments.{HostState}
use Rattle.ak_image.specs.Blocks.{Seen, seen_in, AreThere}
use Rattle.ak_image.specs.Laid.{IsLaid}
use Rattle.ak_image.specs.Planted.{ArePlanted}
use Rattle.ak_image.proofs.StepLaid.{series_laid}
use Rattle.ak_levels.specs.Pending.{Lists, no_lists}
use Rattle.ak_meta.proofs.Lawful.{series_lawful}
use Rattle.ak_meta.proofs.Sizes.{many}
use Rattle.ak_meta.specs.Contents.{Content, IsMeta, IsCanonical, names_of, size_of}
use Rattle.ak_meta.specs.Leaves.{with_series, new_series}
use Rattle.ak_meta.specs.declared.meta.SeriesMeta.{SeriesMeta}
use Rattle.ak_node.specs.Names.{place_in, last_in_place, late_known, with_all, levels_with, ArePlaces}
use Rattle.ak_node.proofs.Naming.{titles, titles_known, with_one, with_title, known_at, new_at, content_one}
use Rattle.ak_node.proofs.Late.{Below, not_late, late_none, both_none}
use Rattle.ak_node.proofs.Looking.{knows, size_one, rest_at}
use Rattle.ak_pool.specs.declared.pool.Frame.{Frame}
use Rattle.ak_tree.specs.Later.{KeepsOrigins}
use Rattle.ak_tree.proofs.Becoming.{origins_same, origins_named}
use Rattle.ak_tree.specs.Standing.{Trees, trees, AreTrees, IsReady, Keeps, Holds, leaf_in, last_of_series, last_behind, last_known, base_of, bases_of}
use Rattle.ak_tree.proofs.AddingSeries.{size_named}
use Rattle.ak_tree.proofs.Planted.{all_named}
use Rattle.ak_volumes.specs.Ordinals.{Ordinals}
use Rattle.ak_world.specs.Leaves.{Series, Leaf}
use Rattle.ak_world.specs.Puts.{with_name, late_behind, first_of, named}
use Rattle.ak_world.specs.Valid.{IsWorld}
use Rattle.ak_world.specs.Worlds.{World, limits_of, content_now, kept_now}
use Rattle.ak_world.proofs.ContentsOfNames.{content_named, kept_named, known_stays}
use Rattle.ak_world.proofs.Valid.{name_valid}

-- ---- With all names

abbrev by_test : Bool → Content → List ℕ → Content
by_test b c name = if b then c else with_series c name

pub one_new : (c : Content) (name : List ℕ) → knows c name ≡ false → with_one c name ≡ with_series c name
one_new c name new = ap (λ (b : Bool). by_test b c name) new

pub one_known : (c : Content) (name : List ℕ) → knows c name ≡ true → with_one c name ≡ c
one_known c name some = ap (λ (b : Bool). by_test b c name) some

pub size_least : (c : Content) (names : List (List ℕ)) → size_of c ≤ size_of (with_all c names)
size_least c [] = omega arith
size_least c (name ∷ names) = omega (arith, size_one c name, size_least (with_one c name) names)

-- with the next name the record isn't longer than with all
pub room_next : (c all : Content) (names : List (List ℕ)) (i : ℕ) (name d : List ℕ) → i < length names → name ≡ get_or names i d → knows c name ≡ false
    → with_all c (drop i names) ≡ with_all all names → c.limits ≡ all.limits → 16 + size_of (with_all all names) ≤ 4096 * all.limits.slot
    → 16 + size_of (with_series c name) ≤ 4096 * c.limits.slot
room_next c all names i name d lt is new same limits room =
    let split : drop i names ≡ name ∷ drop (i + 1) names = rest_at names i d lt ∙ ap (λ (n : List ℕ). n ∷ drop (i + 1) names) (sym is) in
    let whole : with_all all names ≡ with_all (with_series c name) (drop (i + 1) names) =
    sym same ∙ ap (with_all c) split ∙ ap (λ (m : Content). with_all m (drop (i + 1) names)) (one_new c name new) in
    let long : size_of (with_all all names) ≡ size_of (with_all (with_series c name) (drop (i + 1) names)) = ap size_of whole in
    let slot : c.limits.slot ≡ all.limits.slot = ap (λ l. l.slot) limits in
    omega (arith, long, size_least (with_series c name) (drop (i + 1) names), slot, room)

pub next_new : (c all : Content) (names : List (List ℕ)) (i : ℕ) (name d : List ℕ) → i < length names → name ≡ get_or names i d → knows c name ≡ false
    → with_all c (drop i names) ≡ with_all all names → with_all (with_series c name) (drop (i + 1) names) ≡ with_all all names
next_new c all names i name d lt is new same =
    let split : drop i names ≡ name ∷ drop (i + 1) names = rest_at names i d lt ∙ ap (λ (n : List ℕ). n ∷ drop (i + 1) names) (sym is) in
    sym (ap (with_all c) split ∙ ap (λ (m : Content). with_all m (drop (i + 1) names)) (one_new c name new)) ∙ same

pub next_known : (c all : Content) (names : List (List ℕ)) (i : ℕ) (name d : List ℕ) → i < length names → name ≡ get_or names i d → knows c name ≡ true
    → with_all c (drop i names) ≡ with_all all names → with_all c (drop (i + 1) names) ≡ with_all all names
next_known c all names i name d lt is some same =
    let split : drop i names ≡ name ∷ drop (i + 1) names = rest_at names i d lt ∙ ap (λ (n : List ℕ). n ∷ drop (i + 1) names) (sym is) in
    sym (ap (with_all c) split ∙ ap (λ (m : Content). with_all m (drop (i + 1) names)) (one_known c name some)) ∙ same

-- ---- What waits with all names

abbrev levels_by : Bool → List Lists → List Lists
levels_by b levels = if b then levels else levels ++ no_lists ∷ []

one_waits : (c : Content) (levels : List Lists) (name : List ℕ) (rest : List (List ℕ)) (b : Bool) → knows c name ≡ b
    → levels_with c levels (name ∷ rest) ≡ levels_with (by_test b c name) (levels_by b levels) rest
one_waits c levels name rest b is = ap (λ (x : Bool). levels_with (by_test x c name) (levels_by x levels) rest) is

next_waits : (c all : Content) (levels first : List Lists) (names : List (List ℕ)) (i : ℕ) (name d : List ℕ) (b : Bool) → i < length names → name ≡ get_or names i d → knows c name ≡ b
    → levels_with c levels (drop i names) ≡ levels_with all first names → levels_with (by_test b c name) (levels_by b levels) (drop (i + 1) names) ≡ levels_with all first names
next_waits c all levels first names i name d b lt is known same =
    let split : drop i names ≡ name ∷ drop (i + 1) names = rest_at names i d lt ∙ ap (λ (n : List ℕ). n ∷ drop (i + 1) names) (sym is) in
    sym (ap (levels_with c levels) split ∙ one_waits c levels name (drop (i + 1) names) b known) ∙ same

pub levels_new : (c all : Content) (levels first : List Lists) (names : List (List ℕ)) (i : ℕ) (name d : List ℕ) → i < length names → name ≡ get_or names i d → knows c name ≡ false
    → levels_with c levels (drop i names) ≡ levels_with all first names → levels_with (with_series c name) (levels ++ no_lists ∷ []) (drop (i + 1) names) ≡ levels_with all first names
levels_new c all levels first names i name d lt is new same = next_waits c all levels first names i name d false lt is new same

pub levels_known : (c all : Content) (levels first : List Lists) (names : List (List ℕ)) (i : ℕ) (name d : List ℕ) → i < length names → name ≡ get_or names i d → knows c name ≡ true
    → levels_with c levels (drop i names) ≡ levels_with all first names → levels_with c levels (drop (i + 1) names) ≡ levels_with all first names
levels_known c all levels first names i name d lt is some same = next_waits c all levels first names i name d true lt is some same

-- ---- What the forest knows

last_more : (all : List SeriesMeta) (name : List ℕ) (n : ℕ) → last_of_series (all ++ new_series name ∷ []) n ≡ last_of_series all n
last_more [] name zero = refl
last_more [] name (suc n) = refl
last_more (s ∷ all) name zero = refl
last_more (s ∷ all) name (suc n) = last_more all name n

frame_more : (frames : List (Option Frame)) (n : ℕ) → get_or (frames ++ None ∷ []) n None ≡ get_or frames n None
frame_more [] zero = refl
frame_more [] (suc n) = refl
frame_more (x ∷ frames) zero = refl
frame_more (x ∷ frames) (suc n) = frame_more frames n

-- the forest with a series more
abbrev pub with_more : Trees → List ℕ → Trees
with_more f name = record f { meta = with_series f.meta name; frames = f.frames ++ None ∷ []; levels = f.levels ++ no_lists ∷ [] }

-- no last timestamp changes
pub last_stays : (f new : Trees) (name : List ℕ) (n : ℕ) → new ≡ with_more f name → last_known new n ≡ last_known f n
last_stays f new name n is =
    ap (λ (t : Trees). last_known t n) is
    ∙ ap₂ (λ (before : Option ℕ) (frame : Option Frame). last_behind before (leaf_in f.pool frame)) (last_more f.meta.series name n) (frame_more f.frames n)

-- ---- Each name

pub each_at : (P : List ℕ → Type 0) (names : List (List ℕ)) (i : ℕ) (name d : List ℕ) → AllByRecursion P names → i < length names → name ≡ get_or names i d → P name
each_at P [] i name d each lt is = absurd (omega (arith, lt))
each_at P (x ∷ names) zero name d each lt is = subst P (sym is) each.0
each_at P (x ∷ names) (suc i) name d each lt is = each_at P names i name d each.1 (omega (arith, lt)) is

each_push : (P : List ℕ → Type 0) (names : List (List ℕ)) (name : List ℕ) → AllByRecursion P names → P name → AllByRecursion P (names ++ name ∷ [])
each_push P [] name each here = (here, tt)
each_push P (x ∷ names) name each here = (each.0, each_push P names name each.1 here)

each_weaker : (P Q : List ℕ → Type 0) (names : List (List ℕ)) → ((name : List ℕ) → P name → Q name) → AllByRecursion P names → AllByRecursion Q names
each_weaker P Q [] follows each = tt
each_weaker P Q (x ∷ names) follows each = (follows x each.0, each_weaker P Q names follows each.1)

abbrev pub IsAmong : List (List ℕ) → List ℕ → Type 0
IsAmong known name = list_any (λ n. bytes_eq name n) known ≡ true

or_first : (a b : Bool) → a ≡ true → (a || b) ≡ true
or_first true b is = refl
or_first false b is = absurd (cc)

or_second : (a b : Bool) → b ≡ true → (a || b) ≡ true
or_second true b is = refl
or_second false b is = is

pub among_more : (known : List (List ℕ)) (more name : List ℕ) → IsAmong known name → IsAmong (known ++ more ∷ []) name
among_more known more name is = list_any-append (λ n. bytes_eq name n) known (more ∷ []) ∙ or_first (list_any (λ n. bytes_eq name n) known) (bytes_eq name more || false) is

among_last : (known : List (List ℕ)) (name : List ℕ) → IsAmong (known ++ name ∷ []) name
among_last known name =
    list_any-append (λ n. bytes_eq name n) known (name ∷ [])
    ∙ or_second (list_any (λ n. bytes_eq name n) known) (bytes_eq name name || false) (or_first (bytes_eq name name) false ((bytes_eq-Decides name name).1 refl))

-- the names up to here are known, and this one
pub known_next : (known names : List (List ℕ)) (i : ℕ) (name d : List ℕ) → i < length names → name ≡ get_or names i d → IsAmong known name
    → AllByRecursion (IsAmong known) (take i names) → AllByRecursion (IsAmong known) (take (i + 1) names)
known_next known names i name d lt is here before =
    subst (AllByRecursion (IsAmong known)) (sym (take_more names i d lt ∙ ap (λ (n : List ℕ). take i names ++ n ∷ []) (sym is))) (each_push (IsAmong known) (take i names) name before here)

pub added_next : (known now names : List (List ℕ)) (i : ℕ) (name d : List ℕ) → i < length names → name ≡ get_or names i d → now ≡ known ++ name ∷ []
    → AllByRecursion (IsAmong known) (take i names) → AllByRecursion (IsAmong now) (take (i + 1) names)
added_next known now names i name d lt is now_is before =
    subst (λ (l : List (List ℕ)). AllByRecursion (IsAmong l) (take (i + 1) names)) (sym now_is)
    (known_next (known ++ name ∷ []) names i name d lt is (among_last known name)
    (each_weaker (IsAmong known) (IsAmong (known ++ name ∷ [])) (take i names) (λ other h. among_more known name other h) before))

-- ---- The world with the names so far

pub record AreAdded (content : World) (names rest : List (List ℕ)) (f : Trees) : Type 0 where
  pub now : World
  pub keeps : Keeps now f
  pub rest_is : named now rest ≡ named content names

knows_world : (w : World) (f : Trees) (name : List ℕ) (b : Bool) → Keeps w f → knows f.meta name ≡ b → knows (content_now w) name ≡ b
knows_world w f name b keeps is = ap (λ (c : Content). knows c name) (sym keeps.content_is) ∙ is

pub known_added : (content : World) (names : List (List ℕ)) (f : Trees) (i : ℕ) (name d : List ℕ) → i < length names → name ≡ get_or names i d → knows f.meta name ≡ true
    → AreAdded content names (drop i names) f → AreAdded content names (drop (i + 1) names) f
known_added content names f i name d lt is some so_far =
    let split : drop i names ≡ name ∷ drop (i + 1) names = rest_at names i d lt ∙ ap (λ (n : List ℕ). n ∷ drop (i + 1) names) (sym is) in
    let stays : with_name so_far.now.series name ≡ so_far.now.series = known_stays so_far.now name (knows_world so_far.now f name true so_far.keeps some) in
    record {
      now = so_far.now;
      keeps = so_far.keeps;
      rest_is = sym (ap (λ (l : List (List ℕ)). named so_far.now l) split ∙ ap (λ (ss : List Series). named (record so_far.now { series = ss }) (drop (i + 1) names)) stays) ∙ so_far.rest_is;
    }

pub new_added : (content : World) (names : List (List ℕ)) (f new : Trees) (i : ℕ) (name d : List ℕ) → i < length names → name ≡ get_or names i d
    → (so_far : AreAdded content names (drop i names) f) → Keeps (with_title so_far.now name) new → AreAdded content names (drop (i + 1) names) new
new_added content names f new i name d lt is so_far keeps =
    let split : drop i names ≡ name ∷ drop (i + 1) names = rest_at names i d lt ∙ ap (λ (n : List ℕ). n ∷ drop (i + 1) names) (sym is) in
    record {
      now = with_title so_far.now name;
      keeps = keeps;
      rest_is = sym (ap (λ (l : List (List ℕ)). named so_far.now l) split) ∙ so_far.rest_is;
    }

pub all_added : (content : World) (names : List (List ℕ)) (f : Trees) (i : ℕ) → length names ≤ i → AreAdded content names (drop i names) f → Keeps (named content names) f
all_added content names f i past so_far =
    subst (λ (w : World). Keeps w f) (sym (ap (λ (l : List (List ℕ)). named so_far.now l) (drop_all i names past)) ∙ so_far.rest_is) so_far.keeps

-- ---- Whether the index has a place

pub is_new : (known : List (List ℕ)) (name : List ℕ) (o : Option ℕ) (b : Bool) → o ≡ place_in known name → is_some o ≡ not b → b ≡ true → list_any (λ n. bytes_eq name n) known ≡ false
is_new known name None b is test none = new_at known name (sym is)
is_new known name (Some i) b is test none = let e : true ≡ not true = test ∙ ap not none in absurd (cc)

pub is_among : (known : List (List ℕ)) (name : List ℕ) (o : Option ℕ) (b : Bool) → o ≡ place_in known name → is_some o ≡ not b → b ≡ false → IsAmong known name
is_among known name None b is test some = let e : false ≡ not false = test ∙ ap not some in absurd (cc)
is_among known name (Some i) b is test some = known_at known name i (sym is)

-- ---- The forest with the names so far

abbrev over : Trees → Trees → Trees
over first f = record first { meta = f.meta; frames = f.frames; levels = f.levels }

pub forest_next : (first f new : Trees) (name : List ℕ) → new ≡ with_more f name → f ≡ over first f → new ≡ over first new
forest_next first f new name is before =
    is ∙ ap (λ (t : Trees). trees (with_series f.meta name) t.pool (f.frames ++ None ∷ []) (f.levels ++ no_lists ∷ []) t.check t.since) before ∙ sym (ap (over first) is)

-- ---- What is stored

ordinals_one : (b : Bool) (c : Content) (name : List ℕ) → (by_test b c name).ordinals ≡ c.ordinals
ordinals_one true c name = refl
ordinals_one false c name = refl

ordinals_all : (c : Content) (names : List (List ℕ)) → (with_all c names).ordinals ≡ c.ordinals
ordinals_all c [] = refl
ordinals_all c (name ∷ names) = ordinals_all (with_one c name) names ∙ ordinals_one (knows c name) c name

-- views can be taken as before
pub ready_named : (told : Type 0) (f new : Trees) (names : List (List ℕ)) (host : HostState) → new ≡ record f { meta = with_all f.meta names; frames = new.frames; levels = levels_with f.meta f.levels names } → IsReady told f host → IsReady told new host
ready_named told f new names host is ready =
    let there : AreThere (with_all f.meta names).ordinals host = subst (λ (o : Ordinals). AreThere o host) (sym (ordinals_all f.meta names)) ready.there in
    let all : IsReady told (record f { meta = with_all f.meta names; frames = new.frames; levels = levels_with f.meta f.levels names }) host =
    record { whole = ready.whole; opened = ready.opened; none_pending = ready.none_pending; number = ready.number; sized = ready.sized; there = there; fits = ready.fits } in
    subst (λ (t : Trees). IsReady told t host) (sym is) all

-- the record with a name more is lawful, where it fits a slot
lawful_one : (c : Content) (name : List ℕ) (rest : List (List ℕ)) → IsMeta c → IsCanonical name → 16 + size_of (with_all (with_one c name) rest) ≤ 4096 * c.limits.slot → IsMeta (with_one c name)
lawful_one c name rest rules canonical room = of (knows c name) refl where
  of : (b : Bool) → knows c name ≡ b → IsMeta (by_test b c name)
  of true some = rules
  of false new =
      let few : length c.series + 1 < 2 ^ 32 =
      let size : size_of (with_one c name) ≡ size_of (with_series c name) = ap size_of (one_new c name new) in
      omega (arith, many c.series, size_named c name, size, size_least (with_one c name) rest, room, rules.limits_are.slot_most) in
      series_lawful c name rules canonical new few

laid_one : (seen : Seen) (w : World) (name : List ℕ) → IsWorld w → IsMeta (content_now w) → IsLaid seen (content_now w) (kept_now w) → IsLaid seen (content_now (with_title w name)) (kept_now (with_title w name))
laid_one seen w name is rules laid = of (knows (content_now w) name) refl where
  of : (b : Bool) → knows (content_now w) name ≡ b → IsLaid seen (content_now (with_title w name)) (kept_now (with_title w name))
  of true some = subst (λ (ss : List Series). IsLaid seen (content_now (record w { series = ss })) (kept_now (record w { series = ss }))) (sym (known_stays w name some)) laid
  of false new =
      let more : IsLaid seen (with_series (content_now w) name) (kept_now w ++ [] ∷ []) = series_laid seen (content_now w) (kept_now w) name rules laid in
      subst (λ (kept : List (List Leaf)). IsLaid seen (content_now (with_title w name)) kept) (sym (kept_named w name new))
      (subst (λ (c : Content). IsLaid seen c (kept_now w ++ [] ∷ [])) (sym (content_named w name is new)) more)

-- the blocks stay laid out as new series begin
laid_all : (seen : Seen) (w : World) (names : List (List ℕ)) → IsWorld w → IsMeta (content_now w) → AllByRecursion IsCanonical names → 16 + size_of (with_all (content_now w) names) ≤ 4096 * (limits_of w).slot
    → IsLaid seen (content_now w) (kept_now w) → IsLaid seen (content_now (named w names)) (kept_now (named w names))
laid_all seen w [] is rules canonical room laid = laid
laid_all seen w (name ∷ names) is rules canonical room laid =
    let same : content_now (with_title w name) ≡ with_one (content_now w) name = content_one w name is in
    let lawful : IsMeta (content_now (with_title w name)) = subst IsMeta (sym same) (lawful_one (content_now w) name names rules canonical.0 room) in
    let long : size_of (with_all (content_now (with_title w name)) names) ≡ size_of (with_all (with_one (content_now w) name) names) = ap (λ (c : Content). size_of (with_all c names)) same in
    laid_all seen (with_title w name) names (name_valid w name is) lawful canonical.1 (omega (arith, long, room)) (laid_one seen w name is rules laid)

-- what waits of each series of a world, as its blocks make it
abbrev AreWaiting : Seen → World → List Lists → Type 0
AreWaiting seen w levels = ArePlanted w.ordinals seen 0 (content_now w).series (kept_now w) (bases_of w) levels

bases_new : (ss : List Series) (name : List ℕ) → list_any (λ n. bytes_eq name n) (titles ss) ≡ false → map base_of (with_name ss name) ≡ map base_of ss ++ 0 ∷ []
bases_new [] name new = refl
bases_new (s ∷ ss) name new =
    let apart = neither (bytes_eq name s.name) (list_any (λ n. bytes_eq name n) (titles ss)) new in
    let other : bytes_eq s.name name ≡ false = nat_list_eq_equiv.symm s.name name ∙ apart.0 in
    ap (λ (b : Bool). map base_of (if b then s ∷ ss else s ∷ with_name ss name)) other ∙ ap (λ (l : List ℕ). base_of s ∷ l) (bases_new ss name apart.1)
  where
    neither : (a b : Bool) → (a || b) ≡ false → (a ≡ false) × (b ≡ false)
    neither false b h = (refl, h)
    neither true b h = absurd (cc)

waiting_one : (seen : Seen) (w : World) (name : List ℕ) (levels : List Lists) → IsWorld w → AreWaiting seen w levels → AreWaiting seen (with_title w name) (levels_by (knows (content_now w) name) levels)
waiting_one seen w name levels is held = of (knows (content_now w) name) refl where
  of : (b : Bool) → knows (content_now w) name ≡ b → AreWaiting seen (with_title w name) (levels_by b levels)
  of true some = subst (λ (ss : List Series). AreWaiting seen (record w { series = ss }) levels) (sym (known_stays w name some)) held
  of false new =
      let all : List Lists = levels ++ no_lists ∷ [] in
      let known : list_any (λ n. bytes_eq name n) (titles w.series) ≡ false =
      sym (ap (λ (ns : List (List ℕ)). list_any (λ n. bytes_eq name n) ns) (titles_known w.opened.content.series w.series)) ∙ new in
      let more = all_named w.ordinals seen 0 (content_now w).series (kept_now w) (bases_of w) levels name held in
      subst (λ (bases : List ℕ). ArePlanted w.ordinals seen 0 (content_now (with_title w name)).series (kept_now (with_title w name)) bases all) (sym (bases_new w.series name known))
      (subst (λ (kept : List (List Leaf)). ArePlanted w.ordinals seen 0 (content_now (with_title w name)).series kept (bases_of w ++ 0 ∷ []) all) (sym (kept_named w name new))
      (subst (λ (c : Content). ArePlanted w.ordinals seen 0 c.series (kept_now w ++ [] ∷ []) (bases_of w ++ 0 ∷ []) all) (sym (content_named w name is new)) more))

waiting_all : (seen : Seen) (w : World) (names : List (List ℕ)) (levels : List Lists) → IsWorld w → AreWaiting seen w levels → AreWaiting seen (named w names) (levels_with (content_now w) levels names)
waiting_all seen w [] levels is held = held
waiting_all seen w (name ∷ names) levels is held =
    let now : List Lists = levels_by (knows (content_now w) name) levels in
    subst (λ (c : Content). AreWaiting seen (named w (name ∷ names)) (levels_with c now names)) (content_one w name is)
    (waiting_all seen (with_title w name) names now (name_valid w name is) (waiting_one seen w name levels is held))

-- the forest and the disk hold the world with all names
pub holds_named : (w : World) (f new : Trees) (names : List (List ℕ)) (host : HostState) → AreTrees f → AllByRecursion IsCanonical names → 16 + size_of (with_all f.meta names) ≤ 4096 * f.meta.limits.slot
    → new.levels ≡ levels_with f.meta f.levels names → Holds w f host → Keeps (named w names) new → Holds (named w names) new host
holds_named w f new names host are canonical room waits holds keeps =
    let same = holds.keeps.content_is in
    let rules : IsMeta (content_now w) = subst IsMeta same are.rules_are in
    let fits : 16 + size_of (with_all (content_now w) names) ≤ 4096 * (limits_of w).slot = subst (λ (c : Content). 16 + size_of (with_all c names) ≤ 4096 * c.limits.slot) same room in
    record {
      keeps = keeps;
      stored = record {
        rules_are = holds.stored.rules_are;
        limits_are = holds.stored.limits_are;
        laid = laid_all (seen_in (limits_of w).volumes host.files) w names holds.keeps.valid rules canonical fits holds.stored.laid;
        planted = subst (AreWaiting (seen_in (limits_of w).volumes host.files) (named w names)) (sym (waits ∙ ap (λ (c : Content). levels_with c f.levels names) same))
            (waiting_all (seen_in (limits_of w).volumes host.files) w names f.levels holds.keeps.valid holds.stored.planted);
        saved = holds.stored.saved;
        left = holds.stored.left;
      };
    }

-- ---- Places, with more names

found_more : (b : Bool) (from i : ℕ) (first more : Option ℕ) → cond b (Some from) first ≡ Some i → (first ≡ Some i → more ≡ Some i) → cond b (Some from) more ≡ Some i
found_more true from i first more is later = is
found_more false from i first more is later = later is

position_more : (p : List ℕ → Bool) (xs ys : List (List ℕ)) (from i : ℕ) → position_from p from xs ≡ Some i → position_from p from (xs ++ ys) ≡ Some i
position_more p [] ys from i is = absurd (cc)
position_more p (x ∷ xs) ys from i is = found_more (p x) from i (position_from p (from + 1) xs) (position_from p (from + 1) (xs ++ ys)) is (position_more p xs ys (from + 1) i)

-- a place stays
pub place_more : (known more : List (List ℕ)) (name : List ℕ) (i : ℕ) → place_in known name ≡ Some i → place_in (known ++ more) name ≡ Some i
place_more known more name i is =
    let p : List ℕ → Bool = λ n. bytes_eq name n in
    position_from-zero p (known ++ more) ∙ position_more p known more 0 i (sym (position_from-zero p known) ∙ is)

pub places_stay : (places : List (Option ℕ)) (names known now more : List (List ℕ)) → now ≡ known ++ more → ArePlaces places names known → ArePlaces places names now
places_stay places names known now more now_is kept i place within found =
    sym (ap (λ (ns : List (List ℕ)). place_in ns (get_or names i [])) now_is ∙ place_more known more (get_or names i []) place (sym (kept i place within found)))

first_by : (b : Bool) (from j : ℕ) (rest : Option ℕ) → cond b (Some from) rest ≡ Some j → (rest ≡ Some j → from + 1 ≤ j) → from ≤ j
first_by true from j rest is later = let same : from ≡ j = cc in omega arith
first_by false from j rest is later = omega (arith, later is)

first_from : (p : List ℕ → Bool) (ys : List (List ℕ)) (from j : ℕ) → position_from p from ys ≡ Some j → from ≤ j
first_from p [] from j is = absurd (cc)
first_from p (y ∷ ys) from j is = first_by (p y) from j (position_from p (from + 1) ys) is (first_from p ys (from + 1) j)

behind_by : (b : Bool) (from j : ℕ) (P : Type 0) (first more : Option ℕ) → cond b (Some from) first ≡ None → cond b (Some from) more ≡ Some j → (first ≡ None → more ≡ Some j → P) → P
behind_by true from j P first more none is later = absurd (cc)
behind_by false from j P first more none is later = later none is

behind_from : (p : List ℕ → Bool) (xs ys : List (List ℕ)) (from j : ℕ) → position_from p from xs ≡ None → position_from p from (xs ++ ys) ≡ Some j → from + length xs ≤ j
behind_from p [] ys from j none is = omega (arith, first_from p ys from j is)
behind_from p (x ∷ xs) ys from j none is =
    let later : from + 1 + length xs ≤ j = behind_by (p x) from j (from + 1 + length xs ≤ j) (position_from p (from + 1) xs) (position_from p (from + 1) (xs ++ ys)) none is (behind_from p xs ys (from + 1) j) in
    omega arith

-- a new name's place is behind those of the names that were known
place_behind : (known more : List (List ℕ)) (name : List ℕ) (j : ℕ) → place_in known name ≡ None → place_in (known ++ more) name ≡ Some j → length known ≤ j
place_behind known more name j none is =
    let p : List ℕ → Bool = λ n. bytes_eq name n in
    omega (arith, behind_from p known more 0 j (sym (position_from-zero p known) ∙ none) (sym (position_from-zero p (known ++ more)) ∙ is))

-- ---- No name comes to be late

none_past : (all : List SeriesMeta) (n : ℕ) → length all ≤ n → last_of_series all n ≡ None
none_past [] n past = refl
none_past (s ∷ all) zero past = absurd (omega arith)
none_past (s ∷ all) (suc n) past = none_past all n (omega arith)

frame_past : (frames : List (Option Frame)) (n : ℕ) → length frames ≤ n → get_or frames n None ≡ None
frame_past [] zero past = refl
frame_past [] (suc n) past = refl
frame_past (x ∷ frames) zero past = absurd (omega arith)
frame_past (x ∷ frames) (suc n) past = frame_past frames n (omega arith)

last_past : (f : Trees) (n : ℕ) → AreTrees f → length f.meta.series ≤ n → last_known f n ≡ None
last_past f n are past =
    ap₂ (λ (before : Option ℕ) (frame : Option Frame). last_behind before (leaf_in f.pool frame)) (none_past f.meta.series n past) (frame_past f.frames n (omega (arith, are.pooled.number)))

abbrev Stays : Trees → Trees → Type 0
Stays f new = (n : ℕ) → IfSome (last_known new n) (λ last. last_known f n ≡ Some last)

below_same : (o p : Option ℕ) (ts : ℕ) → IfSome p (λ last. o ≡ Some last) → Below ts o → Below ts p
below_same o None ts stays below = tt
below_same o (Some last) ts stays below = subst (Below ts) stays below

none_below : (o p : Option ℕ) (ts : ℕ) → IfSome p (λ last. o ≡ Some last) → o ≡ None → Below ts p
none_below o None ts stays none = tt
none_below o (Some last) ts stays none = absurd (cc)

here_below : (f new : Trees) (known now more : List (List ℕ)) (name : List ℕ) (ts : ℕ) → AreTrees f → known ≡ names_of f.meta.series → now ≡ known ++ more → Stays f new
    → Below ts (last_in_place f (place_in known name)) → Below ts (last_in_place new (place_in now name))
here_below f new known now more name ts are known_are now_is stays below = of (place_in known name) (place_in now name) refl refl where
  spelled : place_in now name ≡ place_in (known ++ more) name
  spelled = ap (λ (ns : List (List ℕ)). place_in ns name) now_is

  count : length known ≡ length f.meta.series
  count = ap (λ (ns : List (List ℕ)). length ns) known_are ∙ length-map f.meta.series (λ (m : SeriesMeta). m.name)

  of : (o p : Option ℕ) → place_in known name ≡ o → place_in now name ≡ p → Below ts (last_in_place new p)
  of o None old is = tt
  of None (Some j) old is =
      let past : length f.meta.series ≤ j = omega (arith, place_behind known more name j old (sym spelled ∙ is), count) in
      none_below (last_known f j) (last_known new j) ts (stays j) (last_past f j are past)
  of (Some i) (Some j) old is =
      let same : Some i ≡ Some j = sym (place_more known more name i old) ∙ sym spelled ∙ is in
      let at : i ≡ j = cc in
      below_same (last_known f j) (last_known new j) ts (stays j) (subst (λ (n : ℕ). Below ts (last_known f n)) at (subst (λ (o : Option ℕ). Below ts (last_in_place f o)) old below))

pub late_added : (f new : Trees) (known now more names : List (List ℕ)) (ts : ℕ) → AreTrees f → known ≡ names_of f.meta.series → now ≡ known ++ more
    → ((n : ℕ) → IfSome (last_known new n) (λ last. last_known f n ≡ Some last)) → late_known f known names ts ≡ None → late_known new now names ts ≡ None
late_added f new known now more [] ts are known_are now_is stays late = refl
late_added f new known now more (name ∷ names) ts are known_are now_is stays late =
    let both = both_none (late_behind (last_in_place f (place_in known name)) ts) (late_known f known names ts) late in
    ap₂ first_of
    (late_none (last_in_place new (place_in now name)) ts (here_below f new known now more name ts are known_are now_is stays (not_late (last_in_place f (place_in known name)) ts both.0)))
    (late_added f new known now more names ts are known_are now_is stays both.1)

-- ---- What a record has become with names

named_keeps : (host : HostState) (c : Content) (name : List ℕ) (known : Bool) → KeepsOrigins host host c (if known then c else with_series c name)
named_keeps host c name true = origins_same host host c refl
named_keeps host c name false = origins_named host c name

pub all_keep : (host : HostState) (names : List (List ℕ)) (c : Content) → KeepsOrigins host host c (with_all c names)
all_keep host [] c = origins_same host host c refl
all_keep host (name ∷ names) c =
    let one = named_keeps host c name (list_any (λ n. bytes_eq name n) (names_of c.series)) in
    let rest = all_keep host names (if list_any (λ n. bytes_eq name n) (names_of c.series) then c else with_series c name) in
    λ found was. rest found (one found was)

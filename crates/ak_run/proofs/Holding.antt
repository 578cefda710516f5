-- Views hold leaves whose points are a prefix of those that were accepted.
use Rattle.std.proofs.Common.{◌≡◌, inl, inr, ℕ, zero, suc, Bool, true, false, if◌then◌else◌, bytes_eq, List, [], ◌∷◌, ◌++◌, map, Option, Some, None, is_some, refl, sym, ◌∙◌, ap, subst, append_assoc}
use Rattle.std.proofs.lemmas.Bool.{cases_Bool}
use Rattle.std.proofs.lemmas.Cmp.{nat_list_eq_equiv}
use Rattle.std.proofs.lemmas.List.{append-nil, map-append}
use Rattle.std.proofs.lemmas.Map.Keys.{IsDistinct-push}
use Rattle.std.proofs.lemmas.Slice.Eq.{bytes_eq-Decides}
use Rattle.std.specs.List.{list_any, AllByRecursion, IsDistinct}
use Rattle.std.specs.Prelude.{ℤ}
use Rattle.ak_base.specs.declared.point.Point.{Point}
use Rattle.ak_host.specs.Marks.{Taken, piece, ended, idle, done}
use Rattle.ak_meta.proofs.Fronts.{each_taken}
use Rattle.ak_meta.specs.Contents.{IsMeta, names_of}
use Rattle.ak_meta.specs.declared.meta.SeriesMeta.{SeriesMeta}
use Rattle.ak_run.specs.declared.asked.Asked.{Asked}
use Rattle.ak_run.specs.declared.asked.Asked.TheVariants.{Refused, Points, Rows, Flush}
use Rattle.ak_run.specs.Contents.{after_asked, after, after_all}
use Rattle.ak_run.specs.Replies.{Reply}
use Rattle.ak_run.specs.Run.{World, world_of, EndActs, OtherTurn, Gives, RunsFrom, given_in, points_held, accepted_in, HoldsFirst, AllHoldFirst}
use Rattle.ak_run.specs.Sessions.{stream_at}
use Rattle.ak_run.proofs.Accepting.{run_gains}
use Rattle.ak_run.proofs.Orders.{orderly_opened}
use Rattle.ak_run.proofs.Turns.{run_orderly}
use Rattle.ak_world.proofs.Accepting.{flush_stays, name_comes, ready, worn_stays, room_comes}
use Rattle.ak_world.proofs.ContentsOfNames.{names, told, known_stays}
use Rattle.ak_world.specs.Accepted.{SeriesPoints, series_points, points_under, accepted_now, accepted_with, accepted_of}
use Rattle.ak_world.specs.Leaves.{Leaf, Series, new_series, accepted_points, points_of}
use Rattle.ak_world.specs.Puts.{with_name, number_in, named, refusal_of, all_accepted}
use Rattle.ak_world.specs.Steps.{accepted, flushed}
use Rattle.ak_world.specs.Valid.{IsHeld, AreHeld, IsPrefix, AreOpenable}
use Rattle.ak_world.specs.Views.{View}
use Rattle.ak_world.specs.Worlds.{World as Store, world_of as opened, all_series, views_of, content_now}

-- ---- No two series have one name

abbrev names_under : List SeriesPoints → List (List ℕ)
names_under all = map (λ (a : SeriesPoints). a.name) all

names_are : (ss : List Series) → names_under (map series_points ss) ≡ names ss
names_are [] = refl
names_are (s ∷ ss) = ap (λ (ns : List (List ℕ)). s.name ∷ ns) (names_are ss)

names_with : (all : List SeriesPoints) (n : ℕ) (p : Point) → names_under (accepted_with all n p) ≡ names_under all
names_with [] n p = refl
names_with (a ∷ all) zero p = refl
names_with (a ∷ all) (suc n) p = ap (λ (ns : List (List ℕ)). a.name ∷ ns) (names_with all n p)

abbrev Apart : Store → Type 0
Apart c = IsDistinct bytes_eq (names_under (accepted_now c))

same_apart : (c d : Store) → accepted_now d ≡ accepted_now c → Apart c → Apart d
same_apart c d same apart = subst (λ (all : List SeriesPoints). IsDistinct bytes_eq (names_under all)) (sym same) apart

accept_apart : (c : Store) (n : ℕ) (p : Point) → Apart c → Apart (accepted c n p)
accept_apart c n p apart = elim (cases_Bool (ready c n p).worn) [
  | inl worn ↦ same_apart c (accepted c n p) (worn_stays c n p worn) apart
  | inr fresh ↦
      subst (λ (all : List SeriesPoints). IsDistinct bytes_eq (names_under all)) (sym (room_comes c n p fresh))
      (subst (IsDistinct bytes_eq) (sym (names_with (accepted_now c) n p)) apart)
]

all_apart : (c : Store) (ns : List (List ℕ)) (ts : ℕ) (vs : List ℤ) → Apart c → Apart (all_accepted c ns ts vs)
all_apart c [] ts vs apart = apart
all_apart c (name ∷ ns) ts [] apart = apart
all_apart c (name ∷ ns) ts (v ∷ vs) apart =
    let p : Point = record { ts = ts; value = v } in
    all_apart (accepted c (number_in c.series name) p) ns ts vs (accept_apart c (number_in c.series name) p apart)

name_apart : (c : Store) (name : List ℕ) → Apart c → Apart (record c { series = with_name c.series name })
name_apart c name apart = elim (cases_Bool (list_any (λ n. bytes_eq name n) (names_of (content_now c).series))) [
  | inl known ↦ subst (λ (ss : List Series). IsDistinct bytes_eq (names_under (map series_points ss))) (sym (known_stays c name known)) apart
  | inr new ↦ (let none : list_any (bytes_eq name) (names_under (accepted_now c)) ≡ false = ap (list_any (bytes_eq name)) (names_are c.series) ∙ told c name false new in
      subst (λ (all : List SeriesPoints). IsDistinct bytes_eq (names_under all)) (sym (name_comes c name new))
      (subst (IsDistinct bytes_eq) (sym (map-append (λ (a : SeriesPoints). a.name) (accepted_now c) (series_points (new_series name) ∷ [])))
      (IsDistinct-push nat_list_eq_equiv (names_under (accepted_now c)) name apart none)))
]

named_apart : (c : Store) (ns : List (List ℕ)) → Apart c → Apart (named c ns)
named_apart c [] apart = apart
named_apart c (name ∷ ns) apart = named_apart (record c { series = with_name c.series name }) ns (name_apart c name apart)

either : (b : Bool) (c d : Store) → Apart c → Apart d → Apart (if b then c else d)
either true c d first second = first
either false c d first second = second

flush_apart : (c : Store) → Apart c → Apart (flushed c)
flush_apart c apart = same_apart c (flushed c) (flush_stays c) apart

asked_apart : (c : Store) (a : Asked) → Apart c → Apart (after_asked c a)
asked_apart c (Refused r) apart = apart
asked_apart c (Points ns ts vs) apart = either (is_some (refusal_of c ns ts)) c (all_accepted (named c ns) ns ts vs) apart (all_apart (named c ns) ns ts vs (named_apart c ns apart))
asked_apart c (Rows metric) apart = apart
asked_apart c Flush apart = flush_apart c apart

after_apart : (c : Store) (xs : List Asked) → Apart c → Apart (after_all c xs)
after_apart c [] apart = apart
after_apart c (a ∷ xs) apart = after_apart (after c a) xs (either c.worn c (after_asked c a) apart (asked_apart c a apart))

other_apart : (world next : World) (replies told : List Reply) → OtherTurn world next replies told → Apart world.content → Apart next.content
other_apart world next replies told o apart = subst (λ (w : World). Apart w.content) (sym o.same) apart

end_apart : (world next : World) (port : ℕ) (replies : List Reply) (o : Option (List ℕ)) → EndActs world port o next replies → Apart world.content → Apart next.content
end_apart world next port replies None e apart = other_apart world next replies [] e apart
end_apart world next port replies (Some stream) e apart = subst Apart (sym e.content_is) apart

turn_apart : (world : World) (turn : Taken) (next : World) (replies : List Reply) → Gives world turn next replies → Apart world.content → Apart next.content
turn_apart world turn next replies (inl worn) apart = other_apart world next replies [] worn.1 apart
turn_apart world (piece port bytes) next replies (inr (sound, inl many)) apart = other_apart world next replies _ many.1 apart
turn_apart world (piece port bytes) next replies (inr (sound, inr (few, acts))) apart = subst Apart (sym acts.gives.next_is) (after_apart world.content acts.gives.asked apart)
turn_apart world (ended port) next replies (inr acts) apart = end_apart world next port replies (stream_at world.sessions port) acts.1 apart
turn_apart world idle next replies (inr acts) apart = other_apart world next replies [] acts.1 apart
turn_apart world done next replies (inr acts) apart = subst Apart (sym acts.1.content_is) (flush_apart world.content apart)

run_apart : (turns : List Taken) (world last : World) (replies : List Reply) → RunsFrom world turns last replies → Apart world.content → Apart last.content
run_apart [] world last replies run apart = other_apart world last replies [] run apart
run_apart (turn ∷ turns) world last replies (next, first, others, gives, run, told) apart = run_apart turns next last others run (turn_apart world turn next first gives apart)

-- ---- The opening view

names_opened : (all : List SeriesMeta) (kept : List (List Leaf)) → names_under (map series_points (all_series all kept)) ≡ names_of all
names_opened [] kept = refl
names_opened (o ∷ all) [] = ap (λ (ns : List (List ℕ)). o.name ∷ ns) (names_opened all [])
names_opened (o ∷ all) (leaves ∷ kept) = ap (λ (ns : List (List ℕ)). o.name ∷ ns) (names_opened all kept)

points_opened : (all : List SeriesMeta) (kept : List (List Leaf)) (name : List ℕ) → points_under (map series_points (all_series all kept)) name ≡ points_held all kept name
points_opened [] kept name = refl
points_opened (o ∷ all) [] name = ap (λ (ps : List Point). if bytes_eq o.name name then [] else ps) (points_opened all [] name)
points_opened (o ∷ all) (leaves ∷ kept) name =
    ap (λ (ps : List Point). if bytes_eq o.name name then points_of leaves ++ [] else ps) (points_opened all kept name)
    ∙ ap (λ (ps : List Point). if bytes_eq o.name name then ps else points_held all kept name) (append-nil (points_of leaves))

-- ---- Each series is found by its name

others_found : (s : Series) (ss more : List Series) → AllByRecursion (λ n. bytes_eq s.name n ≡ false) (names_under (map series_points ss))
    → AllByRecursion (λ (t : Series). points_under (map series_points more) t.name ≡ accepted_points t) ss
    → AllByRecursion (λ (t : Series). points_under (map series_points (s ∷ more)) t.name ≡ accepted_points t) ss
others_found s [] more apart found = tt
others_found s (t ∷ ss) more apart found = (
  ap (λ (b : Bool). if b then accepted_points s else points_under (map series_points more) t.name) apart.0 ∙ found.0,
  others_found s ss more apart.1 found.1,
)

each_found : (ss : List Series) → IsDistinct bytes_eq (names_under (map series_points ss)) → AllByRecursion (λ (t : Series). points_under (map series_points ss) t.name ≡ accepted_points t) ss
unfolding IsDistinct
each_found [] apart = tt
each_found (s ∷ ss) apart = (
  ap (λ (b : Bool). if b then accepted_points s else points_under (map series_points ss) s.name) ((bytes_eq-Decides s.name s.name).1 refl),
  others_found s ss ss apart.0 (each_found ss apart.1),
)

-- ---- Views

-- more points than those of a series were given to its name
record IsMore (given : List ℕ → List Point) (s : Series) : Type 0 where
  more : List Point
  points : given s.name ≡ accepted_points s ++ more

one_holds : (lo : ℕ) (given : List ℕ → List Point) (known : SeriesMeta) (leaves : List Leaf) (s : Series) → IsMore given s → IsHeld lo known leaves s → HoldsFirst lo (given known.name) leaves
one_holds lo given known leaves s more held = record {
  had = held.had;
  rest = held.rest ++ more.more;
  points =
      ap given held.name ∙ more.points ∙ ap (λ (ps : List Point). ps ++ more.more) held.points ∙ append_assoc (points_of held.had) held.rest more.more;
  live = held.kept_is;
}

all_hold : (lo : ℕ) (given : List ℕ → List Point) (all : List SeriesMeta) (kept : List (List Leaf)) (ss : List Series) → AllByRecursion (IsMore given) ss → AreHeld lo all kept ss → AllHoldFirst lo given all kept
all_hold lo given [] kept ss more held = held
all_hold lo given (known ∷ all) [] ss more held = absurd held
all_hold lo given (known ∷ all) (leaves ∷ kept) [] more held = absurd held
all_hold lo given (known ∷ all) (leaves ∷ kept) (s ∷ ss) more held = (one_holds lo given known leaves s more.0 held.0, all_hold lo given all kept ss more.1 held.1)

pub views_hold : (view : View) (turns : List Taken) (last : World) (replies : List Reply) → IsMeta view.content → AreOpenable view.content.ordinals.lo view.content.series view.kept
    → (run : RunsFrom (world_of view) turns last replies)
    → AllByRecursion (λ (v : View). AllHoldFirst v.content.ordinals.lo (λ name. accepted_in name view turns last replies run) v.content.series v.kept) (views_of last.content)
views_hold view turns last replies rules may run =
    let given : List ℕ → List Point = λ name. accepted_in name view turns last replies run in
    let start : Apart (opened view) = subst (IsDistinct bytes_eq) (sym (names_opened view.content.series view.kept)) rules.apart in
    let found = each_found last.content.series (run_apart turns (world_of view) last replies run start) in
    let more : AllByRecursion (IsMore given) last.content.series =
    each_taken (λ (s : Series). accepted_of last.content s.name ≡ accepted_points s) (IsMore given) (λ s is.
    let gains = run_gains s.name turns (world_of view) last replies run in
    record {
      more = gains.rest;
      points =
          ap (λ (ps : List Point). ps ++ given_in s.name turns (world_of view) last replies run) (sym (points_opened view.content.series view.kept s.name))
          ∙ ap (λ (ps : List Point). accepted_of (opened view) s.name ++ ps) gains.given_is
          ∙ sym (append_assoc (accepted_of (opened view) s.name) gains.came gains.rest)
          ∙ ap (λ (ps : List Point). ps ++ gains.rest) (sym gains.new_is ∙ is);
    }) last.content.series found in
    each_taken (IsPrefix last.content.series) (λ (v : View). AllHoldFirst v.content.ordinals.lo given v.content.series v.kept)
    (λ v held. all_hold v.content.ordinals.lo given v.content.series v.kept last.content.series more held) (views_of last.content)
    (run_orderly turns (world_of view) last replies run (orderly_opened view rules may))

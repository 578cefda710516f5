-- What a forest holds of a world, and the last timestamps that it knows, where points are accepted.
use Rattle.std.proofs.Common.{◌≡◌, ◌≢◌, ◌∙◌, ℕ, zero, suc, ◌<◌, ◌≤◌, List, [], ◌∷◌, ◌++◌, length, get_or, map, slice_set, Option, Some, None, refl, sym, ap, subst, arith}
use Rattle.std.proofs.lemmas.Bool.{cond-false, cond-true, ne_eqb, eq-eqb}
use Rattle.std.proofs.lemmas.List.{get_or-set_same, get_or-set_other}
use Rattle.std.specs.List.{AllByRecursion}
use Rattle.std.specs.Prelude.{◌==◌, IfSome}
use Rattle.ak_base.specs.Points.{IsPoint, last_ts_from}
use Rattle.ak_base.specs.declared.point.Point.{Point}
use Rattle.ak_meta.proofs.Fronts.{each_taken}
use Rattle.ak_meta.specs.Contents.{Content}
use Rattle.ak_meta.specs.declared.meta.SeriesMeta.{SeriesMeta}
use Rattle.ak_pool.specs.Frames.{Used, used_frame, Frames, frames_of, series_of, leaf_of, without, with_leaf, moved_first}
use Rattle.ak_pool.specs.declared.pool.Frame.{Frame}
use Rattle.ak_tree.specs.Standing.{Trees, AreTrees, IsOpenLeaf, ArePooled, Keeps, leaf_in, last_of_series, last_behind, last_known}
use Rattle.ak_tree.proofs.Pooling.{IsFound, found_in, IsFrameOf, frame_of, framed_within, written_first, series_without, others_of}
use Rattle.ak_world.proofs.ContentsOfNames.{content_written}
use Rattle.ak_world.proofs.Valid.{length_changed, point_valid}
use Rattle.ak_world.specs.Leaves.{Series, with_point}
use Rattle.ak_world.specs.Steps.{changed, written_in, last_at, but, added}
use Rattle.ak_world.specs.Valid.{last_now, AreSeriesOf, unknown}
use Rattle.ak_world.specs.Views.{known_of, all_known}
use Rattle.ak_world.specs.Worlds.{World, content_now, time_of}

-- ---- Series by number

pub length_known : (opened : List SeriesMeta) (ss : List Series) → length (all_known opened ss) ≡ length ss
length_known opened [] = refl
length_known [] (s ∷ ss) = ap suc (length_known [] ss)
length_known (o ∷ opened) (s ∷ ss) = ap suc (length_known opened ss)

-- the record has as many series as the world
pub as_many : (w : World) (f : Trees) → Keeps w f → length f.meta.series ≡ length w.series
as_many w f keeps = ap (λ (c : Content). length c.series) keeps.content_is ∙ length_known w.opened.content.series w.series

pub written_other : (ss : List Series) (n m : ℕ) (f : Series → Series) → m ≢ n → written_in (changed ss n f) m ≡ written_in ss m
written_other [] n m f other = refl
written_other (s ∷ ss) zero zero f other = absurd (other refl)
written_other (s ∷ ss) zero (suc m) f other = refl
written_other (s ∷ ss) (suc n) zero f other = refl
written_other (s ∷ ss) (suc n) (suc m) f other = written_other ss n m f (λ e. other (ap suc e))

written_more : (ss : List Series) (n : ℕ) (p : Point) → n < length ss → written_in (changed ss n (λ s. with_point s p)) n ≡ written_in ss n ++ p ∷ []
written_more [] n p within = absurd (omega arith)
written_more (s ∷ ss) zero p within = refl
written_more (s ∷ ss) (suc n) p within = written_more ss n p (omega arith)

-- ---- Open leaves

-- the open leaf of a series is what the world says
pub written_is : (w : World) (f : Trees) (n : ℕ) → AreTrees f → Keeps w f → n < length f.meta.series → written_in w.series n ≡ leaf_in f.pool (get_or f.frames n None)
written_is w f n are keeps within = of (get_or f.frames n None) refl where
  of : (o : Option Frame) → get_or f.frames n None ≡ o → written_in w.series n ≡ leaf_in f.pool o
  of None is = keeps.others n (omega (arith, within, as_many w f keeps)) is
  of (Some g) is =
      let own = are.pooled.framed n g is in
      let found : IsFound (λ u. written_in w.series u.series ≡ u.leaf) f.pool.used g.0 = found_in (λ u. written_in w.series u.series ≡ u.leaf) f.pool.used g.0 keeps.open_leaves own.0 in
      ap (written_in w.series) (sym own.1 ∙ found.series) ∙ found.known ∙ sym found.leaf

-- ---- The last timestamp

behind_now : (known : SeriesMeta) (ps : List Point) → last_behind (time_of known) ps ≡ last_now known ps
behind_now known [] = refl
behind_now known (p ∷ ps) = sym (cond-false (length (p ∷ ps) == 0) (time_of known) (Some (last_ts_from p.ts ps)) (ne_eqb (length (p ∷ ps)) 0 (λ e. omega (arith, e))))

last_is : (opened : List SeriesMeta) (ss : List Series) (n : ℕ) → AreSeriesOf opened ss → n < length ss → last_behind (last_of_series (all_known opened ss) n) (written_in ss n) ≡ last_at ss n
last_is opened [] n are within = absurd (omega arith)
last_is [] (s ∷ ss) zero are within = behind_now (known_of (unknown s.name) s) s.written ∙ sym are.0.last_is
last_is [] (s ∷ ss) (suc n) are within = last_is [] ss n are.1 (omega arith)
last_is (o ∷ opened) (s ∷ ss) zero are within = behind_now (known_of o s) s.written ∙ sym are.0.last_is
last_is (o ∷ opened) (s ∷ ss) (suc n) are within = last_is opened ss n are.1 (omega arith)

-- the last timestamp that the forest knows is the world's
pub known_is : (w : World) (f : Trees) (n : ℕ) → AreTrees f → Keeps w f → n < length f.meta.series → last_known f n ≡ last_at w.series n
known_is w f n are keeps within =
    ap (λ (c : Content). last_behind (last_of_series c.series n) (leaf_in f.pool (get_or f.frames n None))) keeps.content_is
    ∙ ap (last_behind (last_of_series (content_now w).series n)) (sym (written_is w f n are keeps within))
    ∙ last_is w.opened.content.series w.series n keeps.valid.series (omega (arith, within, as_many w f keeps))

pub behind_some : (before : Option ℕ) (ps : List Point) → ps ≢ [] → last_behind before ps ≡ Some (last_ts_from 0 ps)
behind_some before [] some = absurd (some refl)
behind_some before (p ∷ ps) some = refl

last_push : (ts : ℕ) (ps : List Point) (p : Point) → last_ts_from ts (ps ++ p ∷ []) ≡ p.ts
last_push ts [] p = refl
last_push ts (q ∷ ps) p = last_push q.ts ps p

pub behind_push : (before : Option ℕ) (ps : List Point) (p : Point) → last_behind before (ps ++ p ∷ []) ≡ Some p.ts
behind_push before [] p = refl
behind_push before (q ∷ ps) p = ap Some (last_push q.ts ps p)

last_there : (all : List SeriesMeta) (n : ℕ) (s : SeriesMeta) → n < length all → s ≡ get_or all n s → last_of_series all n ≡ time_of s
last_there [] n s within is = absurd (omega arith)
last_there (t ∷ all) zero s within is = ap time_of (sym is)
last_there (t ∷ all) (suc n) s within is = last_there all n s (omega arith) is

pub last_none : (all : List SeriesMeta) (n : ℕ) (s : SeriesMeta) → n < length all → s ≡ get_or all n s → s.leaves ≡ 0 → last_of_series all n ≡ None
last_none all n s within is none = last_there all n s within is ∙ cond-true (s.leaves == 0) None (Some s.last) (eq-eqb s.leaves 0 none)

pub last_some : (all : List SeriesMeta) (n : ℕ) (s : SeriesMeta) → n < length all → s ≡ get_or all n s → s.leaves ≢ 0 → last_of_series all n ≡ Some s.last
last_some all n s within is some = last_there all n s within is ∙ cond-false (s.leaves == 0) None (Some s.last) (ne_eqb s.leaves 0 some)

-- the frame of a known series
pub frame_at : (f : Trees) (n : ℕ) (o p : Option Frame) → AreTrees f → n < length f.meta.series → o ≡ get_or f.frames n o → o ≡ p → get_or f.frames n None ≡ p
frame_at f n o p are within is same = sym (at f.frames n o (omega (arith, within, are.pooled.number)) is) ∙ same where
  at : (frames : List (Option Frame)) (n : ℕ) (o : Option Frame) → n < length frames → o ≡ get_or frames n o → o ≡ get_or frames n None
  at [] n o within is = absurd (omega arith)
  at (x ∷ frames) zero o within is = is
  at (x ∷ frames) (suc n) o within is = at frames n o (omega arith) is

-- the frames of two series differ
pub frames_differ : (pool : Frames) (frames : List (Option Frame)) (k n m : ℕ) (g h : Frame) → ArePooled pool frames k → get_or frames n None ≡ Some g → get_or frames m None ≡ Some h → m ≢ n → h.0 ≢ g.0
frames_differ pool frames k n m g h are is at other e = other (sym (are.framed m h at).1 ∙ ap (series_of pool.used) e ∙ (are.framed n g is).1)

pub leaf_kept : (old new : Frames) (o : Option Frame) → ((h : Frame) → o ≡ Some h → leaf_of new.used h.0 ≡ leaf_of old.used h.0) → leaf_in new o ≡ leaf_in old o
leaf_kept old new None same = refl
leaf_kept old new (Some h) same = same h refl

-- ---- A point behind those of an open leaf

-- the forest with the open leaf of a frame written
abbrev pub with_written : Trees → Frame → Point → Trees
with_written f g p = record f { pool = frames_of f.pool.count (moved_first (with_leaf f.pool.used g.0 (leaf_of f.pool.used g.0 ++ p ∷ [])) g.0) }

pub keeps_written : (w : World) (f : Trees) (n : ℕ) (g : Frame) (p : Point) → AreTrees f → Keeps w f → get_or f.frames n None ≡ Some g → IsPoint p → IfSome (last_known f n) (λ last. last ≤ p.ts)
    → Keeps (added n p w) (with_written f g p)
keeps_written w f n g p are keeps is point below =
    let us : List Used = f.pool.used in
    let ps : List Point = leaf_of us g.0 ++ p ∷ [] in
    let within : n < length f.meta.series = framed_within f.pool f.frames (length f.meta.series) n g are.pooled is in
    let inside : n < length w.series = omega (arith, within, as_many w f keeps) in
    let own : IsFrameOf us n g.0 = frame_of f.pool f.frames (length f.meta.series) n g are.pooled is in
    let ss : List Series = changed w.series n (λ s. with_point s p) in
    let first : moved_first (with_leaf us g.0 ps) g.0 ≡ used_frame g.0 n ps ∷ without us g.0 = written_first us g.0 n ps own.used own.series in
    let leaf : written_in w.series n ≡ leaf_of us g.0 = written_is w f n are keeps within ∙ ap (leaf_in f.pool) is in
    record {
      not_worn = keeps.not_worn;
      valid = point_valid w n p keeps.valid inside point (subst (λ (o : Option ℕ). IfSome o (λ last. last ≤ p.ts)) (known_is w f n are keeps within) below);
      content_is = keeps.content_is ∙ sym (content_written w n p);
      since_is = keeps.since_is;
      number_is = keeps.number_is;
      recent_is =
          ap (λ (l : List Used). map (λ (u : Used). u.series) l) first
          ∙ ap (λ (l : List ℕ). n ∷ l) (series_without us n g.0 own.each ∙ ap (but n) keeps.recent_is);
      open_leaves =
          subst (AllByRecursion (λ (u : Used). written_in ss u.series ≡ u.leaf)) (sym first) (
            written_more w.series n p inside ∙ ap (λ (l : List Point). l ++ p ∷ []) leaf,
            each_taken (λ (u : Used). (written_in w.series u.series ≡ u.leaf) × (u.series ≢ n)) (λ (u : Used). written_in ss u.series ≡ u.leaf)
                (λ u h. written_other w.series n u.series (λ s. with_point s p) h.1 ∙ h.0) (without us g.0)
                (others_of (λ u. written_in w.series u.series ≡ u.leaf) us n g.0 own.each keeps.open_leaves),
          );
      others = λ m inner none. (
          let other : m ≢ n = λ e. absurd (not_both g (sym is ∙ ap (λ (i : ℕ). get_or f.frames i None) (sym e) ∙ none)) in
          written_other w.series n m (λ s. with_point s p) other ∙ keeps.others m (omega (arith, inner, length_changed w.series n (λ s. with_point s p))) none
          );
    } where
      not_both : (g : Frame) → Some g ≢ None
      not_both g e = cc

-- ---- The first point of an open leaf

-- the forest with an open leaf of this point in a frame
abbrev pub with_begun : Trees → ℕ → Frame → Point → Trees
with_begun f n g p = record f { pool = frames_of f.pool.count (used_frame g.0 n (p ∷ []) ∷ f.pool.used); frames = slice_set f.frames n (Some g) }

-- no frame is of a series that has none
none_of : (us : List Used) (frames : List (Option Frame)) (n : ℕ) → get_or frames n None ≡ None → AllByRecursion (IsOpenLeaf frames) us → AllByRecursion (λ u. u.series ≢ n) us
none_of us frames n none each = each_taken (IsOpenLeaf frames) (λ (u : Used). u.series ≢ n) (λ u leaf e. absurd (not_both (record { 0 = u.frame }) (sym leaf.is ∙ ap (λ (m : ℕ). get_or frames m None) e ∙ none))) us each where
  not_both : (g : Frame) → Some g ≢ None
  not_both g e = cc

but_none : (us : List Used) (n : ℕ) → AllByRecursion (λ u. u.series ≢ n) us → but n (map (λ (u : Used). u.series) us) ≡ map (λ (u : Used). u.series) us
but_none [] n each = refl
but_none (u ∷ us) n each = rw (ne_eqb u.series n each.0) (ap (λ (l : List ℕ). u.series ∷ l) (but_none us n each.1))

both_all : (P Q : Used → Type 0) (us : List Used) → AllByRecursion P us → AllByRecursion Q us → AllByRecursion (λ u. P u × Q u) us
both_all P Q [] first second = tt
both_all P Q (u ∷ us) first second = ((first.0, second.0), both_all P Q us first.1 second.1)

pub keeps_begun : (w : World) (f : Trees) (n : ℕ) (g : Frame) (p : Point) → AreTrees f → Keeps w f → n < length f.meta.series → get_or f.frames n None ≡ None → IsPoint p → IfSome (last_known f n) (λ last. last ≤ p.ts)
    → Keeps (added n p w) (with_begun f n g p)
keeps_begun w f n g p are keeps within none point below =
    let us : List Used = f.pool.used in
    let inside : n < length w.series = omega (arith, within, as_many w f keeps) in
    let ss : List Series = changed w.series n (λ s. with_point s p) in
    let empty : written_in w.series n ≡ [] = keeps.others n inside none in
    let here : get_or (slice_set f.frames n (Some g)) n None ≡ Some g = get_or-set_same f.frames n (Some g) None (omega (arith, within, are.pooled.number)) in
    let apart : AllByRecursion (λ u. u.series ≢ n) us = none_of us f.frames n none are.pooled.each in
    record {
      not_worn = keeps.not_worn;
      valid = point_valid w n p keeps.valid inside point (subst (λ (o : Option ℕ). IfSome o (λ last. last ≤ p.ts)) (known_is w f n are keeps within) below);
      content_is = keeps.content_is ∙ sym (content_written w n p);
      since_is = keeps.since_is;
      number_is = keeps.number_is;
      recent_is = ap (λ (l : List ℕ). n ∷ l) (sym (but_none us n apart) ∙ ap (but n) keeps.recent_is);
      open_leaves = (
        written_more w.series n p inside ∙ ap (λ (l : List Point). l ++ p ∷ []) empty,
        each_taken (λ (u : Used). (written_in w.series u.series ≡ u.leaf) × (u.series ≢ n)) (λ (u : Used). written_in ss u.series ≡ u.leaf)
            (λ u h. written_other w.series n u.series (λ s. with_point s p) h.1 ∙ h.0) us
            (both_all (λ u. written_in w.series u.series ≡ u.leaf) (λ u. u.series ≢ n) us keeps.open_leaves apart),
      );
      others = λ m inner free. (
          let other : m ≢ n = λ e. absurd (not_both g (sym here ∙ ap (λ (i : ℕ). get_or (slice_set f.frames n (Some g)) i None) (sym e) ∙ free)) in
          written_other w.series n m (λ s. with_point s p) other
          ∙ keeps.others m (omega (arith, inner, length_changed w.series n (λ s. with_point s p))) (sym (get_or-set_other f.frames n m (Some g) None other) ∙ free)
          );
    } where
      not_both : (g : Frame) → Some g ≢ None
      not_both g e = cc

-- The used frames of a forest, and the frame of each series, where a leaf is written, begun or closed.
use Rattle.std.proofs.Common.{◌≡◌, ◌≢◌, ◌⊎◌, inl, inr, ◌∙◌, ℕ, zero, suc, ◌+◌, ◌<◌, ◌≤◌, List, [], ◌∷◌, ◌++◌, length, get_or, map, slice_set, Option, Some, None, Bool, true, false, not, if◌then◌else◌, eqb, refl, sym, ap, subst, arith, length-append}
use Rattle.std.proofs.lemmas.Bool.{ne_eqb, eq-eqb, true≢false}
use Rattle.std.proofs.lemmas.Bool.Decides.{eqb_tells}
use Rattle.std.proofs.lemmas.List.{get_or-set_same, get_or-set_other, length-set, get_or_append_left}
use Rattle.std.specs.List.{AllByRecursion}
use Rattle.ak_base.specs.declared.point.Point.{Point}
use Rattle.ak_leaf.specs.Spelling.{leaf_size}
use Rattle.ak_meta.proofs.Fronts.{each_taken}
use Rattle.ak_pool.proofs.Theirs.{given_used_from, given_series, moved_used_from, moved_series, lent_series, lent_own, lent_used_from}
use Rattle.ak_pool.specs.Frames.{Used, used_frame, Frames, frames_of, AreNumbered, AreFrames, IsUsed, series_of, leaf_of, without, with_leaf, moved_first}
use Rattle.ak_pool.specs.declared.pool.Frame.{Frame}
use Rattle.ak_tree.specs.Standing.{Trees, AreTrees, IsOpenLeaf, ArePooled}
use Rattle.ak_world.specs.Steps.{but}

-- ---- Lists of used frames

pub same_or_other : (m n : ℕ) → (m ≡ n) ⊎ (m ≢ n)
same_or_other m n = elim (eqb_tells m n) [ inl h ↦ inl h.1 | inr h ↦ inr h.1 ]

pub each_both : (P Q R : Used → Type 0) → ((u : Used) → P u → Q u → R u) → (us : List Used) → AllByRecursion P us → AllByRecursion Q us → AllByRecursion R us
each_both P Q R step [] first second = tt
each_both P Q R step (u ∷ us) first second = (step u first.0 second.0, each_both P Q R step us first.1 second.1)

without_same : (u : Used) (us : List Used) (f : ℕ) → u.frame ≡ f → without (u ∷ us) f ≡ without us f
without_same u us f e = rw (eq-eqb u.frame f e) refl

without_other : (u : Used) (us : List Used) (f : ℕ) → u.frame ≢ f → without (u ∷ us) f ≡ u ∷ without us f
without_other u us f n = rw (ne_eqb u.frame f n) refl

with_same : (u : Used) (us : List Used) (f : ℕ) (w : List Point) → u.frame ≡ f → with_leaf (u ∷ us) f w ≡ used_frame u.frame u.series w ∷ with_leaf us f w
with_same u us f w e = rw (eq-eqb u.frame f e) (ap (λ (m : ℕ). used_frame m u.series w ∷ with_leaf us f w) (sym e))

with_other : (u : Used) (us : List Used) (f : ℕ) (w : List Point) → u.frame ≢ f → with_leaf (u ∷ us) f w ≡ u ∷ with_leaf us f w
with_other u us f w n = rw (ne_eqb u.frame f n) refl

pub series_here : (u : Used) (us : List Used) (g : ℕ) → u.frame ≡ g → series_of (u ∷ us) g ≡ u.series
series_here u us g e = rw (eq-eqb u.frame g e) refl

series_past : (u : Used) (us : List Used) (g : ℕ) → u.frame ≢ g → series_of (u ∷ us) g ≡ series_of us g
series_past u us g n = rw (ne_eqb u.frame g n) refl

pub leaf_here : (u : Used) (us : List Used) (g : ℕ) → u.frame ≡ g → leaf_of (u ∷ us) g ≡ u.leaf
leaf_here u us g e = rw (eq-eqb u.frame g e) refl

pub leaf_past : (u : Used) (us : List Used) (g : ℕ) → u.frame ≢ g → leaf_of (u ∷ us) g ≡ leaf_of us g
leaf_past u us g n = rw (ne_eqb u.frame g n) refl

-- each frame's series and leaf are those that its number finds
pub record IsOwn (us : List Used) (u : Used) : Type 0 where
  pub series : series_of us u.frame ≡ u.series
  pub leaf : leaf_of us u.frame ≡ u.leaf

pub all_own : (count : ℕ) (us : List Used) → AreNumbered count us → AllByRecursion (IsOwn us) us
all_own count [] are = tt
all_own count (u ∷ us) are = (
  record { series = series_here u us u.frame refl; leaf = leaf_here u us u.frame refl },
  each_both (λ v. v.frame ≢ u.frame) (IsOwn us) (IsOwn (u ∷ us)) (λ v other own. record {
    series = series_past u us v.frame (λ e. other (sym e)) ∙ own.series;
    leaf = leaf_past u us v.frame (λ e. other (sym e)) ∙ own.leaf;
  }) us are.1 (all_own count us are.2),
)

-- the used frame of a number, of which this is known
pub record IsFound (P : Used → Type 0) (us : List Used) (f : ℕ) : Type 0 where
  pub it : Used
  pub known : P it
  pub frame : it.frame ≡ f
  pub series : series_of us f ≡ it.series
  pub leaf : leaf_of us f ≡ it.leaf

found_past : (P : Used → Type 0) (u : Used) (us : List Used) (f : ℕ) → u.frame ≢ f → IsFound P us f → IsFound P (u ∷ us) f
found_past P u us f other found = record {
  it = found.it;
  known = found.known;
  frame = found.frame;
  series = series_past u us f other ∙ found.series;
  leaf = leaf_past u us f other ∙ found.leaf;
}

used_past : (u : Used) (us : List Used) (f : ℕ) → u.frame ≢ f → IsUsed (u ∷ us) f → IsUsed us f
used_past u us f other (inl e) = absurd (other e)
used_past u us f other (inr is) = is

pub found_in : (P : Used → Type 0) (us : List Used) (f : ℕ) → AllByRecursion P us → IsUsed us f → IsFound P us f
found_in P [] f each used = absurd used
found_in P (u ∷ us) f each used = elim (same_or_other u.frame f) [
  | inl e ↦ record { it = u; known = each.0; frame = e; series = series_here u us f e; leaf = leaf_here u us f e }
  | inr o ↦ found_past P u us f o (found_in P us f each.1 (used_past u us f o used))
]

-- what holds of each holds of those with other numbers
pub each_without : (P : Used → Type 0) (us : List Used) (f : ℕ) → AllByRecursion P us → AllByRecursion (λ u. P u × (u.frame ≢ f)) (without us f)
each_without P [] f each = tt
each_without P (u ∷ us) f each = elim (same_or_other u.frame f) [
  | inl e ↦ subst (AllByRecursion (λ v. P v × (v.frame ≢ f))) (sym (without_same u us f e)) (each_without P us f each.1)
  | inr o ↦ subst (AllByRecursion (λ v. P v × (v.frame ≢ f))) (sym (without_other u us f o)) ((each.0, o), each_without P us f each.1)
]

lent_without : (us : List Used) (f : ℕ) (w : List Point) → without (with_leaf us f w) f ≡ without us f
lent_without [] f w = refl
lent_without (u ∷ us) f w = elim (same_or_other u.frame f) [
  | inl e ↦
      ap (λ (l : List Used). without l f) (with_same u us f w e) ∙ without_same (used_frame u.frame u.series w) (with_leaf us f w) f e
      ∙ lent_without us f w ∙ sym (without_same u us f e)
  | inr o ↦
      ap (λ (l : List Used). without l f) (with_other u us f w o) ∙ without_other u (with_leaf us f w) f o
      ∙ ap (λ (l : List Used). u ∷ l) (lent_without us f w) ∙ sym (without_other u us f o)
]

front_is : (f s t : ℕ) (l m : List Point) (us vs : List Used) → s ≡ t → l ≡ m → us ≡ vs → used_frame f s l ∷ us ≡ used_frame f t m ∷ vs
front_is f s t l m us vs a b c = cc

-- a frame that is written and moved first
pub written_first : (us : List Used) (f n : ℕ) (w : List Point) → IsUsed us f → series_of us f ≡ n → moved_first (with_leaf us f w) f ≡ used_frame f n w ∷ without us f
written_first us f n w used own =
    front_is f (series_of (with_leaf us f w) f) n (leaf_of (with_leaf us f w) f) w (without (with_leaf us f w) f) (without us f)
    (lent_series us f f w ∙ own) (lent_own us f w used) (lent_without us f w)

-- a leaf that is written as it is changes nothing
pub same_leaf : (us : List Used) (f : ℕ) (w : List Point) → AllByRecursion (λ u. u.frame ≡ f → u.leaf ≡ w) us → with_leaf us f w ≡ us
same_leaf [] f w each = refl
same_leaf (u ∷ us) f w each = elim (same_or_other u.frame f) [
  | inl e ↦ with_same u us f w e ∙ ap (λ (l : List Point). used_frame u.frame u.series l ∷ with_leaf us f w) (sym (each.0 e)) ∙ ap (λ (l : List Used). u ∷ l) (same_leaf us f w each.1)
  | inr o ↦ with_other u us f w o ∙ ap (λ (l : List Used). u ∷ l) (same_leaf us f w each.1)
]

-- ---- The frame of a series

-- the frame of a series: it is used by it, and no other frame is
pub record IsFrameOf (us : List Used) (n f : ℕ) : Type 0 where
  pub used : IsUsed us f
  pub series : series_of us f ≡ n
  pub each : AllByRecursion (λ u. (u.frame ≡ f → u.series ≡ n) × (u.series ≡ n → u.frame ≡ f)) us

frame_in : (a b : Frame) → Some a ≡ Some b → a.0 ≡ b.0
frame_in a b e = ap (λ (o : Option Frame). number o) e where
  number : Option Frame → ℕ
  number None = 0
  number (Some f) = f.0

pub frame_of : (pool : Frames) (frames : List (Option Frame)) (k n : ℕ) (f : Frame) → ArePooled pool frames k → get_or frames n None ≡ Some f → IsFrameOf pool.used n f.0
frame_of pool frames k n f are is =
    let own = are.framed n f is in
    record {
      used = own.0;
      series = own.1;
      each = each_both (IsOwn pool.used) (IsOpenLeaf frames) (λ u. (u.frame ≡ f.0 → u.series ≡ n) × (u.series ≡ n → u.frame ≡ f.0)) (λ u here opened. (
        (λ e. sym here.series ∙ ap (series_of pool.used) e ∙ own.1),
        (λ e. frame_in (record { 0 = u.frame }) f (sym opened.is ∙ ap (λ (m : ℕ). get_or frames m None) e ∙ is)),
      )) pool.used (all_own pool.count pool.used are.frames_are.numbered) are.each;
    }

-- the open leaf of a series
pub leaf_found : (pool : Frames) (frames : List (Option Frame)) (k n : ℕ) (f : Frame) → ArePooled pool frames k → get_or frames n None ≡ Some f → IsFound (IsOpenLeaf frames) pool.used f.0
leaf_found pool frames k n f are is = found_in (IsOpenLeaf frames) pool.used f.0 are.each (are.framed n f is).0

pub framed_within : (pool : Frames) (frames : List (Option Frame)) (k n : ℕ) (f : Frame) → ArePooled pool frames k → get_or frames n None ≡ Some f → n < k
framed_within pool frames k n f are is =
    let found = leaf_found pool frames k n f are is in
    let same : found.it.series ≡ n = sym found.series ∙ (are.framed n f is).1 in
    omega (arith, found.known.known, same, are.number)

pub leaf_some : (pool : Frames) (frames : List (Option Frame)) (k n : ℕ) (f : Frame) → ArePooled pool frames k → get_or frames n None ≡ Some f → leaf_of pool.used f.0 ≢ []
leaf_some pool frames k n f are is empty =
    let found = leaf_found pool frames k n f are is in
    found.known.some (sym found.leaf ∙ empty)

pub leaf_fits : (pool : Frames) (frames : List (Option Frame)) (k n : ℕ) (f : Frame) → ArePooled pool frames k → get_or frames n None ≡ Some f → leaf_size (leaf_of pool.used f.0) ≤ 4032
leaf_fits pool frames k n f are is =
    let found = leaf_found pool frames k n f are is in
    subst (λ (ps : List Point). leaf_size ps ≤ 4032) (sym found.leaf) found.known.fits

-- the series of the other frames
test_same : (a b c d : ℕ) → (a ≡ b → c ≡ d) → (c ≡ d → a ≡ b) → eqb a b ≡ eqb c d
test_same a b c d to from = elim (same_or_other a b) [
  | inl e ↦ eq-eqb a b e ∙ sym (eq-eqb c d (to e))
  | inr o ↦ ne_eqb a b o ∙ sym (ne_eqb c d (λ e. o (from e)))
]

series_step : (a b : Bool) (u : Used) (rest : List Used) (ns : List ℕ) → a ≡ b → map (λ (v : Used). v.series) rest ≡ ns
    → map (λ (v : Used). v.series) (if not a then u ∷ rest else rest) ≡ (if b then ns else u.series ∷ ns)
series_step true true u rest ns e is = is
series_step true false u rest ns e is = absurd (true≢false e)
series_step false true u rest ns e is = absurd (true≢false (sym e))
series_step false false u rest ns e is = ap (λ (l : List ℕ). u.series ∷ l) is

pub series_without : (us : List Used) (n f : ℕ) → AllByRecursion (λ u. (u.frame ≡ f → u.series ≡ n) × (u.series ≡ n → u.frame ≡ f)) us
    → map (λ (v : Used). v.series) (without us f) ≡ but n (map (λ (v : Used). v.series) us)
series_without [] n f each = refl
series_without (u ∷ us) n f each =
    series_step (eqb u.frame f) (eqb u.series n) u (without us f) (but n (map (λ (v : Used). v.series) us))
    (test_same u.frame f u.series n each.0.0 each.0.1) (series_without us n f each.1)

-- those that have another number are of another series
pub others_of : (P : Used → Type 0) (us : List Used) (n f : ℕ) → AllByRecursion (λ u. (u.frame ≡ f → u.series ≡ n) × (u.series ≡ n → u.frame ≡ f)) us → AllByRecursion P us
    → AllByRecursion (λ u. P u × (u.series ≢ n)) (without us f)
others_of P us n f each all =
    let Q : Used → Type 0 = λ u. (u.frame ≡ f → u.series ≡ n) × (u.series ≡ n → u.frame ≡ f) in
    each_taken (λ (u : Used). (Q u × P u) × (u.frame ≢ f)) (λ (u : Used). P u × (u.series ≢ n)) (λ u h. (h.0.1, (λ e. h.1 (h.0.0.1 e)))) (without us f)
    (each_without (λ u. Q u × P u) us f (each_both Q P (λ u. Q u × P u) (λ u q p. (q, p)) us each all))

-- ---- Frames of open leaves

-- a leaf is written
pub pooled_written : (count : ℕ) (us : List Used) (frames : List (Option Frame)) (k n : ℕ) (f : Frame) (w : List Point) → ArePooled (frames_of count us) frames k → get_or frames n None ≡ Some f
    → w ≢ [] → leaf_size w ≤ 4032 → AreFrames (frames_of count (moved_first (with_leaf us f.0 w) f.0)) → ArePooled (frames_of count (moved_first (with_leaf us f.0 w) f.0)) frames k
pooled_written count us frames k n f w are is some fits valid =
    let own : IsFrameOf us n f.0 = frame_of (frames_of count us) frames k n f are is in
    record {
      frames_are = valid;
      number = are.number;
      each =
          subst (AllByRecursion (IsOpenLeaf frames)) (sym (written_first us f.0 n w own.used own.series)) (
            record { known = omega (arith, framed_within (frames_of count us) frames k n f are is, are.number); is = is; some = some; fits = fits },
            each_taken (λ (u : Used). IsOpenLeaf frames u × (u.frame ≢ f.0)) (IsOpenLeaf frames) (λ u h. h.0) (without us f.0) (each_without (IsOpenLeaf frames) us f.0 are.each),
          );
      framed = λ m g here. (
          let old = are.framed m g here in (
            moved_used_from (with_leaf us f.0 w) f.0 g.0 (lent_used_from us f.0 g.0 w old.0),
            moved_series (with_leaf us f.0 w) f.0 g.0 ∙ lent_series us f.0 g.0 w ∙ old.1,
          )
          );
    }

-- a leaf is begun
not_none : (f : Frame) → Some f ≢ None
not_none f e = cc

pub pooled_begun : (count : ℕ) (us : List Used) (frames : List (Option Frame)) (k n : ℕ) (f : Frame) (w : List Point) → ArePooled (frames_of count us) frames k → n < k → get_or frames n None ≡ None
    → (IsUsed us f.0 → ⊥) → w ≢ [] → leaf_size w ≤ 4032 → AreFrames (frames_of count (used_frame f.0 n w ∷ us)) → ArePooled (frames_of count (used_frame f.0 n w ∷ us)) (slice_set frames n (Some f)) k
pooled_begun count us frames k n f w are within none unused some fits valid =
    let new : List (Option Frame) = slice_set frames n (Some f) in
    let long : length new ≡ length frames = length-set frames n (Some f) in
    let here : get_or new n None ≡ Some f = get_or-set_same frames n (Some f) None (omega (arith, within, are.number)) in
    record {
      frames_are = valid;
      number = long ∙ are.number;
      each = (
        record { known = omega (arith, within, long, are.number); is = here; some = some; fits = fits },
        each_taken (IsOpenLeaf frames) (IsOpenLeaf new) (λ u opened. record {
          known = omega (arith, opened.known, long);
          is = get_or-set_other frames n u.series (Some f) None (λ e. not_none (record { 0 = u.frame }) (sym opened.is ∙ ap (λ (m : ℕ). get_or frames m None) e ∙ none)) ∙ opened.is;
          some = opened.some;
          fits = opened.fits;
        }) us are.each,
      );
      framed = λ m g at. elim (same_or_other m n) [
        | inl e ↦
            (let same : f.0 ≡ g.0 = frame_in f g (sym here ∙ ap (λ (i : ℕ). get_or new i None) (sym e) ∙ at) in
            (inl same, series_here (used_frame f.0 n w) us g.0 same ∙ sym e))
        | inr o ↦
            (let old = are.framed m g (sym (get_or-set_other frames n m (Some f) None o) ∙ at) in
            (inr old.0, series_past (used_frame f.0 n w) us g.0 (λ e. unused (subst (IsUsed us) (sym e) old.0)) ∙ old.1))
      ];
    }

-- a leaf is closed
pub pooled_closed : (count : ℕ) (us : List Used) (frames : List (Option Frame)) (k n : ℕ) (f : Frame) → ArePooled (frames_of count us) frames k → get_or frames n None ≡ Some f
    → AreFrames (frames_of count (without us f.0)) → ArePooled (frames_of count (without us f.0)) (slice_set frames n None) k
pooled_closed count us frames k n f are is valid =
    let own : IsFrameOf us n f.0 = frame_of (frames_of count us) frames k n f are is in
    let new : List (Option Frame) = slice_set frames n None in
    let long : length new ≡ length frames = length-set frames n None in
    let here : get_or new n None ≡ None = get_or-set_same frames n None None (omega (arith, framed_within (frames_of count us) frames k n f are is, are.number)) in
    record {
      frames_are = valid;
      number = long ∙ are.number;
      each = each_taken (λ (u : Used). IsOpenLeaf frames u × (u.series ≢ n)) (IsOpenLeaf new) (λ u h. record {
        known = omega (arith, h.0.known, long);
        is = get_or-set_other frames n u.series None None h.1 ∙ h.0.is;
        some = h.0.some;
        fits = h.0.fits;
      }) (without us f.0) (others_of (IsOpenLeaf frames) us n f.0 own.each are.each);
      framed = λ m g at. elim (same_or_other m n) [
        | inl e ↦ absurd (not_none g (sym at ∙ ap (λ (i : ℕ). get_or new i None) e ∙ here))
        | inr o ↦
            (let old = are.framed m g (sym (get_or-set_other frames n m None None o) ∙ at) in
            let apart : g.0 ≢ f.0 = λ e. o (sym old.1 ∙ ap (series_of us) e ∙ own.series) in
            (given_used_from us f.0 g.0 apart old.0, given_series us f.0 g.0 apart ∙ old.1))
      ];
    }

-- the leaf of a frame as it is
pub own_leaf : (pool : Frames) (frames : List (Option Frame)) (k n : ℕ) (f : Frame) → ArePooled pool frames k → get_or frames n None ≡ Some f → with_leaf pool.used f.0 (leaf_of pool.used f.0) ≡ pool.used
own_leaf pool frames k n f are is =
    same_leaf pool.used f.0 (leaf_of pool.used f.0) (each_taken (IsOwn pool.used) (λ (u : Used). u.frame ≡ f.0 → u.leaf ≡ leaf_of pool.used f.0)
    (λ u own e. sym own.leaf ∙ ap (leaf_of pool.used) e) pool.used (all_own pool.count pool.used are.frames_are.numbered))

-- other frames of the same series
pub trees_pooled : (f : Trees) (pool : Frames) (frames : List (Option Frame)) → AreTrees f → pool.count ≡ f.pool.count → ArePooled pool frames (length f.meta.series) → AreTrees (record f { pool = pool; frames = frames })
trees_pooled f pool frames are count pooled = record { rules_are = are.rules_are; room = are.room; slot_is = are.slot_is; count = count ∙ are.count; pooled = pooled; lawful = are.lawful; since = are.since }

pub trees_written : (f : Trees) (n : ℕ) (g : Frame) (w : List Point) → AreTrees f → get_or f.frames n None ≡ Some g → w ≢ [] → leaf_size w ≤ 4032
    → AreFrames (frames_of f.pool.count (moved_first (with_leaf f.pool.used g.0 w) g.0)) → AreTrees (record f { pool = frames_of f.pool.count (moved_first (with_leaf f.pool.used g.0 w) g.0) })
trees_written f n g w are is some fits valid =
    trees_pooled f (frames_of f.pool.count (moved_first (with_leaf f.pool.used g.0 w) g.0)) f.frames are refl
    (pooled_written f.pool.count f.pool.used f.frames (length f.meta.series) n g w are.pooled is some fits valid)

pub trees_begun : (f : Trees) (n : ℕ) (g : Frame) (w : List Point) → AreTrees f → n < length f.meta.series → get_or f.frames n None ≡ None → (IsUsed f.pool.used g.0 → ⊥) → w ≢ [] → leaf_size w ≤ 4032
    → AreFrames (frames_of f.pool.count (used_frame g.0 n w ∷ f.pool.used)) → AreTrees (record f { pool = frames_of f.pool.count (used_frame g.0 n w ∷ f.pool.used); frames = slice_set f.frames n (Some g) })
trees_begun f n g w are within none unused some fits valid =
    trees_pooled f (frames_of f.pool.count (used_frame g.0 n w ∷ f.pool.used)) (slice_set f.frames n (Some g)) are refl
    (pooled_begun f.pool.count f.pool.used f.frames (length f.meta.series) n g w are.pooled within none unused some fits valid)

-- the first leaf of a list of frames, where it is written
pub with_first : (f s : ℕ) (ps w : List Point) (us : List Used) → (IsUsed us f → ⊥) → with_leaf (used_frame f s ps ∷ us) f w ≡ used_frame f s w ∷ us
with_first f s ps w us unused = with_same (used_frame f s ps) us f w refl ∙ ap (λ (l : List Used). used_frame f s w ∷ l) (same_leaf us f w (none_there us f w unused)) where
  none_there : (us : List Used) (f : ℕ) (w : List Point) → (IsUsed us f → ⊥) → AllByRecursion (λ u. u.frame ≡ f → u.leaf ≡ w) us
  none_there [] f w unused = tt
  none_there (u ∷ us) f w unused = ((λ e. absurd (unused (inl e))), none_there us f w (λ is. unused (inr is)))

-- a series more
get_or_end : (frames : List (Option Frame)) (m : ℕ) (g : Frame) → get_or (frames ++ None ∷ []) m None ≡ Some g → get_or frames m None ≡ Some g
get_or_end [] zero g e = e
get_or_end [] (suc m) g e = e
get_or_end (x ∷ frames) zero g e = e
get_or_end (x ∷ frames) (suc m) g e = get_or_end frames m g e

pub pooled_more : (pool : Frames) (frames : List (Option Frame)) (k : ℕ) → ArePooled pool frames k → ArePooled pool (frames ++ None ∷ []) (k + 1)
pooled_more pool frames k are = record {
  frames_are = are.frames_are;
  number = omega (arith, length-append frames (None ∷ []), are.number);
  each = each_taken (IsOpenLeaf frames) (IsOpenLeaf (frames ++ None ∷ [])) (λ u opened. record {
    known = omega (arith, opened.known, length-append frames (None ∷ []));
    is = get_or_append_left frames (None ∷ []) None u.series opened.known ∙ opened.is;
    some = opened.some;
    fits = opened.fits;
  }) pool.used are.each;
  framed = λ m g at. are.framed m g (get_or_end frames m g at);
}

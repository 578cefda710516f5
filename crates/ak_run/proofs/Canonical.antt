-- The names of a text name themselves alone.
use Rattle.std.proofs.Common.{◌≡◌, ◌∙◌, ◌+◌, ◌<◌, ℕ, zero, suc, inl, inr, Bool, true, false, not, List, [], ◌∷◌, ◌++◌, map, filter, length, drop, get_or, bytes_eq, refl, sym, ap, subst, arith, length-append, append-nil, append_assoc, add-one}
use Rattle.std.specs.Prelude.{IsUtf8, ◌==◌, if◌then◌else◌, slice_index}
use Rattle.std.specs.List.{slice_split, onto_first, AllByRecursion, IsDistinct}
use Rattle.std.proofs.lemmas.Bool.{cases_Bool, eqb-true, ne_eqb}
use Rattle.std.proofs.lemmas.List.Elements.{All-from_recursion}
use Rattle.std.proofs.lemmas.List.Sorted.{IsPermutation-refl, length_permutation}
use Rattle.std.proofs.lemmas.List.Splits.{slice_split_none, slice_split_at}
use Rattle.std.proofs.lemmas.Map.Keys.{IsDistinct-cons}
use Rattle.std.proofs.Math.Seq.{take-append_seam}
use Rattle.std.proofs.lemmas.Str.{IsUtf8-nil, IsUtf8-append, IsUtf8-take, IsUtf8-drop, IsUtf8-from_ascii, IsCharBoundary-before_ascii, IsCharBoundary-after_ascii}
use Rattle.ak_meta.specs.Contents.{IsCanonical}
use Rattle.ak_names.specs.Names.{words_of, metrics_of, key_of, value_of, IsPlain, IsMetric, AreMetrics, IsTag, AreTags, tail_of, IsShort, DoesName}
use Rattle.ak_names.specs.Spelled.{spelled}
use Rattle.ak_names.proofs.Sorted.{all_permutation, tail_is}

-- ---- Pieces of a text

-- a list of pieces, with this in front of the first
abbrev put : List ℕ → List (List ℕ) → List (List ℕ)
put front [] = front ∷ []
put front (piece ∷ pieces) = (front ++ piece) ∷ pieces

put_first : (front : List ℕ) (b : ℕ) (pieces : List (List ℕ)) → put (front ++ b ∷ []) pieces ≡ put front (onto_first b pieces)
put_first front b [] = refl
put_first front b (piece ∷ pieces) = ap (λ (l : List ℕ). l ∷ pieces) (append_assoc front (b ∷ []) piece)

put_onto : (b : ℕ) (pieces : List (List ℕ)) → put [] (onto_first b pieces) ≡ onto_first b pieces
put_onto b [] = refl
put_onto b (piece ∷ pieces) = refl

put_none : (p : ℕ → Bool) (bs : List ℕ) → put [] (slice_split p bs) ≡ slice_split p bs
put_none p [] = refl
put_none p (b ∷ bs) = by (p b)
  where
    by : (q : Bool) → put [] (if q then [] ∷ slice_split p bs else onto_first b (slice_split p bs)) ≡ (if q then [] ∷ slice_split p bs else onto_first b (slice_split p bs))
    by true = refl
    by false = put_onto b (slice_split p bs)

-- what holds of a text, and with a text of both sides of such a byte, holds of the pieces
module _ (P : List ℕ → Type 0) (c : ℕ) (cut : (xs ys : List ℕ) → P (xs ++ c ∷ ys) → P xs × P ys) where
  pieces_by : (bs front : List ℕ) → P (front ++ bs) → AllByRecursion P (put front (slice_split (λ b. b == c) bs))
  pieces_by [] front is = (is, tt)
  pieces_by (b ∷ bs) front is = elim (cases_Bool (b == c)) [
    | inl same ↦
        let here : b ≡ c = eqb-true b c same in
        let both : P front × P bs = cut front bs (subst (λ (x : ℕ). P (front ++ x ∷ bs)) here is) in
        rw same (subst P (sym (append-nil front)) both.0, subst (λ (l : List (List ℕ)). AllByRecursion P l) (put_none (λ x. x == c) bs) (pieces_by bs [] both.1))
    | inr other ↦
        let more : P ((front ++ b ∷ []) ++ bs) = subst P (sym (append_assoc front (b ∷ []) bs)) is in
        rw other (subst (λ (l : List (List ℕ)). AllByRecursion P l) (put_first front b (slice_split (λ x. x == c) bs)) (pieces_by bs (front ++ b ∷ []) more))
  ]

  pieces : (bs : List ℕ) → P bs → AllByRecursion P (slice_split (λ b. b == c) bs)
  pieces bs is = subst (λ (l : List (List ℕ)). AllByRecursion P l) (put_none (λ x. x == c) bs) (pieces_by bs [] is)

-- the text doesn't have this byte
abbrev Lacks : ℕ → List ℕ → Type 0
Lacks c text = AllByRecursion (λ b. (b == c) ≡ false) text

lack_first : (c b : ℕ) (pieces : List (List ℕ)) → (b == c) ≡ false → AllByRecursion (Lacks c) pieces → AllByRecursion (Lacks c) (onto_first b pieces)
lack_first c b [] other each = ((other, tt), tt)
lack_first c b (piece ∷ pieces) other each = ((other, each.0), each.1)

-- no piece has the byte at which it was cut
pieces_lack : (c : ℕ) (bs : List ℕ) → AllByRecursion (Lacks c) (slice_split (λ b. b == c) bs)
pieces_lack c [] = (tt, tt)
pieces_lack c (b ∷ bs) = elim (cases_Bool (b == c)) [
  | inl same ↦ rw same (tt, pieces_lack c bs)
  | inr other ↦ rw other (lack_first c b (slice_split (λ x. x == c) bs) other (pieces_lack c bs))
]

each_cut : (P : ℕ → Type 0) (c : ℕ) (xs ys : List ℕ) → AllByRecursion P (xs ++ c ∷ ys) → AllByRecursion P xs × AllByRecursion P ys
each_cut P c [] ys each = (tt, each.1)
each_cut P c (x ∷ xs) ys each = let rest = each_cut P c xs ys each.1 in ((each.0, rest.0), rest.1)

each_joined : (P : ℕ → Type 0) (xs ys : List ℕ) → AllByRecursion P xs → AllByRecursion P ys → AllByRecursion P (xs ++ ys)
each_joined P [] ys first second = second
each_joined P (x ∷ xs) ys first second = (first.0, each_joined P xs ys first.1 second)

-- ---- Words

-- The text is UTF-8, and each byte is plain.
record IsFine (text : List ℕ) : Type 0 where
  utf8 : IsUtf8 text
  plain : AllByRecursion IsPlain text

at_seam : (xs : List ℕ) (c : ℕ) (ys : List ℕ) → get_or (xs ++ c ∷ ys) (length xs) 0 ≡ c
at_seam [] c ys = refl
at_seam (x ∷ xs) c ys = at_seam xs c ys

behind_seam : (xs : List ℕ) (c : ℕ) (ys : List ℕ) → drop (suc (length xs)) (xs ++ c ∷ ys) ≡ ys
behind_seam [] c ys = refl
behind_seam (x ∷ xs) c ys = behind_seam xs c ys

-- so are both sides of an ASCII byte
fine_cut : (c : ℕ) → c < 128 → (xs ys : List ℕ) → IsFine (xs ++ c ∷ ys) → IsFine xs × IsFine ys
fine_cut c small xs ys is =
    let text : List ℕ = xs ++ c ∷ ys in
    let within : length xs < length text = omega (arith, length-append xs (c ∷ ys)) in
    let ascii : get_or text (length xs) 0 < 128 = omega (arith, at_seam xs c ys, small) in
    let both = each_cut IsPlain c xs ys is.plain in (
      record {
        utf8 = subst IsUtf8 (take-append_seam xs (c ∷ ys)) (IsUtf8-take text (length xs) is.utf8 (IsCharBoundary-before_ascii text (length xs) within ascii));
        plain = both.0;
      },
      record {
        utf8 = subst IsUtf8 (ap (λ (n : ℕ). drop n text) (add-one (length xs)) ∙ behind_seam xs c ys) (IsUtf8-drop text (length xs + 1) is.utf8 (IsCharBoundary-after_ascii text (length xs) is.utf8 within ascii));
        plain = both.1;
      },
    )

-- a fine text without spaces
record IsWord (word : List ℕ) : Type 0 where
  fine : IsFine word
  lacks : Lacks 32 word

word_cut : (c : ℕ) → c < 128 → (xs ys : List ℕ) → IsWord (xs ++ c ∷ ys) → IsWord xs × IsWord ys
word_cut c small xs ys is =
    let fine = fine_cut c small xs ys is.fine in
    let lacks = each_cut (λ b. (b == 32) ≡ false) c xs ys is.lacks in
    (record { fine = fine.0; lacks = lacks.0 }, record { fine = fine.1; lacks = lacks.1 })

both_are : (words : List (List ℕ)) → AllByRecursion IsFine words → AllByRecursion (Lacks 32) words → AllByRecursion IsWord words
both_are [] fine lacks = tt
both_are (word ∷ words) fine lacks = (record { fine = fine.0; lacks = lacks.0 }, both_are words fine.1 lacks.1)

each_kept : (p : List ℕ → Bool) (words : List (List ℕ)) → AllByRecursion IsWord words → AllByRecursion IsWord (filter p words)
each_kept p [] each = tt
each_kept p (word ∷ words) each = elim (cases_Bool (p word)) [
  | inl kept ↦ rw kept (each.0, each_kept p words each.1)
  | inr out ↦ rw out (each_kept p words each.1)
]

words_are : (text : List ℕ) → IsFine text → AllByRecursion IsWord (words_of text)
words_are text is =
    let all : List (List ℕ) = slice_split (λ b. b == 32) text in
    each_kept (λ word. not (length word == 0)) all (both_are all (pieces IsFine 32 (fine_cut 32 (omega arith)) text is) (pieces_lack 32 text))

-- ---- The words of a name

split_spelled : (word : List ℕ) (tags : List (List ℕ)) → Lacks 32 word → AllByRecursion (Lacks 32) tags → slice_split (λ b. b == 32) (word ++ spelled tags) ≡ word ∷ tags
split_spelled word [] lacks each =
    ap (slice_split (λ b. b == 32)) (append-nil word) ∙ slice_split_none (λ b. b == 32) word (All-from_recursion (λ b. (b == 32) ≡ false) word lacks)
split_spelled word (tag ∷ tags) lacks each =
    slice_split_at (λ b. b == 32) word 32 (tag ++ spelled tags) (All-from_recursion (λ b. (b == 32) ≡ false) word lacks) refl
    ∙ ap (λ (l : List (List ℕ)). word ∷ l) (split_spelled tag tags each.0 each.1)

-- words that aren't empty are all kept
all_kept : (words : List (List ℕ)) → AllByRecursion (λ word. 0 < length word) words → filter (λ word. not (length word == 0)) words ≡ words
all_kept [] each = refl
all_kept (word ∷ words) each = rw (ne_eqb (length word) 0 (λ e. omega (arith, e, each.0))) (ap (λ (l : List (List ℕ)). word ∷ l) (all_kept words each.1))

tags_lack : (tags : List (List ℕ)) → AllByRecursion IsWord tags → AllByRecursion (Lacks 32) tags
tags_lack [] each = tt
tags_lack (tag ∷ tags) each = (each.0.lacks, tags_lack tags each.1)

tags_some : (tags : List (List ℕ)) → AllByRecursion IsTag tags → AllByRecursion (λ word. 0 < length word) tags
tags_some [] each = tt
tags_some (tag ∷ tags) each =
    (omega (arith, ap (λ (l : List ℕ). length l) each.0.splits, length-append (key_of tag) (61 ∷ value_of tag)), tags_some tags each.1)

fine_spelled : (tags : List (List ℕ)) → AllByRecursion IsWord tags → IsFine (spelled tags)
fine_spelled [] each = record { utf8 = IsUtf8-nil; plain = tt }
fine_spelled (tag ∷ tags) each =
    let rest = fine_spelled tags each.1 in
    record {
      utf8 = IsUtf8-append (32 ∷ tag) (spelled tags) (IsUtf8-append (32 ∷ []) tag (IsUtf8-from_ascii (32 ∷ []) space) each.0.fine.utf8) rest.utf8;
      plain = ((omega arith, λ e. omega (arith, e)), each_joined IsPlain tag (spelled tags) each.0.fine.plain rest.plain);
    }
  where
    space : (i : ℕ) → slice_index (32 ∷ []) i < 128
    space zero = omega arith
    space (suc i) = omega arith

-- ---- Names

-- tags that are in order are their own
same_tags : (words sorted : List (List ℕ)) → AreTags words sorted → AreTags sorted sorted
same_tags words sorted are = record {
  each = all_permutation IsTag words sorted are.same are.each;
  most = omega (arith, length_permutation words sorted are.same, are.most);
  same = IsPermutation-refl sorted;
  rise = are.rise;
}

one_metric : (metric : List ℕ) → IsMetric metric → AreMetrics (metric ∷ [])
unfolding IsDistinct
one_metric metric is = record { each = (is, tt); most = omega arith; apart = IsDistinct-cons bytes_eq metric [] tt tt }

-- a metric with tags in order
canonical_one : (metric : List ℕ) (words sorted : List (List ℕ)) → IsMetric metric → Lacks 124 metric → IsWord metric → AreTags words sorted → AllByRecursion IsWord sorted
    → IsShort (metric ++ tail_of sorted) → IsCanonical (metric ++ tail_of sorted)
canonical_one metric words sorted is lacks word are tags short =
    let name : List ℕ = metric ++ tail_of sorted in
    let own : AreTags sorted sorted = same_tags words sorted are in
    let spelt : name ≡ metric ++ spelled sorted = ap (λ (l : List ℕ). metric ++ l) (tail_is words sorted are) in
    let split : slice_split (λ b. b == 32) name ≡ metric ∷ sorted = ap (slice_split (λ b. b == 32)) spelt ∙ split_spelled metric sorted word.lacks (tags_lack sorted tags) in
    let rest : IsFine (spelled sorted) = fine_spelled sorted tags in
    let single : metrics_of metric ≡ metric ∷ [] = slice_split_none (λ b. b == 124) metric (All-from_recursion (λ b. (b == 124) ≡ false) metric lacks) in
    record {
      utf8 = subst IsUtf8 (sym spelt) (IsUtf8-append metric (spelled sorted) word.fine.utf8 rest.utf8);
      plain = subst (AllByRecursion IsPlain) (sym spelt) (each_joined IsPlain metric (spelled sorted) word.fine.plain rest.plain);
      first = metric;
      others = sorted;
      words = ap (filter (λ word. not (length word == 0))) split ∙ all_kept (metric ∷ sorted) (is.some, tags_some sorted own.each);
      named = record {
        metrics = subst AreMetrics (sym single) (one_metric metric is);
        sorted = sorted;
        tags = own;
        names_are = ap (map (λ m. m ++ tail_of sorted)) (sym single);
        short = (short, tt);
      };
    }

canonical_each : (metrics words sorted : List (List ℕ)) → AllByRecursion IsMetric metrics → AllByRecursion (Lacks 124) metrics → AllByRecursion IsWord metrics → AreTags words sorted → AllByRecursion IsWord sorted
    → AllByRecursion IsShort (map (λ metric. metric ++ tail_of sorted) metrics) → AllByRecursion IsCanonical (map (λ metric. metric ++ tail_of sorted) metrics)
canonical_each [] words sorted each lacks are tags all short = tt
canonical_each (metric ∷ metrics) words sorted each lacks are tags all short =
    (canonical_one metric words sorted each.0 lacks.0 are.0 tags all short.0, canonical_each metrics words sorted each.1 lacks.1 are.1 tags all short.1)

-- Each name of a text names itself alone.
pub names_canonical : (text : List ℕ) (names : List (List ℕ)) → DoesName text names → AllByRecursion IsCanonical names
names_canonical text names d =
    let words : AllByRecursion IsWord (d.first ∷ d.others) = subst (λ (l : List (List ℕ)). AllByRecursion IsWord l) d.words (words_are text (record { utf8 = d.utf8; plain = d.plain })) in
    let metrics : AllByRecursion IsWord (metrics_of d.first) = pieces IsWord 124 (word_cut 124 (omega arith)) d.first words.0 in
    let tags : AllByRecursion IsWord d.named.sorted = all_permutation IsWord d.others d.named.sorted d.named.tags.same words.1 in
    let short : AllByRecursion IsShort (map (λ metric. metric ++ tail_of d.named.sorted) (metrics_of d.first)) = subst (λ (l : List (List ℕ)). AllByRecursion IsShort l) d.named.names_are d.named.short in
    subst (λ (l : List (List ℕ)). AllByRecursion IsCanonical l) (sym d.named.names_are)
    (canonical_each (metrics_of d.first) d.others d.named.sorted d.named.metrics.each (pieces_lack 124 d.first) metrics d.named.tags tags short)

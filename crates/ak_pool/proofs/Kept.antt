-- What is seen of the frames, by the order of the used ones.
use Rattle.std.proofs.Common.{◌≡◌, ℕ, suc, ◌<◌, ◌≤◌, inl, inr, List, [], ◌∷◌, ◌++◌, length, refl, sym, ap, ◌∙◌, subst, arith}
use Rattle.std.proofs.lemmas.List.{map-append, length-map, length-set, get_or-set_same, get_or-set_other}
use Rattle.std.proofs.Math.ListN.{set}
use Rattle.std.specs.Prelude.{◌≢◌, map}
use Rattle.ak_base.specs.declared.point.Point.{Point}
use Rattle.ak_pool.specs.Chains.{AreChains, IsInOrder, IsLoose, IsDetached, IsPutFirst, IsPutFree, IsTakenFree, HasNoneFree}
use Rattle.ak_pool.specs.Frames.{Used, used_frame, AreNumbered, AreFrames, frames_of, numbers, IsUsed, series_of, leaf_of, without, with_leaf, moved_first, IsLastFrame}
use Rattle.ak_pool.specs.Links.{none, last_of, AreOlder, AreNewer, Without, AreDistinct}
use Rattle.ak_pool.specs.Slots.{slot_at, used_at, all_used, KeepsFrames}
use Rattle.ak_pool.specs.declared.links.Chains.{Chains}
use Rattle.ak_pool.specs.declared.slot.Slot.{Slot}
use Rattle.ak_pool.proofs.Chained.{met, countdown, length_countdown}
use Rattle.ak_pool.proofs.Distinct.{to_front, distinct_left, without_left, without_right, without_none, in_range, last_apart}
use Rattle.ak_pool.proofs.Uses.{Others, others_left, unused, series_mid, leaf_mid, without_mid, with_leaf_mid, moved_mid}

-- the frames of an order, with what is kept of them
abbrev pub in_order : List Slot → List ℕ → List Used
in_order slots us = map (used_at slots) us

pub seen : (slots : List Slot) (c : Chains) (order vacant : List ℕ) → AreChains c [] order vacant → length order ≤ length slots → all_used slots c ≡ in_order slots order
seen slots c order vacant h most = ap (in_order slots) (met c order vacant (length slots) h most)

pub kept_seen : (slots : List Slot) (c : Chains) (k : KeepsFrames slots c) → all_used slots c ≡ in_order slots k.order
kept_seen slots c k = seen slots c k.order k.vacant k.chains (omega (arith, k.counted))

-- a frame that is used stands in the order
pub record Stands (us : List ℕ) (f : ℕ) : Type 0 where
  pub before : List ℕ
  pub after : List ℕ
  pub is : us ≡ before ++ f ∷ after

one_more : (u : ℕ) (us : List ℕ) (f : ℕ) → Stands us f → Stands (u ∷ us) f
one_more u us f s = record { before = u ∷ s.before; after = s.after; is = ap (λ (l : List ℕ). u ∷ l) s.is }

used_stands : (slots : List Slot) (us : List ℕ) (f : ℕ) → IsUsed (in_order slots us) f → Stands us f
used_stands slots [] f is = absurd is
used_stands slots (u ∷ us) f (inl e) = record { before = []; after = us; is = ap (λ (m : ℕ). m ∷ us) e }
used_stands slots (u ∷ us) f (inr is) = one_more u us f (used_stands slots us f is)

pub stands : (slots : List Slot) (c : Chains) (k : KeepsFrames slots c) (f : ℕ) → IsUsed (all_used slots c) f → Stands k.order f
stands slots c k f is = used_stands slots k.order f (subst (λ (l : List Used). IsUsed l f) (kept_seen slots c k) is)

pub chains_at : (slots : List Slot) (c : Chains) (k : KeepsFrames slots c) (f : ℕ) (s : Stands k.order f) → AreChains c [] (s.before ++ f ∷ s.after) k.vacant
chains_at slots c k f s = subst (λ (l : List ℕ). AreChains c [] l k.vacant) s.is k.chains

pub in_its_order : (slots : List Slot) (c : Chains) (f : ℕ) → KeepsFrames slots c → IsUsed (all_used slots c) f → IsInOrder c f
in_its_order slots c f k is =
    let s : Stands k.order f = stands slots c k f is in
    record { before = s.before; after = s.after; vacant = k.vacant; chains = chains_at slots c k f s }

pub within : (slots : List Slot) (c : Chains) (f : ℕ) → KeepsFrames slots c → IsUsed (all_used slots c) f → f < length slots
within slots c f k is =
    let s : Stands k.order f = stands slots c k f is in
    let h : AreChains c [] (s.before ++ f ∷ s.after) k.vacant = chains_at slots c k f s in
    let n : ℕ = length c.links.items in
    let below : f < n = in_range n s.before f s.after (distinct_left n (s.before ++ f ∷ s.after) k.vacant h.distinct) in
    omega (arith, below, k.each)

-- the numbers of the frames
others_in : (slots : List Slot) (f : ℕ) (us : List ℕ) → Without f us → Others f (in_order slots us)
others_in slots f [] w = tt
others_in slots f (u ∷ us) w = (w.0, others_in slots f us w.1)

numbered_in : (slots : List Slot) (n : ℕ) (us : List ℕ) → AreDistinct n us → AreNumbered n (in_order slots us)
numbered_in slots n [] d = tt
numbered_in slots n (u ∷ us) d = (d.0, others_in slots u us d.1, numbered_in slots n us d.2)

pub numbers_in : (slots : List Slot) (us : List ℕ) → numbers (in_order slots us) ≡ us
numbers_in slots [] = refl
numbers_in slots (u ∷ us) = ap (λ (l : List ℕ). u ∷ l) (numbers_in slots us)

pub frames_kept : (slots : List Slot) (c : Chains) → KeepsFrames slots c → AreFrames (frames_of (length slots) (all_used slots c))
frames_kept slots c k =
    let n : ℕ = length slots in
    let d : AreDistinct n k.order = subst (λ (m : ℕ). AreDistinct m k.order) k.each (distinct_left (length c.links.items) k.order k.vacant k.chains.distinct) in
    subst (λ (l : List Used). AreFrames (frames_of n l)) (sym (kept_seen slots c k))
    (record { numbered = numbered_in slots n k.order d; most = omega (arith, k.counted, length-map k.order (used_at slots)) })

-- the used frames before and after one of them
parts : (slots : List Slot) (a : List ℕ) (f : ℕ) (b : List ℕ) → in_order slots (a ++ f ∷ b) ≡ in_order slots a ++ used_at slots f ∷ in_order slots b
parts slots a f b = map-append (used_at slots) a (f ∷ b)

both : (slots : List Slot) (a b : List ℕ) → in_order slots (a ++ b) ≡ in_order slots a ++ in_order slots b
both slots a b = map-append (used_at slots) a b

pub without_frame : (n f : ℕ) (a b vacant : List ℕ) → AreDistinct n ((a ++ f ∷ b) ++ vacant) → Without f (a ++ b)
without_frame n f a b vacant d = let front : AreDistinct n (f ∷ (a ++ b)) = to_front n a f b (distinct_left n (a ++ f ∷ b) vacant d) in front.1

others_at : (slots : List Slot) (c : Chains) (f : ℕ) (a b vacant : List ℕ) → AreChains c [] (a ++ f ∷ b) vacant → Others f (in_order slots a ++ in_order slots b)
others_at slots c f a b vacant h =
    subst (Others f) (both slots a b) (others_in slots f (a ++ b) (without_frame (length c.links.items) f a b vacant h.distinct))

seen_at : (slots : List Slot) (c : Chains) (k : KeepsFrames slots c) (f : ℕ) (s : Stands k.order f) → all_used slots c ≡ in_order slots s.before ++ used_at slots f ∷ in_order slots s.after
seen_at slots c k f s = kept_seen slots c k ∙ ap (in_order slots) s.is ∙ parts slots s.before f s.after

pub seen_series : (slots : List Slot) (c : Chains) (f : ℕ) → KeepsFrames slots c → IsUsed (all_used slots c) f → (slot_at slots f).series ≡ series_of (all_used slots c) f
seen_series slots c f k is =
    let s : Stands k.order f = stands slots c k f is in
    let o : Others f (in_order slots s.before ++ in_order slots s.after) = others_at slots c f s.before s.after k.vacant (chains_at slots c k f s) in
    sym (series_mid f (in_order slots s.before) (used_at slots f) (in_order slots s.after) (others_left f (in_order slots s.before) (in_order slots s.after) o) refl)
    ∙ ap (λ (l : List Used). series_of l f) (sym (seen_at slots c k f s))

pub seen_leaf : (slots : List Slot) (c : Chains) (f : ℕ) → KeepsFrames slots c → IsUsed (all_used slots c) f → (slot_at slots f).leaf ≡ leaf_of (all_used slots c) f
seen_leaf slots c f k is =
    let s : Stands k.order f = stands slots c k f is in
    let o : Others f (in_order slots s.before ++ in_order slots s.after) = others_at slots c f s.before s.after k.vacant (chains_at slots c k f s) in
    sym (leaf_mid f (in_order slots s.before) (used_at slots f) (in_order slots s.after) (others_left f (in_order slots s.before) (in_order slots s.after) o) refl)
    ∙ ap (λ (l : List Used). leaf_of l f) (sym (seen_at slots c k f s))

seen_without : (slots : List Slot) (c : Chains) (k : KeepsFrames slots c) (f : ℕ) (s : Stands k.order f) → in_order slots (s.before ++ s.after) ≡ without (all_used slots c) f
seen_without slots c k f s =
    both slots s.before s.after
    ∙ sym (without_mid f (in_order slots s.before) (used_at slots f) (in_order slots s.after) (others_at slots c f s.before s.after k.vacant (chains_at slots c k f s)) refl)
    ∙ ap (λ (l : List Used). without l f) (sym (seen_at slots c k f s))

seen_moved : (slots : List Slot) (c : Chains) (k : KeepsFrames slots c) (f : ℕ) (s : Stands k.order f) → in_order slots (f ∷ (s.before ++ s.after)) ≡ moved_first (all_used slots c) f
seen_moved slots c k f s =
    ap (λ (l : List Used). used_at slots f ∷ l) (both slots s.before s.after)
    ∙ sym (moved_mid f (in_order slots s.before) (used_at slots f) (in_order slots s.after) (others_at slots c f s.before s.after k.vacant (chains_at slots c k f s)) refl)
    ∙ ap (λ (l : List Used). moved_first l f) (sym (seen_at slots c k f s))

length_mid : (a : List ℕ) (f : ℕ) (b : List ℕ) → length (a ++ f ∷ b) ≡ suc (length (a ++ b))
length_mid [] f b = refl
length_mid (v ∷ a) f b = ap suc (length_mid a f b)

-- a used frame that is detached: m after c
loose_one : (slots : List Slot) (c m : Chains) (f : ℕ) (k : KeepsFrames slots c) (s : Stands k.order f) → IsDetached c m f → AreChains m (f ∷ []) (s.before ++ s.after) k.vacant
loose_one slots c m f k s out = out s.before s.after k.vacant (chains_at slots c k f s)

pub loose : (slots : List Slot) (c m : Chains) (f : ℕ) → KeepsFrames slots c → IsUsed (all_used slots c) f → IsDetached c m f → IsLoose m f
loose slots c m f k is out =
    let s : Stands k.order f = stands slots c k f is in
    record { order = s.before ++ s.after; vacant = k.vacant; chains = loose_one slots c m f k s out }

-- and that is then put first: d after m
pub kept_moved : (slots : List Slot) (c m d : Chains) (f : ℕ) → KeepsFrames slots c → IsUsed (all_used slots c) f → IsDetached c m f → IsPutFirst m d f → length d.links.items ≡ length c.links.items → KeepsFrames slots d
kept_moved slots c m d f k is out put each =
    let s : Stands k.order f = stands slots c k f is in
    record {
      order = f ∷ (s.before ++ s.after);
      vacant = k.vacant;
      chains = put (s.before ++ s.after) k.vacant (loose_one slots c m f k s out);
      counted = omega (arith, k.counted, ap length s.is, length_mid s.before f s.after);
      each = each ∙ k.each;
    }

pub moved_seen : (slots : List Slot) (c m d : Chains) (f : ℕ) → KeepsFrames slots c → IsUsed (all_used slots c) f → IsDetached c m f → IsPutFirst m d f → all_used slots d ≡ moved_first (all_used slots c) f
moved_seen slots c m d f k is out put =
    let s : Stands k.order f = stands slots c k f is in
    seen slots d (f ∷ (s.before ++ s.after)) k.vacant (put (s.before ++ s.after) k.vacant (loose_one slots c m f k s out))
    (omega (arith, k.counted, ap length s.is, length_mid s.before f s.after))
    ∙ seen_moved slots c k f s

-- and that is then freed
pub kept_given : (slots : List Slot) (c m d : Chains) (f : ℕ) → KeepsFrames slots c → IsUsed (all_used slots c) f → IsDetached c m f → IsPutFree m d f → length d.links.items ≡ length c.links.items → KeepsFrames slots d
kept_given slots c m d f k is out put each =
    let s : Stands k.order f = stands slots c k f is in
    record {
      order = s.before ++ s.after;
      vacant = f ∷ k.vacant;
      chains = put (s.before ++ s.after) k.vacant (loose_one slots c m f k s out);
      counted = omega (arith, k.counted, ap length s.is, length_mid s.before f s.after);
      each = each ∙ k.each;
    }

pub given_seen : (slots : List Slot) (c m d : Chains) (f : ℕ) → KeepsFrames slots c → IsUsed (all_used slots c) f → IsDetached c m f → IsPutFree m d f → all_used slots d ≡ without (all_used slots c) f
given_seen slots c m d f k is out put =
    let s : Stands k.order f = stands slots c k f is in
    seen slots d (s.before ++ s.after) (f ∷ k.vacant) (put (s.before ++ s.after) k.vacant (loose_one slots c m f k s out))
    (omega (arith, k.counted, ap length s.is, length_mid s.before f s.after))
    ∙ seen_without slots c k f s

-- another slot at one place
in_order_other : (slots : List Slot) (f : ℕ) (v : Slot) (us : List ℕ) → Without f us → in_order (set slots f v) us ≡ in_order slots us
in_order_other slots f v [] w = refl
in_order_other slots f v (u ∷ us) w =
    let same = ap (λ (t : Slot). used_frame u t.series t.leaf) (get_or-set_other slots f u v (record { series = 0; leaf = [] }) w.0) in
    let rest = in_order_other slots f v us w.1 in
    cc

set_there : (slots : List Slot) (f : ℕ) (v : Slot) → f < length slots → used_at (set slots f v) f ≡ used_frame f v.series v.leaf
set_there slots f v h = ap (λ (t : Slot). used_frame f t.series t.leaf) (get_or-set_same slots f v (record { series = 0; leaf = [] }) h)

put_between : (a b : List Used) (u v : Used) (c d : List Used) → a ≡ c → u ≡ v → b ≡ d → a ++ u ∷ b ≡ c ++ v ∷ d
put_between a b u v c d p q r = cc

pub set_seen : (slots : List Slot) (c : Chains) (f : ℕ) (w : List Point) → KeepsFrames slots c → IsUsed (all_used slots c) f → (v : Slot) → v.leaf ≡ w → v.series ≡ (slot_at slots f).series → all_used (set slots f v) c ≡ with_leaf (all_used slots c) f w
set_seen slots c f w k is v leaf series =
    let s : Stands k.order f = stands slots c k f is in
    let h : AreChains c [] (s.before ++ f ∷ s.after) k.vacant = chains_at slots c k f s in
    let n : ℕ = length c.links.items in
    let apart : Without f (s.before ++ s.after) = without_frame n f s.before s.after k.vacant h.distinct in
    let there = set_there slots f v (within slots c f k is) ∙ ap (λ (l : List Point). used_frame f v.series l) leaf ∙ ap (λ (m : ℕ). used_frame f m w) series in
    seen (set slots f v) c k.order k.vacant k.chains (omega (arith, k.counted, length-set slots f v))
    ∙ ap (in_order (set slots f v)) s.is
    ∙ parts (set slots f v) s.before f s.after
    ∙ put_between (in_order (set slots f v) s.before) (in_order (set slots f v) s.after) (used_at (set slots f v) f)
    (used_frame f (slot_at slots f).series w) (in_order slots s.before) (in_order slots s.after)
    (in_order_other slots f v s.before (without_left f s.before s.after apart)) there (in_order_other slots f v s.after (without_right f s.before s.after apart))
    ∙ sym (with_leaf_mid f (in_order slots s.before) (used_at slots f) (in_order slots s.after) w (others_at slots c f s.before s.after k.vacant h) refl)
    ∙ ap (λ (l : List Used). with_leaf l f w) (sym (seen_at slots c k f s))

-- a frame is taken: it was the first of the free ones, m after c, and is put first, d after m
below_taken : (d : Chains) (f : ℕ) (order rest : List ℕ) → AreChains d [] (f ∷ order) rest → (f < length d.links.items) × Without f order
below_taken d f order rest h =
    let whole : AreDistinct (length d.links.items) (f ∷ order) = distinct_left (length d.links.items) (f ∷ order) rest h.distinct in
    (whole.0, whole.1)

taken_one : (slots : List Slot) (c m d : Chains) (f : ℕ) (k : KeepsFrames slots c) → IsTakenFree c m f → IsPutFirst m d f → (rest : List ℕ) × (k.vacant ≡ f ∷ rest) × AreChains d [] (f ∷ k.order) rest
taken_one slots c m d f k out put =
    let taken = out k.order k.vacant k.chains in
    (taken.0, taken.1, put k.order taken.0 taken.2)

pub kept_taken : (slots : List Slot) (c m d : Chains) (f : ℕ) (v : Slot) → KeepsFrames slots c → IsTakenFree c m f → IsPutFirst m d f → length d.links.items ≡ length c.links.items → KeepsFrames (set slots f v) d
kept_taken slots c m d f v k out put each =
    let t = taken_one slots c m d f k out put in
    record {
      order = f ∷ k.order;
      vacant = t.0;
      chains = t.2;
      counted = omega (arith, k.counted, ap length t.1, length-set slots f v);
      each = omega (arith, each, k.each, length-set slots f v);
    }

pub taken_seen : (slots : List Slot) (c m d : Chains) (f : ℕ) (v : Slot) → KeepsFrames slots c → IsTakenFree c m f → IsPutFirst m d f → length d.links.items ≡ length c.links.items → all_used (set slots f v) d ≡ used_frame f v.series v.leaf ∷ all_used slots c
taken_seen slots c m d f v k out put each =
    let t = taken_one slots c m d f k out put in
    let below = below_taken d f k.order t.0 t.2 in
    let there = set_there slots f v (omega (arith, below.0, each, k.each)) in
    let others = in_order_other slots f v k.order below.1 ∙ sym (kept_seen slots c k) in
    seen (set slots f v) d (f ∷ k.order) t.0 t.2 (omega (arith, k.counted, ap length t.1, length-set slots f v))
    ∙ put_between [] (in_order (set slots f v) k.order) (used_at (set slots f v) f) (used_frame f v.series v.leaf) [] (all_used slots c) refl there others

pub taken_unused : (slots : List Slot) (c m d : Chains) (f : ℕ) → KeepsFrames slots c → IsTakenFree c m f → IsPutFirst m d f → IsUsed (all_used slots c) f → ⊥
taken_unused slots c m d f k out put is =
    let t = taken_one slots c m d f k out put in
    unused f (in_order slots k.order) (others_in slots f k.order (below_taken d f k.order t.0 t.2).1) (subst (λ (l : List Used). IsUsed l f) (kept_seen slots c k) is)

-- how many are used
pub all_are_used : (slots : List Slot) (c : Chains) → KeepsFrames slots c → HasNoneFree c → length (all_used slots c) ≡ length slots
all_are_used slots c k none_free = ap length (kept_seen slots c k) ∙ omega (arith, length-map k.order (used_at slots), k.counted, ap length (none_free k.order k.vacant k.chains))

pub one_is_free : (slots : List Slot) (c m : Chains) (f : ℕ) → KeepsFrames slots c → IsTakenFree c m f → length (all_used slots c) < length slots
one_is_free slots c m f k out =
    let t = out k.order k.vacant k.chains in
    omega (arith, ap length (kept_seen slots c k), length-map k.order (used_at slots), k.counted, ap length t.1)

-- the last of them
last_in : (slots : List Slot) (q : ℕ) (us : List ℕ) (f : ℕ) → f ≡ last_of none (q ∷ us) → IsLastFrame (in_order slots (q ∷ us)) f
last_in slots q [] f e = sym e
last_in slots q (u ∷ us) f e = last_in slots u us f e

last_some : (slots : List Slot) (us : List ℕ) (f : ℕ) → f ≡ last_of none us → f ≢ none → IsLastFrame (in_order slots us) f
last_some slots [] f e some = absurd (some e)
last_some slots (u ∷ us) f e some = last_in slots u us f e

pub seen_last : (slots : List Slot) (c : Chains) → KeepsFrames slots c → c.last ≢ none → IsLastFrame (all_used slots c) c.last
seen_last slots c k some = subst (λ (l : List Used). IsLastFrame l c.last) (sym (kept_seen slots c k)) (last_some slots k.order c.last k.chains.last some)

last_none : (n : ℕ) (us : List ℕ) → AreDistinct n us → n ≤ none → last_of none us ≡ none → us ≡ []
last_none n [] d h e = refl
last_none n (u ∷ us) d h e =
    let w : Without none (u ∷ us) = without_none n (u ∷ us) d h in
    absurd (last_apart none u us w.0 w.1 e)

pub seen_none : (slots : List Slot) (c : Chains) → KeepsFrames slots c → c.last ≡ none → all_used slots c ≡ []
seen_none slots c k e =
    let n : ℕ = length c.links.items in
    kept_seen slots c k
    ∙ ap (in_order slots) (last_none n k.order (distinct_left n k.order k.vacant k.chains.distinct) k.chains.few (sym k.chains.last ∙ e))

-- the links
pub seen_newer : (slots : List Slot) (c : Chains) → KeepsFrames slots c → AreNewer c.links.items none (numbers (all_used slots c))
seen_newer slots c k =
    subst (AreNewer c.links.items none) (sym (ap numbers (kept_seen slots c k) ∙ numbers_in slots k.order)) k.chains.newer

pub seen_older : (slots : List Slot) (c : Chains) → KeepsFrames slots c → AreOlder c.links.items (numbers (all_used slots c))
seen_older slots c k =
    subst (AreOlder c.links.items) (sym (ap numbers (kept_seen slots c k) ∙ numbers_in slots k.order)) k.chains.older

-- none is used at first
pub kept_fresh : (slots : List Slot) (c : Chains) (n : ℕ) → length slots ≡ n → length c.links.items ≡ n → AreChains c [] [] (countdown n) → KeepsFrames slots c
kept_fresh slots c n some each h = record {
  order = [];
  vacant = countdown n;
  chains = h;
  counted = omega (arith, length_countdown n, some);
  each = each ∙ sym some;
}

pub none_fresh : (slots : List Slot) (c : Chains) (n : ℕ) → length slots ≡ n → AreChains c [] [] (countdown n) → frames_of (length slots) (all_used slots c) ≡ frames_of n []
none_fresh slots c n some h = rw (seen slots c [] (countdown n) h (omega arith)) (ap (λ (m : ℕ). frames_of m []) some)

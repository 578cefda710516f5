-- The chains after each change of the links.
use Rattle.std.proofs.Common.{◌≡◌, ℕ, zero, suc, ◌<◌, ◌≤◌, inl, inr, List, [], ◌∷◌, ◌++◌, length, refl, sym, ap, ◌∙◌, subst, arith, append_assoc}
use Rattle.std.proofs.lemmas.Bool.{ne_eqb}
use Rattle.std.proofs.lemmas.List.{append-nil, get_or_append_left, get_or_push, get_or-set_same, get_or-set_other}
use Rattle.std.proofs.Math.ListN.{set}
use Rattle.std.specs.Prelude.{◌≢◌}
use Rattle.ak_pool.specs.Chains.{AreChains, AreJoined, IsName}
use Rattle.ak_pool.specs.Links.{none, link, older_at, newer_at, first_of, last_of, AreOlder, AreNewer, chain, Without, AreDistinct}
use Rattle.ak_pool.specs.declared.links.Chains.{Chains}
use Rattle.ak_pool.specs.declared.links.Link.{Link}
use Rattle.ak_pool.proofs.Theirs.{same_or_other}
use Rattle.ak_pool.proofs.Distinct.{without_left, without_right, to_front, from_front, distinct_left, distinct_right, not_none, without_none, in_range, first_apart, last_apart, apart_last, last_append, name_first, name_last}

-- a list on whose frames the links stay
pub older_other : (ls ms : List Link) (x : ℕ) (fs : List ℕ) → ((g : ℕ) → g ≢ x → older_at ms g ≡ older_at ls g) → Without x fs → AreOlder ls fs → AreOlder ms fs
older_other ls ms x [] stays w o = tt
older_other ls ms x (f ∷ fs) stays w o = (stays f w.0 ∙ o.0, older_other ls ms x fs stays w.1 o.1)

pub newer_other : (ls ms : List Link) (y p : ℕ) (fs : List ℕ) → ((g : ℕ) → g ≢ y → newer_at ms g ≡ newer_at ls g) → Without y fs → AreNewer ls p fs → AreNewer ms p fs
newer_other ls ms y p [] stays w o = tt
newer_other ls ms y p (f ∷ fs) stays w o = (stays f w.0 ∙ o.0, newer_other ls ms y f fs stays w.1 o.1)

pub older_same : (ls ms : List Link) (fs : List ℕ) → ((g : ℕ) → older_at ms g ≡ older_at ls g) → AreOlder ls fs → AreOlder ms fs
older_same ls ms [] stays o = tt
older_same ls ms (f ∷ fs) stays o = (stays f ∙ o.0, older_same ls ms fs stays o.1)

pub newer_same : (ls ms : List Link) (p : ℕ) (fs : List ℕ) → ((g : ℕ) → newer_at ms g ≡ newer_at ls g) → AreNewer ls p fs → AreNewer ms p fs
newer_same ls ms p [] stays o = tt
newer_same ls ms p (f ∷ fs) stays o = (stays f ∙ o.0, newer_same ls ms f fs stays o.1)

-- the neighbours of a frame in the middle
pub older_mid : (ls : List Link) (a : List ℕ) (f : ℕ) (b : List ℕ) → AreOlder ls (a ++ f ∷ b) → older_at ls f ≡ first_of b
older_mid ls [] f b o = o.0
older_mid ls (v ∷ a) f b o = older_mid ls a f b o.1

pub newer_mid : (ls : List Link) (q : ℕ) (a : List ℕ) (f : ℕ) (b : List ℕ) → AreNewer ls q (a ++ f ∷ b) → newer_at ls f ≡ last_of q a
newer_mid ls q [] f b o = o.0
newer_mid ls q (v ∷ a) f b o = newer_mid ls v a f b o.1

-- one frame less
older_removed : (ls ms : List Link) (n q : ℕ) (a : List ℕ) (f : ℕ) (b : List ℕ) → (last_of q a < n → older_at ms (last_of q a) ≡ first_of b) → ((g : ℕ) → g ≢ last_of q a → older_at ms g ≡ older_at ls g) → AreDistinct n (a ++ f ∷ b) → Without q (a ++ f ∷ b) → AreOlder ls (a ++ f ∷ b) → AreOlder ms (a ++ b)
older_removed ls ms n q [] f b own stays d w o = older_other ls ms q b stays w.1 o.1
older_removed ls ms n q (v ∷ []) f b own stays d w o =
    let rest : Without v (f ∷ b) = d.1 in
    let old : AreOlder ls (f ∷ b) = o.1 in
    (own d.0, older_other ls ms v b stays rest.1 old.1)
older_removed ls ms n q (v ∷ x ∷ a) f b own stays d w o =
    let rest : Without v (x ∷ a) = without_left v (x ∷ a) (f ∷ b) d.1 in
    (stays v (λ e. last_apart v x a rest.0 rest.1 (sym e)) ∙ o.0, older_removed ls ms n v (x ∷ a) f b own stays d.2 d.1 o.1)

newer_removed : (ls ms : List Link) (n q : ℕ) (a : List ℕ) (f : ℕ) (b : List ℕ) → (first_of b < n → newer_at ms (first_of b) ≡ last_of q a) → ((g : ℕ) → g ≢ first_of b → newer_at ms g ≡ newer_at ls g) → AreDistinct n (a ++ f ∷ b) → n ≤ none → AreNewer ls q (a ++ f ∷ b) → AreNewer ms q (a ++ b)
newer_removed ls ms n q [] f [] own stays d k o = tt
newer_removed ls ms n q [] f (x ∷ b) own stays d k o =
    let rest : AreDistinct n (x ∷ b) = d.2 in
    let old : AreNewer ls f (x ∷ b) = o.1 in
    (own rest.0, newer_other ls ms x x b stays rest.1 old.1)
newer_removed ls ms n q (v ∷ a) f b own stays d k o =
    let rest : Without v (f ∷ b) = without_right v a (f ∷ b) d.1 in
    (stays v (λ e. first_apart v b (not_none n v d.0 k) rest.1 (sym e)) ∙ o.0, newer_removed ls ms n v a f b own stays d.2 k o.1)

first_removed : (c d : Chains) (n : ℕ) (a : List ℕ) (f : ℕ) (b : List ℕ) → AreJoined c d (last_of none a) (first_of b) → c.first ≡ first_of (a ++ f ∷ b) → Without none (a ++ f ∷ b) → d.first ≡ first_of (a ++ b)
first_removed c d n [] f b j first w = j.first_is refl
first_removed c d n (v ∷ a) f b j first w = j.first_stays (last_apart none v a w.0 (without_left none a (f ∷ b) w.1)) ∙ first

last_removed : (c d : Chains) (a : List ℕ) (f : ℕ) (b : List ℕ) → AreJoined c d (last_of none a) (first_of b) → c.last ≡ last_of none (a ++ f ∷ b) → Without none (a ++ f ∷ b) → d.last ≡ last_of none (a ++ b)
last_removed c d a f [] j last w = j.last_is refl ∙ ap (last_of none) (sym (append-nil a))
last_removed c d a f (x ∷ b) j last w =
    let rest : Without none (f ∷ x ∷ b) = without_right none a (f ∷ x ∷ b) w in
    let more : Without none (x ∷ b) = rest.1 in
    j.last_stays more.0 ∙ last ∙ last_append none a f (x ∷ b) ∙ sym (last_append none a x b)

detached_joined : (c d : Chains) (f : ℕ) (a b vacant : List ℕ) → AreChains c [] (a ++ f ∷ b) vacant → AreJoined c d (last_of none a) (first_of b) → AreChains d (f ∷ []) (a ++ b) vacant
detached_joined c d f a b vacant h j =
    let n : ℕ = length c.links.items in
    let whole : AreDistinct n ((a ++ f ∷ b) ++ vacant) = h.distinct in
    let apart : AreDistinct n (a ++ f ∷ (b ++ vacant)) = subst (AreDistinct n) (append_assoc a (f ∷ b) vacant) whole in
    let order : AreDistinct n (a ++ f ∷ b) = distinct_left n (a ++ f ∷ b) vacant whole in
    let nones : Without none (a ++ f ∷ b) = without_none n (a ++ f ∷ b) order h.few in
    let behind : Without none (f ∷ (b ++ vacant)) = without_none n (f ∷ (b ++ vacant)) (distinct_right n a (f ∷ (b ++ vacant)) apart) h.few in
    let rest : Without (last_of none a) (f ∷ (b ++ vacant)) = apart_last n none a (f ∷ (b ++ vacant)) behind apart in
    record {
      first = first_removed c d n a f b j h.first nones;
      last = last_removed c d a f b j h.last nones;
      free = j.free ∙ h.free;
      older = older_removed c.links.items d.links.items n none a f b j.older_is j.older_stays order nones h.older;
      newer = newer_removed c.links.items d.links.items n none a f b j.newer_is j.newer_stays order h.few h.newer;
      chained = older_other c.links.items d.links.items (last_of none a) vacant j.older_stays (without_right (last_of none a) b vacant rest.1) h.chained;
      distinct = subst (λ (m : ℕ). AreDistinct m (f ∷ ((a ++ b) ++ vacant))) (sym j.each)
          (subst (λ (l : List ℕ). AreDistinct n (f ∷ l)) (sym (append_assoc a b vacant)) (to_front n a f (b ++ vacant) apart));
      few = subst (λ (m : ℕ). m ≤ none) (sym j.each) h.few;
    }

-- the neighbours of a frame are its links
pub before_frame : (c : Chains) (f : ℕ) (a b vacant : List ℕ) → AreChains c [] (a ++ f ∷ b) vacant → newer_at c.links.items f ≡ last_of none a
before_frame c f a b vacant h = newer_mid c.links.items none a f b h.newer

pub after_frame : (c : Chains) (f : ℕ) (a b vacant : List ℕ) → AreChains c [] (a ++ f ∷ b) vacant → older_at c.links.items f ≡ first_of b
after_frame c f a b vacant h = older_mid c.links.items a f b h.older

pub order_below : (c : Chains) (f : ℕ) (a b vacant : List ℕ) → AreChains c [] (a ++ f ∷ b) vacant → f < length c.links.items
order_below c f a b vacant h = in_range (length c.links.items) a f b (distinct_left (length c.links.items) (a ++ f ∷ b) vacant h.distinct)

pub before_named : (c : Chains) (f : ℕ) (a b vacant : List ℕ) → AreChains c [] (a ++ f ∷ b) vacant → IsName (length c.links.items) (newer_at c.links.items f)
before_named c f a b vacant h =
    let n : ℕ = length c.links.items in
    subst (IsName n) (sym (before_frame c f a b vacant h))
    (name_last n none a (inl refl) (distinct_left n a (f ∷ b) (distinct_left n (a ++ f ∷ b) vacant h.distinct)))

pub after_named : (c : Chains) (f : ℕ) (a b vacant : List ℕ) → AreChains c [] (a ++ f ∷ b) vacant → IsName (length c.links.items) (older_at c.links.items f)
after_named c f a b vacant h =
    let n : ℕ = length c.links.items in
    let rest : AreDistinct n (f ∷ b) = distinct_right n a (f ∷ b) (distinct_left n (a ++ f ∷ b) vacant h.distinct) in
    subst (IsName n) (sym (after_frame c f a b vacant h)) (name_first n b rest.2)

pub detached : (c d : Chains) (f x y : ℕ) (a b vacant : List ℕ) → x ≡ newer_at c.links.items f → y ≡ older_at c.links.items f → AreJoined c d x y → AreChains c [] (a ++ f ∷ b) vacant → AreChains d (f ∷ []) (a ++ b) vacant
detached c d f x y a b vacant newer older j h =
    detached_joined c d f a b vacant h
    (subst (λ (m : ℕ). AreJoined c d m (first_of b)) (newer ∙ before_frame c f a b vacant h)
    (subst (λ (m : ℕ). AreJoined c d x m) (older ∙ after_frame c f a b vacant h) j))

-- one frame more, before the others
newer_put : (ls ms ns : List Link) (n f : ℕ) (us : List ℕ) → (f < n → newer_at ms f ≡ none) → ((g : ℕ) → g ≢ f → newer_at ms g ≡ newer_at ls g) → (first_of us < n → newer_at ns (first_of us) ≡ f) → ((g : ℕ) → g ≢ first_of us → newer_at ns g ≡ newer_at ms g) → AreDistinct n (f ∷ us) → n ≤ none → AreNewer ls none us → AreNewer ns none (f ∷ us)
newer_put ls ms ns n f [] own stays head kept d k o = (kept f (not_none n f d.0 k) ∙ own d.0, tt)
newer_put ls ms ns n f (u ∷ us) own stays head kept d k o =
    let apart : Without f (u ∷ us) = d.1 in
    let rest : AreDistinct n (u ∷ us) = d.2 in
    let there : AreNewer ms u us = newer_other ls ms f u us stays apart.1 o.1 in
    (kept f (λ e. apart.0 (sym e)) ∙ own d.0, (head rest.0, newer_other ms ns u u us kept rest.1 there))

last_put : (m d : Chains) (n f : ℕ) (us : List ℕ) → AreJoined m d f (first_of us) → m.last ≡ last_of none us → AreDistinct n us → n ≤ none → d.last ≡ last_of none (f ∷ us)
last_put m d n f [] j last h k = j.last_is refl
last_put m d n f (u ∷ us) j last h k = j.last_stays (not_none n u h.0 k) ∙ last

put_joined : (c m d : Chains) (f : ℕ) (order vacant : List ℕ) → AreChains c (f ∷ []) order vacant → AreJoined c m none f → AreJoined m d f (first_of order) → AreChains d [] (f ∷ order) vacant
put_joined c m d f order vacant h j k =
    let n : ℕ = length c.links.items in
    let whole : AreDistinct n (f ∷ (order ++ vacant)) = h.distinct in
    let used : AreDistinct n (f ∷ order) = (whole.0, without_left f order vacant whole.1, distinct_left n order vacant whole.2) in
    let nones : Without none (order ++ vacant) = without_none n (order ++ vacant) whole.2 h.few in
    let some : f ≢ none = not_none n f whole.0 h.few in
    let each : length d.links.items ≡ n = k.each ∙ j.each in
    record {
      first = k.first_stays some ∙ j.first_is refl;
      last = last_put m d n f order k (j.last_stays some ∙ h.last) used.2 h.few;
      free = k.free ∙ j.free ∙ h.free;
      older = (
        k.older_is (subst (λ (l : ℕ). f < l) (sym j.each) whole.0),
        older_other m.links.items d.links.items f order k.older_stays used.1
            (older_other c.links.items m.links.items none order j.older_stays (without_left none order vacant nones) h.older),
      );
      newer =
          newer_put c.links.items m.links.items d.links.items n f order j.newer_is j.newer_stays
          (λ below. k.newer_is (subst (λ (l : ℕ). first_of order < l) (sym j.each) below)) k.newer_stays used h.few h.newer;
      chained =
          older_other m.links.items d.links.items f vacant k.older_stays (without_right f order vacant whole.1)
          (older_other c.links.items m.links.items none vacant j.older_stays (without_right none order vacant nones) h.chained);
      distinct = subst (λ (l : ℕ). AreDistinct l (f ∷ (order ++ vacant))) (sym each) whole;
      few = subst (λ (l : ℕ). l ≤ none) (sym each) h.few;
    }

pub put_before : (c m d : Chains) (f : ℕ) (order vacant : List ℕ) → AreJoined c m none f → AreJoined m d f c.first → AreChains c (f ∷ []) order vacant → AreChains d [] (f ∷ order) vacant
put_before c m d f order vacant j k h = put_joined c m d f order vacant h j (subst (AreJoined m d f) h.first k)

pub loose_below : (c : Chains) (f : ℕ) (order vacant : List ℕ) → AreChains c (f ∷ []) order vacant → f < length c.links.items
loose_below c f order vacant h = let whole : AreDistinct (length c.links.items) (f ∷ (order ++ vacant)) = h.distinct in whole.0

-- a link of which `older` is written
pub newer_set : (ls : List Link) (f : ℕ) (l : Link) → f < length ls → l.newer ≡ newer_at ls f → (g : ℕ) → newer_at (set ls f l) g ≡ newer_at ls g
newer_set ls f l below same g = elim (same_or_other g f) [
  | inl e ↦ ap (newer_at (set ls f l)) e ∙ ap (λ (k : Link). k.newer) (get_or-set_same ls f l (link none none) below) ∙ same ∙ ap (newer_at ls) (sym e)
  | inr n ↦ ap (λ (k : Link). k.newer) (get_or-set_other ls f g l (link none none) n)
]

-- one more free frame
pub put_vacant : (c d : Chains) (f : ℕ) (order vacant : List ℕ) → length d.links.items ≡ length c.links.items → older_at d.links.items f ≡ c.free → ((g : ℕ) → g ≢ f → older_at d.links.items g ≡ older_at c.links.items g) → ((g : ℕ) → newer_at d.links.items g ≡ newer_at c.links.items g) → d.first ≡ c.first → d.last ≡ c.last → d.free ≡ f → AreChains c (f ∷ []) order vacant → AreChains d [] order (f ∷ vacant)
put_vacant c d f order vacant each own stays newers first last free h =
    let n : ℕ = length c.links.items in
    let whole : AreDistinct n (f ∷ (order ++ vacant)) = h.distinct in
    record {
      first = first ∙ h.first;
      last = last ∙ h.last;
      free = free;
      older = older_other c.links.items d.links.items f order stays (without_left f order vacant whole.1) h.older;
      newer = newer_same c.links.items d.links.items none order newers h.newer;
      chained = (own ∙ h.free, older_other c.links.items d.links.items f vacant stays (without_right f order vacant whole.1) h.chained);
      distinct = subst (λ (l : ℕ). AreDistinct l (order ++ f ∷ vacant)) (sym each) (from_front n order f vacant whole);
      few = subst (λ (l : ℕ). l ≤ none) (sym each) h.few;
    }

-- one free frame less
pub take_vacant : (c d : Chains) (f : ℕ) (order rest : List ℕ) → d.links.items ≡ c.links.items → d.first ≡ c.first → d.last ≡ c.last → d.free ≡ older_at c.links.items f → AreChains c [] order (f ∷ rest) → AreChains d (f ∷ []) order rest
take_vacant c d f order rest links first last free h = record {
  first = first ∙ h.first;
  last = last ∙ h.last;
  free = free ∙ h.chained.0;
  older = subst (λ (l : List Link). AreOlder l order) (sym links) h.older;
  newer = subst (λ (l : List Link). AreNewer l none order) (sym links) h.newer;
  chained = subst (λ (l : List Link). AreOlder l rest) (sym links) h.chained.1;
  distinct = subst (λ (l : List Link). AreDistinct (length l) (f ∷ (order ++ rest))) (sym links) (to_front (length c.links.items) order f rest h.distinct);
  few = subst (λ (l : List Link). length l ≤ none) (sym links) h.few;
}

pub vacant_below : (c : Chains) (order vacant : List ℕ) → c.free ≢ none → AreChains c [] order vacant → c.free < length c.links.items
vacant_below c order [] some h = absurd (some h.free)
vacant_below c order (f ∷ vacant) some h = subst (λ (m : ℕ). m < length c.links.items) (sym h.free) (in_range (length c.links.items) order f vacant h.distinct)

pub vacant_none : (c : Chains) (order vacant : List ℕ) → c.free ≡ none → AreChains c [] order vacant → vacant ≡ []
vacant_none c order [] e h = refl
vacant_none c order (f ∷ vacant) e h = absurd (not_none (length c.links.items) f (in_range (length c.links.items) order f vacant h.distinct) h.few (sym h.free ∙ e))

pub vacant_some : (c d : Chains) (order vacant : List ℕ) → c.free ≢ none → d.links.items ≡ c.links.items → d.first ≡ c.first → d.last ≡ c.last → d.free ≡ older_at c.links.items c.free → AreChains c [] order vacant → (rest : List ℕ) × (vacant ≡ c.free ∷ rest) × AreChains d (c.free ∷ []) order rest
vacant_some c d order [] some links first last free h = absurd (some h.free)
vacant_some c d order (f ∷ vacant) some links first last free h =
    let same : f ≡ c.free = sym h.free in (
      vacant,
      ap (λ (m : ℕ). m ∷ vacant) same,
      take_vacant c d c.free order vacant links first last free (subst (λ (m : ℕ). AreChains c [] order (m ∷ vacant)) same h),
    )

-- what is met from the first frame
chain_step : (m : ℕ) (ls : List Link) (at : ℕ) → at ≢ none → chain (suc m) ls at ≡ at ∷ chain m ls (older_at ls at)
chain_step m ls at n = rw (ne_eqb at none n) refl

chain_end : (m : ℕ) (ls : List Link) → chain m ls none ≡ []
chain_end zero ls = refl
chain_end (suc m) ls = refl

pub chain_is : (m : ℕ) (ls : List Link) (us : List ℕ) → length us ≤ m → Without none us → AreOlder ls us → chain m ls (first_of us) ≡ us
chain_is m ls [] h w o = chain_end m ls
chain_is zero ls (u ∷ us) h w o = absurd (omega arith)
chain_is (suc m) ls (u ∷ us) h w o =
    chain_step m ls u w.0 ∙ ap (λ (l : List ℕ). u ∷ l) (ap (chain m ls) o.0 ∙ chain_is m ls us (omega arith) w.1 o.1)

pub met : (c : Chains) (order vacant : List ℕ) (m : ℕ) → AreChains c [] order vacant → length order ≤ m → chain m c.links.items c.first ≡ order
met c order vacant m h most =
    ap (chain m c.links.items) h.first
    ∙ chain_is m c.links.items order most (without_none (length c.links.items) order (distinct_left (length c.links.items) order vacant h.distinct) h.few) h.older

-- the frames below a number, the greatest first
abbrev pub countdown : ℕ → List ℕ
countdown zero = []
countdown (suc n) = n ∷ countdown n

pub length_countdown : (n : ℕ) → length (countdown n) ≡ n
length_countdown zero = refl
length_countdown (suc n) = ap suc (length_countdown n)

without_countdown : (n m : ℕ) → n ≤ m → Without m (countdown n)
without_countdown zero m h = tt
without_countdown (suc n) m h = ((λ e. absurd (omega (arith, e))), without_countdown n m (omega arith))

pub distinct_countdown : (n m : ℕ) → n ≤ m → AreDistinct m (countdown n)
distinct_countdown zero m h = tt
distinct_countdown (suc n) m h = (omega arith, without_countdown n n (omega arith), distinct_countdown n m (omega arith))

older_pushed : (ls : List Link) (l : Link) (n : ℕ) → n ≤ length ls → AreOlder ls (countdown n) → AreOlder (ls ++ l ∷ []) (countdown n)
older_pushed ls l zero h o = tt
older_pushed ls l (suc n) h o =
    (ap (λ (k : Link). k.older) (get_or_append_left ls (l ∷ []) (link none none) n (omega arith)) ∙ o.0, older_pushed ls l n (omega arith) o.1)

pub older_more : (ls : List Link) (free n : ℕ) → length ls ≡ n → free ≡ first_of (countdown n) → AreOlder ls (countdown n) → AreOlder (ls ++ link none free ∷ []) (countdown (suc n))
older_more ls free n each first o =
    (ap (λ (k : Link). k.older) (get_or_push ls (link none free) (link none none) n each) ∙ first, older_pushed ls (link none free) n (omega arith) o)

pub fresh : (c : Chains) (n : ℕ) → c.first ≡ none → c.last ≡ none → c.free ≡ first_of (countdown n) → length c.links.items ≡ n → n ≤ none → AreOlder c.links.items (countdown n) → AreChains c [] [] (countdown n)
fresh c n first last free each few o = record {
  first = first;
  last = last;
  free = free;
  older = tt;
  newer = tt;
  chained = o;
  distinct = subst (λ (m : ℕ). AreDistinct m (countdown n)) (sym each) (distinct_countdown n n (omega arith));
  few = omega (arith, each);
}

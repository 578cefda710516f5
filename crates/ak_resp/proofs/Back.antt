-- A spot for which a rest stands is where the machine is after the rest.
use Rattle.std.proofs.Common.{ℕ, ◌≡◌, ◌≢◌, ◌+◌, ◌-◌, ◌<◌, ◌≤◌, ◌++◌, ◌⊎◌, List, [], ◌∷◌, true, false, length, map, refl, sym, subst, ◌∙◌, ap, suc, arith, append_assoc, append-nil, inl, inr, nat_eq}
use Rattle.std.proofs.lemmas.Bool.Decides.{nat_tests}
use Rattle.std.proofs.lemmas.List.{append_cancel_right}
use Rattle.std.specs.List.{AllByRecursion, list_any}
use Rattle.ak_resp.specs.declared.message.PartKind.{PartKind}
use Rattle.ak_resp.specs.declared.message.PartKind.TheVariants as kind
use Rattle.ak_resp.specs.declared.message.Part.{Part}
use Rattle.ak_resp.specs.declared.spot.Spot.{Spot}
use Rattle.ak_resp.specs.declared.spot.Progress.{Progress}
use Rattle.ak_resp.specs.declared.spot.Progress.TheVariants.{Name, Time, Value, Item, Json}
use Rattle.ak_resp.specs.declared.spot.Within.{Within}
use Rattle.ak_resp.specs.declared.spot.Within.TheVariants.{Start, Simple, Integer, BulkHead, ArrayHead, BulkHeadEnd, ArrayHeadEnd, Content, PartEnd}
use Rattle.ak_resp.specs.Grammar.{crlf, IsLine, IsDigit, IsNumber, IsInteger, Written, one, array, SpellsKind, SpellsPart, SpellsParts, IsItem, IsName}
use Rattle.ak_resp.specs.Standing.{type_byte, AreDone, IsIntegerFront, AreDigits, IsBegun, StandsAt}
use Rattle.ak_resp.specs.Machine.{going, first, step, between, finish, items}
use Rattle.ak_resp.specs.Kinds.{allows, is_digit, goes_on}
use Rattle.ak_resp.proofs.Runs.{spot}
use Rattle.ak_resp.proofs.Goes.{Goes, Lands, goes_nil, goes_step, goes_append}
use Rattle.ak_resp.proofs.Complete.{simple_goes, digits_goes, digit_is, plus_opens, bulk_digits_go, array_digits_go, not_zero, content_goes, integer_byte, may_time, may_item, text_may_name, name_goes_on, query_goes_on, item_goes_on, array_taken, or_true, part_lands, array_lands}

-- ---- The parts that are whole

one_name : (name : Part) (bytes : List ℕ) → IsName name → SpellsPart bytes (one name) → Goes first (between (Time name)) bytes []
one_name name bytes n s = rw (name_goes_on name n) at (part_lands Name name bytes (text_may_name name.kind n.0) s)

one_time : (name time : Part) (bytes : List ℕ) → SpellsPart bytes (one time) → Goes (between (Time name)) (between (Value name time)) bytes []
one_time name time bytes s = part_lands (Time name) time bytes (may_time name time.kind) s

item_step : (name time : Part) (before : List Part) (v : Part) (vs : List Part) (left : ℕ) (bytes : List ℕ) → 0 < left → AllByRecursion (λ v. IsItem v.kind) (v ∷ vs) → (s : SpellsParts bytes (map one (v ∷ vs))) →
    Goes (between (Item name time (before ++ v ∷ []) (length vs + left))) (between (Item name time ((before ++ v ∷ []) ++ vs) left)) s.1 [] →
    Goes (between (Item name time before (suc (length vs) + left))) (between (Item name time (before ++ v ∷ vs) left)) bytes []
item_step name time before v vs left bytes h l s g =
    let count : suc (length vs) + left ≡ suc (suc (length vs + left - 1)) = omega (arith, h) in
    let fewer : length vs + left ≡ suc (length vs + left - 1) = omega (arith, h) in
    let e : finish (Item name time before (suc (suc (length vs + left - 1)))) v ≡ going (between (Item name time (before ++ v ∷ []) (suc (length vs + left - 1)))) =
    item_goes_on name time before v (length vs + left - 1) in
    let landed : Goes (between (Item name time before (suc (suc (length vs + left - 1))))) (between (Item name time (before ++ v ∷ []) (suc (length vs + left - 1)))) s.0 [] =
    rw e at (part_lands (Item name time before (suc (suc (length vs + left - 1)))) v s.0 (may_item name time before (suc (suc (length vs + left - 1))) v.kind l.0) s.3) in
    let P : ℕ → Type 0 = λ k. Goes (between (Item name time (before ++ v ∷ []) k)) (between (Item name time (before ++ v ∷ vs) left)) s.1 [] in
    let rest = subst P fewer (rw append_assoc at g) in
    let Q : ℕ → Type 0 = λ k. Goes (between (Item name time before k)) (between (Item name time (before ++ v ∷ vs) left)) bytes [] in
    subst Q (sym count) (rw s.2 (goes_append _ _ (between (Item name time (before ++ v ∷ vs) left)) s.0 s.1 [] [] landed rest))

items_so_far : (name time : Part) (before values : List Part) (left : ℕ) (bytes : List ℕ) → 0 < left → AllByRecursion (λ v. IsItem v.kind) values → SpellsParts bytes (map one values) →
    Goes (between (Item name time before (length values + left))) (between (Item name time (before ++ values) left)) bytes []
items_so_far name time before [] left bytes h l s =
    let none : 0 + left ≡ left = omega arith in
    rw (s, none, append-nil) (goes_nil (between (Item name time before left)))
items_so_far name time before (v ∷ vs) left bytes h l s = item_step name time before v vs left bytes h l s (items_so_far name time (before ++ v ∷ []) vs left s.1 h l.1 s.4)

array_on : (name time : Part) (k : ℕ) (bytes : List ℕ) → 0 < k → SpellsPart bytes (array k) → Goes (between (Value name time)) (between (Item name time [] k)) bytes []
array_on name time k bytes h s =
    let some : nat_eq k 0 ≡ false = grind (arith, nat_tests, h) in
    let landed : Lands (between (Value name time)) bytes (items (Value name time) k) = rw s.3 (array_lands (Value name time) k s.0 refl s.1 s.2 (array_taken name time k)) in
    rw some at landed

done_goes : (p : Progress) (parts : List Written) (bytes : List ℕ) → AreDone p parts → SpellsParts bytes parts → Goes first (between p) bytes []
done_goes Name parts bytes d s = let e : bytes ≡ [] = rw d at s in rw e (goes_nil first)
done_goes (Time name) parts bytes d s =
    let t : SpellsParts bytes (one name ∷ []) = rw d.1 at s in
    rw (t.2, t.4, append-nil) (one_name name t.0 d.0 t.3)
done_goes (Value name time) parts bytes d s =
    let t : SpellsParts bytes (one name ∷ one time ∷ []) = rw d.1 at s in
    rw (t.2, t.4.2, t.4.4, append-nil) (goes_append first (between (Time name)) (between (Value name time)) t.0 t.4.0 [] [] (one_name name t.0 d.0 t.3) (one_time name time t.4.0 t.4.3))
done_goes Json parts bytes d s =
    let t : SpellsParts bytes (one d.0 ∷ []) = rw d.2 at s in
    rw (t.2, t.4, append-nil) (rw (query_goes_on d.0 d.1.1) at (part_lands Name d.0 t.0 (text_may_name d.0.kind d.1.0) t.3))
done_goes (Item name time values left) parts bytes d s =
    let t : SpellsParts bytes (one name ∷ one time ∷ array (length values + left) ∷ map one values) = rw d.4 at s in
    let items = items_so_far name time [] values left t.4.4.1 d.1 d.3 t.4.4.4 in
    let head = array_on name time (length values + left) t.4.4.0 (omega (arith, d.1)) t.4.4.3 in
    rw (t.2, t.4.2, t.4.4.2)
    (goes_append first (between (Time name)) (between (Item name time values left)) t.0 _ [] [] (one_name name t.0 d.0 t.3)
    (goes_append (between (Time name)) (between (Value name time)) (between (Item name time values left)) t.4.0 _ [] [] (one_time name time t.4.0 t.4.3)
    (goes_append (between (Value name time)) (between (Item name time [] (length values + left))) (between (Item name time values left)) t.4.4.0 t.4.4.1 [] [] head items)))

-- ---- The part that has begun

by : (s t u : Spot) (b : ℕ) (bs : List ℕ) → step s b ≡ going t → Goes t u bs [] → Goes s u (b ∷ bs) []
by s t u b bs e g = goes_step s t u b bs [] e g

join : (s t u : Spot) (xs ys : List ℕ) → Goes s t xs [] → Goes t u ys [] → Goes s u (xs ++ ys) []
join s t u xs ys g k = goes_append s t u xs ys [] [] g k

last : (s t : Spot) (b : ℕ) → step s b ≡ going t → Goes s t (b ∷ []) []
last s t b e = by s t t b [] e (goes_nil t)

simple_begun : (p : Progress) (c : List ℕ) → IsLine c → Goes (between p) (spot p Simple c) (43 ∷ c) []
simple_begun p c h = by (between p) (spot p Simple []) (spot p Simple c) 43 c (plus_opens p) (simple_goes p [] c h.short h.each)

first_byte : (b : ℕ) → IsDigit b ⊎ ((b ≡ 43) ⊎ (b ≡ 45)) → (b ≢ 10) × (b ≢ 13) × (goes_on [] b ≡ true)
first_byte b (inl d) = (omega (arith, d.least), omega (arith, d.least), rw (digit_is b d) refl)
first_byte b (inr (inl e)) = (omega (arith, e), omega (arith, e), rw e refl)
first_byte b (inr (inr e)) = (omega (arith, e), omega (arith, e), rw e refl)

integer_begun : (p : Progress) (c : List ℕ) → allows p 58 ≡ true → length c ≤ 4096 → IsIntegerFront c → Goes (between p) (spot p Integer c) (58 ∷ c) []
integer_begun p [] a h f = last (between p) (spot p Integer []) 58 (rw a refl)
integer_begun p (b ∷ bs) a h f =
    let k = first_byte b f.0 in
    let opens : step (between p) 58 ≡ going (spot p Integer []) = rw a refl in
    by (between p) (spot p Integer []) (spot p Integer (b ∷ bs)) 58 (b ∷ bs) opens
    (by (spot p Integer []) (spot p Integer (b ∷ [])) (spot p Integer (b ∷ bs)) b bs (integer_byte p [] b (omega (arith, h)) k.0 k.1 k.2) (digits_goes p b [] bs (omega (arith, h)) f.1))

bulk_begun : (p : Progress) (ds : List ℕ) (d v : ℕ) → allows p 36 ≡ true → AreDigits ds d v 65536 → Goes (between p) (spot p (BulkHead d v) []) (36 ∷ ds) []
bulk_begun p ds d v a h =
    let opens : step (between p) 36 ≡ going (spot p (BulkHead 0 0) []) = rw a refl in
    let count : 0 + length ds ≡ d = omega (arith, h.0) in
    let digits : Goes (spot p (BulkHead 0 0) []) (spot p (BulkHead d v) []) ds [] =
    rw (count, h.3) at (bulk_digits_go p [] 0 0 ds (omega (arith, h.1)) h.2 (rw h.3 h.4)) in
    by (between p) (spot p (BulkHead 0 0) []) (spot p (BulkHead d v) []) 36 ds opens digits

array_begun : (p : Progress) (ds : List ℕ) (d v : ℕ) → allows p 42 ≡ true → AreDigits ds d v 64 → Goes (between p) (spot p (ArrayHead d v) []) (42 ∷ ds) []
array_begun p ds d v a h =
    let opens : step (between p) 42 ≡ going (spot p (ArrayHead 0 0) []) = rw a refl in
    let count : 0 + length ds ≡ d = omega (arith, h.0) in
    let digits : Goes (spot p (ArrayHead 0 0) []) (spot p (ArrayHead d v) []) ds [] =
    rw (count, h.3) at (array_digits_go p [] 0 0 ds (omega (arith, h.1)) h.2 (rw h.3 h.4)) in
    by (between p) (spot p (ArrayHead 0 0) []) (spot p (ArrayHead d v) []) 42 ds opens digits

digits_of : (ds : List ℕ) (v most : ℕ) → IsNumber ds v → v ≤ most → AreDigits ds (0 + length ds) v most
digits_of ds v most n h = (omega arith, n.short, n.each, n.value, h)

bulk_head_begun : (p : Progress) (ds : List ℕ) (v : ℕ) → allows p 36 ≡ true → IsNumber ds v → v ≤ 65536 → Goes (between p) (spot p (BulkHeadEnd v) []) (36 ∷ ds ++ 13 ∷ []) []
bulk_head_begun p ds v a n h =
    let ends : step (spot p (BulkHead (0 + length ds) v) []) 13 ≡ going (spot p (BulkHeadEnd v) []) = rw (not_zero ds n.some) refl in
    join (between p) (spot p (BulkHead (0 + length ds) v) []) (spot p (BulkHeadEnd v) []) (36 ∷ ds) (13 ∷ []) (bulk_begun p ds (0 + length ds) v a (digits_of ds v 65536 n h))
    (last (spot p (BulkHead (0 + length ds) v) []) (spot p (BulkHeadEnd v) []) 13 ends)

array_head_begun : (p : Progress) (ds : List ℕ) (v : ℕ) → allows p 42 ≡ true → IsNumber ds v → v ≤ 64 → Goes (between p) (spot p (ArrayHeadEnd v) []) (42 ∷ ds ++ 13 ∷ []) []
array_head_begun p ds v a n h =
    let ends : step (spot p (ArrayHead (0 + length ds) v) []) 13 ≡ going (spot p (ArrayHeadEnd v) []) = rw (not_zero ds n.some) refl in
    join (between p) (spot p (ArrayHead (0 + length ds) v) []) (spot p (ArrayHeadEnd v) []) (42 ∷ ds) (13 ∷ []) (array_begun p ds (0 + length ds) v a (digits_of ds v 64 n h))
    (last (spot p (ArrayHead (0 + length ds) v) []) (spot p (ArrayHeadEnd v) []) 13 ends)

content_begun : (p : Progress) (ds c : List ℕ) (left : ℕ) → allows p 36 ≡ true → IsNumber ds (length c + left) → length c + left ≤ 65536 →
    Goes (between p) (spot p (Content left) c) (36 ∷ ds ++ (crlf ++ c)) []
content_begun p ds c left a n h =
    let head = bulk_head_begun p ds (length c + left) a n h in
    let rest : length c + left - length c ≡ left = omega arith in
    let content : Goes (spot p (Content (length c + left)) []) (spot p (Content left) c) c [] = rw rest at (content_goes p [] c (length c + left) (omega arith)) in
    let tail = by (spot p (BulkHeadEnd (length c + left)) []) (spot p (Content (length c + left)) []) (spot p (Content left) c) 10 c refl content in
    rw append_assoc at (join (between p) (spot p (BulkHeadEnd (length c + left)) []) (spot p (Content left) c) (36 ∷ ds ++ 13 ∷ []) (10 ∷ c) head tail)

any_digit : (c : List ℕ) → IsInteger c → list_any is_digit c ≡ true
any_digit [] i = absurd i
any_digit (b ∷ bs) (inl i) = rw (digit_is b i.0) refl
any_digit (b ∷ []) (inr i) = absurd (i.1 refl)
any_digit (b ∷ d ∷ ds) (inr i) = rw (digit_is d i.2.0) (or_true (is_digit b))

front_of : (c : List ℕ) → IsInteger c → IsIntegerFront c
front_of [] i = absurd i
front_of (b ∷ bs) (inl i) = (inl i.0, i.1)
front_of (b ∷ bs) (inr i) = (inr i.0, i.2)

cut : (xs ys : List ℕ) → xs ++ 10 ∷ [] ≡ ys ++ crlf → xs ≡ ys ++ 13 ∷ []
cut xs ys e = append_cancel_right xs (ys ++ 13 ∷ []) (10 ∷ []) (e ∙ sym (append_assoc ys (13 ∷ []) (10 ∷ [])))

part_begun : (p : Progress) (k : PartKind) (c bytes : List ℕ) → allows p (type_byte k) ≡ true → SpellsKind k c (bytes ++ 10 ∷ []) → Goes (between p) (spot p (PartEnd k) c) bytes []
part_begun p kind.Simple c bytes a s =
    rw (cut bytes (43 ∷ c) s.1) (join (between p) (spot p Simple c) (spot p (PartEnd kind.Simple) c) (43 ∷ c) (13 ∷ []) (simple_begun p c s.0)
    (last (spot p Simple c) (spot p (PartEnd kind.Simple) c) 13 refl))
part_begun p kind.Integer c bytes a s =
    let ends : step (spot p Integer c) 13 ≡ going (spot p (PartEnd kind.Integer) c) = rw (any_digit c s.1) refl in
    rw (cut bytes (58 ∷ c) s.2) (join (between p) (spot p Integer c) (spot p (PartEnd kind.Integer) c) (58 ∷ c) (13 ∷ []) (integer_begun p c a s.0 (front_of c s.1))
    (last (spot p Integer c) (spot p (PartEnd kind.Integer) c) 13 ends))
part_begun p kind.Bulk c bytes a s =
    let none : length c + 0 ≡ length c = omega arith in
    let content : Goes (between p) (spot p (Content 0) c) (36 ∷ s.0 ++ (crlf ++ c)) [] = content_begun p s.0 c 0 a (rw none s.1) (omega (arith, s.2)) in
    let bytes_are : bytes ≡ (36 ∷ s.0 ++ (crlf ++ c)) ++ 13 ∷ [] = cut bytes (36 ∷ s.0 ++ (crlf ++ c)) (s.3 ∙ ap (λ q. q ++ crlf) (append_assoc (36 ∷ s.0) crlf c)) in
    rw bytes_are (join (between p) (spot p (Content 0) c) (spot p (PartEnd kind.Bulk) c) (36 ∷ s.0 ++ (crlf ++ c)) (13 ∷ []) content
    (last (spot p (Content 0) c) (spot p (PartEnd kind.Bulk) c) 13 refl))

begun_goes : (w : Within) (p : Progress) (c bytes : List ℕ) → IsBegun p w c bytes → Goes (between p) (spot p w c) bytes []
begun_goes Start p c bytes h = rw (h.0, h.1) (goes_nil (between p))
begun_goes Simple p c bytes h = rw h.1 (simple_begun p c h.0)
begun_goes Integer p c bytes h = rw h.3 (integer_begun p c h.0 h.1 h.2)
begun_goes (BulkHead d v) p c bytes h = rw (h.1, h.4) (bulk_begun p h.2 d v h.0 h.3)
begun_goes (ArrayHead d v) p c bytes h = rw (h.1, h.4) (array_begun p h.2 d v h.0 h.3)
begun_goes (BulkHeadEnd v) p c bytes h = rw (h.1, h.5) (bulk_head_begun p h.2 v h.0 h.3 h.4)
begun_goes (ArrayHeadEnd v) p c bytes h = rw (h.1, h.5) (array_head_begun p h.2 v h.0 h.3 h.4)
begun_goes (Content left) p c bytes h = rw h.4 (content_begun p h.1 c left h.0 h.2 h.3)
begun_goes (PartEnd k) p c bytes h = part_begun p k c bytes h.0 h.1

-- A spot for which a rest stands is where the machine is after the rest.
pub stands_goes : (s : Spot) (rest : List ℕ) → StandsAt s rest → Goes first s rest []
stands_goes s rest h = rw h.whole (goes_append first (between s.progress) s h.before h.begun [] [] (done_goes s.progress h.parts h.before h.done h.spelled) (begun_goes s.within s.progress s.bytes h.begun h.part))

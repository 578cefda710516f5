-- What is spelled is read.
use Rattle.std.proofs.Common.{ℕ, ◌≡◌, ◌≢◌, ◌+◌, ◌*◌, ◌-◌, ◌<◌, ◌≤◌, ◌++◌, ◌⊎◌, List, [], ◌∷◌, Bool, true, false, ◌||◌, length, map, Some, Ok, refl, ◌∙◌, suc, arith, append_assoc, append-nil, length-append, inl, inr, codes, bytes_eq, cond, not, nat_le, nat_eq}
use Rattle.std.proofs.lemmas.Bool.Decides.{nat_tests}
use Rattle.std.specs.List.{AllByRecursion, list_any}
use Rattle.std.specs.Cmp.Lexicographic.{bytes_decides}
use Rattle.ak_resp.specs.declared.message.PartKind.{PartKind}
use Rattle.ak_resp.specs.declared.message.PartKind.TheVariants as kind
use Rattle.ak_resp.specs.declared.message.Part.{Part}
use Rattle.ak_resp.specs.declared.message.Message.{Message}
use Rattle.ak_resp.specs.declared.message.Message.TheVariants as message
use Rattle.ak_resp.specs.declared.fault.Fault.{Fault}
use Rattle.ak_resp.specs.declared.fault.Fault.TheVariants as fault
use Rattle.ak_resp.specs.declared.spot.Progress.{Progress}
use Rattle.ak_resp.specs.declared.spot.Progress.TheVariants.{Name, Time, Value, Item, Json}
use Rattle.ak_resp.specs.declared.spot.Within.TheVariants.{Simple, Integer, BulkHead, ArrayHead, BulkHeadEnd, ArrayHeadEnd, Content, PartEnd}
use Rattle.ak_resp.specs.Grammar.{crlf, IsLineByte, IsLine, IsDigit, number_from, IsNumber, IsInteger, Written, one, array, SpellsKind, SpellsPart, SpellsParts, IsText, IsItem, BeginsControl, IsName, IsControl, Spells, SpellsRow}
use Rattle.ak_resp.specs.Machine.{Outcome, going, whole, first, step, between, integer, head, finish, items, is_control}
use Rattle.ak_resp.specs.Kinds.{allows, is_digit, goes_on}
use Rattle.ak_resp.specs.Standing.{type_byte}
use Rattle.ak_resp.proofs.Runs.{spot, simple_run, content_run}
use Rattle.ak_resp.proofs.Goes.{Goes, Lands, IsTaken, goes_nil, goes_step, goes_append, lands_one, lands_after, lands_step}

abbrev pub part : PartKind → List ℕ → Part
part k c = record { kind = k; bytes = c }

-- ---- Content and digits

pub simple_goes : (p : Progress) (c bytes : List ℕ) → length bytes ≤ 4096 - length c → AllByRecursion IsLineByte bytes → Goes (spot p Simple c) (spot p Simple (c ++ bytes)) bytes []
simple_goes p c bytes h l = record { state = λ n f. (simple_run p c n bytes f h l).0; says = λ n f. (simple_run p c n bytes f h l).1 }

pub content_goes : (p : Progress) (c bytes : List ℕ) (left : ℕ) → length bytes ≤ left → Goes (spot p (Content left) c) (spot p (Content (left - length bytes)) (c ++ bytes)) bytes []
content_goes p c bytes left h = record { state = λ n f. (content_run p c n left bytes f h).0; says = λ n f. (content_run p c n left bytes f h).1 }

pub digit_is : (b : ℕ) → IsDigit b → is_digit b ≡ true
digit_is b d = grind (arith, nat_tests, d.least, d.most)

pub integer_byte : (p : Progress) (c : List ℕ) (b : ℕ) → length c < 4096 → b ≢ 10 → b ≢ 13 → goes_on c b ≡ true → integer (spot p Integer c) b ≡ going (spot p Integer (c ++ b ∷ []))
integer_byte p c b h lf cr g = rw g (grind (arith, nat_tests))

pub digits_goes : (p : Progress) (x : ℕ) (c ds : List ℕ) → length (x ∷ c) + length ds ≤ 4096 → AllByRecursion IsDigit ds → Goes (spot p Integer (x ∷ c)) (spot p Integer ((x ∷ c) ++ ds)) ds []
digits_goes p x c [] h l = rw append-nil (goes_nil (spot p Integer (x ∷ c)))
digits_goes p x c (d ∷ ds) h l =
    let lf : d ≢ 10 = omega (arith, l.0.least) in
    let cr : d ≢ 13 = omega (arith, l.0.least) in
    let e = integer_byte p (x ∷ c) d (omega arith) lf cr (digit_is d l.0) in
    let rest = digits_goes p x (c ++ d ∷ []) ds (omega (arith, length-append {A = ℕ})) l.1 in
    goes_step _ _ _ d ds [] e (rw append_assoc at rest)

number_from_least : (n : ℕ) (ds : List ℕ) → n ≤ number_from n ds
number_from_least n [] = omega arith
number_from_least n (d ∷ ds) = omega (arith, number_from_least (n * 10 + (d - 48)) ds)

head_digit : (digits value b most : ℕ) (above : Fault) → digits < 4096 → IsDigit b → value * 10 + (b - 48) ≤ most →
    head digits value b most above ≡ Ok (Some (digits + 1, value * 10 + (b - 48)))
head_digit digits value b most above h d m = grind (arith, nat_tests, d.least, d.most)

pub bulk_digits_go : (p : Progress) (c : List ℕ) (d v : ℕ) (ds : List ℕ) → d + length ds ≤ 4096 → AllByRecursion IsDigit ds → number_from v ds ≤ 65536 →
    Goes (spot p (BulkHead d v) c) (spot p (BulkHead (d + length ds) (number_from v ds)) c) ds []
bulk_digits_go p c d v [] h l m =
    let none : d + 0 ≡ d = omega arith in
    rw none (goes_nil (spot p (BulkHead d v) c))
bulk_digits_go p c d v (b ∷ ds) h l m =
    let low : v * 10 + (b - 48) ≤ 65536 = omega (arith, number_from_least (v * 10 + (b - 48)) ds) in
    let e : step (spot p (BulkHead d v) c) b ≡ going (spot p (BulkHead (d + 1) (v * 10 + (b - 48))) c) = rw (head_digit d v b 65536 fault.LongBulk (omega arith) l.0 low) refl in
    let more : d + 1 + length ds ≡ d + suc (length ds) = omega arith in
    goes_step _ _ _ b ds [] e (rw more at (bulk_digits_go p c (d + 1) (v * 10 + (b - 48)) ds (omega arith) l.1 m))

pub array_digits_go : (p : Progress) (c : List ℕ) (d v : ℕ) (ds : List ℕ) → d + length ds ≤ 4096 → AllByRecursion IsDigit ds → number_from v ds ≤ 64 →
    Goes (spot p (ArrayHead d v) c) (spot p (ArrayHead (d + length ds) (number_from v ds)) c) ds []
array_digits_go p c d v [] h l m =
    let none : d + 0 ≡ d = omega arith in
    rw none (goes_nil (spot p (ArrayHead d v) c))
array_digits_go p c d v (b ∷ ds) h l m =
    let low : v * 10 + (b - 48) ≤ 64 = omega (arith, number_from_least (v * 10 + (b - 48)) ds) in
    let e : step (spot p (ArrayHead d v) c) b ≡ going (spot p (ArrayHead (d + 1) (v * 10 + (b - 48))) c) = rw (head_digit d v b 64 fault.BadShape (omega arith) l.0 low) refl in
    let more : d + 1 + length ds ≡ d + suc (length ds) = omega arith in
    goes_step _ _ _ b ds [] e (rw more at (array_digits_go p c (d + 1) (v * 10 + (b - 48)) ds (omega arith) l.1 m))

-- ---- Parts

pub cond_taken : (b : Bool) (x y : Outcome) → IsTaken x → IsTaken y → IsTaken (cond b x y)
cond_taken true x y h k = h
cond_taken false x y h k = k

pub finish_taken : (p : Progress) (w : Part) → IsTaken (finish p w)
finish_taken Name w =
    let third : IsTaken (cond (bytes_eq w.bytes (codes "!flush")) (whole message.Flush) (whole message.Unknown)) =
    cond_taken (bytes_eq w.bytes (codes "!flush")) (whole message.Flush) (whole message.Unknown) tt tt in
    let second : IsTaken (cond (bytes_eq w.bytes (codes "!query")) (going (between Json)) (cond (bytes_eq w.bytes (codes "!flush")) (whole message.Flush) (whole message.Unknown))) =
    cond_taken (bytes_eq w.bytes (codes "!query")) (going (between Json)) (cond (bytes_eq w.bytes (codes "!flush")) (whole message.Flush) (whole message.Unknown)) tt third in
    cond_taken (not (is_control w.bytes)) (going (between (Time w)))
    (cond (bytes_eq w.bytes (codes "!query")) (going (between Json)) (cond (bytes_eq w.bytes (codes "!flush")) (whole message.Flush) (whole message.Unknown))) tt second
finish_taken (Time name) w = tt
finish_taken (Value name time) w = tt
finish_taken (Item name time values left) w =
    cond_taken (nat_le left 1) (whole (message.Put name time (values ++ w ∷ []))) (going (between (Item name time (values ++ w ∷ []) (left - 1)))) tt tt
finish_taken Json w = tt

pub plus_opens : (p : Progress) → step (between p) 43 ≡ going (spot p Simple [])
plus_opens Name = refl
plus_opens (Time name) = refl
plus_opens (Value name time) = refl
plus_opens (Item name time values left) = refl
plus_opens Json = refl

pub end_lands : (p : Progress) (k : PartKind) (c : List ℕ) → Lands (spot p (PartEnd k) c) (10 ∷ []) (finish p (part k c))
end_lands p k c = lands_one (spot p (PartEnd k) c) 10 (finish p (part k c)) refl (finish_taken p (part k c))

pub simple_lands : (p : Progress) (c : List ℕ) → IsLine c → Lands (between p) (43 ∷ c ++ crlf) (finish p (part kind.Simple c))
simple_lands p c h =
    lands_step (between p) (spot p Simple []) 43 (c ++ crlf) _ (plus_opens p)
    (lands_after (spot p Simple []) (spot p Simple c) c crlf _ (simple_goes p [] c h.short h.each)
    (lands_step (spot p Simple c) (spot p (PartEnd kind.Simple) c) 13 (10 ∷ []) _ refl (end_lands p kind.Simple c)))

pub integer_end : (p : Progress) (c : List ℕ) → list_any is_digit c ≡ true → Lands (spot p Integer c) crlf (finish p (part kind.Integer c))
integer_end p c h =
    let e : step (spot p Integer c) 13 ≡ going (spot p (PartEnd kind.Integer) c) = rw h refl in
    lands_step (spot p Integer c) (spot p (PartEnd kind.Integer) c) 13 (10 ∷ []) _ e (end_lands p kind.Integer c)

integer_first : (p : Progress) (b : ℕ) (bs : List ℕ) → allows p 58 ≡ true → length (b ∷ bs) ≤ 4096 → b ≢ 10 → b ≢ 13 → goes_on [] b ≡ true → AllByRecursion IsDigit bs → list_any is_digit (b ∷ bs) ≡ true →
    Lands (between p) (58 ∷ (b ∷ bs) ++ crlf) (finish p (part kind.Integer (b ∷ bs)))
integer_first p b bs a h lf cr g l any =
    let opens : step (between p) 58 ≡ going (spot p Integer []) = rw a refl in
    let e = integer_byte p [] b (omega arith) lf cr g in
    lands_step (between p) (spot p Integer []) 58 ((b ∷ bs) ++ crlf) _ opens
    (lands_step (spot p Integer []) (spot p Integer (b ∷ [])) b (bs ++ crlf) _ e
    (lands_after (spot p Integer (b ∷ [])) (spot p Integer (b ∷ bs)) bs crlf _ (digits_goes p b [] bs (omega arith) l) (integer_end p (b ∷ bs) any)))

pub or_true : (b : Bool) → (b || true) ≡ true
or_true true = refl
or_true false = refl

any_later : (b d : ℕ) (ds : List ℕ) → is_digit d ≡ true → list_any is_digit (b ∷ d ∷ ds) ≡ true
any_later b d ds h = rw h (or_true (is_digit b))

signed : (p : Progress) (b d : ℕ) (ds : List ℕ) → allows p 58 ≡ true → length (b ∷ d ∷ ds) ≤ 4096 → (b ≡ 43) ⊎ (b ≡ 45) → AllByRecursion IsDigit (d ∷ ds) →
    Lands (between p) (58 ∷ (b ∷ d ∷ ds) ++ crlf) (finish p (part kind.Integer (b ∷ d ∷ ds)))
signed p b d ds a h (inl e) l =
    integer_first p b (d ∷ ds) a h (omega (arith, e)) (omega (arith, e)) (rw e refl) l (any_later b d ds (digit_is d l.0))
signed p b d ds a h (inr e) l =
    integer_first p b (d ∷ ds) a h (omega (arith, e)) (omega (arith, e)) (rw e refl) l (any_later b d ds (digit_is d l.0))

integer_lands : (p : Progress) (c : List ℕ) → allows p 58 ≡ true → length c ≤ 4096 → IsInteger c → Lands (between p) (58 ∷ c ++ crlf) (finish p (part kind.Integer c))
integer_lands p [] a h i = absurd i
integer_lands p (b ∷ bs) a h (inl i) =
    let lf : b ≢ 10 = omega (arith, i.0.least) in
    let cr : b ≢ 13 = omega (arith, i.0.least) in
    integer_first p b bs a h lf cr (rw (digit_is b i.0) refl) i.1 (rw (digit_is b i.0) refl)
integer_lands p (b ∷ []) a h (inr i) = absurd (i.1 refl)
integer_lands p (b ∷ d ∷ ds) a h (inr i) = signed p b d ds a h i.0 i.2

pub not_zero : (ds : List ℕ) → ds ≢ [] → nat_eq (0 + length ds) 0 ≡ false
not_zero [] h = absurd (h refl)
not_zero (d ∷ ds) h = grind (arith, nat_tests)

bulk_lands : (p : Progress) (c ds : List ℕ) → allows p 36 ≡ true → IsNumber ds (length c) → length c ≤ 65536 →
    Lands (between p) (36 ∷ ds ++ (crlf ++ (c ++ crlf))) (finish p (part kind.Bulk c))
bulk_lands p c ds a n h =
    let opens : step (between p) 36 ≡ going (spot p (BulkHead 0 0) []) = rw a refl in
    let digits : Goes (spot p (BulkHead 0 0) []) (spot p (BulkHead (0 + length ds) (length c)) []) ds [] =
    rw n.value at (bulk_digits_go p [] 0 0 ds (omega (arith, n.short)) n.each (rw n.value h)) in
    let ends : step (spot p (BulkHead (0 + length ds) (length c)) []) 13 ≡ going (spot p (BulkHeadEnd (length c)) []) = rw (not_zero ds n.some) refl in
    let none : length c - length c ≡ 0 = omega arith in
    let all : Goes (spot p (Content (length c)) []) (spot p (Content 0) c) c [] = rw none at (content_goes p [] c (length c) (omega arith)) in
    lands_step (between p) (spot p (BulkHead 0 0) []) 36 (ds ++ (crlf ++ (c ++ crlf))) _ opens
    (lands_after (spot p (BulkHead 0 0) []) (spot p (BulkHead (0 + length ds) (length c)) []) ds (crlf ++ (c ++ crlf)) _ digits
    (lands_step (spot p (BulkHead (0 + length ds) (length c)) []) (spot p (BulkHeadEnd (length c)) []) 13 (10 ∷ (c ++ crlf)) _ ends
    (lands_step (spot p (BulkHeadEnd (length c)) []) (spot p (Content (length c)) []) 10 (c ++ crlf) _ refl
    (lands_after (spot p (Content (length c)) []) (spot p (Content 0) c) c crlf _ all
    (lands_step (spot p (Content 0) c) (spot p (PartEnd kind.Bulk) c) 13 (10 ∷ []) _ refl (end_lands p kind.Bulk c))))))

pub array_lands : (p : Progress) (k : ℕ) (ds : List ℕ) → allows p 42 ≡ true → IsNumber ds k → k ≤ 64 → IsTaken (items p k) →
    Lands (between p) (42 ∷ ds ++ crlf) (items p k)
array_lands p k ds a n h t =
    let opens : step (between p) 42 ≡ going (spot p (ArrayHead 0 0) []) = rw a refl in
    let digits : Goes (spot p (ArrayHead 0 0) []) (spot p (ArrayHead (0 + length ds) k) []) ds [] =
    rw n.value at (array_digits_go p [] 0 0 ds (omega (arith, n.short)) n.each (rw n.value h)) in
    let ends : step (spot p (ArrayHead (0 + length ds) k) []) 13 ≡ going (spot p (ArrayHeadEnd k) []) = rw (not_zero ds n.some) refl in
    lands_step (between p) (spot p (ArrayHead 0 0) []) 42 (ds ++ crlf) _ opens
    (lands_after (spot p (ArrayHead 0 0) []) (spot p (ArrayHead (0 + length ds) k) []) ds crlf _ digits
    (lands_step (spot p (ArrayHead (0 + length ds) k) []) (spot p (ArrayHeadEnd k) []) 13 (10 ∷ []) _ ends
    (lands_one (spot p (ArrayHeadEnd k) []) 10 (items p k) refl t)))

kind_lands : (p : Progress) (k : PartKind) (c bytes : List ℕ) → allows p (type_byte k) ≡ true → SpellsKind k c bytes → Lands (between p) bytes (finish p (part k c))
kind_lands p kind.Simple c bytes a h = rw h.1 (simple_lands p c h.0)
kind_lands p kind.Integer c bytes a h = rw h.2 (integer_lands p c a h.0 h.1)
kind_lands p kind.Bulk c bytes a h =
    let regroup : ((h.0 ++ crlf) ++ c) ++ crlf ≡ h.0 ++ (crlf ++ (c ++ crlf)) = append_assoc (h.0 ++ crlf) c crlf ∙ append_assoc h.0 crlf (c ++ crlf) in
    rw (h.3, regroup) (bulk_lands p c h.0 a h.1 h.2)

pub part_lands : (p : Progress) (w : Part) (bytes : List ℕ) → allows p (type_byte w.kind) ≡ true → SpellsPart bytes (one w) → Lands (between p) bytes (finish p w)
part_lands p w bytes a h = kind_lands p w.kind w.bytes bytes a h

-- ---- Messages

pub text_may_name : (k : PartKind) → IsText k → allows Name (type_byte k) ≡ true
text_may_name kind.Simple h = refl
text_may_name kind.Integer h = absurd h
text_may_name kind.Bulk h = refl

text_may_json : (k : PartKind) → IsText k → allows Json (type_byte k) ≡ true
text_may_json kind.Simple h = refl
text_may_json kind.Integer h = absurd h
text_may_json kind.Bulk h = refl

pub may_time : (name : Part) (k : PartKind) → allows (Time name) (type_byte k) ≡ true
may_time name kind.Simple = refl
may_time name kind.Integer = refl
may_time name kind.Bulk = refl

pub may_item : (name time : Part) (values : List Part) (left : ℕ) (k : PartKind) → IsItem k → allows (Item name time values left) (type_byte k) ≡ true
may_item name time values left kind.Simple h = refl
may_item name time values left kind.Integer h = refl
may_item name time values left kind.Bulk h = absurd h

no_control : (c : List ℕ) → ¬ (BeginsControl c) → is_control c ≡ false
no_control [] h = refl
no_control (b ∷ bs) h = grind (arith, nat_tests)

is_one : (c : List ℕ) → BeginsControl c → is_control c ≡ true
is_one [] h = absurd h
is_one (b ∷ bs) h = rw h refl

pub name_goes_on : (w : Part) → IsName w → finish Name w ≡ going (between (Time w))
name_goes_on w h = rw (no_control w.bytes h.1) refl

pub query_goes_on : (w : Part) → w.bytes ≡ codes "!query" → finish Name w ≡ going (between Json)
query_goes_on w h = rw h refl

flush_ends : (w : Part) → w.bytes ≡ codes "!flush" → finish Name w ≡ whole message.Flush
flush_ends w h = rw h refl

not_from : (b : Bool) → (b ≡ true → ⊥) → b ≡ false
not_from true h = absurd (h refl)
not_from false h = refl

unequal : (xs ys : List ℕ) → xs ≢ ys → bytes_eq xs ys ≡ false
unequal xs ys h = not_from (bytes_eq xs ys) (λ e. h ((bytes_decides xs ys).0 e))

unknown_ends : (w : Part) → BeginsControl w.bytes → w.bytes ≢ codes "!query" → w.bytes ≢ codes "!flush" → finish Name w ≡ whole message.Unknown
unknown_ends w h q f = rw (is_one w.bytes h, unequal w.bytes (codes "!query") q, unequal w.bytes (codes "!flush") f) refl

pub item_goes_on : (name time : Part) (before : List Part) (v : Part) (k : ℕ) →
    finish (Item name time before (suc (suc k))) v ≡ going (between (Item name time (before ++ v ∷ []) (suc k)))
item_goes_on name time before v k =
    let low : nat_le (suc (suc k)) 1 ≡ false = grind (arith, nat_tests) in
    let less : suc (suc k) - 1 ≡ suc k = omega arith in
    rw (low, less) refl

items_go : (name time : Part) (before values : List Part) (bytes : List ℕ) → 0 < length values → AllByRecursion (λ v. IsItem v.kind) values → SpellsParts bytes (map one values) →
    Goes (between (Item name time before (length values))) first bytes (message.Put name time (before ++ values) ∷ [])
items_go name time before [] bytes h l s = absurd (omega (arith, h))
items_go name time before (v ∷ []) bytes h l s =
    let landed : Goes (between (Item name time before 1)) first s.0 (message.Put name time (before ++ v ∷ []) ∷ []) =
    part_lands (Item name time before 1) v s.0 (may_item name time before 1 v.kind l.0) s.3 in
    rw (s.2, s.4, append-nil) landed
items_go name time before (v ∷ w ∷ ws) bytes h l s =
    let e : finish (Item name time before (suc (suc (length ws)))) v ≡ going (between (Item name time (before ++ v ∷ []) (suc (length ws)))) = item_goes_on name time before v (length ws) in
    let landed : Goes (between (Item name time before (suc (suc (length ws))))) (between (Item name time (before ++ v ∷ []) (suc (length ws)))) s.0 [] =
    rw e at (part_lands (Item name time before (suc (suc (length ws)))) v s.0 (may_item name time before (suc (suc (length ws))) v.kind l.0) s.3) in
    let rest = items_go name time (before ++ v ∷ []) (w ∷ ws) s.1 (omega arith) l.1 s.4 in
    rw s.2 (goes_append _ _ first s.0 s.1 [] _ landed (rw append_assoc at rest))

one_part : (w : Part) (m : Message) (bytes : List ℕ) → IsText w.kind → finish Name w ≡ whole m → SpellsParts bytes (one w ∷ []) → Goes first first bytes (m ∷ [])
one_part w m bytes t e s =
    let landed : Goes first first s.0 (m ∷ []) = rw e at (part_lands Name w s.0 (text_may_name w.kind t) s.3) in
    rw (s.2, s.4, append-nil) landed

put_one : (name time value : Part) (bytes : List ℕ) → IsName name → SpellsParts bytes (one name ∷ one time ∷ one value ∷ []) →
    Goes first first bytes (message.Put name time (value ∷ []) ∷ [])
put_one name time value bytes n s =
    let first_part : Goes first (between (Time name)) s.0 [] = rw (name_goes_on name n) at (part_lands Name name s.0 (text_may_name name.kind n.0) s.3) in
    let second : Goes (between (Time name)) (between (Value name time)) s.4.0 [] = part_lands (Time name) time s.4.0 (may_time name time.kind) s.4.3 in
    let third : Goes (between (Value name time)) first s.4.4.0 (message.Put name time (value ∷ []) ∷ []) = part_lands (Value name time) value s.4.4.0 refl s.4.4.3 in
    rw (s.2, s.4.2, s.4.4.2, s.4.4.4, append-nil)
    (goes_append _ _ first s.0 (s.4.0 ++ s.4.4.0) [] _ first_part (goes_append _ _ first s.4.0 s.4.4.0 [] _ second third))

pub array_taken : (name time : Part) (k : ℕ) → IsTaken (items (Value name time) k)
array_taken name time k = cond_taken (nat_eq k 0) (whole (message.Put name time [])) (going (between (Item name time [] k))) tt tt

after_array : (name time : Part) (values : List Part) (xs ys : List ℕ) → Lands (between (Value name time)) xs (items (Value name time) (length values)) →
    AllByRecursion (λ v. IsItem v.kind) values → SpellsParts ys (map one values) → Goes (between (Value name time)) first (xs ++ ys) (message.Put name time values ∷ [])
after_array name time [] xs ys g l s = rw (s, append-nil) g
after_array name time (v ∷ vs) xs ys g l s =
    let some : nat_eq (suc (length vs)) 0 ≡ false = grind (arith, nat_tests) in
    let landed : Goes (between (Value name time)) (between (Item name time [] (suc (length vs)))) xs [] = rw some at g in
    goes_append _ _ first xs ys [] _ landed (items_go name time [] (v ∷ vs) ys (omega arith) l s)

put_items : (name time : Part) (values : List Part) (bytes : List ℕ) → IsName name → length values ≤ 64 → AllByRecursion (λ v. IsItem v.kind) values →
    SpellsParts bytes (one name ∷ one time ∷ array (length values) ∷ map one values) → Goes first first bytes (message.Put name time values ∷ [])
put_items name time values bytes n h l s =
    let first_part : Goes first (between (Time name)) s.0 [] = rw (name_goes_on name n) at (part_lands Name name s.0 (text_may_name name.kind n.0) s.3) in
    let second : Goes (between (Time name)) (between (Value name time)) s.4.0 [] = part_lands (Time name) time s.4.0 (may_time name time.kind) s.4.3 in
    let third : Lands (between (Value name time)) s.4.4.0 (items (Value name time) (length values)) =
    rw s.4.4.3.3 (array_lands (Value name time) (length values) s.4.4.3.0 refl s.4.4.3.1 s.4.4.3.2 (array_taken name time (length values))) in
    let rest : Goes (between (Value name time)) first (s.4.4.0 ++ s.4.4.1) (message.Put name time values ∷ []) =
    after_array name time values s.4.4.0 s.4.4.1 third l s.4.4.4 in
    rw (s.2, s.4.2, s.4.4.2)
    (goes_append _ _ first s.0 (s.4.0 ++ (s.4.4.0 ++ s.4.4.1)) [] _ first_part (goes_append _ _ first s.4.0 (s.4.4.0 ++ s.4.4.1) [] _ second rest))

query_goes : (name json : Part) (bytes : List ℕ) → IsControl name (codes "!query") → IsText json.kind → SpellsParts bytes (one name ∷ one json ∷ []) →
    Goes first first bytes (message.Query json ∷ [])
query_goes name json bytes n t s =
    let first_part : Goes first (between Json) s.0 [] = rw (query_goes_on name n.1) at (part_lands Name name s.0 (text_may_name name.kind n.0) s.3) in
    let second : Goes (between Json) first s.4.0 (message.Query json ∷ []) = part_lands Json json s.4.0 (text_may_json json.kind t) s.4.3 in
    rw (s.2, s.4.2, s.4.4, append-nil) (goes_append _ _ first s.0 s.4.0 [] _ first_part second)

put_goes : (name time : Part) (values : List Part) (parts : List Written) (bytes : List ℕ) → IsName name →
    ((value : Part) × (values ≡ value ∷ []) × (parts ≡ one name ∷ one time ∷ one value ∷ []))
    ⊎ ((length values ≤ 64) × AllByRecursion (λ v. IsItem v.kind) values × (parts ≡ one name ∷ one time ∷ array (length values) ∷ map one values)) →
    SpellsParts bytes parts → Goes first first bytes (message.Put name time values ∷ [])
put_goes name time values parts bytes n (inl k) s = rw k.1 (put_one name time k.0 bytes n (rw k.2 at s))
put_goes name time values parts bytes n (inr k) s = put_items name time values bytes n k.0 k.1 (rw k.2 at s)

-- What spells a message is read as it.
pub message_goes : (m : Message) (bytes : List ℕ) → Spells bytes m → Goes first first bytes (m ∷ [])
message_goes (message.Put name time values) bytes (parts, n, s) = put_goes name time values parts bytes n.0 n.1 s
message_goes (message.Query json) bytes (parts, n, s) = query_goes n.0 json bytes n.1 n.2 (rw n.3 at s)
message_goes message.Flush bytes (parts, n, s) = one_part n.0 message.Flush bytes n.1.0 (flush_ends n.0 n.1.1) (rw n.2 at s)
message_goes message.Unknown bytes (parts, n, s) = one_part n.0 message.Unknown bytes n.1 (unknown_ends n.0 n.2 n.3 n.4) (rw n.5 at s)

-- What spells a row of messages is read as them.
pub row_goes : (ms : List Message) (bytes : List ℕ) → SpellsRow bytes ms → Goes first first bytes ms
row_goes [] bytes s = rw s (goes_nil first)
row_goes (m ∷ ms) bytes s = rw s.2 (goes_append first first first s.0 s.1 (m ∷ []) ms (message_goes m s.0 s.3) (row_goes ms s.1 s.4))

-- The machine refuses a byte by the first of its faults.
use Rattle.std.proofs.Common.{ℕ, ◌≡◌, ◌+◌, ◌*◌, ◌-◌, List, [], ◌∷◌, ◌++◌, Bool, true, false, ◌||◌, ◌&&◌, length, Option, Some, None, Result, Ok, Err, refl, sym, ◌∙◌, ap, zero, suc, arith, codes, bytes_eq, cond, not, nat_le, nat_lt, nat_eq}
use Rattle.std.proofs.lemmas.Bool.Decides.{nat_tests}
use Rattle.std.specs.List.{list_any}
use Rattle.ak_resp.specs.declared.message.PartKind.TheVariants as kind
use Rattle.ak_resp.specs.declared.message.Part.{Part}
use Rattle.ak_resp.specs.declared.message.Message.TheVariants as message
use Rattle.ak_resp.specs.declared.fault.Fault.{Fault}
use Rattle.ak_resp.specs.declared.fault.Fault.TheVariants as fault
use Rattle.ak_resp.specs.declared.spot.Spot.{Spot}
use Rattle.ak_resp.specs.declared.spot.Progress.{Progress}
use Rattle.ak_resp.specs.declared.spot.Progress.TheVariants.{Name, Time, Value, Item, Json}
use Rattle.ak_resp.specs.declared.spot.Within.{Within}
use Rattle.ak_resp.specs.declared.spot.Within.TheVariants.{Start, Simple, Integer, BulkHead, ArrayHead, BulkHeadEnd, ArrayHeadEnd, Content, PartEnd}
use Rattle.ak_resp.specs.Standing.{IsBegun, StandsAt}
use Rattle.ak_resp.specs.Machine.{Outcome, going, whole, refused, step, between, begin_as, bulk_head_as, array_head_as, finish, items, is_control}
use Rattle.ak_resp.specs.Kinds.{kind_of, allows, is_digit, goes_on}
use Rattle.ak_resp.proofs.Runs.{spot}

abbrev pub refusal : Outcome → Option Fault
refusal (going t) = None
refusal (whole m) = None
refusal (refused f) = Some f

simple_tests : (t u v : Bool) (x y : Spot) → refusal (cond t (refused fault.BadEnd) (cond u (going x) (cond v (refused fault.LongLine) (going y))))
    ≡ cond t (Some fault.BadEnd) (cond (not u && v) (Some fault.LongLine) None)
simple_tests true u v x y = refl
simple_tests false true v x y = refl
simple_tests false false true x y = refl
simple_tests false false false x y = refl

integer_tests : (t u a v g : Bool) (x y : Spot) → refusal (cond t (refused fault.BadEnd) (cond u (cond a (going x) (refused fault.BadNumber)) (cond v (refused fault.LongLine) (cond g (going y) (refused fault.BadNumber)))))
    ≡ cond t (Some fault.BadEnd) (cond (not u && v) (Some fault.LongLine) (cond (cond u (not a) (not g)) (Some fault.BadNumber) None))
integer_tests true u a v g x y = refl
integer_tests false true true v g x y = refl
integer_tests false true false v g x y = refl
integer_tests false false a true g x y = refl
integer_tests false false a false true x y = refl
integer_tests false false a false false x y = refl

abbrev head_by : Bool → Bool → Bool → Bool → Bool → Bool → Fault → ℕ × ℕ → Result (Option (ℕ × ℕ)) Fault
head_by t u z k g m above n = cond t (Err fault.BadEnd) (cond u (cond z (Err fault.BadNumber) (Ok None)) (cond k (Err fault.LongLine) (cond (not g) (Err fault.BadNumber) (cond m (Err above) (Ok (Some n))))))

bulk_tests : (s : Spot) (v : ℕ) (t u z k g m : Bool) (n : ℕ × ℕ) → refusal (bulk_head_as s v (head_by t u z k g m fault.LongBulk n))
    ≡ cond t (Some fault.BadEnd) (cond (not u && k) (Some fault.LongLine) (cond (cond u z (not g)) (Some fault.BadNumber) (cond (not u && m) (Some fault.LongBulk) None)))
bulk_tests s v true u z k g m n = refl
bulk_tests s v false true true k g m n = refl
bulk_tests s v false true false k g m n = refl
bulk_tests s v false false z true g m n = refl
bulk_tests s v false false z false false m n = refl
bulk_tests s v false false z false true true n = refl
bulk_tests s v false false z false true false n = refl

array_tests : (s : Spot) (v : ℕ) (t u z k g m : Bool) (n : ℕ × ℕ) → refusal (array_head_as s v (head_by t u z k g m fault.BadShape n))
    ≡ cond t (Some fault.BadEnd) (cond (not u && k) (Some fault.LongLine) (cond (cond u z (not g)) (Some fault.BadNumber) (cond (not u && m) (Some fault.BadShape) None)))
array_tests s v true u z k g m n = refl
array_tests s v false true true k g m n = refl
array_tests s v false true false k g m n = refl
array_tests s v false false z true g m n = refl
array_tests s v false false z false false m n = refl
array_tests s v false false z false true true n = refl
array_tests s v false false z false true false n = refl

start_allowed : (p : Progress) (c : List ℕ) (b : ℕ) (w : Within) (a : Bool) → allows p b ≡ a → refusal (begin_as (spot p Start c) b (Some w)) ≡ cond (not a) (Some fault.BadShape) None
start_allowed p c b w true e = rw e refl
start_allowed p c b w false e = rw e refl

start_tests : (p : Progress) (c : List ℕ) (b : ℕ) (i j k l a : Bool) → allows p b ≡ a → nat_eq b 10 ≡ false →
    refusal (begin_as (spot p Start c) b (cond i (Some Simple) (cond j (Some Integer) (cond k (Some (BulkHead 0 0)) (cond l (Some (ArrayHead 0 0)) None)))))
    ≡ cond ((i || (j || (k || l))) && not a) (Some fault.BadShape) (cond (not (i || (j || (k || l)))) (Some fault.BadKind) None)
start_tests p c b true j k l a e n = start_allowed p c b Simple a e
start_tests p c b false true k l a e n = start_allowed p c b Integer a e
start_tests p c b false false true l a e n = start_allowed p c b (BulkHead 0 0) a e
start_tests p c b false false false true a e n = start_allowed p c b (ArrayHead 0 0) a e
start_tests p c b false false false false a e n = rw n refl

start_kind : (p : Progress) (c : List ℕ) (b : ℕ) (t : Bool) → nat_eq b 10 ≡ t → refusal (step (spot p Start c) b) ≡ kind_of (spot p Start c) b
start_kind p c b true e = let is : b ≡ 10 = grind (arith, nat_tests, e) in rw is refl
start_kind p c b false e = rw e (start_tests p c b (nat_eq b 43) (nat_eq b 58) (nat_eq b 36) (nat_eq b 42) (allows p b) refl e)

content_tests : (p : Progress) (c : List ℕ) (u : Bool) → refusal (cond u (going (spot p (PartEnd kind.Bulk) c)) (refused fault.BadEnd)) ≡ cond (not u) (Some fault.BadEnd) None
content_tests p c true = refl
content_tests p c false = refl

content_kind : (p : Progress) (left : ℕ) (c : List ℕ) (b : ℕ) → refusal (step (spot p (Content left) c) b) ≡ kind_of (spot p (Content left) c) b
content_kind p zero c b = content_tests p c (nat_eq b 13)
content_kind p (suc left) c b =
    let some : nat_lt 0 (suc left) ≡ true = grind (arith, nat_tests) in
    let none : nat_eq (suc left) 0 ≡ false = grind (arith, nat_tests) in
    rw (some, none) refl

end_tests : (o : Outcome) (t : Bool) → refusal o ≡ None → refusal (cond t o (refused fault.BadEnd)) ≡ cond (not t) (Some fault.BadEnd) None
end_tests o true e = e
end_tests o false e = refl

either_none : (t : Bool) (x y : Outcome) → refusal x ≡ None → refusal y ≡ None → refusal (cond t x y) ≡ None
either_none true x y h k = h
either_none false x y h k = k

finish_none : (p : Progress) (w : Part) → refusal (finish p w) ≡ None
finish_none Name w =
    either_none (not (is_control w.bytes)) (going (between (Time w)))
    (cond (bytes_eq w.bytes (codes "!query")) (going (between Json)) (cond (bytes_eq w.bytes (codes "!flush")) (whole message.Flush) (whole message.Unknown))) refl
    (either_none (bytes_eq w.bytes (codes "!query")) (going (between Json)) (cond (bytes_eq w.bytes (codes "!flush")) (whole message.Flush) (whole message.Unknown)) refl
    (either_none (bytes_eq w.bytes (codes "!flush")) (whole message.Flush) (whole message.Unknown) refl refl))
finish_none (Time name) w = refl
finish_none (Value name time) w = refl
finish_none (Item name time values left) w = either_none (nat_le left 1) (whole (message.Put name time (values ++ w ∷ []))) (going (between (Item name time (values ++ w ∷ []) (left - 1)))) refl refl
finish_none Json w = refl

items_none : (p : Progress) (v : ℕ) → allows p 42 ≡ true → refusal (items p v) ≡ None
items_none Name v a = cc
items_none (Time name) v a = cc
items_none (Item name time values left) v a = cc
items_none Json v a = cc
items_none (Value name time) v a = either_none (nat_eq v 0) (whole (message.Put name time [])) (going (between (Item name time [] v))) refl refl

kind_in : (w : Within) (p : Progress) (c begun : List ℕ) (b : ℕ) → IsBegun p w c begun → refusal (step (spot p w c) b) ≡ kind_of (spot p w c) b
kind_in Start p c begun b h = start_kind p c b (nat_eq b 10) refl
kind_in Simple p c begun b h = simple_tests (nat_eq b 10) (nat_eq b 13) (nat_le 4096 (length c)) _ _
kind_in Integer p c begun b h = integer_tests (nat_eq b 10) (nat_eq b 13) (list_any is_digit c) (nat_le 4096 (length c)) (goes_on c b) _ _
kind_in (BulkHead d v) p c begun b h = bulk_tests (spot p (BulkHead d v) c) v (nat_eq b 10) (nat_eq b 13) (nat_eq d 0) (nat_le 4096 d) (is_digit b) (nat_lt 65536 (v * 10 + (b - 48))) (d + 1, v * 10 + (b - 48))
kind_in (ArrayHead d v) p c begun b h = array_tests (spot p (ArrayHead d v) c) v (nat_eq b 10) (nat_eq b 13) (nat_eq d 0) (nat_le 4096 d) (is_digit b) (nat_lt 64 (v * 10 + (b - 48))) (d + 1, v * 10 + (b - 48))
kind_in (BulkHeadEnd v) p c begun b h = end_tests (going (spot p (Content v) c)) (nat_eq b 10) refl
kind_in (ArrayHeadEnd v) p c begun b h = end_tests (items p v) (nat_eq b 10) (items_none p v h.0)
kind_in (Content left) p c begun b h = content_kind p left c b
kind_in (PartEnd k) p c begun b h = end_tests (finish p (record { kind = k; bytes = c })) (nat_eq b 10) (finish_none p (record { kind = k; bytes = c }))

-- A byte is refused exactly where it is one of the faults, and by the first of them.
pub refusal_is_kind : (s : Spot) (rest : List ℕ) (b : ℕ) → StandsAt s rest → refusal (step s b) ≡ kind_of s b
refusal_is_kind s rest b h = kind_in s.within s.progress s.bytes h.begun b h.part

pub kind_when_refused : (s : Spot) (rest : List ℕ) (b : ℕ) (f : Fault) → StandsAt s rest → step s b ≡ refused f → kind_of s b ≡ Some f
kind_when_refused s rest b f h e = sym (refusal_is_kind s rest b h) ∙ ap refusal e

-- Bytes spell one query or have one refusal, and not both.
use Rattle.std.proofs.Common.{◌≡◌, inl, inr, ℕ, Bool, true, false, ◌&&◌, ◌==◌, List, [], ◌∷◌, map, Option, Some, None, is_some, option_and_then, Result, Ok, Err, codes, refl, sym, ap, ap₂, subst, ◌∙◌}
use Rattle.std.specs.Prelude.{IsUtf8}
use Rattle.std.specs.Str.{is_utf8}
use Rattle.std.specs.List.{list_all, count_by}
use Rattle.std.proofs.lemmas.Bool.{cases_Bool}
use Rattle.std.proofs.lemmas.Str.{IsUtf8-from_is_utf8, is_utf8-from_IsUtf8}
use Rattle.serde_json.specs.Data.{Data}
use Rattle.serde_json.specs.Find.{get}
use Rattle.serde_json.specs.Read.{read}
use Rattle.ak_base.specs.declared.filter.Filter.{Filter}
use Rattle.ak_base.specs.declared.range.Range.{Range}
use Rattle.ak_base.specs.declared.refusal.Refusal.{Refusal}
use Rattle.ak_base.specs.declared.refusal.Refusal.TheVariants.{NotJson, BadQuery, BadRange, BadFunc}
use Rattle.ak_names.specs.declared.wheres.KeyValues.{KeyValues}
use Rattle.ak_time.proofs.Settled.{some_or_none, no_other}
use Rattle.ak_query.specs.declared.query.Func.{Func}
use Rattle.ak_query.specs.declared.query.Kind.{Kind}
use Rattle.ak_query.specs.declared.query.Kind.TheVariants.{Select, Aggregate, Group, Join}
use Rattle.ak_query.specs.declared.query.Query.{Query}
use Rattle.ak_query.specs.Json.{IsJson}
use Rattle.ak_query.specs.Pieces.{metrics_in, func_named, is_function, function_of, texts_at, names_from, has_functions, wheres_in, tags_in, by_time_in, limit_in, offset_in, resp_in, iso_in}
use Rattle.ak_query.specs.Reads.{RangeIs, StepIs, step_in, HasTimes, FilterIs, KindFrom, IsQuery, Refuses, QueryGives}
use Rattle.ak_query.specs.Shapes.{is_shaped}
use Rattle.ak_query.proofs.EachReads.{range_settled, any_step_settled, filter_settled}

-- ---- Truth values

first_true : (a b : Bool) → (a && b) ≡ true → a ≡ true
first_true true b is = refl
first_true false b is = is

second_true : (a b : Bool) → (a && b) ≡ true → b ≡ true
second_true true b is = is
second_true false b is = absurd (cc)

both_true : (a b : Bool) → a ≡ true → b ≡ true → (a && b) ≡ true
both_true a b p q = ap₂ (λ x y. x && y) p q

true_false : (b : Bool) → b ≡ true → b ≡ false → ⊥
true_false b p q = cc

some_of : {A : Type 0} (o : Option A) → is_some o ≡ true → (x : A) × (o ≡ Some x)
some_of None is = absurd (cc)
some_of (Some x) is = (x, refl)

-- where one of four is there, it isn't both the first and the third
not_both : (a b c d : Bool) → (count_by (λ b. b) (a ∷ b ∷ c ∷ d ∷ []) == 1) ≡ true → a ≡ true → c ≡ true → ⊥
not_both true true true true is p q = cc
not_both true true true false is p q = cc
not_both true false true true is p q = cc
not_both true false true false is p q = cc
not_both false b c d is p q = cc
not_both true b false d is p q = cc

nor_second : (a b c d : Bool) → (count_by (λ b. b) (a ∷ b ∷ c ∷ d ∷ []) == 1) ≡ true → b ≡ true → c ≡ true → ⊥
nor_second true true true true is p q = cc
nor_second true true true false is p q = cc
nor_second false true true true is p q = cc
nor_second false true true false is p q = cc
nor_second a false c d is p q = cc
nor_second a true false d is p q = cc

-- ---- Functions and kinds

named_one : (f g : List Func) → map (λ f. Some f) f ≡ map (λ f. Some f) g → f ≡ g
named_one [] [] e = refl
named_one [] (y ∷ ys) e = absurd (cc)
named_one (x ∷ xs) [] e = absurd (cc)
named_one (x ∷ xs) (y ∷ ys) e =
    let heads : Some x ≡ Some y = cc in
    let first : x ≡ y = cc in
    let tails : map (λ f. Some f) xs ≡ map (λ f. Some f) ys = cc in
    ap₂ (λ z zs. z ∷ zs) first (named_one xs ys tails)

named_some : (names : List (List ℕ)) → list_all is_function names ≡ true → (funcs : List Func) × (map (λ f. Some f) funcs ≡ map func_named names)
named_some [] all = ([], refl)
named_some (name ∷ names) all =
    let one = some_of (func_named name) (first_true (is_function name) (list_all is_function names) all) in
    let more = named_some names (second_true (is_function name) (list_all is_function names) all) in
    (one.0 ∷ more.0, ap₂ (λ z zs. z ∷ zs) (sym one.1) more.1)

named_all : (names : List (List ℕ)) (funcs : List Func) → map (λ f. Some f) funcs ≡ map func_named names → list_all is_function names ≡ true
named_all [] funcs e = refl
named_all (name ∷ names) [] e = absurd (cc)
named_all (name ∷ names) (f ∷ fs) e =
    let head : func_named name ≡ Some f = cc in
    let tail : map (λ f. Some f) fs ≡ map func_named names = cc in
    both_true (is_function name) (list_all is_function names) (ap (λ o. is_some o) head) (named_all names fs tail)

kind_one : (s a g : Option Data) (k l : Kind) → KindFrom s a g k → KindFrom s a g l → k ≡ l
kind_one (Some s) a g k l p q = p ∙ sym q
kind_one None (Some a) g k l p q =
    let same : Some p.0 ≡ Some q.0 = sym p.1 ∙ q.1 in
    let func : p.0 ≡ q.0 = cc in
    p.2 ∙ (ap (λ f. Aggregate f) func ∙ sym q.2)
kind_one None None (Some g) k l p q =
    let step = no_other (StepIs (get (codes "step") g)) (any_step_settled (get (codes "step") g)) p.0 q.0 p.2 q.2 in
    let funcs = named_one p.1 q.1 (p.3 ∙ sym q.3) in
    p.4 ∙ (ap₂ (λ n fs. Group n fs) step funcs ∙ sym q.4)
kind_one None None None k l p q = p ∙ sym q

abbrev HasStep : Option Data → Type 0
HasStep g = (n : ℕ) × StepIs (option_and_then (get (codes "step")) g) n

kind_some : (s a g : Option Data) → list_all is_function (names_from s a g) ≡ true → HasStep g → (k : Kind) × KindFrom s a g k
kind_some (Some s) a g all step = (Select, refl)
kind_some None (Some a) g all step =
    let one = some_of (func_named (function_of a)) (first_true (is_function (function_of a)) true all) in
    (Aggregate one.0, (one.0, one.1, refl))
kind_some None None (Some g) all step =
    let funcs = named_some (texts_at (codes "func") g) all in
    (Group step.0 funcs.0, (step.0, funcs.0, step.1, funcs.1, refl))
kind_some None None None all step = (Join, refl)

kind_named : (s a g : Option Data) (k : Kind) → KindFrom s a g k → list_all is_function (names_from s a g) ≡ true
kind_named (Some s) a g k p = refl
kind_named None (Some a) g k p = both_true (is_function (function_of a)) true (ap (λ o. is_some o) p.1) refl
kind_named None None (Some g) k p = named_all (texts_at (codes "func") g) p.1 p.3
kind_named None None None k p = refl

kind_step : (s a g j : Option Data) (k : Kind) → (count_by (λ b. b) (is_some s ∷ is_some a ∷ is_some g ∷ is_some j ∷ []) == 1) ≡ true → KindFrom s a g k → HasStep g
kind_step s a None j k one p = (1, refl)
kind_step (Some s) a (Some g) j k one p = absurd (not_both true (is_some a) true (is_some j) one refl refl)
kind_step None (Some a) (Some g) j k one p = absurd (nor_second false true true (is_some j) one refl refl)
kind_step None None (Some g) j k one p = (p.0, p.2)

-- ---- One answer

same_query : (kind kind₂ : Kind) (metrics metrics₂ : List (List ℕ)) (range range₂ : Range) (filter filter₂ : Filter) (wheres wheres₂ : List KeyValues) (tags tags₂ : Option (List (List ℕ)))
    (by_time by_time₂ : Bool) (offset offset₂ : ℕ) (limit limit₂ : Option ℕ) (resp resp₂ iso iso₂ : Bool) → kind ≡ kind₂ → metrics ≡ metrics₂ → range ≡ range₂ → filter ≡ filter₂ → wheres ≡ wheres₂
    → tags ≡ tags₂ → by_time ≡ by_time₂ → offset ≡ offset₂ → limit ≡ limit₂ → resp ≡ resp₂ → iso ≡ iso₂
    → (let one : Query = record { kind = kind; metrics = metrics; range = range; filter = filter; wheres = wheres; tags = tags; by_time = by_time; offset = offset; limit = limit; resp = resp; iso = iso } in
    let two : Query = record { kind = kind₂; metrics = metrics₂; range = range₂; filter = filter₂; wheres = wheres₂; tags = tags₂; by_time = by_time₂; offset = offset₂; limit = limit₂; resp = resp₂; iso = iso₂ } in
    one ≡ two)
same_query kind kind₂ metrics metrics₂ range range₂ filter filter₂ wheres wheres₂ tags tags₂ by_time by_time₂ offset offset₂ limit limit₂ resp resp₂ iso iso₂ a b c d e f g h i j k = rw (a, b, c, d, e, f, g, h, i, j, k) refl

query_one : (scale : ℕ) (d : Data) (q r : Query) → IsQuery scale d q → IsQuery scale d r → q ≡ r
query_one scale d q r p s =
    same_query q.kind r.kind q.metrics r.metrics q.range r.range q.filter r.filter q.wheres r.wheres q.tags r.tags q.by_time r.by_time q.offset r.offset q.limit r.limit q.resp r.resp q.iso r.iso
    (kind_one (get (codes "select") d) (get (codes "aggregate") d) (get (codes "group-aggregate") d) q.kind r.kind p.kind s.kind)
    (p.metrics ∙ sym s.metrics) (no_other (RangeIs d) (range_settled d) q.range r.range p.range s.range) (no_other (FilterIs scale d) (filter_settled scale d) q.filter r.filter p.filter s.filter)
    (p.wheres ∙ sym s.wheres) (p.tags ∙ sym s.tags) (p.by_time ∙ sym s.by_time) (p.offset ∙ sym s.offset) (p.limit ∙ sym s.limit) (p.resp ∙ sym s.resp) (p.iso ∙ sym s.iso)

query_times : (scale : ℕ) (d : Data) (q : Query) → IsQuery scale d q → HasTimes d
query_times scale d q p =
    let kinds = first_true _ _ (second_true _ _ p.shaped) in
    ((q.range, p.range), kind_step (get (codes "select") d) (get (codes "aggregate") d) (get (codes "group-aggregate") d) (get (codes "join") d) q.kind kinds p.kind)

unrefused : (scale : ℕ) (d : Data) (q : Query) (e : Refusal) → IsQuery scale d q → Refuses scale d e → ⊥
unrefused scale d q e p (inl (is, never)) = never (p.shaped, (q.filter, p.filter))
unrefused scale d q e p (inr (inl (is, shaped, never))) = never (query_times scale d q p)
unrefused scale d q e p (inr (inr (is, shaped, times, none))) =
    true_false (has_functions d) (kind_named (get (codes "select") d) (get (codes "aggregate") d) (get (codes "group-aggregate") d) q.kind p.kind) none

refuses_one : (scale : ℕ) (d : Data) (e f : Refusal) → Refuses scale d e → Refuses scale d f → e ≡ f
refuses_one scale d e f (inl p) (inl q) = p.0 ∙ sym q.0
refuses_one scale d e f (inl p) (inr (inl q)) = absurd (p.1 q.1)
refuses_one scale d e f (inl p) (inr (inr q)) = absurd (p.1 q.1)
refuses_one scale d e f (inr (inl p)) (inl q) = absurd (q.1 p.1)
refuses_one scale d e f (inr (inl p)) (inr (inl q)) = p.0 ∙ sym q.0
refuses_one scale d e f (inr (inl p)) (inr (inr q)) = absurd (p.2 q.2)
refuses_one scale d e f (inr (inr p)) (inl q) = absurd (q.1 p.1)
refuses_one scale d e f (inr (inr p)) (inr (inl q)) = absurd (q.2 p.2)
refuses_one scale d e f (inr (inr p)) (inr (inr q)) = p.0 ∙ sym q.0

json_one : (bytes : List ℕ) (d e : Data) → IsJson bytes d → IsJson bytes e → d ≡ e
json_one bytes d e p q = let same : Some d ≡ Some e = sym p.1 ∙ q.1 in cc

apart : (scale : ℕ) (bytes : List ℕ) (q : Query) (e : Refusal) → QueryGives scale bytes (Ok q) → QueryGives scale bytes (Err e) → ⊥
apart scale bytes q e p (inl (is, never)) = never p.0 p.1
apart scale bytes q e p (inr (d, json, refuses)) = unrefused scale d q e (subst (λ (d : Data). IsQuery scale d q) (json_one bytes p.0 d p.1 json) p.2) refuses

pub one_query : (scale : ℕ) (bytes : List ℕ) (a b : Result Query Refusal) → QueryGives scale bytes a → QueryGives scale bytes b → a ≡ b
one_query scale bytes (Ok q) (Ok r) p s = ap (λ x. Ok x) (query_one scale s.0 q r (subst (λ (d : Data). IsQuery scale d q) (json_one bytes p.0 s.0 p.1 s.1) p.2) s.2)
one_query scale bytes (Ok q) (Err e) p s = absurd (apart scale bytes q e p s)
one_query scale bytes (Err e) (Ok q) p s = absurd (apart scale bytes q e s p)
one_query scale bytes (Err e) (Err f) (inl p) (inl q) = ap (λ x. Err x) (p.0 ∙ sym q.0)
one_query scale bytes (Err e) (Err f) (inl p) (inr q) = absurd (p.1 q.0 q.1)
one_query scale bytes (Err e) (Err f) (inr p) (inl q) = absurd (q.1 p.0 p.1)
one_query scale bytes (Err e) (Err f) (inr p) (inr q) = ap (λ x. Err x) (refuses_one scale q.0 e f (subst (λ (d : Data). Refuses scale d e) (json_one bytes p.0 q.0 p.1 q.1) p.2) q.2)

-- ---- Some answer

by_value : (scale : ℕ) (bytes : List ℕ) (d : Data) → IsJson bytes d → (a : Result Query Refusal) × QueryGives scale bytes a
by_value scale bytes d json = elim (cases_Bool (is_shaped d)) [
  | inr other ↦ (Err BadQuery, inr (d, json, inl (refl, λ s. true_false (is_shaped d) s.0 other)))
  | inl shaped ↦ elim (some_or_none (FilterIs scale d) (filter_settled scale d)) [
    | inr never ↦ (Err BadQuery, inr (d, json, inl (refl, λ s. never s.1.0 s.1.1)))
    | inl filter ↦ elim (some_or_none (RangeIs d) (range_settled d)) [
      | inr never ↦ (Err BadRange, inr (d, json, inr (inl (refl, (shaped, filter), λ t. never t.0.0 t.0.1))))
      | inl range ↦ elim (some_or_none (StepIs (step_in d)) (any_step_settled (step_in d))) [
        | inr never ↦ (Err BadRange, inr (d, json, inr (inl (refl, (shaped, filter), λ t. never t.1.0 t.1.1))))
        | inl step ↦ elim (cases_Bool (has_functions d)) [
          | inr none ↦ (Err BadFunc, inr (d, json, inr (inr (refl, (shaped, filter), (range, step), none))))
          | inl all ↦ spelled shaped filter range step all
        ]
      ]
    ]
  ]
]
  where
    spelled : is_shaped d ≡ true → ((f : Filter) × FilterIs scale d f) → ((r : Range) × RangeIs d r) → ((n : ℕ) × StepIs (step_in d) n) → has_functions d ≡ true
        → (a : Result Query Refusal) × QueryGives scale bytes a
    spelled shaped filter range step all =
        let kind = kind_some (get (codes "select") d) (get (codes "aggregate") d) (get (codes "group-aggregate") d) all step in (
          Ok (record { kind = kind.0; metrics = metrics_in d; range = range.0; filter = filter.0; wheres = wheres_in d; tags = tags_in d; by_time = by_time_in d; offset = offset_in d; limit = limit_in d; resp = resp_in d; iso = iso_in d }),
          (d, json, record { shaped = shaped; kind = kind.1; metrics = refl; range = range.1; filter = filter.1; wheres = refl; tags = refl; by_time = refl; offset = refl; limit = refl; resp = refl; iso = refl }),
        )

by_text : (scale : ℕ) (bytes : List ℕ) → IsUtf8 bytes → (o : Option Data) → read bytes ≡ o → (a : Result Query Refusal) × QueryGives scale bytes a
by_text scale bytes utf8 None is = (Err NotJson, inl (refl, λ d h. let some : None ≡ Some d = sym is ∙ h.1 in cc))
by_text scale bytes utf8 (Some d) is = by_value scale bytes d (utf8, is)

pub every_query : (scale : ℕ) (bytes : List ℕ) → (a : Result Query Refusal) × QueryGives scale bytes a
every_query scale bytes = elim (cases_Bool (is_utf8 bytes)) [
  | inl is ↦ by_text scale bytes (IsUtf8-from_is_utf8 bytes is) (read bytes) refl
  | inr other ↦ (Err NotJson, inl (refl, λ d h. true_false (is_utf8 bytes) (is_utf8-from_IsUtf8 bytes h.0) other))
]

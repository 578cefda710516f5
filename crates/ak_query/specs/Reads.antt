-- The query that bytes spell, or why they spell none.
use Rattle.std.specs.Prelude.{◌≡◌, ℕ, ◌^◌, ◌<◌, ◌≤◌, ◌⊎◌, ℤ, pos, ◌*ℤ◌, List, map, Bool, true, false, nat_lt, Option, Some}
use Rattle.std.specs.Prelude.{None, Result, Ok, Err, codes}
use Rattle.serde_json.specs.Data.{Data, null, boolean, number, string, array, object}
use Rattle.serde_json.specs.Find.{get, as_u64, as_i64}
use Rattle.ak_base.specs.Values.{IsValue, ReadsValue}
use Rattle.ak_base.specs.declared.refusal.Refusal.{Refusal}
use Rattle.ak_base.specs.declared.refusal.Refusal.TheVariants.{NotJson, BadQuery, BadRange, BadFunc}
use Rattle.ak_base.specs.declared.filter.Filter.{Filter}
use Rattle.ak_base.specs.declared.range.Range.{Range}
use Rattle.ak_time.specs.Steps.{ReadsStep}
use Rattle.ak_time.specs.Times.{ReadsTime}
use Rattle.ak_query.specs.declared.query.Func.{Func}
use Rattle.ak_query.specs.declared.query.Kind.{Kind}
use Rattle.ak_query.specs.declared.query.Kind.TheVariants.{Select, Aggregate, Group, Join}
use Rattle.ak_query.specs.declared.query.Query.{Query}
use Rattle.ak_query.specs.Json.{IsJson, within}
use Rattle.ak_query.specs.Shapes.{is_shaped}
use Rattle.ak_query.specs.Pieces.{metrics_in, func_named, texts_at, function_of, has_functions, wheres_in, tags_in}
use Rattle.ak_query.specs.Pieces.{by_time_in, limit_in, offset_in, resp_in, iso_in}

-- ---- Times and steps

-- a text that reads as the moment, or the number itself
abbrev pub IsTime : Data → ℕ → Type 0
IsTime (string s) t = ReadsTime s (pos t) × (t < 2 ^ 64)
IsTime (number n) t = as_u64 n ≡ Some t
IsTime null t = ⊥
IsTime (boolean b) t = ⊥
IsTime (array ds) t = ⊥
IsTime (object ms) t = ⊥

-- a text that reads as the step, or the number itself
abbrev pub IsStep : Data → ℕ → Type 0
IsStep (string s) n = ReadsStep s n × (1 ≤ n) × (n < 2 ^ 64)
IsStep (number x) n = (as_u64 x ≡ Some n) × (1 ≤ n)
IsStep null n = ⊥
IsStep (boolean b) n = ⊥
IsStep (array ds) n = ⊥
IsStep (object ms) n = ⊥

-- 0 where there is no `from`
abbrev pub FromIs : Option Data → ℕ → Type 0
FromIs None t = t ≡ 0
FromIs (Some d) t = IsTime d t

abbrev pub ToIs : Option Data → Option ℕ → Type 0
ToIs None to = to ≡ None
ToIs (Some d) to = (t : ℕ) × IsTime d t × (to ≡ Some t)

-- backward where the range ends before it begins
abbrev pub is_back : ℕ → Option ℕ → Bool
is_back from None = false
is_back from (Some to) = nat_lt to from

pub record RangeIs (d : Data) (r : Range) : Type 0 where
  pub from : FromIs (within (codes "range") (codes "from") d) r.from
  pub to : ToIs (within (codes "range") (codes "to") d) r.to
  pub back : r.back ≡ is_back r.from r.to

-- the step of a group-aggregate, and 1 where there is none
abbrev pub StepIs : Option Data → ℕ → Type 0
StepIs None n = n ≡ 1
StepIs (Some d) n = IsStep d n

abbrev pub step_in : Data → Option Data
step_in d = within (codes "group-aggregate") (codes "step") d

-- each time and the step can be read
abbrev pub HasTimes : Data → Type 0
HasTimes d = ((r : Range) × RangeIs d r) × ((n : ℕ) × StepIs (step_in d) n)

-- ---- Bounds

-- a text that reads as the value, or a whole number of it, at the scale
abbrev pub IsBound : ℕ → Data → ℤ → Type 0
IsBound scale (string s) v = ReadsValue s scale v × IsValue v
IsBound scale (number n) v = (i : ℤ) × (as_i64 n ≡ Some i) × (v ≡ i *ℤ pos (10 ^ scale)) × IsValue v
IsBound scale null v = ⊥
IsBound scale (boolean b) v = ⊥
IsBound scale (array ds) v = ⊥
IsBound scale (object ms) v = ⊥

abbrev pub BoundIs : ℕ → Option Data → Option ℤ → Type 0
BoundIs scale None bound = bound ≡ None
BoundIs scale (Some d) bound = (v : ℤ) × IsBound scale d v × (bound ≡ Some v)

pub record FilterIs (scale : ℕ) (d : Data) (f : Filter) : Type 0 where
  pub gt : BoundIs scale (within (codes "filter") (codes "gt") d) f.gt
  pub ge : BoundIs scale (within (codes "filter") (codes "ge") d) f.ge
  pub lt : BoundIs scale (within (codes "filter") (codes "lt") d) f.lt
  pub le : BoundIs scale (within (codes "filter") (codes "le") d) f.le

-- the shape of a query, with bounds that are values
abbrev pub IsShaped : ℕ → Data → Type 0
IsShaped scale d = (is_shaped d ≡ true) × ((f : Filter) × FilterIs scale d f)

-- ---- Kinds

-- of a select, an aggregate or a group-aggregate
abbrev pub KindFrom : Option Data → Option Data → Option Data → Kind → Type 0
KindFrom (Some s) a g kind = kind ≡ Select
KindFrom None (Some a) g kind = (f : Func) × (func_named (function_of a) ≡ Some f) × (kind ≡ Aggregate f)
KindFrom None None (Some g) kind = (step : ℕ) × (funcs : List Func) × StepIs (get (codes "step") g) step
    × (map (λ f. Some f) funcs ≡ map func_named (texts_at (codes "func") g)) × (kind ≡ Group step funcs)
KindFrom None None None kind = kind ≡ Join

abbrev pub KindIs : Data → Kind → Type 0
KindIs d kind = KindFrom (get (codes "select") d) (get (codes "aggregate") d) (get (codes "group-aggregate") d) kind

-- ---- Queries

pub record IsQuery (scale : ℕ) (d : Data) (q : Query) : Type 0 where
  pub shaped : is_shaped d ≡ true
  pub kind : KindIs d q.kind
  pub metrics : q.metrics ≡ metrics_in d
  pub range : RangeIs d q.range
  pub filter : FilterIs scale d q.filter
  pub wheres : q.wheres ≡ wheres_in d
  pub tags : q.tags ≡ tags_in d
  pub by_time : q.by_time ≡ by_time_in d
  pub offset : q.offset ≡ offset_in d
  pub limit : q.limit ≡ limit_in d
  pub resp : q.resp ≡ resp_in d
  pub iso : q.iso ≡ iso_in d

-- The shape comes first, over all of the value, then its times, then its functions.
abbrev pub Refuses : ℕ → Data → Refusal → Type 0
Refuses scale d e = ((e ≡ BadQuery) × ¬ (IsShaped scale d))
    ⊎ (((e ≡ BadRange) × IsShaped scale d × ¬ (HasTimes d))
    ⊎ ((e ≡ BadFunc) × IsShaped scale d × HasTimes d × (has_functions d ≡ false)))

-- the bytes spell the query; or they are no JSON; or the value that they are spells none
abbrev pub QueryGives : ℕ → List ℕ → Result Query Refusal → Type 0
QueryGives scale bytes (Ok q) = (d : Data) × IsJson bytes d × IsQuery scale d q
QueryGives scale bytes (Err e) = ((e ≡ NotJson) × ((d : Data) → ¬ (IsJson bytes d)))
    ⊎ ((d : Data) × IsJson bytes d × Refuses scale d e)

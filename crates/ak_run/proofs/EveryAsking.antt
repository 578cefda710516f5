-- Every message asks for something.
use Rattle.std.proofs.Common.{◌≡◌, ◌∙◌, ◌≢◌, ℕ, ◌⊎◌, inl, inr, List, [], ◌∷◌, ◌++◌, map, length, drop, codes, Option, Some, None, Result, Ok, Err, refl, sym, ap, subst}
use Rattle.std.specs.Str.Parse.{without_leading_sign}
use Rattle.std.proofs.lemmas.Bool.{cases_eq}
use Rattle.ak_base.specs.declared.refusal.Refusal.{Refusal}
use Rattle.ak_base.specs.declared.refusal.Refusal.TheVariants.{CountsDiffer, BadName, TimeRange, NoControl, NotBuilt}
use Rattle.ak_names.specs.Names.{words_of, metric_count}
use Rattle.ak_names.proofs.EveryText.{every_text}
use Rattle.ak_resp.specs.declared.message.Message.{Message}
use Rattle.ak_resp.specs.declared.message.Message.TheVariants as message
use Rattle.ak_time.specs.Times.{IsWhole, whole}
use Rattle.ak_run.specs.declared.asked.Asked.{Asked}
use Rattle.ak_run.specs.declared.asked.Asked.TheVariants.{Refused, Rows, Flush}
use Rattle.ak_run.specs.Asking.{TimeGives, OnValues, OnTime, Named, OnNames, PutAsks, IsMetricByte, IsSelected, query_text, QueryAsks, Asks, AllAsk}
use Rattle.ak_run.proofs.Decisions.{Decided, either_cases, both_cases, at_most_cases, all_cases, front_cases, end_cases}
use Rattle.ak_run.proofs.EveryValue.{digits_cases, values_give}
use Rattle.ak_run.proofs.Texts.{query_one}
use Rattle.ak_run.proofs.Timed.{stamp_cases, stamp_is}

whole_cases : (text : List ℕ) → Decided (IsWhole text)
whole_cases text = both_cases (at_most_cases 1 (length (without_leading_sign text))) (digits_cases (without_leading_sign text))

time_gives : (text : List ℕ) → (r : Result ℕ Refusal) × TimeGives text r
time_gives text = elim (whole_cases text) [
  | inl w ↦ elim (stamp_cases (whole text)) [
    | inl (t, is, small) ↦ (Ok t, (w, is, stamp_is t (whole text) is small))
    | inr out ↦ (Err TimeRange, inr (refl, w, out))
  ]
  | inr none ↦ (Err NotBuilt, inl (refl, none))
]

on_time : (scale : ℕ) (names values : List (List ℕ)) (ts : Result ℕ Refusal) → (a : Asked) × OnTime scale names values a ts
on_time scale names values (Ok t) = let given = values_give scale values in (OnValues names t given.0, (given.0, given.1, refl))
on_time scale names values (Err e) = (Refused e, refl)

on_names : (scale : ℕ) (time : List ℕ) (values : List (List ℕ)) (names : Option (List (List ℕ))) → (a : Asked) × OnNames scale time values a names
on_names scale time values (Some names) =
    let ts = time_gives time in
    let asked = on_time scale names values ts.0 in
    (asked.0, (ts.0, ts.1, asked.1))
on_names scale time values None = (Refused BadName, refl)

names_of : (text : List ℕ) → (names : Option (List (List ℕ))) × Named text names
names_of text = elim (every_text text) [ inl (names, does) ↦ (Some names, does) | inr none ↦ (None, none) ]

every_put : (scale : ℕ) (name time : List ℕ) (values : List (List ℕ)) → (a : Asked) × PutAsks scale name time values a
every_put scale name time values = elim (cases_eq (length values) (metric_count (words_of name))) [
  | inl same ↦ (let names = names_of name in let asked = on_names scale time values names.0 in (asked.0, inr (same, names.0, names.1, asked.1)))
  | inr differ ↦ (Refused CountsDiffer, inl (differ, refl))
]

metric_byte_cases : (b : ℕ) → Decided (IsMetricByte b)
metric_byte_cases b =
    either_cases (both_cases (at_most_cases 65 b) (at_most_cases b 90))
    (either_cases (both_cases (at_most_cases 97 b) (at_most_cases b 122))
    (either_cases (both_cases (at_most_cases 48 b) (at_most_cases b 57))
    (either_cases (cases_eq b 46) (either_cases (cases_eq b 95) (cases_eq b 45)))))

selected_cases : (metric : List ℕ) → Decided (IsSelected metric)
selected_cases metric = elim (both_cases (at_most_cases 1 (length metric)) (both_cases (at_most_cases (length metric) 512) (all_cases IsMetricByte metric_byte_cases metric))) [
  | inl h ↦ inl (record { some = h.0; short = h.1.0; each = h.1.1 })
  | inr never ↦ inr (λ s. never (s.some, (s.short, s.each)))
]

query_cases : (text : List ℕ) → ((metric : List ℕ) × (text ≡ query_text metric)) ⊎ ((metric : List ℕ) → text ≢ query_text metric)
query_cases text = elim (front_cases (codes "{\"select\":\"") text) [
  | inl (rest, front) ↦ elim (end_cases rest (codes "\"}")) [
    | inl (metric, end) ↦ inl (metric, front ∙ ap (λ l. codes "{\"select\":\"" ++ l) end)
    | inr never ↦ inr (λ metric is. never metric (ap (λ l. drop 11 l) (sym front ∙ is)))
  ]
  | inr never ↦ inr (λ metric is. never (metric ++ codes "\"}") is)
]

every_query : (text : List ℕ) → (a : Asked) × QueryAsks text a
every_query text = elim (query_cases text) [
  | inl (metric, is) ↦ elim (selected_cases metric) [
    | inl selected ↦ (Rows metric, inl (metric, selected, is, refl))
    | inr none ↦ (Refused NotBuilt, inr (λ other chosen so. none (subst IsSelected (query_one other metric (sym so ∙ is)) chosen), refl))
  ]
  | inr never ↦ (Refused NotBuilt, inr (λ metric selected is. never metric is, refl))
]

pub every_asking : (scale : ℕ) (m : Message) → (a : Asked) × Asks scale m a
every_asking scale (message.Put name time values) = every_put scale name.bytes time.bytes (map (λ v. v.bytes) values)
every_asking scale (message.Query json) = every_query json.bytes
every_asking scale message.Flush = (Flush, refl)
every_asking scale message.Unknown = (Refused NoControl, refl)

pub every_all : (scale : ℕ) (ms : List Message) → (asked : List Asked) × AllAsk scale ms asked
every_all scale [] = ([], refl)
every_all scale (m ∷ ms) =
    let first = every_asking scale m in
    let others = every_all scale ms in
    (first.0 ∷ others.0, (first.0, others.0, refl, first.1, others.1))

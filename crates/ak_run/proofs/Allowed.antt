-- What a message asks for can be taken.
use Rattle.std.proofs.Common.{ℕ, suc, ◌≡◌, ◌+◌, ◌==◌, inl, inr, ℤ, List, [], ◌∷◌, map, length, Some, None, Result, Ok, Err, IfOk, sym, ◌∙◌, ap, subst, arith}
use Rattle.std.specs.List.{count_by}
use Rattle.std.proofs.lemmas.List.{length-map}
use Rattle.std.proofs.lemmas.List.Splits.{length-slice_split}
use Rattle.ak_base.specs.declared.refusal.Refusal.{Refusal}
use Rattle.ak_names.specs.Names.{words_of, metric_count, metrics_of, DoesName}
use Rattle.ak_resp.specs.declared.message.Message.{Message}
use Rattle.ak_resp.specs.declared.message.Message.TheVariants as message
use Rattle.ak_run.specs.declared.asked.Asked.{Asked}
use Rattle.ak_run.specs.declared.asked.Asked.TheVariants.{Refused}
use Rattle.ak_run.specs.Asking.{Asks, PutAsks, QueryAsks, OnTime, OnValues, HaveValues, ValuesGive}
use Rattle.ak_run.specs.Fitting.{IsAllowed}
use Rattle.ak_run.proofs.Canonical.{names_canonical}

refused_allowed : (asked : Asked) (r : Refusal) → asked ≡ Refused r → IsAllowed asked
refused_allowed asked r is = subst IsAllowed (sym is) tt

values_many : (scale : ℕ) (texts : List (List ℕ)) (vs : List ℤ) → HaveValues scale texts vs → length vs ≡ length texts
values_many scale [] vs is = ap length is
values_many scale (text ∷ texts) vs (v, others, is, reads, have) = ap length is ∙ ap suc (values_many scale texts others have)

-- as many names as metrics of the first word
names_many : (text : List ℕ) (names : List (List ℕ)) → DoesName text names → length names ≡ metric_count (words_of text)
names_many text names d =
    let split : length (metrics_of d.first) ≡ count_by (λ b. b == 124) d.first + 1 = length-slice_split (λ b. b == 124) d.first in
    let named : length names ≡ length (metrics_of d.first) = ap length d.named.names_are ∙ length-map (metrics_of d.first) _ in
    let counted : metric_count (words_of text) ≡ 1 + count_by (λ b. b == 124) d.first = ap metric_count d.words in
    omega (arith, split, named, counted)

on_values : (scale : ℕ) (text : List ℕ) (names texts : List (List ℕ)) (ts : ℕ) (asked : Asked) (vs : Result (List ℤ) Refusal) → DoesName text names
    → length texts ≡ metric_count (words_of text) → ValuesGive scale texts vs → asked ≡ OnValues names ts vs → IsAllowed asked
on_values scale text names texts ts asked (Ok vs) d many gives is =
    subst IsAllowed (sym is) (omega (arith, values_many scale texts vs gives.0, names_many text names d, many), names_canonical text names d)
on_values scale text names texts ts asked (Err e) d many gives is = refused_allowed asked e is

on_time : (scale : ℕ) (text : List ℕ) (names texts : List (List ℕ)) (asked : Asked) (ts : Result ℕ Refusal) → DoesName text names
    → length texts ≡ metric_count (words_of text) → OnTime scale names texts asked ts → IsAllowed asked
on_time scale text names texts asked (Ok ts) d many (vs, gives, is) = on_values scale text names texts ts asked vs d many gives is
on_time scale text names texts asked (Err e) d many is = refused_allowed asked e is

put_allowed : (scale : ℕ) (name time : List ℕ) (values : List (List ℕ)) (asked : Asked) → PutAsks scale name time values asked → IsAllowed asked
put_allowed scale name time values asked (inl differ) = refused_allowed asked _ differ.1
put_allowed scale name time values asked (inr (many, None, named, is)) = refused_allowed asked _ is
put_allowed scale name time values asked (inr (many, Some names, named, (ts, gives, on))) = on_time scale name names values asked ts named many on

pub put_result : {E : Type 0} (scale : ℕ) (name time : List ℕ) (values : List (List ℕ)) (r : Result Asked E) → IfOk r (λ asked. PutAsks scale name time values asked) → IfOk r (λ asked. IsAllowed asked)
put_result scale name time values (Ok asked) is = put_allowed scale name time values asked is
put_result scale name time values (Err e) is = tt

query_allowed : (text : List ℕ) (asked : Asked) → QueryAsks text asked → IsAllowed asked
query_allowed text asked (inl (metric, selected, text_is, is)) = subst IsAllowed (sym is) tt
query_allowed text asked (inr (none, is)) = refused_allowed asked _ is

pub asks_allowed : (scale : ℕ) (m : Message) (asked : Asked) → Asks scale m asked → IsAllowed asked
asks_allowed scale (message.Put name time values) asked is = put_allowed scale name.bytes time.bytes (map (λ v. v.bytes) values) asked is
asks_allowed scale (message.Query json) asked is = query_allowed json.bytes asked is
asks_allowed scale message.Flush asked is = subst IsAllowed (sym is) tt
asks_allowed scale message.Unknown asked is = refused_allowed asked _ is

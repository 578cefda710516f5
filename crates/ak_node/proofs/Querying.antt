-- Messages that are no queries ask for no rows, and pieces without queries have none.
use Rattle.std.proofs.Common.{◌≡◌, inl, inr, ℕ, ℤ, List, [], ◌∷◌, ◌++◌, map, Some, None, Result, Ok, Err, sym, subst}
use Rattle.std.specs.List.{AllByRecursion}
use Rattle.ak_base.specs.declared.refusal.Refusal.{Refusal}
use Rattle.ak_resp.specs.declared.message.Message.{Message}
use Rattle.ak_resp.specs.declared.message.Message.TheVariants as message
use Rattle.ak_run.specs.declared.asked.Asked.{Asked}
use Rattle.ak_run.specs.declared.asked.Asked.TheVariants.{Refused}
use Rattle.ak_run.specs.Asking.{Asks, PutAsks, OnTime, OnValues}
use Rattle.ak_node.specs.Queries.{IsNoQuery, IsNoRows}

refused_asks : (asked : Asked) (r : Refusal) → asked ≡ Refused r → IsNoRows asked
refused_asks asked r is = subst IsNoRows (sym is) tt

values_ask : (names : List (List ℕ)) (ts : ℕ) (asked : Asked) (vs : Result (List ℤ) Refusal) → asked ≡ OnValues names ts vs → IsNoRows asked
values_ask names ts asked (Ok vs) is = subst IsNoRows (sym is) tt
values_ask names ts asked (Err e) is = refused_asks asked e is

time_asks : (scale : ℕ) (names texts : List (List ℕ)) (asked : Asked) (ts : Result ℕ Refusal) → OnTime scale names texts asked ts → IsNoRows asked
time_asks scale names texts asked (Ok ts) (vs, gives, is) = values_ask names ts asked vs is
time_asks scale names texts asked (Err e) is = refused_asks asked e is

put_asks : (scale : ℕ) (name time : List ℕ) (values : List (List ℕ)) (asked : Asked) → PutAsks scale name time values asked → IsNoRows asked
put_asks scale name time values asked (inl differ) = refused_asks asked _ differ.1
put_asks scale name time values asked (inr (many, None, named, is)) = refused_asks asked _ is
put_asks scale name time values asked (inr (many, Some names, named, (ts, gives, on))) = time_asks scale names values asked ts on

pub no_query_asks : (scale : ℕ) (m : Message) (asked : Asked) → Asks scale m asked → IsNoQuery m → IsNoRows asked
no_query_asks scale (message.Put name time values) asked is none = put_asks scale name.bytes time.bytes (map (λ v. v.bytes) values) asked is
no_query_asks scale (message.Query json) asked is none = absurd none
no_query_asks scale message.Flush asked is none = subst IsNoRows (sym is) tt
no_query_asks scale message.Unknown asked is none = refused_asks asked _ is

-- one of many
pub none_within : (xs ys : List Message) (m : Message) → AllByRecursion IsNoQuery ((xs ++ m ∷ []) ++ ys) → IsNoQuery m
none_within [] ys m all = all.0
none_within (x ∷ xs) ys m all = none_within xs ys m all.1

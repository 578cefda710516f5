-- A message asks for one thing at most.
use Rattle.std.proofs.Common.{◌≡◌, ◌∙◌, ℕ, inl, inr, ℤ, pos, List, [], ◌∷◌, map, Option, Some, None, Result, Ok, Err, refl, sym, ap, ap₂, subst}
use Rattle.std.specs.List.{AllByRecursion}
use Rattle.ak_base.specs.declared.refusal.Refusal.{Refusal}
use Rattle.ak_base.specs.Values.{IsValue}
use Rattle.ak_names.proofs.Readings.{names_one}
use Rattle.ak_resp.specs.declared.message.Message.{Message}
use Rattle.ak_resp.specs.declared.message.Message.TheVariants as message
use Rattle.ak_run.specs.declared.asked.Asked.{Asked}
use Rattle.ak_run.specs.declared.asked.Asked.TheVariants.{Rows}
use Rattle.ak_run.specs.Asking.{TimeGives, HaveValues, ValuesGive, OnValues, OnTime, Named, OnNames, PutAsks, QueryAsks, Asks, AllAsk}
use Rattle.ak_run.proofs.Signs.{value_one}
use Rattle.ak_run.proofs.Texts.{query_one}

pub have_one : (scale : ℕ) (texts : List (List ℕ)) (vs ws : List ℤ) → HaveValues scale texts vs → HaveValues scale texts ws → vs ≡ ws
have_one scale [] vs ws a b = a ∙ sym b
have_one scale (text ∷ texts) vs ws a b = a.2 ∙ (ap₂ (λ x xs. x ∷ xs) (value_one text scale a.0 b.0 a.3 b.3) (have_one scale texts a.1 b.1 a.4 b.4) ∙ sym b.2)

-- texts with values in range give them alone
not_refused : (scale : ℕ) (texts : List (List ℕ)) (vs : List ℤ) (e : Refusal) → ValuesGive scale texts (Ok vs) → ¬ (ValuesGive scale texts (Err e))
not_refused scale texts vs e a (inl (bad, never)) = never vs a.0
not_refused scale texts vs e a (inr (range, all, have, out)) = out (subst (AllByRecursion IsValue) (have_one scale texts vs all a.0 have) a.1)

values_one : (scale : ℕ) (texts : List (List ℕ)) (r s : Result (List ℤ) Refusal) → ValuesGive scale texts r → ValuesGive scale texts s → r ≡ s
values_one scale texts (Ok vs) (Ok ws) a b = ap Ok (have_one scale texts vs ws a.0 b.0)
values_one scale texts (Ok vs) (Err f) a b = absurd (not_refused scale texts vs f a b)
values_one scale texts (Err e) (Ok ws) a b = absurd (not_refused scale texts ws e b a)
values_one scale texts (Err e) (Err f) (inl (bad, never)) (inl (is, none)) = ap Err (bad ∙ sym is)
values_one scale texts (Err e) (Err f) (inl (bad, never)) (inr (is, all, have, out)) = absurd (never all have)
values_one scale texts (Err e) (Err f) (inr (range, all, have, out)) (inl (is, none)) = absurd (none all have)
values_one scale texts (Err e) (Err f) (inr (range, all, have, out)) (inr (is, others, there, past)) = ap Err (range ∙ sym is)

times_one : (text : List ℕ) (r s : Result ℕ Refusal) → TimeGives text r → TimeGives text s → r ≡ s
times_one text (Ok t) (Ok u) a b = let same : pos t ≡ pos u = sym a.1 ∙ b.1 in let is : t ≡ u = cc in ap Ok is
times_one text (Ok t) (Err f) a (inl (is, none)) = absurd (none a.0)
times_one text (Ok t) (Err f) a (inr (is, w, out)) = absurd (out a.2)
times_one text (Err e) (Ok u) (inl (is, none)) b = absurd (none b.0)
times_one text (Err e) (Ok u) (inr (is, w, out)) b = absurd (out b.2)
times_one text (Err e) (Err f) (inl (is, none)) (inl (so, never)) = ap Err (is ∙ sym so)
times_one text (Err e) (Err f) (inl (is, none)) (inr (so, w, out)) = absurd (none w)
times_one text (Err e) (Err f) (inr (is, w, out)) (inl (so, never)) = absurd (never w)
times_one text (Err e) (Err f) (inr (is, w, out)) (inr (so, v, past)) = ap Err (is ∙ sym so)

on_time_one : (scale : ℕ) (names values : List (List ℕ)) (a b : Asked) (ts : Result ℕ Refusal) → OnTime scale names values a ts → OnTime scale names values b ts → a ≡ b
on_time_one scale names values a b (Ok t) h k = h.2 ∙ (ap (λ vs. OnValues names t vs) (values_one scale values h.0 k.0 h.1 k.1) ∙ sym k.2)
on_time_one scale names values a b (Err e) h k = h ∙ sym k

names_same : (text : List ℕ) (a b : Option (List (List ℕ))) → Named text a → Named text b → a ≡ b
names_same text (Some a) (Some b) h k = ap Some (names_one text a b h k)
names_same text (Some a) None h k = absurd (k a h)
names_same text None (Some b) h k = absurd (h b k)
names_same text None None h k = refl

on_names_one : (scale : ℕ) (time : List ℕ) (values : List (List ℕ)) (a b : Asked) (names : Option (List (List ℕ))) → OnNames scale time values a names → OnNames scale time values b names → a ≡ b
on_names_one scale time values a b (Some names) h k = on_time_one scale names values a b k.0 (subst (OnTime scale names values a) (times_one time h.0 k.0 h.1 k.1) h.2) k.2
on_names_one scale time values a b None h k = h ∙ sym k

put_one : (scale : ℕ) (name time : List ℕ) (values : List (List ℕ)) (a b : Asked) → PutAsks scale name time values a → PutAsks scale name time values b → a ≡ b
put_one scale name time values a b (inl (differ, is)) (inl (apart, so)) = is ∙ sym so
put_one scale name time values a b (inl (differ, is)) (inr (same, names, named, on)) = absurd (differ same)
put_one scale name time values a b (inr (same, names, named, on)) (inl (apart, so)) = absurd (apart same)
put_one scale name time values a b (inr (same, names, named, on)) (inr (alike, others, are, then)) = on_names_one scale time values a b others (subst (OnNames scale time values a) (names_same name names others named are) on) then

query_asks_one : (text : List ℕ) (a b : Asked) → QueryAsks text a → QueryAsks text b → a ≡ b
query_asks_one text a b (inl (metric, selected, is, asked)) (inl (other, chosen, so, told)) = asked ∙ (ap Rows (query_one metric other (sym is ∙ so)) ∙ sym told)
query_asks_one text a b (inl (metric, selected, is, asked)) (inr (never, told)) = absurd (never metric selected is)
query_asks_one text a b (inr (never, asked)) (inl (other, chosen, so, told)) = absurd (never other chosen so)
query_asks_one text a b (inr (never, asked)) (inr (none, told)) = asked ∙ sym told

pub one_asking : (scale : ℕ) (m : Message) (a b : Asked) → Asks scale m a → Asks scale m b → a ≡ b
one_asking scale (message.Put name time values) a b h k = put_one scale name.bytes time.bytes (map (λ v. v.bytes) values) a b h k
one_asking scale (message.Query json) a b h k = query_asks_one json.bytes a b h k
one_asking scale message.Flush a b h k = h ∙ sym k
one_asking scale message.Unknown a b h k = h ∙ sym k

pub one_all : (scale : ℕ) (ms : List Message) (xs ys : List Asked) → AllAsk scale ms xs → AllAsk scale ms ys → xs ≡ ys
one_all scale [] xs ys h k = h ∙ sym k
one_all scale (m ∷ ms) xs ys h k = h.2 ∙ (ap₂ (λ x xs. x ∷ xs) (one_asking scale m h.0 k.0 h.3 k.3) (one_all scale ms h.1 k.1 h.4 k.4) ∙ sym k.2)

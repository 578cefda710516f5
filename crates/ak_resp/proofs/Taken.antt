-- A put that stands whole is read at once.
use Rattle.std.proofs.Common.{ℕ, ◌≡◌, ◌+◌, ◌≤◌, ◌++◌, List, [], ◌∷◌, min, length, take, drop, Ok, Option, Some, None, sym, ◌∙◌, ap, subst, arith, refl, take-append-drop, length-take-le}
use Rattle.std.proofs.lemmas.List.{drop-drop, length-drop}
use Rattle.ak_resp.specs.declared.message.Message.{Message}
use Rattle.ak_resp.specs.declared.spot.Spot.{Spot}
use Rattle.ak_resp.specs.declared.spot.Progress.{Progress}
use Rattle.ak_resp.specs.declared.spot.Progress.TheVariants.{Name, Time, Value, Item, Json}
use Rattle.ak_resp.specs.declared.spot.Within.{Within}
use Rattle.ak_resp.specs.declared.spot.Within.TheVariants.{Start, Simple, Integer, BulkHead, ArrayHead, BulkHeadEnd, ArrayHeadEnd, Content, PartEnd}
use Rattle.ak_resp.specs.Grammar.{Spells}
use Rattle.ak_resp.specs.Machine.{first}
use Rattle.ak_resp.specs.Rows.{Reads}
use Rattle.ak_resp.specs.Standing.{StandsFor, IsBegun, IsInside, is_refused, passed, last_place}
use Rattle.ak_resp.proofs.Complete.{message_goes}
use Rattle.ak_resp.proofs.Goes.{Goes}
use Rattle.ak_resp.proofs.Readers.{stands_after}
use Rattle.ak_resp.proofs.Runs.{spot, at, reader}
use Rattle.std.specs.Option.{IfSome}
use Rattle.ak_base.specs.declared.refusal.Refusal.{Refusal}
use Rattle.ak_resp.specs.declared.resp.Resp.{Resp}
use Rattle.ak_resp.specs.declared.puts.WholePut.{WholePut}
use Rattle.ak_resp.specs.Puts.{IsPutOf}

is_first_in : (p : Progress) (w : Within) (c begun : List ℕ) → ¬ (IsInside (spot p w c)) → IsBegun p w c begun → spot p w c ≡ first
is_first_in Name Start c begun h b = ap (spot Name Start) b.0
is_first_in Name Simple c begun h b = absurd (h tt)
is_first_in Name Integer c begun h b = absurd (h tt)
is_first_in Name (BulkHead d v) c begun h b = absurd (h tt)
is_first_in Name (ArrayHead d v) c begun h b = absurd (h tt)
is_first_in Name (BulkHeadEnd v) c begun h b = absurd (h tt)
is_first_in Name (ArrayHeadEnd v) c begun h b = absurd (h tt)
is_first_in Name (Content n) c begun h b = absurd (h tt)
is_first_in Name (PartEnd k) c begun h b = absurd (h tt)
is_first_in (Time n) w c begun h b = absurd (h tt)
is_first_in (Value n t) w c begun h b = absurd (h tt)
is_first_in (Item n t v l) w c begun h b = absurd (h tt)
is_first_in Json w c begun h b = absurd (h tt)

reads_first : (n k i : ℕ) (m : Message) (piece : List ℕ) → n ≤ last_place → i + k ≤ length piece → Spells (take k (drop i piece)) m →
    Reads (at first n) (at first (min (n + k) last_place)) (drop i piece) (drop (i + k) piece) (m ∷ [])
reads_first n k i m piece fits within spelled =
    let goes : Goes first first (take k (drop i piece)) (m ∷ []) = message_goes m (take k (drop i piece)) spelled in
    let long : length (take k (drop i piece)) ≡ k = length-take-le k (drop i piece) (omega (arith, length-drop i piece, within)) in
    record {
      taken = take k (drop i piece);
      split = sym (take-append-drop k (drop i piece)) ∙ ap (λ xs. take k (drop i piece) ++ xs) (drop-drop k i piece);
      state = goes.state n fits ∙ ap (λ j. at first (min (n + j) last_place)) long;
      says = goes.says n fits;
    }

pub stands_whole : (s : Spot) (n k i : ℕ) (m : Message) (piece : List ℕ) → n ≤ last_place → ¬ (IsInside s) → i + k ≤ length piece → Spells (take k (drop i piece)) m →
    (row : List ℕ) (ms : List Message) → StandsFor (at s n) (row ++ take i piece) ms → StandsFor (at s (min (n + k) last_place)) (row ++ take (i + k) piece) (ms ++ m ∷ [])
stands_whole s n k i m piece fits h within spelled row ms stands =
    let standing = (stands.sound refl).1 in
    let is : s ≡ first = is_first_in s.progress s.within s.bytes standing.begun h standing.part in
    let reads : Reads (at s n) (at s (min (n + k) last_place)) (drop i piece) (drop (i + k) piece) (m ∷ []) =
    subst (λ (t : Spot). Reads (at t n) (at t (min (n + k) last_place)) (drop i piece) (drop (i + k) piece) (m ∷ [])) (sym is) (reads_first n k i m piece fits within spelled) in
    stands_after (at s n) (at s (min (n + k) last_place)) piece i (i + k) (Ok (Some m)) (omega arith) within refl (reads, refl) row ms stands

pub put_stands : (r : Resp) (i : ℕ) (piece : List ℕ) (put : Option WholePut) → i ≤ length piece → r.refusal ≡ None → ¬ (IsInside r.spot) →
    IfSome put (λ p. p.length ≤ length (drop i piece)) → IfSome put (λ p. (m : Message) × IsPutOf p m × Spells (take p.length (drop i piece)) m) →
    IfSome put (λ p. (m : Message) × IsPutOf p m × ((row : List ℕ) (ms : List Message) → StandsFor r (row ++ take i piece) ms →
    StandsFor (passed r p.length) (row ++ take (i + p.length) piece) (ms ++ m ∷ [])))
put_stands r i piece None within none outside inside spelled = tt
put_stands r i piece (Some p) within none outside inside (m, is, spelled) = (
  m,
  is,
  λ row ms given.
      let place : r.place ≡ min (length (row ++ take i piece)) last_place = (given.sound (ap is_refused none)).2 in
      let stands = stands_whole r.spot r.place p.length i m piece (omega (arith, place)) outside (omega (arith, inside, length-drop i piece, within)) spelled in
      subst (λ (f : Option Refusal). StandsFor (reader r.spot (min (r.place + p.length) last_place) f) (row ++ take (i + p.length) piece) (ms ++ m ∷ [])) (sym none)
      (stands row ms (subst (λ (f : Option Refusal). StandsFor (reader r.spot r.place f) (row ++ take i piece) ms) none given)),
)

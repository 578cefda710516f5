-- What a piece and an end give, by the readers of their streams.
use Rattle.std.proofs.Common.{◌≡◌, ◌≢◌, ◌↔◌, ◌⊎◌, inl, inr, ℕ, ◌+◌, Bool, true, false, List, [], ◌∷◌, ◌++◌, take, drop, take-append-drop, Option, Some, None, refl, sym, ◌∙◌, ap, subst, append_assoc}
use Rattle.ak_base.specs.declared.refusal.Refusal.{Refusal}
use Rattle.ak_base.specs.declared.refusal.Refusal.TheVariants.{Cut}
use Rattle.ak_resp.specs.declared.message.Message.{Message}
use Rattle.ak_resp.specs.declared.resp.Resp.{Resp}
use Rattle.ak_resp.specs.Grammar.{IsOpen, SpellsRow, HasFaultAt}
use Rattle.ak_resp.specs.Standing.{StandsFor, HasRefusal, refusal_of, is_refused, is_faulted}
use Rattle.ak_resp.proofs.Readers.{reads_on, starts}
use Rattle.ak_resp.proofs.Rows.{one_split, one_refusal}
use Rattle.ak_run.specs.declared.asked.Asked.{Asked}
use Rattle.ak_run.specs.Asking.{AllAsk}
use Rattle.ak_run.specs.Contents.{after_all}
use Rattle.ak_run.specs.Replies.{Reply, refusal_reply, replies_to}
use Rattle.ak_run.specs.Run.{MeetsFault, PieceGives, IsCut, EndGives, fault_replies}
use Rattle.ak_run.proofs.EveryAsking.{every_all}
use Rattle.ak_world.specs.Worlds.{World as Store, limits_of}

-- ---- Streams

open_front : (row : List ℕ) (k : ℕ) → IsOpen row → IsOpen (take k row)
open_front row k is = (drop k row ++ is.0, is.1, subst (λ bytes. SpellsRow bytes is.1) (sym whole) is.2)
  where
    whole : take k row ++ (drop k row ++ is.0) ≡ row ++ is.0
    whole = sym (append_assoc (take k row) (drop k row) is.0) ∙ ap (λ (l : List ℕ). l ++ is.0) (take-append-drop k row)

pub closed_by : (row : List ℕ) (place : ℕ) → HasFaultAt row place → ¬ (IsOpen row)
closed_by row place fault is = fault.closed (open_front row (place + 1) is)

-- some reader has read these bytes
pub record IsRead (row : List ℕ) : Type 0 where
  pub reader : Resp
  pub messages : List Message
  pub stands : StandsFor reader row messages

pub some_reader : (row : List ℕ) → IsRead row
some_reader row =
    let on = reads_on starts.reader [] row [] starts.stands in
    record { reader = on.reader; messages = on.acting; stands = on.stands }

-- ---- Faults

-- the refusal that a stream meets, where it had none before
abbrev pub fault_from : Bool → Option Refusal → Option Refusal
fault_from true refusal = None
fault_from false refusal = refusal

none_some : (f : Refusal) → ◌≡◌ {A = Option Refusal} None (Some f) → ⊥
none_some f e = cc

met : (s : Resp) (row : List ℕ) (ns : List Message) (o : Option Refusal) (f : Refusal) (place : ℕ) → refusal_of s ≡ o → StandsFor s row ns → HasRefusal row place f → o ≡ Some f
met s row ns None f place is last has = absurd (closed_by row place has.has (last.sound (ap is_refused is)).0)
met s row ns (Some g) f place is last has =
    let q = last.refused g is in
    ap Some (one_refusal row q.0 place g f q.1 has).1

pub fault_met : (r s : Resp) (row bytes : List ℕ) (ms ns : List Message) (was : Bool) → is_faulted r ≡ was → StandsFor r row ms → StandsFor s (row ++ bytes) ns
    → (f : Refusal) → (fault_from was (refusal_of s) ≡ Some f) ↔ MeetsFault row bytes f
fault_met r s row bytes ms ns true was_is first last f =
    let old = first.faulty was_is in
    (λ e. absurd (none_some f e), λ meets. absurd (closed_by row old.0 old.1 meets.open_before))
fault_met r s row bytes ms ns false was_is first last f = (
  λ e. let q = last.refused f e in record { open_before = (first.sound was_is).0; place = q.0; refused = q.1 },
  λ meets. met s (row ++ bytes) ns (refusal_of s) f meets.place refl last meets.refused,
)

-- ---- Pieces

pub piece_gives : (port : ℕ) (content : Store) (r s : Resp) (row bytes : List ℕ) (ms acting : List Message) (asked : List Asked) → AllAsk (limits_of content).scale acting asked
    → StandsFor r row ms → StandsFor s (row ++ bytes) (ms ++ acting)
    → PieceGives port content row bytes (after_all content asked) (replies_to port content asked ++ fault_replies port (after_all content asked).worn (fault_from (is_faulted r) (refusal_of s)))
piece_gives port content r s row bytes ms acting asked asks first last = record {
  before = ms;
  acting = acting;
  rest = first.rest;
  rest_after = last.rest;
  was = first.splits;
  is = last.splits;
  asked = asked;
  asks = asks;
  fault = fault_from (is_faulted r) (refusal_of s);
  fault_is = fault_met r s row bytes ms (ms ++ acting) (is_faulted r) refl first last;
  next_is = refl;
  replies_are = refl;
}

-- what a piece gives
pub record SomePiece (port : ℕ) (content : Store) (stream bytes : List ℕ) : Type 0 where
  pub next : Store
  pub replies : List Reply
  pub gives : PieceGives port content stream bytes next replies

pub some_piece : (port : ℕ) (content : Store) (stream bytes : List ℕ) → SomePiece port content stream bytes
some_piece port content stream bytes =
    let r = some_reader stream in
    let on = reads_on r.reader stream bytes r.messages r.stands in
    let asks = every_all (limits_of content).scale on.acting in
    record { next = after_all content asks.0; replies = _; gives = piece_gives port content r.reader on.reader stream bytes r.messages on.acting asks.0 asks.1 r.stands on.stands }

-- ---- Ends

some_or_none : (xs : List ℕ) → (xs ≡ []) ⊎ (xs ≢ [])
some_or_none [] = inl refl
some_or_none (x ∷ xs) = inr (λ e. cc)

false_true : false ≡ true → ⊥
false_true e = cc

pub faulted_whole : (r : Resp) (stream : List ℕ) (ms : List Message) → StandsFor r stream ms → is_faulted r ≡ true → IsCut stream → ⊥
faulted_whole r stream ms stands faulted cut = let f = stands.faulty faulted in closed_by stream f.0 f.1 cut.open_stream

pub sound_cut : (r : Resp) (stream : List ℕ) (ms : List Message) (stands : StandsFor r stream ms) → is_faulted r ≡ false → (stands.rest ≢ []) ↔ IsCut stream
sound_cut r stream ms stands sound = (
  λ some. record { open_stream = (stands.sound sound).0; messages = ms; rest = stands.rest; splits = stands.splits; some = some },
  λ cut none. cut.some (sym ((one_split stream ms cut.messages stands.rest cut.rest stands.splits cut.splits).1) ∙ none),
)

end_by : (r : Resp) (stream : List ℕ) (ms : List Message) (stands : StandsFor r stream ms) (faulted : Bool) → is_faulted r ≡ faulted → (stands.rest ≡ []) ⊎ (stands.rest ≢ []) → (reply : List ℕ) × EndGives stream reply
end_by r stream ms stands true is empty = ([], (false, (λ e. absurd (false_true e), λ cut. absurd (faulted_whole r stream ms stands is cut)), refl))
end_by r stream ms stands false is (inl none) = ([], (false, (λ e. absurd (false_true e), λ cut. absurd ((sound_cut r stream ms stands is).1 cut none)), refl))
end_by r stream ms stands false is (inr some) = (refusal_reply Cut, (true, (λ e. (sound_cut r stream ms stands is).0 some, λ cut. refl), refl))

pub some_end : (stream : List ℕ) → (reply : List ℕ) × EndGives stream reply
some_end stream =
    let r = some_reader stream in
    end_by r.reader stream r.messages r.stands (is_faulted r.reader) refl (some_or_none r.stands.rest)

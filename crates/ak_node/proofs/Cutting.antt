-- Whether the end of a session is inside a message.
use Rattle.std.proofs.Common.{◌≡◌, ◌≢◌, ◌↔◌, ℕ, Bool, true, false, not, List, [], sym, ◌∙◌, ap}
use Rattle.ak_resp.specs.declared.message.Message.{Message}
use Rattle.ak_resp.specs.Standing.{StandsFor, is_faulted}
use Rattle.ak_run.specs.Run.{IsCut}
use Rattle.ak_run.proofs.Giving.{faulted_whole, sound_cut}
use Rattle.ak_node.specs.declared.session.Session.{Session}
use Rattle.ak_node.specs.Standing.{HasRead}

pub cut_is : (session : Session) (stream : List ℕ) (inside : Bool) (has : HasRead session stream) → session.faulted ≡ false
    → ((row : List ℕ) (ms : List Message) (s : StandsFor session.reader row ms) → is_faulted session.reader ≡ false → ((inside ≡ true) ↔ (s.rest ≢ []))) → (inside ≡ true) ↔ IsCut stream
cut_is session stream inside has flag says =
    let sound : is_faulted session.reader ≡ false = sym has.fault ∙ flag in
    let is = says stream has.messages has.stands sound in
    let cut = sound_cut session.reader stream has.messages has.stands sound in (λ h. cut.0 (is.0 h), λ c. is.1 (cut.1 c))

no_truth : false ≡ true → ⊥
no_truth e = cc

pub faulted_not_cut : (session : Session) (stream : List ℕ) (has : HasRead session stream) → session.faulted ≡ true → (not session.faulted ≡ true) ↔ IsCut stream
faulted_not_cut session stream has flag =
    (λ h. absurd (no_truth (sym (ap not flag) ∙ h)), λ cut. absurd (faulted_whole session.reader stream has.messages has.stands (sym has.fault ∙ flag) cut))

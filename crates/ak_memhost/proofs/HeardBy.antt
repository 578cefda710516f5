-- What a port was told, after one telling more.
use Rattle.std.proofs.Common.{◌≡◌, ◌≢◌, inl, inr, ℕ, zero, suc, true, false, List, [], ◌∷◌, ◌++◌, length, slice_index_or, slice_set, if◌then◌else◌, ◌==◌, refl, sym, ◌∙◌, ap, append_assoc, arith}
use Rattle.std.proofs.lemmas.Bool.{cases_eq, cases_Bool}
use Rattle.std.proofs.lemmas.Bool.Decides.{nat_tests}
use Rattle.std.proofs.lemmas.List.{append-nil}
use Rattle.ak_memhost.specs.Heard.{heard_by, IsNotBefore, IsFirstAt}
use Rattle.ak_host.specs.Marks.{Telling, told_to}
use Rattle.ak_memhost.specs.declared.heard.PortBytes.{PortBytes}

-- a telling more at the end of the list of all
pub told_to-push : (port : ℕ) (tellings : List Telling) (telling : Telling) → told_to port (tellings ++ telling ∷ []) ≡ told_to port tellings ++ (if telling.port == port then telling.bytes else [])
told_to-push port [] telling = append-nil _
told_to-push port (t ∷ tellings) telling =
    ap (λ l. (if t.port == port then t.bytes else []) ++ l) (told_to-push port tellings telling) ∙ sym (append_assoc (if t.port == port then t.bytes else []) (told_to port tellings) _)

-- a telling more in its port's buffer

same_port : (a b : ℕ) → a ≡ b → (a == b) ≡ true
same_port a b same = grind (arith, nat_tests)

other_port : (a b : ℕ) → a ≢ b → (a == b) ≡ false
other_port a b other = grind (arith, nat_tests)

abbrev pub told_of : ℕ → List ℕ → PortBytes
told_of port bytes = record { port = port; bytes = bytes }

-- an entry in place of one with the same port
entry_after : (p port : ℕ) (told : PortBytes) (bytes rest : List ℕ) → told.port ≡ port
    → (if port == p then told.bytes ++ bytes else rest) ≡ (if told.port == p then told.bytes else rest) ++ (if port == p then bytes else [])
entry_after p port told bytes rest is = elim (cases_Bool (port == p)) [
  | inl same ↦
      let also : (told.port == p) ≡ true = ap (λ q. q == p) is ∙ same in
      (λ i. if same i then told.bytes ++ bytes else rest) ∙ sym (λ i. (if also i then told.bytes else rest) ++ (if same i then bytes else []))
  | inr other ↦
      let also : (told.port == p) ≡ false = ap (λ q. q == p) is ∙ other in
      (λ i. if other i then told.bytes ++ bytes else rest) ∙ sym (append-nil rest) ∙ sym (λ i. (if also i then told.bytes else rest) ++ (if other i then bytes else []))
]

-- and one of another port
entry_before : (p port : ℕ) (told : PortBytes) (bytes rest : List ℕ) → told.port ≢ port
    → (if told.port == p then told.bytes else (rest ++ (if port == p then bytes else []))) ≡ (if told.port == p then told.bytes else rest) ++ (if port == p then bytes else [])
entry_before p port told bytes rest other = elim (cases_eq told.port p) [
  | inl here ↦
      let own : (told.port == p) ≡ true = same_port told.port p here in
      let not : (port == p) ≡ false = other_port port p (λ same. other (here ∙ sym same)) in
      (λ i. if own i then told.bytes else (rest ++ (if port == p then bytes else []))) ∙ sym (append-nil told.bytes) ∙ sym (λ i. (if own i then told.bytes else rest) ++ (if not i then bytes else []))
  | inr elsewhere ↦
      let own : (told.port == p) ≡ false = other_port told.port p elsewhere in
      (λ i. if own i then told.bytes else (rest ++ (if port == p then bytes else []))) ∙ sym (λ i. (if own i then told.bytes else rest) ++ (if port == p then bytes else []))
]

pub heard_by-set : (p port : ℕ) (ports : List PortBytes) (at : ℕ) (old : PortBytes) (bytes : List ℕ) → IsFirstAt port ports at → old ≡ slice_index_or ports at old
    → heard_by p (slice_set ports at (told_of old.port (old.bytes ++ bytes))) ≡ heard_by p ports ++ (if port == p then bytes else [])
heard_by-set p port [] at old bytes first is = absurd (omega (arith, first.within))
heard_by-set p port (told ∷ ports) zero old bytes first is =
    let here : old.port ≡ port = ap (λ (t : PortBytes). t.port) is ∙ first.here told in
    (λ i. if here i == p then (is i).bytes ++ bytes else heard_by p ports) ∙ entry_after p port told bytes (heard_by p ports) (first.here told)
heard_by-set p port (told ∷ ports) (suc at) old bytes first is =
    let rest : IsFirstAt port ports at = record { within = omega (arith, first.within); not_before = λ k d lt. first.not_before (suc k) d (omega arith); here = λ d. first.here d } in
    ap (λ l. if told.port == p then told.bytes else l) (heard_by-set p port ports at old bytes rest is) ∙ entry_before p port told bytes (heard_by p ports) (first.not_before 0 told (omega arith))

pub heard_by-push : (p port : ℕ) (ports : List PortBytes) (bytes : List ℕ) → IsNotBefore port ports (length ports)
    → heard_by p (ports ++ told_of port bytes ∷ []) ≡ heard_by p ports ++ (if port == p then bytes else [])
heard_by-push p port [] bytes none = refl
heard_by-push p port (told ∷ ports) bytes none =
    ap (λ l. if told.port == p then told.bytes else l) (heard_by-push p port ports bytes (λ k d lt. none (suc k) d (omega arith))) ∙ entry_before p port told bytes (heard_by p ports) (none 0 told (omega arith))

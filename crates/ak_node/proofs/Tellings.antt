-- What ports were told: one telling after another, and all at one port.
use Rattle.std.proofs.Common.{◌≡◌, ℕ, ◌≤◌, Bool, true, false, ◌==◌, if◌then◌else◌, List, [], ◌∷◌, ◌++◌, refl, sym, ◌∙◌, ap, subst, append_assoc, arith}
use Rattle.std.specs.List.{AllByRecursion}
use Rattle.std.proofs.lemmas.List.{append-nil}
use Rattle.std.proofs.lemmas.Bool.Decides.{nat_tests}
use Rattle.ak_host.specs.Marks.{Mark, Telling, after_reply, told_to}
use Rattle.ak_run.specs.Replies.{Reply, bytes_at}
use Rattle.ak_run.specs.Run.{to}
use Rattle.ak_node.specs.Calls.{Told, console_of}
use Rattle.ak_node.specs.Calls.{Begins}

-- ---- Tellings one after another

pub told_to-append : (port : ℕ) (xs ys : List Telling) → told_to port (xs ++ ys) ≡ told_to port xs ++ told_to port ys
told_to-append port [] ys = refl
told_to-append port (t ∷ xs) ys = ap (λ (l : List ℕ). (if t.port == port then t.bytes else []) ++ l) (told_to-append port xs ys) ∙ sym (append_assoc (if t.port == port then t.bytes else []) (told_to port xs) (told_to port ys))

both : (b : Bool) (x y : List ℕ) → (if b then x else []) ++ (if b then y else []) ≡ (if b then x ++ y else [])
both true x y = refl
both false x y = refl

none_at : (b : Bool) → ◌≡◌ {A = List ℕ} [] (if b then [] else [])
none_at true = refl
none_at false = refl

pub told_nothing : (mark : Mark) (port : ℕ) → Told mark mark port []
told_nothing mark port = record { tellings = []; turns_are = refl; tellings_are = sym (append-nil mark.tellings); told = λ at. none_at (port == at) }

pub told_more : {one two three : Mark} {port : ℕ} {x y : List ℕ} → Told one two port x → Told two three port y → Told one three port (x ++ y)
told_more {one} {two} {three} {port} {x} {y} first second = record {
  tellings = first.tellings ++ second.tellings;
  turns_are = second.turns_are ∙ first.turns_are;
  tellings_are = second.tellings_are ∙ ap (λ (l : List Telling). l ++ second.tellings) first.tellings_are ∙ append_assoc one.tellings first.tellings second.tellings;
  told = λ at. told_to-append at first.tellings second.tellings
      ∙ ap (λ (l : List ℕ). l ++ told_to at second.tellings) (first.told at)
      ∙ ap (λ (l : List ℕ). (if port == at then x else []) ++ l) (second.told at)
      ∙ both (port == at) x y;
}

-- ---- Parts of what is to be told

told_at : (b : Bool) (x y : List ℕ) → Begins x y → Begins (if b then x else []) (if b then y else [])
told_at true x y begins = begins
told_at false x y begins = record { rest = []; is = refl }

pub begins_nothing : (x : List ℕ) → Begins [] x
begins_nothing x = record { rest = x; is = refl }

pub begins_all : (x : List ℕ) → Begins x x
begins_all x = record { rest = []; is = sym (append-nil x) }

-- ---- All at one port

-- all replies are told at this port
abbrev pub AreAt : ℕ → List Reply → Type 0
AreAt port rs = AllByRecursion (λ r. r.port ≡ port) rs

pub same_port : (port : ℕ) → (port == port) ≡ true
same_port port = grind (arith, nat_tests)

one_port : (port at : ℕ) (r : Reply) → r.port ≡ port → (if r.port == at then r.bytes else []) ≡ (if port == at then r.bytes else [])
one_port port at r is = ap (λ (q : ℕ). if q == at then r.bytes else []) is

pub at_port : (port at : ℕ) (rs : List Reply) → AreAt port rs → bytes_at at rs ≡ (if port == at then bytes_at port rs else [])
at_port port at [] all = none_at (port == at)
at_port port at (r ∷ rs) all =
    (λ i. one_port port at r all.0 i ++ at_port port at rs all.1 i)
    ∙ both (port == at) r.bytes (bytes_at port rs)
    ∙ ap (λ (l : List ℕ). if port == at then l ++ bytes_at port rs else []) (sym (one_port port port r all.0 ∙ ap (λ (b : Bool). if b then r.bytes else []) (same_port port)))

-- what was told of this is a part of the answer
pub part_of : {start mark : Mark} {port : ℕ} {x : List ℕ} (rs : List Reply) (t : Told start mark port x) → AreAt port rs → Begins x (bytes_at port rs) → (at : ℕ) → Begins (told_to at t.tellings) (bytes_at at rs)
part_of {start} {mark} {port} {x} rs t all begins at =
    subst (λ l. Begins l (bytes_at at rs)) (sym (t.told at)) (subst (λ l. Begins (if port == at then x else []) l) (sym (at_port port at rs all)) (told_at (port == at) x (bytes_at port rs) begins))

pub all_of : {start mark : Mark} {port : ℕ} {x : List ℕ} (rs : List Reply) (t : Told start mark port x) → AreAt port rs → x ≡ bytes_at port rs → (at : ℕ) → told_to at t.tellings ≡ bytes_at at rs
all_of {start} {mark} {port} {x} rs t all is at = t.told at ∙ ap (λ (l : List ℕ). if port == at then l else []) is ∙ sym (at_port port at rs all)

-- no telling at another port than 0 is one at port 0
not_zero : (port : ℕ) → 1 ≤ port → (port == 0) ≡ false
not_zero port h = grind (arith, nat_tests)

pub not_console : {start mark : Mark} {port : ℕ} {x : List ℕ} (t : Told start mark port x) → 1 ≤ port → told_to 0 t.tellings ≡ []
not_console {start} {mark} {port} {x} t h = t.told 0 ∙ ap (λ (b : Bool). if b then x else []) (not_zero port h)

-- what is told at another port is nothing at the console
pub silent_reply : (mark : Mark) (port : ℕ) (bytes : List ℕ) → 1 ≤ port → console_of (after_reply mark port bytes) ≡ console_of mark
silent_reply mark port bytes some =
    told_to-append 0 mark.tellings (record { port = port; bytes = bytes } ∷ [])
    ∙ ap (λ (b : Bool). told_to 0 mark.tellings ++ ((if b then bytes else []) ++ [])) (not_zero port some)
    ∙ append-nil (told_to 0 mark.tellings)

-- ---- One reply

pub to_is : (port : ℕ) (x : List ℕ) → bytes_at port (to port x) ≡ x
to_is port x = ap (λ (b : Bool). (if b then x else []) ++ []) (same_port port) ∙ append-nil x

pub to_at : (port : ℕ) (x : List ℕ) → AreAt port (to port x)
to_at port x = (refl, tt)

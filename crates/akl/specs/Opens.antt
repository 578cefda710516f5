-- The files of a directory, each open or with the cause that it can't be used.
use Rattle.std.specs.Prelude.{◌≡◌, ℕ, zero, suc, Bool, true, false, List, [], ◌∷◌, map, get_or, Result, Ok, Err}
use Rattle.std.specs.declared.io.Error.{Error}
use Rattle.akl.specs.declared.real.directory.Opened.{Opened}
use Rattle.akl.specs.Calls.{Calls, are_names_settled, is_settled, is_in_doubt}

abbrev pub Opens : Type 0
Opens = List (Result Opened Error)

abbrev pub settles : Result Opened Error → Bool
settles (Ok opened) = opened.settled
settles (Err cause) = false

abbrev pub refuses : Result Opened Error → Bool
refuses (Ok opened) = false
refuses (Err cause) = true

-- whether the file is there and can't be used; whether it is open and counts as settled
abbrev pub is_refused : Opens → ℕ → Bool
is_refused files file = get_or (map refuses files) file false

abbrev pub is_marked : Opens → ℕ → Bool
is_marked files file = get_or (map settles files) file false

-- the files, of which one is given up for this cause
abbrev pub given_up : Opens → ℕ → Error → Opens
given_up [] file cause = []
given_up (f ∷ files) zero cause = Err cause ∷ files
given_up (f ∷ files) (suc file) cause = f ∷ given_up files file cause

abbrev pub with_mark : Result Opened Error → Result Opened Error
with_mark (Ok opened) = Ok (record opened { settled = true })
with_mark (Err cause) = Err cause

-- the files, of which one counts as settled where it is open
abbrev pub marked : Opens → ℕ → Opens
marked [] file = []
marked (f ∷ files) zero = with_mark f ∷ files
marked (f ∷ files) (suc file) = f ∷ marked files file

-- Names count as settled only where they are, and so do files. A file of which a sync failed can't be used any more.
pub record IsKept (settled : Bool) (files : Opens) (calls : Calls) : Type 0 where
  pub names : settled ≡ true → are_names_settled calls ≡ true
  pub marks : (file : ℕ) → is_marked files file ≡ true → is_settled file calls ≡ true
  pub doubts : (file : ℕ) → is_in_doubt file calls ≡ true → is_refused files file ≡ true

-- The calls of the system on a directory and its files.
use Rattle.std.specs.Prelude.{◌≡◌, ℕ, Bool, true, false, List, [], ◌∷◌, ◌++◌, ◌==◌, ◌&&◌, ◌||◌, ◌⊎◌, not, if◌then◌else◌}
use Rattle.std.specs.List.{list_any}
use Rattle.akl.specs.declared.real.system.SystemCall.{SystemCall}
use Rattle.akl.specs.declared.real.system.SystemCall.TheVariants.{Locked, Listed, OwnNameSynced, NamesSynced, Zeroed, ZerosSynced, Renamed, Synced, Dropped, Read}

-- in their order, each with whether it succeeded
abbrev pub Calls : Type 0
Calls = List (SystemCall × Bool)

-- the calls with one more
abbrev pub noted : Calls → SystemCall → Bool → Calls
noted calls call succeeded = calls ++ (call, succeeded) ∷ []

-- whether a call that passes the test succeeded, or failed
unfoldable pub has_done : (SystemCall → Bool) → Calls → Bool
has_done test calls = list_any (λ c. c.1 && test c.0) calls

unfoldable pub has_failed : (SystemCall → Bool) → Calls → Bool
has_failed test calls = list_any (λ c. not c.1 && test c.0) calls

abbrev pub is_own_name_synced : SystemCall → Bool
is_own_name_synced OwnNameSynced = true
is_own_name_synced _ = false

abbrev pub is_names_synced : SystemCall → Bool
is_names_synced NamesSynced = true
is_names_synced _ = false

abbrev pub is_renamed : ℕ → SystemCall → Bool
is_renamed file (Renamed f) = f == file
is_renamed file _ = false

abbrev pub is_synced : ℕ → SystemCall → Bool
is_synced file (Synced f) = f == file
is_synced file _ = false

abbrev pub is_dropped : ℕ → SystemCall → Bool
is_dropped file (Dropped f) = f == file
is_dropped file _ = false

-- All names were made to last: those in the directory, and its own.
abbrev pub are_names_settled : Calls → Bool
are_names_settled calls = has_done is_own_name_synced calls && has_done is_names_synced calls

-- A read of the file gives what a stop would leave: it was made here, or it was synced, and of `meta` the system's copies were given up.
abbrev pub is_settled : ℕ → Calls → Bool
is_settled file calls = has_done (is_renamed file) calls || (if file == 0 then has_done (is_dropped file) calls else has_done (is_synced file) calls)

-- A sync of the file failed, or a giving up of its copies.
abbrev pub is_in_doubt : ℕ → Calls → Bool
is_in_doubt file calls = has_failed (is_synced file) calls || has_failed (is_dropped file) calls

-- what a new file takes, in this order: zeros, and then a name, each of which is made to last
abbrev pub making : ℕ → Calls
making file = (Zeroed file, true) ∷ (ZerosSynced file, true) ∷ (Renamed file, true) ∷ (NamesSynced, true) ∷ []

-- The directory is locked, and listed then.
abbrev pub holding : Calls
holding = (Locked, true) ∷ (Listed, true) ∷ []

-- A new file is filled with zeros, which are made to last.
abbrev pub zeroing : ℕ → Calls
zeroing file = (Zeroed file, true) ∷ (ZerosSynced file, true) ∷ []

-- A file is synced, and of `meta` the system's copies are given up.
abbrev pub settling : ℕ → Calls
settling file = if file == 0 then (Synced file, true) ∷ (Dropped file, true) ∷ [] else (Synced file, true) ∷ []

-- The sync of a file failed, or it didn't and the giving up of the copies did.
abbrev pub HasFailedToSettle : ℕ → Calls → Calls → Type 0
HasFailedToSettle file old new = (new ≡ noted old (Synced file) false) ⊎ (new ≡ noted (noted old (Synced file) true) (Dropped file) false)

-- these were the last calls
abbrev pub EndsWith : Calls → Calls → Type 0
EndsWith last calls = (before : Calls) × (calls ≡ before ++ last)

-- The last call has read the file, once names and file were settled.
abbrev pub IsReadSettled : ℕ → Calls → Type 0
IsReadSettled file calls = (before : Calls) × (calls ≡ noted before (Read file) true) × (are_names_settled before ≡ true) × (is_settled file before ≡ true) × (is_in_doubt file before ≡ false)

-- The last call has synced the file. At the first sync of `meta` the system's copies were given up behind it.
abbrev pub IsSynced : ℕ → Calls → Type 0
IsSynced file calls = EndsWith (settling file) calls ⊎ EndsWith ((Synced file, true) ∷ []) calls

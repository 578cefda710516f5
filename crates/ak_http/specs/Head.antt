-- The head of a request: where it ends, what it says, and how long the body behind it is.
use Rattle.std.specs.Prelude.{ℕ, ◌≡◌, ◌-◌, ◌*◌, ◌+◌, ◌≤◌, ◌⊎◌, ◌++◌, List, [], ◌∷◌, Bool, false, not, ◌&&◌, if◌then◌else◌, nat_eq, nat_le, length, drop, map, codes, bytes_eq, Option, Some, None}
use Rattle.std.specs.Char.{to_ascii_lowercase, is_ascii_digit}
use Rattle.std.specs.List.{list_all, list_any, filter}
use Rattle.httparse.specs.Grammar.{RequestHead, ReadsRequest}
use Rattle.httparse.specs.Spans.{name_and_value}

-- ---- Where a head ends

-- The last bytes are LF LF or LF CR LF.
abbrev pub EndsInMark : List ℕ → Type 0
EndsInMark bytes = (drop (length bytes - 2) bytes ≡ 10 ∷ 10 ∷ []) ⊎ (drop (length bytes - 3) bytes ≡ 10 ∷ 13 ∷ 10 ∷ [])

-- No first part of the bytes ends in a mark.
abbrev pub HasNoMark : List ℕ → Type 0
HasNoMark bytes = (x y : List ℕ) → bytes ≡ x ++ y → ¬ (EndsInMark x)

-- The bytes end with the first mark in them, and are at most 8192.
pub record EndsHead (bytes : List ℕ) : Type 0 where
  pub marked : EndsInMark bytes
  pub first : (x y : List ℕ) → bytes ≡ x ++ y → EndsInMark x → y ≡ []
  pub short : length bytes ≤ 8192

-- ---- What a head says

-- The bytes are this head of the parser's grammar, whole, with at most 32 header lines.
abbrev pub IsHead : List ℕ → RequestHead → Type 0
IsHead bytes h = ReadsRequest bytes h [] × (length h.fields ≤ 32)

-- The bytes are no such head.
abbrev pub IsNoHead : List ℕ → Type 0
IsNoHead bytes = (h : RequestHead) → ¬ (IsHead bytes h)

-- the names and values of a head's lines, the values without spaces and tabs at their ends
abbrev pub names_and_values : RequestHead → List (List ℕ × List ℕ)
names_and_values h = map name_and_value h.fields

-- whether two names are alike, without regard to ASCII case
abbrev pub same_name : List ℕ → List ℕ → Bool
same_name a b = bytes_eq (map to_ascii_lowercase a) (map to_ascii_lowercase b)

-- ---- How long a body is

-- the number that digits stand for, behind others that stand for n
abbrev pub number_from : ℕ → List ℕ → ℕ
number_from n [] = n
number_from n (d ∷ ds) = number_from (n * 10 + (d - 48)) ds

-- the number of 1 to 10 digits, where it is at most 65,536
abbrev pub length_of : List ℕ → Option ℕ
length_of text =
    if nat_le 1 (length text) && nat_le (length text) 10 && list_all is_ascii_digit text && nat_le (number_from 0 text) 65536
    then Some (number_from 0 text) else None

abbrev pub transfer_encoding : List ℕ
transfer_encoding = codes "transfer-encoding"

abbrev pub content_length : List ℕ
content_length = codes "content-length"

abbrev pub is_same_length : Option ℕ → Option ℕ → Bool
is_same_length (Some n) (Some m) = nat_eq n m
is_same_length _ _ = false

-- what each of the lengths is: 0 where there is none, and nothing where one is bad or two differ
abbrev pub agreed : List (Option ℕ) → Option ℕ
agreed [] = Some 0
agreed (n ∷ ns) = if list_all (is_same_length n) ns then n else None

-- whether a known length is another than this one
abbrev pub differs : Option ℕ → ℕ → Bool
differs (Some m) n = not (nat_eq m n)
differs None n = false

-- what each line of this name says of the body's length
abbrev pub lengths : List (List ℕ × List ℕ) → List (Option ℕ)
lengths lines = map (λ line. length_of line.1) (filter (λ line. same_name line.0 content_length) lines)

-- the length of the body behind a head with these lines, where they give one
abbrev pub body_length : List (List ℕ × List ℕ) → Option ℕ
body_length lines = if list_any (λ line. same_name line.0 transfer_encoding) lines then None else agreed (lengths lines)

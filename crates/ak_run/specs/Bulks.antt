-- Bulks whose heads are written behind their texts, into a room that was left for them.
use Rattle.std.specs.Prelude.{ℕ, ◌≡◌, ◌≤◌, List, length, drop}
use Rattle.ak_run.specs.Replies.{bulk_reply}

-- how many bytes are left for a head: `$`, 20 digits at most, and CR LF
abbrev pub head_room : ℕ
head_room = 23

-- from this place on stands the text as a bulk
pub record IsBulkFrom (reply : List ℕ) (start : ℕ) (text : List ℕ) : Type 0 where
  pub within : start ≤ length reply
  pub is : drop start reply ≡ bulk_reply text

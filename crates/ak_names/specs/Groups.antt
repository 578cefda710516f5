-- Series that are grouped into tracks as far as they have come.
use Rattle.std.specs.Prelude.{ℕ, ◌≡◌, List, [], ◌∷◌, ◌++◌, Option}
use Rattle.ak_names.specs.Tracks.{firsts, grouped}
use Rattle.ak_names.specs.declared.tracks.Track.{Track}

-- Of series of which each has the name of its track, or none: these are the names of their tracks, and these the tracks.
pub record AreGrouped (named : List (Option (List ℕ))) (names : List (List ℕ)) (tracks : List Track) : Type 0 where
  pub names_are : names ≡ firsts named
  pub tracks_are : tracks ≡ grouped named

-- a track with a member more
abbrev pub with_member : ℕ → Track → Track
with_member n track = record { name = track.name; members = track.members ++ n ∷ [] }

use Rattle.std.proofs.Common.{◌≡◌}
use Rattle.ak_names.proofs.groups.Groups.into_tracks.Given as goal

abbrev pub invariant-loop-track : goal.invariant-loop-track
invariant-loop-track l = l.tracks ≡ l.yielded

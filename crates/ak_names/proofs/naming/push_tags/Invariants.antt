use Rattle.std.proofs.Common.{◌≡◌, ◌++◌, map, filter, string_bytes}
use Rattle.ak_names.specs.Names.{key_of}
use Rattle.ak_names.specs.Tracks.{is_among, spelled_tags}
use Rattle.ak_names.proofs.naming.push_tags.Given as goal

abbrev pub invariant-loop-tag : goal.invariant-loop-tag
invariant-loop-tag l = string_bytes l.text ≡ string_bytes l.fn.text ++ spelled_tags (filter (λ t. is_among (key_of t) l.keys) (map (λ x. x.now) l.yielded))

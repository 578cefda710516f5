use Rattle.std.proofs.Common.{◌≡◌, ◌<◌, String, Global, ◌∙◌, ◌∷◌, ◌++◌, [], map, string_bytes, bytes_eq, false, length, refl, sym, ap, ap₂, subst, true, Some, position, List, ℕ}
use Rattle.indexmap.proofs.MapLemmas.{OnOk-map}
use Rattle.std.proofs.Math.ListN.{set}
use Rattle.std.specs.List.{list_any}
use Rattle.ak_names.specs.declared.tracks.Track.{Track}
use Rattle.ak_names.specs.Groups.{AreGrouped}
use Rattle.ak_names.proofs.Keys.{added_last, any_texts}
use Rattle.ak_names.proofs.Grouped.{known_within, taken_known, taken_new, no_track, named_track}
use Rattle.ak_names.proofs.groups.Groups.add.Goals as goal

pub returns-in-Some : goal.returns-in-Some
returns-in-Some c = λ named groups many.
    let text = string_bytes c.args.name in
    let keys = c.args.self.now.names.keys in
    let place : Some c.in-Some.at ≡ position (λ (k : String Global). bytes_eq text (string_bytes k)) keys =
    subst (λ (t : List ℕ). Some c.in-Some.at ≡ position (λ (k : String Global). bytes_eq t (string_bytes k)) keys) c.as_str.ensures.value c.in-Some.ensures.index in
    let found : true ≡ list_any (λ (k : String Global). bytes_eq text (string_bytes k)) keys =
    subst (λ (t : List ℕ). true ≡ list_any (λ (k : String Global). bytes_eq t (string_bytes k)) keys) c.as_str.ensures.value c.in-Some.ensures.found in
    let within = known_within named text keys c.args.self.now.tracks.items c.in-Some.at groups place in
    OnOk-map c.push_member.result _ _ (λ change. taken_known named text keys c.args.self.now.tracks.items c.push_member.new.tracks.items c.in-Some.at c.args.series groups many place found (λ _. change)) (c.push_member.ensures no_track within)

pub returns : goal.returns
returns c = λ named groups many.
    let text = string_bytes c.args.name in
    let keys = c.args.self.now.names.keys in
    let found : false ≡ list_any (λ (k : String Global). bytes_eq text (string_bytes k)) keys =
    subst (λ (t : List ℕ). false ≡ list_any (λ (k : String Global). bytes_eq t (string_bytes k)) keys) c.as_str.ensures.value c.in_default.ensures.found in
    let last : map string_bytes c.insert.new.self.keys ≡ map string_bytes keys ++ text ∷ [] =
    ap (map string_bytes) c.in_ok-insert.ensures.keys ∙ added_last c.args.name keys text refl (any_texts text keys ∙ sym found) in
    let one : c.in_ok-track_of_one.field-0 ≡ record { name = text; members = length named ∷ [] } =
    named_track c.in_ok-track_of_one.field-0 text c.args.series (length named) (c.in_ok-track_of_one.ensures.0 ∙ c.as_str-2.ensures.value) c.in_ok-track_of_one.ensures.1 many in
    let new = taken_new named text keys (map string_bytes c.insert.new.self.keys) c.args.self.now.tracks.items c.in_ok-track_of_one.field-0 groups found last one in
    subst (λ (ts : List Track). AreGrouped (named ++ Some text ∷ []) (map string_bytes c.insert.new.self.keys) ts) (sym c.in_ok-push.ensures.items) new

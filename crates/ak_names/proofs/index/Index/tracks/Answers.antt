use Rattle.std.proofs.Common.{◌≡◌, ◌∙◌, ◌++◌, ◌+◌, ◌∷◌, [], List, ℕ, Option, length, map, take, string_bytes, sym, ap, subst, arith}
use Rattle.std.proofs.lemmas.List.{length-map, length-take}
use Rattle.ak_names.specs.Tracks.{tracked}
use Rattle.ak_names.specs.Groups.{AreGrouped}
use Rattle.ak_names.proofs.Grouped.{tracked_more}
use Rattle.ak_names.proofs.index.Index.tracks.Goals as goal

pub loop-n-preserved : goal.loop-n-preserved
loop-n-preserved c = λ keys is.
    let g = tracked c.args.of.now c.args.wheres.now keys in
    let before = take c.loop-n.n c.texts-name-items.result.now in
    let named = map g (map string_bytes before) in
    let many : c.loop-n.n ≡ length named = rw (length-map (map string_bytes before) g, length-map before string_bytes) (omega (arith, length-take c.loop-n.n c.texts-name-items.result.now)) in
    let more : named ++ g c.as_str.result.now ∷ [] ≡ map g (map string_bytes (take (c.loop-n.n + 1) c.texts-name-items.result.now)) =
    tracked_more g c.texts-name-items.result.now c.loop-n.n _ c.as_str.result.now c.loop-n-test.true (c.as_str.ensures.value ∙ ap string_bytes c.name-item.is) in
    subst (λ (ns : List (Option (List ℕ))). AreGrouped ns (map string_bytes c.take.new.self.names.keys) c.take.new.self.tracks.items) more (c.in_ok-take.ensures keys is named (c.loop-n.invariant keys is) many)

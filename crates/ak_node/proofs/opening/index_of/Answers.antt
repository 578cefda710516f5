use Rattle.std.proofs.Common.{◌≡◌, length, get_or, sym, ap, subst, arith, List, ℕ, false, bytes_eq}
use Rattle.std.specs.List.{list_any, IsDistinct}
use Rattle.ak_meta.specs.Contents.{names_of}
use Rattle.ak_meta.specs.declared.meta.SeriesMeta.{SeriesMeta}
use Rattle.ak_node.proofs.Starting.{new_name, names_most}
use Rattle.ak_node.proofs.opening.index_of.Goals as goal

pub add-requires-clause-new : goal.add-requires-clause-new
add-requires-clause-new g =
    let all = g.series-all.result.now in
    let i = g.loop-known.known-index in
    let apart : IsDistinct bytes_eq (names_of all) = subst (λ (l : List SeriesMeta). IsDistinct bytes_eq (names_of l)) (sym g.series-all.ensures) g.requires.apart in
    let none = new_name all g.known-item.result i apart g.loop-known-test.true in
    subst (λ (s : SeriesMeta). list_any (λ n. bytes_eq s.name n) g.loop-known.index ≡ false) (sym g.known-item.is)
    (subst (λ (l : List (List ℕ)). list_any (λ n. bytes_eq (get_or all i g.known-item.result).name n) l ≡ false) (sym g.loop-known.invariant.names) none)

pub add-requires-clause-room : goal.add-requires-clause-room
add-requires-clause-room g =
    let all = g.series-all.result.now in
    let i = g.loop-known.known-index in
    omega (arith, ap length g.loop-known.invariant.names, names_most all i, g.loop-known-test.true, ap length g.series-all.ensures, g.requires.few)

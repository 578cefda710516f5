use Rattle.std.proofs.Common.{ℕ, ◌≡◌, ◌∙◌, ◌+◌, ◌++◌, ◌∷◌, [], List, drop, bytes_eq, true, false, sym, ap, append_assoc}
use Rattle.std.specs.List.{list_any}
use Rattle.ak_meta.specs.Contents.{names_of}
use Rattle.ak_node.specs.Names.{with_all, levels_with}
use Rattle.ak_node.proofs.Looking.{knows, names_more}
use Rattle.ak_node.proofs.Adding.{forest_next, room_next, next_new, next_known, levels_new, levels_known, last_stays, known_next, added_next, known_added, new_added, all_added, is_new, is_among}
use Rattle.ak_tree.specs.Standing.{Trees}
use Rattle.ak_node.proofs.puts.add_names.Goals.{then-is_none+in_ok-add_name, else-is_none}
use Rattle.ak_node.proofs.puts.add_names.Goals as goal

pub add_name-requires-clause-new : goal.add_name-requires-clause-new
add_name-requires-clause-new c = is_new c.loop-name.keeper.names c.name-item.result c.id.result c.is_none.result c.id.ensures c.is_none.ensures c.if-is_none.true

pub add_name-requires-clause-room : goal.add_name-requires-clause-room
add_name-requires-clause-room c =
    let name = c.name-item.result in
    let new = is_new c.loop-name.keeper.names name c.id.result c.is_none.result c.id.ensures c.is_none.ensures c.if-is_none.true in
    room_next c.loop-name.keeper.forest.meta c.args.keeper.now.forest.meta c.args.names.now c.loop-name.name-index name _ c.loop-name-test.true c.name-item.is
    (ap (λ (ns : List (List ℕ)). list_any (λ n. bytes_eq name n) ns) (sym c.loop-name.invariant.index) ∙ new) c.loop-name.invariant.rest c.loop-name.invariant.limits c.requires.room

pub loop-name-preserved : goal.loop-name-preserved
loop-name-preserved c =
    let first = c.args.keeper.now in
    let now = c.loop-name.keeper in
    let names = c.args.names.now in
    let i = c.loop-name.name-index in
    let name = c.name-item.result in
    let before = c.loop-name.invariant in
    elim c.if-is_none.branch [
      | then-is_none+in_ok-add_name b ↦
          let new = b.add_name.new.keeper in
          let put = b.in_ok-add_name.ensures in
          let other : knows now.forest.meta name ≡ false =
          ap (λ (ns : List (List ℕ)). list_any (λ n. bytes_eq name n) ns) (sym before.index) ∙ is_new now.names name c.id.result c.is_none.result c.id.ensures c.is_none.ensures b.if-is_none.true in
          rw b.keeper-is (record {
            index = put.index ∙ ap (λ (ns : List (List ℕ)). ns ++ name ∷ []) before.index ∙ sym (ap (λ (t : Trees). names_of t.meta.series) put.forest ∙ names_more now.forest.meta name);
            longer = (before.longer.0 ++ name ∷ [], put.index ∙ ap (λ (ns : List (List ℕ)). ns ++ name ∷ []) before.longer.1 ∙ append_assoc first.names before.longer.0 (name ∷ []));
            known = added_next now.names new.names names i name _ c.loop-name-test.true c.name-item.is put.index before.known;
            rest = ap (λ (t : Trees). with_all t.meta (drop (i + 1) names)) put.forest ∙ next_new now.forest.meta first.forest.meta names i name _ c.loop-name-test.true c.name-item.is other before.rest;
            waits = ap (λ (t : Trees). levels_with t.meta t.levels (drop (i + 1) names)) put.forest
                ∙ levels_new now.forest.meta first.forest.meta now.forest.levels first.forest.levels names i name _ c.loop-name-test.true c.name-item.is other before.waits;
            forest = forest_next first.forest now.forest new.forest name put.forest before.forest;
            limits = ap (λ (t : Trees). t.meta.limits) put.forest ∙ before.limits;
            last = λ n. last_stays now.forest new.forest name n put.forest ∙ before.last n;
            keeps = λ content keeps.
                let so_far = before.keeps content keeps in
                new_added content names now.forest new.forest i name _ c.loop-name-test.true c.name-item.is so_far (put.keeps so_far.now so_far.keeps);
          })
      | else-is_none b ↦
          let here = is_among now.names name c.id.result c.is_none.result c.id.ensures c.is_none.ensures b.if-is_none.false in
          let some : knows now.forest.meta name ≡ true = ap (λ (ns : List (List ℕ)). list_any (λ n. bytes_eq name n) ns) (sym before.index) ∙ here in
          rw b.keeper-is (record {
            index = before.index;
            longer = before.longer;
            known = known_next now.names names i name _ c.loop-name-test.true c.name-item.is here before.known;
            rest = next_known now.forest.meta first.forest.meta names i name _ c.loop-name-test.true c.name-item.is some before.rest;
            waits = levels_known now.forest.meta first.forest.meta now.forest.levels first.forest.levels names i name _ c.loop-name-test.true c.name-item.is some before.waits;
            forest = before.forest;
            limits = before.limits;
            last = before.last;
            keeps = λ content keeps. known_added content names now.forest i name _ c.loop-name-test.true c.name-item.is some (before.keeps content keeps);
          })
    ]

pub returns-clause-keeps : goal.returns-clause-keeps
returns-clause-keeps c content keeps =
    all_added content c.args.names.now c.loop-name.keeper.forest c.loop-name.name-index c.loop-name-test.false (c.loop-name.invariant.keeps content keeps)

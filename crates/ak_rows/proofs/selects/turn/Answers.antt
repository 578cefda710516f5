use Rattle.std.proofs.Common.{◌≡◌, ◌∙◌, ℕ, Bool, map, set, sym, subst, List, length, refl, get_or}
use Rattle.std.specs.List.{AllByRecursion}
use Rattle.std.specs.Result.{IfOk}
use Rattle.ak_rows.specs.Ahead.{AreLater}
use Rattle.ak_rows.specs.Starts.{lists}
use Rattle.ak_rows.specs.Tracks.{no_lanes, AreAllLater, IsTurned}
use Rattle.ak_rows.specs.declared.points.Lane.{Lane}
use Rattle.ak_rows.proofs.AllTracks.{all_later_set, turned_ok, lists_set, lists_at, refilled}
use Rattle.ak_rows.proofs.Lanes.{later_length}
use Rattle.ak_rows.proofs.selects.turn.Goals as goal

pub returns-clause-later : goal.returns-clause-later
returns-clause-later g c =
    let here : get_or (lists c.args.tracks.now) c.args.at no_lanes ≡ c.as_mut_slice.result.now =
    lists_at c.args.tracks.now.items c.args.at c.index_mut.result.now c.as_mut_slice.result.now c.requires.within c.index_mut.ensures.value c.as_mut_slice.ensures.value in
    let later : AreLater c.as_mut_slice.result.now c.take_select.new.lanes = c.take_select.ensures.later in
    let long : length c.take_select.new.lanes ≡ c.index_mut.result.now.len = later_length c.as_mut_slice.result.now c.take_select.new.lanes later ∙ c.as_mut_slice.ensures.len in
    subst (λ (us : List (List Lane)). AreAllLater (lists c.args.tracks.now) us) (sym (lists_set c.args.tracks.now.items c.args.at _ c.take_select.new.lanes (refilled c.index_mut.result.now.len c.take_select.new.lanes c.index_mut.result.now.items long)))
    (all_later_set (lists c.args.tracks.now) c.args.at c.take_select.new.lanes c.requires.within (subst (λ (ls : List Lane). AreLater ls c.take_select.new.lanes) (sym here) later))

pub returns-clause-turned : goal.returns-clause-turned
returns-clause-turned g c =
    let here : get_or (lists c.args.tracks.now) c.args.at no_lanes ≡ c.as_mut_slice.result.now =
    lists_at c.args.tracks.now.items c.args.at c.index_mut.result.now c.as_mut_slice.result.now c.requires.within c.index_mut.ensures.value c.as_mut_slice.ensures.value in
    let later : AreLater c.as_mut_slice.result.now c.take_select.new.lanes = c.take_select.ensures.later in
    let long : length c.take_select.new.lanes ≡ c.index_mut.result.now.len = later_length c.as_mut_slice.result.now c.take_select.new.lanes later ∙ c.as_mut_slice.ensures.len in
    turned_ok c.take_select.result c.args.back _ _ _ c.args.at c.take_select.new.row (lists c.args.tracks.now) _ c.as_mut_slice.result.now c.take_select.new.lanes here
    (lists_set c.args.tracks.now.items c.args.at _ c.take_select.new.lanes (refilled c.index_mut.result.now.len c.take_select.new.lanes c.index_mut.result.now.items long)) later
    c.take_select.ensures.taken c.take_select.ensures.order c.take_select.ensures.ended

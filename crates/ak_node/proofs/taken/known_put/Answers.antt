use Rattle.std.proofs.Common.{ℕ, ◌∷◌, [], rules, subst}
use Rattle.ak_run.specs.declared.asked.Asked.TheVariants.{Points}
use Rattle.ak_run.specs.Asking.{Asks}
use Rattle.ak_node.specs.Taken.{IsInTime}
use Rattle.ak_node.proofs.KnownPuts.{index_canonical, within}
use Rattle.ak_node.proofs.taken.known_put.Goals as goal

pub named_one-requires-clause-canonical : goal.named_one-requires-clause-canonical
named_one-requires-clause-canonical c = index_canonical c.args.keeper.now.names c.args.keeper.now.forest c.requires.index c.room.ensures.rules

pub returns : goal.returns
returns c =
    let keeper = c.args.keeper.now in
    let put = c.in_ok-put.put in
    let point = c.in_ok-point.point in
    let one = c.in_ok-series.ensures in
    let stands = c.in_ok-put.ensures.stands in
    let in_time : IsInTime keeper.forest c.in_ok-series.series point.ts = search rules in
    record {
      within = c.in_ok-put.ensures.within;
      some = c.in_ok-put.ensures.moves;
      sound = c.in_ok-put.ensures.sound;
      series = within keeper.names put.name.text.now c.in_ok-series.series one;
      in_time = in_time;
      message = stands.0;
      stands = stands.2;
      name = one.name;
      place = one.place;
      asks = subst (λ (n : ℕ). Asks n stands.0 (Points (one.name ∷ []) point.ts (point.value ∷ []))) c.scale.ensures.is (c.in_ok-point.ensures.some one.name stands.0 one.named stands.1);
    }

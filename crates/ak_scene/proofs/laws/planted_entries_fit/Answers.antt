use Rattle.ak_scene.proofs.FromLaid.{fit_from}
use Rattle.ak_scene.proofs.laws.planted_entries_fit.Goals as goal

pub returns : goal.returns
returns c = fit_from

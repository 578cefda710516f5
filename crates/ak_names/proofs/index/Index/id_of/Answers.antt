use Rattle.std.proofs.Common.{position, bytes_eq, sym, ◌∙◌, ap}
use Rattle.ak_names.proofs.Keys.{unknown_text}
use Rattle.ak_names.proofs.index.Index.id_of.Goals as goal

pub returns-in-Err : goal.returns-in-Err
returns-in-Err c =
    sym (ap (position (λ n. bytes_eq c.args.name.now n)) (sym c.self.view_is) ∙ unknown_text c.args.name.now c.self.inside.names.keys c.in-Err.ensures.cases.0)

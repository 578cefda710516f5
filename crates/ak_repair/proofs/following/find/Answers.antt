use Rattle.std.proofs.Common.{ℕ, ◌≡◌, sym, subst}
use Rattle.std.specs.Result.{IfErr}
use Rattle.ak_image.specs.Blocks.{seen_in}
use Rattle.ak_image.specs.Named.{IsNoNode}
use Rattle.ak_repair.specs.Reads.{IsReadStop}
use Rattle.ak_volumes.specs.Ordinals.{ordinal_of, index_of, file_of}
use Rattle.ak_repair.proofs.following.find.Goals as goal

pub returns-then-line-eq0-clause-stops : goal.returns-then-line-eq0-clause-stops
returns-then-line-eq0-clause-stops g c =
    let o = c.args.reach.now.volumes.now in
    let old = g.D.Outside.state c.args.reach.now.disk.now in
    let at = c.args.at.0 in
    subst (λ (level : ℕ). IfErr c.find_leaf.result (IsReadStop
    (λ file block. (file ≡ file_of o (ordinal_of at)) × (block ≡ index_of at) × (g.D.Outside.tells → IsNoNode (seen_in o.volumes old.files) c.args.line.series level c.args.number at))
    old (g.D.Outside.state c.find_leaf.new.reach.disk.now))) (sym c.if-line-eq0.true) c.find_leaf.ensures.stops

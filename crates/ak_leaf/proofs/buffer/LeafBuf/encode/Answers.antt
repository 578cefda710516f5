use Rattle.std.proofs.Common.{◌≡◌, ◌+◌, ◌∙◌, List, ap, subst, arith}
use Rattle.ak_base.specs.declared.point.Point.{Point}
use Rattle.ak_bytes.specs.Fields.{IsPut}
use Rattle.std.specs.List.{AllByRecursion}
use Rattle.ak_base.specs.Points.{IsPoint, IsHistory}
use Rattle.ak_leaf.specs.Spelling.{spelling, leaf_size}
use Rattle.ak_leaf.proofs.Blocks.{body_within, encoded}
use Rattle.ak_leaf.proofs.buffer.LeafBuf.encode.Goals as goal

pub returns : goal.returns
returns c =
    let same : c.as_slice.result.now ≡ c.args.self.now = c.as_slice.ensures.value ∙ c.self.view_is in
    let end = c.put_points-end.result in
    let history : IsHistory c.args.self.now = subst IsHistory c.self.view_is c.self.invariant.0.history in
    let within = body_within c.args.head.now c.requires.head c.requires.kind in
    let ends : end ≡ 64 + leaf_size c.args.self.now = c.put_points-end.ensures.end ∙ ap (λ (l : List Point). 64 + leaf_size l) same in
    let put : IsPut c.put_head.new.into c.put_points-end.new.into 64 end (spelling c.args.self.now) = subst (λ (l : List Point). IsPut c.put_head.new.into c.put_points-end.new.into 64 end (spelling l)) same c.put_points-end.ensures.put in
    record {
      head = c.requires;
      history = history;
      each = subst (AllByRecursion IsPoint) c.self.view_is c.self.invariant.0.each;
      spelled = encoded c.args.head.now c.args.self.now c.args.into.now c.put_head.new.into c.put_points-end.new.into c.clear.new.bytes end (omega arith) c.put_head.ensures ends (omega (arith, ends, within, c.requires.bytes)) put c.clear.ensures;
    }

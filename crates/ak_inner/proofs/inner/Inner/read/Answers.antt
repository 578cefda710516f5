use Rattle.std.proofs.Common.{◌≡◌, ◌-◌, ◌∙◌, List, sym, subst, arith, rules}
use Rattle.ak_inner.specs.References.{AreRefs}
use Rattle.ak_inner.specs.declared.reference.Ref.{Ref}
use Rattle.ak_inner.proofs.Nodes.{inner_head, node_back, read_same}
use Rattle.ak_inner.proofs.inner.Inner.read.Goals as goal
use Rattle.ak_inner.proofs.inner.Inner.read.Goals.{else-are_refs-via-then-are_refs+else-is_zero, else-are_refs-via-else-are_refs}

pub returns-clause-none : goal.returns-clause-none
returns-clause-none c f rs s =
    let from = c.args.from.now in
    let head = c.args.head.now in
    let inner = inner_head head c.requires.head c.requires.kind in
    let end = c.get_refs-end.result in
    let same : rs ≡ c.get_refs-end.new.self = read_same from head c.get_refs-end.new.self rs end c.get_refs-end.ensures.end c.get_refs-end.ensures.count c.refs.ensures.fits c.requires.front c.get_refs-end.ensures.front s in
    let refs : AreRefs head.level c.refs.result.now = subst (λ (l : List Ref). AreRefs head.level l) (same ∙ sym c.refs.ensures.refs) s.refs in
    elim c.else-are_refs.branch [
      | else-are_refs-via-then-are_refs+else-is_zero w ↦
          let zeros = w.is_zero.ensures.1 (node_back from head rs end (4096 - end) (omega arith) c.get_refs-end.ensures.end (omega (arith, c.get_refs-end.ensures.end, inner.count)) (omega arith) s) in
          search (rules, w.if-is_zero.false, zeros)
      | else-are_refs-via-else-are_refs w ↦ search (rules, w.if-are_refs.false, c.are_refs.ensures.1 refs)
    ]

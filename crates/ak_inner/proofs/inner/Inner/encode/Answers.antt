use Rattle.std.proofs.Common.{◌≡◌, ◌+◌, ◌*◌, ◌++◌, ◌∙◌, List, ap, take, length, arith}
use Rattle.std.specs.List.{flat_map}
use Rattle.ak_inner.specs.References.{ref_bytes}
use Rattle.ak_inner.specs.declared.reference.Ref.{Ref}
use Rattle.ak_inner.proofs.Nodes.{encoded}
use Rattle.ak_inner.proofs.inner.Inner.encode.Goals as goal

pub returns-clause-bytes : goal.returns-clause-bytes
returns-clause-bytes c =
    let end = c.put_refs-end.result in
    let ends : end ≡ 64 + 104 * length c.args.self.now = c.put_refs-end.ensures.end ∙ ap (λ (l : List Ref). 64 + 104 * length l) c.refs.ensures.refs in
    let front = c.put_refs-end.ensures.front ∙ ap (λ (l : List Ref). take 64 c.put_head.new.into ++ flat_map ref_bytes l) c.refs.ensures.refs in
    encoded c.args.head.now c.args.self.now c.args.into.now c.put_head.new.into c.put_refs-end.new.into c.clear.new.bytes end (omega arith) c.put_head.ensures ends (omega (arith, ends, c.refs.ensures.most)) front c.clear.ensures

pub returns-clause-spells : goal.returns-clause-spells
returns-clause-spells c is refs = record { head = is; of = c.requires; fits = c.refs.ensures.fits; refs = refs; spelled = returns-clause-bytes c }

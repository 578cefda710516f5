use Rattle.std.proofs.Common.{◌∙◌, ◌++◌, ◌∷◌, [], ap, subst, slice_set, length, List, ℕ, if◌then◌else◌, ◌==◌}
use Rattle.ak_memhost.specs.Heard.{heard_by, IsFirstAt, IsNotBefore}
use Rattle.ak_memhost.specs.declared.heard.PortBytes.{PortBytes}
use Rattle.ak_memhost.proofs.HeardBy.{told_of, heard_by-set, heard_by-push}
use Rattle.ak_memhost.proofs.Outcomes.{on_ok_then}
use Rattle.ak_memhost.proofs.heard.Heard.tell.Goals as goal

pub returns-in-Some-clause-ok : goal.returns-in-Some-clause-ok
returns-in-Some-clause-ok c =
    let ports = c.self.inside.ports.items in
    let told = c.index_mut-told.result.now in
    let first : IsFirstAt c.args.port ports c.in-Some.i = subst (λ items. IsFirstAt c.args.port items c.in-Some.i) c.deref.ensures.value c.in-Some.ensures in
    on_ok_then c.extend.result c.extend.ensures.ok (λ is p.
    ap (λ (bytes : List ℕ). heard_by p (slice_set ports c.in-Some.i (told_of told.port bytes))) is
    ∙ heard_by-set p c.args.port ports c.in-Some.i told c.args.bytes.now first c.index_mut-told.ensures.value
    ∙ ap (λ (items : List PortBytes). heard_by p items ++ (if c.args.port == p then c.args.bytes.now else [])) c.self.view_is)

pub returns-in_ok-push-in-None-clause-ok : goal.returns-in_ok-push-in-None-clause-ok
returns-in_ok-push-in-None-clause-ok c p =
    let ports = c.self.inside.ports.items in
    let none : IsNotBefore c.args.port ports (length ports) = subst (λ items. IsNotBefore c.args.port items (length items)) c.deref.ensures.value c.in-None.ensures in
    ap (heard_by p) (c.in_ok-push-in-None.ensures.items ∙ ap (λ (bytes : List ℕ). ports ++ told_of c.args.port bytes ∷ []) c.in_ok-bytes-in-None.ensures)
    ∙ heard_by-push p c.args.port ports c.args.bytes.now none
    ∙ ap (λ (items : List PortBytes). heard_by p items ++ (if c.args.port == p then c.args.bytes.now else [])) c.self.view_is

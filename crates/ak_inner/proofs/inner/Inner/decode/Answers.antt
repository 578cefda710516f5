use Rattle.std.proofs.Common.{◌≡◌, List, sym, ap, subst, rules, ◌∙◌}
use Rattle.ak_bytes.specs.declared.head.Head.{Head}
use Rattle.ak_bytes.proofs.Heads.{head_same}
use Rattle.ak_inner.specs.Nodes.{SpellsInner}
use Rattle.ak_inner.specs.declared.reference.Ref.{Ref}
use Rattle.ak_inner.proofs.Nodes.{if_none, parts_of}
use Rattle.ak_inner.proofs.inner.Inner.decode.Goals as goal
use Rattle.ak_inner.proofs.inner.Inner.decode.Goals.{else-is_asked-via-then-is_asked+else-read, else-is_asked-via-else-is_asked}

pub returns-in_err-head-clause-none : goal.returns-in_err-head-clause-none
returns-in_err-head-clause-none c =
    let none : (head : Head) (rs : List Ref) → SpellsInner c.args.from.now head rs → head.level ≡ c.args.level → head.series ≡ c.args.series → head.number ≡ c.args.number → head.addr ≡ c.args.addr → ⊥ =
    λ head rs s level series number addr. let parts = parts_of c.args.from.now head rs s.spelled in c.in_err-head.ensures.none head s.head parts.front in
    if_none _ _ none

pub returns-else-is_asked-clause-none : goal.returns-else-is_asked-clause-none
returns-else-is_asked-clause-none c head rs s level series number addr =
    let parts = parts_of c.args.from.now head rs s.spelled in
    let read = c.in_ok-head.ensures.some in
    let same : c.in_ok-head.head ≡ head = head_same c.in_ok-head.head head read.0 s.head (sym read.1 ∙ parts.front) in
    let mine : SpellsInner c.args.from.now c.in_ok-head.head rs = subst (λ (h : Head). SpellsInner c.args.from.now h rs) (sym same) s in
    let asked = c.is_asked.ensures.1 (mine.of.kind, ap (λ (h : Head). h.level) same ∙ level, ap (λ (h : Head). h.series) same ∙ series, ap (λ (h : Head). h.number) same ∙ number, ap (λ (h : Head). h.addr) same ∙ addr) in
    elim c.else-is_asked.branch [
      | else-is_asked-via-then-is_asked+else-read w ↦ w.read.ensures.none w.if-read.false rs mine
      | else-is_asked-via-else-is_asked w ↦ search (rules, w.if-is_asked.false, asked)
    ]

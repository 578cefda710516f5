use Rattle.std.proofs.Common.{◌≡◌, List, sym, ap, subst, rules, ◌∙◌}
use Rattle.ak_base.specs.declared.point.Point.{Point}
use Rattle.ak_bytes.specs.declared.head.Head.{Head}
use Rattle.ak_bytes.proofs.Heads.{head_same}
use Rattle.ak_leaf.specs.Leaf.{SpellsLeaf}
use Rattle.ak_leaf.proofs.Spellings.{if_none}
use Rattle.ak_leaf.proofs.Blocks.{parts_of}
use Rattle.ak_leaf.proofs.buffer.LeafBuf.decode.Goals as goal
use Rattle.ak_leaf.proofs.buffer.LeafBuf.decode.Goals.{else-is_asked-via-then-is_asked+else-read, else-is_asked-via-else-is_asked}

pub returns-in_err-head-clause-none : goal.returns-in_err-head-clause-none
returns-in_err-head-clause-none c =
    let none : (head : Head) (ps : List Point) → SpellsLeaf c.args.from.now head ps → head.series ≡ c.args.series → head.number ≡ c.args.number → head.addr ≡ c.args.addr → ⊥ =
    λ head ps s a b d. let parts = parts_of c.args.from.now head ps s.spelled in c.in_err-head.ensures.none head s.head.head parts.front in
    if_none _ _ none

pub returns-else-is_asked-clause-none : goal.returns-else-is_asked-clause-none
returns-else-is_asked-clause-none c head ps s a b d =
    let parts = parts_of c.args.from.now head ps s.spelled in
    let read = c.in_ok-head.ensures.some in
    let same : c.in_ok-head.head ≡ head = head_same c.in_ok-head.head head read.0 s.head.head (sym read.1 ∙ parts.front) in
    let mine : SpellsLeaf c.args.from.now c.in_ok-head.head ps = subst (λ (h : Head). SpellsLeaf c.args.from.now h ps) (sym same) s in
    let asked = c.is_asked.ensures.1 (mine.head.kind, ap (λ (h : Head). h.series) same ∙ a, ap (λ (h : Head). h.number) same ∙ b, ap (λ (h : Head). h.addr) same ∙ d) in
    elim c.else-is_asked.branch [
      | else-is_asked-via-then-is_asked+else-read w ↦ w.read.ensures.none w.if-read.false ps mine
      | else-is_asked-via-else-is_asked w ↦ search (rules, w.if-is_asked.false, asked)
    ]

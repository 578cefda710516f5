use Rattle.std.proofs.Common.{◌≡◌, ap, subst, sym, Some, true≢false, length, ◌∙◌}
use Rattle.ak_resp.specs.Puts.{IsEnd}
use Rattle.ak_resp.proofs.Texts.{line_stops, line_is_end}
use Rattle.ak_resp.proofs.puts.line_end.Goals as goal

pub returns-then-is_end-clause-found : goal.returns-then-is_end-clause-found
returns-then-is_end-clause-found c = λ line back is split.
    let e = c.line_length-end.ensures in
    ap Some (line_stops c.args.bytes.now line back c.line_length-end.result e.within e.most e.content e.stops is split)

pub returns-else-is_end-clause-found : goal.returns-else-is_end-clause-found
returns-else-is_end-clause-found c = λ line back is split.
    let e = c.line_length-end.ensures in
    let same : c.line_length-end.result ≡ length line = line_stops c.args.bytes.now line back c.line_length-end.result e.within e.most e.content e.stops is split in
    let at_end : IsEnd c.args.bytes.now c.line_length-end.result = subst (IsEnd c.args.bytes.now) (sym same) (line_is_end c.args.bytes.now line back split) in
    absurd (true≢false (sym (c.is_end.ensures.1 at_end) ∙ c.if-is_end.false))

use Rattle.std.proofs.Common.{◌≡◌, true, false, drop, get_or, sym, ap, ◌∙◌, ◌+◌}
use Rattle.httparse.specs.Spans.{span_bytes}
use Rattle.ak_http.specs.Head.{same_name, content_length, length_of}
use Rattle.ak_http.proofs.Lengths.{no_header, lines_skip, lines_bad, lines_other, lines_same, next_line}
use Rattle.ak_http.proofs.head.agreed_length.Goals as goal

pub loop-header-preserved-then-not-same_name : goal.loop-header-preserved-then-not-same_name
loop-header-preserved-then-not-same_name c =
    let i = c.loop-header.header-index in
    let hs = c.args.headers.now in
    let other : same_name (span_bytes c.args.head.now (get_or hs i no_header).name) content_length ≡ false =
    sym (ap (λ z. same_name z content_length) c.of.ensures) ∙ sym c.same_name.ensures ∙ c.if-not-same_name.true in
    sym (lines_skip c.args.head.now c.loop-header.known (get_or hs i no_header) (drop (i + 1) hs) other) ∙ next_line c.args.head.now c.loop-header.known hs i _ c.loop-header-test.true c.loop-header.invariant

pub returns-in_err-length : goal.returns-in_err-length
returns-in_err-length c =
    let i = c.loop-header.header-index in
    let hs = c.args.headers.now in
    let named : same_name (span_bytes c.args.head.now (get_or hs i no_header).name) content_length ≡ true =
    sym (ap (λ z. same_name z content_length) c.of.ensures) ∙ sym c.same_name.ensures ∙ c.if-not-same_name.false in
    let bad = sym (ap length_of c.of-in-loop-header.ensures) ∙ sym c.read_length.ensures ∙ c.in_err-length.was in
    c.from_residual.ensures ∙ sym (lines_bad c.args.head.now c.loop-header.known (get_or hs i no_header) (drop (i + 1) hs) named bad) ∙ next_line c.args.head.now c.loop-header.known hs i _ c.loop-header-test.true c.loop-header.invariant

pub returns-then-differs : goal.returns-then-differs
returns-then-differs c =
    let i = c.loop-header.header-index in
    let hs = c.args.headers.now in
    let named : same_name (span_bytes c.args.head.now (get_or hs i no_header).name) content_length ≡ true =
    sym (ap (λ z. same_name z content_length) c.of.ensures) ∙ sym c.same_name.ensures ∙ c.if-not-same_name.false in
    let read = sym (ap length_of c.of-in-loop-header.ensures) ∙ sym c.read_length.ensures ∙ c.in_ok-length.was in
    sym (lines_other c.args.head.now c.loop-header.known (get_or hs i no_header) (drop (i + 1) hs) c.in_ok-length.length named read (sym c.differs.ensures ∙ c.if-differs.true))
    ∙ next_line c.args.head.now c.loop-header.known hs i _ c.loop-header-test.true c.loop-header.invariant

pub loop-header-preserved : goal.loop-header-preserved
loop-header-preserved c =
    let i = c.loop-header.header-index in
    let hs = c.args.headers.now in
    let named : same_name (span_bytes c.args.head.now (get_or hs i no_header).name) content_length ≡ true =
    sym (ap (λ z. same_name z content_length) c.of.ensures) ∙ sym c.same_name.ensures ∙ c.if-not-same_name.false in
    let read = sym (ap length_of c.of-in-loop-header.ensures) ∙ sym c.read_length.ensures ∙ c.in_ok-length.was in
    sym (lines_same c.args.head.now c.loop-header.known (get_or hs i no_header) (drop (i + 1) hs) c.in_ok-length.length named read (sym c.differs.ensures ∙ c.if-differs.false))
    ∙ next_line c.args.head.now c.loop-header.known hs i _ c.loop-header-test.true c.loop-header.invariant

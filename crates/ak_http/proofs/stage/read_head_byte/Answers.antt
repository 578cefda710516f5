use Rattle.std.proofs.Common.{◌≡◌, ◌++◌, rules, IsTrue, false}
use Rattle.ak_http.specs.Head.{EndsInMark}
use Rattle.ak_http.proofs.Heads.{judged, too_long, goes_on}
use Rattle.ak_http.proofs.stage.read_head_byte.Goals as goal

not_true : IsTrue false → ⊥
not_true h = cc

pub returns-then-ends_in_mark : goal.returns-then-ends_in_mark
returns-then-ends_in_mark c =
    let all : c.as_slice-bytes.result.now ≡ c.args.head ++ c.args.byte.now = search rules in
    let marked : EndsInMark c.as_slice-bytes.result.now = search rules in
    judged c.judge.result c.as_slice-bytes.result.now c.args.head c.args.byte.now all c.requires marked c.judge.ensures

pub returns-then-bytes-ge-MAX_HEAD : goal.returns-then-bytes-ge-MAX_HEAD
returns-then-bytes-ge-MAX_HEAD c = λ rest s.
    let all : c.as_slice-bytes.result.now ≡ c.args.head ++ c.args.byte.now = search rules in
    too_long c.as_slice-bytes.result.now c.args.head c.args.byte.now rest all c.requires (λ m. not_true (c.if-ends_in_mark.ensures.1 m)) c.if-bytes-ge-MAX_HEAD.true s

pub returns-else-bytes-ge-MAX_HEAD : goal.returns-else-bytes-ge-MAX_HEAD
returns-else-bytes-ge-MAX_HEAD c = λ rest s.
    let all : c.extend.new.self ≡ c.args.head ++ c.args.byte.now = search rules in
    let same : c.as_slice-bytes.result.now ≡ c.extend.new.self = search rules in
    goes_on c.extend.new.self c.args.head c.args.byte.now rest all c.requires (λ m. not_true (c.if-ends_in_mark.ensures.1 (rw same m))) (rw same at c.if-bytes-ge-MAX_HEAD.false) s

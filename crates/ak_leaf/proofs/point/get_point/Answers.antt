use Rattle.std.proofs.Common.{◌≡◌, ◌-ℤ◌, ◌≤◌, ◌++◌, ◌∙◌, List, ℕ, sym, drop}
use Rattle.ak_base.specs.Points.{IsPoint}
use Rattle.ak_base.specs.declared.point.Point.{Point}
use Rattle.ak_bytes.specs.Zigzag.{zigzag_of}
use Rattle.ak_bytes.proofs.Groups.{uvar_prefix}
use Rattle.ak_leaf.specs.Spelling.{point_spelling}
use Rattle.ak_leaf.proofs.Spellings.{if_none, time_read, zigzag_small}
use Rattle.ak_leaf.proofs.point.get_point.Goals as goal

pub returns-in_err-value-clause-none : goal.returns-in_err-value-clause-none
returns-in_err-value-clause-none c =
    let none : (p : Point) (rest : List ℕ) → IsPoint p → c.args.before.ts ≤ p.ts → drop c.args.at c.args.from.now ≡ point_spelling c.args.before p ++ rest → ⊥ = λ p rest is rises e.
    let read = c.in_ok-time.ensures.some in
    let time = time_read c.args.before p (drop c.args.at c.args.from.now) (drop c.in_ok-time.middle c.args.from.now) rest c.in_ok-time.time is rises read.0 read.3 e in
    c.in_err-value.ensures.none (zigzag_of (p.value -ℤ c.args.before.value)) rest (zigzag_small c.args.before p c.requires.before is) time.1 in
    if_none _ _ none

pub returns-in_err-point-clause-none : goal.returns-in_err-point-clause-none
returns-in_err-point-clause-none c =
    let none : (p : Point) (rest : List ℕ) → IsPoint p → c.args.before.ts ≤ p.ts → drop c.args.at c.args.from.now ≡ point_spelling c.args.before p ++ rest → ⊥ = λ p rest is rises e.
    let read = c.in_ok-time.ensures.some in
    let read' = c.in_ok-value.ensures.some in
    let z = zigzag_of (p.value -ℤ c.args.before.value) in
    let time = time_read c.args.before p (drop c.args.at c.args.from.now) (drop c.in_ok-time.middle c.args.from.now) rest c.in_ok-time.time is rises read.0 read.3 e in
    let value = uvar_prefix c.in_ok-value.value z (drop c.in_ok-value.end c.args.from.now) rest read'.0 (zigzag_small c.args.before p c.requires.before is) (sym read'.3 ∙ time.1) in
    c.in_err-point.ensures.none p is rises time.0 value.0 in
    if_none _ _ none

use Rattle.std.proofs.Common.{◌≡◌, ◌%◌, length, rules, arith, map, string_bytes, IsTrue}
use Rattle.std.proofs.lemmas.List.{length-map}
use Rattle.ak_base.specs.declared.limits.Limits.{Limits}
use Rattle.ak_words.specs.Words.{AreOptions}
use Rattle.ak_words.proofs.Choices.{options_even, options_give, options_of}
use Rattle.ak_words.proofs.options.read_limits.Goals as goal
use Rattle.ak_words.proofs.options.read_limits.Goals.{then-words-ne0-via-then-words-ne0, then-words-ne0-via-else-words-ne0+then-not-are_named}

pub returns-then-words-ne0 : goal.returns-then-words-ne0
returns-then-words-ne0 c = λ limits h.
    elim c.then-words-ne0.branch [
      | then-words-ne0-via-then-words-ne0 w ↦ omega (arith, options_even (map string_bytes c.args.words.now) limits h, length-map c.args.words.now string_bytes)
      | then-words-ne0-via-else-words-ne0+then-not-are_named w ↦ let yes : IsTrue w.are_named.result = w.are_named.ensures.1 (options_give (map string_bytes c.args.words.now) limits h).names in search rules
    ]

pub returns-in_err-volumes : goal.returns-in_err-volumes
returns-in_err-volumes c =
    let bad : (l : Limits) → AreOptions (map string_bytes c.args.words.now) l → ⊥ = λ l h. c.in_err-volumes.ensures l.volumes (options_give (map string_bytes c.args.words.now) l h).volumes in
    search rules

pub returns-in_err-blocks : goal.returns-in_err-blocks
returns-in_err-blocks c =
    let bad : (l : Limits) → AreOptions (map string_bytes c.args.words.now) l → ⊥ = λ l h. c.in_err-blocks.ensures l.blocks (options_give (map string_bytes c.args.words.now) l h).blocks in
    search rules

pub returns-in_err-slot : goal.returns-in_err-slot
returns-in_err-slot c =
    let bad : (l : Limits) → AreOptions (map string_bytes c.args.words.now) l → ⊥ = λ l h. c.in_err-slot.ensures l.slot (options_give (map string_bytes c.args.words.now) l h).slot in
    search rules

pub returns-in_err-pool : goal.returns-in_err-pool
returns-in_err-pool c =
    let bad : (l : Limits) → AreOptions (map string_bytes c.args.words.now) l → ⊥ = λ l h. c.in_err-pool.ensures l.pool (options_give (map string_bytes c.args.words.now) l h).pool in
    search rules

pub returns-in_err-every : goal.returns-in_err-every
returns-in_err-every c =
    let bad : (l : Limits) → AreOptions (map string_bytes c.args.words.now) l → ⊥ = λ l h. c.in_err-every.ensures l.every (options_give (map string_bytes c.args.words.now) l h).every in
    search rules

pub returns-in_err-scale : goal.returns-in_err-scale
returns-in_err-scale c =
    let bad : (l : Limits) → AreOptions (map string_bytes c.args.words.now) l → ⊥ = λ l h. c.in_err-scale.ensures l.scale (options_give (map string_bytes c.args.words.now) l h).scale in
    search rules

pub returns : goal.returns
returns c =
    let even : length (map string_bytes c.args.words.now) % 2 ≡ 0 = omega (arith, length-map c.args.words.now string_bytes) in
    options_of (map string_bytes c.args.words.now) _ even (record { names = c.are_named.ensures.0 (search rules); volumes = c.in_ok-volumes.ensures; blocks = c.in_ok-blocks.ensures; slot = c.in_ok-slot.ensures; pool = c.in_ok-pool.ensures; every = c.in_ok-every.ensures; scale = c.in_ok-scale.ensures })

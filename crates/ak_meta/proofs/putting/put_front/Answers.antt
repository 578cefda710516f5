use Rattle.std.proofs.Common.{◌∙◌, List, ℕ, ◌++◌, ap}
use Rattle.byteorder.specs.Endian.{little_bytes}
use Rattle.ak_meta.specs.Contents.{front_bytes, limits_bytes}
use Rattle.ak_meta.proofs.putting.put_front.Goals as goal

pub returns : goal.returns
unfolding front_bytes
returns c =
    c.put_u32-4.ensures.front ∙ ap (λ (l : List ℕ). l ++ little_bytes 4 c.args.series)
    (c.put_u32-3.ensures.front ∙ ap (λ (l : List ℕ). l ++ little_bytes 4 c.args.live)
    (c.put_u32-2.ensures.front ∙ ap (λ (l : List ℕ). l ++ little_bytes 4 c.args.lo)
    (c.put_limits.ensures ∙ ap (λ (l : List ℕ). l ++ limits_bytes c.args.limits.now) c.put_u32.ensures.front)))

-- The lending of a frame's leaf.
use Rattle.std.specs.Prelude.{ℕ, List}
use Rattle.std.specs.Borrow.{Lends, MutBor, Fml}
use Rattle.ak_base.specs.declared.point.Point.{Point}
use Rattle.ak_leaf.specs.contracts.buffer.LeafBuf as leaf
use Rattle.ak_pool.specs.contracts.pool.Pool as pool
use Rattle.ak_pool.specs.Frames.{Frames, frames_of, with_leaf}

-- r lends the leaf of the frame with this number: the frame ends with what is last written through r, and all else stays.
abbrev pub LendsLeaf : MutBor Frames → ℕ → MutBor (List Point) → Fml
LendsLeaf p frame r = Lends pool.the_row leaf.the_row p r (λ points. frames_of p.now.count (with_leaf p.now.used frame points))

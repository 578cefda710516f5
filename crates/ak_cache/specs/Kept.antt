-- What contracts see of a cache.
use Rattle.std.specs.Prelude.{ℕ, List}

-- the addresses of the blocks that are kept, the most recently used first, and how many blocks there is room for
pub record Cache : Type 0 where
  pub kept : List ℕ
  pub blocks : ℕ

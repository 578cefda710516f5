-- The limits that a store may have.
use Rattle.std.specs.Prelude.{◌≤◌}
use Rattle.ak_base.specs.declared.limits.Limits.{Limits}

pub record AreLimits (limits : Limits) : Type 0 where
  pub volumes_least : 2 ≤ limits.volumes
  pub volumes_most : limits.volumes ≤ 64
  pub blocks_least : 16 ≤ limits.blocks
  pub blocks_most : limits.blocks ≤ 1048576
  pub slot_least : 1 ≤ limits.slot
  pub slot_most : limits.slot ≤ 4096
  pub pool_least : 1 ≤ limits.pool
  pub pool_most : limits.pool ≤ 4096
  pub every_least : 1 ≤ limits.every
  pub every_most : limits.every ≤ 65536
  pub scale_most : limits.scale ≤ 9

-- How the pool keeps its frames.
use Rattle.std.specs.Prelude.{◌≡◌, ℕ, ◌+◌, List, [], length, map, get_or}
use Rattle.ak_pool.specs.Chains.{AreChains}
use Rattle.ak_pool.specs.Frames.{Used, used_frame}
use Rattle.ak_pool.specs.Links.{chain}
use Rattle.ak_pool.specs.declared.links.Chains.{Chains}
use Rattle.ak_pool.specs.declared.slot.Slot.{Slot}

-- what is kept of the frame with this number
abbrev pub slot_at : List Slot → ℕ → Slot
slot_at slots frame = get_or slots frame (record { series = 0; leaf = [] })

abbrev pub used_at : List Slot → ℕ → Used
used_at slots frame = used_frame frame (slot_at slots frame).series (slot_at slots frame).leaf

-- the frames that are met from the first one, with what is kept of them
abbrev pub all_used : List Slot → Chains → List Used
all_used slots c = map (used_at slots) (chain (length slots) c.links.items c.first)

-- Each frame is in one of the two chains, and has one link.
pub record KeepsFrames (slots : List Slot) (c : Chains) : Type 0 where
  pub order : List ℕ
  pub vacant : List ℕ
  pub chains : AreChains c [] order vacant
  pub counted : length order + length vacant ≡ length slots
  pub each : length c.links.items ≡ length slots

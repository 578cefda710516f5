use Rattle.std.proofs.Common.{◌-◌, ◌≤◌, length, take, List}
use Rattle.ak_resp.specs.declared.message.Part.{Part}
use Rattle.ak_resp.specs.Puts.{AreParts}
use Rattle.ak_resp.proofs.puts.items_length.Given as goal

abbrev pub invariant-items : goal.invariant-items
invariant-items l = record {
  most : l.items ≤ l.count;
  within : l.at ≤ length l.bytes;
  are : (parts : List Part) × AreParts l.items (take l.at l.bytes) parts;
}

abbrev pub decreases-items : goal.decreases-items
decreases-items l = l.count - l.items

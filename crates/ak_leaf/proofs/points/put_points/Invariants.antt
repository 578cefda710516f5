use Rattle.std.proofs.Common.{◌≡◌, ◌+◌, take}
use Rattle.ak_bytes.specs.Fields.{IsPut}
use Rattle.ak_leaf.specs.Spelling.{start, after_all, spelling, leaf_size}
use Rattle.ak_leaf.proofs.points.put_points.Given as goal

abbrev pub invariant-loop-p : goal.invariant-loop-p
invariant-loop-p l = record {
  before : l.before ≡ after_all start (take l.p-index l.points);
  end : l.end ≡ l.at + leaf_size (take l.p-index l.points);
  put : IsPut l.fn.into l.into l.at l.end (spelling (take l.p-index l.points));
}

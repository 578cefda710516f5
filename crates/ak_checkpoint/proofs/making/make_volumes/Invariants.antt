use Rattle.std.proofs.Common.{◌≡◌, ℕ, ◌-◌, ◌<◌, ◌≤◌, length, slice_index}
use Rattle.ak_host.specs.Files.{file_at}
use Rattle.ak_host.specs.Moments.{DiskPasses}
use Rattle.ak_checkpoint.proofs.Sizes.{sizes_to}
use Rattle.ak_checkpoint.proofs.Stores.{AreEmptyTo}
use Rattle.ak_checkpoint.proofs.making.make_volumes.Given as goal

abbrev pub invariant-loop-file : goal.invariant-loop-file
invariant-loop-file g l = record {
  number : l.file ≤ length (g.D.Outside.state l.disk).sizes;
  first : slice_index (g.D.Outside.state l.disk).sizes 0 ≡ slice_index (g.D.Outside.state l.fn.disk).sizes 0;
  volumes : (file : ℕ) → 1 ≤ file → file < l.file → slice_index (g.D.Outside.state l.disk).sizes file ≡ l.limits.blocks;
  sizes : (g.D.Outside.state l.disk).sizes ≡ sizes_to (g.D.Outside.state l.fn.disk).sizes l.limits.blocks (l.file - 1);
  later : (g.D.Outside.state l.fn.disk).disk_faults ≤ (g.D.Outside.state l.disk).disk_faults;
  port_faults : (g.D.Outside.state l.disk).port_faults ≡ (g.D.Outside.state l.fn.disk).port_faults;
  same : g.D.Outside.tells → file_at (g.D.Outside.state l.disk).files 0 ≡ file_at (g.D.Outside.state l.fn.disk).files 0;
  empty : g.D.Outside.tells → AreEmptyTo l.file l.limits.blocks (g.D.Outside.state l.disk);
  moments : g.D.Outside.tells → DiskPasses (λ left. file_at left 0 ≡ file_at (g.D.Outside.state l.fn.disk).files 0) (g.D.Outside.state l.fn.disk) (g.D.Outside.state l.disk);
}

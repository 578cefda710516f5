use Rattle.std.proofs.Common.{◌≤◌, length}
use Rattle.akl.proofs.real.directory.Directory.open_files.Given as goal

abbrev pub invariant-loop-file : goal.invariant-loop-file
invariant-loop-file l = length l.sizes.items ≤ l.file

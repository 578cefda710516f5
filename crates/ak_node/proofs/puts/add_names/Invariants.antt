use Rattle.std.proofs.Common.{◌≡◌, ℕ, ◌++◌, List, take, drop}
use Rattle.std.specs.List.{AllByRecursion}
use Rattle.ak_meta.specs.Contents.{names_of}
use Rattle.ak_node.specs.Names.{with_all, levels_with}
use Rattle.ak_node.proofs.Adding.{IsAmong, AreAdded}
use Rattle.ak_tree.specs.Standing.{Keeps, last_known}
use Rattle.ak_world.specs.Worlds.{World}
use Rattle.ak_node.proofs.puts.add_names.Given as goal

abbrev pub invariant-loop-name : goal.invariant-loop-name
invariant-loop-name l = record {
  index : l.keeper.names ≡ names_of l.keeper.forest.meta.series;
  longer : (more : List (List ℕ)) × (l.keeper.names ≡ l.fn.keeper.names ++ more);
  known : AllByRecursion (IsAmong l.keeper.names) (take l.name-index l.names);
  rest : with_all l.keeper.forest.meta (drop l.name-index l.names) ≡ with_all l.fn.keeper.forest.meta l.names;
  waits : levels_with l.keeper.forest.meta l.keeper.forest.levels (drop l.name-index l.names) ≡ levels_with l.fn.keeper.forest.meta l.fn.keeper.forest.levels l.names;
  forest : l.keeper.forest ≡ record l.fn.keeper.forest { meta = l.keeper.forest.meta; frames = l.keeper.forest.frames; levels = l.keeper.forest.levels };
  limits : l.keeper.forest.meta.limits ≡ l.fn.keeper.forest.meta.limits;
  last : (n : ℕ) → last_known l.keeper.forest n ≡ last_known l.fn.keeper.forest n;
  keeps : (content : World) → Keeps content l.fn.keeper.forest → AreAdded content l.names (drop l.name-index l.names) l.keeper.forest;
}

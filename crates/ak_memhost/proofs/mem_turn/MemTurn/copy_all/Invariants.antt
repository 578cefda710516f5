use Rattle.std.proofs.Common.{◌≡◌, take}
use Rattle.ak_memhost.proofs.mem_turn.MemTurn.copy_all.Given as goal

abbrev pub invariant-loop-turn : goal.invariant-loop-turn
invariant-loop-turn l = l.out.items ≡ take l.turn-index l.turns

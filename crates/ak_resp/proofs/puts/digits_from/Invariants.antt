use Rattle.std.proofs.Common.{◌-◌}
use Rattle.ak_resp.specs.Puts.{IsCount}
use Rattle.ak_resp.proofs.puts.digits_from.Given as goal

abbrev pub invariant-digits : goal.invariant-digits
invariant-digits l = IsCount l.bytes l.digits l.number

abbrev pub decreases-digits : goal.decreases-digits
decreases-digits l = 19 - l.digits

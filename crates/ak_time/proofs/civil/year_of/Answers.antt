use Rattle.std.proofs.Common.{arith, pos}
use Rattle.std.proofs.lemmas.Int.{by_lt_z}
use Rattle.jiff_core.proofs.SignedLemmas.{signed_arith}
use Rattle.ak_time.proofs.Moments.{no_year_before}
use Rattle.ak_time.proofs.civil.year_of.Goals as goal

pub returns-in-Err : goal.returns-in-Err
returns-in-Err c = by_lt_z c.args.dt.date.year (pos 1970) (λ early. absurd (no_year_before c.args.dt c.requires early)) (λ late. absurd (grind (arith, signed_arith, c.in-Err.ensures, c.year.ensures, c.year.type_inv, late)))

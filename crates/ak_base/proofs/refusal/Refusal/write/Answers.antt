use Rattle.ak_base.proofs.refusal.Refusal.write.Goals as goal

pub returns-in-MetaFull : goal.returns-in-MetaFull
returns-in-MetaFull c = rw c.in-MetaFull.is c.extend_twice_counted.ensures

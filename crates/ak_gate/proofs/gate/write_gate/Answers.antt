use Rattle.std.proofs.Common.{inl, refl, ◌∙◌, replicate, slice_set}
use Rattle.ak_host.proofs.Passing.{disk_goes_on, follows_now}
use Rattle.ak_gate.proofs.Newest.{gate_first, gate_zeros}
use Rattle.ak_gate.proofs.gate.write_gate.Goals as goal

pub returns-in_err-sync-clause-moments : goal.returns-in_err-sync-clause-moments
returns-in_err-sync-clause-moments g c told =
    disk_goes_on (c.write.ensures.moments told) (c.sync.ensures.moments told) (follows_now (λ disk. inl refl) (c.write.ensures.moments told))

pub returns-clause-moments : goal.returns-clause-moments
returns-clause-moments g c told =
    disk_goes_on (c.write.ensures.moments told) (c.sync.ensures.moments told) (follows_now (λ disk. inl refl) (c.write.ensures.moments told))

pub returns-clause-wrote : goal.returns-clause-wrote
returns-clause-wrote g c told = record {
  block = slice_set (replicate 4096 0) 0 c.args.first;
  first_byte = gate_first c.args.first;
  zeros = gate_zeros c.args.first;
  is = (c.sync.ensures.disk told).files ∙ c.in_ok-write.ensures.files told;
}

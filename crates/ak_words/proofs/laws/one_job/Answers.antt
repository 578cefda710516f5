use Rattle.ak_words.proofs.Choices.{job_one}
use Rattle.ak_words.proofs.laws.one_job.Goals as goal

pub returns : goal.returns
returns c = job_one

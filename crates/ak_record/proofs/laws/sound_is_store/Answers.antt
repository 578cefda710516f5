use Rattle.ak_record.proofs.Refusals.{newest_is_store}
use Rattle.ak_record.proofs.laws.sound_is_store.Goals as goal

pub returns : goal.returns
returns c slot frame disk some has = newest_is_store slot frame disk some has

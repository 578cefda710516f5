use Rattle.ak_top.proofs.Across.{no_older_than_left}
use Rattle.ak_top.proofs.laws.flushes_stay.Goals as goal

pub returns : goal.returns
returns c opening start mark files left next_start next_mark next_files again = no_older_than_left opening start mark files left again.view again.no_older

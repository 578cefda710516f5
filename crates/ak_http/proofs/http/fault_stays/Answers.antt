use Rattle.ak_http.proofs.Readers.{fault_stays}
use Rattle.ak_http.proofs.http.fault_stays.Goals as goal

pub returns : goal.returns
returns c = λ r row more requests e f s. fault_stays r row more requests e f s

use Rattle.ak_pool.proofs.Chained.{put_before}
use Rattle.ak_pool.proofs.links.Chains.put_first.Goals as goal

pub returns-clause-chains : goal.returns-clause-chains
returns-clause-chains c order vacant h = put_before _ _ _ _ order vacant c.join.ensures c.join-2.ensures h

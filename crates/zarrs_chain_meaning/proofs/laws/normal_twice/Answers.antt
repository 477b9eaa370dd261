use Rattle.zarrs_chain_meaning.proofs.CodecLaws.{written_for_normal, normal_twice}
use Rattle.zarrs_chain_meaning.proofs.laws.normal_twice.Goals as goal

pub returns-clause-law : goal.returns-clause-law
returns-clause-law g c = λ codec type chunk each. normal_twice codec type chunk each

pub returns-clause-written : goal.returns-clause-written
returns-clause-written g c = λ f chain sizes type fill value chunk is. written_for_normal f chain sizes type fill value chunk is

use Rattle.zarrs_chain_meaning.proofs.CodecLaws.{chain_chunk_only, chain_read_found}
use Rattle.zarrs_chain_meaning.proofs.laws.stands_is_answered.Goals as goal

pub returns : goal.returns
returns g c = record { law = λ f chain sizes type fill value chunk is positive. (λ e. chain_read_found f chain is sizes type fill value chunk positive e, λ s. chain_chunk_only f chain is sizes type fill value chunk positive s) }

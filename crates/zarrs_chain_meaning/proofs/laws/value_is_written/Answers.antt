use Rattle.zarrs_chain_meaning.proofs.CodecLaws.{chain_value_only, chain_value_found}
use Rattle.zarrs_chain_meaning.proofs.laws.value_is_written.Goals as goal

pub returns : goal.returns
returns g c = record { law = λ f chain sizes type fill value chunk is positive elements. (λ e. chain_value_found f chain is sizes type fill value chunk positive elements e, λ w. chain_value_only f chain sizes type fill value chunk w) }

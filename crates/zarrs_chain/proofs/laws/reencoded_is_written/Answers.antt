use Rattle.zarrs_chain.proofs.ReencodeLaws.{reencoded_is_written}
use Rattle.zarrs_chain.proofs.laws.reencoded_is_written.Goals as goal

pub returns : goal.returns
returns g c = record { law = λ f g from to form value other chunk is positive s. reencoded_is_written f g from to form value other chunk is positive s }

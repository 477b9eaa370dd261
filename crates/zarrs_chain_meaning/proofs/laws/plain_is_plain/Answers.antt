use Rattle.zarrs_chain_meaning.proofs.PlainForms.{plain_is_plain}
use Rattle.zarrs_chain_meaning.proofs.laws.plain_is_plain.Goals as goal

pub returns : goal.returns
returns g c = record { law = plain_is_plain _ }

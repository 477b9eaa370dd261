use Rattle.zarrs_chain.proofs.ReencodeLaws.{written_is_canonical}
use Rattle.zarrs_chain.proofs.laws.written_is_canonical.Goals as goal

pub returns : goal.returns
returns g c = record { law = λ f chain form value chunk lawful is each positive w. written_is_canonical f chain form value chunk lawful is each positive w }

use Rattle.zarrs_chain.proofs.ReencodeLaws.{reencoded_twice}
use Rattle.zarrs_chain.proofs.laws.reencoded_twice.Goals as goal

pub returns : goal.returns
returns g c = record { law = λ f chain form value other again chunk lawful is each positive s r. reencoded_twice f chain form value other again chunk lawful is each positive s r }

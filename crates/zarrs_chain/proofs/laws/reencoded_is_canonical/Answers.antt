use Rattle.zarrs_chain.proofs.ReencodeLaws.{reencoded_is_canonical}
use Rattle.zarrs_chain.proofs.laws.reencoded_is_canonical.Goals as goal

pub returns : goal.returns
returns g c = record { law = λ f chain form value other chunk lawful is each positive s r. reencoded_is_canonical f chain form value other chunk lawful is each positive s r }

use Rattle.zarrs_chain.proofs.ReencodeLaws.{reencoded_back}
use Rattle.zarrs_chain.proofs.laws.reencoded_back.Goals as goal

pub returns : goal.returns
returns g c = record { law = λ f g from to form value other back chunk lawful is also each positive canonical keeps r. reencoded_back f g from to form value other back chunk lawful is also each positive canonical keeps r }

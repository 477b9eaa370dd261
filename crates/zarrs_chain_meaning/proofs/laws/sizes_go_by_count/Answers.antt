use Rattle.zarrs_chain_meaning.proofs.CodecLaws.{chain_laws}
use Rattle.zarrs_chain_meaning.proofs.laws.sizes_go_by_count.Goals as goal

pub returns : goal.returns
returns g c = record {
  law = λ f chain sizes others type fill r s is p q h a b. (chain_laws chain).by_count f (is.mappings, is.inner_mappings) sizes others type fill r s p q h a b;
  grows = λ f chain sizes others type fill r s lawful is p q h a b. (chain_laws chain).grows f lawful (is.mappings, is.inner_mappings) sizes others type fill r s p q h a b;
}

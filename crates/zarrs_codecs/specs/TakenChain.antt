-- What is seen of a chain and the form of the chunks that it takes.
use Rattle.std.specs.Prelude.{ℕ, List}
use Rattle.zarrs_chain.specs.ChainView.{plain_chain}
use Rattle.zarrs_chain.specs.FormView.{lent_form}
use Rattle.zarrs_chain_meaning.specs.ChunkForm.{ChunkForm}
use Rattle.zarrs_codec.specs.declared.bytes_representation.BytesRepresentation.{BytesRepresentation}
use Rattle.zarrs_codecs.specs.ChunkRead.{chunk_form}
use Rattle.zarrs_codecs.specs.declared.sharding.taken_chain.TakenChain.{TakenChain}

-- the chunks that it takes, and through which chain
abbrev pub inner_form : {B : Type 0} {b : _} → TakenChain B b → ChunkForm B
inner_form taken = chunk_form (plain_chain taken.chain.now) (lent_form taken.form)

-- the sizes of the chunk that its array-to-bytes codec gets
abbrev pub moved_sizes : {B : Type 0} {b : _} → TakenChain B b → List ℕ
moved_sizes taken = taken.encoded

-- and how many bytes that codec's values have
abbrev pub moved_taken : {B : Type 0} {b : _} → TakenChain B b → List ℕ × BytesRepresentation
moved_taken taken = (taken.encoded, taken.measured)

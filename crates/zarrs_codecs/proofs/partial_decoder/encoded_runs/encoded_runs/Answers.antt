use Rattle.zarrs_chunk.specs.ChunkShape.{product}
use Rattle.zarrs_codecs.proofs.partial_decoder.encoded_runs.encoded_runs.Goals as goal

pub returns-clause-below : goal.returns-clause-below
returns-clause-below c = c.runs_of_places.ensures.below (product c.args.shape.now) (rw c.deref.ensures.value c.in_ok-places.ensures.below)

use Rattle.zarrs_array_to_array.proofs.array_to_array_codec.ArrayToArrayCodecArrayToArrayCodecTraits.encoded_indexer.Goals as goal

pub returns-in-Reshape-clause-answer : goal.returns-in-Reshape-clause-answer
returns-in-Reshape-clause-answer c = rw c.in-Reshape.is c.encoded_indexer-in-Reshape.ensures.answer

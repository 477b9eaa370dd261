use Rattle.std.proofs.Common.{◌≡◌, map, take}
use Rattle.zarrs_metadata.specs.MetadataV3.{metadata_seen}
use Rattle.zarrs_array_to_array.specs.Mapping.{mapping_of}
use Rattle.zarrs_chain_meaning.specs.MetadataFacts.{mapping_metadata}
use Rattle.zarrs_chain.proofs.metadata.write_chain.array_metadatas.Given as goal

abbrev pub invariant-loop-codec : goal.invariant-loop-codec
invariant-loop-codec l = map metadata_seen l.list.items ≡ map mapping_metadata (map mapping_of (take l.codec-index l.codecs))

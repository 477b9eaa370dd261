use Rattle.std.proofs.Common.{◌≡◌, map, take}
use Rattle.serde_json.specs.View.{view}
use Rattle.zarrs_metadata.specs.Metadata.{write_metadata}
use Rattle.zarrs_metadata.specs.MetadataV3.{metadata_seen}
use Rattle.zarrs_metadata.proofs.configuration.codecs.tree_of_codecs.Given as goal

abbrev pub invariant-loop-metadata : goal.invariant-loop-metadata
invariant-loop-metadata l = map view l.items.items ≡ map write_metadata (map metadata_seen (take l.metadata-index l.list))

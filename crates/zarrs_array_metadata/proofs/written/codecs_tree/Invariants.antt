use Rattle.std.proofs.Common.{◌≡◌, map, take}
use Rattle.serde_json.specs.View.{view}
use Rattle.zarrs_metadata.specs.MetadataV3.{metadata_seen}
use Rattle.zarrs_array_metadata.specs.Written.{codec_tree}
use Rattle.zarrs_array_metadata.proofs.written.codecs_tree.Given as goal

-- the codecs so far are listed
abbrev pub invariant-loop-codec : goal.invariant-loop-codec
invariant-loop-codec l = map view l.items.items ≡ map codec_tree (map metadata_seen (take l.codec-index l.codecs))

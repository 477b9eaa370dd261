use Rattle.std.proofs.Common.{◌≡◌, ◌++◌, map, take}
use Rattle.zarrs_metadata.specs.MetadataV3.{metadata_seen}
use Rattle.zarrs_chain.proofs.metadata.write_chain.push_outer.Given as goal

abbrev pub invariant-loop-codec : goal.invariant-loop-codec
invariant-loop-codec g l = map metadata_seen l.list.items ≡ map metadata_seen l.initial.list.items ++ map g.B.BytesToBytesCodecTraits.described (take l.codec-index l.codecs)

use Rattle.std.specs.Prelude.{map}
use Rattle.zarrs_metadata.specs.MetadataV3.{metadata_seen}
use Rattle.zarrs_metadata.specs.PluginCreateError.{plugin_memory}
use Rattle.zarrs_chain.specs.ChainView.{plain_chain}
use Rattle.zarrs_chain_meaning.proofs.CodecLaws.{list_makes_again}
use Rattle.zarrs_chain.proofs.codec_chain.CodecChain.create_metadatas.Goals as goal

pub returns-clause-made_again : goal.returns-clause-made_again
returns-clause-made_again g c =
    list_makes_again plugin_memory (λ list. map metadata_seen list.items) c.chain_written.result g.B.BytesToBytesCodecTraits.described (plain_chain c.args.self.now) c.chain_written.ensures.answer c.chain_is_sound.ensures.mappings c.chain_has_ranges.ensures.ranges

use Rattle.zarrs_chain.specs.ChainView.{plain_chain}
use Rattle.zarrs_codecs.proofs.CachePlaces.{no_place}
use Rattle.zarrs_codecs.proofs.Making.{representation_first}
use Rattle.zarrs_codecs.proofs.codec_chain_partial.CodecChainCodecChainPartialTraits.partial_decoder.Goals as goal

pub returns-in-Err-clause-no_fault_if_in_part : goal.returns-in-Err-clause-no_fault_if_in_part
returns-in-Err-clause-no_fault_if_in_part g c e =
    let reads = g.B.BytesToBytesCodecTraits.reads_in_part in
    let chain = plain_chain c.args.self.now in
    c.in-Err.ensures.no_fault_if_uncached (no_place reads chain e)

pub returns-in-Err-clause-measured_first : goal.returns-in-Err-clause-measured_first
returns-in-Err-clause-measured_first g c =
    representation_first g.B.BytesToBytesCodecTraits.functions (plain_chain c.args.self.now) c.args.shape.now c.args.data_type.now c.args.fill_value.now _ c.in-Err.ensures.measured_first

pub returns-in-Ok-clause-measured_first : goal.returns-in-Ok-clause-measured_first
returns-in-Ok-clause-measured_first g c =
    representation_first g.B.BytesToBytesCodecTraits.functions (plain_chain c.args.self.now) c.args.shape.now c.args.data_type.now c.args.fill_value.now _ c.in-Ok.ensures.measured_first

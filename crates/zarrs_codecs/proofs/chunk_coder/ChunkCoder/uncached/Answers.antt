use Rattle.std.proofs.Common.{refl}
use Rattle.zarrs_chain.specs.ChainView.{plain_chain}
use Rattle.zarrs_codecs.proofs.PartialCalls.{kept_of}
use Rattle.zarrs_codecs.proofs.chunk_coder.ChunkCoder.uncached.Goals as goal

pub invariant_of-result : goal.invariant_of-result
invariant_of-result g c =
    let taken = c.in_ok-encoded in
    let k = kept_of g.B.BytesToBytesCodecTraits.functions (plain_chain c.args.chain.now) c.in_ok-shape.shape c.in_ok-data_type.data_type c.in_ok-fill_value.fill_value taken.encoded taken.representation taken.ensures.map taken.ensures.counted taken.ensures.answer.is in
    record {
      taken = taken.ensures.answer.is;
      measured = k.measured;
      filling = k.filled;
      counted = k.counted;
      counted_whole = k.counted_whole;
      fits = refl;
      tight = tt;
    }

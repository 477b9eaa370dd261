use Rattle.std.proofs.Common.{◌<◌, subst}
use Rattle.std.specs.List.{All}
use Rattle.zarrs_chain.specs.ChainView.{plain_chain}
use Rattle.zarrs_codecs.proofs.PartialCalls.{kept_of}
use Rattle.zarrs_codecs.proofs.PartialReads.{codec_measured}
use Rattle.zarrs_codecs.proofs.sharding.taken_chain.TakenChain.new.Goals as goal

pub invariant_of-result : goal.invariant_of-result
invariant_of-result g c =
    let form = c.args.form in
    let taken = c.in_ok-encoded in
    let f = g.B.BytesToBytesCodecTraits.functions in
    let chain = plain_chain c.args.chain.now in
    let k = kept_of f chain form.shape.now form.data_type.now form.fill_value.now taken.encoded taken.measured taken.ensures.map taken.ensures.counted taken.ensures.answer.is in
    record {
      takes = taken.ensures.answer.is;
      positive = subst (All (λ size. 0 < size)) c.as_slice.ensures.value c.as_slice.ensures.positive;
      counted = k.counted_whole;
      filling = k.filled;
      codec_takes = codec_measured f chain form.shape.now form.data_type.now form.fill_value.now taken.encoded taken.measured taken.ensures.answer.is;
      moved_counted = k.counted;
    }

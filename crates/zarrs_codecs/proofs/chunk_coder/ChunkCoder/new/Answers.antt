use Rattle.std.proofs.lemmas.Result.{err_from_is_err_and}
use Rattle.zarrs_chain_meaning.specs.Chain.{taken_form}
use Rattle.zarrs_chain.specs.ChainView.{plain_chain}
use Rattle.zarrs_chain_meaning.proofs.ArraySteps.{ok_is}
use Rattle.zarrs_codecs.proofs.IndexReads.{unread_index}
use Rattle.zarrs_codecs.proofs.Making.{passed_first, refused_first, wanting_first}
use Rattle.zarrs_codecs.proofs.PartialCalls.{kept_of}
use Rattle.zarrs_codecs.proofs.WholeReads.{filled_from}
use Rattle.zarrs_codecs.proofs.chunk_coder.ChunkCoder.new.Goals as goal

pub invariant_of-result : goal.invariant_of-result
invariant_of-result g c =
    let taken = c.in_ok-encoded in
    let k = kept_of g.B.BytesToBytesCodecTraits.functions (plain_chain c.args.chain.now) c.in_ok-shape.shape c.in_ok-data_type.data_type c.in_ok-fill_value.fill_value taken.encoded taken.representation taken.ensures.map taken.ensures.counted taken.ensures.answer.is in
    record {
      taken = taken.ensures.answer.is;
      measured = k.measured;
      filling = k.filled;
      counted = k.counted;
      counted_whole = k.counted_whole;
      fits = c.in_ok-cache.ensures.fits;
      tight = c.in_ok-cache.ensures.tight;
    }

pub returns-clause-cache_filled : goal.returns-clause-cache_filled
returns-clause-cache_filled g c =
    let taken = c.in_ok-encoded in
    filled_from g.B.BytesToBytesCodecTraits.functions (record { chain = plain_chain c.args.chain.now; sizes = c.in_ok-shape.shape; type = c.in_ok-data_type.data_type; fill = c.in_ok-fill_value.fill_value }) taken.encoded taken.representation c.cache_stage-stage.result _ (g.H.BytesPartialDecoderTraits.state c.args.handle.now).value _ taken.ensures.answer.is c.in_ok-cache.ensures.stage c.in_ok-cache.ensures.answer

pub returns-clause-index : goal.returns-clause-index
returns-clause-index g c =
    unread_index g.B.BytesToBytesCodecTraits.functions (plain_chain c.args.chain.now) c.in_ok-encoded.encoded (g.H.BytesPartialDecoderTraits.state c.args.handle.now).value c.in_ok-cache.cache c.in_ok-cache.ensures.index

pub returns-in_err-shape-clause-measured_first : goal.returns-in_err-shape-clause-measured_first
returns-in_err-shape-clause-measured_first g c =
    let p = err_from_is_err_and c.from_residual.result c.from_residual.ensures.1 in
    rw (p.1, p.2) (wanting_first (taken_form g.B.BytesToBytesCodecTraits.functions (plain_chain c.args.chain.now) c.args.form.shape.now c.args.form.data_type.now c.args.form.fill_value.now) c.args.form.shape.now c.in_err-shape.field-0.0 c.in_err-shape.ensures.copy)

pub returns-in_err-data_type-clause-measured_first : goal.returns-in_err-data_type-clause-measured_first
returns-in_err-data_type-clause-measured_first g c =
    let p = err_from_is_err_and c.from_residual-in_err-data_type.result c.from_residual-in_err-data_type.ensures.1 in
    rw (p.1, p.2) (wanting_first (taken_form g.B.BytesToBytesCodecTraits.functions (plain_chain c.args.chain.now) c.args.form.shape.now c.args.form.data_type.now c.args.form.fill_value.now) c.args.form.data_type.now c.in_err-data_type.field-0.0 c.in_err-data_type.ensures.copy)

pub returns-in_err-fill_value-clause-measured_first : goal.returns-in_err-fill_value-clause-measured_first
returns-in_err-fill_value-clause-measured_first g c =
    let p = err_from_is_err_and c.from_residual-in_err-fill_value.result c.from_residual-in_err-fill_value.ensures.1 in
    rw (p.1, p.2) (wanting_first (taken_form g.B.BytesToBytesCodecTraits.functions (plain_chain c.args.chain.now) c.args.form.shape.now c.args.form.data_type.now c.args.form.fill_value.now) c.args.form.fill_value.now c.in_err-fill_value.field-0.0 c.in_err-fill_value.ensures.copy)

pub returns-in_err-encoded-clause-measured_first : goal.returns-in_err-encoded-clause-measured_first
returns-in_err-encoded-clause-measured_first g c =
    let p = err_from_is_err_and c.from_residual-in_err-encoded.result c.from_residual-in_err-encoded.ensures.1 in
    let shape = ok_is _ _ c.in_ok-shape.ensures.copy in
    let type = ok_is _ _ c.in_ok-data_type.ensures.copy in
    let fill = ok_is _ _ c.in_ok-fill_value.ensures.copy in
    rw (p.1, p.2, shape, type, fill) (refused_first (taken_form g.B.BytesToBytesCodecTraits.functions (plain_chain c.args.chain.now) c.in_ok-shape.shape c.in_ok-data_type.data_type c.in_ok-fill_value.fill_value) c.in_err-encoded.field-0.0 c.in_err-encoded.ensures.answer.is)

pub returns-in_err-cache-clause-measured_first : goal.returns-in_err-cache-clause-measured_first
returns-in_err-cache-clause-measured_first g c =
    let shape = ok_is _ _ c.in_ok-shape.ensures.copy in
    let type = ok_is _ _ c.in_ok-data_type.ensures.copy in
    let fill = ok_is _ _ c.in_ok-fill_value.ensures.copy in
    rw (shape, type, fill) (passed_first (taken_form g.B.BytesToBytesCodecTraits.functions (plain_chain c.args.chain.now) c.in_ok-shape.shape c.in_ok-data_type.data_type c.in_ok-fill_value.fill_value) (c.in_ok-encoded.encoded, c.in_ok-encoded.representation) _ c.in_ok-encoded.ensures.answer.is)

pub returns-clause-measured_first : goal.returns-clause-measured_first
returns-clause-measured_first g c =
    let shape = ok_is _ _ c.in_ok-shape.ensures.copy in
    let type = ok_is _ _ c.in_ok-data_type.ensures.copy in
    let fill = ok_is _ _ c.in_ok-fill_value.ensures.copy in
    rw (shape, type, fill) (passed_first (taken_form g.B.BytesToBytesCodecTraits.functions (plain_chain c.args.chain.now) c.in_ok-shape.shape c.in_ok-data_type.data_type c.in_ok-fill_value.fill_value) (c.in_ok-encoded.encoded, c.in_ok-encoded.representation) _ c.in_ok-encoded.ensures.answer.is)

use Rattle.std.proofs.Common.{◌≡◌, ◌<◌, Ok, Err, true, map, rules, subst}
use Rattle.std.specs.List.{All}
use Rattle.zarrs_array_bytes.specs.Validity.{sizes_fit}
use Rattle.zarrs_chunk.specs.ChunkShape.{product}
use Rattle.zarrs_data_type.specs.Element.{fill_element}
use Rattle.zarrs_chain_meaning.specs.CodecMeaning.{chain_representation, codec_normal_element}
use Rattle.zarrs_chain_meaning.specs.sharding.Sharding.{is_kept_as_fill}
use Rattle.zarrs_chain.specs.sharding.ShardingCalls.{index_size_of}
use Rattle.zarrs_chain.proofs.ShardAt.{index_refused_at, inner_refused_at}
use Rattle.zarrs_array_to_array.specs.Mapping.{mapping_of}
use Rattle.std.proofs.lemmas.Result.{err_from_is_err_and}
use Rattle.zarrs_chain.specs.ChainView.{plain_chain, plain_codec}
use Rattle.zarrs_chain_meaning.proofs.ChainSteps.{refused_representation}
use Rattle.zarrs_chain_meaning.proofs.ChainCounts.{form_counted}
use Rattle.zarrs_chain.specs.declared.sharding.sharding_codec.ShardingCodec.{out-ShardingCodec}
use Rattle.zarrs_chain.proofs.ShardForms.{fill_of_chain, grid_counted, one_room}
use Rattle.zarrs_chain.proofs.+representation.Goals as goal

pub representation::taken_form-returns-clause-counted : goal.representation::taken_form-returns-clause-counted
representation::taken_form-returns-clause-counted g t c =
    form_counted g.B.BytesToBytesCodecTraits.functions (map mapping_of c.deref.result.now) (plain_codec c.args.chain.now.array_to_bytes) c.args.form.shape.now c.args.form.data_type.now c.args.form.fill_value.now c.in_ok-encoded.encoded c.in_ok-representation.representation c.in_ok-encoded.ensures.map c.in_ok-encoded.ensures.answer.is c.in_ok-representation.ensures.answer.is

pub representation::chain_representation-returns-in_err-taken : goal.representation::chain_representation-returns-in_err-taken
representation::chain_representation-returns-in_err-taken g t c =
    record {
      answer = record {
        is =
            let p = err_from_is_err_and c.from_residual.result c.from_residual.ensures.1 in
            rw (p.1, p.2) (λ quiet. refused_representation g.B.BytesToBytesCodecTraits.functions (plain_chain c.args.chain.now) c.args.form.shape.now c.args.form.data_type.now c.args.form.fill_value.now c.in_err-taken.field-0.0 (c.in_err-taken.ensures.answer.is quiet));
        no_fault = search rules;
      };
    }

pub sharding::sharding_codec::sharding_representation-is_fill_kept-requires-clause-filling : goal.sharding::sharding_codec::sharding_representation-is_fill_kept-requires-clause-filling
sharding::sharding_codec::sharding_representation-is_fill_kept-requires-clause-filling g t c =
    fill_of_chain g.B.BytesToBytesCodecTraits.functions (plain_chain c.deref.result.now) (out-ShardingCodec _ c.args.codec.now).chunk_shape c.args.form.data_type.now c.args.form.fill_value.now c.in_ok-size.size c.in_ok-size.ensures.answer.is

pub sharding::sharding_codec::sharding_representation-is_fill_kept-requires-clause-room : goal.sharding::sharding_codec::sharding_representation-is_fill_kept-requires-clause-room
sharding::sharding_codec::sharding_representation-is_fill_kept-requires-clause-room g t c =
    let room : sizes_fit c.args.form.data_type.now (product c.args.form.shape.now) ≡ Ok tt = search rules in
    one_room c.args.form.data_type.now c.args.form.shape.now (subst (All (λ size. 0 < size)) c.as_slice.ensures.value c.as_slice.ensures.positive) room

pub sharding::sharding_codec::sharding_representation-returns-in_err-num_elements-2 : goal.sharding::sharding_codec::sharding_representation-returns-in_err-num_elements-2
sharding::sharding_codec::sharding_representation-returns-in_err-num_elements-2 g t c =
    let inner = (out-ShardingCodec _ c.args.codec.now).chunk_shape in
    absurd (grid_counted inner c.args.form.shape.now c.in_ok-grid.grid c.in_ok-num_elements.field-0 c.in_err-num_elements-2.field-0.0 (subst (All (λ size. 0 < size)) c.as_slice-2.ensures.value c.as_slice-2.ensures.positive) c.in_ok-grid.ensures.answer.is c.in_ok-num_elements.ensures.answer c.in_err-num_elements-2.ensures.answer)

pub sharding::sharding_codec::sharding_representation-returns-in_err-size : goal.sharding::sharding_codec::sharding_representation-returns-in_err-size
sharding::sharding_codec::sharding_representation-returns-in_err-size g t c =
    record {
      answer = record {
        is =
            let f = g.B.BytesToBytesCodecTraits.functions in
            let codec = c.args.codec.now in
            let o = out-ShardingCodec _ codec in
            let sizes = c.args.form.shape.now in
            let type = c.args.form.data_type.now in
            let fill = c.args.form.fill_value.now in
            let room : sizes_fit type (product sizes) ≡ Ok tt = search rules in
            let p = err_from_is_err_and c.from_residual-in_err-size.result c.from_residual-in_err-size.ensures.1 in
            rw (p.1, p.2) (λ ne.
            let h : chain_representation f (plain_chain o.codecs.value) o.chunk_shape type fill ≡ Err c.in_err-size.field-0.0 = search rules in
            inner_refused_at f codec sizes c.in_ok-grid.grid type fill c.in_ok-num_elements.field-0 c.in_err-size.field-0.0 c.in_ok-grid.ensures.answer.is c.in_ok-num_elements.ensures.answer room h);
        no_fault = search rules;
      };
    }

pub sharding::sharding_codec::sharding_representation-returns-in_err-index : goal.sharding::sharding_codec::sharding_representation-returns-in_err-index
sharding::sharding_codec::sharding_representation-returns-in_err-index g t c =
    record {
      answer = record {
        is =
            let f = g.B.BytesToBytesCodecTraits.functions in
            let codec = c.args.codec.now in
            let o = out-ShardingCodec _ codec in
            let sizes = c.args.form.shape.now in
            let type = c.args.form.data_type.now in
            let fill = c.args.form.fill_value.now in
            let room : sizes_fit type (product sizes) ≡ Ok tt = search rules in
            let size : chain_representation f (plain_chain o.codecs.value) o.chunk_shape type fill ≡ Ok c.in_ok-size.size = search rules in
            let kept : is_kept_as_fill (codec_normal_element (plain_codec o.codecs.value.array_to_bytes)) type fill (fill_element type fill) ≡ true = search rules in
            let p = err_from_is_err_and c.from_residual-in_err-index.result c.from_residual-in_err-index.ensures.1 in
            rw (p.1, p.2) (λ ne.
            let h : index_size_of f o.index_codecs.value c.in_ok-grid.grid ≡ Err c.in_err-index.field-0.0 = search rules in
            index_refused_at f codec sizes c.in_ok-grid.grid type fill c.in_ok-num_elements.field-0 c.in_ok-size.size c.in_err-index.field-0.0 c.in_ok-grid.ensures.answer.is c.in_ok-num_elements.ensures.answer room size kept h);
        no_fault = search rules;
      };
    }

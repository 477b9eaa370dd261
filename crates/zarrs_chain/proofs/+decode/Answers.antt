use Rattle.std.proofs.Common.{◌≡◌, ℕ, ◌∙◌, ap, arith, false, get_or, refl, sym, true, subst, map, List, Result, Ok, IfOk, rules, length, Err, ◌+◌, ◌*◌, ◌/◌, ◌<◌, ◌≤◌, ◌^◌, ◌∷◌, ◌++◌, [], drop, take}
use Rattle.std.proofs.lemmas.Result.{err_from_is_err_and}
use Rattle.std.specs.List.{All, list_all}
use Rattle.zarrs_array_bytes.specs.Held.{Held, flen, raw_of}
use Rattle.zarrs_array_bytes.specs.Tight.{IsTight}
use Rattle.zarrs_chain_meaning.specs.sharding.Sharding.{inner_chunk_at}
use Rattle.zarrs_shard_bytes.specs.Bands.{band_count, band_of, chunks_of, part_elements}
use Rattle.zarrs_chain.proofs.ShardBands.{BandsTo, band_form, band_inside, band_long, bands_begin, bands_end, bands_on, bands_refused, blank_cloned}
use Rattle.zarrs_shard_bytes.proofs.Bands.{band_counted, band_facts, chunks_on, joinable_more}
use Rattle.zarrs_data_type.specs.Element.{Chunk}
use Rattle.zarrs_chunk.specs.Answer.{◌>>=◌}
use Rattle.std.proofs.lemmas.List.{length-map}
use Rattle.zarrs_array_bytes.specs.Present.{present_count}
use Rattle.zarrs_array_bytes.specs.Validity.{Holds, sizes_fit, validity}
use Rattle.zarrs_array_to_array.specs.Mapping.{mapping_of}
use Rattle.zarrs_array_to_array.specs.declared.array_to_array_codec.ArrayToArrayCodec.{ArrayToArrayCodec}
use Rattle.zarrs_data_type.specs.Form.{form_of}
use Rattle.zarrs_chunk.specs.Answer.{AnswersBy, GivesBy, memory, seen, checked_u64}
use Rattle.zarrs_chunk.specs.declared.codec_error.CodecError.{CodecError}
use Rattle.zarrs_codec.specs.CoordinateMap.{moved_chunk, inverse_map}
use Rattle.zarrs_codec.specs.MappedChunk.{decoded_chunk}
use Rattle.zarrs_bytes.specs.BytesCodec.{bytes_chunk}
use Rattle.zarrs_bytes.proofs.Coding.{ok}
use Rattle.zarrs_chain_meaning.proofs.ChainCounts.{chunk_back}
use Rattle.zarrs_chain_meaning.proofs.ChainSteps.{refused_chunk, unopened, unread}
use Rattle.zarrs_chain_meaning.proofs.OptionalSteps.{mask_refused, part_refused, part_expanded}
use Rattle.zarrs_chain_meaning.proofs.PartSteps.{chunk_of_none}
use Rattle.zarrs_chain.proofs.BytesBehind.{takes_behind, reads_behind}
use Rattle.zarrs_chain.proofs.KeptBytes.{bytes_kept, raw_is, given_below, held_through}
use Rattle.zarrs_array_to_array.specs.ArrayToArrayCodec.{keeps_places}
use Rattle.zarrs_chain.proofs.VlenDecode.{content_bytes, content_answered, content_counted, offsets_answered, vlen_answered, index_refused_by, content_refused_by}
use Rattle.zarrs_chain_meaning.specs.ArrayStages.{arrays_map}
use Rattle.zarrs_chain_meaning.specs.BytesStages.{outer_bytes}
use Rattle.zarrs_chain_meaning.specs.Chain.{row_sizes}
use Rattle.zarrs_chain.specs.ChainView.{plain_chain}
use Rattle.zarrs_chain_meaning.specs.vlen.VlenSettings.{is_wide, is_at_end}
use Rattle.zarrs_chain_meaning.specs.CodecMeaning.{chain_chunk}
use Rattle.zarrs_chain_meaning.specs.vlen.Vlen.{vlen_value_parts}
use Rattle.zarrs_chain_meaning.specs.optional.Optional.{blank_fill, flag_type}
use Rattle.zarrs_chain_meaning.specs.Parts.{byte_elements}
use Rattle.zarrs_chunk.specs.ChunkShape.{product}
use Rattle.zarrs_array_bytes.specs.Offsets.{last_of}
use Rattle.zarrs_chain_meaning.specs.vlen.VlenSteps.{data_part, index_offsets, lent_bytes}
use Rattle.zarrs_chain.specs.declared.vlen.vlen_codec.VlenCodec.{out-VlenCodec}
use Rattle.zarrs_chain.specs.declared.optional.optional_codec.OptionalCodec.{out-OptionalCodec}
use Rattle.zarrs_chain.proofs.OptionalRoom.{mask_long}
use Rattle.zarrs_chain.proofs.TakenTight.{vlen_tight}
use Rattle.zarrs_chain.proofs.ShardIndex.{index_form, numbers_answered, numbers_counted, numbers_refused, rows_there}
use Rattle.zarrs_chain_meaning.specs.sharding.Sharding.{is_stored}
use Rattle.zarrs_chain_meaning.specs.sharding.ShardingSettings.{is_index_at_end}
use Rattle.zarrs_chain.specs.declared.sharding.sharding_codec.ShardingCodec.{out-ShardingCodec}
use Rattle.zarrs_chain_meaning.proofs.InnerChunks.{is_cut}
use Rattle.zarrs_chain.proofs.ShardRead.{inner_read, walk_is}
use Rattle.zarrs_chain.proofs.ShardReading.{not_stored, one_replaced, shard_answered, walk_begins, walk_goes_on}
use Rattle.zarrs_shard_bytes.proofs.Sizes.{count_is}
use Rattle.zarrs_shard_bytes.specs.Rows.{chunks_in}
use Rattle.zarrs_chain_meaning.specs.sharding.InnerChunks.{inner_chunk_count, joined_inner_chunks}
use Rattle.zarrs_array_bytes.specs.Elements.{elements}
use Rattle.zarrs_chain.proofs.InnerBytes.{content_read, content_whole, blank_read, reads_begin, reads_on, reads_refused, reads_end, chunks_more, halved, long_more, whole_more, chunk_joined, items_there, lent_holds}
use Rattle.zarrs_shard_bytes.proofs.Rows.{less_room}
use Rattle.zarrs_shard_bytes.proofs.Sizes.{inner_smaller}
use Rattle.zarrs_data_type.specs.ElementType.{fixed_size_of}
use Rattle.std.specs.Prelude.{is_none}
use Rattle.std.specs.declared.borrow.CowSlice.{CowSlice}
use Rattle.std.specs.declared.alloc.Global.{Global}
use Rattle.zarrs_chain.proofs.+decode.Goals as goal
use Rattle.zarrs_bytes.specs.PartialWrite.{filled_chunk}
use Rattle.zarrs_chain_meaning.specs.Meaning.{in_a_row}

pub decode::chain_decode-returns : goal.decode::chain_decode-returns
decode::chain_decode-returns g t c =
    record {
      exact = record {
        is =
            let f = g.B.BytesToBytesCodecTraits.functions in
            let chain = plain_chain c.args.chain.now in
            let sizes = c.args.form.shape.now in
            let type = c.args.form.data_type.now in
            let fill = c.args.form.fill_value.now in
            let taken = c.in_ok-taken.taken in
            let opened = subst (λ bs. outer_bytes f bs taken.representation (raw_of c.args.value).items ≡ Ok (raw_of c.in_ok-below.below).items) c.deref.ensures.value c.in_ok-below.ensures.answer.is in
            let found = subst (λ (cs : List ArrayToArrayCodec). IfOk (decoded_chunk (Ok tt) (arrays_map type (map mapping_of cs) sizes) type sizes c.in_ok-chunk.chunk) (λ chunk. AnswersBy memory (Holds type) c.decode_arrays.result (Ok chunk))) c.as_slice-codecs.ensures.value c.decode_arrays.ensures.moved in
            chunk_back f chain.array_to_array chain.array_to_bytes chain.bytes_to_bytes sizes type fill (taken.shape, taken.representation) (raw_of c.args.value).items (raw_of c.in_ok-below.below).items c.in_ok-chunk.chunk c.decode_arrays.result c.in_ok-taken.ensures.map c.in_ok-taken.ensures.answer.is opened c.in_ok-chunk.ensures.answer.is found;
        no_fault = search rules;
      };
      tight = c.decode_arrays.ensures.tight c.in_ok-chunk.ensures.tight;
      kept = λ k.
          held_through c.args.value c.in_ok-below.below c.in_ok-chunk.chunk c.decode_arrays.result
          (raw_is (c.in_ok-below.ensures.kept (c.deref.ensures.value ∙ k.outer)))
          (c.in_ok-chunk.ensures.kept k.codec)
          (c.decode_arrays.ensures.kept (subst (λ (cs : List ArrayToArrayCodec). list_all keeps_places (map mapping_of cs) ≡ true) (sym c.as_slice-codecs.ensures.value) k.arrays));
    }

pub decode::chain_decode-bytes_decode-requires : goal.decode::chain_decode-bytes_decode-requires
decode::chain_decode-bytes_decode-requires g t c =
    let f = g.B.BytesToBytesCodecTraits.functions in
    let chain = plain_chain c.args.chain.now in
    let taken = c.in_ok-taken.taken in
    record {
      taken = takes_behind f chain.array_to_array c.args.chain.now.array_to_bytes c.in-Bytes.codec chain.bytes_to_bytes c.args.form.shape.now c.args.form.data_type.now c.args.form.fill_value.now (taken.shape, taken.representation) c.in-Bytes.is c.in_ok-taken.ensures.map c.in_ok-taken.ensures.answer.is;
    }

pub decode::chain_decode-returns-in-Bytes-clause-exact : goal.decode::chain_decode-returns-in-Bytes-clause-exact
decode::chain_decode-returns-in-Bytes-clause-exact g t c =
    let f = g.B.BytesToBytesCodecTraits.functions in
    let chain = plain_chain c.args.chain.now in
    let sizes = c.args.form.shape.now in
    let type = c.args.form.data_type.now in
    let fill = c.args.form.fill_value.now in
    let taken = c.in_ok-taken.taken in
    let order = c.in-Bytes.codec in
    let below = (raw_of c.in_ok-below.below).items in
    let opened = subst (λ bs. outer_bytes f bs taken.representation (raw_of c.args.value).items ≡ Ok below) c.deref.ensures.value c.in_ok-below.ensures.answer.is in
    let found = subst (λ (cs : List ArrayToArrayCodec). IfOk (arrays_map type (map mapping_of cs) sizes) (λ m. GivesBy (Holds type) c.bytes_decode.result (seen (moved_chunk (inverse_map sizes m)) (bytes_chunk order (form_of sizes type fill) below)))) c.as_slice-codecs.ensures.value c.bytes_decode.ensures.answer in
    reads_behind f chain.array_to_array c.args.chain.now.array_to_bytes order chain.bytes_to_bytes sizes type fill (taken.shape, taken.representation) (raw_of c.args.value).items below c.bytes_decode.result c.in-Bytes.is c.in_ok-taken.ensures.map c.in_ok-taken.ensures.answer.is opened found

pub decode::chain_decode-returns-in-Bytes-clause-kept : goal.decode::chain_decode-returns-in-Bytes-clause-kept
decode::chain_decode-returns-in-Bytes-clause-kept g t c = λ k.
    given_below c.args.value c.in_ok-below.below c.bytes_decode.result
    (raw_is (c.in_ok-below.ensures.kept (c.deref.ensures.value ∙ k.outer)))
    (c.bytes_decode.ensures.kept (bytes_kept c.args.chain.now.array_to_bytes c.in-Bytes.codec c.args.form.data_type.now c.in-Bytes.is k.codec)
    (subst (λ (cs : List ArrayToArrayCodec). list_all keeps_places (map mapping_of cs) ≡ true) (sym c.as_slice-codecs.ensures.value) k.arrays))

pub decode::chain_decode-returns-in_err-taken-clause-exact : goal.decode::chain_decode-returns-in_err-taken-clause-exact
decode::chain_decode-returns-in_err-taken-clause-exact g t c =
    record {
      is =
          let p = err_from_is_err_and c.from_residual.result c.from_residual.ensures.1 in
          rw (p.1, p.2) (λ quiet. refused_chunk g.B.BytesToBytesCodecTraits.functions (plain_chain c.args.chain.now) c.args.form.shape.now c.args.form.data_type.now c.args.form.fill_value.now (raw_of c.args.value).items c.in_err-taken.field-0.0 (c.in_err-taken.ensures.answer.is quiet));
      no_fault = search rules;
    }

pub decode::chain_decode-returns-in_err-below-clause-exact : goal.decode::chain_decode-returns-in_err-below-clause-exact
decode::chain_decode-returns-in_err-below-clause-exact g t c =
    record {
      is =
          let f = g.B.BytesToBytesCodecTraits.functions in
          let chain = plain_chain c.args.chain.now in
          let taken = c.in_ok-taken.taken in
          let value = (raw_of c.args.value).items in
          let p = err_from_is_err_and c.from_residual-in_err-below.result c.from_residual-in_err-below.ensures.1 in
          rw (p.1, p.2) (λ quiet.
          let h = subst (λ bs. outer_bytes f bs taken.representation value ≡ Err c.in_err-below.field-0.0) c.deref.ensures.value (c.in_err-below.ensures.answer.is quiet) in
          unopened f chain c.args.form.shape.now c.args.form.data_type.now c.args.form.fill_value.now (taken.shape, taken.representation) value c.in_err-below.field-0.0 c.in_ok-taken.ensures.answer.is h);
      no_fault = search rules;
    }

pub decode::chain_decode-returns-in_err-chunk : goal.decode::chain_decode-returns-in_err-chunk
decode::chain_decode-returns-in_err-chunk g t c =
    record {
      exact = record {
        is =
            let f = g.B.BytesToBytesCodecTraits.functions in
            let chain = plain_chain c.args.chain.now in
            let taken = c.in_ok-taken.taken in
            let value = (raw_of c.args.value).items in
            let below = (raw_of c.in_ok-below.below).items in
            let opened = subst (λ bs. outer_bytes f bs taken.representation value ≡ Ok below) c.deref.ensures.value c.in_ok-below.ensures.answer.is in
            let p = err_from_is_err_and c.from_residual-in_err-chunk.result c.from_residual-in_err-chunk.ensures.1 in
            rw (p.1, p.2) (λ quiet. unread f chain c.args.form.shape.now c.args.form.data_type.now c.args.form.fill_value.now (taken.shape, taken.representation) value below c.in_err-chunk.field-0.0 c.in_ok-taken.ensures.answer.is opened (c.in_err-chunk.ensures.answer.is quiet));
        no_fault = search rules;
      };
      tight = search rules;
      kept = λ _. search rules;
    }

pub decode::part_decode-returns : goal.decode::part_decode-returns
decode::part_decode-returns g t c =
    record {
      exact = record {
        is =
            chunk_of_none c.new_fill_value.result (chain_chunk g.B.BytesToBytesCodecTraits.functions (plain_chain c.args.chain.now)) c.args.count c.args.kind.now c.args.fill.now (raw_of c.args.part).items (subst (λ row. ok (row_sizes c.args.count) ≡ ok row) c.in-None.is c.in_ok-row.ensures.answer.is) c.requires.filling c.new_fill_value.ensures.exact.is;
        no_fault = search rules;
      };
      tight = c.new_fill_value.ensures.tight;
    }

pub vlen::vlen_decode::content_decode-returns-clause-answer : goal.vlen::vlen_decode::content_decode-returns-clause-answer
vlen::vlen_decode::content_decode-returns-clause-answer g t c =
    record {
      is =
          let read = rw c.uint8.ensures.made at c.in_ok-bytes.ensures.exact.is in
          content_answered raw_of c.into_fixed.result g.B.BytesToBytesCodecTraits.functions (plain_chain c.args.chain.now) c.args.count (raw_of c.args.part).items c.in_ok-bytes.bytes c.in_ok-fill_value.fill_value c.in_ok-fill_value.ensures.answer read c.into_fixed.ensures.answer;
      no_fault = search rules;
    }

pub vlen::vlen_decode::content_decode-returns-clause-len : goal.vlen::vlen_decode::content_decode-returns-clause-len
vlen::vlen_decode::content_decode-returns-clause-len g t c =
    let read = rw c.uint8.ensures.made at c.in_ok-bytes.ensures.exact.is in
    content_counted raw_of c.into_fixed.result g.B.BytesToBytesCodecTraits.functions (plain_chain c.args.chain.now) c.args.count (raw_of c.args.part).items c.in_ok-bytes.bytes c.in_ok-fill_value.fill_value c.in_ok-fill_value.ensures.answer read c.into_fixed.ensures.answer

pub vlen::vlen_decode::index_decode-returns : goal.vlen::vlen_decode::index_decode-returns
vlen::vlen_decode::index_decode-returns g t c =
    record {
      answer = record {
        is =
            offsets_answered c.new.result g.B.BytesToBytesCodecTraits.functions (plain_chain c.args.chain.now) (is_wide c.args.data_type) c.args.count c.args.part.now c.in_ok-rows.rows c.offset_type.result c.in_ok-fill_value.fill_value c.in_ok-as_fixed.field-0.now c.in_ok-numbers.numbers.items c.requires.some c.offset_type.ensures.value c.in_ok-fill_value.ensures.answer.is c.in_ok-rows.ensures.exact.is c.in_ok-as_fixed.ensures.answer c.in_ok-numbers.ensures.exact.is c.new.ensures.answer;
        no_fault = search rules;
      };
    }

pub optional::optional_codec::present_decode-returns-in_err-count : goal.optional::optional_codec::present_decode-returns-in_err-count
optional::optional_codec::present_decode-returns-in_err-count g t c =
    record {
      answer = record {
        is =
            let decode = chain_chunk g.B.BytesToBytesCodecTraits.functions (plain_chain c.args.chain.now) in
            let p = err_from_is_err_and c.from_residual.result c.from_residual.ensures.1 in
            let e : present_count (raw_of c.args.mask).items ≡ Err c.in_err-count.field-0.0 = search rules in
            rw (p.1, p.2) (λ ne. mask_refused decode c.args.data_type.now (raw_of c.args.mask).items (raw_of c.args.part).items c.in_err-count.field-0.0 e);
        no_fault = search rules;
      };
      tight = search rules;
    }

pub optional::optional_codec::present_decode-returns-in_err-present : goal.optional::optional_codec::present_decode-returns-in_err-present
optional::optional_codec::present_decode-returns-in_err-present g t c =
    record {
      answer = record {
        is =
            let decode = chain_chunk g.B.BytesToBytesCodecTraits.functions (plain_chain c.args.chain.now) in
            let type = c.args.data_type.now in
            let part = (raw_of c.args.part).items in
            let p = err_from_is_err_and c.from_residual-in_err-present.result c.from_residual-in_err-present.ensures.1 in
            let e : present_count (raw_of c.args.mask).items ≡ Ok c.in_ok-count.count = search rules in
            rw (p.1, p.2) (λ ne.
            let h : in_a_row (Ok []) (λ sizes. decode sizes type (blank_fill type) part) c.in_ok-count.count ≡ Err c.in_err-present.field-0.0 = search rules in
            part_refused decode type (raw_of c.args.mask).items c.in_ok-count.count part c.in_err-present.field-0.0 e h);
        no_fault = search rules;
      };
      tight = search rules;
    }

pub optional::optional_codec::present_decode-returns : goal.optional::optional_codec::present_decode-returns
optional::optional_codec::present_decode-returns g t c =
    record {
      answer = record {
        is =
            let f = g.B.BytesToBytesCodecTraits.functions in
            let chain = plain_chain c.args.chain.now in
            let type = c.args.data_type.now in
            let mask = (raw_of c.args.mask).items in
            let part = (raw_of c.args.part).items in
            let e : present_count mask ≡ Ok c.in_ok-count.count = search rules in
            let small : length mask + 1 < 2 ^ 64 = search rules in
            let fits : sizes_fit type (length mask) ≡ Ok tt = c.requires.room small in
            let read : AnswersBy {E = CodecError} memory (Holds type) (Ok c.in_ok-present.present) (in_a_row (Ok []) (λ sizes. chain_chunk f chain sizes type (blank_fill type) part) c.in_ok-count.count) = search rules in
            part_expanded c.expand_present.result f chain type c.in_ok-present.present mask c.in_ok-count.count part e fits read c.expand_present.ensures.answer.is;
        no_fault = search rules;
      };
      tight = c.expand_present.ensures.tight c.in_ok-present.ensures.tight;
    }

pub vlen::vlen_decode::vlen_decode-returns-in_err-offsets : goal.vlen::vlen_decode::vlen_decode-returns-in_err-offsets
vlen::vlen_decode::vlen_decode-returns-in_err-offsets g t c =
    record {
      answer = record {
        is =
            let f = g.B.BytesToBytesCodecTraits.functions in
            let codec = c.args.codec.now in
            let o = out-VlenCodec _ codec in
            let index = plain_chain o.index_codecs.value in
            let content = plain_chain o.data_codecs.value in
            let wide = is_wide o.index_data_type in
            let at_end = is_at_end o.index_location in
            let sizes = c.args.shape.now in
            let type = c.args.kind.now in
            let fill = c.args.fill.now in
            let value = (raw_of c.args.value).items in
            let i = c.in_ok-index.index.now in
            let d = c.in_ok-index.field-0-1.now in
            let count = c.in_ok-count.count in
            let parts : ok (i, d) ≡ vlen_value_parts at_end value = search rules in
            let counted : ok count ≡ checked_u64 (product sizes + 1) = search rules in
            let p = err_from_is_err_and c.from_residual-in_err-offsets.result c.from_residual-in_err-offsets.ensures.1 in
            rw (p.1, p.2) (λ ne.
            let h : index_offsets f index wide count i ≡ Err c.in_err-offsets.field-0.0 = search rules in
            index_refused_by f codec sizes type fill value i d count c.in_err-offsets.field-0.0 parts counted h);
        no_fault = search rules;
      };
      tight = search rules;
    }

pub vlen::vlen_decode::vlen_decode-returns-in_err-bytes : goal.vlen::vlen_decode::vlen_decode-returns-in_err-bytes
vlen::vlen_decode::vlen_decode-returns-in_err-bytes g t c =
    record {
      answer = record {
        is =
            let f = g.B.BytesToBytesCodecTraits.functions in
            let codec = c.args.codec.now in
            let o = out-VlenCodec _ codec in
            let index = plain_chain o.index_codecs.value in
            let content = plain_chain o.data_codecs.value in
            let wide = is_wide o.index_data_type in
            let at_end = is_at_end o.index_location in
            let sizes = c.args.shape.now in
            let type = c.args.kind.now in
            let fill = c.args.fill.now in
            let value = (raw_of c.args.value).items in
            let i = c.in_ok-index.index.now in
            let d = c.in_ok-index.field-0-1.now in
            let count = c.in_ok-count.count in
            let parts : ok (i, d) ≡ vlen_value_parts at_end value = search rules in
            let counted : ok count ≡ checked_u64 (product sizes + 1) = search rules in
            let offsets = c.in_ok-offsets.offsets in
            let p = err_from_is_err_and c.from_residual-in_err-bytes.result c.from_residual-in_err-bytes.ensures.1 in
            let first : index_offsets f index wide count i ≡ Ok offsets = search rules in
            rw (p.1, p.2) (λ ne.
            let h : content_bytes f content (last_of offsets) (data_part at_end (length i) value) ≡ Err c.in_err-bytes.field-0.0 = search rules in
            content_refused_by f codec sizes type fill value i d offsets count c.in_err-bytes.field-0.0 parts counted first h);
        no_fault = search rules;
      };
      tight = search rules;
    }

pub vlen::vlen_decode::vlen_decode-returns : goal.vlen::vlen_decode::vlen_decode-returns
vlen::vlen_decode::vlen_decode-returns g t c =
    record {
      answer = record {
        is =
            let f = g.B.BytesToBytesCodecTraits.functions in
            let codec = c.args.codec.now in
            let o = out-VlenCodec _ codec in
            let index = plain_chain o.index_codecs.value in
            let content = plain_chain o.data_codecs.value in
            let wide = is_wide o.index_data_type in
            let at_end = is_at_end o.index_location in
            let sizes = c.args.shape.now in
            let type = c.args.kind.now in
            let fill = c.args.fill.now in
            let value = (raw_of c.args.value).items in
            let i = c.in_ok-index.index.now in
            let d = c.in_ok-index.field-0-1.now in
            let count = c.in_ok-count.count in
            let parts : ok (i, d) ≡ vlen_value_parts at_end value = search rules in
            let counted : ok count ≡ checked_u64 (product sizes + 1) = search rules in
            let offsets = c.in_ok-offsets.offsets in
            let raw = raw_of c.in_ok-bytes.bytes in
            let first : index_offsets f index wide count i ≡ Ok offsets = search rules in
            let second : content_bytes f content (last_of offsets) (data_part at_end (length i) value) ≡ Ok raw.items = search rules in
            let long : length raw.items ≡ last_of offsets = search rules in
            vlen_answered f codec sizes type fill value c.new_flush.result i d offsets raw count c.requires.taken parts counted first second long c.new_flush.ensures.answer c.new_flush.ensures.same;
        no_fault = search rules;
      };
      tight = vlen_tight g.B.BytesToBytesCodecTraits.functions c.args.codec.now c.args.shape.now c.args.kind.now c.args.fill.now c.new_flush.result c.requires.taken c.new_flush.ensures.flush;
    }

pub optional::optional_codec::optional_decode-has_room-requires-clause-len : goal.optional::optional_codec::optional_decode-has_room-requires-clause-len
optional::optional_codec::optional_decode-has_room-requires-clause-len g t c =
    let f = g.B.BytesToBytesCodecTraits.functions in
    let mask_chain = plain_chain (out-OptionalCodec _ c.args.codec.now).mask_codecs.value in
    let part = (raw_of c.in_ok-mask_part.mask_part).items in
    let mask = (raw_of c.in_ok-mask.mask).items in
    let read : chain_chunk f mask_chain c.args.form.shape.now flag_type (0 ∷ []) part ≡ Ok (byte_elements mask) = search rules in
    mask_long f mask_chain c.args.form.shape.now part mask read

pub sharding::shard_index::index_decode-returns-in_err-rows : goal.sharding::shard_index::index_decode-returns-in_err-rows
sharding::shard_index::index_decode-returns-in_err-rows g t c =
    let f = g.B.BytesToBytesCodecTraits.functions in
    let counts = c.args.grid.now in
    let form = index_form counts c.in_ok-shape.shape c.uint64-number_type.result c.in_ok-zero.zero c.in_ok-shape.ensures.answer.is c.uint64-number_type.ensures.made c.in_ok-zero.ensures.answer.is in
    record {
      answer = record {
        is =
            let p = err_from_is_err_and c.from_residual-in_err-rows.result c.from_residual-in_err-rows.ensures.1 in
            rw (p.1, p.2) (λ ne. numbers_refused f (plain_chain c.args.chain.now) counts c.in_ok-shape.shape c.args.part.now c.uint64-number_type.result c.in_ok-zero.zero c.in_err-rows.field-0.0 form (c.in_err-rows.ensures.exact.is ne));
        no_fault = search rules;
      };
      len = search rules;
    }

pub sharding::shard_index::index_decode-returns-in_err-as_fixed : goal.sharding::shard_index::index_decode-returns-in_err-as_fixed
sharding::shard_index::index_decode-returns-in_err-as_fixed g t c =
    let f = g.B.BytesToBytesCodecTraits.functions in
    let counts = c.args.grid.now in
    let form = index_form counts c.in_ok-shape.shape c.uint64-number_type.result c.in_ok-zero.zero c.in_ok-shape.ensures.answer.is c.uint64-number_type.ensures.made c.in_ok-zero.ensures.answer.is in
    absurd (rows_there f (plain_chain c.args.chain.now) counts c.in_ok-shape.shape c.args.part.now c.uint64-number_type.result c.in_ok-zero.zero c.in_ok-rows.rows c.in_err-as_fixed.field-0.0 form c.in_ok-rows.ensures.exact.is c.in_err-as_fixed.ensures.answer)

pub sharding::shard_index::index_decode-returns : goal.sharding::shard_index::index_decode-returns
sharding::shard_index::index_decode-returns g t c =
    let f = g.B.BytesToBytesCodecTraits.functions in
    let counts = c.args.grid.now in
    let form = index_form counts c.in_ok-shape.shape c.uint64-number_type.result c.in_ok-zero.zero c.in_ok-shape.ensures.answer.is c.uint64-number_type.ensures.made c.in_ok-zero.ensures.answer.is in
    record {
      answer = record {
        is = numbers_answered c.offset_numbers.result f (plain_chain c.args.chain.now) counts c.in_ok-shape.shape c.args.part.now c.uint64-number_type.result c.in_ok-zero.zero c.in_ok-as_fixed.field-0.now c.in_ok-rows.rows form c.in_ok-rows.ensures.exact.is c.in_ok-as_fixed.ensures.answer c.offset_numbers.ensures.exact.is;
        no_fault = search rules;
      };
      len = numbers_counted c.offset_numbers.result f (plain_chain c.args.chain.now) counts c.in_ok-shape.shape c.args.part.now c.uint64-number_type.result c.in_ok-zero.zero c.in_ok-as_fixed.field-0.now c.in_ok-rows.rows form c.in_ok-rows.ensures.exact.is c.in_ok-as_fixed.ensures.answer c.offset_numbers.ensures.exact.is;
    }

pub sharding::shard_decode::read_inner-with_inner-requires-clause-content_valid : goal.sharding::shard_decode::read_inner-with_inner-requires-clause-content_valid
sharding::shard_decode::read_inner-with_inner-requires-clause-content_valid g t c =
    let read = inner_read g.B.BytesToBytesCodecTraits.functions (plain_chain c.args.chain.now) c.args.inner.now c.args.form.data_type.now c.args.form.fill_value.now c.args.value.now c.in_ok-bytes_at.field-0.now c.args.span c.in_ok-content.content (sym c.in_ok-bytes_at.ensures.answer) c.in_ok-content.ensures.exact.is in
    read.1

pub sharding::shard_decode::read_inner-returns-clause-answer : goal.sharding::shard_decode::read_inner-returns-clause-answer
sharding::shard_decode::read_inner-returns-clause-answer g t c =
    let f = g.B.BytesToBytesCodecTraits.functions in
    let chain = plain_chain c.args.chain.now in
    let shape = c.args.inner.now in
    let type = c.args.form.data_type.now in
    let fill = c.args.form.fill_value.now in
    let value = c.args.value.now in
    let read = inner_read f chain shape type fill value c.in_ok-bytes_at.field-0.now c.args.span c.in_ok-content.content (sym c.in_ok-bytes_at.ensures.answer) c.in_ok-content.ensures.exact.is in
    one_replaced (chain_chunk f chain) shape c.args.form.shape.now type fill value c.args.number c.args.span c.args.elements c.in_ok-content.content c.with_inner.result read.0 c.with_inner.ensures.answer

pub sharding::shard_decode::read_next-returns-then-not-has_span-clause-answer : goal.sharding::shard_decode::read_next-returns-then-not-has_span-clause-answer
sharding::shard_decode::read_next-returns-then-not-has_span-clause-answer g t c =
    let decode = chain_chunk g.B.BytesToBytesCodecTraits.functions (plain_chain c.args.chain.now) in
    let e : is_stored c.args.span ≡ false = search rules in
    record {
      is = not_stored decode c.args.inner.now c.args.form.shape.now c.args.form.data_type.now c.args.form.fill_value.now c.args.value.now c.args.number c.args.span (is_stored c.args.span) c.args.elements c.requires.valid e;
      no_fault = refl;
    }

pub sharding::shard_decode::read_all-loop-number-init : goal.sharding::shard_decode::read_all-loop-number-init
sharding::shard_decode::read_all-loop-number-init g t c =
    let f = g.B.BytesToBytesCodecTraits.functions in
    let chain = plain_chain c.args.chain.now in
    let shape = c.args.inner.now in
    let sizes = c.args.form.shape.now in
    let type = c.args.form.data_type.now in
    let fill = c.args.form.fill_value.now in
    let form = c.requires.form in
    let count = count_is (product sizes) c.in_ok-count.count form.counted c.in_ok-count.ensures.answer in
    let positive = subst (All (λ size. 0 < size)) c.as_slice.ensures.value c.as_slice.ensures.positive in
    let walk = walk_is f chain shape sizes type fill c.args.value.now c.args.numbers.now positive form.divided c.requires.len in
    record {
      walk = walk_begins (chain_chunk f chain) shape sizes type fill c.args.value.now c.args.numbers.now c.in_ok-count.count c.in_ok-elements.elements _ count form.filling form.room c.in_ok-elements.ensures.exact.is walk;
      tight = c.in_ok-elements.ensures.tight;
    }

pub sharding::shard_decode::read_all-loop-number-preserved : goal.sharding::shard_decode::read_all-loop-number-preserved
sharding::shard_decode::read_all-loop-number-preserved g t c =
    let decode = chain_chunk g.B.BytesToBytesCodecTraits.functions (plain_chain c.args.chain.now) in
    let numbers = c.args.numbers.now in
    let number = c.loop-number.number in
    let inside : number * 2 + 1 < length numbers = omega arith in
    record {
      walk = walk_goes_on decode c.args.inner.now c.args.form.shape.now c.args.form.data_type.now c.args.form.fill_value.now c.args.value.now numbers number (get_or numbers (number * 2) 0, get_or numbers (number * 2 + 1) 0) c.loop-number.elements c.in_ok-elements-2.elements _ c.loop-number.invariant.walk inside refl c.in_ok-elements-2.ensures.answer.is;
      tight = c.in_ok-elements-2.ensures.tight;
    }

pub sharding::shard_decode::shard_decode-returns-clause-answer : goal.sharding::shard_decode::shard_decode-returns-clause-answer
sharding::shard_decode::shard_decode-returns-clause-answer g t c =
    let o = out-ShardingCodec _ c.args.codec.now in
    let form = c.shard_form.ensures.form in
    shard_answered g.B.BytesToBytesCodecTraits.functions o.codecs.value o.index_codecs.value c.deref-5.result.now c.deref-3.result.now c.deref-4.result.now o.chunk_shape c.args.form.shape.now c.in_ok-grid.grid (is_index_at_end o.index_location) c.is_at_end.result c.args.form.data_type.now c.args.form.fill_value.now c.args.value.now c.in_ok-part.part.now c.in_ok-numbers.numbers.items c.as_slice-numbers.result.now c.in_ok-size.size c.read_chunk.result
    c.deref-5.ensures c.deref-3.ensures c.deref-4.ensures form.divided c.in_ok-grid.ensures.answer.is c.in_ok-size.ensures.answer.is c.is_at_end.ensures.value c.in_ok-part.ensures.answer c.in_ok-numbers.ensures.answer.is c.as_slice-numbers.ensures.value c.read_chunk.ensures.answer

-- ---- row by row

pub sharding::shard_rows::read_stored_bytes-returns : goal.sharding::shard_rows::read_stored_bytes-returns
sharding::shard_rows::read_stored_bytes-returns g t c =
    let f = g.B.BytesToBytesCodecTraits.functions in
    let type = c.args.form.data_type.now in
    let read = inner_read f (plain_chain c.args.chain.now) c.args.form.shape.now type c.args.form.fill_value.now c.args.value.now c.in_ok-bytes_at.field-0.now c.args.span c.in_ok-content.content (sym c.in_ok-bytes_at.ensures.answer) c.in_ok-content.ensures.exact.is in
    record {
      answer = content_read type (product c.args.form.shape.now) c.in_ok-content.content _ c.into_fixed.result c.requires.fixed read.0 read.1 c.into_fixed.ensures.answer;
      whole = content_whole type (product c.args.form.shape.now) c.in_ok-content.content c.into_fixed.result read.1 c.into_fixed.ensures.answer;
    }

pub sharding::shard_rows::read_inner_bytes-returns-then-not-has_span : goal.sharding::shard_rows::read_inner_bytes-returns-then-not-has_span
sharding::shard_rows::read_inner_bytes-returns-then-not-has_span g t c =
    let decode = chain_chunk g.B.BytesToBytesCodecTraits.functions (plain_chain c.args.chain.now) in
    let e : is_stored c.args.span ≡ false = search rules in
    let read = blank_read decode c.args.form.shape.now c.args.form.data_type.now c.args.form.fill_value.now c.args.value.now c.args.blank.now c.args.span (is_stored c.args.span) e c.requires.blank in
    record { answer = record { is = read.0; no_fault = refl }; whole = read.1 }

pub sharding::shard_rows::read_all_bytes-loop-number-init : goal.sharding::shard_rows::read_all_bytes-loop-number-init
sharding::shard_rows::read_all_bytes-loop-number-init g t c =
    let decode = chain_chunk g.B.BytesToBytesCodecTraits.functions (plain_chain c.args.chain.now) in
    record {
      walk = reads_begin decode c.args.form.shape.now c.args.form.data_type.now c.args.form.fill_value.now c.args.value.now c.args.numbers.now _ (ap (chunks_in c.args.form.data_type.now (product c.args.form.shape.now)) c.in_ok-contents.ensures.items);
      all = search rules;
      whole = search rules;
    }

pub sharding::shard_rows::read_all_bytes-loop-number-preserved : goal.sharding::shard_rows::read_all_bytes-loop-number-preserved
sharding::shard_rows::read_all_bytes-loop-number-preserved g t c =
    let decode = chain_chunk g.B.BytesToBytesCodecTraits.functions (plain_chain c.args.chain.now) in
    let numbers = c.args.numbers.now in
    let number = c.loop-number.number in
    let type = c.args.form.data_type.now in
    let count = product c.args.form.shape.now in
    let inside : number * 2 + 1 < length numbers = omega arith in
    let old = c.loop-number.contents.items in
    let content = c.in_ok-content.content in
    let more = chunks_more type count old _ content c.in_ok-push.ensures.items in
    record {
      walk = reads_on decode c.args.form.shape.now type c.args.form.fill_value.now c.args.value.now numbers number (get_or numbers (number * 2) 0, get_or numbers (number * 2 + 1) 0) (chunks_in type count old) c.loop-number.invariant.walk inside refl (elements type count (flen (raw_of content))) _ c.in_ok-content.ensures.answer.is more;
      all = long_more old _ content number c.in_ok-push.ensures.items c.loop-number.invariant.all;
      whole = whole_more (λ (x : CowSlice ℕ Global). validity type count (flen (raw_of x)) ≡ Ok tt) old _ content c.in_ok-push.ensures.items c.loop-number.invariant.whole c.in_ok-content.ensures.whole;
    }

pub sharding::shard_rows::read_all_bytes-returns : goal.sharding::shard_rows::read_all_bytes-returns
sharding::shard_rows::read_all_bytes-returns g t c =
    let decode = chain_chunk g.B.BytesToBytesCodecTraits.functions (plain_chain c.args.chain.now) in
    let end : c.loop-number.number ≡ length c.args.numbers.now / 2 = omega arith in
    record {
      answer = record { is = reads_end decode c.args.form.shape.now c.args.form.data_type.now c.args.form.fill_value.now c.args.value.now c.args.numbers.now c.loop-number.number _ c.loop-number.invariant.walk end; no_fault = refl };
      all = c.loop-number.invariant.all ∙ end;
      whole = c.loop-number.invariant.whole;
    }

pub sharding::shard_rows::read_rows-blank_inner_chunk-requires-clause-room : goal.sharding::shard_rows::read_rows-blank_inner_chunk-requires-clause-room
sharding::shard_rows::read_rows-blank_inner_chunk-requires-clause-room g t c =
    let parts_positive = subst (All (λ size. 0 < size)) c.as_slice.ensures.value c.as_slice.ensures.positive in
    let positive = subst (All (λ size. 0 < size)) c.as_slice-2.ensures.value c.as_slice-2.ensures.positive in
    less_room c.args.form.data_type.now c.args.size (product c.args.inner.now) (product c.args.form.shape.now) c.requires.fixed (inner_smaller c.args.inner.now c.args.form.shape.now parts_positive positive c.requires.form.divided) c.requires.form.room

pub sharding::shard_rows::read_rows-returns-in_err-bytes : goal.sharding::shard_rows::read_rows-returns-in_err-bytes
sharding::shard_rows::read_rows-returns-in_err-bytes g t c =
    let s : is_none (fixed_size_of c.args.form.data_type.now) ≡ false = ap is_none c.requires.fixed in
    absurd (items_there c.args.form.data_type.now c.in_ok-blank.blank _ c.in_err-bytes.field-0.0 s c.in_ok-blank.ensures.answer.is (sym c.in_err-bytes.ensures.answer))

pub sharding::shard_rows::read_rows-read_all_bytes-requires : goal.sharding::shard_rows::read_rows-read_all_bytes-requires
sharding::shard_rows::read_rows-read_all_bytes-requires g t c =
    let s : is_none (fixed_size_of c.args.form.data_type.now) ≡ false = ap is_none c.requires.fixed in
    let h : Holds c.args.form.data_type.now (flen (lent_bytes c.in_ok-bytes.bytes.now)) (filled_chunk c.args.inner.now c.args.form.data_type.now c.args.form.fill_value.now) =
    lent_holds c.args.form.data_type.now c.in_ok-blank.blank c.in_ok-bytes.bytes.now _ (sym c.in_ok-bytes.ensures.answer) c.in_ok-blank.ensures.answer.is in
    search (rules, s, h)

pub sharding::shard_rows::read_rows-returns-clause-answer : goal.sharding::shard_rows::read_rows-returns-clause-answer
sharding::shard_rows::read_rows-returns-clause-answer g t c =
    let shape = c.args.inner.now in
    let sizes = c.args.form.shape.now in
    let read = c.in_ok-contents.ensures.answer.is ∙ ap (λ (cs : List (CowSlice ℕ Global)). ok (chunks_in c.args.form.data_type.now (product shape) cs)) (sym c.as_slice-3.ensures.value) in
    chunk_joined (joined_inner_chunks shape sizes) (Holds c.args.form.data_type.now) _ _ c.joined_rows.result read c.joined_rows.ensures.answer

pub sharding::shard_rows::read_all_bytes-returns-in_err-content : goal.sharding::shard_rows::read_all_bytes-returns-in_err-content
sharding::shard_rows::read_all_bytes-returns-in_err-content g t c =
    let decode = chain_chunk g.B.BytesToBytesCodecTraits.functions (plain_chain c.args.chain.now) in
    let numbers = c.args.numbers.now in
    let number = c.loop-number.number in
    let inside : number * 2 + 1 < length numbers = omega arith in
    record {
      answer = record {
        is =
            let p = err_from_is_err_and c.from_residual-in_err-content.result c.from_residual-in_err-content.ensures.1 in
            rw (p.1, p.2) (λ ne. reads_refused decode c.args.form.shape.now c.args.form.data_type.now c.args.form.fill_value.now c.args.value.now numbers number (get_or numbers (number * 2) 0, get_or numbers (number * 2 + 1) 0) _ c.loop-number.invariant.walk inside refl c.in_err-content.field-0.0 (c.in_err-content.ensures.answer.is ne));
        no_fault = search rules;
      };
      all = search rules;
      whole = search rules;
    }

pub sharding::shard_rows::read_rows-joined_rows-requires : goal.sharding::shard_rows::read_rows-joined_rows-requires
sharding::shard_rows::read_rows-joined_rows-requires g t c =
    let type = c.args.form.data_type.now in
    let shape = c.args.inner.now in
    let sizes = c.args.form.shape.now in
    let form = c.requires.form in
    record {
      valid = record {
        sized = c.requires.fixed;
        divided = form.divided;
        counted = form.counted;
        inner_counted = form.inner_counted;
        room = form.room;
        all = ap (λ (xs : List (CowSlice ℕ Global)). length xs) c.as_slice-3.ensures.value ∙ c.in_ok-contents.ensures.all ∙ halved (inner_chunk_count shape sizes) (length c.args.numbers.now) c.requires.len;
        whole = subst (All (λ (x : CowSlice ℕ Global). validity type (product shape) (flen (raw_of x)) ≡ Ok tt)) (sym c.as_slice-3.ensures.value) c.in_ok-contents.ensures.whole;
      };
    }

-- ---- band by band

pub sharding::shard_bands::read_elements-returns-then-not-has_span : goal.sharding::shard_bands::read_elements-returns-then-not-has_span
sharding::shard_bands::read_elements-returns-then-not-has_span g t c =
    let decode = chain_chunk g.B.BytesToBytesCodecTraits.functions (plain_chain c.args.chain.now) in
    let e : is_stored c.args.span ≡ false = search rules in
    let read = blank_cloned decode c.args.form.shape.now c.args.form.data_type.now c.args.form.fill_value.now c.args.value.now c.args.span (is_stored c.args.span) c.args.blank.now c.clone.result e c.requires.missing c.requires.blank_tight c.clone.ensures.copy in
    record { answer = read.answer; whole = read.whole; tight = read.tight }

pub sharding::shard_bands::read_elements-returns : goal.sharding::shard_bands::read_elements-returns
sharding::shard_bands::read_elements-returns g t c =
    let f = g.B.BytesToBytesCodecTraits.functions in
    let type = c.args.form.data_type.now in
    let decode = chain_chunk f (plain_chain c.args.chain.now) in
    let e : is_stored c.args.span ≡ true = search rules in
    let read = inner_read f (plain_chain c.args.chain.now) c.args.form.shape.now type c.args.form.fill_value.now c.args.value.now c.in_ok-bytes_at.field-0.now c.args.span c.in_ok-content.content (sym c.in_ok-bytes_at.ensures.answer) c.in_ok-content.ensures.exact.is in
    record {
      answer = record { is = ap (λ b. inner_chunk_at b decode c.args.form.shape.now type c.args.form.fill_value.now c.args.value.now c.args.span) e ∙ read.0; no_fault = refl };
      whole = read.1;
      tight = c.in_ok-content.ensures.tight;
    }

pub sharding::shard_bands::read_band-loop-number-init : goal.sharding::shard_bands::read_band-loop-number-init
sharding::shard_bands::read_band-loop-number-init g t c =
    let decode = chain_chunk g.B.BytesToBytesCodecTraits.functions (plain_chain c.args.chain.now) in
    record {
      walk = reads_begin decode c.args.form.shape.now c.args.form.data_type.now c.args.form.fill_value.now c.args.value.now c.args.numbers.now _ (ap (chunks_of c.args.form.data_type.now (product c.args.form.shape.now)) c.in_ok-contents.ensures.items);
      all = search rules;
      whole = search rules;
      tight = search rules;
    }

pub sharding::shard_bands::read_band-loop-number-preserved : goal.sharding::shard_bands::read_band-loop-number-preserved
sharding::shard_bands::read_band-loop-number-preserved g t c =
    let decode = chain_chunk g.B.BytesToBytesCodecTraits.functions (plain_chain c.args.chain.now) in
    let numbers = c.args.numbers.now in
    let number = c.loop-number.number in
    let type = c.args.form.data_type.now in
    let count = product c.args.form.shape.now in
    let inside : number * 2 + 1 < length numbers = omega arith in
    let old = c.loop-number.contents.items in
    let content = c.in_ok-content.content in
    let more = chunks_on type count old _ content c.in_ok-push.ensures.items in
    record {
      walk = reads_on decode c.args.form.shape.now type c.args.form.fill_value.now c.args.value.now numbers number (get_or numbers (number * 2) 0, get_or numbers (number * 2 + 1) 0) (chunks_of type count old) c.loop-number.invariant.walk inside refl (elements type count content) _ c.in_ok-content.ensures.answer.is more;
      all = long_more old _ content number c.in_ok-push.ensures.items c.loop-number.invariant.all;
      whole = whole_more (λ (x : Held). validity type count x ≡ Ok tt) old _ content c.in_ok-push.ensures.items c.loop-number.invariant.whole c.in_ok-content.ensures.whole;
      tight = whole_more (IsTight type) old _ content c.in_ok-push.ensures.items c.loop-number.invariant.tight c.in_ok-content.ensures.tight;
    }

pub sharding::shard_bands::read_band-returns : goal.sharding::shard_bands::read_band-returns
sharding::shard_bands::read_band-returns g t c =
    let decode = chain_chunk g.B.BytesToBytesCodecTraits.functions (plain_chain c.args.chain.now) in
    let end : c.loop-number.number ≡ length c.args.numbers.now / 2 = omega arith in
    record {
      answer = record { is = reads_end decode c.args.form.shape.now c.args.form.data_type.now c.args.form.fill_value.now c.args.value.now c.args.numbers.now c.loop-number.number _ c.loop-number.invariant.walk end; no_fault = refl };
      all = c.loop-number.invariant.all ∙ end;
      whole = c.loop-number.invariant.whole;
      tight = c.loop-number.invariant.tight;
    }

pub sharding::shard_bands::read_band-returns-in_err-content : goal.sharding::shard_bands::read_band-returns-in_err-content
sharding::shard_bands::read_band-returns-in_err-content g t c =
    let decode = chain_chunk g.B.BytesToBytesCodecTraits.functions (plain_chain c.args.chain.now) in
    let numbers = c.args.numbers.now in
    let number = c.loop-number.number in
    let inside : number * 2 + 1 < length numbers = omega arith in
    record {
      answer = record {
        is =
            let p = err_from_is_err_and c.from_residual-in_err-content.result c.from_residual-in_err-content.ensures.1 in
            rw (p.1, p.2) (λ ne. reads_refused decode c.args.form.shape.now c.args.form.data_type.now c.args.form.fill_value.now c.args.value.now numbers number (get_or numbers (number * 2) 0, get_or numbers (number * 2 + 1) 0) _ c.loop-number.invariant.walk inside refl c.in_err-content.field-0.0 (c.in_err-content.ensures.answer.is ne));
        no_fault = search rules;
      };
      all = search rules;
      whole = search rules;
      tight = search rules;
    }

pub sharding::shard_bands::read_bands-band_sizes-requires : goal.sharding::shard_bands::read_bands-band_sizes-requires
sharding::shard_bands::read_bands-band_sizes-requires g t c =
    let f = g.B.BytesToBytesCodecTraits.functions in
    let chain = plain_chain c.args.chain.now in
    let inner : List ℕ = c.args.inner.now in
    let shape : List ℕ = c.args.form.shape.now in
    let band : List ℕ = band_of inner shape in
    let type = c.args.form.data_type.now in
    let fill = c.args.form.fill_value.now in
    let numbers : List ℕ = c.args.numbers.now in
    let form = c.requires.form in
    let parts_positive : All (λ part. 0 < part) inner = subst (All (λ part. 0 < part)) c.as_slice.ensures.value c.as_slice.ensures.positive in
    let positive : All (λ part. 0 < part) shape = subst (All (λ part. 0 < part)) c.as_slice-2.ensures.value c.as_slice-2.ensures.positive in
    record {
      form = band_form inner shape c.in_ok-band.band type fill form c.in_ok-band.ensures.value;
      all = halved (inner_chunk_count inner shape) (length numbers) c.requires.len;
    }

pub sharding::shard_bands::read_bands-loop-number-init : goal.sharding::shard_bands::read_bands-loop-number-init
sharding::shard_bands::read_bands-loop-number-init g t c =
    let f = g.B.BytesToBytesCodecTraits.functions in
    let chain = plain_chain c.args.chain.now in
    let inner : List ℕ = c.args.inner.now in
    let shape : List ℕ = c.args.form.shape.now in
    let band : List ℕ = band_of inner shape in
    let type = c.args.form.data_type.now in
    let fill = c.args.form.fill_value.now in
    let numbers : List ℕ = c.args.numbers.now in
    let form = c.requires.form in
    let parts_positive : All (λ part. 0 < part) inner = subst (All (λ part. 0 < part)) c.as_slice.ensures.value c.as_slice.ensures.positive in
    let positive : All (λ part. 0 < part) shape = subst (All (λ part. 0 < part)) c.as_slice-2.ensures.value c.as_slice-2.ensures.positive in
    record {
      walk = bands_begin (chain_chunk f chain) inner band (inner_chunk_count inner band) type fill c.args.value.now numbers c.in_ok-elements.elements c.in_ok-elements.ensures.answer.is;
      tight = c.in_ok-elements.ensures.tight;
    }

pub sharding::shard_bands::read_bands-band_numbers-part-requires : goal.sharding::shard_bands::read_bands-band_numbers-part-requires
sharding::shard_bands::read_bands-band_numbers-part-requires g t c =
    let f = g.B.BytesToBytesCodecTraits.functions in
    let chain = plain_chain c.args.chain.now in
    let inner : List ℕ = c.args.inner.now in
    let shape : List ℕ = c.args.form.shape.now in
    let band : List ℕ = band_of inner shape in
    let type = c.args.form.data_type.now in
    let fill = c.args.form.fill_value.now in
    let numbers : List ℕ = c.args.numbers.now in
    let form = c.requires.form in
    let parts_positive : All (λ part. 0 < part) inner = subst (All (λ part. 0 < part)) c.as_slice.ensures.value c.as_slice.ensures.positive in
    let positive : All (λ part. 0 < part) shape = subst (All (λ part. 0 < part)) c.as_slice-2.ensures.value c.as_slice-2.ensures.positive in
    let of_band = band_form inner shape band type fill form refl in
    let facts = band_facts inner shape band of_band parts_positive positive in
    let per : ℕ = inner_chunk_count inner band in
    let number : ℕ = c.loop-number.number in
    let are = c.in_ok-sizes.ensures.answer.is in
    let below : number < band_count inner shape = omega (arith, are.count_is) in
    let inside = band_inside number per (band_count inner shape) (inner_chunk_count inner shape) numbers below facts.all c.requires.len in
    record { inside = subst (λ n. number * n * 2 + n * 2 ≤ length numbers) (sym are.chunks_are) inside }

pub sharding::shard_bands::read_bands-join_band-requires : goal.sharding::shard_bands::read_bands-join_band-requires
sharding::shard_bands::read_bands-join_band-requires g t c =
    let f = g.B.BytesToBytesCodecTraits.functions in
    let chain = plain_chain c.args.chain.now in
    let inner : List ℕ = c.args.inner.now in
    let shape : List ℕ = c.args.form.shape.now in
    let band : List ℕ = band_of inner shape in
    let type = c.args.form.data_type.now in
    let fill = c.args.form.fill_value.now in
    let numbers : List ℕ = c.args.numbers.now in
    let form = c.requires.form in
    let parts_positive : All (λ part. 0 < part) inner = subst (All (λ part. 0 < part)) c.as_slice.ensures.value c.as_slice.ensures.positive in
    let positive : All (λ part. 0 < part) shape = subst (All (λ part. 0 < part)) c.as_slice-2.ensures.value c.as_slice-2.ensures.positive in
    let of_band = band_form inner shape band type fill form refl in
    let facts = band_facts inner shape band of_band parts_positive positive in
    let per : ℕ = inner_chunk_count inner band in
    let number : ℕ = c.loop-number.number in
    let are = c.in_ok-sizes.ensures.answer.is in
    let below : number < band_count inner shape = omega (arith, are.count_is) in
    let inside = band_inside number per (band_count inner shape) (inner_chunk_count inner shape) numbers below facts.all c.requires.len in
    let part_is : c.band_numbers-part.result.now ≡ take (per * 2) (drop (number * per * 2) numbers) = c.band_numbers-part.ensures.value ∙ ap (λ n. take (n * 2) (drop (number * n * 2) numbers)) are.chunks_are in
    let many : length c.in_ok-contents.contents.items ≡ per = c.in_ok-contents.ensures.all ∙ band_long number per numbers c.band_numbers-part.result.now inside part_is in
    let band_is = c.in_ok-band.ensures.value in
    record {
      form = band_form inner shape c.in_ok-band.band type fill form band_is;
      all = ap (λ (xs : List Held). length xs) c.as_slice-in-loop-number.ensures.value ∙ many ∙ ap (inner_chunk_count inner) (sym band_is);
      joinable = joinable_more type c.loop-number.done (product inner) c.loop-number.elements c.as_slice-in-loop-number.result.now c.in_ok-contents.contents.items c.loop-number.invariant.walk.valid c.loop-number.invariant.tight c.as_slice-in-loop-number.ensures.value c.in_ok-contents.ensures.whole c.in_ok-contents.ensures.tight;
      counted = subst (λ (ns : List ℕ). c.loop-number.done + product ns < 2 ^ 64) (sym band_is) (band_counted inner shape band number c.loop-number.done of_band facts below c.loop-number.invariant.walk.counted);
    }

pub sharding::shard_bands::read_bands-overflow_add-done : goal.sharding::shard_bands::read_bands-overflow_add-done
sharding::shard_bands::read_bands-overflow_add-done g t c =
    let f = g.B.BytesToBytesCodecTraits.functions in
    let chain = plain_chain c.args.chain.now in
    let inner : List ℕ = c.args.inner.now in
    let shape : List ℕ = c.args.form.shape.now in
    let band : List ℕ = band_of inner shape in
    let type = c.args.form.data_type.now in
    let fill = c.args.form.fill_value.now in
    let numbers : List ℕ = c.args.numbers.now in
    let form = c.requires.form in
    let parts_positive : All (λ part. 0 < part) inner = subst (All (λ part. 0 < part)) c.as_slice.ensures.value c.as_slice.ensures.positive in
    let positive : All (λ part. 0 < part) shape = subst (All (λ part. 0 < part)) c.as_slice-2.ensures.value c.as_slice-2.ensures.positive in
    let of_band = band_form inner shape band type fill form refl in
    let facts = band_facts inner shape band of_band parts_positive positive in
    let per : ℕ = inner_chunk_count inner band in
    let number : ℕ = c.loop-number.number in
    let are = c.in_ok-sizes.ensures.answer.is in
    let below : number < band_count inner shape = omega (arith, are.count_is) in
    let fits = band_counted inner shape band number c.loop-number.done of_band facts below c.loop-number.invariant.walk.counted in
    omega (arith, fits, are.elements_are)

pub sharding::shard_bands::read_bands-loop-number-preserved : goal.sharding::shard_bands::read_bands-loop-number-preserved
sharding::shard_bands::read_bands-loop-number-preserved g t c =
    let f = g.B.BytesToBytesCodecTraits.functions in
    let chain = plain_chain c.args.chain.now in
    let inner : List ℕ = c.args.inner.now in
    let shape : List ℕ = c.args.form.shape.now in
    let band : List ℕ = band_of inner shape in
    let type = c.args.form.data_type.now in
    let fill = c.args.form.fill_value.now in
    let numbers : List ℕ = c.args.numbers.now in
    let form = c.requires.form in
    let parts_positive : All (λ part. 0 < part) inner = subst (All (λ part. 0 < part)) c.as_slice.ensures.value c.as_slice.ensures.positive in
    let positive : All (λ part. 0 < part) shape = subst (All (λ part. 0 < part)) c.as_slice-2.ensures.value c.as_slice-2.ensures.positive in
    let of_band = band_form inner shape band type fill form refl in
    let facts = band_facts inner shape band of_band parts_positive positive in
    let per : ℕ = inner_chunk_count inner band in
    let number : ℕ = c.loop-number.number in
    let are = c.in_ok-sizes.ensures.answer.is in
    let below : number < band_count inner shape = omega (arith, are.count_is) in
    let inside = band_inside number per (band_count inner shape) (inner_chunk_count inner shape) numbers below facts.all c.requires.len in
    let part_is : c.band_numbers-part.result.now ≡ take (per * 2) (drop (number * per * 2) numbers) = c.band_numbers-part.ensures.value ∙ ap (λ n. take (n * 2) (drop (number * n * 2) numbers)) are.chunks_are in
    let many : length c.in_ok-contents.contents.items ≡ per = c.in_ok-contents.ensures.all ∙ band_long number per numbers c.band_numbers-part.result.now inside part_is in
    let chunks = chunks_of type (product inner) c.in_ok-contents.contents.items in
    let long : length chunks ≡ per = length-map c.in_ok-contents.contents.items (elements type (product inner)) ∙ many in
    let given : AnswersBy {E = CodecError} memory (Holds type) (Ok c.in_ok-elements-2.elements) (Ok (elements type c.loop-number.done c.loop-number.elements ++ part_elements chunks 0 0 inner band)) =
    subst (λ (ns : List ℕ). AnswersBy {E = CodecError} memory (Holds type) (Ok c.in_ok-elements-2.elements) (Ok (elements type c.loop-number.done c.loop-number.elements ++ part_elements chunks 0 0 inner ns))) c.in_ok-band.ensures.value
    (subst (λ (xs : List Held). AnswersBy {E = CodecError} memory (Holds type) (Ok c.in_ok-elements-2.elements) (Ok (elements type c.loop-number.done c.loop-number.elements ++ part_elements (chunks_of type (product inner) xs) 0 0 inner c.in_ok-band.band))) c.as_slice-in-loop-number.ensures.value c.in_ok-elements-2.ensures.answer.is) in
    let next = bands_on (chain_chunk f chain) inner band per type fill c.args.value.now numbers number c.loop-number.done c.loop-number.elements c.loop-number.invariant.walk inside c.band_numbers-part.result.now part_is chunks c.in_ok-elements-2.elements c.in_ok-contents.ensures.answer.is long (is_cut inner band parts_positive facts.divided) refl facts.size given in
    let done : c.loop-number.done + per * product inner ≡ c.loop-number.done + c.in_ok-sizes.sizes.elements = ap (λ n. c.loop-number.done + n) (sym (are.elements_are ∙ facts.size)) in
    record {
      walk = subst (λ n. BandsTo (chain_chunk f chain) inner band per type fill c.args.value.now numbers (number + 1) n c.in_ok-elements-2.elements) done next;
      tight = c.in_ok-elements-2.ensures.tight;
    }

pub sharding::shard_bands::read_bands-returns-in_err-contents : goal.sharding::shard_bands::read_bands-returns-in_err-contents
sharding::shard_bands::read_bands-returns-in_err-contents g t c =
    let f = g.B.BytesToBytesCodecTraits.functions in
    let chain = plain_chain c.args.chain.now in
    let inner : List ℕ = c.args.inner.now in
    let shape : List ℕ = c.args.form.shape.now in
    let band : List ℕ = band_of inner shape in
    let type = c.args.form.data_type.now in
    let fill = c.args.form.fill_value.now in
    let numbers : List ℕ = c.args.numbers.now in
    let form = c.requires.form in
    let parts_positive : All (λ part. 0 < part) inner = subst (All (λ part. 0 < part)) c.as_slice.ensures.value c.as_slice.ensures.positive in
    let positive : All (λ part. 0 < part) shape = subst (All (λ part. 0 < part)) c.as_slice-2.ensures.value c.as_slice-2.ensures.positive in
    let of_band = band_form inner shape band type fill form refl in
    let facts = band_facts inner shape band of_band parts_positive positive in
    let per : ℕ = inner_chunk_count inner band in
    let number : ℕ = c.loop-number.number in
    let are = c.in_ok-sizes.ensures.answer.is in
    let below : number < band_count inner shape = omega (arith, are.count_is) in
    let inside = band_inside number per (band_count inner shape) (inner_chunk_count inner shape) numbers below facts.all c.requires.len in
    let part_is : c.band_numbers-part.result.now ≡ take (per * 2) (drop (number * per * 2) numbers) = c.band_numbers-part.ensures.value ∙ ap (λ n. take (n * 2) (drop (number * n * 2) numbers)) are.chunks_are in
    record {
      answer = record {
        is =
            let p = err_from_is_err_and c.from_residual-in_err-contents.result c.from_residual-in_err-contents.ensures.1 in
            rw (p.1, p.2) (λ ne. ap (λ (r : Result (List Chunk) CodecError). r >>= (λ inner_chunks. ok (joined_inner_chunks inner shape inner_chunks))) (bands_refused (chain_chunk f chain) inner band per type fill c.args.value.now numbers number c.loop-number.done c.loop-number.elements c.loop-number.invariant.walk inside c.band_numbers-part.result.now part_is c.in_err-contents.field-0.0 (c.in_err-contents.ensures.answer.is ne)));
        no_fault = search rules;
      };
      tight = search rules;
    }

pub sharding::shard_bands::read_bands-returns : goal.sharding::shard_bands::read_bands-returns
sharding::shard_bands::read_bands-returns g t c =
    let f = g.B.BytesToBytesCodecTraits.functions in
    let chain = plain_chain c.args.chain.now in
    let inner : List ℕ = c.args.inner.now in
    let shape : List ℕ = c.args.form.shape.now in
    let band : List ℕ = band_of inner shape in
    let type = c.args.form.data_type.now in
    let fill = c.args.form.fill_value.now in
    let numbers : List ℕ = c.args.numbers.now in
    let form = c.requires.form in
    let parts_positive : All (λ part. 0 < part) inner = subst (All (λ part. 0 < part)) c.as_slice.ensures.value c.as_slice.ensures.positive in
    let positive : All (λ part. 0 < part) shape = subst (All (λ part. 0 < part)) c.as_slice-2.ensures.value c.as_slice-2.ensures.positive in
    let of_band = band_form inner shape band type fill form refl in
    let facts = band_facts inner shape band of_band parts_positive positive in
    let per : ℕ = inner_chunk_count inner band in
    let number : ℕ = c.loop-number.number in
    let are = c.in_ok-sizes.ensures.answer.is in
    let end : number ≡ band_count inner shape = omega (arith, are.count_is) in
    record {
      answer = record {
        is = bands_end (chain_chunk f chain) inner shape per type fill c.args.value.now numbers number c.loop-number.done c.loop-number.elements c.loop-number.invariant.walk parts_positive form.divided refl end c.requires.len;
        no_fault = refl;
      };
      tight = c.loop-number.invariant.tight;
    }

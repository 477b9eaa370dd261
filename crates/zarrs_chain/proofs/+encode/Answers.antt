use Rattle.std.proofs.Common.{sym, subst, map, List, Ok, Result, IfOk, rules, ◌≡◌, [], ◌∷◌, Err, ◌<◌, ◌^◌, ◌∙◌, drop, slice_index, length, true, ◌++◌, arith, refl}
use Rattle.std.proofs.lemmas.Result.{err_from_is_err_and}
use Rattle.std.specs.List.{list_all}
use Rattle.zarrs_array_bytes.specs.Held.{raw_of, flen}
use Rattle.zarrs_array_bytes.specs.Present.{present_chunk}
use Rattle.zarrs_array_bytes.specs.Validity.{Holds, validity}
use Rattle.zarrs_array_to_array.specs.Mapping.{mapping_of}
use Rattle.zarrs_array_to_array.specs.declared.array_to_array_codec.ArrayToArrayCodec.{ArrayToArrayCodec}
use Rattle.zarrs_chunk.specs.Answer.{Answers, memory, AnswersBy, seen}
use Rattle.zarrs_chunk.specs.declared.codec_error.CodecError.{CodecError}
use Rattle.zarrs_codec.specs.MappedChunk.{encoded_chunk}
use Rattle.zarrs_chain_meaning.proofs.ChainSteps.{value_last, value_refused, refused_value}
use Rattle.zarrs_chain.proofs.KeptBytes.{given_through}
use Rattle.zarrs_chain.proofs.OptionalAt.{inner_refused_at, unfit_at, mask_refused_at, part_refused_at}
use Rattle.zarrs_chain_meaning.proofs.OptionalSteps.{mask_answers}
use Rattle.zarrs_chain_meaning.specs.ArrayStages.{arrays_map}
use Rattle.zarrs_chain_meaning.specs.BytesStages.{outer_value, in_memory}
use Rattle.zarrs_chain_meaning.specs.Chain.{held_value, held_part}
use Rattle.zarrs_array_to_array.specs.ArrayToArrayCodec.{keeps_places}
use Rattle.zarrs_chain.specs.ChainView.{plain_chain, plain_vlen, plain_vlen_at}
use Rattle.zarrs_chain.specs.FormView.{lent_form}
use Rattle.zarrs_chain_meaning.specs.vlen.VlenSettings.{is_wide, is_at_end}
use Rattle.zarrs_chain_meaning.specs.Parts.{byte_elements, byte_type, part_length_bytes}
use Rattle.zarrs_chain_meaning.specs.CodecMeaning.{chain_value}
use Rattle.zarrs_chain_meaning.specs.vlen.Vlen.{vlen_representation, arranged}
use Rattle.zarrs_chain_meaning.specs.optional.Optional.{flag_type, blank_fill}
use Rattle.zarrs_chain.specs.declared.optional.optional_codec.OptionalCodec.{out-OptionalCodec}
use Rattle.zarrs_chain.proofs.VlenEncode.{content_part, IsIndexRow, index_refused_at, index_not_kept_at, takes_at, content_at, IsVariableHeld, value_index_refused, value_content_refused, value_joined}
use Rattle.zarrs_chunk.specs.ChunkShape.{product}
use Rattle.zarrs_array_bytes.specs.Offsets.{is_offsets, last_of}
use Rattle.zarrs_array_bytes.specs.Parts.{variable_part}
use Rattle.zarrs_chain_meaning.specs.vlen.VlenSteps.{index_part}
use Rattle.zarrs_chain.specs.declared.vlen.vlen_codec.VlenCodec.{out-VlenCodec}
use Rattle.std.specs.List.{All}
use Rattle.zarrs_array_bytes.specs.Held.{owned_bytes}
use Rattle.zarrs_chain_meaning.specs.vlen.Vlen.{offset_bytes, offset_elements, offset_type}
use Rattle.zarrs_chain_meaning.proofs.NestedStages.{is_positive}
use Rattle.zarrs_chain.proofs.ShardIndex.{IsIndexRows, index_form, part_kept, part_not_kept, part_refused, part_sized, value_of_rows}
use Rattle.std.proofs.Common.{ℕ, ap, replicate, ◌*◌, ◌+◌, ◌≤◌}
use Rattle.std.specs.Prelude.{IsOkAnd}
use Rattle.zarrs_array_bytes.specs.Chunks.{chunk_at}
use Rattle.zarrs_array_bytes.specs.Elements.{elements, select}
use Rattle.zarrs_chunk.specs.Runs.{joined_runs, EndWithin}
use Rattle.zarrs_chain_meaning.proofs.ArraySteps.{ok_is, ok_no_err}
use Rattle.zarrs_chain_meaning.specs.sharding.InnerChunks.{inner_chunk_count, inner_chunks_of}
use Rattle.zarrs_chain_meaning.specs.sharding.Sharding.{first_offset}
use Rattle.zarrs_chain_meaning.specs.sharding.ShardingSettings.{is_index_at_end}
use Rattle.zarrs_chain.specs.declared.codec_chain.CodecChain.{size-CodecChain}
use Rattle.zarrs_chain.specs.declared.sharding.sharding_codec.ShardingCodec.{out-ShardingCodec, size-ShardingCodec, size_is-ShardingCodec}
use Rattle.zarrs_shard_bytes.specs.InnerPlaces.{places_from}
use Rattle.zarrs_shard_bytes.specs.InnerPlaces.{places_from}
use Rattle.zarrs_chain.specs.sharding.ShardWalk.{inner_part, kept_part, written_behind}
use Rattle.zarrs_shard_bytes.specs.WrittenShard.{with_index, written_seen, written_with}
use Rattle.zarrs_chain.specs.sharding.ShardingCalls.{TakesInside, index_size_of, shard_index_part}
use Rattle.zarrs_chain.proofs.ShardAt.{takes_at as shard_takes_at}
use Rattle.zarrs_chain.proofs.ShardEncode.{front_there, index_not_written, inner_not_written, numbers_counted, shard_written}
use Rattle.zarrs_chain.proofs.ShardReading.{grid_is}
use Rattle.zarrs_shard_bytes.proofs.InnerPlaces.{in_grid, is_next, moved_end, runs_moved}
use Rattle.zarrs_chain.proofs.KeptInner.{given_as, places_count, places_there, runs_inside}
use Rattle.zarrs_chain.proofs.KeptParts.{bytes_long, kept_written, never_other}
use Rattle.zarrs_chain.proofs.ShardWrites.{behind_last, behind_more, behind_refused, chunks_counted, next_held, next_numbered, next_refused, next_valid, next_written, size_at}
use Rattle.zarrs_chain.proofs.+encode.Goals as goal

pub encode::chain_encode-returns-in_err-taken : goal.encode::chain_encode-returns-in_err-taken
encode::chain_encode-returns-in_err-taken g t c =
    record {
      exact = record {
        is =
            let p = err_from_is_err_and c.from_residual.result c.from_residual.ensures.1 in
            rw (p.1, p.2) (λ quiet. refused_value g.B.BytesToBytesCodecTraits.functions (plain_chain c.args.chain.now) c.args.form.shape.now c.args.form.data_type.now c.args.form.fill_value.now c.args.held c.in_err-taken.field-0.0 (c.in_err-taken.ensures.answer.is quiet));
        no_fault = search rules;
      };
      kept = λ _. search rules;
    }

pub encode::chain_encode-returns-in_err-below : goal.encode::chain_encode-returns-in_err-below
encode::chain_encode-returns-in_err-below g t c =
    record {
      exact = record {
        is =
            let f = g.B.BytesToBytesCodecTraits.functions in
            let chain = plain_chain c.args.chain.now in
            let sizes = c.args.form.shape.now in
            let type = c.args.form.data_type.now in
            let fill = c.args.form.fill_value.now in
            let taken = c.in_ok-taken.taken in
            let found = subst (λ (cs : List ArrayToArrayCodec). IfOk (encoded_chunk (Ok tt) (arrays_map type (map mapping_of cs) sizes) type sizes c.args.held) (λ chunk. Holds type c.in_ok-chunk.chunk chunk)) c.deref.ensures.value c.in_ok-chunk.ensures.moved in
            let p = err_from_is_err_and c.from_residual-in_err-below.result c.from_residual-in_err-below.ensures.1 in
            rw (p.1, p.2) (value_refused f chain sizes type fill (taken.shape, taken.representation) c.args.held c.in_ok-chunk.chunk c.in_err-below.field-0.0 c.in_ok-taken.ensures.map c.in_ok-taken.ensures.answer.is c.in_ok-taken.ensures.counted (sym c.in_ok-check_elements.ensures.answer) found c.in_err-below.ensures.answer.is);
        no_fault = search rules;
      };
      kept = λ _. search rules;
    }

pub encode::chain_encode-returns : goal.encode::chain_encode-returns
encode::chain_encode-returns g t c =
    record {
      exact = record {
        is =
            let f = g.B.BytesToBytesCodecTraits.functions in
            let chain = plain_chain c.args.chain.now in
            let sizes = c.args.form.shape.now in
            let type = c.args.form.data_type.now in
            let fill = c.args.form.fill_value.now in
            let taken = c.in_ok-taken.taken in
            let found = subst (λ (cs : List ArrayToArrayCodec). IfOk (encoded_chunk (Ok tt) (arrays_map type (map mapping_of cs) sizes) type sizes c.args.held) (λ chunk. Holds type c.in_ok-chunk.chunk chunk)) c.deref.ensures.value c.in_ok-chunk.ensures.moved in
            let last = subst (λ bs. Answers memory (λ value. (raw_of value).items) c.encode_bytes.result (outer_value f bs (raw_of c.in_ok-below.below).items)) c.deref-2.ensures.value c.encode_bytes.ensures.answer.is in
            value_last (λ value. (raw_of value).items) c.encode_bytes.result f chain sizes type fill (taken.shape, taken.representation) c.args.held c.in_ok-chunk.chunk (raw_of c.in_ok-below.below).items c.in_ok-taken.ensures.map c.in_ok-taken.ensures.answer.is c.in_ok-taken.ensures.counted (sym c.in_ok-check_elements.ensures.answer) found c.in_ok-below.ensures.answer.is last;
        no_fault = search rules;
      };
      kept = λ k.
          given_through c.args.held c.in_ok-chunk.chunk (raw_of c.in_ok-below.below) c.encode_bytes.result
          (c.in_ok-chunk.ensures.kept (subst (λ (cs : List ArrayToArrayCodec). list_all keeps_places (map mapping_of cs) ≡ true) (sym c.deref.ensures.value) k.arrays))
          (c.in_ok-below.ensures.kept k.codec)
          (c.encode_bytes.ensures.kept (c.deref-2.ensures.value ∙ k.outer));
    }

pub optional::optional_codec::mask_encode-returns : goal.optional::optional_codec::mask_encode-returns
optional::optional_codec::mask_encode-returns g t c =
    record {
      answer = record {
        is =
            let f = g.B.BytesToBytesCodecTraits.functions in
            let here : Answers memory (λ value. (raw_of value).items) c.chain_encode.result (held_value f (plain_chain c.args.chain.now) c.args.shape.now flag_type (0 ∷ []) (flen (raw_of c.args.mask))) = search rules in
            mask_answers (λ value. (raw_of value).items) c.chain_encode.result f (plain_chain c.args.chain.now) c.args.shape.now (0 ∷ []) (raw_of c.args.mask) c.requires.len c.requires.counted here;
        no_fault = search rules;
      };
    }

pub optional::optional_codec::optional_encode-returns-in_err-inner : goal.optional::optional_codec::optional_encode-returns-in_err-inner
optional::optional_codec::optional_encode-returns-in_err-inner g t c =
    record {
      answer = record {
        is =
            let p = err_from_is_err_and c.from_residual.result c.from_residual.ensures.1 in
            rw (p.1, p.2) (λ ne. inner_refused_at g.B.BytesToBytesCodecTraits.functions c.args.codec.now c.args.form.shape.now c.args.form.data_type.now c.args.form.fill_value.now c.args.held c.in_err-inner.field-0.0 (sym c.in_err-inner.ensures.answer));
        no_fault = search rules;
      };
    }

pub optional::optional_codec::optional_encode-returns-in_err-check_elements : goal.optional::optional_codec::optional_encode-returns-in_err-check_elements
optional::optional_codec::optional_encode-returns-in_err-check_elements g t c =
    record {
      answer = record {
        is =
            let p = err_from_is_err_and c.from_residual-in_err-check_elements.result c.from_residual-in_err-check_elements.ensures.1 in
            rw (p.1, p.2) (λ ne. unfit_at g.B.BytesToBytesCodecTraits.functions c.args.codec.now c.args.form.shape.now c.args.form.data_type.now c.args.form.fill_value.now c.args.held c.in_err-check_elements.field-0.0 c.requires.taken (sym c.in_err-check_elements.ensures.answer));
        no_fault = search rules;
      };
    }

pub optional::optional_codec::content_encode-returns-in_err-mask_part : goal.optional::optional_codec::content_encode-returns-in_err-mask_part
optional::optional_codec::content_encode-returns-in_err-mask_part g t c =
    record {
      answer = record {
        is =
            let f = g.B.BytesToBytesCodecTraits.functions in
            let mask = raw_of c.in_ok-inside.mask in
            let p = err_from_is_err_and c.from_residual-in_err-mask_part.result c.from_residual-in_err-mask_part.ensures.1 in
            rw (p.1, p.2) (λ ne.
            let h : chain_value f (plain_chain (out-OptionalCodec _ c.args.codec.now).mask_codecs.value) c.args.shape.now flag_type (0 ∷ []) (byte_elements mask.items) ≡ Err c.in_err-mask_part.field-0.0 = search rules in
            mask_refused_at f c.args.codec.now c.args.shape.now c.args.inner.now c.args.elements c.in_ok-inside.inside mask c.in_err-mask_part.field-0.0 c.in_ok-inside.ensures.parts c.in_ok-inside.ensures.flags c.requires.valid h);
        no_fault = search rules;
      };
    }

pub optional::optional_codec::content_encode-returns-in_err-data_part : goal.optional::optional_codec::content_encode-returns-in_err-data_part
optional::optional_codec::content_encode-returns-in_err-data_part g t c =
    record {
      answer = record {
        is =
            let f = g.B.BytesToBytesCodecTraits.functions in
            let mask = raw_of c.in_ok-inside.mask in
            let inner = c.args.inner.now in
            let p = err_from_is_err_and c.from_residual-in_err-data_part.result c.from_residual-in_err-data_part.ensures.1 in
            let taken : AnswersBy {E = CodecError} memory (Holds inner) (Ok c.in_ok-present.present) (present_chunk inner c.in_ok-inside.inside mask.items) = search rules in
            let first : chain_value f (plain_chain (out-OptionalCodec _ c.args.codec.now).mask_codecs.value) c.args.shape.now flag_type (0 ∷ []) (byte_elements mask.items) ≡ Ok (raw_of c.in_ok-mask_part.mask_part).items = search rules in
            rw (p.1, p.2) (λ ne.
            let h : held_part f (plain_chain (out-OptionalCodec _ c.args.codec.now).data_codecs.value) c.in_ok-inside.count inner (blank_fill inner) c.in_ok-present.present ≡ Err c.in_err-data_part.field-0.0 = search rules in
            part_refused_at f c.args.codec.now c.args.shape.now (raw_of c.in_ok-mask_part.mask_part).items inner c.args.elements c.in_ok-inside.inside c.in_ok-present.present mask c.in_ok-inside.count c.in_err-data_part.field-0.0 c.in_ok-inside.ensures.parts c.in_ok-inside.ensures.flags c.requires.valid c.in_ok-inside.ensures.count taken first h);
        no_fault = search rules;
      };
    }

pub vlen::vlen_encode::index_encode-returns-in_err-part : goal.vlen::vlen_encode::index_encode-returns-in_err-part
vlen::vlen_encode::index_encode-returns-in_err-part g t c =
    record {
      answer = record {
        is =
            let row : IsIndexRow (is_wide c.args.data_type) c.args.offsets.now c.in_ok-rows.rows c.offset_type.result c.in_ok-fill_value.fill_value = record { rising = c.requires.rising; rows = c.in_ok-rows.ensures.exact.is; type_is = c.offset_type.ensures.value; fill_is = c.in_ok-fill_value.ensures.answer.is } in
            let p = err_from_is_err_and c.from_residual-in_err-part.result c.from_residual-in_err-part.ensures.1 in
            rw (p.1, p.2) (λ ne. index_refused_at g.B.BytesToBytesCodecTraits.functions (plain_chain c.args.chain.now) (is_wide c.args.data_type) c.args.offsets.now c.in_ok-rows.rows c.offset_type.result c.in_ok-fill_value.fill_value c.in_err-part.field-0.0 row (c.in_err-part.ensures.exact.is ne));
        no_fault = search rules;
      };
    }

pub vlen::vlen_encode::index_encode-check_kept-requires-clause-taken : goal.vlen::vlen_encode::index_encode-check_kept-requires-clause-taken
vlen::vlen_encode::index_encode-check_kept-requires-clause-taken g t c =
    let row : IsIndexRow (is_wide c.args.data_type) c.args.offsets.now c.in_ok-rows.rows c.offset_type.result c.in_ok-fill_value.fill_value = record { rising = c.requires.rising; rows = c.in_ok-rows.ensures.exact.is; type_is = c.offset_type.ensures.value; fill_is = c.in_ok-fill_value.ensures.answer.is } in
    takes_at g.B.BytesToBytesCodecTraits.functions (plain_chain c.args.chain.now) (is_wide c.args.data_type) c.args.offsets.now c.in_ok-rows.rows c.offset_type.result c.in_ok-fill_value.fill_value (raw_of c.in_ok-part.part).items c.chain_is_sound.ensures.mappings row c.in_ok-part.ensures.exact.is

pub vlen::vlen_encode::index_encode-returns-in_err-check_kept : goal.vlen::vlen_encode::index_encode-returns-in_err-check_kept
vlen::vlen_encode::index_encode-returns-in_err-check_kept g t c =
    record {
      answer = record {
        is =
            let row : IsIndexRow (is_wide c.args.data_type) c.args.offsets.now c.in_ok-rows.rows c.offset_type.result c.in_ok-fill_value.fill_value = record { rising = c.requires.rising; rows = c.in_ok-rows.ensures.exact.is; type_is = c.offset_type.ensures.value; fill_is = c.in_ok-fill_value.ensures.answer.is } in
            let p = err_from_is_err_and c.from_residual-in_err-check_kept.result c.from_residual-in_err-check_kept.ensures.1 in
            rw (p.1, p.2) (λ ne. index_not_kept_at g.B.BytesToBytesCodecTraits.functions (plain_chain c.args.chain.now) (is_wide c.args.data_type) c.args.offsets.now c.in_ok-rows.rows c.offset_type.result c.in_ok-fill_value.fill_value (raw_of c.in_ok-part.part).items c.in_err-check_kept.field-0.0 row c.in_ok-part.ensures.exact.is (c.in_err-check_kept.ensures.answer.is ne));
        no_fault = search rules;
      };
    }

pub vlen::vlen_encode::content_encode-returns : goal.vlen::vlen_encode::content_encode-returns
vlen::vlen_encode::content_encode-returns g t c =
    record {
      answer = record {
        is =
            let f = g.B.BytesToBytesCodecTraits.functions in
            let raw = raw_of c.args.bytes in
            let small : length raw.items < 2 ^ 64 = search rules in
            let here : Answers memory (λ part. (raw_of part).items) c.part_encode-2.result (held_part f (plain_chain c.args.chain.now) (length raw.items) byte_type c.in_ok-fill_value.fill_value c.new_flen-elements.result) = search rules in
            content_at (λ part. (raw_of part).items) c.part_encode-2.result f (plain_chain c.args.chain.now) raw c.new_flen-elements.result c.in_ok-fill_value.fill_value small c.new_flen-elements.ensures.made c.in_ok-fill_value.ensures.answer here;
        no_fault = search rules;
      };
    }

pub vlen::vlen_encode::vlen_encode-returns-in_err-index : goal.vlen::vlen_encode::vlen_encode-returns-in_err-index
vlen::vlen_encode::vlen_encode-returns-in_err-index g t c =
    record {
      answer = record {
        is =
            let f = g.B.BytesToBytesCodecTraits.functions in
            let codec = c.args.codec.now in
            let o = out-VlenCodec _ codec in
            let index = plain_chain o.index_codecs.value in
            let content = plain_chain o.data_codecs.value in
            let wide = is_wide o.index_data_type in
            let at_end = is_at_end o.index_location in
            let sizes = c.args.form.shape.now in
            let type = c.args.form.data_type.now in
            let fill = c.args.form.fill_value.now in
            let raw = raw_of c.in_ok-bytes.bytes in
            let offsets = c.in_ok-bytes.offsets in
            let measured : vlen_representation sizes type [] ≡ Ok c.in_ok-vlen_representation.field-0 = search rules in
            let valid : validity type (product sizes) c.args.held ≡ Ok tt = search rules in
            let parts : variable_part c.args.held ≡ Ok (raw, offsets) = search rules in
            let rising : is_offsets offsets ≡ true = search rules in
            let ending : last_of offsets ≡ length raw.items = search rules in
            let small : length raw.items < 2 ^ 64 = search rules in
            let v : IsVariableHeld sizes type c.args.held raw offsets = record { size = c.in_ok-vlen_representation.field-0; measured = measured; valid = valid; parts = parts; rising = rising; ending = ending; small = small } in
            let p = err_from_is_err_and c.from_residual-in_err-index.result c.from_residual-in_err-index.ensures.1 in
            rw (p.1, p.2) (λ ne.
            let h : index_part f index wide offsets ≡ Err c.in_err-index.field-0.0 = search rules in
            value_index_refused f (plain_vlen codec) index content wide at_end sizes type fill c.args.held raw offsets c.in_err-index.field-0.0 (plain_vlen_at codec) v h);
        no_fault = search rules;
      };
    }

pub vlen::vlen_encode::vlen_encode-returns-in_err-content : goal.vlen::vlen_encode::vlen_encode-returns-in_err-content
vlen::vlen_encode::vlen_encode-returns-in_err-content g t c =
    record {
      answer = record {
        is =
            let f = g.B.BytesToBytesCodecTraits.functions in
            let codec = c.args.codec.now in
            let o = out-VlenCodec _ codec in
            let index = plain_chain o.index_codecs.value in
            let content = plain_chain o.data_codecs.value in
            let wide = is_wide o.index_data_type in
            let at_end = is_at_end o.index_location in
            let sizes = c.args.form.shape.now in
            let type = c.args.form.data_type.now in
            let fill = c.args.form.fill_value.now in
            let raw = raw_of c.in_ok-bytes.bytes in
            let offsets = c.in_ok-bytes.offsets in
            let measured : vlen_representation sizes type [] ≡ Ok c.in_ok-vlen_representation.field-0 = search rules in
            let valid : validity type (product sizes) c.args.held ≡ Ok tt = search rules in
            let parts : variable_part c.args.held ≡ Ok (raw, offsets) = search rules in
            let rising : is_offsets offsets ≡ true = search rules in
            let ending : last_of offsets ≡ length raw.items = search rules in
            let small : length raw.items < 2 ^ 64 = search rules in
            let v : IsVariableHeld sizes type c.args.held raw offsets = record { size = c.in_ok-vlen_representation.field-0; measured = measured; valid = valid; parts = parts; rising = rising; ending = ending; small = small } in
            let p = err_from_is_err_and c.from_residual-in_err-content.result c.from_residual-in_err-content.ensures.1 in
            let first : index_part f index wide offsets ≡ Ok (raw_of c.in_ok-index.index).items = search rules in
            rw (p.1, p.2) (λ ne.
            let h : content_part f content (drop (slice_index offsets 0) raw.items) ≡ Err c.in_err-content.field-0.0 = search rules in
            value_content_refused f (plain_vlen codec) index content wide at_end sizes type fill c.args.held raw offsets (raw_of c.in_ok-index.index).items c.in_err-content.field-0.0 (plain_vlen_at codec) v first h);
        no_fault = search rules;
      };
    }

pub vlen::vlen_encode::vlen_encode-returns : goal.vlen::vlen_encode::vlen_encode-returns
vlen::vlen_encode::vlen_encode-returns g t c =
    record {
      answer = record {
        is =
            let f = g.B.BytesToBytesCodecTraits.functions in
            let codec = c.args.codec.now in
            let o = out-VlenCodec _ codec in
            let index = plain_chain o.index_codecs.value in
            let content = plain_chain o.data_codecs.value in
            let wide = is_wide o.index_data_type in
            let at_end = is_at_end o.index_location in
            let sizes = c.args.form.shape.now in
            let type = c.args.form.data_type.now in
            let fill = c.args.form.fill_value.now in
            let raw = raw_of c.in_ok-bytes.bytes in
            let offsets = c.in_ok-bytes.offsets in
            let measured : vlen_representation sizes type [] ≡ Ok c.in_ok-vlen_representation.field-0 = search rules in
            let valid : validity type (product sizes) c.args.held ≡ Ok tt = search rules in
            let parts : variable_part c.args.held ≡ Ok (raw, offsets) = search rules in
            let rising : is_offsets offsets ≡ true = search rules in
            let ending : last_of offsets ≡ length raw.items = search rules in
            let small : length raw.items < 2 ^ 64 = search rules in
            let v : IsVariableHeld sizes type c.args.held raw offsets = record { size = c.in_ok-vlen_representation.field-0; measured = measured; valid = valid; parts = parts; rising = rising; ending = ending; small = small } in
            let first : index_part f index wide offsets ≡ Ok (raw_of c.in_ok-index.index).items = search rules in
            let second : content_part f content (drop (slice_index offsets 0) raw.items) ≡ Ok (raw_of c.in_ok-content.content).items = search rules in
            let last : in_memory (arranged at_end (part_length_bytes (raw_of c.in_ok-index.index).items) (raw_of c.in_ok-index.index).items (raw_of c.in_ok-content.content).items) ≡ Ok c.in_ok-value.value.items = search rules in
            value_joined f (plain_vlen codec) index content wide at_end sizes type fill c.args.held raw offsets (raw_of c.in_ok-index.index).items (raw_of c.in_ok-content.content).items (plain_vlen_at codec) v first second ∙ last;
        no_fault = search rules;
      };
    }

pub sharding::shard_index::index_encode-returns-in_err-part : goal.sharding::shard_index::index_encode-returns-in_err-part
sharding::shard_index::index_encode-returns-in_err-part g t c =
    let f = g.B.BytesToBytesCodecTraits.functions in
    let chain = c.args.chain.now in
    let counts = c.args.grid.now in
    let numbers = c.args.numbers.now in
    let form = index_form counts c.in_ok-shape.shape c.uint64-number_type.result c.in_ok-zero.zero c.in_ok-shape.ensures.answer.is c.uint64-number_type.ensures.made c.in_ok-zero.ensures.answer.is in
    let raw = owned_bytes c.in_ok-items.items.items in
    let small : length raw.items < 2 ^ 64 = omega arith in
    let rows : IsIndexRows numbers c.new_flen-rows.result raw = record { made = c.new_flen-rows.ensures.made; items = c.in_ok-items.ensures.value; small = small } in
    let asked = value_of_rows f (plain_chain chain) counts numbers c.in_ok-shape.shape c.uint64-number_type.result c.in_ok-zero.zero c.new_flen-rows.result raw form rows c.requires.len in
    record {
      long = search rules;
      answer = record {
        is =
            let p = err_from_is_err_and c.from_residual-in_err-part.result c.from_residual-in_err-part.ensures.1 in
            rw (p.1, p.2) (λ ne. part_refused f chain counts numbers c.in_err-part.field-0.0 (asked ∙ c.in_err-part.ensures.exact.is ne));
        no_fault = search rules;
      };
    }

pub sharding::shard_index::index_encode-returns-in_err-check_numbers : goal.sharding::shard_index::index_encode-returns-in_err-check_numbers
sharding::shard_index::index_encode-returns-in_err-check_numbers g t c =
    let f = g.B.BytesToBytesCodecTraits.functions in
    let chain = c.args.chain.now in
    let counts = c.args.grid.now in
    let numbers = c.args.numbers.now in
    let form = index_form counts c.in_ok-shape.shape c.uint64-number_type.result c.in_ok-zero.zero c.in_ok-shape.ensures.answer.is c.uint64-number_type.ensures.made c.in_ok-zero.ensures.answer.is in
    let raw = owned_bytes c.in_ok-items.items.items in
    let small : length raw.items < 2 ^ 64 = omega arith in
    let rows : IsIndexRows numbers c.new_flen-rows.result raw = record { made = c.new_flen-rows.ensures.made; items = c.in_ok-items.ensures.value; small = small } in
    let asked = value_of_rows f (plain_chain chain) counts numbers c.in_ok-shape.shape c.uint64-number_type.result c.in_ok-zero.zero c.new_flen-rows.result raw form rows c.requires.len in
    record {
      long = search rules;
      answer = record {
        is =
            let p = err_from_is_err_and c.from_residual-in_err-check_numbers.result c.from_residual-in_err-check_numbers.ensures.1 in
            rw (p.1, p.2) (λ ne. part_not_kept f chain counts numbers (raw_of c.in_ok-part.part).items c.in_err-check_numbers.field-0.0 (asked ∙ c.in_ok-part.ensures.exact.is) (c.in_err-check_numbers.ensures.answer.is ne));
        no_fault = search rules;
      };
    }

pub sharding::shard_index::index_encode-returns : goal.sharding::shard_index::index_encode-returns
sharding::shard_index::index_encode-returns g t c =
    let f = g.B.BytesToBytesCodecTraits.functions in
    let chain = c.args.chain.now in
    let counts = c.args.grid.now in
    let numbers = c.args.numbers.now in
    let form = index_form counts c.in_ok-shape.shape c.uint64-number_type.result c.in_ok-zero.zero c.in_ok-shape.ensures.answer.is c.uint64-number_type.ensures.made c.in_ok-zero.ensures.answer.is in
    let raw = owned_bytes c.in_ok-items.items.items in
    let small : length raw.items < 2 ^ 64 = omega arith in
    let rows : IsIndexRows numbers c.new_flen-rows.result raw = record { made = c.new_flen-rows.ensures.made; items = c.in_ok-items.ensures.value; small = small } in
    let asked = value_of_rows f (plain_chain chain) counts numbers c.in_ok-shape.shape c.uint64-number_type.result c.in_ok-zero.zero c.new_flen-rows.result raw form rows c.requires.len in
    let part = (raw_of c.in_ok-part.part).items in
    let made : chain_value f (plain_chain chain) (counts ++ 2 ∷ []) (offset_type true) (offset_bytes true 0) (offset_elements true numbers) ≡ Ok part = asked ∙ c.in_ok-part.ensures.exact.is in
    record {
      long = λ size e. part_sized f (plain_chain chain) counts numbers part raw size g.met.B.BytesToBytesCodecTraits.lawful c.chain_is_sound.ensures.mappings (subst (All is_positive) c.as_slice.ensures.value c.as_slice.ensures.positive) c.requires.len rows.items small made e;
      answer = record { is = part_kept f chain counts numbers part made c.in_ok-check_numbers.ensures.answer.is; no_fault = refl };
    }

pub sharding::shard_encode::write_next-returns-in_err-as_fixed : goal.sharding::shard_encode::write_next-returns-in_err-as_fixed
sharding::shard_encode::write_next-returns-in_err-as_fixed g t c =
    let f = g.B.BytesToBytesCodecTraits.functions in
    let chain = c.args.chain.now in
    let inner = c.args.inner.now in
    let shape = c.args.form.shape.now in
    let type = c.args.form.data_type.now in
    let fill = c.args.form.fill_value.now in
    let held = c.args.held.now in
    let runs = c.args.runs.now in
    let places = places_from c.args.start runs in
    absurd (never_other f chain inner type fill (product shape) held c.in_err-as_fixed.field-0.0 (c.requires.kept c.if-keeps.true) c.requires.valid c.in_err-as_fixed.ensures.answer)

pub sharding::shard_encode::write_next-write_kept-requires-clause-sized : goal.sharding::shard_encode::write_next-write_kept-requires-clause-sized
sharding::shard_encode::write_next-write_kept-requires-clause-sized g t c =
    subst (λ (xs : List ℕ). 0 < length xs) (sym c.as_ne_bytes.ensures.value) (c.requires.kept c.if-keeps.true).sized

pub sharding::shard_encode::write_next-write_kept-requires-clause-inside : goal.sharding::shard_encode::write_next-write_kept-requires-clause-inside
sharding::shard_encode::write_next-write_kept-requires-clause-inside g t c =
    let f = g.B.BytesToBytesCodecTraits.functions in
    let chain = c.args.chain.now in
    let inner = c.args.inner.now in
    let shape = c.args.form.shape.now in
    let type = c.args.form.data_type.now in
    let fill = c.args.form.fill_value.now in
    let held = c.args.held.now in
    let runs = c.args.runs.now in
    let places = places_from c.args.start runs in
    let items = c.in_ok-as_fixed.field-0.now in
    let long : length items ≡ product shape * length c.as_ne_bytes.result.now = bytes_long type fill (product shape) held items c.requires.form.filling c.in_ok-as_fixed.ensures.answer c.requires.valid ∙ ap (λ (xs : List ℕ). product shape * length xs) (sym c.as_ne_bytes.ensures.value) in
    runs_inside (product shape) (length c.as_ne_bytes.result.now) (length items) c.args.start runs long c.requires.inside

pub sharding::shard_encode::write_next-returns-then-keeps : goal.sharding::shard_encode::write_next-returns-then-keeps
sharding::shard_encode::write_next-returns-then-keeps g t c =
    let f = g.B.BytesToBytesCodecTraits.functions in
    let chain = c.args.chain.now in
    let inner = c.args.inner.now in
    let shape = c.args.form.shape.now in
    let type = c.args.form.data_type.now in
    let fill = c.args.form.fill_value.now in
    let held = c.args.held.now in
    let runs = c.args.runs.now in
    let places = places_from c.args.start runs in
    let items = c.in_ok-as_fixed.field-0.now in
    let old = written_seen c.args.written.now in
    let part = kept_written f chain inner shape type fill held items places (c.requires.kept c.if-keeps.true) c.requires.form.filling c.in_ok-as_fixed.ensures.answer c.requires.valid (places_there (product shape) c.args.start runs c.requires.inside) (places_count c.args.start (product inner) runs c.requires.count) in
    let same : ◌≡◌ {A = Result (List ℕ × List ℕ) CodecError} (Ok (written_with old (kept_part c.as_ne_bytes.result.now items places))) (seen (written_with old) (inner_part f chain inner type fill (select (elements type (product shape) held) places))) =
    ap (λ (xs : List ℕ). Ok (written_with old (kept_part xs items places))) c.as_ne_bytes.ensures.value ∙ ap (seen (written_with old)) (sym part) in
    record { answer = given_as _ _ _ _ same c.write_kept.ensures.answer }

pub sharding::shard_encode::write_next-extract_runs-requires : goal.sharding::shard_encode::write_next-extract_runs-requires
sharding::shard_encode::write_next-extract_runs-requires g t c =
    let f = g.B.BytesToBytesCodecTraits.functions in
    let chain = c.args.chain.now in
    let inner = c.args.inner.now in
    let shape = c.args.form.shape.now in
    let type = c.args.form.data_type.now in
    let fill = c.args.form.fill_value.now in
    let held = c.args.held.now in
    let runs = c.args.runs.now in
    let places = places_from c.args.start runs in
    let n : c.in_ok-count.count ≡ product shape = ok_is c.in_ok-count.count (product shape) (c.in_ok-count.ensures.answer ∙ c.requires.form.counted) in
    let given : c.in_ok-moved.moved.items ≡ map (λ (run : ℕ × ℕ). (c.args.start + run.0, run.1)) runs = search rules in
    let moved : c.as_slice.result.now ≡ map (λ (run : ℕ × ℕ). (c.args.start + run.0, run.1)) runs = c.as_slice.ensures.value ∙ given in
    record { inside = subst (λ (rs : List (ℕ × ℕ)). EndWithin c.in_ok-count.count rs) (sym moved) (subst (λ (k : ℕ). EndWithin k (map (λ (run : ℕ × ℕ). (c.args.start + run.0, run.1)) runs)) (sym n) (moved_end c.args.start (product shape) runs c.requires.inside)) }

pub sharding::shard_encode::write_next-write_inner-requires : goal.sharding::shard_encode::write_next-write_inner-requires
sharding::shard_encode::write_next-write_inner-requires g t c κs within =
    let f = g.B.BytesToBytesCodecTraits.functions in
    let chain = c.args.chain.now in
    let inner = c.args.inner.now in
    let shape = c.args.form.shape.now in
    let type = c.args.form.data_type.now in
    let fill = c.args.form.fill_value.now in
    let held = c.args.held.now in
    let runs = c.args.runs.now in
    let places = places_from c.args.start runs in
    let n : c.in_ok-count.count ≡ product shape = ok_is c.in_ok-count.count (product shape) (c.in_ok-count.ensures.answer ∙ c.requires.form.counted) in
    let given : c.in_ok-moved.moved.items ≡ map (λ (run : ℕ × ℕ). (c.args.start + run.0, run.1)) runs = search rules in
    let moved : c.as_slice.result.now ≡ map (λ (run : ℕ × ℕ). (c.args.start + run.0, run.1)) runs = c.as_slice.ensures.value ∙ given in
    let made = c.in_ok-elements.elements in
    let chunk = elements type (product shape) held in
    let p : joined_runs c.as_slice.result.now ≡ places = ap joined_runs moved ∙ runs_moved c.args.start runs in
    let there : IsOkAnd (chunk_at type c.in_ok-count.count (joined_runs c.as_slice.result.now) held) (Holds type made) = search rules in
    let holds = next_held shape type c.in_ok-count.count held made (joined_runs c.as_slice.result.now) places n p c.requires.valid there in
    let long = places_count c.args.start (product inner) runs c.requires.count in
    let valid : validity type (product inner) made ≡ Ok tt = next_valid inner type chunk places made long holds in
    search rules

pub sharding::shard_encode::write_next-returns : goal.sharding::shard_encode::write_next-returns
sharding::shard_encode::write_next-returns g t c =
    let f = g.B.BytesToBytesCodecTraits.functions in
    let chain = c.args.chain.now in
    let inner = c.args.inner.now in
    let shape = c.args.form.shape.now in
    let type = c.args.form.data_type.now in
    let fill = c.args.form.fill_value.now in
    let held = c.args.held.now in
    let runs = c.args.runs.now in
    let places = places_from c.args.start runs in
    let n : c.in_ok-count.count ≡ product shape = ok_is c.in_ok-count.count (product shape) (c.in_ok-count.ensures.answer ∙ c.requires.form.counted) in
    let given : c.in_ok-moved.moved.items ≡ map (λ (run : ℕ × ℕ). (c.args.start + run.0, run.1)) runs = search rules in
    let moved : c.as_slice.result.now ≡ map (λ (run : ℕ × ℕ). (c.args.start + run.0, run.1)) runs = c.as_slice.ensures.value ∙ given in
    let made = c.in_ok-elements.elements in
    let chunk = elements type (product shape) held in
    let p : joined_runs c.as_slice.result.now ≡ places = ap joined_runs moved ∙ runs_moved c.args.start runs in
    let there : IsOkAnd (chunk_at type c.in_ok-count.count (joined_runs c.as_slice.result.now) held) (Holds type made) = search rules in
    let holds = next_held shape type c.in_ok-count.count held made (joined_runs c.as_slice.result.now) places n p c.requires.valid there in
    let long = places_count c.args.start (product inner) runs c.requires.count in
    record { answer = next_written _ _ _ f chain inner type fill chunk places made long holds c.write_inner.ensures.answer }

pub sharding::shard_encode::write_all-returns-in_err-number-end : goal.sharding::shard_encode::write_all-returns-in_err-number-end
sharding::shard_encode::write_all-returns-in_err-number-end g t c =
    let inner = c.args.inner.now in
    let shape = c.args.form.shape.now in
    let positive = subst (All (λ size. 0 < size)) c.as_slice-parts.ensures.value c.as_slice-parts.ensures.positive in
    let counted = chunks_counted inner shape c.args.grid.now positive c.requires.form.divided c.requires.form.small c.requires.grid in
    absurd (ok_no_err (inner_chunk_count inner shape) c.in_err-number-end.field-0.0 (sym (c.in_err-number-end.ensures.answer ∙ counted)))

pub sharding::shard_encode::write_all-loop-number-init : goal.sharding::shard_encode::write_all-loop-number-init
sharding::shard_encode::write_all-loop-number-init g t c =
    record { is = refl }

pub sharding::shard_encode::write_all-first_place-start-requires : goal.sharding::shard_encode::write_all-first_place-start-requires
sharding::shard_encode::write_all-first_place-start-requires g t c =
    let inner = c.args.inner.now in
    let shape = c.args.form.shape.now in
    let positive = subst (All (λ size. 0 < size)) c.as_slice-parts.ensures.value c.as_slice-parts.ensures.positive in
    let counted = chunks_counted inner shape c.args.grid.now positive c.requires.form.divided c.requires.form.small c.requires.grid in
    let end : c.in_ok-number-end.number-end ≡ inner_chunk_count inner shape = ok_is c.in_ok-number-end.number-end (inner_chunk_count inner shape) (c.in_ok-number-end.ensures.answer ∙ counted) in
    let there = in_grid inner shape c.args.grid.now c.as_slice-parts.result.now c.as_slice-sizes.result.now c.as_slice-counts.result.now c.loop-number.number c.as_slice-parts.ensures.value c.as_slice-sizes.ensures.value c.as_slice-counts.ensures.value c.requires.grid c.as_slice-parts.ensures.positive c.as_slice-sizes.ensures.positive c.as_slice-counts.ensures.positive c.requires.form.divided (omega (arith, end)) c.requires.form.small in
    record { there = there }

pub sharding::shard_encode::write_all-returns-in_err-write_next : goal.sharding::shard_encode::write_all-returns-in_err-write_next
sharding::shard_encode::write_all-returns-in_err-write_next g t c =
    let inner = c.args.inner.now in
    let shape = c.args.form.shape.now in
    let positive = subst (All (λ size. 0 < size)) c.as_slice-parts.ensures.value c.as_slice-parts.ensures.positive in
    let counted = chunks_counted inner shape c.args.grid.now positive c.requires.form.divided c.requires.form.small c.requires.grid in
    let end : c.in_ok-number-end.number-end ≡ inner_chunk_count inner shape = ok_is c.in_ok-number-end.number-end (inner_chunk_count inner shape) (c.in_ok-number-end.ensures.answer ∙ counted) in
    let number = c.loop-number.number in
    let next = is_next inner shape c.as_slice-parts.result.now c.as_slice-sizes.result.now number c.first_place-start.result c.in_ok-runs.runs.items c.as_slice.result.now c.as_slice-parts.ensures.value c.as_slice-sizes.ensures.value c.as_slice-parts.ensures.positive c.requires.form.divided (omega (arith, end)) c.in_ok-runs.ensures.answer.is c.as_slice.ensures.value c.first_place-start.ensures.value in
    let p = err_from_is_err_and c.from_residual-in_err-write_next.result c.from_residual-in_err-write_next.ensures.1 in
    record {
      answer = record {
        is = rw (p.1, p.2) (λ quiet. behind_refused _ _ _ _ _ _ _ number _ _ c.in_err-write_next.field-0.0 (omega (arith, end)) c.loop-number.invariant (next_refused g.B.BytesToBytesCodecTraits.functions c.args.chain.now inner shape c.args.form.data_type.now c.args.form.fill_value.now c.args.held.now number (places_from c.first_place-start.result c.as_slice.result.now) c.loop-number.written c.in_err-write_next.field-0.0 next.places (c.in_err-write_next.ensures.answer.is quiet)));
        no_fault = search rules;
      };
    }

pub sharding::shard_encode::write_all-loop-number-preserved : goal.sharding::shard_encode::write_all-loop-number-preserved
sharding::shard_encode::write_all-loop-number-preserved g t c =
    let inner = c.args.inner.now in
    let shape = c.args.form.shape.now in
    let positive = subst (All (λ size. 0 < size)) c.as_slice-parts.ensures.value c.as_slice-parts.ensures.positive in
    let counted = chunks_counted inner shape c.args.grid.now positive c.requires.form.divided c.requires.form.small c.requires.grid in
    let end : c.in_ok-number-end.number-end ≡ inner_chunk_count inner shape = ok_is c.in_ok-number-end.number-end (inner_chunk_count inner shape) (c.in_ok-number-end.ensures.answer ∙ counted) in
    let number = c.loop-number.number in
    let next = is_next inner shape c.as_slice-parts.result.now c.as_slice-sizes.result.now number c.first_place-start.result c.in_ok-runs.runs.items c.as_slice.result.now c.as_slice-parts.ensures.value c.as_slice-sizes.ensures.value c.as_slice-parts.ensures.positive c.requires.form.divided (omega (arith, end)) c.in_ok-runs.ensures.answer.is c.as_slice.ensures.value c.first_place-start.ensures.value in
    behind_more _ _ _ _ _ _ _ number _ _ _ (omega (arith, end)) c.loop-number.invariant (next_numbered g.B.BytesToBytesCodecTraits.functions c.args.chain.now inner shape c.args.form.data_type.now c.args.form.fill_value.now c.args.held.now number (places_from c.first_place-start.result c.as_slice.result.now) c.loop-number.written c.write_next.new.written next.places c.in_ok-write_next.ensures.answer.is)

pub sharding::shard_encode::write_all-write_next-requires : goal.sharding::shard_encode::write_all-write_next-requires
sharding::shard_encode::write_all-write_next-requires g t c κs within =
    let inner = c.args.inner.now in
    let shape = c.args.form.shape.now in
    let positive = subst (All (λ size. 0 < size)) c.as_slice-parts.ensures.value c.as_slice-parts.ensures.positive in
    let counted = chunks_counted inner shape c.args.grid.now positive c.requires.form.divided c.requires.form.small c.requires.grid in
    let end : c.in_ok-number-end.number-end ≡ inner_chunk_count inner shape = ok_is c.in_ok-number-end.number-end (inner_chunk_count inner shape) (c.in_ok-number-end.ensures.answer ∙ counted) in
    let number = c.loop-number.number in
    let next = is_next inner shape c.as_slice-parts.result.now c.as_slice-sizes.result.now number c.first_place-start.result c.in_ok-runs.runs.items c.as_slice.result.now c.as_slice-parts.ensures.value c.as_slice-sizes.ensures.value c.as_slice-parts.ensures.positive c.requires.form.divided (omega (arith, end)) c.in_ok-runs.ensures.answer.is c.as_slice.ensures.value c.first_place-start.ensures.value in
    let count : length (joined_runs c.as_slice.result.now) ≡ product inner = next.count in
    let inside : All (λ (run : ℕ × ℕ). c.first_place-start.result + (run.0 + run.1) ≤ product shape) c.as_slice.result.now = next.inside in
    search rules

pub sharding::shard_encode::write_all-returns : goal.sharding::shard_encode::write_all-returns
sharding::shard_encode::write_all-returns g t c =
    let inner = c.args.inner.now in
    let shape = c.args.form.shape.now in
    let positive = subst (All (λ size. 0 < size)) c.as_slice-parts.ensures.value c.as_slice-parts.ensures.positive in
    let counted = chunks_counted inner shape c.args.grid.now positive c.requires.form.divided c.requires.form.small c.requires.grid in
    let end : c.in_ok-number-end.number-end ≡ inner_chunk_count inner shape = ok_is c.in_ok-number-end.number-end (inner_chunk_count inner shape) (c.in_ok-number-end.ensures.answer ∙ counted) in
    let done : inner_chunk_count inner shape ≤ c.loop-number.number = omega (arith, end) in
    record { answer = record { is = behind_last _ _ _ _ _ _ _ c.loop-number.number _ _ done c.loop-number.invariant; no_fault = refl } }

pub sharding::shard_encode::shard_encode-returns-in_err-write_all : goal.sharding::shard_encode::shard_encode-returns-in_err-write_all
sharding::shard_encode::shard_encode-returns-in_err-write_all g t c =
    let f = g.B.BytesToBytesCodecTraits.functions in
    let o = out-ShardingCodec _ c.args.codec.now in
    let inner = o.codecs.value in
    let index = o.index_codecs.value in
    let shape = o.chunk_shape in
    let at_end = is_index_at_end o.index_location in
    let sizes = c.args.form.shape.now in
    let type = c.args.form.data_type.now in
    let fill = c.args.form.fill_value.now in
    let chunk = elements type (product sizes) c.args.held.now in
    let size = c.in_ok-size.size in
    let at = first_offset at_end size in
    let counts = grid_is shape sizes c.in_ok-grid.grid c.shard_form.ensures.form.divided c.in_ok-grid.ensures.answer.is in
    let index_long : index_size_of f index c.in_ok-grid.grid ≡ Ok size = ap (λ x. index_size_of f x c.in_ok-grid.grid) (sym c.deref-3.ensures) ∙ c.in_ok-size.ensures.answer.is in
    let sized = size_at f index shape sizes c.in_ok-grid.grid (Ok size) counts index_long in
    let start : written_seen c.in_ok-written.written ≡ (replicate at 0, []) = c.in_ok-written.ensures.made ∙ ap (λ (n : ℕ). (replicate n 0, [])) c.first_offset-front.ensures.value in
    let first =
    ap (λ (so_far : List ℕ × List ℕ). written_behind f inner shape type fill (inner_chunks_of shape sizes chunk) so_far) (sym start)
    ∙ ap (λ x. written_behind f x shape type fill (inner_chunks_of shape sizes chunk) (written_seen c.in_ok-written.written)) (sym c.deref-4.ensures) in
    let p = err_from_is_err_and c.from_residual-in_err-write_all.result c.from_residual-in_err-write_all.ensures.1 in
    record {
      answer = record {
        is = rw (p.1, p.2) (λ quiet. inner_not_written f inner index shape at_end sizes type fill chunk size c.in_err-write_all.field-0.0 sized (first ∙ c.in_err-write_all.ensures.answer.is quiet));
        no_fault = search rules;
      };
    }

pub sharding::shard_encode::shard_encode-index_encode-requires : goal.sharding::shard_encode::shard_encode-index_encode-requires
sharding::shard_encode::shard_encode-index_encode-requires g t c κs within =
    let f = g.B.BytesToBytesCodecTraits.functions in
    let o = out-ShardingCodec _ c.args.codec.now in
    let inner = o.codecs.value in
    let index = o.index_codecs.value in
    let shape = o.chunk_shape in
    let at_end = is_index_at_end o.index_location in
    let sizes = c.args.form.shape.now in
    let type = c.args.form.data_type.now in
    let fill = c.args.form.fill_value.now in
    let chunk = elements type (product sizes) c.args.held.now in
    let size = c.in_ok-size.size in
    let at = first_offset at_end size in
    let counts = grid_is shape sizes c.in_ok-grid.grid c.shard_form.ensures.form.divided c.in_ok-grid.ensures.answer.is in
    let index_long : index_size_of f index c.in_ok-grid.grid ≡ Ok size = ap (λ x. index_size_of f x c.in_ok-grid.grid) (sym c.deref-3.ensures) ∙ c.in_ok-size.ensures.answer.is in
    let sized = size_at f index shape sizes c.in_ok-grid.grid (Ok size) counts index_long in
    let start : written_seen c.in_ok-written.written ≡ (replicate at 0, []) = c.in_ok-written.ensures.made ∙ ap (λ (n : ℕ). (replicate n 0, [])) c.first_offset-front.ensures.value in
    let first =
    ap (λ (so_far : List ℕ × List ℕ). written_behind f inner shape type fill (inner_chunks_of shape sizes chunk) so_far) (sym start)
    ∙ ap (λ x. written_behind f x shape type fill (inner_chunks_of shape sizes chunk) (written_seen c.in_ok-written.written)) (sym c.deref-4.ensures) in
    let new = c.write_all.new.written in
    let whole = first ∙ c.in_ok-write_all.ensures.answer.is in
    let long : length new.numbers.items ≡ product c.in_ok-grid.grid * 2 = numbers_counted f inner shape sizes type fill chunk at new.bytes.items new.numbers.items whole ∙ ap (λ (ns : List ℕ). product ns * 2) (sym counts) in
    let deeper : size-CodecChain _ index < size-ShardingCodec _ c.args.codec.now = omega (arith, size_is-ShardingCodec _ c.args.codec.now) in
    let same : size-CodecChain _ c.deref-5.result.now ≡ size-CodecChain _ index = ap (λ x. size-CodecChain _ x) c.deref-5.ensures in
    let falls : 4 * size-CodecChain _ c.deref-5.result.now + 1 < t = omega (arith, c.decreases) in
    (falls, (within, ap length c.as_slice.ensures.value ∙ long))

pub sharding::shard_encode::shard_encode-returns-in_err-part : goal.sharding::shard_encode::shard_encode-returns-in_err-part
sharding::shard_encode::shard_encode-returns-in_err-part g t c =
    let f = g.B.BytesToBytesCodecTraits.functions in
    let o = out-ShardingCodec _ c.args.codec.now in
    let inner = o.codecs.value in
    let index = o.index_codecs.value in
    let shape = o.chunk_shape in
    let at_end = is_index_at_end o.index_location in
    let sizes = c.args.form.shape.now in
    let type = c.args.form.data_type.now in
    let fill = c.args.form.fill_value.now in
    let chunk = elements type (product sizes) c.args.held.now in
    let size = c.in_ok-size.size in
    let at = first_offset at_end size in
    let counts = grid_is shape sizes c.in_ok-grid.grid c.shard_form.ensures.form.divided c.in_ok-grid.ensures.answer.is in
    let index_long : index_size_of f index c.in_ok-grid.grid ≡ Ok size = ap (λ x. index_size_of f x c.in_ok-grid.grid) (sym c.deref-3.ensures) ∙ c.in_ok-size.ensures.answer.is in
    let sized = size_at f index shape sizes c.in_ok-grid.grid (Ok size) counts index_long in
    let start : written_seen c.in_ok-written.written ≡ (replicate at 0, []) = c.in_ok-written.ensures.made ∙ ap (λ (n : ℕ). (replicate n 0, [])) c.first_offset-front.ensures.value in
    let first =
    ap (λ (so_far : List ℕ × List ℕ). written_behind f inner shape type fill (inner_chunks_of shape sizes chunk) so_far) (sym start)
    ∙ ap (λ x. written_behind f x shape type fill (inner_chunks_of shape sizes chunk) (written_seen c.in_ok-written.written)) (sym c.deref-4.ensures) in
    let new = c.write_all.new.written in
    let whole = first ∙ c.in_ok-write_all.ensures.answer.is in
    let small : length new.bytes.items < 2 ^ 64 = search rules in
    let p = err_from_is_err_and c.from_residual-in_err-part.result c.from_residual-in_err-part.ensures.1 in
    record {
      answer = record {
        is =
            rw (p.1, p.2) (λ quiet.
            let found : shard_index_part f index new.numbers.items c.in_ok-grid.grid ≡ Err c.in_err-part.field-0.0 = search rules in
            index_not_written f inner index shape at_end sizes type fill chunk size new.bytes.items new.numbers.items c.in_err-part.field-0.0 sized whole small (ap (shard_index_part f index new.numbers.items) (sym counts) ∙ found));
        no_fault = search rules;
      };
    }

pub sharding::shard_encode::shard_encode-place_index-requires-clause-inside : goal.sharding::shard_encode::shard_encode-place_index-requires-clause-inside
sharding::shard_encode::shard_encode-place_index-requires-clause-inside g t c =
    let f = g.B.BytesToBytesCodecTraits.functions in
    let o = out-ShardingCodec _ c.args.codec.now in
    let inner = o.codecs.value in
    let index = o.index_codecs.value in
    let shape = o.chunk_shape in
    let at_end = is_index_at_end o.index_location in
    let sizes = c.args.form.shape.now in
    let type = c.args.form.data_type.now in
    let fill = c.args.form.fill_value.now in
    let chunk = elements type (product sizes) c.args.held.now in
    let size = c.in_ok-size.size in
    let at = first_offset at_end size in
    let counts = grid_is shape sizes c.in_ok-grid.grid c.shard_form.ensures.form.divided c.in_ok-grid.ensures.answer.is in
    let index_long : index_size_of f index c.in_ok-grid.grid ≡ Ok size = ap (λ x. index_size_of f x c.in_ok-grid.grid) (sym c.deref-3.ensures) ∙ c.in_ok-size.ensures.answer.is in
    let sized = size_at f index shape sizes c.in_ok-grid.grid (Ok size) counts index_long in
    let start : written_seen c.in_ok-written.written ≡ (replicate at 0, []) = c.in_ok-written.ensures.made ∙ ap (λ (n : ℕ). (replicate n 0, [])) c.first_offset-front.ensures.value in
    let first =
    ap (λ (so_far : List ℕ × List ℕ). written_behind f inner shape type fill (inner_chunks_of shape sizes chunk) so_far) (sym start)
    ∙ ap (λ x. written_behind f x shape type fill (inner_chunks_of shape sizes chunk) (written_seen c.in_ok-written.written)) (sym c.deref-4.ensures) in
    let new = c.write_all.new.written in
    let whole = first ∙ c.in_ok-write_all.ensures.answer.is in
    front_there f inner shape sizes type fill chunk at_end size new.bytes.items new.numbers.items whole

pub sharding::shard_encode::shard_encode-returns : goal.sharding::shard_encode::shard_encode-returns
sharding::shard_encode::shard_encode-returns g t c =
    let f = g.B.BytesToBytesCodecTraits.functions in
    let o = out-ShardingCodec _ c.args.codec.now in
    let inner = o.codecs.value in
    let index = o.index_codecs.value in
    let shape = o.chunk_shape in
    let at_end = is_index_at_end o.index_location in
    let sizes = c.args.form.shape.now in
    let type = c.args.form.data_type.now in
    let fill = c.args.form.fill_value.now in
    let chunk = elements type (product sizes) c.args.held.now in
    let size = c.in_ok-size.size in
    let at = first_offset at_end size in
    let counts = grid_is shape sizes c.in_ok-grid.grid c.shard_form.ensures.form.divided c.in_ok-grid.ensures.answer.is in
    let index_long : index_size_of f index c.in_ok-grid.grid ≡ Ok size = ap (λ x. index_size_of f x c.in_ok-grid.grid) (sym c.deref-3.ensures) ∙ c.in_ok-size.ensures.answer.is in
    let sized = size_at f index shape sizes c.in_ok-grid.grid (Ok size) counts index_long in
    let start : written_seen c.in_ok-written.written ≡ (replicate at 0, []) = c.in_ok-written.ensures.made ∙ ap (λ (n : ℕ). (replicate n 0, [])) c.first_offset-front.ensures.value in
    let first =
    ap (λ (so_far : List ℕ × List ℕ). written_behind f inner shape type fill (inner_chunks_of shape sizes chunk) so_far) (sym start)
    ∙ ap (λ x. written_behind f x shape type fill (inner_chunks_of shape sizes chunk) (written_seen c.in_ok-written.written)) (sym c.deref-4.ensures) in
    let new = c.write_all.new.written in
    let whole = first ∙ c.in_ok-write_all.ensures.answer.is in
    let small : length new.bytes.items < 2 ^ 64 = search rules in
    let part = (raw_of c.in_ok-part.part).items in
    let found : shard_index_part f index new.numbers.items c.in_ok-grid.grid ≡ Ok part = search rules in
    let placed : with_index at_end size new.bytes.items part ≡ c.in_ok-value.value.items = search rules in
    let fits : length c.in_ok-value.value.items < 2 ^ 64 = search rules in
    record {
      answer = record {
        is =
            shard_written f inner index shape at_end sizes type fill chunk size new.bytes.items new.numbers.items part sized whole small (ap (shard_index_part f index new.numbers.items) (sym counts) ∙ found) (subst (λ (xs : List ℕ). length xs < 2 ^ 64) (sym placed) fits)
            ∙ ap Ok placed;
        no_fault = search rules;
      };
    }

pub sharding::shard_encode::sharding_encode-shard_encode-requires : goal.sharding::shard_encode::sharding_encode-shard_encode-requires
sharding::shard_encode::sharding_encode-shard_encode-requires g t c κs within =
    let taken : TakesInside g.B.BytesToBytesCodecTraits.functions c.args.codec.now (lent_form c.args.form) = shard_takes_at g.B.BytesToBytesCodecTraits.functions c.args.codec.now c.args.form.shape.now c.args.form.data_type.now c.args.form.fill_value.now c.requires.taken in
    let valid : validity c.args.form.data_type.now (product c.args.form.shape.now) c.args.held ≡ Ok tt = search rules in
    search rules

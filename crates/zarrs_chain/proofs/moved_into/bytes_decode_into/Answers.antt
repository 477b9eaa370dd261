use Rattle.std.proofs.Common.{◌≡◌, ◌<◌, ◌++◌, ℕ, List, [], Option, Ok, Err, IfOk, IsOkAnd, length, drop, map, refl, rules, ap, subst, sym, ◌∙◌}
use Rattle.std.proofs.lemmas.List.{length-take-le, take-append-drop}
use Rattle.std.proofs.lemmas.Result.{err_from_is_err_and}
use Rattle.std.specs.List.{All}
use Rattle.zarrs_chunk.specs.Answer.{AnswersBy, memory}
use Rattle.zarrs_data_type.specs.Form.{form_of}
use Rattle.zarrs_data_type.specs.declared.endianness.Endianness.{Endianness}
use Rattle.zarrs_array_bytes.specs.Held.{flen, raw_of}
use Rattle.zarrs_array_bytes.specs.Pieces.{fixed_of}
use Rattle.zarrs_array_bytes.specs.Turned.{WholeComponents, turned_bytes}
use Rattle.zarrs_array_bytes.specs.Validity.{Holds}
use Rattle.zarrs_array_to_array.specs.Mapping.{mapping_of}
use Rattle.zarrs_array_to_array.specs.declared.array_to_array_codec.ArrayToArrayCodec.{ArrayToArrayCodec}
use Rattle.zarrs_bytes.specs.BytesCodec.{bytes_chunk}
use Rattle.zarrs_codec.specs.MappedChunk.{decoded_chunk}
use Rattle.zarrs_codec.specs.declared.bytes_representation.BytesRepresentation.{BytesRepresentation}
use Rattle.zarrs_chain_meaning.specs.ArrayStages.{arrays_map}
use Rattle.zarrs_chain_meaning.specs.BytesStages.{outer_bytes}
use Rattle.zarrs_chain_meaning.specs.CodecMeaning.{chain_chunk}
use Rattle.zarrs_chain_meaning.proofs.ChainSteps.{refused_chunk, unopened}
use Rattle.zarrs_chain.specs.ChainView.{plain_chain}
use Rattle.zarrs_chain.proofs.FrontWrites.{bytes_read, front_there, reads_or_memory, unread, whole_components}
use Rattle.zarrs_chain.proofs.moved_into.bytes_decode_into.Goals as goal

pub returns-in_err-taken : goal.returns-in_err-taken
returns-in_err-taken g c =
    let f = g.B.BytesToBytesCodecTraits.functions in
    let chain = plain_chain c.args.chain.now in
    let sizes = c.args.form.shape.now in
    let type = c.args.form.data_type.now in
    let fill = c.args.form.fill_value.now in
    let value = (raw_of c.args.value).items in
    let p = err_from_is_err_and c.from_residual.result c.from_residual.ensures.1 in
    record {
      written = record {
        items = [];
        counted = rw p.1 tt;
        there = rw p.1 tt;
        left = rw p.1 refl;
        answered = rw (p.1, p.2) (record { is = λ quiet. refused_chunk f chain sizes type fill value c.in_err-taken.field-0.0 (c.in_err-taken.ensures.answer.is quiet); no_fault = search rules });
      };
    }

pub returns-in_err-below : goal.returns-in_err-below
returns-in_err-below g c =
    let f = g.B.BytesToBytesCodecTraits.functions in
    let chain = plain_chain c.args.chain.now in
    let sizes = c.args.form.shape.now in
    let type = c.args.form.data_type.now in
    let fill = c.args.form.fill_value.now in
    let value = (raw_of c.args.value).items in
    let taken = c.in_ok-taken.taken in
    let p = err_from_is_err_and c.from_residual-in_err-below.result c.from_residual-in_err-below.ensures.1 in
    record {
      written = record {
        items = [];
        counted = rw p.1 tt;
        there = rw p.1 tt;
        left = rw p.1 refl;
        answered = rw (p.1, p.2)
            (record {
              is = λ quiet.
                  let h = subst (λ bs. outer_bytes f bs taken.representation value ≡ Err c.in_err-below.field-0.0) c.deref.ensures.value (c.in_err-below.ensures.answer.is quiet) in
                  unopened f chain sizes type fill (taken.shape, taken.representation) value c.in_err-below.field-0.0 c.in_ok-taken.ensures.answer.is h;
              no_fault = search rules;
            });
      };
    }

pub returns-in_err-stored : goal.returns-in_err-stored
returns-in_err-stored g c =
    let f = g.B.BytesToBytesCodecTraits.functions in
    let chain = plain_chain c.args.chain.now in
    let order = c.args.codec.now in
    let sizes = c.args.form.shape.now in
    let type = c.args.form.data_type.now in
    let fill = c.args.form.fill_value.now in
    let value = (raw_of c.args.value).items in
    let taken = c.in_ok-taken.taken in
    let form : List ℕ × BytesRepresentation = (taken.shape, taken.representation) in
    let maps = c.in_ok-taken.ensures.map in
    let formed = c.in_ok-taken.ensures.answer.is in
    let below = (raw_of c.in_ok-below.below).items in
    let opened = subst (λ bs. outer_bytes f bs taken.representation value ≡ Ok below) c.deref.ensures.value c.in_ok-below.ensures.answer.is in
    let refused = subst (λ (o : Option Endianness). AnswersBy memory (Holds type) (Err c.in_err-stored.field-0.0) (bytes_chunk o (form_of sizes type fill) below)) c.little.ensures.made c.in_err-stored.ensures.decodes.exact in
    let p = err_from_is_err_and c.from_residual-in_err-stored.result c.from_residual-in_err-stored.ensures.1 in
    record {
      written = record {
        items = [];
        counted = rw p.1 tt;
        there = rw p.1 tt;
        left = rw p.1 refl;
        answered = rw (p.1, p.2) (record { is = unread f chain order sizes type fill form value below c.requires.codec maps formed opened c.in_err-stored.field-0.0 c.in_err-stored.ensures.decodes.no_fault refused; no_fault = search rules });
      };
    }

pub decode_arrays_into-requires-clause-turn : goal.decode_arrays_into-requires-clause-turn
decode_arrays_into-requires-clause-turn g c =
    subst (λ turn. WholeComponents c.args.size turn) (sym c.turn_size-turn.ensures.size) (whole_components c.args.codec.now c.args.form.data_type.now c.args.size c.requires.sized)

pub decode_arrays_into-requires-clause-len : goal.decode_arrays_into-requires-clause-len
decode_arrays_into-requires-clause-len g c =
    length-take-le c.args.count c.args.elements.now c.requires.room ∙ c.requires.count

pub returns-in_err-decode_arrays_into : goal.returns-in_err-decode_arrays_into
returns-in_err-decode_arrays_into g c =
    let f = g.B.BytesToBytesCodecTraits.functions in
    let chain = plain_chain c.args.chain.now in
    let order = c.args.codec.now in
    let sizes = c.args.form.shape.now in
    let type = c.args.form.data_type.now in
    let fill = c.args.form.fill_value.now in
    let value = (raw_of c.args.value).items in
    let taken = c.in_ok-taken.taken in
    let form : List ℕ × BytesRepresentation = (taken.shape, taken.representation) in
    let maps = c.in_ok-taken.ensures.map in
    let formed = c.in_ok-taken.ensures.answer.is in
    let below = (raw_of c.in_ok-below.below).items in
    let opened = subst (λ bs. outer_bytes f bs taken.representation value ≡ Ok below) c.deref.ensures.value c.in_ok-below.ensures.answer.is in
    let read = subst (λ (o : Option Endianness). AnswersBy memory (Holds type) (Ok c.in_ok-stored.stored) (bytes_chunk o (form_of sizes type fill) below)) c.little.ensures.made c.in_ok-stored.ensures.decodes.exact in
    let positive = subst (All (λ size. 0 < size)) c.as_slice.ensures.value c.as_slice.ensures.positive in
    let w = c.in_err-decode_arrays_into.ensures.moved in
    let p = err_from_is_err_and c.from_residual-in_err-decode_arrays_into.result c.from_residual-in_err-decode_arrays_into.ensures.1 in
    let found = subst (λ (cs : List ArrayToArrayCodec). IfOk (decoded_chunk (Ok tt) (arrays_map type (map mapping_of cs) sizes) type sizes c.in_ok-stored.stored) (λ chunk. AnswersBy memory (Holds type) (Err c.in_err-decode_arrays_into.field-0.0) (Ok chunk))) c.as_slice-codecs.ensures.value w.answered in
    record {
      written = record {
        items = [];
        counted = rw p.1 tt;
        there = rw p.1 tt;
        left = rw p.1 (ap (λ (xs : List ℕ). xs ++ drop c.args.count c.args.elements.now) w.there.1 ∙ take-append-drop c.args.count c.args.elements.now);
        answered = rw (p.1, p.2) (record { is = reads_or_memory f chain order sizes type fill form value below c.requires.codec maps formed opened positive c.in_ok-stored.stored read c.in_err-decode_arrays_into.field-0.0 found; no_fault = search rules });
      };
    }

pub returns : goal.returns
returns g c =
    let f = g.B.BytesToBytesCodecTraits.functions in
    let chain = plain_chain c.args.chain.now in
    let order = c.args.codec.now in
    let sizes = c.args.form.shape.now in
    let type = c.args.form.data_type.now in
    let fill = c.args.form.fill_value.now in
    let value = (raw_of c.args.value).items in
    let taken = c.in_ok-taken.taken in
    let form : List ℕ × BytesRepresentation = (taken.shape, taken.representation) in
    let maps = c.in_ok-taken.ensures.map in
    let formed = c.in_ok-taken.ensures.answer.is in
    let below = (raw_of c.in_ok-below.below).items in
    let opened = subst (λ bs. outer_bytes f bs taken.representation value ≡ Ok below) c.deref.ensures.value c.in_ok-below.ensures.answer.is in
    let read = subst (λ (o : Option Endianness). AnswersBy memory (Holds type) (Ok c.in_ok-stored.stored) (bytes_chunk o (form_of sizes type fill) below)) c.little.ensures.made c.in_ok-stored.ensures.decodes.exact in
    let positive = subst (All (λ size. 0 < size)) c.as_slice.ensures.value c.as_slice.ensures.positive in
    let w = c.in_ok-decode_arrays_into.ensures.moved in
    let count = c.args.count in
    let room = c.requires.room in
    let turned : List ℕ = turned_bytes c.turn_size-turn.result w.raw.items in
    let long : count ≡ length turned = sym (length-take-le count c.args.elements.now room) ∙ sym c.decode_arrays_into.auto.moved ∙ ap length w.there.0 in
    let found = subst (λ (cs : List ArrayToArrayCodec). IfOk (decoded_chunk (Ok tt) (arrays_map type (map mapping_of cs) sizes) type sizes c.in_ok-stored.stored) (λ chunk. Holds type (flen w.raw) chunk)) c.as_slice-codecs.ensures.value w.answered in
    let read = bytes_read f chain order sizes type fill form value below c.requires.codec maps formed opened positive c.in_ok-stored.stored read w.raw found in
    record {
      written = record {
        items = turned;
        counted = long;
        there = front_there count turned c.args.elements.now c.decode_arrays_into.new.moved room long w.there.0;
        left = tt;
        answered = record { is = subst (λ turn. IsOkAnd (chain_chunk f chain sizes type fill value) (Holds type (fixed_of (turned_bytes turn w.raw.items)))) (sym c.turn_size-turn.ensures.size) read; no_fault = search rules };
      };
    }

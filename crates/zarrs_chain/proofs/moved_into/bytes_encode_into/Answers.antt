use Rattle.std.proofs.Common.{◌≡◌, ◌<◌, ◌≤◌, ◌*◌, ◌^◌, ◌++◌, ℕ, List, [], Ok, Err, IfOk, length, drop, map, arith, refl, rules, ap, subst, sym, ◌∙◌}
use Rattle.std.proofs.lemmas.List.{length-take-le, take-append-drop}
use Rattle.std.proofs.lemmas.Result.{err_from_is_err_and}
use Rattle.zarrs_chunk.specs.Answer.{memory, AnswersBy}
use Rattle.zarrs_chunk.specs.ChunkShape.{product}
use Rattle.zarrs_array_bytes.specs.Held.{flen}
use Rattle.zarrs_array_bytes.specs.Parts.{fixed_items}
use Rattle.zarrs_array_bytes.specs.Turned.{WholeComponents, turned_bytes}
use Rattle.zarrs_array_bytes.specs.Validity.{Holds}
use Rattle.zarrs_array_to_array.specs.Mapping.{mapping_of}
use Rattle.zarrs_array_to_array.specs.declared.array_to_array_codec.ArrayToArrayCodec.{ArrayToArrayCodec}
use Rattle.zarrs_array_to_array.proofs.WrittenElements.{fixed_length, fixed_there}
use Rattle.zarrs_bytes.specs.BytesCodec.{turn_size}
use Rattle.zarrs_codec.specs.MappedChunk.{encoded_chunk}
use Rattle.zarrs_chain_meaning.specs.ArrayStages.{arrays_map}
use Rattle.zarrs_chain_meaning.proofs.ChainSteps.{refused_value}
use Rattle.zarrs_chain.specs.ChainView.{plain_chain}
use Rattle.zarrs_chain.proofs.FrontWrites.{bytes_written, front_there, moves_or_memory, unfit_value, whole_components}
use Rattle.zarrs_chain.proofs.moved_into.bytes_encode_into.Goals as goal

pub returns-in_err-taken_form : goal.returns-in_err-taken_form
returns-in_err-taken_form g c =
    let f = g.B.BytesToBytesCodecTraits.functions in
    let chain = plain_chain c.args.chain.now in
    let sizes = c.args.form.shape.now in
    let type = c.args.form.data_type.now in
    let fill = c.args.form.fill_value.now in
    let p = err_from_is_err_and c.from_residual.result c.from_residual.ensures.1 in
    record {
      written = record {
        items = [];
        counted = rw p.1 tt;
        there = rw p.1 tt;
        left = rw p.1 refl;
        answered = rw (p.1, p.2) (record { is = λ quiet. refused_value f chain sizes type fill c.args.held c.in_err-taken_form.field-0.0 (c.in_err-taken_form.ensures.answer.is quiet); no_fault = search rules });
      };
    }

pub returns-in_err-check_elements : goal.returns-in_err-check_elements
returns-in_err-check_elements g c =
    let f = g.B.BytesToBytesCodecTraits.functions in
    let chain = plain_chain c.args.chain.now in
    let sizes = c.args.form.shape.now in
    let type = c.args.form.data_type.now in
    let fill = c.args.form.fill_value.now in
    let p = err_from_is_err_and c.from_residual-in_err-check_elements.result c.from_residual-in_err-check_elements.ensures.1 in
    let taken = c.in_ok-taken_form.field-0 in
    record {
      written = record {
        items = [];
        counted = rw p.1 tt;
        there = rw p.1 tt;
        left = rw p.1 refl;
        answered = rw (p.1, p.2) (record { is = λ quiet. unfit_value f chain sizes type fill (taken.shape, taken.representation) c.args.held c.in_err-check_elements.field-0.0 c.in_ok-taken_form.ensures.answer.is (sym c.in_err-check_elements.ensures.answer); no_fault = search rules });
      };
    }

pub returns-in_err-items : goal.returns-in_err-items
returns-in_err-items g c =
    absurd (fixed_there c.args.form.data_type.now c.args.size (product c.args.form.shape.now) c.args.held c.in_err-items.field-0.0 c.requires.sized (sym c.in_ok-check_elements.ensures.answer) c.in_err-items.ensures.answer)

pub encode_arrays_into-requires-clause-turn : goal.encode_arrays_into-requires-clause-turn
encode_arrays_into-requires-clause-turn g c =
    subst (λ turn. WholeComponents c.args.size turn) (sym c.turn_size-turn.ensures.size) (whole_components c.args.codec.now c.args.form.data_type.now c.args.size c.requires.sized)

pub encode_arrays_into-requires-clause-len : goal.encode_arrays_into-requires-clause-len
encode_arrays_into-requires-clause-len g c =
    let items = c.in_ok-items.items.now in
    let whole = fixed_length c.args.form.data_type.now c.args.size (product c.args.form.shape.now) c.args.held items c.requires.sized (sym c.in_ok-check_elements.ensures.answer) c.in_ok-items.ensures.answer in
    let room : length items ≤ length c.args.value.now = subst (λ r. IfOk r (λ (xs : List ℕ). length xs ≤ length c.args.value.now)) (sym c.in_ok-items.ensures.answer) c.requires.room in
    length-take-le (length items) c.args.value.now room ∙ whole

pub returns-in_err-encode_arrays_into : goal.returns-in_err-encode_arrays_into
returns-in_err-encode_arrays_into g c =
    let f = g.B.BytesToBytesCodecTraits.functions in
    let chain = plain_chain c.args.chain.now in
    let sizes = c.args.form.shape.now in
    let type = c.args.form.data_type.now in
    let fill = c.args.form.fill_value.now in
    let taken = c.in_ok-taken_form.field-0 in
    let items = c.in_ok-items.items.now in
    let room : length items ≤ length c.args.value.now = subst (λ r. IfOk r (λ (xs : List ℕ). length xs ≤ length c.args.value.now)) (sym c.in_ok-items.ensures.answer) c.requires.room in
    let part = c.encode_arrays_into.new.moved in
    let w = c.in_err-encode_arrays_into.ensures.moved in
    let p = err_from_is_err_and c.from_residual-in_err-encode_arrays_into.result c.from_residual-in_err-encode_arrays_into.ensures.1 in
    let found = subst (λ (cs : List ArrayToArrayCodec). IfOk (encoded_chunk (Ok tt) (arrays_map type (map mapping_of cs) sizes) type sizes c.args.held) (λ chunk. AnswersBy memory (Holds type) (Err c.in_err-encode_arrays_into.field-0.0) (Ok chunk))) c.deref.ensures.value w.answered in
    record {
      written = record {
        items = [];
        counted = rw p.1 tt;
        there = rw p.1 tt;
        left = rw p.1 (ap (λ (xs : List ℕ). xs ++ drop (length items) c.args.value.now) w.there.1 ∙ take-append-drop (length items) c.args.value.now);
        answered = rw (p.1, p.2) (record { is = moves_or_memory f chain sizes type fill (taken.shape, taken.representation) c.args.held c.in_err-encode_arrays_into.field-0.0 c.in_ok-taken_form.ensures.answer.is c.in_ok-taken_form.ensures.counted (sym c.in_ok-check_elements.ensures.answer) found; no_fault = search rules });
      };
    }

pub returns : goal.returns
returns g c =
    let f = g.B.BytesToBytesCodecTraits.functions in
    let chain = plain_chain c.args.chain.now in
    let sizes = c.args.form.shape.now in
    let type = c.args.form.data_type.now in
    let fill = c.args.form.fill_value.now in
    let taken = c.in_ok-taken_form.field-0 in
    let items = c.in_ok-items.items.now in
    let room : length items ≤ length c.args.value.now = subst (λ r. IfOk r (λ (xs : List ℕ). length xs ≤ length c.args.value.now)) (sym c.in_ok-items.ensures.answer) c.requires.room in
    let part = c.encode_arrays_into.new.moved in
    let w = c.in_ok-encode_arrays_into.ensures.moved in
    let order = c.args.codec.now in
    let turned : List ℕ = turned_bytes c.turn_size-turn.result w.raw.items in
    let whole = fixed_length type c.args.size (product sizes) c.args.held items c.requires.sized (sym c.in_ok-check_elements.ensures.answer) c.in_ok-items.ensures.answer in
    let long : length items ≡ length turned = sym (length-take-le (length items) c.args.value.now room) ∙ sym c.encode_arrays_into.auto.moved ∙ ap length w.there.0 in
    let found = subst (λ (cs : List ArrayToArrayCodec). IfOk (encoded_chunk (Ok tt) (arrays_map type (map mapping_of cs) sizes) type sizes c.args.held) (λ chunk. Holds type (flen w.raw) chunk)) c.deref.ensures.value w.answered in
    let same : length turned ≡ length (turned_bytes (turn_size order type) w.raw.items) = ap (λ turn. length (turned_bytes turn w.raw.items)) c.turn_size-turn.ensures.size in
    let small : length (turned_bytes (turn_size order type) w.raw.items) < 2 ^ 64 = omega (arith, same, long, room) in
    let value = bytes_written f chain order sizes type fill (taken.shape, taken.representation) c.args.held w.raw c.requires.codec c.requires.outer c.in_ok-taken_form.ensures.map c.in_ok-taken_form.ensures.answer.is c.in_ok-taken_form.ensures.counted (sym c.in_ok-check_elements.ensures.answer) found small in
    record {
      written = record {
        items = turned;
        counted = long;
        there = front_there (length items) turned c.args.value.now part room long w.there.0;
        left = tt;
        answered = record { is = value ∙ ap (λ turn. Ok (turned_bytes turn w.raw.items)) (sym c.turn_size-turn.ensures.size); no_fault = search rules };
      };
    }

use Rattle.std.proofs.Common.{◌≡◌, ℕ, List, [], ◌++◌, Ok, Err, drop, refl, rules, ap, subst, sym, ◌∙◌}
use Rattle.std.proofs.lemmas.List.{length-take-le, take-append-drop}
use Rattle.std.proofs.lemmas.Result.{err_from_is_err_and}
use Rattle.zarrs_array_bytes.specs.Held.{raw_of}
use Rattle.zarrs_array_bytes.specs.Pieces.{fixed_of}
use Rattle.zarrs_array_bytes.specs.Validity.{Holds}
use Rattle.zarrs_codec.specs.declared.bytes_representation.BytesRepresentation.{BytesRepresentation}
use Rattle.zarrs_chain_meaning.specs.BytesStages.{outer_bytes}
use Rattle.zarrs_chain_meaning.proofs.ChainSteps.{refused_chunk, unopened}
use Rattle.zarrs_chain.specs.ChainView.{plain_chain}
use Rattle.zarrs_chain.proofs.AloneReads.{packbits_read}
use Rattle.zarrs_chain.proofs.FrontWrites.{front_there}
use Rattle.zarrs_chain.proofs.moved_into.packbits_decode_into.Goals as goal

pub returns-in_err-taken : goal.returns-in_err-taken
returns-in_err-taken g c =
    let f = g.B.BytesToBytesCodecTraits.functions in
    let chain = plain_chain c.args.chain.now in
    let sizes = c.args.form.shape.now in
    let type = c.args.form.data_type.now in
    let fill = c.args.form.fill_value.now in
    let value = (raw_of c.args.value).items in
    let p = err_from_is_err_and c.from_residual.result c.from_residual.ensures.1 in
    record {
      written = record {
        items = [];
        counted = rw p.1 tt;
        there = rw p.1 tt;
        left = rw p.1 refl;
        answered = rw (p.1, p.2) (record { is = λ quiet. refused_chunk f chain sizes type fill value c.in_err-taken.field-0.0 (c.in_err-taken.ensures.answer.is quiet); no_fault = search rules });
      };
    }

pub returns-in_err-below : goal.returns-in_err-below
returns-in_err-below g c =
    let f = g.B.BytesToBytesCodecTraits.functions in
    let chain = plain_chain c.args.chain.now in
    let sizes = c.args.form.shape.now in
    let type = c.args.form.data_type.now in
    let fill = c.args.form.fill_value.now in
    let value = (raw_of c.args.value).items in
    let taken = c.in_ok-taken.taken in
    let p = err_from_is_err_and c.from_residual-in_err-below.result c.from_residual-in_err-below.ensures.1 in
    record {
      written = record {
        items = [];
        counted = rw p.1 tt;
        there = rw p.1 tt;
        left = rw p.1 refl;
        answered = rw (p.1, p.2)
            (record {
              is = λ quiet.
                  let h = subst (λ bs. outer_bytes f bs taken.representation value ≡ Err c.in_err-below.field-0.0) c.deref.ensures.value (c.in_err-below.ensures.answer.is quiet) in
                  unopened f chain sizes type fill (taken.shape, taken.representation) value c.in_err-below.field-0.0 c.in_ok-taken.ensures.answer.is h;
              no_fault = search rules;
            });
      };
    }

pub decode_elements_into-requires-clause-len : goal.decode_elements_into-requires-clause-len
decode_elements_into-requires-clause-len g c =
    length-take-le c.args.count c.args.elements.now c.requires.room ∙ c.requires.count

pub returns-in_err-decode_elements_into : goal.returns-in_err-decode_elements_into
returns-in_err-decode_elements_into g c =
    let f = g.B.BytesToBytesCodecTraits.functions in
    let chain = plain_chain c.args.chain.now in
    let sizes = c.args.form.shape.now in
    let type = c.args.form.data_type.now in
    let fill = c.args.form.fill_value.now in
    let value = (raw_of c.args.value).items in
    let taken = c.in_ok-taken.taken in
    let form : List ℕ × BytesRepresentation = (taken.shape, taken.representation) in
    let below = (raw_of c.in_ok-below.below).items in
    let opened = subst (λ bs. outer_bytes f bs taken.representation value ≡ Ok below) c.deref.ensures.value c.in_ok-below.ensures.answer.is in
    let e = c.in_err-decode_elements_into.ensures in
    let p = err_from_is_err_and c.from_residual-in_err-decode_elements_into.result c.from_residual-in_err-decode_elements_into.ensures.1 in
    let read = packbits_read (λ items. Holds type (fixed_of items)) (Err c.in_err-decode_elements_into.field-0.0) f chain c.args.codec.now sizes type fill form value below c.requires.codec c.requires.arrays c.in_ok-taken.ensures.answer.is opened e.decoded in
    record {
      written = record {
        items = [];
        counted = rw p.1 tt;
        there = rw p.1 tt;
        left = rw p.1 (ap (λ (xs : List ℕ). xs ++ drop c.args.count c.args.elements.now) e.left ∙ take-append-drop c.args.count c.args.elements.now);
        answered = rw (p.1, p.2) read;
      };
    }

pub returns : goal.returns
returns g c =
    let f = g.B.BytesToBytesCodecTraits.functions in
    let chain = plain_chain c.args.chain.now in
    let sizes = c.args.form.shape.now in
    let type = c.args.form.data_type.now in
    let fill = c.args.form.fill_value.now in
    let value = (raw_of c.args.value).items in
    let taken = c.in_ok-taken.taken in
    let form : List ℕ × BytesRepresentation = (taken.shape, taken.representation) in
    let below = (raw_of c.in_ok-below.below).items in
    let opened = subst (λ bs. outer_bytes f bs taken.representation value ≡ Ok below) c.deref.ensures.value c.in_ok-below.ensures.answer.is in
    let items : List ℕ = c.decode_elements_into.new.elements in
    let room = c.requires.room in
    let long = sym (length-take-le c.args.count c.args.elements.now room) ∙ sym c.decode_elements_into.auto.elements in
    record {
      written = record {
        items = items;
        counted = long;
        there = front_there c.args.count items c.args.elements.now items room long refl;
        left = tt;
        answered = packbits_read (λ items. Holds type (fixed_of items)) (Ok items) f chain c.args.codec.now sizes type fill form value below c.requires.codec c.requires.arrays c.in_ok-taken.ensures.answer.is opened c.in_ok-decode_elements_into.ensures.decoded;
      };
    }

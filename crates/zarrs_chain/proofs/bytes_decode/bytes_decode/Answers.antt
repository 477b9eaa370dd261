use Rattle.std.proofs.Common.{◌<◌, map, Option, Ok, ap, sym, subst}
use Rattle.std.specs.List.{All}
use Rattle.zarrs_data_type.specs.Form.{form_of}
use Rattle.zarrs_data_type.specs.declared.endianness.Endianness.{Endianness}
use Rattle.zarrs_chunk.specs.Answer.{AnswersBy, GivesBy, memory, seen}
use Rattle.zarrs_array_bytes.specs.Held.{raw_of}
use Rattle.zarrs_array_bytes.specs.Validity.{Holds}
use Rattle.zarrs_array_bytes.proofs.TightLemmas.{sized_given_tight}
use Rattle.zarrs_array_to_array.specs.Mapping.{mapping_of}
use Rattle.zarrs_bytes.specs.BytesCodec.{bytes_chunk, turn_size}
use Rattle.zarrs_bytes.proofs.Taken.{taken_fixed}
use Rattle.zarrs_codec.specs.CoordinateMap.{CoordinateMap, IsCoordinateMap, moved_chunk, inverse_map}
use Rattle.zarrs_chain_meaning.specs.ArrayStages.{arrays_map}
use Rattle.zarrs_chain_meaning.proofs.ArraySteps.{at_ok, if_ok}
use Rattle.zarrs_chain.proofs.KeptBytes.{held_behind}
use Rattle.zarrs_chain.proofs.TurnedLast.{turned_answers}
use Rattle.zarrs_chain.proofs.bytes_decode.bytes_decode.Goals as goal

pub returns : goal.returns
returns c =
    let order = c.args.codec.now in
    let arrays = map mapping_of c.args.codecs.now in
    let sizes = c.args.form.shape.now in
    let type = c.args.form.data_type.now in
    let fill = c.args.form.fill_value.now in
    let value = (raw_of c.args.value).items in
    let read = subst (λ (o : Option Endianness). AnswersBy memory (Holds type) (Ok c.in_ok-stored.stored) (bytes_chunk o (form_of sizes type fill) value)) c.little.ensures.made c.in_ok-stored.ensures.decodes.exact in
    let positive = subst (All (λ size. 0 < size)) c.as_slice.ensures.value c.as_slice.ensures.positive in
    record {
      answer =
          if_ok (arrays_map type arrays sizes) (λ (m : CoordinateMap). GivesBy (Holds type) c.decode-2.result (seen (moved_chunk (inverse_map sizes m)) (bytes_chunk order (form_of sizes type fill) value)))
          (λ m e. record {
            is =
                turned_answers order arrays sizes m positive (at_ok (arrays_map type arrays sizes) (λ (m : CoordinateMap). IsCoordinateMap sizes m) m e c.in_ok-moved.ensures.map) type fill value c.in_ok-stored.stored c.in_ok-moved.moved (raw_of c.in_ok-raw.raw) c.decode-2.result c.requires.taken e read c.in_ok-moved.ensures.moved (sym c.in_ok-raw.ensures.answer) (λ _. c.decode-2.ensures.decodes.exact);
            no_fault = c.decode-2.ensures.decodes.no_fault;
          });
      tight = sized_given_tight type c.decode-2.result (bytes_chunk order (form_of sizes type fill) (raw_of c.in_ok-raw.raw).items) (taken_fixed order sizes type fill c.requires.taken) c.decode-2.ensures.decodes.exact;
      kept = λ unturned handed.
          held_behind c.args.value c.in_ok-raw.raw c.in_ok-stored.stored c.in_ok-moved.moved c.decode-2.result
          (c.in_ok-stored.ensures.kept (ap (λ (o : Option Endianness). turn_size o type) c.little.ensures.made))
          (c.in_ok-moved.ensures.kept handed) c.in_ok-raw.ensures.answer (c.decode-2.ensures.kept unturned);
    }

use Rattle.std.proofs.Common.{◌≡◌, [], Ok, Err, refl, ap, subst, sym, ◌∙◌}
use Rattle.std.proofs.lemmas.Result.{err_from_is_err_and}
use Rattle.zarrs_chunk.specs.Answer.{AnswersBy, memory, seen}
use Rattle.zarrs_chunk.specs.ChunkShape.{product}
use Rattle.zarrs_array_bytes.specs.Held.{flen, owned_bytes}
use Rattle.zarrs_array_bytes.specs.Validity.{Holds}
use Rattle.zarrs_codec.specs.MappedChunk.{encoded_chunk}
use Rattle.zarrs_array_to_array.specs.ArrayToArrayCodec.{coordinates, transpose}
use Rattle.zarrs_array_to_array.specs.CodecAnswers.{type_taken}
use Rattle.zarrs_array_to_array.proofs.CodecAnswers.{encoded_answers}
use Rattle.zarrs_array_to_array.proofs.MappedChunks.{where_expected, transpose_encoded-chunk, encoded_refused}
use Rattle.zarrs_array_to_array.proofs.transpose.transpose_codec.TransposeCodec.encode_into.Goals as goal

pub returns-in_err-check : goal.returns-in_err-check
returns-in_err-check c =
    let p = err_from_is_err_and c.from_residual.result c.from_residual.ensures.1 in
    record {
      moved = record {
        raw = owned_bytes [];
        there = rw p.1 (tt, refl);
        answered = encoded_refused c.args.self.now c.args.shape.now c.args.data_type.now c.args.bytes.now c.in_err-check.field-0.0 _ (sym c.in_err-check.ensures.exact);
      };
    }

pub returns : goal.returns
returns c =
    let order = c.args.self.now in
    let sizes = c.args.shape.now in
    let type = c.args.data_type.now in
    let held = c.args.bytes.now in
    let w = c.put_elements.ensures.written in
    let answer = seen (λ _. flen w.raw) c.put_elements.result in
    let shape_is = c.as_slice.ensures.value in
    let exact = encoded_answers order sizes c.order-order.result.now c.as_slice.result.now type held (product c.as_slice.result.now) answer (sym c.in_ok-check.ensures.exact) (ap product (sym shape_is)) c.order-order.ensures.value shape_is w.answered.is in
    record {
      moved = record {
        raw = w.raw;
        there = w.there;
        answered = where_expected (Holds type) answer (encoded_chunk (type_taken (transpose order) type) (coordinates (transpose order) sizes) type sizes held)
            (subst (λ expected. AnswersBy memory (Holds type) answer expected) (transpose_encoded-chunk order sizes type held) exact);
      };
    }

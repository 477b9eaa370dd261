use Rattle.std.proofs.Common.{rules, Err, refl, subst, ◌≡◌, true, sym, ◌∙◌}
use Rattle.std.proofs.lemmas.Result.{err_from_is_err_and}
use Rattle.zarrs_chunk.specs.Answer.{memory, AnswersBy}
use Rattle.zarrs_codec.specs.MappedChunk.{encoded_chunk}
use Rattle.zarrs_array_to_array.specs.ArrayToArrayCodec.{coordinates, transpose}
use Rattle.zarrs_array_to_array.specs.CodecAnswers.{type_taken}
use Rattle.zarrs_array_to_array.proofs.MappedChunks.{where_expected, transpose_encoded-chunk, encoded_refused, encoded_unfit}
use Rattle.zarrs_array_to_array.proofs.AnswerSteps.{found_by}
use Rattle.zarrs_array_bytes.specs.Elements.{elements}
use Rattle.zarrs_array_bytes.specs.Validity.{Holds}
use Rattle.zarrs_array_to_array.specs.Transpose.{IsTransposed}
use Rattle.zarrs_array_to_array.specs.TransposeCodec.{transpose_takes, transpose_encoded}
use Rattle.zarrs_chunk.specs.ChunkShape.{product}
use Rattle.zarrs_metadata.specs.Orders.{is_order}
use Rattle.zarrs_array_to_array.proofs.CodecAnswers.{encoded_answers, encoded_found}
use Rattle.zarrs_array_to_array.proofs.NeverAbsent.{never_absent}
use Rattle.zarrs_array_to_array.proofs.transpose.transpose_codec.TransposeCodecArrayToArrayCodecTraits.encode.Goals as goal

pub returns-clause-exact : goal.returns-clause-exact
returns-clause-exact c =
    let checked = c.in_ok-count.ensures {u = tt} in
    record { is = encoded_answers c.args.self.now c.args.shape.now c.as_slice.result.now c.as_slice-2.result.now c.args.data_type.now c.args.bytes c.in_ok-count.count c.transpose_elements.result (sym checked.exact) checked.count (c.as_slice.ensures.value ∙ c.self.view_is) c.as_slice-2.ensures.value c.transpose_elements.ensures.exact.is; no_fault = search rules }

pub returns-clause-by_tuple : goal.returns-clause-by_tuple
returns-clause-by_tuple c =
    let order : is_order c.args.self.now ≡ true = rw (← (c.as_slice.ensures.value ∙ c.self.view_is)) c.as_slice.ensures.sound in
    found_by memory (Holds c.args.data_type.now) c.transpose_elements.result (transpose_encoded c.args.self.now c.args.data_type.now c.args.shape.now c.args.bytes) (λ v. IsTransposed c.args.self.now c.args.shape.now (elements c.args.data_type.now (product c.args.shape.now) c.args.bytes) v) (returns-clause-exact c).is
    (λ v e. encoded_found c.args.self.now c.args.shape.now c.args.data_type.now c.args.bytes v order e)

pub returns-clause-moved : goal.returns-clause-moved
returns-clause-moved c =
    let order = c.args.self.now in
    let sizes = c.args.shape.now in
    let type = c.args.data_type.now in
    let held = c.args.bytes in
    where_expected (Holds type) c.transpose_elements.result (encoded_chunk (type_taken (transpose order) type) (coordinates (transpose order) sizes) type sizes held)
    (subst (λ expected. AnswersBy memory (Holds type) c.transpose_elements.result expected) (transpose_encoded-chunk order sizes type held) (returns-clause-exact c).is)

pub returns-in_err-count-clause-moved : goal.returns-in_err-count-clause-moved
returns-in_err-count-clause-moved c =
    encoded_refused c.args.self.now c.args.shape.now c.args.data_type.now c.args.bytes c.in_err-count.field-0.0 _ (sym (c.in_err-count.ensures {u = tt}).exact)

pub returns-clause-unfit : goal.returns-clause-unfit
returns-clause-unfit c =
    encoded_unfit c.args.self.now c.args.shape.now c.args.data_type.now c.args.bytes c.transpose_elements.result (returns-clause-exact c).is

pub returns-in_err-count-clause-unfit : goal.returns-in_err-count-clause-unfit
returns-in_err-count-clause-unfit c =
    let takes : transpose_takes c.args.self.now c.args.data_type.now c.args.shape.now c.args.bytes ≡ Err c.in_err-count.field-0.0 = sym (c.in_err-count.ensures {u = tt}).exact in
    let p = err_from_is_err_and c.from_residual.result c.from_residual.ensures.1 in
    rw (p.1, p.2) (encoded_unfit c.args.self.now c.args.shape.now c.args.data_type.now c.args.bytes (Err c.in_err-count.field-0.0) (λ _. rw takes refl))

pub returns-clause-tight : goal.returns-clause-tight
returns-clause-tight c =
    c.transpose_elements.ensures.tight (never_absent c.args.data_type.now c.args.bytes (c.in_ok-count.ensures {u = tt}).never_absent)

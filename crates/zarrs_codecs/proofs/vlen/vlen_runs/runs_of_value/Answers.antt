use Rattle.std.proofs.Common.{rules, subst}
use Rattle.zarrs_chunk.specs.Answer.{AnswersBy, memory}
use Rattle.zarrs_chunk.specs.ChunkShape.{product}
use Rattle.zarrs_chunk.specs.Runs.{joined_runs}
use Rattle.zarrs_array_bytes.specs.Validity.{Holds}
use Rattle.zarrs_codecs.proofs.VlenReads.{count_is, vlen_chosen, vlen_held}
use Rattle.zarrs_codecs.proofs.vlen.vlen_runs.runs_of_value.Goals as goal

pub returns-in_ok-count-in-Some : goal.returns-in_ok-count-in-Some
returns-in_ok-count-in-Some g c =
    let type = c.args.form.data_type.now in
    let sizes = c.args.form.shape.now in
    let count = count_is (product sizes) c.in_ok-count-in-Some.count c.in_ok-count-in-Some.ensures.answer in
    let held = vlen_held g.B.BytesToBytesCodecTraits.functions c.args.codec.now sizes type c.args.form.fill_value.now c.in-Some.value.items c.in_ok-chunk-in-Some.chunk c.in_ok-chunk-in-Some.ensures.answer.is in
    let same = vlen_chosen g.B.BytesToBytesCodecTraits.functions c.args.codec.now sizes type c.args.form.fill_value.now c.in-Some.value.items (joined_runs c.args.runs.now) c.in_ok-chunk-in-Some.chunk c.in_ok-count-in-Some.count count held.0 held.1 in
    record { answer = record { is = rw c.in-Some.is (subst (λ e. AnswersBy memory (Holds type) c.extract_runs.result e) same c.extract_runs.ensures.answer.is); no_fault = search rules }; tight = c.extract_runs.ensures.tight c.in_ok-chunk-in-Some.ensures.tight.blank }

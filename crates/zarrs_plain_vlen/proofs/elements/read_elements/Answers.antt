use Rattle.std.proofs.Common.{Result, sym, subst}
use Rattle.std.specs.Prelude.{IfOk}
use Rattle.zarrs_chunk.specs.declared.codec_error.CodecError.{CodecError}
use Rattle.zarrs_array_bytes.specs.Held.{Held, owned_bytes}
use Rattle.zarrs_array_bytes.specs.Tight.{IsTight}
use Rattle.zarrs_array_bytes.proofs.TightLemmas.{vlen_tight}
use Rattle.zarrs_chunk.specs.Answer.{AnswersBy, memory_or_fault}
use Rattle.zarrs_chunk.specs.Runs.{joined_runs}
use Rattle.zarrs_array_bytes.specs.Validity.{Holds}
use Rattle.zarrs_codec.specs.StorageState.{value_or_empty}
use Rattle.zarrs_plain_vlen.specs.Elements.{element_zeros}
use Rattle.zarrs_chain_meaning.specs.vlen.VlenLayout.{span_bytes}
use Rattle.zarrs_plain_vlen.specs.VlenRead.{elements_read}
use Rattle.zarrs_plain_vlen.proofs.ElementBytes.{gathered_rises, gathered_ends, gathered_flush}
use Rattle.zarrs_plain_vlen.proofs.ElementReads.{elements_held}
use Rattle.zarrs_plain_vlen.proofs.elements.read_elements.Goals as goal

pub variable-requires-clause-rising : goal.variable-requires-clause-rising
variable-requires-clause-rising g c =
    gathered_rises (element_zeros c.args.offsets.now) (joined_runs c.args.runs.now) c.in_ok-ends.ends.items c.in_ok-ends.ensures.ends

pub variable-requires-clause-ending : goal.variable-requires-clause-ending
variable-requires-clause-ending g c =
    gathered_ends (element_zeros c.args.offsets.now) (joined_runs c.args.runs.now) c.in_ok-bytes.bytes.items c.in_ok-ends.ends.items c.in_ok-bytes.ensures.lengths c.in_ok-ends.ensures.ends

pub returns-clause-answer : goal.returns-clause-answer
returns-clause-answer g c =
    let content = span_bytes (value_or_empty (g.H.BytesPartialDecoderTraits.state c.args.handle.now).value) c.args.span in
    let type = c.args.data_type.now in
    subst (λ r. AnswersBy memory_or_fault (Holds type) r (elements_read c.args.offsets.now content (joined_runs c.args.runs.now))) (sym c.variable.ensures.made)
    (elements_held type c.args.offsets.now content (joined_runs c.args.runs.now) c.in_ok-bytes.bytes.items c.in_ok-ends.ends.items c.requires.variable c.in_ok-bytes.ensures.answer c.in_ok-ends.ensures.ends c.in_ok-ends.ensures.small)

pub returns-clause-tight : goal.returns-clause-tight
returns-clause-tight g c =
    let type = c.args.data_type.now in
    let items = c.in_ok-bytes.bytes.items in
    let offsets = c.in_ok-ends.ends.items in
    let flush = gathered_flush (element_zeros c.args.offsets.now) (joined_runs c.args.runs.now) items offsets c.in_ok-bytes.ensures.lengths c.in_ok-ends.ensures.ends in
    subst (λ (r : Result Held CodecError). IfOk r (IsTight type)) (sym c.variable.ensures.made) (vlen_tight type (owned_bytes items) offsets flush)

use Rattle.std.proofs.Common.{◌≡◌, subst, Some, Ok, List, ℕ, Result, Option, length}
use Rattle.std.specs.Prelude.{OnOk}
use Rattle.zarrs_codec.specs.Calls.{after_reads, after_replacing}
use Rattle.zarrs_chunk.specs.Answer.{Answers, memory_or_fault}
use Rattle.zarrs_chunk.specs.Runs.{joined_runs}
use Rattle.zarrs_chunk.specs.declared.codec_error.CodecError.{CodecError}
use Rattle.zarrs_bytes.proofs.LentElements.{items_of_ok, lent_fits, lent_left, lent_replaced, never_refused}
use Rattle.zarrs_bytes.proofs.PartWrites.{fits_kind}
use Rattle.zarrs_bytes.proofs.bytes_codec.BytesCodec.write_runs.Goals as goal

pub lend-requires : goal.lend-requires
lend-requires g c = record { kind = fits_kind c.args.self.now c.args.shape.now c.args.data_type.now c.args.fill_value.now (length (joined_runs c.args.runs.now)) c.args.elements.now c.requires.taken c.requires.fit }

pub returns-in_err-elements : goal.returns-in_err-elements
returns-in_err-elements g c = never_refused c.args.elements.now c.in_err-elements.field-0.0 _ c.in_err-elements.ensures.items

pub write_given_runs-requires-clause-fit : goal.write_given_runs-requires-clause-fit
write_given_runs-requires-clause-fit g c =
    let items = items_of_ok c.in_ok-elements.elements c.args.elements.now (c.in_ok-elements.ensures {u = tt}).items in
    lent_fits c.args.self.now c.args.shape.now c.args.data_type.now c.args.fill_value.now (length (joined_runs c.args.runs.now)) c.args.elements.now c.in_ok-elements.elements c.requires.taken c.requires.fit items

pub returns-clause-answer : goal.returns-clause-answer
returns-clause-answer g c =
    let items = items_of_ok c.in_ok-elements.elements c.args.elements.now (c.in_ok-elements.ensures {u = tt}).items in
    let stored = (g.H.BytesPartialDecoderTraits.state c.args.handle.now).value in
    let left = lent_left c.args.self.now c.args.shape.now c.args.data_type.now c.args.fill_value.now stored (joined_runs c.args.runs.now) c.args.elements.now c.in_ok-elements.elements c.requires.taken c.requires.fit items in
    subst (λ (value : List ℕ). Answers memory_or_fault (λ _. (g.H.BytesPartialDecoderTraits.state c.write_given_runs.new.handle).value) c.write_given_runs.result (let r : Result (Option (List ℕ)) CodecError = Ok (Some value) in r)) left c.write_given_runs.ensures.answer

pub returns-clause-counted : goal.returns-clause-counted
returns-clause-counted g c =
    let D = g.H.BytesPartialDecoderTraits in
    let items = items_of_ok c.in_ok-elements.elements c.args.elements.now (c.in_ok-elements.ensures {u = tt}).items in
    let stored = (D.state c.args.handle.now).value in
    let replaced = lent_replaced c.args.self.now c.args.shape.now c.args.data_type.now c.args.fill_value.now stored (joined_runs c.args.runs.now) c.args.elements.now c.in_ok-elements.elements c.requires.taken c.requires.fit items in
    subst (λ (numbers : List ℕ). OnOk c.write_given_runs.result (D.calls c.write_given_runs.new.handle ≡ after_replacing numbers (after_reads 1 (D.calls c.args.handle.now)))) replaced c.write_given_runs.ensures.counted

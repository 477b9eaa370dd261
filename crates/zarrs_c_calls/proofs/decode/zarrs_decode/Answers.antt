use Rattle.std.proofs.Common.{refl}
use Rattle.zarrs_c_calls.specs.Buffers.{buffers}
use Rattle.zarrs_c_calls.specs.Calls.{header_given, decoded}
use Rattle.zarrs_c_calls.proofs.TellLemmas.{elements_refused}
use Rattle.zarrs_c_calls.proofs.decode.zarrs_decode.Goals as goal

pub returns-in-Ok : goal.returns-in-Ok
returns-in-Ok c = record { told = rw c.in-Ok.ensures.answer c.decode_of_header.ensures.told }

pub returns-in-Err : goal.returns-in-Err
returns-in-Err c =
    let due = decoded (header_given c.args.text.now) c.args.value.now in
    let old = buffers c.args.masks.now c.args.offsets.now c.args.bytes.now in
    record { told = elements_refused c.in-Err.cause due c.cause_code.result old c.args.needed.now (λ wants. rw (c.in-Err.ensures.answer wants) refl) c.cause_code.ensures.value }

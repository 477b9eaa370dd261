use Rattle.std.proofs.Common.{refl}
use Rattle.zarrs_c_calls.specs.Buffers.{buffers}
use Rattle.zarrs_c_calls.specs.Calls.{header_given}
use Rattle.zarrs_c_calls.specs.ManyReads.{many_read}
use Rattle.zarrs_c_calls.specs.Reads.{stored_value}
use Rattle.zarrs_c_calls.proofs.ManyLemmas.{many_refused}
use Rattle.zarrs_c_calls.proofs.read_many.zarrs_read_many.Goals as goal

pub returns-in-Ok : goal.returns-in-Ok
returns-in-Ok c = record { told = rw c.in-Ok.ensures.answer c.many_of_header.ensures.told }

pub returns-in-Err : goal.returns-in-Err
returns-in-Err c =
    let due = many_read (header_given c.args.text.now) (stored_value c.args.is_stored c.args.value.now) c.args.sizes.now c.args.numbers.now in
    let old = buffers c.args.masks.now c.args.offsets.now c.args.bytes.now in
    record { told = many_refused c.in-Err.cause due c.cause_code.result old c.args.needed.now (λ wants. rw (c.in-Err.ensures.answer wants) refl) c.cause_code.ensures.value }

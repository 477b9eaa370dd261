use Rattle.std.proofs.Common.{refl}
use Rattle.zarrs_c_calls.specs.Buffers.{buffers}
use Rattle.zarrs_c_calls.specs.Calls.{header_given}
use Rattle.zarrs_c_calls.specs.Reads.{stored_value}
use Rattle.zarrs_c_calls.specs.Writes.{part_written}
use Rattle.zarrs_c_calls.proofs.TellLemmas.{bytes_refused}
use Rattle.zarrs_c_calls.proofs.write.zarrs_write.Goals as goal

pub returns-in-Ok : goal.returns-in-Ok
returns-in-Ok c = record { told = rw c.in-Ok.ensures.answer c.write_of_header.ensures.told }

pub returns-in-Err : goal.returns-in-Err
returns-in-Err c =
    let due = part_written (header_given c.args.text.now) (stored_value c.args.is_stored c.args.value.now) c.args.tuples c.args.numbers.now (buffers c.args.masks.now c.args.offsets.now c.args.bytes.now) in
    record { told = bytes_refused c.in-Err.cause due c.cause_code.result c.args.out.now c.args.needed.now (λ wants. rw (c.in-Err.ensures.answer wants) refl) c.cause_code.ensures.value }

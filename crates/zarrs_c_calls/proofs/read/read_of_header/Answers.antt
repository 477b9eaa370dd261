use Rattle.zarrs_c_calls.specs.Calls.{known_header}
use Rattle.zarrs_c_calls.specs.Buffers.{buffers}
use Rattle.zarrs_c_calls.specs.Reads.{part_read, stored_value}
use Rattle.zarrs_c_calls.proofs.TellLemmas.{elements_told, elements_refused}
use Rattle.zarrs_c_calls.proofs.read.read_of_header.Goals as goal

pub returns-in-Ok : goal.returns-in-Ok
returns-in-Ok c =
    let due = part_read (known_header c.args.form.now) (stored_value c.args.is_stored c.args.value.now) c.args.tuples c.args.numbers.now in
    let old = buffers c.args.masks.now c.args.offsets.now c.args.bytes.now in
    let new = buffers c.tell.new.masks c.tell.new.offsets c.tell.new.bytes in
    record { told = elements_told c.in-Ok.elements due c.tell.result old new c.args.needed.now c.tell.new.needed (rw c.stored_given-stored.ensures.value at c.in-Ok.ensures.answer) c.tell.ensures.told }

pub returns-in-Err : goal.returns-in-Err
returns-in-Err c =
    let due = part_read (known_header c.args.form.now) (stored_value c.args.is_stored c.args.value.now) c.args.tuples c.args.numbers.now in
    let old = buffers c.args.masks.now c.args.offsets.now c.args.bytes.now in
    record { told = elements_refused c.in-Err.cause due c.cause_code.result old c.args.needed.now (rw c.stored_given-stored.ensures.value at c.in-Err.ensures.answer) c.cause_code.ensures.value }

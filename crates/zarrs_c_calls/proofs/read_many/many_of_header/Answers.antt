use Rattle.std.proofs.Common.{rules}
use Rattle.zarrs_c_calls.specs.Calls.{known_header}
use Rattle.zarrs_c_calls.specs.Buffers.{buffers}
use Rattle.zarrs_c_calls.specs.JoinedParts.{ToldJoined, joined_parts}
use Rattle.zarrs_c_calls.specs.ManyReads.{many_read}
use Rattle.zarrs_c_calls.specs.Reads.{stored_value}
use Rattle.zarrs_c_calls.proofs.ManyLemmas.{many_told, many_refused}
use Rattle.zarrs_c_calls.proofs.read_many.many_of_header.Goals as goal

pub returns-in-Ok : goal.returns-in-Ok
returns-in-Ok c =
    let due = many_read (known_header c.args.form.now) (stored_value c.args.is_stored c.args.value.now) c.args.sizes.now c.args.numbers.now in
    let old = buffers c.args.masks.now c.args.offsets.now c.args.bytes.now in
    let new = buffers c.tell_many.new.masks c.tell_many.new.offsets c.tell_many.new.bytes in
    let told : ToldJoined (joined_parts c.in-Ok.answers.items) c.tell_many.result old new c.tell_many.new.needed = search rules in
    record { told = many_told c.in-Ok.answers.items due c.tell_many.result old new c.args.needed.now c.tell_many.new.needed (rw c.stored_given-stored.ensures.value at c.in-Ok.ensures.answer) told }

pub returns-in-Err : goal.returns-in-Err
returns-in-Err c =
    let due = many_read (known_header c.args.form.now) (stored_value c.args.is_stored c.args.value.now) c.args.sizes.now c.args.numbers.now in
    let old = buffers c.args.masks.now c.args.offsets.now c.args.bytes.now in
    record { told = many_refused c.in-Err.cause due c.cause_code.result old c.args.needed.now (rw c.stored_given-stored.ensures.value at c.in-Err.ensures.answer) c.cause_code.ensures.value }

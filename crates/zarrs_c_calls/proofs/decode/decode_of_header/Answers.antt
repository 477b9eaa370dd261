use Rattle.zarrs_json.specs.HeaderRead.{header_seen}
use Rattle.zarrs_c_calls.specs.Buffers.{buffers}
use Rattle.zarrs_c_calls.specs.Calls.{value_decoded}
use Rattle.zarrs_c_calls.proofs.TellLemmas.{elements_told, elements_refused}
use Rattle.zarrs_c_calls.proofs.decode.decode_of_header.Goals as goal

pub returns-in-Some : goal.returns-in-Some
returns-in-Some c = record { told = c.decode_sized.ensures.told c.args.masks.now c.args.offsets.now }

pub returns-in-Ok : goal.returns-in-Ok
returns-in-Ok c =
    let due = value_decoded (header_seen c.args.form.now) c.args.value.now in
    let old = buffers c.args.masks.now c.args.offsets.now c.args.bytes.now in
    let new = buffers c.tell.new.masks c.tell.new.offsets c.tell.new.bytes in
    record { told = elements_told c.in-Ok.elements due c.tell.result old new c.args.needed.now c.tell.new.needed c.in-Ok.ensures.answer c.tell.ensures.told }

pub returns-in-Err : goal.returns-in-Err
returns-in-Err c =
    let due = value_decoded (header_seen c.args.form.now) c.args.value.now in
    let old = buffers c.args.masks.now c.args.offsets.now c.args.bytes.now in
    record { told = elements_refused c.in-Err.cause due c.cause_code.result old c.args.needed.now c.in-Err.ensures.answer c.cause_code.ensures.value }

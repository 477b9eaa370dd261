use Rattle.zarrs_c_calls.specs.Buffers.{buffers}
use Rattle.zarrs_c_calls.specs.Calls.{header_given}
use Rattle.zarrs_c_calls.proofs.FetchedDue.{header_refused}
use Rattle.zarrs_c_calls.proofs.read_pieces.zarrs_read_pieces.Goals as goal

pub returns-in-Ok : goal.returns-in-Ok
returns-in-Ok g c = record { told = rw c.in-Ok.ensures.answer c.pieces_of_header.ensures.told }

pub returns-in-Err : goal.returns-in-Err
returns-in-Err g c =
    let old = buffers c.args.masks.now c.args.offsets.now c.args.bytes.now in
    record { told = header_refused (header_given c.args.text.now) c.in-Err.cause c.args.len c.args.ranges.now c.args.fetched.now c.args.tuples c.args.numbers.now g.value c.cause_code.result old c.args.needed.now c.in-Err.ensures.answer c.cause_code.ensures.value }

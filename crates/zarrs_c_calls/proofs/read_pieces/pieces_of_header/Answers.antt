use Rattle.std.proofs.Common.{Some}
use Rattle.zarrs_lent_handles.specs.Elsewhere.{own_bytes}
use Rattle.zarrs_c_calls.specs.Calls.{known_header}
use Rattle.zarrs_c_calls.specs.Buffers.{Room, buffers}
use Rattle.zarrs_c_calls.specs.Fetched.{Lacks, TellsOrLacks, pieces_read}
use Rattle.zarrs_c_calls.specs.Reads.{part_read}
use Rattle.zarrs_c_calls.proofs.FetchedDue.{pieces_told, pieces_refused, told_each}
use Rattle.zarrs_c_calls.proofs.TellLemmas.{elements_told, elements_refused}
use Rattle.zarrs_c_calls.proofs.read_pieces.pieces_of_header.Goals as goal

pub returns-in-Ok : goal.returns-in-Ok
returns-in-Ok g c =
    let due = pieces_read (own_bytes g.value) (known_header c.args.form.now) c.args.len c.args.ranges.now c.args.fetched.now c.args.tuples c.args.numbers.now in
    let lacking = Lacks (own_bytes g.value) (known_header c.args.form.now) c.args.len c.args.ranges.now c.args.fetched.now c.args.tuples c.args.numbers.now in
    let old = buffers c.args.masks.now c.args.offsets.now c.args.bytes.now in
    let new = buffers c.tell.new.masks c.tell.new.offsets c.tell.new.bytes in
    let before : Room = record { parts = old; needed = c.args.needed.now } in
    let after : Room = record { parts = new; needed = c.tell.new.needed } in
    let told : TellsOrLacks lacking due c.tell.result before after = pieces_told c.in-Ok.elements due lacking c.tell.result old new c.args.needed.now c.tell.new.needed c.in-Ok.ensures.answer c.tell.ensures.told in
    record {
      told = record {
        told = told;
        each = λ has. told_each (known_header c.args.form.now) c.args.len c.args.ranges.now c.args.fetched.now c.args.tuples c.args.numbers.now g.value has lacking c.tell.result before after told;
        alike = λ value has.
            let read = part_read (known_header c.args.form.now) (Some value) c.args.tuples c.args.numbers.now in
            elements_told c.in-Ok.elements read c.tell.result old new c.args.needed.now c.tell.new.needed (c.in-Ok.ensures.alike value has) c.tell.ensures.told;
      };
    }

pub returns-in-Err : goal.returns-in-Err
returns-in-Err g c =
    let due = pieces_read (own_bytes g.value) (known_header c.args.form.now) c.args.len c.args.ranges.now c.args.fetched.now c.args.tuples c.args.numbers.now in
    let lacking = Lacks (own_bytes g.value) (known_header c.args.form.now) c.args.len c.args.ranges.now c.args.fetched.now c.args.tuples c.args.numbers.now in
    let old = buffers c.args.masks.now c.args.offsets.now c.args.bytes.now in
    let room : Room = record { parts = old; needed = c.args.needed.now } in
    let told : TellsOrLacks lacking due c.cause_code.result room room = pieces_refused c.in-Err.cause due lacking c.cause_code.result old c.args.needed.now c.in-Err.ensures.answer c.in-Err.ensures.lacking c.cause_code.ensures.value in
    record {
      told = record {
        told = told;
        each = λ has. told_each (known_header c.args.form.now) c.args.len c.args.ranges.now c.args.fetched.now c.args.tuples c.args.numbers.now g.value has lacking c.cause_code.result room room told;
        alike = λ value has.
            let read = part_read (known_header c.args.form.now) (Some value) c.args.tuples c.args.numbers.now in
            elements_refused c.in-Err.cause read c.cause_code.result old c.args.needed.now (c.in-Err.ensures.alike value has) c.cause_code.ensures.value;
      };
    }

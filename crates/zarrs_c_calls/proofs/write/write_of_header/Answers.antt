use Rattle.std.proofs.Common.{List, ℕ, sym, subst}
use Rattle.zarrs_c_calls.specs.Calls.{known_header}
use Rattle.zarrs_c_calls.specs.Buffers.{buffers}
use Rattle.zarrs_c_calls.specs.Reads.{stored_value}
use Rattle.zarrs_c_calls.specs.Told.{TellsBytes}
use Rattle.zarrs_c_calls.specs.Writes.{part_written}
use Rattle.zarrs_c_calls.specs.Written.{TellsWritten}
use Rattle.zarrs_c_calls.proofs.TellLemmas.{bytes_refused}
use Rattle.zarrs_c_calls.proofs.WrittenLemmas.{still_refused, written_told}
use Rattle.zarrs_c_calls.proofs.write.write_of_header.Goals as goal

pub returns-in-Ok : goal.returns-in-Ok
returns-in-Ok c =
    let due = part_written (known_header c.args.form.now) (stored_value c.args.is_stored c.args.value.now) c.args.tuples c.args.numbers.now (buffers c.args.masks.now c.args.offsets.now c.args.bytes.now) in
    let w = c.in-Ok.written in
    let left = c.write.new.out in
    let code = c.tell_written.result in
    let new = c.tell_written.new.out in
    let needed = c.tell_written.new.needed in
    let wrote = c.in-Ok.ensures.writes in
    let told : TellsWritten w c.write.new.apart.items code left new needed = subst (λ (v : List ℕ). TellsWritten w v code left new needed) c.as_slice.ensures.value c.tell_written.ensures.told in
    record { told = written_told w due c.args.out.now left c.write.new.apart.items new code c.args.needed.now needed wrote.answer wrote.rest told }

pub returns : goal.returns
returns c =
    let due = part_written (known_header c.args.form.now) (stored_value c.args.is_stored c.args.value.now) c.args.tuples c.args.numbers.now (buffers c.args.masks.now c.args.offsets.now c.args.bytes.now) in
    let old = c.args.out.now in
    let needed = c.args.needed.now in
    let code = c.cause_code.result in
    let wrote = c.in-Err.ensures.writes in
    record { told = subst (λ (out : List ℕ). TellsBytes due code old out needed needed) (sym wrote.kept) (bytes_refused c.in-Err.cause due code old needed (still_refused due c.in-Err.cause _ wrote.answer) c.cause_code.ensures.value) }

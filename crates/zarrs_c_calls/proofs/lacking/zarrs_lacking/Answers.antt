use Rattle.std.proofs.Common.{inr, refl}
use Rattle.zarrs_lent_handles.specs.Pieces.{zeros}
use Rattle.zarrs_c_calls.specs.Calls.{header_given}
use Rattle.zarrs_c_calls.specs.Fetched.{pieces_read}
use Rattle.zarrs_c_calls.proofs.RangesLacking.{code_refused}
use Rattle.zarrs_c_calls.proofs.lacking.zarrs_lacking.Goals as goal

pub returns-in-Ok : goal.returns-in-Ok
returns-in-Ok c = record { told = rw c.in-Ok.ensures.answer c.lacking_of_header.ensures.told }

pub returns-in-Err : goal.returns-in-Err
returns-in-Err c =
    let due = pieces_read zeros (header_given c.args.text.now) c.args.len c.args.ranges.now c.args.fetched.now c.args.tuples c.args.numbers.now in
    record { told = inr (code_refused c.in-Err.cause due c.cause_code.result (λ wants. rw (c.in-Err.ensures.answer wants) refl) c.cause_code.ensures.value, refl, refl) }

use Rattle.std.proofs.Common.{ℕ, List, inl, inr, refl, subst, rules}
use Rattle.zarrs_lent_handles.specs.Pieces.{zeros}
use Rattle.zarrs_c_calls.specs.Calls.{known_header}
use Rattle.zarrs_c_calls.specs.Fetched.{pieces_read}
use Rattle.zarrs_c_calls.specs.Told.{ToldBytes}
use Rattle.zarrs_c_calls.proofs.RangesLacking.{code_refused}
use Rattle.zarrs_c_calls.proofs.lacking.lacking_of_header.Goals as goal

pub returns-in-Ok : goal.returns-in-Ok
returns-in-Ok c =
    let told = c.in-Ok.told in
    let due = c.in-Ok.ensures.answer in
    let in_buffer : ToldBytes told.items c.tell_numbers.result c.args.lacking.now c.tell_numbers.new.out c.tell_numbers.new.needed = search rules in
    record { told = inl (due.0, due.1, subst (λ (numbers : List ℕ). ToldBytes numbers c.tell_numbers.result c.args.lacking.now c.tell_numbers.new.out c.tell_numbers.new.needed) due.2 in_buffer) }

pub returns-in-Err : goal.returns-in-Err
returns-in-Err c =
    let due = pieces_read zeros (known_header c.args.form.now) c.args.len c.args.ranges.now c.args.fetched.now c.args.tuples c.args.numbers.now in
    record { told = inr (code_refused c.in-Err.cause due c.cause_code.result c.in-Err.ensures.answer c.cause_code.ensures.value, refl, refl) }

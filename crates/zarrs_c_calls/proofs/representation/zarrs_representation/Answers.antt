use Rattle.std.proofs.Common.{refl}
use Rattle.zarrs_c_calls.specs.Calls.{header_given, represented}
use Rattle.zarrs_c_calls.proofs.TellLemmas.{representation_refused}
use Rattle.zarrs_c_calls.proofs.representation.zarrs_representation.Goals as goal

pub returns-in-Ok : goal.returns-in-Ok
returns-in-Ok c = record { told = rw c.in-Ok.ensures.answer c.representation_of_header.ensures.told }

pub returns-in-Err : goal.returns-in-Err
returns-in-Err c =
    let due = represented (header_given c.args.text.now) in
    record { told = representation_refused c.in-Err.cause due c.cause_code.result c.args.kind.now c.args.size.now (λ wants. rw (c.in-Err.ensures.answer wants) refl) c.cause_code.ensures.value }

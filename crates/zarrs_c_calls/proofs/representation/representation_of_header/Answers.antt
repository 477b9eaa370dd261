use Rattle.std.proofs.Common.{refl}
use Rattle.zarrs_c_calls.specs.Calls.{known_header, represented}
use Rattle.zarrs_c_calls.proofs.TellLemmas.{representation_told, representation_refused}
use Rattle.zarrs_c_calls.proofs.representation.representation_of_header.Goals as goal

pub returns-in-Ok : goal.returns-in-Ok
returns-in-Ok c =
    record { told = representation_told c.in-Ok.representation (represented (known_header c.args.form.now)) 0 c.args.kind.now c.tell_representation.new.kind c.args.size.now c.tell_representation.new.size c.in-Ok.ensures.answer refl c.tell_representation.ensures.kind c.tell_representation.ensures.size }

pub returns-in-Err : goal.returns-in-Err
returns-in-Err c =
    record { told = representation_refused c.in-Err.cause (represented (known_header c.args.form.now)) c.cause_code.result c.args.kind.now c.args.size.now c.in-Err.ensures.answer c.cause_code.ensures.value }

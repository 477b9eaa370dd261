use Rattle.std.proofs.Common.{refl}
use Rattle.zarrs_c_calls.specs.Calls.{header_given, reencoded}
use Rattle.zarrs_c_calls.proofs.TellLemmas.{bytes_refused}
use Rattle.zarrs_c_calls.proofs.reencode.zarrs_reencode.Goals as goal

pub returns-in-Ok : goal.returns-in-Ok
returns-in-Ok c = record { told = rw c.in-Ok.ensures.answer c.reencode_of_header.ensures.told }

pub returns-in-Err : goal.returns-in-Err
returns-in-Err c =
    let due = reencoded (header_given c.args.text.now) c.args.value.now c.args.codecs.now in
    record { told = bytes_refused c.in-Err.cause due c.cause_code.result c.args.out.now c.args.needed.now (λ wants. rw (c.in-Err.ensures.answer wants) refl) c.cause_code.ensures.value }

use Rattle.std.proofs.Common.{◌≡◌, inl, ap, sym}
use Rattle.zarrs_c_calls.specs.Calls.{header_given}
use Rattle.zarrs_c_calls.specs.Codes.{answer_code, cause_code}
use Rattle.zarrs_c_calls.proofs.CodeLemmas.{coded, refused}
use Rattle.zarrs_c_calls.proofs.check.zarrs_check.Goals as goal

pub returns-in-Ok : goal.returns-in-Ok
returns-in-Ok c = record { code = inl (sym (ap answer_code c.in-Ok.ensures.answer)) }

pub returns-in-Err : goal.returns-in-Err
returns-in-Err c =
    let due = header_given c.args.text.now in
    let is : c.cause_code.result ≡ cause_code c.in-Err.cause = c.cause_code.ensures.value in
    record { code = rw is (coded (cause_code c.in-Err.cause) due (refused c.in-Err.cause due c.in-Err.ensures.answer)) }

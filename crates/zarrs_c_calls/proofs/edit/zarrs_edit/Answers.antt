use Rattle.std.proofs.Common.{inl, refl}
use Rattle.zarrs_c_calls.specs.Calls.{header_given}
use Rattle.zarrs_c_calls.proofs.EditLemmas.{edit_refused}
use Rattle.zarrs_c_calls.proofs.edit.zarrs_edit.Goals as goal

pub returns-in-Ok : goal.returns-in-Ok
returns-in-Ok c = record { told = rw c.in-Ok.ensures.answer c.edit_of_header.ensures.told }

pub returns-in-Err : goal.returns-in-Err
returns-in-Err c = record {
  told = edit_refused (header_given c.args.text.now) c.args.sizes.now c.args.numbers.now c.args.bytes.now c.args.value.now c.args.value.now 0 c.in-Err.cause c.cause_code.result (inl (refl, refl)) (λ wants. rw (c.in-Err.ensures.answer wants) refl) c.cause_code.ensures.value;
}

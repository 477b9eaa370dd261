use Rattle.std.proofs.Common.{inr, refl}
use Rattle.zarrs_c_calls.specs.Calls.{header_given}
use Rattle.zarrs_c_calls.proofs.CodeLemmas.{refused}
use Rattle.zarrs_c_calls.proofs.chain.zarrs_chain_new.Goals as goal

pub returns-in-Err : goal.returns-in-Err
returns-in-Err c = record { told = inr (rw c.cause_code.ensures.value (refused c.in-Err.cause (header_given c.args.text.now) c.in-Err.ensures.answer), refl) }

use Rattle.zarrs_c_calls.specs.Calls.{known_header}
use Rattle.zarrs_c_calls.proofs.EditLemmas.{edit_refused, edits_told, none_of, some_of}
use Rattle.zarrs_c_calls.proofs.edit.edit_of_header.Goals as goal

pub returns-in-None : goal.returns-in-None
returns-in-None c =
    let all = none_of c.edit-outcome.result.refusal _ c.in-None.is c.edit-outcome.ensures.edits.all in
    record { told = edits_told (known_header c.args.form.now) c.args.sizes.now c.args.numbers.now c.args.bytes.now c.args.value.now c.edit-outcome.new.value c.edit-outcome.result.done all.0 all.1 }

pub returns-in-Some : goal.returns-in-Some
returns-in-Some c =
    let refuses = some_of c.edit-outcome.result.refusal c.in-Some.cause _ c.in-Some.is c.edit-outcome.ensures.edits.refused in
    record {
      told = edit_refused (known_header c.args.form.now) c.args.sizes.now c.args.numbers.now c.args.bytes.now c.args.value.now c.edit-outcome.new.value c.edit-outcome.result.done c.in-Some.cause c.cause_code.result c.edit-outcome.ensures.edits.made
          refuses c.cause_code.ensures.value;
    }

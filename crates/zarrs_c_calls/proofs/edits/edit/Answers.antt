use Rattle.std.proofs.Common.{length, refl, inl}
use Rattle.zarrs_json.specs.HeaderRead.{header_seen}
use Rattle.zarrs_c_calls.specs.Calls.{known_header}
use Rattle.zarrs_c_calls.proofs.EditLemmas.{edits_opened_made, edits_not_opened, opened}
use Rattle.zarrs_c_calls.proofs.edits.edit.Goals as goal

pub returns-in-Err : goal.returns-in-Err
returns-in-Err c =
    let edits = c.args.edits.now in
    record {
      edits = record {
        made = inl (refl, refl);
        all = tt;
        refused = edits_not_opened (known_header c.args.form.now) edits.sizes.now edits.numbers.now edits.bytes.now c.args.value.now 1 c.in-Err.cause c.in-Err.ensures.answer;
      };
    }

pub edit_value-requires-clause-represented : goal.edit_value-requires-clause-represented
edit_value-requires-clause-represented c =
    let edits = c.args.edits.now in
    (opened (known_header c.args.form.now) (length c.args.value.now) edits.sizes.now (length edits.numbers.now) (length edits.bytes.now) (header_seen c.args.form.now) c.in-Ok.ensures.answer).represented

pub returns-in-Ok : goal.returns-in-Ok
returns-in-Ok c =
    let edits = c.args.edits.now in
    record {
      edits = edits_opened_made (known_header c.args.form.now) c.args.value.now c.edit_value.new.value edits c.args.form.now c.edit_value.result c.in-Ok.ensures.answer c.edit_value.ensures.runs;
    }

use Rattle.zarrs_fill_values.proofs.Texts.{text_found, text_none}
use Rattle.zarrs_fill_values.proofs.shown.text_in.Goals as goal

pub returns-in-Ok : goal.returns-in-Ok
returns-in-Ok c = record { value = text_found c.in-Ok.text.now c.args.fill.now c.in-Ok.ensures.cases.0 c.in-Ok.ensures.cases.1 }

pub returns-in-Err : goal.returns-in-Err
returns-in-Err c = record { value = text_none c.args.fill.now c.in-Err.ensures.cases.0 }

use Rattle.zarrs_chunk.specs.Indexer.{selection_of}
use Rattle.zarrs_json.specs.HeaderRead.{header_seen}
use Rattle.zarrs_codecs.specs.PartialEncoder.{encoder_form}
use Rattle.zarrs_json.specs.Header.{header_form}
use Rattle.zarrs_c_calls.proofs.PlanLemmas.{plan_made, plan_refused}
use Rattle.zarrs_c_calls.proofs.plan.ranges_of.Goals as goal

pub returns-in-Err : goal.returns-in-Err
returns-in-Err c =
    let chunk = header_form (header_seen c.args.form.now) in
    record { plan = plan_refused chunk (selection_of c.args.indexer.now) c.in-Err.refused.error c.in-Err.ensures.answer.is }

pub returns-in-Ok : goal.returns-in-Ok
returns-in-Ok c =
    let chunk = header_form (header_seen c.args.form.now) in
    record { plan = plan_made chunk (encoder_form c.in-Ok.encoder) (selection_of c.args.indexer.now) c.planned_ranges.result c.in-Ok.ensures.form c.in-Ok.ensures.answer.is c.planned_ranges.ensures.plan.is }

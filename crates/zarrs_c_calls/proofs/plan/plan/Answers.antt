use Rattle.std.proofs.Common.{refl}
use Rattle.zarrs_chunk.specs.Indexer.{selection_of}
use Rattle.zarrs_json.specs.HeaderRead.{header_seen}
use Rattle.zarrs_c_calls.specs.Calls.{known_header}
use Rattle.zarrs_c_calls.proofs.PlanLemmas.{none_due, some_due}
use Rattle.zarrs_c_calls.proofs.plan.plan.Goals as goal

pub returns-in-None : goal.returns-in-None
returns-in-None c =
    record { answer = none_due (known_header c.args.form.now) c.args.tuples c.args.numbers.now (header_seen c.args.form.now) (selection_of c.in_ok-indexer.indexer) refl c.in_ok-indexer.ensures.answer _ c.in_ok-ranges_of.ensures.plan c.in-None.is }

pub returns : goal.returns
returns c =
    record { answer = some_due (known_header c.args.form.now) c.args.tuples c.args.numbers.now (header_seen c.args.form.now) (selection_of c.in_ok-indexer.indexer) refl c.in_ok-indexer.ensures.answer _ c.in-Some.ranges c.in_ok-joined_numbers-in-Some.field-0 c.in_ok-ranges_of.ensures.plan c.in-Some.is c.in_ok-joined_numbers-in-Some.ensures.numbers }

use Rattle.zarrs_json.specs.HeaderRead.{header_seen}
use Rattle.zarrs_c_calls.proofs.AnswerLemmas.{value_due}
use Rattle.zarrs_c_calls.proofs.calls.decode.Goals as goal

pub returns : goal.returns
returns c =
    record { answer = value_due (header_seen c.args.header.now) c.args.value.now c.in_ok-elements.elements c.in_ok-elements.ensures.decodes.exact c.in_ok-elements.ensures.tight }

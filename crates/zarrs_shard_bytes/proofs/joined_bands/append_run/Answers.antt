use Rattle.std.proofs.Common.{◌++◌, subst}
use Rattle.zarrs_array_bytes.specs.Elements.{elements}
use Rattle.zarrs_array_bytes.specs.Validity.{Holds}
use Rattle.zarrs_chunk.specs.Answer.{GivesBy}
use Rattle.zarrs_bytes.proofs.Coding.{ok}
use Rattle.zarrs_data_type.specs.Element.{Chunk}
use Rattle.zarrs_shard_bytes.proofs.LentRuns.{run_is, run_valid}
use Rattle.zarrs_shard_bytes.proofs.joined_bands.append_run.Goals as goal

pub append_elements-requires-2-clause-more_valid : goal.append_elements-requires-2-clause-more_valid
append_elements-requires-2-clause-more_valid c =
    run_valid c.args.data_type.now c.args.first c.args.each c.args.whole c.args.content.now c.in_ok-run.run' c.requires.inside c.requires.content_valid c.in_ok-run.ensures.answer.is

pub returns-clause-answer : goal.returns-clause-answer
returns-clause-answer c =
    let type = c.args.data_type.now in
    subst (λ (more : Chunk). GivesBy (Holds type) c.append_elements-2.result (ok (elements type c.args.done c.args.elements ++ more))) (run_is type c.args.first c.args.each c.args.content.now c.in_ok-run.run' c.in_ok-run.ensures.answer.is) c.append_elements-2.ensures.answer

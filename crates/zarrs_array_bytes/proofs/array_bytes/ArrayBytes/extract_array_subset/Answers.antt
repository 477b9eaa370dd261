use Rattle.std.proofs.Common.{rules, ◌≡◌, Ok, sym, subst}
use Rattle.zarrs_chunk.specs.Answer.{AnswersBy, memory}
use Rattle.zarrs_chunk.specs.ChunkShape.{product}
use Rattle.zarrs_chunk.specs.Indexer.{selection_of}
use Rattle.zarrs_chunk.specs.Selection.{places_of}
use Rattle.zarrs_chunk.specs.Runs.{joined_runs}
use Rattle.zarrs_array_bytes.specs.Validity.{Holds}
use Rattle.zarrs_array_bytes.specs.Chunks.{chunk_at}
use Rattle.zarrs_array_bytes.proofs.AnswerLemmas.{checked_is, selected_answers}
use Rattle.zarrs_array_bytes.proofs.array_bytes.ArrayBytes.extract_array_subset.Goals as goal

pub returns : goal.returns
returns c =
    let type = c.args.data_type.now in
    let total = product c.args.shape.now in
    let places = joined_runs c.in_ok-runs.runs.items in
    let are : places_of (selection_of c.args.indexer.now) c.args.shape.now ≡ Ok places = (c.in_ok-runs.ensures {u = tt}).places.is in
    let count : total ≡ c.in_ok-count.count = checked_is total c.in_ok-count.count (sym (c.in_ok-count.ensures {u = tt}).answer) in
    let at : AnswersBy memory (Holds type) c.extract_runs.result (chunk_at type c.in_ok-count.count places c.args.self.now) =
    subst (λ rs. AnswersBy memory (Holds type) c.extract_runs.result (chunk_at type c.in_ok-count.count (joined_runs rs) c.args.self.now)) c.as_slice.ensures.value c.extract_runs.ensures.answer.is in
    record {
      exact = record {
        is = selected_answers type c.args.shape.now (selection_of c.args.indexer.now) c.args.self.now places c.extract_runs.result are
            (subst (λ n. AnswersBy memory (Holds type) c.extract_runs.result (chunk_at type n places c.args.self.now)) (sym count) at);
        no_fault = search rules;
      };
      flush = c.extract_runs.ensures.flush;
      tight = c.extract_runs.ensures.tight;
    }

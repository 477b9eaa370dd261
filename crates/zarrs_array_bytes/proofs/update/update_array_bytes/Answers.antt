use Rattle.std.proofs.Common.{rules, ◌≡◌, ◌+◌, ◌≤◌, List, ℕ, Ok, sym, subst}
use Rattle.std.specs.List.{All}
use Rattle.zarrs_chunk.specs.Answer.{AnswersBy, memory}
use Rattle.zarrs_chunk.specs.ChunkShape.{product}
use Rattle.zarrs_chunk.specs.Indexer.{selection_of}
use Rattle.zarrs_chunk.specs.Selection.{places_of}
use Rattle.zarrs_chunk.specs.Runs.{joined_runs}
use Rattle.zarrs_array_bytes.specs.Validity.{Holds}
use Rattle.zarrs_array_bytes.specs.Chunks.{update_at_places}
use Rattle.zarrs_array_bytes.proofs.AnswerLemmas.{checked_is, update_answers}
use Rattle.zarrs_array_bytes.proofs.update.update_array_bytes.Goals as goal

pub update_runs-requires : goal.update_runs-requires
update_runs-requires c =
    let total = product c.args.shape.now in
    let count : total ≡ c.in_ok-count.count = checked_is total c.in_ok-count.count (sym (c.in_ok-count.ensures {u = tt}).answer) in
    let below : All (λ run. run.0 + run.1 ≤ total) c.in_ok-runs.runs.items = (c.in_ok-runs.ensures {u = tt}).below in
    record {
      inside = subst (λ n. All (λ run. run.0 + run.1 ≤ n) c.as_slice.result.now) count
          (subst (λ (rs : List (ℕ × ℕ)). All (λ run. run.0 + run.1 ≤ total) rs) (sym c.as_slice.ensures.value) below);
    }

pub returns : goal.returns
returns c =
    let type = c.args.data_type.now in
    let total = product c.args.shape.now in
    let runs = c.in_ok-runs.runs.items in
    let old = c.args.array in
    let new = c.args.new.now in
    let places : places_of (selection_of c.args.indexer.now) c.args.shape.now ≡ Ok (joined_runs runs) = (c.in_ok-runs.ensures {u = tt}).places.is in
    let count : total ≡ c.in_ok-count.count = checked_is total c.in_ok-count.count (sym (c.in_ok-count.ensures {u = tt}).answer) in
    let listed : AnswersBy memory (Holds type) c.update_runs.result (update_at_places type c.in_ok-count.count (joined_runs runs) old new) =
    subst (λ rs. AnswersBy memory (Holds type) c.update_runs.result (update_at_places type c.in_ok-count.count (joined_runs rs) old new)) c.as_slice.ensures.value c.update_runs.ensures.answer.is in
    let gives : AnswersBy memory (Holds type) c.update_runs.result (update_at_places type total (joined_runs runs) old new) =
    subst (λ n. AnswersBy memory (Holds type) c.update_runs.result (update_at_places type n (joined_runs runs) old new)) (sym count) listed in
    record { exact = record { is = update_answers type c.args.shape.now (selection_of c.args.indexer.now) old new (joined_runs runs) c.update_runs.result places gives; no_fault = search rules }; flush = c.update_runs.ensures.flush; tight = c.update_runs.ensures.tight }

use Rattle.std.proofs.Common.{◌≡◌, ℕ, List, Ok, Result, take, arith, ap, sym, ◌∙◌}
use Rattle.std.proofs.lemmas.List.{take_all}
use Rattle.zarrs_chunk.specs.Runs.{joined_runs}
use Rattle.zarrs_chunk.specs.declared.codec_error.CodecError.{CodecError}
use Rattle.zarrs_shard_runs.proofs.TuplesOfPlaces.{tuples_select}
use Rattle.zarrs_shard_runs.proofs.run_selection.listed_places.Goals as goal

pub returns : goal.returns
returns c =
    let all : take c.loop-start.start-index c.args.runs.now ≡ c.args.runs.now = take_all c.loop-start.start-index c.args.runs.now (omega arith) in
    let is = tuples_select c.args.shape.now c.loop-start.tuples.items (joined_runs (take c.loop-start.start-index c.args.runs.now)) c.requires.counted c.loop-start.invariant in
    record { selects = ap (λ (x : Result (List ℕ) CodecError). Ok x) (sym (is ∙ ap (λ (runs : List (ℕ × ℕ)). Ok (joined_runs runs)) all)) }

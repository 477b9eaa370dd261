use Rattle.std.proofs.Common.{ℕ, List, Ok, Result, ap, sym, ◌∙◌}
use Rattle.zarrs_chunk.specs.Runs.{joined_runs}
use Rattle.zarrs_chunk.specs.declared.codec_error.CodecError.{CodecError}
use Rattle.zarrs_shard_runs.proofs.TuplesOfPlaces.{same_runs}
use Rattle.zarrs_shard_runs.proofs.run_selection.runs_indexer.Goals as goal

pub returns-then-eq : goal.returns-then-eq
returns-then-eq c =
    let own = c.in_ok-own.own.items in
    let same = same_runs c.as_slice.result.now c.args.runs.now (sym c.if-eq.ensures) in
    let places = ap (λ (runs : List (ℕ × ℕ)). joined_runs runs) (sym same ∙ c.as_slice.ensures.value) in
    record { selects = ap (λ (x : Result (List ℕ) CodecError). Ok x) (ap (λ (ps : List ℕ). Ok ps) places ∙ sym c.in_ok-own.ensures.places.is) }

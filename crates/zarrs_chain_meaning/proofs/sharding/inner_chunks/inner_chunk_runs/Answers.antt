use Rattle.std.proofs.Common.{◌≡◌, ℕ, List, true, ap, ap₂, sym, subst, ◌∙◌}
use Rattle.std.specs.Prelude.{Result, option_map}
use Rattle.zarrs_chunk.specs.Answer.{Gives}
use Rattle.zarrs_chunk.specs.Indices.{tuple_of_number}
use Rattle.zarrs_chunk.specs.Region.{Region}
use Rattle.zarrs_chunk.specs.Runs.{places_in}
use Rattle.zarrs_chunk.specs.Selection.{subset, places_of}
use Rattle.zarrs_chunk.specs.Tuples.{is_tuple_inside}
use Rattle.zarrs_chunk.specs.declared.codec_error.CodecError.{CodecError}
use Rattle.zarrs_chain_meaning.specs.sharding.InnerChunks.{grid}
use Rattle.zarrs_chain_meaning.specs.sharding.ShardSteps.{inner_region}
use Rattle.zarrs_chain_meaning.proofs.ArraySteps.{ok_is}
use Rattle.zarrs_chain_meaning.proofs.ShardGrid.{tuple_found, places_found}
use Rattle.zarrs_chain_meaning.proofs.sharding.inner_chunks.inner_chunk_runs.Goals as goal

pub returns-clause-places : goal.returns-clause-places
returns-clause-places c =
    let inner = c.args.inner.now in
    let shape = c.args.shape.now in
    let counts = c.args.grid.now in
    let number = c.args.number in
    let found = tuple_found counts number (option_map (λ t. t.items) c.in_ok-numbers.field-0) c.in-Some.numbers.items (c.in_ok-numbers.ensures {u = tt}).answer (ap (option_map (λ t. t.items)) c.in-Some.is) in
    let inside : is_tuple_inside (grid inner shape) (tuple_of_number (grid inner shape) number) ≡ true =
    ap (λ (g : List ℕ). is_tuple_inside g (tuple_of_number g number)) (sym c.requires.grid) ∙ ap (is_tuple_inside counts) (sym found.1) ∙ found.0 in
    let region : c.in_ok-subset.subset ≡ inner_region inner (tuple_of_number (grid inner shape) number) =
    sym (ok_is (inner_region c.as_slice.result.now c.as_slice-2.result.now) c.in_ok-subset.subset (c.in_ok-subset.ensures {u = tt}).answer)
    ∙ ap₂ (λ parts tuple. inner_region parts tuple) c.as_slice.ensures.value (c.as_slice-2.ensures.value ∙ found.1 ∙ ap (λ (g : List ℕ). tuple_of_number g number) c.requires.grid) in
    subst (λ (expected : Result (List ℕ) CodecError). Gives places_in c.runs.result expected)
    (ap (λ (r : Region). places_of (subset r) shape) region ∙ places_found inner shape number c.requires.divided inside c.requires.fits) c.runs.ensures.places

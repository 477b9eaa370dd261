use Rattle.std.proofs.Common.{◌≡◌, ◌<◌, ℕ, List, subst, ◌∙◌}
use Rattle.std.specs.List.{All}
use Rattle.std.specs.Prelude.{Result}
use Rattle.zarrs_chunk.specs.Answer.{Gives}
use Rattle.zarrs_chunk.specs.Runs.{places_in}
use Rattle.zarrs_chunk.specs.declared.codec_error.CodecError.{CodecError}
use Rattle.zarrs_shard_bytes.proofs.InnerPlaces.{first_given, first_places, region_is, some_chunks}
use Rattle.zarrs_shard_bytes.proofs.inner_places.first_runs.Goals as goal

pub returns : goal.returns
returns c =
    let inner = c.args.inner.now in
    let shape = c.args.shape.now in
    let lengths : c.in_ok-lengths.lengths.items ≡ inner = (c.in_ok-lengths.ensures {u = tt}).items ∙ c.as_slice.ensures.value in
    let region = region_is inner c.in_ok-lengths.lengths.items c.in_ok-subset.subset lengths (c.in_ok-subset.ensures {u = tt}).made in
    let positive : All (λ part. 0 < part) inner = subst (All (λ part. 0 < part)) c.as_slice.ensures.value c.as_slice.ensures.positive in
    let sizes_positive : All (λ size. 0 < size) shape = subst (All (λ size. 0 < size)) c.as_slice-2.ensures.value c.as_slice-2.ensures.positive in
    let places = first_places inner shape c.in_ok-subset.subset c.requires.divided (some_chunks inner shape positive sizes_positive c.requires.divided) c.requires.fits region in
    record { answer = first_given inner shape c.runs.result (subst (λ (expected : Result (List ℕ) CodecError). Gives places_in c.runs.result expected) places c.runs.ensures.places) c.runs.ensures.filled }

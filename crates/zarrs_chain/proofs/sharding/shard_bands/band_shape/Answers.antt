use Rattle.std.proofs.Common.{◌≡◌, ◌++◌, ℕ, List, length, ap, sym, ◌∙◌}
use Rattle.zarrs_chunk.specs.ChunkShape.{shape_of}
use Rattle.zarrs_array_to_array.proofs.Transposition.{shape_of-positive}
use Rattle.zarrs_chain_meaning.proofs.ShardGrid.{not_none}
use Rattle.zarrs_shard_bytes.specs.Bands.{band_of}
use Rattle.zarrs_shard_bytes.proofs.Bands.{band_positive}
use Rattle.zarrs_shard_bytes.proofs.Sizes.{same_long}
use Rattle.zarrs_chain.proofs.sharding.shard_bands.band_shape.Goals as goal

pub append_band_shape-requires : goal.append_band_shape-requires
append_band_shape-requires c = record {
  axes = ap (λ (xs : List ℕ). length xs) c.as_slice-parts.ensures.value ∙ same_long c.args.inner.now c.args.shape.now c.requires.divided ∙ sym (ap (λ (xs : List ℕ). length xs) c.as_slice-sizes.ensures.value);
}

pub unreachable-requires : goal.unreachable-requires
unreachable-requires c =
    let parts : List ℕ = c.as_slice-parts.result.now in
    let sizes : List ℕ = c.as_slice-sizes.result.now in
    let made : c.append_band_shape.new.out.items ≡ band_of parts sizes = c.in_ok-append_band_shape.ensures.appended ∙ ap (λ (xs : List ℕ). xs ++ band_of parts sizes) c.in_ok-band.ensures.items in
    not_none (band_of parts sizes) (sym c.in-None.is ∙ c.new.ensures.answer ∙ ap shape_of made ∙ shape_of-positive (band_of parts sizes) (band_positive parts sizes c.as_slice-parts.ensures.positive c.as_slice-sizes.ensures.positive))

use Rattle.std.proofs.Common.{◌≡◌, ◌*◌, ℕ, List, arith, length, ap, ap₂, sym, ◌∙◌}
use Rattle.zarrs_chunk.specs.ChunkShape.{product}
use Rattle.zarrs_chain_meaning.proofs.ShardSizes.{cut_count}
use Rattle.zarrs_shard_bytes.proofs.Sizes.{same_long}
use Rattle.zarrs_shard_bytes.proofs.joined_bands.append_band.Goals as goal

pub append_part-requires-clause-axes : goal.append_part-requires-clause-axes
append_part-requires-clause-axes c =
    ap (λ (xs : List ℕ). length xs) c.as_slice.ensures.value ∙ same_long c.args.inner.now c.args.band.now c.requires.divided ∙ sym (ap (λ (xs : List ℕ). length xs) c.as_slice-2.ensures.value)

pub append_part-requires-clause-counted : goal.append_part-requires-clause-counted
append_part-requires-clause-counted c =
    let all : length c.args.contents.now * c.args.whole ≡ product c.args.band.now = ap₂ (λ a b. a * b) c.requires.all c.requires.inner_long ∙ cut_count c.args.inner.now c.args.band.now c.requires.divided in
    omega (arith, all, c.requires.counted)

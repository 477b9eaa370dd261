use Rattle.std.proofs.Common.{◌≡◌, ◌++◌, ℕ, List, ap, sym, ◌∙◌}
use Rattle.zarrs_chunk.specs.ChunkShape.{shape_of}
use Rattle.zarrs_array_to_array.proofs.Transposition.{shape_of-positive}
use Rattle.zarrs_chain_meaning.proofs.ShardGrid.{not_none}
use Rattle.zarrs_chain.proofs.sharding.sharding_codec.copied.Goals as goal

pub unreachable-requires : goal.unreachable-requires
unreachable-requires c =
    let sizes = c.as_slice-sizes.result.now in
    let items : c.extend_from_slice.new.self.items ≡ sizes = (c.in_ok-extend_from_slice.ensures {u = tt}).items ∙ ap (λ (xs : List ℕ). xs ++ sizes) (c.in_ok-copies.ensures {u = tt}).items in
    not_none sizes (sym c.in-None.is ∙ c.new.ensures.answer ∙ ap shape_of items ∙ shape_of-positive sizes c.as_slice-sizes.ensures.positive)

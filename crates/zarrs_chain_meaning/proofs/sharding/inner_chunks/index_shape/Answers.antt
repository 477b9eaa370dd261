use Rattle.std.proofs.Common.{◌≡◌, ◌++◌, ℕ, List, [], ◌∷◌, arith, ap, sym, ◌∙◌}
use Rattle.std.proofs.lemmas.List.Elements.{All-nil, All-cons, All-append}
use Rattle.zarrs_chunk.specs.ChunkShape.{shape_of}
use Rattle.zarrs_array_to_array.proofs.Transposition.{shape_of-positive}
use Rattle.zarrs_chain_meaning.proofs.NestedStages.{is_positive}
use Rattle.zarrs_chain_meaning.proofs.ShardGrid.{not_none}
use Rattle.zarrs_chain_meaning.proofs.sharding.inner_chunks.index_shape.Goals as goal

pub unreachable-requires : goal.unreachable-requires
unreachable-requires c =
    let counts = c.as_slice-counts.result.now in
    let first : c.extend_from_slice.new.self.items ≡ counts = (c.in_ok-extend_from_slice.ensures {u = tt}).items ∙ ap (λ (xs : List ℕ). xs ++ counts) (c.in_ok-sizes.ensures {u = tt}).items in
    let items : c.push.new.self.items ≡ counts ++ 2 ∷ [] = (c.in_ok-push.ensures {u = tt}).items ∙ ap (λ (xs : List ℕ). xs ++ 2 ∷ []) first in
    let positive = All-append is_positive counts (2 ∷ []) c.as_slice-counts.ensures.positive (All-cons is_positive 2 [] (omega arith) (All-nil is_positive)) in
    not_none (counts ++ 2 ∷ []) (sym c.in-None.is ∙ c.new.ensures.answer ∙ ap shape_of items ∙ shape_of-positive (counts ++ 2 ∷ []) positive)

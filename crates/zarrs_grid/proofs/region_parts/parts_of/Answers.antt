use Rattle.std.proofs.Common.{◌≡◌, ◌<◌, ℕ, List, map, arith, refl, ap, sym, subst, ◌∙◌}
use Rattle.std.specs.List.{All, Contains, range_with_len}
use Rattle.zarrs_chunk.specs.ChunkShape.{product}
use Rattle.zarrs_chunk.specs.Indices.{box_tuple}
use Rattle.zarrs_chunk.specs.Tuples.{box_tuples}
use Rattle.zarrs_grid.proofs.NumberedChunks.{listed_at, chunk_in, IsOwnPart, chunks_more, each_more, all_parts}
use Rattle.zarrs_grid.proofs.region_parts.parts_of.Goals as goal

pub known_part-requires-clause-known : goal.known_part-requires-clause-known
known_part-requires-clause-known c =
    let first = c.args.first.now in
    let counts = c.args.counts.now in
    let chunk = c.in_ok-chunk.chunk.items in
    let is = c.requires.grid in
    let below : c.loop-number.number < product counts = omega arith in
    subst (λ (ts : List (List ℕ)). Contains ts chunk) (λ i. box_tuples (is i).starts (is i).lengths)
    (listed_at first counts chunk c.loop-number.number c.requires.lengths below (c.in_ok-chunk.ensures {u = tt}).value.is)

pub loop-number-preserved : goal.loop-number-preserved
loop-number-preserved c =
    let shape = c.args.shape.now in
    let region = c.args.region.now in
    let parts = c.loop-number.parts.items in
    let pushed = (c.in_ok-push.ensures {u = tt}).items in
    let is = (c.in_ok-part.ensures {u = tt}).value in
    record {
      chunks = ap (map chunk_in) pushed ∙ chunks_more c.args.first.now c.args.counts.now parts c.in_ok-part.part c.loop-number.number
          c.loop-number.invariant.chunks (is.chunk ∙ (c.in_ok-chunk.ensures {u = tt}).value.is);
      each = subst (All (IsOwnPart shape region)) (sym pushed) (each_more shape region parts c.in_ok-part.part c.in_ok-chunk.chunk.items c.loop-number.invariant.each is);
    }

pub returns : goal.returns
returns c =
    let first = c.args.first.now in
    let counts = c.args.counts.now in
    let last : c.loop-number.number ≡ c.args.count = omega arith in
    record {
      answer = record {
        is =
            all_parts c.args.shape.now c.args.region.now first counts c.loop-number.parts.items c.args.count c.requires.grid c.requires.lengths c.requires.count
            (c.loop-number.invariant.chunks ∙ ap (λ k. map (box_tuple first counts) (range_with_len 0 k)) last) c.loop-number.invariant.each;
        no_fault = refl;
      };
    }

use Rattle.std.proofs.Common.{rules, ◌≡◌, ◌<◌, [], Ok, Err, length, refl, ap, sym, ◌∙◌}
use Rattle.std.specs.List.{All, flat_map}
use Rattle.std.proofs.lemmas.Result.{err_from_is_err_and}
use Rattle.zarrs_chunk.specs.ChunkShape.{product}
use Rattle.zarrs_array_bytes.specs.Elements.{piece}
use Rattle.zarrs_array_bytes.specs.Held.{owned_bytes}
use Rattle.zarrs_codec.specs.CoordinateMap.{CoordinateMap, IsCoordinateMap, origins}
use Rattle.zarrs_metadata.proofs.Orders.{order_parts}
use Rattle.zarrs_array_to_array.specs.Transpose.{transposition}
use Rattle.zarrs_array_to_array.proofs.CoordinateMaps.{length-origins}
use Rattle.zarrs_array_to_array.proofs.FixedChunks.{origins_below, fixed_holds}
use Rattle.zarrs_array_to_array.proofs.Transposition.{transposition_map}
use Rattle.zarrs_array_to_array.proofs.transpose.moved_into.put_elements.Goals as goal

pub returns : goal.returns
returns c =
    let type = c.args.data_type.now in
    let order = c.args.order.now in
    let sizes = c.args.sizes.now in
    let items = c.in_ok-elements.elements.now in
    let size = c.args.size in
    let m : CoordinateMap = transposition order sizes in
    let map : IsCoordinateMap sizes m = transposition_map order sizes (order_parts order c.requires.order) c.requires.axes in
    let holds = fixed_holds type (product sizes) c.args.bytes.now (origins m) size items c.requires.valid c.requires.sized c.in_ok-elements.ensures.answer (length-origins m ∙ map.count) (origins_below sizes m map) in
    record {
      written = record {
        raw = owned_bytes (flat_map (piece size items) (origins m));
        there = c.in_ok-put_transposed.ensures.written;
        answered = record { is = holds; no_fault = search rules };
      };
    }

pub returns-in_err-put_transposed : goal.returns-in_err-put_transposed
returns-in_err-put_transposed c =
    let p = err_from_is_err_and c.from_residual-in_err-put_transposed.result c.from_residual-in_err-put_transposed.ensures.1 in
    record {
      written = record {
        raw = owned_bytes [];
        there = rw p.1 (tt, c.in_err-put_transposed.ensures.written.1);
        answered = rw (p.1, p.2) (record { is = λ h. absurd (cc); no_fault = search rules });
      };
    }

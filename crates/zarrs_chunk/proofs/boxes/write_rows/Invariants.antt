use Rattle.std.proofs.Common.{◌≡◌, ◌+◌, ◌*◌, take}
use Rattle.std.specs.List.{flat_map, range_with_len}
use Rattle.zarrs_chunk.proofs.boxes.write_rows.Given as goal

abbrev pub invariant-loop-front : goal.invariant-loop-front
invariant-loop-front l =
    l.rows.items ≡ flat_map (λ front. range_with_len (front * l.size + l.start) l.len) (take l.front-index l.fronts)

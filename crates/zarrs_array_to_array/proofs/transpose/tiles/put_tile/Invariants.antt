use Rattle.std.proofs.Common.{◌≡◌, take}
use Rattle.zarrs_array_to_array.specs.Tiles.{with_vectors}
use Rattle.zarrs_array_to_array.proofs.transpose.tiles.put_tile.Given as goal

abbrev pub invariant-loop-index : goal.invariant-loop-index
invariant-loop-index g l = l.items ≡ with_vectors l.len l.at (take l.index l.rows) l.initial.items

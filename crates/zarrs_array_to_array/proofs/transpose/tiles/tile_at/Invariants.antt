use Rattle.std.proofs.Common.{◌≡◌, map, take, length}
use Rattle.zarrs_array_to_array.specs.Axes.{stretch}
use Rattle.zarrs_array_to_array.specs.Strides.{row}
use Rattle.zarrs_array_to_array.proofs.transpose.tiles.tile_at.Given as goal

abbrev pub invariant-loop-index : goal.invariant-loop-index
invariant-loop-index g l = record {
  count : length l.rows ≡ g.row.N;
  read : take l.index l.rows ≡ map (stretch 16 l.size l.bytes) (row l.front l.step l.index);
}

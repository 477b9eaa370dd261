use Rattle.std.proofs.Common.{arith, refl, ap, ◌∙◌}
use Rattle.zarrs_array_to_array.specs.Tiles.{with_vectors}
use Rattle.zarrs_array_to_array.proofs.TileRows.{tile_turned, turned_is_whole}
use Rattle.zarrs_array_to_array.proofs.transpose.tiles.turn_eights.Goals as goal

pub put_tile-requires : goal.put_tile-requires
put_tile-requires c = (
  omega arith,
  (
    turned_is_whole 8 2 c.args.bytes.now c.args.front c.args.step c.turned_eights.result refl c.requires.inside
        (tile_turned 8 2 c.args.bytes.now c.args.front c.args.step c.tile_at-rows.result c.turned_eights.result refl c.tile_at-rows.ensures.value c.turned_eights.ensures.value),
    (c.requires.wide, c.requires.room),
  ),
)

pub returns : goal.returns
returns c = record {
  written =
      c.put_tile.ensures.written
      ∙ ap (λ vectors. with_vectors c.args.len c.args.at vectors c.args.items.now)
      (tile_turned 8 2 c.args.bytes.now c.args.front c.args.step c.tile_at-rows.result c.turned_eights.result refl c.tile_at-rows.ensures.value c.turned_eights.ensures.value);
}

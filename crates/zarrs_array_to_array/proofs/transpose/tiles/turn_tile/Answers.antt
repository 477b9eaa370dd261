use Rattle.std.proofs.Common.{◌≡◌, ◌/◌, arith, sym, ap, ◌∙◌}
use Rattle.zarrs_array_to_array.specs.Tiles.{turned_rows, with_vectors}
use Rattle.zarrs_array_to_array.proofs.transpose.tiles.turn_tile.Goals as goal

pub returns-in-1 : goal.returns-in-1
returns-in-1 c = record { written = c.turn_ones.ensures.written ∙ ap (λ n. with_vectors c.args.len c.args.at (turned_rows n c.args.front c.args.step (16 / n) c.args.bytes.now) c.args.items.now) (sym c.in-1.is) }

pub returns-in-2 : goal.returns-in-2
returns-in-2 c = record { written = c.turn_twos.ensures.written ∙ ap (λ n. with_vectors c.args.len c.args.at (turned_rows n c.args.front c.args.step (16 / n) c.args.bytes.now) c.args.items.now) (sym c.in-2.is) }

pub returns-in-4 : goal.returns-in-4
returns-in-4 c = record { written = c.turn_fours.ensures.written ∙ ap (λ n. with_vectors c.args.len c.args.at (turned_rows n c.args.front c.args.step (16 / n) c.args.bytes.now) c.args.items.now) (sym c.in-4.is) }

pub returns-in_default : goal.returns-in_default
returns-in_default c =
    let last : c.args.size ≡ 8 = grind arith in
    record { written = c.turn_eights.ensures.written ∙ ap (λ n. with_vectors c.args.len c.args.at (turned_rows n c.args.front c.args.step (16 / n) c.args.bytes.now) c.args.items.now) (sym last) }

use Rattle.std.proofs.Common.{◌∙◌}
use Rattle.zarrs_grid.proofs.KnownBoxes.{box_made}
use Rattle.zarrs_grid.proofs.known_box.known_box.Goals as goal

pub unreachable-requires : goal.unreachable-requires
unreachable-requires c =
    let made = c.new_with_start_shape.ensures.answer ∙ box_made c.args.starts.items c.args.lengths.items c.requires.ends in
    cc (made, c.in-Err.is)

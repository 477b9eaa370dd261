use Rattle.zarrs_metadata.proofs.Orders.{order_parts}
use Rattle.zarrs_array_to_array.specs.Transpose.{transposition}
use Rattle.zarrs_array_to_array.specs.TransposeMeaning.{transpose_box}
use Rattle.zarrs_array_to_array.proofs.LawfulSqueeze.{squeezed_places}
use Rattle.zarrs_array_to_array.proofs.TransposedBoxes.{transposed_box_kept}
use Rattle.zarrs_array_to_array.proofs.Transposition.{transposition_map}
use Rattle.zarrs_array_regions.proofs.KeptWindows.{box_window, codec_keeps}
use Rattle.zarrs_array_regions.proofs.WindowMaps.{windows_select, windows_update, here_is}
use Rattle.zarrs_array_regions.proofs.laws.codecs_keep_regions.Goals as goal

pub returns-clause-read : goal.returns-clause-read
returns-clause-read c = λ order sizes region chunk h axes inside.
    let o = order_parts order h in
    windows_select sizes (transposition order sizes) _ _ (transposition order region.lengths) chunk (transposition_map order sizes o axes) (here_is sizes region inside) (box_window sizes (transposition order sizes) region (transpose_box order sizes region) (transposition order region.lengths) (transposed_box_kept order sizes region o axes inside))

pub returns-clause-written : goal.returns-clause-written
returns-clause-written c = λ order sizes region chunk new h axes inside e n.
    let o = order_parts order h in
    windows_update sizes (transposition order sizes) _ _ (transposition order region.lengths) chunk new (transposition_map order sizes o axes) (here_is sizes region inside) (box_window sizes (transposition order sizes) region (transpose_box order sizes region) (transposition order region.lengths) (transposed_box_kept order sizes region o axes inside)) e n

pub returns-clause-squeezed : goal.returns-clause-squeezed
returns-clause-squeezed c = squeezed_places

pub returns-clause-kept : goal.returns-clause-kept
returns-clause-kept c = codec_keeps
